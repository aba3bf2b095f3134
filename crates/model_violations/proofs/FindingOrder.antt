-- For `in_order`: the order of violations by position, then by rule, which the sort uses.
use Rattle.std.specs.Cmp.{IsStrictWeakOrder}
use Rattle.list_lemmas.proofs.Numbers.{pair_lt-asymmetric, pair_ge-transitive}
use Rattle.model_violations.specs.Violations.{goes_before}

pub goes_before_orders : IsStrictWeakOrder goes_before
goes_before_orders = record {
  one_way = λ x y h. pair_lt-asymmetric x.at y.at x.number y.number h;
  chain = λ x y z h k. pair_ge-transitive x.at y.at z.at x.number y.number z.number h k;
}
