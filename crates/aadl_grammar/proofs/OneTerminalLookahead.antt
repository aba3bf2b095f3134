-- At most one row of a symbol fits a terminal, so one terminal determines how a symbol begins: the law
-- `one_terminal_decides`.
use Rattle.std.proofs.Common.{◌≡◌, true, not, ◌==◌, sym, ap, List, [], ◌∷◌, eq-eqb}
use Rattle.std.proofs.lemmas.Bool.{or_left, or_right}
use Rattle.std.specs.Cmp.{first_so, second_so}
use Rattle.aadl_grammar.specs.proof.GrammarSymbols.{Class, Symbol, Row}
use Rattle.aadl_grammar.specs.proof.ParseTable.{rows, Differ, Decides}
use Rattle.aadl_grammar.specs.proof.StackMachine.{class_number}
use Rattle.aadl_grammar.proofs.KeywordListMembership.{not_both}
use Rattle.aadl_grammar.proofs.DerivationTrees.ForbiddenFollowers.{among, firsts, distinct, distinct_firsts}

differ : (c : Class) (rs : List Row) → (among (class_number c) (firsts rs) ≡ true → ⊥) → Differ c rs
differ c [] never = tt
differ c (r ∷ rs) never = (
  (λ e. never (or_left _ _ (eq-eqb _ _ (sym (ap class_number e))))),
  differ c rs (λ e. never (or_right (class_number c == class_number r.first) _ e)),
)

decides : (rs : List Row) → distinct (firsts rs) ≡ true → Decides rs
decides [] e = tt
decides (r ∷ rs) e = (
  differ r.first rs (λ a. not_both (among (class_number r.first) (firsts rs)) (first_so _ _ e) a),
  decides rs (second_so (not (among (class_number r.first) (firsts rs))) _ e),
)

pub rows_decide : (x : Symbol) → Decides (rows x)
rows_decide x = decides (rows x) (distinct_firsts x)
