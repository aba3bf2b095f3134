-- A route through the parse table, from an initially expected symbol to a symbol that begins with a keyword, proves
-- that the keyword can occur.
use Rattle.std.proofs.Common.{◌≡◌, ◌≢◌, ℕ, Bool, true, false, not, ◌&&◌, ◌==◌, List, [], ◌∷◌, length, get_or, ap}
use Rattle.std.proofs.Common.{eq-eqb}
use Rattle.std.specs.Prelude.{nat_lt}
use Rattle.std.proofs.lemmas.Bool.{eqb-true, ltb-true}
use Rattle.std.proofs.lemmas.List.Elements.{Contains-get_or}
use Rattle.std.specs.Cmp.{first_so, second_so}
use Rattle.aadl_tree.specs.declared.mark.Mark.{Mark}
use Rattle.aadl_tree.specs.declared.mark.Mark.TheVariants as k
use Rattle.aadl_tree.specs.proof.MarkNumbers.{mark_number}
use Rattle.aadl_tree.proofs.MarkNumbers.{same_number}
use Rattle.aadl_grammar.proofs.KeywordListMembership.{not_both}
use Rattle.aadl_grammar.specs.proof.StackMachine.{class_number}
use Rattle.aadl_grammar.specs.proof.GrammarSymbols.{Class, a_word, a_whole, a_real, a_quoted, an_unread, the, Symbol}
use Rattle.aadl_grammar.specs.proof.GrammarSymbols.{Row}
use Rattle.aadl_grammar.specs.proof.GrammarSymbols as s
use Rattle.aadl_grammar.specs.proof.ParseTable.{rows}
use Rattle.aadl_grammar.specs.proof.ReachableKeywords.{Stands, at_first, later, CanCome}

abbrev pub is_the : Mark → Class → Bool
is_the m (the x) = mark_number x == mark_number m
is_the m _ = false

pub the_mark : (m : Mark) (c : Class) → is_the m c ≡ true → c ≡ the m
the_mark m a_word e = cc
the_mark m a_whole e = cc
the_mark m a_real e = cc
the_mark m a_quoted e = cc
the_mark m an_unread e = cc
the_mark m (the x) e = ap the (same_number x m (eqb-true _ _ e))

-- by a row, and then by one of the symbols that it pushes
pub record Turn : Type 0 where
  pub by : ℕ
  pub to : ℕ

abbrev pub row_of : Symbol → ℕ → Row
row_of x i = get_or (rows x) i (record { first = a_word; wanted = [] })

abbrev pub next : Symbol → Turn → Symbol
next x t = get_or (row_of x t.by).wanted t.to x

abbrev pub may_go : Symbol → Turn → Bool
may_go x t =
    nat_lt t.by (length (rows x))
    && (nat_lt t.to (length (row_of x t.by).wanted) && not (is_the k.AnnexOpen (row_of x t.by).first))

abbrev pub end_of : Symbol → List Turn → Symbol
end_of x [] = x
end_of x (t ∷ ts) = end_of (next x t) ts

abbrev pub is_way : Symbol → List Turn → Bool
is_way x [] = true
is_way x (t ∷ ts) = may_go x t && is_way (next x t) ts

-- from an initial symbol, by its index, through turns, to a row, by its index
pub record Way : Type 0 where
  pub first : ℕ
  pub turns : List Turn
  pub row : ℕ

abbrev pub start : List Symbol → Way → Symbol
start first w = get_or first w.first s.a_package

abbrev pub leads_to : List Symbol → Mark → Way → Bool
leads_to first m w =
    nat_lt w.first (length first)
    && (is_way (start first w) w.turns
    && (nat_lt w.row (length (rows (end_of (start first w) w.turns)))
    && is_the m (row_of (end_of (start first w) w.turns) w.row).first))

other_class : (m : Mark) (c : Class) → not (is_the m c) ≡ true → c ≢ the m
other_class m a_word e f = cc
other_class m a_whole e f = cc
other_class m a_real e f = cc
other_class m a_quoted e f = cc
other_class m an_unread e f = cc
other_class m (the x) e f = not_both _ e (eq-eqb _ _ (ap class_number f))

goes : (first : List Symbol) (x : Symbol) (t : Turn) → may_go x t ≡ true → Stands first x → Stands first (next x t)
goes first x t e stands =
    let by = first_so (nat_lt t.by (length (rows x))) _ e in
    let rest = second_so (nat_lt t.by (length (rows x))) _ e in
    later x (next x t) (row_of x t.by) stands (Contains-get_or (rows x) t.by _ (ltb-true _ _ by))
    (other_class k.AnnexOpen _ (second_so (nat_lt t.to (length (row_of x t.by).wanted)) _ rest))
    (Contains-get_or (row_of x t.by).wanted t.to x
    (ltb-true _ _ (first_so (nat_lt t.to (length (row_of x t.by).wanted)) _ rest)))

arrives : (first : List Symbol) (x : Symbol) (ts : List Turn) → is_way x ts ≡ true → Stands first x
    → Stands first (end_of x ts)
arrives first x [] e stands = stands
arrives first x (t ∷ ts) e stands =
    arrives first (next x t) ts (second_so (may_go x t) _ e) (goes first x t (first_so (may_go x t) _ e) stands)

pub comes : (first : List Symbol) (m : Mark) (w : Way) → leads_to first m w ≡ true → CanCome first m
comes first m w e =
    let within = first_so (nat_lt w.first (length first)) _ e in
    let rest = second_so (nat_lt w.first (length first)) _ e in
    let way = first_so (is_way (start first w) w.turns) _ rest in
    let last = second_so (is_way (start first w) w.turns) _ rest in
    let end = end_of (start first w) w.turns in
    record {
      symbol = end;
      row = row_of end w.row;
      stands =
          arrives first (start first w) w.turns way
          (at_first (start first w) (Contains-get_or first w.first _ (ltb-true _ _ within)));
      among = Contains-get_or (rows end) w.row _ (ltb-true _ _ (first_so (nat_lt w.row (length (rows end))) _ last));
      begins = the_mark m _ (second_so (nat_lt w.row (length (rows end))) _ last);
    }
