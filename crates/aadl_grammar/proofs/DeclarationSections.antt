-- What the machine does at a section, and the parts of a section. For the function that reads sections.
use Rattle.std.proofs.Common.{◌≡◌, ℕ, ◌+◌, ◌<◌, ◌≤◌, true, false, ◌∙◌, sym, ap, subst, refl, List, [], ◌∷◌, ◌++◌}
use Rattle.std.proofs.Common.{length, inl, inr, arith}
use Rattle.std.specs.Prelude.{Option, None}
use Rattle.aadl_tree.specs.declared.mark.Mark.{Mark}
use Rattle.aadl_tree.specs.declared.mark.Mark.TheVariants as k
use Rattle.aadl_tree.specs.Terminals.{mark, PlacedTerminal}
use Rattle.aadl_tree.specs.SpellingParts.{SpellingPart, Section, section_mark}
use Rattle.aadl_tree.specs.Declarations.{section_parts}
use Rattle.aadl_tree.specs.declared.nesting_limit.TheConstants.{GREATEST_NESTING}
use Rattle.aadl_grammar.specs.proof.GrammarSymbols.{the, Symbol, Row}
use Rattle.aadl_grammar.specs.proof.GrammarSymbols as s
use Rattle.aadl_grammar.specs.proof.ParseTable.{on, behind, rows, section_rows, can_omit}
use Rattle.aadl_grammar.specs.proof.StackMachine.{Stack, closes, depth, fate}
use Rattle.aadl_grammar.specs.proof.ParserAnswers.{spot, AtMark, Misses, MissAll, Reads}
use Rattle.aadl_grammar.specs.proof.ListAnswers.{Allows, IsList, IsSection}
use Rattle.aadl_grammar.proofs.TopSymbolMoves.{takes_row, omits_unless, begins_past}
use Rattle.aadl_grammar.proofs.PartSequences.{then, marked, respelled}
use Rattle.aadl_grammar.proofs.ListLoop.{allows_few}
use Rattle.aadl_grammar.proofs.ListSymbols.{marked_moves}

pub section_left_out : {keyword : Mark} {item list symbol : Symbol} → IsSection keyword item list symbol
    → (outer end : ℕ) (below : Stack) (ss : List PlacedTerminal) → Misses (the keyword) ss
    → fate outer end (symbol ∷ below) ss ≡ fate outer end below ss
section_left_out {symbol = symbol} is outer end below ss n =
    omits_unless outer end symbol below ss is.may_omit
    (subst (λ (rs : List Row). MissAll rs ss) (sym is.own_rows) (n, tt))

opens : {keyword : Mark} {item list symbol : Symbol} (is : IsSection keyword item list symbol) (o : Option ℕ)
    (outer end : ℕ) (below : Stack) {ss mid : List PlacedTerminal} → AtMark keyword ss mid
    → Allows o (outer + depth (symbol ∷ below))
    → fate outer end (symbol ∷ below) ss ≡ fate outer end (is.opened ∷ below) mid
unfolding depth
opens {keyword} {symbol = symbol} is o outer end below l h =
    takes_row outer end symbol below l (marked_moves keyword (is.opened ∷ []) [] symbol is.own_rows)
    (let few = allows_few o (outer + depth (symbol ∷ below)) h in omega (arith, few, is.no_closers))

pub section_empty : {keyword : Mark} {item list symbol : Symbol} (is : IsSection keyword item list symbol)
    (o : Option ℕ) (outer end : ℕ) (below : Stack) {ss mid rest : List PlacedTerminal} → AtMark keyword ss mid
    → AtMark k.Nothing mid rest → Allows o (outer + depth (symbol ∷ below))
    → fate outer end (symbol ∷ below) ss ≡ fate outer end (s.only k.Semicolon ∷ below) rest
unfolding depth
section_empty {symbol = symbol} is o outer end below l n h =
    opens is o outer end below l h
    ∙ takes_row outer end is.opened below n
    (marked_moves k.Nothing (s.only k.Semicolon ∷ []) _ is.opened is.opened_rows)
    (let few = allows_few o (outer + depth (symbol ∷ below)) h in omega (arith, few))

pub section_first : {keyword : Mark} {item list symbol : Symbol} (is : IsSection keyword item list symbol)
    (o : Option ℕ) (outer end : ℕ) (below : Stack) {ss mid : List PlacedTerminal} → AtMark keyword ss mid
    → Misses (the k.Nothing) mid → Allows o (outer + depth (symbol ∷ below))
    → fate outer end (symbol ∷ below) ss ≡ fate outer end (item ∷ list ∷ below) mid
section_first {item = item} {list = list} is o outer end below {mid = mid} l n h =
    opens is o outer end below l h
    ∙ begins_past outer end is.opened item (on k.Nothing (s.only k.Semicolon ∷ []) ∷ []) (list ∷ []) below mid
    is.opened_rows is.opened_stays is.item_stays (n, tt)

-- for its callers, with known symbols
pub section_of : {keyword : Mark} {item list symbol : Symbol} (opened : Symbol)
    → rows symbol ≡ on keyword (opened ∷ []) ∷ [] → rows opened ≡ section_rows (behind (list ∷ []) (rows item))
    → can_omit symbol ≡ true → can_omit opened ≡ false → can_omit item ≡ false
    → closes symbol + closes opened + closes list ≡ 0 → IsSection keyword item list symbol
section_of opened own inner o p q c = record {
  opened = opened;
  own_rows = own;
  opened_rows = inner;
  may_omit = o;
  opened_stays = p;
  item_stays = q;
  no_closers = c;
}

-- the admissible numbers of open openers stay the same
pub before_semicolon : (symbol : Symbol) (o : Option ℕ) (outer : ℕ) (below : Stack)
    → Allows o (outer + depth (symbol ∷ below)) → outer + depth (s.only k.Semicolon ∷ below) ≤ GREATEST_NESTING
unfolding depth
before_semicolon symbol o outer below h =
    let few = allows_few o (outer + depth (symbol ∷ below)) h in omega (arith, few)

pub before_list : {keyword : Mark} {item list symbol : Symbol} → IsSection keyword item list symbol → (o : Option ℕ)
    (outer : ℕ) (below : Stack) → Allows o (outer + depth (symbol ∷ below)) → Allows o (outer + depth (list ∷ below))
unfolding depth
before_list {list = list} {symbol = symbol} is o outer below h =
    let same : outer + depth (symbol ∷ below) ≡ outer + depth (list ∷ below) = omega (arith, is.no_closers) in
    subst (λ (n : ℕ). Allows o n) same h

pub before_item : {keyword : Mark} {item list symbol : Symbol} → IsSection keyword item list symbol
    → IsList None item list → (o : Option ℕ) (outer : ℕ) (below : Stack) → Allows o (outer + depth (symbol ∷ below))
    → Allows o (outer + depth (item ∷ list ∷ below))
unfolding depth
before_item {item = item} {list = list} {symbol = symbol} is lists o outer below h =
    let same : outer + depth (symbol ∷ below) ≡ outer + depth (item ∷ list ∷ below) =
    omega (arith, is.no_closers, lists.no_closer) in
    subst (λ (n : ℕ). Allows o n) same h

-- a section that is absent, a section `none ;`, and a section with items
pub no_section : (section : Section) {ps : List (SpellingPart ℕ)} {ss : List PlacedTerminal} → [] ≡ ps
    → Reads (section_parts section ps) ss ss
no_section section e = respelled (ap (section_parts section) e) (record { written = inl refl })

empty : (section : Section) {ps : List (SpellingPart ℕ)} {ss mid last rest : List PlacedTerminal} → [] ≡ ps
    → AtMark (section_mark section) ss mid → AtMark k.Nothing mid last → AtMark k.Semicolon last rest
    → Reads (section_parts section ps) ss rest
empty section {ps} {ss} {mid} {last} {rest} e a b c =
    respelled (ap (section_parts section) e) (record {
      written = inr (
        rest,
        (
          spot (mark (section_mark section)) a.at,
          mid,
          a.whole,
          refl,
          (
            spot (mark k.Nothing) b.at,
            last,
            b.whole,
            refl,
            (spot (mark k.Semicolon) c.at, rest, c.whole, refl, refl),
          ),
        ),
        refl,
      );
    })

pub empty_section_read : (section : Section)
    (keyword : Mark) {ps : List (SpellingPart ℕ)} {ss mid last rest : List PlacedTerminal}
    → section_mark section ≡ keyword → [] ≡ ps → AtMark keyword ss mid → AtMark k.Nothing mid last
    → AtMark k.Semicolon last rest → Reads (section_parts section ps) ss rest
empty_section_read section keyword {ss = ss} {mid = mid} is e a b c =
    empty section e (subst (λ (m : Mark). AtMark m ss mid) (sym is) a) b c

filled : (section : Section) (ps qs : List (SpellingPart ℕ)) {ss mid last rest : List PlacedTerminal}
    → AtMark (section_mark section) ss mid → Reads ps mid last → length last < length mid → Reads qs last rest
    → Reads (section_parts section (ps ++ qs)) ss rest
filled section [] qs {mid = mid} {last = last} l a less b =
    let e : length mid ≡ length last = ap length a.written in absurd (omega (arith, e, less))
filled section (p ∷ ps) qs l a less b = marked l (then a b)

pub filled_section_read : (section : Section) (keyword : Mark)
    (ps qs : List (SpellingPart ℕ)) {ss mid last rest : List PlacedTerminal}
    → section_mark section ≡ keyword → AtMark keyword ss mid → Reads ps mid last → length last < length mid
    → Reads qs last rest → Reads (section_parts section (ps ++ qs)) ss rest
filled_section_read section keyword ps qs {ss = ss} {mid = mid} is l a less b =
    filled section ps qs (subst (λ (m : Mark). AtMark m ss mid) (sym is) l) a less b
