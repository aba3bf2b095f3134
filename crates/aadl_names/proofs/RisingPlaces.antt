-- The places in a tree that a text has rise from part to part: the claim `places_rise`.
use Rattle.std.proofs.Common.{inl, inr, ℕ, ◌+◌, ◌<◌, ◌≤◌, Bool, false, List, [], ◌∷◌, ◌++◌, length, All, Contains}
use Rattle.std.proofs.Common.{subst, arith}
use Rattle.std.proofs.lemmas.List.Elements.{All-append, All-cons, All-nil}
use Rattle.aadl_lex.specs.declared.token.Token.{Token}
use Rattle.aadl_lex.specs.TokensAndFirstFaults.{AreInOrder}
use Rattle.aadl_lex.proofs.TokenOrder.{order_tokens}
use Rattle.aadl_tree.specs.Declarations.{PackageTree, package_parts}
use Rattle.aadl_tree.specs.TextTreesAndFaults.{IsTreeOf}
use Rattle.aadl_tree.specs.Terminals.{PlainTerminal, PlacedTerminal, spots_from, placed_terminals, inside_behind}
use Rattle.aadl_tree.specs.SpellingParts.{SpellingPart, token, may, AreAt, HaveKinds, Written, extra_kinds}
use Rattle.aadl_tree.proofs.SpellingParts.{written_split}
use Rattle.aadl_names.specs.proof.PlaceOrder.{places_of, StandsBefore}

-- ---- spots that rise from a place on
abbrev Rising : ℕ → List PlacedTerminal → Type 0
Rising low [] = Unit {0}
Rising low (s ∷ ss) = (low ≤ s.at) × Rising (s.at + 1) ss

lower : (low from : ℕ) (ss : List PlacedTerminal) → low ≤ from → Rising from ss → Rising low ss
lower low from [] less r = tt
lower low from (s ∷ ss) less r = let h = r.0 in (omega (arith, less, h), r.1)

spots_rise : (inside : Bool) (text : List ℕ) (from to : ℕ) (ts : List Token) → AreInOrder from to ts
    → Rising from (spots_from inside text ts)
spots_rise inside text from to [] order = tt
spots_rise inside text from to (t ∷ ts) order =
    let some = order.1 in
    let less : t.start + 1 ≤ t.end = omega (arith, some) in (
      order.0,
      lower (t.start + 1) t.end (spots_from (inside_behind inside t.kind) text ts) less
          (spots_rise (inside_behind inside t.kind) text t.end to ts order.2),
    )

-- ---- the places of parts are between the places of the spots
abbrev IsBetween : ℕ → ℕ → ℕ → Type 0
IsBetween low high p = (low ≤ p) × (p < high)

-- spots that rise from low on lead to spots that rise from high on, and these places lie between
record Spans (low high : ℕ) (rest : List PlacedTerminal) (places : List ℕ) : Type 0 where
  up : low ≤ high
  rising : Rising high rest
  between : All (IsBetween low high) places

all_between : (low high at : ℕ) (places : List ℕ) → AreAt places at → low ≤ at → at < high
    → All (IsBetween low high) places
all_between low high at [] are above below = All-nil (IsBetween low high)
all_between low high at (p ∷ ps) are above below =
    let e = are.0 in
    All-cons (IsBetween low high) p ps (omega (arith, e, above), omega (arith, e, below))
    (all_between low high at ps are.1 above below)

wider : (low from high : ℕ) (places : List ℕ) → low ≤ from → All (IsBetween from high) places
    → All (IsBetween low high) places
wider low from high places less each = λ k d within. let h = each k d within in
    (let a = h.0 in omega (arith, less, a), h.1)

one_token : (low : ℕ) (s : PlacedTerminal) (high : ℕ) (rest : List PlacedTerminal) (places later : List ℕ) → low ≤ s.at
    → AreAt places s.at
    → Spans (s.at + 1) high rest later → Spans low high rest (places ++ later)
one_token low s high rest places later above are spans =
    let up = spans.up in
    record {
      up = omega (arith, up, above);
      rising = spans.rising;
      between =
          All-append (IsBetween low high) places later (all_between low high s.at places are above (omega (arith, up)))
          (wider low (s.at + 1) high later (omega (arith, above)) spans.between);
    }

-- spots of given kinds are passed over
kinds_passed : (low : ℕ) (ks : List PlainTerminal) (ss rest : List PlacedTerminal) → HaveKinds ks ss rest
    → Rising low ss
    → (high : ℕ) × (low ≤ high) × Rising high rest
kinds_passed low [] ss rest have rises = (low, omega arith, subst (Rising low) have rises)
kinds_passed low (k ∷ ks) ss rest have rises =
    let here = subst (Rising low) have.2 rises in
    let r = kinds_passed (have.0.at + 1) ks have.1 rest have.4 here.1 in
    let a = here.0 in
    let b = r.1 in
    (r.0, omega (arith, a, b), r.2)

widened : (low from high : ℕ) (rest : List PlacedTerminal) (places : List ℕ) → low ≤ from → Spans from high rest places
    → Spans low high rest places
widened low from high rest places less spans =
    let up = spans.up in
    record {
      up = omega (arith, up, less);
      rising = spans.rising;
      between = wider low from high places less spans.between;
    }

spanned : (low : ℕ) (parts : List (SpellingPart ℕ)) (ss rest : List PlacedTerminal) → Written parts ss rest
    → Rising low ss
    → (high : ℕ) × Spans low high rest (places_of parts)
spanned low [] ss rest w rises =
    (low, record { up = omega arith; rising = subst (Rising low) w rises; between = All-nil (IsBetween low low) })
spanned low (token kind places ∷ parts) ss rest w rises =
    let here = subst (Rising low) w.2 rises in
    let r = spanned (w.0.at + 1) parts w.1 rest w.5 here.1 in
    (r.0, one_token low w.0 r.0 rest places (places_of parts) here.0 w.4 r.1)
spanned low (may extra ∷ parts) ss rest (inl w) rises = spanned low parts ss rest w rises
spanned low (may extra ∷ parts) ss rest (inr w) rises =
    let passed = kinds_passed low (extra_kinds extra) ss w.0 w.1 rises in
    let r = spanned passed.0 parts w.0 rest w.2 passed.2 in
    (r.0, widened low passed.0 r.0 rest (places_of parts) passed.1 r.1)

-- ---- one before the other
apart : (low mid high : ℕ) (a b : List ℕ) (p q : ℕ) → All (IsBetween low mid) a → All (IsBetween mid high) b
    → Contains a p → Contains b q → p < q
apart low mid high a b p q first second here there =
    let x = subst (IsBetween low mid) here.2 (first here.0 p here.1) in
    let y = subst (IsBetween mid high) there.2 (second there.0 q there.1) in
    let m = x.1 in
    let n = y.0 in
    omega (arith, m, n)

before_in : (parts : List (SpellingPart ℕ)) (ss rest : List PlacedTerminal) (p q : ℕ) → Written parts ss rest
    → Rising 0 ss
    → StandsBefore parts p q → p < q
before_in parts ss rest p q w rises stands =
    let two = written_split stands.front stands.back ss rest (subst (λ ps. Written ps ss rest) stands.split w) in
    let a = spanned 0 stands.front ss two.0 two.1 rises in
    let b = spanned a.0 stands.back two.0 rest two.2 a.1.rising in
    apart 0 a.0 b.0 (places_of stands.front) (places_of stands.back) p q a.1.between b.1.between stands.first
    stands.second

pub places_rise : (text : List ℕ) (tree : PackageTree ℕ) → IsTreeOf text tree → (p q : ℕ)
    → StandsBefore (package_parts tree) p q → p < q
places_rise text tree given p q stands =
    before_in (package_parts tree) (placed_terminals text given.tokens) [] p q given.written
    (spots_rise false text 0 (length text) given.tokens (order_tokens text given.tokens given.lexed)) stands
