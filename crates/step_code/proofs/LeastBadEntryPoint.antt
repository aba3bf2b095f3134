-- The verifier's search for bad entries finds the smallest of them.
use Rattle.std.proofs.Common.{◌≡◌, ◌∙◌, ℕ, ◌+◌, ◌<◌, Bool, true, false, ◌&&◌, ◌||◌, List, [], ◌∷◌, ◌++◌, length, Option}
use Rattle.std.proofs.Common.{Some, None, refl, sym, ap, arith, take, slice_index_or, nat_eq}
use Rattle.std.proofs.lemmas.List.{take_more}
use Rattle.std.proofs.lemmas.List.Folds.{list_any-append}
use Rattle.std.proofs.Math.Bool.{and-false, or-false}
use Rattle.step_code.specs.declared.instr.Instr.{Instr}
use Rattle.step_code.specs.proof.VerifierRules.{on_some, enters_badly, is_entry, is_bad_entry}
use Rattle.step_code.specs.proof.VerifierIntermediateResults.{IsLeast}

pub least_same : (test other : ℕ → Bool) (o : Option ℕ) → ((q : ℕ) → other q ≡ test q) → IsLeast test o
    → IsLeast other o
least_same test other None same least = λ q. same q ∙ least q
least_same test other (Some e) same least = (same e ∙ least.0, λ q less. same q ∙ least.1 q less)

-- ---- one more entry

shared : (a b t : Bool) → ((a || b) && t) ≡ ((a && t) || (b && t))
shared true b true = refl
shared true b false = sym (and-false b)
shared false b t = refl

one_entry : (code : List Instr) (es : List (Option ℕ)) (x : Option ℕ) (q : ℕ)
    → is_bad_entry code (es ++ x ∷ []) q ≡ (is_bad_entry code es q || (on_some x (nat_eq q) && enters_badly code q))
one_entry code es x q =
    ap (λ b. b && enters_badly code q)
    (list_any-append (λ entry. on_some entry (nat_eq q)) es (x ∷ [])
    ∙ ap (λ b. is_entry es q || b) (or-false (on_some x (nat_eq q))))
    ∙ shared (is_entry es q) (on_some x (nat_eq q)) (enters_badly code q)

pub least_more : (code : List Instr) (es all : List (Option ℕ)) (i : ℕ) (x : Option ℕ) (o : Option ℕ) → all ≡ es
    → i < length all → slice_index_or all i None ≡ x
    → IsLeast (λ q. is_bad_entry code (take i es) q || (on_some x (nat_eq q) && enters_badly code q)) o
    → IsLeast (is_bad_entry code (take (i + 1) es)) o
least_more code es all i x o same within is least =
    let size = ap length same in
    let more : take (i + 1) es ≡ take i es ++ x ∷ [] = take_more es i None (omega arith)
    ∙ ap (λ y. take i es ++ y ∷ []) (ap (λ l. slice_index_or l i None) (sym same) ∙ is) in
    least_same _ (is_bad_entry code (take (i + 1) es)) o
    (λ q. ap (λ l. is_bad_entry code l q) more ∙ one_entry code (take i es) x q) least

-- an empty entry is not bad
pub least_none : (code : List Instr) (es all : List (Option ℕ)) (i : ℕ) (o : Option ℕ) → all ≡ es → i < length all
    → slice_index_or all i None ≡ None → IsLeast (is_bad_entry code (take i es)) o
    → IsLeast (is_bad_entry code (take (i + 1) es)) o
least_none code es all i o same within is least =
    least_more code es all i None o same within is
    (least_same (is_bad_entry code (take i es)) (λ q. is_bad_entry code (take i es) q || false) o
    (λ q. or-false (is_bad_entry code (take i es) q)) least)
