-- The inputs that a step holds, one more and one set anew.
use Rattle.std.proofs.Common.{◌≡◌, ℕ, zero, suc, ◌+◌, ℤ, ◌<◌, List, [], ◌∷◌, ◌++◌, length, take, drop, drop-cons}
use Rattle.std.proofs.Common.{get_or, add-one, append_assoc, sym, ap, ◌∙◌, arith}
use Rattle.std.proofs.lemmas.List.{take_more_set, drop-set-lt}
use Rattle.std.specs.Prelude.{slice_index_or, slice_set}
use Rattle.pals_base.specs.declared.basic_types.PortValue.{PortValue}
use Rattle.pals_base.specs.declared.basic_types.PortValue.TheVariants.{Absent}
use Rattle.pals_base.specs.SingleStep.{held_of, holding}
use Rattle.pals_base.proofs.SequencesAndHaltedFrames.{holding-none}

pub holding-more : (at : ℕ) (held : List ℤ) (inputs : List PortValue) (v : ℤ) (rest : List ℤ) → drop at held ≡ v ∷ rest
    → holding (drop at held) (drop at inputs)
    ≡ held_of v (slice_index_or inputs at Absent) ∷ holding rest (drop (suc at) inputs)
holding-more zero held [] v rest e = ap (λ h. holding h []) e ∙ ap (λ h. v ∷ h) (sym (holding-none rest))
holding-more zero held (i ∷ inputs) v rest e = ap (λ h. holding h (i ∷ inputs)) e
holding-more (suc at) [] inputs v rest e = cc
holding-more (suc at) (w ∷ held) [] v rest e = ap (λ h. holding h []) e ∙ ap (λ h. v ∷ h) (sym (holding-none rest))
holding-more (suc at) (w ∷ held) (i ∷ inputs) v rest e = holding-more at held inputs v rest e

-- an element written: the held inputs up to it, and of the remaining elements
pub holding-set : (at : ℕ) (held : List ℤ) (inputs : List PortValue) (before v : ℤ) → at < length held
    → before ≡ get_or held at before → v ≡ held_of before (slice_index_or inputs at Absent)
    → take (at + 1) (slice_set held at v) ++ holding (drop (at + 1) (slice_set held at v)) (drop (at + 1) inputs)
    ≡ take at held ++ holding (drop at held) (drop at inputs)
holding-set at held inputs before v within item newest =
    let rest = holding (drop (suc at) held) (drop (suc at) inputs) in
    ap (λ l. l ++ holding (drop (at + 1) (slice_set held at v)) (drop (at + 1) inputs)) (take_more_set held at v within)
    ∙ ap (λ l. (take at held ++ v ∷ []) ++ holding l (drop (at + 1) inputs))
    (drop-set-lt (at + 1) held at v (omega arith))
    ∙ ap (λ n. (take at held ++ v ∷ []) ++ holding (drop n held) (drop n inputs)) (add-one at)
    ∙ append_assoc (take at held) (v ∷ []) rest
    ∙ ap (λ w. take at held ++ w ∷ rest) newest
    ∙ sym (ap (λ l. take at held ++ l)
    (holding-more at held inputs before (drop (suc at) held)
    (drop-cons held at before within ∙ ap (λ w. w ∷ drop (suc at) held) (sym item))))
