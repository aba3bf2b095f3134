-- Holding inputs that are present and keeping variables, one place after the other: for the loops of `hold` and
-- `keep`.
use Rattle.std.proofs.Common.{◌≡◌, ◌∙◌, ℕ, suc, ◌+◌, ◌<◌, ◌≤◌, ℤ, pos, List, [], ◌∷◌, ◌++◌, length, take, drop}
use Rattle.std.proofs.Common.{slice_index_or, slice_set, refl, sym, ap, arith, add-one, drop-cons}
use Rattle.std.proofs.Math.Seq.{set-append_seam}
use Rattle.std.proofs.lemmas.List.{take_more, length-take-le}
use Rattle.pals_base.specs.declared.basic_types.PortValue.{PortValue}
use Rattle.pals_base.specs.declared.basic_types.PortValue.TheVariants.{Absent, Present}
use Rattle.pals_base.specs.SingleStep.{held_of, holding}
use Rattle.pals_base.proofs.SequencesAndHaltedFrames.{holding-none}

holding-present : (held : List ℤ) (xs : List PortValue) (v : ℤ) → length xs < length held
    → holding held (xs ++ Present v ∷ []) ≡ slice_set (holding held xs) (length xs) v
holding-present [] xs v less = absurd (omega arith)
holding-present (h ∷ held) [] v less = ap (λ l. v ∷ l) (holding-none held)
holding-present (h ∷ held) (x ∷ xs) v less = ap (λ l. held_of h x ∷ l) (holding-present held xs v (omega arith))

holding-absent : (held : List ℤ) (xs : List PortValue) → holding held (xs ++ Absent ∷ []) ≡ holding held xs
holding-absent [] xs = refl
holding-absent (h ∷ held) [] = ap (λ l. h ∷ l) (holding-none held)
holding-absent (h ∷ held) (x ∷ xs) = ap (λ l. held_of h x ∷ l) (holding-absent held xs)

pub hold_present : (held : List ℤ) (inputs : List PortValue) (at : ℕ) (v : ℤ) (d : PortValue)
    → length inputs ≡ length held
    → at < length inputs → slice_index_or inputs at d ≡ Present v
    → holding held (take (at + 1) inputs) ≡ slice_set (holding held (take at inputs)) at v
hold_present held inputs at v d size within is =
    let more : take (at + 1) inputs ≡ take at inputs ++ Present v ∷ [] = take_more inputs at d within
    ∙ ap (λ x. take at inputs ++ x ∷ []) is in
    let n : length (take at inputs) ≡ at = length-take-le at inputs (omega arith) in
    ap (holding held) more ∙ holding-present held (take at inputs) v (omega arith)
    ∙ ap (λ k. slice_set (holding held (take at inputs)) k v) n

pub hold_absent : (held : List ℤ) (inputs : List PortValue) (at : ℕ) (d : PortValue) → at < length inputs
    → slice_index_or inputs at d ≡ Absent → holding held (take (at + 1) inputs) ≡ holding held (take at inputs)
hold_absent held inputs at d within is =
    let more : take (at + 1) inputs ≡ take at inputs ++ Absent ∷ [] = take_more inputs at d within
    ∙ ap (λ x. take at inputs ++ x ∷ []) is in
    ap (holding held) more ∙ holding-absent held (take at inputs)

-- ---- kept variables
append_cons : (xs ys : List ℤ) (v : ℤ) → xs ++ v ∷ ys ≡ (xs ++ v ∷ []) ++ ys
append_cons [] ys v = refl
append_cons (x ∷ xs) ys v = ap (λ l. x ∷ l) (append_cons xs ys v)

pub keep_more : (vars slots : List ℤ) (at : ℕ) (v : ℤ) → at < length vars → length vars ≤ length slots
    → v ≡ slice_index_or slots at (pos 0)
    → slice_set (take at slots ++ drop at vars) at v ≡ take (at + 1) slots ++ drop (at + 1) vars
keep_more vars slots at v within le is =
    let n : length (take at slots) ≡ at = length-take-le at slots (omega arith) in
    let front : take (at + 1) slots ≡ take at slots ++ v ∷ [] = take_more slots at (pos 0) (omega arith)
    ∙ ap (λ x. take at slots ++ x ∷ []) (sym is) in
    ap (λ l. slice_set (take at slots ++ l) at v) (drop-cons vars at (pos 0) within)
    ∙ ap (λ k. slice_set (take at slots ++ slice_index_or vars at (pos 0) ∷ drop (suc at) vars) k v) (sym n)
    ∙ set-append_seam (take at slots) (slice_index_or vars at (pos 0)) (drop (suc at) vars) v
    ∙ append_cons (take at slots) (drop (suc at) vars) v
    ∙ ap (λ l. l ++ drop (suc at) vars) (sym front)
    ∙ ap (λ k. take (at + 1) slots ++ drop k vars) (sym (add-one at))
