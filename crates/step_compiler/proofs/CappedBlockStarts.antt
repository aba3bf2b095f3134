-- The places where blocks begin, as the compiler lists them, capped at the maximum number.
use Rattle.std.proofs.Common.{◌≡◌, ℕ, ◌+◌, ◌<◌, Bool, true, false, if◌then◌else◌, List, [], ◌∷◌, length, map}
use Rattle.std.proofs.Common.{slice_index_or, refl, arith, nat_eq}
use Rattle.std.specs.List.{All}
use Rattle.std.proofs.lemmas.List.Elements.{All-tail}
use Rattle.pals_base.specs.declared.behaviour.BehaviourParts.{BehaviourParts}
use Rattle.pals_base.proofs.UpwardNumbers.{get_or-map_upwards}
use Rattle.step_code.specs.CappedWeights.{capped}
use Rattle.step_compiler.specs.LaidOutCode.{states_of}
use Rattle.step_compiler.specs.BlockInstructions.{block_length, start_of}
use Rattle.step_compiler.specs.proof.BlockLengthsAndStarts.{capped_length, start_in}

capped_sum : (a b x y : ℕ) → a ≡ capped b → capped x ≡ capped y → capped (a + x) ≡ capped (b + y)
capped_sum a b x y first rest = omega (arith, first, rest)

by_test : (t : Bool) (a b x y : ℕ) → a ≡ capped b → capped x ≡ capped y
    → capped (if t then 0 else a + x) ≡ capped (if t then 0 else b + y)
by_test true a b x y first rest = refl
by_test false a b x y first rest = capped_sum a b x y first rest

pub starts_capped : (b : BehaviourParts) (order : List ℕ) (s : ℕ) → All (λ t. t < length b.states) order
    → capped (start_in (map (capped_length b) (states_of b)) order s) ≡ capped (start_of b order s)
starts_capped b [] s all = refl
starts_capped b (t ∷ order) s all =
    let within : t < length b.states = all 0 t (omega arith) in
    by_test (nat_eq t s) (slice_index_or (map (capped_length b) (states_of b)) t 0) (block_length b t)
    (start_in (map (capped_length b) (states_of b)) order s) (start_of b order s)
    (get_or-map_upwards (capped_length b) (length b.states) t 0 within)
    (starts_capped b order s (All-tail (λ t. t < length b.states) t order all))
