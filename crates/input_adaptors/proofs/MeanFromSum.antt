-- The sum and the mean of the numbers of a group that are there.
use Rattle.std.proofs.Common.{◌≡◌, ap, refl, suc, ◌+◌, ◌-◌, ℤ, pos, ◌+ℤ◌, List, [], ◌∷◌, length, fold}
use Rattle.pals_base.specs.Adaptors.{of_present, average_of}
use Rattle.input_adaptors.specs.proof.PortValuesAsNumbers.{mean_of}
use Rattle.input_adaptors.proofs.PresentNumbers.{zero-+ℤ}

pub mean_of_sum : (vs : List ℤ) → mean_of (fold ◌+ℤ◌ (pos 0) vs) (length vs) ≡ of_present average_of vs
mean_of_sum [] = refl
mean_of_sum (v ∷ vs) = ap (λ x. mean_of (fold ◌+ℤ◌ x vs) (suc (length vs))) (zero-+ℤ v)
