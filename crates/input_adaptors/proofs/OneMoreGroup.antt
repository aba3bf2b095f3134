-- For `join_all`: a list of ports is cut into groups, and the result after one more group.
use Rattle.std.proofs.Common.{◌≡◌, ◌∙◌, ap, sym, ℕ, suc, ◌+◌, ◌-◌, ◌<◌, min, List, [], ◌∷◌, ◌++◌, length, take, drop}
use Rattle.std.proofs.Common.{map, arith, append_assoc}
use Rattle.std.proofs.lemmas.List.{take_min, drop_min}
use Rattle.pals_base.specs.declared.basic_types.PortValue.{PortValue}
use Rattle.pals_base.specs.Adaptors.{groups}

groups_more : (count i m : ℕ) (rest : List PortValue) → i < count
    → groups (count - i) m rest ≡ take m rest ∷ groups (count - (i + 1)) m (drop m rest)
groups_more count i m rest below =
    let one_more : count - i ≡ suc (count - (i + 1)) = omega arith in
    ap (λ n. groups n m rest) one_more

-- one more group: the result so far, and the results of the remaining groups
pub join_step : (f : List PortValue → PortValue) (all done rest group later : List PortValue)
    (count i m n : ℕ) → i < count
    → n ≡ min m (length rest) → group ≡ take n rest → later ≡ drop n rest
    → done ++ map f (groups (count - i) m rest) ≡ all
    → (done ++ f group ∷ []) ++ map f (groups (count - (i + 1)) m later) ≡ all
join_step f all done rest group later count i m n below size front back so_far =
    let is_front : group ≡ take m rest = front ∙ ap (λ k. take k rest) size ∙ take_min m rest in
    let is_back : later ≡ drop m rest = back ∙ ap (λ k. drop k rest) size ∙ drop_min m rest in
    append_assoc done (f group ∷ []) _
    ∙ ap (λ g. done ++ f g ∷ map f (groups (count - (i + 1)) m later)) is_front
    ∙ ap (λ l. done ++ f (take m rest) ∷ map f (groups (count - (i + 1)) m l)) is_back
    ∙ ap (λ gs. done ++ map f gs) (sym (groups_more count i m rest below))
    ∙ so_far
