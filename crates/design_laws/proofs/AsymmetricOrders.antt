-- The orders of paths and of the ends of connection chains are asymmetric: no element is both before and after
-- another.
use Rattle.std.proofs.Common.{◌≡◌, ◌⊎◌, inl, inr, ℕ, nat_lt, true, List, reverse, subst, arith}
use Rattle.std.proofs.lemmas.Bool.{ltb-true}
use Rattle.list_lemmas.proofs.Booleans.{or_and_cases}
use Rattle.aadl_uses.specs.ThreadsBelow.{path_before, PathBefore}
use Rattle.aadl_uses.proofs.PathOrder.{one_way_paths}
use Rattle.aadl_chains.specs.LinksFeedsAndTaps.{CarriedChain, same_path, TargetBefore, PortBefore}
use Rattle.aadl_chains.proofs.SamePaths.{same_path-true}

not_both_less : (x y : ℕ) → nat_lt x y ≡ true → nat_lt y x ≡ true → ⊥
not_both_less x y h g = let less = ltb-true x y h in let more = ltb-true y x g in absurd (omega arith)

pub paths_one_way : (a b : List ℕ) → PathBefore a b → PathBefore b a → ⊥
paths_one_way a b h g = one_way_paths (reverse a) (reverse b) h g

-- ---- targets
-- no path precedes itself
not_same : (p q : List ℕ) → path_before (reverse p) (reverse q) ≡ true → same_path q p ≡ true → ⊥
not_same p q before same =
    let e = same_path-true q p same in
    let own = subst (λ (l : List ℕ). path_before (reverse p) (reverse l) ≡ true) e before in
    one_way_paths (reverse p) (reverse p) own own

targets_by : (p q : List ℕ) (m n : ℕ)
    → (path_before (reverse p) (reverse q) ≡ true) ⊎ ((same_path p q ≡ true) × (nat_lt m n ≡ true))
    → (path_before (reverse q) (reverse p) ≡ true) ⊎ ((same_path q p ≡ true) × (nat_lt n m ≡ true)) → ⊥
targets_by p q m n (inl before) (inl after) = one_way_paths (reverse p) (reverse q) before after
targets_by p q m n (inl before) (inr same) = not_same p q before same.0
targets_by p q m n (inr same) (inl after) = not_same q p after same.0
targets_by p q m n (inr same) (inr other) = not_both_less m n same.1 other.1

pub targets_one_way : (a b : CarriedChain) → TargetBefore a b → TargetBefore b a → ⊥
targets_one_way a b h g =
    targets_by a.to.path b.to.path a.to.port b.to.port
    (or_and_cases (path_before (reverse a.to.path) (reverse b.to.path)) (same_path a.to.path b.to.path)
    (nat_lt a.to.port b.to.port) h)
    (or_and_cases (path_before (reverse b.to.path) (reverse a.to.path)) (same_path b.to.path a.to.path)
    (nat_lt b.to.port a.to.port) g)

pub ports_one_way : (a b : CarriedChain) → PortBefore a b → PortBefore b a → ⊥
ports_one_way a b h g = not_both_less a.to.port b.to.port h g
