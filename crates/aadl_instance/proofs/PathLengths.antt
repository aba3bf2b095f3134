-- The length of a path in bytes: the length of each name, and one for each dot. For the limit on the length of paths.
use Rattle.std.proofs.Common.{◌≡◌, ◌↔◌, ℕ, zero, suc, ◌+◌, ◌<◌, true, false, List, [], ◌∷◌, ◌++◌, length, map, reverse}
use Rattle.std.proofs.Common.{codes, Option, Some, None, get_or, slice_get, refl, sym, ap, ◌∙◌, arith}
use Rattle.std.specs.Option.{option_and_then, option_map_or}
use Rattle.std.proofs.lemmas.Bool.{true≢false}
use Rattle.std.proofs.lemmas.Bool.Decides.{nat_tests}
use Rattle.std.proofs.lemmas.List.{length-append, reverse-append, reverse-reverse}
use Rattle.std.proofs.lemmas.Option.{none-some, same_Some, option_and_then_some}
use Rattle.pals_base.specs.declared.limits.TheConstants.{PATH_BYTES}
use Rattle.aadl_tree.specs.Declarations.{Subcomponent, Declaration, Implementation, PackageTree}
use Rattle.aadl_names.specs.NameResolution.{implementation_in, implementation_at, subcomponents_of, referred}
use Rattle.aadl_uses.specs.ContainmentAndUse.{sub_at, below, number_at_path}
use Rattle.aadl_uses.specs.proof.PackageContainment.{containment}
use Rattle.aadl_uses.specs.proof.ThreadCounts.{thread_marks}
use Rattle.aadl_uses.proofs.PackageContainment.{below-same}
use Rattle.aadl_uses.proofs.ThreadCounts.{thread_from, marked_from}
use Rattle.aadl_uses.specs.proof.ContainmentGraphs.{below_in}
use Rattle.aadl_uses.specs.proof.MarkedPathCounts.{stands_at, IsMarkedAt}
use Rattle.aadl_uses.specs.proof.HeaviestPaths as weights
use Rattle.aadl_uses.specs.proof.HeaviestPaths.{path_weight, IsGreatest, IsGreatestOf, IsHeaviest}
use Rattle.aadl_uses.specs.ThreadLocations.{name_at, names_along, dotted_names, spelled_path, ThreadWith}
use Rattle.aadl_instance.specs.proof.PathLengths.{weight_of, weights_in, name_weights, is_over}

-- ---- names
abbrev pub total : List (List ℕ) → ℕ
total [] = 0
total (x ∷ xs) = length x + 1 + total xs

-- the number of dots is one less than the number of names
dotted_total : (x : List ℕ) (xs : List (List ℕ)) → length (dotted_names (x ∷ xs)) + 1 ≡ total (x ∷ xs)
dotted_total x [] = omega arith
dotted_total x (y ∷ xs) =
    let rest = dotted_total y xs in
    let front = length-append (x ++ codes ".") (dotted_names (y ∷ xs)) in
    let first = length-append x (codes ".") in
    omega (arith, rest, front, first)

pub long_names : (ns : List (List ℕ)) (most : ℕ) → (most < length (dotted_names ns)) ↔ (most + 1 < total ns)
long_names [] most = (λ lt. absurd (omega arith), λ lt. absurd (omega arith))
long_names (x ∷ xs) most = let same = dotted_total x xs in (λ lt. omega (arith, same), λ lt. omega (arith, same))

-- ---- weights of subcomponents
row : (ds : List (Declaration ℕ)) (n : ℕ)
    → get_or (map weights_in ds) n [] ≡ map weight_of (subcomponents_of (implementation_in (slice_get ds n)))
row [] zero = refl
row [] (suc n) = refl
row (d ∷ ds) zero = refl
row (d ∷ ds) (suc n) = row ds n

cell : (subs : List (Subcomponent ℕ)) (s : ℕ) (sub : Subcomponent ℕ) → slice_get subs s ≡ Some sub
    → get_or (map weight_of subs) s 0 ≡ weight_of sub
cell [] zero sub e = absurd (none-some sub e)
cell [] (suc s) sub e = absurd (none-some sub e)
cell (x ∷ xs) zero sub e = ap weight_of (same_Some x sub e)
cell (x ∷ xs) (suc s) sub e = cell xs s sub e

weight_at : (tree : PackageTree ℕ) (n s : ℕ) (sub : Subcomponent ℕ) → sub_at tree n s ≡ Some sub
    → weights.weight_of (name_weights tree) n s ≡ weight_of sub
weight_at tree n s sub e =
    ap (λ r. get_or r s 0) (row tree.declarations n) ∙ cell (subcomponents_of (implementation_at tree n)) s sub e

-- ---- along a path from the root
module _ (tree : PackageTree ℕ) (n s k : ℕ) (sub : Subcomponent ℕ) (declared : sub_at tree n s ≡ Some sub)
    (names : below tree n s ≡ Some k) where
  standing_inside : (r : List ℕ) → number_at_path tree n (r ++ s ∷ []) ≡ number_at_path tree k r
  standing_inside [] = names
  standing_inside (t ∷ r) = ap (option_and_then (λ m. below tree m t)) (standing_inside r)

  names_inside : (r : List ℕ) → names_along tree n (r ++ s ∷ []) ≡ names_along tree k r ++ sub.name.spelling ∷ []
  names_inside [] = ap (λ o. name_at o ++ []) declared
  names_inside (t ∷ r) =
      ap (λ o. name_at (option_and_then (λ m. sub_at tree m t) o) ++ names_along tree n (r ++ s ∷ []))
      (standing_inside r)
      ∙ (ap (λ l. name_at (option_and_then (λ m. sub_at tree m t) (number_at_path tree k r)) ++ l) (names_inside r)
      ∙ sym (assoc (name_at (option_and_then (λ m. sub_at tree m t) (number_at_path tree k r)))))
    where
      assoc : (xs : List (List ℕ))
          → (xs ++ names_along tree k r) ++ sub.name.spelling ∷ []
          ≡ xs ++ (names_along tree k r ++ sub.name.spelling ∷ [])
      assoc xs = simp Rattle.std.proofs.Common.append_assoc

  total_inside : (p : List ℕ)
      → total (reverse (names_along tree n (reverse (s ∷ p))))
      ≡ length sub.name.spelling + 1 + total (reverse (names_along tree k (reverse p)))
  total_inside p =
      ap (λ l. total (reverse (names_along tree n l))) (reverse-append (s ∷ []) p)
      ∙ (ap (λ l. total (reverse l)) (names_inside (reverse p))
      ∙ ap total (reverse-append (names_along tree k (reverse p)) (sub.name.spelling ∷ [])))

pub weighs : (tree : PackageTree ℕ) (p : List ℕ) (n m : ℕ) → stands_at (containment tree) n p ≡ Some m
    → path_weight (containment tree) (name_weights tree) n p ≡ total (reverse (names_along tree n (reverse p)))
weighs tree [] n m e = refl
weighs tree (s ∷ p) n m e =
    option_and_then_some (λ k. stands_at (containment tree) k p) (below_in (containment tree) n s) m e
    (λ k a b.
    let names : below tree n s ≡ Some k = sym (below-same tree n s) ∙ a in
    option_and_then_some (λ sub. referred tree sub.classifier) (sub_at tree n s) k names
    (λ sub declared c.
    let own = weight_at tree n s sub declared in
    let rest = weighs tree p k m b in
    let whole = total_inside tree n s k sub declared names p in
    let through : path_weight (containment tree) (name_weights tree) n (s ∷ p)
    ≡ weights.weight_of (name_weights tree) n s + path_weight (containment tree) (name_weights tree) k p =
    ap (λ o. weights.weight_of (name_weights tree) n s
    + option_map_or (λ j. path_weight (containment tree) (name_weights tree) j p) o 0) a in
    omega (arith, own, rest, whole, through)))

-- ---- whether a path is too long
module _ (tree : PackageTree ℕ) (root : ℕ) where
  abbrev IsLong : Implementation ℕ → List ℕ → Type 0
  IsLong x path = PATH_BYTES < length (spelled_path tree root path)

  heavy_is_long : (p : List ℕ) → IsMarkedAt (containment tree) (thread_marks tree) root p
      → PATH_BYTES + 1 < path_weight (containment tree) (name_weights tree) root p
      → PATH_BYTES < length (spelled_path tree root (reverse p))
  heavy_is_long p t lt =
      let same = weighs tree p root t.number t.stands in
      (long_names (reverse (names_along tree root (reverse p))) PATH_BYTES).1 (omega (arith, same))

  long_is_heavy : (path : List ℕ) (t : IsMarkedAt (containment tree) (thread_marks tree) root (reverse path))
      → PATH_BYTES < length (spelled_path tree root path)
      → PATH_BYTES + 1 < path_weight (containment tree) (name_weights tree) root (reverse path)
  long_is_heavy path t lt =
      let same = weighs tree (reverse path) root t.number t.stands in
      let long = (long_names (reverse (names_along tree root path)) PATH_BYTES).0 lt in
      let back = ap (λ p. total (reverse (names_along tree root p))) (reverse-reverse path) in
      omega (arith, same, long, back)

  none_long : IsGreatestOf (IsMarkedAt (containment tree) (thread_marks tree) root)
      (path_weight (containment tree) (name_weights tree) root) (PATH_BYTES + 2) None → ThreadWith tree root IsLong → ⊥
  none_long none t = none (reverse t.0) (marked_from tree root t.0 (t.1, t.2))

  module _ (w : ℕ) (a : IsGreatest (IsMarkedAt (containment tree) (thread_marks tree) root)
      (path_weight (containment tree) (name_weights tree) root) (PATH_BYTES + 2) w) where
    over_long : PATH_BYTES + 1 < w → ThreadWith tree root IsLong
    over_long lt =
        let reached = a.reaches in
        let t = thread_from tree root a.path a.has in
        (reverse a.path, t.0, t.1, heavy_is_long a.path a.has (omega (arith, reached)))

    long_over : ThreadWith tree root IsLong → PATH_BYTES + 1 < w
    long_over t =
        let m = marked_from tree root t.0 (t.1, t.2) in
        let heavy = long_is_heavy t.0 m t.3 in
        let least = a.most (reverse t.0) m in
        omega (arith, heavy, least)

  -- the test on the weight of the heaviest path
  pub tells_long : (o : Option ℕ)
      → IsHeaviest (PATH_BYTES + 2) (containment tree) (thread_marks tree) (name_weights tree) root o
      → (is_over o ≡ true) ↔ ThreadWith tree root IsLong
  tells_long None none = (λ e. absurd (true≢false (sym e)), λ t. absurd (none_long none t))
  tells_long (Some w) a =
      (λ e. over_long w a (grind (arith, nat_tests)), λ t. let lt = long_over w a t in grind (arith, nat_tests))
