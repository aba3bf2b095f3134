-- For `design_parts`: the threads of an instance model are within the limits, since the component of each is the one
-- at its path.
use Rattle.std.proofs.Common.{◌≡◌, ◌∙◌, ℕ, true, List, [], ◌∷◌, map, Option, Some, None, refl, sym, ap, subst}
use Rattle.std.specs.Prelude.{All}
use Rattle.std.specs.Option.{option_and_then}
use Rattle.std.proofs.Props.{props}
use Rattle.std.proofs.Math.Logic.{∥∥₁_elim}
use Rattle.std.proofs.lemmas.List.Elements.{All-map, All-same, All-weaker}
use Rattle.aadl_tree.specs.Declarations.{Implementation, PackageTree}
use Rattle.aadl_names.specs.NameResolution.{implementation_at, is_thread}
use Rattle.aadl_uses.specs.ContainmentAndUse.{below, number_at_path, component_at}
use Rattle.aadl_uses.specs.ThreadsBelow.{IsThreadAt}
use Rattle.aadl_uses.specs.declared.thread_locations.ThreadAt.{ThreadAt}
use Rattle.aadl_uses.specs.ThreadLocations.{thread_at}
use Rattle.aadl_instance.specs.declared.chain.Chain.{Chain}
use Rattle.aadl_instance.specs.InstancesByPaths.{InstanceParts, IsFlat}
use Rattle.aadl_instance.specs.InstancesByNumbers.{IsInstance}
use Rattle.model_violations.proofs.ThreadsWithinLimits.{is_small}
use Rattle.design_laws.proofs.InstanceBehaviours.{component_is}
use Rattle.model_checks.specs.proof.ThreadSizeLimits.{IsWithinLimits}

-- ---- each thread is within the limits
is_found : (o : Option (Implementation ℕ)) (x y : Implementation ℕ) → o ≡ Some x → o ≡ Some y
    → is_thread y.category ≡ true → is_thread x.category ≡ true
is_found o x y here there thread = let same : y ≡ x = cc in subst (λ z. is_thread z.category ≡ true) same thread

within_by : {tree : PackageTree ℕ} {name : List ℕ} {parts : InstanceParts} → IsFlat tree name parts
    → (s : ℕ) (path : List ℕ)
    → IsThreadAt tree parts.root (s ∷ path)
    → (o : Option ℕ) → number_at_path tree parts.root path ≡ o
    → IsWithinLimits tree (thread_at tree parts.root (s ∷ path))
within_by {tree} {name} {parts} flat s path at None stands =
    let none : component_at tree parts.root (s ∷ path) ≡ None =
    ap (λ o. option_and_then (implementation_at tree) (option_and_then (λ m. below tree m s) o)) stands in
    absurd (cc (none, at.1.0))
within_by {tree} {name} {parts} flat s path at (Some n) stands = λ x is.
    let here : component_at tree parts.root (s ∷ path) ≡ Some x =
    sym (component_is tree parts.root s path n stands) ∙ is in
    is_small flat (s ∷ path) x (here, is_found (component_at tree parts.root (s ∷ path)) x at.0 here at.1.0 at.1.1)

within : {tree : PackageTree ℕ} {name : List ℕ} {parts : InstanceParts} → IsFlat tree name parts → (path : List ℕ)
    → IsThreadAt tree parts.root path → IsWithinLimits tree (thread_at tree parts.root path)
within flat [] at = λ x is. absurd (cc is)
within {tree} {name} {parts} flat (s ∷ path) at = within_by flat s path at (number_at_path tree parts.root path) refl

all_within : {tree : PackageTree ℕ} {root : ℕ} {threads : List ThreadAt} {links feeds taps : List Chain}
    → IsInstance tree root threads links feeds taps → All (IsWithinLimits tree) threads
all_within {tree} {root} {threads} i =
    let paths = i.parts.threads in
    All-same (IsWithinLimits tree) threads (map (thread_at tree i.parts.root) paths) i.threads_are
    (All-map (IsWithinLimits tree) (thread_at tree i.parts.root) paths
    (All-weaker (IsThreadAt tree i.parts.root) (λ path. IsWithinLimits tree (thread_at tree i.parts.root path))
    (within i.flat) paths i.flat.threads.each))

pub within_limits : {tree : PackageTree ℕ} {root : ℕ} {threads : List ThreadAt} {links feeds taps : List Chain}
    → ∥ IsInstance tree root threads links feeds taps ∥₁ → All (IsWithinLimits tree) threads
within_limits flat = ∥∥₁_elim flat (hlevel props) (λ i. all_within i)
