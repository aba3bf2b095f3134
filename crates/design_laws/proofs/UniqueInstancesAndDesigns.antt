-- A package has one instance model, with one list of violations, and one design.
use Rattle.std.proofs.Common.{◌≡◌, ◌∙◌, ℕ, Bool, List, [], sym, ap, subst}
use Rattle.std.specs.List.{filter}
use Rattle.std.specs.List.Sorted.{ties}
use Rattle.std.proofs.lemmas.Option.{same_Some}
use Rattle.std.specs.Cmp.{both_ways}
use Rattle.pals_model.specs.declared.design.DesignParts.{DesignParts}
use Rattle.aadl_tree.specs.Declarations.{PackageTree}
use Rattle.aadl_uses.specs.ThreadsBelow.{Lists, IsThreadAt, PathBefore}
use Rattle.aadl_chains.specs.LinksFeedsAndTaps.{IsLink, IsFeed, IsTap, TargetBefore, PortBefore}
use Rattle.aadl_instance.specs.InstancesByPaths.{InstanceParts, IsFlat}
use Rattle.annex_resolve.specs.declared.violation.Violation.{Violation}
use Rattle.model_violations.specs.UsedDeclarations.{IsUse}
use Rattle.model_violations.specs.Violations.{ShownInstance, shown_by, findings, goes_before, AreViolations}
use Rattle.model_violations.proofs.FindingOrder.{goes_before_orders}
use Rattle.design_laws.specs.InstanceDesigns.{IsDesignOf}
use Rattle.design_laws.specs.PackageDesigns.{IsDesignIn}
use Rattle.design_laws.proofs.UniqueLists.{one_listing}
use Rattle.design_laws.proofs.AsymmetricOrders.{paths_one_way, targets_one_way, ports_one_way}
use Rattle.design_laws.proofs.UniqueSorts.{one_order}

-- ---- the instance
pub one_instance : (tree : PackageTree ℕ) (name : List ℕ) (a b : InstanceParts) → IsFlat tree name a
    → IsFlat tree name b → a ≡ b
one_instance tree name a b x y =
    let root = same_Some a.root b.root (sym x.root ∙ y.root) in
    let threads =
    one_listing PathBefore paths_one_way (IsThreadAt tree b.root) a.threads b.threads
    (subst (λ (r : ℕ). Lists (IsThreadAt tree r) PathBefore a.threads) root x.threads) y.threads in
    let links =
    one_listing TargetBefore targets_one_way (IsLink tree b.root) a.links b.links
    (subst (λ (r : ℕ). Lists (IsLink tree r) TargetBefore a.links) root x.links) y.links in
    let feeds =
    one_listing TargetBefore targets_one_way (IsFeed tree b.root) a.feeds b.feeds
    (subst (λ (r : ℕ). Lists (IsFeed tree r) TargetBefore a.feeds) root x.feeds) y.feeds in
    let taps =
    one_listing PortBefore ports_one_way (IsTap tree b.root) a.taps b.taps
    (subst (λ (r : ℕ). Lists (IsTap tree r) PortBefore a.taps) root x.taps) y.taps in
    λ i. record { root = root i; threads = threads i; links = links i; feeds = feeds i; taps = taps i }

-- ---- the violations

-- the predicate of the declarations in use is unique
one_use : (tree : PackageTree ℕ) (root : ℕ) (f g : ℕ → Bool) → IsUse tree root f → IsUse tree root g → f ≡ g
one_use tree root f g a b =
    let same : (n : ℕ) → f n ≡ g n = λ n. both_ways (f n) (g n) (λ h. (b n).1 ((a n).0 h)) (λ h. (a n).1 ((b n).0 h)) in
    λ i n. same n i

pub one_list : (tree : PackageTree ℕ) (s : ShownInstance) (a b : List Violation) → AreViolations tree s a
    → AreViolations tree s b → a ≡ b
one_list tree s a b x y =
    let used = one_use tree s.root x.used y.used x.is_use y.is_use in
    one_order goes_before goes_before_orders a b x.in_order y.in_order
    (λ z. x.same z ∙ (ap (λ (f : ℕ → Bool). filter (ties goes_before z) (findings tree s f)) used ∙ sym (y.same z)))

-- a package whose instance model has no violations
pub no_list : (tree : PackageTree ℕ) (name : List ℕ) (design : DesignParts) (parts : InstanceParts)
    (list : List Violation)
    → IsDesignIn tree name design → IsFlat tree name parts → AreViolations tree (shown_by tree parts) list → list ≡ []
no_list tree name design parts list d flat all =
    let same = one_instance tree name d.parts parts d.flat flat in
    one_list tree (shown_by tree parts) list [] all
    (subst (λ (p : InstanceParts). AreViolations tree (shown_by tree p) []) same d.nothing_wrong)

-- ---- the design
pub one_design : ((tree : PackageTree ℕ) (s : ShownInstance) (a b : DesignParts) → IsDesignOf tree s a
    → IsDesignOf tree s b → a ≡ b)
    → (tree : PackageTree ℕ) (name : List ℕ) (a b : DesignParts) → IsDesignIn tree name a
    → IsDesignIn tree name b → a ≡ b
one_design law tree name a b x y =
    let same = one_instance tree name x.parts y.parts x.flat y.flat in
    law tree (shown_by tree y.parts) a b
    (subst (λ (p : InstanceParts). IsDesignOf tree (shown_by tree p) a) same x.design_of) y.design_of
