-- Each instance model has the sorted list of all its violations.
use Rattle.std.proofs.Common.{ℕ, Bool, List}
use Rattle.aadl_tree.specs.Declarations.{PackageTree}
use Rattle.aadl_instance.specs.InstancesByPaths.{InstanceParts, IsFlat}
use Rattle.model_violations.specs.UsedDeclarations.{has, IsUse}
use Rattle.model_violations.specs.Violations.{shown_by, findings, goes_before}
use Rattle.design_laws.specs.proof.FirstFaultOrInstance.{HasList}
use Rattle.model_violations.proofs.NumberSets.{is_use}
use Rattle.model_violations.proofs.FindingOrder.{goes_before_orders}
use Rattle.design_laws.proofs.InsertionSort.{has_sorted}
use Rattle.aadl_instance.proofs.Roots.{is_root_at, root_declared}
use Rattle.design_laws.proofs.FirstFaultOrSoundPackage.{uses}

sorted_by : (tree : PackageTree ℕ) (parts : InstanceParts) (used : ℕ → Bool) → IsUse tree parts.root used
    → HasList tree parts
sorted_by tree parts used is =
    let s = has_sorted goes_before goes_before_orders (findings tree (shown_by tree parts) used) in
    (s.list, record { used = used; is_use = is; in_order = s.in_order; same = s.same })

pub has_list : (tree : PackageTree ℕ) (name : List ℕ) (parts : InstanceParts) → IsFlat tree name parts
    → HasList tree parts
has_list tree name parts flat =
    let u = uses tree parts.root (root_declared tree parts.root (is_root_at tree name parts.root flat.root)) in
    sorted_by tree parts (has u.0) (is_use tree parts.root u.0 u.1)
