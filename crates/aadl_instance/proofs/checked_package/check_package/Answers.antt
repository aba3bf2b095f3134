use Rattle.std.proofs.Common.{◌≡◌, ◌⊎◌, ◌∙◌, ap, inl, inr, subst, sym, Some}
use Rattle.aadl_tree.specs.declared.package.PackageTree.{PackageTree}
use Rattle.aadl_tree.specs.proof.PackageViews.{placed}
use Rattle.aadl_names.specs.declared.fault.PackageFault.{PackageFault}
use Rattle.aadl_names.specs.declared.fault.PackageFault.TheVariants.{Memory}
use Rattle.aadl_names.specs.FirstFaults.{IsFirstByLine}
use Rattle.aadl_names.specs.NameResolution.{root_number}
use Rattle.aadl_instance.specs.declared.checked_package.Checked.{Checked}
use Rattle.aadl_instance.specs.Faults.{FoundIn, IsFault, IsRoot}
use Rattle.aadl_instance.specs.proof.CheckedPackages.{IsChecked}
use Rattle.aadl_instance.proofs.FaultPrecedence.{matched, no_root, root_fault}
use Rattle.aadl_instance.proofs.Roots.{is_root_at}
use Rattle.aadl_instance.proofs.checked_package.check_package.Goals as goal

pub check_names-requires : goal.check_names-requires
check_names-requires c =
    subst (λ (t : PackageTree). IsRoot (placed t) c.in-Some.root)
    (sym (c.in_ok-wires-in-Some.ensures ∙ c.in_ok-uses-in-Some.ensures ∙ c.in_ok-names-in-Some.ensures))
    (is_root_at (placed c.args.tree.now) c.args.name.now c.in-Some.root (sym c.in_ok-root.ensures ∙ c.in-Some.is))

pub returns-in_ok-wires-in-Some : goal.returns-in_ok-wires-in-Some
returns-in_ok-wires-in-Some c =
    let tree = placed c.args.tree.now in
    let root = c.in-Some.root in
    let is : root_number tree c.args.name.now ≡ Some root = sym c.in_ok-root.ensures ∙ c.in-Some.is in
    let same = c.in_ok-wires-in-Some.ensures ∙ c.in_ok-uses-in-Some.ensures ∙ c.in_ok-names-in-Some.ensures in
    matched
    (λ (x : Checked). (x.root ≡ root) × (x.wires.uses.names.tree.now ≡ c.in_ok-wires-in-Some.wires.uses.names.tree.now)
    × IsChecked (placed c.in_ok-wires-in-Some.wires.uses.names.tree.now) x)
    (λ (x : Checked). (root_number tree c.args.name.now ≡ Some x.root) × (x.wires.uses.names.tree.now ≡ c.args.tree.now)
    × IsChecked tree x)
    (λ (f : PackageFault). (f ≡ Memory)
    ⊎ IsFirstByLine (FoundIn (placed c.in_ok-wires-in-Some.wires.uses.names.tree.now) root) f)
    (λ (f : PackageFault). (f ≡ Memory) ⊎ IsFault tree c.args.name.now f) c.check_names.result
    (λ x h. (is ∙ ap Some (sym h.0), h.1 ∙ same, subst (λ (t : PackageTree). IsChecked (placed t) x) same h.2))
    (λ f h. elim h [
      | inl m ↦ inl m
      | inr g ↦ inr (root_fault tree c.args.name.now root is f
          (subst (λ (t : PackageTree). IsFirstByLine (FoundIn (placed t) root) f) same g))
    ])
    c.check_names.ensures

pub returns-in-None : goal.returns-in-None
returns-in-None c = inr (no_root (placed c.args.tree.now) c.args.name.now (sym c.in_ok-root.ensures ∙ c.in-None.is))
