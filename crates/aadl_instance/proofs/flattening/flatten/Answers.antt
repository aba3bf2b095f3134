use Rattle.std.proofs.Common.{◌≡◌, Some, subst, sym}
use Rattle.aadl_tree.specs.declared.package.PackageTree as source
use Rattle.aadl_tree.specs.proof.PackageViews.{placed}
use Rattle.aadl_names.specs.NameResolution.{root_number}
use Rattle.aadl_instance.specs.InstancesByNumbers.{IsInstance}
use Rattle.aadl_instance.proofs.flattening.flatten.Goals as goal

pub instance_of-requires-clause-name : goal.instance_of-requires-clause-name
instance_of-requires-clause-name c = (
  c.args.root.now,
  subst (λ (t : source.PackageTree). root_number (placed t) c.args.root.now ≡ Some c.in-Ok.checked.root)
      (sym c.in-Ok.ensures.1) c.in-Ok.ensures.0,
)

pub returns-in_ok-instance_of-in-Ok-clause-instance : goal.returns-in_ok-instance_of-in-Ok-clause-instance
returns-in_ok-instance_of-in-Ok-clause-instance c =
    let x = c.in_ok-instance_of-in-Ok.field-0 in
    subst (λ (t : source.PackageTree). (i : IsInstance (placed t) x.root x.threads x.links x.feeds x.taps)
    × (i.name ≡ c.args.root.now)) c.in-Ok.ensures.1
    (c.in_ok-instance_of-in-Ok.ensures.instance c.args.root.now
    (subst (λ (t : source.PackageTree). root_number (placed t) c.args.root.now ≡ Some c.in-Ok.checked.root)
    (sym c.in-Ok.ensures.1) c.in-Ok.ensures.0))
