use Rattle.std.proofs.Common.{◌↔◌, IfOk, IsTrue, subst, sym}
use Rattle.aadl_tree.specs.proof.PackageViews.{placed}
use Rattle.aadl_instance.specs.declared.limits.Limit.{Limit}
use Rattle.aadl_instance.specs.proof.Limits.{IsExceeded}
use Rattle.aadl_instance.proofs.limits.is_passed.Goals as goal

pub returns-in-Components : goal.returns-in-Components
returns-in-Components c =
    subst (λ (l : Limit). IfOk c.has_too_many_threads.result
    (λ passed. IsTrue passed ↔ IsExceeded (placed c.args.wires.now.uses.names.tree.now) c.args.root l))
    (sym c.in-Components.is) c.has_too_many_threads.ensures

pub returns-in-Links : goal.returns-in-Links
returns-in-Links c =
    subst (λ (l : Limit). IfOk c.has_too_many_links.result
    (λ passed. IsTrue passed ↔ IsExceeded (placed c.args.wires.now.uses.names.tree.now) c.args.root l))
    (sym c.in-Links.is) c.has_too_many_links.ensures

pub returns-in-Ports : goal.returns-in-Ports
returns-in-Ports c =
    subst (λ (l : Limit). IsTrue c.has_too_many.result
    ↔ IsExceeded (placed c.args.wires.now.uses.names.tree.now) c.args.root l)
    (sym c.in-Ports.is) (c.has_too_many.ensures.below c.args.root c.requires.used)

pub returns-in-Variables : goal.returns-in-Variables
returns-in-Variables c =
    subst (λ (l : Limit). IsTrue c.has_too_many-in-Variables.result
    ↔ IsExceeded (placed c.args.wires.now.uses.names.tree.now) c.args.root l)
    (sym c.in-Variables.is) (c.has_too_many-in-Variables.ensures.below c.args.root c.requires.used)

pub returns-in-States : goal.returns-in-States
returns-in-States c =
    subst (λ (l : Limit). IsTrue c.has_too_many-in-States.result
    ↔ IsExceeded (placed c.args.wires.now.uses.names.tree.now) c.args.root l)
    (sym c.in-States.is) (c.has_too_many-in-States.ensures.below c.args.root c.requires.used)

pub returns-in-Path : goal.returns-in-Path
returns-in-Path c =
    subst (λ (l : Limit). IfOk c.has_too_long_path.result
    (λ passed. IsTrue passed ↔ IsExceeded (placed c.args.wires.now.uses.names.tree.now) c.args.root l))
    (sym c.in-Path.is) c.has_too_long_path.ensures
