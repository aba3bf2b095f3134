use Rattle.std.proofs.Common.{List, [], map, sym, subst, ◌∙◌}
use Rattle.std.proofs.lemmas.List.{take_all}
use Rattle.aadl_tree.specs.proof.PackageViews.{placed}
use Rattle.aadl_tree.specs.proof.DeclarationViews.{declaration_view}
use Rattle.aadl_tree.specs.proof.PlaceMaps.{kept_place}
use Rattle.name_faults.specs.declared.port_name_tables.PortNames.{PortNames}
use Rattle.name_faults.specs.proof.TypePortNames.{AreNamesOf, AreAllNamesOf}
use Rattle.name_faults.proofs.TypePortNames.{AreNamed, next_named, each_named}
use Rattle.name_faults.proofs.port_name_tables.all_port_names.Goals as goal

pub loop-declaration-init : goal.loop-declaration-init
loop-declaration-init c = subst (AreNamed []) (sym c.new-of_declarations.ensures) (tt {0})

pub loop-declaration-preserved : goal.loop-declaration-preserved
loop-declaration-preserved c =
    next_named (declaration_view kept_place) c.deref-declaration-items.result.now c.loop-declaration.declaration-index
    c.declaration-item.result _ _
    c.in_ok-port_names.field-0
    c.loop-declaration-test.true c.declaration-item.is c.in_ok-push.ensures.ok c.loop-declaration.invariant
    (subst (λ ports. AreNamesOf ports c.in_ok-port_names.field-0) c.ports_in.ensures c.in_ok-port_names.ensures)

pub returns : goal.returns
returns c =
    subst (λ (ns : List PortNames).
    AreAllNamesOf (placed c.args.tree.now) (record { of_declarations = ns; none = c.in_ok-port_names-2.field-0 }))
    (sym c.of_declarations-2.view_is)
    (each_named (placed c.args.tree.now) _
    (subst (λ ds. AreNamed (map (declaration_view kept_place) ds) c.loop-declaration.of_declarations)
    (take_all c.loop-declaration.declaration-index c.deref-declaration-items.result.now c.loop-declaration-test.false
    ∙ c.deref-declaration-items.ensures.value) c.loop-declaration.invariant)
    c.in_ok-port_names-2.ensures)
