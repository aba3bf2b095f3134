use Rattle.std.proofs.Common.{◌∙◌, refl, ap, map, length, arith}
use Rattle.std.specs.List.{flat_map}
use Rattle.std.specs.Slice.Iter.{iter_rest}
use Rattle.std.specs.Iterator.Adapters.{zip_first, zip_second}
use Rattle.std.proofs.lemmas.List.{length_push, length-map}
use Rattle.std.proofs.lemmas.Slice.Zip.{zip_turn, zip_end}
use Rattle.aadl_tree.specs.proof.PackageViews.{placed}
use Rattle.aadl_tree.specs.proof.DeclarationViews.{implementation_view, connection_view}
use Rattle.aadl_tree.specs.proof.PlaceMaps.{kept_place}
use Rattle.aadl_names.specs.PackageNameFaults.{connection_faults}
use Rattle.aadl_names.proofs.FirstFaultSoFar.{next_found, last_found}
use Rattle.aadl_uses.specs.PortsOfConnections.{ports_of_connection}
use Rattle.name_faults.proofs.FaultsByDeclaration.{made_of}
use Rattle.name_faults.proofs.NumberedImplementations.{wires_are, joined}
use Rattle.name_faults.proofs.connections.check_connections.Goals as goal

pub loop-connection-preserved : goal.loop-connection-preserved
loop-connection-preserved c =
    let tree = placed c.args.wires.now.uses.names.tree.now in
    let x = implementation_view kept_place c.args.x.now in
    let faults = connection_faults tree x in
    let view = connection_view kept_place in
    let gives = c.into_iter-connection-iterator.ensures.into_iter_gives in
    let first = ap (λ z. iter_rest (zip_first z)) gives ∙ ap iter_rest c.zip-connection-items.ensures.first
    ∙ c.iter.ensures.rest ∙ c.deref.ensures.value in
    let second = ap (λ z. iter_rest (zip_second z)) gives ∙ c.zip-connection-items.ensures.second.0
    ∙ c.wires.ensures ∙ wires_are tree c.args.number x c.requires in
    let turn =
    zip_turn _ _ c.loop-connection.yielded c.into_iter-connection-iterator.result
    c.loop-connection.connection-iterator
    c.next.new.self c.next.result first second c.loop-connection.yielded_by _ c.in-Some.is c.next.ensures.steps in
    let is = turn.2 c.in-Some.connection.now in
    let wire_is = made_of view (ports_of_connection tree x) c.args.x.now.connections.items
    (length c.loop-connection.yielded)
    c.in-Some.connection.now c.in-Some.wire.now turn.0 is turn.3 in
    rw (length_push c.loop-connection.yielded _)
    (next_found (λ xs. flat_map faults (map view xs)) (λ a. faults (view a)) (λ a xs. refl) _ _ _ _ _ _ turn.0 is
    c.loop-connection.invariant
    (joined tree x (view c.in-Some.connection.now) c.in-Some.wire.now wire_is _ _ _ _
    (c.with_direction-source.ensures x c.requires)
    (c.with_direction-target.ensures x c.requires) c.in_ok-check_connection.ensures))

pub returns : goal.returns
returns c =
    let tree = placed c.args.wires.now.uses.names.tree.now in
    let x = implementation_view kept_place c.args.x.now in
    let view = connection_view kept_place in
    let gives = c.into_iter-connection-iterator.ensures.into_iter_gives in
    let first = ap (λ z. iter_rest (zip_first z)) gives ∙ ap iter_rest c.zip-connection-items.ensures.first
    ∙ c.iter.ensures.rest ∙ c.deref.ensures.value in
    let second = ap (λ z. iter_rest (zip_second z)) gives ∙ c.zip-connection-items.ensures.second.0
    ∙ c.wires.ensures ∙ wires_are tree c.args.number x c.requires in
    let all =
    zip_end _ _ c.loop-connection.yielded c.into_iter-connection-iterator.result
    c.loop-connection.connection-iterator
    c.next.new.self c.next.result first second c.loop-connection.yielded_by c.in-None.is c.next.ensures.steps in
    let many = length-map x.connections (ports_of_connection tree x) ∙ length-map c.args.x.now.connections.items view in
    last_found (λ xs. flat_map (connection_faults tree x) (map view xs)) c.args.x.now.connections.items
    (length c.loop-connection.yielded) _ _
    (omega (arith, all, many)) refl c.loop-connection.invariant
