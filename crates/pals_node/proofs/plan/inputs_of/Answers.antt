use Rattle.std.proofs.Common.{◌≡◌, ◌∙◌, ◌++◌, ℕ, List, [], length, map, drop, slice_index_or, sym, ap, arith}
use Rattle.std.proofs.lemmas.List.{append-nil, drop_all}
use Rattle.std.proofs.lemmas.Option.{slice_get-get_or}
use Rattle.list_lemmas.proofs.ListOperations.{length-map_enumerate_from}
use Rattle.pals_model.specs.declared.design.Component.{Component}
use Rattle.pals_model.specs.declared.port_sources.PortSource.{PortSource}
use Rattle.pals_model.specs.ComponentInputs.{sources_of}
use Rattle.bus_machine.specs.Plans.{component_at, no_component, input_of}
use Rattle.bus_machine.proofs.ListsAndOldestCopies.{numbered_at}
use Rattle.pals_node.proofs.plan.inputs_of.Goals as goal

pub index-requires : goal.index-requires
index-requires c =
    let design = c.args.design.now in
    let f : ℕ × Component → List PortSource = λ numbered. sources_of design numbered.0 numbered.1 in
    let count : length c.in_ok-table.table ≡ length design.components = ap length c.in_ok-table.ensures
    ∙ length-map_enumerate_from f 0 design.components in
    let within = c.requires in
    omega arith

pub returns : goal.returns
returns c =
    let design = c.args.design.now in
    let node = c.args.node.0 in
    let f : ℕ × Component → List PortSource = λ numbered. sources_of design numbered.0 numbered.1 in
    let items = c.as_slice-source-items.result.now in
    let is_c = slice_get-get_or design.components node no_component c.requires in
    let row : items ≡ sources_of design node (component_at design node)
    = c.as_slice-source-items.ensures.value
    ∙ c.index.ensures
    ∙ ap (λ table. slice_index_or table node c.index.result.now) c.in_ok-table.ensures
    ∙ numbered_at f design.components node (component_at design node) c.index.result.now is_c in
    let none : drop c.loop-source.source-index items ≡ [] = drop_all c.loop-source.source-index items (omega arith) in
    sym (append-nil c.loop-source.inputs)
    ∙ ap (λ left. c.loop-source.inputs ++ map (input_of design) left) (sym none)
    ∙ c.loop-source.invariant
    ∙ ap (map (input_of design)) row
