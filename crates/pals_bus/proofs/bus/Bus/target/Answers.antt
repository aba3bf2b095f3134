use Rattle.std.proofs.Common.{◌≡◌, ◌∙◌, refl, sym}
use Rattle.pals_bus.specs.proof.BusInvariant.{value_of}
use Rattle.pals_bus.proofs.NodeTargets.{target_listed, within_list, all_listed}
use Rattle.pals_bus.proofs.bus.Bus.target.Goals as goal

pub returns : goal.returns
returns c =
    let f = c.self.inside.fields in
    let b = c.args.self.now in
    let targets = c.targets.result.now in
    let node = c.args.node.0 in
    let shows : value_of f ≡ b = c.self.view_is in
    let are = c.targets.ensures in
    let there = within_list f targets node are (all_listed f b targets node c.self.invariant shows are c.requires) in
    c.target.ensures ∙ sym (target_listed f b targets node _ c.self.invariant shows are there refl)
