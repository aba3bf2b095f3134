use Rattle.std.proofs.Common.{◌∙◌, Option, Some, sym, ap, option_map}
use Rattle.aadl_tree.specs.declared.declarations.Direction.{Direction}
use Rattle.aadl_tree.specs.proof.PackageViews.{placed}
use Rattle.aadl_names.specs.declared.numbered_port.NumberedPort.{NumberedPort}
use Rattle.aadl_names.specs.NameResolution.{with_direction}
use Rattle.name_faults.proofs.connections.with_direction.Goals as goal

pub returns : goal.returns
returns c = λ x stands.
    let pair : Option Direction → Option (NumberedPort × Option Direction) = λ d. Some (c.in_ok-site.site, d) in
    ap pair (c.direction_of.ensures x stands)
    ∙ sym (ap (option_map (with_direction (placed c.args.uses.now.names.tree.now) x)) c.in_ok-site.was)
