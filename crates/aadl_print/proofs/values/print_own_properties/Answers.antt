use Rattle.list_lemmas.proofs.Results.{OnOk-same}
use Rattle.aadl_tree.specs.declared.mark.Mark.TheVariants as k
use Rattle.aadl_tree.specs.proof.PlaceMaps.{no_place}
use Rattle.aadl_print.proofs.NonemptyPropertiesAndSections.{under_some, some_associations}
use Rattle.aadl_print.proofs.values.print_own_properties.Goals as goal

pub returns : goal.returns
returns c =
    OnOk-same c.print_associations.result c.print_associations.new.printer _ _
    (rw (under_some k.Properties _ (some_associations no_place c.args.properties.now c.if-is_empty.ensures))
    (cc (c.in_ok-mark.ensures)))
    c.print_associations.ensures
