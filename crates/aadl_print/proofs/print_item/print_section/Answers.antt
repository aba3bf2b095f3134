use Rattle.list_lemmas.proofs.Results.{OnOk-same}
use Rattle.aadl_print.proofs.NonemptyPropertiesAndSections.{under_some, some_parts}
use Rattle.aadl_print.proofs.print_item.print_section.Goals as goal

pub returns : goal.returns
returns g c =
    OnOk-same c.print_all.result c.print_all.new.printer _ _
    (rw (under_some c.args.word _
    (some_parts g.T.PrintItem.parts g.T.PrintItem.tree c.requires c.args.items.now c.if-is_empty.ensures))
    (cc (c.in_ok-mark.ensures)))
    c.print_all.ensures
