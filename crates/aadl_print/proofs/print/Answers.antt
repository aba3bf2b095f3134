use Rattle.aadl_tree.specs.proof.PackageViews.{meaning}
use Rattle.aadl_print.proofs.CanonicalText.{finished}
use Rattle.aadl_print.proofs.print.Goals as goal

pub returns : goal.returns
returns c =
    let whole =
    finished c.new-printer.result c.print_package.new.printer (meaning c.args.tree.now) c.new-printer.ensures
    c.in_ok-print_package.ensures in
    rw whole at c.finish.ensures
