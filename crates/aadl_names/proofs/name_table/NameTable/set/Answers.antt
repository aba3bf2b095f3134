use Rattle.std.proofs.Common.{Some, ap, ◌∙◌, cond}
use Rattle.aadl_names.specs.proof.NameTables.{value_of}
use Rattle.aadl_tree.specs.Names.{same_name}
use Rattle.aadl_names.proofs.NameTables.{value-set}
use Rattle.aadl_names.proofs.name_table.NameTable.set.Goals as goal

pub returns : goal.returns
returns g c = λ other.
    value-set c.self.inside.values.entries c.insert.new.self.entries c.in_ok-key.key c.args.name.now c.args.value
    c.in_ok-key.ensures c.in_ok-insert.ensures.updates.0 other
    ∙ ap (λ t. cond (same_name other c.args.name.now) (Some c.args.value) (value_of t other)) c.self.view_is
