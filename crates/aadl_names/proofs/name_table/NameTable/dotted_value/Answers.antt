use Rattle.std.proofs.Common.{ap, ◌∙◌, ◌++◌, codes}
use Rattle.aadl_names.specs.proof.NameTables.{value_of}
use Rattle.aadl_names.proofs.NameTables.{at_key}
use Rattle.aadl_names.proofs.name_table.NameTable.dotted_value.Goals as goal

pub returns : goal.returns
returns g c =
    let name = c.args.first.now ++ codes "." ++ c.args.second.now in
    c.copied.ensures ∙ (c.get.ensures.value
    ∙ (at_key c.self.inside.values.entries c.in_ok-key.key name c.in_ok-key.ensures
    ∙ ap (λ t. value_of t name) c.self.view_is))
