use Rattle.std.proofs.Common.{ap, ◌∙◌}
use Rattle.aadl_names.specs.proof.NameTables.{value_of}
use Rattle.aadl_names.proofs.NameTables.{at_key}
use Rattle.aadl_names.proofs.name_table.NameTable.value.Goals as goal

pub returns : goal.returns
returns g c =
    c.copied.ensures ∙ (c.get.ensures.value
    ∙ (at_key c.self.inside.values.entries c.in_ok-key.key c.args.name.now c.in_ok-key.ensures
    ∙ ap (λ t. value_of t c.args.name.now) c.self.view_is))
