use Rattle.std.proofs.Common.{Some, None, refl, sym, ap, ◌∙◌, cond, option_copied}
use Rattle.std.specs.Option.{option_or}
use Rattle.aadl_names.specs.proof.NameTables.{value_of}
use Rattle.aadl_tree.specs.Names.{same_name}
use Rattle.aadl_names.proofs.NameTables.{at_key, value-set, value-added, value-kept, found_none, found_some}
use Rattle.aadl_names.proofs.name_table.NameTable.add.Goals as goal

pub returns-in_ok-insert : goal.returns-in_ok-insert
returns-in_ok-insert g c =
    let none =
    found_none option_copied refl c.get.result _ c.is_none.result c.is_none.ensures c.get.ensures.value
    c.if-is_none.true in
    let absent =
    sym (at_key c.self.inside.values.entries c.in_ok-key.key c.args.name.now c.in_ok-key.ensures) ∙ none in
    λ other. value-set c.self.inside.values.entries c.insert.new.self.entries c.in_ok-key.key c.args.name.now
    c.args.value c.in_ok-key.ensures c.in_ok-insert.ensures.updates.0 other
    ∙ (value-added c.self.inside.values.entries c.args.name.now c.args.value absent other
    ∙ ap (λ t. option_or (value_of t other) (cond (same_name other c.args.name.now) (Some c.args.value) None))
    c.self.view_is)

pub returns-else-is_none : goal.returns-else-is_none
returns-else-is_none g c =
    let some =
    found_some option_copied (λ b. (b.now, refl)) c.get.result _ c.is_none.result c.is_none.ensures
    c.get.ensures.value c.if-is_none.false in
    value-kept c.args.self.now c.args.name.now c.args.value some.0
    (ap (λ t. value_of t c.args.name.now) (sym c.self.view_is)
    ∙ (sym (at_key c.self.inside.values.entries c.in_ok-key.key c.args.name.now c.in_ok-key.ensures)
    ∙ some.1))
