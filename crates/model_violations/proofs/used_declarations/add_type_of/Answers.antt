use Rattle.std.proofs.Common.{◌∙◌, sym, ap}
use Rattle.std.specs.Prelude.{◌||◌}
use Rattle.aadl_tree.specs.proof.PackageViews.{placed}
use Rattle.aadl_uses.specs.proof.ImplementationTypes.{type_number_at}
use Rattle.model_violations.specs.IgnoredProperties.{is_number}
use Rattle.model_violations.specs.UsedDeclarations.{has}
use Rattle.model_violations.proofs.NumberSets.{or_untested, or_tested}
use Rattle.model_violations.proofs.used_declarations.add_type_of.Goals as goal

pub returns-in_ok-add_number : goal.returns-in_ok-add_number
returns-in_ok-add_number c = λ n.
    let number = type_number_at (placed c.args.uses.now.names.tree.now) c.args.number in
    or_tested (has c.args.types.now.keys n) (has c.args.used.now.keys c.args.number) (is_number n number) _
    (sym c.contains.ensures ∙ c.if-contains.true)
    (c.in_ok-add_number.ensures n ∙ ap (λ o. has c.args.types.now.keys n || is_number n o) c.type_number.ensures)

pub returns-else-contains : goal.returns-else-contains
returns-else-contains c = λ n.
    let number = type_number_at (placed c.args.uses.now.names.tree.now) c.args.number in
    or_untested (has c.args.types.now.keys n) (has c.args.used.now.keys c.args.number) (is_number n number)
    (sym c.contains.ensures ∙ c.if-contains.false)
