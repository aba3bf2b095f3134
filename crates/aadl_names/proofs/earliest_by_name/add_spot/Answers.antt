use Rattle.std.proofs.Common.{sym, ◌∙◌, ap}
use Rattle.std.proofs.lemmas.Result.{on_ok_weaker}
use Rattle.aadl_names.specs.proof.EarliestDeclarations.{is_sooner}
use Rattle.aadl_names.proofs.EarliestDeclarations.{spot_set, spot_kept}
use Rattle.aadl_names.proofs.earliest_by_name.add_spot.Goals as goal

pub returns-then-is_sooner : goal.returns-then-is_sooner
returns-then-is_sooner c =
    on_ok_weaker c.set.result
    (spot_set c.args.table.now c.set.new.self c.args.name.now c.args.spot
    (ap (is_sooner c.args.spot) (sym c.in_ok-earliest.ensures) ∙ (sym c.is_sooner.ensures ∙ c.if-is_sooner.true)))
    c.set.ensures

pub returns-else-is_sooner : goal.returns-else-is_sooner
returns-else-is_sooner c =
    spot_kept c.args.table.now c.args.name.now c.args.spot
    (ap (is_sooner c.args.spot) (sym c.in_ok-earliest.ensures) ∙ (sym c.is_sooner.ensures ∙ c.if-is_sooner.false))
