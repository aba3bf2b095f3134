use Rattle.std.proofs.Common.{refl}
use Rattle.std.specs.Fmt.{digits}
use Rattle.step_compiler.specs.proof.CompiledCode.{compiled}
use Rattle.round_budget.proofs.laws.turn_is_budgeted.Goals as goal

pub returns : goal.returns
unfolding digits compiled
returns c = record {
  compiled = refl;
  fits = (refl, refl);
  over = (refl, refl);
  slots = refl;
  written = refl;
  written_over = (refl, refl);
}
