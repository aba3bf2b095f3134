use Rattle.run_laws.proofs.RunTraces.{runs_are_sound, traces_are_texts}
use Rattle.run_laws.proofs.laws.runs_are_sound.Goals as goal

pub returns : goal.returns
returns c = record { trace = runs_are_sound; text = traces_are_texts }
