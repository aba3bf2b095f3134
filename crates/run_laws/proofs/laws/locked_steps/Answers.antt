use Rattle.run_laws.proofs.ClockAnswersAndDueArrivals.{list_picks, list_ends, due_arrives}
use Rattle.run_laws.proofs.EndedListClocks.{stays_ended}
use Rattle.run_laws.proofs.laws.locked_steps.Goals as goal

pub returns : goal.returns
returns c = record { picks = list_picks; ends = list_ends; stay = stays_ended; due = due_arrives }
