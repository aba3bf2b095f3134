use Rattle.run_laws.proofs.RunTermination.{each_run_ends, each_goes_on, journals_end, ends_are_named}
use Rattle.run_laws.proofs.laws.each_run_ends.Goals as goal

pub returns : goal.returns
returns c = record { ends = each_run_ends; goes_on = each_goes_on; journals = journals_end; named = ends_are_named }
