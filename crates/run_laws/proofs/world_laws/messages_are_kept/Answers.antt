use Rattle.run_laws.proofs.WorldMessageWhereabouts.{messages_stand_once}
use Rattle.run_laws.proofs.KeptWorldInvariant.{arrivals_are_kept, counts_are_close}
use Rattle.run_laws.proofs.world_laws.messages_are_kept.Goals as goal

pub returns : goal.returns
returns c = record { once = messages_stand_once; arrivals = arrivals_are_kept; counts = counts_are_close }
