use Rattle.run_laws.proofs.ListRunEndsAndStops.{ends_are_timely, done_are_picked, ended_picks_end, lists_stop}
use Rattle.run_laws.proofs.laws.lists_are_timely.Goals as goal

pub returns : goal.returns
returns c = record { end = ends_are_timely; done = done_are_picked; ended = ended_picks_end; stops = lists_stop }
