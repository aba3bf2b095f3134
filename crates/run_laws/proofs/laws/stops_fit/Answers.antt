use Rattle.run_laws.proofs.StartAndSendReadings.{all_times_fit}
use Rattle.run_laws.proofs.StopCauses.{stops_fit}
use Rattle.run_laws.proofs.laws.stops_fit.Goals as goal

pub returns : goal.returns
returns c =
    record {
      times = λ run clocks journal s rules runs node within.
          all_times_fit run clocks journal s node rules runs within;
      stops = stops_fit;
    }
