use Rattle.pals_clock.specs.declared.clock.Clocks.TheVariants.{Meet}
use Rattle.run_laws.proofs.MeetingReadings.{below_in}
use Rattle.run_laws.proofs.RisingReadings.{readings_rise}
use Rattle.run_laws.proofs.laws.readings_rise.Goals as goal

pub returns : goal.returns
returns c = record {
  lines = readings_rise;
  hour =
      λ run journal s rules runs node within other least is.
      below_in run Meet journal s rules runs other node least within is;
}
