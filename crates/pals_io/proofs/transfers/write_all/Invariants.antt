use Rattle.std.proofs.Common.{◌≡◌, ◌≤◌, ◌-◌, length, take}
use Rattle.pals_io.specs.SourcesAndSinks.{after_taking}
use Rattle.pals_io.proofs.transfers.write_all.Given as goal

-- the first `done` bytes were accepted; without bytes no call was made
abbrev pub invariant-loop-done : goal.invariant-loop-done
invariant-loop-done g l = record {
  within : l.done ≤ length l.bytes;
  taken : g.K.Sink.shown l.sink ≡ after_taking (g.K.Sink.shown l.fn.sink) (take l.done l.bytes);
  untouched : l.done ≡ 0 → l.sink ≡ l.fn.sink;
}

abbrev pub decreases-loop-done : goal.decreases-loop-done
decreases-loop-done g l = length l.bytes - l.done
