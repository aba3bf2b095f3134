use Rattle.std.proofs.Common.{◌≡◌, ℕ, ◌<◌, ◌++◌, length, map, drop, get_or}
use Rattle.std.specs.List.{enumerate_from}
use Rattle.pals_model.specs.RoundTexts.{taps_before}
use Rattle.pals_report.specs.proof.TapPlaces.{tap_places}
use Rattle.pals_report.proofs.TapPlacesAndCounts.{place_in}
use Rattle.pals_report.proofs.tap_places.places_of.Given as goal

-- the number of taps so far of each source; the indices so far, and the indices of the remaining taps
abbrev pub invariant-loop-tap : goal.invariant-loop-tap
invariant-loop-tap l = record {
  long : length l.counts.items ≡ l.nodes;
  counts : (node : ℕ) → node < l.nodes → get_or l.counts.items node 0 ≡ taps_before l.taps l.tap-index node;
  places : l.places ++ map (place_in l.taps) (enumerate_from l.tap-index (drop l.tap-index l.taps)) ≡ tap_places l.taps;
}
