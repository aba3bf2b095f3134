-- What `self` answers: the line of a ring that ran through its schedule.
use Rattle.std.specs.Prelude.{◌≡◌, ℕ, List}
use Rattle.world_texts.specs.RingResultLines.{ring_text}
use Rattle.pals_top.specs.declared.status.TheConstants.{DONE}

abbrev pub IsRingAnswer : ℕ → ℕ → ℕ → List ℕ → Type 0
IsRingAnswer nodes rounds status text = (status ≡ DONE) × (text ≡ ring_text nodes rounds)
