-- How long messages take on their links.
use Rattle.std.specs.Prelude.{◌≡◌, ◌-◌, ◌<◌, ◌≤◌, ℕ, List, [], length, All, min, slice_index_or}
use Rattle.pals_base.specs.declared.limits.TheConstants.{HOUR}
use Rattle.pals_model.specs.declared.delays.Delays.{Delays}

-- a list of one or more delays of at most an hour
pub record IsDelayList (list : List ℕ) : Type 0 where
  pub some' : 0 < length list
  pub within : All (λ delay. delay ≤ HOUR) list

-- a list for each link
pub record AreDelays (links : ℕ) (delays : Delays) : Type 0 where
  pub each : length delays.lists ≡ links
  pub lists : All IsDelayList delays.lists

-- the delay of a round: the element of its number, or the last one
abbrev pub delay_in : List ℕ → ℕ → ℕ
delay_in list round = slice_index_or list (min round (length list - 1)) 0

-- the delay of a link's message of a round
abbrev pub delay_of : Delays → ℕ → ℕ → ℕ
delay_of delays link round = delay_in (slice_index_or delays.lists link []) round
