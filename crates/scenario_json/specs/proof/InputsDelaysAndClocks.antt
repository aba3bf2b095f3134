-- The invariants of the inputs, delays and clocks of a parsed scenario, for a design.
use Rattle.std.specs.Prelude.{ℕ, ◌≡◌, ◌<◌, ◌≤◌, List, length, All}
use Rattle.std.specs.List.Sorted.{IsNonDecreasing}
use Rattle.pals_base.specs.declared.limits.TheConstants.{HOUR, READING}
use Rattle.pals_base.specs.declared.basic_types.PortValue.{PortValue}
use Rattle.pals_clock.specs.ClockStates.{ClockState, unpicked}
use Rattle.pals_clock.specs.declared.clock.Clocks.{Clocks}
use Rattle.pals_clock.specs.declared.clock.Clocks.TheVariants.{Meet, Lists}
use Rattle.pals_model.specs.declared.design.DesignParts.{DesignParts}
use Rattle.pals_model.specs.ComponentInputs.{root_inputs}

-- a list of values for each root in port
abbrev pub AreInputsOf : DesignParts → List (List PortValue) → Type 0
AreInputsOf design lists = length lists ≡ length (root_inputs design)

-- one or more delays of at most one hour
pub record IsDelayList (delays : List ℕ) : Type 0 where
  pub some : 0 < length delays
  pub within : All (λ n. n ≤ HOUR) delays

-- such a list for each link
pub record AreDelaysOf (design : DesignParts) (lists : List (List ℕ)) : Type 0 where
  pub links : length lists ≡ length design.links
  pub each : All IsDelayList lists

-- a clock before its first selection, whose readings are in range and never decrease
pub record IsUnpickedClock (clock : ClockState) : Type 0 where
  pub unpicked_yet : clock ≡ unpicked clock.readings
  pub within : All (λ n. n ≤ READING) clock.readings
  pub order : IsNonDecreasing clock.readings

-- such a clock for each component, if nodes have their own clocks
pub record AreClocksOf (design : DesignParts) (clocks : List ClockState) : Type 0 where
  pub components : length clocks ≡ length design.components
  pub each : All IsUnpickedClock clocks

abbrev pub AreClocksFor : DesignParts → Clocks → Type 0
AreClocksFor design Meet = Unit {0}
AreClocksFor design (Lists clocks) = AreClocksOf design clocks
