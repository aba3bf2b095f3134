pub mod ClockStates
