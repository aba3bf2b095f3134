mod SenderTimes
pub mod ExactBounds
pub mod ShortPeriodStops
