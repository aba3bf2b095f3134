-- What the theorem of the program does not rest on: definitions of contracts below it, of laws, and of proofs.
pub mod Schedules
pub mod CounterSchedulesAndFaults
pub mod ScheduleLaws
pub mod EventSeries
pub mod RingLaws
