-- What the theorem of the program does not rest on: definitions of contracts below it, of laws, and of proofs.
pub mod StepCodesOfNodes
pub mod OutOfRangeDefaults
pub mod NodeLists
pub mod BusInvariant
pub mod RefusalCauses
pub mod Answers
pub mod DueQueues
pub mod DueMessages
pub mod RoundMessages
pub mod LinksFromNodes
pub mod Codes
pub mod Meeting
pub mod LooseStopsAndFaults
pub mod OpeningNodes
pub mod LeastTargets
pub mod FlightUpdates
