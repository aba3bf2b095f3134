pub mod OpeningWorlds
pub mod NodeStandings
pub mod FaultSearch
pub mod SingleCopiesInFlight
pub mod EventEffects
pub mod RefusalsForMemoryAlone
pub mod EventLists
