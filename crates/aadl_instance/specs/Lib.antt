pub mod BehaviourSizes
pub mod Faults
pub mod InstancesByPaths
pub mod InstancesByNumbers
pub mod proof
