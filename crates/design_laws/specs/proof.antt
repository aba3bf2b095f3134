-- Definitions that the program's theorem does not depend on: the contracts of its parts, laws, and proofs use them.
pub mod FittingAnnexNames
pub mod PackageNames
pub mod ThreadBehaviours
pub mod AcceptedInstances
pub mod PortKinds
pub mod FirstFaultOrInstance
pub mod ReachOrderAndPaths
pub mod SoundPackages
