pub mod InstanceDesigns
pub mod PackageDesigns
pub mod proof
