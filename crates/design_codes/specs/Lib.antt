pub mod OverlongCodes
pub mod DesignBehaviours
