-- Definitions of laws.
pub mod ListingInjectivity
