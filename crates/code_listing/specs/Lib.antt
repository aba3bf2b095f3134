pub mod Listings
pub mod NumberRanges
pub mod proof
