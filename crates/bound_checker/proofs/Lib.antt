pub mod DivisorsAndMultiples
pub mod RateMultiples
