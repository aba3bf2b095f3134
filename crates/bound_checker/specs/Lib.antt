pub mod LeastMultiples
pub mod proof
