pub mod Booleans
pub mod Numbers
pub mod ListOperations
pub mod ElementPositions
pub mod Elements
pub mod PairwiseProperties
pub mod Options
pub mod Results
