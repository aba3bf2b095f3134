pub mod ExposedCalls
