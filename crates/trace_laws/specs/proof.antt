-- What the theorem of the program does not depend on: definitions of proofs.
pub mod PutOffArrivals
