-- What the theorem of the program does not rest on: definitions of contracts below it, of laws, and of proofs.
pub mod Rounds
pub mod ProductSizes
pub mod ProductStates
pub mod ComponentWiring
pub mod ProductInvariant
pub mod CompositionAgreement
pub mod RenumberedDesigns
pub mod ExchangedCounters
