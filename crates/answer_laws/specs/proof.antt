-- What the theorem of the program does not rest on: definitions of contracts below it, of laws, and of proofs.
pub mod BundleContents
pub mod RunAnswers
pub mod ExistingAnswers
pub mod BooleansInRuns
pub mod ExistencePremises
pub mod UniquenessPremises
