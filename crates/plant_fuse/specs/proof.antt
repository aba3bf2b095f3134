-- What the theorem of the program does not rest on: definitions of contracts below it, of laws, and of proofs.
pub mod SolutionConfiguration
pub mod FusedLaws
pub mod CounterPlant
pub mod RoundEquations
pub mod Fusibility
pub mod PartnersAndPairLinks
pub mod DesignTables
pub mod PairSteps
pub mod RoundWork
pub mod TakenElements
pub mod Messages
pub mod FuseState
pub mod ProductInvariant
