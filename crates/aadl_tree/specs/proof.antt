-- Definitions that the program's theorem does not depend on: the contracts of its parts, laws, and proofs use them.
pub mod MarkNumbers
pub mod MarksByFirstByte
pub mod PlaceMaps
pub mod ExampleSpellings
pub mod SpellingBytes
pub mod NameViews
pub mod ValueViews
pub mod ExpressionViews
pub mod ActionViews
pub mod DeclarationViews
pub mod BehaviourFaultPlaces
pub mod PackageViews
pub mod EmptyPackage
pub mod AnnexViews
pub mod TreesOfSomeText
pub mod ExampleTokensAndTerminals
