pub mod HeadsAndTails
pub mod DerivationTrees
pub mod ProductionTrees
pub mod ProductionSoundness
pub mod ProductionCompleteness
pub mod Fates
pub mod PlaceIndependence
pub mod OneTerminalLookahead
pub mod UniquePlacedTrees
pub mod TerminalViews
pub mod WordAndSymbolLexing
pub mod TopSymbolMoves
pub mod PartSequences
pub mod ListLoop
pub mod ReferenceLoop
pub mod SignedQuantities
pub mod ValueAndPropertyLists
pub mod ListSymbols
pub mod DeclarationSections
mod KeywordListMembership
mod RoutesToKeywords
mod OnlyListedKeywords
mod ReachedKeywords
pub mod TokensOrFault
pub mod PlaceFilling
pub mod TreeOrFault
pub mod AdjacencyRules
pub mod StackAdjacency
pub mod ParseTableAdjacency
pub mod PackageAdjacency
pub mod CanonicalTextNesting
pub mod LiteralAndAnnexLexing
pub mod PossibleTerminals
pub mod TerminalRelexing
pub mod TerminalSeparation
pub mod NoAnnexEnds
pub mod TextPiecesAndGaps
pub mod CanonicalTextLexing
pub mod KeywordAndSymbolSpellings
pub mod PossibleLexedTerminals
pub mod CanonicalUtf8
pub mod CanonicalRoundTrip
pub mod ParserFaults
pub mod ListAnswers
