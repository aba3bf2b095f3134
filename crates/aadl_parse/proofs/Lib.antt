pub mod CategoryMoves
pub mod ParseResults
pub mod UniqueParseResults
pub mod AnnexProgress
