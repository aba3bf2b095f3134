pub mod TokenOrder
pub mod ByteScanLoops
pub mod UniqueTokens
pub mod FrontExtents
pub mod WordSpellings
pub mod AnnexEnds
pub mod FrontSpellings
pub mod TokensAsWritten
