pub mod JsonLists
pub mod SuccessfulResults
pub mod NameSearch
