pub mod PrintedLists
pub mod NonemptyPropertiesAndSections
pub mod CanonicalText
pub mod CanonicalReparse
