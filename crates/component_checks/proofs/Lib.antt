pub mod NamedAssociations
pub mod TimesWithinAnHour
pub mod SingleTexts
pub mod EnumeratedLists
pub mod PropertiesByNumber
