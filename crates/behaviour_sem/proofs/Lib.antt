pub mod ActionMeanings
pub mod StateIndependence
pub mod TransitionSearch
pub mod StepEnds
pub mod HeldInputs
pub mod GroupedTransitions
