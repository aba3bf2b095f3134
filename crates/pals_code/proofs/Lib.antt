pub mod BundleAnswers
pub mod LaidOutCodes
