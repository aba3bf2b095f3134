pub mod ListsOfOptions
pub mod ThreadSizeLimits
pub mod CachedBehaviours
