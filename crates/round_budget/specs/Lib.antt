pub mod Budgets
pub mod BudgetText
pub mod ClockedService
pub mod ResponseTimes
pub mod proof
