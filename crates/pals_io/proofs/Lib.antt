pub mod RepeatedTransfers
