pub mod Amounts
pub mod Faults
pub mod Table
