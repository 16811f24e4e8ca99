pub mod Allowances
pub mod Lists
pub mod Life
pub mod Table
pub mod Inventory
