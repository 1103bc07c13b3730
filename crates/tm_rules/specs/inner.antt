pub mod Flows
pub mod Keyed
pub mod Lists
pub mod Made
pub mod Tasks
pub mod Walk
