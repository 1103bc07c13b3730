pub mod Orders
pub mod Parts
pub mod Small
pub mod Utf8Values
pub mod Strongest
pub mod Lookups
pub mod BucketSteps
pub mod Known
