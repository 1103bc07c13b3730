mod Depths
mod Large
mod Misfits
pub mod Mapped
pub mod Lookups
mod Utf8Values
