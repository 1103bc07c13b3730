pub mod NoOptions
pub mod Escapes
pub mod Classes
pub mod Widening
pub mod inner
