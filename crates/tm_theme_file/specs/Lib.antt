pub mod Written
pub mod Wrong
pub mod Read
