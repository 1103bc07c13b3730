pub mod Fresh
pub mod Orders
pub mod Posted
pub mod Working
pub mod inner
