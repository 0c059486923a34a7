pub mod Amount
pub mod Corner
pub mod Known
pub mod Form
pub mod Less
pub mod Least
