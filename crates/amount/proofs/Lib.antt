mod Corners
mod Dots
mod Filled
mod Growing
mod Lack
mod Lessened
mod Places
pub mod Ranges
