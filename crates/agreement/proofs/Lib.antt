mod Acting
mod Back
mod Fronts
mod HandedOn
mod Inversions
mod Leasts
mod Meant
mod Ordered
mod Parts
mod Peeks
mod Rates
mod RatesAt
pub mod Readable
pub mod Sizes
mod Sound
mod Verdicts
mod Walking
mod Written
