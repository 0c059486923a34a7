pub mod Draft
pub mod Size
