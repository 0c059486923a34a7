mod Acts
mod Before
mod Parts
