-- `Arrays`: what a model's arrays mean. `Shown`: what a model shows. `Told`: what the lines told so far say.
pub mod Arrays
pub mod Shown
pub mod Told
