-- `FactLaws`: what a line of a model says, and storing it. `FactWalk`: the walk over the facts. `Ends`: the size line, and the end.
pub mod FactLaws
pub mod FactWalk
pub mod Ends
