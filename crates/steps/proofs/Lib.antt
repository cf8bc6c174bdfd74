-- `StepLaws`: a line of the steps as a step, and its rows. `StepWalk`: what the next line comes to.
pub mod StepLaws
pub mod StepWalk
