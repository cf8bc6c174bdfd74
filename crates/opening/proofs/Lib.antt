-- `Begins`: what an opening comes to. `Leading`: what the lines lead to. `Determined`: the text fixes it.
pub mod Begins
pub mod Leading
pub mod Determined
