-- `Waits`: one line over the room.
pub mod Waits
