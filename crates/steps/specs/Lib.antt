pub mod Turning
pub mod Acting
