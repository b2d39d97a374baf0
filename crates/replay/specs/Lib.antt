pub mod Replays
pub mod Changes
