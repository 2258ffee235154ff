pub mod Ending
pub mod Reaching
pub mod Seeing
pub mod Feeling
pub mod Still
pub mod Tracking
pub mod Tracked
pub mod Usings
pub mod Lasting
pub mod Unlisted
pub mod UserPatternsAlike
pub mod Applying
pub mod Leading
mod Adding
mod BlockEnds
mod Using
mod Climbing
mod Reached
mod Gathering
mod Skipping
mod Journaled
pub mod Noting
pub mod Order
pub mod Works
pub mod Ruling
pub mod Scans
pub mod SameRules
pub mod Comings
pub mod Benches
pub mod Changing
pub mod Cut
pub mod Nearby
pub mod Listed
pub mod Cuts
pub mod Parts
pub mod Edits
pub mod Starts
pub mod Rootless
pub mod Law
pub mod OnlyAt
pub mod Applications
pub mod Attempting
mod Following
mod Beyond
pub mod Traces
