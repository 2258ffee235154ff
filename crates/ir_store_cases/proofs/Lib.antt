mod Points
mod Held
