pub mod RuleLists
pub mod SessionCommands
pub mod RegistryCommands
pub mod Expecting
pub mod Commands
pub mod Outcomes
pub mod Replies
