-- What a command is, how a run of one ends, and which input is answered; and what the tables among a command's files mean.
pub mod Statuses
pub mod Files
pub mod Versions
pub mod VersionsTold
pub mod ContentsGot
pub mod Puts
pub mod Replies
pub mod Commands
pub mod Gets
pub mod Outside
pub mod Ending
pub mod Faults
pub mod CommandLaws
pub mod TableFiles
pub mod TablesRead
