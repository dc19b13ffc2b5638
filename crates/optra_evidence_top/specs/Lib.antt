-- What the words ask for, and what is replied to the contents of the files.
pub mod EvidenceCommand
pub mod Commands
pub mod CommandsLawful
