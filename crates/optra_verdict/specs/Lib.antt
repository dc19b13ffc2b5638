-- The verdict on a certificate's bytes, and the families of rows and the promise that it speaks of.
pub mod FamilyOf
pub mod Families
pub mod Promises
pub mod VerdictsOn
pub mod CheckCommand
pub mod OneVerdict
