pub mod Codes
pub mod Platforms
pub mod PlatformLemmas
pub mod PlatformTexts
pub mod PlatformTextLemmas
