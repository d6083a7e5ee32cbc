pub mod Answering
pub mod Beating
mod Prelude
pub mod Refusing
pub mod SettingLines
