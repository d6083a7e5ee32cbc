mod Prelude
pub mod Lengths
pub mod ListLaws
pub mod Appends
pub mod SpelledBytes
pub mod FieldLaws
pub mod VersionLaws
pub mod ShownLaws
pub mod RequestKinds
pub mod ReplyKinds
pub mod RequestLaws
pub mod ItemLaws
pub mod ReplyLaws
