pub mod Audit
pub mod Onward
pub mod Input
pub mod Reading
