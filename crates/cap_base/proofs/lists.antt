-- Lists: members, filters, sums and padding; and the Boolean tests and options that go with them.
pub mod Filters
pub mod Members
pub mod Padding
pub mod Sums
pub mod Tests
