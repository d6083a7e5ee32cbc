-- What queues, users and nodes use and have, amount by amount.
pub mod Measures
