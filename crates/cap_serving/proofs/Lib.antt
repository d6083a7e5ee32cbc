mod Prelude
mod Receipts
mod Answering
mod Streams
mod Rounds
mod Together
