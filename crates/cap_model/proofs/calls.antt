-- What calls change of asks.
pub mod KeptAsks
