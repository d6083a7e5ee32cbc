-- The order in which proposals are served.
pub mod Orders
