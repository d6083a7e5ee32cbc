-- Parts of a list, and tables of numbered items.
pub mod Parts
pub mod Tables
