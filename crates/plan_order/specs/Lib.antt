-- The ordering that is drawn: the scan's edge, and one vertex after the other.
pub mod Order
pub mod Inner
