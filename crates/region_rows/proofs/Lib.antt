-- Laws of the region's rows.
pub mod Order
pub mod Down
pub mod Rows
