-- Laws for the view.
pub mod Range
