-- Where the controller can stay.
pub mod Stay
