-- Drawing: the component's rows. Tests: whether it is accepting.
pub mod Drawing
pub mod Tests
