-- What the invariants of the counts cite, and the sets in file order.
pub mod Below
pub mod Numbered
pub mod Outlined
