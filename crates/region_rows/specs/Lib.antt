-- What the functions of the region's rows cite.
pub mod Fill
