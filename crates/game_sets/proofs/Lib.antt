-- Laws of the sets of requirements in one list.
pub mod Listing
