-- Requirements that are due or served in components, told of sets.
pub mod Dues
