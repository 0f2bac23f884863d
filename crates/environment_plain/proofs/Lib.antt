-- Laws of the rows that need no walk.
pub mod Pushing
