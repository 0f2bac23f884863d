-- Laws of ways out.
pub mod Leaving
