-- Laws of the attempts.
pub mod Cuts
pub mod Walking
pub mod Courses
pub mod Attempts
