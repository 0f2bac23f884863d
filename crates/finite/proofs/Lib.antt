-- Laws of finite mathematics.
pub mod Truth
pub mod Bounded
pub mod Lists
pub mod Tabulate
pub mod But
pub mod Front
pub mod Pigeonhole
pub mod Loops
pub mod Rounds
