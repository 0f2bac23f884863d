-- Finite mathematics: bounded quantifiers, least witnesses, counting; quantifiers over lists; lists made from functions.
pub mod Bounded
pub mod Lists
pub mod Tabulate
pub mod But
pub mod Rounds
