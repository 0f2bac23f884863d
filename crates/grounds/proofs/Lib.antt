-- Component: components told of walks. Tests: what the tests of a ground say. Homes: the home of a position. Branches: the ground, branch by branch.
-- Holds: the ground of a position holds of it. First: no ground before it does. Row: the home that it names is the row's. Explained: all three, for
-- every position of every game. Examples: one for each ground.
pub mod Component
pub mod Tests
pub mod Homes
pub mod Branches
pub mod Holds
pub mod First
pub mod Row
pub mod Explained
pub mod Examples
