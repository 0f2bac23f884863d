-- What made a position won or lost (M-109). Ground: the first fitting ground, computed. Component: components, told of walks. Holds: what a ground says.
pub mod Ground
pub mod Component
pub mod Holds
