-- How marks are kept: one more of them, their bits and their index.
pub mod BitsOfInstances
pub mod IndexRoom
pub mod OneMoreMark
