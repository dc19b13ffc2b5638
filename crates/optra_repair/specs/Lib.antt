-- What repair keeps: what the arcs add, and what is placed.
pub mod Takings
pub mod Placings
pub mod Parts
