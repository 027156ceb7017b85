-- The laws about the definitions. Each file cites only files that are named above it.
pub mod Signed
pub mod Shape
pub mod Lines
pub mod Roots
pub mod Existence
pub mod Theorems
pub mod Attraction
pub mod Widths
pub mod Room
pub mod Falls
pub mod Climbs
pub mod Spared
pub mod Ends
