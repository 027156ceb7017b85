-- What a reader must believe of a reply: the number and figures of each of its cases, and what of them a side has.
pub mod Figures
pub mod Sides
