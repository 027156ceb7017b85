-- What a reader must believe of what is laid before a caller: which of a reply's figures lies where. docs/RULES.md, "What C gets".
pub mod States
pub mod Sides
pub mod Lines
pub mod Reports
