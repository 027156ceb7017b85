-- What a reader must believe of a line that is printed: its words, and which figures stand behind them.
pub mod Wording
