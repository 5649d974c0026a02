pub mod Replies
pub mod Asks
pub mod Rules
pub mod Debts
pub mod MorningList
pub mod Widths
pub mod Calls
