mod OutsParts
mod OutsLogs
mod OutsSeats
mod OutsTakes
pub mod Packets
mod CutUp
pub mod Delivered
mod Downloads
mod Journals
mod PieceLists
mod LineTexts
mod ReportLists
mod Audiences
pub mod Tellable
mod Loaders
mod Parting
mod Hearing
mod Ticking
pub mod Carrying
