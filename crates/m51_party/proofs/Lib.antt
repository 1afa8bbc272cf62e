mod Common
mod Cycles
pub mod One
pub mod SameBoards
mod Merging
mod NextBoard
mod Spacing
mod UnderWay
mod OnTheLine
mod Progress
mod Fronts
