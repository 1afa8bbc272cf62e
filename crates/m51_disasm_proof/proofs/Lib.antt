pub mod Common
pub mod StatementsRead
pub mod LinesStand
pub mod SoundLines
pub mod TextRead
pub mod StatementsBack
pub mod Reassembled
