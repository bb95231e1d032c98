pub mod Pieces
pub mod Stale
pub mod InPieces
pub mod Worked
