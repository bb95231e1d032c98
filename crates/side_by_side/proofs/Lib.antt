pub mod SideBySide
