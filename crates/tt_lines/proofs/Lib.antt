pub mod Decimals
pub mod Breaks
pub mod HexDigits
pub mod LineLaws
