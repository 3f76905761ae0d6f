pub mod Words
pub mod SaidWords
pub mod Texts
pub mod Packets
pub mod Streams
pub mod ListLines
pub mod Lists
