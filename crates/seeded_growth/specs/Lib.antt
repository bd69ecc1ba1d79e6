pub mod Words
pub mod Stream
