mod OrderLaws
mod Spots
