mod Copies
mod Looks
