mod Aheads
mod Outs
mod Holders
mod Leasts
mod Searching
mod PathEdges
