mod LeftLemmas
mod ReadingLemmas
mod TakenLemmas
