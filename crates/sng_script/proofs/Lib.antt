pub mod DigitLemmas
pub mod InputLemmas
pub mod NumberLemmas
pub mod PieceLemmas
pub mod PlaceLemmas
pub mod FileLemmas
pub mod EventLemmas
pub mod OneLine
