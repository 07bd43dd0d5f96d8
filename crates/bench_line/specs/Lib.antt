pub mod NonDecreasing
