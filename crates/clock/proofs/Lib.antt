mod Days
mod Elapsed
mod Sums
