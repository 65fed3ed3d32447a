mod Arms
mod Clocks
mod Limits
mod Others
mod ReadBack
