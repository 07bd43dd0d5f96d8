mod Counting
mod Exchanging
mod Leaving
mod Selling
