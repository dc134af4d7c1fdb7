-- The laws of `text`.
mod Writing
mod Digits
