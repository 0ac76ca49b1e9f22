mod Capped
mod Captures
mod Later
mod Levels
mod Parts
mod Weights
