pub mod Weights
pub mod RunWeights
