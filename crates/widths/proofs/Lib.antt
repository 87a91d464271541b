pub mod Clustering
pub mod Standing
