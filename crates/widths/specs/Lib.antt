pub mod Widths
pub mod Clusters
pub mod Fronts
pub mod Walks
pub mod Ordered
pub mod Tables
