pub mod Computing
pub mod ListInstances
pub mod CallInstances
pub mod RecordInstances
pub mod FeedInstances
pub mod PublishedInstances
pub mod FullInstances
pub mod LayoutInstances
