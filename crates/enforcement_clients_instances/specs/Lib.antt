pub mod ListStatements
pub mod CallStatements
pub mod RecordStatements
pub mod FeedStatements
pub mod PublishedStatements
pub mod FullStatements
pub mod LayoutStatements
