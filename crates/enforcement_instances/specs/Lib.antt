pub mod Statements
pub mod MonitorStatements
pub mod FullStatements
pub mod PlaceStatements
pub mod LayoutStatements
