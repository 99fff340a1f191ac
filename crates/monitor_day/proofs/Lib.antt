pub mod Days
