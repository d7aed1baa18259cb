pub mod Courses
pub mod Following
pub mod Questions
pub mod Readings
