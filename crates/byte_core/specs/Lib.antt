pub mod ByteLists
pub mod Reading
