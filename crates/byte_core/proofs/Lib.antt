pub mod ByteLists
pub mod Wide
