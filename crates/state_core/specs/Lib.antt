pub mod Lists
pub mod States
pub mod Steps
pub mod Refusals
pub mod Tokens
pub mod Applying
pub mod Drafts
