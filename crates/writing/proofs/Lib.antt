pub mod Entered
pub mod Counted
pub mod Drafts
pub mod BlockDrafts
pub mod Judged
pub mod Wholes
pub mod Copies
