pub mod Runnable
pub mod Launches
