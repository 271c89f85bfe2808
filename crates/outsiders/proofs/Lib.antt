pub mod Such
