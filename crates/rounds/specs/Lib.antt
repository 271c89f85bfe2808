pub mod Roundable
pub mod RoundIsRun
pub mod RoundStages
