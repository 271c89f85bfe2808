pub mod Refusing
pub mod StepLists
pub mod RoundIsRun
pub mod RoundStages
