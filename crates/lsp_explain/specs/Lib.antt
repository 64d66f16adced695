pub mod Compared
pub mod ExplainRuns
pub mod NotedRun
pub mod ExplainLaws
