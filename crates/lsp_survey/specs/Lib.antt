pub mod Notes
pub mod Reported
pub mod KeptText
pub mod Lost
pub mod SessionEnds
pub mod SurveyRun
pub mod SurveyLaws
