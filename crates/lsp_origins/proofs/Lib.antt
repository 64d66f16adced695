pub mod SaidFacts
pub mod Fitting
pub mod ToldFacts
pub mod Rearranging
pub mod OtherLineSteps
pub mod Telling
pub mod Written
