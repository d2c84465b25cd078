pub mod Findings
pub mod Calls
pub mod PrivateContracts
pub mod SurveyContracts
