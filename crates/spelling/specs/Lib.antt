-- Rules as surveyors type them (paper 02, A1): what a text says and what is answered, and the laws on it.
pub mod paper
pub mod WordLaws
pub mod Cut
pub mod Reader
pub mod Cutting
pub mod Codes
pub mod Table
pub mod Fair
