pub mod Turns
pub mod CleaningLaws
pub mod RefusalLaws
pub mod SortingLaws
pub mod LookingLaws
