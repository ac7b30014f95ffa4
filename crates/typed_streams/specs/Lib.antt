pub mod Conforming
pub mod TestedForms
