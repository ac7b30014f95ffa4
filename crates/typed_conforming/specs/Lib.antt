pub mod Tables
pub mod Conforms
pub mod Misfits
pub mod Walk
pub mod Blame
pub mod Rows
pub mod Checked
