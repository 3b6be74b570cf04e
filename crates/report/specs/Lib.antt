pub mod Counts
pub mod Printed
pub mod Programs
