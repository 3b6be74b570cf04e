pub mod Positions
pub mod Held
pub mod Rooms
pub mod Editions
pub mod Numbers
pub mod Refusals
