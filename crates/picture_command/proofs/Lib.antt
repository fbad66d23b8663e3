pub mod Legal
pub mod Telling
pub mod Due
pub mod Admitting
pub mod Firsts
pub mod Sums
