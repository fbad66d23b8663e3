mod Fews
pub mod Firsts
