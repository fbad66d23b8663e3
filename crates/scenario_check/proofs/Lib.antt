pub mod Refusing
pub mod Told
pub mod Adding
pub mod Answering
pub mod Orders
pub mod Below
pub mod Lasts
pub mod Exact
