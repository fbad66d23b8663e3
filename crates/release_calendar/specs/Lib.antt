pub mod Agenda
pub mod Heads
pub mod Queues
