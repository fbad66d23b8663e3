pub mod Handing
pub mod Holders
pub mod Moments
pub mod Saying
pub mod Settled
pub mod Staged
pub mod Transfers
pub mod Trying
