pub mod Deals
pub mod Works
pub mod Runs
pub mod Ready
pub mod NoTxns
pub mod EagerSlow
