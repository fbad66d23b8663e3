-- How many jobs the plans of all releases are, by transaction.
pub use Rattle.sim_run.proofs.Runs.{count_append, count_plans}
