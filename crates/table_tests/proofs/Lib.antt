mod TrioCompiled
mod TrioSteps
mod TrioStands
