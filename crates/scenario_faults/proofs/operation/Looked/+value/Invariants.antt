use Rattle.scenario_faults.proofs.operation.Looked.+value.Given as goal

abbrev pub decreases-value : goal.decreases-value
decreases-value l = l.depth
