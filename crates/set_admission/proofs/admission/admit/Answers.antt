use Rattle.set_admission.proofs.Admitted.{admitted, meets, refused}
use Rattle.set_admission.proofs.admission.admit.Goals as goal

pub invariant_of-result : goal.invariant_of-result
invariant_of-result c = record {
  compiled = c.is_compiled.ensures;
  admitted = meets c.args.set c.in-Ok.ensures.admitted;
  responses_are = c.in-Ok.ensures.responses;
  ages_are = c.in-Ok.ensures.ages;
}

pub returns-in-Ok-clause-admitted : goal.returns-in-Ok-clause-admitted
returns-in-Ok-clause-admitted c = admitted c.args.set c.in-Ok.ensures.admitted

pub returns-in-Err-clause-not_admitted : goal.returns-in-Err-clause-not_admitted
returns-in-Err-clause-not_admitted c = refused c.args.set c.in-Err.error c.is_compiled.ensures c.in-Err.ensures.err
