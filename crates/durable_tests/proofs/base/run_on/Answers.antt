use Rattle.durable_tests.proofs.base.run_on.Goals as goal

pub add_rest-requires-clause-found : goal.add_rest-requires-clause-found
add_rest-requires-clause-found g c = c.in-Ok.ensures.stands c.args.history.now.names c.args.history.now.set
