use Rattle.std.proofs.Common.{[], arith}
use Rattle.job_rows.proofs.history.rows_of_jobs.Goals as goal

pub push_all-requires : goal.push_all-requires
push_all-requires c =
    let opened = c.in_ok-rows.ensures in
    record {
      set = c.args.set.now;
      history = [];
      follows = opened.1;
      legal = c.requires.legal;
      fits = omega (arith, opened.0, c.requires.jobs);
    }
