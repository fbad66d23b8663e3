-- Where the protocol's invariant holds, a running job that is refused may wait on the job that it is told.
use Rattle.std.proofs.Common.{◌≡◌, ◌<◌, Bool, true, false, List, Option, Some, ap, sym, ◌∙◌, arith}
use Rattle.rt_base.specs.declared.ids.JobId.{JobId}
use Rattle.txn_set.specs.Set.{Set}
use Rattle.step_journal.specs.State.{Row, row_of, prio}
use Rattle.step_journal.specs.LockRule.{Above, locks, refusal}
use Rattle.step_journal.specs.Running.{running}
use Rattle.law_histories.proofs.Invariant.{IsPending, is_any, AreNamed, Protocol, running_is, refusal_is, same_row, holder_from_ceiling}
use Rattle.law_histories.proofs.Events.{refused_facts}
use Rattle.core_tables.specs.Waiting.{MayWait}

pub may_wait : (set : Set) (rows : List (Option Row)) (refused : JobId → Bool) (x : Row) (above : Above) → AreNamed set rows → Protocol set rows refused → running set rows ≡ Some x → refusal set rows x ≡ Some above → MayWait rows x.job.tx.0 above.holder
may_wait set rows refused x above named inv is h =
    let run = running_is set rows refused x named inv is in
    let r = refusal_is set rows x above named h in
    let facts = refused_facts set rows refused x above named inv run r in
    let at : above.holder.tx.0 ≡ r.blocker.job.tx.0 = ap (λ (j : JobId). j.tx.0) r.is in
    record {
      waiter = x;
      pending = run.here;
      free = run.runs;
      blocker = r.blocker;
      here = ap (row_of rows) at ∙ r.here;
      is = sym r.is;
      runs = facts.runs;
      differ = λ e. r.other (sym (e ∙ at));
      no_waiters = λ n y j here on e.
          (let own : IsPending rows y = ap (row_of rows) (named.named n y here) ∙ here in
          let b = inv.wait_has_ceiling y j own on in
          let tx : b.blocker.job.tx.0 ≡ x.job.tx.0 = ap (λ (q : JobId). q.tx.0) b.is ∙ e in
          let same : b.blocker ≡ x = same_row rows b.blocker x b.here run.here tx in
          let pos : 0 < prio set y = named.positive y own in
          let holds : is_any (locks b.blocker.work) ≡ true = holder_from_ceiling set b.blocker (omega (arith, pos, b.holds)) in
          let none : is_any (locks b.blocker.work) ≡ false = ap (λ (q : Row). is_any (locks q.work)) same ∙ facts.no_lock in
          cc (holds, none));
    }
