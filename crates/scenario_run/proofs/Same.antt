-- Entries that compare equal are equal.
use Rattle.std.proofs.Common.{◌≡◌, true, false, Option, None, Some, ℕ, eqb, refl, ap, ◌∙◌, ◌&&◌, arith}
use Rattle.std.proofs.lemmas.Bool.{eqb-true, eq-eqb, and_parts, and_from}
use Rattle.std.specs.Option.{option_eq}
use Rattle.rt_base.specs.declared.ids.TxId.{TxId}
use Rattle.rt_base.specs.contracts.ids.TxIdPartialEq.TheImpl as tx
use Rattle.step_journal.specs.declared.entry.Entry.{Entry}
use Rattle.step_journal.specs.declared.entry.Entry.TheVariants.{Planned, Step, Blocked, Idle}
use Rattle.rt_base.specs.declared.operation.Op.{Op}
use Rattle.rt_base.specs.declared.operation.Op.TheVariants.{Read, Write, Compute, Commit, Quit}
use Rattle.rt_base.specs.declared.operation.End.{End}
use Rattle.rt_base.specs.declared.operation.End.TheVariants.{Committed, Overrun, Late, Stale, Apart}
use Rattle.rt_base.specs.declared.operation.End.TheVariants as ends
use Rattle.rt_base.specs.declared.operation.Outcome.{Outcome}
use Rattle.rt_base.specs.declared.operation.Outcome.TheVariants.{Got, Put, Computed, Closed}
use Rattle.rt_base.specs.declared.ids.JobId.{JobId}
use Rattle.rt_base.specs.contracts.operation.OpPartialEq.TheImpl as op
use Rattle.rt_base.specs.contracts.operation.EndPartialEq.TheImpl as end
use Rattle.rt_base.specs.contracts.operation.OutcomePartialEq.TheImpl as outcome
use Rattle.rt_base.specs.contracts.ids.JobIdPartialEq.TheImpl as job
use Rattle.step_journal.specs.contracts.entry.EntryPartialEq.TheImpl as entry

no : false ≡ true → ⊥
no h = cc

op_same : (a b : Op) → op.eq-value.it a b ≡ true → a ≡ b
op_same (Read i) (Read j) h = grind arith
op_same (Write i v) (Write j w) h = grind arith
op_same Compute Compute h = refl
op_same Commit Commit h = refl
op_same Quit Quit h = refl
op_same a b h = absurd (no h)

end_same : (a b : End) → end.eq-value.it a b ≡ true → a ≡ b
end_same Committed Committed h = refl
end_same Overrun Overrun h = refl
end_same Late Late h = refl
end_same (Stale i s) (Stale j t) h = grind arith
end_same (Apart i j) (Apart k l) h = grind arith
end_same ends.Quit ends.Quit h = refl
end_same a b h = absurd (no h)

job_same : (a b : JobId) → job.eq-value.it a b ≡ true → a ≡ b
job_same a b h = grind arith

stamp_same : (a b : Option ℕ) → option_eq eqb a b ≡ true → a ≡ b
stamp_same None None h = refl
stamp_same (Some s) (Some t) h = grind arith
stamp_same a b h = absurd (no h)

outcome_same : (a b : Outcome) → outcome.eq-value.it a b ≡ true → a ≡ b
outcome_same (Got v s) (Got w t) h = grind (arith, stamp_same s t)
outcome_same Put Put h = refl
outcome_same Computed Computed h = refl
outcome_same Closed Closed h = refl
outcome_same a b h = absurd (no h)

over_same : (a b : Option End) → option_eq end.eq-value.it a b ≡ true → a ≡ b
over_same None None h = refl
over_same (Some e) (Some f) h = ap Some (end_same e f h)
over_same a b h = absurd (no h)

tx_same : (a b : TxId) → tx.eq-value.it a b ≡ true → a ≡ b
tx_same a b h = grind arith

entry_same : (a b : Entry) → entry.eq-value.it a b ≡ true → a ≡ b
entry_same (Planned t k) (Planned u l) h =
    let p = and_parts (tx.eq-value.it t u) (eqb k l) h in
    let a : t ≡ u = tx_same t u p.0 in
    let b : k ≡ l = eqb-true k l p.1 in
    ap (λ (q : TxId). Planned q k) a ∙ ap (Planned u) b
entry_same (Step j o r v t) (Step k p s w u) h =
    let a = and_parts (job.eq-value.it j k) (op.eq-value.it o p && (outcome.eq-value.it r s && (option_eq end.eq-value.it v w && eqb t u))) h in
    let b = and_parts (op.eq-value.it o p) (outcome.eq-value.it r s && (option_eq end.eq-value.it v w && eqb t u)) a.1 in
    let c = and_parts (outcome.eq-value.it r s) (option_eq end.eq-value.it v w && eqb t u) b.1 in
    let d = and_parts (option_eq end.eq-value.it v w) (eqb t u) c.1 in
    ap (λ (q : JobId). Step q o r v t) (job_same j k a.0)
    ∙ (ap (λ (q : Op). Step k q r v t) (op_same o p b.0)
    ∙ (ap (λ (q : Outcome). Step k p q v t) (outcome_same r s c.0)
    ∙ (ap (λ (q : Option End). Step k p s q t) (over_same v w d.0) ∙ ap (Step k p s w) (eqb-true t u d.1))))
entry_same (Blocked j o b c t) (Blocked k p d e u) h =
    let m = and_parts (job.eq-value.it j k) (op.eq-value.it o p && (job.eq-value.it b d && (eqb c e && eqb t u))) h in
    let n = and_parts (op.eq-value.it o p) (job.eq-value.it b d && (eqb c e && eqb t u)) m.1 in
    let q = and_parts (job.eq-value.it b d) (eqb c e && eqb t u) n.1 in
    let r = and_parts (eqb c e) (eqb t u) q.1 in
    ap (λ (x : JobId). Blocked x o b c t) (job_same j k m.0)
    ∙ (ap (λ (x : Op). Blocked k x b c t) (op_same o p n.0)
    ∙ (ap (λ (x : JobId). Blocked k p x c t) (job_same b d q.0)
    ∙ (ap (λ (x : ℕ). Blocked k p d x t) (eqb-true c e r.0) ∙ ap (Blocked k p d e) (eqb-true t u r.1))))
entry_same (Idle f t) (Idle g u) h = grind arith
entry_same a b h = absurd (no h)

-- each compares equal to itself

op_self : (a : Op) → op.eq-value.it a a ≡ true
op_self (Read i) = grind arith
op_self (Write i v) = grind arith
op_self Compute = refl
op_self Commit = refl
op_self Quit = refl

end_self : (a : End) → end.eq-value.it a a ≡ true
end_self Committed = refl
end_self Overrun = refl
end_self Late = refl
end_self (Stale i s) = grind arith
end_self (Apart i j) = grind arith
end_self ends.Quit = refl

job_self : (a : JobId) → job.eq-value.it a a ≡ true
job_self a = grind arith

tx_self : (a : TxId) → tx.eq-value.it a a ≡ true
tx_self a = grind arith

stamp_self : (a : Option ℕ) → option_eq eqb a a ≡ true
stamp_self None = refl
stamp_self (Some s) = eq-eqb s s refl

outcome_self : (a : Outcome) → outcome.eq-value.it a a ≡ true
outcome_self (Got v s) = grind (arith, stamp_self s)
outcome_self Put = refl
outcome_self Computed = refl
outcome_self Closed = refl

over_self : (a : Option End) → option_eq end.eq-value.it a a ≡ true
over_self None = refl
over_self (Some e) = end_self e

entry_self : (a : Entry) → entry.eq-value.it a a ≡ true
entry_self (Planned t k) = and_from _ _ (tx_self t) (eq-eqb k k refl)
entry_self (Step j o r v t) = and_from _ _ (job_self j) (and_from _ _ (op_self o) (and_from _ _ (outcome_self r) (and_from _ _ (over_self v) (eq-eqb t t refl))))
entry_self (Blocked j o b c t) = and_from _ _ (job_self j) (and_from _ _ (op_self o) (and_from _ _ (job_self b) (and_from _ _ (eq-eqb c c refl) (eq-eqb t t refl))))
entry_self (Idle f t) = and_from _ _ (eq-eqb f f refl) (eq-eqb t t refl)

pub made_same : (made : Option Entry) (e : Entry) → option_eq entry.eq-value.it made (Some e) ≡ true → made ≡ Some e
made_same None e h = absurd cc
made_same (Some a) e h = ap Some (entry_same a e h)

pub same_made : (made : Option Entry) (e : Entry) → made ≡ Some e → option_eq entry.eq-value.it made (Some e) ≡ true
same_made made e is = ap (λ (o : Option Entry). option_eq entry.eq-value.it o (Some e)) is ∙ entry_self e
