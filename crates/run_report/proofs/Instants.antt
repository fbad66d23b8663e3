-- The instant after each entry of a legal history.
use Rattle.std.proofs.Common.{◌≡◌, ℕ, ◌+◌, ◌-◌, ◌<◌, ◌≤◌, ◌^◌, List, take, get_or, length, refl, ap, sym, subst, ◌∙◌, arith}
use Rattle.std.proofs.lemmas.List.{take_more}
use Rattle.txn_set.specs.Set.{Set, IsCompiled}
use Rattle.step_journal.specs.declared.entry.Entry.{Entry}
use Rattle.step_journal.specs.declared.entry.Entry.TheVariants.{Planned, Step, Blocked, Idle}
use Rattle.step_journal.specs.State.{State, Row, opening}
use Rattle.rt_base.specs.declared.operation.Op.{Op}
use Rattle.step_journal.specs.Step.{with_step}
use Rattle.step_journal.specs.History.{state_after, IsLegal, state_of}
use Rattle.law_histories.proofs.Histories.{arrived_now, wait_now, plan_now}
use Rattle.law_histories.specs.Counting.{TimeIsBounded}
use Rattle.job_rows.proofs.Going.{state_next, next_legal}
use Rattle.job_rows.proofs.Moved.{Moves, moves}
use Rattle.run_report.specs.Counts.{instant_after}
use Rattle.job_rows.proofs.Fronts as fronts

pub opening_now : (set : Set) → 0 ≡ (opening set).now
unfolding opening
opening_now set = refl

step_now : (set : Set) (s : State) (row : Row) (op : Op) → (with_step set s row op).now ≡ s.now + 1
unfolding with_step
step_now set s row op = arrived_now set (s.now + 1) _

now_moved : (set : Set) (s next : State) (e : Entry) → Moves set s e next → next.now ≡ instant_after s.now e
now_moved set s next (Planned tx tick) m = ap (λ (t : State). t.now) m.1 ∙ plan_now s tx.0 tick
now_moved set s next (Step job op outcome over tick) m =
    ap (λ (t : State). t.now) m.next_is ∙ step_now set s m.row op ∙ ap (λ (n : ℕ). n + 1) (sym m.tick_is)
now_moved set s next (Blocked job op by ceiling tick) m = ap (λ (t : State). t.now) m.next_is ∙ wait_now s m.row m.above.holder
now_moved set s next (Idle from to) m = ap (λ (t : State). t.now) m.next_is ∙ arrived_now set to s

-- the instant after the next entry
pub now_next : (set : Set) (entries : List Entry) (i : ℕ) (d : Entry) → i < length entries → IsLegal set entries
    → (state_of set (take (i + 1) entries)).now ≡ instant_after (state_of set (take i entries)).now (get_or entries i d)
now_next set entries i d lt legal =
    let history : List Entry = take i entries in
    let e : Entry = get_or entries i d in
    let s : State = state_of set history in
    ap (λ (l : List Entry). (state_of set l).now) (take_more entries i d lt)
    ∙ ap (λ (t : State). t.now) (state_next set history e)
    ∙ now_moved set s (state_after set s e) e
    (moves set s e (next_legal set history e (fronts.next_legal set entries i d lt legal)))

pub now_low : (set : Set) (entries : List Entry) (i : ℕ) (d : Entry) (now : ℕ) → TimeIsBounded → IsCompiled set → i < length entries
    → IsLegal set entries → now ≡ (state_of set (take i entries)).now → instant_after now (get_or entries i d) < 2 ^ 64
now_low set entries i d now timed ok lt legal is =
    let front = subst (IsLegal set) (sym (take_more entries i d lt)) (fronts.next_legal set entries i d lt legal) in
    let low = (timed set (take (i + 1) entries) ok front).all in
    let same : instant_after now (get_or entries i d) ≡ (state_of set (take (i + 1) entries)).now =
    ap (λ (n : ℕ). instant_after n (get_or entries i d)) is ∙ sym (now_next set entries i d lt legal) in
    omega (arith, low, same)

-- from the end back

pub back : (set : Set) (entries : List Entry) (left : ℕ) (d : Entry) → 0 < left → left ≤ length entries → IsLegal set entries → (state_of set (take left entries)).now ≡ (state_of set entries).now
    → instant_after (state_of set (take (left - 1) entries)).now (get_or entries (left - 1) d) ≡ (state_of set entries).now
back set entries left d some within legal is =
    let next : left - 1 + 1 ≡ left = omega (arith, some) in
    sym (now_next set entries (left - 1) d (omega (arith, some, within)) legal) ∙ (ap (λ (n : ℕ). (state_of set (take n entries)).now) next ∙ is)

pub instant_low : (n : ℕ) (e : Entry) → instant_after n e < 2 ^ 64 → instant_after 0 e < 2 ^ 64
instant_low n (Planned tx tick) h = omega arith
instant_low n (Blocked job op by ceiling tick) h = omega arith
instant_low n other h = h
