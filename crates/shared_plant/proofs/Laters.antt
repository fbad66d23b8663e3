-- What a seat knows after some tries.
use Rattle.std.proofs.Common.{◌≡◌, ℕ, ◌+◌, List, Option, None, refl, sym, ap, subst, ◌∙◌, arith, le_refl, inl, inr, suc, length, ◌-◌}
use Rattle.turn_cell.proofs.Lists.{whole, chained}
use Rattle.step_journal.specs.declared.entry.Entry.{Entry}
use Rattle.rt_base.specs.declared.operation.Op.{Op}
use Rattle.rt_base.specs.declared.ids.JobId.{JobId}
use Rattle.txn_set.specs.Set.{Set}
use Rattle.board.specs.declared.replies.StepReply.{StepReply}
use Rattle.board.specs.declared.replies.StepReply.TheVariants.{NoJob, NotYet, Undeclared, TooEarly, Unwritten, Full, Blocked, Done}
use Rattle.board.specs.Histories.{step_entry, step_answer}
use Rattle.shared_plant.specs.Seats.{SeatFacts, PlantFacts, IsOf}
use Rattle.shared_plant.specs.Answers.{Later, Answered, Tries, IsNotYet, WaitsAt, missed_once, missed_more, turned}

pub later_refl : (s : SeatFacts) → Later s s
later_refl s = record { plant = refl; tx = refl; seen = whole s.seen; mine = refl; turns = le_refl s.turns; missed = le_refl s.missed; drained = refl; base = le_refl s.base }

pub later_missed : (s t u : SeatFacts) → Later s t → u ≡ missed_once t → Later s u
later_missed s t u l e = subst (λ (x : SeatFacts). Later s x) (sym e)
    (record { plant = l.plant; tx = l.tx; seen = l.seen; mine = l.mine; turns = l.turns; missed = let m = l.missed in omega arith; drained = l.drained; base = l.base })

-- after an answer that made no entry
pub later_answered : (set : Set) (s t u : SeatFacts) (found : List Entry → ℕ → Type 0) (own : List Entry → Option Entry) → Later s t → Answered set found own t u → ((history : List Entry) → own history ≡ None) → Later s u
later_answered set s t u found own l a none =
    let is : u ≡ turned t a.history a.base None = a.after ∙ ap (turned t a.history a.base) (none a.history) in
    subst (λ (x : SeatFacts). Later s x) (sym is)
    (record { plant = l.plant; tx = l.tx; seen = chained s.seen t.seen a.history l.seen a.begins; mine = l.mine; turns = let n = l.turns in omega arith; missed = l.missed; drained = l.drained; base = let p = l.base in let q = a.rises in omega arith })

pub not_yet_has_none : (r : StepReply) (job : JobId) (op : Op) (now : ℕ) → IsNotYet r → step_entry now job op r ≡ None
not_yet_has_none (NoJob ended last) job op now h = absurd h
not_yet_has_none (NotYet running) job op now h = refl
not_yet_has_none (Undeclared item) job op now h = absurd h
not_yet_has_none (TooEarly left) job op now h = absurd h
not_yet_has_none (Unwritten item) job op now h = absurd h
not_yet_has_none (Full room) job op now h = absurd h
not_yet_has_none (Blocked by ceiling) job op now h = absurd h
not_yet_has_none (Done outcome over) job op now h = absurd h

-- a later seat is of the same plant
pub later_of : (p : PlantFacts) (s t : SeatFacts) → Later s t → IsOf p s → IsOf p t
later_of p s t l of = (l.plant ∙ of.0, λ tx e. of.1 tx (sym l.tx ∙ e))

pub missed_none : (s : SeatFacts) → s ≡ missed_more s 0
missed_none s = let e : s.missed ≡ s.missed + 0 = omega arith in ap (λ (n : ℕ). record s { missed = n }) e

pub missed_again : (s : SeatFacts) (n : ℕ) → missed_once (missed_more s n) ≡ missed_more s (n + 1)
missed_again s n = let e : (s.missed + n) + 1 ≡ s.missed + (n + 1) = omega arith in ap (λ (m : ℕ). record s { missed = m }) e

-- what was tried so far, and what is known of the seat then
pub record Tried (set : Set) (waits : List Entry → ℕ → Type 0) (old new : SeatFacts) : Type 0 where
  pub number : ℕ
  pub tries : Tries set waits number old new
  pub later : Later old new

pub tried_none : (set : Set) (waits : List Entry → ℕ → Type 0) (s : SeatFacts) → Tried set waits s s
tried_none set waits s = record { number = 0; tries = refl; later = later_refl s }

pub tried_missed : (set : Set) (waits : List Entry → ℕ → Type 0) (s t u : SeatFacts) → Tried set waits s t → u ≡ missed_once t → Tried set waits s u
tried_missed set waits s t u l e = record { number = suc l.number; tries = (t, l.tries, inl e); later = later_missed s t u l.later e }

pub tried_answered : (set : Set) (room : ℕ) (job : JobId) (op : Op) (now : List Entry → ℕ) (r : StepReply) (s t u : SeatFacts) → Tried set (WaitsAt set room job op) s t
    → Answered set (λ history base. r ≡ step_answer set history (length history - base) room job op) (λ history. step_entry (now history) job op r) t u → IsNotYet r → Tried set (WaitsAt set room job op) s u
tried_answered set room job op now r s t u l a yet =
    let none : step_entry (now a.history) job op r ≡ None = not_yet_has_none r job op (now a.history) yet in
    record {
      number = suc l.number;
      tries = (
        t,
        l.tries,
        inr (record {
          history = a.history;
          base = a.base;
          begins = a.begins;
          rises = a.rises;
          within = a.within;
          says = subst IsNotYet a.says yet;
          after = a.after ∙ ap (turned t a.history a.base) none;
          legal = a.legal;
        }),
      );
      later = later_answered set s t u (λ history base. r ≡ step_answer set history (length history - base) room job op) (λ history. step_entry (now history) job op r) l.later a (λ history. not_yet_has_none r job op (now history) yet);
    }
