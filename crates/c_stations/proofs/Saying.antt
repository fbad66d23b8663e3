-- What each call says that had its turn, over plain variables: the plant that was called is the seat's.
use Rattle.std.proofs.Common.{◌≡◌, ℕ, ℤ, ◌+◌, ◌-◌, ◌<◌, ◌≤◌, ◌++◌, Bool, if◌then◌else◌, is_some, List, [], length, map, drop, Option, None, Some, Result, slice_get, refl, sym, ap, subst, ◌∙◌, arith, length-drop}
use Rattle.std.proofs.lemmas.List.{length-take-le}
use Rattle.rt_base.specs.declared.ids.TxId.{TxId}
use Rattle.rt_base.specs.declared.ids.JobId.{JobId}
use Rattle.rt_base.specs.declared.operation.Op.{Op}
use Rattle.rt_base.specs.declared.release.PlanRefused.{PlanRefused}
use Rattle.step_journal.specs.declared.entry.Entry.{Entry}
use Rattle.step_journal.specs.History.{state_of}
use Rattle.txn_set.specs.Set.{Set, IsCompiled}
use Rattle.set_admission.specs.Bounds.{MeetsAdmission}
use Rattle.set_admission.proofs.Kept.{keeps_bounds}
use Rattle.board.proofs.Tests.{lt_true}
use Rattle.board.specs.declared.replies.StepReply.{StepReply}
use Rattle.board.specs.declared.replies.IdleReply.{IdleReply}
use Rattle.board.specs.Histories.{plan_entry, plan_next_entry, step_entry, idle_entry, plan_answer, plan_next_answer, step_answer, idle_answer, now_of}
use Rattle.shared_plant.specs.Seats.{PlantFacts, SeatFacts}
use Rattle.shared_plant.specs.Answers.{Answered, Drained, nothing}
use Rattle.c_core.specs.Calls.{in_set}
use Rattle.c_forms.specs.Forms.{op_named, form_of_step, form_of_plan, form_of_plan_next, form_of_idle, form_of_entry}
use Rattle.c_core.specs.declared.checked.StoredForm.{StoredForm}
use Rattle.c_forms.specs.declared.forms.OpForm.{OpForm}
use Rattle.c_forms.specs.declared.forms.StepForm.{StepForm}
use Rattle.c_forms.specs.declared.forms.TimeForm.{TimeForm}
use Rattle.c_forms.specs.declared.entries.EntryForm.{EntryForm}
use Rattle.c_stations.specs.Seats.{SeatSeen, seen_of}
use Rattle.c_stations.specs.Tries.{Tries, HadItsTurn, StepSaid, PlanSaid, PlanNextSaid, IdleSaid, DrainSaid, job_at, step_refusal, item_refusal, drain_refusal}
use Rattle.c_stations.proofs.Trying.{tells, had_turn}

in_zero : (set : Set) (tx : ℕ) → tx < length set.txns → in_set set tx ≡ 0
in_zero set tx lt = subst (λ (b : Bool). ◌≡◌ {A = ℕ} (if b then 0 else 4) 0) (sym (lt_true tx (length set.txns) lt)) refl

item_zero : (s : SeatSeen) (item : ℕ) → item < length s.plant.set.items → item_refusal s item ≡ 0
item_zero s item lt = subst (λ (b : Bool). ◌≡◌ {A = ℕ} (if b then 0 else 5) 0) (sym (lt_true item (length s.plant.set.items) lt)) refl

step_zero : (op : OpForm) (o : Option TxId) (tx : TxId) (asked : Op) → o ≡ Some tx → op_named op ≡ Some asked → step_refusal o op ≡ 0
step_zero op o tx asked e f =
    subst (λ (t : Option TxId). step_refusal t op ≡ 0) (sym e) (subst (λ (x : Option Op). ◌≡◌ {A = ℕ} (if is_some x then 0 else 3) 0) (sym f) refl)

turn_of : (F : Set → ℕ → List Entry → ℕ → Type 0) (O : Set → List Entry → Option Entry) (p q : PlantFacts) (old new : SeatFacts) (left : ℕ) → p ≡ q → IsCompiled q.set → MeetsAdmission q.set
    → Answered p.set (F p.set p.room) (O p.set) old new → HadItsTurn (F q.set q.room) (O q.set) (seen_of q old left) (seen_of q new left)
turn_of F O p q old new left same compiled meets a =
    had_turn {F = F q.set q.room} {O = O q.set} q old new left compiled meets (subst (λ (z : PlantFacts). Answered z.set (F z.set z.room) (O z.set) old new) same a)

pub idled : {K : Type 0} (p q : PlantFacts) (old new : SeatFacts) (left : ℕ) (was : SeatSeen) (r : IdleReply) (form : TimeForm)
    → seen_of q old left ≡ was → p ≡ q → IsCompiled q.set → MeetsAdmission q.set → form ≡ form_of_idle r
    → Answered p.set (λ history base. r ≡ idle_answer p.set history (length history - base) p.room) (λ history. idle_entry (now_of p.set history) r) old new
    → Tries 0 0 K (IdleSaid form) was (seen_of q new left)
idled {K} p q old new left was r form view same compiled meets is a =
    subst (λ (s : SeatSeen). Tries 0 0 K (IdleSaid form) s (seen_of q new left)) view (tells 0 (seen_of q old left) (seen_of q new left) refl (record {
      reply = r;
      form = is;
      turn = turn_of (λ set room history base. r ≡ idle_answer set history (length history - base) room) (λ set history. idle_entry (now_of set history) r) p q old new left same compiled meets a;
    }))

pub planned : {K : Type 0} (p q : PlantFacts) (old new : SeatFacts) (left : ℕ) (was : SeatSeen) (tx tick : ℕ) (r : Result JobId PlanRefused) (form : TimeForm)
    → seen_of q old left ≡ was → p ≡ q → IsCompiled q.set → MeetsAdmission q.set → tx < length q.set.txns → form ≡ form_of_plan tick r
    → Answered p.set (λ history base. r ≡ plan_answer p.set history (length history - base) p.room tx tick) (λ history. plan_entry (record { 0 = tx }) tick r) old new
    → Tries (in_set was.plant.set tx) 0 K (PlanSaid tx tick form) was (seen_of q new left)
planned {K} p q old new left was tx tick r form view same compiled meets lt is a =
    subst (λ (s : SeatSeen). Tries (in_set s.plant.set tx) 0 K (PlanSaid tx tick form) s (seen_of q new left)) view (tells (in_set q.set tx) (seen_of q old left) (seen_of q new left) (in_zero q.set tx lt) (record {
      reply = r;
      form = is;
      turn = turn_of (λ set room history base. r ≡ plan_answer set history (length history - base) room tx tick) (λ set history. plan_entry (record { 0 = tx }) tick r) p q old new left same compiled meets a;
    }))

pub planned_next : {K : Type 0} (p q : PlantFacts) (old new : SeatFacts) (left : ℕ) (was : SeatSeen) (tx : ℕ) (r : Result (JobId × ℕ) PlanRefused) (form : TimeForm)
    → seen_of q old left ≡ was → p ≡ q → IsCompiled q.set → MeetsAdmission q.set → tx < length q.set.txns → form ≡ form_of_plan_next r
    → Answered p.set (λ history base. r ≡ plan_next_answer p.set history (length history - base) p.room tx) (λ history. plan_next_entry (record { 0 = tx }) r) old new
    → Tries (in_set was.plant.set tx) 0 K (PlanNextSaid tx form) was (seen_of q new left)
planned_next {K} p q old new left was tx r form view same compiled meets lt is a =
    subst (λ (s : SeatSeen). Tries (in_set s.plant.set tx) 0 K (PlanNextSaid tx form) s (seen_of q new left)) view (tells (in_set q.set tx) (seen_of q old left) (seen_of q new left) (in_zero q.set tx lt) (record {
      reply = r;
      form = is;
      turn = turn_of (λ set room history base. r ≡ plan_next_answer set history (length history - base) room tx) (λ set history. plan_next_entry (record { 0 = tx }) r) p q old new left same compiled meets a;
    }))

pub peeked : {K : Type 0} (p q : PlantFacts) (old new : SeatFacts) (left : ℕ) (was : SeatSeen) (item : ℕ) (stored : StoredForm) (value : ℤ)
    → seen_of q old left ≡ was → p ≡ q → IsCompiled q.set → MeetsAdmission q.set → item < length q.set.items → stored.value ≡ value
    → Answered p.set (λ history base. slice_get (state_of p.set history).items item ≡ Some (record { value = value; stamp = stored.stamp })) nothing old new
    → Tries (item_refusal was item) 0 K (HadItsTurn (λ history base. slice_get (state_of was.plant.set history).items item ≡ Some (record { value = stored.value; stamp = stored.stamp })) nothing) was (seen_of q new left)
peeked {K} p q old new left was item stored value view same compiled meets lt is a =
    let b = subst (λ (z : ℤ). Answered p.set (λ history base. slice_get (state_of p.set history).items item ≡ Some (record { value = z; stamp = stored.stamp })) nothing old new) (sym is) a in
    subst (λ (s : SeatSeen). Tries (item_refusal s item) 0 K (HadItsTurn (λ history base. slice_get (state_of s.plant.set history).items item ≡ Some (record { value = stored.value; stamp = stored.stamp })) nothing) s (seen_of q new left)) view
    (tells (item_refusal (seen_of q old left) item) (seen_of q old left) (seen_of q new left) (item_zero (seen_of q old left) item lt)
    (turn_of (λ set room history base. slice_get (state_of set history).items item ≡ Some (record { value = stored.value; stamp = stored.stamp })) (λ set. nothing) p q old new left same compiled meets b))

pub stepped : {K : Type 0} (p q : PlantFacts) (old new : SeatFacts) (left : ℕ) (was : SeatSeen) (tx : TxId) (serial : ℕ) (op : OpForm) (asked : Op) (r : StepReply) (form : StepForm)
    → seen_of q old left ≡ was → p ≡ q → IsCompiled q.set → MeetsAdmission q.set → old.tx ≡ Some tx → op_named op ≡ Some asked → form ≡ form_of_step r
    → Answered p.set (λ history base. r ≡ step_answer p.set history (length history - base) p.room (job_at tx serial) asked) (λ history. step_entry (now_of p.set history) (job_at tx serial) asked r) old new
    → Tries (step_refusal was.seat.tx op) 0 K (StepSaid serial op form) was (seen_of q new left)
stepped {K} p q old new left was tx serial op asked r form view same compiled meets own named is a =
    subst (λ (s : SeatSeen). Tries (step_refusal s.seat.tx op) 0 K (StepSaid serial op form) s (seen_of q new left)) view
    (tells (step_refusal old.tx op) (seen_of q old left) (seen_of q new left) (step_zero op old.tx tx asked own named) (record {
      tx = tx;
      asked = asked;
      reply = r;
      own = own;
      named = named;
      form = is;
      turn = turn_of (λ set room history base. r ≡ step_answer set history (length history - base) room (job_at tx serial) asked) (λ set history. step_entry (now_of set history) (job_at tx serial) asked r) p q old new left same compiled meets a;
    }))

drained_many : (p : PlantFacts) (most places n : ℕ) (entries : List Entry) (old new : SeatFacts) → Drained p most places [] entries n old new → length entries ≡ n
drained_many p most places n entries old new d =
    let long : length (drop old.drained d.history) ≡ length d.history - old.drained = length-drop old.drained d.history in let within : old.drained + n ≤ length d.history = d.within in
    ap length d.moved ∙ length-take-le n (drop old.drained d.history) (omega arith)

pub drained : {K : Type 0} (p q : PlantFacts) (old new : SeatFacts) (left : ℕ) (was : SeatSeen) (n places : ℕ) (kept entries : List Entry) (before after : List EntryForm)
    → seen_of q old left ≡ was → p ≡ q → IsCompiled q.set → MeetsAdmission q.set → old.tx ≡ None → places ≡ 64 → kept ≡ [] → after ≡ map form_of_entry entries ++ drop (length entries) before
    → Drained p (length before) places kept entries n old new → Tries (drain_refusal was.seat.tx) 0 K (DrainSaid n before after) was (seen_of q new left)
drained {K} p q old new left was n places kept entries before after view same compiled meets none all empty is a =
    let d : Drained q (length before) 64 [] entries n old new =
    subst (λ (z : PlantFacts). Drained z (length before) 64 [] entries n old new) same (subst (λ (k : ℕ). Drained p (length before) k [] entries n old new) all (subst (λ (l : List Entry). Drained p (length before) places l entries n old new) empty a)) in
    let many : length entries ≡ n = drained_many q (length before) 64 n entries old new d in
    subst (λ (s : SeatSeen). Tries (drain_refusal s.seat.tx) 0 K (DrainSaid n before after) s (seen_of q new left)) view
    (tells (drain_refusal old.tx) (seen_of q old left) (seen_of q new left) (ap drain_refusal none) (record {
      entries = entries;
      many = many;
      moved = is ∙ ap (λ (k : ℕ). map form_of_entry entries ++ drop k before) many;
      same = refl;
      drained = d;
      bounds = keeps_bounds q.set new.seen compiled meets d.legal;
    }))
