-- A job alone: what one more operation adds, and that it is the same on two lists of items that agree where it read.
use Rattle.std.proofs.Common.{◌≡◌, ◌≢◌, ℕ, ◌==◌, Bool, true, false, cond, List, [], ◌∷◌, ◌++◌, map, Option, None, Some, refl, ap, sym, ◌∙◌, inl, inr, get_or-set_other}
use Rattle.std.proofs.lemmas.List.Elements.{filter_map-append}
use Rattle.std.proofs.lemmas.Bool.{eq-eqb}
use Rattle.std.specs.Prelude.{is_some, pos}
use Rattle.std.specs.List.{find, fold, cons_option}
use Rattle.rt_base.specs.declared.ids.JobId.{JobId}
use Rattle.rt_base.specs.declared.ids.ItemId.{ItemId}
use Rattle.rt_base.specs.declared.operation.Op.{Op}
use Rattle.rt_base.specs.declared.operation.Op.TheVariants.{Read}
use Rattle.rt_base.specs.declared.operation.Outcome.{Outcome}
use Rattle.rt_base.specs.declared.operation.End.{End}
use Rattle.rt_base.specs.declared.operation.End.TheVariants as end
use Rattle.step_journal.specs.declared.entry.Entry.{Entry}
use Rattle.txn_set.specs.Set.{Set}
use Rattle.item_model.specs.Work.{Work, no_work, stored_of, got, outcome_of, work_after, has_read, has_written, write_of, with_read, write_installed, items_after}
use Rattle.item_model.specs.declared.stored.OwnWrite.{OwnWrite}
use Rattle.item_model.specs.declared.stored.OutsideRead.{OutsideRead}
use Rattle.item_model.specs.declared.stored.Stored.{Stored}
use Rattle.step_journal.specs.declared.entry.EndedJob.{EndedJob}
use Rattle.step_journal.specs.Serial.{op_in, outcome_in, ops_of, outcomes_of, work_alone, outcomes_alone, items_alone, serial_items, serial_outcomes}
use Rattle.law_histories.proofs.Members.{In}
use Rattle.law_histories.proofs.Holding.{Grows, work_grows, in_find, find_in}

pub work_more : (items : List Stored) (w : Work) (ops : List Op) (op : Op) → work_alone items w (ops ++ op ∷ []) ≡ work_after items (work_alone items w ops) op
work_more items w [] op = refl
work_more items w (o ∷ ops) op = work_more items (work_after items w o) ops op

pub outcomes_more : (items : List Stored) (w : Work) (ops : List Op) (op : Op) → outcomes_alone items w (ops ++ op ∷ []) ≡ outcomes_alone items w ops ++ outcome_of items (work_alone items w ops) op ∷ []
outcomes_more items w [] op = refl
outcomes_more items w (o ∷ ops) op = ap (λ (l : List Outcome). outcome_of items w o ∷ l) (outcomes_more items (work_after items w o) ops op)

alone_grows : (items : List Stored) (w : Work) (ops : List Op) → Grows w (work_alone items w ops)
alone_grows items w [] = record { reads = λ i h. h; writes = λ i h. h }
alone_grows items w (o ∷ ops) =
    let a = work_grows items w o in
    let b = alone_grows items (work_after items w o) ops in
    record { reads = λ i h. b.reads i (a.reads i h); writes = λ i h. b.writes i (a.writes i h) }

read_added_at : (rs : List OutsideRead) (r : OutsideRead) (item : ItemId) (stamp : ℕ) (b : Bool) → (r.item.0 == item.0) ≡ b → is_some (find (λ (q : OutsideRead). q.item.0 == item.0) (with_read rs item stamp)) ≡ true
    → (c : Bool) → (r.item.0 == item.0) ≡ c → is_some (find (λ (q : OutsideRead). q.item.0 == item.0) (cond b (r ∷ rs) (r ∷ with_read rs item stamp))) ≡ true
read_added_at rs r item stamp true e rest c f = in_find (λ (q : OutsideRead). q.item.0 == item.0) r (r ∷ rs) (inl refl) e
read_added_at rs r item stamp false e rest c f = let u = find_in (λ (q : OutsideRead). q.item.0 == item.0) (with_read rs item stamp) rest in in_find (λ (q : OutsideRead). q.item.0 == item.0) u.0 (r ∷ with_read rs item stamp) (inr u.1) u.2

read_added : (rs : List OutsideRead) (item : ItemId) (stamp : ℕ) → is_some (find (λ (q : OutsideRead). q.item.0 == item.0) (with_read rs item stamp)) ≡ true
read_added [] item stamp = in_find (λ (q : OutsideRead). q.item.0 == item.0) (record { item = item; stamp = stamp }) (record { item = item; stamp = stamp } ∷ []) (inl refl) (eq-eqb item.0 item.0 refl)
read_added (r ∷ rs) item stamp = read_added_at rs r item stamp (r.item.0 == item.0) refl (read_added rs item stamp) (r.item.0 == item.0) refl

-- two lists of items that agree where the job reads from outside
Agree : List Stored → List Stored → Work → Type 0
Agree items items' w = (i : ℕ) → has_read w i ≡ true → stored_of items i ≡ stored_of items' i

read_same : (items items' : List Stored) (w : Work) (item : ItemId) (o : Option OwnWrite)
    → (has_read (cond (is_some o) w (record w { reads = with_read w.reads item (stored_of items item.0).stamp })) item.0 ≡ true → stored_of items item.0 ≡ stored_of items' item.0)
    → (got o (stored_of items' item.0) ≡ got o (stored_of items item.0))
    × (cond (is_some o) w (record w { reads = with_read w.reads item (stored_of items' item.0).stamp }) ≡ cond (is_some o) w (record w { reads = with_read w.reads item (stored_of items item.0).stamp }))
read_same items items' w item (Some v) h = (refl, refl)
read_same items items' w item None h =
    let e = h (read_added w.reads item (stored_of items item.0).stamp) in
    (ap (got None) (sym e), ap (λ (v : Stored). record w { reads = with_read w.reads item v.stamp }) (sym e))

op_same : (items items' : List Stored) (w : Work) (op : Op) → Agree items items' (work_after items w op) → (outcome_of items' w op ≡ outcome_of items w op) × (work_after items' w op ≡ work_after items w op)
unfolding Agree
op_same items items' w (Read item) h = read_same items items' w item (write_of w item.0) (h item.0)
op_same items items' w other h = (refl, refl)

pub alone_same : (items items' : List Stored) (w : Work) (ops : List Op) → ((i : ℕ) → has_read (work_alone items w ops) i ≡ true → stored_of items i ≡ stored_of items' i)
    → (outcomes_alone items' w ops ≡ outcomes_alone items w ops) × (work_alone items' w ops ≡ work_alone items w ops)
unfolding Agree
alone_same items items' w [] h = (refl, refl)
alone_same items items' w (o ∷ ops) h =
    let g = alone_grows items (work_after items w o) ops in
    let a = op_same items items' w o (λ i r. h i (g.reads i r)) in
    let b = alone_same items items' (work_after items w o) ops h in
    let c : outcomes_alone items' (work_after items' w o) ops ≡ outcomes_alone items (work_after items w o) ops = ap (λ (v : Work). outcomes_alone items' v ops) a.1 ∙ b.0 in
    (ap (λ (x : Outcome). x ∷ outcomes_alone items' (work_after items' w o) ops) a.0 ∙ ap (λ (l : List Outcome). outcome_of items w o ∷ l) c, ap (λ (v : Work). work_alone items' v ops) a.1 ∙ b.1)

-- an item that the job did not write stays as it was

installed_other : (set : Set) (w : Work) (release : ℕ) (ws : List OwnWrite) (items : List Stored) (i : ℕ) → ((v : OwnWrite) → In v ws → v.item.0 ≢ i) → stored_of (fold (write_installed set.items w release) items ws) i ≡ stored_of items i
installed_other set w release [] items i h = refl
installed_other set w release (v ∷ ws) items i h =
    installed_other set w release ws (write_installed set.items w release items v) i (λ u k. h u (inr k))
    ∙ get_or-set_other items v.item.0 i _ (record { value = pos 0; stamp = 0 }) (λ e. h v (inl refl) (sym e))

not_written : (w : Work) (i : ℕ) → has_written w i ≡ false → (v : OwnWrite) → In v w.writes → v.item.0 ≢ i
not_written w i h v k e = let t : has_written w i ≡ true = in_find (λ (q : OwnWrite). q.item.0 == i) v w.writes k (eq-eqb _ _ e) in absurd (cc (t, h))

pub item_stays : (set : Set) (w : Work) (release : ℕ) (e : End) (items : List Stored) (i : ℕ) → has_written w i ≡ false → stored_of (items_after set.items w release e items) i ≡ stored_of items i
item_stays set w release end.Committed items i h = installed_other set w release w.writes items i (not_written w i h)
item_stays set w release other items i h = refl

-- entries

pub ops_more : (es : List Entry) (e : Entry) (job : JobId) (o : Option Op) → op_in job e ≡ o → ops_of (es ++ e ∷ []) job ≡ ops_of es job ++ cons_option o []
ops_more es e job o h = filter_map-append (op_in job) es (e ∷ []) ∙ ap (λ (p : Option Op). ops_of es job ++ cons_option p []) h

pub outcomes_more_in : (es : List Entry) (e : Entry) (job : JobId) (o : Option Outcome) → outcome_in job e ≡ o → outcomes_of (es ++ e ∷ []) job ≡ outcomes_of es job ++ cons_option o []
outcomes_more_in es e job o h = filter_map-append (outcome_in job) es (e ∷ []) ∙ ap (λ (p : Option Outcome). outcomes_of es job ++ cons_option p []) h

-- the serial run

pub serial_items_same : (set : Set) (es es' : List Entry) (ended : List EndedJob) (items : List Stored) → ((e : EndedJob) → In e ended → ops_of es' e.job ≡ ops_of es e.job) → serial_items set es' items ended ≡ serial_items set es items ended
serial_items_same set es es' [] items h = refl
serial_items_same set es es' (e ∷ ended) items h =
    ap (λ (ops : List Op). serial_items set es' (items_alone set items e ops) ended) (h e (inl refl)) ∙ serial_items_same set es es' ended (items_alone set items e (ops_of es e.job)) (λ f i. h f (inr i))

pub serial_outcomes_same : (set : Set) (es es' : List Entry) (ended : List EndedJob) (items : List Stored) → ((e : EndedJob) → In e ended → ops_of es' e.job ≡ ops_of es e.job) → serial_outcomes set es' items ended ≡ serial_outcomes set es items ended
serial_outcomes_same set es es' [] items h = refl
serial_outcomes_same set es es' (e ∷ ended) items h =
    ap (λ (ops : List Op). outcomes_alone items no_work ops ∷ serial_outcomes set es' (items_alone set items e ops) ended) (h e (inl refl))
    ∙ ap (λ (l : List (List Outcome)). outcomes_alone items no_work (ops_of es e.job) ∷ l) (serial_outcomes_same set es es' ended (items_alone set items e (ops_of es e.job)) (λ f i. h f (inr i)))

pub serial_items_more : (set : Set) (es : List Entry) (ended : List EndedJob) (e : EndedJob) (items : List Stored) → serial_items set es items (ended ++ e ∷ []) ≡ items_alone set (serial_items set es items ended) e (ops_of es e.job)
serial_items_more set es [] e items = refl
serial_items_more set es (f ∷ ended) e items = serial_items_more set es ended e (items_alone set items f (ops_of es f.job))

pub serial_outcomes_more : (set : Set) (es : List Entry) (ended : List EndedJob) (e : EndedJob) (items : List Stored) → serial_outcomes set es items (ended ++ e ∷ []) ≡ serial_outcomes set es items ended ++ outcomes_alone (serial_items set es items ended) no_work (ops_of es e.job) ∷ []
serial_outcomes_more set es [] e items = refl
serial_outcomes_more set es (f ∷ ended) e items = ap (λ (l : List (List Outcome)). outcomes_alone items no_work (ops_of es f.job) ∷ l) (serial_outcomes_more set es ended e (items_alone set items f (ops_of es f.job)))

pub map_same : (es es' : List Entry) (ended : List EndedJob) → ((e : EndedJob) → In e ended → outcomes_of es' e.job ≡ outcomes_of es e.job) → map (λ e. outcomes_of es' e.job) ended ≡ map (λ e. outcomes_of es e.job) ended
map_same es es' [] h = refl
map_same es es' (e ∷ ended) h =
    ap (λ (l : List Outcome). l ∷ map (λ e. outcomes_of es' e.job) ended) (h e (inl refl)) ∙ ap (λ (l : List (List Outcome)). outcomes_of es e.job ∷ l) (map_same es es' ended (λ f i. h f (inr i)))
