-- The invariant of delay, and what a step adds to it: the lower jobs that hold a ceiling at least a pending job's
-- priority are one, and it used its quiet steps and the step that took the lock before the release.
use Rattle.std.proofs.Common.{◌≡◌, ◌≢◌, ◌⊎◌, ℕ, ◌+◌, ◌-◌, ◌<◌, ◌≤◌, ◌==◌, Bool, true, cond, ◌&&◌, List, [], ◌∷◌, ◌++◌, length, Option, None, Some, set as with_item, refl, ap, sym, ◌∙◌, subst, inl, inr, arith, length-append}
use Rattle.std.proofs.lemmas.List.{append-nil}
use Rattle.std.proofs.lemmas.List.Elements.{filter_map-append}
use Rattle.std.proofs.lemmas.Bool.{cases_order, cases_lt, and_from, lt-ltb, le-ltb, le-leb, eqb-true, or_left, or_right}
use Rattle.std.specs.Prelude.{nat_lt, nat_le}
use Rattle.std.specs.List.{filter_map, cons_option, filter}
use Rattle.rt_base.specs.declared.ids.JobId.{JobId}
use Rattle.rt_base.specs.declared.ids.ItemId.{ItemId}
use Rattle.txn_set.specs.declared.decl.TxnDecl.{TxnDecl}
use Rattle.rt_base.specs.declared.operation.Op.{Op}
use Rattle.rt_base.specs.declared.operation.Outcome.{Outcome}
use Rattle.rt_base.specs.declared.operation.End.{End}
use Rattle.step_journal.specs.declared.entry.Entry.{Entry}
use Rattle.step_journal.specs.declared.entry.Entry.TheVariants.{Step}
use Rattle.txn_set.specs.Set.{Set, no_txn, txn_of, may_read, may_write}
use Rattle.txn_set.specs.Ceilings.{write_ceiling, absolute_ceiling}
use Rattle.step_journal.specs.State.{State, Row, prio, prio_of}
use Rattle.step_journal.specs.LockRule.{locks, lock_ceiling, ceiling_of}
use Rattle.txn_set.specs.Ceilings.{may_block, blocking}
use Rattle.law_histories.proofs.Members.{In, in_filter, le_greatest, greatest_in}
use Rattle.law_histories.proofs.Invariant.{IsPending, Protocol, Runs, AreNamed, in_range, written, holder_from_ceiling}
use Rattle.law_histories.proofs.Holding.{append_in, locks_tell}
use Rattle.law_histories.proofs.Conflict.{IsDeclared, in_get_or}
use Rattle.law_histories.proofs.Lists.{in_any, any_in}

-- the job of a step entry from a tick on, where it is lower
abbrev pub since_in : Set → JobId → ℕ → Entry → Option JobId
since_in set job from (Step by op outcome over tick) = cond (nat_lt (prio_of set by) (prio_of set job) && nat_le from tick) (Some by) None
since_in set job from other = None

abbrev pub steps_since : Set → List Entry → JobId → ℕ → List JobId
steps_since set es job from = filter_map (since_in set job from) es

-- the delaying steps are of one job, and few
pub record IsOne (set : Set) (job : JobId) (ds : List JobId) : Type 0 where
  pub one : (a b : JobId) → In a ds → In b ds → a ≡ b
  pub few : length ds ≤ blocking set (prio_of set job)

-- whoever may still delay a pending job is the one that did, and has steps of its own behind it
pub record IsDelayed (set : Set) (es : List Entry) (rows : List (Option Row)) (x : Row) : Type 0 where
  pub is_one : IsOne set x.job (steps_since set es x.job x.release)
  pub same : (d : JobId) (y : Row) → In d (steps_since set es x.job x.release) → IsPending rows y → prio set y < prio set x → prio set x ≤ ceiling_of set y → y.job ≡ d
  pub behind : (y : Row) → IsPending rows y → prio set y < prio set x → prio set x ≤ ceiling_of set y → length (steps_since set es x.job x.release) + (txn_of set y.job.tx.0).quiet + 1 ≤ y.used

-- a transaction that holds a lock with a ceiling of at least a priority is one that may block

blocks_read : (set : Set) (txn : TxnDecl) (p i : ℕ) → may_read txn i ≡ true → p ≤ write_ceiling set i → may_block set p txn ≡ true
blocks_read set txn p i may le =
    let d = any_in (λ (k : ItemId). k.0 == i) txn.reads may in
    or_left _ _ (in_any (λ (k : ItemId). nat_le p (write_ceiling set k.0)) d.0 txn.reads d.1 (le-leb _ _ (omega (arith, le, ap (write_ceiling set) (eqb-true _ _ d.2)))))

blocks_write : (set : Set) (txn : TxnDecl) (p i : ℕ) → may_write txn i ≡ true → p ≤ absolute_ceiling set i → may_block set p txn ≡ true
blocks_write set txn p i may le =
    let d = any_in (λ (k : ItemId). k.0 == i) txn.writes may in
    or_right _ _ (in_any (λ (k : ItemId). nat_le p (absolute_ceiling set k.0)) d.0 txn.writes d.1 (le-leb _ _ (omega (arith, le, ap (absolute_ceiling set) (eqb-true _ _ d.2)))))

holder_blocks : (set : Set) (y : Row) (p : ℕ) → IsDeclared set y → 0 < p → p ≤ ceiling_of set y → may_block set p (txn_of set y.job.tx.0) ≡ true
unfolding ceiling_of
holder_blocks set y p d pos le =
    let l = greatest_in (lock_ceiling set) (locks y.work) (omega arith) in
    elim (locks_tell y.work l.0 l.1) [
      | inl w ↦ (let e : lock_ceiling set l.0 ≡ absolute_ceiling set l.0.item = ap (lock_ceiling set) w.0 in blocks_write set (txn_of set y.job.tx.0) p l.0.item (d.writes l.0.item w.1) (omega (arith, e, l.2)))
      | inr r ↦ (let e : lock_ceiling set l.0 ≡ write_ceiling set l.0.item = ap (lock_ceiling set) r.0 in blocks_read set (txn_of set y.job.tx.0) p l.0.item (d.reads l.0.item r.1) (omega (arith, e, l.2)))
    ]

pub le_blocking : (set : Set) (y : Row) (p : ℕ) → y.job.tx.0 < length set.txns → IsDeclared set y → prio set y < p → p ≤ ceiling_of set y → (txn_of set y.job.tx.0).steps - (txn_of set y.job.tx.0).quiet - 1 ≤ blocking set p
unfolding blocking
le_blocking set y p lt d lower le =
    let t : TxnDecl = txn_of set y.job.tx.0 in
    let test : (nat_lt (prio set y) p && may_block set p (txn_of set y.job.tx.0)) ≡ true = and_from _ _ (lt-ltb _ _ lower) (holder_blocks set y p d (omega arith) le) in
    le_greatest (λ (u : TxnDecl). u.steps - u.quiet - 1) (txn_of set y.job.tx.0) (filter (λ u. nat_lt u.prio p && may_block set p u) set.txns)
    (in_filter (λ (u : TxnDecl). nat_lt u.prio p && may_block set p u) (txn_of set y.job.tx.0) set.txns (in_get_or set.txns y.job.tx.0 no_txn lt) test)

-- one more step entry

counted : (set : Set) (es : List Entry) (job : JobId) (from : ℕ) (by : JobId) (op : Op) (outcome : Outcome) (over : Option End) (tick : ℕ) → prio_of set by < prio_of set job → from ≤ tick
    → steps_since set (es ++ Step by op outcome over tick ∷ []) job from ≡ steps_since set es job from ++ by ∷ []
counted set es job from by op outcome over tick lower later =
    filter_map-append (since_in set job from) es (Step by op outcome over tick ∷ [])
    ∙ ap (λ (b : Bool). steps_since set es job from ++ cons_option (cond b (Some by) None) []) (and_from _ _ (lt-ltb _ _ lower) (le-leb _ _ later))

not_counted : (set : Set) (es : List Entry) (job : JobId) (from : ℕ) (by : JobId) (op : Op) (outcome : Outcome) (over : Option End) (tick : ℕ) → prio_of set job ≤ prio_of set by
    → steps_since set (es ++ Step by op outcome over tick ∷ []) job from ≡ steps_since set es job from
not_counted set es job from by op outcome over tick higher =
    filter_map-append (since_in set job from) es (Step by op outcome over tick ∷ [])
    ∙ (ap (λ (b : Bool). steps_since set es job from ++ cons_option (cond (b && nat_le from tick) (Some by) None) []) (le-ltb _ _ higher) ∙ append-nil (steps_since set es job from))

-- The running job x takes a step, with x' its row afterwards. Each pending job is delayed by one job still.
module _ (set : Set) (es : List Entry) (s : State) (refused : JobId → Bool) (x x' : Row) (op : Op) (outcome : Outcome) (over : Option End) (named : AreNamed set s.rows) (count : length s.rows ≡ length set.txns) (inv : Protocol set s.rows refused) (run : Runs set s.rows refused x)
    (job : x'.job ≡ x.job) (release : x'.release ≡ x.release) (used : x'.used ≡ x.used + 1) (dx : IsDeclared set x) (short : x.used < (txn_of set x.job.tx.0).steps)
    (since : (y : Row) → IsPending s.rows y → y.release ≤ s.now) (each : (y : Row) → IsPending s.rows y → IsDelayed set es s.rows y) where
  longer : List Entry
  longer = es ++ Step x.job op outcome over s.now ∷ []

  next_rows : List (Option Row)
  next_rows = with_item s.rows x.job.tx.0 (Some x')

  row_case : (y : Row) → IsPending next_rows y → (y ≡ x') ⊎ ((y.job.tx.0 ≢ x.job.tx.0) × IsPending s.rows y)
  unfolding next_rows
  row_case y i = written s.rows x.job.tx.0 x' y (in_range s.rows _ x run.here) (ap (λ (k : JobId). k.tx.0) job) i

  -- of lower jobs only the running one can hold such a ceiling
  only_x : (y z : Row) → IsPending s.rows y → IsPending s.rows z → prio set x < prio set y → prio set z < prio set y → prio set y ≤ ceiling_of set z → z.job.tx.0 ≡ x.job.tx.0
  only_x y z hy hz lt lower le =
      let hold : prio set y ≤ ceiling_of set x = run.holds y hy lt in
      let pos : 0 < prio set y = named.positive y hy in
      elim (cases_order (prio set z) (prio set x)) [
        | inl e ↦ named.apart z x hz run.here e
        | inr o ↦ elim o [
          | inl below ↦ absurd (omega (arith, inv.ordered x z run.here hz (holder_from_ceiling set x (omega arith)) below))
          | inr above ↦ absurd (omega (arith, inv.ordered z x hz run.here (holder_from_ceiling set z (omega arith)) above))
        ]
      ]

  -- a job above the running one is delayed by this step
  delayed_above : (y : Row) → IsPending s.rows y → prio set x < prio set y → IsDelayed set longer next_rows y
  unfolding longer next_rows
  delayed_above y hy lt =
      let d = each y hy in
      let c : steps_since set (es ++ Step x.job op outcome over s.now ∷ []) y.job y.release ≡ steps_since set es y.job y.release ++ x.job ∷ [] = counted set es y.job y.release x.job op outcome over s.now lt (since y hy) in
      let hold : prio set y ≤ ceiling_of set x = run.holds y hy lt in
      let len : length (steps_since set (es ++ Step x.job op outcome over s.now ∷ []) y.job y.release) ≡ length (steps_since set es y.job y.release) + 1 = ap (λ (l : List JobId). length l) c ∙ length-append (steps_since set es y.job y.release) (x.job ∷ []) in
      let is_x : (a : JobId) → In a (steps_since set (es ++ Step x.job op outcome over s.now ∷ []) y.job y.release) → a ≡ x.job = λ a i.
      elim (append_in a (steps_since set es y.job y.release) (x.job ∷ []) (subst (λ (l : List JobId). In a l) c i)) [
        | inl old ↦ sym (d.same a x old run.here lt hold)
        | inr new ↦ elim new [ inl e ↦ e | inr none ↦ absurd none ]
      ] in
      record {
        is_one = record {
          one = λ a b i j. is_x a i ∙ sym (is_x b j);
          few = let m = d.behind x run.here lt hold in
              let b = le_blocking set x (prio set y) (omega (arith, in_range s.rows _ x run.here, count)) dx lt hold in
              omega (arith, len, m, b, short);
        };
        same = λ a z i hz lower le. elim (row_case z hz) [
          | inl e ↦ ap (λ (r : Row). r.job) e ∙ (job ∙ sym (is_x a i))
          | inr o ↦ absurd (o.0 (only_x y z hy o.1 lt lower le))
        ];
        behind = λ z hz lower le. elim (row_case z hz) [
          | inl e ↦ (let m = d.behind x run.here lt hold in
              let q : (txn_of set z.job.tx.0).quiet ≡ (txn_of set x.job.tx.0).quiet = ap (λ (k : JobId). (txn_of set k.tx.0).quiet) (ap (λ (r : Row). r.job) e ∙ job) in
              omega (arith, len, m, q, ap (λ (r : Row). r.used) e, used))
          | inr o ↦ absurd (o.0 (only_x y z hy o.1 lt lower le))
        ];
      }

  -- a job below it, or the running job itself, is not
  delayed_below : (y : Row) → IsPending s.rows y → prio set y ≤ prio set x → (w : Row) → w.job ≡ y.job → w.release ≡ y.release → IsDelayed set longer next_rows w
  unfolding longer next_rows
  delayed_below y hy le w wj wr =
      let d = each y hy in
      let c : steps_since set (es ++ Step x.job op outcome over s.now ∷ []) w.job w.release ≡ steps_since set es y.job y.release = ap (λ (n : ℕ). steps_since set (es ++ Step x.job op outcome over s.now ∷ []) w.job n) wr ∙ (ap (λ (k : JobId). steps_since set (es ++ Step x.job op outcome over s.now ∷ []) k y.release) wj ∙ not_counted set es y.job y.release x.job op outcome over s.now le) in
      let p : prio set w ≡ prio set y = ap (prio_of set) wj in
      let px : prio set x' ≡ prio set x = ap (prio_of set) job in
      let len = ap (λ (l : List JobId). length l) c in
      record {
        is_one = record {
          one = λ a b i j. d.is_one.one a b (subst (λ (l : List JobId). In a l) c i) (subst (λ (l : List JobId). In b l) c j);
          few = omega (arith, len, d.is_one.few, ap (blocking set) p);
        };
        same = λ a z i hz lower hold. elim (row_case z hz) [
          | inl e ↦ absurd (omega (arith, ap (prio set) e))
          | inr o ↦ d.same a z (subst (λ (l : List JobId). In a l) c i) o.1 (omega arith) (omega arith)
        ];
        behind = λ z hz lower hold. elim (row_case z hz) [
          | inl e ↦ absurd (omega (arith, ap (prio set) e))
          | inr o ↦ omega (arith, len, d.behind z o.1 (omega arith) (omega arith))
        ];
      }

  -- each pending job after the step
  pub step_delays : (y : Row) → IsPending (with_item s.rows x.job.tx.0 (Some x')) y → IsDelayed set (es ++ Step x.job op outcome over s.now ∷ []) (with_item s.rows x.job.tx.0 (Some x')) y
  unfolding longer next_rows
  step_delays y hy = elim (row_case y hy) [
    | inl e ↦ delayed_below x run.here (omega arith) y (ap (λ (r : Row). r.job) e ∙ job) (ap (λ (r : Row). r.release) e ∙ release)
    | inr o ↦ elim (cases_lt (prio set x) (prio set y)) [ inl lt ↦ delayed_above y o.1 lt | inr ge ↦ delayed_below y o.1 ge y refl refl ]
  ]
