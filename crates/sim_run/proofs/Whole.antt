-- A run that is handed on: how it goes on, stops, and ends.
use Rattle.std.proofs.Common.{◌≡◌, ℕ, ◌+◌, ◌-◌, ◌<◌, Bool, true, false, List, [], ◌∷◌, ◌++◌, length, refl, ap, sym, ◌∙◌, subst, arith, length-append}
use Rattle.std.proofs.lemmas.List.{append-nil}
use Rattle.rt_base.specs.declared.operation.Outcome.{Outcome}
use Rattle.txn_set.specs.Set.{Set, IsCompiled}
use Rattle.step_journal.specs.declared.entry.Entry.{Entry}
use Rattle.step_journal.specs.History.{IsLegal}
use Rattle.board.specs.Histories.{IsHistory}
use Rattle.law_histories.specs.Counting.{room_of_jobs}
use Rattle.law_histories.specs.Sim.{Body, Workload, IsSim}
use Rattle.sim_run.specs.Workloads.{workload, ticks_of, ObeysAt, IsObedient}
use Rattle.sim_run.specs.Calls.{AreFollowing, IsUnderWay, IsCalled, CanCall, HasCalled}
use Rattle.sim_run.specs.Handed.{CanTake, IsHanded, IsCut}
use Rattle.sim_run.specs.Runs.{IsWhole, IsStopped}
use Rattle.sim_run.proofs.Runs.{goes_by, way_fits, ended}
use Rattle.sim_run.proofs.Handing.{handed_more, handed_then, cut_more, cut_at, take_less, take_rest, kept_after, kept_same}
use Rattle.sim_run.proofs.Exist.{histories_go_on}

-- a run under way, of which the board keeps the last entries and the out got the others
pub record OnWay {Y : Type 0} (w : Workload) (stands : List Entry → Type 0) (body : Y → ℕ → List Outcome → Type 0)
    (got got' : List Entry → Type 0) (bodies : List Y) (serials : List ℕ) (kept : List Entry) : Type 0 where
  pub history : List Entry
  pub stood : stands history
  pub under_way : IsUnderWay w history
  pub follows : AreFollowing body w.set history bodies serials
  pub handed : IsHanded got got' history kept

-- with the set and the bodies of now, and whatever releases

pub obeys_by : (set set' : Set) (bodies bodies' : List Body) (releases : List (List ℕ)) (history : List Entry)
    → set' ≡ set → bodies' ≡ bodies → ObeysAt (workload set bodies releases) history
    → ObeysAt (workload set' bodies' []) history
obeys_by set set' bodies bodies' releases history es eb h =
    subst (λ (q : Set). ObeysAt (workload q bodies' []) history) (sym es) (subst (λ (l : List Body). ObeysAt (workload set l []) history) (sym eb) h)

pub can_call : {Y : Type 0} (set set' : Set) (now then : List Body) (releases : List (List ℕ))
    (stands : List Entry → Type 0) (body : Y → ℕ → List Outcome → Type 0) (got got' : List Entry → Type 0)
    (bodies : List Y) (serials : List ℕ) (kept : List Entry) → set' ≡ set → now ≡ then → IsObedient (workload set then releases)
    → (a : OnWay (workload set then releases) stands body got got' bodies serials kept) → IsLegal set' a.history
    → CanCall stands body (workload set' now []) bodies serials a.history
can_call set set' now then releases stands body got got' bodies serials kept es eb obeys a legal = record {
  stands = a.stood;
  may = obeys_by set set' then now releases a.history es eb (obeys a.history (subst (λ (q : Set). IsLegal q a.history) es legal) a.under_way.script_run);
  follows = subst (λ (q : Set). AreFollowing body q a.history bodies serials) (sym es) a.follows;
}

-- after entries were handed on
pub way_handed : {Y : Type 0} (w : Workload) (stands stands' : List Entry → Type 0)
    (body : Y → ℕ → List Outcome → Type 0) (got got' got'' : List Entry → Type 0) (bodies : List Y) (serials : List ℕ)
    (kept kept' : List Entry) → ((history : List Entry) → stands history → stands' history)
    → OnWay w stands body got got' bodies serials kept → IsHanded got' got'' kept kept'
    → OnWay w stands' body got got'' bodies serials kept'
way_handed w stands stands' body got got' got'' bodies serials kept kept' same a h = record {
  history = a.history;
  stood = same a.history a.stood;
  under_way = a.under_way;
  follows = a.follows;
  handed = handed_then got got' got'' a.history kept kept' a.handed h;
}

-- the room that a run may have is left
pub nearer : (w : Workload) (set' : Set) (room first kept kept' first' : ℕ) (history after : List Entry)
    → set' ≡ w.set → IsCompiled set' → IsLegal set' after → IsUnderWay w after → first + kept ≡ length history
    → first' + kept' ≡ length after → length after ≡ length history + 1
    → room ≡ room_of_jobs w.set.txns (λ n. length (ticks_of w.releases n)) → room - (first' + kept') < room - (first + kept)
nearer w set' room first kept kept' first' history after es ok legal u a b c is =
    omega (arith, way_fits w after (subst IsCompiled es ok) (subst (λ (q : Set). IsLegal q after) es legal) u, a, b, c, is)

-- what the out can take amid a run
pub way_good : (w : Workload) (set' : Set) (got good got' good' : List Entry → Type 0) (history kept : List Entry)
    → set' ≡ w.set → IsCompiled set' → IsLegal set' history → IsObedient w → IsUnderWay w history
    → ((history : List Entry) → IsSim w history → CanTake got good history)
    → ((s : List Entry) → good s → good' s) → IsHanded got got' history kept
    → CanTake got' good' kept
way_good w set' got good got' good' history kept es ok legal obeys u can same h =
    let r = histories_go_on w history (subst IsCompiled es ok) obeys (subst (λ (q : Set). IsLegal q history) es legal) u in
    take_rest got good got' good' history kept same h (take_less got good history r.rest r.history r.begins (can r.history r.sim))

-- where the out stopped amid a run
pub way_stopped : (w : Workload) (set' : Set) (got got' lost' : List Entry → Type 0) (history : List Entry)
    → set' ≡ w.set → IsCompiled set' → IsLegal set' history → IsObedient w → IsUnderWay w history
    → IsCut got got' lost' history → IsStopped w got got' lost'
way_stopped w set' got got' lost' history es ok legal obeys u k =
    let r = histories_go_on w history (subst IsCompiled es ok) obeys (subst (λ (q : Set). IsLegal q history) es legal) u in
    let c = cut_at r.history (cut_more got got' lost' history r.rest r.history r.begins k) in
    record { history = r.history; sim = r.sim; passed = c.passed; missed = c.missed; grown = c.grown; is_lost = c.is_lost }

-- a run of which all was handed on
pub way_whole : (w : Workload) (stands got got' : List Entry → Type 0) (history : List Entry) → IsSim w history
    → stands history → IsHanded got got' history []
    → IsWhole w stands got got'
way_whole w stands got got' history sim stood h = record {
  history = history;
  sim = sim;
  stood = stood;
  grown = λ s g. subst (λ (l : List Entry). got' (s ++ l)) (sym (h.parts ∙ append-nil h.passed)) (h.grown s g);
}

-- after the last call
pub record Ended (w : Workload) (stands got got' : List Entry → Type 0) (kept : List Entry) : Type 0 where
  pub history : List Entry
  pub sim : IsSim w history
  pub under_way : IsUnderWay w history
  pub stood : stands history
  pub handed : IsHanded got got' history kept

-- after a call
module _ {Y : Type 0} {set set' set'' : Set} {now then : List Body} {releases : List (List ℕ)} {stands stands' : List Entry → Type 0}
    {body : Y → ℕ → List Outcome → Type 0} {got got' : List Entry → Type 0} {bodies bodies' : List Y} {serials serials' : List ℕ}
    {room first room' first' : ℕ} {kept kept' : List Entry} {result : Bool} (es : set' ≡ set) (eb : now ≡ then) (same : first' ≡ first)
    (obeys : IsObedient (workload set then releases)) (a : OnWay (workload set then releases) stands body got got' bodies serials kept)
    (histories : (history : List Entry) → stands history → IsHistory set' room first kept history)
    (histories' : (history : List Entry) → stands' history → IsHistory set'' room' first' kept' history)
    (calls : (history : List Entry) → CanCall stands body (workload set' now []) bodies serials history
    → HasCalled stands' body (workload set' now []) bodies' serials' history result) where
  here : IsHistory set' room first kept a.history
  here = histories a.history a.stood

  gone : HasCalled stands' body (workload set' now []) bodies' serials' a.history result
  gone = calls a.history (can_call set set' now then releases stands body got got' bodies serials kept es eb obeys a here.legal)

  pub way_on : result ≡ true → (next : OnWay (workload set then releases) stands' body got got' bodies' serials' kept') × (length next.history ≡ length a.history + 1)
  way_on went =
      let called : IsCalled (workload set' now []) a.history true gone.after = subst (λ (b : Bool). IsCalled (workload set' now []) a.history b gone.after) went gone.called in (
        record {
          history = gone.after;
          stood = gone.stands;
          under_way = goes_by (workload set then releases) set then now releases a.history gone.after result refl eb went set' es gone.called a.under_way;
          follows = subst (λ (q : Set). AreFollowing body q gone.after bodies' serials') es gone.follows;
          handed = handed_more got got' a.history gone.after kept kept' called.2.0 called.2.2
              (kept_after set' set'' room room' first first' kept kept' a.history gone.after called.2.0 here (histories' gone.after gone.stands) same called.2.2) a.handed;
        },
        ap (λ (l : List Entry). length l) called.2.2 ∙ length-append a.history (called.2.0 ∷ []),
      )

  pub way_ended : result ≡ false → Ended (workload set then releases) stands' got got' kept'
  way_ended went =
      let called : IsCalled (workload set' now []) a.history false gone.after = subst (λ (b : Bool). IsCalled (workload set' now []) a.history b gone.after) went gone.called in
      record {
        history = gone.after;
        sim = ended set set' then now releases a.history gone.after result es went here.legal gone.called a.under_way;
        under_way = subst (IsUnderWay (workload set then releases)) (sym called.0) a.under_way;
        stood = gone.stands;
        handed = subst (λ (l : List Entry). IsHanded got got' l kept') (sym called.0)
            (subst (IsHanded got got' a.history) (sym (kept_same set' set'' room room' first first' kept kept' a.history here (subst (IsHistory set'' room' first' kept') called.0 (histories' gone.after gone.stands)) same)) a.handed);
      }
