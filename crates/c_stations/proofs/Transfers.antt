-- What was said of a disk, said of its queue.
use Rattle.std.proofs.Common.{◌≡◌, ℕ, List, [], reverse, Bool, false, Some, Result, Ok, Err, IfOk, IfErr, IsErrAnd, sym, subst}
use Rattle.rt_base.specs.declared.name.Names.{Names}
use Rattle.txn_set.specs.Set.{Set}
use Rattle.step_journal.specs.declared.entry.Entry.{Entry}
use Rattle.durable_journal.specs.Log.{Stood}
use Rattle.c_stations.specs.Calls.{MayLeave, held}
use Rattle.c_stations.specs.Device.{Device, Queued}
use Rattle.c_stations.specs.Kept.{Holds}
use Rattle.c_stations.specs.Opening.{Declares, WhyNotOpened, WhyUnread}
use Rattle.c_stations.specs.declared.log_opening.Found.{Found}
use Rattle.c_stations.specs.declared.refused.LogRefused.{LogRefused}
use Rattle.c_stations.specs.declared.refused.LogRefused.TheVariants as refused

-- a log on a disk, and its queue
pub stood_goes : (names : Names) (set : Set) (base : List ℕ) (disk back : Device) (queue : Queued) (count n : ℕ) (stopped : Bool) (es : List Entry)
    → back ≡ disk → queue ≡ record { base = base; calls = back.calls } → n ≡ count → stopped ≡ false
    → Stood names set (Some (held base (reverse disk.calls))) (MayLeave base (reverse disk.calls)) count stopped es
    → Stood names set (Some (held queue.base (reverse queue.calls))) (MayLeave queue.base (reverse queue.calls)) n false es
stood_goes names set base disk back queue count n stopped es same is counts goes s =
    subst (λ (q : Queued). Stood names set (Some (held q.base (reverse q.calls))) (MayLeave q.base (reverse q.calls)) n false es) (sym is)
    (subst (λ (d : Device). Stood names set (Some (held base (reverse d.calls))) (MayLeave base (reverse d.calls)) n false es) (sym same)
    (subst (λ (k : ℕ). Stood names set (Some (held base (reverse disk.calls))) (MayLeave base (reverse disk.calls)) k false es) (sym counts)
    (subst (λ (b : Bool). Stood names set (Some (held base (reverse disk.calls))) (MayLeave base (reverse disk.calls)) count b es) goes s)))

-- a log without entries holds none
pub created_holds : (names : Names) (set : Set) (r : Result Found LogRefused) → IfOk r (λ f. f.entries.items ≡ [])
    → IfOk r (λ f. (n : Names) (s : Set) → Holds n s f.queue f.count []) → IfOk r (λ f. Holds names set f.queue f.count f.entries.items)
created_holds names set (Ok f) none holds = subst (λ (l : List Entry). Holds names set f.queue f.count l) (sym none) (holds names set)
created_holds names set (Err e) none holds = tt

-- an error that is handed on
pub err_of : {X E : Type 0} (r : Result X E) (e : E) (P : E → Type 0) → IsErrAnd r (λ x. x ≡ e) → P e → IfErr r P
err_of (Ok x) e P is p = tt
err_of (Err x) e P is p = subst P (sym is) p

-- a file that is refused with the set of a text
pub unread_opens : (text : List ℕ) (room : ℕ) (bytes : List ℕ) (names : Names) (set : Set) (why : LogRefused) → Declares text names set
    → WhyUnread names set room bytes why → WhyNotOpened text room bytes why
unread_opens text room bytes names set (refused.BadRecord number) declares because = record { names = names; set = set; declares = declares; because = because }
unread_opens text room bytes names set refused.Full declares because = record { names = names; set = set; declares = declares; because = because }
unread_opens text room bytes names set refused.OutOfMemory declares because = tt
unread_opens text room bytes names set refused.TooLong declares because = absurd because
unread_opens text room bytes names set (refused.BadLine line) declares because = absurd because
unread_opens text room bytes names set refused.Unfinished declares because = absurd because
unread_opens text room bytes names set (refused.NotCompiled error) declares because = absurd because
