-- Each committed job is fresh and together, and read what the writers had installed last: from what is known of the
-- history.
use Rattle.std.proofs.Common.{◌≡◌, ◌≢◌, ◌⊎◌, ℕ, ◌-◌, ◌≤◌, ◌==◌, Bool, true, false, cond, List, [], ◌∷◌, ◌++◌, Option, None, Some, refl, ap, sym, ◌∙◌, subst, inl, inr, arith, append_assoc}
use Rattle.std.proofs.lemmas.List.{append-nil}
use Rattle.std.proofs.lemmas.Bool.{ltb-false, eqb-true, eq-eqb}
use Rattle.std.specs.Prelude.{IsTrue, is_some, nat_lt}
use Rattle.std.specs.List.{All, find}
use Rattle.rt_base.specs.declared.ids.JobId.{JobId}
use Rattle.rt_base.specs.declared.ids.ItemId.{ItemId}
use Rattle.rt_base.specs.declared.ids.TogetherDecl.{TogetherDecl}
use Rattle.rt_base.specs.declared.operation.End.{End}
use Rattle.rt_base.specs.declared.operation.End.TheVariants as end
use Rattle.step_journal.specs.declared.entry.Entry.{Entry}
use Rattle.txn_set.specs.Set.{Set, txn_of, names_item, IsTheWriter, IsCompiled}
use Rattle.item_model.specs.Kinds.{validity_of, is_dated}
use Rattle.item_model.specs.Work.{Work, read_of, reads_of, is_above, is_expired, oldest, newest, parted, apart_in, first_of_both, first_apart, judged as judge, verdict}
use Rattle.item_model.specs.declared.stored.OutsideRead.{OutsideRead}
use Rattle.step_journal.specs.declared.entry.EndedJob.{EndedJob}
use Rattle.step_journal.specs.History.{IsLegal, state_of}
use Rattle.step_journal.specs.Timing.{outside_reads_of, IsFresh, IsTogether}
use Rattle.law_histories.proofs.Members.{In}
use Rattle.law_histories.proofs.Holding.{in_find}
use Rattle.law_histories.specs.Commits.{CommitsAreFresh, IsConsistent, NoneCommitted, IsSourced, TimedRead, timed_reads_of}
use Rattle.law_histories.proofs.Lists.{all_from, all_at, find_some, find_none, in_filter_map, filter_map_in, filter_map_same, any_in}
use Rattle.law_histories.proofs.Stamps.{oldest_is, oldest_none, newest_is, newest_none}
use Rattle.law_histories.proofs.Known.{by_here, Sourced, IsByCommit, Judged, IsEnd, AreEnds}
use Rattle.law_histories.proofs.Timed.{NoneSince, AreTimed, timed_split, timed_read}
use Rattle.law_histories.proofs.KnownAll.{legal_known}

-- an ended job by its place
pub ends_split : (set : Set) (reads : JobId → List OutsideRead) (b before after : List EndedJob) (e : EndedJob) → AreEnds set reads b (before ++ e ∷ after) → IsEnd set reads (b ++ before) e
ends_split set reads b [] after e h = subst (λ (l : List EndedJob). IsEnd set reads l e) (sym (append-nil b)) h.0
ends_split set reads b (x ∷ before) after e h = subst (λ (l : List EndedJob). IsEnd set reads l e) (append_assoc b (x ∷ []) before) (ends_split set reads (b ++ x ∷ []) before after e h.1)

pub ends_in : (set : Set) (reads : JobId → List OutsideRead) (b es : List EndedJob) (e : EndedJob) → AreEnds set reads b es → In e es → (before : List EndedJob) × IsEnd set reads before e
ends_in set reads b [] e h i = absurd i
ends_in set reads b (x ∷ es) e h (inl is) = (b, subst (IsEnd set reads b) (sym is) h.0)
ends_in set reads b (x ∷ es) e h (inr i) = ends_in set reads (b ++ x ∷ []) es e h.1 i

pub by_commit : (e : End) → e ≡ end.Committed → IsByCommit e
by_commit e c = subst IsByCommit (sym c) tt

-- the verdict

verdict_none : (o : Option OutsideRead) (p : Option (OutsideRead × OutsideRead)) → judge o p ≡ end.Committed → (o ≡ None) × (p ≡ None)
verdict_none (Some r) p h = absurd cc
verdict_none None (Some p) h = absurd cc
verdict_none None None h = (refl, refl)

pub passed : (set : Set) (reads : JobId → List OutsideRead) (before : List EndedJob) (e : EndedJob) (j : Judged set reads before e) → e.end ≡ end.Committed
    → (find (is_expired set.items e.tick) (reads_of j.work (txn_of set e.job.tx.0).reads) ≡ None) × (first_apart j.work set.together ≡ None)
unfolding verdict
passed set reads before e j c = verdict_none (find (is_expired set.items e.tick) (reads_of j.work (txn_of set e.job.tx.0).reads)) (first_apart j.work set.together) (sym j.verdict ∙ c)

-- what a job's work notes of declared items

found : (rs : List OutsideRead) (i : ℕ) (o : Option OutsideRead) → find (λ (q : OutsideRead). q.item.0 == i) rs ≡ o → is_some o ≡ true → (q : OutsideRead) × (find (λ (q : OutsideRead). q.item.0 == i) rs ≡ Some q)
found rs i None e h = absurd cc
found rs i (Some q) e h = (q, e)

pub read_in_reads : (w : Work) (items : List ItemId) (r : OutsideRead) → ((q r : OutsideRead) → In q w.reads → In r w.reads → q.item.0 ≡ r.item.0 → q ≡ r) → In r w.reads → names_item items r.item.0 ≡ true → In r (reads_of w items)
read_in_reads w items r one i named =
    let k = any_in (λ (k : ItemId). k.0 == r.item.0) items named in
    let n : k.0.0 ≡ r.item.0 = eqb-true _ _ k.2 in
    let q = found w.reads k.0.0 (find (λ (q : OutsideRead). q.item.0 == k.0.0) w.reads) refl (in_find (λ (q : OutsideRead). q.item.0 == k.0.0) r w.reads i (eq-eqb _ _ (sym n))) in
    let f = find_some (λ (q : OutsideRead). q.item.0 == k.0.0) w.reads q.0 q.1 in
    let same : q.0 ≡ r = one q.0 r f.here i (eqb-true _ _ f.passes ∙ n) in
    in_filter_map (λ (i : ItemId). read_of w i.0) k.0 r items k.1 (q.1 ∙ ap Some same)

-- a read of declared items is one of the work
pub record IsReadOf (w : Work) (items : List ItemId) (r : OutsideRead) : Type 0 where
  pub here : In r w.reads
  pub item : ItemId
  pub named : In item items
  pub is : r.item.0 ≡ item.0

pub reads_in : (w : Work) (items : List ItemId) (r : OutsideRead) → In r (reads_of w items) → IsReadOf w items r
reads_in w items r i =
    let k = filter_map_in (λ (i : ItemId). read_of w i.0) r items i in
    let f = find_some (λ (q : OutsideRead). q.item.0 == k.0.0) w.reads r k.2 in
    record { here = f.here; item = k.0; named = k.1; is = eqb-true _ _ f.passes }

-- lists with the same reads, one of each item

same_found : (rs qs : List OutsideRead) (i : ℕ) (o p : Option OutsideRead) → find (λ (q : OutsideRead). q.item.0 == i) rs ≡ o → find (λ (q : OutsideRead). q.item.0 == i) qs ≡ p
    → ((r : OutsideRead) → In r rs → In r qs) → ((r : OutsideRead) → In r qs → In r rs) → ((q r : OutsideRead) → In q rs → In r rs → q.item.0 ≡ r.item.0 → q ≡ r) → o ≡ p
same_found rs qs i None None e f to from one = refl
same_found rs qs i None (Some p) e f to from one =
    let a = find_some (λ (q : OutsideRead). q.item.0 == i) qs p f in
    let n : (p.item.0 == i) ≡ false = find_none (λ (q : OutsideRead). q.item.0 == i) rs p e (from p a.here) in
    absurd (cc (a.passes, n))
same_found rs qs i (Some o) None e f to from one =
    let a = find_some (λ (q : OutsideRead). q.item.0 == i) rs o e in
    let n : (o.item.0 == i) ≡ false = find_none (λ (q : OutsideRead). q.item.0 == i) qs o f (to o a.here) in
    absurd (cc (a.passes, n))
same_found rs qs i (Some o) (Some p) e f to from one =
    let a = find_some (λ (q : OutsideRead). q.item.0 == i) rs o e in
    let b = find_some (λ (q : OutsideRead). q.item.0 == i) qs p f in
    ap Some (one o p a.here (from p b.here) (eqb-true _ _ a.passes ∙ sym (eqb-true _ _ b.passes)))

same_apart_at : (w v : Work) (g : TogetherDecl) → reads_of w g.items ≡ reads_of v g.items → apart_in w g ≡ apart_in v g
same_apart_at w v g e = ap (λ (l : List OutsideRead). parted g.within (oldest l) (newest l)) e

same_apart : (w v : Work) (gs : List TogetherDecl) → ((items : List ItemId) → reads_of w items ≡ reads_of v items) → first_apart w gs ≡ first_apart v gs
same_apart w v [] h = refl
same_apart w v (g ∷ gs) h = ap (λ o. first_of_both o (first_apart w gs)) (same_apart_at w v g (h g.items)) ∙ ap (first_of_both (apart_in v g)) (same_apart w v gs h)

-- the laws

commit_fresh : (set : Set) (reads : JobId → List OutsideRead) (before : List EndedJob) (e : EndedJob) → Judged set reads before e → e.end ≡ end.Committed → All (λ r. is_expired set.items e.tick r ≡ false) (reads e.job)
commit_fresh set reads before e j c =
    all_from (λ r. is_expired set.items e.tick r ≡ false) (reads e.job) (λ r i.
    let n = j.noted r i in
    find_none (is_expired set.items e.tick) (reads_of j.work (txn_of set e.job.tx.0).reads) r (passed set reads before e j c).0
    (read_in_reads j.work (txn_of set e.job.tx.0).reads r j.one n (j.declared r n)))

commit_together : (set : Set) (reads : JobId → List OutsideRead) (before : List EndedJob) (e : EndedJob) → Judged set reads before e → e.end ≡ end.Committed → first_apart (record { reads = reads e.job; writes = [] }) set.together ≡ None
commit_together set reads before e j c =
    let v : Work = record { reads = reads e.job; writes = [] } in
    sym (same_apart j.work (record { reads = reads e.job; writes = [] }) set.together (λ items.
    filter_map_same (λ (i : ItemId). read_of j.work i.0) (λ (i : ItemId). read_of (record { reads = reads e.job; writes = [] }) i.0) items (λ k.
    same_found j.work.reads (reads e.job) k.0 (find (λ (q : OutsideRead). q.item.0 == k.0) j.work.reads) (find (λ (q : OutsideRead). q.item.0 == k.0) (reads e.job)) refl refl j.was_read j.noted j.one)))
    ∙ (passed set reads before e j c).1

pub fresh_commits : (set : Set) (entries : List Entry) → IsCompiled set → IsLegal set entries → CommitsAreFresh set entries
fresh_commits set entries ok legal =
    let known = legal_known set entries ok legal in
    let reads : JobId → List OutsideRead = outside_reads_of entries in
    record {
      fresh = all_from (λ e. IsFresh set entries e) (state_of set entries).ended (λ e i c.
          let d = ends_in set (outside_reads_of entries) [] (state_of set entries).ended e known.known.ends i in
          commit_fresh set (outside_reads_of entries) d.0 e (d.1.judged (by_commit e.end c)) c);
      together = all_from (λ e. IsTogether set entries e) (state_of set entries).ended (λ e i c.
          let d = ends_in set (outside_reads_of entries) [] (state_of set entries).ended e known.known.ends i in
          commit_together set (outside_reads_of entries) d.0 e (d.1.judged (by_commit e.end c)) c);
    }

-- the same in plain numbers

not_above : (age : ℕ) (o : Option ℕ) (v : ℕ) → is_above age o ≡ false → o ≡ Some v → age ≤ v
not_above age None v h e = absurd cc
not_above age (Some w) v h e = let same : w ≡ v = cc in let le : age ≤ w = ltb-false _ _ h in omega arith

none_in_groups : (w : Work) (gs : List TogetherDecl) (g : TogetherDecl) → first_apart w gs ≡ None → In g gs → apart_in w g ≡ None
none_in_groups w [] g h i = absurd i
none_in_groups w (x ∷ gs) g h i = at (apart_in w x) refl h i (none_in_groups w gs g) where
  at : (o : Option (OutsideRead × OutsideRead)) → apart_in w x ≡ o → first_of_both o (first_apart w gs) ≡ None → (g ≡ x) ⊎ In g gs → (first_apart w gs ≡ None → In g gs → apart_in w g ≡ None) → apart_in w g ≡ None
  at (Some p) e h i rest = absurd cc
  at None e h (inl same) rest = ap (apart_in w) same ∙ e
  at None e h (inr j) rest = rest h j

near_at : (within a b : ℕ) (x : OutsideRead × OutsideRead) (c : Bool) → nat_lt within (b - a) ≡ c → cond c (Some x) None ≡ None → b - a ≤ within
near_at within a b x true e h = absurd cc
near_at within a b x false e h = ltb-false _ _ e

not_parted : (rs : List OutsideRead) (within : ℕ) (o p : Option OutsideRead) → oldest rs ≡ o → newest rs ≡ p → parted within o p ≡ None → (q r : OutsideRead) → In q rs → In r rs → q.stamp - r.stamp ≤ within
not_parted rs within (Some a) (Some b) e f h q r i j =
    let near : b.stamp - a.stamp ≤ within = near_at within a.stamp b.stamp (a, b) (nat_lt within (b.stamp - a.stamp)) refl h in
    omega (arith, near, (oldest_is rs a e).least r j, (newest_is rs b f).most q i)
not_parted rs within (Some a) None e f h q r i j = absurd (subst (λ (l : List OutsideRead). In q l) (newest_none rs f) i)
not_parted rs within None p e f h q r i j = absurd (subst (λ (l : List OutsideRead). In q l) (oldest_none rs e) i)

consistent : (set : Set) (reads : JobId → List OutsideRead) (before : List EndedJob) (e : EndedJob) → Judged set reads before e → e.end ≡ end.Committed → IsConsistent set e (reads e.job)
consistent set reads before e j c =
    let fresh = commit_fresh set reads before e j c in
    record {
      valid = all_from (λ r. (validity : ℕ) → validity_of set.items r.item.0 ≡ Some validity → e.tick - r.stamp ≤ validity) (reads e.job)
          (λ r i v is. not_above (e.tick - r.stamp) (validity_of set.items r.item.0) v (all_at (λ (r : OutsideRead). is_expired set.items e.tick r ≡ false) (reads e.job) r fresh i) is);
      within = all_from (λ g. All (λ q. All (λ r. IsTrue (names_item g.items q.item.0) → IsTrue (names_item g.items r.item.0) → q.stamp - r.stamp ≤ g.within) (reads e.job)) (reads e.job)) set.together (λ g k.
          let none = none_in_groups j.work set.together g (passed set reads before e j c).1 k in
          all_from (λ q. All (λ r. IsTrue (names_item g.items q.item.0) → IsTrue (names_item g.items r.item.0) → q.stamp - r.stamp ≤ g.within) (reads e.job)) (reads e.job) (λ q qi.
          all_from (λ r. IsTrue (names_item g.items q.item.0) → IsTrue (names_item g.items r.item.0) → q.stamp - r.stamp ≤ g.within) (reads e.job) (λ r ri a b.
          not_parted (reads_of j.work g.items) g.within (oldest (reads_of j.work g.items)) (newest (reads_of j.work g.items)) refl refl none q r (read_in_reads j.work g.items q j.one (j.noted q qi) a) (read_in_reads j.work g.items r j.one (j.noted r ri) b))));
    }

pub consistent_commits : (set : Set) (entries : List Entry) → IsCompiled set → IsLegal set entries → All (λ e. e.end ≡ end.Committed → IsConsistent set e (outside_reads_of entries e.job)) (state_of set entries).ended
consistent_commits set entries ok legal =
    let known = legal_known set entries ok legal in
    all_from (λ e. e.end ≡ end.Committed → IsConsistent set e (outside_reads_of entries e.job)) (state_of set entries).ended (λ e i c.
    let d = ends_in set (outside_reads_of entries) [] (state_of set entries).ended e known.known.ends i in
    consistent set (outside_reads_of entries) d.0 e (d.1.judged (by_commit e.end c)) c)

-- what the reads were

none_committed : (tx : ℕ) (jobs : List EndedJob) → ((w : EndedJob) → In w jobs → w.end ≡ end.Committed → w.job.tx.0 ≢ tx) → NoneCommitted tx jobs
none_committed tx jobs h = all_from (λ w. w.end ≡ end.Committed → w.job.tx.0 ≢ tx) jobs h

is_sourced : (set : Set) (entries : List Entry) (jobs : List EndedJob) (tx : ℕ) (q : TimedRead) → NoneSince set (q ∷ []) jobs → IsTrue (is_dated set.items q.read.item.0) → IsTheWriter set q.read.item.0 tx → Sourced set (outside_reads_of entries) jobs tx q.read.item.0 q.read.stamp → IsSourced set entries jobs tx q
is_sourced set entries jobs tx q since d w (inl h) = inl (none_committed tx jobs h.0, h.1)
is_sourced set entries jobs tx q since d w (inr h) = inr (record {
  earlier = h.earlier;
  by = h.by;
  later = h.later;
  place = h.place;
  committed = h.committed;
  own = h.own;
  none_later = none_committed tx h.later h.none_later;
  before_read = since q h.by tx (inl refl) (by_here jobs h.earlier h.later h.by h.place) h.committed d w h.own;
  stamp = h.is;
})

pub reads_are_last : (set : Set) (entries : List Entry) (before after : List EndedJob) (e : EndedJob) → IsCompiled set → IsLegal set entries → (state_of set entries).ended ≡ before ++ e ∷ after → e.end ≡ end.Committed
    → All (λ q. IsTrue (is_dated set.items q.read.item.0) → (tx : ℕ) → IsTheWriter set q.read.item.0 tx → IsSourced set entries before tx q) (timed_reads_of entries e.job)
reads_are_last set entries before after e ok legal split c =
    let known = legal_known set entries ok legal in
    let d = ends_split set (outside_reads_of entries) [] before after e (subst (AreEnds set (outside_reads_of entries) []) split known.known.ends) in
    let since : NoneSince set (timed_reads_of entries e.job) before = timed_split set (timed_reads_of entries) [] before after e (subst (AreTimed set (timed_reads_of entries) []) split known.timed.ends) in
    let j = d.judged (by_commit e.end c) in
    all_from (λ q. IsTrue (is_dated set.items q.read.item.0) → (tx : ℕ) → IsTheWriter set q.read.item.0 tx → IsSourced set entries before tx q) (timed_reads_of entries e.job)
    (λ q i dated tx w. is_sourced set entries before tx q (λ p v u k. elim k [ inl is ↦ since p v u (subst (λ (n : TimedRead). In n (timed_reads_of entries e.job)) (sym is) i) | inr none ↦ absurd none ]) dated w
    (j.source q.read tx (j.noted q.read (timed_read entries e.job q i)) dated w))
