-- The report of a run, in the parts in which it is written.
use Rattle.std.proofs.Common.{◌≡◌, ℕ, Bool, List, ◌++◌, take, drop, Option, Result, Ok, Err, OnOk, OnErr, sym, ap, subst, ◌∙◌, append_assoc}
use Rattle.std.specs.Io.KnownBytes.{Appends}
use Rattle.std.proofs.lemmas.List.{take-append-drop}
use Rattle.io_edge.proofs.Known.{appends_then}
use Rattle.rt_base.specs.declared.name.Names.{Names}
use Rattle.txn_set.specs.Set.{Set, IsCompiled}
use Rattle.step_journal.specs.declared.entry.Entry.{Entry}
use Rattle.law_histories.specs.Sim.{Workload, IsSim}
use Rattle.sim_run.specs.Workloads.{AreAccepted, IsObedient}
use Rattle.sim_run.proofs.Exist.{runs_are as runs}
use Rattle.job_rows.specs.Upkeep.{RowsSeen, Follows}
use Rattle.report_text.specs.Texts.{entries_text}
use Rattle.run_report.specs.Report.{opening_text}
use Rattle.scenario_run.specs.Lines.{IsTextBy}
use Rattle.scenario_run.specs.Written.{Wrote, WroteFront}
use Rattle.scenario_run.specs.Lines.{HasLines, HasFirstLines}
use Rattle.scenario_run.specs.Written.{closing_of}
use Rattle.scenario_run.proofs.Handing.{on_err}

module _ (names : Names) (admitted : Bool) (w : Workload) (head : List ℕ) (taken : Option (List ℕ)) (is_head : head ≡ opening_text names w.set admitted) where
  abbrev closing : List Entry → List ℕ
  closing history = closing_of names w.set history

  abbrev IsText : List ℕ → Type 0
  IsText text = IsTextBy names admitted w text

  -- what stands in parts
  by_parts : (history : List Entry) (text : List ℕ) → IsSim w history → text ≡ head ++ (entries_text names history ++ closing history) → IsText text
  by_parts history text sim is = record {
    history = history;
    sim = sim;
    written = is ∙ ap (λ (h : List ℕ). h ++ (entries_text names history ++ closing history)) is_head;
  }

  -- the front of the head
  pub in_head : (taken' : Option (List ℕ)) (n : ℕ) → IsCompiled w.set → AreAccepted w.set w.releases → IsObedient w → Appends taken taken' (take n head)
      → WroteFront IsText taken taken'
  in_head taken' n ok accepted obedient has =
      let run = runs w ok accepted obedient in
      let rest = entries_text names run.0 ++ closing run.0 in
      record {
        front = take n head;
        left = drop n head ++ rest;
        is = by_parts run.0 _ run.1 (sym (append_assoc (take n head) (drop n head) rest) ∙ ap (λ (h : List ℕ). h ++ rest) (take-append-drop n head));
        written = has;
      }

  -- the head, and the front of the lines of the entries
  pub in_lines : (mid taken' : Option (List ℕ)) → Appends taken mid head → HasFirstLines w names mid taken' → WroteFront IsText taken taken'
  in_lines mid taken' first cut =
      let text = entries_text names cut.history in
      let front = take cut.count text in
      let rest = closing cut.history in
      record {
        front = head ++ front;
        left = drop cut.count text ++ rest;
        is = by_parts cut.history _ cut.sim
            (append_assoc head front (drop cut.count text ++ rest)
            ∙ ap (λ (t : List ℕ). head ++ t)
            (sym (append_assoc front (drop cut.count text) rest) ∙ ap (λ (t : List ℕ). t ++ rest) (take-append-drop cut.count text)));
        written = appends_then taken mid taken' head front first cut.has;
      }

  module _ (stands : List Entry → Type 0) (mid : Option (List ℕ)) (rows : RowsSeen) (lines : List ℕ) (then : Option (List ℕ))
      (first : Appends taken mid head) (h : HasLines w stands names rows lines mid then) where
    has_all : Appends taken then (head ++ entries_text names h.history)
    has_all = appends_then taken mid then head (entries_text names h.history) first
        h.has

    -- the front of the closing lines
    pub in_closing : (taken' : Option (List ℕ)) (n : ℕ) → Appends then taken' (take n (closing h.history)) → WroteFront IsText taken taken'
    in_closing taken' n has =
        let last = closing h.history in
        record {
          front = (head ++ entries_text names h.history) ++ take n last;
          left = drop n last;
          is = by_parts h.history _ h.sim
              (append_assoc (head ++ entries_text names h.history) (take n last) (drop n last)
              ∙ (ap (λ (t : List ℕ). (head ++ entries_text names h.history) ++ t) (take-append-drop n last)
              ∙ append_assoc head (entries_text names h.history) last));
          written = appends_then taken then taken' (head ++ entries_text names h.history) (take n last) has_all has;
        }

    pub whole : (taken' : Option (List ℕ)) → Appends then taken' (closing h.history) → Wrote IsText taken taken'
    whole taken' has = record {
      text = (head ++ entries_text names h.history) ++ closing h.history;
      is = by_parts h.history _ h.sim (append_assoc head (entries_text names h.history) (closing h.history));
      written = appends_then taken then taken' (head ++ entries_text names h.history) (closing h.history) has_all has;
    }

-- by the answer

pub always_err : {A E P : Type 0} (r : Result A E) → P → OnErr r P
always_err (Ok x) h = tt
always_err (Err e) h = h

pub on_ok : {A E : Type 0} {P Q : Type 0} (r : Result A E) → (P → Q) → OnOk r P → OnOk r Q
on_ok (Ok x) f h = f h
on_ok (Err e) f h = tt

-- with closing lines that are written of a board's set

module _ {A E : Type 0} (result : Result A E) (names : Names) (admitted : Bool) (w : Workload) (head : List ℕ) (taken mid then taken' : Option (List ℕ)) (is_head : head ≡ opening_text names w.set admitted)
    (stands : List Entry → Type 0) (set : Set) (rows : RowsSeen) (lines : List ℕ) where
  pub closed_whole : ((history : List Entry) → stands history → Follows set rows history → OnOk result (Appends then taken' (closing_of names set history)))
      → set ≡ w.set → Appends taken mid head → HasLines w stands names rows lines mid then → OnOk result (Wrote (IsTextBy names admitted w) taken taken')
  closed_whole all same first h =
      on_ok result
      (λ has. whole names admitted w head taken is_head stands mid rows lines then first h taken'
      (subst (λ (s : Set). Appends then taken' (closing_of names s h.history)) same has))
      (all h.history h.stood (subst (λ (s : Set). Follows s rows h.history) (sym same) h.follows))

  pub closed_front : ((history : List Entry) → stands history → Follows set rows history → OnErr result ((n : ℕ) × Appends then taken' (take n (closing_of names set history))))
      → set ≡ w.set → Appends taken mid head → HasLines w stands names rows lines mid then → OnErr result (WroteFront (IsTextBy names admitted w) taken taken')
  closed_front all same first h =
      on_err result
      (λ has. in_closing names admitted w head taken is_head stands mid rows lines then first h taken' has.0
      (subst (λ (s : Set). Appends then taken' (take has.0 (closing_of names s h.history))) same has.1))
      (all h.history h.stood (subst (λ (s : Set). Follows s rows h.history) (sym same) h.follows))

-- by names and bytes that are the same

pub lines_as : (w : Workload) (stands : List Entry → Type 0) (names names' : Names) (rows : RowsSeen) (lines : List ℕ) (mid mid' then then' : Option (List ℕ))
    → names ≡ names' → mid ≡ mid' → then ≡ then' → HasLines w stands names rows lines mid then → HasLines w stands names' rows lines mid' then'
lines_as w stands names names' rows lines mid mid' then then' e f k h =
    subst (λ (n : Names). HasLines w stands n rows lines mid' then') e
    (subst (λ (m : Option (List ℕ)). HasLines w stands names rows lines m then') f
    (subst (λ (t : Option (List ℕ)). HasLines w stands names rows lines mid t) k h))

pub first_as : (w : Workload) (names names' : Names) (mid mid' then then' : Option (List ℕ)) → names ≡ names' → mid ≡ mid' → then ≡ then'
    → HasFirstLines w names mid then → HasFirstLines w names' mid' then'
first_as w names names' mid mid' then then' e f k h =
    subst (λ (n : Names). HasFirstLines w n mid' then') e
    (subst (λ (m : Option (List ℕ)). HasFirstLines w names m then') f
    (subst (λ (t : Option (List ℕ)). HasFirstLines w names mid t) k h))
