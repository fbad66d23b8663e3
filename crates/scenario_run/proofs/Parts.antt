-- The report of a history, in the parts in which it is written.
use Rattle.std.proofs.Common.{◌≡◌, ◌⊎◌, inl, inr, ℕ, Bool, List, ◌++◌, take, drop, Option, Result, Ok, Err, OnErr, sym, ap, subst, ◌∙◌, append_assoc}
use Rattle.std.specs.Prelude.{IsErrOf}
use Rattle.std.specs.Io.KnownBytes.{Appends, Keeps}
use Rattle.std.proofs.lemmas.List.{take-append-drop}
use Rattle.io_edge.proofs.Known.{appends_then}
use Rattle.rt_base.specs.declared.name.Names.{Names}
use Rattle.step_journal.specs.declared.entry.Entry.{Entry}
use Rattle.law_histories.specs.Sim.{Workload}
use Rattle.law_runs.specs.Histories.{IsRunOf}
use Rattle.law_runs.proofs.Fixed.{sim_is_run}
use Rattle.run_report.specs.Report.{opening_text}
use Rattle.scenario_run.specs.Written.{Wrote, WroteFront}
use Rattle.scenario_run.specs.Lines.{IsTextBy}
use Rattle.scenario_run.specs.Eager.{IsRunTextBy, after_head}

-- three texts, written one after another
module _ (head text last : List ℕ) where
  abbrev Whole : List ℕ
  Whole = head ++ (text ++ last)

  abbrev Front : Option (List ℕ) → Option (List ℕ) → Type 0
  Front taken taken' = WroteFront (λ t. t ≡ Whole) taken taken'

  pub front_first : (taken taken' : Option (List ℕ)) (n : ℕ) → Appends taken taken' (take n head) → Front taken taken'
  front_first taken taken' n has = record {
    front = take n head;
    left = drop n head ++ (text ++ last);
    is = sym (append_assoc (take n head) (drop n head) (text ++ last)) ∙ ap (λ (h : List ℕ). h ++ (text ++ last)) (take-append-drop n head);
    written = has;
  }

  pub front_second : (taken mid taken' : Option (List ℕ)) (n : ℕ) → Appends taken mid head → Appends mid taken' (take n text) → Front taken taken'
  front_second taken mid taken' n first has = record {
    front = head ++ take n text;
    left = drop n text ++ last;
    is = append_assoc head (take n text) (drop n text ++ last)
        ∙ ap (λ (t : List ℕ). head ++ t) (sym (append_assoc (take n text) (drop n text) last) ∙ ap (λ (t : List ℕ). t ++ last) (take-append-drop n text));
    written = appends_then taken mid taken' head (take n text) first has;
  }

  pub front_last : (taken mid then taken' : Option (List ℕ)) (n : ℕ) → Appends taken mid head → Appends mid then text → Appends then taken' (take n last)
      → Front taken taken'
  front_last taken mid then taken' n first second has = record {
    front = (head ++ text) ++ take n last;
    left = drop n last;
    is = append_assoc (head ++ text) (take n last) (drop n last)
        ∙ (ap (λ (t : List ℕ). (head ++ text) ++ t) (take-append-drop n last) ∙ append_assoc head text last);
    written = appends_then taken then taken' (head ++ text) (take n last) (appends_then taken mid then head text first second) has;
  }

  pub all_three : (taken mid then taken' : Option (List ℕ)) → Appends taken mid head → Appends mid then text → Appends then taken' last
      → Appends taken taken' Whole
  all_three taken mid then taken' first second third =
      subst (λ (t : List ℕ). Appends taken taken' t) (append_assoc head text last)
      (appends_then taken then taken' (head ++ text) last (appends_then taken mid then head text first second) third)

-- the report of a run
module _ (names : Names) (admitted : Bool) (w : Workload) (eager_jobs : ℕ → ℕ) (head : List ℕ) (history : List Entry)
    (is_head : head ≡ opening_text names w.set admitted) (run : IsRunOf w eager_jobs history) where
  text_is : (text : List ℕ) → text ≡ after_head head names w.set history → IsRunTextBy names admitted w eager_jobs text
  text_is text e = record {
    history = history;
    run = run;
    written = e ∙ ap (λ (h : List ℕ). after_head h names w.set history) is_head;
  }

  pub wrote_front : (taken taken' : Option (List ℕ)) → WroteFront (λ t. t ≡ after_head head names w.set history) taken taken'
      → WroteFront (IsRunTextBy names admitted w eager_jobs) taken taken'
  wrote_front taken taken' h = record { front = h.front; left = h.left; is = text_is _ h.is; written = h.written }

-- where no transaction is eager it is that of the one run
pub fixed_text : (names : Names) (admitted : Bool) (w : Workload) (eager_jobs : ℕ → ℕ) (text : List ℕ) → ((tx : ℕ) → eager_jobs tx ≡ 0) → IsTextBy names admitted w text → IsRunTextBy names admitted w eager_jobs text
fixed_text names admitted w eager_jobs text none h = record { history = h.history; run = sim_is_run w eager_jobs h.history none h.sim; written = h.written }

-- what was written of the one is what was written of the other
pub wrote_of : (P Q : List ℕ → Type 0) (taken taken' : Option (List ℕ)) → ((text : List ℕ) → P text → Q text) → Wrote P taken taken' → Wrote Q taken taken'
wrote_of P Q taken taken' f h = record { text = h.text; is = f h.text h.is; written = h.written }

pub front_of : (P Q : List ℕ → Type 0) (taken taken' : Option (List ℕ)) → ((text : List ℕ) → P text → Q text) → WroteFront P taken taken' → WroteFront Q taken taken'
front_of P Q taken taken' f h = record { front = h.front; left = h.left; is = f (h.front ++ h.left) h.is; written = h.written }

pub kept_or_front : (P Q : List ℕ → Type 0) (taken taken' : Option (List ℕ)) → ((text : List ℕ) → P text → Q text)
    → Keeps taken taken' ⊎ WroteFront P taken taken' → Keeps taken taken' ⊎ WroteFront Q taken taken'
kept_or_front P Q taken taken' f (inl h) = inl h
kept_or_front P Q taken taken' f (inr h) = inr (front_of P Q taken taken' f h)

-- by the answer

pub of_err : {A E P : Type 0} (r : Result A E) (e : E) → OnErr r P → IsErrOf r e → P
of_err (Ok x) e h is = absurd cc
of_err (Err f) e h is = h
