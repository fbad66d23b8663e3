-- The reply of `priorities` from what was found of a set.
use Rattle.std.proofs.Common.{◌≡◌, inl, ℕ, List, Result, Ok, Err, sym, ap₂, subst, ◌∙◌}
use Rattle.std.specs.Prelude.{IfOk}
use Rattle.rt_base.specs.declared.name.Names.{Names}
use Rattle.txn_set.specs.Set.{Set}
use Rattle.law_times.specs.Assigned.{with_prios}
use Rattle.law_times.proofs.Moving.{with-length}
use Rattle.law_times.specs.Pass.{pass}
use Rattle.law_times.specs.Laws.{IsSolved}
use Rattle.txn_priorities.specs.Limits.{limit}
use Rattle.report_text.specs.Texts.{NamesSet}
use Rattle.io_edge.specs.declared.status.Status.{Status}
use Rattle.tool_command.specs.Priorities.{GivenReply, Assigning}

-- priorities of the pass
pub solves : (names : Names) (set : Set) (prios : List ℕ) (status : Status) (text : List ℕ) → prios ≡ pass set (limit set) → IsSolved set (limit set) prios
    → GivenReply names set prios status text → Assigning names set status text
solves names set prios status text is solved reply =
    inl (record {
      solved = subst (λ (l : List ℕ). IsSolved set (limit set) l) is solved;
      reply = subst (λ (l : List ℕ). GivenReply names set l status text) is reply;
    })

-- what holds of an answer holds of it by another name
pub if_ok : {A E : Type 0} (r : Result A E) (P Q : A → Type 0) → ((x : A) → P x → Q x) → IfOk r P → IfOk r Q
if_ok (Ok x) P Q f h = f x h
if_ok (Err e) P Q f h = h

-- other priorities need no other names
pub names_with : (names : Names) (set : Set) (p : ℕ → ℕ) → NamesSet names set → NamesSet names (with_prios p set)
names_with names set p h = record { items = h.items; txns = h.txns ∙ sym (with-length p set.txns) }
