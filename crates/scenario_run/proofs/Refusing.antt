-- The refusal of a scenario before its run over a journal.
use Rattle.std.proofs.Common.{◌≡◌, ℕ, List, Option, None, Some, sym, subst}
use Rattle.rt_base.specs.declared.name.Names.{Names}
use Rattle.txn_compiler.specs.Refusal.{compile_refusal}
use Rattle.txn_compiler.specs.declared.error.CompileError.{CompileError}
use Rattle.set_admission.specs.Admission.{refusal}
use Rattle.set_admission.specs.declared.error.AdmitError.{AdmitError}
use Rattle.step_script.specs.Shown.{Shown, set_of}
use Rattle.io_edge.specs.declared.status.Status.{Status}
use Rattle.io_edge.specs.declared.status.Status.TheVariants as statuses
use Rattle.command_replies.specs.Replies.{Never, Refused, Compiling, Admitting, IsRefusal}
use Rattle.command_replies.proofs.Replying.{admitted_reply, refused_reply}
use Rattle.scenario_run.specs.JournalReplies.{first_eager, eager_cause, Unhurried, Journaled, JournalReply}

-- a refusal is the reply, whatever the disk has
abbrev IsTurnedAway : Shown → Status → List ℕ → Type 0
IsTurnedAway s status text = (status ≡ statuses.Refused) × ((told : Option (List ℕ)) → JournalReply s told status text)

refused_status : (names : Names) (c : Option CompileError) (a : Option AdmitError) (status : Status) (text : List ℕ) → Compiling (Admitting Never names a) names c status text
    → status ≡ statuses.Refused
refused_status names (Some e) a status text h = h.0
refused_status names None (Some e) status text h = h.0
refused_status names None None status text h = absurd h

pub turned_away : (s : Shown) (status : Status) (text : List ℕ) → IsRefusal s status text → IsTurnedAway s status text
turned_away s status text h = (
  refused_status s.names (compile_refusal (set_of s)) (refusal (set_of s)) status text h,
  λ told. refused_reply (Unhurried (Journaled s told) s.names (first_eager s)) s status text h,
)
