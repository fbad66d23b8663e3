-- The reply to a scenario from what was found of it.
use Rattle.std.proofs.Common.{◌≡◌, ℕ, List, Option, None, Some, Result, Ok, Err, sym, subst}
use Rattle.std.specs.Prelude.{IfOk, IfErr}
use Rattle.rt_base.specs.declared.name.Names.{Names}
use Rattle.txn_compiler.specs.Refusal.{compile_refusal}
use Rattle.txn_compiler.specs.declared.error.CompileError.{CompileError}
use Rattle.set_admission.specs.Admission.{refusal}
use Rattle.set_admission.specs.declared.error.AdmitError.{AdmitError}
use Rattle.step_script.specs.Shown.{Shown, set_of}
use Rattle.io_edge.specs.declared.status.Status.{Status}
use Rattle.command_replies.specs.Replies.{Reply, Never, Compiling, Admitting, IsUncompiled, IsRefusal}

pub taken : {A E : Type 0} (r : Result A E) (x : A) (P : A → Type 0) → r ≡ Ok x → IfOk r P → P x
taken r x P e h = subst (λ (q : Result _ _). IfOk q P) e h

pub refused_by : {A E : Type 0} (r : Result A E) (e : E) (P : E → Type 0) → r ≡ Err e → IfErr r P → P e
refused_by r e P is h = subst (λ (q : Result _ _). IfErr q P) is h

uncompiled : (goes : Reply) (names : Names) (o : Option CompileError) (status : Status) (text : List ℕ) → Compiling Never names o status text → Compiling goes names o status text
uncompiled goes names None status text h = absurd h
uncompiled goes names (Some e) status text h = h

refused_as : (goes : Reply) (names : Names) (c : Option CompileError) (a : Option AdmitError) (status : Status) (text : List ℕ)
    → Compiling (Admitting Never names a) names c status text → Compiling (Admitting goes names a) names c status text
refused_as goes names (Some e) a status text h = h
refused_as goes names None (Some e) status text h = h
refused_as goes names None None status text h = absurd h

module _ (goes : Reply) (s : Shown) (status : Status) (text : List ℕ) where
  -- what is said of a set that compiles
  pub compiled_reply : compile_refusal (set_of s) ≡ None → goes status text → Compiling goes s.names (compile_refusal (set_of s)) status text
  compiled_reply compiles h = subst (λ (o : Option CompileError). Compiling goes s.names o status text) (sym compiles) h

  -- and of one that does not, whatever is said of the others
  pub uncompiled_reply : IsUncompiled s status text → Compiling goes s.names (compile_refusal (set_of s)) status text
  uncompiled_reply h = uncompiled goes s.names (compile_refusal (set_of s)) status text h

  abbrev Admitted : Option AdmitError → Reply
  Admitted o = Compiling (Admitting goes s.names o) s.names (compile_refusal (set_of s))

  -- what is said of a set that is admitted
  pub admitted_reply : compile_refusal (set_of s) ≡ None → refusal (set_of s) ≡ None → goes status text → Admitted (refusal (set_of s)) status text
  admitted_reply compiles admits h =
      subst (λ (o : Option AdmitError). Admitted o status text) (sym admits)
      (subst (λ (o : Option CompileError). Compiling goes s.names o status text) (sym compiles) h)

  -- and of one that is not
  pub refused_reply : IsRefusal s status text → Admitted (refusal (set_of s)) status text
  refused_reply h = refused_as goes s.names (compile_refusal (set_of s)) (refusal (set_of s)) status text h
