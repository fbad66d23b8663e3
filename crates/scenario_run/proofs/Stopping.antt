-- What a sink has once its out has stopped.
use Rattle.std.proofs.Common.{◌≡◌, ◌≢◌, ℕ, ◌<◌, ◌≤◌, List, [], ◌++◌, take, length, Option, None, Some, sym, ap, subst, ◌∙◌, arith, length-append, append-nil}
use Rattle.std.proofs.lemmas.List.{append_cancel_left}
use Rattle.std.proofs.Math.Seq.{take-append_seam, take-length}
use Rattle.std.specs.Io.KnownBytes.{Appends}
use Rattle.step_journal.specs.declared.entry.Entry.{Entry}
use Rattle.job_rows.specs.Upkeep.{planned_jobs}
use Rattle.report_text.specs.Texts.{entries_text}
use Rattle.job_rows.proofs.Fronts.{legal_front, planned_both as planned_append}
use Rattle.scenario_run.specs.declared.standing.ReportStanding.{ReportStanding}
use Rattle.scenario_run.specs.declared.standing.ReportStanding.TheVariants.{Going, Cut, Full}
use Rattle.scenario_run.specs.ReportOuts.{Begun, OutSeen, IsGoing, IsBefore, IsCut, IsOver, TakenAt, LostAt}
use Rattle.scenario_run.specs.ReportLaws.{IsFrontOf, AfterCut, AfterFull, HasFront}
use Rattle.scenario_run.proofs.Texts.{text_append, front_of}

-- two beginnings of one text, of one length, are one
same_front : (a b xs ys : List ℕ) → length a ≡ length b → a ++ xs ≡ b ++ ys → a ≡ b
same_front a b xs ys len e =
    sym (take-append_seam a xs) ∙ (ap (take (length a)) e ∙ (ap (λ (n : ℕ). take n (b ++ ys)) len ∙ take-append_seam b ys))

-- so what follows the one follows the other
follows_both : (front taken : Option (List ℕ)) (a b xs ys : List ℕ) → length a ≡ length b → Appends front taken (a ++ xs) → Appends front taken (b ++ ys)
    → Appends front taken (a ++ ys)
follows_both None taken a b xs ys len p q = tt
follows_both (Some f) None a b xs ys len p q = absurd p
follows_both (Some f) (Some t) a b xs ys len p q =
    let same : a ≡ b = same_front a b xs ys len (append_cancel_left f (a ++ xs) (b ++ ys) (sym p ∙ q)) in
    q ∙ ap (λ (l : List ℕ). f ++ (l ++ ys)) (sym same)

module _ (begun : Begun) (out : OutSeen) (history piece : List Entry) where
  front_to : (n : ℕ) → Appends begun.front out.taken (entries_text begun.names history ++ take n (entries_text begun.names piece))
      → (front : IsFrontOf begun out (history ++ piece)) × (length (entries_text begun.names history) ≤ front.count)
  front_to n has =
      let text = entries_text begun.names history in
      let next = entries_text begun.names piece in
      let parts : text ++ take n next ≡ take (length (text ++ take n next)) (entries_text begun.names (history ++ piece)) =
      front_of text next n ∙ ap (take (length (text ++ take n next))) (sym (text_append begun.names history piece)) in (
        record {
          count = length (text ++ take n next);
          has = subst (λ (x : List ℕ). Appends begun.front out.taken x) parts has;
        },
        omega (arith, length-append text (take n next)),
      )

  cut_front : IsBefore begun out history → IsCut begun out piece
      → (front : IsFrontOf begun out (history ++ piece)) × (length (entries_text begun.names history) ≤ front.count)
  cut_front got lost =
      front_to lost.count (follows_both begun.front out.taken (entries_text begun.names history) lost.before got.more (take lost.count (entries_text begun.names piece))
      (got.bytes_are ∙ sym lost.bytes_are) got.has lost.has)

  too_many : IsGoing begun out history → IsOver begun out piece → begun.room < planned_jobs (history ++ piece)
  too_many got lost = omega (arith, planned_append history piece, got.follows.planned, lost.places, lost.over)

  going_front : IsGoing begun out history → piece ≡ [] → IsFrontOf begun out (history ++ piece)
  going_front got none = record {
    count = length (entries_text begun.names (history ++ piece));
    has = subst (λ (x : List ℕ). Appends begun.front out.taken x)
        (ap (entries_text begun.names) (sym (append-nil history) ∙ ap (λ (l : List Entry). history ++ l) (sym none)) ∙ sym (take-length (entries_text begun.names (history ++ piece))))
        got.has;
  }

  front_at : (standing : ReportStanding) → planned_jobs (history ++ piece) ≤ begun.room → TakenAt standing begun out history → LostAt standing begun out piece
      → (standing ≢ Full) × IsFrontOf begun out (history ++ piece)
  front_at Going few got lost = (λ e. absurd cc, going_front got lost)
  front_at Cut few got lost = (λ e. absurd cc, (cut_front got lost).0)
  front_at Full few got lost = absurd (omega (arith, few, too_many got lost))

pub after_cut : AfterCut
after_cut begun out history piece e legal got lost =
    cut_front begun out history piece
    (subst (λ (s : ReportStanding). TakenAt s begun out history) e (got (legal_front begun.set history piece legal)))
    (subst (λ (s : ReportStanding). LostAt s begun out piece) e lost)

pub after_full : AfterFull
after_full begun out history piece e legal got lost =
    let going : IsGoing begun out history = subst (λ (s : ReportStanding). TakenAt s begun out history) e (got legal) in
    let over : IsOver begun out piece = subst (λ (s : ReportStanding). LostAt s begun out piece) e lost in
    (going, omega (arith, too_many begun out history piece going over, going.room_is))

pub has_front : HasFront
has_front begun out history piece legal few got lost =
    front_at begun out history piece out.standing few (got (legal_front begun.set history piece legal)) lost
