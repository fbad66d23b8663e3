-- The lines after the declarations are read to their end.
use Rattle.std.proofs.Common.{◌≡◌, ℕ, Bool, true, false, cond, List, [], ◌∷◌, ◌++◌, Option, None, Ok, refl, sym, ap, subst, ◌∙◌, append_assoc, append-nil, codes}
use Rattle.rt_base.specs.declared.name.Names.{Names}
use Rattle.step_journal.specs.declared.entry.Entry.{Entry}
use Rattle.report_text.specs.declared.read.Head.{Head}
use Rattle.report_text.specs.declared.forms.Kind.{Kind}
use Rattle.report_text.specs.declared.forms.Section.TheVariants.{Ceilings, Bounds, Ages, Jobs, Finals}
use Rattle.report_text.specs.declared.document.Document.{Document}
use Rattle.report_text.specs.declared.document.DocumentError.{DocumentError}
use Rattle.report_text.specs.Forms.{entry_form, section_form, is_end}
use Rattle.report_text.specs.Document.{lines_of, front, after, from_entries, after_parts, end_at, number_in, document, unless, document_from, body_of}
use Rattle.run_report.proofs.Lines.{FailsFirst, Stops, stop_after, stop_front}
use Rattle.run_report.proofs.Forms.{first_word}
use Rattle.run_report.proofs.Entries.{EntryWords}
use Rattle.run_report.proofs.Sections.{Test, Word, other_than, no_entry, first_stops, stays, end_stops, ceiling_leaves, bound_leaves, age_leaves, job_leaves, final_leaves, entry_leaves, AreParts}

module _ (kind : Kind) (names : Names) (history : List Entry) (c b a e j f : List ℕ) (parts : AreParts kind names history c b a e j f) where
  abbrev ending : List ℕ
  ending = codes "end\n"

  abbrev from_finals : List ℕ
  from_finals = f ++ ending

  abbrev from_jobs : List ℕ
  from_jobs = j ++ from_finals

  abbrev told : List ℕ
  told = e ++ from_jobs

  -- ---- which words may stand first

  finals_stop : (test : Test) → Word (codes "end") test → Word (codes "final") test → Stops (first_word test) from_finals
  finals_stop test end final = parts.finals.first test final ending (end_stops test end)

  jobs_stop : (test : Test) → Word (codes "end") test → Word (codes "final") test → Word (codes "job") test
      → Stops (first_word test) from_jobs
  jobs_stop test end final job = parts.jobs.first test job from_finals (finals_stop test end final)

  told_stop : (test : Test) → Word (codes "end") test → Word (codes "final") test → Word (codes "job") test
      → EntryWords test → Stops (first_word test) told
  told_stop test end final job entry = parts.entries.first test entry from_jobs (jobs_stop test end final job)

  -- ---- the parts before the entries

  abbrev limits : Bool → List ℕ
  limits admitted = cond admitted (b ++ a) []

  age_told : Stops (first_word (other_than (codes "age"))) told
  age_told = told_stop (other_than (codes "age")) refl refl refl (record { plan = refl; step = refl; block = refl; idle = refl })

  bound_told : Stops (first_word (other_than (codes "bound"))) told
  bound_told = told_stop (other_than (codes "bound")) refl refl refl (record { plan = refl; step = refl; block = refl; idle = refl })

  ceiling_told : Stops (first_word (other_than (codes "ceiling"))) told
  ceiling_told = told_stop (other_than (codes "ceiling")) refl refl refl (record { plan = refl; step = refl; block = refl; idle = refl })

  age_stays : after (section_form Ages kind names) (lines_of told).0 ≡ (lines_of told).0
  age_stays = stays (other_than (codes "age")) (section_form Ages kind names) told (age_leaves kind names) age_told

  limits_over : (admitted : Bool) → kind.admitted ≡ admitted
      → after (section_form Ages kind names) (after (section_form Bounds kind names) (lines_of (limits admitted ++ told)).0) ≡ (lines_of told).0
  limits_over true is =
      let ages = parts.ages is in
      let stop = ages.first (other_than (codes "bound")) refl told bound_told in
      ap (λ (t : List ℕ). after (section_form Ages kind names) (after (section_form Bounds kind names) (lines_of t).0)) (append_assoc b a told)
      ∙ ap (after (section_form Ages kind names)) ((parts.bounds is).passes.over (a ++ told) ∙ stays (other_than (codes "bound")) (section_form Bounds kind names) (a ++ told) (bound_leaves kind names) stop)
      ∙ ages.passes.over told ∙ age_stays
  limits_over false is =
      ap (after (section_form Ages kind names)) (stays (other_than (codes "bound")) (section_form Bounds kind names) told (bound_leaves kind names) bound_told)
      ∙ age_stays

  limits_stop : (admitted : Bool) → kind.admitted ≡ admitted → Stops (first_word (other_than (codes "ceiling"))) (limits admitted ++ told)
  limits_stop true is =
      subst (λ (t : List ℕ). Stops (first_word (other_than (codes "ceiling"))) t) (sym (append_assoc b a told))
      ((parts.bounds is).first (other_than (codes "ceiling")) refl (a ++ told) ((parts.ages is).first (other_than (codes "ceiling")) refl told ceiling_told))
  limits_stop false is = ceiling_told

  limits_last : (admitted : Bool) → kind.admitted ≡ admitted → (lines_of (limits admitted ++ told)).1 ≡ (lines_of told).1
  limits_last true is =
      ap (λ (t : List ℕ). (lines_of t).1) (append_assoc b a told)
      ∙ (parts.bounds is).passes.last (a ++ told) ∙ (parts.ages is).passes.last told
  limits_last false is = refl

  -- all that follows the declarations
  abbrev pub following : List ℕ
  following = c ++ (limits kind.admitted ++ told)

  to_entries : from_entries kind names (lines_of following).0 ≡ (lines_of told).0
  unfolding from_entries
  to_entries =
      let rest : List ℕ = limits kind.admitted ++ told in
      let over : after (section_form Ceilings kind names) (lines_of following).0 ≡ (lines_of rest).0 =
      parts.ceilings.passes.over rest
      ∙ stays (other_than (codes "ceiling")) (section_form Ceilings kind names) rest (ceiling_leaves kind names) (limits_stop kind.admitted refl) in
      ap (λ (l : List (List ℕ)). after (section_form Ages kind names) (after (section_form Bounds kind names) l)) over
      ∙ limits_over kind.admitted refl

  -- ---- the entries and what follows them

  entries_stop : FailsFirst (entry_form kind.second names) (lines_of from_jobs).0
  entries_stop =
      first_stops no_entry (entry_form kind.second names) (lines_of from_jobs).0 (entry_leaves kind.second names) (jobs_stop no_entry refl refl refl)

  to_end : after_parts kind names (lines_of told).0 ≡ codes "end" ∷ []
  unfolding after_parts
  to_end =
      let entries_over : after (entry_form kind.second names) (lines_of told).0 ≡ (lines_of from_jobs).0 =
      parts.entries.passes.over from_jobs ∙ stop_after (entry_form kind.second names) from_jobs entries_stop in
      let jobs_over : after (section_form Jobs kind names) (lines_of from_jobs).0 ≡ (lines_of from_finals).0 =
      parts.jobs.passes.over from_finals
      ∙ stays (other_than (codes "job")) (section_form Jobs kind names) from_finals (job_leaves kind names) (finals_stop (other_than (codes "job")) refl refl) in
      let finals_over : after (section_form Finals kind names) (lines_of from_finals).0 ≡ (lines_of ending).0 =
      parts.finals.passes.over ending
      ∙ stays (other_than (codes "final")) (section_form Finals kind names) ending (final_leaves kind names) (end_stops (other_than (codes "final")) refl) in
      ap (λ (l : List (List ℕ)). after (section_form Finals kind names) (after (section_form Jobs kind names) l)) entries_over
      ∙ ap (after (section_form Finals kind names)) jobs_over ∙ finals_over

  all_read : front (entry_form kind.second names) (lines_of told).0 ≡ history
  all_read =
      parts.read from_jobs ∙ ap (λ (l : List Entry). history ++ l) (stop_front (entry_form kind.second names) from_jobs entries_stop)
      ∙ append-nil history

  no_more : (lines_of following).1 ≡ []
  no_more =
      parts.ceilings.passes.last (limits kind.admitted ++ told) ∙ limits_last kind.admitted refl
      ∙ parts.entries.passes.last from_jobs ∙ parts.jobs.passes.last from_finals ∙ parts.finals.passes.last ending

  -- ---- the whole

  ended : (n : ℕ) → end_at n (codes "end" ∷ []) [] ≡ None
  unfolding is_end
  ended n = refl

  abbrev pub made : Head → ℕ → Document
  made head n = record {
    head = head;
    second = kind.second;
    entries = history;
    first = number_in n (lines_of following).0 (lines_of told).0;
  }

  pub body_again : (head : Head) (n : ℕ) → head.names ≡ names
      → body_of head kind n (lines_of following).0 (lines_of following).1 ≡ Ok (made head n)
  unfolding body_of
  body_again head n is =
      let lines : List (List ℕ) = (lines_of following).0 in
      let from : from_entries kind head.names lines ≡ (lines_of told).0 = ap (λ (m : Names). from_entries kind m lines) is ∙ to_entries in
      let left : after_parts kind head.names (lines_of told).0 ≡ codes "end" ∷ [] = ap (λ (m : Names). after_parts kind m (lines_of told).0) is ∙ to_end in
      let read : front (entry_form kind.second head.names) (lines_of told).0 ≡ history = ap (λ (m : Names). front (entry_form kind.second m) (lines_of told).0) is ∙ all_read in
      ap (λ (l : List (List ℕ)). document_from head kind n lines (lines_of following).1 l (after_parts kind head.names l)) from
      ∙ ap (λ (l : List (List ℕ)). document_from head kind n lines (lines_of following).1 (lines_of told).0 l) left
      ∙ ap (λ (l : List ℕ). document_from head kind n lines l (lines_of told).0 (codes "end" ∷ [])) no_more
      ∙ ap (λ (o : Option DocumentError). unless o (document head kind n lines (lines_of told).0)) (ended (number_in n lines (codes "end" ∷ [])))
      ∙ ap (λ (es : List Entry). Ok (record { head = head; second = kind.second; entries = es; first = number_in n lines (lines_of told).0 })) read
