-- Where lines stand in a text.
use Rattle.std.proofs.Common.{◌≡◌, ℕ, List, [], ◌∷◌, ◌++◌, length, Some, refl, sym, ap, ◌∙◌, append_assoc}
use Rattle.rt_base.specs.declared.name.Names.{Names}
use Rattle.step_journal.specs.declared.entry.Entry.{Entry}
use Rattle.line_fields.specs.Cuts.{cut_at}
use Rattle.line_fields.proofs.CutLaws.{cut_takes}
use Rattle.journal_text.specs.Lines.{entry_line}
use Rattle.report_text.specs.Placed.{entry_lines, EndsWith, Stand}

pub whole : (text : List ℕ) → EndsWith text text
whole text = record { front = []; all = refl }

-- a line and its line end, and what follows them
line_first : (line more : List ℕ) → (line ++ 10 ∷ []) ++ more ≡ line ++ 10 ∷ more
line_first line more = append_assoc line (10 ∷ []) more

pub past_line : (text rest line more : List ℕ) → Some (line, more) ≡ cut_at 10 rest → EndsWith text rest → EndsWith text more
past_line text rest line more cut h = record {
  front = h.front ++ (line ++ 10 ∷ []);
  all = h.all ∙ (ap (λ (r : List ℕ). h.front ++ r) (cut_takes 10 rest line more (sym cut) ∙ sym (line_first line more))
      ∙ sym (append_assoc h.front (line ++ 10 ∷ []) more));
}

pub along : (text mid rest : List ℕ) → EndsWith text mid → EndsWith mid rest → EndsWith text rest
along text mid rest a b = record {
  front = a.front ++ b.front;
  all = a.all ∙ (ap (λ (r : List ℕ). a.front ++ r) b.all ∙ sym (append_assoc a.front b.front rest));
}

-- ---- the lines of entries

lines_more : (names : Names) (got : List Entry) (e : Entry)
    → entry_lines names (got ++ e ∷ []) ≡ entry_lines names got ++ (entry_line names e ++ 10 ∷ [])
lines_more names [] e = refl
lines_more names (g ∷ got) e =
    ap (λ (r : List ℕ). entry_line names g ++ 10 ∷ r) (lines_more names got e)
    ∙ sym (append_assoc (entry_line names g) (10 ∷ entry_lines names got) (entry_line names e ++ 10 ∷ []))

pub one_entry : (names : Names) (got : List Entry) (rest line more : List ℕ) (e : Entry) (whole : List ℕ)
    → Some (line, more) ≡ cut_at 10 rest → entry_line names e ≡ line → whole ≡ entry_lines names got ++ rest
    → whole ≡ entry_lines names (got ++ e ∷ []) ++ more
one_entry names got rest line more e whole cut is h =
    h ∙ sym (ap (λ (l : List ℕ). l ++ more) (lines_more names got e)
    ∙ (append_assoc (entry_lines names got) (entry_line names e ++ 10 ∷ []) more
    ∙ ap (λ (r : List ℕ). entry_lines names got ++ r)
    (line_first (entry_line names e) more ∙ (ap (λ (l : List ℕ). l ++ 10 ∷ more) is ∙ sym (cut_takes 10 rest line more (sym cut))))))

pub stand : (names : Names) (entries : List Entry) (text mid rest : List ℕ) (begin end : ℕ) → EndsWith text mid
    → mid ≡ entry_lines names entries ++ rest → begin ≡ length mid → end ≡ length rest → Stand names entries text begin end
stand names entries text mid rest begin end h lines b e = record {
  front = h.front;
  back = rest;
  all = h.all ∙ ap (λ (r : List ℕ). h.front ++ r) lines;
  begins = b ∙ ap length lines;
  ends = e;
}

pub stand_along : (names : Names) (entries : List Entry) (text mid : List ℕ) (begin end : ℕ) → EndsWith text mid
    → Stand names entries mid begin end → Stand names entries text begin end
stand_along names entries text mid begin end h s = record {
  front = h.front ++ s.front;
  back = s.back;
  all = h.all ∙ (ap (λ (r : List ℕ). h.front ++ r) s.all ∙ sym (append_assoc h.front s.front (entry_lines names entries ++ s.back)));
  begins = s.begins;
  ends = s.ends;
}
