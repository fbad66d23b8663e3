-- What the writer of a report asks for.
use Rattle.std.proofs.Common.{◌≡◌, ℕ, suc, ◌+◌, ◌≤◌, List, [], ◌∷◌, ◌++◌, map, length, get_or, refl, ap, subst, ◌∙◌, arith, length-append}
use Rattle.std.specs.List.{All}
use Rattle.rt_base.specs.declared.name.Names.{Names}
use Rattle.item_model.specs.declared.stored.Stored.{Stored}
use Rattle.item_model.specs.Kinds.{initial_of}
use Rattle.txn_set.specs.Set.{Set}
use Rattle.step_journal.specs.declared.entry.Entry.{Entry}
use Rattle.step_journal.specs.State.{opening}
use Rattle.board.proofs.Counts.{items_count}
use Rattle.job_rows.specs.Rows.{job_rows}
use Rattle.job_rows.specs.Upkeep.{RowsSeen, Follows, GoOn}
use Rattle.journal_text.specs.Lines.{IsWritable, whole_lines}
use Rattle.report_text.specs.Rows.{numbered}
use Rattle.report_text.specs.Texts.{KnownRow, NamesSet, whole_entry_line, entries_text}
use Rattle.report_text.proofs.GoodLists.{at_end}
use Rattle.run_report.specs.Report.{Writes, Continues, Closes}
use Rattle.run_report.proofs.LegalLines.{legal_lines}
use Rattle.run_report.proofs.LegalRows.{legal_rows}

pub writes_line : (names : Names) (rows : RowsSeen) (entry : Entry) → Writes names rows entry → IsWritable names entry
writes_line names rows entry w =
    let history = w.goes.history in
    let all = legal_lines names w.goes.set (history ++ entry ∷ []) w.one_each w.goes.follows.compiled w.goes.legal in
    subst (IsWritable names) (at_end history entry entry)
    (all (length history) entry (omega (arith, length-append history (entry ∷ []))))

past : {A : Type 0} (xs ys : List A) (k : ℕ) (d : A) → get_or (xs ++ ys) (length xs + k) d ≡ get_or ys k d
past [] ys k d = (let q : 0 + k ≡ k = omega arith in ap (λ (n : ℕ). get_or ys n d) q)
past (x ∷ xs) ys k d = (let q : length (x ∷ xs) + k ≡ suc (length xs + k) = omega arith in ap (λ (n : ℕ). get_or (x ∷ (xs ++ ys)) n d) q ∙ past xs ys k d)

pub continues_lines : (names : Names) (rows : RowsSeen) (entries : List Entry) → Continues names rows entries → All (IsWritable names) entries
continues_lines names rows entries c k d lt =
    let all = legal_lines names c.set (c.history ++ entries) c.one_each c.follows.compiled c.legal in
    subst (IsWritable names) (past c.history entries k d)
    (all (length c.history + k) d (omega (arith, lt, length-append c.history entries)))

pub goes_on : (names : Names) (rows : RowsSeen) (entries : List Entry) → Continues names rows entries → GoOn rows entries
goes_on names rows entries c = record { set = c.set; history = c.history; follows = c.follows; legal = c.legal; fits = c.few }

-- the lines, each without its place
pub any_place : (names : Names) (i j : ℕ) (entries : List Entry) → numbered (whole_entry_line names) i entries ≡ numbered (whole_entry_line names) j entries
any_place names i j [] = refl
any_place names i j (e ∷ es) = ap (λ (t : List ℕ). whole_entry_line names 0 e ++ t) (any_place names (i + 1) (j + 1) es)

pub lines_are : (names : Names) (entries : List Entry) → whole_lines names entries ≡ entries_text names entries
lines_are names [] = refl
lines_are names (e ∷ es) = ap (λ (t : List ℕ). whole_entry_line names 0 e ++ t) (lines_are names es ∙ any_place names 0 1 es)

pub closes_rows : (names : Names) (rows : RowsSeen) (items : List Stored) (c : Closes names rows items)
    → All (KnownRow names) (job_rows c.set c.history)
closes_rows names rows items c = legal_rows names c.set c.history c.one_each c.follows.compiled c.follows.legal

closes_count : (names : Names) (rows : RowsSeen) (items : List Stored) (c : Closes names rows items)
    → length items ≡ length c.set.items
closes_count names rows items c = ap length c.last ∙ items_count c.set c.history

pub closes_few : (names : Names) (rows : RowsSeen) (items : List Stored) → Closes names rows items → length items ≤ 256
closes_few names rows items c = omega (arith, closes_count names rows items c, c.follows.compiled.few_items)

pub closes_each : (names : Names) (rows : RowsSeen) (items : List Stored) → Closes names rows items
    → length items ≤ length names.items
closes_each names rows items c = omega (arith, closes_count names rows items c, c.one_each.items)

-- before the first entry
pub opens : (names : Names) (set : Set) (rows : RowsSeen) (items : List Stored) → NamesSet names set → Follows set rows []
    → items ≡ map initial_of set.items → Closes names rows items
unfolding opening
opens names set rows items one follows is = record {
  set = set;
  history = [];
  follows = follows;
  one_each = one;
  last = is;
}
