-- What an out has taken, before and after a piece.
use Rattle.std.proofs.Common.{◌≡◌, ℕ, ◌+◌, ◌*◌, ◌^◌, ◌<◌, ◌≤◌, List, [], ◌++◌, take, length, Option, refl, sym, ap, subst, ◌∙◌, arith, length-append}
use Rattle.std.specs.Io.KnownBytes.{Appends}
use Rattle.rt_base.specs.declared.name.Names.{Names}
use Rattle.txn_set.specs.Set.{Set}
use Rattle.step_journal.specs.declared.entry.Entry.{Entry}
use Rattle.step_journal.specs.History.{IsLegal}
use Rattle.law_histories.proofs.CountingAll.{entries_few}
use Rattle.job_rows.specs.Upkeep.{RowsSeen, Follows, planned_jobs}
use Rattle.report_text.specs.Texts.{entries_text, NamesSet}
use Rattle.job_rows.proofs.Fronts.{legal_front, planned_both as planned_append}
use Rattle.scenario_run.specs.declared.standing.ReportStanding.{ReportStanding}
use Rattle.scenario_run.specs.declared.standing.ReportStanding.TheVariants.{Going, Cut, Full}
use Rattle.scenario_run.specs.ReportOuts.{Begun, OutSeen, IsGoing, TakenAt, LostAt, HasTaken, IsLost}
use Rattle.run_report.specs.Report.{Continues}
use Rattle.scenario_run.proofs.Texts.{text_append, appends_none}
use Rattle.io_edge.proofs.Known.{appends_then}

-- an out that lost nothing goes on

going_if : (standing : ReportStanding) (begun : Begun) (out : OutSeen) → LostAt standing begun out [] → standing ≡ Going
going_if Going begun out h = refl
going_if Cut begun out h = absurd (omega (arith, h.some))
going_if Full begun out h = absurd (omega (arith, h.over))

pub goes : (begun : Begun) (out : OutSeen) → IsLost begun out [] → out.standing ≡ Going
goes begun out h = going_if out.standing begun out h

going_at : (standing : ReportStanding) (begun : Begun) (out : OutSeen) (history : List Entry) → LostAt standing begun out [] → TakenAt standing begun out history
    → IsGoing begun out history
going_at Going begun out history h t = t
going_at Cut begun out history h t = absurd (omega (arith, h.some))
going_at Full begun out history h t = t

taken_going : (standing : ReportStanding) (begun : Begun) (out : OutSeen) (history : List Entry) → standing ≡ Going → IsGoing begun out history → TakenAt standing begun out history
taken_going standing begun out history e t = subst (λ (s : ReportStanding). TakenAt s begun out history) (sym e) t

-- an out that has taken nothing
pub opens : (begun : Begun) (sink : ℕ) (set : Set) (out : OutSeen)
    → begun ≡ record { sink = sink; front = out.taken; names = out.names; set = set; room = out.rows.room }
    → out.standing ≡ Going → out.bytes ≡ 0 → out.lines ≡ [] → NamesSet out.names set → Follows set out.rows []
    → (begun.sink ≡ sink) × HasTaken begun out []
opens begun sink set out is goes none empty named follows =
    let b : Begun = record { sink = sink; front = out.taken; names = out.names; set = set; room = out.rows.room } in
    let at : IsGoing b out [] = record {
      names_are = refl;
      room_is = refl;
      one_each = named;
      follows = follows;
      few = omega arith;
      sent = empty;
      has = appends_none out.taken;
      bytes_are = sym none;
      short = omega (arith, none);
    } in
    subst (λ (x : Begun). (x.sink ≡ sink) × HasTaken x out []) (sym is) (refl, λ legal. taken_going out.standing b out [] goes at)

module _ (begun : Begun) (out : OutSeen) (entries : List Entry) where
  -- the history that can go on is the one whose lines the sink has
  pub going : (history : List Entry) → IsLost begun out [] → HasTaken begun out history → IsLegal begun.set (history ++ entries) → IsGoing begun out history
  going history h t legal = going_at out.standing begun out history h (t (legal_front begun.set history entries legal))

  pub few_entries : (history : List Entry) → IsGoing begun out history → IsLegal begun.set (history ++ entries) → length (history ++ entries) < 2 ^ 42
  few_entries history t legal = (entries_few begun.set (history ++ entries) t.follows.compiled legal).all

  pub few_next : (history : List Entry) → IsGoing begun out history → IsLegal begun.set (history ++ entries) → length entries < 2 ^ 42
  few_next history t legal = omega (arith, few_entries history t legal, length-append history entries)

  -- the count of bytes does not come to its end
  pub bytes_fit : (history : List Entry) (n : ℕ) → IsGoing begun out history → IsLegal begun.set (history ++ entries) → n ≤ 256 * length entries → out.bytes + n < 2 ^ 64
  bytes_fit history n t legal le = omega (arith, few_entries history t legal, length-append history entries, t.short, le)

  pub continues : (history : List Entry) (left : ℕ) → IsGoing begun out history → IsLegal begun.set (history ++ entries) → out.rows.planned + left ≡ out.rows.room
      → planned_jobs entries ≤ left → Continues out.names out.rows entries
  continues history left t legal places few = record {
    set = begun.set;
    history = history;
    one_each = subst (λ (n : Names). NamesSet n begun.set) (sym t.names_are) t.one_each;
    follows = t.follows;
    legal = legal;
    few = omega (arith, planned_append history entries, t.follows.planned, places, few);
  }

  text_after : (history : List Entry) → IsGoing begun out history → entries_text begun.names history ++ entries_text out.names entries ≡ entries_text begun.names (history ++ entries)
  text_after history t =
      ap (λ (m : Names). entries_text begun.names history ++ entries_text m entries) t.names_are ∙ sym (text_append begun.names history entries)

  -- after all lines of the piece
  module _ (rows' : RowsSeen) (lines' : List ℕ) (n : ℕ) (taken' : Option (List ℕ)) (left : ℕ) where
    abbrev After : OutSeen
    After = record { standing = out.standing; names = out.names; rows = rows'; lines = lines'; bytes = out.bytes + n; taken = taken' }

    going_after : (history : List Entry) → IsGoing begun out history → IsLegal begun.set (history ++ entries) → rows'.room ≡ out.rows.room
        → ((set : Set) (before : List Entry) → Follows set out.rows before → IsLegal set (before ++ entries) → Follows set rows' (before ++ entries))
        → Appends out.taken taken' (entries_text out.names entries) → lines' ≡ [] → out.rows.planned + left ≡ out.rows.room → planned_jobs entries ≤ left
        → n ≡ length (entries_text out.names entries) → n ≤ 256 * length entries → IsGoing begun After (history ++ entries)
    going_after history t legal room follows has none places few bytes short = record {
      names_are = t.names_are;
      room_is = room ∙ t.room_is;
      one_each = t.one_each;
      follows = follows begun.set history t.follows legal;
      few = omega (arith, planned_append history entries, t.follows.planned, places, few, t.room_is);
      sent = none;
      has = subst (λ (x : List ℕ). Appends begun.front taken' x) (text_after history t)
          (appends_then begun.front out.taken taken' (entries_text begun.names history) (entries_text out.names entries) t.has has);
      bytes_are =
          ap (λ (x : List ℕ). length x) (sym (text_after history t))
          ∙ (length-append (entries_text begun.names history) (entries_text out.names entries)
          ∙ omega (arith, t.bytes_are, bytes));
      short = omega (arith, t.short, short, length-append history entries);
    }

    pub taken_on : IsLost begun out [] → rows'.room ≡ out.rows.room
        → ((set : Set) (before : List Entry) → Follows set out.rows before → IsLegal set (before ++ entries) → Follows set rows' (before ++ entries))
        → Appends out.taken taken' (entries_text out.names entries) → lines' ≡ [] → out.rows.planned + left ≡ out.rows.room → planned_jobs entries ≤ left
        → n ≡ length (entries_text out.names entries) → n ≤ 256 * length entries
        → (history : List Entry) → HasTaken begun out history → HasTaken begun After (history ++ entries)
    taken_on h room follows has none places few bytes short history t = λ legal.
        taken_going out.standing begun After (history ++ entries) (goes begun out h)
        (going_after history (going history h t legal) legal room follows has none places few bytes short)

  -- after a fault of the sink
  module _ (rows' : RowsSeen) (lines' : List ℕ) (taken' : Option (List ℕ)) (n : ℕ) (has : Appends out.taken taken' (take n (entries_text out.names entries))) where
    abbrev Off : OutSeen
    Off = record { standing = Cut; names = out.names; rows = rows'; lines = lines'; bytes = out.bytes; taken = taken' }

    pub cut_taken : IsLost begun out [] → (history : List Entry) → HasTaken begun out history → HasTaken begun Off history
    cut_taken h history t = λ legal.
        let was : IsGoing begun out history = going_at out.standing begun out history h (t legal) in
        record {
          more = take n (entries_text out.names entries);
          has = appends_then begun.front out.taken taken' (entries_text begun.names history) (take n (entries_text out.names entries)) was.has has;
          bytes_are = was.bytes_are;
        }

    pub cut_lost : (history : List Entry) → IsGoing begun out history → 0 < length entries → IsLost begun Off entries
    cut_lost history t some = record {
      some = some;
      before = entries_text begun.names history;
      bytes_are = t.bytes_are;
      count = n;
      has = subst (λ (m : Names). Appends begun.front taken' (entries_text begun.names history ++ take n (entries_text m entries))) t.names_are
          (appends_then begun.front out.taken taken' (entries_text begun.names history) (take n (entries_text out.names entries)) t.has has);
    }

  -- where places are wanting
  abbrev Over : OutSeen
  Over = record { standing = Full; names = out.names; rows = out.rows; lines = out.lines; bytes = out.bytes; taken = out.taken }

  pub over_lost : (history : List Entry) (left : ℕ) → IsGoing begun out history → out.rows.planned + left ≡ out.rows.room → left < planned_jobs entries → IsLost begun Over entries
  over_lost history left t places over = record {
    left = left;
    places = places ∙ t.room_is;
    over = over;
  }
