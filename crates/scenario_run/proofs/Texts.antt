-- The lines of entries, as far as they were handed on.
use Rattle.std.proofs.Common.{◌≡◌, ℕ, zero, suc, ◌+◌, ◌-◌, ◌*◌, ◌<◌, ◌≤◌, List, [], ◌∷◌, ◌++◌, take, drop, length, get_or, Option, None, Some, Result, Ok, Err, OnOk, OnErr, refl, sym, ap, subst, ◌∙◌, arith, length-append, append_assoc, append-nil, drop-cons, add-one}
use Rattle.std.proofs.lemmas.List.{take-append-drop, take_all, length-drop}
use Rattle.std.proofs.Math.Seq.{take-append_seam, take-nil}
use Rattle.std.specs.Io.KnownBytes.{Appends}
use Rattle.rt_base.specs.declared.name.Names.{Names}
use Rattle.txn_set.specs.Set.{Set}
use Rattle.step_journal.specs.declared.entry.Entry.{Entry}
use Rattle.step_journal.specs.History.{IsLegal}
use Rattle.job_rows.specs.Upkeep.{RowsSeen, Follows, planned_jobs}
use Rattle.report_text.specs.Texts.{entries_text, whole_entry_line}
use Rattle.run_report.specs.Report.{Continues}
use Rattle.io_edge.proofs.Known.{appends_then}
use Rattle.job_rows.proofs.Fronts.{legal_front, planned_front}
use Rattle.run_report.proofs.Writing.{any_place}

-- ---- fronts of histories

-- the first so many of the entries after a place
take_plus : (i n : ℕ) (entries : List Entry) → take (i + n) entries ≡ take i entries ++ take n (drop i entries)
take_plus zero n entries = (let q : 0 + n ≡ n = omega arith in ap (λ (k : ℕ). take k entries) q)
take_plus (suc i) n [] = (let q : suc i + n ≡ suc (i + n) = omega arith in ap (λ (k : ℕ). take {A = Entry} k []) q ∙ sym (take-nil n))
take_plus (suc i) n (e ∷ es) = (let q : suc i + n ≡ suc (i + n) = omega arith in ap (λ (k : ℕ). take k (e ∷ es)) q ∙ ap (λ (l : List Entry). e ∷ l) (take_plus i n es))

drop_plus : (i n : ℕ) (entries : List Entry) → drop n (drop i entries) ≡ drop (i + n) entries
drop_plus zero n entries = (let q : n ≡ 0 + n = omega arith in ap (λ (k : ℕ). drop k entries) q)
drop_plus (suc i) n [] = drop_none n ∙ (let q : suc (i + n) ≡ suc i + n = omega arith in ap (λ (k : ℕ). drop {A = Entry} k []) q) where
  drop_none : (n : ℕ) → drop {A = Entry} n [] ≡ []
  drop_none zero = refl
  drop_none (suc n) = refl
drop_plus (suc i) n (e ∷ es) = drop_plus i n es ∙ (let q : suc (i + n) ≡ suc i + n = omega arith in ap (λ (k : ℕ). drop k (e ∷ es)) q)

pub rest_is : (n : ℕ) (entries : List Entry) → take (length entries - n) (drop n entries) ≡ drop n entries
rest_is n entries = take_all (length entries - n) (drop n entries) (omega (arith, length-drop n entries))

-- a front of the entries goes on too
pub continues_front : (names : Names) (rows : RowsSeen) (entries : List Entry) (n : ℕ) → Continues names rows entries → Continues names rows (take n entries)
continues_front names rows entries n c =
    let parts : c.history ++ entries ≡ (c.history ++ take n entries) ++ drop n entries =
    ap (λ (l : List Entry). c.history ++ l) (sym (take-append-drop n entries)) ∙ sym (append_assoc c.history (take n entries) (drop n entries)) in
    let fewer : planned_jobs (c.history ++ take n entries) ≤ planned_jobs (c.history ++ entries) =
    subst (λ (l : List Entry). planned_jobs (c.history ++ take n entries) ≤ planned_jobs l) (sym parts) (planned_front (c.history ++ take n entries) (drop n entries)) in
    record {
      set = c.set;
      history = c.history;
      one_each = c.one_each;
      follows = c.follows;
      legal = legal_front c.set (c.history ++ take n entries) (drop n entries) (subst (IsLegal c.set) parts c.legal);
      few = omega (arith, fewer, c.few);
    }

-- what is left of the entries goes on after those before
pub continues_rest : (names : Names) (rows now : RowsSeen) (entries : List Entry) (i : ℕ) → (c : Continues names rows entries) → now.room ≡ rows.room
    → ((set : Set) (history : List Entry) → Follows set rows history → IsLegal set (history ++ entries) → Follows set now (history ++ take i entries))
    → Continues names now (drop i entries)
continues_rest names rows now entries i c room follows =
    let parts : c.history ++ entries ≡ (c.history ++ take i entries) ++ drop i entries =
    ap (λ (l : List Entry). c.history ++ l) (sym (take-append-drop i entries)) ∙ sym (append_assoc c.history (take i entries) (drop i entries)) in
    record {
      set = c.set;
      history = c.history ++ take i entries;
      one_each = c.one_each;
      follows = follows c.set c.history c.follows c.legal;
      legal = subst (IsLegal c.set) parts c.legal;
      few = omega (arith, ap planned_jobs parts, c.few, room);
    }

pub follows_more : (rows now now' : RowsSeen) (entries : List Entry) (i n : ℕ)
    → ((set : Set) (history : List Entry) → Follows set rows history → IsLegal set (history ++ entries) → Follows set now (history ++ take i entries))
    → ((set : Set) (before : List Entry) → Follows set now before → IsLegal set (before ++ take n (drop i entries)) → Follows set now' (before ++ take n (drop i entries)))
    → (set : Set) (history : List Entry) → Follows set rows history → IsLegal set (history ++ entries) → Follows set now' (history ++ take (i + n) entries)
follows_more rows now now' entries i n so_far next set history h legal =
    let front : history ++ take (i + n) entries ≡ (history ++ take i entries) ++ take n (drop i entries) =
    ap (λ (l : List Entry). history ++ l) (take_plus i n entries) ∙ sym (append_assoc history (take i entries) (take n (drop i entries))) in
    let parts : history ++ entries ≡ (history ++ take (i + n) entries) ++ drop (i + n) entries =
    ap (λ (l : List Entry). history ++ l) (sym (take-append-drop (i + n) entries)) ∙ sym (append_assoc history (take (i + n) entries) (drop (i + n) entries)) in
    let here : IsLegal set ((history ++ take i entries) ++ take n (drop i entries)) =
    subst (IsLegal set) front (legal_front set (history ++ take (i + n) entries) (drop (i + n) entries) (subst (IsLegal set) parts legal)) in
    subst (Follows set now') (sym front) (next set (history ++ take i entries) (so_far set history h legal) here)

-- ---- their lines

pub text_append : (names : Names) (xs ys : List Entry) → entries_text names (xs ++ ys) ≡ entries_text names xs ++ entries_text names ys
text_append names [] ys = refl
text_append names (x ∷ xs) ys =
    ap (λ (t : List ℕ). whole_entry_line names 0 x ++ t) (any_place names 1 0 (xs ++ ys) ∙ text_append names xs ys)
    ∙ (sym (append_assoc (whole_entry_line names 0 x) (entries_text names xs) (entries_text names ys))
    ∙ ap (λ (t : List ℕ). (whole_entry_line names 0 x ++ t) ++ entries_text names ys) (any_place names 0 1 xs))

pub text_parts : (names : Names) (entries : List Entry) (i n : ℕ)
    → entries_text names (drop i entries) ≡ entries_text names (take n (drop i entries)) ++ entries_text names (drop (i + n) entries)
text_parts names entries i n =
    ap (entries_text names) (sym (take-append-drop n (drop i entries)))
    ∙ (text_append names (take n (drop i entries)) (drop n (drop i entries))
    ∙ ap (λ (l : List Entry). entries_text names (take n (drop i entries)) ++ entries_text names l) (drop_plus i n entries))

-- what was handed on, with the lines that wait and those of the entries to come, is the whole
pub record IsOnTheWay (taken now : Option (List ℕ)) (waiting coming whole : List ℕ) : Type 0 where
  pub sent : List ℕ
  pub has : Appends taken now sent
  pub parts : sent ++ (waiting ++ coming) ≡ whole

pub starts : (taken : Option (List ℕ)) (waiting whole : List ℕ) → waiting ≡ [] → Appends taken taken [] → IsOnTheWay taken taken waiting whole whole
starts taken waiting whole none same = record { sent = []; has = same; parts = ap (λ (t : List ℕ). t ++ whole) none }

pub goes_on : (taken now then : Option (List ℕ)) (waiting waiting' line coming coming' whole : List ℕ) → IsOnTheWay taken now waiting coming whole
    → coming ≡ line ++ coming' → (sent : List ℕ) → Appends now then sent → sent ++ waiting' ≡ waiting ++ line
    → IsOnTheWay taken then waiting' coming' whole
goes_on taken now then waiting waiting' line coming coming' whole w next sent has parts = record {
  sent = w.sent ++ sent;
  has = appends_then taken now then w.sent sent w.has has;
  parts =
      append_assoc w.sent sent (waiting' ++ coming')
      ∙ (ap (λ (t : List ℕ). w.sent ++ t) (sym (append_assoc sent waiting' coming')
      ∙ (ap (λ (t : List ℕ). t ++ coming') parts
      ∙ (append_assoc waiting line coming' ∙ ap (λ (t : List ℕ). waiting ++ t) (sym next))))
      ∙ w.parts);
}

-- a front of what waits ends a front of the whole
pub cut_short : (taken now then : Option (List ℕ)) (waiting coming whole : List ℕ) (n : ℕ) → IsOnTheWay taken now waiting coming whole
    → Appends now then (take n waiting) → (m : ℕ) × Appends taken then (take m whole)
cut_short taken now then waiting coming whole n w has =
    let front = w.sent ++ take n waiting in
    let parts : front ++ (drop n waiting ++ coming) ≡ whole =
    append_assoc w.sent (take n waiting) (drop n waiting ++ coming)
    ∙ (ap (λ (t : List ℕ). w.sent ++ t) (sym (append_assoc (take n waiting) (drop n waiting) coming) ∙ ap (λ (t : List ℕ). t ++ coming) (take-append-drop n waiting))
    ∙ w.parts) in (
      length front,
      subst (λ (t : List ℕ). Appends taken then t) (sym (ap (take (length front)) (sym parts) ∙ take-append_seam front (drop n waiting ++ coming)))
          (appends_then taken now then w.sent (take n waiting) w.has has),
    )

pub all_sent : (taken now then : Option (List ℕ)) (waiting coming whole : List ℕ) → IsOnTheWay taken now waiting coming whole → coming ≡ []
    → Appends now then waiting → Appends taken then whole
all_sent taken now then waiting coming whole w none has =
    subst (λ (t : List ℕ). Appends taken then t)
    (ap (λ (t : List ℕ). w.sent ++ t) (sym (append-nil waiting) ∙ ap (λ (t : List ℕ). waiting ++ t) (sym none)) ∙ w.parts)
    (appends_then taken now then w.sent waiting w.has has)

pub appends_none : (a : Option (List ℕ)) → Appends a a []
appends_none None = tt
appends_none (Some xs) = sym (append-nil xs)

-- the loop over the entries, as far as it came
pub record HasCome (names : Names) (rows now : RowsSeen) (entries : List Entry) (i : ℕ) (taken taken' : Option (List ℕ)) (lines : List ℕ)
    : Type 0 where
  pub way : IsOnTheWay taken taken' lines (entries_text names (drop i entries)) (entries_text names entries)
  pub follows : (set : Set) (history : List Entry) → Follows set rows history → IsLegal set (history ++ entries) → Follows set now (history ++ take i entries)
  pub places : now.room ≡ rows.room

pub has_begun : (names : Names) (rows : RowsSeen) (entries : List Entry) (taken : Option (List ℕ)) (lines : List ℕ) → lines ≡ []
    → HasCome names rows rows entries 0 taken taken lines
has_begun names rows entries taken lines none = record {
  way = starts taken lines (entries_text names entries) none (appends_none taken);
  follows = λ set history h legal. subst (Follows set rows) (sym (append-nil history)) h;
  places = refl;
}

pub has_come : (names : Names) (rows now now' : RowsSeen) (entries : List Entry) (i n : ℕ) (taken now_taken then : Option (List ℕ)) (lines lines' : List ℕ)
    → HasCome names rows now entries i taken now_taken lines
    → (sent : List ℕ) → Appends now_taken then sent → sent ++ lines' ≡ lines ++ entries_text names (take n (drop i entries))
    → ((set : Set) (before : List Entry) → Follows set now before → IsLegal set (before ++ take n (drop i entries)) → Follows set now' (before ++ take n (drop i entries)))
    → now'.room ≡ now.room
    → HasCome names rows now' entries (i + n) taken then lines'
has_come names rows now now' entries i n taken now_taken then lines lines' h sent has parts next places = record {
  way = goes_on taken now_taken then lines lines' (entries_text names (take n (drop i entries))) (entries_text names (drop i entries)) (entries_text names (drop (i + n) entries))
      (entries_text names entries) h.way (text_parts names entries i n) sent has parts;
  follows = follows_more rows now now' entries i n h.follows next;
  places = places ∙ h.places;
}

-- how many bytes the lines have so far
pub record AreCounted (names : Names) (entries : List Entry) (i bytes : ℕ) : Type 0 where
  pub all : bytes + length (entries_text names (drop i entries)) ≡ length (entries_text names entries)
  pub short : bytes ≤ 256 * i

pub counted_none : (names : Names) (entries : List Entry) → AreCounted names entries 0 0
counted_none names entries = record { all = omega arith; short = omega arith }

pub counted_next : (names : Names) (entries : List Entry) (i n bytes more : ℕ) → AreCounted names entries i bytes
    → more ≡ length (entries_text names (take n (drop i entries))) → more ≤ 256 * n → AreCounted names entries (i + n) (bytes + more)
counted_next names entries i n bytes more c text few =
    let next = ap (λ (t : List ℕ). length t) (text_parts names entries i n) ∙ length-append (entries_text names (take n (drop i entries))) (entries_text names (drop (i + n) entries)) in
    record { all = omega (arith, c.all, next, text); short = omega (arith, c.short, few) }

-- ---- by the answer

pub on_ok : {A E P Q : Type 0} (r : Result A E) → (P → Q) → OnOk r P → OnOk r Q
on_ok (Ok x) f h = f h
on_ok (Err e) f h = tt

pub on_err : {A E P Q : Type 0} (r : Result A E) → (P → Q) → OnErr r P → OnErr r Q
on_err (Ok x) f h = tt
on_err (Err e) f h = f h

pub always_err : {A E P : Type 0} (r : Result A E) → P → OnErr r P
always_err (Ok x) h = tt
always_err (Err e) h = h

-- ---- fronts of texts

pub front_of : (xs ys : List ℕ) (n : ℕ) → xs ++ take n ys ≡ take (length (xs ++ take n ys)) (xs ++ ys)
front_of xs ys n =
    sym (take-append_seam (xs ++ take n ys) (drop n ys))
    ∙ ap (take (length (xs ++ take n ys))) (append_assoc xs (take n ys) (drop n ys) ∙ ap (λ (t : List ℕ). xs ++ t) (take-append-drop n ys))
