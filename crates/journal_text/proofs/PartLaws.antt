-- The parts of a line are read back as they were written.
use Rattle.std.proofs.Common.{◌≡◌, ℕ, ◌<◌, ◌^◌, Bool, true, false, cond, List, [], ◌∷◌, ◌++◌, ◌-◌, length, take, drop, Option, Some, None, option_map, decimal, codes, refl, sym, ap, subst, ◌∙◌, arith, append_assoc, append-nil}
use Rattle.std.specs.Fmt.{signed_decimal}
use Rattle.std.specs.Int.{IsInRange}
use Rattle.std.specs.Str.{bytes_eq}
use Rattle.std.proofs.lemmas.List.{take-append-drop}
use Rattle.std.proofs.lemmas.Slice.Eq.{bytes_eq-Decides}
use Rattle.rt_base.specs.Names.{AreNames}
use Rattle.rt_base.specs.declared.name.Names.{Names}
use Rattle.rt_base.specs.declared.ids.ItemId.{ItemId}
use Rattle.rt_base.specs.declared.operation.Op.{Op}
use Rattle.rt_base.specs.declared.operation.Op.TheVariants.{Read, Write, Compute, Commit, Quit}
use Rattle.rt_base.specs.declared.operation.Outcome.{Outcome}
use Rattle.rt_base.specs.declared.operation.Outcome.TheVariants.{Got, Put, Computed, Closed}
use Rattle.rt_base.specs.declared.operation.End.{End}
use Rattle.rt_base.specs.declared.operation.End.TheVariants as end
use Rattle.line_fields.specs.Cuts.{◌>>=◌, next, field_of, word_is, done_of, field, Lacks, Ends}
use Rattle.line_fields.specs.Numbers.{unsigned_of, signed_of, IsI64}
use Rattle.journal_text.specs.Ids.{name_at, item_of}
use Rattle.line_fields.proofs.CutLaws.{rest_of, some_is, none_some, bind_some, Takes, take_step, done_takes, field_takes, field_again, next_again, lacks_test, given_takes, given_again}
use Rattle.line_fields.proofs.NumberLaws.{unsigned_takes, unsigned_again, unsigned_lacks, decimal_lacks, signed_takes, signed_again, signed_lacks}
use Rattle.journal_text.proofs.IdLaws.{item_takes, item_again, id_lacks}
use Rattle.journal_text.specs.Lines.{op_text, stamp_text, outcome_text, end_text, over_text, IsItem, IsOp, Answers, IsStamp, IsOutcome, IsEnd, IsOver}
use Rattle.journal_text.specs.Reading.{read_of, write_of, op_form, op_of, stamp_of, got_of, outcome_of, stale_of, apart_of, end_form, end_of, over_of}

by_test : {A : Type 0} (w lit : List ℕ) (x y : Option A) (a : A) (P : List ℕ → Type 0) → (x ≡ Some a → P lit)
    → (y ≡ Some a → P w) → (test : Bool) → bytes_eq w lit ≡ test → cond test x y ≡ Some a → P w
by_test w lit x y a P hit other true is h = subst P (sym ((bytes_eq-Decides w lit).0 is)) (hit h)
by_test w lit x y a P hit other false is h = other h

-- a choice by a word
pub by_word : {A : Type 0} (w lit : List ℕ) (x y : Option A) (a : A) (P : List ℕ → Type 0)
    → cond (bytes_eq w lit) x y ≡ Some a → (x ≡ Some a → P lit) → (y ≡ Some a → P w) → P w
by_word w lit x y a P e hit other = by_test w lit x y a P hit other (bytes_eq w lit) refl e

abbrev name : Names → ItemId → List ℕ
name names item = name_at names.items item.0

-- ---- operations

abbrev OpLine : Names → List ℕ → List ℕ → Op × List ℕ → Type 0
OpLine names w bs p = IsOp names p.0 × (field w ++ bs ≡ op_text names p.0 ++ p.1)

read_takes : (names : Names) (bs : List ℕ) (p : Op × List ℕ) → read_of names bs ≡ Some p
    → OpLine names (codes "read") bs p
unfolding read_of
read_takes names bs p e =
    let i = take_step (IsItem names) (name names) (item_of names.items) (item_takes names.items) bs _ p e in
    subst (OpLine names (codes "read") bs) (some_is _ p i.more) (i.fits, ap (λ (r : List ℕ). field (codes "read") ++ r) i.line)

write_takes : (names : Names) (bs : List ℕ) (p : Op × List ℕ) → write_of names bs ≡ Some p
    → OpLine names (codes "write") bs p
unfolding write_of
write_takes names bs p e =
    let i = take_step (IsItem names) (name names) (item_of names.items) (item_takes names.items) bs _ p e in
    let v = take_step IsI64 signed_decimal signed_of signed_takes i.rest _ p i.more in
    let line : bs ≡ field (name names i.got) ++ field (signed_decimal v.got) ++ v.rest = i.line ∙ ap (λ (r : List ℕ). field (name names i.got) ++ r) v.line ∙ sym (append_assoc (field (name names i.got)) (field (signed_decimal v.got)) v.rest) in
    subst (OpLine names (codes "write") bs) (some_is _ p v.more) ((i.fits, v.fits), ap (λ (r : List ℕ). field (codes "write") ++ r) line)

op_form_takes : (names : Names) (w bs : List ℕ) (p : Op × List ℕ) → op_form names w bs ≡ Some p → OpLine names w bs p
unfolding op_form
op_form_takes names w bs p e =
    let P : List ℕ → Type 0 = λ v. OpLine names v bs p in
    by_word w (codes "read") (read_of names bs) _ p P e (read_takes names bs p) (λ e.
    by_word w (codes "write") (write_of names bs) _ p P e (write_takes names bs p) (λ e.
    by_word w (codes "compute") (Some (Compute, bs)) _ p P e (λ e. subst (OpLine names (codes "compute") bs) (some_is _ p e) (tt, refl)) (λ e.
    by_word w (codes "commit") (Some (Commit, bs)) _ p P e (λ e. subst (OpLine names (codes "commit") bs) (some_is _ p e) (tt, refl)) (λ e.
    by_word w (codes "quit") (Some (Quit, bs)) None p P e (λ e. subst (OpLine names (codes "quit") bs) (some_is _ p e) (tt, refl)) (λ e.
    absurd (none_some p e))))))

pub op_takes : (names : Names) (bs : List ℕ) (p : Op × List ℕ) → op_of names bs ≡ Some p
    → IsOp names p.0 × (bs ≡ op_text names p.0 ++ p.1)
unfolding op_of
op_takes names bs p e =
    let w = bind_some (field_of bs) (λ w. op_form names w.0 w.1) p e in
    let t = op_form_takes names w.0.0 w.0.1 p w.2 in
    (t.0, field_takes bs w.0.0 w.0.1 w.1 ∙ t.1)

pub op_again : (names : Names) (op : Op) (rest : List ℕ) → AreNames names.items → IsOp names op → Ends rest
    → op_of names (op_text names op ++ rest) ≡ Some (op, rest)
unfolding op_of op_form read_of write_of
op_again names (Read item) rest good fits ends =
    rw (
      field_again (codes "read") (field (name names item) ++ rest) (lacks_test 32 (codes "read") refl) refl,
      next_again (item_of names.items) (name names item) rest item (item_again names.items item good fits) (id_lacks names.items item.0 good fits) ends,
    ) refl
op_again names (Write item value) rest good fits ends =
    rw (
      append_assoc (name names item) (field (signed_decimal value)) rest,
      field_again (codes "write") (field (name names item) ++ (field (signed_decimal value) ++ rest)) (lacks_test 32 (codes "write") refl) refl,
      next_again (item_of names.items) (name names item) (field (signed_decimal value) ++ rest) item (item_again names.items item good fits.0) (id_lacks names.items item.0 good fits.0) refl,
      next_again signed_of (signed_decimal value) rest value (signed_again value fits.1) (signed_lacks value fits.1) ends,
    ) refl
op_again names Compute rest good fits ends =
    rw (field_again (codes "compute") rest (lacks_test 32 (codes "compute") refl) ends) refl
op_again names Commit rest good fits ends =
    rw (field_again (codes "commit") rest (lacks_test 32 (codes "commit") refl) ends) refl
op_again names Quit rest good fits ends =
    rw (field_again (codes "quit") rest (lacks_test 32 (codes "quit") refl) ends) refl

-- the operation after a word that is compared where it stands
op_in : (names : Names) (w bs rest : List ℕ) → bs ≡ field w ++ rest → Lacks 32 w → Ends rest → op_of names bs ≡ op_form names w rest
unfolding op_of
op_in names w bs rest is lacks ends = rw (is, field_again w rest lacks ends) refl

pub op_compute : (names : Names) (bs rest : List ℕ) → bs ≡ codes " compute" ++ rest → Ends rest → op_of names bs ≡ Some (Compute, rest)
unfolding op_form
op_compute names bs rest is ends = op_in names (codes "compute") bs rest is (lacks_test 32 (codes "compute") refl) ends

pub op_commit : (names : Names) (bs rest : List ℕ) → bs ≡ codes " commit" ++ rest → Ends rest → op_of names bs ≡ Some (Commit, rest)
unfolding op_form
op_commit names bs rest is ends = op_in names (codes "commit") bs rest is (lacks_test 32 (codes "commit") refl) ends

pub op_write : (names : Names) (bs rest : List ℕ) → bs ≡ codes " write" ++ rest → Ends rest → op_of names bs ≡ write_of names rest
unfolding op_form
op_write names bs rest is ends = op_in names (codes "write") bs rest is (lacks_test 32 (codes "write") refl) ends

pub op_read : (names : Names) (bs rest : List ℕ) → bs ≡ codes " read" ++ rest → Ends rest → op_of names bs ≡ read_of names rest
unfolding op_form
op_read names bs rest is ends = op_in names (codes "read") bs rest is (lacks_test 32 (codes "read") refl) ends

-- ---- outcomes

number : (w : List ℕ) (stamp : Option ℕ) (o : Option ℕ) → unsigned_of w ≡ o → option_map (λ n. Some n) o ≡ Some stamp
    → IsStamp stamp × (stamp_text stamp ≡ w)
number w stamp None is e = absurd (none_some stamp e)
number w stamp (Some n) is e =
    subst (λ (s : Option ℕ). IsStamp s × (stamp_text s ≡ w)) (some_is (Some n) stamp e) (unsigned_takes w n is)

stamp_takes : Takes IsStamp stamp_text stamp_of
unfolding stamp_of
stamp_takes w stamp e =
    by_word w (codes "own") (Some None) (option_map (λ n. Some n) (unsigned_of w)) stamp (λ v. IsStamp stamp × (stamp_text stamp ≡ v)) e
    (λ e. subst (λ (s : Option ℕ). IsStamp s × (stamp_text s ≡ codes "own")) (some_is None stamp e) (tt, refl))
    (λ e. number w stamp (unsigned_of w) refl e)

no_letter : ¬ IsInRange 48 57 111
no_letter h = omega (arith, h.0, h.1)

not_own : (n : ℕ) → n < 2 ^ 64 → (test : Bool) → bytes_eq (decimal n) (codes "own") ≡ test → test ≡ false
not_own n lt true e =
    let same : decimal n ≡ codes "own" = (bytes_eq-Decides (decimal n) (codes "own")).0 e in
    absurd (subst (Lacks 111) same (decimal_lacks 111 n no_letter lt) 0 (omega arith) refl)
not_own n lt false e = refl

stamp_again : (stamp : Option ℕ) → IsStamp stamp → stamp_of (stamp_text stamp) ≡ Some stamp
unfolding stamp_of
stamp_again None fits = refl
stamp_again (Some n) fits = rw (not_own n fits (bytes_eq (decimal n) (codes "own")) refl, unsigned_again n fits) refl

stamp_next : (bs w rest : List ℕ) (stamp : Option ℕ) → field_of bs ≡ Some (w, rest) → stamp_of w ≡ Some stamp
    → next stamp_of bs ≡ Some (stamp, rest)
unfolding next
stamp_next bs w rest stamp field is = rw (field, is) refl

-- a stamp that is a number
pub stamp_number : (bs : List ℕ) (n : ℕ) (rest : List ℕ) → next unsigned_of bs ≡ Some (n, rest) → next stamp_of bs ≡ Some (Some n, rest)
unfolding next
stamp_number bs n rest e =
    let f = bind_some (field_of bs) (λ f. unsigned_of f.0 >>= λ a. Some (a, f.1)) (n, rest) e in
    let a = bind_some (unsigned_of f.0.0) (λ a. Some (a, f.0.1)) (n, rest) f.2 in
    let fits = unsigned_takes f.0.0 a.0 a.1 in
    let stamp : stamp_of f.0.0 ≡ Some (Some a.0) = ap stamp_of (sym fits.1) ∙ stamp_again (Some a.0) fits.0 in
    let same : (a.0, f.0.1) ≡ (n, rest) = some_is _ _ a.2 in
    stamp_next bs f.0.0 f.0.1 (Some a.0) f.1 stamp ∙ ap (λ (p : ℕ × List ℕ). Some (Some p.0, p.1)) same

-- bytes of which the first are these
pub cut_front : (bs w : List ℕ) → bytes_eq (take (length w) bs) w ≡ true → bs ≡ w ++ take (length bs - length w) (drop (length w) bs)
cut_front bs w e =
    sym (take-append-drop (length w) bs) ∙ (ap (λ (t : List ℕ). t ++ drop (length w) bs) ((bytes_eq-Decides (take (length w) bs) w).0 e)
    ∙ ap (λ (r : List ℕ). w ++ r) (sym (rest_of (length w) bs)))

pub ends_after : (bs : List ℕ) (n : ℕ) → Ends (drop n bs) → Ends (take (length bs - n) (drop n bs))
ends_after bs n ends = subst Ends (sym (rest_of n bs)) ends

stamp_lacks : (stamp : Option ℕ) → IsStamp stamp → Lacks 32 (stamp_text stamp)
stamp_lacks None fits = lacks_test 32 (codes "own") refl
stamp_lacks (Some n) fits = unsigned_lacks n fits

abbrev OutcomeLine : Op → List ℕ → Outcome × List ℕ → Type 0
OutcomeLine op bs p = Answers op p.0 × IsOutcome p.0 × (bs ≡ outcome_text p.0 ++ p.1)

got_takes : (item : ItemId) (bs : List ℕ) (p : Outcome × List ℕ) → got_of bs ≡ Some p → OutcomeLine (Read item) bs p
unfolding got_of
got_takes item bs p e =
    let v = take_step IsI64 signed_decimal signed_of signed_takes bs _ p e in
    let s = take_step IsStamp stamp_text stamp_of stamp_takes v.rest _ p v.more in
    let line : bs ≡ field (signed_decimal v.got) ++ field (stamp_text s.got) ++ s.rest = v.line ∙ ap (λ (r : List ℕ). field (signed_decimal v.got) ++ r) s.line ∙ sym (append_assoc (field (signed_decimal v.got)) (field (stamp_text s.got)) s.rest) in
    subst (OutcomeLine (Read item) bs) (some_is _ p s.more) (tt, (v.fits, s.fits), line)

pub outcome_takes : (op : Op) (bs : List ℕ) (p : Outcome × List ℕ) → outcome_of op bs ≡ Some p → OutcomeLine op bs p
unfolding outcome_of
outcome_takes (Read item) bs p e = got_takes item bs p e
outcome_takes (Write item value) bs p e = subst (OutcomeLine (Write item value) bs) (some_is _ p e) (tt, tt, refl)
outcome_takes Compute bs p e = subst (OutcomeLine Compute bs) (some_is _ p e) (tt, tt, refl)
outcome_takes Commit bs p e = subst (OutcomeLine Commit bs) (some_is _ p e) (tt, tt, refl)
outcome_takes Quit bs p e = subst (OutcomeLine Quit bs) (some_is _ p e) (tt, tt, refl)

pub outcome_again : (op : Op) (outcome : Outcome) (rest : List ℕ) → Answers op outcome → IsOutcome outcome → Ends rest
    → outcome_of op (outcome_text outcome ++ rest) ≡ Some (outcome, rest)
unfolding outcome_of got_of
outcome_again (Read item) (Got value stamp) rest ok fits ends =
    rw (
      append_assoc (signed_decimal value) (field (stamp_text stamp)) rest,
      next_again signed_of (signed_decimal value) (field (stamp_text stamp) ++ rest) value (signed_again value fits.0) (signed_lacks value fits.0) refl,
      next_again stamp_of (stamp_text stamp) rest stamp (stamp_again stamp fits.1) (stamp_lacks stamp fits.1) ends,
    ) refl
outcome_again (Read item) Put rest ok fits ends = absurd ok
outcome_again (Read item) Computed rest ok fits ends = absurd ok
outcome_again (Read item) Closed rest ok fits ends = absurd ok
outcome_again (Write item value) Put rest ok fits ends = refl
outcome_again (Write item value) (Got v s) rest ok fits ends = absurd ok
outcome_again (Write item value) Computed rest ok fits ends = absurd ok
outcome_again (Write item value) Closed rest ok fits ends = absurd ok
outcome_again Compute Computed rest ok fits ends = refl
outcome_again Compute (Got v s) rest ok fits ends = absurd ok
outcome_again Compute Put rest ok fits ends = absurd ok
outcome_again Compute Closed rest ok fits ends = absurd ok
outcome_again Commit Closed rest ok fits ends = refl
outcome_again Commit (Got v s) rest ok fits ends = absurd ok
outcome_again Commit Put rest ok fits ends = absurd ok
outcome_again Commit Computed rest ok fits ends = absurd ok
outcome_again Quit Closed rest ok fits ends = refl
outcome_again Quit (Got v s) rest ok fits ends = absurd ok
outcome_again Quit Put rest ok fits ends = absurd ok
outcome_again Quit Computed rest ok fits ends = absurd ok

-- ---- ends

abbrev EndLine : Names → List ℕ → List ℕ → End × List ℕ → Type 0
EndLine names w bs p = IsEnd names p.0 × (field w ++ bs ≡ end_text names p.0 ++ p.1)

stale_takes : (names : Names) (bs : List ℕ) (p : End × List ℕ) → stale_of names bs ≡ Some p
    → EndLine names (codes "stale") bs p
unfolding stale_of
stale_takes names bs p e =
    let i = take_step (IsItem names) (name names) (item_of names.items) (item_takes names.items) bs _ p e in
    let v = take_step (λ (n : ℕ). n < 2 ^ 64) decimal unsigned_of unsigned_takes i.rest _ p i.more in
    let line : bs ≡ field (name names i.got) ++ field (decimal v.got) ++ v.rest = i.line ∙ ap (λ (r : List ℕ). field (name names i.got) ++ r) v.line ∙ sym (append_assoc (field (name names i.got)) (field (decimal v.got)) v.rest) in
    subst (EndLine names (codes "stale") bs) (some_is _ p v.more) ((i.fits, v.fits), ap (λ (r : List ℕ). field (codes "stale") ++ r) line)

apart_takes : (names : Names) (bs : List ℕ) (p : End × List ℕ) → apart_of names bs ≡ Some p
    → EndLine names (codes "apart") bs p
unfolding apart_of
apart_takes names bs p e =
    let i = take_step (IsItem names) (name names) (item_of names.items) (item_takes names.items) bs _ p e in
    let v = take_step (IsItem names) (name names) (item_of names.items) (item_takes names.items) i.rest _ p i.more in
    let line : bs ≡ field (name names i.got) ++ field (name names v.got) ++ v.rest = i.line ∙ ap (λ (r : List ℕ). field (name names i.got) ++ r) v.line ∙ sym (append_assoc (field (name names i.got)) (field (name names v.got)) v.rest) in
    subst (EndLine names (codes "apart") bs) (some_is _ p v.more) ((i.fits, v.fits), ap (λ (r : List ℕ). field (codes "apart") ++ r) line)

end_form_takes : (names : Names) (w bs : List ℕ) (p : End × List ℕ) → end_form names w bs ≡ Some p
    → EndLine names w bs p
unfolding end_form
end_form_takes names w bs p e =
    let P : List ℕ → Type 0 = λ v. EndLine names v bs p in
    by_word w (codes "committed") (Some (end.Committed, bs)) _ p P e (λ e. subst (EndLine names (codes "committed") bs) (some_is _ p e) (tt, refl)) (λ e.
    by_word w (codes "overrun") (Some (end.Overrun, bs)) _ p P e (λ e. subst (EndLine names (codes "overrun") bs) (some_is _ p e) (tt, refl)) (λ e.
    by_word w (codes "late") (Some (end.Late, bs)) _ p P e (λ e. subst (EndLine names (codes "late") bs) (some_is _ p e) (tt, refl)) (λ e.
    by_word w (codes "stale") (stale_of names bs) _ p P e (stale_takes names bs p) (λ e.
    by_word w (codes "apart") (apart_of names bs) _ p P e (apart_takes names bs p) (λ e.
    by_word w (codes "quit") (Some (end.Quit, bs)) None p P e (λ e. subst (EndLine names (codes "quit") bs) (some_is _ p e) (tt, refl)) (λ e.
    absurd (none_some p e)))))))

pub end_takes : (names : Names) (bs : List ℕ) (p : End × List ℕ) → end_of names bs ≡ Some p
    → IsEnd names p.0 × (bs ≡ end_text names p.0 ++ p.1)
unfolding end_of
end_takes names bs p e =
    let w = bind_some (field_of bs) (λ w. end_form names w.0 w.1) p e in
    let t = end_form_takes names w.0.0 w.0.1 p w.2 in
    (t.0, field_takes bs w.0.0 w.0.1 w.1 ∙ t.1)

pub end_again : (names : Names) (e : End) (rest : List ℕ) → AreNames names.items → IsEnd names e → Ends rest
    → end_of names (end_text names e ++ rest) ≡ Some (e, rest)
unfolding end_of end_form stale_of apart_of
end_again names end.Committed rest good fits ends =
    rw (field_again (codes "committed") rest (lacks_test 32 (codes "committed") refl) ends) refl
end_again names end.Overrun rest good fits ends =
    rw (field_again (codes "overrun") rest (lacks_test 32 (codes "overrun") refl) ends) refl
end_again names end.Late rest good fits ends =
    rw (field_again (codes "late") rest (lacks_test 32 (codes "late") refl) ends) refl
end_again names (end.Stale item stamp) rest good fits ends =
    rw (
      append_assoc (name names item) (field (decimal stamp)) rest,
      field_again (codes "stale") (field (name names item) ++ (field (decimal stamp) ++ rest)) (lacks_test 32 (codes "stale") refl) refl,
      next_again (item_of names.items) (name names item) (field (decimal stamp) ++ rest) item (item_again names.items item good fits.0) (id_lacks names.items item.0 good fits.0) refl,
      next_again unsigned_of (decimal stamp) rest stamp (unsigned_again stamp fits.1) (unsigned_lacks stamp fits.1) ends,
    ) refl
end_again names (end.Apart a b) rest good fits ends =
    rw (
      append_assoc (name names a) (field (name names b)) rest,
      field_again (codes "apart") (field (name names a) ++ (field (name names b) ++ rest)) (lacks_test 32 (codes "apart") refl) refl,
      next_again (item_of names.items) (name names a) (field (name names b) ++ rest) a (item_again names.items a good fits.0) (id_lacks names.items a.0 good fits.0) refl,
      next_again (item_of names.items) (name names b) rest b (item_again names.items b good fits.1) (id_lacks names.items b.0 good fits.1) ends,
    ) refl
end_again names end.Quit rest good fits ends =
    rw (field_again (codes "quit") rest (lacks_test 32 (codes "quit") refl) ends) refl

-- ---- what ended

pub over_takes : (names : Names) (bs : List ℕ) (o : Option End) → over_of names bs ≡ Some o
    → IsOver names o × (bs ≡ over_text names o)
unfolding over_of
over_takes names [] o e =
    subst (λ (x : Option End). IsOver names x × ([] ≡ over_text names x)) (some_is None o e) (tt, refl)
over_takes names (b ∷ bs) o e =
    let w = take_step (λ (u : Unit {0}). Unit {0}) (λ u. codes "end") (word_is (codes "end")) (given_takes (codes "end")) (b ∷ bs) _ o e in
    let n = bind_some (end_of names w.rest) _ o w.more in
    let d = bind_some (done_of n.0.1) _ o n.2 in
    let t = end_takes names w.rest n.0 n.1 in
    let line : w.rest ≡ end_text names n.0.0 = t.1 ∙ ap (λ (r : List ℕ). end_text names n.0.0 ++ r) (done_takes n.0.1 d.0 d.1) ∙ append-nil (end_text names n.0.0) in
    subst (λ (x : Option End). IsOver names x × (b ∷ bs ≡ over_text names x)) (some_is (Some n.0.0) o d.2) (t.0, w.line ∙ ap (λ (r : List ℕ). field (codes "end") ++ r) line)

ends_end : (names : Names) (e : End) → Ends (end_text names e)
ends_end names end.Committed = refl
ends_end names other = refl

pub over_again : (names : Names) (o : Option End) → AreNames names.items → IsOver names o
    → over_of names (over_text names o) ≡ Some o
unfolding over_of
over_again names None good fits = refl
over_again names (Some e) good fits =
    let end : end_of names (end_text names e) ≡ Some (e, []) = ap (end_of names) (sym (append-nil (end_text names e))) ∙ end_again names e [] good fits tt in
    rw (next_again (word_is (codes "end")) (codes "end") (end_text names e) tt (given_again (codes "end")) (lacks_test 32 (codes "end") refl) (ends_end names e), end) refl

-- the end that most ended jobs have
pub over_committed : (names : Names) (bs : List ℕ) → bytes_eq bs (codes " end committed") ≡ true → over_of names bs ≡ Some (Some end.Committed)
unfolding over_of end_of end_form next
over_committed names bs e =
    ap (over_of names) ((bytes_eq-Decides bs (codes " end committed")).0 e)
    ∙ rw (
      field_again (codes "end") (codes " committed") (lacks_test 32 (codes "end") refl) refl,
      given_again (codes "end"),
      field_again (codes "committed") [] (lacks_test 32 (codes "committed") refl) tt,
    ) refl

pub end_committed : (names : Names) (bs rest : List ℕ) → bs ≡ codes " committed" ++ rest → Ends rest → end_of names bs ≡ Some (end.Committed, rest)
unfolding end_of end_form
end_committed names bs rest is ends = rw (is, field_again (codes "committed") rest (lacks_test 32 (codes "committed") refl) ends) refl
