-- Names and jobs are read back as they were written.
use Rattle.std.proofs.Common.{◌≡◌, ℕ, zero, suc, ℤ, pos, negsuc, ◌^◌, ◌<◌, ◌≤◌, Bool, true, false, ◌&&◌, ltb, List, [], ◌∷◌, ◌++◌, length, get_or, Some, decimal, codes, refl, sym, ap, subst, ◌∙◌, arith, rules, w64, append_assoc}
use Rattle.std.specs.Prelude.{FitsSigned}
use Rattle.std.specs.List.{list_all}
use Rattle.std.specs.Fmt.{signed_decimal}
use Rattle.std.specs.Str.{bytes_eq}
use Rattle.std.proofs.lemmas.List.Quantifiers.{position-Some}
use Rattle.std.proofs.lemmas.Fmt.{length-decimal-le}
use Rattle.std.proofs.lemmas.Slice.Eq.{bytes_eq-Decides}
use Rattle.rt_base.specs.declared.ids.TxId.{TxId}
use Rattle.rt_base.specs.declared.ids.ItemId.{ItemId}
use Rattle.rt_base.specs.declared.ids.JobId.{JobId}
use Rattle.rt_base.specs.Names.{is_letter, is_name_byte, is_name, AreNames}
use Rattle.name_table.specs.Places.{place_in}
use Rattle.rt_base.proofs.Padding.{both as both_true}
use Rattle.line_fields.specs.Cuts.{◌>>=◌, cut_at, next, Ends, Lacks}
use Rattle.line_fields.specs.Numbers.{short_of, IsI64}
use Rattle.journal_text.specs.Ids.{name_at, index_of, tx_of, item_of, job_text, job_of, IsJob}
use Rattle.line_fields.proofs.CutLaws.{some_is, bind_some, cut_again, cut_takes, position_at, lacks_append, lacks_test, next_again, Takes}
use Rattle.line_fields.proofs.NumberLaws.{short_takes, short_again, unsigned_lacks}

-- ---- the bytes of a name

all_lacks : (byte : ℕ) → is_name_byte byte ≡ false → (bs : List ℕ) → list_all is_name_byte bs ≡ true → Lacks byte bs
all_lacks byte other [] all i lt = absurd (omega arith)
all_lacks byte other (b ∷ bs) all zero lt =
    λ same. let t = both_true (is_name_byte b) (list_all is_name_byte bs) all in let one : is_name_byte byte ≡ true = sym (ap is_name_byte same) ∙ t.0 in absurd (cc (other, one))
all_lacks byte other (b ∷ bs) all (suc i) lt =
    let t = both_true (is_name_byte b) (list_all is_name_byte bs) all in all_lacks byte other bs t.1 i (omega arith)

letter_is : (b : ℕ) → is_letter b ≡ true → is_name_byte b ≡ true
letter_is b e = rw e refl

pub name_lacks : (byte : ℕ) → is_name_byte byte ≡ false → (name : List ℕ) → is_name name ≡ true → Lacks byte name
name_lacks byte other [] e = absurd cc
name_lacks byte other (b ∷ bs) e =
    let t = both_true (is_letter b && ltb (length bs) 32) (list_all is_name_byte bs) e in
    let l = both_true (is_letter b) (ltb (length bs) 32) t.0 in
    let all : list_all is_name_byte (b ∷ bs) ≡ true = rw (letter_is b l.0, t.1) refl in
    all_lacks byte other (b ∷ bs) all

-- ---- places of names

not_eq : (a b : List ℕ) (test : Bool) → bytes_eq a b ≡ test → (a ≡ b → ⊥) → test ≡ false
not_eq a b true e apart = absurd (apart ((bytes_eq-Decides a b).0 e))
not_eq a b false e apart = refl

pub index_again : (names : List (List ℕ)) (i : ℕ) → AreNames names → i < length names
    → index_of names (name_at names i) ≡ Some i
unfolding place_in
index_again names i good lt =
    let name = name_at names i in
    let here : bytes_eq (get_or names i []) name ≡ true = (bytes_eq-Decides name name).1 refl in
    let before : (j : ℕ) → j < i → bytes_eq (get_or names j []) name ≡ false = λ j h. not_eq (get_or names j []) name (bytes_eq (get_or names j []) name) refl (λ same. let i-is : j ≡ i = good.once j i (omega arith) lt same in absurd (omega arith)) in
    position_at (λ n. bytes_eq n name) names i [] lt here before

pub index_takes : (names : List (List ℕ)) → Takes (λ (i : ℕ). i < length names) (name_at names) (index_of names)
unfolding place_in
index_takes names w i e =
    let found = position-Some (λ n. bytes_eq n w) names i [] e in
    (found.0, (bytes_eq-Decides (get_or names i []) w).0 found.1)

pub tx_takes : (txns : List (List ℕ)) → Takes (λ (tx : TxId). tx.0 < length txns) (λ tx. name_at txns tx.0) (tx_of txns)
unfolding tx_of
tx_takes txns w tx e =
    let i = bind_some (index_of txns w) (λ i. Some (record { 0 = i })) tx e in
    subst (λ (t : TxId). (t.0 < length txns) × (name_at txns t.0 ≡ w)) (some_is _ tx i.2) (index_takes txns w i.0 i.1)

pub tx_again : (txns : List (List ℕ)) (tx : TxId) → AreNames txns → tx.0 < length txns
    → tx_of txns (name_at txns tx.0) ≡ Some tx
unfolding tx_of
tx_again txns tx good lt = rw (index_again txns tx.0 good lt) refl

pub item_takes : (items : List (List ℕ))
    → Takes (λ (item : ItemId). item.0 < length items) (λ item. name_at items item.0) (item_of items)
unfolding item_of
item_takes items w item e =
    let i = bind_some (index_of items w) (λ i. Some (record { 0 = i })) item e in
    subst (λ (t : ItemId). (t.0 < length items) × (name_at items t.0 ≡ w)) (some_is _ item i.2) (index_takes items w i.0 i.1)

pub item_again : (items : List (List ℕ)) (item : ItemId) → AreNames items → item.0 < length items
    → item_of items (name_at items item.0) ≡ Some item
unfolding item_of
item_again items item good lt = rw (index_again items item.0 good lt) refl

pub id_lacks : (names : List (List ℕ)) (i : ℕ) → AreNames names → i < length names → Lacks 32 (name_at names i)
id_lacks names i good lt = name_lacks 32 refl (name_at names i) (good.plain i lt)

-- ---- jobs

abbrev made : TxId → ℕ → JobId
made tx serial = record { tx = tx; serial = serial }

job_parts : (txns : List (List ℕ)) (job : JobId) → job_text txns job ≡ name_at txns job.tx.0 ++ 47 ∷ decimal job.serial
job_parts txns job = append_assoc (name_at txns job.tx.0) (codes "/") (decimal job.serial)

pub job_takes : (txns : List (List ℕ)) → Takes (IsJob txns) (job_text txns) (job_of txns)
unfolding job_of
job_takes txns w job e =
    let p = bind_some (cut_at 47 w) (λ parts. tx_of txns parts.0 >>= λ tx. short_of parts.1 >>= λ serial. Some (made tx serial)) job e in
    let t = bind_some (tx_of txns p.0.0) (λ tx. short_of p.0.1 >>= λ serial. Some (made tx serial)) job p.2 in
    let s = bind_some (short_of p.0.1) (λ serial. Some (made t.0 serial)) job t.2 in
    let name = tx_takes txns p.0.0 t.0 t.1 in
    let number = short_takes p.0.1 s.0 s.1 in
    let line : job_text txns (made t.0 s.0) ≡ w =
    job_parts txns (made t.0 s.0) ∙ ap (λ (n : List ℕ). n ++ 47 ∷ decimal s.0) name.1
    ∙ ap (λ (d : List ℕ). p.0.0 ++ 47 ∷ d) number.1 ∙ sym (cut_takes 47 w p.0.0 p.0.1 p.1) in
    subst (λ (j : JobId). IsJob txns j × (job_text txns j ≡ w)) (some_is (made t.0 s.0) job s.2) ((name.0, number.0), line)

job_of_parts : (txns : List (List ℕ)) (name : List ℕ) (tx : TxId) (n : ℕ) → Lacks 47 name → n < 2 ^ 32 → tx_of txns name ≡ Some tx → job_of txns (name ++ 47 ∷ decimal n) ≡ Some (made tx n)
unfolding job_of
job_of_parts txns name tx n no_slash lt named = rw (cut_again 47 name (decimal n) no_slash, named, short_again n lt) refl

pub job_again : (txns : List (List ℕ)) (job : JobId) → AreNames txns → IsJob txns job
    → job_of txns (job_text txns job) ≡ Some job
unfolding job_of
job_again txns job good fits =
    let cut : cut_at 47 (job_text txns job) ≡ Some (name_at txns job.tx.0, decimal job.serial) = ap (cut_at 47) (job_parts txns job) ∙ cut_again 47 (name_at txns job.tx.0) (decimal job.serial) (name_lacks 47 refl (name_at txns job.tx.0) (good.plain job.tx.0 fits.0)) in
    rw (cut, tx_again txns job.tx good fits.0, short_again job.serial fits.1) refl

pub job_lacks : (txns : List (List ℕ)) (job : JobId) → AreNames txns → IsJob txns job → Lacks 32 (job_text txns job)
job_lacks txns job good fits =
    lacks_append 32 (name_at txns job.tx.0 ++ codes "/") (decimal job.serial)
    (lacks_append 32 (name_at txns job.tx.0) (codes "/") (id_lacks txns job.tx.0 good fits.0) (lacks_test 32 (codes "/") refl))
    (unsigned_lacks job.serial (omega (arith, fits.1)))

pub next_job_found : (txns : List (List ℕ)) (bs front name after rest : List ℕ) (tx : TxId) (n : ℕ) → bs ≡ 32 ∷ front → front ≡ name ++ 47 ∷ after → Lacks 47 name → Lacks 32 name
    → after ≡ decimal n ++ rest → Ends rest → n < 2 ^ 32 → tx_of txns name ≡ Some tx → Some (made tx n, rest) ≡ next (job_of txns) bs
next_job_found txns bs front name after rest tx n is parts no_slash no_blank number ends lt named =
    let w : List ℕ = name ++ 47 ∷ decimal n in
    let read : job_of txns w ≡ Some (made tx n) = job_of_parts txns name tx n no_slash lt named in
    let lacks : Lacks 32 w = lacks_append 32 name (47 ∷ decimal n) no_blank (lacks_append 32 (codes "/") (decimal n) (lacks_test 32 (codes "/") refl) (unsigned_lacks n (omega (arith, lt)))) in
    let all : bs ≡ 32 ∷ (w ++ rest) = is ∙ ap (λ (l : List ℕ). 32 ∷ l) (parts ∙ (ap (λ (l : List ℕ). name ++ 47 ∷ l) number ∙ sym (append_assoc name (47 ∷ decimal n) rest))) in
    sym (ap (next (job_of txns)) all ∙ next_again (job_of txns) w rest (made tx n) read lacks ends)

-- ---- how long numbers are

pub unsigned_length : (n : ℕ) → n < 2 ^ 64 → length (decimal n) ≤ 20
unsigned_length n lt = length-decimal-le 20 n (omega arith) (omega arith) lt

pub short_length : (n : ℕ) → n < 2 ^ 32 → length (decimal n) ≤ 10
short_length n lt = length-decimal-le 10 n (omega arith) (omega arith) (omega arith)

pub signed_length : (z : ℤ) → IsI64 z → length (signed_decimal z) ≤ 20
signed_length (pos n) lt = length-decimal-le 20 n (omega arith) (omega arith) (omega arith)
signed_length (negsuc n) lt =
    let l : length (decimal (suc n)) ≤ 19 = length-decimal-le 19 (suc n) (omega arith) (omega arith) (omega arith) in omega arith

pub in_i64 : (z : ℤ) → FitsSigned w64 z → IsI64 z
in_i64 (pos n) h = search rules
in_i64 (negsuc n) h = search rules
