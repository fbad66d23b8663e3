-- How entries go on from the board to an out, and what the out can take after them.
use Rattle.std.proofs.Common.{◌≡◌, ℕ, zero, suc, ◌+◌, ◌≤◌, List, [], ◌∷◌, ◌++◌, length, take, drop, Result, Ok, Err, OnErr, refl, ap, sym, ◌∙◌, subst, arith, append_assoc}
use Rattle.std.proofs.lemmas.List.{append-nil, drop-append-le}
use Rattle.std.proofs.Math.Seq.{take-append_seam, drop-append_seam, take-append-add, take-length}
use Rattle.io_edge.specs.Causes.{Rose}
use Rattle.txn_set.specs.Set.{Set}
use Rattle.step_journal.specs.declared.entry.Entry.{Entry}
use Rattle.board.specs.Histories.{IsHistory}
use Rattle.sim_run.specs.Handed.{CanAppend, CanTake, IsHanded, IsCut}

pub none_handed : (got : List Entry → Type 0) (entries : List Entry) → IsHanded got got entries entries
none_handed got entries = record { passed = []; parts = refl; grown = λ history h. subst got (sym (append-nil history)) h }

pub all_handed : (got got' : List Entry → Type 0) (piece entries : List Entry) → piece ≡ entries
    → ((history : List Entry) → got history → got' (history ++ piece)) → IsHanded got got' entries []
all_handed got got' piece entries is h = record {
  passed = entries;
  parts = sym (append-nil entries);
  grown = λ history k. subst (λ (l : List Entry). got' (history ++ l)) is (h history k);
}

-- some of the kept entries after others
pub handed_on : (got got' got'' : List Entry → Type 0) (entries kept rest kept' : List Entry)
    → IsHanded got got' entries (kept ++ rest) → IsHanded got' got'' kept kept'
    → IsHanded got got'' entries (kept' ++ rest)
handed_on got got' got'' entries kept rest kept' h k = record {
  passed = h.passed ++ k.passed;
  parts = h.parts
      ∙ (ap (λ (l : List Entry). h.passed ++ (l ++ rest)) k.parts
      ∙ (ap (λ (l : List Entry). h.passed ++ l) (append_assoc k.passed kept' rest)
      ∙ sym (append_assoc h.passed k.passed (kept' ++ rest))));
  grown = λ history g. subst got'' (append_assoc history h.passed k.passed) (k.grown (history ++ h.passed) (h.grown history g));
}

-- what is left, in other parts
pub left_as : (got got' : List Entry → Type 0) (entries left left' : List Entry) → left ≡ left'
    → IsHanded got got' entries left → IsHanded got got' entries left'
left_as got got' entries left left' e h = subst (IsHanded got got' entries) e h

-- one more entry, which the board keeps
pub handed_more : (got got' : List Entry → Type 0) (entries more kept kept' : List Entry) (e : Entry)
    → more ≡ entries ++ e ∷ [] → kept' ≡ kept ++ e ∷ [] → IsHanded got got' entries kept → IsHanded got got' more kept'
handed_more got got' entries more kept kept' e is is' h = record {
  passed = h.passed;
  parts = is
      ∙ (ap (λ (l : List Entry). l ++ e ∷ []) h.parts
      ∙ (append_assoc h.passed kept (e ∷ []) ∙ ap (λ (l : List Entry). h.passed ++ l) (sym is')));
  grown = h.grown;
}

-- all kept entries, or some of them, after others
pub handed_then : (got got' got'' : List Entry → Type 0) (entries kept kept' : List Entry)
    → IsHanded got got' entries kept → IsHanded got' got'' kept kept' → IsHanded got got'' entries kept'
handed_then got got' got'' entries kept kept' h k =
    subst (IsHanded got got'' entries) (append-nil kept') (handed_on got got' got'' entries kept [] kept' (subst (IsHanded got got' entries) (sym (append-nil kept)) h) k)

pub piece_cut : (got got' lost' : List Entry → Type 0) (piece entries : List Entry) → piece ≡ entries
    → ((history : List Entry) → got history → got' history) → lost' piece → IsCut got got' lost' entries
piece_cut got got' lost' piece entries is same lost = record {
  passed = [];
  piece = entries;
  left = [];
  parts = sym (append-nil entries);
  grown = λ history g. subst got' (sym (append-nil history)) (same history g);
  is_lost = subst lost' is lost;
}

pub cut_on : (got got' got'' lost'' : List Entry → Type 0) (entries kept rest : List Entry)
    → IsHanded got got' entries (kept ++ rest) → IsCut got' got'' lost'' kept → IsCut got got'' lost'' entries
cut_on got got' got'' lost'' entries kept rest h k = record {
  passed = h.passed ++ k.passed;
  piece = k.piece;
  left = k.left ++ rest;
  parts = h.parts
      ∙ (ap (λ (l : List Entry). h.passed ++ (l ++ rest)) k.parts
      ∙ (ap (λ (l : List Entry). h.passed ++ l) (append_assoc (k.passed ++ k.piece) k.left rest)
      ∙ (sym (append_assoc h.passed (k.passed ++ k.piece) (k.left ++ rest))
      ∙ ap (λ (l : List Entry). l ++ (k.left ++ rest)) (sym (append_assoc h.passed k.passed k.piece)))));
  grown = λ history g. subst got'' (append_assoc history h.passed k.passed) (k.grown (history ++ h.passed) (h.grown history g));
  is_lost = k.is_lost;
}

pub cut_then : (got got' got'' lost'' : List Entry → Type 0) (entries kept : List Entry)
    → IsHanded got got' entries kept → IsCut got' got'' lost'' kept → IsCut got got'' lost'' entries
cut_then got got' got'' lost'' entries kept h k = cut_on got got' got'' lost'' entries kept [] (subst (IsHanded got got' entries) (sym (append-nil kept)) h) k

-- more entries were to come
pub cut_more : (got got' lost' : List Entry → Type 0) (entries rest whole : List Entry) → whole ≡ entries ++ rest
    → IsCut got got' lost' entries → IsCut got got' lost' whole
cut_more got got' lost' entries rest whole is k = record {
  passed = k.passed;
  piece = k.piece;
  left = k.left ++ rest;
  parts = is ∙ (ap (λ (l : List Entry). l ++ rest) k.parts ∙ append_assoc (k.passed ++ k.piece) k.left rest);
  grown = k.grown;
  is_lost = k.is_lost;
}

-- of these entries the out got the first ones, so many, and lost the next ones, so many
pub record CutAt (got got' lost' : List Entry → Type 0) (history : List Entry) : Type 0 where
  pub passed : ℕ
  pub missed : ℕ
  pub grown : (had : List Entry) → got had → got' (had ++ take passed history)
  pub is_lost : lost' (take missed (drop passed history))

pub cut_at : {got got' lost' : List Entry → Type 0} (history : List Entry) → IsCut got got' lost' history → CutAt got got' lost' history
cut_at {got' = got'} {lost' = lost'} history k =
    let parts : history ≡ k.passed ++ (k.piece ++ k.left) = k.parts ∙ append_assoc k.passed k.piece k.left in
    let first = ap (take (length k.passed)) parts ∙ take-append_seam k.passed (k.piece ++ k.left) in
    let next = ap (drop (length k.passed)) parts ∙ drop-append_seam k.passed (k.piece ++ k.left) in
    record {
      passed = length k.passed;
      missed = length k.piece;
      grown = λ had g. subst (λ (l : List Entry). got' (had ++ l)) (sym first) (k.grown had g);
      is_lost = subst lost' (sym (ap (take (length k.piece)) next ∙ take-append_seam k.piece k.left)) k.is_lost;
    }

-- what an out can take

pub take_front : (got good : List Entry → Type 0) (front rest : List Entry) → CanTake got good (front ++ rest)
    → CanAppend got good front
take_front got good front rest h = subst (CanAppend got good) (take-append_seam front rest) (h (length front))

pub take_all : (got good : List Entry → Type 0) (entries : List Entry) → CanTake got good entries
    → CanAppend got good entries
take_all got good entries h = subst (CanAppend got good) (take-length entries) (h (length entries))

take_within : (n : ℕ) (front rest : List Entry) → (k : ℕ) × (take k (front ++ rest) ≡ take n front)
take_within zero front rest = (0, refl)
take_within (suc n) [] rest = (0, refl)
take_within (suc n) (x ∷ xs) rest = let r = take_within n xs rest in (suc r.0, ap (λ (l : List Entry). x ∷ l) r.1)

pub take_less : (got good : List Entry → Type 0) (front rest whole : List Entry) → whole ≡ front ++ rest
    → CanTake got good whole → CanTake got good front
take_less got good front rest whole is h = λ n.
    let k = take_within n front rest in
    subst (CanAppend got good) (ap (take k.0) is ∙ k.1) (h k.0)

pub take_rest : (got good got' good' : List Entry → Type 0) (entries left : List Entry)
    → ((history : List Entry) → good history → good' history) → IsHanded got got' entries left
    → CanTake got good entries → CanTake got' good' left
take_rest got good got' good' entries left same k h = λ n.
    let a = h (length k.passed + n) in
    let is : a.begun ++ take (length k.passed + n) entries ≡ (a.begun ++ k.passed) ++ take n left =
    ap (λ (l : List Entry). a.begun ++ take (length k.passed + n) l) k.parts
    ∙ (ap (λ (l : List Entry). a.begun ++ l) (take-append-add k.passed left n)
    ∙ sym (append_assoc a.begun k.passed (take n left))) in
    record { begun = a.begun ++ k.passed; is_got = k.grown a.begun a.is_got; is_good = same _ (subst good is a.is_good) }

-- what the board keeps after one more entry

pub kept_after : (set set' : Set) (room room' first first' : ℕ) (kept kept' history history' : List Entry) (e : Entry)
    → IsHistory set room first kept history → IsHistory set' room' first' kept' history' → first' ≡ first
    → history' ≡ history ++ e ∷ []
    → kept' ≡ kept ++ e ∷ []
kept_after set set' room room' first first' kept kept' history history' e is is' same more =
    is'.rest
    ∙ (ap (λ (n : ℕ). drop n history') same
    ∙ (ap (drop first) more
    ∙ (drop-append-le first history (e ∷ []) (omega (arith, is.counted))
    ∙ ap (λ (l : List Entry). l ++ e ∷ []) (sym is.rest))))

pub kept_same : (set set' : Set) (room room' first first' : ℕ) (kept kept' history : List Entry)
    → IsHistory set room first kept history → IsHistory set' room' first' kept' history → first' ≡ first → kept' ≡ kept
kept_same set set' room room' first first' kept kept' history is is' same =
    is'.rest ∙ (ap (λ (n : ℕ). drop n history) same ∙ sym is.rest)

-- causes

pub rose_later : (before mid now : ℕ) → before ≤ mid → Rose mid now → Rose before now
rose_later before mid now le rose = omega (arith, le, rose)

-- what is known where an out refused a piece
pub refused : {T E : Type 0} (r : Result T E) (got got' lost' : List Entry → Type 0) (piece entries : List Entry)
    → piece ≡ entries → OnErr r ((history : List Entry) → got history → got' history) → OnErr r (lost' piece)
    → OnErr r (IsCut got got' lost' entries)
refused (Ok u) got got' lost' piece entries is same lost = tt
refused (Err e) got got' lost' piece entries is same lost = piece_cut got got' lost' piece entries is same lost

-- A board that stands for a history, after which these entries come and make this whole.
pub record Goes (stands : List Entry → Type 0) (rest whole : List Entry) : Type 0 where
  pub history : List Entry
  pub stood : stands history
  pub parts : history ++ rest ≡ whole

pub on_err : {T E : Type 0} (r : Result T E) (P : Type 0) → P → OnErr r P
on_err (Ok u) P h = tt
on_err (Err e) P h = h
