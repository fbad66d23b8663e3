-- The line that is likely to be next is read as the step that it is kept for.
use Rattle.std.proofs.Common.{◌≡◌, ℕ, zero, suc, ◌+◌, ◌-◌, ◌/◌, ◌%◌, ◌<◌, ◌≤◌, ◌^◌, Bool, true, false, nat_eq, List, [], ◌∷◌, ◌++◌, length, take, drop, get_or, set, replicate, Option, Some, None, decimal, codes, refl, sym, ap, subst, ◌∙◌, inl, inr, arith, append_assoc, length-append, length-take}
use Rattle.std.specs.Prelude.{not}
use Rattle.std.specs.List.{position_or_len}
use Rattle.std.specs.Int.{IsInRange}
use Rattle.std.proofs.lemmas.Bool.{cases_lt, eq-eqb}
use Rattle.std.proofs.lemmas.Fmt.{decimal_nonempty, decimal_digit, decimal_step}
use Rattle.std.proofs.lemmas.List.{take_at, take_more, take-append-drop, get_or-take, length-take-le, set_at}
use Rattle.std.proofs.lemmas.List.Sums.{prefix_len_passes}
use Rattle.std.proofs.Math.Seq.{take-length, get_or-append_seam}
use Rattle.rt_base.specs.declared.name.Names.{Names}
use Rattle.rt_base.specs.declared.ids.JobId.{JobId}
use Rattle.rt_base.specs.declared.operation.Op.TheVariants.{Compute}
use Rattle.rt_base.specs.declared.operation.Outcome.TheVariants.{Computed}
use Rattle.step_journal.specs.declared.entry.Entry.{Entry}
use Rattle.step_journal.specs.declared.entry.Entry.TheVariants.{Step}
use Rattle.line_fields.specs.Cuts.{◌>>=◌, cut_at, word_of, field_of, next, field, Lacks, Ends}
use Rattle.line_fields.specs.Numbers.{unsigned_of}
use Rattle.journal_text.specs.Ids.{job_of, job_text}
use Rattle.journal_text.specs.Numerals.{placed, AreDigits}
use Rattle.line_fields.proofs.CutLaws.{some_is, none_some, bind_some, chosen, cut_again, field_takes, next_again, lacks_test, lacks_append}
use Rattle.line_fields.proofs.NumberLaws.{unsigned_takes, unsigned_again, unsigned_lacks, decimal_lacks}
use Rattle.journal_text.proofs.IdLaws.{unsigned_length}
use Rattle.journal_text.proofs.NumeralLaws.{next_digits}
use Rattle.journal_text.specs.Reading.{outcome_of, over_of, step_of, entry_of}
use Rattle.journal_text.specs.Next.{step_by, first_entry, front_of, compute_line, Holds, Awaits, IsNext, IsOwn}
use Rattle.journal_text.specs.declared.next_step.NextStep.{NextStep}
use Rattle.journal_text.proofs.PartLaws.{op_compute}
use Rattle.journal_text.proofs.EntryLaws.{step_in}

-- ---- eight bytes as one number

abbrev pub SameBelow : List ℕ → List ℕ → ℕ → Type 0
SameBelow a b n = (i : ℕ) → i < n → get_or a i 0 ≡ get_or b i 0

-- ---- what follows a front

-- ---- a line that is kept

whole : (word : List ℕ) (n : NextStep) (h : Holds word n) → n.line ≡ front_of word n.tick ++ (codes " compute\n" ++ drop n.len n.line)
whole word n h =
    sym (take-append-drop n.len n.line)
    ∙ (ap (λ (t : List ℕ). t ++ drop n.len n.line) h.line ∙ append_assoc (front_of word n.tick) (codes " compute\n") (drop n.len n.line))

front_is : (word : List ℕ) (n : NextStep) (h : Holds word n) → take (n.len - 9) n.line ≡ front_of word n.tick
front_is word n h =
    ap (take (n.len - 9)) (whole word n h)
    ∙ take_at (front_of word n.tick) (codes " compute\n" ++ drop n.len n.line) (n.len - 9) (omega (arith, h.size))

grouped : (word : List ℕ) (tick : ℕ) (rest : List ℕ)
    → front_of word tick ++ rest ≡ codes "step" ++ (field word ++ (field (decimal tick) ++ rest))
grouped word tick rest =
    append_assoc (codes "step") (field word ++ field (decimal tick)) rest
    ∙ ap (λ (r : List ℕ). codes "step" ++ r) (append_assoc (field word) (field (decimal tick)) rest)

step_told : (names : Names) (word : List ℕ) (job : JobId) (tick : ℕ) (rest : List ℕ) → job_of names.txns word ≡ Some job
    → Lacks 32 word → tick < 2 ^ 64 → Ends rest → step_of names (field word ++ (field (decimal tick) ++ rest)) ≡ step_by names job tick rest
unfolding step_of step_by
step_told names word job tick rest is lacks lt ends =
    rw (
      next_again (job_of names.txns) word (field (decimal tick) ++ rest) job is lacks refl,
      next_again unsigned_of (decimal tick) rest tick (unsigned_again tick lt) (unsigned_lacks tick lt) ends,
    ) refl

told : (names : Names) (n : NextStep) (h : Awaits names n) (line rest : List ℕ) → line ≡ front_of h.word n.tick ++ rest
    → Ends rest → entry_of names line ≡ step_by names n.job n.tick rest
told names n h line rest is ends =
    step_in names line (field h.word ++ (field (decimal n.tick) ++ rest)) (is ∙ grouped h.word n.tick rest) refl
    ∙ step_told names h.word n.job n.tick rest h.job h.no_blank h.holds.tick ends

-- a line that begins as this one
pub passed_told : (names : Names) (n : NextStep) (line rest : List ℕ) → IsNext names n → 18 ≤ n.len
    → line ≡ take (n.len - 9) n.line ++ rest → Ends rest → step_by names n.job n.tick rest ≡ entry_of names line
passed_told names n line rest next some is ends =
    let h = next.awaits some in
    sym (told names n h line rest (is ∙ ap (λ (f : List ℕ). f ++ rest) (front_is h.word n h.holds)) ends)

computed_by : (names : Names) (job : JobId) (tick : ℕ) → step_by names job tick (codes " compute") ≡ Some (Step job Compute Computed None tick)
unfolding step_by outcome_of over_of
computed_by names job tick = rw (op_compute names (codes " compute") [] refl tt) refl

pub no_digit : ¬ IsInRange 48 57 10
no_digit h = omega (arith, h.0, h.1)

line_lacks : (names : Names) (n : NextStep) (h : Awaits names n) → Lacks 10 (front_of h.word n.tick ++ codes " compute")
line_lacks names n h =
    lacks_append 10 (front_of h.word n.tick) (codes " compute")
    (lacks_append 10 (codes "step") (field h.word ++ field (decimal n.tick)) (lacks_test 10 (codes "step") refl)
    (lacks_append 10 (field h.word) (field (decimal n.tick)) (lacks_append 10 (codes " ") h.word (lacks_test 10 (codes " ") refl) h.no_end)
    (lacks_append 10 (codes " ") (decimal n.tick) (lacks_test 10 (codes " ") refl) (decimal_lacks 10 n.tick no_digit h.holds.tick))))
    (lacks_test 10 (codes " compute") refl)

-- a text that begins with this line
pub computed_told : (names : Names) (n : NextStep) (text rest : List ℕ) → IsNext names n → 18 ≤ n.len
    → text ≡ take n.len n.line ++ rest → Some (Step n.job Compute Computed None n.tick, rest) ≡ first_entry names text
computed_told names n text rest next some is =
    let h = next.awaits some in
    let front : List ℕ = front_of h.word n.tick in
    let line : List ℕ = front ++ codes " compute" in
    let all : text ≡ line ++ 10 ∷ rest =
    is ∙ (ap (λ (l : List ℕ). l ++ rest) h.holds.line
    ∙ (append_assoc front (codes " compute\n") rest ∙ sym (append_assoc front (codes " compute") (10 ∷ rest)))) in
    let cut : cut_at 10 text ≡ Some (line, rest) = ap (cut_at 10) all ∙ cut_again 10 line rest (line_lacks names n h) in
    let entry : entry_of names line ≡ Some (Step n.job Compute Computed None n.tick) =
    told names n h line (codes " compute") refl refl ∙ computed_by names n.job n.tick in
    sym (ap (λ (o : Option (List ℕ × List ℕ)). o >>= λ p. entry_of names p.0 >>= λ e. Some (e, p.1)) cut
    ∙ ap (λ (o : Option Entry). o >>= λ e. Some (e, rest)) entry)

-- ---- the next tick

last_apart : (ds : List ℕ) → 0 < length ds → ds ≡ take (length ds - 1) ds ++ get_or ds (length ds - 1) 0 ∷ []
last_apart ds some =
    let at : length ds - 1 + 1 ≡ length ds = omega (arith, some) in
    sym (take-length ds) ∙ (ap (λ (k : ℕ). take k ds) (sym at) ∙ take_more ds (length ds - 1) 0 (omega (arith, some)))

next_decimal : (n : ℕ) (init : List ℕ) (last : ℕ) → n + 1 < 2 ^ 64 → decimal n ≡ init ++ last ∷ [] → last < 57
    → decimal (n + 1) ≡ init ++ (last + 1) ∷ []
next_decimal n init last lt is low =
    let len : ℕ = length (decimal n) in
    let below : n < 2 ^ 64 = omega (arith, lt) in
    let zeros : List ℕ = replicate (32 - len) 0 in
    let size : len ≡ length init + 1 = ap length is ∙ length-append init (last ∷ []) in
    let at : len - 1 ≡ length init = omega (arith, size) in
    let all : placed n ≡ init ++ last ∷ zeros = ap (λ (d : List ℕ). d ++ zeros) is ∙ append_assoc init (last ∷ []) zeros in
    let here : get_or (placed n) (len - 1) 0 ≡ last =
    ap (λ (d : List ℕ). get_or d (len - 1) 0) all
    ∙ (ap (λ (i : ℕ). get_or (init ++ last ∷ zeros) i 0) at ∙ get_or-append_seam init last zeros 0) in
    let digits : AreDigits n (placed n) len = record { bytes = refl; width = refl; short = unsigned_length n below } in
    let more = next_digits n (n + 1) len (placed n) digits refl lt (omega (arith, here, low)) in
    let changed : set (placed n) (len - 1) (get_or (placed n) (len - 1) 0 + 1) ≡ init ++ (last + 1) ∷ zeros =
    ap (λ (d : List ℕ). set d (len - 1) (get_or (placed n) (len - 1) 0 + 1)) all
    ∙ (set_at init last zeros (get_or (placed n) (len - 1) 0 + 1) (len - 1) (sym at)
    ∙ ap (λ (d : ℕ). init ++ (d + 1) ∷ zeros) here) in
    let after : placed (n + 1) ≡ (init ++ (last + 1) ∷ []) ++ zeros = sym more.bytes ∙ (changed ∙ sym (append_assoc init ((last + 1) ∷ []) zeros)) in
    sym (take_at (decimal (n + 1)) (replicate (32 - length (decimal (n + 1))) 0) len (sym more.width))
    ∙ (ap (take len) after
    ∙ take_at (init ++ (last + 1) ∷ []) zeros len (length-append init ((last + 1) ∷ []) ∙ sym size))

abbrev pub gone_on : NextStep → NextStep
gone_on n = record {
  line = set n.line (n.len - 9 - 1) (get_or n.line (n.len - 9 - 1) 0 + 1);
  len = n.len;
  job = n.job;
  tick = n.tick + 1;
}

-- what stands before the last digit of the tick
abbrev lead : List ℕ → List ℕ → List ℕ
lead word init = codes "step" ++ (field word ++ field init)

lead_front : (word init : List ℕ) (last : ℕ) → codes "step" ++ (field word ++ field (init ++ last ∷ [])) ≡ lead word init ++ last ∷ []
lead_front word init last =
    sym (append_assoc (codes "step") (field word ++ field init) (last ∷ [])
    ∙ ap (λ (r : List ℕ). codes "step" ++ r) (append_assoc (field word) (field init) (last ∷ [])))

held_on : (word : List ℕ) (n : NextStep) → Holds word n → get_or n.line (n.len - 9 - 1) 0 < 57 → n.tick + 1 < 2 ^ 64 → Holds word (gone_on n)
held_on word n h low lt =
    let digits : List ℕ = decimal n.tick in
    let nonempty : 0 < length digits = decimal_nonempty n.tick h.tick in
    let init : List ℕ = take (length digits - 1) digits in
    let last : ℕ = get_or digits (length digits - 1) 0 in
    let apart : digits ≡ init ++ last ∷ [] = last_apart digits nonempty in
    let tail : List ℕ = codes " compute\n" ++ drop n.len n.line in
    let front : front_of word n.tick ≡ lead word init ++ last ∷ [] =
    ap (λ (d : List ℕ). codes "step" ++ (field word ++ field d)) apart ∙ lead_front word init last in
    let all : n.line ≡ lead word init ++ last ∷ tail =
    whole word n h ∙ (ap (λ (f : List ℕ). f ++ tail) front ∙ append_assoc (lead word init) (last ∷ []) tail) in
    let size : n.len - 9 - 1 ≡ length (lead word init) =
    omega (arith, h.size, ap length front, length-append (lead word init) (last ∷ [])) in
    let here : get_or n.line (n.len - 9 - 1) 0 ≡ last =
    ap (λ (l : List ℕ). get_or l (n.len - 9 - 1) 0) all
    ∙ (ap (λ (i : ℕ). get_or (lead word init ++ last ∷ tail) i 0) size ∙ get_or-append_seam (lead word init) last tail 0) in
    let more : decimal (n.tick + 1) ≡ init ++ (last + 1) ∷ [] = next_decimal n.tick init last lt apart (omega (arith, here, low)) in
    let front_more : front_of word (n.tick + 1) ≡ lead word init ++ (last + 1) ∷ [] =
    ap (λ (d : List ℕ). codes "step" ++ (field word ++ field d)) more ∙ lead_front word init (last + 1) in
    let changed : (gone_on n).line ≡ (front_of word (n.tick + 1) ++ codes " compute\n") ++ drop n.len n.line =
    ap (λ (l : List ℕ). set l (n.len - 9 - 1) (get_or n.line (n.len - 9 - 1) 0 + 1)) all
    ∙ (set_at (lead word init) last tail (get_or n.line (n.len - 9 - 1) 0 + 1) (n.len - 9 - 1) (sym size)
    ∙ (ap (λ (d : ℕ). lead word init ++ (d + 1) ∷ tail) here
    ∙ (sym (append_assoc (lead word init) ((last + 1) ∷ []) tail)
    ∙ (ap (λ (f : List ℕ). f ++ tail) (sym front_more)
    ∙ sym (append_assoc (front_of word (n.tick + 1)) (codes " compute\n") (drop n.len n.line)))))) in
    let long : n.len ≡ length (front_of word (n.tick + 1)) + 9 =
    omega (arith, h.size, ap length front, ap length front_more, length-append (lead word init) (last ∷ []), length-append (lead word init) ((last + 1) ∷ [])) in
    record {
      line =
          ap (take n.len) changed
          ∙ take_at (front_of word (n.tick + 1) ++ codes " compute\n") (drop n.len n.line) n.len
          (length-append (front_of word (n.tick + 1)) (codes " compute\n") ∙ sym long);
      size = long;
      tick = lt;
    }

-- the same where the last digit is 9 and the one before it is not

snoc_is : (xs ys : List ℕ) (x y : ℕ) → xs ++ x ∷ [] ≡ ys ++ y ∷ [] → (xs ≡ ys) × (x ≡ y)
snoc_is xs ys x y e =
    let size : length xs ≡ length ys = omega (arith, ap length e, length-append xs (x ∷ []), length-append ys (y ∷ [])) in (
      sym (take_at xs (x ∷ []) (length xs) refl) ∙ (ap (take (length xs)) e ∙ take_at ys (y ∷ []) (length xs) (sym size)),
      sym (get_or-append_seam xs x [] 0)
          ∙ (ap (λ (l : List ℕ). get_or l (length xs) 0) e
          ∙ (ap (λ (k : ℕ). get_or (ys ++ y ∷ []) k 0) size ∙ get_or-append_seam ys y [] 0)),
    )

carried_decimal : (n : ℕ) (init : List ℕ) (a b : ℕ) → n + 1 < 2 ^ 64 → decimal n ≡ init ++ a ∷ b ∷ [] → a < 57 → 57 ≤ b
    → decimal (n + 1) ≡ init ++ (a + 1) ∷ 48 ∷ []
carried_decimal n init a b lt is low high =
    let below : n < 2 ^ 64 = omega (arith, lt) in
    let many : 10 ≤ n = elim (cases_lt n 10) [
      | inl few ↦ absurd (omega (arith, ap length (decimal_digit n few), ap length is, length-append init (a ∷ b ∷ [])))
      | inr more ↦ more
    ] in
    let apart = snoc_is (decimal (n / 10)) (init ++ a ∷ []) (48 + n % 10) b
    (sym (decimal_step n many below) ∙ (is ∙ sym (append_assoc init (a ∷ []) (b ∷ [])))) in
    let tens : (n + 1) / 10 ≡ n / 10 + 1 = omega (arith, apart.1, high) in
    let ones : (n + 1) % 10 ≡ 0 = omega (arith, apart.1, high) in
    let fits : n / 10 + 1 < 2 ^ 64 = omega (arith, lt) in
    decimal_step (n + 1) (omega (arith, many)) lt
    ∙ (ap (λ (k : ℕ). decimal k ++ (48 + (n + 1) % 10) ∷ []) tens
    ∙ (ap (λ (k : ℕ). decimal (n / 10 + 1) ++ (48 + k) ∷ []) ones
    ∙ (ap (λ (l : List ℕ). l ++ 48 ∷ []) (next_decimal (n / 10) init a fits apart.0 low)
    ∙ append_assoc init ((a + 1) ∷ []) (48 ∷ []))))

abbrev pub carried_on : NextStep → NextStep
carried_on n = record {
  line = set (set n.line (n.len - 9 - 1 - 1) (get_or n.line (n.len - 9 - 1 - 1) 0 + 1)) (n.len - 9 - 1) 48;
  len = n.len;
  job = n.job;
  tick = n.tick + 1;
}

lead_two : (word init : List ℕ) (a b : ℕ) → codes "step" ++ (field word ++ field (init ++ a ∷ b ∷ [])) ≡ lead word init ++ a ∷ b ∷ []
lead_two word init a b =
    sym (append_assoc (codes "step") (field word ++ field init) (a ∷ b ∷ [])
    ∙ ap (λ (r : List ℕ). codes "step" ++ r) (append_assoc (field word) (field init) (a ∷ b ∷ [])))

-- the last two of digits, of which there are two where the one before the last is no blank
record LastTwo (ds : List ℕ) : Type 0 where
  init : List ℕ
  a : ℕ
  b : ℕ
  all : ds ≡ init ++ a ∷ b ∷ []

last_two : (ds : List ℕ) → 1 < length ds → LastTwo ds
last_two ds some =
    let front : List ℕ = take (length ds - 1) ds in
    let size : length front ≡ length ds - 1 = length-take-le (length ds - 1) ds (omega arith) in
    let one : ds ≡ front ++ get_or ds (length ds - 1) 0 ∷ [] = last_apart ds (omega (arith, some)) in
    let two : front ≡ take (length front - 1) front ++ get_or front (length front - 1) 0 ∷ [] = last_apart front (omega (arith, some, size)) in
    record {
      init = take (length front - 1) front;
      a = get_or front (length front - 1) 0;
      b = get_or ds (length ds - 1) 0;
      all =
          one
          ∙ (ap (λ (l : List ℕ). l ++ get_or ds (length ds - 1) 0 ∷ []) two
          ∙ append_assoc (take (length front - 1) front) (get_or front (length front - 1) 0 ∷ []) (get_or ds (length ds - 1) 0 ∷ []));
    }

-- the byte before a single digit is a blank
two_digits : (word : List ℕ) (n : NextStep) (h : Holds word n) → 48 ≤ get_or n.line (n.len - 9 - 1 - 1) 0 → 1 < length (decimal n.tick)
two_digits word n h high =
    let digits : List ℕ = decimal n.tick in
    elim (cases_lt 1 (length digits)) [
      | inl many ↦ many
      | inr few ↦
          let nonempty : 0 < length digits = decimal_nonempty n.tick h.tick in
          let lead : List ℕ = codes "step" ++ field word in
          let all : n.line ≡ lead ++ 32 ∷ (digits ++ (codes " compute\n" ++ drop n.len n.line)) =
          whole word n h
          ∙ (grouped word n.tick (codes " compute\n" ++ drop n.len n.line)
          ∙ sym (append_assoc (codes "step") (field word) (32 ∷ (digits ++ (codes " compute\n" ++ drop n.len n.line))))) in
          let size : length (codes "step" ++ (field word ++ field digits)) ≡ length lead + length (field digits) =
          ap length (sym (append_assoc (codes "step") (field word) (field digits))) ∙ length-append lead (field digits) in
          let at : n.len - 9 - 1 - 1 ≡ length lead = omega (arith, h.size, size, few, nonempty) in
          let blank : get_or n.line (n.len - 9 - 1 - 1) 0 ≡ 32 =
          ap (λ (l : List ℕ). get_or l (n.len - 9 - 1 - 1) 0) all
          ∙ (ap (λ (i : ℕ). get_or (lead ++ 32 ∷ (digits ++ (codes " compute\n" ++ drop n.len n.line))) i 0) at
          ∙ get_or-append_seam lead 32 (digits ++ (codes " compute\n" ++ drop n.len n.line)) 0) in
          absurd (omega (arith, blank, high))
    ]

carried : (word : List ℕ) (n : NextStep) → Holds word n → 57 ≤ get_or n.line (n.len - 9 - 1) 0
    → 48 ≤ get_or n.line (n.len - 9 - 1 - 1) 0 → get_or n.line (n.len - 9 - 1 - 1) 0 < 57 → n.tick + 1 < 2 ^ 64 → Holds word (carried_on n)
carried word n h nine digit low lt =
    let p = last_two (decimal n.tick) (two_digits word n h digit) in
    let tail : List ℕ = codes " compute\n" ++ drop n.len n.line in
    let front : front_of word n.tick ≡ lead word p.init ++ p.a ∷ p.b ∷ [] =
    ap (λ (d : List ℕ). codes "step" ++ (field word ++ field d)) p.all ∙ lead_two word p.init p.a p.b in
    let all : n.line ≡ lead word p.init ++ p.a ∷ p.b ∷ tail =
    whole word n h ∙ (ap (λ (f : List ℕ). f ++ tail) front ∙ append_assoc (lead word p.init) (p.a ∷ p.b ∷ []) tail) in
    let size : n.len - 9 - 1 - 1 ≡ length (lead word p.init) =
    omega (arith, h.size, ap length front, length-append (lead word p.init) (p.a ∷ p.b ∷ [])) in
    let over : n.len - 9 - 1 ≡ length (lead word p.init) + 1 = omega (arith, h.size, ap length front, length-append (lead word p.init) (p.a ∷ p.b ∷ [])) in
    let longer : length (lead word p.init ++ p.a ∷ []) ≡ length (lead word p.init) + 1 = length-append (lead word p.init) (p.a ∷ []) in
    let here : get_or n.line (n.len - 9 - 1 - 1) 0 ≡ p.a =
    ap (λ (l : List ℕ). get_or l (n.len - 9 - 1 - 1) 0) all
    ∙ (ap (λ (i : ℕ). get_or (lead word p.init ++ p.a ∷ p.b ∷ tail) i 0) size ∙ get_or-append_seam (lead word p.init) p.a (p.b ∷ tail) 0) in
    let apart : n.line ≡ (lead word p.init ++ p.a ∷ []) ++ p.b ∷ tail = all ∙ sym (append_assoc (lead word p.init) (p.a ∷ []) (p.b ∷ tail)) in
    let last : get_or n.line (n.len - 9 - 1) 0 ≡ p.b =
    ap (λ (l : List ℕ). get_or l (n.len - 9 - 1) 0) apart
    ∙ (ap (λ (i : ℕ). get_or ((lead word p.init ++ p.a ∷ []) ++ p.b ∷ tail) i 0) (over ∙ sym longer)
    ∙ get_or-append_seam (lead word p.init ++ p.a ∷ []) p.b tail 0) in
    let more : decimal (n.tick + 1) ≡ p.init ++ (p.a + 1) ∷ 48 ∷ [] =
    carried_decimal n.tick p.init p.a p.b lt p.all (omega (arith, here, low)) (omega (arith, last, nine)) in
    let front_more : front_of word (n.tick + 1) ≡ lead word p.init ++ (p.a + 1) ∷ 48 ∷ [] =
    ap (λ (d : List ℕ). codes "step" ++ (field word ++ field d)) more ∙ lead_two word p.init (p.a + 1) 48 in
    let once : set n.line (n.len - 9 - 1 - 1) (get_or n.line (n.len - 9 - 1 - 1) 0 + 1) ≡ (lead word p.init ++ (p.a + 1) ∷ []) ++ p.b ∷ tail =
    ap (λ (l : List ℕ). set l (n.len - 9 - 1 - 1) (get_or n.line (n.len - 9 - 1 - 1) 0 + 1)) all
    ∙ (set_at (lead word p.init) p.a (p.b ∷ tail) (get_or n.line (n.len - 9 - 1 - 1) 0 + 1) (n.len - 9 - 1 - 1) (sym size)
    ∙ (ap (λ (d : ℕ). lead word p.init ++ (d + 1) ∷ p.b ∷ tail) here
    ∙ sym (append_assoc (lead word p.init) ((p.a + 1) ∷ []) (p.b ∷ tail)))) in
    let width : length (lead word p.init ++ (p.a + 1) ∷ []) ≡ n.len - 9 - 1 = length-append (lead word p.init) ((p.a + 1) ∷ []) ∙ sym over in
    let changed : (carried_on n).line ≡ (front_of word (n.tick + 1) ++ codes " compute\n") ++ drop n.len n.line =
    ap (λ (l : List ℕ). set l (n.len - 9 - 1) 48) once
    ∙ (set_at (lead word p.init ++ (p.a + 1) ∷ []) p.b tail 48 (n.len - 9 - 1) width
    ∙ (append_assoc (lead word p.init) ((p.a + 1) ∷ []) (48 ∷ tail)
    ∙ (sym (append_assoc (lead word p.init) ((p.a + 1) ∷ 48 ∷ []) tail)
    ∙ (ap (λ (f : List ℕ). f ++ tail) (sym front_more)
    ∙ sym (append_assoc (front_of word (n.tick + 1)) (codes " compute\n") (drop n.len n.line)))))) in
    let long : n.len ≡ length (front_of word (n.tick + 1)) + 9 =
    omega (arith, h.size, ap length front, ap length front_more, length-append (lead word p.init) (p.a ∷ p.b ∷ []), length-append (lead word p.init) ((p.a + 1) ∷ 48 ∷ [])) in
    record {
      line =
          ap (take n.len) changed
          ∙ take_at (front_of word (n.tick + 1) ++ codes " compute\n") (drop n.len n.line) n.len
          (length-append (front_of word (n.tick + 1)) (codes " compute\n") ∙ sym long);
      size = long;
      tick = lt;
    }

-- what holds of the line and stays of the job

next_on : (names : Names) (n more : NextStep) → IsNext names n → 18 ≤ n.len → more.len ≡ n.len → more.job ≡ n.job
    → ((word : List ℕ) → Holds word n → Holds word more) → IsNext names more
next_on names n more next some size job on =
    let h = next.awaits some in
    record {
      within = omega (arith, size, next.within);
      awaits = λ enough. record { word = h.word; holds = on h.word h.holds; job = h.job ∙ ap Some (sym job); no_blank = h.no_blank; no_end = h.no_end };
    }

own_on : (names : Names) (n more : NextStep) → IsOwn names n → 18 ≤ n.len → more.len ≡ n.len → more.job ≡ n.job
    → ((word : List ℕ) → Holds word n → Holds word more) → IsOwn names more
own_on names n more own some size job on =
    record {
      within = omega (arith, size, own.within);
      holds = λ enough. subst (λ (j : JobId). Holds (job_text names.txns j) more) (sym job) (on (job_text names.txns n.job) (own.holds some));
    }

pub goes_on : (names : Names) (n : NextStep) → IsNext names n → 18 ≤ n.len → get_or n.line (n.len - 9 - 1) 0 < 57 → n.tick + 1 < 2 ^ 64
    → IsNext names (gone_on n)
goes_on names n next some low lt = next_on names n (gone_on n) next some refl refl (λ word h. held_on word n h low lt)

pub own_goes_on : (names : Names) (n : NextStep) → IsOwn names n → 18 ≤ n.len → get_or n.line (n.len - 9 - 1) 0 < 57 → n.tick + 1 < 2 ^ 64
    → IsOwn names (gone_on n)
own_goes_on names n own some low lt = own_on names n (gone_on n) own some refl refl (λ word h. held_on word n h low lt)

pub carries : (names : Names) (n : NextStep) → IsNext names n → 18 ≤ n.len → 57 ≤ get_or n.line (n.len - 9 - 1) 0
    → 48 ≤ get_or n.line (n.len - 9 - 1 - 1) 0 → get_or n.line (n.len - 9 - 1 - 1) 0 < 57 → n.tick + 1 < 2 ^ 64 → IsNext names (carried_on n)
carries names n next some nine digit low lt = next_on names n (carried_on n) next some refl refl (λ word h. carried word n h nine digit low lt)

pub own_carries : (names : Names) (n : NextStep) → IsOwn names n → 18 ≤ n.len → 57 ≤ get_or n.line (n.len - 9 - 1) 0
    → 48 ≤ get_or n.line (n.len - 9 - 1 - 1) 0 → get_or n.line (n.len - 9 - 1 - 1) 0 < 57 → n.tick + 1 < 2 ^ 64 → IsOwn names (carried_on n)
own_carries names n own some nine digit low lt = own_on names n (carried_on n) own some refl refl (λ word h. carried word n h nine digit low lt)

pub nothing : (names : Names) (n : NextStep) → n.len ≡ 0 → IsNext names n
nothing names n none = record { within = omega (arith, none); awaits = λ enough. absurd (omega (arith, none, enough)) }

-- ---- a line that is noted

pub noted : (names : Names) (n : NextStep) (fields word : List ℕ) → n.len ≡ 4 + length fields + 9 → n.len ≤ 64
    → take n.len n.line ≡ (codes "step" ++ fields) ++ codes " compute\n" → fields ≡ field word ++ field (decimal n.tick)
    → job_of names.txns word ≡ Some n.job → Lacks 32 word → Lacks 10 word → n.tick < 2 ^ 64 → IsNext names n
noted names n fields word size within line is job blank end lt =
    record {
      within = within;
      awaits = λ enough. record {
        word = word;
        holds = record {
          line = line ∙ ap (λ (f : List ℕ). (codes "step" ++ f) ++ codes " compute\n") is;
          size = omega (arith, size, ap length is);
          tick = lt;
        };
        job = job;
        no_blank = blank;
        no_end = end;
      };
    }

not_true : (b : Bool) → not b ≡ true → b ≡ true → ⊥
not_true true e h = absurd cc
not_true false e h = absurd cc

-- a word has no blank
word_blank : (bs : List ℕ) → Lacks 32 (word_of bs).0
unfolding word_of
word_blank bs i lt same =
    let len : ℕ = position_or_len (λ b. nat_eq b 32) bs in
    let low : i < len = omega (arith, lt, length-take len bs) in
    let other : not (nat_eq (get_or bs i 0) 32) ≡ true = prefix_len_passes (λ b. not (nat_eq b 32)) bs i 0 low in
    not_true (nat_eq (get_or bs i 0) 32) other (eq-eqb (get_or bs i 0) 32 (sym (get_or-take len bs i 0 low) ∙ same))

field_blank : (bs w rest : List ℕ) → field_of bs ≡ Some (w, rest) → Lacks 32 w
unfolding field_of
field_blank [] w rest e = absurd (none_some (w, rest) e)
field_blank (b ∷ bs) w rest e =
    let t = chosen (nat_eq b 32) (Some (word_of bs)) (w, rest) e in
    subst (Lacks 32) (ap (λ (p : List ℕ × List ℕ). p.0) (some_is _ _ t.1)) (word_blank bs)

-- the field that was read
record Field {A : Type 0} (read : List ℕ → Option A) (bs : List ℕ) (a : A) (rest : List ℕ) : Type 0 where
  pub word : List ℕ
  pub all : bs ≡ field word ++ rest
  pub is : read word ≡ Some a
  pub blank : Lacks 32 word

field_told : {A : Type 0} (read : List ℕ → Option A) (bs : List ℕ) (a : A) (rest : List ℕ) → Some (a, rest) ≡ next read bs → Field read bs a rest
unfolding next
field_told {A = A} read bs a rest e =
    let f = bind_some (field_of bs) (λ f. read f.0 >>= λ x. Some (x, f.1)) (a, rest) (sym e) in
    let x = bind_some (read f.0.0) (λ x. Some (x, f.0.1)) (a, rest) f.2 in
    let same : (x.0, f.0.1) ≡ (a, rest) = some_is _ _ x.2 in
    record {
      word = f.0.0;
      all = field_takes bs f.0.0 f.0.1 f.1 ∙ ap (λ (p : A × List ℕ). field f.0.0 ++ p.1) same;
      is = x.1 ∙ ap (λ (p : A × List ℕ). Some p.0) same;
      blank = field_blank bs f.0.0 f.0.1 f.1;
    }

lacks_left : (byte : ℕ) (a b : List ℕ) → Lacks byte (a ++ b) → Lacks byte a
lacks_left byte [] b h i lt = absurd (omega (arith, lt))
lacks_left byte (x ∷ a) b h zero lt = h 0 (omega arith)
lacks_left byte (x ∷ a) b h (suc i) lt = lacks_left byte a b (λ j below. h (suc j) (omega (arith, below))) i (omega (arith, lt))

lacks_right : (byte : ℕ) (a b : List ℕ) → Lacks byte (a ++ b) → Lacks byte b
lacks_right byte [] b h = h
lacks_right byte (x ∷ a) b h = lacks_right byte a b (λ j below. h (suc j) (omega (arith, below)))

-- what a step's line was read as: its fields stand before the rest
pub record FieldsAre (names : Names) (fields : List ℕ) (job : JobId) (tick : ℕ) : Type 0 where
  pub word : List ℕ
  pub all : fields ≡ field word ++ field (decimal tick)
  pub is : job_of names.txns word ≡ Some job
  pub blank : Lacks 32 word
  pub no_end : Lacks 10 word

pub fields_are : (names : Names) (bs more rest : List ℕ) (job : JobId) (tick : ℕ) → Lacks 10 bs
    → Some (job, more) ≡ next (job_of names.txns) bs → Some (tick, rest) ≡ next unsigned_of more
    → FieldsAre names (take (length bs - length rest) bs) job tick
fields_are names bs more rest job tick lacks one two =
    let j = field_told (job_of names.txns) bs job more one in
    let t = field_told unsigned_of more tick rest two in
    let text : decimal tick ≡ t.word = (unsigned_takes t.word tick t.is).1 in
    let fields : List ℕ = field j.word ++ field (decimal tick) in
    let all : bs ≡ fields ++ rest =
    j.all ∙ (ap (λ (r : List ℕ). field j.word ++ r) (t.all ∙ ap (λ (w : List ℕ). field w ++ rest) (sym text))
    ∙ sym (append_assoc (field j.word) (field (decimal tick)) rest)) in
    let size : length bs - length rest ≡ length fields = omega (arith, ap length all, length-append fields rest) in
    record {
      word = j.word;
      all = ap (take (length bs - length rest)) all ∙ take_at fields rest (length bs - length rest) (sym size);
      is = j.is;
      blank = j.blank;
      no_end = lacks_left 10 j.word more (lacks_right 10 (codes " ") (j.word ++ more) (subst (Lacks 10) j.all lacks));
    }

pub fields_fit : (names : Names) (bs more rest : List ℕ) (job : JobId) (tick : ℕ) → Some (job, more) ≡ next (job_of names.txns) bs
    → Some (tick, rest) ≡ next unsigned_of more → length rest ≤ length bs
fields_fit names bs more rest job tick one two =
    let j = field_told (job_of names.txns) bs job more one in
    let t = field_told unsigned_of more tick rest two in
    omega (arith, ap length j.all, length-append (field j.word) more, ap length t.all, length-append (field t.word) rest)

pub step_is : (names : Names) (bs more rest : List ℕ) (job : JobId) (tick : ℕ) → Some (job, more) ≡ next (job_of names.txns) bs
    → Some (tick, rest) ≡ next unsigned_of more → step_by names job tick rest ≡ step_of names bs
unfolding step_of step_by
step_is names bs more rest job tick one two = rw (sym one, sym two) refl

pub after_lacks : (byte : ℕ) (line front rest : List ℕ) → line ≡ front ++ rest → Lacks byte line → Lacks byte rest
after_lacks byte line front rest is h = lacks_right byte front rest (subst (Lacks byte) is h)

-- ---- a line that was written

pub noted_own : (names : Names) (n : NextStep) (fields : List ℕ) → n.len ≡ 4 + length fields + 9 → n.len ≤ 64
    → take n.len n.line ≡ (codes "step" ++ fields) ++ codes " compute\n" → fields ≡ field (job_text names.txns n.job) ++ field (decimal n.tick)
    → n.tick < 2 ^ 64 → IsOwn names n
noted_own names n fields size within line is lt =
    record {
      within = within;
      holds = λ enough. record {
        line = line ∙ ap (λ (f : List ℕ). (codes "step" ++ f) ++ codes " compute\n") is;
        size = omega (arith, size, ap length is);
        tick = lt;
      };
    }

pub own_front : (names : Names) (n : NextStep) (job : JobId) (tick : ℕ) → IsOwn names n → 18 ≤ n.len → job ≡ n.job → tick ≡ n.tick
    → take (n.len - 9) n.line ≡ front_of (job_text names.txns job) tick
own_front names n job tick own some same at =
    front_is (job_text names.txns n.job) n (own.holds some)
    ∙ (ap (λ (j : JobId). front_of (job_text names.txns j) n.tick) (sym same) ∙ ap (front_of (job_text names.txns job)) (sym at))

pub own_line : (names : Names) (n : NextStep) (job : JobId) (tick : ℕ) → IsOwn names n → 18 ≤ n.len → job ≡ n.job → tick ≡ n.tick
    → take n.len n.line ≡ compute_line names job tick
own_line names n job tick own some same at =
    (own.holds some).line
    ∙ (ap (λ (j : JobId). compute_line names j n.tick) (sym same) ∙ ap (compute_line names job) (sym at))

-- what stands before, and a front of what follows
pub take_past : (a b : List ℕ) (n m : ℕ) → n ≡ length a + m → take n (a ++ b) ≡ a ++ take m b
take_past [] b n m e = (let q : n ≡ m = omega (arith, e) in ap (λ (k : ℕ). take k b) q)
take_past (x ∷ a) b n m e = ap (λ (k : ℕ). take k (x ∷ (a ++ b))) (let q : n ≡ suc (length a + m) = omega (arith, e) in q) ∙ ap (λ (l : List ℕ). x ∷ l) (take_past a b (length a + m) m refl)
