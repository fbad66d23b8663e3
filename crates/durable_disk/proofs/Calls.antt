-- What the calls of a disk make of records, where the disk tells.
use Rattle.std.proofs.Common.{◌≡◌, ◌⊎◌, inl, inr, ⊎_elim, Bool, false, true, take, ℕ, ◌+◌, ◌*◌, ◌<◌, List, [], ◌∷◌, ◌++◌, length, get_or, Option, Some, None, Result, Ok, Err, IsSome, OnOk, refl, sym, ◌∙◌, ap, subst, arith}
use Rattle.std.proofs.Math.Seq.{take-append_seam}
use Rattle.std.proofs.lemmas.List.{length_push}
use Rattle.durable_disk.specs.Images.{Written, Torn, KeepsOthers}
use Rattle.durable_disk.specs.Device.{AfterWrite, BothTold, Follows, NoMore, Only}
use Rattle.durable_disk.specs.Records.{Reads, IsBeforeOrAfter}
use Rattle.durable_disk.specs.Standing.{IsSettled, IsStaged, EachLeft, Stands}
use Rattle.durable_disk.proofs.Torn.{torn_behind, staged, either, opened}

abbrev Images : Type 1
Images = List ℕ → Type 0

-- of a disk that tells, each image
pub each_told : (seen : Option (List ℕ)) (outcomes P : List ℕ → Type 0) → IsSome seen → EachLeft seen outcomes P → (c : List ℕ) → outcomes c → P c
each_told None outcomes P told each c left = absurd (cc)
each_told (Some file) outcomes P told each c left = each c left

-- fewer images, of the same disk
pub each_fewer : (seen later : Option (List ℕ)) (old new P : List ℕ → Type 0) → later ≡ seen → NoMore old new → EachLeft seen old P → EachLeft later new P
each_fewer None later old new P is fewer each = subst (λ s. EachLeft s new P) (sym is) tt
each_fewer (Some file) later old new P is fewer each = subst (λ s. EachLeft s new P) (sym is) (λ c left. each c (fewer c left))

pub each_weaker : (seen : Option (List ℕ)) (outcomes P Q : List ℕ → Type 0) → ((c : List ℕ) → P c → Q c) → EachLeft seen outcomes P → EachLeft seen outcomes Q
each_weaker None outcomes P Q leads each = tt
each_weaker (Some file) outcomes P Q leads each = λ c left. leads c (each c left)

-- at rest, each image has the records
pub settled_each : (seen : Option (List ℕ)) (outcomes : List ℕ → Type 0) (bodies : List (List ℕ)) → IsSettled seen outcomes bodies → EachLeft seen outcomes (λ c. Reads c bodies)
settled_each None outcomes bodies settled = tt
settled_each (Some file) outcomes bodies settled = λ c left. subst (λ f. Reads f bodies) (sym (settled.1 c left)) settled.0

pub staged_each : (seen : Option (List ℕ)) (outcomes : List ℕ → Type 0) (bodies : List (List ℕ)) (body : List ℕ) → IsStaged seen outcomes bodies body → EachLeft seen outcomes (λ c. Reads c bodies)
staged_each None outcomes bodies body s = tt
staged_each (Some file) outcomes bodies body s = λ c left. subst (λ f. Reads f bodies) (sym (s.1 c left)) s.0.reads

-- after a write behind the closed gate, whatever was answered
pub stage_left : {T E : Type 0} (r : Result T E) (n : ℕ) (at : ℕ) (bytes : List ℕ) (seen later : Option (List ℕ)) (old new : List ℕ → Type 0) (bodies : List (List ℕ)) → at ≡ 256 * length bodies + 1
    → BothTold (AfterWrite r at bytes) seen later → Follows (Torn at n) old new → IsSettled seen old bodies → EachLeft later new (λ c. Reads c bodies)
stage_left r n at bytes None None old new bodies is both follows settled = tt
stage_left r n at bytes None (Some g) old new bodies is both follows settled = absurd both
stage_left r n at bytes (Some f) None old new bodies is both follows settled = absurd both
stage_left r n at bytes (Some f) (Some g) old new bodies is both follows settled = λ c left.
    let from = follows c left in
    let torn : Torn at n f c = subst (λ d. Torn at n d c) (settled.1 from.0 from.1) from.2 in
    torn_behind n f c bodies settled.0 (subst (λ (a : ℕ). Torn a n f c) is torn)

-- after that write and a sync, both answered Ok
pub stage_done : {T : Type 0} (E : Type 0) (t : T) (at : ℕ) (bytes body : List ℕ) (seen mid later : Option (List ℕ)) (old new : List ℕ → Type 0) (bodies : List (List ℕ)) → at ≡ 256 * length bodies + 1
    → length body ≡ 255 → bytes ≡ body ++ 0 ∷ [] → 0 < length bytes
    → BothTold (AfterWrite {T = T} {E = E} (Ok t) at bytes) seen mid → later ≡ mid → Only later new → IsSettled seen old bodies → IsStaged later new bodies body
stage_done E t at bytes body None None later old new bodies is wide same some both next only settled = subst (λ s. IsStaged s new bodies body) (sym next) tt
stage_done E t at bytes body None (Some g) later old new bodies is wide same some both next only settled = absurd both
stage_done E t at bytes body (Some f) None later old new bodies is wide same some both next only settled = absurd both
stage_done E t at bytes body (Some f) (Some g) later old new bodies is wide same some both next only settled =
    let w : Written at bytes f g = both.written some in
    let here : Only (Some g) new = subst (λ s. Only s new) next only in
    subst (λ s. IsStaged s new bodies body) (sym next) (
      staged f g bodies body bytes settled.0 wide same (subst (λ (a : ℕ). Written a bytes f g) is w),
      here,
    )

-- after the write of the gate, whatever was answered
pub gate_left : {T E : Type 0} (r : Result T E) (at : ℕ) (bytes : List ℕ) (seen later : Option (List ℕ)) (old new : List ℕ → Type 0) (bodies : List (List ℕ)) (body : List ℕ) → at ≡ 256 * length bodies
    → BothTold (AfterWrite r at bytes) seen later → Follows (Torn at 1) old new → IsStaged seen old bodies body → EachLeft later new (IsBeforeOrAfter bodies body)
gate_left r at bytes None None old new bodies body is both follows s = tt
gate_left r at bytes None (Some g) old new bodies body is both follows s = absurd both
gate_left r at bytes (Some f) None old new bodies body is both follows s = absurd both
gate_left r at bytes (Some f) (Some g) old new bodies body is both follows s = λ c left.
    let from = follows c left in
    let torn : Torn at 1 f c = subst (λ d. Torn at 1 d c) (s.1 from.0 from.1) from.2 in
    either f c bodies body s.0 torn.no_shorter (subst (λ (a : ℕ). KeepsOthers a 1 f c) is torn.others)

-- after that write and a sync, both answered Ok
pub gate_done : {T : Type 0} (E : Type 0) (t : T) (at : ℕ) (seen mid later : Option (List ℕ)) (old new : List ℕ → Type 0) (bodies : List (List ℕ)) (body : List ℕ) → at ≡ 256 * length bodies
    → BothTold (AfterWrite {T = T} {E = E} (Ok t) at (1 ∷ [])) seen mid → later ≡ mid → Only later new → IsStaged seen old bodies body → IsSettled later new (bodies ++ body ∷ [])
gate_done E t at None None later old new bodies body is both next only s = subst (λ q. IsSettled q new (bodies ++ body ∷ [])) (sym next) tt
gate_done E t at None (Some g) later old new bodies body is both next only s = absurd both
gate_done E t at (Some f) None later old new bodies body is both next only s = absurd both
gate_done E t at (Some f) (Some g) later old new bodies body is both next only s =
    let w : Written at (1 ∷ []) f g = both.written (omega arith) in
    let here : Only (Some g) new = subst (λ q. Only q new) next only in
    let one : get_or g (256 * length bodies) 0 ≡ 1 = ap (λ (a : ℕ). get_or g a 0) (omega (arith, is)) ∙ w.range 0 (omega arith) in
    subst (λ q. IsSettled q new (bodies ++ body ∷ [])) (sym next) (
      opened f g bodies body s.0 (omega (arith, w.end)) (subst (λ (a : ℕ). KeepsOthers a 1 f g) is w.others) one,
      here,
    )

-- a disk that tells goes on telling
pub told_after : (P : List ℕ → List ℕ → Type 0) (seen later : Option (List ℕ)) → BothTold P seen later → IsSome seen → IsSome later
told_after P None later both told = absurd (cc)
told_after P (Some f) None both told = absurd both
told_after P (Some f) (Some g) both told = refl

pub on_ok : {T E A B : Type 0} (r : Result T E) → (A → B) → OnOk r A → OnOk r B
on_ok (Ok t) leads a = leads a
on_ok (Err e) leads a = tt

-- a log that has not stopped is at rest
pub at_rest : (seen : Option (List ℕ)) (outcomes : List ℕ → Type 0) (count : ℕ) (stopped : Bool) (bodies : List (List ℕ)) → stopped ≡ false → Stands seen outcomes count stopped bodies
    → (count ≡ length bodies) × IsSettled seen outcomes bodies
at_rest seen outcomes count false bodies goes stands = stands
at_rest seen outcomes count true bodies goes stands = absurd (cc)

-- where the last record may be there or not, the log stands for all, and has stopped
pub may_be_left : (seen : Option (List ℕ)) (outcomes : List ℕ → Type 0) (count : ℕ) (bodies : List (List ℕ)) (body : List ℕ) → count ≡ length bodies → EachLeft seen outcomes (IsBeforeOrAfter bodies body)
    → Stands seen outcomes count true (bodies ++ body ∷ [])
may_be_left seen outcomes count bodies body is each = (
  omega (arith, is, length_push bodies body),
  each_weaker seen outcomes (IsBeforeOrAfter bodies body) (λ c. Reads c (bodies ++ body ∷ []) ⊎ Reads c (take count (bodies ++ body ∷ [])))
      (λ c. ⊎_elim
      (λ few. inr (subst (λ (l : List (List ℕ)). Reads c l) (sym (ap (λ (n : ℕ). take n (bodies ++ body ∷ [])) is ∙ take-append_seam bodies (body ∷ []))) few))
      (λ all. inl all))
      each,
)
