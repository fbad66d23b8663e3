-- What reading a record's place finds.
use Rattle.std.proofs.Common.{◌≡◌, ℕ, ◌*◌, ◌<◌, ◌≤◌, List, length, take, drop, refl, sym, ◌∙◌, ap, subst, arith, length-drop, Option, Some, None, IfSome}
use Rattle.std.proofs.lemmas.List.{take_all, length-take}
use Rattle.durable_disk.specs.Device.{IsRead}
use Rattle.durable_disk.specs.declared.records.Slot.{Slot}
use Rattle.durable_disk.specs.declared.records.Slot.TheVariants.{Missing, Closed, Short, Whole}
use Rattle.durable_disk.specs.Records.{missing, closed, short, whole, slot_of, slot_at}
use Rattle.durable_disk.specs.Records as format
use Rattle.durable_disk.specs.Found.{Finds}

-- the bytes matter for a whole record alone
finds_other : (slot : Slot) (a b : List ℕ) (s : format.Slot) → (slot ≡ Whole → ⊥) → Finds slot a s → Finds slot b s
finds_other Missing a b missing off h = tt
finds_other Missing a b closed off h = h
finds_other Missing a b short off h = h
finds_other Missing a b (whole body) off h = h
finds_other Closed a b missing off h = h
finds_other Closed a b closed off h = tt
finds_other Closed a b short off h = h
finds_other Closed a b (whole body) off h = h
finds_other Short a b missing off h = h
finds_other Short a b closed off h = h
finds_other Short a b short off h = tt
finds_other Short a b (whole body) off h = h
finds_other Whole a b s off h = absurd (off refl)

-- fewer bytes than a record has are all that there are
all_of : (at count : ℕ) (file into : List ℕ) → IsRead file at count into → count < 256 → length into ≡ 256 → take count into ≡ take 256 (drop at file)
all_of at count file into is less long =
    let few : length (drop at file) ≤ count = omega (arith, is.short (omega (arith, less, long)), length-drop at file) in
    is.bytes ∙ take_all count (drop at file) few ∙ sym (take_all 256 (drop at file) (omega (arith, few, less)))

pub found_short : (slot : Slot) (k at count : ℕ) (file into bytes : List ℕ) → at ≡ 256 * k → IsRead file at count into → count < 256 → length into ≡ 256 → bytes ≡ take count into
    → Finds slot bytes (slot_of bytes) → (length bytes < 256 → slot ≡ Whole → ⊥) → Finds slot into (slot_at k file)
found_short slot k at count file into bytes here is less long cut finds off =
    let same : bytes ≡ take 256 (drop (256 * k) file) =
    cut ∙ all_of at count file into is less long ∙ ap (λ (a : ℕ). take 256 (drop a file)) here in
    let low : length bytes < 256 = omega (arith, ap length cut, length-take count into, less) in
    subst (λ l. Finds slot into (slot_of l)) same (finds_other slot bytes into (slot_of bytes) (off low) finds)

pub found_short_told : (slot : Slot) (k at count : ℕ) (seen : Option (List ℕ)) (into bytes : List ℕ) → at ≡ 256 * k → IfSome seen (λ file. IsRead file at count into) → count < 256 → length into ≡ 256 → bytes ≡ take count into
    → Finds slot bytes (slot_of bytes) → (length bytes < 256 → slot ≡ Whole → ⊥) → IfSome seen (λ file. Finds slot into (slot_at k file))
found_short_told slot k at count None into bytes here is less long cut finds off = tt
found_short_told slot k at count (Some file) into bytes here is less long cut finds off = found_short slot k at count file into bytes here is less long cut finds off
