-- How calls go on.
use Rattle.std.proofs.Common.{◌≡◌, inl, inr, ⊎_elim, ℕ, ◌+◌, List, [], ◌∷◌, ◌++◌, length, reverse, take, refl, sym, ap, ◌∙◌, subst, arith, length-append, Ok}
use Rattle.std.proofs.lemmas.List.{length-reverse, reverse-append}
use Rattle.durable_disk.specs.Images.{Torn}
use Rattle.durable_disk.specs.Device.{AfterWrite, Follows, Elapses, NoMore}
use Rattle.durable_disk.specs.Memory.{after_write}
use Rattle.durable_disk.proofs.Writes.{after_write_torn, after_write_ok, torn_none}
use Rattle.c_stations.specs.Calls.{LeftSince, MayLeave, IsWriteOf, after, held, held_all}
use Rattle.c_stations.specs.declared.call.Call.{Call}
use Rattle.c_stations.specs.declared.call.Call.TheVariants.{Sync}

-- no time goes by where no call is noted
pub stands_still : (file : List ℕ) (old new : List Call) → new ≡ old → Elapses (length old) (length new) (LeftSince file (reverse old)) (LeftSince file (reverse new)) (MayLeave file (reverse new))
stands_still file old new same =
    subst (λ (l : List Call). Elapses (length old) (length l) (LeftSince file (reverse old)) (LeftSince file (reverse l)) (MayLeave file (reverse l))) (sym same)
    (record { later = omega arith; nothing_else = λ t c le left. inl left; keeps = λ t c le left. left })

-- one call more
pub one_more : (file : List ℕ) (call : Call) (old new : List Call) → new ≡ old ++ call ∷ [] → reverse new ≡ call ∷ reverse old
    → Elapses (length old) (length new) (LeftSince file (reverse old)) (LeftSince file (reverse new)) (MayLeave file (reverse new))
one_more file call old new more is =
    let same : length (reverse old) ≡ length old = length-reverse old in
    let longer : length new ≡ length old + 1 = ap length more ∙ length-append old (call ∷ []) in
    record {
      later = omega (arith, longer);
      nothing_else = λ t c le left. ⊎_elim (λ now. inr (subst (λ (l : List Call). MayLeave file l c) (sym is) now)) (λ earlier. inl earlier.1)
          (subst (λ (l : List Call). LeftSince file l t c) is left);
      keeps = λ t c le left. subst (λ (l : List Call). LeftSince file l t c) (sym is) (inr (omega (arith, le, same), left));
    }

module _ (file : List ℕ) (at : ℕ) (bytes : List ℕ) (old new : List Call) (w : IsWriteOf at bytes old new) where
  -- the file with the write
  pub file_after : held file (reverse new) ≡ after_write at bytes (held file (reverse old))
  file_after =
      ap (held file) w.newest
      ∙ ap (λ (a : ℕ). after_write a (take w.piece.count w.piece.bytes) (held file (reverse old))) w.from
      ∙ ap (λ (l : List ℕ). after_write at l (held file (reverse old))) w.stands

  pub write_seen : {T E : Type 0} (t : T) → AfterWrite {T = T} {E = E} (Ok t) at bytes (held file (reverse old)) (held file (reverse new))
  write_seen {T} {E} t = subst (λ (f : List ℕ). AfterWrite {T = T} {E = E} (Ok t) at bytes (held file (reverse old)) f) (sym file_after) (after_write_ok t at bytes (held file (reverse old)))

  -- what a crash may leave after a write was left before it, or some of the write is left in it
  pub write_follows : Follows (Torn at (length bytes)) (MayLeave file (reverse old)) (MayLeave file (reverse new))
  write_follows c left =
      let whole : Torn at (length bytes) (held file (reverse old)) (held file (reverse new)) =
      subst (λ (f : List ℕ). Torn at (length bytes) (held file (reverse old)) f) (sym file_after) (after_write_torn at bytes (held file (reverse old))) in
      ⊎_elim
      (λ all. (held file (reverse old), inl refl, subst (λ (f : List ℕ). Torn at (length bytes) (held file (reverse old)) f) (ap (held file) w.newest ∙ sym all) whole))
      (λ some. (some.0, inr some.1, subst (λ (a : ℕ). Torn a (length bytes) some.0 c) w.from (subst (λ (n : ℕ). Torn w.piece.at n some.0 c) w.count some.2)))
      (subst (λ (l : List Call). MayLeave file l c) w.newest left)

  pub write_time : Elapses (length old) (length new) (LeftSince file (reverse old)) (LeftSince file (reverse new)) (MayLeave file (reverse new))
  write_time = one_more file _ old new w.noted w.newest

-- after a sync a crash leaves what a read gives, and that is one of the images before
module _ (file : List ℕ) (old new : List Call) (newest : reverse new ≡ Sync ∷ reverse old) where
  pub sync_held : held file (reverse new) ≡ held file (reverse old)
  sync_held = ap (held file) newest

  pub sync_only : (c : List ℕ) → MayLeave file (reverse new) c → c ≡ held file (reverse new)
  sync_only c left = ⊎_elim (λ now. now ∙ sym sync_held) (λ reached. reached ∙ sym sync_held) (subst (λ (l : List Call). MayLeave file l c) newest left)

  pub sync_no_more : NoMore (MayLeave file (reverse old)) (MayLeave file (reverse new))
  sync_no_more c left = inl (sync_only c left ∙ sync_held)

-- of a write that was refused nothing is left
pub refused_follows : (file : List ℕ) (at n : ℕ) (old new : List Call) → new ≡ old → Follows (Torn at n) (MayLeave file (reverse old)) (MayLeave file (reverse new))
refused_follows file at n old new same c left = (c, subst (λ (l : List Call). MayLeave file (reverse l) c) same left, torn_none at n c)

held_append : (file : List ℕ) (xs ys : List Call) → held file (xs ++ ys) ≡ held (held file ys) xs
held_append file [] ys = refl
held_append file (x ∷ xs) ys = ap (after x) (held_append file xs ys)

-- calls made one after the other, the oldest first
pub held_all_is : (file : List ℕ) (calls : List Call) → held_all file calls ≡ held file (reverse calls)
held_all_is file [] = refl
held_all_is file (c ∷ cs) = held_all_is (after c file) cs ∙ sym (ap (held file) (reverse-append (c ∷ []) cs) ∙ held_append file (reverse cs) (c ∷ []))
