-- Lists that are made from a number.
use Rattle.std.proofs.Common.{◌≡◌, ℕ, ◌+◌, ◌<◌, ◌≤◌, ◌^◌, ◌%◌, List, [], ◌∷◌, ◌++◌, length, take, codes, decimal, ◌*◌, true, refl, ap, ◌∙◌, arith, zero-add}
use Rattle.std.specs.List.{list_all}
use Rattle.std.proofs.Math.Seq.{take-append_seam}
use Rattle.std.proofs.lemmas.List.FromFn.{map-range_with_len_more}
use Rattle.std.proofs.lemmas.Bool.{and_from, and_parts, lt-ltb}
use Rattle.std.proofs.lemmas.Bool.Decides.{nat_tests}
use Rattle.std.proofs.lemmas.Fmt.{decimal_by_steps, length-decimal-le}
use Rattle.rt_base.specs.Names.{is_letter, is_name_byte, is_name}
use Rattle.rt_base.specs.declared.ids.TogetherDecl.{TogetherDecl}
use Rattle.item_model.specs.declared.decl.ItemDecl.{ItemDecl}
use Rattle.txn_set.specs.declared.decl.TxnDecl.{TxnDecl}
use Rattle.step_script.specs.Scripts.{Program}
use Rattle.step_script.specs.declared.releases.Releases.{Releases}
use Rattle.scenario_writer.specs.Generated.{each, dated_name, dated_item, state_item, txn_name, txn_decl, program, releases_each, generated_of}

pub each_more : {A : Type 0} (f : ℕ → A) (n : ℕ) → each f (n + 1) ≡ each f n ++ f n ∷ []
each_more f n = map-range_with_len_more f 0 n n (zero-add n)

digit : (d : ℕ) → d < 10 → is_name_byte (48 + d) ≡ true
digit d h = grind (arith, nat_tests)

one_more : (ds : List ℕ) (b : ℕ) → list_all is_name_byte ds ≡ true → is_name_byte b ≡ true
    → list_all is_name_byte (ds ++ b ∷ []) ≡ true
one_more [] b h e = and_from _ _ e refl
one_more (d ∷ ds) b h e = let p = and_parts _ _ h in and_from _ _ p.0 (one_more ds b p.1 e)

name_digits : (n : ℕ) → n < 2 ^ 64 → list_all is_name_byte (decimal n) ≡ true
name_digits n h = decimal_by_steps (λ k ds. list_all is_name_byte ds ≡ true)
    (λ k lt. and_from _ _ (digit k lt) refl)
    (λ k ds le so_far. one_more ds (48 + k % 10) so_far (digit (k % 10) (omega arith))) n h

-- a letter, and digits that were copied behind it
pub led : (letter : ℕ) (copied ds rest : List ℕ) → copied ≡ ds → {all : List ℕ} → ds ≡ all
    → take (1 + length ds) (letter ∷ (copied ++ rest)) ≡ letter ∷ all
led letter copied ds rest same is =
    let e : 1 + length ds ≡ length (letter ∷ ds) = omega arith in
    ap (λ (n : ℕ). take n (letter ∷ (copied ++ rest))) e
    ∙ ap (λ (bs : List ℕ). take (length (letter ∷ ds)) (letter ∷ (bs ++ rest))) same
    ∙ take-append_seam (letter ∷ ds) rest ∙ ap (λ (bs : List ℕ). letter ∷ bs) is

pub two_digits : (n : ℕ) → n < 64 → length (decimal n) ≤ 2
two_digits n lt = length-decimal-le 2 n (omega arith) (omega arith) (omega arith)

-- a letter with a number below 64 is a name
pub is_numbered : (letter n : ℕ) → is_letter letter ≡ true → n < 64 → is_name (letter ∷ decimal n) ≡ true
is_numbered letter n h lt =
    let short : length (decimal n) ≤ 2 = two_digits n lt in
    and_from _ _ (and_from _ _ h (lt-ltb (length (decimal n)) 32 (omega arith))) (name_digits n (omega arith))

-- the generated scenario by its parts
pub made : (n : ℕ) (ns ms : List (List ℕ)) (ds : List ItemDecl) (ts : List TxnDecl) (gs : List TogetherDecl)
    (ps : List Program)
    (rs : List Releases) (room : ℕ) → ns ≡ each dated_name n ++ codes "m" ∷ [] → ms ≡ each txn_name n
    → ds ≡ each (dated_item n) n ++ state_item ∷ [] → ts ≡ each (txn_decl n) n → gs ≡ [] → ps ≡ each (program n) n
    → rs ≡ each releases_each n → room ≡ n * (256 + 256 * (4 + 2)) + 2
    → record {
      names = record { items = ns; txns = ms };
      items = ds;
      txns = ts;
      together = gs;
      programs = ps;
      releases
          = rs;
      room = room;
    }
    ≡ generated_of n
unfolding generated_of
made n ns ms ds ts gs ps rs room a b c d e f g h = rw (a, b, c, d, e, f, g, h) refl
