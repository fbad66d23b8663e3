-- The integers of the generated scenarios.
use Rattle.std.proofs.Common.{ℕ, ◌≤◌, Bool, true, false, cond, pos, arith}
use Rattle.std.specs.List.{All, AllByRecursion}
use Rattle.std.proofs.lemmas.List.Elements.{All-nil, All-from_recursion}
use Rattle.item_model.specs.declared.decl.ItemDecl.{ItemDecl}
use Rattle.scenario_writer.specs.Generated.{is_even, dated_item, state_item, even_ops, odd_ops, program, generated_of}
use Rattle.scenario_writer.specs.Integers.{IsI64, OpHasConstants, ProgramHasIntegers}
use Rattle.scenario_writer.proofs.GeneratedSet.{all_each, all_with}
use Rattle.law_texts.specs.Texts.{GeneratedHasIntegers}

fits : (n : ℕ) → n ≤ 64 → IsI64 (pos n)
fits n few = record { sfits = omega arith }

-- the constant of the sum that each second transaction writes
odd_have : (n i : ℕ) → i ≤ 64 → AllByRecursion OpHasConstants (odd_ops n i)
odd_have n i few = (tt, (tt, ((tt, fits i few), (tt, tt))))

ops_have : (b : Bool) (n i : ℕ) → i ≤ 64 → All OpHasConstants (cond b (even_ops i) (odd_ops n i))
ops_have true n i few = All-from_recursion OpHasConstants (even_ops i) (tt, (tt, (tt, tt)))
ops_have false n i few = All-from_recursion OpHasConstants (odd_ops n i) (odd_have n i few)

pub generated_has_integers : GeneratedHasIntegers
unfolding generated_of
generated_has_integers n few = record {
  initial = all_with (λ (d : ItemDecl). IsI64 d.initial) (dated_item n) n state_item (λ i lt. fits 0 (omega arith))
      (fits 0 (omega arith));
  programs = all_each ProgramHasIntegers (program n) n
      (λ i lt. record { samples = All-nil IsI64; constants = ops_have (is_even i) n i (omega arith) });
}
