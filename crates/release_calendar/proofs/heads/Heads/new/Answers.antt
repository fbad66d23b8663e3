use Rattle.std.proofs.Common.{◌≡◌, ◌+◌, ◌*◌, ◌/◌, ◌≤◌, ◌^◌, length, refl, ap, ◌∙◌, arith}
use Rattle.std.proofs.lemmas.List.{length-replicate}
use Rattle.release_calendar.specs.Heads.{no_key}
use Rattle.release_calendar.proofs.Leasts.{new_leasts}
use Rattle.release_calendar.proofs.Keys.{none_own, none_at}
use Rattle.release_calendar.proofs.heads.Heads.new.Goals as goal

pub invariant_of-result : goal.invariant_of-result
invariant_of-result c =
    let leasts = c.in_ok-leasts.ensures.items_if_clones_equal (λ y same. same) in
    let keys = c.in_ok-keys.ensures.items_if_clones_equal (λ y same. same) in
    let count = (c.saturating_sub.result / 64 + 1) * 8 in
    let rows : length c.in_ok-leasts.leasts.items ≡ count = ap length leasts ∙ length-replicate count no_key in
    let places : length c.in_ok-keys.keys.items ≡ count * 8 = ap length keys ∙ length-replicate (count * 8) no_key in
    let few : length c.in_ok-keys.keys.items ≤ 2 ^ 22 = omega (arith, places, c.if-transactions-gt-PLACES.false, c.saturating_sub.ensures) in (
      none_own (count * 8) c.in_ok-keys.keys.items keys few,
      new_leasts c.in_ok-keys.keys.items c.in_ok-leasts.leasts.items count (count * 8) (c.saturating_sub.result / 64) keys leasts (omega (arith, rows, places)) (omega (arith, rows)),
      refl,
    )

pub returns-clause-none : goal.returns-clause-none
returns-clause-none c tx =
    none_at ((c.saturating_sub.result / 64 + 1) * 8 * 8) c.in_ok-keys.keys.items tx (c.in_ok-keys.ensures.items_if_clones_equal (λ y same. same))
