use Rattle.std.proofs.Common.{◌≡◌, ℕ, ◌*◌, ◌/◌, ◌<◌, ◌≤◌, slice_index_or, List, length, map, set, refl, sym, ap, ◌∙◌, subst, arith}
use Rattle.std.proofs.lemmas.List.{get_or_default, length-set}
use Rattle.release_calendar.specs.Heads.{AreKeys, IsLeastOf, no_key, key_at, tick_of}
use Rattle.release_calendar.proofs.Leasts.{set_keeps, set_keeps_row}
use Rattle.release_calendar.proofs.Keys.{known, leasts_low, row_low, set_low, set_own, set_ticks}
use Rattle.release_calendar.proofs.heads.Heads.set.Goals as goal

pub invariant_of-self : goal.invariant_of-self
invariant_of-self c =
    let keys = c.self.inside.keys.items in
    let leasts = c.self.inside.leasts.items in
    let row = c.args.tx / 8 in
    let there : c.args.tx < length keys = known keys c.args.tx (subst (λ (ticks : List ℕ). c.args.tx < length ticks) (sym c.self.view_is) c.requires.tx) in
    let all : IsLeastOf (set leasts row c.least_of-least.result) 0 (length (set leasts row c.least_of-least.result)) c.least_of_all-self-inside.result =
    subst (λ (xs : List ℕ). IsLeastOf xs 0 (length xs) c.least_of_all-self-inside.result) c.deref-then-least-index.ensures.value c.least_of_all-self-inside.ensures in (
      subst (λ (k : ℕ). AreKeys (set keys c.args.tx k)) (sym c.key.ensures) (set_own keys c.args.tx c.args.tick c.self.invariant.0 there c.requires.tick),
      set_keeps keys leasts c.self.inside.least c.args.tx c.key.result row c.least_of-least.result c.least_of_all-self-inside.result refl c.self.invariant.1 there
          (subst (λ (xs : List ℕ). IsLeastOf xs (8 * row) 8 c.least_of-least.result) c.deref.ensures.value c.least_of-least.ensures)
          (subst (λ (n : ℕ). IsLeastOf (set leasts row c.least_of-least.result) 0 n c.least_of_all-self-inside.result) (length-set leasts row c.least_of-least.result) all),
      refl,
    )

pub invariant_of-self-else-least-index : goal.invariant_of-self-else-least-index
invariant_of-self-else-least-index c =
    let keys = c.self.inside.keys.items in
    let leasts = c.self.inside.leasts.items in
    let row = c.args.tx / 8 in
    let there : c.args.tx < length keys = known keys c.args.tx (subst (λ (ticks : List ℕ). c.args.tx < length ticks) (sym c.self.view_is) c.requires.tx) in
    let old : c.least_of-least.result ≡ key_at leasts row = c.if-least-index.false ∙ c.index.ensures ∙ get_or_default leasts row c.index.result.now no_key (omega (arith, there, c.self.invariant.1.size)) in (
      subst (λ (k : ℕ). AreKeys (set keys c.args.tx k)) (sym c.key.ensures) (set_own keys c.args.tx c.args.tick c.self.invariant.0 there c.requires.tick),
      set_keeps_row keys leasts c.self.inside.least c.args.tx c.key.result row refl c.self.invariant.1 there
          (subst (λ (l : ℕ). IsLeastOf (set keys c.args.tx c.key.result) (8 * row) 8 l) old (subst (λ (xs : List ℕ). IsLeastOf xs (8 * row) 8 c.least_of-least.result) c.deref.ensures.value c.least_of-least.ensures)),
      c.self.invariant.2,
    )

pub returns-then-least-index : goal.returns-then-least-index
returns-then-least-index c =
    let keys = c.self.inside.keys.items in
    let there : c.args.tx < length keys = known keys c.args.tx (subst (λ (ticks : List ℕ). c.args.tx < length ticks) (sym c.self.view_is) c.requires.tx) in
    ap (λ (k : ℕ). map tick_of (set keys c.args.tx k)) c.key.ensures
    ∙ (set_ticks keys c.args.tx c.args.tick c.self.invariant.0 there ∙ ap (λ (ticks : List ℕ). set ticks c.args.tx c.args.tick) c.self.view_is)

pub returns-else-least-index : goal.returns-else-least-index
returns-else-least-index c =
    let keys = c.self.inside.keys.items in
    let there : c.args.tx < length keys = known keys c.args.tx (subst (λ (ticks : List ℕ). c.args.tx < length ticks) (sym c.self.view_is) c.requires.tx) in
    ap (λ (k : ℕ). map tick_of (set keys c.args.tx k)) c.key.ensures
    ∙ (set_ticks keys c.args.tx c.args.tick c.self.invariant.0 there ∙ ap (λ (ticks : List ℕ). set ticks c.args.tx c.args.tick) c.self.view_is)

pub least_of_all-self-inside-requires-clause-low : goal.least_of_all-self-inside-requires-clause-low
least_of_all-self-inside-requires-clause-low c =
    let keys = c.self.inside.keys.items in
    let leasts = c.self.inside.leasts.items in
    let row = c.args.tx / 8 in
    let there : c.args.tx < length keys = known keys c.args.tx (subst (λ (ticks : List ℕ). c.args.tx < length ticks) (sym c.self.view_is) c.requires.tx) in
    let own : AreKeys (set keys c.args.tx c.key.result) = subst (λ (k : ℕ). AreKeys (set keys c.args.tx k)) (sym c.key.ensures) (set_own keys c.args.tx c.args.tick c.self.invariant.0 there c.requires.tick) in
    let least = row_low (set keys c.args.tx c.key.result) (8 * row) 8 c.least_of-least.result own
    (subst (λ (xs : List ℕ). IsLeastOf xs (8 * row) 8 c.least_of-least.result) c.deref.ensures.value c.least_of-least.ensures) in
    subst (λ (xs : List ℕ). (k d : ℕ) → k < length xs → slice_index_or xs k d ≤ no_key) (sym c.deref-then-least-index.ensures.value)
    (set_low leasts row c.least_of-least.result (leasts_low keys leasts c.self.inside.least c.self.invariant.0 c.self.invariant.1) least)
