use Rattle.std.proofs.Common.{◌≡◌, ◌≤◌, ◌^◌, ℕ, ◌/◌, ◌<◌, min, List, length, map, set, refl, sym, ap, ◌∙◌, subst, arith}
use Rattle.std.proofs.lemmas.List.{get_or_default}
use Rattle.release_calendar.specs.Heads.{AreKeys, AreLeasts, no_tick, tick_at, no_key, key_at, key_of, tick_of}
use Rattle.release_calendar.proofs.Leasts.{put_keeps}
use Rattle.release_calendar.proofs.Keys.{falls, known, least_low, leasts_low, set_own, set_ticks}
use Rattle.release_calendar.proofs.heads.Heads.put.Goals as goal

pub invariant_of-self : goal.invariant_of-self
invariant_of-self c =
    let keys = c.self.inside.keys.items in
    let leasts = c.self.inside.leasts.items in
    let there : c.args.tx < length keys = known keys c.args.tx (subst (λ (ticks : List ℕ). c.args.tx < length ticks) (sym c.self.view_is) c.requires.tx) in
    let none = subst (λ (ticks : List ℕ). tick_at ticks c.args.tx ≡ no_tick) (sym c.self.view_is) c.requires.none in
    let lower : key_of c.args.tx c.args.tick ≤ key_at keys c.args.tx = falls keys c.args.tx c.args.tick c.self.invariant.0 there none c.requires.tick in
    let here : c.index.result.now ≡ key_at leasts (c.args.tx / 8) = c.index.ensures ∙ get_or_default leasts (c.args.tx / 8) c.index.result.now no_key (omega (arith, there, c.self.invariant.1.size)) in
    let low : c.lower.result ≡ min (key_at leasts (c.args.tx / 8)) (key_of c.args.tx c.args.tick) = omega (arith, c.lower.ensures, here, c.key-key.ensures) in
    let least : c.lower-self-inside.result ≡ min c.self.inside.least (key_of c.args.tx c.args.tick) = omega (arith, c.lower-self-inside.ensures, c.key-key.ensures) in
    subst (λ (k : ℕ). AreKeys (set keys c.args.tx k) × AreLeasts (set keys c.args.tx k) (set leasts (c.args.tx / 8) c.lower.result) c.lower-self-inside.result × (c.lower-self-inside.result / 2 ^ 22 ≡ tick_of c.lower-self-inside.result)) (sym c.key-key.ensures) (
      set_own keys c.args.tx c.args.tick c.self.invariant.0 there (omega (arith, c.requires.tick)),
      subst (λ (l : ℕ). AreLeasts (set keys c.args.tx (key_of c.args.tx c.args.tick)) (set leasts (c.args.tx / 8) l) c.lower-self-inside.result) (sym low)
          (subst (λ (l : ℕ). AreLeasts (set keys c.args.tx (key_of c.args.tx c.args.tick)) (set leasts (c.args.tx / 8) (min (key_at leasts (c.args.tx / 8)) (key_of c.args.tx c.args.tick))) l) (sym least)
          (put_keeps keys leasts c.self.inside.least c.args.tx (key_of c.args.tx c.args.tick) (c.args.tx / 8) refl c.self.invariant.1 there lower)),
      refl,
    )

pub returns : goal.returns
returns c =
    let keys = c.self.inside.keys.items in
    let there : c.args.tx < length keys = known keys c.args.tx (subst (λ (ticks : List ℕ). c.args.tx < length ticks) (sym c.self.view_is) c.requires.tx) in
    ap (λ (k : ℕ). map tick_of (set keys c.args.tx k)) c.key-key.ensures
    ∙ (set_ticks keys c.args.tx c.args.tick c.self.invariant.0 there ∙ ap (λ (ticks : List ℕ). set ticks c.args.tx c.args.tick) c.self.view_is)

pub lower-requires-clause-first : goal.lower-requires-clause-first
lower-requires-clause-first c =
    let keys = c.self.inside.keys.items in
    let leasts = c.self.inside.leasts.items in
    let there : c.args.tx < length keys = known keys c.args.tx (subst (λ (ticks : List ℕ). c.args.tx < length ticks) (sym c.self.view_is) c.requires.tx) in
    let within : c.args.tx / 8 < length leasts = omega (arith, there, c.self.invariant.1.size) in
    omega (arith, c.index.ensures, leasts_low keys leasts c.self.inside.least c.self.invariant.0 c.self.invariant.1 (c.args.tx / 8) c.index.result.now within)

pub lower-self-inside-requires-clause-first : goal.lower-self-inside-requires-clause-first
lower-self-inside-requires-clause-first c = omega (arith, least_low c.self.inside.keys.items c.self.inside.leasts.items c.self.inside.least c.self.invariant.0 c.self.invariant.1)
