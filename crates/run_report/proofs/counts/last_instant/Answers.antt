use Rattle.std.proofs.Common.{◌≡◌, ◌∙◌, ◌-◌, ap, sym, refl, ℕ, Option, get_or, length, take, arith}
use Rattle.std.specs.Prelude.{unwrap_or}
use Rattle.step_journal.specs.declared.entry.Entry.{Entry}
use Rattle.step_journal.specs.declared.entry.Entry.TheVariants.{Planned}
use Rattle.step_journal.specs.History.{state_of}
use Rattle.run_report.proofs.Instants.{opening_now, now_low, back, instant_low}
use Rattle.run_report.proofs.counts.last_instant.Goals as goal

abbrev filler : Entry
filler = Planned (record { 0 = 0 }) 0

pub instant-requires : goal.instant-requires
instant-requires c =
    let set = c.args.set.now in
    let i = c.loop-left.left - 1 in
    instant_low (state_of set (take i c.args.entries.now)).now (get_or c.args.entries.now i filler)
    (now_low set c.args.entries.now i filler (state_of set (take i c.args.entries.now)).now c.counting.ensures.time c.is_compiled.ensures (omega (arith, c.loop-left-test.true, c.loop-left.invariant.within)) c.requires refl)

pub returns-in-Some : goal.returns-in-Some
returns-in-Some c =
    let set = c.args.set.now in
    ap (λ (o : Option ℕ). unwrap_or o (state_of set (take (c.loop-left.left - 1) c.args.entries.now)).now) (sym c.in-Some.is ∙ c.instant.ensures)
    ∙ back set c.args.entries.now c.loop-left.left filler c.loop-left-test.true c.loop-left.invariant.within c.requires c.loop-left.invariant.now

pub loop-left-preserved : goal.loop-left-preserved
loop-left-preserved c =
    let set = c.args.set.now in
    record {
      within = omega (arith, c.loop-left.invariant.within);
      now = ap (λ (o : Option ℕ). unwrap_or o (state_of set (take (c.loop-left.left - 1) c.args.entries.now)).now) (sym c.in-None.is ∙ c.instant.ensures)
          ∙ back set c.args.entries.now c.loop-left.left filler c.loop-left-test.true c.loop-left.invariant.within c.requires c.loop-left.invariant.now;
    }

pub returns : goal.returns
returns c =
    let set = c.args.set.now in
    let none : 0 ≡ c.loop-left.left = omega (arith, c.loop-left-test.false) in
    opening_now set ∙ (ap (λ (n : ℕ). (state_of set (take n c.args.entries.now)).now) none ∙ c.loop-left.invariant.now)
