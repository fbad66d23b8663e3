use Rattle.std.proofs.Common.{rules, ◌≡◌, ◌+◌, ◌-◌, ◌<◌, [], ◌∷◌, ◌++◌, length, IfSome, arith, refl, sym, subst}
use Rattle.std.specs.List.{AllByRecursion}
use Rattle.durable_journal.specs.Log.{Fits, FitsThere}
use Rattle.durable_journal.proofs.Crash.{fit_push}
use Rattle.durable_journal.specs.declared.place.Place.{Place}
use Rattle.durable_journal.specs.declared.place.Place.TheVariants.{Missing, Closed, Bad, Taken}
use Rattle.durable_journal.specs.Texts.{ended, unended, broken, more, texts_from}
use Rattle.durable_journal.proofs.Scanning.{passes_more, taken_on, stopped_at, stopped_last, read_here}
use Rattle.durable_journal.proofs.scan.read_entries.Goals as goal

pub returns-in-Ok-Missing-clause-texts : goal.returns-in-Ok-Missing-clause-texts
returns-in-Ok-Missing-clause-texts g c =
    let names = c.args.names.now in
    let es = c.loop-entries.entries.items in
    let place : c.len-in-loop-entries-2.result + 1 ≡ length es + 1 = omega (arith, c.len-in-loop-entries-2.ensures) in
    let room : length es < c.args.room = omega (arith, c.loop-entries-test.true, c.len.ensures) in
    stopped_at names c.args.room es (g.D.Disk.seen c.args.disk.now) Missing (unended es) (texts_from names 1 c.args.room []) room (λ goes. refl)
    (read_here names _ _ _ _ _ Missing c.loop-entries.invariant.passes.same place c.in-Ok-Missing.field-0-is c.in-Ok-Missing.ensures.place)
    c.loop-entries.invariant.so_far

pub returns-in-Ok-Closed-clause-texts : goal.returns-in-Ok-Closed-clause-texts
returns-in-Ok-Closed-clause-texts g c =
    let names = c.args.names.now in
    let es = c.loop-entries.entries.items in
    let place : c.len-in-loop-entries-2.result + 1 ≡ length es + 1 = omega (arith, c.len-in-loop-entries-2.ensures) in
    let room : length es < c.args.room = omega (arith, c.loop-entries-test.true, c.len.ensures) in
    stopped_at names c.args.room es (g.D.Disk.seen c.args.disk.now) Closed (ended es) (texts_from names 1 c.args.room []) room (λ goes. refl)
    (read_here names _ _ _ _ _ Closed c.loop-entries.invariant.passes.same place c.in-Ok-Closed.field-0-is c.in-Ok-Closed.ensures.place)
    c.loop-entries.invariant.so_far

pub returns-in-Ok-Bad-clause-texts : goal.returns-in-Ok-Bad-clause-texts
returns-in-Ok-Bad-clause-texts g c =
    let names = c.args.names.now in
    let es = c.loop-entries.entries.items in
    let place : c.len-in-loop-entries-2.result + 1 ≡ length es + 1 = omega (arith, c.len-in-loop-entries-2.ensures) in
    let room : length es < c.args.room = omega (arith, c.loop-entries-test.true, c.len.ensures) in
    stopped_at names c.args.room es (g.D.Disk.seen c.args.disk.now) Bad (broken es) (texts_from names 1 c.args.room []) room (λ goes. refl)
    (read_here names _ _ _ _ _ Bad c.loop-entries.invariant.passes.same place c.in-Ok-Bad.field-0-is c.in-Ok-Bad.ensures.place)
    c.loop-entries.invariant.so_far

pub loop-entries-preserved : goal.loop-entries-preserved
loop-entries-preserved g c =
    let d = g.D.Disk in
    let names = c.args.names.now in
    let es = c.loop-entries.entries.items in
    let place : c.len-in-loop-entries-2.result + 1 ≡ length es + 1 = omega (arith, c.len-in-loop-entries-2.ensures) in
    let room : length es < c.args.room = omega (arith, c.loop-entries-test.true, c.len.ensures) in
    let pushed : c.push.new.self.items ≡ es ++ c.in-Ok-Taken.entry ∷ [] = search rules in
    let goes = taken_on names c.args.room es (d.seen c.args.disk.now) c.in-Ok-Taken.entry (texts_from names 1 c.args.room []) room
    (read_here names _ _ _ _ _ (Taken c.in-Ok-Taken.entry) c.loop-entries.invariant.passes.same place c.in-Ok-Taken.field-0-is c.in-Ok-Taken.ensures.place)
    c.loop-entries.invariant.so_far in
    record {
      within = search rules;
      few = search rules;
      fit = subst (λ l. AllByRecursion (Fits names) l) (sym pushed) (fit_push names es c.in-Ok-Taken.entry c.loop-entries.invariant.fit
          (subst (λ (p : Place). FitsThere names p) c.in-Ok-Taken.field-0-is c.in-Ok-Taken.ensures.fits));
      so_far = subst (λ l. IfSome (d.seen c.args.disk.now) (λ file. texts_from names (length l + 1) (c.args.room - length l) l file ≡ texts_from names 1 c.args.room [] file)) (sym pushed) goes;
      passes = passes_more d.seen d.may_leave d.moment d.left_since c.args.disk.now c.loop-entries.disk c.read_place.new.disk c.loop-entries.invariant.passes c.read_place.ensures.seen c.read_place.ensures.crash c.read_place.ensures.time;
      later = search rules;
    }

pub returns-in-Ok-Bad-read_place-clause-texts : goal.returns-in-Ok-Bad-read_place-clause-texts
returns-in-Ok-Bad-read_place-clause-texts g c =
    let names = c.args.names.now in
    let es = c.loop-entries.entries.items in
    let full : length es ≡ c.args.room = omega (arith, c.loop-entries-test.false, c.len.ensures, c.loop-entries.invariant.within) in
    stopped_last names c.args.room (c.args.room + 1) es (g.D.Disk.seen c.args.disk.now) (Bad) (more es) (texts_from names 1 c.args.room []) full refl refl
    (read_here names _ _ _ _ _ (Bad) c.loop-entries.invariant.passes.same refl c.in-Ok-Bad-read_place.field-0-is c.in-Ok-Bad-read_place.ensures.place)
    c.loop-entries.invariant.so_far

pub returns-in-Ok-Taken-read_place-clause-texts : goal.returns-in-Ok-Taken-read_place-clause-texts
returns-in-Ok-Taken-read_place-clause-texts g c =
    let names = c.args.names.now in
    let es = c.loop-entries.entries.items in
    let full : length es ≡ c.args.room = omega (arith, c.loop-entries-test.false, c.len.ensures, c.loop-entries.invariant.within) in
    stopped_last names c.args.room (c.args.room + 1) es (g.D.Disk.seen c.args.disk.now) (Taken _) (more es) (texts_from names 1 c.args.room []) full refl refl
    (read_here names _ _ _ _ _ (Taken _) c.loop-entries.invariant.passes.same refl c.in-Ok-Taken-read_place.field-0-is c.in-Ok-Taken-read_place.ensures.place)
    c.loop-entries.invariant.so_far
