use Rattle.std.proofs.Common.{rules, ◌≡◌, length, drop, arith, sym, ◌∙◌, length-drop, Some, None}
use Rattle.std.proofs.lemmas.List.{take_all}
use Rattle.durable_journal.proofs.Places.{place_whole}
use Rattle.durable_journal.proofs.place.place_in.Goals as goal

pub returns-in-Some-clause-place : goal.returns-in-Some-clause-place
returns-in-Some-clause-place c found h =
    let bytes = c.args.bytes.now in
    let long : length bytes ≡ 256 = search rules in
    place_whole c.args.names.now c.args.slot bytes _ found (Some c.in-Some.entry) c.in-Whole.is (take_all 255 (drop 1 bytes) (omega (arith, length-drop 1 bytes, long))) (sym c.in-Some.is ∙ c.entry_of_body.ensures.entry) h

pub returns-in-None-clause-place : goal.returns-in-None-clause-place
returns-in-None-clause-place c found h =
    let bytes = c.args.bytes.now in
    let long : length bytes ≡ 256 = search rules in
    place_whole c.args.names.now c.args.slot bytes _ found None c.in-Whole.is (take_all 255 (drop 1 bytes) (omega (arith, length-drop 1 bytes, long))) (sym c.in-None.is ∙ c.entry_of_body.ensures.entry) h
