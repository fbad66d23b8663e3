use Rattle.std.proofs.Common.{◌≡◌, Some, None, Err, rules}
use Rattle.report_text.specs.Document.{lines_of, front, after, Moves, body_of}
use Rattle.report_text.specs.Forms.{entry_form}
use Rattle.report_text.proofs.Reading.{body_reads, given}
use Rattle.report_text.proofs.document.body.Goals as goal

pub returns-in-Some-clause-document : goal.returns-in-Some-clause-document
returns-in-Some-clause-document c =
    let m2 : Moves c.to_entries-first.result.1 c.to_entries-first.result.0.now c.in-Ok.jobs c.in-Ok.rest.now (after (entry_form c.args.kind.second c.args.head.names) (lines_of c.to_entries-first.result.0.now).0) = search rules in
    let got : c.add_entries.new.entries.items ≡ front (entry_form c.args.kind.second c.args.head.names) (lines_of c.to_entries-first.result.0.now).0 = search rules in
    given (Err c.in-Some.error) (body_of c.args.head c.args.kind c.args.n (lines_of c.args.text.now).0 (lines_of c.args.text.now).1)
    (body_reads c.args.head c.args.kind c.args.n c.args.text.now c.to_entries-first.result.1 c.to_entries-first.result.0.now c.in-Ok.jobs c.in-Ok.rest.now
    c.to_end-end.result.1 c.to_end-end.result.0.now c.add_entries.new.entries.items (Some c.in-Some.error) c.to_entries-first.ensures.moves m2 c.to_end-end.ensures got (search rules))

pub returns-in-None-clause-document : goal.returns-in-None-clause-document
returns-in-None-clause-document c =
    let m2 : Moves c.to_entries-first.result.1 c.to_entries-first.result.0.now c.in-Ok.jobs c.in-Ok.rest.now (after (entry_form c.args.kind.second c.args.head.names) (lines_of c.to_entries-first.result.0.now).0) = search rules in
    let got : c.of.result ≡ front (entry_form c.args.kind.second c.args.head.names) (lines_of c.to_entries-first.result.0.now).0 = search rules in
    body_reads c.args.head c.args.kind c.args.n c.args.text.now c.to_entries-first.result.1 c.to_entries-first.result.0.now c.in-Ok.jobs c.in-Ok.rest.now
    c.to_end-end.result.1 c.to_end-end.result.0.now c.of.result None c.to_entries-first.ensures.moves m2 c.to_end-end.ensures got (search rules)
