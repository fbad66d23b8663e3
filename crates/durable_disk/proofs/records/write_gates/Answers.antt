use Rattle.std.proofs.Common.{rules, ◌≡◌, length, ℕ, ◌+◌, ◌*◌, List, IfSome, arith, subst}
use Rattle.io_edge.specs.declared.Failed.{Failed}
use Rattle.durable_disk.specs.Records.{HasBodies}
use Rattle.durable_disk.specs.Standing.{EachLeft}
use Rattle.durable_disk.proofs.RecordMoments.{goes_on}
use Rattle.durable_disk.proofs.Calls.{each_told, told_after}
use Rattle.durable_disk.proofs.Pieces.{gate_torn, kept_left, open_done}
use Rattle.durable_disk.proofs.records.write_gates.Goals as goal

pub loop-i-preserved : goal.loop-i-preserved
loop-i-preserved g c =
    let d = g.D.Disk in
    let old = c.args.disk.now in
    let mid = c.loop-i.disk in
    let new = c.write_at.new.self in
    let so_far = c.loop-i.invariant in
    let k = c.args.k in
    let gate : ℕ = k + c.loop-i.i in
    let P : List (List ℕ) → List ℕ → Type 0 = λ all f. HasBodies f all k in
    let step : (all : List (List ℕ)) → k + c.args.n ≡ length all → EachLeft (d.seen old) (d.may_leave old) (P all) → EachLeft (d.seen new) (d.may_leave new) (P all) = λ all is each.
    kept_left (P all) _ (256 * gate) 1 (d.seen mid) (d.seen new) (d.may_leave mid) (d.may_leave new)
    (λ b f has torn. gate_torn b f all k gate has (omega arith) (omega (arith, is, c.loop-i-test.true)) torn) c.write_at.ensures.seen c.write_at.ensures.crash (so_far.each all is each) in
    record {
      later = search rules;
      told = search rules;
      opened = λ all is has. subst (λ (n : ℕ). IfSome (d.seen new) (λ file. HasBodies file all n)) (omega arith)
          (open_done Failed c.in_ok-write_at.field-0 (256 * gate) gate (d.seen mid) (d.seen new) all (omega arith) (omega (arith, is, c.loop-i-test.true)) c.in_ok-write_at.ensures.seen (so_far.opened all is has));
      each = step;
      moments = λ all is each told. goes_on d.moment d.left_since old mid new (P all) (d.may_leave new) (so_far.moments all is each told) c.write_at.ensures.time
          (each_told (d.seen new) (d.may_leave new) (P all) (told_after _ (d.seen mid) (d.seen new) c.write_at.ensures.seen (so_far.told.0 told)) (step all is each));
    }
