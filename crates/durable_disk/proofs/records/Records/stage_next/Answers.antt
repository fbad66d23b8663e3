use Rattle.std.proofs.Common.{◌≡◌, ℕ, List, ◌++◌, ◌∷◌, [], length, IfSome, arith, subst, length-append}
use Rattle.std.proofs.lemmas.List.{append_assoc}
use Rattle.durable_disk.specs.Records.{HasBodies}
use Rattle.durable_disk.specs.Standing.{RecordsSeen, IsStaging}
use Rattle.durable_disk.proofs.records.Records.stage_next.Goals as goal

pub returns-clause-staged : goal.returns-clause-staged
returns-clause-staged g c bodies more =
    let d = g.D.Disk in
    let new = c.put_body.new.disk in
    let body = c.args.body.now in
    subst (λ (l : RecordsSeen _). l.count ≡ length bodies → c.args.ahead ≡ length more → IsStaging (d.seen l.disk) (d.may_leave l.disk) bodies more → IsStaging (d.seen new) (d.may_leave new) bodies (more ++ body ∷ [])) c.self.view_is
    (λ is ahead staging. (
      subst (λ (l : List (List ℕ)). IfSome (d.seen new) (λ file. HasBodies file l (length bodies))) (append_assoc bodies more (body ∷ []))
          (c.in-Ok.ensures.put (bodies ++ more) (length bodies) (omega (arith, is, ahead, length-append bodies more)) (omega (arith, is)) staging.0),
      c.put_body.ensures.now bodies (omega (arith, is)) staging.1,
    ))
