use Rattle.std.proofs.Common.{◌≡◌, ◌<◌, length, None, sym, ◌∙◌, subst, rules}
use Rattle.txn_threads.specs.declared.member.Halt.{Halt}
use Rattle.txn_threads.specs.Rounds.{Met}
use Rattle.txn_threads.proofs.Rounding.{none_some_halt, all_refl, met_at, sit_at, ran_at}
use Rattle.txn_threads.proofs.member.Worker.go_on.Goals as goal

pub returns-then-is_some : goal.returns-then-is_some
returns-then-is_some g c = (all_refl g.Y.Body.gives g.Y.Body.stands c.args.plant.now c.args.self.now.members.items c.requires.0, c.requires.1)

pub go-requires : goal.go-requires
go-requires g c = let less : c.args.place < length c.args.self.now.members.items = search rules in sit_at _ c.args.place c.requires.0 less c.index_mut-member.ensures.value

pub returns-in-Ok : goal.returns-in-Ok
returns-in-Ok g c =
    let less : c.args.place < length c.args.self.now.members.items = search rules in let none : c.args.self.now.halt ≡ None = search rules in
    (ran_at _ c.args.place c.requires.0 less c.index_mut-member.ensures.value c.go.ensures.ran, λ h is. absurd (none_some_halt h (sym none ∙ is)))

pub returns-in-Err : goal.returns-in-Err
returns-in-Err g c =
    let less : c.args.place < length c.args.self.now.members.items = search rules in (
      ran_at _ c.args.place c.requires.0 less c.index_mut-member.ensures.value c.go.ensures.ran,
      λ h is. let same : c.in-Err.halt ≡ h = cc in
          met_at g.Y.Body.gives c.args.plant.now c.args.self.now.members.items c.args.place c.go.new.self h less (subst (λ (x : Halt). Met g.Y.Body.gives c.args.plant.now x c.go.new.self) same c.in-Err.ensures.met),
    )
