use Rattle.std.proofs.Common.{◌≡◌, ◌∙◌, true, false, rules}
use Rattle.board.specs.Histories.{now_of}
use Rattle.shared_plant.proofs.Answering.{busy_of}
use Rattle.shared_plant.proofs.Laters.{later_refl, later_of, tried_none, later_missed, later_answered, not_yet_has_none, tried_missed, tried_answered}
use Rattle.shared_plant.proofs.plant.Plant.step.Goals as goal

pub loop-init : goal.loop-init
loop-init g c = (tt, tt, later_refl _, λ tx e. tried_none _ _ _)

pub try_step-requires : goal.try_step-requires
try_step-requires g c =
    let later = c.loop.invariant.2 in let tx = c.requires.tx in
    record { plant = later_of c.args.self.now _ _ later c.requires.plant; tx = (tx.0, later.tx ∙ tx.1) }

pub returns-then-not-is_not_yet-clause-yet : goal.returns-then-not-is_not_yet-clause-yet
returns-then-not-is_not_yet-clause-yet g c = let is : c.is_not_yet.result ≡ false = search rules in c.is_not_yet.ensures.no is

pub returns-then-not-is_not_yet-clause-answer : goal.returns-then-not-is_not_yet-clause-answer
returns-then-not-is_not_yet-clause-answer g c = λ tx e.
    let tried = c.loop.invariant.3 tx e in
    record {
      before = c.loop.seat;
      number = tried.number;
      tries = tried.tries;
      later = c.loop.invariant.2;
      answered = c.in-Said.ensures.said tx (c.loop.invariant.2.tx ∙ e);
    }

pub loop-preserved-else-not-is_not_yet : goal.loop-preserved-else-not-is_not_yet
loop-preserved-else-not-is_not_yet g c =
    let i = c.loop.invariant in let tx = c.requires.tx in
    let is : c.is_not_yet.result ≡ true = search rules in
    let yet = c.is_not_yet.ensures.yes is in (
      tt,
      tt,
      later_answered _ _ _ _ _ _ i.2 (c.in-Said.ensures.said tx.0 (i.2.tx ∙ tx.1)) (λ history. not_yet_has_none c.in-Said.reply (record { tx = tx.0; serial = c.args.serial }) c.args.op (now_of c.args.self.now.set history) yet),
      λ x e. tried_answered c.args.self.now.set c.args.self.now.room (record { tx = x; serial = c.args.serial }) c.args.op (now_of c.args.self.now.set) c.in-Said.reply _ _ _ (i.3 x e) (c.in-Said.ensures.said x (i.2.tx ∙ e)) yet,
    )

pub loop-preserved : goal.loop-preserved
loop-preserved g c =
    let i = c.loop.invariant in let missed = c.try_step.ensures.busy (busy_of c.try_step.result (λ x e. c.in_default.not-Said x e)) in
    (tt, tt, later_missed _ _ _ i.2 missed, λ x e. tried_missed _ _ _ _ _ (i.3 x e) missed)
