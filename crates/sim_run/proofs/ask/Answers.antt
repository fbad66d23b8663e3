use Rattle.std.proofs.Common.{◌≡◌, ◌<◌, List, [], ◌∷◌, ◌++◌, None, refl, sym, ◌∙◌, subst, length}
use Rattle.step_journal.specs.declared.entry.Entry.{Entry}
use Rattle.step_journal.specs.declared.entry.Entry.TheVariants.{Step}
use Rattle.rt_base.specs.declared.operation.Op.TheVariants.{Compute}
use Rattle.rt_base.specs.declared.operation.Outcome.TheVariants.{Computed}
use Rattle.step_journal.specs.History.{IsLegal, state_of}
use Rattle.board.specs.Answers.{IsAsking, told_by}
use Rattle.board.specs.Histories.{step_answer, step_entry, noted, now_of}
use Rattle.sim_run.proofs.Asks.{job_in_set, given_op, asking_now, has_done, has_blocked, has_computed}
use Rattle.sim_run.proofs.ask.Given.{Over}
use Rattle.sim_run.proofs.ask.Goals.{After-ask}
use Rattle.sim_run.proofs.ask.Goals as goal

pub computes-requires : goal.computes-requires
computes-requires g c =
    let can = c.requires.ready.1 in
    let is = g.met.B.Board.is_history c.args.board.now c.requires.ready.0 can.stands in
    job_in_set _ _ c.args.job is.compiled is.legal can.running

pub returns-then-computes-clause-asked : goal.returns-then-computes-clause-asked
returns-then-computes-clause-asked g c = λ history can.
    let is = g.met.B.Board.is_history c.args.board.now history can.stands in
    let k = given_op g.Y.Body.stands can is c.begin_new.ensures.kept c.begin_new.ensures.begun c.begin_new.ensures.same c.next-op.ensures in
    let done = c.if-computes.ensures.done refl in let new = done.1 history can.stands in
    let more : List Entry = history ++ Step c.args.job Compute Computed None (now_of (g.B.Board.set c.args.board.now) history) ∷ [] in
    has_computed k _ done.0 c.begin_new.ensures.serial (subst (λ s. IsLegal s more) c.computes.ensures.fixed.0 (g.met.B.Board.is_history c.computes.new.board more new).legal) new (λ os h. c.told.ensures.more c.args.job.serial os h)

pub ask-requires-clause-in_set : goal.ask-requires-clause-in_set
ask-requires-clause-in_set g c =
    let can = c.requires.ready.1 in
    let is = g.met.B.Board.is_history c.args.board.now c.requires.ready.0 can.stands in
    subst (λ b. c.args.job.tx.0 < length (g.B.Board.set b).txns) (sym (c.computes.ensures.unchanged c.if-computes.false))
    (job_in_set _ _ c.args.job is.compiled is.legal can.running)

pub ask-requires-clause-asks : goal.ask-requires-clause-asks
ask-requires-clause-asks g c =
    let history = c.requires.ready.0 in let can = c.requires.ready.1 in
    let is = g.met.B.Board.is_history c.args.board.now history can.stands in
    let k = given_op g.Y.Body.stands can is c.begin_new.ensures.kept c.begin_new.ensures.begun c.begin_new.ensures.same c.next-op.ensures in
    subst (λ b. (s : List Entry) × g.B.Board.stands b s × IsAsking (g.B.Board.set b) (state_of (g.B.Board.set b) s) c.args.job c.next-op.result) (sym (c.computes.ensures.unchanged c.if-computes.false)) (history, can.stands, asking_now k)

-- the answer of the board as it was, and what it then stands for
answered : (g : Over) (c : After-ask g) (history : List Entry) → g.B.Board.stands c.args.board.now history
    → let r = step_answer (g.B.Board.set c.args.board.now) history (length (g.B.Board.kept c.args.board.now)) (g.B.Board.room c.args.board.now) c.args.job c.next-op.result in
    (c.ask.result ≡ told_by r) × g.B.Board.stands c.ask.new.self (noted history (step_entry (now_of (g.B.Board.set c.args.board.now) history) c.args.job c.next-op.result r))
answered g c history stood =
    subst (λ b. g.B.Board.stands b history → let r = step_answer (g.B.Board.set b) history (length (g.B.Board.kept b)) (g.B.Board.room b) c.args.job c.next-op.result in
    (c.ask.result ≡ told_by r) × g.B.Board.stands c.ask.new.self (noted history (step_entry (now_of (g.B.Board.set b) history) c.args.job c.next-op.result r)))
    (c.computes.ensures.unchanged c.if-computes.false) (λ s. (c.ask.ensures.answer history s, c.ask.ensures.after history s)) stood

pub returns-in-Some-clause-asked : goal.returns-in-Some-clause-asked
returns-in-Some-clause-asked g c = λ history can.
    let is = g.met.B.Board.is_history c.args.board.now history can.stands in
    let k = given_op g.Y.Body.stands can is c.begin_new.ensures.kept c.begin_new.ensures.begun c.begin_new.ensures.same c.next-op.ensures in
    let a = answered g (goal.at.returns-in-Some-clause-asked g c).After-ask history can.stands in
    has_done k _ c.in-Some.outcome is c.requires.room refl (sym c.in-Some.is ∙ a.0) c.begin_new.ensures.serial a.1 (λ os h. c.told-in-Some.ensures.more c.args.job.serial os h)

pub returns-in-None-clause-asked : goal.returns-in-None-clause-asked
returns-in-None-clause-asked g c = λ history can.
    let is = g.met.B.Board.is_history c.args.board.now history can.stands in
    let k = given_op g.Y.Body.stands can is c.begin_new.ensures.kept c.begin_new.ensures.begun c.begin_new.ensures.same c.next-op.ensures in
    let a = answered g (goal.at.returns-in-None-clause-asked g c).After-ask history can.stands in
    has_blocked k _ is c.requires.room refl (sym a.0 ∙ c.in-None.is) c.begin_new.ensures.serial a.1
