use Rattle.std.proofs.Common.{◌+◌, ap, ◌∙◌, arith, ℕ, List, length, ◌++◌, ◌∷◌, []}
use Rattle.txn_set.specs.declared.decl.TxnDecl.{TxnDecl}
use Rattle.step_journal.specs.declared.entry.Entry.TheVariants.{Step}
use Rattle.plain_core.specs.TablesSeen.{TablesSeen, tally_of}
use Rattle.plain_core.specs.Arrivals.{arrived_tables}
use Rattle.plain_core.proofs.Stood.{fit_core, set_size}
use Rattle.plain_core.proofs.Idles.{tallies_fit}
use Rattle.plain_core.proofs.Goes.{go_low, go_roomy, effect_rows, effect_tallies, go_keeps, go_after}
use Rattle.plain_core.proofs.plain.PlainCore.go.Goals as goal

pub effect-requires-clause-now : goal.effect-requires-clause-now
effect-requires-clause-now c = omega (arith, (fit_core _ c.self.invariant).clock)

pub effect-requires-clause-used : goal.effect-requires-clause-used
effect-requires-clause-used c = λ n row h. omega (arith, (fit_core _ c.self.invariant).used n row h)

pub effect-requires-clause-low : goal.effect-requires-clause-low
effect-requires-clause-low c =
    go_low _ _ c.args.job c.args.op c.args.outcome c.args.over c.self.view_is c.requires.in_set c.requires.done c.self.invariant

pub effect-requires-clause-few : goal.effect-requires-clause-few
effect-requires-clause-few c = λ n. tallies_fit _ c.self.invariant n

pub overflow_add-tick : goal.overflow_add-tick
overflow_add-tick c = omega (arith, c.now-tick.ensures, (fit_core _ c.self.invariant).clock)

pub arrive-requires-clause-rows : goal.arrive-requires-clause-rows
arrive-requires-clause-rows c =
    omega (
      arith,
      ap (λ (t : TablesSeen). length t.state.rows) c.effect.ensures,
      effect_rows c.self.inside.set c.args.job c.args.op c.self.inside.tables,
      (fit_core _ c.self.invariant).rows,
      c.self.invariant.stands.is_history.compiled.few_txns,
    )

pub arrive-requires-clause-few : goal.arrive-requires-clause-few
arrive-requires-clause-few c =
    λ n. omega (
      arith,
      ap (λ (t : TablesSeen). (tally_of t.tallies n).number) c.effect.ensures,
      effect_tallies c.self.inside.set c.args.job c.args.op c.self.inside.tables n,
      tallies_fit _ c.self.invariant n,
    )

pub push-requires : goal.push-requires
push-requires c =
    go_roomy _ _ c.args.job c.args.op c.args.outcome c.args.over c.self.view_is c.requires.in_set c.requires.done c.self.invariant

pub invariant_of-self : goal.invariant_of-self
invariant_of-self c =
    let job = c.args.job in
    let op = c.args.op in
    let outcome = c.args.outcome in
    let over = c.args.over in
    let set = c.self.inside.set in
    go_keeps _ _ _ _ job op outcome over c.self.view_is
    (c.push.ensures ∙ ap (λ (n : ℕ). record { room = c.self.inside.journal.room; first = c.self.inside.journal.first; kept = c.self.inside.journal.kept ++ Step job op outcome over n ∷ [] }) c.now-tick.ensures)
    (c.arrive.ensures ∙ (ap (λ (t : List TxnDecl). arrived_tables t (c.now-tick.result + 1) c.effect.new.tables) c.txns.ensures
    ∙ (ap (λ (n : ℕ). arrived_tables set.txns (n + 1) c.effect.new.tables) c.now-tick.ensures
    ∙ ap (λ (t : TablesSeen). arrived_tables set.txns (c.self.inside.tables.state.now + 1) t) c.effect.ensures)))
    (omega (arith, set_size _ _ c.self.view_is)) c.requires.done c.self.invariant

pub returns-clause-after : goal.returns-clause-after
returns-clause-after c =
    let job = c.args.job in
    let op = c.args.op in
    let outcome = c.args.outcome in
    let over = c.args.over in
    let set = c.self.inside.set in
    go_after _ _ _ _ job op outcome over c.self.view_is
    (c.push.ensures ∙ ap (λ (n : ℕ). record { room = c.self.inside.journal.room; first = c.self.inside.journal.first; kept = c.self.inside.journal.kept ++ Step job op outcome over n ∷ [] }) c.now-tick.ensures)
    (c.arrive.ensures ∙ (ap (λ (t : List TxnDecl). arrived_tables t (c.now-tick.result + 1) c.effect.new.tables) c.txns.ensures
    ∙ (ap (λ (n : ℕ). arrived_tables set.txns (n + 1) c.effect.new.tables) c.now-tick.ensures
    ∙ ap (λ (t : TablesSeen). arrived_tables set.txns (c.self.inside.tables.state.now + 1) t) c.effect.ensures)))
    (omega (arith, set_size _ _ c.self.view_is)) c.requires.done
