use Rattle.std.proofs.Common.{sym, ◌∙◌, arith}
use Rattle.step_journal.specs.History.{state_of}
use Rattle.lock_core.proofs.Stood.{legal_state}
use Rattle.lock_core.proofs.Called.{idle_call, idle_room, advances}
use Rattle.lock_core.proofs.table_calls.idle.Goals as goal

pub go_on-requires : goal.go_on-requires
go_on-requires c =
    let is = c.requires.core in
    record {
      idle = (
        c.args.set.now,
        record {
          state = _;
          are = is.stands.are;
          legal = legal_state _ is.history is.stands;
          idle = advances _ _ _ _ _ (legal_state _ is.history is.stands) (sym (c.idle_check.ensures _ _ is.stands.are) ∙ c.in-Advanced.is);
        },
      );
    }

pub push-requires : goal.push-requires
push-requires c =
    let is = c.requires.core in
    omega (
      arith,
      idle_room c.args.set.now (state_of c.args.set.now is.history) c.len.result c.room.result c.in-Advanced.to (sym (c.idle_check.ensures _ _ is.stands.are) ∙ c.in-Advanced.is),
      c.len.ensures,
      c.room.ensures,
    )

pub returns-in-Advanced-clause-call : goal.returns-in-Advanced-clause-call
returns-in-Advanced-clause-call c = λ history h.
    let l = legal_state _ history h in
    let says = sym (c.idle_check.ensures _ _ h.are) ∙ c.in-Advanced.is in
    let i = advances _ _ _ _ _ l says in
    idle_call _ _ _ _ _ history _ c.in-Advanced.to c.push.ensures c.now-from.ensures (omega (arith, idle_room c.args.set.now (state_of c.args.set.now history) c.len.result c.room.result c.in-Advanced.to says, c.len.ensures, c.room.ensures)) h i (c.go_on.ensures _ _ h.are l i)
