use Rattle.std.proofs.Common.{rules, ◌≡◌, Bool, true, false, inl, sym, subst}
use Rattle.command_replies.proofs.Replying.{taken}
use Rattle.rtdb_command.specs.Journals.{is_journal as is_journal_of, JournalAnswers, IsGoodFor}
use Rattle.rtdb_command.proofs.Journaling.{good_ok, usage_answer}
use Rattle.rtdb_command.proofs.journal.rtdb_journal.Goals as goal

pub returns-then-not-is_journal-clause-answer : goal.returns-then-not-is_journal-clause-answer
returns-then-not-is_journal-clause-answer g c =
    let left = g.S.Source.left c.args.source.now in
    let is : is_journal_of c.args.words.now ≡ false = search rules in
    subst (λ (b : Bool). JournalAnswers b (g.D.Disk.seen c.args.disk) left left (g.K.Sink.taken c.args.sink.now) (g.K.Sink.taken c.answer_no_command.new.sink) c.answer_no_command.result) (sym is)
    (usage_answer (g.D.Disk.seen c.args.disk) left _ _ c.answer_no_command.result c.answer_no_command.ensures.which (c.answer_no_command.ensures.answer left))

pub returns-in-Ok-write_all-clause-complete : goal.returns-in-Ok-write_all-clause-complete
returns-in-Ok-write_all-clause-complete g c = λ good no_read no_write no_fault.
    let left = g.S.Source.left c.args.source.now in
    let is : is_journal_of c.args.words.now ≡ true = search rules in
    inl (good_ok c.one_run_at_most.ensures c.opened_again.ensures true (g.D.Disk.seen c.args.disk) left (g.S.Source.left c.journal_reply-replied.new.source) c.in-Ok.reply.status c.in-Ok.reply.text.items
    (subst (λ (b : Bool). IsGoodFor b (g.D.Disk.seen c.args.disk) left) is good)
    (taken _ _ _ c.in-Ok.is c.journal_reply-replied.ensures.said))
