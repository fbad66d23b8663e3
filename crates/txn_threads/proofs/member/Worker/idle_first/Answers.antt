use Rattle.std.proofs.Common.{◌<◌, length, refl, rules}
use Rattle.txn_threads.proofs.Rounding.{sit_at, tried_ran, tries_none, tries_first}
use Rattle.txn_threads.proofs.member.Worker.idle_first.Goals as goal

pub returns-then-is_empty : goal.returns-then-is_empty
returns-then-is_empty g c = tries_none _ c.requires

pub idle-requires : goal.idle-requires
idle-requires g c = let some : 0 < length c.args.self.now.members.items = search rules in sit_at _ 0 c.requires some c.index_mut-member.ensures.value

pub returns : goal.returns
returns g c = let some : 0 < length c.args.self.now.members.items = search rules in tries_first 0 c.requires some c.index_mut-member.ensures.value (tried_ran _ c.idle.ensures) refl refl
