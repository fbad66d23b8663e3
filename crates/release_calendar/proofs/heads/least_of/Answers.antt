use Rattle.release_calendar.proofs.Leasts.{of_eight}
use Rattle.release_calendar.proofs.heads.least_of.Goals as goal

pub returns : goal.returns
returns c =
    of_eight c.args.keys.now c.args.from c.lower.result c.lower-2.result c.lower-low.result c.lower-3.result c.lower-4.result c.lower-high.result c.lower-5.result c.requires.room
    c.lower.ensures c.lower-2.ensures c.lower-low.ensures c.lower-3.ensures c.lower-4.ensures c.lower-high.ensures c.lower-5.ensures
