use Rattle.update_rates.proofs.Tight.{tight-unless-kept}
use Rattle.update_rates.proofs.tight_unless_kept.Goals as goal

pub returns : goal.returns
returns c = tight-unless-kept
