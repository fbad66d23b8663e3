use Rattle.c_forms.proofs.MarginsBack.{margins_back}
use Rattle.c_forms.proofs.margin_laws.margins_lose_nothing.Goals as goal

pub returns : goal.returns
returns c = margins_back
