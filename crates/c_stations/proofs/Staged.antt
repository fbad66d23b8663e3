-- Of calls that were answered Ok.
use Rattle.std.proofs.Common.{Result, Ok, Err, OnOk}

pub on_ok : {T E A B C : Type 0} (r : Result T E) → OnOk r A → OnOk r B → (A → B → C) → OnOk r C
on_ok (Ok t) a b leads = leads a b
on_ok (Err e) a b leads = tt
