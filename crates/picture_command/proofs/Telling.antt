-- What the top call did from what it was answered.
use Rattle.std.proofs.Common.{ℕ, ◌≤◌, Bool, List, length, Option, Some, sym, subst}
use Rattle.std.proofs.lemmas.Bool.{le-ltb}
use Rattle.io_edge.specs.declared.status.Status.{Status}
use Rattle.picture_command.specs.declared.wanted.Wanted.{Wanted}
use Rattle.picture_command.specs.Answers.{PictureReply, InputReply, report_limit, TakesAll, IsAnswer}

-- an input within the limit is judged
pub judged : (wanted : Wanted) (old new : Option (List ℕ)) (input : List ℕ) (status : Status) (text : List ℕ)
    → TakesAll old new input → length input ≤ report_limit → PictureReply wanted input status text
    → IsAnswer (Some wanted) old new status text
judged wanted old new input status text took short h =
    record {
      input = input;
      took = took;
      reply = subst (λ (b : Bool). InputReply (PictureReply wanted input) b status text) (sym (le-ltb report_limit (length input) short)) h;
    }
