use Rattle.std.proofs.Common.{◌≡◌, ◌∙◌, length, replicate, Option, None, refl, rules}
use Rattle.std.proofs.lemmas.Simd.{splat_is_map}
use Rattle.job_rows.specs.declared.row.JobRow.{JobRow}
use Rattle.job_rows.proofs.pending.nobody.Goals as goal

pub returns : goal.returns
returns c =
    let none : Option JobRow = None in
    let filled : c.resize.new.self.items ≡ replicate (length c.args.txns.now) none = search rules in
    filled ∙ splat_is_map c.args.txns.now _ none refl
