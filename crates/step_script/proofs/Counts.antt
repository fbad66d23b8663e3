-- Jobs and ticks of one transaction.
use Rattle.std.proofs.Common.{◌≡◌, ℕ, zero, suc, ◌<◌, ◌≤◌, List, [], ◌∷◌, length, get_or, ap, ◌∙◌, arith, zero-add}
use Rattle.std.proofs.lemmas.List.FromFn.{get_or-map-range_with_len}
use Rattle.txn_set.specs.declared.decl.TxnDecl.{TxnDecl}
use Rattle.txn_set.specs.Set.{periodic_release}
use Rattle.step_script.specs.declared.releases.Releases.{Releases}
use Rattle.step_script.specs.declared.releases.Releases.TheVariants.{Jobs}
use Rattle.step_script.specs.Releases.{jobs_of, total_jobs, release_at}

-- those of one transaction are among all
pub jobs_at : (rs : List Releases) (tx : ℕ) (d : Releases) → tx < length rs → jobs_of (get_or rs tx d) ≤ total_jobs rs
jobs_at [] tx d lt = absurd (omega arith)
jobs_at (r ∷ rs) zero d lt = omega arith
jobs_at (r ∷ rs) (suc tx) d lt = omega (arith, jobs_at rs tx d (omega arith))

-- a job's tick is the periodic release of its number
pub periodic : (t : TxnDecl) (n index : ℕ) → index < n → release_at t (Jobs n) index ≡ periodic_release t index
periodic t n index lt = get_or-map-range_with_len (λ k. periodic_release t k) 0 n index index 0 lt (zero-add index)

-- at most as many as all, for releases that were looked up
pub few_at : (rs all : List Releases) (tx : ℕ) (r : Releases) → rs ≡ all → tx < length all → r ≡ get_or rs tx r
    → total_jobs all ≤ 65536 → jobs_of r ≤ 65536
few_at rs all tx r same lt is few =
    let one = ap jobs_of is ∙ ap (λ (xs : List Releases). jobs_of (get_or xs tx r)) same in
    omega (arith, one, jobs_at all tx r lt)
