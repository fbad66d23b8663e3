-- What can be written.
use Rattle.std.specs.Prelude.{◌≡◌, ◌≤◌, ◌<◌, ℕ, List, length, true}
use Rattle.std.specs.List.{All, list_all}
use Rattle.txn_set.specs.declared.decl.TxnDecl.{TxnDecl}
use Rattle.step_script.specs.Scripts.{Program, is_good}
use Rattle.step_script.specs.Bodies.{steps_of}
use Rattle.step_script.specs.declared.releases.Releases.{Releases}

-- transactions with as many names, scripts and releases, over so many item names: their items have names, and their
-- scripts are good and of 10,000 operations at most
pub record AreWritable (names : List (List ℕ)) (ns : List (List ℕ)) (ts : List TxnDecl) (ps : List Program)
    (rs : List Releases)
    : Type 0 where
  pub named : length ns ≡ length ts
  pub scripted : length ps ≡ length ts
  pub released : length rs ≡ length ts
  pub reads : All (λ t. All (λ i. i.0 < length names) t.reads) ts
  pub writes : All (λ t. All (λ i. i.0 < length names) t.writes) ts
  pub good : All (λ p. list_all (is_good (length names)) p.ops ≡ true) ps
  pub short : All (λ p. steps_of p.ops ≤ 10000) ps
