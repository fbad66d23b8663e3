-- The effect on the tables is the definition's.
use Rattle.std.proofs.Common.{◌≡◌, ℕ, ◌+◌, Bool, true, false, cond, List, map, Option, None, Some, set as with_item, refl, ap, sym, ◌∙◌, get_or-set_same}
use Rattle.std.proofs.lemmas.List.{set-set}
use Rattle.std.specs.Option.{option_map}
use Rattle.rt_base.specs.declared.operation.Op.{Op}
use Rattle.rt_base.specs.declared.operation.Op.TheVariants.{Commit, Quit}
use Rattle.rt_base.specs.declared.operation.End.{End}
use Rattle.item_model.specs.Work.{items_after}
use Rattle.txn_set.specs.Set.{Set, txn_of}
use Rattle.step_journal.specs.State.{State, Row, row_of}
use Rattle.step_journal.specs.Instant.{freed}
use Rattle.step_journal.specs.Step.{row_after, end_by, given, settled, after_effect}
use Rattle.law_histories.proofs.Invariant.{in_range as row_in_range}
use Rattle.plain_core.specs.TablesSeen.{TablesSeen, tables_of}
use Rattle.plain_core.specs.Arrivals.{ended_tables}
use Rattle.plain_core.specs.Effects.{end_here, stepped, stepped_tables, installed, settled_by}
use Rattle.plain_core.proofs.Arrives.{end_is}

overrun_is : (b : Bool) (e : End) → cond b (Some e) None ≡ given b e
overrun_is true e = refl
overrun_is false e = refl

pub end_here_is : (set : Set) (s : State) (row : Row) (tick : ℕ) (op : Op)
    → end_here set.items set.together (txn_of set row.job.tx.0) row.work (row.used + 1) tick op ≡ end_by set (row_after s row op) tick op
end_here_is set s row tick Commit = refl
end_here_is set s row tick Quit = refl
end_here_is set s row tick other = overrun_is _ _

-- the tables after the job's row went on
abbrev went_on : Set → State → Row → Op → TablesSeen
went_on set s row op = tables_of set (record s { rows = with_item s.rows row.job.tx.0 (Some (row_after s row op)) })

pub stepped_is : (set : Set) (s : State) (row : Row) (op : Op) → row_of s.rows row.job.tx.0 ≡ Some row
    → stepped_tables (tables_of set s) row.job op ≡ went_on set s row op
stepped_is set s row op here =
    ap (λ (o : Option Row). record (tables_of set s) { state = record (tables_of set s).state { rows = with_item s.rows row.job.tx.0 (stepped s.items op o) } }) here

ends_at : (set : Set) (s : State) (row : Row) (op : Op) (e : End) → row_of s.rows row.job.tx.0 ≡ Some row
    → settled_by set.items (went_on set s row op) row.job (Some e) ≡ tables_of set (settled set (row_after s row op) (s.now + 1) (Some e) s)
ends_at set s row op e here =
    let x : Row = row_after s row op in
    let there : row_of (with_item s.rows row.job.tx.0 (Some x)) row.job.tx.0 ≡ Some x = get_or-set_same s.rows row.job.tx.0 (Some x) None (row_in_range s.rows row.job.tx.0 row here) in
    ap (λ (o : Option Row). ended_tables (record (went_on set s row op) { state = record (went_on set s row op).state { items = installed set.items e o s.items } }) row.job e) there
    ∙ (ap (λ (rows : List (Option Row)). record (ended_tables (tables_of set (record s { items = items_after set.items x.work row.release e s.items })) row.job e) {
      state = record (ended_tables (tables_of set (record s { items = items_after set.items x.work row.release e s.items })) row.job e).state { rows = map (option_map (freed row.job)) rows };
    }) (set-set s.rows row.job.tx.0 (Some x) None)
    ∙ sym (end_is set x e (s.now + 1) (record s { items = items_after set.items x.work row.release e s.items })))

settles_at : (set : Set) (s : State) (row : Row) (op : Op) (o : Option End) → row_of s.rows row.job.tx.0 ≡ Some row
    → settled_by set.items (went_on set s row op) row.job o ≡ tables_of set (settled set (row_after s row op) (s.now + 1) o s)
settles_at set s row op None here = refl
settles_at set s row op (Some e) here = ends_at set s row op e here

-- the step's effect, by the end that the job's row meets
pub effect_is : (set : Set) (s : State) (row : Row) (op : Op) → row_of s.rows row.job.tx.0 ≡ Some row
    → settled_by set.items (stepped_tables (tables_of set s) row.job op) row.job (end_here set.items set.together (txn_of set row.job.tx.0) row.work (row.used + 1) (s.now + 1) op)
    ≡ tables_of set (after_effect set s row op)
unfolding after_effect
effect_is set s row op here =
    ap (λ (t : TablesSeen). settled_by set.items t row.job (end_here set.items set.together (txn_of set row.job.tx.0) row.work (row.used + 1) (s.now + 1) op)) (stepped_is set s row op here)
    ∙ (ap (settled_by set.items (went_on set s row op) row.job) (end_here_is set s row (s.now + 1) op)
    ∙ settles_at set s row op (end_by set (row_after s row op) (s.now + 1) op) here)
