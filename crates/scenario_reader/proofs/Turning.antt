-- A walk over the operations of a script, turn by turn.
use Rattle.std.proofs.Common.{◌≡◌, ℕ, ◌+◌, ◌<◌, ◌≤◌, true, false, List, [], ◌∷◌, ◌++◌, length, map, take, drop, get_or, Option, Some, None, refl, sym, ap, subst, ◌∙◌, arith}
use Rattle.std.specs.List.{list_all, All}
use Rattle.std.proofs.lemmas.List.{drop_more, take_more, map_push, length-map, length-take-le, get_or-map}
use Rattle.std.proofs.lemmas.List.Sums.{AllPass-from_list_all}
use Rattle.item_model.specs.declared.decl.ItemDecl.{ItemDecl}
use Rattle.txn_set.specs.declared.decl.TxnDecl.{TxnDecl}
use Rattle.step_script.specs.declared.script.ScriptOp.{ScriptOp}
use Rattle.step_script.specs.declared.script.Script.{Script}
use Rattle.step_script.specs.Scripts.{Operation, Program, operation, program_of, is_good}
use Rattle.step_script.specs.Scenarios.{IsProgramOver}
use Rattle.step_script.specs.Bodies.{bad_op, bad_op_after}
use Rattle.scenario_reader.specs.declared.walk.Walk.{Walk}
use Rattle.scenario_reader.specs.Walks.{begun, may_stand, after, IsSized}
use Rattle.scenario_reader.proofs.Standing.{StandsFor, begins, sized_begun, goes_on, sized_after, stands_same, passes_on, stops_at}

-- what holds before the operation at a place
pub record IsWalking (decls : List ItemDecl) (t : TxnDecl) (ops : List ScriptOp) (place : ℕ) (w : Walk) : Type 0 where
  pub sized : IsSized (length decls) w
  pub stands : StandsFor (length decls) t (map operation (take place ops)) w
  pub same : bad_op_after decls t (map operation (take place ops)) (map operation (drop place ops))
      ≡ bad_op decls t (map operation ops)

good_at : (n : ℕ) (ops : List ScriptOp) (place : ℕ) (op : ScriptOp) → place < length ops → op ≡ get_or ops place op
    → list_all (is_good n) (map operation ops) ≡ true → is_good n (operation op) ≡ true
good_at n ops place op lt is good =
    ap (λ (o : ScriptOp). is_good n (operation o)) is
    ∙ ap (is_good n) (sym (get_or-map operation ops place op (operation op) lt))
    ∙ AllPass-from_list_all (is_good n) (map operation ops) good place (operation op)
    (omega (arith, length-map ops operation))

rest_at : (ops : List ScriptOp) (place : ℕ) (op : ScriptOp) → place < length ops → op ≡ get_or ops place op
    → map operation (drop place ops) ≡ operation op ∷ map operation (drop (place + 1) ops)
rest_at ops place op lt is =
    ap (map operation) (drop_more ops place op lt ∙ ap (λ (o : ScriptOp). o ∷ drop (place + 1) ops) (sym is))

front_at : (ops : List ScriptOp) (place : ℕ) (op : ScriptOp) → place < length ops → op ≡ get_or ops place op
    → map operation (take (place + 1) ops) ≡ map operation (take place ops) ++ operation op ∷ []
front_at ops place op lt is =
    ap (map operation) (take_more ops place op lt ∙ ap (λ (o : ScriptOp). take place ops ++ o ∷ []) (sym is))
    ∙ map_push operation (take place ops) op

pub begins_walking : (decls : List ItemDecl) (t : TxnDecl) (ops : List ScriptOp) (w w' : Walk)
    → IsSized (length decls) w
    → w' ≡ begun w t → IsWalking decls t ops 0 w'
begins_walking decls t ops w w' sized is = subst (λ (x : Walk). IsWalking decls t ops 0 x) (sym is) (record {
  sized = sized_begun (length decls) t w sized;
  stands = begins (length decls) t w sized;
  same = refl;
})

pub rounds : (decls : List ItemDecl) (t : TxnDecl) (ops : List ScriptOp) (place : ℕ) (op : ScriptOp) (w w' : Walk)
    → IsWalking decls t ops place w → place < length ops → op ≡ get_or ops place op
    → list_all (is_good (length decls)) (map operation ops) ≡ true → may_stand decls t w (operation op) ≡ true
    → w' ≡ after w (operation op) → IsWalking decls t ops (place + 1) w'
rounds decls t ops place op w w' h lt is good may next =
    subst (λ (x : Walk). IsWalking decls t ops (place + 1) x) (sym next) (record {
      sized = sized_after (length decls) w (operation op) h.sized;
      stands = subst (λ (before : List Operation). StandsFor (length decls) t before (after w (operation op)))
          (sym (front_at ops place op lt is))
          (goes_on (length decls) t (map operation (take place ops)) (operation op) w h.sized h.stands);
      same = ap (λ (before : List Operation). bad_op_after decls t before (map operation (drop (place + 1) ops)))
          (front_at ops place op lt is)
          ∙ passes_on decls t (map operation (take place ops)) (map operation (drop (place + 1) ops)) (operation op)
          (bad_op decls t (map operation ops))
          (sym (stands_same decls t (map operation (take place ops)) w (operation op) h.stands
          (good_at (length decls) ops place op lt is good)) ∙ may)
          (ap (bad_op_after decls t (map operation (take place ops))) (sym (rest_at ops place op lt is)) ∙ h.same);
    })

pub stops : (decls : List ItemDecl) (t : TxnDecl) (ops : List ScriptOp) (place : ℕ) (op : ScriptOp) (w : Walk)
    → IsWalking decls t ops place w → place < length ops → op ≡ get_or ops place op
    → list_all (is_good (length decls)) (map operation ops) ≡ true → may_stand decls t w (operation op) ≡ false
    → Some place ≡ bad_op decls t (map operation ops)
stops decls t ops place op w h lt is good may =
    let count : length (map operation (take place ops)) ≡ place =
    length-map (take place ops) operation ∙ length-take-le place ops (omega arith) in
    ap Some (sym count)
    ∙ stops_at decls t (map operation (take place ops)) (map operation (drop (place + 1) ops)) (operation op)
    (bad_op decls t (map operation ops))
    (sym (stands_same decls t (map operation (take place ops)) w (operation op) h.stands
    (good_at (length decls) ops place op lt is good)) ∙ may)
    (ap (bad_op_after decls t (map operation (take place ops))) (sym (rest_at ops place op lt is)) ∙ h.same)

-- the script of a transaction is good
pub good_script : (n : ℕ) (scripts : List Script) (tx : ℕ) (s : Script) → tx < length scripts → s ≡ get_or scripts tx s
    → All (IsProgramOver n) (map program_of scripts) → list_all (is_good n) (program_of s).ops ≡ true
good_script n scripts tx s lt is good =
    let there : IsProgramOver n (get_or (map program_of scripts) tx (program_of s)) =
    good tx (program_of s) (omega (arith, length-map scripts program_of)) in
    let same : get_or (map program_of scripts) tx (program_of s) ≡ program_of s =
    get_or-map program_of scripts tx s (program_of s) lt ∙ ap program_of (sym is) in
    ap (λ (p : Program). list_all (is_good n) p.ops) (sym same) ∙ there.good
