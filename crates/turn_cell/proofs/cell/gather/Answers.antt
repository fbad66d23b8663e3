use Rattle.std.proofs.Common.{◌≡◌, List, [], ◌∷◌, ◌++◌, map, length, ap, sym, ◌∙◌, subst, arith, append_assoc}
use Rattle.std.specs.Option.{option_to_list}
use Rattle.turn_cell.specs.declared.view.View.{View}
use Rattle.turn_cell.specs.Turn.{joined}
use Rattle.turn_cell.specs.Seats.{Gathered, slots_of}
use Rattle.turn_cell.proofs.Lists.{popped_views, popped_last, popped_rest}
use Rattle.turn_cell.proofs.Ends.{gathered_one, gathered_more}
use Rattle.turn_cell.proofs.cell.gather.Goals as goal

pub loop-next-init : goal.loop-next-init
loop-next-init g c = let old : List g.row.S.Denot = c.args.seats.items in let new : List g.row.S.Denot = c.pop.new.self.items in let x = c.unwrap.result in
    let e : old ≡ new ++ x ∷ [] = c.pop.ensures.items ∙ ap (λ o. new ++ option_to_list o) c.unwrap.ensures in
    let mine = c.requires.seats (length new) x (popped_last old new x e) in
    let is = c.inner-all.ensures in let s = c.inner-all.result in let r = is.2 in (
      is.0 ∙ mine.0,
      (
        (g.S.HasSeat.standing x).view ∷ [],
        popped_views (λ s. (g.S.HasSeat.standing s).view) old new x e,
        subst (λ v. Gathered (v ∷ []) s.me.0) is.1 (gathered_one s.me.0 r.0 (ap (λ (v : View g.row.T-Note.Denot). v.holds) is.1 ∙ mine.1) r.1 r.3),
      ),
      (λ k y at. c.requires.seats k y (popped_rest old new x y k e at)),
    )

pub glue-requires-clause-cell : goal.glue-requires-clause-cell
glue-requires-clause-cell g c = let old : List g.row.S.Denot = c.loop-next.seats.items in let new : List g.row.S.Denot = c.pop-in-loop-next.new.self.items in let x = c.in-Some.next in
    let i = c.loop-next.invariant in let e : old ≡ new ++ x ∷ [] = c.in-Some.ensures.items in
    let mine = i.2 (length new) x (popped_last old new x e) in let is = c.inner.ensures in let r = is.2 in
    ((i.0, c.requires.cell.0, c.requires.cell.1), is.0 ∙ mine.0, r.2 ∙ ap slots_of (ap (λ (v : View g.row.T-Note.Denot). v.holds) is.1 ∙ mine.1))

pub glue-requires-clause-idle : goal.glue-requires-clause-idle
glue-requires-clause-idle g c = let old : List g.row.S.Denot = c.loop-next.seats.items in let new : List g.row.S.Denot = c.pop-in-loop-next.new.self.items in let x = c.in-Some.next in
    let i = c.loop-next.invariant in let e : old ≡ new ++ x ∷ [] = c.in-Some.ensures.items in
    let mine = i.2 (length new) x (popped_last old new x e) in let is = c.inner.ensures in
    (i.1.2.begun, i.1.2.idle, ap (λ (v : View g.row.T-Note.Denot). v.holds) is.1 ∙ mine.1)

pub glue-requires-clause-heavy : goal.glue-requires-clause-heavy
glue-requires-clause-heavy g c = let i = c.loop-next.invariant.1.2 in let any = i.any in let weighs = i.weighs in omega arith

pub loop-next-preserved : goal.loop-next-preserved
loop-next-preserved g c = let old : List g.row.S.Denot = c.loop-next.seats.items in let new : List g.row.S.Denot = c.pop-in-loop-next.new.self.items in let x = c.in-Some.next in
    let i = c.loop-next.invariant in let e : old ≡ new ++ x ∷ [] = c.in-Some.ensures.items in
    let is = c.inner.ensures in let s = c.inner.result in (
      c.glue.ensures.cell.0 ∙ i.0,
      (
        (g.S.HasSeat.standing x).view ∷ i.1.0,
        i.1.1 ∙ (ap (λ l. l ++ i.1.0) (popped_views (λ s. (g.S.HasSeat.standing s).view) old new x e) ∙ append_assoc (map (λ s. (g.S.HasSeat.standing s).view) new) ((g.S.HasSeat.standing x).view ∷ []) i.1.0),
        subst (λ m. Gathered ((g.S.HasSeat.standing x).view ∷ i.1.0) m.0) (sym c.glue.ensures.view) (subst (λ v. Gathered (v ∷ i.1.0) (joined c.loop-next.all.me.0 s.me.0)) is.1 (gathered_more i.1.0 c.loop-next.all.me.0 s.me.0 i.1.2 is.2.1 is.2.3)),
      ),
      (λ k y at. i.2 k y (popped_rest old new x y k e at)),
    )
