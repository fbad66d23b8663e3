-- A turn of several steps.
use Rattle.std.proofs.Common.{◌≡◌, ℕ, zero, suc, ◌+◌, ◌≤◌, ◌<◌, ◌∷◌, [], List, Option, None, Some, length, refl, sym, ap, subst, ◌∙◌, arith, length-append, inl, inr, ⊎_elim, if◌then◌else◌}
use Rattle.rt_base.specs.declared.ids.TxId.{TxId}
use Rattle.rt_base.specs.declared.ids.JobId.{JobId}
use Rattle.rt_base.specs.declared.operation.Op.{Op}
use Rattle.step_journal.specs.declared.entry.Entry.{Entry}
use Rattle.step_journal.specs.History.{IsLegal}
use Rattle.txn_set.specs.Set.{Set}
use Rattle.board.specs.Histories.{noted, running_of}
use Rattle.board.specs.declared.replies.StepReply.{StepReply}
use Rattle.turn_cell.specs.declared.view.View.{View}
use Rattle.turn_cell.specs.Turn.{Begins, counted, taking, released}
use Rattle.turn_cell.specs.Seats.{Standing}
use Rattle.turn_cell.proofs.Lists.{whole, longer, stand_longer, stand_note}
use Rattle.shared_plant.specs.Seats.{PlantFacts, SeatFacts, IsKept, IsSound, is_operator, facts_of, view_of}
use Rattle.shared_plant.specs.Shared.{noting_own}
use Rattle.shared_plant.specs.Answers.{turned}
use Rattle.shared_plant.proofs.Kept.{begins_long}
use Rattle.shared_plant.specs.Steps.{stepped, GoesOn, AskedAt, Asked, Through, Steps, Stepped, holding, IsHeld, OneStep}

-- what a note of one's own, or none, leaves

pub own_holds : (v : View Entry) (own : Option Entry) → (noting_own v own).holds ≡ v.holds
own_holds v None = refl
own_holds v (Some entry) = refl

pub own_seen : (v : View Entry) (own : Option Entry) → (noting_own v own).seen ≡ noted v.seen own
own_seen v None = refl
own_seen v (Some entry) = refl

pub own_counted : (v : View Entry) (own : Option Entry) → counted (noting_own v own) ≡ counted v
own_counted v None = refl
own_counted v (Some entry) = refl

-- steps of a seat that holds the turn

holding_own : (s : SeatFacts) (own : Option Entry) → noting_own (holding (view_of s)) own ≡ holding (view_of (stepped s own))
holding_own s None = refl
holding_own s (Some entry) = refl

-- what no step of a seat changes, and what it keeps
pub record GoneOn (s t : SeatFacts) : Type 0 where
  pub plant : t.plant ≡ s.plant
  pub tx : t.tx ≡ s.tx
  pub drained : t.drained ≡ s.drained
  pub base : t.base ≡ s.base
  pub begins : Begins s.seen t.seen
  pub sound : IsSound s → IsSound t

gone_none : (s : SeatFacts) → GoneOn s s
gone_none s = record { plant = refl; tx = refl; drained = refl; base = refl; begins = whole s.seen; sound = λ h. h }

gone_step : (s t : SeatFacts) (own : Option Entry) → GoneOn s t → GoneOn s (stepped t own)
gone_step s t None g = record { plant = g.plant; tx = g.tx; drained = g.drained; base = g.base; begins = g.begins; sound = g.sound }
gone_step s t (Some entry) g = record {
  plant = g.plant;
  tx = g.tx;
  drained = g.drained;
  base = g.base;
  begins = longer s.seen t.seen entry g.begins;
  sound = λ h. let k = g.sound h in (stand_note t.mine t.seen entry k.0, let few = k.1 in omega (arith, length-append t.seen (entry ∷ [])));
}

module _ {A : Type 0} (asks : A → Op → Type 0) (hears : A → Op → StepReply → A → Type 0) where
  gone_asked : (set : Set) (room : ℕ) (job : JobId) (r : StepReply) (a b : A) (s t u : SeatFacts) → GoneOn s t → Asked asks hears set room job r a b t u → GoneOn s u
  gone_asked set room job r a b s t u g k = subst (λ (x : SeatFacts). GoneOn s x) (sym k.after) (gone_step s t k.own g)

  gone_through : (set : Set) (room : ℕ) (job : JobId) (n : ℕ) (a b : A) (s t : SeatFacts) → Through asks hears set room job n a b s t → GoneOn s t
  gone_through set room job zero a b s t k = subst (λ (x : SeatFacts). GoneOn s x) (sym k.1) (gone_none s)
  gone_through set room job (suc n) a b s t (c, u, r, front, k, on) = gone_asked set room job r c b s u t (gone_through set room job n a c s u front) k

  pub gone_steps : (set : Set) (room : ℕ) (job : JobId) (most : ℕ) (a b : A) (s t : SeatFacts) → Steps asks hears set room job most a b s t → GoneOn s t
  gone_steps set room job most a b s t k =
      let front = gone_through set room job k.number a k.asker s k.seat k.through in
      ⊎_elim (λ (e : (k.number ≡ most) × (b ≡ k.asker) × (t ≡ k.seat)). subst (λ (x : SeatFacts). GoneOn s x) (sym e.2) front)
      (λ (e : (k.number < most) × ((r : StepReply) × Asked asks hears set room job r k.asker b k.seat t × (GoesOn set job r t.seen → ⊥))). gone_asked set room job e.1.0 k.asker b s k.seat t front e.1.1) k.last

  -- so many steps so far, of the seat below
  abbrev pub SoFar : Set → ℕ → ℕ → JobId → ℕ → A → A → Standing Entry → Standing Entry → Type 0
  SoFar set room first job n a b v w =
      (s : SeatFacts) → IsHeld s v → s.base ≡ first → (t : SeatFacts) × IsHeld t w × Through asks hears set room job n a b s t

  pub far_none : (set : Set) (room first : ℕ) (job : JobId) (a : A) (v : Standing Entry) → SoFar set room first job 0 a a v v
  far_none set room first job a v = λ s held base. (s, held, (refl, refl))

  asked_held : (set : Set) (room first : ℕ) (job : JobId) (on off : Type 0) (a b : A) (v w : Standing Entry) (t : SeatFacts) → IsHeld t v → t.base ≡ first → w.cell ≡ v.cell
      → (o : OneStep asks hears set room first job on off a b v.view w.view) → IsHeld (stepped t o.own) w × Asked asks hears set room job o.reply a b t (stepped t o.own)
  asked_held set room first job on off a b v w t held base cell o =
      let seen : v.view.seen ≡ t.seen = ap (λ (x : View Entry). x.seen) held.1 in (
        (cell ∙ held.0, o.view ∙ (ap (λ (x : View Entry). noting_own x o.own) held.1 ∙ holding_own t o.own)),
        record {
          own = o.own;
          at = subst (λ (k : ℕ). AskedAt asks hears set room k job t.seen o.own o.reply a b) (sym base) (subst (λ (l : List Entry). AskedAt asks hears set room first job l o.own o.reply a b) seen o.at);
          after = refl;
        },
      )

  pub far_step : (set : Set) (room first : ℕ) (job : JobId) (n : ℕ) (on off : Type 0) (a b c : A) (v w x : Standing Entry) → SoFar set room first job n a b v w → x.cell ≡ w.cell
      → (o : OneStep asks hears set room first job on off b c w.view x.view) → on → running_of set x.view.seen ≡ Some job → SoFar set room first job (n + 1) a c v x
  far_step set room first job n on off a b c v w x far cell o is_on runs =
      let more : suc n ≡ n + 1 = omega arith in
      subst (λ (m : ℕ). SoFar set room first job m a c v x) more
      (λ s held base. let f = far s held base in let t = f.0 in
      let k = asked_held set room first job on off b c w x t f.1 ((gone_through set room job n a b s t f.2).base ∙ base) cell o in
      (stepped t o.own, k.0, (b, t, o.reply, f.2, k.1, (o.on_is is_on, ap (λ (y : View Entry). running_of set y.seen) (sym k.0.1) ∙ runs))))

  pub far_ends : (set : Set) (room first : ℕ) (job : JobId) (n most : ℕ) (on off : Type 0) (a b c : A) (v w x : Standing Entry) → SoFar set room first job n a b v w → n < most → x.cell ≡ w.cell
      → (o : OneStep asks hears set room first job on off b c w.view x.view) → (GoesOn set job o.reply x.view.seen → ⊥)
      → (s : SeatFacts) → IsHeld s v → s.base ≡ first → (t : SeatFacts) × IsHeld t x × Steps asks hears set room job most a c s t
  far_ends set room first job n most on off a b c v w x far few cell o ends s held base =
      let f = far s held base in let t = f.0 in
      let k = asked_held set room first job on off b c w x t f.1 ((gone_through set room job n a b s t f.2).base ∙ base) cell o in (
        stepped t o.own,
        k.0,
        record {
          number = n;
          asker = b;
          seat = t;
          through = f.2;
          last = inr (few, (o.reply, k.1, λ g. ends (g.0, ap (λ (y : View Entry). running_of set y.seen) k.0.1 ∙ g.1)));
        },
      )

  pub far_most : (set : Set) (room first : ℕ) (job : JobId) (n most : ℕ) (a b : A) (v w : Standing Entry) → SoFar set room first job n a b v w → n ≡ most
      → (s : SeatFacts) → IsHeld s v → s.base ≡ first → (t : SeatFacts) × IsHeld t w × Steps asks hears set room job most a b s t
  far_most set room first job n most a b v w far all s held base =
      let f = far s held base in
      (f.0, f.1, record { number = n; asker = b; seat = f.0; through = f.2; last = inl (all, refl, refl) })

  -- the same step of a board of the same set, room and number of drained entries
  pub one_of : (set now_set : Set) (room now_room first now_first : ℕ) (job : JobId) (on off : Type 0) (a b : A) (v w : View Entry) → now_set ≡ set → now_room ≡ room → now_first ≡ first
      → OneStep asks hears now_set now_room now_first job on off a b v w → OneStep asks hears set room first job on off a b v w
  one_of set now_set room now_room first now_first job on off a b v w p q r o =
      subst (λ (x : Set × ℕ × ℕ). OneStep asks hears x.0 x.1 x.2 job on off a b v w) (λ i. (p i, q i, r i)) o

  -- what the call has done
  pub stepped_of : (p : PlantFacts) (set : Set) (room : ℕ) (job : JobId) (running : Option JobId) (a b : A) (f old t new : SeatFacts) (history : List Entry) (base : ℕ) → set ≡ p.set → room ≡ p.room → f ≡ old → t ≡ new
      → Begins f.seen history → f.base ≤ base → base ≤ length history → Steps asks hears set room job 64 a b (turned f history base None) t → running ≡ running_of set t.seen → IsLegal set t.seen
      → Stepped asks hears p job 64 running a b old new
  stepped_of p set room job running a b f old t new history base set_is room_is old_is new_is begins rises within steps runs legal =
      subst (λ (x : Set × ℕ × SeatFacts × SeatFacts). Stepped asks hears (record p { set = x.0; room = x.1 }) job 64 running a b x.2 x.3) (λ i. (set_is i, room_is i, old_is i, new_is i))
      (record { history = history; base = base; begins = begins; rises = rises; within = within; steps = steps; running_is = runs; legal = legal })

-- a turn begins

pub held_taken : (s t : Standing Entry) (tx : Option TxId) (front : ℕ) (history : List Entry) (base : ℕ) → IsKept s tx front → t.cell ≡ s.cell → t.view ≡ taking s.view history base → IsHeld (turned (facts_of s tx) history base None) t
held_taken s t tx front history base k cell view = (cell, view ∙ ap (λ (v : View Entry). taking v history base) k.0)

pub sound_taken : (s : Standing Entry) (tx : Option TxId) (front : ℕ) (history : List Entry) (base : ℕ) → IsKept s tx front → Begins s.view.seen history → IsSound (turned (facts_of s tx) history base None)
sound_taken s tx front history base k b = let more = begins_long s.view.seen history b in let few = k.2.1 in (stand_longer s.view.mine s.view.seen history b k.2.0, omega arith)

-- and ends

pub counted_gone : (s t : SeatFacts) (v w : Standing Entry) → IsHeld s v → IsHeld t w → GoneOn s t → counted w.view ≡ counted v.view
counted_gone s t v w p q g = ap counted q.1 ∙ ((λ i. if is_operator (g.tx i) then g.drained i else g.base i) ∙ sym (ap counted p.1))

pub given_facts : (t : SeatFacts) (w x : Standing Entry) (tx : Option TxId) → IsHeld t w → x.cell ≡ w.cell → x.view ≡ released w.view → t.tx ≡ tx → facts_of x tx ≡ t
given_facts t w x tx held cell view same =
    let c = cell ∙ held.0 in let v = view ∙ ap released held.1 in
    λ i. facts_of (record { cell = c i; view = v i }) (sym same i)

pub given_kept : (t : SeatFacts) (w x : Standing Entry) (tx : Option TxId) (front : ℕ) → IsHeld t w → x.cell ≡ w.cell → x.view ≡ released w.view → t.tx ≡ tx → IsSound t → front ≡ length w.view.seen → IsKept x tx front
given_kept t w x tx front held cell view same sound long =
    let is = given_facts t w x tx held cell view same in
    let v = view ∙ ap released held.1 in
    (v ∙ ap view_of (sym is), long ∙ sym (ap (λ (y : View Entry). length y.seen) view), subst IsSound (sym is) sound)
