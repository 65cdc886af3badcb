-- What an actor's moves count is paid: by the calls that it begins, and by the exchanges that others win.
use Rattle.std.proofs.Common.{◌≡◌, ◌≢◌, ℕ, ◌+◌, ◌-◌, ◌*◌, ◌≤◌, Bool, true, false, nat_eq, if◌then◌else◌, List, [], ◌∷◌, length, Option, Some, None}
use Rattle.std.proofs.Common.{IfSome, refl, sym, ap, ◌∙◌, subst, arith, ◌⊎◌, inl, inr, mul-add}
use Rattle.std.proofs.lemmas.Bool.{eq-eqb, ne_eqb}
use Rattle.std.proofs.lemmas.List.Sums.{sum_by-cons}
use Rattle.step_machine.specs.Below.{Kind, NonBlocking, Line, Op, Enq, Deq, Shut, E2, F1, Held, Reply, Setup, Actor, Outcome, Shared, performed, found, action, outcome, gives_up, begun, from_pocket}
use Rattle.step_machine.specs.declared.actors.Move.TheVariants.{Begin, Step, Give}
use Rattle.step_machine.specs.Machine.{World, idle, opening, actor_of, rested, with_actor, entry_or, after_outcome, stepped, AnyMove, made, Rest, next_any, run, run_on, IsSized, IsReached}
use Rattle.step_machine.specs.Solo.{most_steps}
use Rattle.step_machine.specs.NonBlocking.{OfNonBlockingWorlds}
use Rattle.step_machine.proofs.AnyMoves.{after_move}
use Rattle.step_machine.proofs.Reached.{actor_stands, if_some, some_of, reached_next, setup-next_any}
use Rattle.step_machine.proofs.StampsLists.{same_or_not}
use Rattle.step_machine.proofs.StampsMoves.{idle_got}
use Rattle.step_machine.proofs.CompletionSteps.{actor_same, actor_other}
use Rattle.step_machine.specs.Prices.{Prices, if_so, by_due, of_pocket, call_steps, failed_turns}
use Rattle.step_machine.specs.Amounts.{tail_lags, own, amount_at, failed, counted, toll}
use Rattle.step_machine.specs.Pairs.{Stage, Resting, Taking, Popping, stage, Won, Nothing, Node, Link, Pop, dues, price}
use Rattle.progress.specs.Moves.{total, total_on}
use Rattle.progress.specs.Paid.{begun_by, calls_of, taken_by, at_line_of, step_of, fails_by, costs, StepsArePaid, FailedTurnsArePaid, StepsOfACallArePaid, FailedTurnsOfACallArePaid}
use Rattle.step_machine.proofs.Others.{if_so_most, for_tail}
use Rattle.step_machine.proofs.Mover.{IsEnough, Lowers, step_lowers, give_lowers}
use Rattle.step_machine.proofs.Alone.{entry_left, call_enough, begun_most}

-- an exchange costs each other actor no more than its price
dues_most : (p : Prices) → IsEnough p → (won : Won) (z : Stage) → dues p won z ≤ price p won
dues_most p enough Nothing z = omega arith
dues_most p enough Node Taking = enough.node
dues_most p enough Node _ = omega (arith, enough.node)
dues_most p enough Link Taking = omega (arith, enough.link)
dues_most p enough Link _ = omega (arith, enough.link, enough.idle)
dues_most p enough Pop Popping = enough.pop
dues_most p enough Pop _ = omega arith

-- a count of an actor's own moves by prices that keep nothing, and what a call has at most where it begins
pub record Tally (p : Prices) (me : ℕ) (counts : World → AnyMove → ℕ) (most : Op → ℕ) : Type 0 where
  pub enough : IsEnough p
  pub no_idle : p.idle ≡ 0
  pub no_kept : p.kept ≡ 0
  pub step : (w : World) (you : ℕ) (a : Actor) (l : Line) → actor_of w you ≡ Some a → a.line ≡ Some l → counts w (made (Step you)) ≤ (if nat_eq you me then counted p w.shared a l else 0)
  pub gave_up : (w : World) (you : ℕ) → counts w (made (Give you)) ≤ (if nat_eq you me then p.step else 0)
  pub began : (w : World) (you : ℕ) (op : Op) → counts w (made (Begin you op)) ≡ 0
  pub at_rest : (w : World) (you : ℕ) → counts w (Rest you) ≡ 0
  pub begins : (s : Setup) (m : Shared) (kind : Kind) (you : ℕ) (op : Op) (a : Actor) → kind ≡ NonBlocking → amount_at p s m (begun kind you op a) (begun kind you op a).line ≤ most op

module _ (p : Prices) (me : ℕ) (counts : World → AnyMove → ℕ) (most : Op → ℕ) (each : ℕ) (t : Tally p me counts most) (all : (op : Op) → most op ≤ each) where
  -- what the actor has before it, where it is there
  abbrev has_of : Setup → Shared → Option Actor → ℕ
  has_of s m None = 0
  has_of s m (Some a) = amount_at p s m a a.line

  abbrev has : World → ℕ
  has w = has_of w.setup w.shared (actor_of w me)

  -- a move is paid
  record IsPaid (w : World) (m : AnyMove) (v : World) : Type 0 where
    paid : counts w m + has v ≤ has w + each * begun_by me m + costs p me w m

  nothing : (s : Setup) (m : Shared) (a : Actor) → amount_at p s m a None ≡ 0
  nothing s m a = omega (arith, of_none a.pocket, if_so_most (tail_lags s m) p.idle, t.no_idle)
    where
      of_none : (q : Option Held) → of_pocket p q ≡ 0
      of_none None = refl
      of_none (Some held) = t.no_kept

  module _ (w : World) (r : IsReached w) (e : w.setup.kind ≡ NonBlocking) (you : ℕ) (a : Actor) (is : actor_of w you ≡ Some a) where
    -- another actor after this one has another state
    other : (b : Actor) → you ≢ me → actor_of (with_actor w you b) me ≡ actor_of w me
    other b d = actor_other w you me b (actor_stands w you a is).0 (λ q. d (sym q))

    yes : (x y : ℕ) → you ≡ me → (if nat_eq you me then x else y) ≡ x
    yes x y q = ap (λ b. if b then x else y) (eq-eqb you me q)

    no : (x y : ℕ) → you ≢ me → (if nat_eq you me then x else y) ≡ y
    no x y d = ap (λ b. if b then x else y) (ne_eqb you me d)

    -- what the actor has rises by the price at most
    rises : (m' : Shared) (x : Stage) (n k toll : ℕ) (o : Outcome) (f : Lowers p w.setup w.shared m' x n k toll o) (c : Option Actor) → has_of w.setup m' c ≤ has_of w.setup w.shared c + price p f.won
    rises m' x n k toll o f None = omega arith
    rises m' x n k toll o f (Some c) = go c.line
      where
        go : (j : Option Line) → amount_at p w.setup m' c j ≤ amount_at p w.setup w.shared c j + price p f.won
        go None = omega (arith, f.idle, dues_most p t.enough f.won Resting)
        go (Some j) = omega (arith, f.others c j, dues_most p t.enough f.won (stage c.due j))

    -- what this actor has, before and after
    before : (l : Line) → a.line ≡ Some l → you ≡ me → has w ≡ amount_at p w.setup w.shared a (Some l)
    before l at q = ap (λ j. has_of w.setup w.shared (actor_of w j)) (sym q) ∙ ap (has_of w.setup w.shared) is ∙ ap (λ j. amount_at p w.setup w.shared a j) at

    after : (m' : Shared) (o : Outcome) → you ≡ me → has_of w.setup m' (actor_of (after_outcome w you a m' o) me) ≡ amount_at p w.setup m' o.actor o.actor.line
    after m' o q =
        ap (λ j. has_of w.setup m' (actor_of (after_outcome w you a m' o) j)) (sym q)
        ∙ ap (has_of w.setup m') (actor_same w you a (record o.actor { entry = Some (entry_or a.entry (length w.operations)) }) is)
        ∙ entry_left p w.setup m' o.actor (Some (entry_or a.entry (length w.operations))) o.actor.line

    step_paid : (l : Line) → a.line ≡ Some l → (you ≡ me) ⊎ (you ≢ me) → IsPaid w (made (Step you)) (stepped w you a l)
    step_paid l at (inl q) =
        let f = step_lowers p t.enough w r e you a l is at in
        let m' : Shared = performed (action w.setup you a l) w.shared in
        let o : Outcome = outcome w.setup (w.steps + 1) you a l (found (action w.setup you a l) w.shared) in
        record { paid = omega (arith, t.step w you a l is at, yes (counted p w.shared a l) 0 q, f.mine, before l at q, after m' o q) }
    step_paid l at (inr d) =
        let f = step_lowers p t.enough w r e you a l is at in
        let m' : Shared = performed (action w.setup you a l) w.shared in
        let same : has (stepped w you a l) ≡ has_of w.setup m' (actor_of w me) = ap (has_of w.setup m') (other _ d) in
        let toll_is : step_of (toll p) w.shared (actor_of w you) ≡ toll p w.shared a l = ap (step_of (toll p) w.shared) is ∙ ap (at_line_of (toll p) w.shared a) at in
        record {
          paid = omega (
            arith,
            t.step w you a l is at,
            no (counted p w.shared a l) 0 d,
            same,
            rises _ _ _ _ _ _ f (actor_of w me),
            f.fair,
            toll_is,
            no 0 (step_of (toll p) w.shared (actor_of w you)) d,
          );
        }

    give_paid : (l : Line) (o : Outcome) → a.line ≡ Some l → gives_up (w.steps + 1) a l ≡ Some o → (you ≡ me) ⊎ (you ≢ me) → IsPaid w (made (Give you)) (after_outcome w you a w.shared o)
    give_paid l o at given (inl q) =
        let f = some_of (Lowers p w.setup w.shared w.shared (stage a.due l) (amount_at p w.setup w.shared a (Some l)) p.step 0)
        (gives_up (w.steps + 1) a l) o given (give_lowers p t.enough w r e you a l is at) in
        record { paid = omega (arith, t.gave_up w you, yes p.step 0 q, f.mine, before l at q, after w.shared o q) }
    give_paid l o at given (inr d) =
        let same : has (after_outcome w you a w.shared o) ≡ has w = ap (has_of w.setup w.shared) (other _ d) in
        record { paid = omega (arith, t.gave_up w you, same, no p.step 0 d) }

    begin_paid : (op : Op) → (you ≡ me) ⊎ (you ≢ me) → IsPaid w (made (Begin you op)) (with_actor w you (begun w.setup.kind you op a))
    begin_paid op (inl q) =
        let b : Actor = begun w.setup.kind you op a in
        let now : has (with_actor w you b) ≡ amount_at p w.setup w.shared b b.line =
        ap (λ j. has_of w.setup w.shared (actor_of (with_actor w you b) j)) (sym q) ∙ ap (has_of w.setup w.shared) (actor_same w you a b is) in
        record { paid = omega (arith, t.began w you op, now, t.begins w.setup w.shared w.setup.kind you op a e, all op, ap (λ k. each * k) (yes 1 0 q)) }
    begin_paid op (inr d) = record { paid = omega (arith, t.began w you op, ap (has_of w.setup w.shared) (other (begun w.setup.kind you op a) d)) }

    rest_paid : (you ≡ me) ⊎ (you ≢ me) → IsPaid w (Rest you) (with_actor w you (rested a))
    rest_paid (inl q) =
        let now : has (with_actor w you (rested a)) ≡ amount_at p w.setup w.shared (rested a) None =
        ap (λ j. has_of w.setup w.shared (actor_of (with_actor w you (rested a)) j)) (sym q) ∙ ap (has_of w.setup w.shared)
        (actor_same w you a (rested a) is) in
        record { paid = omega (arith, t.at_rest w you, now, nothing w.setup w.shared (rested a)) }
    rest_paid (inr d) = record { paid = omega (arith, t.at_rest w you, ap (has_of w.setup w.shared) (other (rested a) d)) }

  next_paid : (w : World) → IsReached w → w.setup.kind ≡ NonBlocking → (m : AnyMove) → IfSome (next_any w m) (IsPaid w m)
  next_paid w r e =
      after_move w (IsPaid w)
      (record {
        began = λ you op a is at call. begin_paid w r e you a is op (same_or_not you me);
        step = λ you a l is at. step_paid w r e you a is l at (same_or_not you me);
        gave_up = λ you a l o is at given. give_paid w r e you a is l o at given (same_or_not you me);
        at_rest = λ you a l is at may. rest_paid w r e you a is (same_or_not you me);
      })

  -- the moves of a list are
  abbrev ArePaid : List AnyMove → (u v : World) → Type 0
  ArePaid ms u v = total counts ms u + has v ≤ has u + each * calls_of me ms + total (costs p me) ms u

  run_paid : (ms : List AnyMove) (w : World) → IsReached w → w.setup.kind ≡ NonBlocking → IfSome (run ms w) (ArePaid ms w)
  run_paid [] w r e = omega arith
  run_paid (m ∷ ms) w r e = go (run_paid ms) (next_any w m) refl
    where
      go : ((u : World) → IsReached u → u.setup.kind ≡ NonBlocking → IfSome (run ms u) (ArePaid ms u)) → (o : Option World) → next_any w m ≡ o
          → IfSome (run_on (run ms) o) (λ v. counts w m + total_on (total counts ms) o + has v ≤ has w + each * calls_of me (m ∷ ms) +
          (costs p me w m + total_on (total (costs p me) ms) o))
      go later None f = tt
      go later (Some u) f =
          if_some (λ v. counts w m + total counts ms u + has v ≤ has w + each * calls_of me (m ∷ ms) + (costs p me w m + total (costs p me) ms u)) (run ms u)
          (λ v g. let d : IsPaid w m u = some_of (IsPaid w m) (next_any w m) u f (next_paid w r e m) in
          let rest : ArePaid ms u v = some_of (ArePaid ms u) (run ms u) v g (later u (reached_next w u m r f) (ap (λ (s : Setup). s.kind) (setup-next_any w u m f) ∙ e)) in
          let more : each * calls_of me (m ∷ ms) ≡ each * begun_by me m + each * calls_of me ms = ap (λ k. each * k) (sum_by-cons (begun_by me) m ms) ∙ mul-add each (begun_by me m) (calls_of me ms) in
          omega (arith, d.paid, rest, more))

  -- at the start no actor has anything before it
  none_has : (s : Setup) (n : ℕ) (o : Option Actor) → actor_of (opening s n) me ≡ o → has_of s (opening s n).shared o ≡ 0
  none_has s n None is = refl
  none_has s n (Some a) is = subst (λ (x : Actor). amount_at p s (opening s n).shared x x.line ≡ 0) (idle_got n (me - 1) a (actor_stands (opening s n) me a is).1) (nothing s (opening s n).shared idle)

  -- from the start on, and from a begin on
  pub opening_paid : (s : Setup) (n : ℕ) (moves : List AnyMove) (v : World) → IsSized s n → s.kind ≡ NonBlocking → run moves (opening s n) ≡ Some v
      → total counts moves (opening s n) ≤ each * calls_of me moves + total (costs p me) moves (opening s n)
  opening_paid s n moves v sized e led =
      let d : ArePaid moves (opening s n) v = some_of (ArePaid moves (opening s n)) (run moves (opening s n)) v led
      (run_paid moves (opening s n) (record { actors = n; moves = []; sized = sized; led = refl }) e) in
      omega (arith, d, none_has s n (actor_of (opening s n) me) refl)

  -- what a call has before it where it begins
  abbrev BegunHas : AnyMove → World → Type 0
  BegunHas (made (Begin you op)) v = v.setup.kind ≡ NonBlocking → you ≡ me → has v ≤ most op
  BegunHas _ v = Unit {0}

  begun_has : (w : World) (m : AnyMove) → IfSome (next_any w m) (BegunHas m)
  begun_has w =
      after_move w BegunHas
      (record {
        began = λ you op a is at call e q. omega (
          arith,
          ap (λ j. has_of w.setup w.shared
              (actor_of (with_actor w you (begun w.setup.kind you op a)) j)) (sym q),
          ap (has_of w.setup w.shared) (actor_same w you a (begun w.setup.kind you op a) is),
          t.begins w.setup w.shared w.setup.kind you op a e,
        );
        step = λ you a l is at. tt;
        gave_up = λ you a l o is at given. tt;
        at_rest = λ you a l is at may. tt;
      })

  pub call_paid : (w : World) → IsReached w → w.setup.kind ≡ NonBlocking → (op : Op) (v : World) → next_any w (made (Begin me op)) ≡ Some v
      → (ms : List AnyMove) (u : World) → run ms v ≡ Some u → calls_of me ms ≡ 0 → total counts ms v ≤ most op + total (costs p me) ms v
  call_paid w r e op v began ms u led none =
      let runs : v.setup.kind ≡ NonBlocking = ap (λ (s : Setup). s.kind) (setup-next_any w v (made (Begin me op)) began) ∙ e in
      let first : has v ≤ most op = some_of (BegunHas (made (Begin me op))) (next_any w (made (Begin me op))) v began (begun_has w (made (Begin me op))) runs refl in
      let d : ArePaid ms v u = some_of (ArePaid ms v) (run ms v) u led (run_paid ms v (reached_next w v (made (Begin me op)) r began) runs) in
      omega (arith, first, d, ap (λ k. each * k) none)

-- the tally of steps
steps_tally : (me : ℕ) → Tally call_steps me (taken_by me) most_steps
steps_tally me = record {
  enough = call_enough;
  no_idle = refl;
  no_kept = refl;
  step = λ w you a l is at. branch (nat_eq you me) _ _ (omega arith);
  gave_up = λ w you. omega arith;
  began = λ w you op. refl;
  at_rest = λ w you. refl;
  begins = λ s m kind you op a e. begun_most s m kind you op a e;
}
  where
    branch : (b : Bool) (x y : ℕ) → x ≤ y → (if b then x else 0) ≤ (if b then y else 0)
    branch true x y h = h
    branch false x y h = omega arith

few_most : (op : Op) → most_steps op ≤ 17
few_most (Enq body) = omega arith
few_most Deq = omega arith
few_most Shut = omega arith

-- the tally of turns that fail
turns_enough : IsEnough failed_turns
turns_enough = record { node = omega arith; link = omega arith; pop = omega arith; idle = omega arith; kept = omega arith }

nothing_kept : (q : Option Held) → of_pocket failed_turns q ≡ 0
nothing_kept None = refl
nothing_kept (Some held) = refl

module _ (s : Setup) (m : Shared) where
  pocket_turns : (l : Line) (q : Option Held) (b : Actor) → amount_at failed_turns s m b b.line ≤ 1 → ((x : Actor) → own failed_turns s m x l ≤ 1)
      → amount_at failed_turns s m (from_pocket l q b) (from_pocket l q b).line ≤ 1
  pocket_turns l None b h g = h
  pocket_turns l (Some held) b h g = omega (arith, g (from_pocket l (Some held) b))

  first_turns : (due : Option Reply) (b : Bool) → by_due due 0 0 + for_tail failed_turns due b ≤ 1
  first_turns None true = omega arith
  first_turns None false = omega arith
  first_turns (Some reply) true = omega arith
  first_turns (Some reply) false = omega arith

  begun_turns : (kind : Kind) (you : ℕ) (op : Op) (a : Actor) → kind ≡ NonBlocking → amount_at failed_turns s m (begun kind you op a) (begun kind you op a).line ≤ 1
  begun_turns kind you op a e = subst (λ k. amount_at failed_turns s m (begun k you op a) (begun k you op a).line ≤ 1) (sym e) (go op (λ k. if_so_most (tail_lags s m) k))
    where
      go : (op : Op) → ((k : ℕ) → if_so (tail_lags s m) k ≤ k) → amount_at failed_turns s m (begun NonBlocking you op a) (begun NonBlocking you op a).line ≤ 1
      go (Enq body) u = pocket_turns E2 a.pocket _ (omega (arith, u 1, nothing_kept a.pocket)) (λ x. omega (arith, u 1))
      go Deq u = pocket_turns F1 a.pocket _ (omega (arith, u 1, nothing_kept a.pocket)) (λ x. omega (arith, first_turns x.due (tail_lags s m)))
      go Shut u = omega (arith, u 1, nothing_kept a.pocket)

turns_tally : (me : ℕ) → Tally failed_turns me (fails_by me) (λ op. 1)
turns_tally me = record {
  enough = turns_enough;
  no_idle = refl;
  no_kept = refl;
  step = λ w you a l is at. branch (nat_eq you me) _ _ (omega (arith, ap (step_of (failed failed_turns) w.shared) is, ap (at_line_of (failed failed_turns) w.shared a) at));
  gave_up = λ w you. omega arith;
  began = λ w you op. refl;
  at_rest = λ w you. refl;
  begins = λ s m kind you op a e. begun_turns s m kind you op a e;
}
  where
    branch : (b : Bool) (x y : ℕ) → x ≤ y → (if b then x else 0) ≤ (if b then y else 0)
    branch true x y h = h
    branch false x y h = omega arith

pub steps_are_paid : StepsArePaid 17
steps_are_paid s n moves sized e = if_some (λ v. (me : ℕ) → total (taken_by me) moves (opening s n) ≤ 17 * calls_of me moves + total
    (costs call_steps me) moves (opening s n)) (run moves (opening s n)) (λ v led me. opening_paid call_steps me (taken_by me) most_steps 17
    (steps_tally me) few_most s n moves v sized e led)

pub failed_turns_are_paid : FailedTurnsArePaid 1
failed_turns_are_paid s n moves sized e = if_some (λ v. (me : ℕ) → total (fails_by me) moves (opening s n) ≤ 1 * calls_of me moves + total
    (costs failed_turns me) moves (opening s n)) (run moves (opening s n)) (λ v led me. opening_paid failed_turns me (fails_by me) (λ op. 1) 1
    (turns_tally me) (λ op. omega arith) s n moves v sized e led)

pub steps_of_a_call_are_paid : OfNonBlockingWorlds StepsOfACallArePaid
steps_of_a_call_are_paid w r e me op v began ms u led none = call_paid call_steps me (taken_by me) most_steps 17 (steps_tally me) few_most w r e op v began ms u led none

pub failed_turns_of_a_call_are_paid : OfNonBlockingWorlds (FailedTurnsOfACallArePaid 1)
failed_turns_of_a_call_are_paid w r e me op v began ms u led none = call_paid failed_turns me (fails_by me) (λ op. 1) 1 (turns_tally me) (λ op. omega arith) w r e op v began ms u led none
