-- What each step of the two-lock queue does with what its actor has before it: it lowers it by 1 at least, unless it finds
-- a lock held, and by what it costs each other actor.
use Rattle.std.proofs.Common.{◌≡◌, ℕ, ◌+◌, ◌≤◌, nat_eq, nat_lt, Option, Some, None, IfSome, refl, sym, ap, subst, arith}
use Rattle.step_machine.specs.Below.{Ref, null, ref, shut_ref, is_null, is_shut, same_ref, Kind, TwoLock, Line, N1, N2, N3, N4, N5, F1, F2, F3, A1}
use Rattle.step_machine.specs.Below.{A2, A3, A4, A5, A6, A7, B1, B2, B3, B4, B5, B6, S1, S6, S7, S8, S9, E5, D2, section_of, Reply, Done, Value}
use Rattle.step_machine.specs.Below.{Empty, Refused, Actor, Outcome, Shared, put, performed, found, Fresh, Free, Tail, Head, Tail_lock, Head_lock}
use Rattle.step_machine.specs.Below.{Next, action, outcome, raised, goes, sets_aside, fills_hand, empties_hand, with_node, dequeues, freed, unlocked}
use Rattle.step_machine.specs.Below.{left, left_with_node, gives_up, busy_or, to_pocket}
use Rattle.line_table.specs.declared.lines.Section.{Section}
use Rattle.line_table.specs.declared.lines.Section.TheVariants.{NewNode, Free as FreeLines, LockedDequeue}
use Rattle.step_machine.specs.Machine.{World, actor_of, IsReached}
use Rattle.step_machine.specs.ProgramCounters.{IsRunBy}
use Rattle.step_machine.proofs.Choices.{both, tried}
use Rattle.step_machine.proofs.EitherQueue.{each_runs_its_queue, fixed_at}
use Rattle.step_machine.proofs.Fixed.{FixedAt, DecidedUnlocking}
use Rattle.step_machine.specs.Prices.{unless, if_so, by_due, call_steps}
use Rattle.step_machine.specs.Amounts.{rank, lost_at_free}
use Rattle.progress.specs.Locked.{unheld}
use Rattle.step_machine.proofs.Others.{at_free, at_fresh}
use Rattle.step_machine.proofs.Mover.{found_same, found_fresh}

-- what an actor has before it to the end of its call, if no other one wins an exchange
abbrev pub locked_own : Shared → Actor → Line → ℕ
locked_own m a l = rank a.due l 1 + lost_at_free call_steps m a l

-- the same of an actor without a call
abbrev pub locked_at : Shared → Actor → Option Line → ℕ
locked_at m a None = 0
locked_at m a (Some l) = locked_own m a l

-- what an actor has before it in a call that has a number
abbrev pub locked_has : Shared → Actor → (entry : Option ℕ) → ℕ
locked_has m a None = 0
locked_has m a (Some entry) = locked_at m a a.line

-- what the nodes that an actor has yet to take and to give back cost each other one, by the section of its line
abbrev pub charge_in : Option Reply → Section → ℕ
charge_in due NewNode = 4
charge_in due LockedDequeue = 4
charge_in due FreeLines = by_due due 8 4
charge_in due _ = 0

-- the same by its line
abbrev pub charge_at : Option Reply → Option Line → ℕ
charge_at due None = 0
charge_at due (Some l) = charge_in due (section_of l)

-- the same of a call, which counts from its first number on
abbrev pub charge_of : Option Reply → Option Line → (entry : Option ℕ) → ℕ
charge_of due l None = 0
charge_of due l (Some entry) = charge_at due l

-- Free and Fresh stay
words_cost : (m m' : Shared) → m'.fresh ≡ m.fresh → m'.free ≡ m.free → (c : Actor) (j : Line) → locked_own m' c j ≤ locked_own m c j + 0
words_cost m m' e f c N2 = omega (arith, ap (λ x. unless (nat_eq x c.f) 4) e)
words_cost m m' e f c N3 = omega (arith, ap (λ x. unless (same_ref x c.top) 4) f)
words_cost m m' e f c N4 = omega (arith, ap (λ x. unless (same_ref x c.top) 4) f)
words_cost m m' e f c N5 = omega (arith, ap (λ x. unless (nat_eq x c.f) 4) e)
words_cost m m' e f c F2 = omega (arith, ap (λ x. unless (same_ref x c.top) 3) f)
words_cost m m' e f c F3 = omega (arith, ap (λ x. unless (same_ref x c.top) 3) f)
words_cost m m' e f c _ = omega arith

-- the step of an actor that had so much before it, and that counts so much
pub record LowersUnheld (m m' : Shared) (x before counts : ℕ) (o : Outcome) : Type 0 where
  pub cost : ℕ
  pub mine : locked_at m' o.actor o.actor.line + counts ≤ before
  pub covers : charge_at o.actor.due o.actor.line + cost ≤ x
  pub others : (c : Actor) (j : Line) → locked_own m' c j ≤ locked_own m c j + cost

-- Free goes on, and Fresh does
at_free_own : (m : Shared) (r : Ref) (c : Actor) (j : Line) → locked_own (put Free r m) c j ≤ locked_own m c j + 4
at_free_own m r c j = omega (arith, at_free call_steps m r c j)

at_fresh_own : (m : Shared) (f : ℕ) (c : Actor) (j : Line) → locked_own (put Fresh f m) c j ≤ locked_own m c j + 4
at_fresh_own m f c j = omega (arith, at_fresh call_steps m f c j)

-- what is left where a dequeue has freed its node
freed_left : (m : Shared) (kind : Kind) (now : ℕ) (due : Option Reply) (b : Actor) → kind ≡ TwoLock → locked_at m (freed kind now due b).actor (freed kind now due b).actor.line ≤ by_due due 9 0
freed_left m kind now None b e = subst (λ k. locked_at m (goes (dequeues k) b).actor (Some (dequeues k)) ≤ 9) (sym e) (omega arith)
freed_left m kind now (Some reply) b e = omega arith

aside_left : (m : Shared) (kind : Kind) (now : ℕ) (due : Option Reply) (b : Actor) → kind ≡ TwoLock
    → locked_at m (sets_aside (freed kind now due b)).actor (sets_aside (freed kind now due b)).actor.line ≤ by_due due 9 0
aside_left m kind now None b e = subst (λ k. locked_at m (sets_aside (goes (dequeues k) b)).actor (Some (dequeues k)) ≤ 9) (sym e) (omega arith)
aside_left m kind now (Some reply) b e = omega arith

-- what is left where the head lock was let go, and the tail lock
unlocked_left : (m : Shared) (now : ℕ) (due : Option Reply) (b : Actor) → b.due ≡ due → DecidedUnlocking due → locked_at m (unlocked now due b).actor (unlocked now due b).actor.line ≤ 3
unlocked_left m now None b e d = absurd d
unlocked_left m now (Some (Value v)) b e d = omega (arith, ap (λ x. by_due x 9 0) e)
unlocked_left m now (Some Done) b e d = absurd d
unlocked_left m now (Some Empty) b e d = omega arith
unlocked_left m now (Some (Refused refusal)) b e d = omega arith

left_left : (m : Shared) (now : ℕ) (due : Option Reply) (b : Actor) → locked_at m (left now due b).actor (left now due b).actor.line ≤ 0
left_left m now (Some (Refused refusal)) b = omega arith
left_left m now _ b = omega arith

left_with_left : (m : Shared) (now : ℕ) (due : Option Reply) (b : Actor) → locked_at m (left_with_node now due b).actor (left_with_node now due b).actor.line ≤ 0
left_with_left m now (Some (Refused refusal)) b = omega arith
left_with_left m now _ b = omega arith

-- what these have yet to cost others
freed_charge : (kind : Kind) (now : ℕ) (due : Option Reply) (b : Actor) → kind ≡ TwoLock → charge_at (freed kind now due b).actor.due (freed kind now due b).actor.line + 4 ≤ by_due due 8 4
freed_charge kind now None b e = subst (λ k. charge_at b.due (Some (dequeues k)) + 4 ≤ 8) (sym e) (omega arith)
freed_charge kind now (Some reply) b e = omega arith

aside_charge : (kind : Kind) (now : ℕ) (due : Option Reply) (b : Actor) → kind ≡ TwoLock
    → charge_at (sets_aside (freed kind now due b)).actor.due (sets_aside (freed kind now due b)).actor.line + 0 ≤ by_due due 8 4
aside_charge kind now None b e = subst (λ k. charge_at b.due (Some (dequeues k)) + 0 ≤ 8) (sym e) (omega arith)
aside_charge kind now (Some reply) b e = omega arith

unlocked_charge : (now : ℕ) (due : Option Reply) (b : Actor) → b.due ≡ due → DecidedUnlocking due → charge_at (unlocked now due b).actor.due (unlocked now due b).actor.line ≤ 4
unlocked_charge now None b e d = absurd d
unlocked_charge now (Some (Value v)) b e d = omega (arith, ap (λ x. by_due x 8 4) e)
unlocked_charge now (Some Done) b e d = absurd d
unlocked_charge now (Some Empty) b e d = omega arith
unlocked_charge now (Some (Refused refusal)) b e d = omega arith

left_charge : (now : ℕ) (due : Option Reply) (b : Actor) → charge_at (left now due b).actor.due (left now due b).actor.line ≤ 0
left_charge now (Some (Refused refusal)) b = omega arith
left_charge now _ b = omega arith

left_with_charge : (now : ℕ) (due : Option Reply) (b : Actor) → charge_at (left_with_node now due b).actor.due (left_with_node now due b).actor.line ≤ 0
left_with_charge now (Some (Refused refusal)) b = omega arith
left_with_charge now _ b = omega arith

module _ (w : World) (e : w.setup.kind ≡ TwoLock) (me : ℕ) (a : Actor) where
  abbrev Falls : Line → Shared → Outcome → Type 0
  Falls l m' o = LowersUnheld w.shared m' (charge_at a.due (Some l)) (locked_at w.shared a (Some l)) (unheld w.shared l) o

  takes : (kind : Kind) (l : Line) (m' : Shared) (b : Actor) → kind ≡ TwoLock → Falls l m' (goes A1 b) → Falls l m' (goes (with_node kind) b)
  takes kind l m' b f h = subst (λ k. Falls l m' (goes (with_node k) b)) (sym f) h

  -- Free and Fresh stay
  stays : (m' : Shared) → m'.fresh ≡ w.shared.fresh → m'.free ≡ w.shared.free → (c : Actor) (j : Line) → locked_own m' c j ≤ locked_own w.shared c j + 0
  stays = words_cost w.shared

  falls : (l : Line) → IsRunBy (section_of l) TwoLock → FixedAt w.setup.limit me a (Some l)
      → Falls l (performed (action w.setup me a l) w.shared) (outcome w.setup (w.steps + 1) me a l (found (action w.setup me a l) w.shared))
  falls N1 _ k = record { cost = 0; mine = omega (arith, found_fresh w.shared.fresh 4); covers = omega arith; others = stays w.shared refl refl }
  falls N2 _ k =
      both (Falls N2 w.shared) (is_null w.shared.free)
      (both (Falls N2 w.shared) (nat_lt a.f w.setup.size) (record {
        cost = 0;
        mine = omega arith;
        covers = omega arith;
        others =
            stays w.shared refl refl;
      }) (record { cost = 0; mine = omega arith; covers = omega arith; others = stays w.shared refl refl }))
      (both (Falls N2 w.shared) (nat_eq w.shared.free.count w.setup.limit) (record {
        cost = 0;
        mine = omega arith;
        covers = omega arith;
        others =
            stays w.shared refl refl;
      }) (record {
        cost = 0;
        mine = omega (arith, found_same w.shared.free 4);
        covers = omega arith;
        others =
            stays w.shared refl refl;
      }))
  falls N3 _ k = record { cost = 0; mine = omega arith; covers = omega arith; others = stays w.shared refl refl }
  falls N4 _ k =
      tried (Falls N4) (same_ref w.shared.free a.top)
      (λ i. takes w.setup.kind N4 (put Free (raised w.setup a.top a.next.node) w.shared) (fills_hand a.top.node a.next.count a) e record
      { cost = 4; mine = omega arith; covers = omega arith; others = λ c j. at_free_own w.shared (raised w.setup a.top a.next.node) c j })
      (λ i. record { cost = 0; mine = omega (arith, ap (λ b. unless b 4) i); covers = omega arith; others = stays w.shared refl refl })
  falls N5 _ k =
      tried (Falls N5) (nat_eq w.shared.fresh a.f)
      (λ i. takes w.setup.kind N5 (put Fresh (a.f + 1) w.shared) (fills_hand (a.f + 1) 0 a) e record {
        cost = 4;
        mine = omega arith;
        covers =
            omega arith;
        others = λ c j. at_fresh_own w.shared (a.f + 1) c j;
      })
      (λ i. record { cost = 0; mine = omega (arith, ap (λ b. unless b 4) i); covers = omega arith; others = stays w.shared refl refl })
  falls F1 _ k =
      both (Falls F1 w.shared) (nat_eq w.shared.free.count w.setup.limit)
      (record {
        cost = 0;
        mine = omega (arith, aside_left w.shared w.setup.kind (w.steps + 1) a.due (record a { top = w.shared.free }) e);
        covers =
            aside_charge w.setup.kind (w.steps + 1) a.due (record a { top = w.shared.free }) e;
        others = stays w.shared refl refl;
      })
      (record { cost = 0; mine = omega (arith, found_same w.shared.free 3); covers = omega arith; others = stays w.shared refl refl })
  falls F2 _ k = record { cost = 0; mine = omega arith; covers = omega arith; others = stays (put (Next a.node) (ref a.top.node a.mark) w.shared) refl refl }
  falls F3 _ k =
      tried (Falls F3) (same_ref w.shared.free a.top)
      (λ i. record {
        cost = 4;
        mine = omega (
          arith,
          freed_left (put Free (raised w.setup a.top a.node) w.shared) w.setup.kind (w.steps + 1) a.due
              (empties_hand a) e,
        );
        covers = freed_charge w.setup.kind (w.steps + 1) a.due (empties_hand a) e;
        others =
            λ c j. at_free_own w.shared (raised w.setup a.top a.node) c j;
      })
      (λ i. record { cost = 0; mine = omega (arith, ap (λ b. unless b 3) i); covers = omega arith; others = stays w.shared refl refl })
  falls A1 _ k = record { cost = 0; mine = omega arith; covers = omega arith; others = stays (performed (action w.setup me a A1) w.shared) refl refl }
  falls A2 _ k = record { cost = 0; mine = omega arith; covers = omega arith; others = stays (performed (action w.setup me a A2) w.shared) refl refl }
  falls A3 _ k =
      tried (Falls A3) (nat_eq w.shared.tail_lock 0)
      (λ i. record { cost = 0; mine = omega (arith, ap (λ b. if_so b 1) i); covers = omega arith; others = stays (put Tail_lock me w.shared) refl refl })
      (λ i. record { cost = 0; mine = omega (arith, ap (λ b. if_so b 1) i); covers = omega arith; others = stays w.shared refl refl })
  falls A4 _ k = record { cost = 0; mine = omega arith; covers = omega arith; others = stays w.shared refl refl }
  falls A5 _ k =
      tried (Falls A5) (same_ref ((found (action w.setup me a A5) w.shared)) null)
      (λ i. record { cost = 0; mine = omega arith; covers = omega arith; others = stays (put (Next a.tail.node) (ref a.node 0) w.shared) refl refl })
      (λ i. record { cost = 0; mine = omega arith; covers = omega arith; others = stays w.shared refl refl })
  falls A6 _ k = record { cost = 0; mine = omega arith; covers = omega arith; others = stays (put Tail (ref a.node 0) w.shared) refl refl }
  falls A7 _ k = record {
    cost = 0;
    mine = omega (arith, left_with_left (put Tail_lock 0 w.shared) (w.steps + 1) a.due a);
    covers =
        omega (arith, left_with_charge (w.steps + 1) a.due a);
    others = stays (put Tail_lock 0 w.shared) refl refl;
  }
  falls B1 _ k =
      tried (Falls B1) (nat_eq w.shared.head_lock 0)
      (λ i. record { cost = 0; mine = omega (arith, ap (λ b. if_so b 1) i); covers = omega arith; others = stays (put Head_lock me w.shared) refl refl })
      (λ i. record { cost = 0; mine = omega (arith, ap (λ b. if_so b 1) i); covers = omega arith; others = stays w.shared refl refl })
  falls B2 _ k = record { cost = 0; mine = omega arith; covers = omega arith; others = stays w.shared refl refl }
  falls B3 _ k =
      both (Falls B3 w.shared) (is_null (found (action w.setup me a B3) w.shared)) (record { cost = 0; mine = omega arith; covers = omega arith; others = stays w.shared refl refl })
      (both (Falls B3 w.shared) (is_shut w.setup.bits (found (action w.setup me a B3) w.shared))
      (record { cost = 0; mine = omega arith; covers = omega arith; others = stays w.shared refl refl })
      (record { cost = 0; mine = omega arith; covers = omega arith; others = stays w.shared refl refl }))
  falls B4 _ k = both (Falls B4 w.shared) (nat_eq a.head.count w.setup.limit)
      (record { cost = 0; mine = omega arith; covers = omega arith; others = stays w.shared refl refl })
      (record { cost = 0; mine = omega arith; covers = omega arith; others = stays w.shared refl refl })
  falls B5 _ k = record { cost = 0; mine = omega arith; covers = omega arith; others = stays (put Head (raised w.setup a.head a.next.node) w.shared) refl refl }
  falls B6 _ k = record {
    cost = 0;
    mine = omega (arith, unlocked_left (put Head_lock 0 w.shared) (w.steps + 1) a.due a refl k.earned);
    covers =
        omega (arith, unlocked_charge (w.steps + 1) a.due a refl k.earned);
    others = stays (put Head_lock 0 w.shared) refl refl;
  }
  falls S6 _ k =
      tried (Falls S6) (nat_eq w.shared.tail_lock 0)
      (λ i. record { cost = 0; mine = omega (arith, ap (λ b. if_so b 1) i); covers = omega arith; others = stays (put Tail_lock me w.shared) refl refl })
      (λ i. record { cost = 0; mine = omega (arith, ap (λ b. if_so b 1) i); covers = omega arith; others = stays w.shared refl refl })
  falls S7 _ k = record { cost = 0; mine = omega arith; covers = omega arith; others = stays w.shared refl refl }
  falls S8 _ k =
      tried (Falls S8) (same_ref (found (action w.setup me a S8) w.shared) null)
      (λ i. record { cost = 0; mine = omega arith; covers = omega arith; others = stays (put (Next a.tail.node) (shut_ref w.setup.bits 0) w.shared) refl refl })
      (λ i. record { cost = 0; mine = omega arith; covers = omega arith; others = stays w.shared refl refl })
  falls S9 _ k = record {
    cost = 0;
    mine = omega (arith, left_left (put Tail_lock 0 w.shared) (w.steps + 1) a.due a);
    covers =
        omega (arith, left_charge (w.steps + 1) a.due a);
    others = stays (put Tail_lock 0 w.shared) refl refl;
  }
  falls l runs k = absurd runs

  -- giving up ends the call, and counts 1
  abbrev Gives : Line → Outcome → Type 0
  Gives l o = LowersUnheld w.shared w.shared (charge_at a.due (Some l)) (locked_at w.shared a (Some l)) 1 o

  busy_falls : (now : ℕ) (due : Option Reply) → IfSome (busy_or now due (to_pocket a)) (Gives F1)
  busy_falls now None = record { cost = 0; mine = omega arith; covers = omega arith; others = stays w.shared refl refl }
  busy_falls now (Some reply) = record { cost = 0; mine = omega arith; covers = omega arith; others = stays w.shared refl refl }

  given_falls : (now : ℕ) (l : Line) → IsRunBy (section_of l) TwoLock → IfSome (gives_up now a l) (Gives l)
  given_falls now N1 runs = record { cost = 0; mine = omega arith; covers = omega arith; others = stays w.shared refl refl }
  given_falls now F1 runs = busy_falls now a.due
  given_falls now E5 runs = absurd runs
  given_falls now D2 runs = absurd runs
  given_falls now A3 runs = record { cost = 0; mine = omega arith; covers = omega arith; others = stays w.shared refl refl }
  given_falls now B1 runs = record { cost = 0; mine = omega arith; covers = omega arith; others = stays w.shared refl refl }
  given_falls now S1 runs = absurd runs
  given_falls now S6 runs = record { cost = 0; mine = omega arith; covers = omega arith; others = stays w.shared refl refl }
  given_falls now _ runs = tt

-- each step lowers what is left, by what it counts
pub step_lowers_unheld : (w : World) → IsReached w → w.setup.kind ≡ TwoLock → (me : ℕ) (a : Actor) (l : Line) → actor_of w me ≡ Some a
    → a.line ≡ Some l → LowersUnheld w.shared (performed (action w.setup me a l) w.shared) (charge_at a.due (Some l)) (locked_at w.shared a (Some l))
    (unheld w.shared l) (outcome w.setup (w.steps + 1) me a l (found (action w.setup me a l) w.shared))
step_lowers_unheld w r e me a l is at = falls w e me a l (subst (IsRunBy (section_of l)) e (each_runs_its_queue w r me a l is at)) (fixed_at w r me a l is at)

pub give_lowers_unheld : (w : World) → IsReached w → w.setup.kind ≡ TwoLock → (me : ℕ) (a : Actor) (l : Line) → actor_of w me ≡ Some a
    → a.line ≡ Some l → IfSome (gives_up (w.steps + 1) a l) (LowersUnheld w.shared w.shared (charge_at a.due (Some l)) (locked_at w.shared a (Some l))
    1)
give_lowers_unheld w r e me a l is at = given_falls w e me a (w.steps + 1) l (subst (IsRunBy (section_of l)) e (each_runs_its_queue w r me a l is at))
