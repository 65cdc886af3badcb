-- What holds of each world that is reached, and that each move keeps it, for both queues. A further fact of a world and
-- its queue's chain may be carried along: `Carries`.
use Rattle.std.proofs.Common.{◌≡◌, ◌≢◌, ℕ, ◌+◌, ◌-◌, ◌≤◌, ◌<◌, true, false, List, [], ◌∷◌, length, replicate, Option, Some, None, refl, sym, ap, ◌∙◌, subst, arith, ◌⊎◌, inl, inr}
use Rattle.std.specs.Prelude.{slice_get}
use Rattle.std.proofs.Math.ListN.{length-replicate}
use Rattle.step_machine.specs.Below.{Line, section_of, Op, empty, Setup, Node, Actor, Outcome, blank, Shared, word, found, performed, action, outcome, gives_up, is_call, begun}
use Rattle.step_machine.specs.Machine.{World, idle, opening, actor_of, rested, may_rest, with_actor, entry_or, after_outcome, IsSized, IsReached}
use Rattle.step_machine.specs.Range.{WorldInRange, RegistersInRange, ActorInRange, LineInRange}
use Rattle.step_machine.specs.ProgramCounters.{IsRunBy, NonNullAt, IsAtLine, PcIsValid}
use Rattle.step_machine.specs.Places.{one_if}
use Rattle.step_machine.specs.Chains.{last_node, queue_in}
use Rattle.step_machine.proofs.StampsInvariants.{Does, actor_cases}
use Rattle.step_machine.proofs.StampsMoves.{idle_got}
use Rattle.step_machine.proofs.Range.{writes, performed_in_range}
use Rattle.step_machine.proofs.Reached.{some_of, reached_in_range, few_nodes, actor_in_range, mover_in_range, actor_stands, below_closed}
use Rattle.step_machine.proofs.ProgramCounters.{EndsHold, found_holds, access_holds, Placed, placed, given_up_placed, still_stands, rested_stands, begun_stands}
use Rattle.step_machine.proofs.Counting.{holds, elsewhere, elsewhere_settled, elsewhere_with, elsewhere_one}
use Rattle.step_machine.proofs.Effects.{Shape, shape_turned}
use Rattle.step_machine.proofs.Fixed.{FixedAt, Fixes, fixed, fixed_given, fixed_entry, fixed_begun}
use Rattle.step_machine.proofs.Reaching.{each_reached}
use Rattle.step_machine.proofs.StampsLines.{Turns, turned, given_turned}
use Rattle.step_machine.proofs.LegalMoves.{same_op, same_op_given}
use Rattle.step_machine.proofs.Carrying.{NumberedMove, Carried, Carries, Moving}
use Rattle.step_machine.proofs.Assertions.{next_of, blank_counts, OwnsAt, Marked, NodesRely, Queue, Knows, Found, Before, After, AtLine, Steps, knows_entry, knows_more, knows_kept, marks_kept}
use Rattle.step_machine.proofs.StepEffects.{no_marks, gives, does}
use Rattle.step_machine.proofs.KeptForOthers.{is_new, nodes_kept, unused_kept}
use Rattle.step_machine.proofs.Beginnings.{Begins, begun_begins, rested_begins, opening_elsewhere, no_flags, blank_leads, first_used}

-- what holds of an actor: where it stands, what its registers have, its marks, what it knows, and which locks it has
pub record LocalInvariant (q : Queue) (Z : ℕ → Type 0) (s : Setup) (m : Shared) (last me : ℕ) (a : Actor) : Type 0 where
  pub stands : PcIsValid s.bits s.kind a
  pub fixed : FixedAt s.limit me a a.line
  pub marked : Marked m a
  pub knows : Knows q Z s m last a a.line
  pub owns : OwnsAt m me a.line

-- what holds of a world: the queue's chain is `front` and then `rest`, and `free` is the one from Free
pub record QueueInvariant (q : Queue) (Z : ℕ → Type 0) (w : World) (front : ℕ) (rest free : List ℕ) : Type 0 where
  pub shape : Shape w.setup.bits w.shared (elsewhere w) (front ∷ rest) free
  pub ends : EndsHold w.shared
  pub unused : (n : ℕ) → w.shared.fresh < n → (next_of w.shared n).count ≡ 0
  pub words : q.Words w.setup w.shared (front ∷ rest)
  pub actors : (me : ℕ) (a : Actor) → actor_of w me ≡ Some a → LocalInvariant q Z w.setup w.shared (last_node (front ∷ rest)) me a

module _ (q : Queue) where
  opening_sound : Steps q → (Z : ℕ → Type 0) (s : Setup) (actors : ℕ) → IsSized s actors → QueueInvariant q Z (opening s actors) 1 [] []
  opening_sound steps Z s actors h =
      record {
        shape =
            record {
              queue_chain = (refl, omega arith, let a : 2 ≤ s.size = h.nodes in omega (arith, length-replicate s.size blank), inl (blank_leads s.size));
              free_chain = refl;
              once = λ n some. omega (arith, first_used n some, opening_elsewhere n actors, ap one_if (no_flags (n - 1) s.size));
            };
        ends = record { head = omega arith; tail = omega arith };
        unused = λ n above. blank_counts (n - 1) s.size;
        words = steps.starts s actors h;
        actors = λ me a got.
            let at : (1 ≤ me) × (slice_get (replicate actors idle) (me - 1) ≡ Some a) = actor_stands (opening s actors) me a got in
            subst (LocalInvariant q Z s (opening s actors).shared 1 me) (idle_got actors (me - 1) a at.1)
            (record {
              stands = record { pocket = tt; line = tt };
              fixed = refl;
              marked = no_marks (opening s actors).shared idle refl refl;
              knows = tt;
              owns = (let one : 1 ≤ me = at.0 in λ e. omega arith, let one : 1 ≤ me = at.0 in λ e. omega arith);
            });
      }

  -- another actor goes on knowing what it knew
  goes_on : (Z Z' : ℕ → Type 0) (s : Setup) (m m' : Shared) (last last' you : ℕ) (c : Actor) (l : Option Line) → ((k : ℕ) → Z k → Z' k)
      → q.Rely m m' last last' you → NodesRely m m' c → IsAtLine s.bits s.kind c l → FixedAt s.limit you c l → OwnsAt m you l → Knows q Z s m last c l
      → Knows q Z' s m' last' c l
  goes_on Z Z' s m m' last last' you c None more k n p f g h = tt
  goes_on Z Z' s m m' last last' you c (Some l) more k n p f g h =
      knows_more q Z Z' s m' last' c (Some l) more (knows_kept q Z s m m' last last' you c l k n f p.1 g h)

  others_know : (Z Z' : ℕ → Type 0) (s : Setup) (m m' : Shared) (last last' you : ℕ) (c : Actor) → ((k : ℕ) → Z k → Z' k) → q.Rely m m' last last' you
      → NodesRely m m' c → LocalInvariant q Z s m last you c → LocalInvariant q Z' s m' last' you c
  others_know Z Z' s m m' last last' you c more k n h =
      record {
        stands = h.stands;
        fixed = h.fixed;
        marked = marks_kept m m' c n.hand h.marked;
        knows = goes_on Z Z' s m m' last last' you c c.line more k n h.stands.line h.fixed h.owns h.knows;
        owns = q.locks_kept m m' last last' you c.line k h.owns;
      }

  -- where its operation stands says nothing of an actor
  knowing_entry : (Z : ℕ → Type 0) (s : Setup) (m : Shared) (last me : ℕ) (a : Actor) (entry : Option ℕ) → LocalInvariant q Z s m last me a
      → LocalInvariant q Z s m last me (record a { entry = entry })
  knowing_entry Z s m last me a entry h =
      record {
        stands = record { pocket = h.stands.pocket; line = still_stands s.bits s.kind a a.holds entry a.line h.stands.line };
        fixed = fixed_entry s.limit me a entry a.line h.fixed;
        marked = h.marked;
        knows = knows_entry q Z s m last a entry a.line h.knows;
        owns = h.owns;
      }

  -- what holds of a world after an actor that holds what it held has another state
  sound_with : (Z Z' : ℕ → Type 0) (w : World) (me : ℕ) (a b : Actor) (front : ℕ) (rest free : List ℕ) → actor_of w me ≡ Some a
      → QueueInvariant q Z w front rest free → ((k : ℕ) → Z k → Z' k) → PcIsValid w.setup.bits w.setup.kind b → FixedAt w.setup.limit me b b.line
      → Begins q Z' w.setup w.shared (last_node (front ∷ rest)) me a b → QueueInvariant q Z' (with_actor w me b) front rest free
  sound_with Z Z' w me a b front rest free is so more stands fixed h =
      record {
        shape =
            record {
              queue_chain = so.shape.queue_chain;
              free_chain = so.shape.free_chain;
              once = λ n some. omega (arith, so.shape.once n some, elsewhere_with w me a b n is, h.holds n);
            };
        ends = so.ends;
        unused = so.unused;
        words = so.words;
        actors = λ you c got. pick you c (actor_cases w me a b is you c got);
      }
    where
      mover : LocalInvariant q Z' w.setup w.shared (last_node (front ∷ rest)) me b
      mover = record { stands = stands; fixed = fixed; marked = h.marked; knows = h.knows; owns = h.owns }

      other : (you : ℕ) (c : Actor) → LocalInvariant q Z w.setup w.shared (last_node (front ∷ rest)) you c → LocalInvariant q Z' w.setup w.shared (last_node (front ∷ rest)) you c
      other you c g =
          record { stands = g.stands; fixed = g.fixed; marked = g.marked; knows = knows_more q Z Z' w.setup w.shared (last_node (front ∷ rest)) c c.line more g.knows; owns = g.owns }

      pick : (you : ℕ) (c : Actor) → ((you ≡ me) × (b ≡ c)) ⊎ ((you ≢ me) × (actor_of w you ≡ Some c)) → LocalInvariant q Z' w.setup w.shared (last_node (front ∷ rest)) you c
      pick you c (inl e) = subst (λ i. LocalInvariant q Z' w.setup w.shared (last_node (front ∷ rest)) i c) (sym e.0)
          (subst (LocalInvariant q Z' w.setup w.shared (last_node (front ∷ rest)) me) e.1 mover)
      pick you c (inr e) = other you c (so.actors you c e.1)

-- a world's chains, with what holds of them
pub record ReachedInvariant (q : Queue) (L : World → List ℕ → Type 0) (Z : World → ℕ → Type 0) (w : World) : Type 0 where
  pub front : ℕ
  pub rest : List ℕ
  pub free : List ℕ
  pub sound : QueueInvariant q (Z w) w front rest free
  pub fact : L w (front ∷ rest)

-- what holds before a step of an actor at a line
module _ (q : Queue) (L : World → List ℕ → Type 0) (Z : World → ℕ → Type 0) (w : World) (me : ℕ) (a : Actor) (l : Line) (r : IsReached w)
    (e : w.setup.kind ≡ q.kind) (is : actor_of w me ≡ Some a) (at : a.line ≡ Some l) (p : ReachedInvariant q L Z w) where
  local : LocalInvariant q (Z w) w.setup w.shared (last_node (p.front ∷ p.rest)) me a
  local = p.sound.actors me a is

  registers : RegistersInRange w.setup w.shared.fresh (length w.actors) a
  registers = (actor_in_range w me a (reached_in_range w r) is).registers

  node_low : a.node ≤ length w.shared.nodes
  node_low =
      let g : WorldInRange w = reached_in_range w r in
      let c : a.node ≤ w.shared.fresh = registers.node in
      let up : w.shared.fresh ≤ w.setup.size = g.shared.fresh in
      let all : length w.shared.nodes ≡ w.setup.size = g.shared.all_nodes in
      omega arith

  abbrev before : Before q
  before =
      record {
        Z = Z w;
        s = w.setup;
        m = w.shared;
        E = elsewhere w;
        front = p.front;
        rest = p.rest;
        free = p.free;
        me = me;
        now = w.steps + 1;
        a = a;
        shape = p.sound.shape;
        unused = p.sound.unused;
        few_nodes = few_nodes w r;
        words = p.sound.words;
        mine = λ n. elsewhere_one w me a n is;
        low = node_low;
        hand_no_end = below_closed w a.node (reached_in_range w r) registers.node;
        marked = local.marked;
        some = (actor_stands w me a is).0;
      }

  stands : IsRunBy (section_of l) w.setup.kind × NonNullAt w.setup.bits l a
  stands = subst (IsAtLine w.setup.bits w.setup.kind a) at local.stands.line

  at_line : AtLine q before l
  at_line =
      record {
        runs = subst (IsRunBy (section_of l)) e stands.0;
        nodes = stands.1;
        fixed = subst (FixedAt w.setup.limit me a) at local.fixed;
        knows = subst (Knows q (Z w) w.setup w.shared (last_node (p.front ∷ p.rest)) a) at local.knows;
        owns = subst (OwnsAt w.shared me) at local.owns;
      }

  fresh_rises : w.shared.fresh ≤ (performed (action w.setup me a l) w.shared).fresh
  fresh_rises =
      let g : WorldInRange w = reached_in_range w r in
      let c : ActorInRange w.setup w.shared.fresh (length w.actors) a = actor_in_range w me a g is in
      (performed_in_range w.setup (length w.actors) w.shared (action w.setup me a l) g.shared
      (writes w.setup (length w.actors) me w.shared a l (mover_in_range w me a is).1 c.registers (subst (LineInRange w.setup.size a.f) at c.line))).rises

-- a step or a giving up of an actor, with what it does
record Made (q : Queue) (L : World → List ℕ → Type 0) (Z : World → ℕ → Type 0) (w : World) (me : ℕ) (a : Actor) (p : ReachedInvariant q L Z w) (m' : Shared) (o : Outcome) : Type 1 where
  line : Line
  reached : IsReached w
  runs : w.setup.kind ≡ q.kind
  here : actor_of w me ≡ Some a
  at : a.line ≡ Some line
  does : After q (before q L Z w me a line reached runs here at p) m' o
  stamps : Does (w.steps + 1) line a.due a.empty_at o
  same_call : o.actor.op ≡ a.op
  rises : w.shared.fresh ≤ m'.fresh
  ends : EndsHold m'
  placed : Placed w.setup.bits w.setup.kind o
  fixes : Fixes w.setup.limit me o

-- it is a numbered move
numbered : (q : Queue) (L : World → List ℕ → Type 0) (Z : World → ℕ → Type 0) (w : World) (me : ℕ) (a : Actor) (p : ReachedInvariant q L Z w) (m' : Shared) (o : Outcome) (t : Made q L Z w me a p m' o)
    → NumberedMove (Z w) w me a m' o p.front p.rest (t.does.front' ∷ t.does.rest')
numbered q L Z w me a p m' o t =
    record {
      line = t.line;
      free = p.free;
      reached = t.reached;
      here = t.here;
      at = t.at;
      shape = p.sound.shape;
      fixed = subst (FixedAt w.setup.limit me a) t.at (p.sound.actors me a t.here).fixed;
      writes = t.does.turn.writes;
      linearizes = t.does.linearizes;
      stamps = t.stamps;
      same_call = t.same_call;
    }

-- what holds of a world after an actor was told an outcome, by what its step did
sound_settled : (q : Queue) (L : World → List ℕ → Type 0) (Z : World → ℕ → Type 0) (Z' : ℕ → Type 0) (w : World) (me : ℕ) (a : Actor) (m' : Shared)
    (o : Outcome) (p : ReachedInvariant q L Z w) (t : Made q L Z w me a p m' o) → ((k : ℕ) → Z w k → Z' k)
    → (queue_in w.setup.bits w.shared (p.front ∷ p.rest) ≡ empty → Z' (w.steps + 1))
    → QueueInvariant q Z' (after_outcome w me a m' o) t.does.front' t.does.rest' t.does.free'
sound_settled q L Z Z' w me a m' o p t more finds =
    record {
      shape =
          shape_turned w.setup.bits w.shared m' (elsewhere w) (elsewhere (after_outcome w me a m' o)) (p.front ∷ p.rest) p.free (d.front' ∷ d.rest') d.free' a o.actor o.aside p.sound.shape d.turn
          (λ n some. elsewhere_settled w me a m' o n t.here some (is_new w me a (p.front ∷ p.rest) p.free o.aside (reached_in_range w t.reached) t.here p.sound.shape d.own_aside));
      ends = t.ends;
      unused = λ n above. ap (λ (x : Node). x.next.count) (unused_kept w.setup.bits w.shared m' (elsewhere w) p.front p.rest p.free a p.sound.shape
          d.turn.writes mine n (omega (arith, t.rises))) ∙ p.sound.unused n (omega (arith, t.rises));
      words = d.words;
      actors = λ you c got. pick you c (actor_cases w me a _ t.here you c got);
    }
  where
    d : After q (before q L Z w me a t.line t.reached t.runs t.here t.at p) m' o
    d = t.does

    mine : (n : ℕ) → holds n a ≤ elsewhere w n
    mine n = elsewhere_one w me a n t.here

    mover : LocalInvariant q Z' w.setup m' (last_node (d.front' ∷ d.rest')) me o.actor
    mover =
        record {
          stands = record { pocket = t.placed.pocket; line = t.placed.line };
          fixed = t.fixes.fixed;
          marked = d.marked;
          knows = knows_more q (Found w.setup.bits w.shared (p.front ∷ p.rest) (w.steps + 1)) Z' w.setup m' (last_node (d.front' ∷ d.rest')) o.actor
              o.actor.line (λ k f. subst Z' (sym f.1) (finds f.0)) d.knows;
          owns = d.owns;
        }

    pick : (you : ℕ) (c : Actor)
        → ((you ≡ me) × (record o.actor { entry = Some (entry_or a.entry (length w.operations)) } ≡ c)) ⊎ ((you ≢ me) × (actor_of w you ≡ Some c))
        → LocalInvariant q Z' w.setup m' (last_node (d.front' ∷ d.rest')) you c
    pick you c (inl e) =
        subst (λ i. LocalInvariant q Z' w.setup m' (last_node (d.front' ∷ d.rest')) i c) (sym e.0)
        (subst (LocalInvariant q Z' w.setup m' (last_node (d.front' ∷ d.rest')) me) e.1
        (knowing_entry q Z' w.setup m' (last_node (d.front' ∷ d.rest')) me o.actor (Some (entry_or a.entry (length w.operations))) mover))
    pick you c (inr e) =
        others_know q (Z w) Z' w.setup w.shared m' (last_node (p.front ∷ p.rest)) (last_node (d.front' ∷ d.rest')) you c more (d.relies you (actor_stands w you c e.1).0 e.0)
        (nodes_kept w me you a c m' p.front p.rest p.free e.0 (let g : WorldInRange w =
        reached_in_range w t.reached in omega (arith, g.shared.fresh, g.sized.numbered)) p.sound.ends.head t.here e.1 p.sound.shape d.rises
        d.turn.writes) (p.sound.actors you c e.1)

module _ (q : Queue) (steps : Steps q) (L : World → List ℕ → Type 0) (Z : World → ℕ → Type 0) (carries : Carries L Z) where
  step_made : (w : World) (me : ℕ) (a : Actor) (l : Line) → IsReached w → w.setup.kind ≡ q.kind → actor_of w me ≡ Some a → a.line ≡ Some l
      → (p : ReachedInvariant q L Z w)
      → Made q L Z w me a p (performed (action w.setup me a l) w.shared) (outcome w.setup (w.steps + 1) me a l (found (action w.setup me a l) w.shared))
  step_made w me a l r e is at p =
      record {
        line = l;
        reached = r;
        runs = e;
        here = is;
        at = at;
        does = d;
        stamps = λ Q place n k before. turned Q w.setup (w.steps + 1) me a l (found (action w.setup me a l) w.shared) place n k before;
        same_call = same_op w.setup (w.steps + 1) me a l (found (action w.setup me a l) w.shared);
        rises = fresh_rises q L Z w me a l r e is at p;
        ends = access_holds w.setup me w.shared a l p.sound.ends t.nodes;
        placed =
            placed w.setup (w.steps + 1) me a l (found (action w.setup me a l) w.shared) (local q L Z w me a l r e is at p).stands.pocket (stands q L Z w me a l r e is at p).0 t.nodes
            (found_holds w.shared (word (action w.setup me a l)) p.sound.ends) (steps.found_a_node (Z w) w.setup me w.shared (last_node (p.front ∷ p.rest)) a l t.runs t.knows);
        fixes = fixed w.setup (w.steps + 1) me a l (found (action w.setup me a l) w.shared) t.fixed;
      }
    where
      t : AtLine q (before q L Z w me a l r e is at p) l
      t = at_line q L Z w me a l r e is at p

      d : After q (before q L Z w me a l r e is at p) (performed (action w.setup me a l) w.shared) (outcome w.setup (w.steps + 1) me a l (found (action w.setup me a l) w.shared))
      d = does q steps (before q L Z w me a l r e is at p) l t

  give_made : (w : World) (me : ℕ) (a : Actor) (l : Line) (o : Outcome) → IsReached w → w.setup.kind ≡ q.kind → actor_of w me ≡ Some a → a.line ≡ Some l
      → gives_up (w.steps + 1) a l ≡ Some o → (p : ReachedInvariant q L Z w) → Made q L Z w me a p w.shared o
  give_made w me a l o r e is at given p =
      record {
        line = l;
        reached = r;
        runs = e;
        here = is;
        at = at;
        does = d;
        stamps = λ Q place n k before. some_of (Turns Q place) (gives_up (w.steps + 1) a l) o given (given_turned Q (w.steps + 1) a l place n k before);
        same_call = some_of (λ x. x.actor.op ≡ a.op) (gives_up (w.steps + 1) a l) o given (same_op_given (w.steps + 1) a l);
        rises = omega arith;
        ends = p.sound.ends;
        placed = some_of (Placed w.setup.bits w.setup.kind) (gives_up (w.steps + 1) a l) o given (given_up_placed w.setup (w.steps + 1) a l (local q L Z w me a l r e is at p).stands.pocket t.nodes);
        fixes = some_of (Fixes w.setup.limit me) (gives_up (w.steps + 1) a l) o given (fixed_given w.setup.limit (w.steps + 1) me a l t.fixed);
      }
    where
      t : AtLine q (before q L Z w me a l r e is at p) l
      t = at_line q L Z w me a l r e is at p

      d : After q (before q L Z w me a l r e is at p) w.shared o
      d = some_of (After q (before q L Z w me a l r e is at p) w.shared) (gives_up (w.steps + 1) a l) o given (gives q (before q L Z w me a l r e is at p) l t.fixed t.owns)

  pub step_moving : (w : World) (me : ℕ) (a : Actor) (l : Line) → IsReached w → w.setup.kind ≡ q.kind → actor_of w me ≡ Some a → a.line ≡ Some l
      → ReachedInvariant q L Z w
      → Moving L Z w me a (performed (action w.setup me a l) w.shared) (outcome w.setup (w.steps + 1) me a l (found (action w.setup me a l) w.shared))
  step_moving w me a l r e is at p = record { front = p.front; rest = p.rest; queue' = _; move = numbered q L Z w me a p _ _ (step_made w me a l r e is at p); fact = p.fact }

  pub give_moving : (w : World) (me : ℕ) (a : Actor) (l : Line) (o : Outcome) → IsReached w → w.setup.kind ≡ q.kind → actor_of w me ≡ Some a → a.line ≡ Some l
      → gives_up (w.steps + 1) a l ≡ Some o → ReachedInvariant q L Z w → Moving L Z w me a w.shared o
  give_moving w me a l o r e is at given p = record { front = p.front; rest = p.rest; queue' = _; move = numbered q L Z w me a p w.shared o (give_made w me a l o r e is at given p); fact = p.fact }

  made_keeps : (w : World) (me : ℕ) (a : Actor) (m' : Shared) (o : Outcome) (p : ReachedInvariant q L Z w) → Made q L Z w me a p m' o → ReachedInvariant q L Z (after_outcome w me a m' o)
  made_keeps w me a m' o p t =
      let c : Carried L Z w (after_outcome w me a m' o) (p.front ∷ p.rest) (t.does.front' ∷ t.does.rest') =
      carries.told w me a m' o p.front p.rest (t.does.front' ∷ t.does.rest') (numbered q L Z w me a p m' o t) p.fact in
      record {
        front = t.does.front';
        rest = t.does.rest';
        free = t.does.free';
        sound = sound_settled q L Z (Z (after_outcome w me a m' o)) w me a m' o p t c.keeps c.finds;
        fact = c.fact;
      }

  began_keeps : (w : World) (me : ℕ) (op : Op) (a : Actor) → IsReached w → w.setup.kind ≡ q.kind → actor_of w me ≡ Some a → a.line ≡ None → is_call op ≡ true
      → ReachedInvariant q L Z w → ReachedInvariant q L Z (with_actor w me (begun w.setup.kind me op a))
  began_keeps w me op a r e is at call p =
      let k : LocalInvariant q (Z w) w.setup w.shared (last_node (p.front ∷ p.rest)) me a = p.sound.actors me a is in
      let empty : a.holds ≡ false = subst (FixedAt w.setup.limit me a) at k.fixed in
      let b : Actor = begun w.setup.kind me op a in
      let c : L (with_actor w me b) (p.front ∷ p.rest) × ((k : ℕ) → Z w k → Z (with_actor w me b) k) = carries.began w me op a (p.front ∷ p.rest) r is at p.fact in
      record {
        front = p.front;
        rest = p.rest;
        free = p.free;
        sound =
            sound_with q (Z w) (Z (with_actor w me b)) w me a b p.front p.rest p.free is p.sound c.1 (begun_stands w.setup.bits w.setup.kind me op a k.stands.pocket)
            (fixed_begun w.setup.limit me w.setup.kind op a empty)
            (begun_begins q (Z (with_actor w me b)) w.setup w.shared (last_node (p.front ∷ p.rest)) me w.setup.kind op a empty k.marked (subst (OwnsAt w.shared me) at k.owns));
        fact = c.0;
      }

  rested_keeps : (w : World) (me : ℕ) (a : Actor) (l : Line) → IsReached w → w.setup.kind ≡ q.kind → actor_of w me ≡ Some a → a.line ≡ Some l
      → may_rest l ≡ true → ReachedInvariant q L Z w → ReachedInvariant q L Z (with_actor w me (rested a))
  rested_keeps w me a l r e is at may p =
      let t : AtLine q (before q L Z w me a l r e is at p) l = at_line q L Z w me a l r e is at p in
      let c : L (with_actor w me (rested a)) (p.front ∷ p.rest) × ((k : ℕ) → Z w k → Z (with_actor w me (rested a)) k) = carries.at_rest w me a l (p.front ∷ p.rest) r is at may p.fact in
      record {
        front = p.front;
        rest = p.rest;
        free = p.free;
        sound =
            sound_with q (Z w) (Z (with_actor w me (rested a))) w me a (rested a) p.front p.rest p.free is p.sound c.1 (rested_stands w.setup a l may t.nodes) refl
            (rested_begins q (Z (with_actor w me (rested a))) w.setup w.shared (last_node (p.front ∷ p.rest)) me a l may t.fixed (p.sound.actors me a is).marked t.owns);
        fact = c.0;
      }

  -- each world that is reached has its chains, with what holds of them
  pub reached_with : (w : World) → IsReached w → w.setup.kind ≡ q.kind → ReachedInvariant q L Z w
  reached_with =
      each_reached q.kind (ReachedInvariant q L Z)
      (record {
        step = λ w me a l r e is at p. made_keeps w me a _ _ p (step_made w me a l r e is at p);
        gave_up = λ w me a l o r e is at given p. made_keeps w me a w.shared o p (give_made w me a l o r e is at given p);
        began = began_keeps;
        at_rest = rested_keeps;
      })
      (λ s actors sized e. record { front = 1; rest = []; free = []; sound = opening_sound q steps (Z (opening s actors)) s actors sized; fact = carries.starts s actors sized })
