-- A push that has its node: it sets out, its turns one after another, and what it answers.
use Rattle.std.proofs.Common.{◌≡◌, ℕ, ◌+◌, ◌*◌, ◌^◌, ◌<◌, List, ◌++◌, Option, Some, None, Ok, Err, Result, sym, refl, ap, subst, ◌∙◌, arith, lt-ltb}
use Rattle.line_table.specs.declared.lines.Line.{Line}
use Rattle.line_table.specs.declared.lines.Line.TheVariants.{N1, E2, E5}
use Rattle.history.specs.declared.operations.Entry.TheVariants.{Push}
use Rattle.history.specs.declared.operations.Op.TheVariants.{Enq}
use Rattle.history.specs.declared.operations.Taken.{Taken}
use Rattle.history.specs.declared.refusals.Refusal.{Refusal}
use Rattle.history.specs.declared.refusals.Refusal.TheVariants.{WornOut, Busy, Closed}
use Rattle.history.specs.declared.refusals.WornWord.TheVariants.{Free as OfFree, Next as OfNext, Tail as OfTail, Head as OfHead}
use Rattle.node_arena.specs.Machine.{Held, Actor, with_node, from_pocket}
use Rattle.node_arena.specs.Traces.{Event}
use Rattle.node_arena.specs.Prologues.{begins, continues, at_rest, out_of}
use Rattle.node_arena.specs.Arenas.{Arena}
use Rattle.node_arena.specs.declared.seats.Seat.{Seat}
use Rattle.node_arena.specs.Seats.{IsReady, IsSeat, KeepsStored, KeepsSlots, view, pocket_of, keeping}
use Rattle.node_arena.specs.Turns.{failed_turns}
use Rattle.node_arena.specs.Paths.{ExtendsPath, FindsShut, StopsAPush, Acts, added}
use Rattle.node_arena.proofs.Loads.{kept_slots, kept_gives, then_gives}
use Rattle.node_arena.proofs.Paths.{walk_then, then_act, then_stored, then_slots, added_is, added_path, failed-append, failed_behind, stopped_behind, then_shut, last_held, kept_seat, ends_failed}
use Rattle.nonblocking.specs.Values.{IsNonBlocking}
use Rattle.node_arena.specs.Machine.{value_of}
use Rattle.free_list.specs.declared.outcomes.RowOutcome.{RowOutcome}
use Rattle.free_list.specs.declared.outcomes.RowOutcome.TheVariants.{Goes, Ends}
use Rattle.free_list.specs.declared.outcomes.Reply.{Reply}
use Rattle.free_list.specs.declared.outcomes.Reply.TheVariants.{Done as IsDone, Value as IsValue, Empty as IsEmpty, Refused as IsRefused}
use Rattle.nonblocking.specs.declared.push_outcomes.Turn.{Turn}
use Rattle.nonblocking.specs.declared.push_outcomes.Turn.TheVariants.{Pushed, Failed, Refused as TurnRefused}
use Rattle.nonblocking.specs.Pushes.{Running, registers_of, in_hand, CallIsAt, Filled, Fills, FoundWorn, Turns, Trying}
use Rattle.nonblocking.specs.Worn.{push_worn}
use Rattle.arena_queue.specs.Answers.{PushWithNodeCaused, PushesWithNode}
use Rattle.node_arena.proofs.Values.{value_of-word}

-- an actor that begins a push with this pocket
abbrev set_out : {T : Type 0} → Arena → Seat T → ℕ → Option Held → Actor
set_out r s body p = from_pocket (with_node r.plan.setup.kind) p (record (at_rest (view s).actor)
    { line = Some N1; op = Enq body; val = record { from = (view s).number; body = body }; due = None; entry = None })

-- a push with a full pocket sets out
pub pushes_out : {T : Type 0} (r : Arena) (s : Seat T) (h : Held) (from body val : ℕ) (a : Running) → a ≡ registers_of h val → IsReady r s
    → pocket_of s ≡ Some h → IsNonBlocking r → body < 2 ^ 48 → from ≡ s.number → val ≡ from * 2 ^ 48 + body
    → CallIsAt r s (begins (Enq (value_of a.val).body)) E2 a
pushes_out r s h from body val a is i full kind small same word = subst (λ (x : Running). CallIsAt r s (begins (Enq (value_of x.val).body)) E2 x) (sym is) out
  where
    e : (at_rest (view s).actor).pocket ≡ Some h
    e = sym i.pocket ∙ full

    parts : value_of val ≡ record { from = from; body = body }
    parts = value_of-word val from body small word

    low : (value_of val).body < 2 ^ 48
    low = omega arith

    out : CallIsAt r s (begins (Enq (value_of val).body)) E2 (registers_of h val)
    out =
        record {
          before = record { seat = i.seat; can = (lt-ltb (value_of val).body (2 ^ 48) low, i.free); line = ap (λ p. (set_out r s (value_of val).body p).line) e ∙ ap (λ k. Some (with_node k)) kind };
          hand = record {
            node = ap (λ p. (set_out r s (value_of val).body p).node) e;
            mark = ap (λ p. (set_out r s (value_of val).body p).mark) e;
            val = ap (λ p. (set_out r s (value_of val).body p).val) e ∙ ap (λ (k : ℕ). record { from = k; body = (value_of val).body })
                (sym (same ∙ i.seat.sits.number) ∙ sym (ap (λ (v : Taken). v.from) parts));
          };
          knows = tt;
        }

-- the node's own next is worn out
pub fill_worn : {T : Type 0} (r : Arena) (s t : Seat T) (a : Running) (out : RowOutcome Running) (refusal : Refusal) (node body spent turns : ℕ)
    → out ≡ Ends (IsRefused refusal) → Fills r s t a out → PushesWithNode push_worn r s (keeping t None spent) node body spent turns (Err refusal)
fill_worn r s t a out refusal node body spent turns is f =
    let k : FoundWorn r s t None f.lines OfNext refusal = subst (Filled r s t a f.lines) is f.filled in
    let e : added s t ≡ f.lines = added_is s t f.lines f.walks in
    let rest : at_rest (view t).actor ≡ (view t).actor = ap (out_of (view t).actor) k.over in
    record {
      ready = record { seat = kept_seat r t None spent k.seat; free = ap (λ b. b.line) rest ∙ k.over; pocket = sym (ap (λ b. b.pocket) rest ∙ k.pocket) };
      same = record { number = f.stored.number; role = f.stored.role; keeps = f.stored.keeps };
      slots = kept_slots s t None spent f.slots;
      pushed = tt;
      refused = subst (λ y. StopsAPush s (keeping t None spent) y × PushWithNodeCaused push_worn r s (keeping t None spent) node spent turns y) (sym k.is) (
        subst (ExtendsPath (view s) (view t)) (sym e) f.walks,
        (last_held r s (keeping t None spent) f.lines _ e k.cause, refl, tt),
      );
    }

-- E2 and E3 end in no other way
pub fill_ends : {T : Type 0} (r : Arena) (s t : Seat T) (a : Running) (out : RowOutcome Running) (answer : Reply) → out ≡ Ends answer
    → ((refusal : Refusal) → answer ≡ IsRefused refusal → ⊥) → Fills r s t a out → ⊥
fill_ends r s t a out answer is other f = go answer other (subst (Filled r s t a f.lines) is f.filled)
  where
    go : (answer : Reply) → ((refusal : Refusal) → answer ≡ IsRefused refusal → ⊥) → Filled r s t a f.lines (Ends answer) → ⊥
    go IsDone other k = k
    go (IsValue word) other k = k
    go IsEmpty other k = k
    go (IsRefused refusal) other k = absurd (other refusal refl)

-- the node is ready
module _ {T : Type 0} (r : Arena) (s t : Seat T) (a : Running) (out : RowOutcome Running) (l : Line) (c : Running) (is : out ≡ Goes l c) (f : Fills r s t a out) where
  ready_at : (l : Line) → Filled r s t a f.lines (Goes l c) → CallIsAt r t continues E5 c × (c.node ≡ a.node) × (c.val ≡ a.val) × (failed_turns f.lines ≡ 0)
  ready_at E5 k = k
  ready_at _ k = absurd k

  k : CallIsAt r t continues E5 c × (c.node ≡ a.node) × (c.val ≡ a.val) × (failed_turns f.lines ≡ 0)
  k = ready_at l (subst (Filled r s t a f.lines) is f.filled)

  fill_ready : (val : ℕ) → a.val ≡ val → CallIsAt r t continues E5 (registers_of (in_hand c) val)
  fill_ready val e =
      record { before = k.0.before; hand = record { node = k.0.hand.node; mark = k.0.hand.mark; val = k.0.hand.val ∙ ap value_of (k.2 ∙ e) }; knows = tt }

  pub fill_node : (node : ℕ) → a.node ≡ node → c.node ≡ node
  fill_node node e = k.1 ∙ e

  -- and no turn was made yet
  pub first_try : (val spent : ℕ) → a.val ≡ val → Trying r s t (registers_of (in_hand c) val) spent spent
  first_try val spent e =
      record {
        stands = fill_ready val e;
        stored = f.stored;
        slots = f.slots;
        lines = f.lines;
        walks = f.walks;
        failed = (let z = k.3 in omega arith);
        last = λ less. absurd (omega arith);
      }

-- turns
module _ {T : Type 0} (r : Arena) (s t u : Seat T) (h : Held) (val spent n turns : ℕ) (a : Running) (out : Turn) (is : a ≡ registers_of h val)
    (g : Trying r s t (registers_of h val) spent n) (m : Turns r t u a out) where
  abbrev b : Running
  b = registers_of h val

  turn : Turns r t u b out
  turn = subst (λ x. Turns r t u x out) is m

  turned_as : (o : Turn) → out ≡ o → Turns r t u b o
  turned_as o e = subst (Turns r t u b) e turn

  -- a turn failed
  pub next_try : out ≡ Failed → Trying r s u b spent (n + 1)
  next_try e =
      let k : Turns r t u b Failed = turned_as Failed e in
      record {
        stands = k.turned.1.stands;
        stored = then_stored s t u g.stored k.stored;
        slots = then_slots s t u g.slots k.slots;
        lines = g.lines ++ k.lines;
        walks = walk_then (view s) (view t) (view u) g.lines k.lines g.walks k.turned.0;
        failed = omega (arith, failed-append g.lines k.lines, g.failed, k.turned.1.once);
        last = λ less. failed_behind g.lines k.lines k.turned.1.last;
      }

  -- a turn pushed
  pub puts_it : n < turns → out ≡ Pushed → PushesWithNode push_worn r s (keeping u None n) h.node (value_of val).body spent turns (Ok tt)
  puts_it less e =
      let k : Turns r t u b Pushed = turned_as Pushed e in
      let es : List Event = g.lines ++ k.lines in
      let acts : Acts (view s) (view u) (Push (view s).number (value_of val).body) es =
      then_act (view s) (view t) (view u) (Push (view t).number (value_of val).body) (Push (view s).number (value_of val).body) g.lines k.lines
      (λ i. Push (g.walks.number i) (value_of val).body) g.walks k.turned.acts in
      let e : added s u ≡ es = added_path s u es acts.path in
      let name = then_stored s t u g.stored k.stored in
      let rest : at_rest (view u).actor ≡ (view u).actor = ap (out_of (view u).actor) k.turned.over in
      record {
        ready = record { seat = kept_seat r u None n k.turned.seat; free = ap (λ b. b.line) rest ∙ k.turned.over; pocket = sym (ap (λ b. b.pocket) rest ∙ k.turned.empty) };
        same = record { number = name.number; role = name.role; keeps = name.keeps };
        slots = kept_gives r (value_of val).body s u None n (then_gives r (value_of val).body s t u g.slots k.slots);
        pushed = (
          subst (Acts (view s) (view u) (Push (view s).number (value_of val).body)) (sym e) acts,
          refl,
          (let c = ap failed_turns e in omega (arith, failed-append g.lines k.lines, g.failed, k.turned.never, c)),
        );
        refused = tt;
      }

  -- a turn was refused
  pub refused_put : (refusal : Refusal) → out ≡ TurnRefused refusal → PushesWithNode push_worn r s (keeping u (Some h) n) h.node (value_of val).body spent turns (Err refusal)
  refused_put refusal e =
      by_cause refusal (turned_as (TurnRefused refusal) e)
    where
      -- the call is over, with its node in the pocket
      ends : (k : KeepsStored t u) (refusal : Refusal) → KeepsSlots t u → IsSeat r u → (view u).actor.line ≡ None → (view u).actor.pocket ≡ Some (in_hand b)
          → StopsAPush s (keeping u (Some h) n) refusal × PushWithNodeCaused push_worn r s (keeping u (Some h) n) h.node spent turns refusal
          → PushesWithNode push_worn r s (keeping u (Some h) n) h.node (value_of val).body spent turns (Err refusal)
      ends k refusal slots seat over pocket refused =
          let name = then_stored s t u g.stored k in
          let rest : at_rest (view u).actor ≡ (view u).actor = ap (out_of (view u).actor) over in
          record {
            ready = record { seat = kept_seat r u (Some h) n seat; free = ap (λ b. b.line) rest ∙ over; pocket = sym (ap (λ b. b.pocket) rest ∙ pocket) };
            same = record { number = name.number; role = name.role; keeps = name.keeps };
            slots = kept_slots s u (Some h) n (then_slots s t u g.slots slots);
            pushed = tt;
            refused = refused;
          }

      worn : (k : Turns r t u b (TurnRefused (WornOut OfTail))) (w : ExtendsPath (view t) (view u) k.lines)
          → FoundWorn r t u (Some (in_hand b)) k.lines OfTail (WornOut OfTail) → PushesWithNode push_worn r s (keeping u (Some h) n) h.node
          (value_of val).body spent turns (Err (WornOut OfTail))
      worn k w f =
          let es : List Event = g.lines ++ k.lines in
          let all : ExtendsPath (view s) (view u) es = walk_then (view s) (view t) (view u) g.lines k.lines g.walks w in
          let e : added s u ≡ es = added_is s u es all in
          ends k.stored (WornOut OfTail) k.slots f.seat f.over f.pocket (
            subst (ExtendsPath (view s) (view u)) (sym e) all,
            (last_held r s (keeping u (Some h) n) es _ e (stopped_behind r s t g.lines k.lines (WornOut OfTail) g.walks f.cause), refl, refl),
          )

      by_cause : (refusal : Refusal) → Turns r t u b (TurnRefused refusal) → PushesWithNode push_worn r s (keeping u (Some h) n) h.node (value_of val).body spent turns (Err refusal)
      by_cause Closed k =
          let es : List Event = g.lines ++ k.lines in
          let finds : FindsShut (view s) (view u) es = then_shut (view s) (view t) (view u) g.lines k.lines g.walks k.turned.finds in
          let e : added s u ≡ es = added_path s u es finds.path in
          ends k.stored Closed k.slots k.turned.seat k.turned.over k.turned.pocket (
            subst (FindsShut (view s) (view u)) (sym e) finds,
            (last_held r s (keeping u (Some h) n) es _ e (stopped_behind r s t g.lines k.lines Closed g.walks k.turned.cause), refl),
          )
      by_cause (WornOut OfTail) k = worn k k.turned.0 k.turned.1
      by_cause (WornOut OfFree) k = absurd (let e = k.turned.1.is in cc)
      by_cause (WornOut OfNext) k = absurd (let e = k.turned.1.is in cc)
      by_cause (WornOut OfHead) k = absurd (let e = k.turned.1.is in cc)
      by_cause _ k = absurd (let e = k.turned.1.is in cc)

-- by the node and the body of the call
pub puts_as : {T : Type 0} (r : Arena) (s u : Seat T) (n node b body spent turns : ℕ) (o : Result (Unit {0}) Refusal) → n ≡ node → b ≡ body
    → PushesWithNode push_worn r s u n b spent turns o → PushesWithNode push_worn r s u node body spent turns o
puts_as r s u n node b body spent turns o e f p = subst (λ x. PushesWithNode push_worn r s u node x spent turns o) f (subst (λ x. PushesWithNode push_worn r s u x b spent turns o) e p)

-- all turns failed
pub gives_up_put : {T : Type 0} (r : Arena) (s t : Seat T) (h : Held) (val spent turns : ℕ) → spent < turns
    → Trying r s t (registers_of h val) spent turns → PushesWithNode push_worn r s (keeping t (Some h) turns) h.node (value_of val).body spent turns (Err Busy)
gives_up_put r s t h val spent turns less g =
    let e : added s t ≡ g.lines = added_is s t g.lines g.walks in
    let k = g.stands in
    let rest = ap (out_of (view t).actor) k.before.line in
    record {
      ready = record {
        seat = kept_seat r t (Some h) turns k.before.seat;
        free = ap (λ b. b.line) rest;
        pocket = sym (ap (λ b. b.pocket) rest ∙ (λ i. Some (record { node = k.hand.node i; mark = k.hand.mark i })));
      };
      same = record { number = g.stored.number; role = g.stored.role; keeps = g.stored.keeps };
      slots = kept_slots s t (Some h) turns g.slots;
      pushed = tt;
      refused = (subst (ExtendsPath (view s) (view t)) (sym e) g.walks, (ap (λ es. spent + failed_turns es) e ∙ g.failed, ends_failed s (keeping t (Some h) turns) g.lines e (g.last less), refl));
    }
