-- A shut: its turns one after another, and what it answers.
use Rattle.std.proofs.Common.{◌≡◌, ℕ, zero, suc, ◌+◌, ◌<◌, ◌≤◌, List, [], ◌++◌, Option, Some, None, Ok, Err, sym, refl, ap, subst, ◌∙◌, arith, add-one}
use Rattle.history.specs.declared.operations.Entry.TheVariants as entry
use Rattle.history.specs.declared.refusals.Refusal.{Refusal}
use Rattle.history.specs.declared.refusals.Refusal.TheVariants.{WornOut, Busy, Closed}
use Rattle.history.specs.declared.refusals.WornWord.TheVariants.{Tail as OfTail}
use Rattle.node_arena.specs.Machine.{Held, shuts}
use Rattle.node_arena.specs.Traces.{Event}
use Rattle.node_arena.specs.Prologues.{continues, at_rest, out_of}
use Rattle.node_arena.specs.Arenas.{Arena}
use Rattle.node_arena.specs.declared.seats.Seat.{Seat}
use Rattle.node_arena.specs.Seats.{IsSeat, IsReady, KeepsStored, KeepsName, view, keeping, pocket_of}
use Rattle.node_arena.specs.Turns.{failed_turns}
use Rattle.node_arena.specs.Paths.{ExtendsPath, FindsShut, StopsAPush, Acts, added}
use Rattle.node_arena.proofs.Paths.{no_walk, walk_then, then_act, then_stored, no_slots, then_slots, then_shut, added_is, added_path, last_held}
use Rattle.node_arena.proofs.Paths.{ends_failed, stopped_behind, failed-append, failed_behind, kept_seat}
use Rattle.node_arena.proofs.Loads.{kept_slots}
use Rattle.arena_queue.specs.Answers.{ShutCaused, AnswersShut}
use Rattle.nonblocking.specs.Values.{IsNonBlocking}
use Rattle.nonblocking.specs.declared.shut_outcomes.Turn.TheVariants as turn
use Rattle.nonblocking.specs.Shuts.{HasPocket, SawWorn, Stops, Turns, Trying}
use Rattle.nonblocking.specs.Worn.{shut_worn}

-- a shut sets out
pub shuts_out : {T : Type 0} (r : Arena) (s : Seat T) → IsReady r s → IsNonBlocking r → Trying r s s 0
shuts_out r s h kind =
    record {
      before = record { seat = h.seat; can = (refl, h.free); line = ap (λ k. Some (shuts k)) kind };
      pocket = sym h.pocket;
      stored = record { number = refl; role = refl; keeps = refl; pocket = refl; failed = refl };
      slots = no_slots s;
      lines = [];
      walks = no_walk (view s);
      failed = refl;
      last = λ one. absurd (omega arith);
    }

-- a turn failed
pub shut_again : {T : Type 0} (r : Arena) (s t x : Seat T) (n : ℕ) → Trying r s t n → Turns r t x turn.Failed → Trying r s x (n + 1)
shut_again r s t x n g d =
    record {
      before = rw add-one d.turned.before;
      pocket = rw add-one d.pocket;
      stored = then_stored s t x g.stored d.stored;
      slots = then_slots s t x g.slots d.slots;
      lines = g.lines ++ d.lines;
      walks = walk_then (view s) (view t) (view x) g.lines d.lines g.walks d.turned.walks;
      failed = omega (arith, failed-append g.lines d.lines, g.failed, d.turned.once);
      last = λ some. failed_behind g.lines d.lines d.turned.last;
    }

-- the pocket of a seat that keeps one
pocket_of-keeping : {T : Type 0} (t : Seat T) (p : Option Held) (n : ℕ) → pocket_of (keeping t p n) ≡ p
pocket_of-keeping t None n = refl
pocket_of-keeping t (Some h) n = refl

-- a seat that keeps its pocket, at the end of a call that left it alone
module _ {T : Type 0} (r : Arena) (s t : Seat T) (p : Option Held) (n : ℕ) (is : p ≡ pocket_of s) (stored : KeepsStored s t) (seat : IsSeat r t) where
  same_pocket : pocket_of (keeping t p n) ≡ pocket_of s
  same_pocket = pocket_of-keeping t p n ∙ is

  same_name : KeepsName s (keeping t p n)
  same_name = record { number = stored.number; role = stored.role; keeps = stored.keeps }

  -- where the call is over, or its actor stands before a line at which it may give up
  ready_again : HasPocket r t continues → (at_rest (view t).actor).line ≡ None → (at_rest (view t).actor).pocket ≡ (view t).actor.pocket → IsReady r (keeping t p n)
  ready_again pocket free same = record { seat = kept_seat r t p n seat; free = free; pocket = same_pocket ∙ sym stored.pocket ∙ sym pocket ∙ sym same }

  ready_over : HasPocket r t continues → (view t).actor.line ≡ None → IsReady r (keeping t p n)
  ready_over pocket over =
      let rest : at_rest (view t).actor ≡ (view t).actor = ap (out_of (view t).actor) over in
      ready_again pocket (ap (λ b. b.line) rest ∙ over) (ap (λ b. b.pocket) rest)

-- a turn ended the shut
module _ {T : Type 0} (r : Arena) (s t x : Seat T) (p : Option Held) (n turns : ℕ) (is : p ≡ pocket_of s) (g : Trying r s t n) where
  stored_then : KeepsStored t x → KeepsStored s x
  stored_then k = then_stored s t x g.stored k

  -- the queue is shut
  pub shut_ends : n < turns → Turns r t x turn.Shut → AnswersShut shut_worn r s (keeping x p n) turns (Ok tt)
  shut_ends less d =
      let es : List Event = g.lines ++ d.lines in
      let acts : Acts (view s) (view x) (entry.Shut (view s).number) es = then_act (view s) (view t) (view x) (entry.Shut (view t).number)
      (entry.Shut (view s).number) g.lines d.lines (λ i. entry.Shut (g.walks.number i)) g.walks d.turned.acts in
      let e : added s x ≡ es = added_path s x es acts.path in
      record {
        ready = ready_over r s x p n is (stored_then d.stored) d.seat d.pocket d.turned.over;
        same = same_name r s x p n is (stored_then d.stored) d.seat;
        slots = kept_slots s x p n (then_slots s t x g.slots d.slots);
        pocket = same_pocket r s x p n is (stored_then d.stored) d.seat;
        shut = subst (Acts (view s) (view x) (entry.Shut (view s).number)) (sym e) acts;
        few = (let c = ap failed_turns e in omega (arith, failed-append g.lines d.lines, g.failed, d.turned.never, c, less));
        refused = tt;
      }

  -- or the call is refused
  pub shut_stops : (refusal : Refusal) → Turns r t x (turn.Refused refusal) → AnswersShut shut_worn r s (keeping x p n) turns (Err refusal)
  shut_stops refusal d =
      record {
        ready = ready_over r s x p n is (stored_then d.stored) d.seat d.pocket (over refusal d.turned);
        same = same_name r s x p n is (stored_then d.stored) d.seat;
        slots = kept_slots s x p n (then_slots s t x g.slots d.slots);
        pocket = same_pocket r s x p n is (stored_then d.stored) d.seat;
        shut = tt;
        few = tt;
        refused = by_cause refusal d.turned;
      }
    where
      es : List Event
      es = g.lines ++ d.lines

      over : (refusal : Refusal) → Stops r t x d.lines refusal → (view x).actor.line ≡ None
      over Closed k = k.over
      over _ k = k.over

      by_cause : (refusal : Refusal) → Stops r t x d.lines refusal → StopsAPush s (keeping x p n) refusal × ShutCaused shut_worn r s (keeping x p n) turns refusal
      by_cause Closed k =
          let finds : FindsShut (view s) (view x) es = then_shut (view s) (view t) (view x) g.lines d.lines g.walks k.finds in
          let e : added s x ≡ es = added_path s x es finds.path in
          (subst (FindsShut (view s) (view x)) (sym e) finds, last_held r s (keeping x p n) es _ e (stopped_behind r s t g.lines d.lines Closed g.walks k.cause))
      by_cause _ k = worn _ k
        where
          worn : (refusal : Refusal) → SawWorn r t x d.lines refusal → StopsAPush s (keeping x p n) refusal × ShutCaused shut_worn r s (keeping x p n) turns refusal
          worn refusal k =
              let all : ExtendsPath (view s) (view x) es = walk_then (view s) (view t) (view x) g.lines d.lines g.walks k.walks in
              let e : added s x ≡ es = added_is s x es all in
              subst (λ y. StopsAPush s (keeping x p n) y × ShutCaused shut_worn r s (keeping x p n) turns y) (sym k.is) (
                subst (ExtendsPath (view s) (view x)) (sym e) all,
                (last_held r s (keeping x p n) es _ e (stopped_behind r s t g.lines d.lines (WornOut OfTail) g.walks k.cause), tt),
              )

-- all turns failed
pub shut_gives_up : {T : Type 0} (r : Arena) (s t : Seat T) (p : Option Held) (turns n : ℕ) → 1 ≤ n → n ≡ turns → p ≡ pocket_of s → Trying r s t n
    → AnswersShut shut_worn r s (keeping t p turns) turns (Err Busy)
shut_gives_up r s t p turns zero some all is g = absurd (omega arith)
shut_gives_up r s t p turns (suc m) some all is g =
    let e : added s t ≡ g.lines = added_is s t g.lines g.walks in
    let rest : at_rest (view t).actor ≡ record (view t).actor { line = None } = ap (out_of (view t).actor) g.before.line in
    record {
      ready = ready_again r s t p turns is g.stored g.before.seat g.pocket (ap (λ b. b.line) rest) (ap (λ b. b.pocket) rest);
      same = same_name r s t p turns is g.stored g.before.seat;
      slots = kept_slots s t p turns g.slots;
      pocket = same_pocket r s t p turns is g.stored g.before.seat;
      shut = tt;
      few = tt;
      refused = (
        subst (ExtendsPath (view s) (view t)) (sym e) g.walks,
        ((let c = ap failed_turns e in let f = g.failed in omega arith), ends_failed s (keeping t p turns) g.lines e (g.last some)),
      );
    }
