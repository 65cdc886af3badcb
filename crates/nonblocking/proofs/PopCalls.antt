-- Pops: turns one after another, and what they answer.
use Rattle.std.proofs.Common.{◌≡◌, ℕ, zero, suc, ◌+◌, ◌-◌, ◌<◌, ◌≤◌, true, false, [], ◌++◌, Option, Some, None, Result, Ok, Err, sym, refl, ap, subst, ◌∙◌, arith, add-one}
use Rattle.line_table.specs.declared.lines.Line.TheVariants.{D2, F1}
use Rattle.history.specs.declared.operations.Op.TheVariants.{Deq}
use Rattle.history.specs.declared.operations.Taken.{Taken}
use Rattle.history.specs.declared.refusals.Refusal.{Refusal}
use Rattle.history.specs.declared.refusals.Refusal.TheVariants.{Busy, Closed}
use Rattle.history.specs.declared.refusals.WornWord.TheVariants.{Tail as OfTail}
use Rattle.node_arena.specs.Machine.{Held, Actor, dequeues, from_pocket}
use Rattle.node_arena.specs.Prologues.{continues, at_rest, out_of}
use Rattle.node_arena.specs.Arenas.{Arena}
use Rattle.node_arena.specs.declared.seats.Seat.{Seat}
use Rattle.node_arena.specs.Seats.{IsReady, view, keeping, pocket_of, keeps_of}
use Rattle.node_arena.specs.Turns.{failed_turns}
use Rattle.node_arena.specs.Paths.{ExtendsPath, added}
use Rattle.free_list.specs.Gives.{GiveAnswers}
use Rattle.node_arena.proofs.Known.{empty_before}
use Rattle.node_arena.proofs.Paths.{no_walk, walk_then, then_stored, no_slots, then_slots, added_is, ends_failed, failed-append, failed_behind, kept_seat}
use Rattle.node_arena.proofs.Loads.{kept_slots}
use Rattle.arena_queue.specs.Answers.{PopsWithoutNode}
use Rattle.arena_queue.proofs.Pops.{draws_late, draws_worn, draws_shut, draws_taken, draws_kept, draws_empty}
use Rattle.nonblocking.specs.Values.{IsNonBlocking}
use Rattle.node_arena.specs.Machine.{value_of}
use Rattle.nonblocking.specs.declared.pop_outcomes.Turn.TheVariants as turn
use Rattle.nonblocking.specs.Pops.{Turns, Trying}
use Rattle.nonblocking.specs.Worn.{pop_worn}

-- an actor that begins a pop with this pocket
abbrev set_out : {T : Type 0} → Arena → Seat T → Option Held → Actor
set_out r s p = from_pocket F1 p (record (at_rest (view s).actor) { line = Some (dequeues r.plan.setup.kind); op = Deq; due = None; entry = None })

-- a pop with an empty pocket sets out
pub pops_out : {T : Type 0} (r : Arena) (s : Seat T) → IsReady r s → pocket_of s ≡ None → IsNonBlocking r → Trying r s s 0
pops_out r s h none kind =
    record {
      before = record { seat = h.seat; can = (refl, h.free); line = ap (λ p. (set_out r s p).line) (sym h.pocket ∙ none) ∙ ap (λ k. Some (dequeues k)) kind };
      stored = record { number = refl; role = refl; keeps = refl; pocket = refl; failed = refl };
      slots = no_slots s;
      lines = [];
      walks = no_walk (view s);
      failed = refl;
      last = λ one. absurd (omega arith);
    }

module _ {T : Type 0} (r : Arena) (s t x : Seat T) (n : ℕ) (g : Trying r s t n) where
  -- a turn failed
  pub pop_again : Turns r t x turn.Failed → Trying r s x (n + 1)
  pop_again d =
      record {
        before = rw add-one d.turned.before;
        stored = then_stored s t x g.stored d.stored;
        slots = then_slots s t x g.slots d.slots;
        lines = g.lines ++ d.lines;
        walks = walk_then (view s) (view t) (view x) g.lines d.lines g.walks d.turned.walks;
        failed = omega (arith, failed-append g.lines d.lines, g.failed, d.turned.once);
        last = λ some. failed_behind g.lines d.lines d.turned.last;
      }

  -- a turn ended the pop
  pub pop_ends : (spent turns : ℕ) (o : Result (Option Taken) Refusal) → PopsWithoutNode pop_worn r t x (spent + n) turns o → PopsWithoutNode pop_worn r s x spent turns o
  pop_ends spent turns o d = draws_late pop_worn r s t x g.lines g.walks spent (spent + n) turns (omega (arith, g.failed)) o
      (record { number = g.stored.number; role = g.stored.role; keeps = g.stored.keeps }) g.slots d

-- all turns failed
pub pop_gives_up : {T : Type 0} (r : Arena) (s t : Seat T) (spent turns n : ℕ) → 1 ≤ n → spent + n ≡ turns → Trying r s t n → PopsWithoutNode pop_worn r s (keeping t None turns) spent turns (Err Busy)
pop_gives_up r s t spent turns zero some all g = absurd (omega arith)
pop_gives_up r s t spent turns (suc m) some all g =
    let e : added s t ≡ g.lines = added_is s t g.lines g.walks in
    let rest : at_rest (view t).actor ≡ record (view t).actor { line = None } = ap (out_of (view t).actor) g.before.line in
    record {
      ready = record { seat = kept_seat r t None turns g.before.seat; free = ap (λ b. b.line) rest; pocket = sym (ap (λ b. b.pocket) rest ∙ empty_before r t continues D2 g.before) };
      same = record { number = g.stored.number; role = g.stored.role; keeps = g.stored.keeps };
      slots = kept_slots s t None turns g.slots;
      later = record { path = g.walks.path ∙ ap (λ p. (view s).path ++ p) (sym e); run = g.walks.run };
      answer = tt;
      few = tt;
      freed = λ off. tt;
      kept = λ on. tt;
      refused = (
        subst (ExtendsPath (view s) (view t)) (sym e) g.walks,
        ((let c = ap failed_turns e in let f = g.failed in omega arith), ends_failed s (keeping t None turns) g.lines e (g.last some)),
      );
    }

-- a turn ended the pop
module _ {T : Type 0} (r : Arena) (s t : Seat T) (failed turns : ℕ) where
  pub pop_worn_out : (refusal : Refusal) → Turns r s t (turn.Refused refusal) → PopsWithoutNode pop_worn r s (keeping t None failed) failed turns (Err refusal)
  pop_worn_out Closed f = let k = f.turned in draws_shut pop_worn r s t failed turns f.lines f.seat k.over f.empty f.stored f.slots k.finds k.cause
  pop_worn_out _ f = let k = f.turned in draws_worn pop_worn r s t _ OfTail failed turns f.lines f.seat k.over f.empty f.stored f.slots k.walks k.is k.cause tt

  pub pop_took : (x : Seat T) (word : ℕ) (h : Held) (out : Result (Unit {0}) Refusal) → keeps_of t ≡ false → failed < turns
      → Turns r s t (turn.Took word h) → GiveAnswers r (keeping t (Some h) failed) x (turns - failed) out
      → PopsWithoutNode pop_worn r s x failed turns (Ok (Some (value_of word)))
  pop_took x word h out keeps less f g = draws_taken pop_worn r s t x word h failed turns out f.lines (sym f.stored.keeps ∙ keeps) less f.seat f.stored f.slots f.turned.acts f.turned.never g

  pub pop_kept : (word : ℕ) (h : Held) → keeps_of t ≡ true → failed < turns → Turns r s t (turn.Took word h)
      → PopsWithoutNode pop_worn r s (keeping t (Some h) failed) failed turns (Ok (Some (value_of word)))
  pop_kept word h keeps less f =
      let k = f.turned in
      draws_kept pop_worn r s t word h failed turns f.lines (sym f.stored.keeps ∙ keeps) less f.seat f.stored f.slots
      (record { over = k.over; due = k.due; node = k.node; mark = k.mark }) k.acts k.never

  pub pop_empty : failed < turns → Turns r s t turn.Empty → PopsWithoutNode pop_worn r s (keeping t None failed) failed turns (Ok None)
  pop_empty less f = let k = f.turned in draws_empty pop_worn r s t failed turns f.lines less f.seat k.over f.empty f.stored f.slots k.path k.run k.never k.found
