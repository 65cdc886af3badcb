-- Pops: turns at the lock, one after another, and what they answer.
use Rattle.std.proofs.Common.{◌≡◌, ℕ, zero, suc, ◌+◌, ◌≤◌, Bool, true, false, nat_eq, if◌then◌else◌, [], ◌∷◌, ◌++◌, Option, Some, None, Result, Ok}
use Rattle.std.proofs.Common.{Err, sym, refl, ap, subst, ◌∙◌, arith, add-one, ◌-◌, ◌<◌}
use Rattle.line_table.specs.declared.lines.Line.{Line}
use Rattle.line_table.specs.declared.lines.Line.TheVariants.{B1, B2, F1}
use Rattle.history.specs.declared.operations.Op.TheVariants.{Deq}
use Rattle.history.specs.declared.operations.Taken.{Taken}
use Rattle.history.specs.declared.refusals.Refusal.{Refusal}
use Rattle.history.specs.declared.refusals.Refusal.TheVariants.{Busy, Closed}
use Rattle.history.specs.declared.refusals.WornWord.TheVariants.{Head as OfHead}
use Rattle.node_arena.specs.Machine.{Held, Actor, dequeues, from_pocket, value_of}
use Rattle.node_arena.specs.Traces.{Event}
use Rattle.node_arena.specs.Prologues.{continues, at_rest, out_of}
use Rattle.node_arena.specs.Arenas.{Arena}
use Rattle.node_arena.specs.declared.seats.Seat.{Seat}
use Rattle.node_arena.specs.Loads.{IsBare}
use Rattle.node_arena.specs.Seats.{IsReady, IsBefore, KeepsSlots, view, keeping, pocket_of, keeps_of}
use Rattle.node_arena.specs.Turns.{failed_turns, at_b1}
use Rattle.node_arena.specs.Paths.{ExtendsPath, added}
use Rattle.free_list.specs.Gives.{GiveAnswers}
use Rattle.node_arena.proofs.Known.{empty_before}
use Rattle.node_arena.proofs.Paths.{no_walk, walk_then, then_stored, no_slots, then_slots, quiet_slots, added_is, ends_failed, failed-append}
use Rattle.node_arena.proofs.Paths.{failed_behind, kept_seat, event, walk_on, to_is, failed_last}
use Rattle.node_arena.proofs.Loads.{still_bare, kept_slots}
use Rattle.two_lock.specs.Values.{IsTwoLock}
use Rattle.free_list.specs.declared.outcomes.RowOutcome.{RowOutcome}
use Rattle.free_list.specs.declared.outcomes.RowOutcome.TheVariants.{Goes, Ends}
use Rattle.free_list.specs.declared.outcomes.Reply.{Reply}
use Rattle.free_list.specs.declared.outcomes.Reply.TheVariants.{Done as IsDone, Value as IsValue, Empty as IsEmpty, Refused as IsRefused}
use Rattle.two_lock.specs.Pops.{Running, popping, has_lock, Follows, PopsUnderLock, Trying}
use Rattle.two_lock.specs.Worn.{pop_worn}
use Rattle.arena_queue.specs.Answers.{PopsWithoutNode}
use Rattle.arena_queue.proofs.Pops.{draws_late, draws_worn, draws_shut, draws_taken, draws_kept, draws_empty}
use Rattle.two_lock.proofs.PopStands.{stands_b1, won_b1, lost_b1}

-- an actor that begins a pop with this pocket
abbrev set_out : {T : Type 0} → Arena → Seat T → Option Held → Actor
set_out r s p = from_pocket F1 p (record (at_rest (view s).actor) { line = Some (dequeues r.plan.setup.kind); op = Deq; due = None; entry = None })

-- a pop with an empty pocket sets out
pub pops_out : {T : Type 0} (r : Arena) (s : Seat T) → IsReady r s → pocket_of s ≡ None → IsTwoLock r → Trying r s s 0
pops_out r s h none two =
    record {
      before = record { seat = h.seat; can = (refl, h.free); line = ap (λ p. (set_out r s p).line) (sym h.pocket ∙ none) ∙ ap (λ k. Some (dequeues k)) two };
      stored = record { number = refl; role = refl; keeps = refl; pocket = refl; failed = refl };
      slots = no_slots s;
      lines = [];
      walks = no_walk (view s);
      failed = refl;
      last = λ one. absurd (omega arith);
    }

-- a try of the lock, which got it or failed
module _ {T : Type 0} (r : Arena) (s t u : Seat T) (n : ℕ) (g : Trying r s t n) (a : Running) (out : RowOutcome Running) (f : Follows r t u (popping n) B1 a out) where
  abbrev try : Event
  try = event r t u (popping n) B1 f.found f.did

  tells : (p : Bool) → nat_eq f.found 0 ≡ p → has_lock out ≡ p
  tells true e = ap has_lock (f.leads_to ∙ ap (λ q. if q then Goes B2 a else Goes B1 a) e)
  tells false e = ap has_lock (f.leads_to ∙ ap (λ q. if q then Goes B2 a else Goes B1 a) e)

  found_is : (p : Bool) → has_lock out ≡ p → nat_eq f.found 0 ≡ p
  found_is p e = sym (tells (nat_eq f.found 0) refl) ∙ e

  tried : ExtendsPath (view s) (view u) (g.lines ++ try ∷ [])
  tried = walk_then (view s) (view t) (view u) g.lines (try ∷ []) g.walks (walk_on r t u (popping n) B1 f.found f.did refl tt)

  pub has_got : has_lock out ≡ true → IsBefore r u continues B2
  has_got e = won_b1 r t u (popping n) f.found a (stands_b1 r t (popping n) a g.before) f.did (found_is true e)

  try_slots : KeepsSlots s u
  try_slots = then_slots s t u g.slots (quiet_slots r t u (popping n) B1 f.found f.did refl)

  pub has_bare : IsBare r s → IsBare r u
  has_bare bare = still_bare r s u try_slots bare

  -- a turn failed
  pub pop_again : has_lock out ≡ false → Trying r s u (n + 1)
  pop_again e =
      let x : IsBefore r u continues B1 = lost_b1 r t u (popping n) f.found a (stands_b1 r t (popping n) a g.before) f.did (found_is false e) in
      let z : at_b1 (view u).actor.line ≡ 1 = ap at_b1 x.line in
      let once : failed_turns (try ∷ []) ≡ 1 = (let y : at_b1 try.to ≡ 1 = ap at_b1 (to_is r t u (popping n) B1 f.found f.did) ∙ z in omega arith) in
      record {
        before = rw add-one x;
        stored = then_stored s t u g.stored f.did.stored;
        slots = try_slots;
        lines = g.lines ++ try ∷ [];
        walks = tried;
        failed = omega (arith, failed-append g.lines (try ∷ []), g.failed, once);
        last = λ some. failed_behind g.lines (try ∷ []) (failed_last r t u (popping n) B1 f.found f.did [] z);
      }

  -- the lock was got
  pub pop_ends : (x : Seat T) (spent turns : ℕ) (o : Result (Option Taken) Refusal) → has_lock out ≡ true
      → PopsWithoutNode pop_worn r u x (spent + n) turns o → PopsWithoutNode pop_worn r s x spent turns o
  pop_ends x spent turns o e d =
      let y : IsBefore r u continues B2 = has_got e in
      let none : failed_turns (try ∷ []) ≡ 0 = (let z : at_b1 try.to ≡ 0 = ap at_b1 (to_is r t u (popping n) B1 f.found f.did ∙ y.line) in omega arith) in
      let name = then_stored s t u g.stored f.did.stored in
      draws_late pop_worn r s u x (g.lines ++ try ∷ []) tried spent (spent + n) turns
      (omega (arith, failed-append g.lines (try ∷ []), g.failed, none)) o (record { number = name.number; role = name.role; keeps = name.keeps })
      try_slots d

-- all turns failed
pub pop_gives_up : {T : Type 0} (r : Arena) (s t : Seat T) (spent turns n : ℕ) → 1 ≤ n → spent + n ≡ turns → Trying r s t n → PopsWithoutNode pop_worn r s (keeping t None turns) spent turns (Err Busy)
pop_gives_up r s t spent turns zero some all g = absurd (omega arith)
pop_gives_up r s t spent turns (suc m) some all g =
    let e : added s t ≡ g.lines = added_is s t g.lines g.walks in
    let rest : at_rest (view t).actor ≡ record (view t).actor { line = None } = ap (out_of (view t).actor) g.before.line in
    record {
      ready = record { seat = kept_seat r t None turns g.before.seat; free = ap (λ b. b.line) rest; pocket = sym (ap (λ b. b.pocket) rest ∙ empty_before r t continues B1 g.before) };
      same = record { number = g.stored.number; role = g.stored.role; keeps = g.stored.keeps };
      slots = kept_slots s t None turns g.slots;
      later = record { path = g.walks.path ∙ ap (λ p. (view s).path ++ p) (sym e); run = g.walks.run };
      answer = tt;
      few = tt;
      freed = λ off. tt;
      kept = λ on. tt;
      refused = (
        subst (ExtendsPath (view s) (view t)) (sym e) g.walks,
        ((let c = ap failed_turns e in let f = g.failed in omega arith), ends_failed s (keeping t None turns) g.lines e (g.last some)),
      );
    }

-- what the lines under the lock came to ends the pop
module _ {T : Type 0} (r : Arena) (s t : Seat T) (failed turns : ℕ) where
  pub pop_worn_out : (refusal : Refusal) → PopsUnderLock r s t (Ends (IsRefused refusal)) → PopsWithoutNode pop_worn r s (keeping t None failed) failed turns (Err refusal)
  pop_worn_out Closed f = let k = f.fronted in draws_shut pop_worn r s t failed turns f.lines f.seat k.over f.empty f.stored f.slots k.finds k.cause
  pop_worn_out _ f = let k = f.fronted in draws_worn pop_worn r s t _ OfHead failed turns f.lines f.seat k.over f.empty f.stored f.slots k.walks k.is k.cause tt

  pub pop_took : (x : Seat T) (l : Line) (a : Running) (h : Held) (out : Result (Unit {0}) Refusal) → keeps_of t ≡ false → failed < turns
      → PopsUnderLock r s t (Goes l a) → GiveAnswers r (keeping t (Some h) failed) x (turns - failed) out
      → PopsWithoutNode pop_worn r s x failed turns (Ok (Some (value_of a.val)))
  pop_took x l a h out keeps less f g = draws_taken pop_worn r s t x a.val h failed turns out f.lines (sym f.stored.keeps ∙ keeps) less f.seat f.stored f.slots f.fronted.acts f.never g

  pub pop_kept : (l : Line) (a : Running) (h : Held) → h ≡ record { node = a.node; mark = a.mark } → keeps_of t ≡ true → failed < turns
      → PopsUnderLock r s t (Goes l a) → PopsWithoutNode pop_worn r s (keeping t (Some h) failed) failed turns (Ok (Some (value_of a.val)))
  pop_kept l a h is keeps less f =
      let k = f.fronted in
      draws_kept pop_worn r s t a.val h failed turns f.lines (sym f.stored.keeps ∙ keeps) less f.seat f.stored f.slots
      (record { over = k.over; due = k.due; node = k.node ∙ sym (ap (λ x. x.node) is); mark = k.mark ∙ sym (ap (λ x. x.mark) is) }) k.acts f.never

  pop_empty : failed < turns → PopsUnderLock r s t (Ends IsEmpty) → PopsWithoutNode pop_worn r s (keeping t None failed) failed turns (Ok None)
  pop_empty less f = let k = f.fronted in draws_empty pop_worn r s t failed turns f.lines less f.seat k.over f.empty f.stored f.slots k.path k.run f.never k.found

  -- a pop that ends without a refusal found the queue empty
  pub pop_ended : (answer : Reply) → ((refusal : Refusal) → answer ≡ IsRefused refusal → ⊥) → failed < turns → PopsUnderLock r s t (Ends answer)
      → PopsWithoutNode pop_worn r s (keeping t None failed) failed turns (Ok None)
  pop_ended IsEmpty other less f = pop_empty less f
  pop_ended (IsRefused refusal) other less f = absurd (other refusal refl)
  pop_ended IsDone other less f = absurd f.fronted
  pop_ended (IsValue word) other less f = absurd f.fronted
