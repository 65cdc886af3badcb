-- A take: its turns one after another, and what it answers.
use Rattle.std.proofs.Common.{◌≡◌, inl, inr, ℕ, zero, suc, ◌+◌, ◌<◌, ◌≤◌, Option, Some, None, Ok, Err, add-one, sym, refl, ap, ◌∙◌, subst, arith}
use Rattle.line_table.specs.declared.lines.Kind.{Kind}
use Rattle.line_table.specs.declared.lines.Kind.TheVariants.{TwoLock, NonBlocking}
use Rattle.line_table.specs.declared.lines.Line.TheVariants.{N1}
use Rattle.history.specs.declared.operations.Op.TheVariants.{Enq}
use Rattle.history.specs.declared.refusals.Refusal.{Refusal}
use Rattle.history.specs.declared.refusals.Refusal.TheVariants.{Busy}
use Rattle.node_arena.specs.Machine.{Held, Actor, with_node, from_pocket, rested}
use Rattle.node_arena.specs.Prologues.{continues, at_rest, out_of}
use Rattle.node_arena.specs.Arenas.{Arena}
use Rattle.node_arena.specs.declared.seats.Seat.{Seat}
use Rattle.node_arena.specs.Seats.{IsReady, view, keeping, pocket_of}
use Rattle.node_arena.specs.Turns.{failed_turns}
use Rattle.node_arena.specs.Paths.{added, MetCause}
use Rattle.free_list.specs.declared.turns.Turn.TheVariants.{Took, Failed, Refused}
use Rattle.node_arena.proofs.Paths.{added_is, last_held, ends_failed, kept_seat, now_kept}
use Rattle.node_arena.proofs.Known.{empty_before}
use Rattle.free_list.specs.Takes.{IsRefusedBy, TakeRefused, Turns, Trying, AnswersTake}
use Rattle.free_list.proofs.Ways.{no_way, then_turn, leaves}

-- an actor that just got a node rests
pub rests_with : (k : Kind) (a : Actor) → a.line ≡ Some (with_node k) → at_rest a ≡ rested a
rests_with TwoLock a e = ap (out_of a) e
rests_with NonBlocking a e = ap (out_of a) e

-- an actor that begins an enqueue with this pocket
abbrev set_out : {T : Type 0} → Arena → Seat T → Option Held → Actor
set_out r s p = from_pocket (with_node r.plan.setup.kind) p (record (at_rest (view s).actor)
    { line = Some N1; op = Enq 0; val = record { from = (view s).number; body = 0 }; due = None; entry = None })

-- a take that sets out
pub sets_out : {T : Type 0} (r : Arena) (s : Seat T) → IsReady r s → pocket_of s ≡ None → Trying r s s 0
sets_out r s h none =
    record {
      before = record { seat = h.seat; can = (refl, h.free); line = ap (λ p. (set_out r s p).line) (sym h.pocket ∙ none) };
      way = no_way s;
      failed = refl;
      last = λ one. absurd (omega arith);
    }

module _ {T : Type 0} (r : Arena) (s t : Seat T) (n : ℕ) (h : Trying r s t n) where
  -- a turn failed
  pub again : (x : Seat T) → Turns r t x 0 Failed → Trying r s x (n + 1)
  again x d =
      let e : Turns r s x n Failed = then_turn h.way h.failed d in
      record { before = rw add-one e.turned.before; way = e.way; failed = e.failed; last = λ some. e.turned.last }

  -- a turn got a node
  pub took : (x : Seat T) (turns : ℕ) (g : Held) → n < turns → Turns r t x 0 (Took g) → AnswersTake r s (keeping x (Some g) n) turns (Ok g)
  took x turns g less d =
      let e : Turns r s x n (Took g) = then_turn h.way h.failed d in
      let rest = rests_with r.plan.setup.kind (view x).actor e.turned.over in
      record {
        leaves =
            leaves r s x (Some g) n e.way (let f = e.failed in omega arith)
            (record {
              seat = kept_seat r x (Some g) n e.turned.seat;
              free = ap (λ a. a.line) rest;
              pocket = (λ i. Some (record { node = sym e.turned.node i; mark = sym e.turned.mark i })) ∙ sym (ap (λ a. a.pocket) rest);
            });
        pocket = refl;
        taken = record {
          there = last_held r s (keeping x (Some g) n) e.way.lines _ (added_is s x e.way.lines e.way.walks.walks) e.turned.there;
          sole = now_kept r x (Some g) n _ e.turned.sole;
        };
        refused = tt;
        fewer = λ other. less;
      }

  -- a turn was refused
  pub refused : (x : Seat T) (turns : ℕ) (refusal : Refusal) → n < turns → Turns r t x 0 (Refused refusal) → AnswersTake r s (keeping x None n) turns (Err refusal)
  refused x turns refusal less d =
      let e : Turns r s x n (Refused refusal) = then_turn h.way h.failed d in
      let rest : at_rest (view x).actor ≡ (view x).actor = ap (out_of (view x).actor) e.turned.over in
      record {
        leaves =
            leaves r s x None n e.way (let f = e.failed in omega arith)
            (record { seat = kept_seat r x None n e.turned.seat; free = ap (λ a. a.line) rest ∙ e.turned.over; pocket = sym (ap (λ a. a.pocket) rest ∙ e.turned.empty) });
        pocket = refl;
        taken = tt;
        refused = by_cause refusal e.turned.possible (last_held r s (keeping x None n) e.way.lines _ (added_is s x e.way.lines e.way.walks.walks) e.turned.cause);
        fewer = λ other. less;
      }
    where
      by_cause : (refusal : Refusal) → IsRefusedBy refusal → MetCause r s (keeping x None n) refusal → TakeRefused r s (keeping x None n) turns refusal
      by_cause refusal (inl e) c = subst (TakeRefused r s (keeping x None n) turns) (sym e) (subst (MetCause r s (keeping x None n)) e c)
      by_cause refusal (inr e) c = subst (TakeRefused r s (keeping x None n) turns) (sym e) (subst (MetCause r s (keeping x None n)) e c)

-- all turns failed
pub gave_up : {T : Type 0} (r : Arena) (s t : Seat T) (turns : ℕ) → 1 ≤ turns → Trying r s t turns → AnswersTake r s (keeping t None turns) turns (Err Busy)
gave_up r s t zero some h = absurd (omega arith)
gave_up r s t (suc m) some h =
    let e : added s t ≡ h.way.lines = added_is s t h.way.lines h.way.walks.walks in
    let rest : at_rest (view t).actor ≡ record (view t).actor { line = None } = ap (out_of (view t).actor) h.before.line in
    record {
      leaves =
          leaves r s t None (suc m) h.way h.failed
          (record { seat = kept_seat r t None (suc m) h.before.seat; free = ap (λ b. b.line) rest; pocket = sym (ap (λ b. b.pocket) rest ∙ empty_before r t continues N1 h.before) });
      pocket = refl;
      taken = tt;
      refused = (ap failed_turns e ∙ h.failed, ends_failed s (keeping t None (suc m)) h.way.lines e (h.last some));
      fewer = λ other. absurd (other refl);
    }
