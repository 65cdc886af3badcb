-- The way of a call: its lines one after another, the end of a turn behind them, and what the call leaves.
use Rattle.std.proofs.Common.{◌≡◌, ℕ, false, Option, List, [], ◌∷◌, ◌++◌, sym, refl, ap, ◌∙◌, subst, arith}
use Rattle.line_table.specs.declared.lines.Line.{Line}
use Rattle.node_arena.specs.Machine.{Held, Actor}
use Rattle.node_arena.specs.Traces.{Event, entries_at, sees}
use Rattle.node_arena.specs.Prologues.{Prologue, after_prologue}
use Rattle.node_arena.specs.Arenas.{Arena}
use Rattle.node_arena.specs.declared.seats.Seat.{Seat}
use Rattle.node_arena.specs.Seats.{IsReady, DidStep, view, keeping}
use Rattle.node_arena.specs.Turns.{failed_turns}
use Rattle.node_arena.specs.Paths.{ExtendsPath, added}
use Rattle.node_arena.proofs.Noting.{AnswersSilently}
use Rattle.node_arena.proofs.Paths.{no_pass, pass_then, then_stored, no_slots, then_slots, quiet_slots, added_is, ended_behind, stopped_behind, failed_behind, failed-append, event, pass_on}
use Rattle.free_list.specs.declared.turns.Turn.{Turn}
use Rattle.free_list.specs.declared.turns.Turn.TheVariants.{Took, Failed, Refused}
use Rattle.free_list.specs.declared.turns.Gave.{Gave}
use Rattle.free_list.specs.declared.turns.Gave.TheVariants.{Back, Again}
use Rattle.free_list.specs.Registers.{Running}
use Rattle.free_list.specs.Runs.{Way, GoesTo, Leaves}
use Rattle.free_list.specs.Takes.{Turned, Turns}
use Rattle.free_list.specs.Gives.{GiveTurned, GiveTurns}

-- no line
abbrev pub no_way : {T : Type 0} (s : Seat T) → Way s s
no_way s = record { stored = record { number = refl; role = refl; keeps = refl; pocket = refl; failed = refl }; slots = no_slots s; lines = []; walks = no_pass (view s) }

-- a line adds no entry and notes nothing, and the seat sees nothing there
abbrev pub IsQuiet : {T : Type 0} (r : Arena) (s t : Seat T) (prologue : Prologue) (l : Line) (n : ℕ) → DidStep r s t prologue l n → Type 0
IsQuiet r s t prologue l n d =
    let b : Actor = after_prologue r.plan.setup (view s).number prologue (view s).actor in
    (entries_at r.plan.setup d.told.was (view s).number b l ≡ []) × AnswersSilently r.plan.setup.bits b l × (sees l ≡ false)

-- one such line
abbrev pub one_line : {T : Type 0} (r : Arena) (s t : Seat T) (prologue : Prologue) (l : Line) (n : ℕ) (d : DidStep r s t prologue l n) → IsQuiet r s t prologue l n d → Way s t
one_line r s t prologue l n d quiet =
    record {
      stored = d.stored;
      slots = quiet_slots r s t prologue l n d quiet.0;
      lines = event r s t prologue l n d ∷ [];
      walks = pass_on r s t prologue l n d quiet.0 quiet.1 quiet.2;
    }

-- some lines and then others
abbrev pub then_way : {T : Type 0} {s t u : Seat T} → Way s t → Way t u → Way s u
then_way {T} {s} {t} {u} f g =
    record {
      stored = then_stored s t u f.stored g.stored;
      slots = then_slots s t u f.slots g.slots;
      lines = f.lines ++ g.lines;
      walks = pass_then (view s) (view t) (view u) f.lines g.lines f.walks g.walks;
    }

turned_behind : {T : Type 0} (r : Arena) (s t u : Seat T) (es fs : List Event) → ExtendsPath (view s) (view t) es → (out : Turn) → Turned r t u fs out → Turned r s u (es ++ fs) out
turned_behind r s t u es fs w (Took h) g = record { seat = g.seat; over = g.over; node = g.node; mark = g.mark; there = ended_behind r s t es fs _ w g.there; sole = g.sole }
turned_behind r s t u es fs w Failed g = record { before = g.before; last = failed_behind es fs g.last }
turned_behind r s t u es fs w (Refused refusal) g = record { seat = g.seat; over = g.over; empty = g.empty; cause = stopped_behind r s t es fs refusal w g.cause; possible = g.possible }

given_behind : {T : Type 0} (r : Arena) (u : Seat T) (es fs : List Event) (h : Held) (out : Gave) → GiveTurned r u fs h out → GiveTurned r u (es ++ fs) h out
given_behind r u es fs h Back g = g
given_behind r u es fs h Again g = record { stands = g.stands; last = failed_behind es fs g.last }

-- lines on which so many turns failed, and then a turn of a take, or of a give back
pub then_turn : {T : Type 0} {r : Arena} {s t u : Seat T} {n : ℕ} {out : Turn} (w : Way s t) → failed_turns w.lines ≡ n → Turns r t u 0 out → Turns r s u n out
then_turn {T} {r} {s} {t} {u} {n} {out} w e g =
    record {
      way = then_way w g.way;
      failed = (let f = failed-append w.lines g.way.lines in let k = g.failed in omega arith);
      turned = turned_behind r s t u w.lines g.way.lines w.walks.walks out g.turned;
    }

pub then_give : {T : Type 0} {r : Arena} {s t u : Seat T} {n : ℕ} {h : Held} {out : Gave} (w : Way s t) → failed_turns w.lines ≡ n → GiveTurns r t u 0 h out → GiveTurns r s u n h out
then_give {T} {r} {s} {t} {u} {n} {h} {out} w e g =
    record {
      way = then_way w g.way;
      failed = (let f = failed-append w.lines g.way.lines in let k = g.failed in omega arith);
      turned = given_behind r u w.lines g.way.lines h out g.turned;
    }

-- lines of a turn, and then its end
pub on_turn : {T : Type 0} {r : Arena} {s t u : Seat T} {l : Line} {a : Running} {out : Turn} → GoesTo r s t l a → Turns r t u 0 out → Turns r s u 0 out
on_turn g h = then_turn g.way g.never h

pub on_give : {T : Type 0} {r : Arena} {s t u : Seat T} {l : Line} {a : Running} {h : Held} {out : Gave} → GoesTo r s t l a → GiveTurns r t u 0 h out → GiveTurns r s u 0 h out
on_give g h = then_give g.way g.never h

-- a call that is over keeps a pocket, and the number of its failed turns
pub leaves : {T : Type 0} (r : Arena) (s t : Seat T) (p : Option Held) (n : ℕ) (w : Way s t) → failed_turns w.lines ≡ n → IsReady r (keeping t p n) → Leaves r s (keeping t p n)
leaves r s t p n w f ready =
    let e : added s t ≡ w.lines = added_is s t w.lines w.walks.walks in
    record {
      ready = ready;
      same = record { number = w.stored.number; role = w.stored.role; keeps = w.stored.keeps };
      slots = record { same = w.slots.same; hand = w.slots.hand; tries = w.slots.tries; number = w.slots.number; more = record { between = w.slots.more.between; deeds = w.slots.more.deeds } };
      lines = subst (ExtendsPath (view s) (view t)) (sym e) w.walks.walks;
      seen = w.walks.same;
      failed = sym (ap failed_turns e ∙ f);
    }
