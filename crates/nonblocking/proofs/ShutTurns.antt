-- The turns of a shut: S1 to S3, and then S4 or S5, or the end of the call.
use Rattle.std.proofs.Common.{◌≡◌, Option, Some, None, List, [], ◌∷◌, ◌++◌, sym, refl, subst, arith}
use Rattle.counted_ref.specs.Ref.{ref_of}
use Rattle.line_table.specs.declared.lines.Line.{Line}
use Rattle.line_table.specs.declared.lines.Line.TheVariants.{S1, S2, S3, S4, S5}
use Rattle.history.specs.declared.operations.Entry.TheVariants as entry
use Rattle.history.specs.declared.refusals.Refusal.{Refusal}
use Rattle.history.specs.declared.refusals.Refusal.TheVariants.{WornOut, Closed}
use Rattle.history.specs.declared.refusals.WornWord.TheVariants.{Tail as OfTail}
use Rattle.node_arena.specs.Traces.{Event, outcome_at}
use Rattle.node_arena.specs.Prologues.{Prologue, continues}
use Rattle.node_arena.specs.Arenas.{Arena}
use Rattle.node_arena.specs.declared.seats.Seat.{Seat}
use Rattle.node_arena.specs.Seats.{KeepsStored, KeepsSlots, view}
use Rattle.node_arena.specs.Turns.{failed_at, failed_turns}
use Rattle.node_arena.specs.Paths.{ExtendsPath}
use Rattle.node_arena.proofs.Noting.{IsSilent}
use Rattle.node_arena.proofs.Paths.{walk_then, then_act, then_stored, then_slots, quiet_slots, then_shut, stopped_behind, failed_behind}
use Rattle.node_arena.proofs.Paths.{failed-append, event, walk_on, walk_silent, shut_on, act_on, stopped_at}
use Rattle.node_arena.proofs.Loads.{shut_slots}
use Rattle.free_list.specs.declared.outcomes.RowOutcome.{RowOutcome}
use Rattle.free_list.specs.declared.outcomes.RowOutcome.TheVariants.{Goes, Ends}
use Rattle.free_list.specs.declared.outcomes.Reply.TheVariants.{Done as IsDone, Value as IsValue, Empty as IsEmpty, Refused as IsRefused}
use Rattle.free_list.proofs.Registers.{same_registers}
use Rattle.nonblocking.specs.declared.shut_outcomes.Turn.{Turn}
use Rattle.nonblocking.specs.declared.shut_outcomes.Turn.TheVariants as turn
use Rattle.nonblocking.specs.Shuts.{Running, turn_of, HasPocket, CallIsAt, Follows, Stops, EndRead, ReadsEnd, Turned, Turns}
use Rattle.nonblocking.proofs.FailedTurns.{turns_then, fails_last}
use Rattle.nonblocking.proofs.ShutStands.{after_s1, after_s2, after_s5, AfterS3, after_s3, AfterS4, after_s4}

-- after S1 and S2
pub to_s2 : {T : Type 0} (r : Arena) (s t : Seat T) (prologue : Prologue) (l : Line) (a b : Running) → CallIsAt r s prologue S1 a → Follows r s t prologue S1 a (Goes l b) → CallIsAt r t continues S2 b
to_s2 r s t prologue l a b h f = subst (CallIsAt r t continues S2) (sym (same_registers l S2 b (record a { tail = ref_of r.plan.setup.bits f.found })
    f.leads_to)) (after_s1 r s t prologue f.found a h f.did)

pub to_s3 : {T : Type 0} (r : Arena) (s t : Seat T) (l : Line) (a b : Running) → CallIsAt r s continues S2 a → Follows r s t continues S2 a (Goes l b) → CallIsAt r t continues S3 b
to_s3 r s t l a b h f = subst (CallIsAt r t continues S3) (sym (same_registers l S3 b (record a { next = ref_of r.plan.setup.bits f.found }) f.leads_to)) (after_s2 r s t continues f.found a h f.did)

-- the lines S1 to S3
module _ {T : Type 0} (r : Arena) (s u v t : Seat T) (prologue : Prologue) (l k : Line) (a b c : Running) (out : RowOutcome Running)
    (h : CallIsAt r s prologue S1 a) (f : Follows r s u prologue S1 a (Goes l b)) (g : Follows r u v continues S2 b (Goes k c))
    (m : Follows r v t continues S3 c out) where
  abbrev one : Event
  one = event r s u prologue S1 f.found f.did

  abbrev two : Event
  two = event r u v continues S2 g.found g.did

  abbrev three : Event
  three = event r v t continues S3 m.found m.did

  abbrev before : List Event
  before = one ∷ two ∷ []

  two_lines : ExtendsPath (view s) (view v) before
  two_lines = walk_then (view s) (view u) (view v) (one ∷ []) (two ∷ []) (walk_on r s u prologue S1 f.found f.did refl tt) (walk_on r u v continues S2 g.found g.did refl tt)

  at_s3 : CallIsAt r v continues S3 c
  at_s3 = to_s3 r u v k b c (to_s2 r s u prologue l a b h f) g

  counts : (o : Option Line) → (view t).actor.line ≡ o → failed_turns (before ++ three ∷ []) ≡ failed_at S3 o
  counts o e = turns_then r v t S3 m.found m.did before o e refl

  three_lines : IsSilent (outcome_at r.plan.setup m.did.told.was (view v).number (view v).actor S3).reply → ExtendsPath (view s) (view t) (before ++ three ∷ [])
  three_lines quiet = walk_then (view s) (view v) (view t) before (three ∷ []) two_lines (walk_silent r v t continues S3 m.found m.did refl quiet)

  stopped : (refusal : Refusal) → AfterS3 r v t continues m.found c at_s3 m.did (Ends (IsRefused refusal)) → HasPocket r t continues × Stops r s t (before ++ three ∷ []) refusal
  stopped Closed y = (
    y.pocket,
    record {
      over = y.over;
      never = counts None y.over;
      finds = then_shut (view s) (view v) (view t) before (three ∷ []) two_lines (shut_on r v t continues S3 m.found m.did refl y.replies);
      cause = stopped_at r v t continues S3 m.found m.did s before Closed two_lines y.replies;
    },
  )
  stopped _ y = (
    y.0.pocket,
    record {
      over = y.0.over;
      walks = three_lines (subst IsSilent (sym y.0.replies) tt);
      never = counts None y.0.over;
      is = y.1;
      cause = stopped_at r v t continues S3 m.found m.did s before (WornOut OfTail) two_lines y.0.replies;
    },
  )

  by_outcome : (o : RowOutcome Running) → AfterS3 r v t continues m.found c at_s3 m.did o → HasPocket r t continues × EndRead r s t (before ++ three ∷ []) o
  by_outcome (Goes S1 x) y = (
    y.0.pocket,
    record {
      before = y.0.before;
      walks = three_lines y.1;
      once = counts (Some S1) y.0.before.line;
      last = fails_last r v t S3 m.found m.did before (Some S1) y.0.before.line refl;
    },
  )
  by_outcome (Goes S4 x) y = (y.0.pocket, record { stands = y.0; walks = three_lines y.1; never = counts (Some S4) y.0.before.line })
  by_outcome (Goes S5 x) y = (y.0.pocket, record { stands = y.0; walks = three_lines y.1; never = counts (Some S5) y.0.before.line })
  by_outcome (Goes _ x) y = absurd y
  by_outcome (Ends IsDone) y = absurd y
  by_outcome (Ends (IsValue word)) y = absurd y
  by_outcome (Ends IsEmpty) y = absurd y
  by_outcome (Ends (IsRefused refusal)) y = stopped refusal y

  pub looks : ReadsEnd r s t out
  looks =
      let all = by_outcome out (subst (AfterS3 r v t continues m.found c at_s3 m.did) (sym m.leads_to) (after_s3 r v t continues m.found c at_s3 m.did)) in
      record {
        seat = m.did.seat;
        pocket = all.0;
        stored = then_stored s v t (then_stored s u v f.did.stored g.did.stored) m.did.stored;
        slots = then_slots s v t (then_slots s u v (quiet_slots r s u prologue S1 f.found f.did refl)
            (quiet_slots r u v continues S2 g.found g.did refl)) (quiet_slots r v t continues S3 m.found m.did refl);
        lines = before ++ three ∷ [];
        looked = all.1;
      }

-- the line S4
module _ {T : Type 0} (r : Arena) (s t : Seat T) (a : Running) (out : RowOutcome Running) (h : CallIsAt r s continues S4 a) (f : Follows r s t continues S4 a out) where
  abbrev four : Event
  four = event r s t continues S4 f.found f.did

  ended : (o : RowOutcome Running) → AfterS4 r s t continues f.found a h f.did o → HasPocket r t continues × Turned r s t (four ∷ []) (turn_of o)
  ended (Goes S1 x) y = (
    y.0.pocket,
    record {
      before = y.0.before;
      walks = walk_on r s t continues S4 f.found f.did y.1 tt;
      once = turns_then r s t S4 f.found f.did [] (Some S1) y.0.before.line refl;
      last = fails_last r s t S4 f.found f.did [] (Some S1) y.0.before.line refl;
    },
  )
  ended (Goes _ x) y = absurd y
  ended (Ends IsDone) y = (
    y.1,
    record {
      over = y.0;
      acts = act_on r s t continues S4 f.found f.did (entry.Shut (view s).number) y.2 tt;
      never = turns_then r s t S4 f.found f.did [] None y.0 refl;
    },
  )
  ended (Ends (IsValue word)) y = absurd y
  ended (Ends IsEmpty) y = absurd y
  ended (Ends (IsRefused refusal)) y = absurd y

  pub puts_end : Turns r s t (turn_of out)
  puts_end =
      let all = ended out (subst (AfterS4 r s t continues f.found a h f.did) (sym f.leads_to) (after_s4 r s t continues f.found a h f.did)) in
      record { seat = f.did.seat; pocket = all.0; stored = f.did.stored; slots = shut_slots r s t continues S4 f.found f.did (view s).number _ refl; lines = four ∷ []; turned = all.1 }

-- Tail is swung on, and the turn failed
pub swings : {T : Type 0} (r : Arena) (s t : Seat T) (a : Running) (out : RowOutcome Running) → CallIsAt r s continues S5 a → Follows r s t continues S5 a out → Turns r s t turn.Failed
swings r s t a out h f =
    let k : CallIsAt r t continues S1 a = after_s5 r s t continues f.found a h f.did in
    record {
      seat = f.did.seat;
      pocket = k.pocket;
      stored = f.did.stored;
      slots = quiet_slots r s t continues S5 f.found f.did refl;
      lines = event r s t continues S5 f.found f.did ∷ [];
      turned = record {
        before = k.before;
        walks = walk_on r s t continues S5 f.found f.did refl tt;
        once = turns_then r s t S5 f.found f.did [] (Some S1) k.before.line refl;
        last = fails_last r s t S5 f.found f.did [] (Some S1) k.before.line refl;
      };
    }

-- lines of a turn before its last ones
module _ {T : Type 0} (r : Arena) (s t x : Seat T) (es : List Event) (stored : KeepsStored s t) (slots : KeepsSlots s t) (w : ExtendsPath (view s) (view t) es) (never : failed_turns es ≡ 0) where
  behind : (out : Turn) (fs : List Event) → Turned r t x fs out → Turned r s x (es ++ fs) out
  behind turn.Shut fs k =
      record {
        over = k.over;
        acts = then_act (view s) (view t) (view x) (entry.Shut (view t).number) (entry.Shut (view s).number) es fs (λ i. entry.Shut (w.number i)) w k.acts;
        never = omega (arith, failed-append es fs, never, k.never);
      }
  behind turn.Failed fs k =
      record {
        before = k.before;
        walks = walk_then (view s) (view t) (view x) es fs w k.walks;
        once = omega (arith, failed-append es fs, never, k.once);
        last = failed_behind es fs k.last;
      }
  behind (turn.Refused refusal) fs k = stops refusal k
    where
      stops : (refusal : Refusal) → Stops r t x fs refusal → Stops r s x (es ++ fs) refusal
      stops Closed k =
          record {
            over = k.over;
            never = omega (arith, failed-append es fs, never, k.never);
            finds = then_shut (view s) (view t) (view x) es fs w k.finds;
            cause = stopped_behind r s t es fs Closed w k.cause;
          }
      stops _ k =
          record {
            over = k.over;
            walks = walk_then (view s) (view t) (view x) es fs w k.walks;
            never = omega (arith, failed-append es fs, never, k.never);
            is = k.is;
            cause = stopped_behind r s t es fs (WornOut OfTail) w k.cause;
          }

  pub turn_behind : (out : Turn) → Turns r t x out → Turns r s x out
  turn_behind out d = record {
    seat = d.seat;
    pocket = d.pocket;
    stored = then_stored s t x stored d.stored;
    slots = then_slots s t x slots d.slots;
    lines = es ++ d.lines;
    turned = behind out d.lines d.turned;
  }
