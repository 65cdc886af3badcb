-- A turn of a push: E5 to E7, and then E9 and E17, or E13, or none.
use Rattle.std.proofs.Common.{◌≡◌, ℕ, Option, Some, None, List, [], ◌∷◌, ◌++◌, sym, refl, ap, subst, ◌∙◌, arith}
use Rattle.counted_ref.specs.Ref.{ref_of}
use Rattle.line_table.specs.declared.lines.Line.{Line}
use Rattle.line_table.specs.declared.lines.Line.TheVariants.{E2, E3, E5, E6, E7, E9, E13, E17}
use Rattle.history.specs.declared.operations.Entry.TheVariants.{Push}
use Rattle.history.specs.declared.operations.Taken.{Taken}
use Rattle.history.specs.declared.refusals.Refusal.{Refusal}
use Rattle.history.specs.declared.refusals.Refusal.TheVariants.{WornOut, Closed}
use Rattle.history.specs.declared.refusals.WornWord.{WornWord}
use Rattle.history.specs.declared.refusals.WornWord.TheVariants.{Next as OfNext, Tail as OfTail}
use Rattle.node_arena.specs.Machine.{Held}
use Rattle.node_arena.specs.Traces.{Event, entries_at, outcome_at}
use Rattle.node_arena.specs.Prologues.{Prologue, continues}
use Rattle.node_arena.specs.Arenas.{Arena}
use Rattle.node_arena.specs.declared.seats.Seat.{Seat}
use Rattle.node_arena.specs.Seats.{DidStep, view}
use Rattle.node_arena.specs.Turns.{failed_at, failed_turns, at_e5}
use Rattle.node_arena.specs.Paths.{ExtendsPath, Acts}
use Rattle.node_arena.proofs.Noting.{IsSilent}
use Rattle.node_arena.proofs.Paths.{walk_then, then_act, act_then, then_stored, then_slots, quiet_slots, failed-append, failed_behind, stopped_behind}
use Rattle.node_arena.proofs.Paths.{then_shut, event, walk_on, walk_silent, shut_on, pass_on, act_on, to_is, stopped_at}
use Rattle.node_arena.specs.Loads.{GivesSlot}
use Rattle.node_arena.proofs.Loads.{gives_slot, gives_then, then_gives}
use Rattle.node_arena.specs.Machine.{value_of}
use Rattle.free_list.specs.declared.outcomes.RowOutcome.{RowOutcome}
use Rattle.free_list.specs.declared.outcomes.RowOutcome.TheVariants.{Goes, Ends}
use Rattle.free_list.specs.declared.outcomes.Reply.{Reply}
use Rattle.free_list.specs.declared.outcomes.Reply.TheVariants.{Done as IsDone, Value as IsValue, Empty as IsEmpty, Refused as IsRefused}
use Rattle.nonblocking.specs.declared.push_outcomes.Turn.{Turn}
use Rattle.nonblocking.specs.declared.push_outcomes.Turn.TheVariants.{Pushed, Failed, Refused as TurnRefused}
use Rattle.nonblocking.specs.Pushes.{Running, in_hand, follow, CallIsAt, Follows, GoesOn, TurnFailed, FoundWorn, SawShut, Stops, Filled, Fills, TailRead, ReadsTail, Turned, TurnMoves, Turns}
use Rattle.free_list.proofs.Registers.{same_registers}
use Rattle.nonblocking.proofs.FailedTurns.{turns_then, fails_last}
use Rattle.nonblocking.proofs.PushStands.{after_e2, after_e5, after_e6, after_e13, after_e17, Worn, AfterE3, after_e3, AfterE7, after_e7, AfterE9, after_e9}

-- after E2
pub to_e3 : {T : Type 0} (r : Arena) (s t : Seat T) (prologue : Prologue) (l : Line) (a b : Running) → CallIsAt r s prologue E2 a
    → Follows r s t prologue E2 a (Goes l b) → CallIsAt r t continues E3 b × (b ≡ a)
to_e3 r s t prologue l a b h f = let e : b ≡ a = same_registers l E3 b a f.leads_to in (subst (CallIsAt r t continues E3) (sym e) (after_e2 r s t prologue f.found a h f.did), e)

-- a word was found worn out at the last of some lines, no turn having failed
module _ {T : Type 0} (r : Arena) (s u t : Seat T) (l : Line) (n : ℕ) (a : Running) (h : CallIsAt r u continues l a) (d : DidStep r u t continues l n)
    (before : List Event) (w : ExtendsPath (view s) (view u) before) where
  found_worn : (p : Option Held) (word : WornWord) (refusal : Refusal) → failed_turns (before ++ event r u t continues l n d ∷ []) ≡ 0
      → Worn r u t continues l n a h d p word refusal → FoundWorn r s t p (before ++ event r u t continues l n d ∷ []) word refusal
  found_worn p word refusal never k =
      record {
        seat = d.seat;
        over = k.over;
        pocket = k.pocket;
        never = never;
        is = k.is;
        cause = stopped_at r u t continues l n d s before (WornOut word) w k.replies;
      }

-- E2 and E3
module _ {T : Type 0} (r : Arena) (s u t : Seat T) (prologue : Prologue) (l : Line) (a b : Running) (out : RowOutcome Running)
    (h : CallIsAt r s prologue E2 a) (f : Follows r s u prologue E2 a (Goes l b)) (g : Follows r u t continues E3 b out) where
  abbrev one : Event
  one = event r s u prologue E2 f.found f.did

  abbrev two : Event
  two = event r u t continues E3 g.found g.did

  first : ExtendsPath (view s) (view u) (one ∷ [])
  first = walk_on r s u prologue E2 f.found f.did refl tt

  at : CallIsAt r u continues E3 b × (b ≡ a)
  at = to_e3 r s u prologue l a b h f

  filled : (o : RowOutcome Running) → AfterE3 r u t continues g.found b at.0 g.did o → Filled r s t a (one ∷ two ∷ []) o
  filled (Goes E5 c) k = (k.0, k.1 ∙ ap (λ (x : Running). x.node) at.1, k.2 ∙ ap (λ (x : Running). x.val) at.1, refl)
  filled (Goes _ c) k = absurd k
  filled (Ends IsDone) k = absurd k
  filled (Ends (IsValue word)) k = absurd k
  filled (Ends IsEmpty) k = absurd k
  filled (Ends (IsRefused refusal)) k = found_worn r s u t E3 g.found b at.0 g.did (one ∷ []) first None OfNext refusal refl k

  pub fills : Fills r s t a out
  fills =
      record {
        stored = then_stored s u t f.did.stored g.did.stored;
        slots = then_slots s u t (quiet_slots r s u prologue E2 f.found f.did refl) (quiet_slots r u t continues E3 g.found g.did refl);
        lines = one ∷ two ∷ [];
        walks = walk_then (view s) (view u) (view t) (one ∷ []) (two ∷ []) first (walk_on r u t continues E3 g.found g.did refl tt);
        filled = subst (Filled r s t a (one ∷ two ∷ [])) (sym g.leads_to) (filled (follow r.plan.setup b E3 g.found) (after_e3 r u t continues g.found b at.0 g.did));
      }

-- after E5
pub to_e6 : {T : Type 0} (r : Arena) (s t : Seat T) (l : Line) (a b : Running) → CallIsAt r s continues E5 a → Follows r s t continues E5 a (Goes l b)
    → CallIsAt r t continues E6 b × (in_hand b ≡ in_hand a) × (b.val ≡ a.val)
to_e6 r s t l a b h f =
    let e = same_registers l E6 b (record a { tail = ref_of r.plan.setup.bits f.found }) f.leads_to in
    (subst (CallIsAt r t continues E6) (sym e) (after_e5 r s t continues f.found a h f.did), ap in_hand e, ap (λ (x : Running). x.val) e)

-- after E6
pub to_e7 : {T : Type 0} (r : Arena) (s t : Seat T) (l : Line) (a b : Running) → CallIsAt r s continues E6 a → Follows r s t continues E6 a (Goes l b)
    → CallIsAt r t continues E7 b × (in_hand b ≡ in_hand a) × (b.val ≡ a.val)
to_e7 r s t l a b h f =
    let e = same_registers l E7 b (record a { next = ref_of r.plan.setup.bits f.found }) f.leads_to in
    (subst (CallIsAt r t continues E7) (sym e) (after_e6 r s t continues f.found a h f.did), ap in_hand e, ap (λ (x : Running). x.val) e)

-- a push before E5 stands there with any registers of the same node, mark and value
stands_e5 : {T : Type 0} (r : Arena) (t : Seat T) (a c : Running) → in_hand c ≡ in_hand a → c.val ≡ a.val → CallIsAt r t continues E5 c → CallIsAt r t continues E5 a
stands_e5 r t a c hand val h =
    record {
      before = h.before;
      hand = record { node = h.hand.node ∙ ap (λ (x : Held). x.node) hand; mark = h.hand.mark ∙ ap (λ (x : Held). x.mark) hand; val = h.hand.val ∙ ap value_of val };
      knows = tt;
    }

-- a line whose turn failed
module _ {T : Type 0} (r : Arena) (s t : Seat T) (l : Line) (n : ℕ) (d : DidStep r s t continues l n) (before : List Event) (never : failed_turns before ≡ 0) (one : failed_at l (Some E5) ≡ 1) where
  slips : (a : Running) → CallIsAt r t continues E5 a → TurnFailed r t a (before ++ event r s t continues l n d ∷ [])
  slips a h =
      record {
        stands = h;
        once = turns_then r s t l n d before (Some E5) h.before.line never ∙ one;
        last = fails_last r s t l n d before (Some E5) h.before.line one;
      }

-- E5 to E7
module _ {T : Type 0} (r : Arena) (s u v t : Seat T) (l k : Line) (a b c : Running) (out : RowOutcome Running) (h : CallIsAt r s continues E5 a)
    (f : Follows r s u continues E5 a (Goes l b)) (g : Follows r u v continues E6 b (Goes k c)) (m : Follows r v t continues E7 c out) where
  abbrev five : Event
  five = event r s u continues E5 f.found f.did

  abbrev six : Event
  six = event r u v continues E6 g.found g.did

  abbrev seven : Event
  seven = event r v t continues E7 m.found m.did

  abbrev before : List Event
  before = five ∷ six ∷ []

  two_lines : ExtendsPath (view s) (view v) before
  two_lines = walk_then (view s) (view u) (view v) (five ∷ []) (six ∷ []) (walk_on r s u continues E5 f.found f.did refl tt) (walk_on r u v continues E6 g.found g.did refl tt)

  at6 : CallIsAt r u continues E6 b × (in_hand b ≡ in_hand a) × (b.val ≡ a.val)
  at6 = to_e6 r s u l a b h f

  at7 : CallIsAt r v continues E7 c × (in_hand c ≡ in_hand b) × (c.val ≡ b.val)
  at7 = to_e7 r u v k b c at6.0 g

  hand : in_hand c ≡ in_hand a
  hand = at7.1 ∙ at6.1

  val : c.val ≡ a.val
  val = at7.2 ∙ at6.2

  counts : (o : Option Line) → (view t).actor.line ≡ o → failed_turns (before ++ seven ∷ []) ≡ failed_at E7 o
  counts o e = turns_then r v t E7 m.found m.did before o e refl

  three_lines : IsSilent (outcome_at r.plan.setup m.did.told.was (view v).number (view v).actor E7).reply → ExtendsPath (view s) (view t) (before ++ seven ∷ [])
  three_lines quiet = walk_then (view s) (view v) (view t) before (seven ∷ []) two_lines (walk_silent r v t continues E7 m.found m.did refl quiet)

  worn_at : (refusal : Refusal) → Worn r v t continues E7 m.found c at7.0 m.did (Some (in_hand c)) OfTail refusal → FoundWorn r s t (Some (in_hand a)) (before ++ seven ∷ []) OfTail refusal
  worn_at refusal y =
      subst (λ p. FoundWorn r s t (Some p) (before ++ seven ∷ []) OfTail refusal) hand
      (found_worn r s v t E7 m.found c at7.0 m.did before two_lines (Some (in_hand c)) OfTail refusal (counts None y.over) y)

  worn_or : (refusal : Refusal) → AfterE7 r v t continues m.found c at7.0 m.did (Ends (IsRefused refusal)) → Stops r s t a (before ++ seven ∷ []) refusal
  worn_or Closed y =
      subst (λ p. SawShut r s t (Some p) (before ++ seven ∷ [])) hand
      (record {
        seat = m.did.seat;
        over = y.over;
        pocket = y.pocket;
        never = counts None y.over;
        finds = then_shut (view s) (view v) (view t) before (seven ∷ []) two_lines (shut_on r v t continues E7 m.found m.did refl y.replies);
        cause = stopped_at r v t continues E7 m.found m.did s before Closed two_lines y.replies;
      })
  worn_or _ y = (three_lines y.1, worn_at _ y.0)

  looked : (o : RowOutcome Running) → AfterE7 r v t continues m.found c at7.0 m.did o → TailRead r s t a (before ++ seven ∷ []) o
  looked (Goes E9 x) y = (three_lines y.2, record { stands = y.0; hand = ap in_hand y.1 ∙ hand; val = ap (λ (z : Running). z.val) y.1 ∙ val; never = counts (Some E9) y.0.before.line })
  looked (Goes E13 x) y = (three_lines y.2, record { stands = y.0; hand = ap in_hand y.1 ∙ hand; val = ap (λ (z : Running). z.val) y.1 ∙ val; never = counts (Some E13) y.0.before.line })
  looked (Goes E5 x) y = (three_lines y.2, slips r v t E7 m.found m.did before refl refl a (stands_e5 r t a x (ap in_hand y.1 ∙ hand) (ap (λ (z : Running). z.val) y.1 ∙ val) y.0))
  looked (Goes _ x) y = absurd y
  looked (Ends IsDone) y = absurd y
  looked (Ends (IsValue word)) y = absurd y
  looked (Ends IsEmpty) y = absurd y
  looked (Ends (IsRefused refusal)) y = worn_or refusal y

  pub looks : ReadsTail r s t a out
  looks =
      record {
        stored = then_stored s v t (then_stored s u v f.did.stored g.did.stored) m.did.stored;
        slots = then_slots s v t (then_slots s u v (quiet_slots r s u continues E5 f.found f.did refl)
            (quiet_slots r u v continues E6 g.found g.did refl)) (quiet_slots r v t continues E7 m.found m.did refl);
        lines = before ++ seven ∷ [];
        looked = subst (TailRead r s t a (before ++ seven ∷ [])) (sym m.leads_to) (looked (follow r.plan.setup c E7 m.found) (after_e7 r v t continues m.found c at7.0 m.did));
      }

-- E9, and E17 where it is to be made
module _ {T : Type 0} (r : Arena) (s t : Seat T) (a : Running) (out : RowOutcome Running) (h : CallIsAt r s continues E9 a) (f : Follows r s t continues E9 a out) where
  abbrev nine : Event
  nine = event r s t continues E9 f.found f.did

  ninth : AfterE9 r s t continues f.found a h f.did out
  ninth = subst (AfterE9 r s t continues f.found a h f.did) (sym f.leads_to) (after_e9 r s t continues f.found a h f.did)

  at_ninth : (o : RowOutcome Running) → out ≡ o → AfterE9 r s t continues f.found a h f.did o
  at_ninth o e = subst (AfterE9 r s t continues f.found a h f.did) e ninth

  acts : entries_at r.plan.setup f.did.told.was (view s).number (view s).actor E9 ≡ Push (view s).number (view s).actor.val.body ∷ []
      → Acts (view s) (view t) (Push (view s).number (value_of a.val).body) (nine ∷ [])
  acts won = act_on r s t continues E9 f.found f.did (Push (view s).number (value_of a.val).body) (won ∙ ap (λ (v : Taken). Push (view s).number v.body ∷ []) h.hand.val) tt

  gave : entries_at r.plan.setup f.did.told.was (view s).number (view s).actor E9 ≡ Push (view s).number (view s).actor.val.body ∷ [] → GivesSlot r (value_of a.val).body s t
  gave won = subst (λ (v : Taken). GivesSlot r v.body s t) h.hand.val (gives_slot r s t continues E9 f.found f.did (view s).number (view s).actor.val.body won)

  -- it was the last line, since Tail is worn out
  links_last : out ≡ Ends IsDone → Turns r s t a Pushed
  links_last e =
      let k = at_ninth (Ends IsDone) e in
      record {
        stored = f.did.stored;
        slots = gave k.2;
        lines = nine ∷ [];
        turned = record { seat = f.did.seat; over = k.0; empty = k.1; never = turns_then r s t E9 f.found f.did [] None k.0 refl; acts = acts k.2 };
      }

  pub links_ended : (answer : Reply) → out ≡ Ends answer → Turns r s t a Pushed
  links_ended IsDone e = links_last e
  links_ended (IsValue word) e = absurd (at_ninth (Ends (IsValue word)) e)
  links_ended IsEmpty e = absurd (at_ninth (Ends IsEmpty) e)
  links_ended (IsRefused refusal) e = absurd (at_ninth (Ends (IsRefused refusal)) e)

  -- it was lost
  pub links_not : (l : Line) (b : Running) → out ≡ Goes l b → (l ≡ E17 → ⊥) → Turns r s t a Failed
  links_not l b e other = go l other (at_ninth (Goes l b) e)
    where
      go : (l : Line) → (l ≡ E17 → ⊥) → AfterE9 r s t continues f.found a h f.did (Goes l b) → Turns r s t a Failed
      go E17 other k = absurd (other refl)
      go E5 other k =
          record {
            stored = f.did.stored;
            slots = quiet_slots r s t continues E9 f.found f.did k.2;
            lines = nine ∷ [];
            turned = (
              walk_on r s t continues E9 f.found f.did k.2 tt,
              slips r s t E9 f.found f.did [] refl refl a (subst (CallIsAt r t continues E5) k.1 k.0),
            );
          }
      go _ other k = absurd k

  pub to_e17 : (l : Line) (b : Running) → out ≡ Goes l b → l ≡ E17 → CallIsAt r t continues E17 b
  to_e17 l b e is = (at_ninth (Goes E17 b) (e ∙ ap (λ k. Goes k b) is)).0

  -- it was won, and E17 was made
  pub links : (u : Seat T) (l : Line) (b : Running) (last : RowOutcome Running) → out ≡ Goes l b → l ≡ E17 → Follows r t u continues E17 b last → Turns r s u a Pushed
  links u l b last e is g =
      let k = at_ninth (Goes E17 b) (e ∙ ap (λ k. Goes k b) is) in
      let over = after_e17 r t u continues g.found b k.0 g.did in
      record {
        stored = then_stored s t u f.did.stored g.did.stored;
        slots = gives_then r (value_of a.val).body s t u (gave k.1) f.did.seat g.did.seat (quiet_slots r t u continues E17 g.found g.did refl) (g.did.told.stays refl);
        lines = nine ∷ event r t u continues E17 g.found g.did ∷ [];
        turned = record {
          seat = g.did.seat;
          over = over.0;
          empty = over.1;
          never = (let z : at_e5 nine.to ≡ 0 = ap at_e5 (to_is r s t continues E9 f.found f.did ∙ k.0.before.line) in omega arith);
          acts = act_then (view s) (view t) (view u) (Push (view s).number (value_of a.val).body) (nine ∷ [])
              (event r t u continues E17 g.found g.did ∷ []) (acts k.1) (pass_on r t u continues E17 g.found g.did refl tt refl);
        };
      }

-- a whole turn
module _ {T : Type 0} (r : Arena) (s t : Seat T) (a : Running) (out : RowOutcome Running) (f : ReadsTail r s t a out) where
  looked_as : (o : RowOutcome Running) → out ≡ o → TailRead r s t a f.lines o
  looked_as o e = subst (TailRead r s t a f.lines) e f.looked

  -- it comes to E9
  pub turn_at_e9 : (l : Line) (c : Running) → out ≡ Goes l c → l ≡ E9 → CallIsAt r t continues E9 c
  turn_at_e9 l c e is = (looked_as (Goes E9 c) (e ∙ ap (λ k. Goes k c) is)).1.stands

  -- the queue was found shut, or Tail worn out
  pub turn_worn : (refusal : Refusal) → out ≡ Ends (IsRefused refusal) → Turns r s t a (TurnRefused refusal)
  turn_worn refusal e = record { stored = f.stored; slots = f.slots; lines = f.lines; turned = looked_as (Ends (IsRefused refusal)) e }

  -- it ends in no other way
  pub turn_ended : (answer : Reply) → ((refusal : Refusal) → answer ≡ IsRefused refusal → ⊥) → out ≡ Ends answer → Turns r s t a Failed
  turn_ended IsDone other e = absurd (looked_as (Ends IsDone) e)
  turn_ended (IsValue word) other e = absurd (looked_as (Ends (IsValue word)) e)
  turn_ended IsEmpty other e = absurd (looked_as (Ends IsEmpty) e)
  turn_ended (IsRefused refusal) other e = absurd (other refusal refl)

  -- Tail was swung
  pub turn_swings : (u : Seat T) (l : Line) (c : Running) (last : RowOutcome Running) → out ≡ Goes l c → l ≡ E13 → Follows r t u continues E13 c last → Turns r s u a Failed
  turn_swings u l c last e is g =
      let both = looked_as (Goes E13 c) (e ∙ ap (λ k. Goes k c) is) in
      let k = both.1 in
      let at = after_e13 r t u continues g.found c k.stands g.did in
      record {
        stored = then_stored s t u f.stored g.did.stored;
        slots = then_slots s t u f.slots (quiet_slots r t u continues E13 g.found g.did refl);
        lines = f.lines ++ event r t u continues E13 g.found g.did ∷ [];
        turned = (
          walk_then (view s) (view t) (view u) f.lines (event r t u continues E13 g.found g.did ∷ []) both.0 (walk_on r t u continues E13 g.found g.did refl tt),
          slips r t u E13 g.found g.did f.lines k.never refl a (stands_e5 r u a c k.hand k.val at),
        );
      }

  -- E9 was made
  pub turn_links : (u : Seat T) (l : Line) (c : Running) (last : Turn) → out ≡ Goes l c → l ≡ E9 → Turns r t u c last → Turns r s u a last
  turn_links u l c last e is g =
      record {
        stored = then_stored s t u f.stored g.stored;
        slots = moved last g.slots;
        lines = f.lines ++ g.lines;
        turned = go last g.turned;
      }
    where
      both : ExtendsPath (view s) (view t) f.lines × GoesOn r t E9 a c f.lines
      both = looked_as (Goes E9 c) (e ∙ ap (λ k. Goes k c) is)

      walks : ExtendsPath (view s) (view t) f.lines
      walks = both.0

      k : GoesOn r t E9 a c f.lines
      k = both.1

      body : (value_of c.val).body ≡ (value_of a.val).body
      body = ap (λ (n : ℕ). (value_of n).body) k.val

      moved : (o : Turn) → TurnMoves r (value_of c.val).body t u o → TurnMoves r (value_of a.val).body s u o
      moved Pushed y = then_gives r (value_of a.val).body s t u f.slots (subst (λ (b : ℕ). GivesSlot r b t u) body y)
      moved Failed y = then_slots s t u f.slots y
      moved (TurnRefused refusal) y = then_slots s t u f.slots y

      none : (m : ℕ) → failed_turns g.lines ≡ m → failed_turns (f.lines ++ g.lines) ≡ m
      none m z = let x = failed-append f.lines g.lines in let y = k.never in omega arith

      worn : (refusal : Refusal) → FoundWorn r t u (Some (in_hand c)) g.lines OfTail refusal → FoundWorn r s u (Some (in_hand a)) (f.lines ++ g.lines) OfTail refusal
      worn refusal y =
          record {
            seat = y.seat;
            over = y.over;
            pocket = y.pocket ∙ ap (λ h. Some h) k.hand;
            never = none 0 y.never;
            is = y.is;
            cause = stopped_behind r s t f.lines g.lines (WornOut OfTail) walks y.cause;
          }

      stops : (refusal : Refusal) → Stops r t u c g.lines refusal → Stops r s u a (f.lines ++ g.lines) refusal
      stops Closed y =
          record {
            seat = y.seat;
            over = y.over;
            pocket = y.pocket ∙ ap (λ h. Some h) k.hand;
            never = none 0 y.never;
            finds = then_shut (view s) (view t) (view u) f.lines g.lines walks y.finds;
            cause = stopped_behind r s t f.lines g.lines Closed walks y.cause;
          }
      stops _ y = (walk_then (view s) (view t) (view u) f.lines g.lines walks y.0, worn _ y.1)

      go : (o : Turn) → Turned r t u c g.lines o → Turned r s u a (f.lines ++ g.lines) o
      go Pushed y =
          record {
            seat = y.seat;
            over = y.over;
            empty = y.empty;
            never = none 0 y.never;
            acts = then_act (view s) (view t) (view u) (Push (view t).number (value_of c.val).body) (Push (view s).number (value_of a.val).body)
                f.lines g.lines (λ i. Push (walks.number i) (body i)) walks y.acts;
          }
      go Failed y = (
        walk_then (view s) (view t) (view u) f.lines g.lines walks y.0,
        record {
          stands = stands_e5 r u a c k.hand k.val y.1.stands;
          once = none 1 y.1.once;
          last = failed_behind f.lines g.lines y.1.last;
        },
      )
      go (TurnRefused refusal) y = stops refusal y
