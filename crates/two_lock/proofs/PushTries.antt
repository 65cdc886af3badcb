-- A push that has its node: it sets out, links the node, and its turns.
use Rattle.std.proofs.Common.{◌≡◌, ℕ, ◌+◌, ◌*◌, ◌^◌, ◌<◌, Bool, true, false, nat_eq, if◌then◌else◌, List, [], ◌∷◌, ◌++◌, Option, Some, None, Ok, Err, sym, refl, ap, subst, ◌∙◌, arith, lt-ltb}
use Rattle.line_table.specs.declared.lines.Line.{Line}
use Rattle.line_table.specs.declared.lines.Line.TheVariants.{N1, A1, A2, A3, A4, A5, A6, A7}
use Rattle.counted_ref.specs.Ref.{ref_of, null, same_ref}
use Rattle.history.specs.declared.operations.Entry.TheVariants.{Push}
use Rattle.history.specs.declared.operations.Op.TheVariants.{Enq}
use Rattle.history.specs.declared.operations.Taken.{Taken}
use Rattle.history.specs.declared.operations.Entry.{Entry}
use Rattle.history.specs.declared.refusals.Refusal.{Refusal}
use Rattle.history.specs.declared.refusals.Refusal.TheVariants.{Busy, Closed}
use Rattle.node_arena.specs.Machine.{Held, Actor, with_node, from_pocket}
use Rattle.node_arena.specs.Traces.{Event, entries_at}
use Rattle.node_arena.specs.Prologues.{Prologue, begins, continues, at_rest, out_of}
use Rattle.node_arena.specs.Arenas.{Arena}
use Rattle.node_arena.specs.declared.seats.Seat.{Seat}
use Rattle.node_arena.specs.Seats.{IsReady, view, pocket_of, keeping}
use Rattle.node_arena.specs.Turns.{failed_turns, at_a3}
use Rattle.node_arena.specs.Paths.{ExtendsPath, FindsShut, StopsAPush, Acts, added}
use Rattle.node_arena.proofs.Noting.{IsSilent}
use Rattle.node_arena.specs.Loads.{IsLoaded, GivesSlot}
use Rattle.node_arena.proofs.Loads.{kept_slots, kept_gives, still_loaded, loaded_as, gives_slot, gives_then, then_gives}
use Rattle.node_arena.proofs.Paths.{then_shut, shut_on, stopped_at, stopped_behind, last_held, walk_then, then_act, act_then, pass_then, then_stored}
use Rattle.node_arena.proofs.Paths.{then_slots, quiet_slots, added_is, added_path, failed-append, failed_behind, kept_seat, ends_failed, event}
use Rattle.node_arena.proofs.Paths.{walk_on, pass_on, act_on, to_is, failed_last}
use Rattle.two_lock.specs.Values.{IsTwoLock}
use Rattle.node_arena.specs.Machine.{value_of}
use Rattle.free_list.specs.declared.outcomes.RowOutcome.{RowOutcome}
use Rattle.free_list.specs.declared.outcomes.RowOutcome.TheVariants.{Goes}
use Rattle.free_list.specs.declared.outcomes.Reply.TheVariants.{Done, Refused as IsRefused}
use Rattle.two_lock.specs.Pushes.{Running, registers_of, in_hand, told_by, has_lock, CallIsAt, Follows, PushesUnderLock, Trying}
use Rattle.two_lock.specs.Worn.{push_worn}
use Rattle.arena_queue.specs.Answers.{PushWithNodeCaused, PushesWithNode}
use Rattle.node_arena.proofs.Values.{value_of-word}
use Rattle.free_list.proofs.Registers.{same_registers}
use Rattle.two_lock.proofs.PushStands.{after_a1, after_a2, won_a3, lost_a3, after_a4, won_a5, lost_a5, after_a6, after_a7, shut_a7}
use Rattle.two_lock.proofs.Lines.{same_line}

-- an actor that begins a push with this pocket
abbrev set_out : {T : Type 0} → Arena → Seat T → ℕ → Option Held → Actor
set_out r s body p = from_pocket (with_node r.plan.setup.kind) p (record (at_rest (view s).actor)
    { line = Some N1; op = Enq body; val = record { from = (view s).number; body = body }; due = None; entry = None })

-- a push with a full pocket sets out
pub pushes_out : {T : Type 0} (r : Arena) (s : Seat T) (h : Held) (from body val : ℕ) (a : Running) → a ≡ registers_of h val → IsReady r s
    → pocket_of s ≡ Some h → IsTwoLock r → body < 2 ^ 48 → from ≡ s.number → val ≡ from * 2 ^ 48 + body
    → CallIsAt r s (begins (Enq (value_of a.val).body)) A1 a
pushes_out r s h from body val a is i full two small same word = subst (λ (x : Running). CallIsAt r s (begins (Enq (value_of x.val).body)) A1 x) (sym is) out
  where
    e : (at_rest (view s).actor).pocket ≡ Some h
    e = sym i.pocket ∙ full

    parts : value_of val ≡ record { from = from; body = body }
    parts = value_of-word val from body small word

    low : (value_of val).body < 2 ^ 48
    low = omega arith

    out : CallIsAt r s (begins (Enq (value_of val).body)) A1 (registers_of h val)
    out =
        record {
          before = record { seat = i.seat; can = (lt-ltb (value_of val).body (2 ^ 48) low, i.free); line = ap (λ p. (set_out r s (value_of val).body p).line) e ∙ ap (λ k. Some (with_node k)) two };
          hand = record {
            node = ap (λ p. (set_out r s (value_of val).body p).node) e;
            mark = ap (λ p. (set_out r s (value_of val).body p).mark) e;
            val = ap (λ p. (set_out r s (value_of val).body p).val) e ∙ ap (λ (k : ℕ). record { from = k; body = (value_of val).body })
                (sym (same ∙ i.seat.sits.number) ∙ sym (ap (λ (v : Taken). v.from) parts));
          };
          knows = tt;
        }

-- after A1
pub to_a2 : {T : Type 0} (r : Arena) (s t : Seat T) (prologue : Prologue) (l : Line) (a b : Running) → CallIsAt r s prologue A1 a
    → Follows r s t prologue A1 a (Goes l b) → CallIsAt r t continues A2 b × (b ≡ a)
to_a2 r s t prologue l a b h f = let e : b ≡ a = same_registers l A2 b a f.leads_to in (subst (CallIsAt r t continues A2) (sym e) (after_a1 r s t prologue f.found a h f.did), e)

-- after A2
pub to_a3 : {T : Type 0} (r : Arena) (s t : Seat T) (l : Line) (a b : Running) → CallIsAt r s continues A2 a → Follows r s t continues A2 a (Goes l b) → CallIsAt r t continues A3 b × (b ≡ a)
to_a3 r s t l a b h f = let e : b ≡ a = same_registers l A3 b a f.leads_to in (subst (CallIsAt r t continues A3) (sym e) (after_a2 r s t continues f.found a h f.did), e)

-- before its first try of the lock
pub first_try : {T : Type 0} (r : Arena) (s u t : Seat T) (prologue : Prologue) (h : Held) (val spent : ℕ) (l k : Line) (a b c : Running)
    → a ≡ registers_of h val → CallIsAt r s prologue A1 a → Follows r s u prologue A1 a (Goes l b) → Follows r u t continues A2 b (Goes k c)
    → Trying r s t h val spent spent
first_try r s u t prologue h val spent l k a b c is st f g =
    let one : Event = event r s u prologue A1 f.found f.did in
    let two : Event = event r u t continues A2 g.found g.did in
    let to : CallIsAt r u continues A2 b × (b ≡ a) = to_a2 r s u prologue l a b st f in
    let on : CallIsAt r t continues A3 c × (c ≡ b) = to_a3 r u t k b c to.0 g in
    record {
      stands = subst (CallIsAt r t continues A3) (on.1 ∙ to.1 ∙ is) on.0;
      stored = then_stored s u t f.did.stored g.did.stored;
      slots = then_slots s u t (quiet_slots r s u prologue A1 f.found f.did refl) (quiet_slots r u t continues A2 g.found g.did refl);
      lines = one ∷ two ∷ [];
      walks = walk_then (view s) (view u) (view t) (one ∷ []) (two ∷ []) (walk_on r s u prologue A1 f.found f.did refl tt) (walk_on r u t continues A2 g.found g.did refl tt);
      failed = omega arith;
      last = λ less. absurd (omega arith);
    }

-- a try of the lock that got it, and one that failed
module _ {T : Type 0} (r : Arena) (t u : Seat T) (a : Running) (out : RowOutcome Running) (h : CallIsAt r t continues A3 a) (f : Follows r t u continues A3 a out) where
  abbrev try : Event
  try = event r t u continues A3 f.found f.did

  tells : (p : Bool) → nat_eq f.found 0 ≡ p → has_lock out ≡ p
  tells true e = ap has_lock (f.leads_to ∙ ap (λ q. if q then Goes A4 a else Goes A3 a) e)
  tells false e = ap has_lock (f.leads_to ∙ ap (λ q. if q then Goes A4 a else Goes A3 a) e)

  found_is : (p : Bool) → has_lock out ≡ p → nat_eq f.found 0 ≡ p
  found_is p e = sym (tells (nat_eq f.found 0) refl) ∙ e

  pub try_walk : ExtendsPath (view t) (view u) (try ∷ [])
  try_walk = walk_on r t u continues A3 f.found f.did refl tt

  pub got : has_lock out ≡ true → CallIsAt r u continues A4 a × (failed_turns (try ∷ []) ≡ 0)
  got e =
      let x = won_a3 r t u continues f.found a h f.did (found_is true e) in
      (x, (let z : at_a3 try.to ≡ 0 = ap at_a3 (to_is r t u continues A3 f.found f.did ∙ x.before.line) in omega arith))

  pub lost : has_lock out ≡ false → CallIsAt r u continues A3 a
  lost e = lost_a3 r t u continues f.found a h f.did (found_is false e)

-- a turn failed
pub next_try : {T : Type 0} (r : Arena) (s t u : Seat T) (h : Held) (val spent n : ℕ) (a : Running) (out : RowOutcome Running) → a ≡ registers_of h val
    → Trying r s t h val spent n → Follows r t u continues A3 a out → has_lock out ≡ false → Trying r s u h val spent (n + 1)
next_try r s t u h val spent n a out is g follows e =
    let f : Follows r t u continues A3 (registers_of h val) out = subst (λ x. Follows r t u continues A3 x out) is follows in
    let try : Event = event r t u continues A3 f.found f.did in
    let x : CallIsAt r u continues A3 (registers_of h val) = lost r t u (registers_of h val) out g.stands f e in
    let z : at_a3 (view u).actor.line ≡ 1 = ap at_a3 x.before.line in
    let once : failed_turns (try ∷ []) ≡ 1 = (let y : at_a3 try.to ≡ 1 = ap at_a3 (to_is r t u continues A3 f.found f.did) ∙ z in omega arith) in
    record {
      stands = x;
      stored = then_stored s t u g.stored f.did.stored;
      slots = then_slots s t u g.slots (quiet_slots r t u continues A3 f.found f.did refl);
      lines = g.lines ++ try ∷ [];
      walks = walk_then (view s) (view t) (view u) g.lines (try ∷ []) g.walks (try_walk r t u (registers_of h val) out g.stands f);
      failed = omega (arith, failed-append g.lines (try ∷ []), g.failed, once);
      last = λ less. failed_behind g.lines (try ∷ []) (failed_last r t u continues A3 f.found f.did [] z);
    }

-- after A4
pub to_a5 : {T : Type 0} (r : Arena) (s u : Seat T) (a b : Running) (l : Line) → CallIsAt r s continues A4 a → Follows r s u continues A4 a (Goes l b) → CallIsAt r u continues A5 b
to_a5 r s u a b l h f = subst (CallIsAt r u continues A5) (sym (same_registers l A5 b (record a { tail = ref_of r.plan.setup.bits f.found }) f.leads_to)) (after_a4 r s u continues f.found a h f.did)

-- before A4 the slot of the body is still out with the seat
pub loaded_at_a4 : {T : Type 0} (r : Arena) (s t u : Seat T) (h : Held) (val : ℕ) (a b : Running) (out : RowOutcome Running) (from body given spent n : ℕ)
    → b ≡ registers_of h val → Trying r s t h val spent n → Follows r t u continues A3 a out → body < 2 ^ 48 → val ≡ from * 2 ^ 48 + body
    → body ≡ given → IsLoaded r given s → IsLoaded r (value_of b.val).body u
loaded_at_a4 r s t u h val a b out from body given spent n same g f small word is loaded =
    let bodies : (value_of val).body ≡ given = ap (λ (v : Taken). v.body) (value_of-word val from body small word) ∙ is in
    loaded_as r given (value_of b.val).body u (sym (ap (λ (x : Running). (value_of x.val).body) same ∙ bodies))
    (still_loaded r given s u (then_slots s t u g.slots (quiet_slots r t u continues A3 f.found f.did refl)) loaded)

-- and before A5
pub loaded_at_a5 : {T : Type 0} (r : Arena) (s u : Seat T) (a b : Running) (l : Line) → Follows r s u continues A4 a (Goes l b)
    → IsLoaded r (value_of a.val).body s → IsLoaded r (value_of b.val).body u
loaded_at_a5 r s u a b l f loaded =
    let same : b ≡ record a { tail = ref_of r.plan.setup.bits f.found } = same_registers l A5 b (record a { tail = ref_of r.plan.setup.bits f.found }) f.leads_to in
    loaded_as r (value_of a.val).body (value_of b.val).body u (sym (ap (λ (x : Running). (value_of x.val).body) same))
    (still_loaded r (value_of a.val).body s u (quiet_slots r s u continues A4 f.found f.did refl) loaded)

-- after A5: the node was linked, or the queue was found shut
module _ {T : Type 0} (r : Arena) (s u : Seat T) (a b : Running) (l : Line) (h : CallIsAt r s continues A5 a) (f : Follows r s u continues A5 a (Goes l b)) where
  abbrev added_there : List Entry
  added_there = entries_at r.plan.setup f.did.told.was (view s).number (view s).actor A5

  pub to_a6 : (l ≡ A7 → ⊥) → CallIsAt r u continues A6 b × (b.due ≡ Some Done) × (b.val ≡ a.val) × (added_there ≡ Push (view s).number (view s).actor.val.body ∷ [])
  to_a6 other = go (same_ref (ref_of r.plan.setup.bits f.found) null) refl f.leads_to
    where
      go : (p : Bool) → same_ref (ref_of r.plan.setup.bits f.found) null ≡ p → Goes l b ≡ (if p then Goes A6 (record a { due = Some Done }) else Goes A7 (record a { due = Some (IsRefused Closed) }))
          → CallIsAt r u continues A6 b × (b.due ≡ Some Done) × (b.val ≡ a.val) × (added_there ≡ Push (view s).number (view s).actor.val.body ∷ [])
      go true e q =
          let same : b ≡ record a { due = Some Done } = same_registers l A6 b (record a { due = Some Done }) q in
          let k = won_a5 r s u continues f.found a h f.did e in
          (subst (CallIsAt r u continues A6) (sym same) k.0, ap (λ (x : Running). x.due) same, ap (λ (x : Running). x.val) same, k.1)
      go false e q = absurd (other (same_line l A7 b _ q))

  pub to_shut : l ≡ A7 → CallIsAt r u continues A7 b × (b.due ≡ Some (IsRefused Closed)) × (in_hand b ≡ in_hand a) × (added_there ≡ [])
  to_shut is = go (same_ref (ref_of r.plan.setup.bits f.found) null) refl f.leads_to
    where
      go : (p : Bool) → same_ref (ref_of r.plan.setup.bits f.found) null ≡ p → Goes l b ≡ (if p then Goes A6 (record a { due = Some Done }) else Goes A7 (record a { due = Some (IsRefused Closed) }))
          → CallIsAt r u continues A7 b × (b.due ≡ Some (IsRefused Closed)) × (in_hand b ≡ in_hand a) × (added_there ≡ [])
      go true e q = absurd (let w : A7 ≡ A6 = sym is ∙ same_line l A6 b _ q in cc)
      go false e q =
          let same : b ≡ record a { due = Some (IsRefused Closed) } = same_registers l A7 b (record a { due = Some (IsRefused Closed) }) q in
          let k = lost_a5 r s u continues f.found a h f.did e in
          (subst (CallIsAt r u continues A7) (sym same) k.0, ap (λ (x : Running). x.due) same, ap in_hand same, k.1)

-- after A6
pub to_a7 : {T : Type 0} (r : Arena) (s u : Seat T) (a b : Running) (l : Line) → CallIsAt r s continues A6 a → Follows r s u continues A6 a (Goes l b) → CallIsAt r u continues A7 b
to_a7 r s u a b l h f = subst (CallIsAt r u continues A7) (sym (same_registers l A7 b a f.leads_to)) (after_a6 r s u continues f.found a h f.did)

-- A4 and A5
module _ {T : Type 0} (r : Arena) (s u t : Seat T) (a b c : Running) (j k : Line) (h : CallIsAt r s continues A4 a)
    (f : Follows r s u continues A4 a (Goes j b)) (g : Follows r u t continues A5 b (Goes k c)) where
  at_a5 : CallIsAt r u continues A5 b
  at_a5 = to_a5 r s u a b j h f

  same_b : b ≡ record a { tail = ref_of r.plan.setup.bits f.found }
  same_b = same_registers j A5 b (record a { tail = ref_of r.plan.setup.bits f.found }) f.leads_to

  body_is : (view u).actor.val.body ≡ (value_of a.val).body
  body_is = ap (λ (v : Taken). v.body) (at_a5.hand.val ∙ ap (λ (z : Running). value_of z.val) same_b)

  first : ExtendsPath (view s) (view u) (event r s u continues A4 f.found f.did ∷ [])
  first = walk_on r s u continues A4 f.found f.did refl tt

  -- the node is linked: A4 to A7
  pub links : (x y : Seat T) (d : Running) (l : Line) (last : RowOutcome Running) → (k ≡ A7 → ⊥) → Follows r t x continues A6 c (Goes l d)
      → Follows r x y continues A7 d last → PushesUnderLock r s y a (Ok tt)
  links x y d l last other m o =
      let won = to_a6 r u t b c k at_a5 g other in
      let at_a7 : CallIsAt r x continues A7 d = to_a7 r t x c d l won.0 m in
      let due : d.due ≡ Some Done = ap (λ (z : Running). z.due) (same_registers l A7 d c m.leads_to) ∙ won.1 in
      let over = after_a7 r x y continues o.found d at_a7 o.did due in
      let acts : Acts (view u) (view t) (Push (view u).number (view u).actor.val.body) (event r u t continues A5 g.found g.did ∷ []) =
      act_on r u t continues A5 g.found g.did (Push (view u).number (view u).actor.val.body) won.3 tt in
      let before : Acts (view s) (view t) (Push (view s).number (value_of a.val).body) (event r s u continues A4 f.found f.did ∷ event r u t continues A5 g.found g.did ∷ []) =
      then_act (view s) (view u) (view t) (Push (view u).number (view u).actor.val.body) (Push (view s).number (value_of a.val).body)
      (event r s u continues A4 f.found f.did ∷ []) (event r u t continues A5 g.found g.did ∷ []) (λ i. Push (first.number i) (body_is i)) first
      acts in
      let quiet : IsSilent (view x).actor.due = subst IsSilent (sym (at_a7.knows ∙ ap told_by due)) tt in
      let gave : GivesSlot r (value_of a.val).body s t = then_gives r (value_of a.val).body s u t (quiet_slots r s u continues A4 f.found f.did refl)
      (subst (λ (n : ℕ). GivesSlot r n u t) body_is (gives_slot r u t continues A5 g.found g.did (view u).number (view u).actor.val.body won.3))
      in
      let behind = pass_then (view t) (view x) (view y) (event r t x continues A6 m.found m.did ∷ []) (event r x y continues A7 o.found o.did ∷ [])
      (pass_on r t x continues A6 m.found m.did refl tt refl) (pass_on r x y continues A7 o.found o.did refl quiet refl) in
      record {
        seat = o.did.seat;
        over = over.0;
        stored = then_stored s x y (then_stored s t x (then_stored s u t f.did.stored g.did.stored) m.did.stored) o.did.stored;
        slots = gives_then r (value_of a.val).body s x y
            (gives_then r (value_of a.val).body s t x gave g.did.seat m.did.seat (quiet_slots r t x continues A6 m.found m.did refl) (m.did.told.stays refl))
            m.did.seat o.did.seat (quiet_slots r x y continues A7 o.found o.did refl) (o.did.told.stays refl);
        lines = event r s u continues A4 f.found f.did ∷ event r u t continues A5 g.found g.did ∷ event r t x continues A6 m.found m.did ∷ event r x y continues A7 o.found o.did ∷ [];
        never = refl;
        links = record {
          empty = over.1;
          acts = act_then (view s) (view t) (view y) (Push (view s).number (value_of a.val).body)
              (event r s u continues A4 f.found f.did ∷ event r u t continues A5 g.found g.did ∷ [])
              (event r t x continues A6 m.found m.did ∷ event r x y continues A7 o.found o.did ∷ []) before behind;
        };
      }

  -- the queue was found shut: A4, A5 and A7
  pub finds_shut : (y : Seat T) (last : RowOutcome Running) → k ≡ A7 → Follows r t y continues A7 c last → PushesUnderLock r s y a (Err Closed)
  finds_shut y last is o =
      let lost = to_shut r u t b c k at_a5 g is in
      let over = shut_a7 r t y continues o.found c lost.0 o.did lost.1 in
      let walks : ExtendsPath (view s) (view t) (event r s u continues A4 f.found f.did ∷ event r u t continues A5 g.found g.did ∷ []) =
      walk_then (view s) (view u) (view t) (event r s u continues A4 f.found f.did ∷ []) (event r u t continues A5 g.found g.did ∷ []) first (walk_on r u t continues A5 g.found g.did lost.3 tt) in
      record {
        seat = o.did.seat;
        over = over.0;
        stored = then_stored s t y (then_stored s u t f.did.stored g.did.stored) o.did.stored;
        slots = then_slots s t y (then_slots s u t (quiet_slots r s u continues A4 f.found f.did refl)
            (quiet_slots r u t continues A5 g.found g.did lost.3)) (quiet_slots r t y continues A7 o.found o.did refl);
        lines = event r s u continues A4 f.found f.did ∷ event r u t continues A5 g.found g.did ∷ event r t y continues A7 o.found o.did ∷ [];
        never = refl;
        links = record {
          pocket = over.1 ∙ ap (λ q. Some q) (lost.2 ∙ ap in_hand same_b);
          is = refl;
          finds = then_shut (view s) (view t) (view y) (event r s u continues A4 f.found f.did ∷ event r u t continues A5 g.found g.did ∷ [])
              (event r t y continues A7 o.found o.did ∷ []) walks (shut_on r t y continues A7 o.found o.did refl over.2);
          cause = stopped_at r t y continues A7 o.found o.did s (event r s u continues A4 f.found f.did ∷ event r u t continues A5 g.found g.did ∷ []) Closed walks over.2;
        };
      }

-- the body was pushed
pub puts_it : {T : Type 0} (r : Arena) (s t u x : Seat T) (h : Held) (val : ℕ) (a b : Running) (out : RowOutcome Running)
    (from numbered body spent n turns : ℕ) → a ≡ registers_of h val → b ≡ registers_of h val → Trying r s t h val spent n → Follows r t u continues A3 a out → has_lock out ≡ true
    → PushesUnderLock r u x b (Ok tt) → numbered < 2 ^ 48 → val ≡ from * 2 ^ 48 + numbered → n < turns → numbered ≡ body
    → PushesWithNode push_worn r s (keeping x None n) h.node body spent turns (Ok tt)
puts_it r s t u x h val a b out from numbered body spent n turns is same g follows won linked small word less told =
    let f : Follows r t u continues A3 (registers_of h val) out = subst (λ x. Follows r t u continues A3 x out) is follows in
    let k : PushesUnderLock r u x (registers_of h val) (Ok tt) = subst (λ y. PushesUnderLock r u x y (Ok tt)) same linked in
    let bodies : (value_of val).body ≡ body = ap (λ (v : Taken). v.body) (value_of-word val from numbered small word) ∙ told in
    let try : Event = event r t u continues A3 f.found f.did in
    let one = got r t u (registers_of h val) out g.stands f won in
    let before : List Event = g.lines ++ try ∷ [] in
    let w : ExtendsPath (view s) (view u) before = walk_then (view s) (view t) (view u) g.lines (try ∷ []) g.walks (try_walk r t u (registers_of h val) out g.stands f) in
    let es : List Event = before ++ k.lines in
    let acts : Acts (view s) (view x) (Push (view s).number body) es = then_act (view s) (view u) (view x) (Push (view u).number (value_of val).body)
    (Push (view s).number body) before k.lines (λ i. Push (w.number i) (bodies i)) w k.links.acts in
    let e : added s x ≡ es = added_path s x es acts.path in
    let name = then_stored s u x (then_stored s t u g.stored f.did.stored) k.stored in
    let rest : at_rest (view x).actor ≡ (view x).actor = ap (out_of (view x).actor) k.over in
    record {
      ready = record { seat = kept_seat r x None n k.seat; free = ap (λ b. b.line) rest ∙ k.over; pocket = sym (ap (λ b. b.pocket) rest ∙ k.links.empty) };
      same = record { number = name.number; role = name.role; keeps = name.keeps };
      slots = kept_gives r body s x None n (then_gives r body s u x (then_slots s t u g.slots (quiet_slots r t u continues A3 f.found f.did refl))
          (subst (λ (b : ℕ). GivesSlot r b u x) bodies k.slots));
      pushed = (
        subst (Acts (view s) (view x) (Push (view s).number body)) (sym e) acts,
        refl,
        (let c = ap failed_turns e in omega (arith, failed-append before k.lines, failed-append g.lines (try ∷ []), g.failed, one.1, k.never, c)),
      );
      refused = tt;
    }

-- the queue was found shut
pub finds_it_shut : {T : Type 0} (r : Arena) (s t u x : Seat T) (h : Held) (val : ℕ) (a b : Running) (out : RowOutcome Running) (refusal : Refusal)
    (body spent n turns : ℕ) → a ≡ registers_of h val → b ≡ registers_of h val → Trying r s t h val spent n → Follows r t u continues A3 a out
    → has_lock out ≡ true → PushesUnderLock r u x b (Err refusal) → PushesWithNode push_worn r s (keeping x (Some h) n) h.node body spent turns (Err refusal)
finds_it_shut r s t u x h val a b out refusal body spent n turns is same g follows won linked =
    let f : Follows r t u continues A3 (registers_of h val) out = subst (λ x. Follows r t u continues A3 x out) is follows in
    let k : PushesUnderLock r u x (registers_of h val) (Err refusal) = subst (λ y. PushesUnderLock r u x y (Err refusal)) same linked in
    let try : Event = event r t u continues A3 f.found f.did in
    let before : List Event = g.lines ++ try ∷ [] in
    let w : ExtendsPath (view s) (view u) before = walk_then (view s) (view t) (view u) g.lines (try ∷ []) g.walks (try_walk r t u (registers_of h val) out g.stands f) in
    let es : List Event = before ++ k.lines in
    let finds : FindsShut (view s) (view x) es = then_shut (view s) (view u) (view x) before k.lines w k.links.finds in
    let e : added s x ≡ es = added_path s x es finds.path in
    let name = then_stored s u x (then_stored s t u g.stored f.did.stored) k.stored in
    let rest : at_rest (view x).actor ≡ (view x).actor = ap (out_of (view x).actor) k.over in
    record {
      ready = record { seat = kept_seat r x (Some h) n k.seat; free = ap (λ b. b.line) rest ∙ k.over; pocket = sym (ap (λ b. b.pocket) rest ∙ k.links.pocket) };
      same = record { number = name.number; role = name.role; keeps = name.keeps };
      slots = kept_slots s x (Some h) n (then_slots s u x (then_slots s t u g.slots (quiet_slots r t u continues A3 f.found f.did refl)) k.slots);
      pushed = tt;
      refused = subst (λ y. StopsAPush s (keeping x (Some h) n) y × PushWithNodeCaused push_worn r s (keeping x (Some h) n) h.node spent turns y) (sym k.links.is) (
        subst (FindsShut (view s) (view x)) (sym e) finds,
        (last_held r s (keeping x (Some h) n) es _ e (stopped_behind r s u before k.lines Closed w k.links.cause), refl),
      );
    }

-- all turns failed
pub gives_up_put : {T : Type 0} (r : Arena) (s t : Seat T) (h : Held) (val body spent n turns : ℕ) → spent < turns → n ≡ turns → Trying r s t h val spent n
    → PushesWithNode push_worn r s (keeping t (Some h) turns) h.node body spent turns (Err Busy)
gives_up_put r s t h val body spent n turns less all tried =
    let g : Trying r s t h val spent turns = subst (λ (k : ℕ). Trying r s t h val spent k) all tried in
    let e : added s t ≡ g.lines = added_is s t g.lines g.walks in
    let k = g.stands in
    let rest = ap (out_of (view t).actor) k.before.line in
    record {
      ready = record {
        seat = kept_seat r t (Some h) turns k.before.seat;
        free = ap (λ b. b.line) rest;
        pocket = sym (ap (λ b. b.pocket) rest ∙ (λ i. Some (record { node = k.hand.node i; mark = k.hand.mark i })));
      };
      same = record { number = g.stored.number; role = g.stored.role; keeps = g.stored.keeps };
      slots = kept_slots s t (Some h) turns g.slots;
      pushed = tt;
      refused = (subst (ExtendsPath (view s) (view t)) (sym e) g.walks, (ap (λ es. spent + failed_turns es) e ∙ g.failed, ends_failed s (keeping t (Some h) turns) g.lines e (g.last less), refl));
    }
