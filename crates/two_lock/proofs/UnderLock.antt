-- The lines of a pop under the lock, from B2 to B6.
use Rattle.std.proofs.Common.{◌≡◌, ℕ, ◌+◌, Bool, true, false, nat_eq, if◌then◌else◌, Option, Some, List, [], ◌∷◌, ◌++◌, length, sym, refl, ap, subst}
use Rattle.std.proofs.Common.{◌∙◌, append-nil, append_assoc, ⊎_elim, inl, inr, ◌⊎◌}
use Rattle.counted_ref.specs.Ref.{ref_of, is_null, is_shut}
use Rattle.line_table.specs.declared.lines.Line.{Line}
use Rattle.line_table.specs.declared.lines.Line.TheVariants.{B2, B3, B4, B5, B6}
use Rattle.history.specs.declared.operations.Entry.TheVariants.{Pop}
use Rattle.history.specs.declared.operations.Reply as replies
use Rattle.history.specs.declared.operations.Reply.TheVariants as reply
use Rattle.history.specs.declared.refusals.Refusal.TheVariants.{WornOut, Closed}
use Rattle.history.specs.declared.refusals.WornWord.TheVariants.{Head as OfHead}
use Rattle.node_arena.specs.Machine.{Actor, entry_or, unlocked}
use Rattle.node_arena.specs.Traces.{Event, outcome_at}
use Rattle.node_arena.specs.Prologues.{continues}
use Rattle.node_arena.specs.Rule.{notes_of, SaysOfSeen}
use Rattle.history.specs.declared.operations.Taken.{Taken}
use Rattle.node_arena.specs.Arenas.{Arena}
use Rattle.node_arena.specs.declared.seats.Seat.{Seat}
use Rattle.node_arena.specs.Seats.{KeepsStored, KeepsSlots, view}
use Rattle.node_arena.specs.Loads.{IsBare, TakesSlot}
use Rattle.node_arena.proofs.Loads.{still_bare, takes_slot, then_takes, takes_then}
use Rattle.node_arena.specs.Paths.{ExtendsPath, Passes, Acts}
use Rattle.node_arena.proofs.Noting.{IsSilent}
use Rattle.node_arena.proofs.Known.{empty_before}
use Rattle.node_arena.proofs.PrologueTraces.{prefix_then}
use Rattle.node_arena.proofs.Paths.{ran_on, then_shut_empty, shut_empty_on, walk_then, then_act, act_then, then_stored, then_slots, quiet_slots, event, walk_on, pass_on, act_on, stopped_at}
use Rattle.node_arena.specs.Machine.{value_of}
use Rattle.free_list.specs.declared.outcomes.RowOutcome.{RowOutcome}
use Rattle.free_list.specs.declared.outcomes.RowOutcome.TheVariants.{Goes, Ends}
use Rattle.free_list.specs.declared.outcomes.Reply.{Reply}
use Rattle.free_list.specs.declared.outcomes.Reply.TheVariants.{Value as IsValue, Empty as IsEmpty, Refused as IsRefused}
use Rattle.two_lock.specs.Pops.{Running, told_by, unlocked_as, CallIsAt, Follows, PopsUnderLock}
use Rattle.free_list.proofs.Registers.{same_registers}
use Rattle.two_lock.proofs.PopStands.{stands_next}

line_or : Line → RowOutcome Running → Line
line_or d (Goes l a) = l
line_or d (Ends reply) = d

-- outcomes that are the same go on at the same line
pub same_line : (l k : Line) (a b : Running) → Goes l a ≡ Goes k b → l ≡ k
unfolding line_or
same_line l k a b e = ap (line_or l) e

-- after B2
pub to_b3 : {T : Type 0} (r : Arena) (s t : Seat T) (l : Line) (a b : Running) → CallIsAt r s continues B2 a → Follows r s t continues B2 a (Goes l b) → CallIsAt r t continues B3 b
to_b3 r s t l a b h f = subst (λ k. CallIsAt r t continues k b) (same_line l B3 b (record a { head = ref_of r.plan.setup.bits f.found }) f.leads_to) (stands_next r s t B2 l a b h f tt)

-- after B3: the end of the queue, or a value behind Head's node
pub to_b6_empty : {T : Type 0} (r : Arena) (s t : Seat T) (l : Line) (a b : Running) → CallIsAt r s continues B3 a → Follows r s t continues B3 a (Goes l b) → l ≡ B6 → CallIsAt r t continues B6 b
to_b6_empty r s t l a b h f e = subst (λ k. CallIsAt r t continues k b) e (stands_next r s t B3 l a b h f tt)

pub to_b4 : {T : Type 0} (r : Arena) (s t : Seat T) (l : Line) (a b : Running) → CallIsAt r s continues B3 a → Follows r s t continues B3 a (Goes l b) → (l ≡ B6 → ⊥) → CallIsAt r t continues B4 b
to_b4 r s t l a b h f other = subst (λ k. CallIsAt r t continues k b) (go (is_null (ref_of r.plan.setup.bits f.found))
    (is_shut r.plan.setup.bits (ref_of r.plan.setup.bits f.found)) f.leads_to) (stands_next r s t B3 l a b h f tt)
  where
    go : (p q : Bool) → Goes l b ≡ (let c = record a { next = ref_of r.plan.setup.bits f.found } in if p then Goes B6
        (record c { due = Some IsEmpty }) else if q then Goes B6 (record c { due = Some (IsRefused Closed) }) else Goes B4 c) → l ≡ B4
    go true q e = absurd (other (same_line l B6 b _ e))
    go false true e = absurd (other (same_line l B6 b _ e))
    go false false e = same_line l B4 b _ e

-- after B2 and B3
pub front_to_b4 : {T : Type 0} (r : Arena) (s u t : Seat T) (a b c : Running) (l k : Line) → CallIsAt r s continues B2 a → Follows r s u continues B2 a (Goes l b)
    → Follows r u t continues B3 b (Goes k c) → (k ≡ B6 → ⊥) → CallIsAt r t continues B4 c
front_to_b4 r s u t a b c l k h f2 f3 more = to_b4 r u t k b c (to_b3 r s u l a b h f2) f3 more

-- what is due where B3 goes to B6
pub found_end : {T : Type 0} (r : Arena) (s t : Seat T) (l : Line) (a b : Running) → (f : Follows r s t continues B3 a (Goes l b)) → l ≡ B6 → (b.due ≡ Some IsEmpty) ⊎ (b.due ≡ Some (IsRefused Closed))
found_end r s t l a b f is = go (is_null (ref_of r.plan.setup.bits f.found)) (is_shut r.plan.setup.bits (ref_of r.plan.setup.bits f.found)) f.leads_to
  where
    go : (p q : Bool) → Goes l b ≡ (let c = record a { next = ref_of r.plan.setup.bits f.found } in if p then Goes B6
        (record c { due = Some IsEmpty }) else if q then Goes B6 (record c { due = Some (IsRefused Closed) }) else Goes B4 c) → (b.due ≡ Some IsEmpty)
        ⊎ (b.due ≡ Some (IsRefused Closed))
    go true q e = inl (ap (λ (x : Running). x.due) (same_registers l B6 b _ e))
    go false true e = inr (ap (λ (x : Running). x.due) (same_registers l B6 b _ e))
    go false false e = absurd (let g : B6 ≡ B4 = sym is ∙ same_line l B4 b _ e in cc)

-- after B4: Head is worn out, or it can be moved
pub to_b6_worn : {T : Type 0} (r : Arena) (s t : Seat T) (l : Line) (a b : Running) → CallIsAt r s continues B4 a → Follows r s t continues B4 a (Goes l b) → l ≡ B6 → CallIsAt r t continues B6 b
to_b6_worn r s t l a b h f e = subst (λ k. CallIsAt r t continues k b) e (stands_next r s t B4 l a b h f tt)

pub to_b5 : {T : Type 0} (r : Arena) (s t : Seat T) (l : Line) (a b : Running) → CallIsAt r s continues B4 a → Follows r s t continues B4 a (Goes l b) → (l ≡ B6 → ⊥) → CallIsAt r t continues B5 b
to_b5 r s t l a b h f other = subst (λ k. CallIsAt r t continues k b) (go (nat_eq a.head.count r.plan.setup.limit) f.leads_to) (stands_next r s t B4 l a b h f tt)
  where
    go : (p : Bool) → Goes l b ≡ (let c = record a { val = f.found } in if p then Goes B6 (record c { due = Some (IsRefused (WornOut OfHead)) }) else Goes B5 c) → l ≡ B5
    go true e = absurd (other (same_line l B6 b _ e))
    go false e = same_line l B5 b _ e

-- after B2, B3 and B4
pub front_to_b5 : {T : Type 0} (r : Arena) (s u t v : Seat T) (a b c d : Running) (l k j : Line) → CallIsAt r s continues B2 a
    → Follows r s u continues B2 a (Goes l b) → Follows r u t continues B3 b (Goes k c) → (k ≡ B6 → ⊥) → Follows r t v continues B4 c (Goes j d)
    → (j ≡ B6 → ⊥) → CallIsAt r v continues B5 d
front_to_b5 r s u t v a b c d l k j h f2 f3 more f4 free = to_b5 r t v j c d (front_to_b4 r s u t a b c l k h f2 f3 more) f4 free

-- what is due where B4 goes to B6
pub found_worn : {T : Type 0} (r : Arena) (s t : Seat T) (l : Line) (a b : Running) → Follows r s t continues B4 a (Goes l b) → l ≡ B6 → b.due ≡ Some (IsRefused (WornOut OfHead))
found_worn r s t l a b f is = go (nat_eq a.head.count r.plan.setup.limit) f.leads_to
  where
    go : (p : Bool) → Goes l b ≡ (let c = record a { val = f.found } in if p then Goes B6 (record c { due = Some (IsRefused (WornOut OfHead)) }) else
        Goes B5 c) → b.due ≡ Some (IsRefused (WornOut OfHead))
    go true e = ap (λ (x : Running). x.due) (same_registers l B6 b _ e)
    go false e = absurd (let g : B6 ≡ B5 = sym is ∙ same_line l B5 b _ e in cc)

-- after B5
pub to_b6_value : {T : Type 0} (r : Arena) (s t : Seat T) (l : Line) (a b : Running) → CallIsAt r s continues B5 a → Follows r s t continues B5 a (Goes l b) → CallIsAt r t continues B6 b
to_b6_value r s t l a b h f = subst (λ k. CallIsAt r t continues k b) (same_line l B6 b
    (record a { node = a.head.node; mark = a.next.count; due = Some (IsValue a.val) }) f.leads_to) (stands_next r s t B5 l a b h f tt)

-- the last line, B6
module _ {T : Type 0} (r : Arena) (s t : Seat T) (a : Running) (out : RowOutcome Running) (h : CallIsAt r s continues B6 a)
    (f : Follows r s t continues B6 a out) (due : Option Reply) (is : a.due ≡ due) where
  abbrev pub last : Event
  last = event r s t continues B6 f.found f.did

  abbrev now : ℕ
  now = f.did.told.was.world.steps + 1

  abbrev left : Option replies.Reply → Actor
  left q = record (unlocked now q (view s).actor).actor { entry = Some (entry_or (view s).actor.entry (length f.did.told.was.world.operations)) }

  pub told_of : (view s).actor.due ≡ told_by due
  told_of = h.knows.told ∙ ap told_by is

  pub left_is : (view t).actor ≡ left (told_by due)
  left_is = f.did.told.actor ∙ ap left told_of

  pub reply_is : (outcome_at r.plan.setup f.did.told.was (view s).number (view s).actor B6).reply ≡ (unlocked now (told_by due) (view s).actor).reply
  reply_is = ap (λ q. (unlocked now q (view s).actor).reply) told_of

  pub out_is : out ≡ unlocked_as due a
  out_is = f.leads_to ∙ ap (λ q. unlocked_as q a) is

  pub silent_due : IsSilent (told_by due) → IsSilent (view s).actor.due
  silent_due k = subst IsSilent (sym told_of) k

-- the queue was found empty, or shut and empty
pub saw_empty : {T : Type 0} (r : Arena) (s u t x : Seat T) (a b c : Running) (l k : Line) (out : RowOutcome Running) → CallIsAt r s continues B2 a
    → Follows r s u continues B2 a (Goes l b) → Follows r u t continues B3 b (Goes k c) → k ≡ B6 → Follows r t x continues B6 c out → PopsUnderLock r s x out
saw_empty r s u t x a b c l k out h f2 f3 is f6 = ⊎_elim none shut (found_end r u t k b c f3 is)
  where
    at : CallIsAt r t continues B6 c
    at = to_b6_empty r u t k b c (to_b3 r s u l a b h f2) f3 is

    w : ExtendsPath (view s) (view t) (event r s u continues B2 f2.found f2.did ∷ event r u t continues B3 f3.found f3.did ∷ [])
    w = walk_then (view s) (view u) (view t) (event r s u continues B2 f2.found f2.did ∷ []) (event r u t continues B3 f3.found f3.did ∷ [])
        (walk_on r s u continues B2 f2.found f2.did refl tt) (walk_on r u t continues B3 f3.found f3.did refl tt)

    slots : KeepsSlots s x
    slots = then_slots s t x (then_slots s u t (quiet_slots r s u continues B2 f2.found f2.did refl)
        (quiet_slots r u t continues B3 f3.found f3.did refl)) (quiet_slots r t x continues B6 f6.found f6.did refl)

    none : c.due ≡ Some IsEmpty → PopsUnderLock r s x out
    none due =
        let o : (view x).actor ≡ left r t x c out at f6 (Some IsEmpty) due (Some reply.Empty) = left_is r t x c out at f6 (Some IsEmpty) due in
        let replies = reply_is r t x c out at f6 (Some IsEmpty) due in
        let notes : (view x).notes ≡ (view t).notes ++ length (view x).seen ∷ [] = f6.did.told.notes ∙ ap (λ q. (view t).notes ++ notes_of q (view x).seen) replies in
        subst (PopsUnderLock r s x) (sym (out_is r t x c out at f6 (Some IsEmpty) due))
        record {
          seat = f6.did.seat;
          empty = ap (λ y. y.pocket) o ∙ empty_before r t continues B6 at.before;
          stored = then_stored s t x (then_stored s u t f2.did.stored f3.did.stored) f6.did.stored;
          slots = slots;
          lines = event r s u continues B2 f2.found f2.did ∷ event r u t continues B3 f3.found f3.did ∷ event r t x continues B6 f6.found f6.did ∷ [];
          never = refl;
          fronted = record {
            over = ap (λ y. y.line) o;
            path = f6.did.told.path ∙ ap (λ p. p ++ event r t x continues B6 f6.found f6.did ∷ []) w.path ∙ append_assoc (view s).path
                (event r s u continues B2 f2.found f2.did ∷ event r u t continues B3 f3.found f3.did ∷ [])
                (event r t x continues B6 f6.found f6.did ∷ []);
            run = prefix_then (view s).ran (view t).ran (view x).ran w.run (ran_on r t x continues B6 f6.found f6.did);
            found = record {
              number = f6.did.told.number ∙ w.number;
              between = w.rest;
              seen = f6.did.told.stays refl ∙ w.seen;
              empty = subst (λ q. SaysOfSeen B6 q (view x).seen) replies f6.did.told.says;
              mine = f6.did.told.mine ∙ append-nil (view t).mine ∙ w.mine;
              notes = notes ∙ ap (λ ns. ns ++ length (view x).seen ∷ []) w.notes;
            };
          };
        }

    shut : c.due ≡ Some (IsRefused Closed) → PopsUnderLock r s x out
    shut due =
        let o : (view x).actor ≡ left r t x c out at f6 (Some (IsRefused Closed)) due (Some (reply.Refused Closed)) = left_is r t x c out at f6 (Some (IsRefused Closed)) due in
        let replies = reply_is r t x c out at f6 (Some (IsRefused Closed)) due in
        subst (PopsUnderLock r s x) (sym (out_is r t x c out at f6 (Some (IsRefused Closed)) due))
        record {
          seat = f6.did.seat;
          empty = ap (λ y. y.pocket) o ∙ empty_before r t continues B6 at.before;
          stored = then_stored s t x (then_stored s u t f2.did.stored f3.did.stored) f6.did.stored;
          slots = slots;
          lines = event r s u continues B2 f2.found f2.did ∷ event r u t continues B3 f3.found f3.did ∷ event r t x continues B6 f6.found f6.did ∷ [];
          never = refl;
          fronted = record {
            over = ap (λ y. y.line) o;
            finds = then_shut_empty (view s) (view t) (view x) (event r s u continues B2 f2.found f2.did ∷ event r u t continues B3 f3.found f3.did ∷
                []) (event r t x continues B6 f6.found f6.did ∷ []) w (shut_empty_on r t x continues B6 f6.found f6.did refl replies (λ y. y));
            cause = stopped_at r t x continues B6 f6.found f6.did s (event r s u continues B2 f2.found f2.did ∷ event r u t continues B3 f3.found f3.did ∷ []) Closed w replies;
          };
        }

-- the lines before B5 or before a refusal
module _ {T : Type 0} (r : Arena) (s u t v : Seat T) (a b c d : Running) (l k j : Line) (h : CallIsAt r s continues B2 a)
    (f2 : Follows r s u continues B2 a (Goes l b)) (f3 : Follows r u t continues B3 b (Goes k c)) (more : k ≡ B6 → ⊥)
    (f4 : Follows r t v continues B4 c (Goes j d)) where
  abbrev looks : List Event
  looks = event r s u continues B2 f2.found f2.did ∷ event r u t continues B3 f3.found f3.did ∷ event r t v continues B4 f4.found f4.did ∷ []

  at_b4 : CallIsAt r t continues B4 c
  at_b4 = front_to_b4 r s u t a b c l k h f2 f3 more

  pub look_walk : ExtendsPath (view s) (view v) looks
  look_walk =
      walk_then (view s) (view t) (view v) (event r s u continues B2 f2.found f2.did ∷ event r u t continues B3 f3.found f3.did ∷ []) (event r t v continues B4 f4.found f4.did ∷ [])
      (walk_then (view s) (view u) (view t) (event r s u continues B2 f2.found f2.did ∷ []) (event r u t continues B3 f3.found f3.did ∷ [])
      (walk_on r s u continues B2 f2.found f2.did refl tt) (walk_on r u t continues B3 f3.found f3.did refl tt))
      (walk_on r t v continues B4 f4.found f4.did refl tt)

  look_slots : KeepsSlots s v
  look_slots = then_slots s t v (then_slots s u t (quiet_slots r s u continues B2 f2.found f2.did refl)
      (quiet_slots r u t continues B3 f3.found f3.did refl)) (quiet_slots r t v continues B4 f4.found f4.did refl)

  -- they move no slot
  pub look_bare : IsBare r s → IsBare r v
  look_bare bare = still_bare r s v look_slots bare

  look_stored : KeepsStored s v
  look_stored = then_stored s t v (then_stored s u t f2.did.stored f3.did.stored) f4.did.stored

  -- Head was found worn out
  pub saw_worn : (x : Seat T) (out : RowOutcome Running) → j ≡ B6 → Follows r v x continues B6 d out → PopsUnderLock r s x out
  saw_worn x out is f6 =
      let due : d.due ≡ Some (IsRefused (WornOut OfHead)) = found_worn r t v j c d f4 is in
      let at : CallIsAt r v continues B6 d = to_b6_worn r t v j c d at_b4 f4 is in
      let o = left_is r v x d out at f6 (Some (IsRefused (WornOut OfHead))) due in
      subst (PopsUnderLock r s x) (sym (out_is r v x d out at f6 (Some (IsRefused (WornOut OfHead))) due))
      record {
        seat = f6.did.seat;
        empty = ap (λ y. y.pocket) o ∙ empty_before r v continues B6 at.before;
        stored = then_stored s v x look_stored f6.did.stored;
        slots = then_slots s v x look_slots (quiet_slots r v x continues B6 f6.found f6.did refl);
        lines = looks ++ event r v x continues B6 f6.found f6.did ∷ [];
        never = refl;
        fronted = record {
          over = ap (λ y. y.line) o;
          walks = walk_then (view s) (view v) (view x) looks (event r v x continues B6 f6.found f6.did ∷ []) look_walk
              (walk_on r v x continues B6 f6.found f6.did refl (silent_due r v x d out at f6 (Some (IsRefused (WornOut OfHead))) due tt));
          is = refl;
          cause = stopped_at r v x continues B6 f6.found f6.did s looks (WornOut OfHead) look_walk (reply_is r v x d out at f6 (Some (IsRefused (WornOut OfHead))) due);
        };
      }

  -- a value was taken
  pub took : (y x : Seat T) (e : Running) (i : Line) (out : RowOutcome Running) → (j ≡ B6 → ⊥) → Follows r v y continues B5 d (Goes i e) → Follows r y x continues B6 e out → PopsUnderLock r s x out
  took y x e i out free f5 f6 =
      let before : CallIsAt r v continues B5 d = to_b5 r t v j c d at_b4 f4 free in
      let e_is : e ≡ record d { node = d.head.node; mark = d.next.count; due = Some (IsValue d.val) } = same_registers i B6 e _ f5.leads_to in
      let same_val : d.val ≡ e.val = sym (ap (λ (z : Running). z.val) e_is) in
      let due : e.due ≡ Some (IsValue d.val) = ap (λ (z : Running). z.due) e_is in
      let at : CallIsAt r y continues B6 e = to_b6_value r v y i d e before f5 in
      let o = left_is r y x e out at f6 (Some (IsValue d.val)) due in
      let five : Event = event r v y continues B5 f5.found f5.did in
      let six : Event = event r y x continues B6 f6.found f6.did in
      let acts : Acts (view v) (view y) (Pop (view v).number (view v).actor.val) (five ∷ []) = act_on r v y continues B5 f5.found f5.did (Pop (view v).number (view v).actor.val) refl tt in
      let val : (view v).actor.val ≡ value_of e.val = before.knows.2 ∙ ap value_of same_val in
      let all : Acts (view s) (view y) (Pop (view s).number (value_of e.val)) (looks ++ five ∷ []) =
      then_act (view s) (view v) (view y) (Pop (view v).number (view v).actor.val) (Pop (view s).number (value_of e.val)) looks (five ∷ []) (λ z. Pop (look_walk.number z) (val z)) look_walk acts in
      let behind : Passes (view y) (view x) (six ∷ []) = pass_on r y x continues B6 f6.found f6.did refl (silent_due r y x e out at f6 (Some (IsValue d.val)) due tt) refl in
      subst (PopsUnderLock r s x) (sym (out_is r y x e out at f6 (Some (IsValue d.val)) due))
      record {
        seat = f6.did.seat;
        empty = ap (λ z. z.pocket) o ∙ empty_before r y continues B6 at.before;
        stored = then_stored s y x (then_stored s v y look_stored f5.did.stored) f6.did.stored;
        slots = takes_then r (value_of e.val) s y x
            (then_takes r (value_of e.val) s v y look_slots (subst (λ (q : Taken). TakesSlot r q v y) val (takes_slot r v y continues B5 f5.found f5.did (view v).number (view v).actor.val refl)))
            f5.did.seat f6.did.seat (quiet_slots r y x continues B6 f6.found f6.did refl) (f6.did.told.stays refl);
        lines = (looks ++ five ∷ []) ++ six ∷ [];
        never = refl;
        fronted = record {
          over = ap (λ z. z.line) o;
          due = ap (λ z. z.due) o ∙ told_of r y x e out at f6 (Some (IsValue d.val)) due ∙ ap (λ n. Some (reply.Value (value_of n))) same_val;
          node = ap (λ z. z.node) o ∙ at.knows.node d.val due;
          mark = ap (λ z. z.mark) o ∙ at.knows.mark d.val due;
          acts = act_then (view s) (view y) (view x) (Pop (view s).number (value_of e.val)) (looks ++ five ∷ []) (six ∷ []) all behind;
        };
      }
