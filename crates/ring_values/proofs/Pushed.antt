-- What a push of a value answers, by what its parts do.
use Rattle.std.proofs.Common.{◌≡◌, ℕ, ◌+◌, ◌-◌, ◌<◌, List, [], ◌∷◌, ◌++◌, true, Option, Some, None, Result, Ok, Err, IfErr, IsErrAnd, inl, inr, sym, ap, subst, ◌∙◌, append-nil}
use Rattle.history.specs.declared.operations.Entry.TheVariants.{Push}
use Rattle.history.specs.declared.refusals.Refusal.{Refusal}
use Rattle.history.specs.declared.refusals.Refusal.TheVariants.{NoNode, WornOut, Busy, Closed}
use Rattle.history.specs.declared.refusals.WornWord.TheVariants.{Tail as OfTail}
use Rattle.history.specs.Entries.{LeadsToShut}
use Rattle.history.specs.Seats.{Known}
use Rattle.history.specs.Answers.{SeesMore, StopsPush}
use Rattle.history.specs.Answers as numbers
use Rattle.history.proofs.Learning.{sees_itself}
use Rattle.carriers.specs.declared.items.Unpushed.{Unpushed}
use Rattle.carriers.specs.Answers.{PushRefusedOf}
use Rattle.node_arena.specs.Deeds.{pushed}
use Rattle.ring_queue.specs.declared.queue.RingQueue.{RingQueue}
use Rattle.ring_queue.specs.declared.seats.Seat.{Seat}
use Rattle.ring_queue.specs.declared.slots.Got.{Got}
use Rattle.ring_queue.specs.Causes as ring
use Rattle.ring_queue.specs.Knowledge.{SeatView, path_of}
use Rattle.ring_queue.specs.Knowledge as seeing
use Rattle.ring_queue.specs.Hands.{AddsOwn, HasSlot, KeepsKnown}
use Rattle.ring_queue.specs.Plans.{Layout}
use Rattle.ring_queue.specs.Seats.{HasNoSlot, KeepsName, KeepsSlots, deeds_of, known_of, view}
use Rattle.ring_queue.specs.Steps.{IsFull, IsWorn}
use Rattle.ring_queue.specs.Queues.{IsRingSeat}
use Rattle.ring_values.specs.Carried.{carries_of}
use Rattle.value_queue.specs.Sights.{GoesOn}
use Rattle.value_queue.proofs.Learned.{push-deed, push_refused-deeds}
use Rattle.ring_values.specs.ValuesSeen.{known_by, sight}
use Rattle.ring_values.specs.Sound.{clear}
use Rattle.ring_values.specs.Pushes.{HasLoad, PutsSlot, PushCaused, AnswersPush}

-- a slot has one value
pub value_is : {T : Type 0} (held : List (ℕ × Option T)) (slot : ℕ) (x y : T) → held ≡ (slot, Some x) ∷ [] → held ≡ (slot, Some y) ∷ [] → x ≡ y
value_is {T} held slot x y e f = ap value_or (sym e ∙ f)
  where
    value_or : List (ℕ × Option T) → T
    value_or [] = x
    value_or ((i, None) ∷ xs) = x
    value_or ((i, Some z) ∷ xs) = z

-- a cause is one still, where its seat knows the same and its tail is where it was
caused_still : {T : Type 0} (z : Layout) (s x t : Seat T) (turns : ℕ) → view t ≡ view x → t.tail ≡ x.tail → (refusal : Refusal)
    → ring.PushCaused z s x turns refusal → ring.PushCaused z s t turns refusal
caused_still z s x t turns same tail Busy c = (subst (λ (n : ℕ). s.tail + turns < n) (sym tail) c.0, record { accesses = c.1.accesses; path = ap path_of same ∙ c.1.path; failed = c.1.failed })
caused_still z s x t turns same tail NoNode c = subst (λ (w : SeatView). IsFull z w.seen) (sym same) c
caused_still z s x t turns same tail (WornOut OfTail) c = subst (λ (w : SeatView). IsWorn z w.seen) (sym same) c
caused_still z s x t turns same tail Closed c = subst (λ (w : SeatView). LeadsToShut w.seen) (sym same) c
caused_still z s x t turns same tail _ c = absurd c

-- the push of a slot's number was refused, and then the value came out of the slot, which was given back
pub put_back : {T : Type 0} (r : RingQueue T) (s x y t : Seat T) (slot turns : ℕ) (refusal : Refusal) (value : T) → IsRingSeat r t → HasNoSlot t
    → KeepsName s x → KeepsSlots s x → KeepsKnown x y → KeepsKnown y t → HasSlot r.plan x slot (Some value)
    → numbers.PushRefused (known_of s) refusal (known_of x) → StopsPush refusal → ring.PushCaused r.plan s x turns refusal
    → PutsSlot r s t slot turns (Err (record { refusal = refusal; value = value }))
put_back r s x y t slot turns refusal value ready none name kept k l has refused stops caused =
    let same : view t ≡ view x = l.view ∙ k.view in
    record {
      ready = ready;
      none_out = none;
      name = record { number = l.number ∙ k.number ∙ name.number; role = l.role ∙ k.role ∙ name.role };
      added = tt;
      pushed = tt;
      back = (
        record { carries = has.carries; there = has.there; out = sym kept.held ∙ has.out; hand = sym kept.hand ∙ has.hand },
        record { between = kept.between; deeds = l.deeds ∙ k.deeds ∙ kept.deeds },
      );
      refused = subst (λ (q : Known). numbers.PushRefused (known_of s) refusal q) (λ i. seeing.known_by (sym same i)) refused;
      refusal = stops;
      caused = caused_still r.plan s x t turns same (l.tail ∙ k.tail) refusal caused;
    }

-- a refusal that is handed on
pub passed : {X E : Type 0} (out : Result X E) (e : E) (P : E → Type 0) → IsErrAnd out (λ y. y ≡ e) → P e → IfErr out P
passed (Ok x) e P its p = tt
passed (Err y) e P its p = subst P (sym its) p

module _ {T : Type 0} (r : RingQueue T) (carries : carries_of r ≡ true) (s : Seat T) (is : IsRingSeat r s) (value : T) (turns : ℕ) (u : Seat T) where
  -- since then a seat knows the same
  known_same : KeepsKnown s u → known_of u ≡ known_of s
  known_same k = (λ i. seeing.known_by (k.view i))

  -- there was no slot
  pub no_slot : (unpushed : Unpushed T) → HasLoad r s u value turns (Err unpushed) → AnswersPush r s u value turns (Err unpushed)
  no_slot unpushed l =
      let k = l.keeps in
      let busy : Busy ≡ unpushed.refusal = sym l.back.0 in
      let goes : GoesOn (sight s) (sight u) = record { between = []; deeds = k.deeds ∙ sym (append-nil (deeds_of s)) } in
      let sees : SeesMore (known_of s) (known_of u) = subst (λ (q : Known). SeesMore (known_of s) q) (sym (known_same k)) (sees_itself (known_of s)) in
      record {
        ready = l.ready;
        none_out = l.back.2;
        name = record { number = k.number; role = k.role };
        pushed = tt;
        back = l.back.1;
        refused = subst (λ q. PushRefusedOf (known_by s) q (known_by u)) busy (push_refused-deeds (sight s) (sight u) (clear r carries s is) (clear r carries u l.ready) Busy goes sees);
        refusal = subst StopsPush busy tt;
        caused = subst (PushCaused r s u turns) busy (inl l.back.3);
      }

  module _ (x : Seat T) (got : Got) (l : HasLoad r s u value turns (Ok got)) where
    k : KeepsKnown s u
    k = l.keeps

    name_since : KeepsName u x → KeepsName s x
    name_since n = record { number = n.number ∙ k.number; role = n.role ∙ k.role }

    -- the value was pushed
    pub value_pushed : PutsSlot r u x got.slot (turns - got.failed) (Ok tt) → AnswersPush r s x value turns (Ok tt)
    value_pushed p =
        let number : (view u).number ≡ (view s).number = ap (λ (w : SeatView). w.number) k.view in
        let its : p.pushed.0 ≡ value = value_is u.token.me.1 got.slot p.pushed.0 value p.pushed.1 l.loaded.0.out in
        let a = p.pushed.2 in
        let adds : AddsOwn s x (pushed (view s).number value) = record { between = a.between; deeds = a.deeds ∙ (λ i. (k.deeds i ++ a.between) ++ pushed (number i) (its i) ∷ []) } in
        record {
          ready = p.ready;
          none_out = p.none_out;
          name = name_since p.name;
          pushed = push-deed (sight s) (sight x) (clear r carries s is) (clear r carries x p.ready) (Push (view s).number got.slot) value adds.between adds.deeds (subst (λ (q : Known). numbers.Pushed q got.slot (known_of x)) (known_same k) p.added);
          back = tt;
          refused = tt;
          refusal = tt;
          caused = tt;
        }

    -- it came back
    pub value_back : (unpushed : Unpushed T) → PutsSlot r u x got.slot (turns - got.failed) (Err unpushed) → AnswersPush r s x value turns (Err unpushed)
    value_back unpushed p =
        let kept = p.back.1 in
        let goes : GoesOn (sight s) (sight x) = record { between = kept.between; deeds = kept.deeds ∙ ap (λ ds. ds ++ kept.between) k.deeds } in
        record {
          ready = p.ready;
          none_out = p.none_out;
          name = name_since p.name;
          pushed = tt;
          back = value_is u.token.me.1 got.slot unpushed.value value p.back.0.out l.loaded.0.out;
          refused = push_refused-deeds (sight s) (sight x) (clear r carries s is) (clear r carries x p.ready) unpushed.refusal goes (subst (λ (q : Known). numbers.PushRefused q unpushed.refusal (known_of x)) (known_same k) p.refused);
          refusal = p.refusal;
          caused = by_cause unpushed.refusal p.caused;
        }
      where
        by_cause : (refusal : Refusal) → ring.PushCaused r.plan u x (turns - got.failed) refusal → PushCaused r s x turns refusal
        by_cause Busy y = inr (got.failed, l.loaded.1, l.loaded.2, (subst (λ (t : ℕ). t + (turns - got.failed) < x.tail) k.tail y.0, record { accesses = y.1.accesses; path = y.1.path ∙ ap (λ (w : SeatView). path_of w ++ y.1.accesses) k.view; failed = y.1.failed }))
        by_cause _ y = y

    -- one or the other
    pub slot_pushed : (out : Result (Unit {0}) (Unpushed T)) → PutsSlot r u x got.slot (turns - got.failed) out → AnswersPush r s x value turns out
    slot_pushed (Ok tt) p = value_pushed p
    slot_pushed (Err unpushed) p = value_back unpushed p
