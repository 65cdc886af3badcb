-- What calls come to that never wait.
use Rattle.std.proofs.Common.{◌≡◌, refl, sym, subst, true, inl, inr, Option}
use Rattle.calls.specs.declared.calls.Bell.TheVariants.{Values, Room}
use Rattle.calls.specs.declared.calls.Call.{Call}
use Rattle.calls.specs.declared.calls.Code.TheVariants as codes
use Rattle.calls.specs.declared.calls.Seen.{Seen}
use Rattle.calls.specs.declared.calls.Seen.TheVariants.{Got, Took, Nothing, Busy, Ended}
use Rattle.calls.specs.declared.calls.Task.TheVariants.{Push, Pop}
use Rattle.calls.specs.Machine.{started, advanced}
use Rattle.carriers.specs.Knowledge.{KnownOf}
use Rattle.shared_queue.specs.declared.at_once.Tried.{Tried}
use Rattle.shared_queue.specs.declared.at_once.Tried.TheVariants.{AtPlace}
use Rattle.shared_queue.specs.Steps.{LooksForValue, LooksForRoom, GivesValue, HasPopped, HasPushed, GoesOn, from_here, and_then, comes_to}
use Rattle.shared_queue.specs.TriedCalls.{asked_at, tries_to, IsDone, told_in_vain, ComesTo}

-- where a call stands that did what it wants and has to ring
abbrev pushed_at : Call
pushed_at = (advanced (started Push true) Got true).0

abbrev popped_at : Call
popped_at = (advanced (started Pop true) Got true).0

-- where a call stands that heard nobody listen
abbrev unheard : Call → Call
unheard c = (advanced c Nothing true).0

-- where a call stands that took a place, or has its place to give
abbrev push_took : Call
push_took = (advanced (started Push true) Took true).0

abbrev pop_took : Call
pop_took = (advanced (started Pop true) Took true).0

module _ {A : Type 0} (v : Option A) (k k' : KnownOf A) (v' : Option A) where
  -- a push that is done, and rings for one that listens
  push_done : GoesOn true (tries_to Push v) k (asked_at pushed_at v') k' → (t : Tried) → IsDone Values t → ComesTo Push v k t v' k'
  push_done goes t (inl e) = subst (λ x. ComesTo Push v k x v' k') (sym e) (unheard pushed_at, comes_to Nothing goes (refl, refl) refl)
  push_done goes t (inr e) =
      subst (λ x. ComesTo Push v k x v' k') (sym e) (comes_to Got (and_then {b' = asked_at (advanced pushed_at Got true).0 v'} Got goes (refl, refl) refl refl) (refl, refl) refl)

  -- and a pop
  pop_done : GoesOn true (tries_to Pop v) k (asked_at popped_at v') k' → (t : Tried) → IsDone Room t → ComesTo Pop v k t v' k'
  pop_done goes t (inl e) = subst (λ x. ComesTo Pop v k x v' k') (sym e) (unheard popped_at, comes_to Nothing goes (refl, refl) refl)
  pop_done goes t (inr e) =
      subst (λ x. ComesTo Pop v k x v' k') (sym e) (comes_to Got (and_then {b' = asked_at (advanced popped_at Got true).0 v'} Got goes (refl, refl) refl refl) (refl, refl) refl)

  -- a pop at whose first look a value was popped, and gave room by that
  pub popped_whole : HasPopped k k' v' → (t : Tried) → IsDone Room t → ComesTo Pop v k t v' k'
  popped_whole popped = pop_done (and_then Got from_here popped refl refl)

  -- or gave its place after that
  pub popped_then_gave : HasPopped k k' v' → (t : Tried) → IsDone Room t → ComesTo Pop v k t v' k'
  popped_then_gave popped = pop_done (and_then Got (and_then {b' = asked_at pop_took v'} Took from_here popped refl refl) (refl, refl) refl refl)

  -- a push at whose first look its value was pushed
  pub pushed_whole : HasPushed k v k' v' → (t : Tried) → IsDone Values t → ComesTo Push v k t v' k'
  pushed_whole pushed = push_done (and_then Got from_here pushed refl refl)

  -- or that took a place and pushed its value then
  pub took_then_pushed : HasPushed k v k' v' → (t : Tried) → IsDone Values t → ComesTo Push v k t v' k'
  took_then_pushed pushed = push_done (and_then Got (and_then {b' = asked_at push_took v} Took from_here (refl, refl) refl refl) pushed refl refl)

  -- or that took a place and is refused then
  pub took_in_vain : (seen : Seen) → GivesValue k v seen k' v' → (seen ≡ Got → ⊥) → ComesTo Push v k (AtPlace seen) v' k'
  took_in_vain Got gives not = absurd (not refl)
  took_in_vain Took gives not = absurd gives
  took_in_vain Nothing gives not = absurd gives
  took_in_vain Busy gives not = and_then Busy (and_then {b' = asked_at push_took v} Took from_here (refl, refl) refl refl) gives refl refl
  took_in_vain (Ended code) gives not = and_then (Ended code) (and_then {b' = asked_at push_took v} Took from_here (refl, refl) refl refl) gives refl refl

  -- a push whose first look was in vain
  pub push_in_vain : (seen : Seen) → LooksForRoom k v seen k' v' → ComesTo Push v k (told_in_vain seen) v' k'
  push_in_vain Got m = and_then Got from_here m refl refl
  push_in_vain Took m = and_then Took from_here m refl refl
  push_in_vain Nothing m = ((advanced (started Push true) Nothing true).0, comes_to Nothing from_here m refl)
  push_in_vain Busy m = ((advanced (started Push true) Busy true).0, comes_to Busy from_here m refl)
  push_in_vain (Ended codes.Worn) m = and_then (Ended codes.Worn) from_here m refl refl
  push_in_vain (Ended codes.Done) m = absurd m
  push_in_vain (Ended codes.Nothing) m = absurd m
  push_in_vain (Ended codes.Busy) m = absurd m
  push_in_vain (Ended codes.Closed) m = ((advanced (started Push true) (Ended codes.Closed) true).0, comes_to (Ended codes.Closed) from_here m refl)

  -- and a pop
  pub pop_in_vain : (seen : Seen) → LooksForValue k v seen k' v' → ComesTo Pop v k (told_in_vain seen) v' k'
  pop_in_vain Got m = and_then Got from_here m refl refl
  pop_in_vain Took m = and_then Took from_here m refl refl
  pop_in_vain Nothing m = ((advanced (started Pop true) Nothing true).0, comes_to Nothing from_here m refl)
  pop_in_vain Busy m = ((advanced (started Pop true) Busy true).0, comes_to Busy from_here m refl)
  pop_in_vain (Ended codes.Worn) m = and_then (Ended codes.Worn) from_here m refl refl
  pop_in_vain (Ended codes.Done) m = absurd m
  pop_in_vain (Ended codes.Nothing) m = absurd m
  pop_in_vain (Ended codes.Busy) m = absurd m
  pop_in_vain (Ended codes.Closed) m = ((advanced (started Pop true) (Ended codes.Closed) true).0, comes_to (Ended codes.Closed) from_here m refl)
