-- What the items of an `UntilShut` say together, from what each call of `next` gives.
use Rattle.std.proofs.Common.{◌≡◌, ℕ, true, false, List, [], ◌∷◌, ◌++◌, Option, None, Result, Ok, Err, map, refl, sym, ap, ◌∙◌, subst}
use Rattle.std.proofs.lemmas.Option.{none-some}
use Rattle.std.specs.Iterator.{Yields, YieldsThen}
use Rattle.history.specs.declared.operations.Entry.TheVariants.{Pop}
use Rattle.history.specs.declared.operations.Taken.{Taken}
use Rattle.history.specs.declared.refusals.Refusal.{Refusal}
use Rattle.history.specs.declared.refusals.Refusal.TheVariants.{WornOut, Closed}
use Rattle.history.specs.Entries.{Leads}
use Rattle.history.specs.Seats.{Known}
use Rattle.history.specs.Answers.{FoundShutEmpty, PopRefused, SeesMore}
use Rattle.carriers.specs.declared.until_shut.UntilShut.{UntilShut}
use Rattle.carriers.specs.Waits.{Waited, RefusedAfterWaiting}
use Rattle.carriers.specs.Shuts.{queue_of, seat_of, has_ended, IsWornOut, GivesUntilShut}
use Rattle.carriers.specs.Drained.{DrainedUntilShut, HasPopped, values_of}
use Rattle.carriers.proofs.Owning.{refused_keeps, waited_keeps, with_none, with_one}

-- a pop that is refused for a worn word does nothing
worn_sees_more : (k k' : Known) (refusal : Refusal) → IsWornOut refusal → PopRefused k refusal k' → SeesMore k k'
worn_sees_more k k' (WornOut word) worn refused = refused
worn_sees_more k k' _ worn refused = absurd worn

-- where the queue was found shut and empty
ends : {Q S : Type 0} (is_seat : Q → S → Type 0) (known : S → Known) (cause : Q → S → S → ℕ → Refusal → Type 0) (queue : Q) (s t : S)
    → RefusedAfterWaiting is_seat known cause queue s t Closed → (k : Known) × Waited (known s) k × FoundShutEmpty k (known t)
ends is_seat known cause queue s t r = (known r.last, r.waited, r.refused)

-- where each item is a value, the queue was found shut and empty
pub ends_shut : (k k' : Known) (values : List Taken) → DrainedUntilShut k (map Ok values) k' → Leads k'.seen true []
ends_shut k k' [] (j, w, d) = d.empty
ends_shut k k' (value ∷ values) (j, popped, more) = ends_shut j k' values more

module _ {Q R S : Type 0} (is_seat : Q → S → Type 0) (known : S → Known) (cause : Q → S → S → ℕ → Refusal → Type 0) where
  abbrev Gives : UntilShut Q R S → Option (Result Taken Refusal) → UntilShut Q R S → Type 0
  Gives = GivesUntilShut is_seat known cause

  -- after the last item there is no other, and the seat stays as it is
  rests_after : (s t : UntilShut Q R S) (items : List (Result Taken Refusal)) → has_ended s ≡ true → YieldsThen Gives s items None t
      → (items ≡ []) × ((seat_of t).now ≡ (seat_of s).now)
  rests_after s t [] ended (j, same, gives) = (refl, subst (λ a. has_ended a ≡ true → (seat_of t).now ≡ (seat_of a).now) (sym same) (λ e. (gives.rests e).2) ended)
  rests_after s t (item ∷ items) ended (j, (i, gives, more), last) = absurd (none-some item (sym (gives.rests ended).0))

  pub drained_until_shut : (s t : UntilShut Q R S) (items : List (Result Taken Refusal)) → has_ended s ≡ false → YieldsThen Gives s items None t
      → DrainedUntilShut (known (seat_of s).now) items (known (seat_of t).now)
  drained_until_shut s t [] goes (j, same, gives) =
      subst (λ a. has_ended a ≡ false → (k : Known) × Waited (known (seat_of a).now) k × FoundShutEmpty k (known (seat_of t).now)) (sym same)
      (λ g. ends is_seat known cause (queue_of j) (seat_of j).now (seat_of t).now (gives.answers g).1) goes
  drained_until_shut s t (Ok value ∷ items) goes (j, (i, gives, more), last) =
      let a = gives.answers goes in (known (seat_of i).now, a.1, drained_until_shut i t items a.0 (j, more, last))
  drained_until_shut s t (Err refusal ∷ items) goes (j, (i, gives, more), last) =
      let a = gives.answers goes in
      let r = rests_after i t items a.0 (j, more, last) in
      (r.0, a.1, (known a.2.last, a.2.waited, subst (λ x. SeesMore (known a.2.last) (known x)) (sym r.1) (worn_sees_more _ _ refusal a.1 a.2.refused)))

  -- after the last item there is no other, also where no more is asked for
  no_more : (s t : UntilShut Q R S) (items : List (Result Taken Refusal)) → has_ended s ≡ true → Yields Gives s items t
      → (items ≡ []) × ((seat_of t).now ≡ (seat_of s).now)
  no_more s t [] ended same = (refl, ap (λ a. (seat_of a).now) (sym same))
  no_more s t (item ∷ items) ended (i, gives, more) = absurd (none-some item (sym (gives.rests ended).0))

  -- what the seat knows
  abbrev knows : UntilShut Q R S → Known
  knows s = known (seat_of s).now

  pub popped_until_shut : (s t : UntilShut Q R S) (items : List (Result Taken Refusal)) → has_ended s ≡ false → Yields Gives s items t
      → HasPopped (knows s) (values_of items) (knows t)
  popped_until_shut s t [] goes same = with_none (knows s) (knows t) [] refl (ap (λ a. (knows a).mine) (sym same))
  popped_until_shut s t (Ok value ∷ items) goes (i, gives, more) =
      let a = gives.answers goes in
      let (j, w, p) = a.1 in
      let kept = waited_keeps _ w.0 j w.1 in
      with_one (knows s) (knows i) (knows t) value items (p.number ∙ kept.0) (p.mine ∙ (λ b. kept.1 b ++ Pop (kept.0 b) value ∷ [])) (popped_until_shut i t items a.0 more)
  popped_until_shut s t (Err refusal ∷ items) goes (i, gives, more) =
      let a = gives.answers goes in
      let r = no_more i t items a.0 more in
      let kept = waited_keeps _ a.2.waited.0 _ a.2.waited.1 in
      with_none (knows s) (knows t) items r.0 (ap (λ x. (known x).mine) r.1 ∙ refused_keeps _ _ refusal a.2.refused ∙ kept.1)
