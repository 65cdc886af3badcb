-- What the items of an `UntilEmpty` say together, from what each call of `next` gives.
use Rattle.std.proofs.Common.{◌≡◌, ℕ, true, false, List, [], ◌∷◌, Option, None, Result, Ok, Err, map, refl, sym, ap, ◌∙◌, subst}
use Rattle.std.proofs.lemmas.Option.{none-some}
use Rattle.std.specs.Iterator.{Yields, YieldsThen}
use Rattle.history.specs.declared.operations.Taken.{Taken}
use Rattle.history.specs.declared.refusals.Refusal.{Refusal}
use Rattle.history.specs.Entries.{LeadsTo}
use Rattle.history.specs.Seats.{Known}
use Rattle.history.specs.Answers.{FoundEmpty, PopRefused}
use Rattle.carriers.specs.declared.until_empty.UntilEmpty.{UntilEmpty}
use Rattle.carriers.specs.Empties.{seat_of, has_ended, GivesUntilEmpty}
use Rattle.carriers.specs.Drained.{DrainedUntilEmpty, HasPopped, values_of}
use Rattle.carriers.proofs.Owning.{refused_keeps, with_none, with_one}

-- where each item is a value, the queue was found empty
pub ends_empty : (k k' : Known) (values : List Taken) → DrainedUntilEmpty k (map Ok values) k' → LeadsTo k'.seen []
ends_empty k k' [] d = d.empty
ends_empty k k' (value ∷ values) (j, popped, more) = ends_empty j k' values more

module _ {Q R S : Type 0} (is_seat : Q → S → Type 0) (known : S → Known) (cause : Q → S → S → ℕ → Refusal → Type 0) where
  abbrev Gives : UntilEmpty Q R S → Option (Result Taken Refusal) → UntilEmpty Q R S → Type 0
  Gives = GivesUntilEmpty is_seat known cause

  -- after the last item there is no other, and the seat stays as it is
  rests_after : (s t : UntilEmpty Q R S) (items : List (Result Taken Refusal)) → has_ended s ≡ true → YieldsThen Gives s items None t
      → (items ≡ []) × ((seat_of t).now ≡ (seat_of s).now)
  rests_after s t [] ended (j, same, gives) = (refl, subst (λ a. has_ended a ≡ true → (seat_of t).now ≡ (seat_of a).now) (sym same) (λ e. (gives.rests e).2) ended)
  rests_after s t (item ∷ items) ended (j, (i, gives, more), last) = absurd (none-some item (sym (gives.rests ended).0))

  pub drained_until_empty : (s t : UntilEmpty Q R S) (items : List (Result Taken Refusal)) → has_ended s ≡ false → YieldsThen Gives s items None t
      → DrainedUntilEmpty (known (seat_of s).now) items (known (seat_of t).now)
  drained_until_empty s t [] goes (j, same, gives) =
      subst (λ a. has_ended a ≡ false → FoundEmpty (known (seat_of a).now) (known (seat_of t).now)) (sym same) (λ g. (gives.answers g).1) goes
  drained_until_empty s t (Ok value ∷ items) goes (j, (i, gives, more), last) =
      let a = gives.answers goes in (known (seat_of i).now, a.1, drained_until_empty i t items a.0 (j, more, last))
  drained_until_empty s t (Err refusal ∷ items) goes (j, (i, gives, more), last) =
      let a = gives.answers goes in
      let r = rests_after i t items a.0 (j, more, last) in
      (r.0, a.1, subst (λ x. PopRefused (known (seat_of s).now) refusal (known x)) (sym r.1) a.2)

  -- after the last item there is no other, also where no more is asked for
  no_more : (s t : UntilEmpty Q R S) (items : List (Result Taken Refusal)) → has_ended s ≡ true → Yields Gives s items t
      → (items ≡ []) × ((seat_of t).now ≡ (seat_of s).now)
  no_more s t [] ended same = (refl, ap (λ a. (seat_of a).now) (sym same))
  no_more s t (item ∷ items) ended (i, gives, more) = absurd (none-some item (sym (gives.rests ended).0))

  -- what the seat knows
  abbrev knows : UntilEmpty Q R S → Known
  knows s = known (seat_of s).now

  pub popped_until_empty : (s t : UntilEmpty Q R S) (items : List (Result Taken Refusal)) → has_ended s ≡ false → Yields Gives s items t
      → HasPopped (knows s) (values_of items) (knows t)
  popped_until_empty s t [] goes same = with_none (knows s) (knows t) [] refl (ap (λ a. (knows a).mine) (sym same))
  popped_until_empty s t (Ok value ∷ items) goes (i, gives, more) =
      let a = gives.answers goes in with_one (knows s) (knows i) (knows t) value items a.1.number a.1.mine (popped_until_empty i t items a.0 more)
  popped_until_empty s t (Err refusal ∷ items) goes (i, gives, more) =
      let a = gives.answers goes in
      let r = no_more i t items a.0 more in
      with_none (knows s) (knows t) items r.0 (ap (λ x. (known x).mine) r.1 ∙ refused_keeps _ _ refusal a.2)
