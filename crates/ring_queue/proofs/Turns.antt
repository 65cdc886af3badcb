-- What a turn tells after others that only saw more.
use Rattle.std.specs.Option.{IsNone}
use Rattle.std.proofs.Common.{Option, refl, ◌≡◌, ◌∷◌, ◌++◌, List, [], ℕ, ◌+◌, ◌≤◌, Some, None, sym, ap, ◌∙◌, subst, append_assoc, append-nil, ⊎_elim, inl, inr, arith}
use Rattle.history.specs.declared.operations.Entry.{Entry}
use Rattle.history.specs.declared.operations.Entry.TheVariants.{Push}
use Rattle.history.specs.declared.refusals.Refusal.TheVariants.{Closed as IsClosed}
use Rattle.history.specs.Seats.{Known}
use Rattle.history.specs.Answers.{Pushed, SeesMore}
use Rattle.history.proofs.Learning.{sees_then, answers_then, pop_refused_then}
use Rattle.ring_queue.specs.declared.pops.Turn.{Turn}
use Rattle.ring_queue.specs.declared.pops.Turn.TheVariants.{Took, Empty, Closed, Failed}
use Rattle.ring_queue.specs.declared.seats.Seat.{Seat}
use Rattle.ring_queue.specs.declared.looks.EndLook.TheVariants.{Ahead}
use Rattle.ring_queue.specs.Plans.{Layout}
use Rattle.ring_queue.specs.Steps.{IsAhead, WasSince, WasLate, WasHeldUp, PushedAll, pushes}
use Rattle.ring_queue.specs.Seats.{known_of, view}
use Rattle.ring_queue.specs.Looks.{EndSays}
use Rattle.ring_queue.specs.Turns.{HaveFailed, TurnSays}

-- what was so since some entries was so since those before them, by what was seen later
was_on : (P : List Entry → Type 0) (old seen more seen' : List Entry) → seen' ≡ seen ++ more → WasSince P old seen → WasSince P old seen'
was_on P old seen more seen' goes_on w = record { between = w.between; rest = w.rest ++ more; parts = goes_on ∙ (ap (λ es. es ++ more) w.parts ∙ append_assoc (old ++ w.between) w.rest more); was = w.was }

was_since : (P : List Entry → Type 0) (first more old seen : List Entry) → old ≡ first ++ more → WasSince P old seen → WasSince P first seen
was_since P first more old seen e w =
    let same : old ++ w.between ≡ first ++ (more ++ w.between) = ap (λ es. es ++ w.between) e ∙ append_assoc first more w.between in
    record { between = more ++ w.between; rest = w.rest; parts = w.parts ∙ ap (λ es. es ++ w.rest) same; was = subst P same w.was }

-- what was held up was so, of any place before, and since any step before
held_on : (z : Layout) (old seen more seen' : List Entry) (from from' : ℕ) → seen' ≡ seen ++ more → from' ≤ from → WasHeldUp z old seen from → WasHeldUp z old seen' from'
held_on z old seen more seen' from from' goes_on le w = record {
  place = w.place;
  later = let later = w.later in omega (arith, later, le);
  ahead = was_on (λ es. IsAhead z es w.place) old seen more seen' goes_on w.ahead;
  late = was_on (λ es. WasLate z es w.place) old seen more seen' goes_on w.late;
}

held_since : (z : Layout) (first more old seen : List Entry) (from : ℕ) → old ≡ first ++ more → WasHeldUp z old seen from → WasHeldUp z first seen from
held_since z first more old seen from e w = record {
  place = w.place;
  later = w.later;
  ahead = was_since (λ es. IsAhead z es w.place) first more old seen e w.ahead;
  late = was_since (λ es. WasLate z es w.place) first more old seen e w.late;
}

-- what is no value is none
pub none_if : (o : Option ℕ) → ((x : ℕ) → o ≡ Some x → ⊥) → IsNone o
none_if None h = refl
none_if (Some x) h = absurd (h x refl)

-- turns that failed since a step failed since any step before
pub failed_since : {T : Type 0} (z : Layout) (first more old : List Entry) (from turns : ℕ) (t : Seat T) → old ≡ first ++ more → HaveFailed z old from turns t → HaveFailed z first from turns t
failed_since z first more old from turns t e f = (
  f.0,
  ⊎_elim (λ (le : from + turns ≤ t.head). inl le)
      (λ (w : WasHeldUp z old (view t).seen from). inr (held_since z first more old (view t).seen from e w)) f.1,
)

-- one turn more failed
pub failed_more : {T : Type 0} (z : Layout) (old before : List Entry) (from turns : ℕ) (s t : Seat T) → (view s).seen ≡ old ++ before
    → SeesMore (known_of s) (known_of t) → HaveFailed z old from turns s
    → HaveFailed z (view s).seen s.head 1 t → HaveFailed z old from (turns + 1) t
failed_more z old before from turns s t since more f late =
    let g = failed_since z old before (view s).seen s.head 1 t since late in
    let below = f.0 in
    let raised = g.0 in (
      omega (arith, below, raised),
      ⊎_elim
          (λ (le : from + turns ≤ s.head). ⊎_elim
          (λ (lt : s.head + 1 ≤ t.head). inl (omega (arith, le, lt)))
          (λ (w : WasHeldUp z old (view t).seen s.head). inr (held_on z old (view t).seen [] (view t).seen s.head from (sym (append-nil (view t).seen)) below w))
          g.1)
          (λ (w : WasHeldUp z old (view s).seen from). inr (held_on z old (view s).seen more.between (view t).seen from from more.seen (omega arith) w))
          f.1,
    )

-- a turn of a pop after its seat saw more, and kept its head
pub turn_after : {T : Type 0} (z : Layout) (s t u : Seat T) (turn : Turn) → SeesMore (known_of s) (known_of t) → t.head ≡ s.head → TurnSays z t u turn → TurnSays z s u turn
turn_after z s t u (Took value) f same g = answers_then (known_of s) (known_of t) (known_of u) (Some value) f g
turn_after z s t u Empty f same g = answers_then (known_of s) (known_of t) (known_of u) None f g
turn_after z s t u Closed f same g = pop_refused_then (known_of s) (known_of t) (known_of u) IsClosed f g
turn_after z s t u Failed f same g =
    (sees_then (known_of s) (known_of t) (known_of u) f g.0, failed_since z (view s).seen f.between (view t).seen s.head 1 u f.seen (subst (λ h. HaveFailed z (view t).seen h 1 u) same g.1))

-- a pop that found a place not filled and claimed, and then read Head
pub end_failed : {T : Type 0} (z : Layout) (s t u : Seat T) → WasLate z (view s).seen s.head → EndSays z s t Ahead → SeesMore (known_of t) (known_of u) → t.head ≤ u.head → TurnSays z s u Failed
end_failed z s t u late f more le =
    let same = f.2 in
    let all = sees_then (known_of s) (known_of t) (known_of u) f.0 more in
    let ahead : WasSince (λ es. IsAhead z es s.head) (view s).seen (view t).seen = record {
      between = f.0.between;
      rest = [];
      parts = f.0.seen ∙ sym (append-nil ((view s).seen ++ f.0.between));
      was = subst (λ es. IsAhead z es s.head) f.0.seen f.1;
    } in (
      all,
      (
        omega (arith, le, same),
        inr (record {
          place = s.head;
          later = omega arith;
          ahead = was_on (λ es. IsAhead z es s.head) (view s).seen (view t).seen more.between (view u).seen more.seen ahead;
          late = record {
            between = [];
            rest = all.between;
            parts = all.seen ∙ ap (λ es. es ++ all.between) (sym (append-nil (view s).seen));
            was = subst (λ es. WasLate z es s.head) (sym (append-nil (view s).seen)) late;
          };
        }),
      ),
    )

-- a push that is done after its seat saw more
pub pushed_after : (a b c : Known) (body : ℕ) → SeesMore a b → Pushed b body c → Pushed a body c
pushed_after a b c body f g = record {
  number = g.number ∙ f.number;
  between = f.between ++ g.between;
  seen = g.seen ∙ (λ i. (f.seen i ++ g.between) ++ Push (f.number i) body ∷ []) ∙ ap (λ es. es ++ Push a.number body ∷ []) (append_assoc a.seen f.between g.between);
  mine = g.mine ∙ (λ i. f.mine i ++ Push (f.number i) body ∷ []);
  notes = g.notes ∙ f.notes;
}

-- pushes that are done after their seat saw more
pub pushed_all_after : (a b c : Known) (bodies : List ℕ) → SeesMore a b → PushedAll b bodies c → PushedAll a bodies c
pushed_all_after a b c bodies f g = record {
  number = g.number ∙ f.number;
  between = f.between ++ g.between;
  seen = g.seen ∙ (λ i. (f.seen i ++ g.between) ++ pushes (f.number i) bodies) ∙ ap (λ es. es ++ pushes a.number bodies) (append_assoc a.seen f.between g.between);
  mine = g.mine ∙ (λ i. f.mine i ++ pushes (f.number i) bodies);
  notes = g.notes ∙ f.notes;
}
