-- What a seat has seen after its step: the whole history at some lines, and what it had seen at the others.
use Rattle.std.proofs.Common.{◌≡◌, ℕ, Bool, true, false, if◌then◌else◌, List, [], ◌∷◌, ◌++◌, sym, refl, ap, ◌∙◌, subst, append-nil, append_assoc}
use Rattle.std.specs.List.{All}
use Rattle.std.proofs.Math.Logic.{∥∥₁_elim}
use Rattle.std.proofs.lemmas.List.Elements.{All-nil, All-cons, All-head, All-tail}
use Rattle.line_table.specs.declared.lines.Line.{Line}
use Rattle.line_table.specs.declared.lines.Line.TheVariants.{E9, D13, A5, B5, S4, S8}
use Rattle.history.specs.declared.operations.Entry.{Entry}
use Rattle.history.specs.declared.operations.Entry.TheVariants.{Push, Pop, Shut}
use Rattle.history.specs.Queue.{Queue, empty}
use Rattle.history.specs.Entries.{Plays, IsQueueRun, own_entries}
use Rattle.history.specs.Seats.{IsSound}
use Rattle.history.proofs.OneProof.{IsSound-prop}
use Rattle.line_steps.specs.declared.actors.Setup.{Setup}
use Rattle.line_steps.specs.Actors.{Actor}
use Rattle.line_steps.specs.Memory.{Found}
use Rattle.line_steps.specs.Lines.{action}
use Rattle.node_arena.specs.Traces.{Traced, IsTraced, entries_of, sees}
use Rattle.node_arena.specs.Knowledge as seeing
use Rattle.node_arena.specs.Knowledge.{SeatView}
use Rattle.node_arena.specs.Plans.{Layout, RolesPermit, permits_by}
use Rattle.node_arena.specs.Rule.{Fitted}
use Rattle.node_arena.proofs.Tracing.{traced_reached}
use Rattle.node_arena.proofs.Histories.{history_plays}
use Rattle.step_machine.proofs.EitherQueue.{have_their_places}

-- a line at which a seat doesn't see the history adds nothing to it
pub silent : (s : Setup) (me : ℕ) (a : Actor) (l : Line) (c : Found (action s me a l)) → sees l ≡ false → entries_of s me a l c ≡ []
silent s me a E9 c e = absurd (let f : true ≡ false = e in cc)
silent s me a D13 c e = absurd (let f : true ≡ false = e in cc)
silent s me a A5 c e = absurd (let f : true ≡ false = e in cc)
silent s me a B5 c e = absurd (let f : true ≡ false = e in cc)
silent s me a S4 c e = absurd (let f : true ≡ false = e in cc)
silent s me a S8 c e = absurd (let f : true ≡ false = e in cc)
silent s me a _ c e = refl

-- the history, which is `old` and `more` and then `es`, where a seat sees it, or else doesn't
module _ (old more es history : List Entry) (is : history ≡ (old ++ more) ++ es) where
  seen_by : Bool → List Entry
  seen_by b = if b then history else old

  abbrev pub later : Bool → List Entry
  later true = []
  later false = more ++ es

  pub begins_by : (b : Bool) → history ≡ (if b then history else old) ++ later b
  begins_by true = sym (append-nil history)
  begins_by false = is ∙ append_assoc old more es

  abbrev pub between : Bool → List Entry
  between true = more
  between false = []

  pub seen_is : (b : Bool) → (b ≡ false → es ≡ []) → (if b then history else old) ≡ (old ++ between b) ++ es
  seen_is true none = is
  seen_is false none = sym (append-nil old) ∙ sym (append-nil (old ++ [])) ∙ ap (λ xs. (old ++ []) ++ xs) (sym (none refl))

  pub whole_by : (b : Bool) → b ≡ true → (if b then history else old) ≡ history
  whole_by true e = refl
  whole_by false e = absurd (let f : false ≡ true = e in cc)

  pub stays_by : (b : Bool) → b ≡ false → (if b then history else old) ≡ old
  stays_by true e = absurd (let f : true ≡ false = e in cc)
  stays_by false e = refl

  pub known_by : (me : ℕ) (mine : List Entry) (b : Bool) → (b ≡ false → es ≡ []) → own_entries me history ≡ mine ++ es → own_entries me old ≡ mine
      → own_entries me (if b then history else old) ≡ mine ++ es
  known_by me mine true none all known = all
  known_by me mine false none all known = known ∙ sym (append-nil mine) ∙ ap (λ xs. mine ++ xs) (sym (none refl))

-- what holds of all entries holds of the first ones
pub All-first : (P : Entry → Type 0) (xs ys : List Entry) → All P (xs ++ ys) → All P xs
All-first P [] ys h = All-nil P
All-first P (x ∷ xs) ys h = All-cons P x xs (All-head P x (xs ++ ys) h) (All-first P xs ys (All-tail P x (xs ++ ys) h))

plays_first : (xs ys : List Entry) (from to : Queue) → Plays from (xs ++ ys) to → (after : Queue) × Plays from xs after
plays_first [] ys from to h = (from, refl)
plays_first (Push seat body ∷ xs) ys from to h = let r = plays_first xs ys _ to h.1 in (r.0, (h.0, r.1))
plays_first (Shut seat ∷ xs) ys from to h = let r = plays_first xs ys _ to h.1 in (r.0, (h.0, r.1))
plays_first (Pop seat value ∷ xs) ys from to h = let r = plays_first xs ys _ to h.1 in (r.0, (h.0, r.1))

-- a prefix of a legal history is legal
pub legal_first : (xs ys : List Entry) → IsQueueRun (xs ++ ys) → IsQueueRun xs
legal_first xs ys h = plays_first xs ys empty h.0 h.1

-- the history of a traced world is legal
pub history_legal : (t : Traced) → IsTraced t → IsQueueRun t.history
history_legal t r = let p = have_their_places t.world (traced_reached t r) in (_, history_plays t r p.0 p.2.queue_chain)

-- what a seat has seen is legal
pub seen_legal : (z : Layout) (v : SeatView) → Fitted z v → IsQueueRun v.seen
seen_legal z v f = legal_first v.seen f.fits.rest (subst IsQueueRun f.fits.begins (history_legal f.trace f.reached))

-- permitted
pub seen_permitted : (z : Layout) (v : SeatView) → Fitted z v → All (RolesPermit z.roles) v.seen
seen_permitted z v f = All-first (RolesPermit z.roles) v.seen f.fits.rest (subst (All (RolesPermit z.roles)) f.fits.begins f.permitted)

-- its own entries are just those that it has seen, and the queue was empty, or shut, where it noted that
pub sound_of : (z : Layout) (v : SeatView) → ∥ Fitted z v ∥₁ → IsSound (permits_by z.roles) (seeing.known_by v)
sound_of z v fitted =
    ∥∥₁_elim fitted (IsSound-prop (permits_by z.roles) (seeing.known_by v)) (λ f. record { legal = seen_legal z v f; permitted = seen_permitted z v f; own = f.fits.known; noted = f.fits.noted })
