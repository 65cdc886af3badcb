-- What an outcome adds to the entries of the operations that had their effect.
use Rattle.std.proofs.Common.{◌≡◌, ℕ, Bool, true, false, nat_le, if◌then◌else◌, Option, Some, None, List, [], ◌∷◌, ◌++◌, sym, ap, subst}
use Rattle.std.specs.List.{flat_map}
use Rattle.step_machine.specs.Below.{Op, Enq, Deq, Shut, Taken, Reply, Done, Stamped, Entry, Push, ShutEntry, Pop, Queue, response, Plays, inserted, by_point, Actor, Outcome}
use Rattle.step_machine.specs.Machine.{World}
use Rattle.step_machine.specs.Completion.{completed_reply}
use Rattle.step_machine.specs.Entries.{pushed_by, entry_with, entry_of}
use Rattle.step_machine.proofs.Fixed.{Pushes}
use Rattle.step_machine.proofs.Replay.{place}
use Rattle.step_machine.proofs.CompletionSteps.{bare_completion}

-- the entries that an outcome adds: where it gives a place, that of the reply that it tells, or that the call has earned
abbrev pub gained_at : (me : ℕ) → Op → (at : Option ℕ) → (reply due : Option Reply) → List Entry
gained_at me op None reply due = []
gained_at me op (Some n) reply due = entry_with me op (completed_reply reply (Some n) due)

abbrev pub gained : (me : ℕ) → Op → Outcome → List Entry
gained me op o = gained_at me op o.at o.reply o.actor.due

-- the entries of a world's book, by rising place
abbrev pub completion_entries : World → List Entry
completion_entries w = flat_map entry_of (by_point (bare_completion w))

-- a step adds what its outcome gains
abbrev pub Gains : World → World → (me : ℕ) → Actor → Outcome → Type 0
Gains w v me a o = completion_entries v ≡ completion_entries w ++ gained me a.op o

-- an operation without an entry may be inserted anywhere
pub nothing_inserted : (y : Stamped) (ps : List Stamped) → entry_of y ≡ [] → flat_map entry_of (inserted y ps) ≡ flat_map entry_of ps
nothing_inserted y [] none = ap (λ es. es ++ []) none
nothing_inserted y (p ∷ ps) none = go (nat_le (place y) (place p)) (nothing_inserted y ps none)
  where
    go : (b : Bool) → flat_map entry_of (inserted y ps) ≡ flat_map entry_of ps → flat_map entry_of (if b then y ∷ p ∷ ps else p ∷ inserted y ps) ≡ flat_map entry_of (p ∷ ps)
    go true ih = ap (λ es. es ++ flat_map entry_of (p ∷ ps)) none
    go false ih = ap (λ es. entry_of p ++ es) ih

-- entries after others lead on
pub plays-append : (q r s : Queue) (es fs : List Entry) → Plays q es r → Plays r fs s → Plays q (es ++ fs) s
plays-append q r s [] fs h g = subst (λ x. Plays x fs s) (sym h) g
plays-append q r s (Push seat body ∷ es) fs h g = (h.0, plays-append (response seat (Enq body) q).after r s es fs h.1 g)
plays-append q r s (ShutEntry seat ∷ es) fs h g = (h.0, plays-append (response seat Shut q).after r s es fs h.1 g)
plays-append q r s (Pop seat value ∷ es) fs h g = (h.0, plays-append (response seat Deq q).after r s es fs h.1 g)

-- the entry of an enqueue leads to what the queue gives
pub push_plays : (me : ℕ) (op : Op) (v : Taken) (q r : Queue) → Pushes me op v → Done ≡ (response me op q).reply → (response me op q).after ≡ r → Plays q (pushed_by me op) r
push_plays me (Enq body) v q r h d e = (sym d, e)
push_plays me Deq v q r h d e = absurd h
push_plays me Shut v q r h d e = absurd h

-- so does that of a shut
pub shut_plays : (me : ℕ) (op : Op) (q r : Queue) → op ≡ Shut → Done ≡ (response me op q).reply → (response me op q).after ≡ r → Plays q (pushed_by me op) r
shut_plays me Shut q r is d e = (sym d, e)
shut_plays me (Enq body) q r is d e = (sym d, e)
shut_plays me Deq q r is d e = absurd (let f : Deq ≡ Shut = is in cc)
