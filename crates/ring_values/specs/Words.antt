-- A queue of values whose words lie in their places, as a queue with seats: what its seats know of values, and that this is sound.
use Rattle.std.proofs.Common.{ℕ, Bool, false, List, [], subst}
use Rattle.std.specs.Coded.{×_prop}
use Rattle.std.proofs.Math.Logic.{∥∥₁_elim}
use Rattle.carriers.specs.Knowledge.{KnownOf, IsSoundOf}
use Rattle.carriers.specs.DeedsOfNumbers.{Matches}
use Rattle.ring_queue.specs.declared.queue.RingQueue.{RingQueue}
use Rattle.ring_queue.specs.declared.seats.Seat.{Seat}
use Rattle.ring_queue.specs.Beside.{KnowsBy, SaidBy}
use Rattle.ring_queue.specs.Seats.{known_of, view}
use Rattle.ring_queue.specs.PlacedSeats.{IsWordSeat, said_by}
use Rattle.ring_queue.specs.Queues.{permits_in}
use Rattle.value_queue.specs.ValuesSeen.{told}
use Rattle.value_queue.specs.Runs.{CanRun, CanRun-prop, CanRun-Runs, Matches-told}
use Rattle.value_queue.specs.Matched.{Matches-prop}
use Rattle.value_queue.specs.Sights.{Sight, IsClear, values_known}
use Rattle.value_queue.specs.Sound.{sound-values}

module _ {T : Type 0} where
  -- whether the values of a ring lie in their places
  abbrev pub placed_of : RingQueue T → Bool
  placed_of r = r.plan.placed

  -- of how many words each is
  abbrev pub width_of : RingQueue T → ℕ
  width_of r = r.plan.width

  -- what a seat of a ring of words shows
  abbrev pub word_sight : Seat T → Sight (List ℕ)
  word_sight s = record { known = known_of s; deeds = said_by s }

  -- what it knows of values
  abbrev pub words_known : Seat T → KnownOf (List ℕ)
  words_known s = values_known (word_sight s)

module _ {T : Type 0} (r : RingQueue T) (s : Seat T) (is : IsWordSeat r s) where
  word_facts : CanRun [] false (said_by s) × Matches (view s).seen (told [] (said_by s))
  word_facts =
      ∥∥₁_elim is.ready.sits.valued (×_prop (CanRun-prop [] false (said_by s)) (Matches-prop (view s).seen (told [] (said_by s))))
      (λ k.
      let numbers = r.laid.planned.apart is.placed in
      let said = subst (λ (b : Bool). SaidBy b (view s).seen s.token.me.0) is.placed (subst (λ (b : Bool). KnowsBy b r.plan (view s).seen s.token.me.0) numbers k) in (
        CanRun-Runs [] false (said_by s) said.values said.shut said.runs,
        Matches-told [] false (view s).seen (said_by s) said.values said.shut said.runs said.matches,
      ))

  -- what it has seen of values goes with the entries that it has seen
  pub clear_words : IsClear (word_sight s)
  clear_words = record { can = word_facts.0; matches = word_facts.1; own = is.ready.sits.sound.own }

  -- what it knows of values is sound
  pub sound_words : IsSoundOf (permits_in r) (words_known s)
  sound_words = sound-values (word_sight s) clear_words (permits_in r) is.ready.sits.sound
