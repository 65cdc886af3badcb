-- What a seat of an arena that carries values knows of them is sound.
use Rattle.std.proofs.Common.{◌≡◌, ℕ, ◌≤◌, Bool, true, false, List, [], ◌∷◌, length, take, drop, inl, inr, sym, refl, ap, subst, ◌∙◌, arith}
use Rattle.std.specs.Coded.{×_prop}
use Rattle.std.proofs.Math.Logic.{∥∥₁_elim}
use Rattle.std.proofs.Math.Nat.{ℕ_set}
use Rattle.std.proofs.lemmas.List.{take-append-drop}
use Rattle.std.proofs.lemmas.List.Elements.{All-weaker}
use Rattle.history.specs.declared.operations.Entry.{Entry}
use Rattle.history.specs.Entries.{Leads, LeadsToShut}
use Rattle.history.specs.Seats.{Permit, IsNoted, IsSound}
use Rattle.carriers.specs.declared.items.ItemOf.{ItemOf}
use Rattle.carriers.specs.Deeds.{Deed, own_deeds, RunsTo, RunsToShut, IsRun}
use Rattle.carriers.specs.Knowledge.{IsNotedOf, IsSoundOf}
use Rattle.carriers.specs.DeedsOfNumbers.{Matches}
use Rattle.carriers.proofs.Running.{run-first}
use Rattle.node_arena.specs.declared.seats.Seat.{Seat}
use Rattle.node_arena.specs.Arenas.{Arena}
use Rattle.node_arena.specs.Beside.{KnowsBy, slots_in}
use Rattle.node_arena.specs.Seats.{IsSeat, IsReady, HasNoSlot, carries_of, deeds_of, known_of, permits_of, view}
use Rattle.node_arena.proofs.OneProof.{IsReady-prop}
use Rattle.node_arena.proofs.Seens.{sound_of}
use Rattle.value_queue.specs.ValuesSeen.{left_by, shut_by, seen_by, known_by}
use Rattle.value_queue.specs.Runs.{CanRun, CanRun-prop, Runs-told, CanRun-Runs, Matches-told}
use Rattle.value_queue.specs.Sights.{Sight, values_seen, values_known, IsClear}
use Rattle.value_queue.specs.Matched.{Matches-prop, Matches-take, length-Matches, length-own, permitted-Matches, left-Matches}

-- what has no length is empty
pub nil : {X : Type 0} (xs : List X) → 0 ≡ length xs → xs ≡ []
nil [] e = refl
nil (x ∷ xs) e = absurd (omega (arith, e))

-- deeds that run lead as far as the entries with which they go
module _ {A : Type 0} (es : List Entry) (ds : List (Deed A)) (m : Matches es ds) where
  -- they leave the queue empty where the entries do
  pub RunsTo-Matches : (shut : Bool) → IsRun ds → Leads es shut [] → RunsTo ds shut []
  RunsTo-Matches shut run leads =
      let same = left-Matches es ds false [] [] (record { values = []; shut = shut }) run.0 run.1 refl leads run.2 m in
      let P : List (ItemOf A) × Bool → Type 0 = λ y. RunsTo ds y.1 y.0 in
      subst P (λ i. (nil run.0 same.0 i, sym same.1 i)) run.2

  -- and shut
  pub RunsToShut-Matches : IsRun ds → LeadsToShut es → RunsToShut ds
  RunsToShut-Matches run leads =
      let same = left-Matches es ds false [] [] (record { values = leads.0; shut = true }) run.0 run.1 refl leads.1 run.2 m in
      (run.0, subst (λ (b : Bool). RunsTo ds b run.0) (sym same.1) run.2)

module _ {A : Type 0} (es : List Entry) (ds : List (Deed A)) (m : Matches es ds) (run : IsRun ds) where
  run-take : (n : ℕ) → IsRun (take n ds)
  run-take n = run-first (take n ds) (drop n ds) (subst IsRun (sym (take-append-drop n ds)) run)

  -- what is noted of the entries is so of them
  pub noted-Matches : (n : ℕ) → IsNoted es n → IsNotedOf ds n
  noted-Matches n (inl a) = inl (subst (λ k. n ≤ k) (sym (length-Matches es ds m)) a.0, RunsTo-Matches (take n es) (take n ds) (Matches-take n es ds m) false (run-take n) a.1)
  noted-Matches n (inr b) = inr (subst (λ k. n ≤ k) (sym (length-Matches es ds m)) b.0, RunsToShut-Matches (take n es) (take n ds) (Matches-take n es ds m) (run-take n) b.1)

module _ {T : Type 0} (s : Sight T) (is : IsClear s) where
  -- what a seat has seen of values is a run
  pub seen_runs : IsRun (values_seen s)
  seen_runs = (left_by [] s.deeds, shut_by false s.deeds, Runs-told [] false s.deeds is.can)

  -- it has as many deeds of its own as entries
  pub length-mine : length (own_deeds s.known.number (values_seen s)) ≡ length s.known.mine
  length-mine = length-own s.known.number s.known.seen (values_seen s) is.matches ∙ ap length is.own

  -- what it knows of values is sound where what it knows of numbers is
  pub sound-values : (permits : List Permit) → IsSound permits s.known → IsSoundOf permits (values_known s)
  sound-values permits sound =
      record {
        run = seen_runs;
        permitted = permitted-Matches permits s.known.seen (values_seen s) is.matches sound.permitted;
        own = refl;
        noted = All-weaker (IsNoted s.known.seen) (IsNotedOf (values_seen s)) (noted-Matches s.known.seen (values_seen s) is.matches seen_runs) s.known.notes sound.noted;
      }

-- what a seat of an arena shows
abbrev pub sight : {T : Type 0} → Seat T → Sight T
sight s = record { known = known_of s; deeds = deeds_of s }

module _ {T : Type 0} (r : Arena) (carries : carries_of r ≡ true) (s : Seat T) (is : IsSeat r s) where
  its_sound : IsSound (permits_of r) (known_of s)
  its_sound = sound_of r.plan (view s) is.sits.fitted

  facts : CanRun [] false (deeds_of s) × Matches (view s).seen (seen_by s)
  facts =
      ∥∥₁_elim is.sits.valued (×_prop (CanRun-prop [] false (deeds_of s)) (Matches-prop (view s).seen (seen_by s)))
      (λ k. let known = subst (λ (b : Bool). KnowsBy b r.plan (view s).seen s.token.me.0) carries k in (
        CanRun-Runs [] false (deeds_of s) known.values known.shut known.runs,
        Matches-told [] false (view s).seen (deeds_of s) known.values known.shut known.runs known.matches,
      ))

  -- what it has seen of values goes with the entries that it has seen
  pub clear : IsClear (sight s)
  clear = record { can = facts.0; matches = facts.1; own = its_sound.own }

  -- what it knows of values is sound
  pub sound-seat : IsSoundOf (permits_of r) (known_by s)
  sound-seat = sound-values (sight s) clear (permits_of r) its_sound

-- that a seat is a queue's has at most one proof
pub IsQueueSeat-prop : {T : Type 0} (r : Arena) (s : Seat T) → IsProp (IsReady r s × HasNoSlot s)
IsQueueSeat-prop r s = ×_prop (IsReady-prop r s) (×_prop (ℕ_set (length s.token.me.1) 0) (ℕ_set (slots_in s.token.me.0.hand) 0))
