-- What turns of a push and a pop do with values that lie in their places.
use Rattle.std.proofs.Common.{◌≡◌, ℕ, zero, suc, ◌≤◌, Bool, true, false, List, [], ◌∷◌, ◌++◌, length, take, arith, sym, refl, ap, ◌∙◌, subst, append_assoc}
use Rattle.std.proofs.Math.Logic.{∥∥₁_elim, ∥∥₁_map}
use Rattle.std.proofs.Math.Nat.{ℕ_set}
use Rattle.atomic_table.specs.Seated.{TableId}
use Rattle.history.specs.declared.operations.Taken.{Taken}
use Rattle.node_arena.specs.Deeds.{Deed, Item, item, Runs, pushed, popped}
use Rattle.node_arena.proofs.Loads.{length-matches, runs_to_pop}
use Rattle.ring_queue.specs.declared.pushes.PushTurn.{PushTurn}
use Rattle.ring_queue.specs.declared.pushes.PushTurn.TheVariants.{Done, Stopped, Failed}
use Rattle.ring_queue.specs.declared.pops.Turn.{Turn}
use Rattle.ring_queue.specs.declared.pops.Turn.TheVariants.{Took, Empty, Closed, Failed as Missed}
use Rattle.ring_queue.specs.declared.seats.Seat.{Seat}
use Rattle.ring_queue.specs.Plans.{Layout}
use Rattle.ring_queue.specs.Beside.{KnowsBy, SaidBy, StoodFirst}
use Rattle.ring_queue.specs.Placed.{Hand, loading, HasRead, number_of}
use Rattle.ring_queue.specs.PlacedSeats.{AddsSaid, PopsSaid, SaysTurn, TookTurn, said_by}
use Rattle.ring_queue.specs.Hands.{TurnMoves}
use Rattle.ring_queue.specs.Turns.{TookNone}
use Rattle.ring_queue.specs.Seats.{Sits, KeepsSlots, view}
use Rattle.ring_queue.proofs.Moved.{nothing_between, stays_on}

-- what is at hand was loaded
pub has_read : (h : Hand) (ws : List ℕ) → h ≡ loading ws → HasRead h ws
has_read h [] is = tt
has_read h (w ∷ ws) is = is

-- so many of the first words of a list or more are all
take_whole : (n : ℕ) (xs : List ℕ) → length xs ≤ n → take n xs ≡ xs
take_whole zero [] le = refl
take_whole zero (x ∷ xs) le = absurd (let g : suc (length xs) ≤ 0 = le in omega (arith, g))
take_whole (suc n) [] le = refl
take_whole (suc n) (x ∷ xs) le = ap (λ ys. x ∷ ys) (take_whole n xs (let g : suc (length xs) ≤ suc n = le in omega (arith, g)))

-- all words that were to be loaded are at hand
pub read_all : (h : Hand) (value : List ℕ) (n : ℕ) → HasRead h (take n value) → length value ≤ n → 1 ≤ length value → h ≡ loading value
read_all h value n has all some = go value some (subst (HasRead h) (take_whole n value all) has)
  where
    go : (ws : List ℕ) → 1 ≤ length ws → HasRead h ws → h ≡ loading ws
    go [] some has = absurd (let g : 1 ≤ 0 = some in omega (arith, g))
    go (w ∷ ws) some has = has

module _ {T : Type 0} where
  -- a deed of its own, and then none more
  pub adds_then : (s t u : Seat T) (d : Deed (List ℕ)) → AddsSaid s t d → said_by u ≡ said_by t → AddsSaid s u d
  adds_then s t u d adds same = record { between = adds.between; deeds = same ∙ adds.deeds }

  -- a deed of its own behind steps that add none
  pub then_said : (s t u : Seat T) (d d' : Deed (List ℕ)) → d ≡ d' → KeepsSlots s t → AddsSaid t u d → AddsSaid s u d'
  then_said s t u d d' same k adds = record {
    between = k.said.0 ++ adds.between;
    deeds = adds.deeds ∙ ((λ i. (k.said.1 i ++ adds.between) ++ same i ∷ []) ∙ ap (λ ds. ds ++ d' ∷ []) (append_assoc (said_by s) k.said.0 adds.between));
  }

  -- a turn of a push after its seat found room
  pub turn_said : (s t u : Seat T) (value : List ℕ) (turn : PushTurn) → (view t).number ≡ (view s).number → KeepsSlots s t → SaysTurn t u value turn → SaysTurn s u value turn
  turn_said s t u value Done number k says = then_said s t u (pushed (view t).number value) (pushed (view s).number value) (ap (λ n. pushed n value) number) k says
  turn_said s t u value (Stopped refusal) number k says = stays_on s t u k says
  turn_said s t u value Failed number k says = stays_on s t u k says

  -- a pop behind steps that add none
  pub then_pops : (s t u : Seat T) (front : Item (List ℕ)) → (view t).number ≡ (view s).number → KeepsSlots s t → PopsSaid t u front → PopsSaid s u front
  unfolding then_said
  then_pops s t u front number k pops = record {
    adds = then_said s t u (popped (view t).number front) (popped (view s).number front) (ap (λ n. popped n front) number) k pops.adds;
    stood = subst (λ ds. ∥ StoodFirst ds front ∥₁) (ap (λ ds. ds ++ pops.adds.between) k.said.1 ∙ append_assoc (said_by s) k.said.0 pops.adds.between) pops.stood;
  }

  pub turn_took : (s t u : Seat T) (value : List ℕ) (turn : Turn) → (view t).number ≡ (view s).number → KeepsSlots s t → TookTurn t u value turn → TookTurn s u value turn
  turn_took s t u value (Took v) number k took = then_pops s t u (item v.from value) number k took
  turn_took s t u value Empty number k took = stays_on s t u k took
  turn_took s t u value Closed number k took = stays_on s t u k took
  turn_took s t u value Missed number k took = stays_on s t u k took

  -- a turn that took no value
  pub end_took : (z : Layout) (s t u : Seat T) (value : List ℕ) (turn : Turn) → TookNone turn → KeepsSlots s t → TurnMoves z t u turn → TookTurn s u value turn
  end_took z s t u value (Took v) none k moves = absurd none
  end_took z s t u value Empty none k moves = stays_on s t u k moves
  end_took z s t u value Closed none k moves = stays_on s t u k moves
  end_took z s t u value Missed none k moves = stays_on s t u k moves

module _ {T : Type 0} (z : Layout) (id : TableId) (placed : z.placed ≡ true) (numbers : z.carries ≡ false) where
  -- what a seat knows of the values is so
  known_said : (s : Seat T) → Sits z id s → ∥ SaidBy true (view s).seen s.token.me.0 ∥₁
  known_said s is = subst (λ (b : Bool). ∥ SaidBy b (view s).seen s.token.me.0 ∥₁) placed (subst (λ (b : Bool). ∥ KnowsBy b z (view s).seen s.token.me.0 ∥₁) numbers is.valued)

  -- a seat has seen as many deeds as entries
  length-said : (s : Seat T) → Sits z id s → length (said_by s) ≡ length (view s).seen
  length-said s is = ∥∥₁_elim (known_said s is) (ℕ_set (length (said_by s)) (length (view s).seen)) (λ k. length-matches (view s).seen (said_by s) k.matches)

  -- where nothing more is seen of the queue, nothing more is seen of its values
  pub same_said : (s t : Seat T) → Sits z id s → Sits z id t → KeepsSlots s t → (view t).seen ≡ (view s).seen → said_by t ≡ said_by s
  same_said s t is it k same =
      let long : length (said_by s ++ k.said.0) ≡ length (said_by s) = sym (ap length k.said.1) ∙ (length-said t it ∙ (ap length same ∙ sym (length-said s is))) in
      k.said.1 ∙ nothing_between (said_by s) k.said.0 long

  -- what a seat popped stood in front
  pub pops_said : (s t : Seat T) (front : Item (List ℕ)) → Sits z id t → AddsSaid s t (popped (view s).number front) → PopsSaid s t front
  pops_said s t front it adds = record {
    adds = adds;
    stood = ∥∥₁_map (known_said t it) (λ (k : SaidBy true (view t).seen t.token.me.0).
        runs_to_pop [] false (said_by s ++ adds.between) [] (view s).number front k.values k.shut (subst (λ ds. Runs [] false ds k.values k.shut) adds.deeds k.runs));
  }

-- an item of the seat that a word names, and a number 0
pub front_is : (front : Item (List ℕ)) (value : List ℕ) (taken : Taken) → number_of front ≡ taken → value ≡ front.value → item taken.from value ≡ front
front_is front value taken is same = (λ i. item ((sym is i).from) (same i))
