-- The one place of each node, and how many nodes a chain has.
use Rattle.std.proofs.Common.{◌≡◌, ◌≢◌, ℕ, zero, suc, ◌+◌, ◌*◌, ◌-◌, ◌≤◌, ◌<◌, Bool, true, false, nat_eq, nat_le, if◌then◌else◌, List, [], ◌∷◌, length, refl, sym, ap, ◌∙◌, subst, arith, ◌⊎◌, inl, inr}
use Rattle.std.specs.Prelude.{Contains}
use Rattle.std.proofs.lemmas.Bool.{leb-true, leb-false}
use Rattle.step_machine.specs.Below.{IsSplit, reserved_node, Node}
use Rattle.step_machine.specs.declared.places.Place.TheVariants.{Untouched, Queue, Free, Held, SetAside}
use Rattle.step_machine.specs.declared.places.Place.{Place}
use Rattle.step_machine.specs.Machine.{World, IsReached, IsMade}
use Rattle.step_machine.specs.Places.{IsEnd, IsQueueChain, one_if, times, held, set_aside, IsQueued, IsFree, Places}
use Rattle.step_machine.specs.NodePlaces.{IsAt, TellsWhetherThere, TellsOfChain}
use Rattle.step_machine.specs.EachQueue.{HasItsPlaces}
use Rattle.step_machine.proofs.Reached.{made_reached, made_in_range, few_nodes}
use Rattle.step_machine.proofs.Chains.{next_in, one_if_tells, one_if_same, one_if_other, ends_apart, chain_same, chain_some, null_times}
use Rattle.step_machine.proofs.Counting.{used, used_within, used_above}
use Rattle.step_machine.proofs.EitherQueue.{contained, same_queue, same_free, have_their_places}

-- a number is at most another one, or it is above
le_or_lt : (n m : ℕ) → (n ≤ m) ⊎ (m < n)
le_or_lt n m = go (nat_le n m) refl
  where
    go : (b : Bool) → nat_le n m ≡ b → (n ≤ m) ⊎ (m < n)
    go true e = inl (leb-true n m e)
    go false e = inr (leb-false n m e)

-- a list without a number
abbrev without : ℕ → List ℕ → List ℕ
without k [] = []
without k (n ∷ ns) = if nat_eq k n then without k ns else n ∷ without k ns

length-without : (k : ℕ) (ns : List ℕ) → length ns ≡ times k ns + length (without k ns)
length-without k [] = refl
length-without k (n ∷ ns) = go (nat_eq k n) (length-without k ns)
  where
    go : (b : Bool) → length ns ≡ times k ns + length (without k ns) → suc (length ns) ≡ one_if b + times k ns + length (if b then without k ns else n ∷ without k ns)
    go true ih = omega arith
    go false ih = omega arith

times-without_other : (j k : ℕ) (ns : List ℕ) → times j (without k ns) ≤ times j ns
times-without_other j k [] = omega arith
times-without_other j k (n ∷ ns) = go (nat_eq k n) (times-without_other j k ns)
  where
    go : (b : Bool) → times j (without k ns) ≤ times j ns → times j (if b then without k ns else n ∷ without k ns) ≤ one_if (nat_eq j n) + times j ns
    go true ih = omega arith
    go false ih = omega arith

times-without_same : (k : ℕ) (ns : List ℕ) → times k (without k ns) ≡ 0
times-without_same k [] = refl
times-without_same k (n ∷ ns) = go (nat_eq k n) refl (times-without_same k ns)
  where
    go : (b : Bool) → nat_eq k n ≡ b → times k (without k ns) ≡ 0 → times k (if b then without k ns else n ∷ without k ns) ≡ 0
    go true e ih = ih
    go false e ih = omega (arith, ap one_if e)

-- numbers from 1 up to another one, none of them twice, are at most so many
at_most : (most : ℕ) (ns : List ℕ) → ((k : ℕ) → 1 ≤ times k ns → (1 ≤ k) × (k ≤ most)) → ((k : ℕ) → times k ns ≤ 1) → length ns ≤ most
at_most most [] within once = omega arith
at_most zero (n ∷ ns) within once =
    let one : one_if (nat_eq n n) ≡ 1 = one_if_same n n refl in
    let in_range : (1 ≤ n) × (n ≤ 0) = within n (omega arith) in
    absurd (let a : 1 ≤ n = in_range.0 in let b : n ≤ 0 = in_range.1 in omega arith)
at_most (suc most) (n ∷ ns) within once =
    let fewer : length (without (suc most) (n ∷ ns)) ≤ most =
    at_most most (without (suc most) (n ∷ ns)) below (λ k. let a : times k (n ∷ ns) ≤ 1 =
    once k in let b : times k (without (suc most) (n ∷ ns)) ≤ times k (n ∷ ns) = times-without_other k (suc most) (n ∷ ns) in omega arith) in
    let a : times (suc most) (n ∷ ns) ≤ 1 = once (suc most) in
    let b : length (n ∷ ns) ≡ times (suc most) (n ∷ ns) + length (without (suc most) (n ∷ ns)) = length-without (suc most) (n ∷ ns) in
    omega arith
  where
    below : (k : ℕ) → 1 ≤ times k (without (suc most) (n ∷ ns)) → (1 ≤ k) × (k ≤ most)
    below k more = pick (one_if_tells k (suc most))
      where
        in_range : (1 ≤ k) × (k ≤ suc most)
        in_range = within k (let b : times k (without (suc most) (n ∷ ns)) ≤ times k (n ∷ ns) = times-without_other k (suc most) (n ∷ ns) in omega arith)

        pick : ((k ≡ suc most) × (one_if (nat_eq k (suc most)) ≡ 1)) ⊎ ((k ≢ suc most) × (one_if (nat_eq k (suc most)) ≡ 0)) → (1 ≤ k) × (k ≤ most)
        pick (inl t) =
            absurd (let none : times k (without (suc most) (n ∷ ns)) ≡ 0 = subst (λ j. times j (without (suc most) (n ∷ ns)) ≡ 0) (sym t.0) (times-without_same (suc most) (n ∷ ns)) in omega arith)
        pick (inr f) =
            (in_range.0, let ne : k ≢ suc most = f.0 in let low : k ≤ suc most = in_range.1 in omega arith)

-- a number that is in a list stands in it
stands : (n : ℕ) (ns : List ℕ) → 1 ≤ times n ns → Contains ns n
stands n [] more = absurd (omega arith)
stands n (x ∷ xs) more = pick (one_if_tells n x) (stands n xs)
  where
    later : Contains xs n → Contains (x ∷ xs) n
    later c = (suc c.0, omega (arith, c.1), c.2)

    pick : ((n ≡ x) × (one_if (nat_eq n x) ≡ 1)) ⊎ ((n ≢ x) × (one_if (nat_eq n x) ≡ 0)) → (1 ≤ times n xs → Contains xs n) → Contains (x ∷ xs) n
    pick (inl t) ih = (zero, omega arith, sym t.0)
    pick (inr f) ih = later (ih (let none : one_if (nat_eq n x) ≡ 0 = f.1 in omega arith))

-- what is left of a chain, after some of its nodes, has a node as often as the whole chain
abbrev pub Walked : (bits : ℕ) → List Node → (from at node most walked : ℕ) → Type 0
Walked bits nodes from at node most walked =
    (ns : List ℕ) → IsQueueChain bits nodes from ns → length ns ≤ most →
    (rest : List ℕ) × IsQueueChain bits nodes at rest × (length rest + walked ≤ most) × (times node rest ≡ times node ns)

-- what is told in a split is told in one of as many bits
told_in : (bits other : ℕ) → other ≡ bits → (is_there : Bool) (nodes : List Node) (from node most : ℕ) → TellsOfChain bits is_there nodes from node most
    → TellsOfChain other is_there nodes from node most
told_in bits other e is_there nodes from node most = subst (λ b. TellsOfChain b is_there nodes from node most) (sym e)

-- at an end the node wasn't there
pub walked_to_end : (bits : ℕ) (nodes : List Node) (from at node most walked : ℕ) → length nodes < reserved_node bits → IsEnd bits at
    → Walked bits nodes from at node most walked → TellsOfChain bits false nodes from node most
walked_to_end bits nodes from at node most walked few end h ns chain low = go (h ns chain low)
  where
    go : (rest : List ℕ) × IsQueueChain bits nodes at rest × (length rest + walked ≤ most) × (times node rest ≡ times node ns) → TellsWhetherThere false (times node ns)
    go x = (λ e. absurd (let f : false ≡ true = e in cc), λ e. sym x.3 ∙ ap (times node) (chain_same (IsEnd bits) nodes x.0 [] at (ends_apart bits nodes few) x.1 end))

-- at the node it was
pub walked_to_node : (bits : ℕ) (nodes : List Node) (from at node most walked : ℕ) → (IsEnd bits at → ⊥) → at ≡ node
    → Walked bits nodes from at node most walked → TellsOfChain bits true nodes from node most
walked_to_node bits nodes from at node most walked some here h ns chain low = go (h ns chain low)
  where
    go : (rest : List ℕ) × IsQueueChain bits nodes at rest × (length rest + walked ≤ most) × (times node rest ≡ times node ns) → TellsWhetherThere true (times node ns)
    go x =
        let first : (more : List ℕ) × (x.0 ≡ at ∷ more) = chain_some (IsEnd bits) nodes at x.0 some x.1 in
        let one : one_if (nat_eq node at) ≡ 1 = one_if_same node at (sym here) in
        let is : times node x.0 ≡ times node (at ∷ first.0) = ap (times node) first.1 in
        let same : times node x.0 ≡ times node ns = x.3 in
        (λ e. omega arith, λ e. absurd (let f : true ≡ false = e in cc))

-- at another node the chain goes on
pub walked_on : (bits : ℕ) (nodes : List Node) (from at to node most walked : ℕ) → (IsEnd bits at → ⊥) → at ≢ node → to ≡ next_in nodes at
    → Walked bits nodes from at node most walked → Walked bits nodes from to node most (walked + 1)
walked_on bits nodes from at to node most walked some other leads h ns chain low = go (h ns chain low)
  where
    go : (rest : List ℕ) × IsQueueChain bits nodes at rest × (length rest + walked ≤ most) × (times node rest ≡ times node ns)
        → (rest : List ℕ) × IsQueueChain bits nodes to rest × (length rest + (walked + 1) ≤ most) × (times node rest ≡ times node ns)
    go x =
        let first : (more : List ℕ) × (x.0 ≡ at ∷ more) = chain_some (IsEnd bits) nodes at x.0 some x.1 in
        let tail : IsQueueChain bits nodes at (at ∷ first.0) = subst (IsQueueChain bits nodes at) first.1 x.1 in
        let none : one_if (nat_eq node at) ≡ 0 = one_if_other node at (λ e. other (sym e)) in
        let is : times node x.0 ≡ times node (at ∷ first.0) = ap (times node) first.1 in
        let long : length x.0 ≡ length (at ∷ first.0) = ap length first.1 in
        let same : times node x.0 ≡ times node ns = x.3 in
        let fits : length x.0 + walked ≤ most = x.2 in
        (first.0, subst (λ k. IsQueueChain bits nodes k first.0) (sym leads) tail.3, omega arith, omega arith)

-- a place by its number, and the number of a place
abbrev rank : Place → ℕ
rank Untouched = 0
rank Queue = 1
rank Free = 2
rank Held = 3
rank SetAside = 4

abbrev place_ranked : ℕ → Place
place_ranked zero = Untouched
place_ranked (suc zero) = Queue
place_ranked (suc (suc zero)) = Free
place_ranked (suc (suc (suc zero))) = Held
place_ranked (suc (suc (suc (suc n)))) = SetAside

place_ranked-rank : (p : Place) → place_ranked (rank p) ≡ p
place_ranked-rank Untouched = refl
place_ranked-rank Queue = refl
place_ranked-rank Free = refl
place_ranked-rank Held = refl
place_ranked-rank SetAside = refl

module _ (w : World) (queue free : List ℕ) (h : Places w queue free) (n : ℕ) (some : 1 ≤ n) where
  -- 1 for a node that was never used
  abbrev new : ℕ
  new = 1 - used n w.shared.fresh

  -- a node is at one place, once
  once : new + times n queue + times n free + held n w.actors + set_aside n w.aside ≡ 1
  once = go (le_or_lt n w.shared.fresh)
    where
      go : (n ≤ w.shared.fresh) ⊎ (w.shared.fresh < n) → new + times n queue + times n free + held n w.actors + set_aside n w.aside ≡ 1
      go (inl low) = omega (arith, h.touched n some low, used_within n w.shared.fresh low)
      go (inr above) = omega (arith, h.untouched n above, used_above n w.shared.fresh above)

  -- what a chain from Head has, and one from Free, is in the queue and free
  in_queue : IsReached w → IsQueued w n → 1 ≤ times n queue
  in_queue r q =
      subst (λ ns. 1 ≤ times n ns) (same_queue w r q.0 queue q.1 h.queue_chain)
      (contained n q.0 q.2.0 q.2.1 q.2.2)

  in_free : IsFree w n → 1 ≤ times n free
  in_free q =
      subst (λ ns. 1 ≤ times n ns) (same_free w q.0 free q.1 h.free_chain)
      (contained n q.0 q.2.0 q.2.1 q.2.2)

  -- the number of the place where a node is
  abbrev found : ℕ
  found = times n queue + 2 * times n free + 3 * held n w.actors + 4 * set_aside n w.aside

  found_at : IsReached w → (p : Place) → IsAt w n p → found ≡ rank p
  found_at r Untouched at = let a : w.shared.fresh < n = at in omega (arith, once, used_above n w.shared.fresh a)
  found_at r Queue at = omega (arith, once, in_queue r at)
  found_at r Free at = omega (arith, once, in_free at)
  found_at r Held at = let a : 1 ≤ held n w.actors = at in omega (arith, once)
  found_at r SetAside at = let a : set_aside n w.aside ≡ 1 = at in omega (arith, once)

  -- a node is at no two places
  one_place : IsReached w → (p q : Place) → IsAt w n p → IsAt w n q → q ≡ p
  one_place r p q here there =
      sym (place_ranked-rank q) ∙ ap place_ranked (sym (found_at r q there) ∙ found_at r p here) ∙ place_ranked-rank p

  -- the queue has no more nodes than were used
  pub few : length queue ≤ w.shared.fresh
  few = at_most w.shared.fresh queue within (λ k. go k)
    where
      none : times 0 queue ≡ 0
      none = null_times (IsEnd w.setup.bits) w.shared.nodes queue w.shared.head.node h.queue_chain

      go : (k : ℕ) → times k queue ≤ 1
      go zero = omega (arith, none)
      go (suc k) = pick (le_or_lt (suc k) w.shared.fresh)
        where
          pick : (suc k ≤ w.shared.fresh) ⊎ (w.shared.fresh < suc k) → times (suc k) queue ≤ 1
          pick (inl low) = omega (arith, h.touched (suc k) (omega arith) low)
          pick (inr above) = omega (arith, h.untouched (suc k) above)

      within : (k : ℕ) → 1 ≤ times k queue → (1 ≤ k) × (k ≤ w.shared.fresh)
      within zero more = absurd (omega (arith, none))
      within (suc k) more = pick (le_or_lt (suc k) w.shared.fresh)
        where
          pick : (suc k ≤ w.shared.fresh) ⊎ (w.shared.fresh < suc k) → (1 ≤ suc k) × (suc k ≤ w.shared.fresh)
          pick (inl low) = (omega arith, low)
          pick (inr above) = absurd (omega (arith, h.untouched (suc k) above))

  -- a node that stands in the queue is there
  is_queued : 1 ≤ times n queue → IsQueued w n
  is_queued more = (queue, h.queue_chain, stands n queue more)

  -- one that was used and is nowhere else is free
  is_free : n ≤ w.shared.fresh → times n queue ≡ 0 → held n w.actors ≡ 0 → set_aside n w.aside ≡ 0 → IsFree w n
  is_free low a b c = (free, h.free_chain, stands n free (omega (arith, h.touched n some low)))

-- a node of a world that calls lead to is at no two places
pub only_place : (w : World) → IsMade w → (n : ℕ) → 1 ≤ n → (p : Place) → IsAt w n p → (q : Place) → IsAt w n q → q ≡ p
only_place w m n some p here q there =
    let r : IsReached w = made_reached w m in
    let x : HasItsPlaces w = have_their_places w r in
    one_place w x.0 x.1 x.2 n some r p q here there

-- a node that is at a place of a made world is at no other place of it
pub nowhere_else : (w v : World) → w ≡ v → IsMade w → (n : ℕ) → 1 ≤ n → (p : Place) → IsAt w n p → (q : Place) → IsAt v n q → q ≡ p
nowhere_else w v same m n some p here = subst (λ u. (q : Place) → IsAt u n q → q ≡ p) same (only_place w m n some p here)

-- a made world's chains can be walked by as many bits
pub walkable : (w : World) (bits : ℕ) → w.setup.bits ≡ bits → IsMade w → IsSplit bits × (length w.shared.nodes < reserved_node bits)
walkable w bits same m =
    subst (λ b. IsSplit b × (length w.shared.nodes < reserved_node b)) same ((made_in_range w m).sized.split, few_nodes w (made_reached w m))

-- what is told of the chain from Head is told of the queue
told_of : (w : World) (queue free : List ℕ) → IsReached w → Places w queue free → (n : ℕ) → 1 ≤ n → (is_there : Bool) (from most : ℕ)
    → from ≡ w.shared.head.node → most ≡ w.shared.fresh → TellsOfChain w.setup.bits is_there w.shared.nodes from n most
    → TellsWhetherThere is_there (times n queue)
told_of w queue free r h n some is_there from most head fresh tells =
    tells queue (subst (λ k. IsQueueChain w.setup.bits w.shared.nodes k queue) (sym head) h.queue_chain)
    (subst (λ k. length queue ≤ k) (sym fresh) (few w queue free h n some))

-- a node that was found there is in the queue
pub queue_place : (bits : ℕ) (w : World) → w.setup.bits ≡ bits → IsMade w → (n : ℕ) → 1 ≤ n → (is_there : Bool) (from most : ℕ)
    → from ≡ w.shared.head.node → most ≡ w.shared.fresh → TellsOfChain bits is_there w.shared.nodes from n most → is_there ≡ true → IsAt w n Queue
queue_place bits w same m n some is_there from most head fresh tells found =
    let x : HasItsPlaces w = have_their_places w (made_reached w m) in
    let told = told_in bits w.setup.bits same is_there w.shared.nodes from n most tells in
    is_queued w x.0 x.1 x.2 n some ((told_of w x.0 x.1 (made_reached w m) x.2 n some is_there from most head fresh told).0 found)

-- one that was used and found nowhere is free
pub free_place : (bits : ℕ) (w : World) → w.setup.bits ≡ bits → IsMade w → (n : ℕ) → 1 ≤ n → n ≤ w.shared.fresh → (is_there : Bool) (from most : ℕ)
    → from ≡ w.shared.head.node → most ≡ w.shared.fresh → TellsOfChain bits is_there w.shared.nodes from n most → is_there ≡ false
    → held n w.actors ≡ 0 → set_aside n w.aside ≡ 0 → IsAt w n Free
free_place bits w same m n some low is_there from most head fresh tells missed =
    let x : HasItsPlaces w = have_their_places w (made_reached w m) in
    let told = told_in bits w.setup.bits same is_there w.shared.nodes from n most tells in
    is_free w x.0 x.1 x.2 n some low ((told_of w x.0 x.1 (made_reached w m) x.2 n some is_there from most head fresh told).1 missed)
