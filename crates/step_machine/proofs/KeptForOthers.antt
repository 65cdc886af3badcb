-- What a step keeps of the nodes for other actors, and of those that were never used; for both queues.
use Rattle.std.proofs.Common.{◌≡◌, ◌≢◌, ◌⊎◌, ℕ, ◌+◌, ◌-◌, ◌≤◌, ◌<◌, Bool, true, false, nat_le, List, ◌∷◌, length, Option, Some, None, IfSome, refl, sym, ap, ◌∙◌, subst, arith, inl, inr}
use Rattle.std.proofs.lemmas.Bool.{leb-true}
use Rattle.step_machine.specs.Below.{reserved_node, Node, Actor, Shared, node_at}
use Rattle.step_machine.specs.Machine.{World, actor_of}
use Rattle.step_machine.specs.Range.{WorldInRange}
use Rattle.step_machine.specs.Places.{IsNull, IsEnd, one_if, times, held, set_aside}
use Rattle.step_machine.proofs.Range.{writes}
use Rattle.step_machine.proofs.Reached.{actor_stands}
use Rattle.step_machine.proofs.Chains.{one_if_same, chain_some, second_or_end, next_in, last_times}
use Rattle.step_machine.proofs.Counting.{holds, elsewhere, elsewhere_one, elsewhere_two, IsNew, used, used_most, used_above, held_one}
use Rattle.step_machine.proofs.Effects.{Shape, WritesOneNode, OwnerOf, hand_kept, free_kept, queue_kept, value_kept}
use Rattle.step_machine.proofs.StaleReferences.{Rises}
use Rattle.step_machine.proofs.Assertions.{next_of, NodesRely}

-- a node that counts as used is
used_some : (n fresh : ℕ) → 1 ≤ used n fresh → n ≤ fresh
used_some n fresh h = go (nat_le n fresh) refl h
  where
    go : (b : Bool) → nat_le n fresh ≡ b → 1 ≤ one_if b → n ≤ fresh
    go true e g = leb-true n fresh e
    go false e g = absurd (omega arith)

-- a node that is set aside was not
pub is_new : (w : World) (me : ℕ) (a : Actor) (queue free : List ℕ) (aside : Option ℕ) → WorldInRange w → actor_of w me ≡ Some a
    → Shape w.setup.bits w.shared (elsewhere w) queue free → IfSome aside (λ k. (1 ≤ k) × (1 ≤ holds k a)) → IsNew w.aside aside
is_new w me a queue free None g is sh own = tt
is_new w me a queue free (Some k) g is sh own =
    let up : w.shared.fresh ≤ w.setup.size = g.shared.fresh in
    let all : length w.aside ≡ w.setup.size = g.all_flags in
    let mine : 1 ≤ holds k a = own.1 in
    let one : times k queue + times k free + (held k w.actors + set_aside k w.aside) ≡ used k w.shared.fresh = sh.once k own.0 in
    let most : used k w.shared.fresh ≤ 1 = used_most k w.shared.fresh in
    let there : holds k a ≤ held k w.actors = held_one k w.actors (me - 1) a (actor_stands w me a is).1 in
    let low : k ≤ w.shared.fresh = used_some k w.shared.fresh (omega arith) in
    (own.0, omega arith, omega arith)

-- nodes that were never used stay as they are
pub unused_kept : (bits : ℕ) (m m' : Shared) (E : ℕ → ℕ) (front : ℕ) (rest free : List ℕ) (a : Actor) → Shape bits m E (front ∷ rest) free
    → WritesOneNode m m' (front ∷ rest) a → ((n : ℕ) → holds n a ≤ E n) → (n : ℕ) → m.fresh < n → node_at m' n ≡ node_at m n
unused_kept bits m m' E front rest free a sh w mine n above = w.others n (omega arith) (go w.whose)
  where
    nowhere : times n (front ∷ rest) + times n free + E n ≡ 0
    nowhere = sh.once n (omega arith) ∙ used_above n m.fresh above

    go : OwnerOf m m' (front ∷ rest) a w.node → n ≢ w.node
    go (inl z) q = let e : n ≡ 0 = q ∙ z in omega arith
    go (inr (inl own)) q =
        let e : holds n a ≡ holds w.node a = ap (λ k. holds k a) q in
        omega (arith, mine n, nowhere)
    go (inr (inr last)) q =
        let e : 1 ≤ times n (front ∷ rest) = subst (λ k. 1 ≤ times k (front ∷ rest)) (sym (q ∙ last.0)) (last_times front rest) in
        omega (arith, nowhere)

-- what a step keeps of the nodes for another actor
pub nodes_kept : (w : World) (me you : ℕ) (a c : Actor) (m' : Shared) (front : ℕ) (rest free : List ℕ) → you ≢ me → w.shared.fresh < reserved_node w.setup.bits
    → 1 ≤ w.shared.head.node → actor_of w me ≡ Some a → actor_of w you ≡ Some c → Shape w.setup.bits w.shared (elsewhere w) (front ∷ rest) free
    → Rises w.shared.free m'.free → WritesOneNode w.shared m' (front ∷ rest) a → NodesRely w.shared m' c
nodes_kept w me you a c m' front rest free other few some is there sh rises writes =
    record {
      free = rises;
      top = λ one. free_kept w.setup.bits w.shared m' (elsewhere w) front rest free a sh writes mine w.shared.free.node one (top one);
      hand = λ n one here. hand_kept w.setup.bits w.shared m' (elsewhere w) front rest free a c sh writes (λ i. elsewhere_two w me you a c i (λ q. other (sym q)) is there) n one here;
      dummy = λ leads. queue_kept w.setup.bits w.shared m' (elsewhere w) front rest free a sh writes mine w.shared.head.node some dummy leads;
      front = λ leads. behind leads (second_or_end (IsEnd w.setup.bits) w.shared.nodes w.shared.head.node front rest sh.queue_chain);
    }
  where
    mine : (n : ℕ) → holds n a ≤ elsewhere w n
    mine n = elsewhere_one w me a n is

    top : 1 ≤ w.shared.free.node → 1 ≤ times w.shared.free.node free
    top one =
        let f : (ns : List ℕ) × (free ≡ w.shared.free.node ∷ ns) = chain_some IsNull w.shared.nodes w.shared.free.node free (λ null. omega (arith, one, null)) sh.free_chain in
        subst (λ ns. 1 ≤ times w.shared.free.node ns) (sym f.1) (omega (arith, one_if_same w.shared.free.node w.shared.free.node refl))

    dummy : 1 ≤ times w.shared.head.node (front ∷ rest)
    dummy = omega (arith, one_if_same w.shared.head.node front sh.queue_chain.0)

    x : ℕ
    x = (next_of w.shared w.shared.head.node).node

    leads_to : next_in w.shared.nodes front ≡ x
    leads_to = ap (next_in w.shared.nodes) (sym sh.queue_chain.0)

    behind : 1 ≤ x → ((ns : List ℕ) × (rest ≡ next_in w.shared.nodes front ∷ ns)) ⊎ IsEnd w.setup.bits (next_in w.shared.nodes front) → (node_at m' x).value ≡ (node_at w.shared x).value
    behind one (inl second) =
        value_kept w.setup.bits w.shared m' (elsewhere w) (front ∷ rest) free a sh writes mine x one
        (subst (λ ns. 1 ≤ times x (front ∷ ns)) (sym second.1) (omega (arith, one_if_same x (next_in w.shared.nodes front) (sym leads_to))))
    behind one (inr (inl null)) = absurd (omega (arith, one, leads_to, null))
    behind one (inr (inr closed)) =
        ap (λ (n : Node). n.value) (unused_kept w.setup.bits w.shared m' (elsewhere w) front rest free a sh writes mine x (omega (arith, few, leads_to, closed)))
