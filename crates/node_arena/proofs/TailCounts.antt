-- How long a queue is whose Tail counts, by five looks.
use Rattle.std.proofs.Common.{◌≡◌, ℕ, ◌+◌, ◌-◌, ◌*◌, ◌≤◌, inl, inr, Bool, true, false, List, ◌∷◌, length, refl, sym, ap, subst, ◌∙◌, arith, length-append, ⊎_elim, eqb-true}
use Rattle.std.proofs.lemmas.Bool.{eqb-false}
use Rattle.std.proofs.lemmas.List.{length-map}
use Rattle.counted_ref.specs.Ref.{Ref, ref_of, is_null, is_shut, reserved_node}
use Rattle.line_table.specs.declared.lines.Kind.TheVariants.{NonBlocking}
use Rattle.history.specs.declared.operations.Taken.{Taken}
use Rattle.history.specs.Entries.{Leads}
use Rattle.history.specs.Answers.{SeesMore}
use Rattle.history.proofs.Learning.{sees_then}
use Rattle.line_steps.specs.declared.actors.Setup.{Setup}
use Rattle.line_steps.specs.Memory.{Shared, node_at}
use Rattle.step_machine.specs.Machine.{IsReached}
use Rattle.step_machine.specs.Places.{IsEnd, IsQueueChain}
use Rattle.step_machine.specs.Chains.{values_of, is_shut_chain}
use Rattle.step_machine.specs.Lag.{TailLags}
use Rattle.step_machine.proofs.Reached.{few_nodes}
use Rattle.step_machine.proofs.EitherQueue.{HasChains, reached_chains}
use Rattle.step_machine.proofs.NonBlockingLag.{ends_after, one_after, behind_tail as stands_at_tail}
use Rattle.step_machine.proofs.NonBlockingLaws.{tail_lags, tail_is_not_behind}
use Rattle.node_arena.specs.Traces.{Traced, IsTraced}
use Rattle.node_arena.specs.Knowledge.{SeatView, known_by}
use Rattle.node_arena.specs.Plans.{Layout}
use Rattle.node_arena.specs.Looks.{LooksAt, WasMeanwhile, WasSoLong, behind_tail}
use Rattle.node_arena.proofs.Tracing.{traced_reached}
use Rattle.node_arena.proofs.Histories.{history_plays}
use Rattle.node_arena.proofs.Rising.{Rose}
use Rattle.node_arena.proofs.Found.{head_there, tail_there, next_there, tail_within, sees_there, was_meanwhile, pops_before, pops_after, since_there, not_less, was_between}

-- how long the queue of a traced world is: Tail's count, and what stands behind its node, are Head's count and the length
pub record IsLong (t : Traced) : Type 0 where
  pub shut : Bool
  pub values : List Taken
  pub leads : Leads t.history shut values
  pub behind : ℕ
  pub by_one : behind ≤ 1
  pub counts : t.world.shared.tail.count + behind ≡ t.world.shared.head.count + length values
  pub ends : IsEnd t.world.setup.bits (node_at t.world.shared t.world.shared.tail.node).next.node → behind ≡ 0
  pub goes_on : (IsEnd t.world.setup.bits (node_at t.world.shared t.world.shared.tail.node).next.node → ⊥) → behind ≡ 1

module _ (t : Traced) (r : IsTraced t) (k : t.world.setup.kind ≡ NonBlocking) where
  abbrev m : Shared
  m = t.world.shared

  abbrev reached : IsReached t.world
  reached = traced_reached t r

  p : HasChains t.world
  p = reached_chains t.world reached

  chain : IsQueueChain t.world.setup.bits m.nodes m.head.node (p.front ∷ p.rest)
  chain = p.sound.shape.queue_chain

  lag : TailLags m (p.front ∷ p.rest)
  lag = tail_lags t.world reached k (p.front ∷ p.rest) chain

  -- Tail's node is one of the nodes
  pub tail_some : 1 ≤ m.tail.node
  tail_some = (stands_at_tail t.world.setup.bits m (p.front ∷ p.rest) m.head.node chain lag).0

  pub is_long : IsLong t
  is_long =
      let all : length (p.front ∷ p.rest) ≡ length lag.before + length (m.tail.node ∷ lag.after) = ap length lag.chain ∙ length-append lag.before (m.tail.node ∷ lag.after) in
      let same : length (values_of m p.rest) ≡ length p.rest = length-map p.rest (λ n. (node_at m n).value) in
      record {
        shut = is_shut_chain t.world.setup.bits m (p.front ∷ p.rest);
        values = values_of m p.rest;
        leads = history_plays t r (p.front ∷ p.rest) chain;
        behind = length lag.after;
        by_one = lag.by_one;
        counts = omega (arith, all, same, lag.count);
        ends = λ end. ap length (ends_after t.world.setup.bits m (p.front ∷ p.rest) m.head.node (few_nodes t.world reached) chain lag end);
        goes_on = λ some. ap length (one_after t.world.setup.bits m (p.front ∷ p.rest) m.head.node (node_at m m.tail.node).next.node chain lag refl some);
      }

  -- and not behind Head
  pub not_behind : m.head.count ≤ m.tail.count
  not_behind = (tail_is_not_behind t.world reached k).0

-- a look at Head, at Tail, at what follows its node, at Tail again, and at Head again
module _ (z : Layout) (kind : z.setup.kind ≡ NonBlocking) (word n1 n2 n3 n4 n5 : ℕ) (v0 v1 v2 v3 v4 v5 : SeatView) (a : LooksAt z 2 n1 v0 v1)
    (b : LooksAt z 3 n2 v1 v2) (c : LooksAt z word n3 v2 v3) (d : LooksAt z 3 n4 v3 v4) (e : LooksAt z 2 n5 v4 v5)
    (at : word ≡ 4 + 2 * (ref_of z.setup.bits n2).node) where
  abbrev bits : ℕ
  bits = z.setup.bits

  abbrev first : ℕ
  first = (ref_of bits n1).count

  abbrev end : ℕ
  end = (ref_of bits n2).count

  abbrev last : ℕ
  last = (ref_of bits n5).count

  kind_of : (t : Traced) → t.world.setup ≡ z.setup → t.world.setup.kind ≡ NonBlocking
  kind_of t same = ap (λ (s : Setup). s.kind) same ∙ kind

  ab : Rose z.setup.kind a.was.world.shared b.was.world.shared
  ab = since_there z 2 n1 3 n2 v0 v1 v2 a b

  bc : Rose z.setup.kind b.was.world.shared c.was.world.shared
  bc = since_there z 3 n2 word n3 v1 v2 v3 b c

  cd : Rose z.setup.kind c.was.world.shared d.was.world.shared
  cd = since_there z word n3 3 n4 v2 v3 v4 c d

  de : Rose z.setup.kind d.was.world.shared e.was.world.shared
  de = since_there z 3 n4 2 n5 v3 v4 v5 d e

  first_is : first ≡ a.was.world.shared.head.count
  first_is = ap (λ (r : Ref). r.count) (head_there z 2 n1 v0 v1 a refl)

  end_is : end ≡ b.was.world.shared.tail.count
  end_is = ap (λ (r : Ref). r.count) (tail_there z 3 n2 v1 v2 b refl)

  last_is : last ≡ e.was.world.shared.head.count
  last_is = ap (λ (r : Ref). r.count) (head_there z 2 n5 v4 v5 e refl)

  -- Head's count doesn't fall
  up_ab : a.was.world.shared.head.count ≤ b.was.world.shared.head.count
  up_ab = not_less b.was.world.shared.head a.was.world.shared.head ab.head

  up_bc : b.was.world.shared.head.count ≤ c.was.world.shared.head.count
  up_bc = not_less c.was.world.shared.head b.was.world.shared.head bc.head

  up_ce : c.was.world.shared.head.count ≤ e.was.world.shared.head.count
  up_ce = omega (arith, not_less d.was.world.shared.head c.was.world.shared.head cd.head, not_less e.was.world.shared.head d.was.world.shared.head de.head)

  -- so the first count of Head is at most that of Tail
  pub first_below : first ≤ end
  first_below = omega (arith, first_is, end_is, up_ab, not_behind b.was b.reached (kind_of b.was b.setup))

  -- bounds that hold at one of the looks, by what stands behind Tail there
  bounds : (t : Traced) → WasMeanwhile (known_by v0) t.history (known_by v5) → (l : IsLong t)
      → a.was.world.shared.head.count ≤ t.world.shared.head.count → t.world.shared.head.count ≤ e.was.world.shared.head.count
      → t.world.shared.tail.count ≡ end → (few many : ℕ) → few ≤ l.behind → l.behind ≤ many → many ≤ few + 1
      → WasSoLong (known_by v0) (record { least = end + few - last; most = end + many - first }) (known_by v5)
  bounds t meanwhile l low high tail few many least most near =
      record {
        now = t.history;
        meanwhile = meanwhile;
        shut = l.shut;
        values = l.values;
        leads = l.leads;
        least = omega (arith, l.counts, low, high, tail, least, most, first_is, last_is);
        most = omega (arith, l.counts, low, high, tail, least, most, first_is, last_is);
        near = omega (arith, l.counts, low, high, tail, least, most, near, first_is, last_is, pops_before z 2 n1 v0 v1 a, pops_after z 2 n5 v4 v5 e);
      }

  sees_de : SeesMore (known_by v3) (known_by v5)
  sees_de = sees_then (known_by v3) (known_by v4) (known_by v5) (sees_there z 3 n4 v3 v4 d) (sees_there z 2 n5 v4 v5 e)

  -- where Tail moved meanwhile, they hold at the look at Tail
  moved : WasSoLong (known_by v0) (record { least = end + 0 - last; most = end + 1 - first }) (known_by v5)
  moved =
      let l : IsLong b.was = is_long b.was b.reached (kind_of b.was b.setup) in
      bounds b.was (was_meanwhile z 3 n2 v1 v2 b v0 v5 (sees_there z 2 n1 v0 v1 a)
      (sees_then (known_by v2) (known_by v3) (known_by v5) (sees_there z word n3 v2 v3 c) sees_de)) l up_ab (omega (arith, up_bc, up_ce))
      (sym end_is) 0 1 (omega arith) l.by_one (omega arith)

  -- where it didn't, they hold at the look at what follows its node
  module _ (same : n4 ≡ n2) where
    stayed : c.was.world.shared.tail ≡ b.was.world.shared.tail
    stayed =
        was_between b.was.world.shared.tail c.was.world.shared.tail d.was.world.shared.tail (bc.tail kind) (cd.tail kind)
        (sym (tail_there z 3 n4 v3 v4 d refl) ∙ ap (ref_of bits) same ∙ tail_there z 3 n2 v1 v2 b refl)

    l : IsLong c.was
    l = is_long c.was c.reached (kind_of c.was c.setup)

    behind : ref_of bits n3 ≡ (node_at c.was.world.shared c.was.world.shared.tail.node).next
    behind =
        next_there z word n3 v2 v3 c c.was.world.shared.tail.node (tail_some c.was c.reached (kind_of c.was c.setup)) (tail_within z word n3 v2 v3 c)
        (at ∙ ap (λ (r : Ref). 4 + 2 * r.node) (tail_there z 3 n2 v1 v2 b refl ∙ sym stayed))

    end_same : (n : ℕ) → IsEnd bits n → IsEnd c.was.world.setup.bits n
    end_same n h = subst (λ (s : Setup). IsEnd s.bits n) (sym c.setup) h

    stayed_bounds : (few many : ℕ) → few ≤ l.behind → l.behind ≤ many → many ≤ few + 1 → WasSoLong (known_by v0) (record { least = end + few - last; most = end + many - first }) (known_by v5)
    stayed_bounds =
        bounds c.was (was_meanwhile z word n3 v2 v3 c v0 v5 (sees_then (known_by v0) (known_by v1) (known_by v2) (sees_there z 2 n1 v0 v1 a)
        (sees_there z 3 n2 v1 v2 b)) sees_de) l (omega (arith, up_ab, up_bc)) up_ce
        (ap (λ (r : Ref). r.count) stayed ∙ sym end_is)

    ended : IsEnd bits (ref_of bits n3).node → WasSoLong (known_by v0) (record { least = end + 0 - last; most = end + 0 - first }) (known_by v5)
    ended h = let none : l.behind ≡ 0 = l.ends (end_same _ (subst (λ (r : Ref). IsEnd bits r.node) behind h)) in stayed_bounds 0 0 (omega arith) (omega arith) (omega arith)

    goes_on : (IsEnd bits (ref_of bits n3).node → ⊥) → WasSoLong (known_by v0) (record { least = end + 1 - last; most = end + 1 - first }) (known_by v5)
    goes_on h =
        let one : l.behind ≡ 1 = l.goes_on (λ g. h (subst (λ (r : Ref). IsEnd bits r.node) (sym behind)
        (subst (λ (s : Setup). IsEnd s.bits (node_at c.was.world.shared c.was.world.shared.tail.node).next.node) c.setup g))) in
        stayed_bounds 1 1 (omega arith) (omega arith) (omega arith)

  long_by : (stays none shut : Bool) → (stays ≡ true → n4 ≡ n2) → is_null (ref_of bits n3) ≡ none → is_shut bits (ref_of bits n3) ≡ shut
      → WasSoLong (known_by v0) (record { least = end + (behind_tail stays none shut).0 - last; most = end + (behind_tail stays none shut).1 - first }) (known_by v5)
  long_by false none shut same null closed = moved
  long_by true true shut same null closed = ended (same refl) (inl (eqb-true (ref_of bits n3).node 0 null))
  long_by true false true same null closed = ended (same refl) (inr (eqb-true (ref_of bits n3).node (reserved_node bits) closed))
  long_by true false false same null closed = goes_on (same refl) (λ h. ⊎_elim (eqb-false (ref_of bits n3).node 0 null) (eqb-false (ref_of bits n3).node (reserved_node bits) closed) h)

  -- the same at the names of a call
  pub was_so_long : (stays none shut : Bool) (behind : ℕ × ℕ) (least most : ℕ) → (stays ≡ true → n4 ≡ n2) → is_null (ref_of bits n3) ≡ none
      → is_shut bits (ref_of bits n3) ≡ shut → behind ≡ behind_tail stays none shut
      → least ≡ end + behind.0 - last → most ≡ end + behind.1 - first → WasSoLong (known_by v0) (record { least = least; most = most }) (known_by v5)
  was_so_long stays none shut q least most same null closed is low high =
      let P : ℕ × ℕ → Type 0 = λ q. WasSoLong (known_by v0) (record { least = q.0; most = q.1 }) (known_by v5) in
      subst P (λ i. (sym low i, sym high i)) (subst (λ (q : ℕ × ℕ). P (end + q.0 - last, end + q.1 - first)) (sym is) (long_by stays none shut same null closed))
