-- Looks one after another: what a word that was looked at says of the world, and what three looks say of the queue.
use Rattle.std.proofs.Common.{◌≡◌, ◌≢◌, ℕ, ◌+◌, ◌*◌, ◌<◌, ◌≤◌, ◌⊎◌, get_or, inl, inr, Bool, true, false, if◌then◌else◌, List, ◌∷◌, ◌++◌, length}
use Rattle.std.proofs.Common.{refl, sym, ap, subst, ◌∙◌, arith, append_assoc, eqb-true}
use Rattle.std.proofs.lemmas.Bool.{eqb-false}
use Rattle.std.specs.List.{count_by}
use Rattle.std.proofs.lemmas.List.Sums.{sum_by-append}
use Rattle.counted_ref.specs.Ref.{Ref, IsSplit, ref_of, ref_word, is_null, is_shut, reserved_node}
use Rattle.history.specs.declared.operations.Entry.{Entry}
use Rattle.history.specs.Entries.{is_pop, Leads}
use Rattle.history.specs.Answers.{SeesMore}
use Rattle.history.proofs.Learning.{sees_then}
use Rattle.line_steps.specs.declared.actors.Setup.{Setup}
use Rattle.line_steps.specs.Memory.{Shared, Head, Tail, Next, node_at}
use Rattle.step_machine.specs.Words.{memory_words}
use Rattle.step_machine.specs.Machine.{IsReached}
use Rattle.step_machine.specs.Range.{WorldInRange}
use Rattle.step_machine.specs.Places.{IsEnd}
use Rattle.step_machine.specs.Chains.{values_of, is_shut_chain}
use Rattle.step_machine.specs.Tables.{SharedFits}
use Rattle.step_machine.proofs.Words.{reading}
use Rattle.step_machine.proofs.Fits.{shared_fits}
use Rattle.step_machine.proofs.Reached.{reached_in_range}
use Rattle.step_machine.proofs.Chains.{next_in, second_or_end}
use Rattle.step_machine.proofs.EitherQueue.{HasChains, reached_chains, head_some}
use Rattle.node_arena.specs.Traces.{Traced, IsTraced, first_trace}
use Rattle.node_arena.specs.Knowledge.{SeatView, known_by}
use Rattle.node_arena.specs.Plans.{Layout}
use Rattle.node_arena.specs.Rule.{IsCurrentOrPast, IsRunTo}
use Rattle.node_arena.specs.Looks.{LooksAt, WasMeanwhile, LeadsToSome, FoundSo}
use Rattle.node_arena.specs.declared.emptiness.Emptiness.TheVariants.{Empty, ShutEmpty, Holds, Moved}
use Rattle.node_arena.proofs.Reading.{read_back}
use Rattle.node_arena.proofs.Rising.{Rose, rose}
use Rattle.node_arena.proofs.PrologueTraces.{trace_rest}
use Rattle.node_arena.proofs.Tracing.{traced_reached}
use Rattle.node_arena.proofs.Histories.{history_plays, counts_pops}
use Rattle.node_arena.proofs.Noted.{leaves_nothing, leaves_shut}

-- one look
module _ (z : Layout) (word n : ℕ) (v v' : SeatView) (a : LooksAt z word n v v') where
  abbrev m : Shared
  m = a.was.world.shared

  abbrev reached : IsReached a.was.world
  reached = traced_reached a.was a.reached

  abbrev range : WorldInRange a.was.world
  range = reached_in_range a.was.world reached

  pub split_there : IsSplit z.setup.bits
  split_there = subst (λ (s : Setup). IsSplit s.bits) a.setup range.sized.split

  fits_there : SharedFits z.setup.bits m
  fits_there = subst (λ (s : Setup). SharedFits s.bits m) a.setup (shared_fits a.was.world range)

  -- what a look at Head, or at Tail, found
  pub head_there : word ≡ 2 → ref_of z.setup.bits n ≡ m.head
  head_there e = read_back z.setup.bits split_there m.head n (fits_there Head) (subst (λ w. n ≡ get_or (memory_words z.setup.bits m) w 0) e a.held)

  pub tail_there : word ≡ 3 → ref_of z.setup.bits n ≡ m.tail
  tail_there e = read_back z.setup.bits split_there m.tail n (fits_there Tail) (subst (λ w. n ≡ get_or (memory_words z.setup.bits m) w 0) e a.held)

  -- what a look at the word of Head is
  pub head_word : word ≡ 2 → n ≡ ref_word z.setup.bits m.head
  head_word e = subst (λ w. n ≡ get_or (memory_words z.setup.bits m) w 0) e a.held

  -- what a look at what follows a node found
  pub next_there : (k : ℕ) → 1 ≤ k → k ≤ length m.nodes → word ≡ 4 + 2 * k → ref_of z.setup.bits n ≡ (node_at m k).next
  next_there k low high e = read_back z.setup.bits split_there (node_at m k).next n (fits_there (Next k))
      (subst (λ w. n ≡ get_or (memory_words z.setup.bits m) w 0) e a.held ∙ reading z.setup.bits m (Next k) (low, high))

  -- a node that Head or Tail names has a number that is one of the nodes'
  pub head_within : m.head.node ≤ length m.nodes
  head_within = omega (arith, range.shared.head.node, range.shared.fresh, range.shared.all_nodes)

  pub tail_within : m.tail.node ≤ length m.nodes
  tail_within = omega (arith, range.shared.tail.node, range.shared.fresh, range.shared.all_nodes)

  pub size_there : length m.nodes ≡ z.setup.size
  size_there = range.shared.all_nodes ∙ ap (λ (s : Setup). s.size) a.setup

  -- a look at what follows the node that was read asks for a word that is there
  pub behind_head : word ≡ 2 → (r : Ref) (k : ℕ) → r ≡ ref_of z.setup.bits n → k ≡ r.node → 4 + 2 * k < 6 + 2 * z.setup.size
  behind_head e r k is at = omega (arith, head_within, size_there, at ∙ ap (λ (x : Ref). x.node) (is ∙ head_there e))

  pub behind_tail : word ≡ 3 → (r : Ref) (k : ℕ) → r ≡ ref_of z.setup.bits n → k ≡ r.node → 4 + 2 * k < 6 + 2 * z.setup.size
  behind_tail e r k is at = omega (arith, tail_within, size_there, at ∙ ap (λ (x : Ref). x.node) (is ∙ tail_there e))

  -- the seat has seen more
  pub sees_there : SeesMore (known_by v) (known_by v')
  sees_there =
      record {
        number = ap (λ (w : SeatView). w.number) a.knows;
        between = a.rest;
        seen = ap (λ (w : SeatView). w.seen) a.knows ∙ a.begins;
        mine = ap (λ (w : SeatView). w.mine) a.knows;
        notes = ap (λ (w : SeatView). w.notes) a.knows;
      }

  -- the moment of a look is one of a call that goes on from before it to after it
  pub was_meanwhile : (first last : SeatView) → SeesMore (known_by first) (known_by v) → SeesMore (known_by v') (known_by last) → WasMeanwhile (known_by first) a.was.history (known_by last)
  was_meanwhile first last f g =
      let e : v'.seen ≡ a.was.history = ap (λ (w : SeatView). w.seen) a.knows in
      record {
        more = sees_then (known_by first) (known_by v') (known_by last) (sees_then (known_by first) (known_by v) (known_by v') f sees_there) g;
        begins = (f.between ++ a.rest, sym (a.begins ∙ ap (λ (es : List Entry). es ++ a.rest) f.seen ∙ append_assoc first.seen f.between a.rest));
        ends = (g.between, ap (λ (es : List Entry). es ++ g.between) (sym e) ∙ sym g.seen);
      }

  -- its history has the pops that Head counts
  pub pops_there : count_by is_pop a.was.history ≡ m.head.count
  pops_there = sym (counts_pops a.was a.reached)

  pub pops_after : count_by is_pop v'.seen ≡ m.head.count
  pops_after = ap (λ (w : SeatView). count_by is_pop w.seen) a.knows ∙ pops_there

  pub pops_before : count_by is_pop v.seen ≤ m.head.count
  pops_before =
      let parts : count_by is_pop a.was.history ≡ count_by is_pop v.seen + count_by is_pop a.rest = ap (count_by is_pop) a.begins ∙ sum_by-append (λ e. if is_pop e then 1 else 0) v.seen a.rest in
      omega (arith, pops_there, parts)

-- a look after another one: its world is a later one
pub since_there : (z : Layout) (w n x k : ℕ) (u v v' : SeatView) (a : LooksAt z w n u v) (b : LooksAt z x k v v') → Rose z.setup.kind a.was.world.shared b.was.world.shared
since_there z w n x k u v v' a b =
    let on : b.ran ≡ a.ran ++ b.run.others = b.run.goes_on ∙ ap (λ (y : SeatView). y.ran ++ b.run.others) a.knows in
    subst (λ (s : Setup). Rose s.kind a.was.world.shared b.was.world.shared) a.setup
    (rose b.run.others a.was b.was a.reached
    (trace_rest a.ran b.run.others (first_trace z.setup (length z.roles)) a.was b.was a.run.led (subst (λ ms. IsRunTo z ms b.was) on b.run.led)))

-- a count doesn't fall
pub not_less : (now was : Ref) → IsCurrentOrPast now was → was.count ≤ now.count
not_less now was (inl e) = let c : now.count ≡ was.count = ap (λ (r : Ref). r.count) e in omega arith
not_less now was (inr less) = omega arith

-- a reference that is there again was there in between
pub was_between : (one two three : Ref) → IsCurrentOrPast two one → IsCurrentOrPast three two → three ≡ one → two ≡ one
was_between one two three (inl e) h same = e
was_between one two three (inr less) h same =
    absurd (let c : three.count ≡ one.count = ap (λ (r : Ref). r.count) same in omega (arith, not_less three two h))

-- and one that isn't has a higher count
went_on : (one two three : Ref) → IsCurrentOrPast two one → IsCurrentOrPast three two → three ≢ one → one.count < three.count
went_on one two three (inl e) (inl f) other = absurd (other (f ∙ e))
went_on one two three (inl e) (inr more) other = let c : two.count ≡ one.count = ap (λ (r : Ref). r.count) e in omega arith
went_on one two three (inr less) h other = omega (arith, not_less three two h)

-- where a node follows Head's, the history leaves a value at least
leaves_some : (t : Traced) → IsTraced t → (IsEnd t.world.setup.bits (node_at t.world.shared t.world.shared.head.node).next.node → ⊥) → LeadsToSome t.history
leaves_some t r some = go (second_or_end (IsEnd t.world.setup.bits) m.nodes m.head.node p.front p.rest p.sound.shape.queue_chain)
  where
    m : Shared
    m = t.world.shared

    p : HasChains t.world
    p = reached_chains t.world (traced_reached t r)

    first : m.head.node ≡ p.front
    first = p.sound.shape.queue_chain.0

    go : ((ns : List ℕ) × (p.rest ≡ next_in m.nodes p.front ∷ ns)) ⊎ IsEnd t.world.setup.bits (next_in m.nodes p.front) → LeadsToSome t.history
    go (inl h) =
        record {
          shut = is_shut_chain t.world.setup.bits m (p.front ∷ p.rest);
          front = (node_at m (next_in m.nodes p.front)).value;
          others = values_of m h.0;
          leads = subst (λ ns. Leads t.history (is_shut_chain t.world.setup.bits m (p.front ∷ p.rest)) (values_of m ns)) h.1 (history_plays t r (p.front ∷ p.rest) p.sound.shape.queue_chain);
        }
    go (inr h) = absurd (some (subst (λ k. IsEnd t.world.setup.bits (next_in m.nodes k)) (sym first) h))

-- a test for a closed end is told of what was read
pub shut_told : (s t : Setup) (other n : ℕ) (x : Ref) (told is : Bool) → s ≡ t → s.bits ≡ other → x ≡ ref_of t.bits n → told ≡ is_shut other x → told ≡ is
    → is_shut t.bits (ref_of t.bits n) ≡ is
shut_told s t other n x told is same split read tests e =
    (λ i. is_shut ((ap (λ (k : Setup). k.bits) (sym same) ∙ split) i) (sym read i)) ∙ sym tests ∙ e

-- a look at Head, at what follows its node, which was read as `x`, and at Head again
module _ (z : Layout) (k n1 n2 n3 : ℕ) (v0 v1 v2 v3 : SeatView) (a : LooksAt z 2 n1 v0 v1) (b : LooksAt z (4 + 2 * k) n2 v1 v2) (c : LooksAt z 2 n3 v2 v3)
    (x : Ref) (read : x ≡ ref_of z.setup.bits n1) (front : k ≡ x.node) where
  abbrev bits : ℕ
  bits = z.setup.bits

  abbrev word : ℕ
  word = 4 + 2 * k

  at : word ≡ 4 + 2 * (ref_of bits n1).node
  at = ap (λ j. 4 + 2 * j) (front ∙ ap (λ (r : Ref). r.node) read)

  abbrev one : Ref
  one = a.was.world.shared.head

  abbrev two : Ref
  two = b.was.world.shared.head

  abbrev three : Ref
  three = c.was.world.shared.head

  to_two : IsCurrentOrPast two one
  to_two = (since_there z 2 n1 word n2 v0 v1 v2 a b).head

  to_three : IsCurrentOrPast three two
  to_three = (since_there z word n2 2 n3 v1 v2 v3 b c).head

  sees_all : SeesMore (known_by v0) (known_by v3)
  sees_all = sees_then (known_by v0) (known_by v2) (known_by v3) (sees_then (known_by v0) (known_by v1) (known_by v2) (sees_there z 2 n1 v0 v1 a)
      (sees_there z word n2 v1 v2 b)) (sees_there z 2 n3 v2 v3 c)

  -- Head moved: pops took effect
  pub found_moved : n3 ≢ n1 → FoundSo (known_by v0) Moved (known_by v3)
  found_moved other =
      let more : one.count < three.count = went_on one two three to_two to_three (λ e. other (head_word z 2 n3 v2 v3 c refl ∙ ap (ref_word bits) e ∙ sym (head_word z 2 n1 v0 v1 a refl))) in
      record { more = sees_all; pops = omega (arith, more, pops_before z 2 n1 v0 v1 a, pops_after z 2 n3 v2 v3 c) }

  -- Head didn't move: at the look in between it was as before and after
  meanwhile : WasMeanwhile (known_by v0) b.was.history (known_by v3)
  meanwhile = was_meanwhile z word n2 v1 v2 b v0 v3 (sees_there z 2 n1 v0 v1 a) (sees_there z 2 n3 v2 v3 c)

  module _ (same : n3 ≡ n1) where
    stayed : two ≡ one
    stayed = was_between one two three to_two to_three (sym (head_there z 2 n3 v2 v3 c refl) ∙ ap (ref_of bits) same ∙ head_there z 2 n1 v0 v1 a refl)

    -- so what was read followed Head's node there
    behind : ref_of bits n2 ≡ (node_at b.was.world.shared two.node).next
    behind =
        next_there z word n2 v1 v2 b two.node (head_some b.was.world (traced_reached b.was b.reached)) (head_within z word n2 v1 v2 b)
        (at ∙ ap (λ (r : Ref). 4 + 2 * r.node) (head_there z 2 n1 v0 v1 a refl ∙ sym stayed))

    pub found_empty : is_null (ref_of bits n2) ≡ true → FoundSo (known_by v0) Empty (known_by v3)
    found_empty none = (b.was.history, meanwhile, leaves_nothing b.was b.reached (ap (λ (r : Ref). r.node) (sym behind) ∙ eqb-true (ref_of bits n2).node 0 none))

    ends_here : reserved_node bits ≡ reserved_node b.was.world.setup.bits
    ends_here = ap (λ (s : Setup). reserved_node s.bits) (sym b.setup)

    pub found_shut : is_shut bits (ref_of bits n2) ≡ true → FoundSo (known_by v0) ShutEmpty (known_by v3)
    found_shut shut = (b.was.history, meanwhile, leaves_shut b.was b.reached (ap (λ (r : Ref). r.node) (sym behind) ∙ eqb-true (ref_of bits n2).node (reserved_node bits) shut ∙ ends_here))

    pub found_some : is_null (ref_of bits n2) ≡ false → is_shut bits (ref_of bits n2) ≡ false → FoundSo (known_by v0) Holds (known_by v3)
    found_some none shut = (b.was.history, meanwhile, leaves_some b.was b.reached no_end)
      where
        no_end : IsEnd b.was.world.setup.bits (node_at b.was.world.shared two.node).next.node → ⊥
        no_end (inl e) = eqb-false (ref_of bits n2).node 0 none (ap (λ (r : Ref). r.node) behind ∙ e)
        no_end (inr e) = eqb-false (ref_of bits n2).node (reserved_node bits) shut (ap (λ (r : Ref). r.node) behind ∙ e ∙ sym ends_here)
