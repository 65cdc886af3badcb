-- What looks at Free, Tail and Head say of the pushes that are left.
use Rattle.std.proofs.Common.{◌≡◌, ℕ, ◌-◌, ◌≤◌, get_or, refl, sym, ap, subst, ◌∙◌, arith}
use Rattle.counted_ref.specs.Ref.{Ref, ref_of}
use Rattle.line_table.specs.declared.lines.Kind.{Kind}
use Rattle.line_table.specs.declared.lines.Kind.TheVariants.{NonBlocking, TwoLock}
use Rattle.history.specs.Answers.{SeesMore}
use Rattle.history.proofs.Learning.{sees_itself, sees_then}
use Rattle.line_steps.specs.declared.actors.Setup.{Setup}
use Rattle.line_steps.specs.Memory.{Shared, Free}
use Rattle.step_machine.specs.Words.{memory_words}
use Rattle.step_machine.specs.Range.{WorldInRange}
use Rattle.step_machine.specs.Tables.{SharedFits}
use Rattle.step_machine.proofs.Fits.{shared_fits}
use Rattle.step_machine.proofs.Reached.{reached_in_range}
use Rattle.step_machine.proofs.TwoLockCounts.{count_nothing}
use Rattle.node_arena.specs.Knowledge.{SeatView, known_by}
use Rattle.node_arena.specs.Plans.{Layout}
use Rattle.node_arena.specs.Looks.{LooksAt}
use Rattle.node_arena.proofs.Reading.{read_back}
use Rattle.node_arena.proofs.Tracing.{traced_reached}
use Rattle.node_arena.proofs.Rising.{Rose}
use Rattle.node_arena.proofs.Found.{split_there, head_there, tail_there, sees_there, was_meanwhile, since_there, not_less}
use Rattle.arena_queue.specs.PushesLeft.{pushes_left, Lasts, Leaves}
use Rattle.arena_queue.proofs.Lasting.{each_lasts}
use Rattle.arena_queue.specs.Lefts.{LeavesRaises, HasLeft}

module _ (z : Layout) (word n : ℕ) (v v' : SeatView) (a : LooksAt z word n v v') where
  abbrev m : Shared
  m = a.was.world.shared

  range : WorldInRange a.was.world
  range = reached_in_range a.was.world (traced_reached a.was a.reached)

  limit_there : a.was.world.setup.limit ≡ z.setup.limit
  limit_there = ap (λ (s : Setup). s.limit) a.setup

  -- what a look at Free found
  free_there : word ≡ 1 → ref_of z.setup.bits n ≡ m.free
  free_there e =
      let fits : SharedFits z.setup.bits m = subst (λ (s : Setup). SharedFits s.bits m) a.setup (shared_fits a.was.world range) in
      read_back z.setup.bits (split_there z word n v v' a) m.free n (fits Free) (subst (λ w. n ≡ get_or (memory_words z.setup.bits m) w 0) e a.held)

  -- no count is above the greatest one
  pub free_within : word ≡ 1 → (limit x : ℕ) → limit ≡ z.setup.limit → x ≡ (ref_of z.setup.bits n).count → x ≤ limit
  free_within e limit x same is = omega (arith, same, is, ap (λ (r : Ref). r.count) (free_there e), range.shared.free.count, limit_there)

  pub tail_within : word ≡ 3 → (limit x : ℕ) → limit ≡ z.setup.limit → x ≡ (ref_of z.setup.bits n).count → x ≤ limit
  tail_within e limit x same is = omega (arith, same, is, ap (λ (r : Ref). r.count) (tail_there z word n v v' a e), range.shared.tail.count, limit_there)

  pub head_within : word ≡ 2 → (limit x : ℕ) → limit ≡ z.setup.limit → x ≡ (ref_of z.setup.bits n).count → x ≤ limit
  head_within e limit x same is = omega (arith, same, is, ap (λ (r : Ref). r.count) (head_there z word n v v' a e), range.shared.head.count, limit_there)

  -- what is left of a count at the moment of a look
  leaves : (of : Shared → Ref) (first last : SeatView) → SeesMore (known_by first) (known_by v) → SeesMore (known_by v') (known_by last)
      → ref_of z.setup.bits n ≡ of m → (limit x : ℕ) → limit ≡ z.setup.limit → x ≡ (ref_of z.setup.bits n).count → x ≤ limit
      → LeavesRaises z of (known_by first) (known_by last) (limit - x)
  leaves of first last f g found limit x same is most =
      record { was = a.was; reached = a.reached; setup = a.setup; meanwhile = was_meanwhile z word n v v' a first last f g; count = omega (arith, same, is, most, ap (λ (r : Ref). r.count) found) }

-- a look at Free, at Tail and at Head
module _ (z : Layout) (n1 n2 n3 : ℕ) (v0 v1 v2 v3 : SeatView) (a : LooksAt z 1 n1 v0 v1) (b : LooksAt z 3 n2 v1 v2) (c : LooksAt z 2 n3 v2 v3)
    (limit x y w : ℕ) (same : limit ≡ z.setup.limit) (free : x ≡ (ref_of z.setup.bits n1).count)
    (tail : y ≡ (ref_of z.setup.bits n2).count) (head : w ≡ (ref_of z.setup.bits n3).count) where
  ab : Rose z.setup.kind a.was.world.shared b.was.world.shared
  ab = since_there z 1 n1 3 n2 v0 v1 v2 a b

  bc : Rose z.setup.kind b.was.world.shared c.was.world.shared
  bc = since_there z 3 n2 2 n3 v1 v2 v3 b c

  free_is : x ≡ a.was.world.shared.free.count
  free_is = free ∙ ap (λ (r : Ref). r.count) (free_there z 1 n1 v0 v1 a refl)

  tail_is : y ≡ b.was.world.shared.tail.count
  tail_is = tail ∙ ap (λ (r : Ref). r.count) (tail_there z 3 n2 v1 v2 b refl)

  head_is : w ≡ c.was.world.shared.head.count
  head_is = head ∙ ap (λ (r : Ref). r.count) (head_there z 2 n3 v2 v3 c refl)

  -- Tail's count was no higher at the look at Free
  tail_rose : (kind : Kind) → a.was.world.setup.kind ≡ kind → a.was.world.shared.tail.count ≤ y
  tail_rose NonBlocking k =
      omega (arith, tail_is, not_less b.was.world.shared.tail a.was.world.shared.tail (ab.tail (ap (λ (s : Setup). s.kind) (sym a.setup) ∙ k)))
  tail_rose TwoLock k = omega (arith, (count_nothing a.was.world (traced_reached a.was a.reached) k).0)

  leaves_there : Leaves a.was (limit - x) (limit - y) (limit - w)
  leaves_there =
      record {
        of_free = omega (arith, free_is, same, limit_there z 1 n1 v0 v1 a, free_within z 1 n1 v0 v1 a refl limit x same free);
        of_tail = omega (arith, tail_rose a.was.world.setup.kind refl, same, limit_there z 1 n1 v0 v1 a, tail_within z 3 n2 v1 v2 b refl limit y same tail);
        of_head = omega (
          arith,
          head_is,
          not_less b.was.world.shared.head a.was.world.shared.head ab.head,
          not_less c.was.world.shared.head b.was.world.shared.head bc.head,
          same,
          limit_there z 1 n1 v0 v1 a,
          head_within z 2 n3 v2 v3 c refl limit w same head,
        );
      }

  pub has_left : (nodes pushes : ℕ) → nodes ≡ z.setup.size → pushes ≡ pushes_left nodes (limit - x) (limit - y) (limit - w)
      → HasLeft z (known_by v0) (record { pushes = pushes; free = limit - x; tail = limit - y; head = limit - w }) (known_by v3)
  unfolding leaves
  has_left nodes pushes size is =
      let to_one : SeesMore (known_by v0) (known_by v1) = sees_there z 1 n1 v0 v1 a in
      let to_two : SeesMore (known_by v1) (known_by v2) = sees_there z 3 n2 v1 v2 b in
      let to_three : SeesMore (known_by v2) (known_by v3) = sees_there z 2 n3 v2 v3 c in
      let count : pushes ≡ pushes_left z.setup.size (limit - x) (limit - y) (limit - w) = is ∙ ap (λ k. pushes_left k (limit - x) (limit - y) (limit - w)) size in
      let there : pushes_left a.was.world.setup.size (limit - x) (limit - y) (limit - w) ≡ pushes = ap (λ (s : Setup). pushes_left s.size (limit - x) (limit - y) (limit - w)) a.setup ∙ sym count in
      record {
        free = leaves z 1 n1 v0 v1 a (λ m. m.free) v0 v3 (sees_itself (known_by v0))
            (sees_then (known_by v1) (known_by v2) (known_by v3) to_two to_three) (free_there z 1 n1 v0 v1 a refl) limit x same free
            (free_within z 1 n1 v0 v1 a refl limit x same free);
        tail = leaves z 3 n2 v1 v2 b (λ m. m.tail) v0 v3 to_one to_three (tail_there z 3 n2 v1 v2 b refl) limit y same tail (tail_within z 3 n2 v1 v2 b refl limit y same tail);
        head = leaves z 2 n3 v2 v3 c (λ m. m.head) v0 v3 (sees_then (known_by v0) (known_by v1) (known_by v2) to_one to_two)
            (sees_itself (known_by v3)) (head_there z 2 n3 v2 v3 c refl) limit w same head (head_within z 2 n3 v2 v3 c refl limit w same head);
        pushes = count;
        lasts = subst (Lasts a.was) there (each_lasts a.was (limit - x) (limit - y) (limit - w) a.reached leaves_there);
      }
