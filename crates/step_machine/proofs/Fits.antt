-- What is in range fits its word.
use Rattle.std.proofs.Common.{◌≡◌, ℕ, ◌+◌, ◌^◌, ◌<◌, ◌≤◌, ◌⊎◌, inl, inr, refl, Some, length, subst, arith}
use Rattle.counted_ref.proofs.Words.{span_least, span_most}
use Rattle.step_machine.specs.Below.{Ref, IsRef, ref, Line, N4, N5, F2, F3, E2, E9, E13, E17, D10, D13, A1, A3, A5, A6, A7, B1, B5, B6, S4, S5, S6}
use Rattle.step_machine.specs.Below.{S8, S9, reserved_node, count_bits, null, shut_ref, raised_end, Taken, Setup, Actor, Word, Fresh, Free, Head}
use Rattle.step_machine.specs.Below.{Tail, Tail_lock, Head_lock, Next, Value_of, Content, content, action, raised}
use Rattle.step_machine.specs.Machine.{World, actor_of, IsSized}
use Rattle.step_machine.specs.Range.{RefInRange, NextInRange, ValueInRange, RegistersInRange, LineInRange, ActorInRange, WorldInRange}
use Rattle.step_machine.specs.Tables.{ValueFits, ContentFits, SharedFits, ActionFits}
use Rattle.step_machine.proofs.Range.{raised_in_range, raised_next_in_range, raised_end_in_range, ContentInRange, found_in_range}
use Rattle.step_machine.proofs.Reached.{actor_in_range, mover_in_range}

module _ (s : Setup) (n k : ℕ) (sized : IsSized s k) (used : n ≤ s.size) where
  pub ref_fits : (r : Ref) → RefInRange s.limit n r → IsRef s.bits r
  ref_fits r h =
      let a : r.node ≤ n = h.node in
      let b : r.count ≤ s.limit = h.count in
      let c : s.size < reserved_node s.bits = sized.numbered in
      let d : s.limit < 2 ^ count_bits s.bits = sized.counted in
      record { node = omega arith; count = omega arith }

  next_fits : (r : Ref) → NextInRange s.bits s.limit n r → IsRef s.bits r
  next_fits r h =
      let b : r.count ≤ s.limit = h.count in
      let d : s.limit < 2 ^ count_bits s.bits = sized.counted in
      record { node = low h.node; count = omega arith }
    where
      low : (r.node ≤ n) ⊎ (r.node ≡ reserved_node s.bits) → r.node < 2 ^ s.bits
      low (inl a) = let c : s.size < reserved_node s.bits = sized.numbered in omega arith
      low (inr e) = omega (arith, span_least s.bits sized.split)

  value_fits : (v : Taken) → ValueInRange k v → ValueFits v
  value_fits v h =
      let a : v.from ≤ k = h.from in
      let b : k < 2 ^ 16 = sized.few_actors in
      record { from = omega arith; body = h.body }

  number_fits : (c m : ℕ) → c ≤ m → m ≤ 2 ^ 48 → c < 2 ^ 64
  number_fits c m h g = omega arith

  node_number_fits : (c : ℕ) → c ≤ n → c < 2 ^ 64
  node_number_fits c h = let a : s.size < reserved_node s.bits = sized.numbered in let m = span_most s.bits sized.split in number_fits c n h (omega arith)

  actor_number_fits : (c : ℕ) → c ≤ k → c < 2 ^ 64
  actor_number_fits c h = let a : k < 2 ^ 16 = sized.few_actors in number_fits c k h (omega arith)

  content_fits : (x : Word) (c : Content x) → ContentInRange s n k x c → ContentFits s.bits x c
  content_fits Fresh c h = node_number_fits c h
  content_fits Free r h = ref_fits r h
  content_fits Head r h = ref_fits r h
  content_fits Tail r h = ref_fits r h
  content_fits Tail_lock c h = actor_number_fits c h
  content_fits Head_lock c h = actor_number_fits c h
  content_fits (Next i) r h = next_fits r h
  content_fits (Value_of i) v h = value_fits v h

  raised_fits : (r : Ref) (to : ℕ) → RefInRange s.limit n r → (to ≤ n) ⊎ (to ≡ reserved_node s.bits) → IsRef s.bits (raised s r to)
  raised_fits r to h g = ref_fits (raised s r to) (raised_in_range s n r to h g)

  small_fits : 0 < 2 ^ 64
  small_fits = omega arith

  -- what a line compares and writes fits its word
  action_fits : (me : ℕ) (a : Actor) (l : Line) → me ≤ k → RegistersInRange s n k a → LineInRange s.size a.f (Some l) → ActionFits s.bits (action s me a l)
  action_fits me a N4 i h f = (ref_fits a.top h.top, raised_fits a.top a.next.node h.top h.next.node)
  action_fits me a N5 i h f =
      let b : s.size < reserved_node s.bits = sized.numbered in
      let m = span_most s.bits sized.split in
      (node_number_fits a.f h.f, number_fits (a.f + 1) s.size (omega arith) (omega arith))
  action_fits me a F2 i h f = ref_fits (ref a.top.node a.mark) (record { node = h.top.node; count = h.mark })
  action_fits me a F3 i h f = (ref_fits a.top h.top, raised_fits a.top a.node h.top (inl h.node))
  action_fits me a E2 i h f = value_fits a.val h.val
  action_fits me a E9 i h f = (next_fits a.next h.next, next_fits (raised s a.next a.node) (raised_next_in_range s n a.next a.node h.next h.node))
  action_fits me a E13 i h f = (ref_fits a.tail h.tail, raised_fits a.tail a.next.node h.tail h.next.node)
  action_fits me a E17 i h f = (ref_fits a.tail h.tail, raised_fits a.tail a.node h.tail (inl h.node))
  action_fits me a D10 i h f = (ref_fits a.tail h.tail, raised_fits a.tail a.next.node h.tail h.next.node)
  action_fits me a D13 i h f = (ref_fits a.head h.head, raised_fits a.head a.next.node h.head h.next.node)
  action_fits me a A1 i h f = value_fits a.val h.val
  action_fits me a A3 i h f = (small_fits, actor_number_fits me i)
  action_fits me a A5 i h f = (ref_fits null (record { node = omega arith; count = omega arith }), ref_fits (ref a.node 0) (record { node = h.node; count = omega arith }))
  action_fits me a A6 i h f = ref_fits (ref a.node 0) (record { node = h.node; count = omega arith })
  action_fits me a A7 i h f = small_fits
  action_fits me a B1 i h f = (small_fits, actor_number_fits me i)
  action_fits me a B5 i h f = raised_fits a.head a.next.node h.head h.next.node
  action_fits me a B6 i h f = small_fits
  action_fits me a S4 i h f = (next_fits a.next h.next, next_fits (raised_end s a.next) (raised_end_in_range s n a.next h.next))
  action_fits me a S5 i h f = (ref_fits a.tail h.tail, raised_fits a.tail a.next.node h.tail h.next.node)
  action_fits me a S6 i h f = (small_fits, actor_number_fits me i)
  action_fits me a S8 i h f = (ref_fits null (record { node = omega arith; count = omega arith }), next_fits (shut_ref s.bits 0) (record { node = inr refl; count = omega arith }))
  action_fits me a S9 i h f = small_fits
  action_fits me a _ i h f = tt

-- all that a world in range holds fits its words
pub shared_fits : (w : World) → WorldInRange w → SharedFits w.setup.bits w.shared
shared_fits w h = λ x. content_fits w.setup w.shared.fresh (length w.actors) h.sized h.shared.fresh x (content x w.shared) (found_in_range w.setup (length w.actors) w.shared x h.shared)

-- what the access of an actor of a world in range compares and writes fits the word that it names
pub access_fits : (w : World) (me : ℕ) (a : Actor) (l : Line) → WorldInRange w → actor_of w me ≡ Some a → a.line ≡ Some l → ActionFits w.setup.bits (action w.setup me a l)
access_fits w me a l h e f =
    let g : ActorInRange w.setup w.shared.fresh (length w.actors) a = actor_in_range w me a h e in
    action_fits w.setup w.shared.fresh (length w.actors) h.sized h.shared.fresh me a l (mover_in_range w me a e).1 g.registers (subst (LineInRange w.setup.size a.f) f g.line)
