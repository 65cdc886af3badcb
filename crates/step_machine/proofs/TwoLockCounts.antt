-- In the two-lock queue the counts of Tail and of each node's `next` stay 0.
use Rattle.std.proofs.Common.{◌≡◌, ℕ, zero, suc, ◌-◌, nat_eq, List, [], ◌∷◌, get_or, set, Some, refl, sym, ◌∙◌, arith}
use Rattle.std.specs.List.{All}
use Rattle.std.proofs.lemmas.List.Elements.{All-set, All-replicate}
use Rattle.step_machine.specs.Below.{same_ref, TwoLock, Line, N1, N2, N3, N4, N5, F1, F2, F3, A1, A2, A3, A4, A5, A6, A7, B1, B2, B3, B4, B5, B6, S6}
use Rattle.step_machine.specs.Below.{S7, S8, S9, null, section_of, Setup, Node, Actor, blank, Shared, node_at, performed, action}
use Rattle.step_machine.specs.ProgramCounters.{IsRunBy}
use Rattle.step_machine.specs.TwoLock.{OfTwoLockWorlds, CountsNothing}
use Rattle.step_machine.proofs.Choices.{both}
use Rattle.step_machine.proofs.Fixed.{FixedAt}
use Rattle.step_machine.proofs.Reaching.{each_reached}
use Rattle.step_machine.proofs.Assertions.{Marked}
use Rattle.step_machine.proofs.EitherQueue.{reached_chains, fixed_at}
use Rattle.step_machine.proofs.TwoLockInvariant.{nodes_at}

-- the counts of Tail and of each `next` are 0
pub record NoCounts (m : Shared) : Type 0 where
  pub tail : m.tail.count ≡ 0
  pub nodes : All (λ n. n.next.count ≡ 0) m.nodes

-- the node of a number has none, also where there is none
pub no_count : (nodes : List Node) (k : ℕ) → All (λ n. n.next.count ≡ 0) nodes → (get_or nodes k blank).next.count ≡ 0
no_count [] k h = refl
no_count (x ∷ xs) zero h = h 0 blank (omega arith)
no_count (x ∷ xs) (suc k) h = no_count xs k (λ j d low. h (suc j) d (omega arith))

set_count : (m : Shared) (k : ℕ) (x : Node) → NoCounts m → x.next.count ≡ 0 → NoCounts (record m { nodes = set m.nodes k x })
set_count m k x h e = record { tail = h.tail; nodes = All-set (λ n. n.next.count ≡ 0) m.nodes k x e h.nodes }

words : (s : Setup) (me : ℕ) (m : Shared) (a : Actor) (l : Line) → IsRunBy (section_of l) TwoLock → FixedAt s.limit me a (Some l) → Marked m a → NoCounts m → NoCounts (performed (action s me a l) m)
words s me m a N1 r f g h = h
words s me m a N2 r f g h = h
words s me m a N3 r f g h = h
words s me m a N4 r f g h = both NoCounts (same_ref m.free a.top) (record { tail = h.tail; nodes = h.nodes }) h
words s me m a N5 r f g h = both NoCounts (nat_eq m.fresh a.f) (record { tail = h.tail; nodes = h.nodes }) h
words s me m a F1 r f g h = h
words s me m a F2 r f g h = set_count m (a.node - 1) _ h (sym (g.hand f.hand).1 ∙ no_count m.nodes (a.node - 1) h.nodes)
words s me m a F3 r f g h = both NoCounts (same_ref m.free a.top) (record { tail = h.tail; nodes = h.nodes }) h
words s me m a A1 r f g h = set_count m (a.node - 1) _ h (no_count m.nodes (a.node - 1) h.nodes)
words s me m a A2 r f g h = set_count m (a.node - 1) _ h (no_count m.nodes (a.node - 1) h.nodes)
words s me m a A3 r f g h = both NoCounts (nat_eq m.tail_lock 0) (record { tail = h.tail; nodes = h.nodes }) h
words s me m a A4 r f g h = h
words s me m a A5 r f g h = both NoCounts (same_ref (node_at m a.tail.node).next null) (set_count m (a.tail.node - 1) _ h refl) h
words s me m a S6 r f g h = both NoCounts (nat_eq m.tail_lock 0) (record { tail = h.tail; nodes = h.nodes }) h
words s me m a S7 r f g h = h
words s me m a S8 r f g h = both NoCounts (same_ref (node_at m a.tail.node).next null) (set_count m (a.tail.node - 1) _ h refl) h
words s me m a S9 r f g h = record { tail = h.tail; nodes = h.nodes }
words s me m a A6 r f g h = record { tail = refl; nodes = h.nodes }
words s me m a A7 r f g h = record { tail = h.tail; nodes = h.nodes }
words s me m a B1 r f g h = both NoCounts (nat_eq m.head_lock 0) (record { tail = h.tail; nodes = h.nodes }) h
words s me m a B2 r f g h = h
words s me m a B3 r f g h = h
words s me m a B4 r f g h = h
words s me m a B5 r f g h = record { tail = h.tail; nodes = h.nodes }
words s me m a B6 r f g h = record { tail = h.tail; nodes = h.nodes }
words s me m a _ r f g h = absurd r

no_counts : OfTwoLockWorlds (λ w. NoCounts w.shared)
no_counts =
    each_reached TwoLock (λ w. NoCounts w.shared)
    (record {
      step = λ w me a l r e is at h. words w.setup me w.shared a l (nodes_at w r e me a l is at).0 (fixed_at w r me a l is at) ((reached_chains w r).sound.actors me a is).marked h;
      gave_up = λ w me a l o r e is at given h. h;
      began = λ w me op a r e is at call h. h;
      at_rest = λ w me a l r e is at may h. h;
    })
    (λ s actors sized e. record { tail = refl; nodes = All-replicate (λ n. n.next.count ≡ 0) s.size blank refl })

pub count_nothing : OfTwoLockWorlds CountsNothing
count_nothing w r e = let h : NoCounts w.shared = no_counts w r e in (h.tail, h.nodes)
