-- What an actor knows and holds that begins a call or rests, and what holds at the start; for both queues.
use Rattle.std.proofs.Common.{◌≡◌, ◌≢◌, ℕ, zero, suc, get_or, ◌≤◌, Bool, true, false, nat_eq, if◌then◌else◌, replicate, Option, Some, None, IfSome, refl, sym, ap, ◌∙◌, subst, arith, ◌⊎◌, inl, inr}
use Rattle.std.proofs.lemmas.Bool.{true≢false}
use Rattle.step_machine.specs.Below.{Kind, TwoLock, NonBlocking, Line, E2, A1, F1, Op, Enq, Deq, Shut, Setup, Held, Actor, blank, Shared, from_pocket, begun}
use Rattle.step_machine.specs.Machine.{idle, rested, may_rest}
use Rattle.step_machine.specs.Places.{one_if, in_pocket, held}
use Rattle.step_machine.proofs.Chains.{one_if_tells, next_in}
use Rattle.step_machine.proofs.Counting.{holds, holds_hand, used, used_within, used_above}
use Rattle.step_machine.proofs.Fixed.{FixedAt}
use Rattle.step_machine.proofs.Assertions.{OwnsAt, IsMark, Marked, Queue, Knows}

-- what an actor that begins a call has and holds
pub record Begins (q : Queue) (Z : ℕ → Type 0) (s : Setup) (m : Shared) (last me : ℕ) (a b : Actor) : Type 0 where
  pub marked : Marked m b
  pub knows : Knows q Z s m last b b.line
  pub owns : OwnsAt m me b.line
  pub holds : (n : ℕ) → holds n b ≡ holds n a

from_pocket_begins : (q : Queue) (Z : ℕ → Type 0) (s : Setup) (m : Shared) (last me : ℕ) (a : Actor) (l : Line) (pocket : Option Held) (b : Actor)
    → b.holds ≡ false → b.pocket ≡ pocket → ((c : Actor) → Knows q Z s m last c (Some l)) → OwnsAt m me (Some l) → Begins q Z s m last me a b
    → Begins q Z s m last me a (from_pocket l pocket b)
from_pocket_begins q Z s m last me a l None b empty e knows owns h = h
from_pocket_begins q Z s m last me a l (Some held) b empty e knows owns h =
    let mark : IsMark m held.node held.mark = subst (λ p. IfSome p (λ x. IsMark m x.node x.mark)) e h.marked.pocket in
    record {
      marked = record { hand = λ d. mark; pocket = tt };
      knows = knows (from_pocket l (Some held) b);
      owns = owns;
      holds = λ n. omega (arith, h.holds n, ap (λ (x : Bool). if x then one_if (nat_eq n b.node) else 0) empty, ap (in_pocket n) e);
    }

pub begun_begins : (q : Queue) (Z : ℕ → Type 0) (s : Setup) (m : Shared) (last me : ℕ) (kind : Kind) (op : Op) (a : Actor) → a.holds ≡ false → Marked m a
    → OwnsAt m me None → Begins q Z s m last me a (begun kind me op a)
begun_begins q Z s m last me TwoLock (Enq body) a e h g = from_pocket_begins q Z s m last me a A1 a.pocket _ e refl (λ c. tt) g (record { marked = h; knows = tt; owns = g; holds = λ n. refl })
begun_begins q Z s m last me NonBlocking (Enq body) a e h g = from_pocket_begins q Z s m last me a E2 a.pocket _ e refl (λ c. tt) g (record { marked = h; knows = tt; owns = g; holds = λ n. refl })
begun_begins q Z s m last me TwoLock Deq a e h g = from_pocket_begins q Z s m last me a F1 a.pocket _ e refl (λ c. tt) g (record { marked = h; knows = tt; owns = g; holds = λ n. refl })
begun_begins q Z s m last me NonBlocking Deq a e h g = from_pocket_begins q Z s m last me a F1 a.pocket _ e refl (λ c. tt) g (record { marked = h; knows = tt; owns = g; holds = λ n. refl })
begun_begins q Z s m last me TwoLock Shut a e h g = record { marked = record { hand = h.hand; pocket = h.pocket }; knows = tt; owns = g; holds = λ n. refl }
begun_begins q Z s m last me NonBlocking Shut a e h g = record { marked = record { hand = h.hand; pocket = h.pocket }; knows = tt; owns = g; holds = λ n. refl }

-- an actor that rests keeps its node, in its pocket, and has no lock
pub rested_begins : (q : Queue) (Z : ℕ → Type 0) (s : Setup) (m : Shared) (last me : ℕ) (a : Actor) (l : Line) → may_rest l ≡ true
    → FixedAt s.limit me a (Some l) → Marked m a → OwnsAt m me (Some l) → Begins q Z s m last me a (rested a)
rested_begins q Z s m last me a E2 may f h g =
    record { marked = record { hand = λ e. absurd (true≢false (sym e)); pocket = h.hand f.hand }; knows = tt; owns = g; holds = λ n. omega (arith, holds_hand n a f.hand f.pocket) }
rested_begins q Z s m last me a A1 may f h g =
    record { marked = record { hand = λ e. absurd (true≢false (sym e)); pocket = h.hand f.hand }; knows = tt; owns = g; holds = λ n. omega (arith, holds_hand n a f.hand f.pocket) }
rested_begins q Z s m last me a _ may f h g = cc

-- at the start
pub opening_elsewhere : (n k : ℕ) → held n (replicate k idle) ≡ 0
opening_elsewhere n zero = refl
opening_elsewhere n (suc k) = omega (arith, opening_elsewhere n k)

pub no_flags : (n k : ℕ) → get_or (replicate k false) n false ≡ false
no_flags n zero = refl
no_flags zero (suc k) = refl
no_flags (suc n) (suc k) = no_flags n k

pub blank_leads : (k : ℕ) → next_in (replicate k blank) 1 ≡ 0
blank_leads zero = refl
blank_leads (suc k) = refl

pub first_used : (n : ℕ) → 1 ≤ n → one_if (nat_eq n 1) ≡ used n 1
first_used n some = go (one_if_tells n 1)
  where
    go : ((n ≡ 1) × (one_if (nat_eq n 1) ≡ 1)) ⊎ ((n ≢ 1) × (one_if (nat_eq n 1) ≡ 0)) → one_if (nat_eq n 1) ≡ used n 1
    go (inl t) = t.1 ∙ sym (used_within n 1 (let e : n ≡ 1 = t.0 in omega arith))
    go (inr f) = f.1 ∙ sym (used_above n 1 (let e : n ≢ 1 = f.0 in omega arith))
