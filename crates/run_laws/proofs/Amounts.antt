-- What an actor has before it in turns that may fail, also without a call: a step of its own lowers it by the turn that fails
-- there, a call that it begins or gives up doesn't raise it, and another actor's step raises it by its toll at most.
use Rattle.std.proofs.Common.{◌≡◌, ℕ, zero, suc, ◌+◌, ◌-◌, ◌≤◌, Bool, true, false, nat_eq, if◌then◌else◌, ◌⊎◌, inl, inr, List, [], ◌∷◌, get_or, set, Option, Some, None, refl, sym, ap, ◌∙◌, subst, arith}
use Rattle.std.proofs.lemmas.Option.{none-some, same_Some}
use Rattle.step_machine.specs.Below.{Ref, ref, reserved_node, is_null, is_shut, same_ref, Kind, NonBlocking, Line, N1, N2, N3, N4, N5, F1, F2, F3, E2, E5}
use Rattle.step_machine.specs.Below.{E6, E7, E9, E13, E17, D2, D3, D4, D5, D10, D12, D13, A1, A3, B1, S1, S2, S3, S4, S5, S6, section_of, Op, Enq, Deq, Shut}
use Rattle.step_machine.specs.Below.{Held, Reply, Setup, Node, Actor, Outcome, Shared, blank, node_at, put, performed, found, Next, action, outcome}
use Rattle.step_machine.specs.Below.{raised_end, gives_up, begun, from_pocket, first_words}
use Rattle.step_machine.specs.Machine.{World, opening, actor_of, rested, may_rest, IsReached}
use Rattle.step_machine.specs.Places.{IsEnd}
use Rattle.step_machine.specs.ProgramCounters.{IsRunBy}
use Rattle.step_machine.proofs.Choices.{either, both, tried}
use Rattle.step_machine.proofs.Reached.{some_of, actor_stands}
use Rattle.step_machine.proofs.StampsMoves.{idle_got}
use Rattle.step_machine.proofs.NonBlockingLaws.{at_line}
use Rattle.node_arena.specs.Prologues.{out_of}
use Rattle.step_machine.specs.Prices.{unless, if_so, by_due, of_pocket}
use Rattle.step_machine.specs.Amounts.{names, tail_lags, raced, next_rose, rank, detour, lost, own, amount_at, failed, counted}
use Rattle.step_machine.specs.Pairs.{Stage, Resting, Taking, Popping, stage, Won, Nothing, Node as OfNode, Link, Pop, dues, price}
use Rattle.step_machine.proofs.Others.{if_so_most, unless_most, raced_most, misled_most}
use Rattle.step_machine.proofs.Mover.{IsEnough, Lowers, step_lowers, give_lowers, end_names}
use Rattle.progress.proofs.Steps.{open_first}
use Rattle.run_laws.specs.Turns.{IsFirst}
use Rattle.run_laws.proofs.Tolls.{turns}

pub enough : IsEnough turns
enough = record { node = omega arith; link = omega arith; pop = omega arith; idle = omega arith; kept = omega arith }

-- a shut has one turn more before it than its end leaves; each other line, and no call, counts it beside
abbrev pub spare : Option Line → ℕ
spare (Some S1) = 0
spare (Some S2) = 0
spare (Some S3) = 0
spare (Some S4) = 0
spare (Some S5) = 0
spare l = 1

-- what an actor has before it, and one more
abbrev pub amount : Setup → Shared → Actor → Option Line → ℕ
amount s m a l = amount_at turns s m a l + spare l

spare_most : (l : Option Line) → spare l ≤ 1
spare_most (Some S1) = omega arith
spare_most (Some S2) = omega arith
spare_most (Some S3) = omega arith
spare_most (Some S4) = omega arith
spare_most (Some S5) = omega arith
spare_most l = omega arith

pub amount_least : (s : Setup) (m : Shared) (a : Actor) (l : Option Line) → 1 ≤ amount s m a l
amount_least s m a (Some S1) = omega arith
amount_least s m a (Some S2) = omega arith
amount_least s m a (Some S3) = omega arith
amount_least s m a (Some S4) = omega arith
amount_least s m a (Some S5) = omega arith
amount_least s m a l = omega arith

-- a list with one item written has that one or the one it had
set_either : (xs : List Node) (i j : ℕ) (y d : Node) → (get_or (set xs i y) j d ≡ y) ⊎ (get_or (set xs i y) j d ≡ get_or xs j d)
set_either [] i j y d = inr refl
set_either (x ∷ xs) zero zero y d = inl refl
set_either (x ∷ xs) zero (suc j) y d = inr refl
set_either (x ∷ xs) (suc i) zero y d = inr refl
set_either (x ∷ xs) (suc i) (suc j) y d = set_either xs i j y d

-- where the closed end is linked behind what led to none, Tail lags no more than before
module _ (s : Setup) (m : Shared) (k : ℕ) (r : Ref) (null : r.node ≡ 0) where
  closes : IsEnd s.bits (raised_end s r).node
  closes = go (nat_eq r.count s.limit)
    where
      go : (b : Bool) → IsEnd s.bits (if b then r else ref (reserved_node s.bits) (r.count + 1)).node
      go true = inl null
      go false = inr refl

  abbrev lags_by : Node → Bool
  lags_by x = if nat_eq m.tail.count s.limit then false else names (is_null x.next) (is_shut s.bits x.next)

  pub shut_lags : if_so (tail_lags s (put (Next k) (raised_end s r) m)) 1 ≤ if_so (tail_lags s m) 1
  shut_lags = go (set_either m.nodes (k - 1) (m.tail.node - 1) (record (node_at m k) { next = raised_end s r }) blank)
    where
      closed : (b : Bool) → (if b then false else names (nat_eq (raised_end s r).node 0) (nat_eq (raised_end s r).node (reserved_node s.bits))) ≡ false
      closed true = refl
      closed false = end_names s.bits (raised_end s r).node closes

      go : (node_at (put (Next k) (raised_end s r) m) m.tail.node ≡ record (node_at m k) { next = raised_end s r })
          ⊎ (node_at (put (Next k) (raised_end s r) m) m.tail.node ≡ node_at m m.tail.node)
          → if_so (tail_lags s (put (Next k) (raised_end s r) m)) 1 ≤ if_so (tail_lags s m) 1
      go (inl e) = omega (arith, ap (λ x. if_so (lags_by x) 1) e, ap (λ b. if_so b 1) (closed (nat_eq m.tail.count s.limit)))
      go (inr e) = omega (arith, ap (λ x. if_so (lags_by x) 1) e)

-- what an exchange costs an actor is no more than its price
dues_most : (won : Won) (z : Stage) → dues turns won z ≤ price turns won
dues_most Nothing z = omega arith
dues_most OfNode Taking = omega arith
dues_most OfNode _ = omega arith
dues_most Link Taking = omega arith
dues_most Link _ = omega arith
dues_most Pop Popping = omega arith
dues_most Pop _ = omega arith

-- the same of an actor that may be there
abbrev pub has_of : Setup → Shared → Option Actor → ℕ
has_of s m None = 1
has_of s m (Some a) = amount s m a a.line

pub has_least : (s : Setup) (m : Shared) (c : Option Actor) → 1 ≤ has_of s m c
has_least s m None = omega arith
has_least s m (Some c) = amount_least s m c c.line

-- another actor's step raises it by the toll at most
pub rises : (s : Setup) (m m' : Shared) (x : Stage) (before counts tolls : ℕ) (o : Outcome) → Lowers turns s m m' x before counts tolls o → (c : Option Actor) → has_of s m' c ≤ has_of s m c + tolls
rises s m m' x before counts tolls o f None = omega arith
rises s m m' x before counts tolls o f (Some c) = go c.line
  where
    go : (j : Option Line) → amount s m' c j ≤ amount s m c j + tolls
    go None = omega (arith, f.idle, dues_most f.won Resting, f.fair)
    go (Some j) = omega (arith, f.others c j, dues_most f.won (stage c.due j), f.fair)

nothing_kept : (q : Option Held) → of_pocket turns q ≡ 0
nothing_kept None = refl
nothing_kept (Some held) = refl

module _ (s : Setup) (m : Shared) where
  by_pocket : (l : Line) (q : Option Held) (b : Actor) (most : ℕ) → amount s m b b.line ≤ most
      → ((x : Actor) → own turns s m x l + spare (Some l) ≤ most) → amount s m (from_pocket l q b) (from_pocket l q b).line ≤ most
  by_pocket l None b most h g = h
  by_pocket l (Some held) b most h g = omega (arith, g (from_pocket l (Some held) b))

  due_either : (due : Option Reply) (n : ℕ) → by_due due 0 0 + by_due due (n + 0) n ≤ n
  due_either None n = omega arith
  due_either (Some reply) n = omega arith

  -- a call that begins has no more before it than its actor had
  pub begun_own : (kind : Kind) (you : ℕ) (op : Op) (a : Actor) → kind ≡ NonBlocking → amount s m (begun kind you op a) (begun kind you op a).line ≤ amount s m a None
  begun_own kind you op a e = subst (λ k. amount s m (begun k you op a) (begun k you op a).line ≤ amount s m a None) (sym e) (go op)
    where
      go : (op : Op) → amount s m (begun NonBlocking you op a) (begun NonBlocking you op a).line ≤ amount s m a None
      go (Enq body) = by_pocket E2 a.pocket _ _ (omega arith) (λ x. omega arith)
      go Deq = by_pocket F1 a.pocket _ _ (omega arith) (λ x. omega (arith, due_either x.due (if_so (tail_lags s m) 1)))
      go Shut = omega arith

  -- nor has one that rests
  pub rested_own : (a : Actor) (l : Line) → IsRunBy (section_of l) NonBlocking → may_rest l ≡ true → amount s m (rested a) None ≤ amount s m a (Some l)
  rested_own a l runs may = go l runs may
    where
      go : (l : Line) → IsRunBy (section_of l) NonBlocking → may_rest l ≡ true → amount s m (rested a) None ≤ amount s m a (Some l)
      go E2 runs may = omega arith
      go A1 runs may = absurd runs
      go _ runs may = absurd (let f : false ≡ true = may in cc)

module _ (w : World) (r : IsReached w) (e : w.setup.kind ≡ NonBlocking) (you : ℕ) (a : Actor) (is : actor_of w you ≡ Some a) where
  abbrev Falls : Line → Shared → Outcome → Type 0
  Falls l m' o = amount w.setup m' o.actor o.actor.line + failed turns w.shared a l ≤ amount w.setup w.shared a (Some l)

  -- an exchange at S4 that was lost leads to S1
  missed : (b : Bool) (m m' : Shared) (o o' : Outcome) → b ≡ false → amount_at turns w.setup (if b then m else m') (if b then o else o').actor
      (if b then o else o').actor.line + counted turns w.shared a S4 ≤ amount_at turns w.setup w.shared a (Some S4)
      → amount_at turns w.setup m' o'.actor o'.actor.line + counted turns w.shared a S4 ≤ amount_at turns w.setup w.shared a (Some S4)
  missed true m m' o o' i h = absurd (let f : true ≡ false = i in cc)
  missed false m m' o o' i h = h

  -- a step lowers what its actor has before it by the turn that fails there
  pub step_own : (l : Line) → a.line ≡ Some l → Falls l (performed (action w.setup you a l) w.shared) (outcome w.setup (w.steps + 1) you a l (found (action w.setup you a l) w.shared))
  step_own S1 at = omega (arith, (step_lowers turns enough w r e you a S1 is at).mine)
  step_own S2 at = omega (arith, (step_lowers turns enough w r e you a S2 is at).mine)
  step_own S3 at =
      either (Falls S3 w.shared) (same_ref w.shared.tail a.tail)
      (λ i. both (Falls S3 w.shared) (is_null a.next) (omega (arith, ap (λ b. raced turns b (next_rose w.shared a)) i, ap (λ b. unless b 1) i))
      (both (Falls S3 w.shared) (is_shut w.setup.bits a.next) (omega (arith, ap (λ b. unless b 1) i))
      (both (Falls S3 w.shared) (nat_eq a.tail.count w.setup.limit) (omega (arith, ap (λ b. unless b 1) i)) (omega (arith, ap (λ b. unless b 1) i)))))
      (λ i. omega (arith, ap (λ b. raced turns b (next_rose w.shared a)) i, ap (λ b. unless b 1) i))
  step_own S4 at =
      tried (Falls S4) (same_ref (node_at w.shared a.tail.node).next a.next)
      (λ i. omega (arith, ap (λ b. unless b 1) i, shut_lags w.setup w.shared a.tail.node a.next (at_line w r e you a S4 is at).knows.0))
      (λ i. let f : amount_at turns w.setup w.shared a (Some S1) + counted turns w.shared a S4 ≤ amount_at turns w.setup w.shared a (Some S4) =
      missed (same_ref (node_at w.shared a.tail.node).next a.next) _ _ _ _ i (step_lowers turns enough w r e you a S4 is at).mine in omega
      (arith, f))
  step_own S5 at = omega (arith, (step_lowers turns enough w r e you a S5 is at).mine)
  step_own l at = omega (arith, (step_lowers turns enough w r e you a l is at).mine, spare_most (outcome w.setup (w.steps + 1) you a l (found (action w.setup you a l) w.shared)).actor.line)

  -- giving up lowers it too, or leaves it
  pub given_own : (l : Line) (o : Outcome) → a.line ≡ Some l → gives_up (w.steps + 1) a l ≡ Some o → amount w.setup w.shared o.actor o.actor.line ≤ amount w.setup w.shared a (Some l)
  given_own S1 o at given = subst (λ x. amount w.setup w.shared x.actor x.actor.line ≤ amount w.setup w.shared a (Some S1)) (same_Some _ _ given) (omega arith)
  given_own S2 o at given = absurd (none-some o given)
  given_own S3 o at given = absurd (none-some o given)
  given_own S4 o at given = absurd (none-some o given)
  given_own S5 o at given = absurd (none-some o given)
  given_own l o at given =
      let f = some_of (Lowers turns w.setup w.shared w.shared (stage a.due l) (amount_at turns w.setup w.shared a (Some l)) 0 0)
      (gives_up (w.steps + 1) a l) o given (give_lowers turns enough w r e you a l is at) in
      omega (arith, f.mine, spare_most o.actor.line)

-- how much an actor has before it at most, at any line, and where a call begins
module _ (s : Setup) (m : Shared) where
  due_most : (due : Option Reply) (b : Bool) → by_due due 0 0 + by_due due (if_so b 1 + 0) (if_so b 1) ≤ 1
  due_most None b = omega (arith, if_so_most b 1)
  due_most (Some reply) b = omega (arith, if_so_most b 1)

  lost_most : (a : Actor) (l : Line) → lost turns s m a l ≤ 1
  lost_most a N2 = unless_most (nat_eq m.fresh a.f) 1
  lost_most a N3 = unless_most (same_ref m.free a.top) 1
  lost_most a N4 = unless_most (same_ref m.free a.top) 1
  lost_most a N5 = unless_most (nat_eq m.fresh a.f) 1
  lost_most a F2 = unless_most (same_ref m.free a.top) 1
  lost_most a F3 = unless_most (same_ref m.free a.top) 1
  lost_most a E6 = unless_most (same_ref m.tail a.tail) 1
  lost_most a E7 = raced_most turns (same_ref m.tail a.tail) (next_rose m a)
  lost_most a E9 = if_so_most (next_rose m a) 1
  lost_most a E13 = unless_most (same_ref m.tail a.tail) 1
  lost_most a E17 = omega (arith, unless_most (same_ref m.tail a.tail) (if_so (tail_lags s m) 1), if_so_most (tail_lags s m) 1)
  lost_most a D3 = unless_most (same_ref m.head a.head) 1
  lost_most a D4 = misled_most turns (same_ref m.head a.head) (nat_eq a.head.node a.tail.node) (same_ref m.tail a.tail)
  lost_most a D5 = misled_most turns (same_ref m.head a.head) (nat_eq a.head.node a.tail.node) (same_ref m.tail a.tail)
  lost_most a D10 = unless_most (same_ref m.tail a.tail) 1
  lost_most a D12 = unless_most (same_ref m.head a.head) 1
  lost_most a D13 = unless_most (same_ref m.head a.head) 1
  lost_most a S2 = unless_most (same_ref m.tail a.tail) 1
  lost_most a S3 = raced_most turns (same_ref m.tail a.tail) (next_rose m a)
  lost_most a S4 = if_so_most (next_rose m a) 1
  lost_most a S5 = unless_most (same_ref m.tail a.tail) 1
  lost_most a _ = omega arith

  pub amount_most : (a : Actor) (l : Line) → amount s m a (Some l) ≤ 3
  amount_most a l = omega (arith, without a.due l (if_so_most (tail_lags s m) 1), lost_most a l, nothing_kept a.pocket)
    where
      without : (due : Option Reply) (l : Line) → if_so (tail_lags s m) 1 ≤ 1 → rank due l 0 + detour turns due (tail_lags s m) l + spare (Some l) ≤ 2
      without due F1 h = omega (arith, due_most due (tail_lags s m))
      without due F2 h = omega (arith, due_most due (tail_lags s m))
      without due F3 h = omega (arith, due_most due (tail_lags s m))
      without due l h = omega (arith, h)

  pub amount_first : (a : Actor) (l : Line) → IsFirst l → amount s m a (Some l) ≤ 2
  amount_first a N1 h = omega (arith, if_so_most (tail_lags s m) 1, nothing_kept a.pocket)
  amount_first a E2 h = omega (arith, if_so_most (tail_lags s m) 1, nothing_kept a.pocket)
  amount_first a F1 h = omega (arith, due_most a.due (tail_lags s m), nothing_kept a.pocket)
  amount_first a D2 h = omega (arith, if_so_most (tail_lags s m) 1, nothing_kept a.pocket)
  amount_first a S1 h = omega (arith, if_so_most (tail_lags s m) 1, nothing_kept a.pocket)
  amount_first a _ h = absurd h

  -- nor has an actor that may begin a call
  pub amount_ready : (a : Actor) (l : Option Line) → a.line ≡ l → (out_of a l).line ≡ None → amount s m a l ≤ 2
  amount_ready a None is h = omega (arith, if_so_most (tail_lags s m) 1, nothing_kept a.pocket)
  amount_ready a (Some N1) is h = amount_first a N1 tt
  amount_ready a (Some E2) is h = amount_first a E2 tt
  amount_ready a (Some F1) is h = amount_first a F1 tt
  amount_ready a (Some D2) is h = amount_first a D2 tt
  amount_ready a (Some S1) is h = amount_first a S1 tt
  amount_ready a (Some E5) is h = omega (arith, if_so_most (tail_lags s m) 1, nothing_kept a.pocket)
  amount_ready a (Some A1) is h = omega (arith, if_so_most (tail_lags s m) 1, nothing_kept a.pocket)
  amount_ready a (Some A3) is h = omega (arith, if_so_most (tail_lags s m) 1, nothing_kept a.pocket)
  amount_ready a (Some B1) is h = omega (arith, if_so_most (tail_lags s m) 1, nothing_kept a.pocket)
  amount_ready a (Some S6) is h = omega (arith, if_so_most (tail_lags s m) 1, nothing_kept a.pocket)
  amount_ready a (Some l) is h = absurd (none-some l (sym h ∙ is))

-- at the start nothing is before any actor
pub has_first : (s : Setup) (n me : ℕ) → has_of s (first_words s.size) (actor_of (opening s n) me) ≤ 1
has_first s n me = go (actor_of (opening s n) me) refl
  where
    go : (o : Option Actor) → actor_of (opening s n) me ≡ o → has_of s (first_words s.size) o ≤ 1
    go None is = omega arith
    go (Some a) is = subst (λ (x : Actor). amount s (first_words s.size) x x.line ≤ 1) (idle_got n (me - 1) a (actor_stands (opening s n) me a is).1)
        (omega (arith, ap (λ b. if_so b 1) (open_first s)))
