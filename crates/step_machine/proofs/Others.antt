-- What a step costs each other actor of the non-blocking queue at most, by what it does with the words.
use Rattle.std.proofs.Common.{◌≡◌, ℕ, ◌+◌, ◌≤◌, Bool, true, false, nat_eq, nat_lt, List, Option, Some, None, refl, ap, arith}
use Rattle.step_machine.specs.Below.{Line, N2, N3, N4, N5, F1, F2, F3, E6, E7, E9, E13, E17, D3, D4, D5, D10, D12, D13, S2, S3, S4, S5, Ref, same_ref}
use Rattle.step_machine.specs.Below.{Reply, Setup, Actor, Node, Shared, node_at, put, Fresh, Free, Head, Tail, Next}
use Rattle.step_machine.specs.Prices.{Prices, turn_of, unless, if_so, by_due}
use Rattle.step_machine.specs.Amounts.{tail_lags, misled, raced, next_rose, lost_at_free, own}
use Rattle.step_machine.specs.Pairs.{freeing, stage, dues, Node as OfNode, Link, Pop}

-- what is due is at most what would be
pub unless_most : (b : Bool) (n : ℕ) → unless b n ≤ n
unless_most true n = omega arith
unless_most false n = omega arith

pub if_so_most : (b : Bool) (n : ℕ) → if_so b n ≤ n
if_so_most true n = omega arith
if_so_most false n = omega arith

pub if_so_less : (b : Bool) (n m : ℕ) → n ≤ m → if_so b n ≤ if_so b m
if_so_less true n m h = h
if_so_less false n m h = omega arith

pub due_most : (due : Option Reply) (x y : ℕ) → by_due due x y ≤ x + y
due_most None x y = omega arith
due_most (Some reply) x y = omega arith

module _ (p : Prices) where
  pub raced_most : (b c : Bool) → raced p b c ≤ turn_of p 4
  raced_most true c = omega (arith, if_so_most c (turn_of p 4))
  raced_most false c = omega arith

  pub misled_most : (b c d : Bool) → misled p b c d ≤ turn_of p 6
  misled_most true true d = omega (arith, unless_most d (turn_of p 5))
  misled_most true false d = omega arith
  misled_most false c d = omega arith

  -- another Tail misleads by one turn of 5 steps at most
  misled_more : (b c d e : Bool) → misled p b c d ≤ misled p b c e + turn_of p 5
  misled_more true true d e = omega (arith, unless_most d (turn_of p 5))
  misled_more true false d e = omega arith
  misled_more false c d e = omega arith

  -- Free goes on, and Fresh does, where a node is taken or given back
  pub at_free : (m : Shared) (r : Ref) (c : Actor) (j : Line) → lost_at_free p (put Free r m) c j ≤ lost_at_free p m c j + turn_of p 4
  at_free m r c N3 = omega (arith, unless_most (same_ref r c.top) (turn_of p 4))
  at_free m r c N4 = omega (arith, unless_most (same_ref r c.top) (turn_of p 4))
  at_free m r c F2 = omega (arith, unless_most (same_ref r c.top) (turn_of p 3))
  at_free m r c F3 = omega (arith, unless_most (same_ref r c.top) (turn_of p 3))
  at_free m r c _ = omega arith

  pub at_fresh : (m : Shared) (n : ℕ) (c : Actor) (j : Line) → lost_at_free p (put Fresh n m) c j ≤ lost_at_free p m c j + turn_of p 4
  at_fresh m n c N2 = omega (arith, unless_most (nat_eq n c.f) (turn_of p 4))
  at_fresh m n c N5 = omega (arith, unless_most (nat_eq n c.f) (turn_of p 4))
  at_fresh m n c _ = omega arith

  -- where a node is given back, by whether a value was taken
  freeing_dues : (due : Option Reply) → dues p OfNode (freeing due) ≡ turn_of p 3
  freeing_dues None = refl
  freeing_dues (Some reply) = refl

  -- what is before it there for a lagging Tail
  abbrev pub for_tail : Option Reply → Bool → ℕ
  for_tail due lags = by_due due (if_so lags (turn_of p 4) + p.step) (if_so lags p.idle)

  tail_open : (due : Option Reply) (b : Bool) → for_tail due false ≤ for_tail due b
  tail_open None b = omega arith
  tail_open (Some reply) b = omega arith

  tail_linked : (due : Option Reply) (b c : Bool) → for_tail due b ≤ for_tail due c + dues p Link (freeing due)
  tail_linked None b c = omega (arith, if_so_most b (turn_of p 4))
  tail_linked (Some reply) b c = omega (arith, if_so_most b p.idle)

  module _ (s : Setup) (m : Shared) where
    pub free_cost : (r : Ref) (c : Actor) (j : Line) → own p s (put Free r m) c j ≤ own p s m c j + dues p OfNode (stage c.due j)
    free_cost r c N3 = omega (arith, unless_most (same_ref r c.top) (turn_of p 4))
    free_cost r c N4 = omega (arith, unless_most (same_ref r c.top) (turn_of p 4))
    free_cost r c F2 = omega (arith, unless_most (same_ref r c.top) (turn_of p 3), freeing_dues c.due)
    free_cost r c F3 = omega (arith, unless_most (same_ref r c.top) (turn_of p 3), freeing_dues c.due)
    free_cost r c _ = omega arith

    pub fresh_cost : (n : ℕ) (c : Actor) (j : Line) → own p s (put Fresh n m) c j ≤ own p s m c j + dues p OfNode (stage c.due j)
    fresh_cost n c N2 = omega (arith, unless_most (nat_eq n c.f) (turn_of p 4))
    fresh_cost n c N5 = omega (arith, unless_most (nat_eq n c.f) (turn_of p 4))
    fresh_cost n c _ = omega arith

    -- Head goes on
    pub head_cost : (r : Ref) (c : Actor) (j : Line) → own p s (put Head r m) c j ≤ own p s m c j + dues p Pop (stage c.due j)
    head_cost r c D3 = omega (arith, unless_most (same_ref r c.head) (turn_of p 6))
    head_cost r c D4 = omega (arith, misled_most (same_ref r c.head) (nat_eq c.head.node c.tail.node) (same_ref m.tail c.tail))
    head_cost r c D5 = omega (arith, misled_most (same_ref r c.head) (nat_eq c.head.node c.tail.node) (same_ref m.tail c.tail))
    head_cost r c D12 = omega (arith, unless_most (same_ref r c.head) (turn_of p 6))
    head_cost r c D13 = omega (arith, unless_most (same_ref r c.head) (turn_of p 6))
    head_cost r c _ = omega arith

    -- a lagging Tail goes on to the last node: each reader of Tail loses a turn, and need not swing
    pub swing_cost : (r : Ref) (c : Actor) (j : Line) → tail_lags s m ≡ true → tail_lags s (put Tail r m) ≡ false → own p s (put Tail r m) c j ≤ own p s m c j
    swing_cost r c j u z = go j (λ n. ap (λ b. if_so b n) u) (λ n. ap (λ b. if_so b n) z)
      where
        opened : for_tail c.due (tail_lags s (put Tail r m)) ≤ for_tail c.due (tail_lags s m)
        opened = omega (arith, tail_open c.due (tail_lags s m), ap (for_tail c.due) z)

        go : (j : Line) → ((n : ℕ) → if_so (tail_lags s m) n ≡ n) → ((n : ℕ) → if_so (tail_lags s (put Tail r m)) n ≡ 0) → own p s (put Tail r m) c j ≤ own p s m c j
        go E6 u z = omega (arith, u (turn_of p 4), z (turn_of p 4), unless_most (same_ref r c.tail) (turn_of p 4))
        go E7 u z = omega (arith, u (turn_of p 4), z (turn_of p 4), raced_most (same_ref r c.tail) (next_rose m c))
        go E13 u z = omega (arith, u (turn_of p 4), z (turn_of p 4), unless_most (same_ref r c.tail) (turn_of p 4))
        go E17 u z = omega (arith, z p.idle, unless_most (same_ref r c.tail) (if_so (tail_lags s (put Tail r m)) p.idle))
        go D4 u z = omega (arith, u (turn_of p 5), z (turn_of p 5), misled_more (same_ref m.head c.head) (nat_eq c.head.node c.tail.node) (same_ref r c.tail) (same_ref m.tail c.tail))
        go D5 u z = omega (arith, u (turn_of p 5), z (turn_of p 5), misled_more (same_ref m.head c.head) (nat_eq c.head.node c.tail.node) (same_ref r c.tail) (same_ref m.tail c.tail))
        go D10 u z = omega (arith, u (turn_of p 5), z (turn_of p 5), unless_most (same_ref r c.tail) (turn_of p 5))
        go S2 u z = omega (arith, u (turn_of p 4), z (turn_of p 4), unless_most (same_ref r c.tail) (turn_of p 4))
        go S3 u z = omega (arith, u (turn_of p 4), z (turn_of p 4), raced_most (same_ref r c.tail) (next_rose m c))
        go S5 u z = omega (arith, u (turn_of p 4), z (turn_of p 4), unless_most (same_ref r c.tail) (turn_of p 4))
        go F1 u z = omega (arith, opened)
        go F2 u z = omega (arith, opened)
        go F3 u z = omega (arith, opened)
        go _ u z = omega (arith, u (turn_of p 4), z (turn_of p 4), u (turn_of p 5), z (turn_of p 5))

    -- a node, or the closed end, is linked: what was read behind Tail's node is another one, and Tail lags
    pub link_cost : (n : ℕ) (r : Ref) (c : Actor) (j : Line) → own p s (put (Next n) r m) c j ≤ own p s m c j + dues p Link (stage c.due j)
    link_cost n r c j = go j (λ k. if_so_most (tail_lags s (put (Next n) r m)) k)
      where
        go : (j : Line) → ((k : ℕ) → if_so (tail_lags s (put (Next n) r m)) k ≤ k) → own p s (put (Next n) r m) c j ≤ own p s m c j + dues p Link (stage c.due j)
        go E7 l = omega (arith, l (turn_of p 4), raced_most (same_ref m.tail c.tail) (next_rose (put (Next n) r m) c))
        go E9 l = omega (arith, l (turn_of p 4), if_so_most (next_rose (put (Next n) r m) c) (turn_of p 4))
        go E17 l = omega (arith, l p.idle, unless_most (same_ref m.tail c.tail) (if_so (tail_lags s (put (Next n) r m)) p.idle))
        go S3 l = omega (arith, l (turn_of p 4), raced_most (same_ref m.tail c.tail) (next_rose (put (Next n) r m) c))
        go S4 l = omega (arith, l (turn_of p 4), if_so_most (next_rose (put (Next n) r m) c) (turn_of p 4))
        go F1 l = omega (arith, tail_linked c.due (tail_lags s (put (Next n) r m)) (tail_lags s m))
        go F2 l = omega (arith, tail_linked c.due (tail_lags s (put (Next n) r m)) (tail_lags s m))
        go F3 l = omega (arith, tail_linked c.due (tail_lags s (put (Next n) r m)) (tail_lags s m))
        go _ l = omega (arith, l (turn_of p 4), l (turn_of p 5))

    -- a node that is not Tail's is written, and no count of a `next` changes
    pub written_cost : (ns : List Node) (c : Actor) (j : Line) → tail_lags s (record m { nodes = ns }) ≡ tail_lags s m
        → ((n : ℕ) → (node_at (record m { nodes = ns }) n).next.count ≡ (node_at m n).next.count) → own p s (record m { nodes = ns }) c j ≤ own p s m c j
    written_cost ns c j u same = go j u (ap (λ n. nat_lt c.next.count n) (same c.tail.node))
      where
        go : (j : Line) → tail_lags s (record m { nodes = ns }) ≡ tail_lags s m → next_rose (record m { nodes = ns }) c ≡ next_rose m c → own p s (record m { nodes = ns }) c j ≤ own p s m c j
        go E7 u rose = omega (arith, ap (λ b. if_so b (turn_of p 4)) u, ap (raced p (same_ref m.tail c.tail)) rose)
        go E9 u rose = omega (arith, ap (λ b. if_so b (turn_of p 4)) u, ap (λ b. if_so b (turn_of p 4)) rose)
        go E17 u rose = omega (arith, ap (λ b. unless (same_ref m.tail c.tail) (if_so b p.idle)) u)
        go S3 u rose = omega (arith, ap (λ b. if_so b (turn_of p 4)) u, ap (raced p (same_ref m.tail c.tail)) rose)
        go S4 u rose = omega (arith, ap (λ b. if_so b (turn_of p 4)) u, ap (λ b. if_so b (turn_of p 4)) rose)
        go F1 u rose = omega (arith, ap (for_tail c.due) u)
        go F2 u rose = omega (arith, ap (for_tail c.due) u)
        go F3 u rose = omega (arith, ap (for_tail c.due) u)
        go _ u rose = omega (arith, ap (λ b. if_so b (turn_of p 4)) u, ap (λ b. if_so b (turn_of p 5)) u)
