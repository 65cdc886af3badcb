-- How much an actor of the non-blocking queue has before it, if no other one wins an exchange: to the end of its call, in
-- the turn in which it swings Tail, and in the turn that is lost already.
use Rattle.std.specs.Prelude.{ℕ, ◌+◌, ◌*◌, Bool, true, false, nat_eq, nat_lt, if◌then◌else◌, Option, Some, None}
use Rattle.step_machine.specs.Below.{Line, N1, N2, N3, N4, N5, F1, F2, F3, E2, E3, E5, E6, E7, E9, E13, E17, D2, D3, D4, D5, D10, D12, D13, A1, A2, A3, A4, A5}
use Rattle.step_machine.specs.Below.{A6, A7, B1, B2, B3, B4, B5, B6, S1, S2, S3, S4, S5, S6, S7, S8, S9, Section, section_of, is_null, is_shut, same_ref, Reply}
use Rattle.step_machine.specs.Below.{Setup, Actor, Shared, node_at}
use Rattle.line_table.specs.declared.lines.Section.TheVariants.{NewNode, Free, Enqueue, Dequeue, Shut}
use Rattle.step_machine.specs.Prices.{Prices, turn_of, unless, if_so, by_due, of_pocket}

-- how many steps it is from a line to the end of a call in which no turn is lost, in either queue
abbrev pub rank : Option Reply → Line → (step : ℕ) → ℕ
rank due N1 k = 11 * k
rank due N2 k = 10 * k
rank due N3 k = 9 * k
rank due N4 k = 8 * k
rank due N5 k = 8 * k
rank due F1 k = 3 * k + by_due due (9 * k) 0
rank due F2 k = 2 * k + by_due due (9 * k) 0
rank due F3 k = k + by_due due (9 * k) 0
rank due E2 k = 7 * k
rank due E3 k = 6 * k
rank due E5 k = 5 * k
rank due E6 k = 4 * k
rank due E7 k = 3 * k
rank due E9 k = 2 * k
rank due E13 k = 2 * k
rank due E17 k = k
rank due D2 k = 9 * k
rank due D3 k = 8 * k
rank due D4 k = 7 * k
rank due D5 k = 6 * k
rank due D10 k = 5 * k
rank due D12 k = 5 * k
rank due D13 k = 4 * k
rank due S1 k = 4 * k
rank due S2 k = 3 * k
rank due S3 k = 2 * k
rank due S4 k = k
rank due S5 k = k
rank due A1 k = 7 * k
rank due A2 k = 6 * k
rank due A3 k = 5 * k
rank due A4 k = 4 * k
rank due A5 k = 3 * k
rank due A6 k = 2 * k
rank due A7 k = k
rank due B1 k = 9 * k
rank due B2 k = 8 * k
rank due B3 k = 7 * k
rank due B4 k = 6 * k
rank due B5 k = 5 * k
rank due B6 k = 4 * k
rank due S6 k = 4 * k
rank due S7 k = 3 * k
rank due S8 k = 2 * k
rank due S9 k = k

-- whether a reference names a node
abbrev pub names : (is_null is_shut : Bool) → Bool
names true shut = false
names false true = false
names false false = true

-- whether Tail lags and can be swung: a node follows Tail's, and Tail's count is below the limit
abbrev pub tail_lags : Setup → Shared → Bool
tail_lags s m =
    if nat_eq m.tail.count s.limit then false else names (is_null (node_at m m.tail.node).next) (is_shut s.bits (node_at m m.tail.node).next)

-- the turn in which a lagging Tail is swung, by the section of a line; where no turn of the call swings it, what is kept
abbrev pub swings : Prices → Option Reply → (lags : Bool) → Section → ℕ
swings p due lags NewNode = if_so lags (turn_of p 4)
swings p due lags Enqueue = if_so lags (turn_of p 4)
swings p due lags Shut = if_so lags (turn_of p 4) + p.idle
swings p due lags Dequeue = if_so lags (turn_of p 5)
swings p due lags Free = by_due due (if_so lags (turn_of p 4) + p.step) (if_so lags p.idle)
swings p due lags _ = 0

-- the same by the line: an enqueue that linked its node swings Tail in its last step
abbrev pub detour : Prices → Option Reply → (lags : Bool) → Line → ℕ
detour p due lags E17 = 0
detour p due lags l = swings p due lags (section_of l)

-- whether the count of the `next` that an enqueue or a shut read has risen
abbrev pub next_rose : Shared → Actor → Bool
next_rose m a = nat_lt a.next.count (node_at m a.tail.node).next.count

-- what is lost to an enqueue that read Tail and its next: Tail is another one, or the count of the next is higher
abbrev pub raced : Prices → (tail_is next_rose : Bool) → ℕ
raced p true rose = if_so rose (turn_of p 4)
raced p false rose = turn_of p 4

-- what is lost to a dequeue that read Head and Tail: Head is another one, or its node was Tail's and Tail is another one
abbrev pub misled : Prices → (head_is same_nodes tail_is : Bool) → ℕ
misled p true true tail_is = unless tail_is (turn_of p 5)
misled p true false tail_is = 0
misled p false same_nodes tail_is = turn_of p 6

-- the turn that is lost already where a node is taken or given back, since Free or Fresh has changed
abbrev pub lost_at_free : Prices → Shared → Actor → Line → ℕ
lost_at_free p m a N2 = unless (nat_eq m.fresh a.f) (turn_of p 4)
lost_at_free p m a N3 = unless (same_ref m.free a.top) (turn_of p 4)
lost_at_free p m a N4 = unless (same_ref m.free a.top) (turn_of p 4)
lost_at_free p m a N5 = unless (nat_eq m.fresh a.f) (turn_of p 4)
lost_at_free p m a F2 = unless (same_ref m.free a.top) (turn_of p 3)
lost_at_free p m a F3 = unless (same_ref m.free a.top) (turn_of p 3)
lost_at_free p m a _ = 0

-- the turn that is lost already, since a word that it read has changed
abbrev pub lost : Prices → Setup → Shared → Actor → Line → ℕ
lost p s m a E6 = unless (same_ref m.tail a.tail) (turn_of p 4)
lost p s m a E7 = raced p (same_ref m.tail a.tail) (next_rose m a)
lost p s m a E9 = if_so (next_rose m a) (turn_of p 4)
lost p s m a E13 = unless (same_ref m.tail a.tail) (turn_of p 4)
lost p s m a E17 = unless (same_ref m.tail a.tail) (if_so (tail_lags s m) p.idle)
lost p s m a D3 = unless (same_ref m.head a.head) (turn_of p 6)
lost p s m a D4 = misled p (same_ref m.head a.head) (nat_eq a.head.node a.tail.node) (same_ref m.tail a.tail)
lost p s m a D5 = misled p (same_ref m.head a.head) (nat_eq a.head.node a.tail.node) (same_ref m.tail a.tail)
lost p s m a D10 = unless (same_ref m.tail a.tail) (turn_of p 5)
lost p s m a D12 = unless (same_ref m.head a.head) (turn_of p 6)
lost p s m a D13 = unless (same_ref m.head a.head) (turn_of p 6)
lost p s m a S2 = unless (same_ref m.tail a.tail) (turn_of p 4)
lost p s m a S3 = raced p (same_ref m.tail a.tail) (next_rose m a)
lost p s m a S4 = if_so (next_rose m a) (turn_of p 4)
lost p s m a S5 = unless (same_ref m.tail a.tail) (turn_of p 4)
lost p s m a l = lost_at_free p m a l

-- what an actor has before it to the end of its call
abbrev pub own : Prices → Setup → Shared → Actor → Line → ℕ
own p s m a l = rank a.due l p.step + detour p a.due (tail_lags s m) l + lost p s m a l

-- the same with what is kept for its pocket, and of an actor without a call
abbrev pub amount_at : Prices → Setup → Shared → Actor → Option Line → ℕ
amount_at p s m a None = of_pocket p a.pocket + if_so (tail_lags s m) p.idle
amount_at p s m a (Some l) = own p s m a l + of_pocket p a.pocket

-- what is kept for the node of a pocket that a call took into its hand where it began
abbrev pub in_hand : Prices → Option Line → ℕ
in_hand p (Some F1) = p.kept
in_hand p (Some E2) = p.kept
in_hand p _ = 0

-- what an actor has before it: in a call that has a number the amount, and else what is kept
abbrev pub has : Prices → Setup → Shared → Actor → (entry : Option ℕ) → ℕ
has p s m a None = in_hand p a.line + of_pocket p a.pocket + if_so (tail_lags s m) p.idle
has p s m a (Some entry) = amount_at p s m a a.line

-- what the step of an actor makes fail: the last step of a turn that starts again (docs/LINES.md)
abbrev pub failed : Prices → Shared → Actor → Line → ℕ
failed p m a N4 = unless (same_ref m.free a.top) p.turn
failed p m a N5 = unless (nat_eq m.fresh a.f) p.turn
failed p m a F3 = unless (same_ref m.free a.top) p.turn
failed p m a E7 = unless (same_ref m.tail a.tail) p.turn
failed p m a E9 = unless (same_ref (node_at m a.tail.node).next a.next) p.turn
failed p m a E13 = p.turn
failed p m a D5 = unless (same_ref m.head a.head) p.turn
failed p m a D10 = p.turn
failed p m a D13 = unless (same_ref m.head a.head) p.turn
failed p m a S3 = unless (same_ref m.tail a.tail) p.turn
failed p m a S4 = unless (same_ref (node_at m a.tail.node).next a.next) p.turn
failed p m a S5 = p.turn
failed p m a _ = 0

-- what a step counts
abbrev pub counted : Prices → Shared → Actor → Line → ℕ
counted p m a l = p.step + failed p m a l

-- what the exchange of a step costs each other actor at most, where it is won
abbrev pub toll : Prices → Shared → Actor → Line → ℕ
toll p m a N4 = if_so (same_ref m.free a.top) p.node
toll p m a N5 = if_so (nat_eq m.fresh a.f) p.node
toll p m a F3 = if_so (same_ref m.free a.top) p.node
toll p m a E9 = if_so (same_ref (node_at m a.tail.node).next a.next) p.link
toll p m a S4 = if_so (same_ref (node_at m a.tail.node).next a.next) p.link
toll p m a D13 = if_so (same_ref m.head a.head) p.pop
toll p m a _ = 0
