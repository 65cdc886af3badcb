-- What each step of the non-blocking queue does with what its actor has before it: it lowers it by what it counts.
use Rattle.std.proofs.Common.{◌≡◌, ◌≢◌, ℕ, zero, suc, ◌+◌, ◌-◌, ◌*◌, ◌≤◌, ◌<◌, Bool, true, false, nat_eq, nat_lt, ◌&&◌, if◌then◌else◌, [], ◌∷◌}
use Rattle.std.proofs.Common.{length, set, Option, Some, None, IfSome, refl, sym, ap, ◌∙◌, subst, arith, ◌⊎◌, inl, inr}
use Rattle.std.proofs.lemmas.Bool.{eq-eqb, ne_eqb, lt-ltb, le-ltb, true≢false}
use Rattle.step_machine.specs.Below.{Ref, ref, reserved_node, is_null, is_shut, same_ref, Kind, NonBlocking, Line, N1, N2, N3, N4, N5, F1, F2, F3, E2}
use Rattle.step_machine.specs.Below.{E3, E5, E6, E7, E9, E13, E17, D2, D3, D4, D5, D10, D12, D13, S1, S2, S3, S4, S5, A3, B1, S6, section_of, Reply}
use Rattle.step_machine.specs.Below.{Done, Setup, Node, Actor, Outcome, Shared, node_at, put, performed, found, Fresh, Free, Tail, Next, action}
use Rattle.step_machine.specs.Below.{outcome, raised, raised_end, goes, ends, effect, sets_aside, fills_hand, empties_hand, with_node, dequeues}
use Rattle.step_machine.specs.Below.{freed, gives_up, busy_or, to_pocket}
use Rattle.counted_ref.proofs.Words.{same_ref-true}
use Rattle.step_machine.specs.Machine.{World, actor_of, IsReached}
use Rattle.step_machine.specs.Places.{IsEnd, IsQueueChain, times}
use Rattle.step_machine.specs.ProgramCounters.{IsRunBy}
use Rattle.step_machine.proofs.Choices.{either, both, tried}
use Rattle.step_machine.proofs.Chains.{no_end}
use Rattle.step_machine.proofs.Counting.{holds_own, elsewhere, elsewhere_one}
use Rattle.step_machine.proofs.Effects.{others_stay, written, not_linked, with_node as with_new}
use Rattle.step_machine.proofs.LinearizationSteps.{raised_node}
use Rattle.step_machine.proofs.StampsLists.{same_or_not}
use Rattle.step_machine.proofs.Assertions.{next_of}
use Rattle.step_machine.proofs.NonBlockingLag.{behind_tail, one_after, tail_times}
use Rattle.step_machine.proofs.NonBlockingLaws.{AtLine, at_line}
use Rattle.step_machine.specs.Prices.{Prices, turn_of, unless, if_so, by_due, of_pocket, all_steps}
use Rattle.step_machine.specs.Amounts.{names, tail_lags, misled, raced, next_rose, own, amount_at, counted, toll}
use Rattle.step_machine.specs.Pairs.{Stage, Resting, Taking, Linking, Popping, Freeing, FreeingFirst, freeing, stage, stage_at, pair, Won, Nothing, Node as OfNode, Link, Pop, dues, price}
use Rattle.step_machine.proofs.Others.{if_so_most, if_so_less, for_tail, free_cost, fresh_cost, head_cost, swing_cost, link_cost, written_cost}

-- references that are the same are found to be
pub same_ref-same : (a b : Ref) → a ≡ b → same_ref a b ≡ true
same_ref-same a b e =
    ap (λ x. x && nat_eq a.count b.count) (eq-eqb a.node b.node (ap (λ (r : Ref). r.node) e))
    ∙ eq-eqb a.count b.count (ap (λ (r : Ref). r.count) e)

-- what was read just now is there
pub found_same : (r : Ref) (n : ℕ) → unless (same_ref r r) n ≡ 0
found_same r n = ap (λ b. unless b n) (same_ref-same r r refl)

pub found_fresh : (f n : ℕ) → unless (nat_eq f f) n ≡ 0
found_fresh f n = ap (λ b. unless b n) (eq-eqb f f refl)

-- a count that was read just now has not risen
raced_now : (p : Prices) (b : Bool) (n : ℕ) → raced p b (nat_lt n n) ≤ unless b (turn_of p 4)
raced_now p true n = omega (arith, ap (λ c. if_so c (turn_of p 4)) (le-ltb n n (omega arith)))
raced_now p false n = omega arith

misled_now : (p : Prices) (b c : Bool) (r : Ref) → misled p b c (same_ref r r) ≤ unless b (turn_of p 6)
misled_now p true true r = omega (arith, found_same r (turn_of p 5))
misled_now p true false r = omega arith
misled_now p false c r = omega arith

no_name : (b : Bool) → names b true ≡ false
no_name true = refl
no_name false = refl

-- an end names no node
pub end_names : (bits x : ℕ) → IsEnd bits x → names (nat_eq x 0) (nat_eq x (reserved_node bits)) ≡ false
end_names bits x (inl null) = ap (λ b. names b (nat_eq x (reserved_node bits))) (eq-eqb x 0 null)
end_names bits x (inr closed) = ap (λ b. names (nat_eq x 0) b) (eq-eqb x (reserved_node bits) closed) ∙ no_name (nat_eq x 0)

-- what names no node doesn't, worn or not
pub unless_worn : (b : Bool) {x : Bool} → x ≡ false → (if b then false else x) ≡ false
unless_worn true e = refl
unless_worn false e = e

-- the prices are enough for the turns that each exchange makes others lose, and what is kept is no more than a call has
pub record IsEnough (p : Prices) : Type 0 where
  pub node : turn_of p 4 ≤ p.node
  pub link : 2 * turn_of p 4 ≤ p.link
  pub pop : turn_of p 6 ≤ p.pop
  pub idle : p.idle ≤ turn_of p 4
  pub kept : p.kept ≤ 2 * p.step

-- what an exchange that is won costs each other actor, by what that one is at, is paid where its own actor goes on from a
-- stage to another one
abbrev pub Covers : Won → (before after : Stage) → Type 0
Covers won x y = (z : Stage) → pair y z + dues all_steps won z ≤ pair x z

same : (x : Stage) → Covers Nothing x x
same _ _ = omega arith

pub gone : (x : Stage) → Covers Nothing x Resting
gone Resting Resting = omega arith
gone Resting _ = omega arith
gone Taking Resting = omega arith
gone Taking _ = omega arith
gone Linking Resting = omega arith
gone Linking _ = omega arith
gone Popping Resting = omega arith
gone Popping _ = omega arith
gone Freeing Resting = omega arith
gone Freeing _ = omega arith
gone FreeingFirst Resting = omega arith
gone FreeingFirst _ = omega arith

took : Covers OfNode Taking Linking
took Resting = omega arith
took _ = omega arith

linked_one : Covers Link Linking Resting
linked_one Resting = omega arith
linked_one _ = omega arith

popped : Covers Pop Popping Freeing
popped Resting = omega arith
popped _ = omega arith

gave : Covers OfNode Freeing Resting
gave Resting = omega arith
gave _ = omega arith

gave_first : Covers OfNode FreeingFirst Popping
gave_first Resting = omega arith
gave_first _ = omega arith

goes_first : Covers Nothing FreeingFirst Popping
goes_first Resting = omega arith
goes_first _ = omega arith

-- the step of an actor that had so much before it: what it has then, with what the step counts, is no more; what it costs
-- the others is covered; and it costs each of them no more than the toll
pub record Lowers (p : Prices) (s : Setup) (m m' : Shared) (x : Stage) (before counts toll : ℕ) (o : Outcome) : Type 0 where
  pub won : Won
  pub mine : amount_at p s m' o.actor o.actor.line + counts ≤ before
  pub covers : Covers won x (stage_at o.actor.due o.actor.line)
  pub others : (c : Actor) (j : Line) → own p s m' c j ≤ own p s m c j + dues p won (stage c.due j)
  pub idle : if_so (tail_lags s m') p.idle ≤ if_so (tail_lags s m) p.idle + dues p won Resting
  pub fair : price p won ≤ toll

-- a dequeue swings a lagging Tail in one step more than an enqueue
five : (p : Prices) (b : Bool) → if_so b (turn_of p 5) ≤ if_so b (turn_of p 4) + p.step
five p true = omega arith
five p false = omega arith

-- what is left where a dequeue has freed its node
freed_left : (p : Prices) (s : Setup) (m : Shared) (kind : Kind) (now : ℕ) (due : Option Reply) (b : Actor) → kind ≡ NonBlocking
    → amount_at p s m (freed kind now due b).actor (freed kind now due b).actor.line ≤ by_due due (9 * p.step) 0 + for_tail p due (tail_lags s m) + of_pocket p b.pocket
freed_left p s m kind now None b e = subst (λ k. amount_at p s m (goes (dequeues k) b).actor (Some (dequeues k)) ≤ 9 * p.step +
    (if_so (tail_lags s m) (turn_of p 4) + p.step) + of_pocket p b.pocket) (sym e) (omega (arith, five p (tail_lags s m)))
freed_left p s m kind now (Some reply) b e = omega arith

aside_left : (p : Prices) (s : Setup) (m : Shared) (kind : Kind) (now : ℕ) (due : Option Reply) (b : Actor) → kind ≡ NonBlocking
    → amount_at p s m (sets_aside (freed kind now due b)).actor (sets_aside (freed kind now due b)).actor.line ≤ by_due due (9 * p.step) 0 + for_tail p due (tail_lags s m) + of_pocket p b.pocket
aside_left p s m kind now None b e = subst (λ k. amount_at p s m (sets_aside (goes (dequeues k) b)).actor (Some (dequeues k)) ≤ 9 * p.step +
    (if_so (tail_lags s m) (turn_of p 4) + p.step) + of_pocket p b.pocket) (sym e) (omega (arith, five p (tail_lags s m)))
aside_left p s m kind now (Some reply) b e = omega arith

freed_covers : (kind : Kind) (now : ℕ) (due : Option Reply) (b : Actor) → kind ≡ NonBlocking → Covers OfNode (freeing due) (stage_at (freed kind now due b).actor.due (freed kind now due b).actor.line)
freed_covers kind now None b e = subst (λ k. Covers OfNode FreeingFirst (stage b.due (dequeues k))) (sym e) gave_first
freed_covers kind now (Some reply) b e = gave

aside_covers : (kind : Kind) (now : ℕ) (due : Option Reply) (b : Actor) → kind ≡ NonBlocking
    → Covers Nothing (freeing due) (stage_at (sets_aside (freed kind now due b)).actor.due (sets_aside (freed kind now due b)).actor.line)
aside_covers kind now None b e = subst (λ k. Covers Nothing FreeingFirst (stage b.due (dequeues k))) (sym e) goes_first
aside_covers kind now (Some reply) b e = gone Freeing

module _ (p : Prices) (enough : IsEnough p) (w : World) (r : IsReached w) (e : w.setup.kind ≡ NonBlocking) (me : ℕ) (a : Actor) (is : actor_of w me ≡ Some a) where
  -- what the actor has before it falls, by a step at a line, to these words and this outcome
  abbrev Falls : Line → Shared → Outcome → Type 0
  Falls l m' o = Lowers p w.setup w.shared m' (stage a.due l) (amount_at p w.setup w.shared a (Some l)) (counted p w.shared a l) (toll p w.shared a l) o

  -- the same where the words stay
  abbrev Sinks : Line → Outcome → Type 0
  Sinks l o = (amount_at p w.setup w.shared o.actor o.actor.line + counted p w.shared a l ≤ amount_at p w.setup w.shared a (Some l))
      × Covers Nothing (stage a.due l) (stage_at o.actor.due o.actor.line)

  quiet : (l : Line) (o : Outcome) → Sinks l o → Falls l w.shared o
  quiet l o h = record { won = Nothing; mine = h.0; covers = h.1; others = λ c j. omega arith; idle = omega arith; fair = omega arith }

  -- what is kept for a lagging Tail is no more than a turn that swings it
  idle_less : if_so (tail_lags w.setup w.shared) p.idle ≤ if_so (tail_lags w.setup w.shared) (turn_of p 4)
  idle_less = if_so_less (tail_lags w.setup w.shared) p.idle (turn_of p 4) enough.idle

  idle_five : if_so (tail_lags w.setup w.shared) p.idle ≤ if_so (tail_lags w.setup w.shared) (turn_of p 5)
  idle_five = if_so_less (tail_lags w.setup w.shared) p.idle (turn_of p 5) (omega (arith, enough.idle))

  -- what the step at a line makes of its actor
  abbrev told : Line → Outcome
  told l = outcome w.setup (w.steps + 1) me a l (found (action w.setup me a l) w.shared)

  -- a lagging Tail goes on to a node, the last one
  swung : (l : Line) → AtLine w me a l → (to : ℕ) → w.shared.tail ≡ a.tail → (next_of w.shared a.tail.node).node ≡ to → 1 ≤ to → to ≢ reserved_node w.setup.bits
      → a.tail.count ≢ w.setup.limit → (tail_lags w.setup w.shared ≡ true) × (tail_lags w.setup (put Tail (raised w.setup a.tail to) w.shared) ≡ false)
  swung l k to was leads some other room = (
    ap (λ b. if b then false else names (is_null (next_of w.shared w.shared.tail.node)) (is_shut w.setup.bits (next_of w.shared w.shared.tail.node)))
        (ap (λ (x : Ref). nat_eq x.count w.setup.limit) was ∙ ne_eqb a.tail.count w.setup.limit room)
        ∙ ap (λ x. names (nat_eq x 0) (nat_eq x (reserved_node w.setup.bits))) here
        ∙ ap (λ b. names b (nat_eq to (reserved_node w.setup.bits))) (ne_eqb to 0 (λ z. omega arith))
        ∙ ap (λ b. names false b) (ne_eqb to (reserved_node w.setup.bits) other),
    unless_worn (nat_eq (raised w.setup a.tail to).count w.setup.limit)
        (end_names w.setup.bits (next_of w.shared (raised w.setup a.tail to).node).node
        (subst (λ x. IsEnd w.setup.bits (next_of w.shared x).node) (sym (raised_node w.setup a.tail to other room)) last)),
  )
    where
      here : (next_of w.shared w.shared.tail.node).node ≡ to
      here = ap (λ (x : Ref). (next_of w.shared x.node).node) was ∙ leads

      one : k.plain.sound.words.lag.after ≡ to ∷ []
      one = one_after w.setup.bits w.shared (k.plain.front ∷ k.plain.rest) w.shared.head.node to k.plain.sound.shape.queue_chain k.plain.sound.words.lag here (no_end w.setup.bits to some other)

      last : IsEnd w.setup.bits (next_of w.shared to).node
      last = (subst (λ ns. IsQueueChain w.setup.bits w.shared.nodes (next_of w.shared w.shared.tail.node).node ns) one
          (behind_tail w.setup.bits w.shared (k.plain.front ∷ k.plain.rest) w.shared.head.node k.plain.sound.shape.queue_chain
          k.plain.sound.words.lag).2).3

  -- the node in hand is written, and the count of its `next` stays
  keeps : (l : Line) → AtLine w me a l → (x : Node) → a.holds ≡ true → a.pocket ≡ None → 1 ≤ a.node → x.next.count ≡ (next_of w.shared a.node).count
      → (tail_lags w.setup (with_new w.shared a.node x) ≡ tail_lags w.setup w.shared) × ((c : Actor) (j : Line) → own p w.setup (with_new w.shared a.node x) c j ≤ own p w.setup w.shared c j)
  keeps l k x h held some count = (still, λ c j. written_cost p w.setup w.shared (set w.shared.nodes (a.node - 1) x) c j still counts)
    where
      low : a.node ≤ length w.shared.nodes
      low = omega (arith, k.registers.node, k.range.shared.fresh, k.range.shared.all_nodes)

      apart : times a.node (k.plain.front ∷ k.plain.rest) ≡ 0
      apart = (not_linked w.setup.bits w.shared (elsewhere w) (k.plain.front ∷ k.plain.rest) k.plain.free k.plain.sound.shape a.node some
          (omega (arith, holds_own a h held, elsewhere_one w me a a.node is))).0

      other : w.shared.tail.node ≢ a.node
      other q =
          let there : 1 ≤ times a.node (k.plain.front ∷ k.plain.rest) = subst (λ j. 1 ≤ times j (k.plain.front ∷ k.plain.rest)) q
          (tail_times w.shared (k.plain.front ∷ k.plain.rest) k.plain.sound.words.lag) in
          omega (arith, apart)

      tail_some : 1 ≤ w.shared.tail.node
      tail_some = (behind_tail w.setup.bits w.shared (k.plain.front ∷ k.plain.rest) w.shared.head.node k.plain.sound.shape.queue_chain k.plain.sound.words.lag).0

      still : tail_lags w.setup (with_new w.shared a.node x) ≡ tail_lags w.setup w.shared
      still = ap (λ (y : Node). if nat_eq w.shared.tail.count w.setup.limit then false else names (is_null y.next) (is_shut w.setup.bits y.next))
          (others_stay w.shared.nodes a.node w.shared.tail.node x some tail_some other)

      at : (j : ℕ) → 1 ≤ j → (j ≡ a.node) ⊎ (j ≢ a.node) → (next_of (with_new w.shared a.node x) j).count ≡ (next_of w.shared j).count
      at j one (inl q) = subst (λ i. (next_of (with_new w.shared a.node x) i).count ≡ (next_of w.shared i).count) (sym q)
          (ap (λ (y : Node). y.next.count) (written w.shared.nodes a.node x some low) ∙ count)
      at j one (inr d) = ap (λ (y : Node). y.next.count) (others_stay w.shared.nodes a.node j x some one d)

      counts : (j : ℕ) → (next_of (with_new w.shared a.node x) j).count ≡ (next_of w.shared j).count
      counts zero = at 1 (omega arith) (same_or_not 1 a.node)
      counts (suc j) = at (suc j) (omega arith) (same_or_not (suc j) a.node)

  -- what an exchange of a `next` compares with, if it is lost, has a higher count now
  rose : (a.next.count < (next_of w.shared a.tail.node).count) ⊎ ((w.shared.tail ≡ a.tail) × (next_of w.shared a.tail.node ≡ a.next))
      → same_ref (next_of w.shared a.tail.node) a.next ≡ false → next_rose w.shared a ≡ true
  rose (inl up) i = lt-ltb a.next.count (next_of w.shared a.tail.node).count up
  rose (inr was) i = absurd (true≢false (sym (same_ref-same (next_of w.shared a.tail.node) a.next was.1) ∙ i))

  -- an enqueue has its node
  takes : (kind : Kind) (l : Line) (m' : Shared) (b : Actor) → kind ≡ NonBlocking → Falls l m' (goes E2 b) → Falls l m' (goes (with_node kind) b)
  takes kind l m' b f h = subst (λ k. Falls l m' (goes (with_node k) b)) (sym f) h

  -- a `next` that is exchanged is that of Tail's node
  still_tail : (a.next.count < (next_of w.shared a.tail.node).count) ⊎ ((w.shared.tail ≡ a.tail) × (next_of w.shared a.tail.node ≡ a.next))
      → same_ref (next_of w.shared a.tail.node) a.next ≡ true → w.shared.tail ≡ a.tail
  still_tail (inl up) i = absurd (omega (arith, up, ap (λ (x : Ref). x.count) (same_ref-true (next_of w.shared a.tail.node) a.next i)))
  still_tail (inr was) i = was.0

  -- the words of an enqueue that links its node
  abbrev with_link : Shared
  with_link = put (Next a.tail.node) (raised w.setup a.next a.node) w.shared

  -- a Tail that is worn is never swung
  no_swing : w.shared.tail ≡ a.tail → nat_eq a.tail.count w.setup.limit ≡ true → tail_lags w.setup with_link ≡ false
  no_swing was worn = ap (λ b. if b then false else names (is_null (next_of with_link w.shared.tail.node))
      (is_shut w.setup.bits (next_of with_link w.shared.tail.node))) (ap (λ (x : Ref). nat_eq x.count w.setup.limit) was ∙ worn)

  -- the call ends with its link, or goes on to swing Tail
  linked : same_ref (next_of w.shared a.tail.node) a.next ≡ true → w.shared.tail ≡ a.tail → (now : ℕ)
      → Falls E9 with_link (effect now (if nat_eq a.tail.count w.setup.limit then ends now Done (empties_hand (record a { due = Some Done })) else
      goes E17 (empties_hand (record a { due = Some Done }))))
  linked i was now =
      either (λ o. Falls E9 with_link (effect now o)) (nat_eq a.tail.count w.setup.limit)
      (λ worn. record {
        won = Link;
        mine = omega (arith, ap (λ b. unless b p.turn) i, ap (λ b. if_so b p.idle) (no_swing was worn));
        covers = linked_one;
        others = λ c j. link_cost p w.setup w.shared a.tail.node (raised w.setup a.next a.node) c j;
        idle = omega (arith, if_so_most (tail_lags w.setup with_link) p.idle);
        fair = omega (arith, ap (λ b. if_so b p.link) i);
      })
      (λ fine. record {
        won = Link;
        mine = omega (
          arith,
          ap (λ b. unless b p.turn) i,
          ap (λ b. unless b (if_so (tail_lags w.setup with_link) p.idle))
              (same_ref-same w.shared.tail a.tail was),
        );
        covers = linked_one;
        others = λ c j. link_cost p w.setup w.shared a.tail.node (raised w.setup a.next a.node) c j;
        idle = omega (arith, if_so_most (tail_lags w.setup with_link) p.idle);
        fair = omega (arith, ap (λ b. if_so b p.link) i);
      })

  -- a lost turn: what was lost is what it counts more
  missed : (b : Bool) → b ≡ false → (k : ℕ) → unless b (turn_of p k) ≡ k * p.step + unless b p.turn
  missed b i k = omega (arith, ap (λ c. unless c (turn_of p k)) i, ap (λ c. unless c p.turn) i)

  -- a swing costs nobody anything
  swings : (l : Line) (o : Outcome) (to : ℕ)
      → (z : (tail_lags w.setup w.shared ≡ true) × (tail_lags w.setup (put Tail (raised w.setup a.tail to) w.shared) ≡ false))
      → amount_at p w.setup (put Tail (raised w.setup a.tail to) w.shared) o.actor o.actor.line + counted p w.shared a l ≤ amount_at p w.setup w.shared a (Some l)
      → Covers Nothing (stage a.due l) (stage_at o.actor.due o.actor.line) → Falls l (put Tail (raised w.setup a.tail to) w.shared) o
  swings l o to z h covers = record {
    won = Nothing;
    mine = h;
    covers = covers;
    others = λ c j. omega (arith, swing_cost p w.setup w.shared (raised w.setup a.tail to) c j z.0 z.1);
    idle = omega (arith, ap (λ b. if_so b p.idle) z.1);
    fair = omega arith;
  }

  falls : (l : Line) → IsRunBy (section_of l) NonBlocking → AtLine w me a l → Falls l (performed (action w.setup me a l) w.shared) (told l)
  falls N1 _ k = quiet N1 (told N1) (omega (arith, found_fresh w.shared.fresh (turn_of p 4)), same Taking)
  falls N2 _ k =
      quiet N2 (told N2)
      (both (Sinks N2) (is_null w.shared.free)
      (both (Sinks N2) (nat_lt a.f w.setup.size) (omega arith, same Taking) (omega (arith, idle_less), gone Taking))
      (both (Sinks N2) (nat_eq w.shared.free.count w.setup.limit) (omega (arith, idle_less), gone Taking) (omega (arith, found_same w.shared.free (turn_of p 4)), same Taking)))
  falls N3 _ k = quiet N3 (told N3) (omega arith, same Taking)
  falls N4 _ k =
      tried (Falls N4) (same_ref w.shared.free a.top)
      (λ i. takes w.setup.kind N4 (put Free (raised w.setup a.top a.next.node) w.shared) (fills_hand a.top.node a.next.count a) e record {
        won = OfNode;
        mine = omega (arith, ap (λ b. unless b p.turn) i);
        covers = took;
        others = λ c j. free_cost p w.setup w.shared (raised w.setup a.top a.next.node) c j;
        idle = omega arith;
        fair = omega (arith, ap (λ b. if_so b p.node) i);
      })
      (λ i. quiet N4 (goes N1 a) (omega (arith, missed (same_ref w.shared.free a.top) i 4), same Taking))
  falls N5 _ k =
      tried (Falls N5) (nat_eq w.shared.fresh a.f)
      (λ i. takes w.setup.kind N5 (put Fresh (a.f + 1) w.shared) (fills_hand (a.f + 1) 0 a) e record {
        won = OfNode;
        mine = omega (arith, ap (λ b. unless b p.turn) i);
        covers = took;
        others = λ c j. fresh_cost p w.setup w.shared (a.f + 1) c j;
        idle = omega arith;
        fair = omega (arith, ap (λ b. if_so b p.node) i);
      })
      (λ i. quiet N5 (goes N1 a) (omega (arith, missed (nat_eq w.shared.fresh a.f) i 4), same Taking))
  falls F1 _ k =
      quiet F1 (told F1)
      (both (Sinks F1) (nat_eq w.shared.free.count w.setup.limit) (
        omega (arith, aside_left p w.setup w.shared w.setup.kind (w.steps + 1) a.due (record a { top = w.shared.free }) e),
        aside_covers w.setup.kind (w.steps + 1) a.due (record a { top = w.shared.free }) e,
      )
      (omega (arith, found_same w.shared.free (turn_of p 3)), same (freeing a.due)))
  falls F2 _ k =
      let z = keeps F2 k (record (node_at w.shared a.node) { next = ref a.top.node a.mark }) k.fixes.hand k.fixes.pocket k.nodes (sym ((k.plain.sound.actors me a is).marked.hand k.fixes.hand).1) in
      record {
        won = Nothing;
        mine = omega (arith, ap (for_tail p a.due) z.0);
        covers = same (freeing a.due);
        others = λ c j. omega (arith, z.1 c j);
        idle = omega (arith, ap (λ b. if_so b p.idle) z.0);
        fair = omega arith;
      }
  falls F3 _ k =
      tried (Falls F3) (same_ref w.shared.free a.top)
      (λ i. record {
        won = OfNode;
        mine = omega (
          arith,
          freed_left p w.setup (put Free (raised w.setup a.top a.node) w.shared) w.setup.kind
              (w.steps + 1) a.due (empties_hand a) e,
          ap (λ b. unless b p.turn) i,
        );
        covers = freed_covers w.setup.kind (w.steps + 1) a.due (empties_hand a) e;
        others = λ c j. free_cost p w.setup w.shared (raised w.setup a.top a.node) c j;
        idle = omega arith;
        fair = omega (arith, ap (λ b. if_so b p.node) i);
      })
      (λ i. quiet F3 (goes F1 a) (omega (arith, missed (same_ref w.shared.free a.top) i 3), same (freeing a.due)))
  falls E2 _ k =
      let z = keeps E2 k (record (node_at w.shared a.node) { value = a.val }) k.fixes.hand k.fixes.pocket k.nodes refl in
      record {
        won = Nothing;
        mine = omega (arith, ap (λ x. if_so x (turn_of p 4)) z.0);
        covers = same Linking;
        others = λ c j. omega (arith, z.1 c j);
        idle = omega (arith, ap (λ b. if_so b p.idle) z.0);
        fair = omega arith;
      }
  falls E3 _ k =
      let z = keeps E3 k (record (node_at w.shared a.node) { next = record (next_of w.shared a.node) { node = 0 } }) k.fixes.hand k.fixes.pocket k.nodes refl in
      both (Falls E3 (with_new w.shared a.node (record (node_at w.shared a.node) { next = record (next_of w.shared a.node) { node = 0 } }))) (nat_eq (next_of w.shared a.node).count w.setup.limit)
      (record {
        won = Nothing;
        mine = omega (arith, idle_less, ap (λ b. if_so b p.idle) z.0);
        covers = gone Linking;
        others = λ c j. omega (arith, z.1 c j);
        idle = omega (arith, ap (λ b. if_so b p.idle) z.0);
        fair = omega arith;
      })
      (record {
        won = Nothing;
        mine = omega (arith, ap (λ x. if_so x (turn_of p 4)) z.0);
        covers = same Linking;
        others = λ c j. omega (arith, z.1 c j);
        idle = omega (arith, ap (λ b. if_so b p.idle) z.0);
        fair = omega arith;
      })
  falls E5 _ k = quiet E5 (told E5) (omega (arith, found_same w.shared.tail (turn_of p 4)), same Linking)
  falls E6 _ k = quiet E6 (told E6) (omega (arith, raced_now p (same_ref w.shared.tail a.tail) (next_of w.shared a.tail.node).count), same Linking)
  falls E7 _ k =
      quiet E7 (told E7)
      (either (Sinks E7) (same_ref w.shared.tail a.tail)
      (λ i. both (Sinks E7) (is_null a.next) (omega (arith, ap (λ b. raced p b (next_rose w.shared a)) i, ap (λ b. unless b p.turn) i), same Linking)
      (both (Sinks E7) (is_shut w.setup.bits a.next) (omega (arith, ap (λ b. unless b p.turn) i, enough.kept, idle_less), gone Linking)
      (both (Sinks E7) (nat_eq a.tail.count w.setup.limit) (omega (arith, ap (λ b. unless b p.turn) i, enough.kept, idle_less), gone Linking)
      (omega (arith, ap (λ b. unless b (turn_of p 4)) i, ap (λ b. unless b p.turn) i), same Linking))))
      (λ i. (omega (arith, ap (λ b. raced p b (next_rose w.shared a)) i, ap (λ b. unless b p.turn) i), same Linking)))
  falls E9 _ k =
      tried (Falls E9) (same_ref (next_of w.shared a.tail.node) a.next)
      (λ i. linked i (still_tail k.knows.2 i) (w.steps + 1))
      (λ i. quiet E9 (goes E5 a) (omega (arith, ap (λ b. if_so b (turn_of p 4)) (rose k.knows.2 i), ap (λ b. unless b p.turn) i), same Linking))
  falls E13 _ k =
      either (λ m'. Falls E13 m' (goes E5 a)) (same_ref w.shared.tail a.tail)
      (λ i. let was : w.shared.tail ≡ a.tail = same_ref-true w.shared.tail a.tail i in
      let z = swung E13 k a.next.node was (k.knows.1.1 was) k.nodes.2 k.nodes.3 k.fixes.room in
      swings E13 (goes E5 a) a.next.node z (omega (arith, ap (λ b. if_so b (turn_of p 4)) z.0, ap (λ b. if_so b (turn_of p 4)) z.1)) (same Linking))
      (λ i. quiet E13 (goes E5 a) (omega (arith, ap (λ b. unless b (turn_of p 4)) i), same Linking))
  falls E17 _ k =
      either (λ m'. Falls E17 m' (ends (w.steps + 1) Done a)) (same_ref w.shared.tail a.tail)
      (λ i. let was : w.shared.tail ≡ a.tail = same_ref-true w.shared.tail a.tail i in
      let z = swung E17 k a.node was (k.knows.1 was) k.nodes.0 (hand_open k) k.fixes.room in
      swings E17 (ends (w.steps + 1) Done a) a.node z (omega (arith, ap (λ b. if_so b p.idle) z.1)) (same Resting))
      (λ i. quiet E17 (ends (w.steps + 1) Done a) (omega (arith, ap (λ b. unless b (if_so (tail_lags w.setup w.shared) p.idle)) i), same Resting))
    where
      hand_open : AtLine w me a E17 → a.node ≢ reserved_node w.setup.bits
      hand_open k q = omega (arith, q, k.registers.node, k.range.shared.fresh, k.range.shared.all_nodes, k.few_nodes)
  falls D2 _ k = quiet D2 (told D2) (omega (arith, found_same w.shared.head (turn_of p 6)), same Popping)
  falls D3 _ k = quiet D3 (told D3) (omega (arith, misled_now p (same_ref w.shared.head a.head) (nat_eq a.head.node w.shared.tail.node) w.shared.tail), same Popping)
  falls D4 _ k = quiet D4 (told D4) (omega arith, same Popping)
  falls D5 _ k =
      quiet D5 (told D5)
      (either (Sinks D5) (same_ref w.shared.head a.head)
      (λ i. either (Sinks D5) (nat_eq a.head.node a.tail.node)
      (λ c. both (Sinks D5) (is_null a.next) (omega (arith, ap (λ b. unless b p.turn) i, idle_five), gone Popping)
      (both (Sinks D5) (is_shut w.setup.bits a.next) (omega (arith, ap (λ b. unless b p.turn) i, idle_five), gone Popping)
      (both (Sinks D5) (nat_eq a.tail.count w.setup.limit) (omega (arith, ap (λ b. unless b p.turn) i, idle_five), gone Popping) (
        omega (
          arith,
          ap (λ b. misled p b (nat_eq a.head.node a.tail.node) (same_ref w.shared.tail a.tail)) i,
          ap (λ b. misled p true b (same_ref w.shared.tail a.tail)) c,
          ap (λ b. unless b p.turn) i,
        ),
        same Popping,
      ))))
      (λ c. (omega (arith, ap (λ b. unless b (turn_of p 6)) i, ap (λ b. unless b p.turn) i), same Popping)))
      (λ i. (omega (arith, ap (λ b. misled p b (nat_eq a.head.node a.tail.node) (same_ref w.shared.tail a.tail)) i, ap (λ b. unless b p.turn) i), same Popping)))
  falls D10 _ k =
      either (λ m'. Falls D10 m' (goes D2 a)) (same_ref w.shared.tail a.tail)
      (λ i. let was : w.shared.tail ≡ a.tail = same_ref-true w.shared.tail a.tail i in
      let z = swung D10 k a.next.node was (k.knows.1 was) k.nodes.1 k.nodes.2 k.fixes.room in
      swings D10 (goes D2 a) a.next.node z (omega (arith, ap (λ b. if_so b (turn_of p 5)) z.0, ap (λ b. if_so b (turn_of p 5)) z.1)) (same Popping))
      (λ i. quiet D10 (goes D2 a) (omega (arith, ap (λ b. unless b (turn_of p 5)) i), same Popping))
  falls D12 _ k = quiet D12 (told D12) (both (Sinks D12) (nat_eq a.head.count w.setup.limit) (omega (arith, idle_five), gone Popping) (omega arith, same Popping))
  falls D13 _ k =
      tried (Falls D13) (same_ref w.shared.head a.head)
      (λ i. record {
        won = Pop;
        mine = omega (arith, ap (λ b. unless b p.turn) i, idle_five);
        covers = popped;
        others = λ c j. head_cost p w.setup w.shared (raised w.setup a.head a.next.node) c j;
        idle = omega arith;
        fair = omega (arith, ap (λ b. if_so b p.pop) i);
      })
      (λ i. quiet D13 (goes D2 a) (omega (arith, missed (same_ref w.shared.head a.head) i 6), same Popping))
  falls S1 _ k = quiet S1 (told S1) (omega (arith, found_same w.shared.tail (turn_of p 4)), same Linking)
  falls S2 _ k = quiet S2 (told S2) (omega (arith, raced_now p (same_ref w.shared.tail a.tail) (next_of w.shared a.tail.node).count), same Linking)
  falls S3 _ k =
      quiet S3 (told S3)
      (either (Sinks S3) (same_ref w.shared.tail a.tail)
      (λ i. both (Sinks S3) (is_null a.next) (omega (arith, ap (λ b. raced p b (next_rose w.shared a)) i, ap (λ b. unless b p.turn) i), same Linking)
      (both (Sinks S3) (is_shut w.setup.bits a.next) (omega (arith, ap (λ b. unless b p.turn) i, idle_less), gone Linking)
      (both (Sinks S3) (nat_eq a.tail.count w.setup.limit) (omega (arith, ap (λ b. unless b p.turn) i, idle_less), gone Linking)
      (omega (arith, ap (λ b. unless b (turn_of p 4)) i, ap (λ b. unless b p.turn) i), same Linking))))
      (λ i. (omega (arith, ap (λ b. raced p b (next_rose w.shared a)) i, ap (λ b. unless b p.turn) i), same Linking)))
  falls S4 _ k =
      tried (Falls S4) (same_ref (next_of w.shared a.tail.node) a.next)
      (λ i. record {
        won = Link;
        mine = omega (
          arith,
          ap (λ b. unless b p.turn) i,
          if_so_most (tail_lags w.setup (put (Next a.tail.node) (raised_end w.setup a.next) w.shared)) p.idle,
        );
        covers = linked_one;
        others = λ c j. link_cost p w.setup w.shared a.tail.node (raised_end w.setup a.next) c j;
        idle = omega (arith, if_so_most (tail_lags w.setup (put (Next a.tail.node) (raised_end w.setup a.next) w.shared)) p.idle);
        fair = omega (arith, ap (λ b. if_so b p.link) i);
      })
      (λ i. quiet S4 (goes S1 a) (omega (arith, ap (λ b. if_so b (turn_of p 4)) (rose k.knows.1 i), ap (λ b. unless b p.turn) i), same Linking))
  falls S5 _ k =
      either (λ m'. Falls S5 m' (goes S1 a)) (same_ref w.shared.tail a.tail)
      (λ i. let was : w.shared.tail ≡ a.tail = same_ref-true w.shared.tail a.tail i in
      let z = swung S5 k a.next.node was (k.knows.1 was) k.nodes.1 k.nodes.2 k.fixes.room in
      swings S5 (goes S1 a) a.next.node z (omega (arith, ap (λ b. if_so b (turn_of p 4)) z.0, ap (λ b. if_so b (turn_of p 4)) z.1)) (same Linking))
      (λ i. quiet S5 (goes S1 a) (omega (arith, ap (λ b. unless b (turn_of p 4)) i), same Linking))
  falls l runs k = absurd runs

  -- giving up ends the call, and counts a step
  abbrev Gives : Line → Outcome → Type 0
  Gives l o = Lowers p w.setup w.shared w.shared (stage a.due l) (amount_at p w.setup w.shared a (Some l)) p.step 0 o

  busy_falls : (now : ℕ) (due : Option Reply) → a.due ≡ due → IfSome (busy_or now due (to_pocket a)) (Gives F1)
  busy_falls now None e = record {
    won = Nothing;
    mine = omega (arith, enough.kept, idle_less, ap (λ d. for_tail p d (tail_lags w.setup w.shared)) e);
    covers = gone (freeing a.due);
    others = λ c j. omega arith;
    idle = omega arith;
    fair = omega arith;
  }
  busy_falls now (Some reply) e = record {
    won = Nothing;
    mine = omega (arith, enough.kept, ap (λ d. for_tail p d (tail_lags w.setup w.shared)) e);
    covers = gone (freeing a.due);
    others = λ c j. omega arith;
    idle = omega arith;
    fair = omega arith;
  }

  given_falls : (now : ℕ) (l : Line) → IsRunBy (section_of l) NonBlocking → IfSome (gives_up now a l) (Gives l)
  given_falls now N1 runs = record { won = Nothing; mine = omega (arith, idle_less); covers = gone Taking; others = λ c j. omega arith; idle = omega arith; fair = omega arith }
  given_falls now F1 runs = busy_falls now a.due refl
  given_falls now E5 runs = record { won = Nothing; mine = omega (arith, idle_less, enough.kept); covers = gone Linking; others = λ c j. omega arith; idle = omega arith; fair = omega arith }
  given_falls now D2 runs = record { won = Nothing; mine = omega (arith, idle_five); covers = gone Popping; others = λ c j. omega arith; idle = omega arith; fair = omega arith }
  given_falls now A3 runs = absurd runs
  given_falls now B1 runs = absurd runs
  given_falls now S1 runs = record { won = Nothing; mine = omega (arith, idle_less); covers = gone Linking; others = λ c j. omega arith; idle = omega arith; fair = omega arith }
  given_falls now S6 runs = absurd runs
  given_falls now _ runs = tt

module _ (p : Prices) (enough : IsEnough p) (w : World) (r : IsReached w) (e : w.setup.kind ≡ NonBlocking) (me : ℕ) (a : Actor) (l : Line) (is : actor_of w me ≡ Some a) (at : a.line ≡ Some l) where
  -- each step lowers what its actor has before it
  pub step_lowers : Lowers p w.setup w.shared (performed (action w.setup me a l) w.shared) (stage a.due l) (amount_at p w.setup w.shared a (Some l))
      (counted p w.shared a l) (toll p w.shared a l) (outcome w.setup (w.steps + 1) me a l (found (action w.setup me a l) w.shared))
  step_lowers = let k = at_line w r e me a l is at in falls p enough w r e me a is l k.runs k

  -- and giving up does
  pub give_lowers : IfSome (gives_up (w.steps + 1) a l) (Lowers p w.setup w.shared w.shared (stage a.due l) (amount_at p w.setup w.shared a (Some l)) p.step 0)
  give_lowers = given_falls p enough w r e me a is (w.steps + 1) l (at_line w r e me a l is at).runs
