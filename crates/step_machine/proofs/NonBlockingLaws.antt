-- The laws of the non-blocking queue on Tail, counts, refusals and the front.
use Rattle.std.proofs.Common.{◌≡◌, ◌≢◌, ℕ, ◌+◌, ◌≤◌, ◌<◌, Bool, true, false, nat_eq, if◌then◌else◌, List, [], ◌∷◌, ◌++◌, length, Option, Some, sym, ap, ◌∙◌, subst, arith, ◌⊎◌, inl, inr}
use Rattle.std.proofs.lemmas.Bool.{eqb-true}
use Rattle.step_machine.specs.Below.{reserved_node, Ref, is_null, is_shut, same_ref, NonBlocking, Line, E2, E3, E5, E6, E7, E9, E13, E17, D2, D3, D4}
use Rattle.step_machine.specs.Below.{D5, D10, D12, D13, S1, S2, S3, S4, S5, section_of, WornWord, OfFree, OfNext, OfTail, OfHead, NoNode, WornOut}
use Rattle.step_machine.specs.Below.{Closed, Reply, Done, Refused, Actor, found, Next, action, outcome, goes, empties_hand, ends, effect}
use Rattle.counted_ref.proofs.Words.{same_ref-true, equal_refs}
use Rattle.step_machine.specs.Machine.{World, actor_of, IsReached}
use Rattle.step_machine.specs.Range.{RegistersInRange, ActorInRange, WorldInRange}
use Rattle.step_machine.specs.ProgramCounters.{IsRunBy, NonNullAt}
use Rattle.step_machine.specs.Chains.{last_node}
use Rattle.step_machine.specs.Lag.{TailLags}
use Rattle.step_machine.specs.EachQueue.{RaisesBelowTheLimit, IsShut, HasCauseFor, RefusesWithCause}
use Rattle.step_machine.specs.NonBlocking.{OfNonBlockingWorlds, TailLagsByOne, TailIsNotBehindHead, NeverFindsHeadWornOut, FindsItsOwnNextWornOut, NeverRefusedForHead, TakesTheFront}
use Rattle.step_machine.proofs.Choices.{either}
use Rattle.step_machine.proofs.Range.{found_in_range}
use Rattle.step_machine.proofs.Chains.{shut_alone, null_open}
use Rattle.step_machine.proofs.Reached.{reached_in_range, few_nodes, actor_in_range}
use Rattle.step_machine.proofs.Fixed.{FixedAt}
use Rattle.step_machine.proofs.StaleReferences.{IsCurrentOrStale}
use Rattle.step_machine.proofs.Assertions.{next_of, IsOwnOf}
use Rattle.step_machine.proofs.Invariant.{LocalInvariant}
use Rattle.step_machine.proofs.EitherQueue.{same_queue, stands_at}
use Rattle.step_machine.proofs.Causes.{CauseOfReply, Caused, caused, raises_below, each_reply}
use Rattle.step_machine.proofs.NonBlockingAtLines.{InvariantAt, WasNext, next_stays_there, MayTake, non_blocking}
use Rattle.step_machine.proofs.NonBlockingLag.{IsOff, off, off_count, off_second, shut_behind, tail_is_last}
use Rattle.step_machine.proofs.NonBlockingInvariant.{ReachedInvariant, reached_invariant}

-- nothing more is carried along
abbrev pub Invariant : World → Type 0
Invariant w = ReachedInvariant (λ w q. Unit {0}) (λ w k. Unit {0}) w

abbrev pub Nothing : ℕ → Type 0
Nothing k = Unit {0}

pub tail_lags : OfNonBlockingWorlds TailLagsByOne
tail_lags w r e queue chain =
    let p : Invariant w = reached_invariant w r e in
    subst (λ ns. TailLags w.shared ns) (same_queue w r (p.front ∷ p.rest) queue p.sound.shape.queue_chain chain) p.sound.words.lag

pub tail_is_not_behind : OfNonBlockingWorlds TailIsNotBehindHead
tail_is_not_behind w r e =
    let p : Invariant w = reached_invariant w r e in
    go p.front p.rest p.sound.words.lag.before p.sound.words.lag.after p.sound.words.lag.chain p.sound.words.lag.count p.sound.shape.queue_chain.0
  where
    first_of : List ℕ → ℕ
    first_of [] = 0
    first_of (x ∷ xs) = x

    go : (front : ℕ) (rest before after : List ℕ) → (front ∷ rest) ≡ before ++ w.shared.tail.node ∷ after
        → w.shared.tail.count ≡ w.shared.head.count + length before → w.shared.head.node ≡ front → TailIsNotBehindHead w
    go front rest [] after chain count at =
        (omega arith, λ same. equal_refs w.shared.tail w.shared.head (sym (at ∙ ap first_of chain)) same)
    go front rest (b ∷ bs) after chain count at = (omega arith, λ same. absurd (omega arith))

-- what holds of an actor at a line, and of the words
pub record AtLine (w : World) (me : ℕ) (a : Actor) (l : Line) : Type 0 where
  pub plain : Invariant w
  pub range : WorldInRange w
  pub few_nodes : length w.shared.nodes < reserved_node w.setup.bits
  pub registers : RegistersInRange w.setup w.shared.fresh (length w.actors) a
  pub runs : IsRunBy (section_of l) NonBlocking
  pub nodes : NonNullAt w.setup.bits l a
  pub fixes : FixedAt w.setup.limit me a (Some l)
  pub knows : InvariantAt Nothing w.setup w.shared (last_node (plain.front ∷ plain.rest)) a (Some l)

pub at_line : (w : World) → IsReached w → w.setup.kind ≡ NonBlocking → (me : ℕ) (a : Actor) (l : Line) → actor_of w me ≡ Some a → a.line ≡ Some l → AtLine w me a l
at_line w r e me a l is at =
    let p : Invariant w = reached_invariant w r e in
    let g : WorldInRange w = reached_in_range w r in
    let k : LocalInvariant non_blocking Nothing w.setup w.shared (last_node (p.front ∷ p.rest)) me a = p.sound.actors me a is in
    let st : IsRunBy (section_of l) w.setup.kind × NonNullAt w.setup.bits l a = stands_at w r me a l is at in
    let c : ActorInRange w.setup w.shared.fresh (length w.actors) a = actor_in_range w me a g is in
    record {
      plain = p;
      range = g;
      few_nodes = few_nodes w r;
      registers = c.registers;
      runs = subst (IsRunBy (section_of l)) e st.0;
      nodes = st.1;
      fixes = subst (FixedAt w.setup.limit me a) at k.fixed;
      knows = subst (InvariantAt Nothing w.setup w.shared (last_node (p.front ∷ p.rest)) a) at k.knows;
    }

-- the null `next` that E9 and S4 compare with is not worn out
next_below : (w : World) (me : ℕ) (a : Actor) (l : Line) → AtLine w me a l → a.next.node ≡ 0
    → (a.next.count < (next_of w.shared a.tail.node).count) ⊎ ((w.shared.tail ≡ a.tail) × (next_of w.shared a.tail.node ≡ a.next))
    → a.next.count < w.setup.limit
next_below w me a l h none = go
  where
    p : Invariant w
    p = h.plain

    low : (next_of w.shared a.tail.node).count ≤ w.setup.limit
    low = (found_in_range w.setup (length w.actors) w.shared (Next a.tail.node) h.range.shared).count

    go : (a.next.count < (next_of w.shared a.tail.node).count) ⊎ ((w.shared.tail ≡ a.tail) × (next_of w.shared a.tail.node ≡ a.next)) → a.next.count < w.setup.limit
    go (inl less) = omega (arith, low)
    go (inr was) =
        let at : w.shared.tail.node ≡ a.tail.node = ap (λ (x : Ref). x.node) was.0 in
        let null : (next_of w.shared w.shared.tail.node).node ≡ 0 = ap (λ j. (next_of w.shared j).node) at ∙ ap (λ (x : Ref). x.node) was.1 ∙ none in
        let last : last_node (p.front ∷ p.rest) ≡ w.shared.tail.node = tail_is_last w.setup.bits w.shared (p.front ∷ p.rest) w.shared.head.node p.sound.shape.queue_chain p.sound.words.lag null in
        let room : a.next.count ≢ w.setup.limit = subst (λ (x : Ref). nat_eq x.node (reserved_node w.setup.bits) ≡ false → x.count ≢ w.setup.limit)
        (ap (next_of w.shared) (last ∙ at) ∙ was.1) p.sound.words.last_room (ap (λ n. nat_eq n (reserved_node w.setup.bits)) none ∙ null_open
        w.setup.bits (length w.shared.nodes) h.few_nodes) in
        let most : a.next.count ≤ w.setup.limit = h.registers.next.count in
        omega arith

-- a dequeue that may take a value finds that Head is not worn out
head_below : (w : World) (me : ℕ) (a : Actor) (l : Line) → AtLine w me a l → MayTake w.shared a → a.head.count < w.setup.limit
head_below w me a l h k = go k.0
  where
    p : Invariant w
    p = h.plain

    go : IsCurrentOrStale w.shared.head a.head → a.head.count < w.setup.limit
    go (inr less) = let most : w.shared.head.count ≤ w.setup.limit = h.range.shared.head.count in omega arith
    go (inl was) =
        let first : w.shared.head.node ≡ p.front = p.sound.shape.queue_chain.0 in
        let away : IsOff w.shared p.front p.rest = off w.shared p.front p.rest p.sound.words.lag (λ q. (k.1 was).1 (q ∙ sym first ∙ ap (λ (x : Ref). x.node) was)) in
        let below : w.shared.head.count < w.shared.tail.count = off_count w.shared p.front p.rest away in
        let most : w.shared.tail.count ≤ w.setup.limit = h.range.shared.tail.count in
        let same : w.shared.head.count ≡ a.head.count = ap (λ (x : Ref). x.count) was in
        omega arith

pub raise_below_the_limit : OfNonBlockingWorlds RaisesBelowTheLimit
raise_below_the_limit w r e me a l is at =
    let h : AtLine w me a l = at_line w r e me a l is at in
    raises_below w.setup w.shared.fresh (length w.actors) a l h.registers h.fixes.room (at_end h)
  where
    at_end : AtLine w me a l → (l ≡ E9) ⊎ (l ≡ S4) → a.next.count < w.setup.limit
    at_end h (inl e) = let k : AtLine w me a E9 = subst (AtLine w me a) e h in next_below w me a E9 k k.knows.1 k.knows.2
    at_end h (inr e) = let k : AtLine w me a S4 = subst (AtLine w me a) e h in next_below w me a S4 k k.knows.0 k.knows.1

-- why a step of an actor finds a word of the queue's own worn out
abbrev Own : World → Actor → WornWord → Type 0
Own w a OfNext = (next_of w.shared a.node).count ≡ w.setup.limit
Own w a OfTail = w.shared.tail.count ≡ w.setup.limit
Own w a _ = ⊥

ended_or : (w : World) (a : Actor) (now : ℕ) (b : Bool) (c : Actor) → Caused (Own w a) w (effect now (if b then ends now Done c else goes E17 c))
ended_or w a now true c = record { cause = tt }
ended_or w a now false c = record { cause = tt }

-- where the closed end was read behind Tail's node, the queue is shut
shut_behind_tail : (w : World) (me : ℕ) (a : Actor) (l : Line) → AtLine w me a l → w.shared.tail ≡ a.tail → WasNext w.shared a → is_shut w.setup.bits a.next ≡ true → IsShut w
shut_behind_tail w me a l h was read s =
    let p : Invariant w = h.plain in
    let end : a.next.node ≡ reserved_node w.setup.bits = eqb-true a.next.node (reserved_node w.setup.bits) s in
    let next : next_of w.shared a.tail.node ≡ a.next = next_stays_there w.shared a (λ e. omega (arith, e, end)) read in (
      p.front ∷ p.rest,
      p.sound.shape.queue_chain,
      shut_behind w.setup.bits w.shared (p.front ∷ p.rest) w.shared.head.node h.few_nodes p.sound.shape.queue_chain p.sound.words.lag
          (ap (λ (x : Ref). (next_of w.shared x.node).node) was ∙ ap (λ (x : Ref). x.node) next ∙ end),
    )

own_caused : (w : World) (now me : ℕ) (a : Actor) (l : Line) → AtLine w me a l → IsOwnOf (section_of l) NonBlocking
    → Caused (Own w a) w (outcome w.setup now me a l (found (action w.setup me a l) w.shared))
own_caused w now me a E2 h i = record { cause = tt }
own_caused w now me a E3 h i =
    either (Caused (Own w a) w) (nat_eq (next_of w.shared a.node).count w.setup.limit) (λ b. record { cause = eqb-true (next_of w.shared a.node).count w.setup.limit b }) (λ b. record { cause = tt })
own_caused w now me a E5 h i = record { cause = tt }
own_caused w now me a E6 h i = record { cause = tt }
own_caused w now me a E7 h i =
    either (Caused (Own w a) w) (same_ref w.shared.tail a.tail)
    (λ b. either (Caused (Own w a) w) (is_null a.next) (λ n. record { cause = tt })
    (λ n. either (Caused (Own w a) w) (is_shut w.setup.bits a.next) (λ s. record
    { cause = shut_behind_tail w me a E7 h (same_ref-true w.shared.tail a.tail b) (h.knows.2 (same_ref-true w.shared.tail a.tail b)) s })
    (λ s. either (Caused (Own w a) w) (nat_eq a.tail.count w.setup.limit)
    (λ c. record { cause = ap (λ (x : Ref). x.count) (same_ref-true w.shared.tail a.tail b) ∙ eqb-true a.tail.count w.setup.limit c }) (λ c. record { cause = tt }))))
    (λ b. record { cause = tt })
own_caused w now me a E9 h i =
    either (Caused (Own w a) w) (same_ref (next_of w.shared a.tail.node) a.next)
    (λ b. ended_or w a now (nat_eq a.tail.count w.setup.limit) (empties_hand (record a { due = Some Done }))) (λ b. record { cause = tt })
own_caused w now me a E13 h i = record { cause = tt }
own_caused w now me a E17 h i = record { cause = tt }
own_caused w now me a D2 h i = record { cause = tt }
own_caused w now me a D3 h i = record { cause = tt }
own_caused w now me a D4 h i = record { cause = tt }
own_caused w now me a D5 h i =
    either (Caused (Own w a) w) (same_ref w.shared.head a.head)
    (λ b. either (Caused (Own w a) w) (nat_eq a.head.node a.tail.node)
    (λ c. either (Caused (Own w a) w) (is_null a.next) (λ n. record { cause = tt })
    (λ n. either (Caused (Own w a) w) (is_shut w.setup.bits a.next) (λ s. record { cause = shut_behind_head (same_ref-true w.shared.head a.head b) s })
    (λ s. either (Caused (Own w a) w) (nat_eq a.tail.count w.setup.limit) (λ d. record { cause = worn_tail (eqb-true a.tail.count w.setup.limit d) h.knows.1 }) (λ d. record { cause = tt }))))
    (λ c. record { cause = tt }))
    (λ b. record { cause = tt })
  where
    shut_behind_head : w.shared.head ≡ a.head → is_shut w.setup.bits a.next ≡ true → IsShut w
    shut_behind_head was s =
        let p : Invariant w = h.plain in
        let end : a.next.node ≡ reserved_node w.setup.bits = eqb-true a.next.node (reserved_node w.setup.bits) s in
        let next : next_of w.shared a.head.node ≡ a.next = (h.knows.2 was).0 (omega (arith, end)) in (
          p.front ∷ p.rest,
          p.sound.shape.queue_chain,
          shut_alone w.setup.bits w.shared w.shared.head.node p.front p.rest h.few_nodes p.sound.shape.queue_chain
              (ap (λ j. (next_of w.shared j).node) (sym p.sound.shape.queue_chain.0 ∙ ap (λ (x : Ref). x.node) was) ∙ ap (λ (x : Ref). x.node) next ∙ end),
        )

    worn_tail : a.tail.count ≡ w.setup.limit → IsCurrentOrStale w.shared.tail a.tail → w.shared.tail.count ≡ w.setup.limit
    worn_tail worn (inl was) = ap (λ (x : Ref). x.count) was ∙ worn
    worn_tail worn (inr less) = absurd (let most : w.shared.tail.count ≤ w.setup.limit = h.range.shared.tail.count in omega arith)
own_caused w now me a D10 h i = record { cause = tt }
own_caused w now me a D12 h i =
    either (Caused (Own w a) w) (nat_eq a.head.count w.setup.limit)
    (λ b. absurd (let worn : a.head.count ≡ w.setup.limit = eqb-true a.head.count w.setup.limit b in let below : a.head.count < w.setup.limit = head_below w me a D12 h h.knows in omega arith))
    (λ b. record { cause = tt })
own_caused w now me a D13 h i = either (Caused (Own w a) w) (same_ref w.shared.head a.head) (λ b. record { cause = tt }) (λ b. record { cause = tt })
own_caused w now me a S1 h i = record { cause = tt }
own_caused w now me a S2 h i = record { cause = tt }
own_caused w now me a S3 h i =
    either (Caused (Own w a) w) (same_ref w.shared.tail a.tail)
    (λ b. either (Caused (Own w a) w) (is_null a.next) (λ n. record { cause = tt })
    (λ n. either (Caused (Own w a) w) (is_shut w.setup.bits a.next) (λ s. record
    { cause = shut_behind_tail w me a S3 h (same_ref-true w.shared.tail a.tail b) (h.knows.1 (same_ref-true w.shared.tail a.tail b)) s })
    (λ s. either (Caused (Own w a) w) (nat_eq a.tail.count w.setup.limit)
    (λ c. record { cause = ap (λ (x : Ref). x.count) (same_ref-true w.shared.tail a.tail b) ∙ eqb-true a.tail.count w.setup.limit c }) (λ c. record { cause = tt }))))
    (λ b. record { cause = tt })
own_caused w now me a S4 h i = either (Caused (Own w a) w) (same_ref (next_of w.shared a.tail.node) a.next) (λ b. record { cause = tt }) (λ b. record { cause = tt })
own_caused w now me a S5 h i = record { cause = tt }
own_caused w now me a l h i = absurd i

-- the three clauses follow
has_cause : (w : World) (a : Actor) (reply : Option Reply) → CauseOfReply (Own w a) w reply → HasCauseFor w reply
has_cause w a (Some (Refused NoNode)) h = h
has_cause w a (Some (Refused (WornOut OfFree))) h = h
has_cause w a (Some (Refused (WornOut OfNext))) h = (a.node, h)
has_cause w a (Some (Refused (WornOut OfTail))) h = h
has_cause w a (Some (Refused (WornOut OfHead))) h = absurd h
has_cause w a (Some (Refused Closed)) h = h
has_cause w a (Some (Refused _)) h = absurd h
has_cause w a _ h = tt

why_of : (w : World) → IsReached w → w.setup.kind ≡ NonBlocking → (me : ℕ) (a : Actor) (l : Line) → actor_of w me ≡ Some a → a.line ≡ Some l
    → CauseOfReply (Own w a) w (outcome w.setup (w.steps + 1) me a l (found (action w.setup me a l) w.shared)).reply
why_of w r e me a l is at =
    let h : AtLine w me a l = at_line w r e me a l is at in
    (caused (Own w a) w NonBlocking (w.steps + 1) me a l h.range h.registers h.runs h.fixes (own_caused w (w.steps + 1) me a l h)).cause

pub refuse_with_cause : OfNonBlockingWorlds RefusesWithCause
refuse_with_cause w r e me a l is at = has_cause w a _ (why_of w r e me a l is at)

pub own_next_is_worn : OfNonBlockingWorlds FindsItsOwnNextWornOut
own_next_is_worn w r e me a l is at worn = subst (CauseOfReply (Own w a) w) worn (why_of w r e me a l is at)

pub head_is_never_worn : OfNonBlockingWorlds NeverFindsHeadWornOut
head_is_never_worn w r e me a l is at worn = subst (CauseOfReply (Own w a) w) worn (why_of w r e me a l is at)

-- a reply that does not say that Head is worn out
abbrev SparesHead : Option Reply → Type 0
SparesHead (Some (Refused (WornOut OfHead))) = ⊥
SparesHead _ = Unit {0}

-- no operation was refused for Head
pub never_for_head : OfNonBlockingWorlds NeverRefusedForHead
never_for_head = each_reply NonBlocking (λ r. r ≢ Some (Refused (WornOut OfHead))) (λ e. subst SparesHead e tt) (λ v e. subst SparesHead e tt) head_is_never_worn

-- where Head is as read, the registers are the front of the queue
pub front_is_taken : OfNonBlockingWorlds TakesTheFront
front_is_taken w r e me a queue is at was chain =
    let h : AtLine w me a D13 = at_line w r e me a D13 is at in
    let p : Invariant w = h.plain in
    let first : w.shared.head.node ≡ p.front = p.sound.shape.queue_chain.0 in
    let here : p.front ≡ a.head.node = sym first ∙ ap (λ (x : Ref). x.node) was in
    let second : (others : List ℕ) × (p.rest ≡ a.next.node ∷ others) =
    off_second w.setup.bits w.shared p.front w.shared.head.node a.next.node p.rest p.sound.shape.queue_chain
    (off w.shared p.front p.rest p.sound.words.lag (λ q. (h.knows.0.1 was).1 (q ∙ here)))
    (ap (λ k. (next_of w.shared k).node) here ∙ ap (λ (x : Ref). x.node) (h.knows.0.1 was).0) in
    record {
      others = second.0;
      nodes =
          same_queue w r queue (p.front ∷ p.rest) chain p.sound.shape.queue_chain
          ∙ ap (λ ns. p.front ∷ ns) second.1
          ∙ ap (λ k. k ∷ a.next.node ∷ second.0) here;
      value = h.knows.1 was;
    }
