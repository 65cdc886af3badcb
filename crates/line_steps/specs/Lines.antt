-- The line table: for each line one access of one shared word, and what its actor then does with what was found.
use Rattle.std.specs.Prelude.{ℕ, ◌+◌, true, false, Option, Some, None, nat_eq, nat_lt, if◌then◌else◌}
use Rattle.counted_ref.specs.Ref.{Ref, ref, null, is_null, shut_ref, is_shut, same_ref, reserved_node}
use Rattle.line_table.specs.declared.lines.Kind.{Kind}
use Rattle.line_table.specs.declared.lines.Kind.TheVariants.{TwoLock, NonBlocking}
use Rattle.line_table.specs.declared.lines.Line.{Line}
use Rattle.line_table.specs.declared.lines.Line.TheVariants.{N1, N2, N3, N4, N5, F1, F2, F3, E2, E3, E5, E6, E7, E9, E13, E17, D2, D3, D4, D5, D10}
use Rattle.line_table.specs.declared.lines.Line.TheVariants.{D12, D13, A1, A2, A3, A4, A5, A6, A7, B1, B2, B3, B4, B5, B6, S1, S2, S3, S4, S5, S6, S7}
use Rattle.line_table.specs.declared.lines.Line.TheVariants.{S8, S9}
use Rattle.history.specs.declared.refusals.WornWord.{WornWord}
use Rattle.history.specs.declared.refusals.WornWord.TheVariants.{Free as OfFree, Next as OfNext, Tail as OfTail, Head as OfHead}
use Rattle.history.specs.declared.refusals.Refusal.TheVariants.{NoNode, WornOut, Busy, Closed}
use Rattle.history.specs.declared.operations.Reply.{Reply}
use Rattle.history.specs.declared.operations.Reply.TheVariants.{Done, Value, Empty, Refused}
use Rattle.line_steps.specs.declared.actors.Setup.{Setup}
use Rattle.line_steps.specs.Actors.{Actor}
use Rattle.line_steps.specs.Outcomes.{Outcome}
use Rattle.line_steps.specs.Memory.{Fresh, Free, Head, Tail, Tail_lock, Head_lock, Next, Value_of, Action, load, store, clear, exchange, Found}

-- the reference that names another node, with its count raised; it stays as it is where its count is at the limit, and
-- where the number given is that of a closed end
abbrev pub raised : Setup → Ref → ℕ → Ref
raised s r to = if nat_eq to (reserved_node s.bits) then r else if nat_eq r.count s.limit then r else ref to (r.count + 1)

-- the closed end with the count of a reference raised; a reference whose count is at the limit stays as it is
abbrev pub raised_end : Setup → Ref → Ref
raised_end s r = if nat_eq r.count s.limit then r else shut_ref s.bits (r.count + 1)

-- the access of each line, by the actor's number and registers
abbrev pub action : Setup → (me : ℕ) → Actor → Line → Action
action s me a N1 = load Fresh
action s me a N2 = load Free
action s me a N3 = load (Next a.top.node)
action s me a N4 = exchange Free a.top (raised s a.top a.next.node)
action s me a N5 = exchange Fresh a.f (a.f + 1)
action s me a F1 = load Free
action s me a F2 = store (Next a.node) (ref a.top.node a.mark)
action s me a F3 = exchange Free a.top (raised s a.top a.node)
action s me a E2 = store (Value_of a.node) a.val
action s me a E3 = clear a.node
action s me a E5 = load Tail
action s me a E6 = load (Next a.tail.node)
action s me a E7 = load Tail
action s me a E9 = exchange (Next a.tail.node) a.next (raised s a.next a.node)
action s me a E13 = exchange Tail a.tail (raised s a.tail a.next.node)
action s me a E17 = exchange Tail a.tail (raised s a.tail a.node)
action s me a D2 = load Head
action s me a D3 = load Tail
action s me a D4 = load (Next a.head.node)
action s me a D5 = load Head
action s me a D10 = exchange Tail a.tail (raised s a.tail a.next.node)
action s me a D12 = load (Value_of a.next.node)
action s me a D13 = exchange Head a.head (raised s a.head a.next.node)
action s me a A1 = store (Value_of a.node) a.val
action s me a A2 = clear a.node
action s me a A3 = exchange Tail_lock 0 me
action s me a A4 = load Tail
action s me a A5 = exchange (Next a.tail.node) null (ref a.node 0)
action s me a A6 = store Tail (ref a.node 0)
action s me a A7 = store Tail_lock 0
action s me a B1 = exchange Head_lock 0 me
action s me a B2 = load Head
action s me a B3 = load (Next a.head.node)
action s me a B4 = load (Value_of a.next.node)
action s me a B5 = store Head (raised s a.head a.next.node)
action s me a B6 = store Head_lock 0
action s me a S1 = load Tail
action s me a S2 = load (Next a.tail.node)
action s me a S3 = load Tail
action s me a S4 = exchange (Next a.tail.node) a.next (raised_end s a.next)
action s me a S5 = exchange Tail a.tail (raised s a.tail a.next.node)
action s me a S6 = exchange Tail_lock 0 me
action s me a S7 = load Tail
action s me a S8 = exchange (Next a.tail.node) null (shut_ref s.bits 0)
action s me a S9 = store Tail_lock 0

-- the call goes on at a line
abbrev pub goes : Line → Actor → Outcome
goes l a = record { actor = record a { line = Some l }; at = None; reply = None; aside = None }

-- where a call that ends with a reply takes effect: an empty reply at the number noted, a refusal at the last one;
-- done and value had their effect before
abbrev pub effect_at_end : ℕ → Actor → Reply → Option ℕ
effect_at_end now a Done = None
effect_at_end now a (Value v) = None
effect_at_end now a Empty = Some a.empty_at
effect_at_end now a (Refused refusal) = Some now

-- the call ends with a reply
abbrev pub ends : ℕ → Reply → Actor → Outcome
ends now reply a =
    record { actor = record a { line = None }; at = effect_at_end now a reply; reply = Some reply; aside = None }

-- the call ends with a refusal, since a word is worn out
abbrev pub worn : ℕ → WornWord → Actor → Outcome
worn now what a = ends now (Refused (WornOut what)) a

-- the call ends with a refusal, since the queue is shut
abbrev pub closed : ℕ → Actor → Outcome
closed now a = ends now (Refused Closed) a

-- the operation takes effect at this step
abbrev pub effect : ℕ → Outcome → Outcome
effect now o = record o { at = Some now }

-- the node in hand is set aside for good
abbrev pub sets_aside : Outcome → Outcome
sets_aside o = record o { actor = record o.actor { holds = false }; aside = Some o.actor.node }

-- a node and its mark come into the hand
abbrev pub fills_hand : ℕ → ℕ → Actor → Actor
fills_hand node mark a = record a { node = node; mark = mark; holds = true }

-- the hand is empty
abbrev pub empties_hand : Actor → Actor
empties_hand a = record a { holds = false }

-- the node in hand goes to the pocket, with its mark
abbrev pub to_pocket : Actor → Actor
to_pocket a = record a { holds = false; pocket = Some (record { node = a.node; mark = a.mark }) }

-- where an enqueue goes on with its node
abbrev pub with_node : Kind → Line
with_node NonBlocking = E2
with_node TwoLock = A1

-- where a dequeue with an empty pocket begins
abbrev pub dequeues : Kind → Line
dequeues NonBlocking = D2
dequeues TwoLock = B1

-- where a shut begins
abbrev pub shuts : Kind → Line
shuts NonBlocking = S1
shuts TwoLock = S6

-- the free lines have ended: a call with a reply ends, a dequeue that freed its pocket first begins
abbrev pub freed : Kind → ℕ → Option Reply → Actor → Outcome
freed kind now None a = goes (dequeues kind) a
freed kind now (Some reply) a = ends now reply a

-- the head lock was let go: a call that took a value frees the node, any other one ends with its reply
abbrev pub unlocked : ℕ → Option Reply → Actor → Outcome
unlocked now None a = goes F1 a
unlocked now (Some (Value v)) a = goes F1 a
unlocked now (Some Done) a = ends now Done a
unlocked now (Some Empty) a = ends now Empty a
unlocked now (Some (Refused refusal)) a = ends now (Refused refusal) a

-- the tail lock was let go: a shut that found the queue shut is refused, any other one is done
abbrev pub left : ℕ → Option Reply → Actor → Outcome
left now (Some (Refused refusal)) a = ends now (Refused refusal) a
left now _ a = ends now Done a

-- the same of an enqueue, whose node goes to the pocket where it is refused
abbrev pub left_with_node : ℕ → Option Reply → Actor → Outcome
left_with_node now (Some (Refused refusal)) a = ends now (Refused refusal) (to_pocket a)
left_with_node now _ a = ends now Done a

-- what becomes of the actor and its operation, by what was found
abbrev pub outcome : (s : Setup) (now me : ℕ) (a : Actor) (l : Line) → Found (action s me a l) → Outcome
outcome s now me a N1 fresh = goes N2 (record a { f = fresh })
outcome s now me a N2 top =
    let b = record a { top = top } in
    if is_null top
    then if nat_lt a.f s.size then goes N5 b else ends now (Refused NoNode) b
    else if nat_eq top.count s.limit then worn now OfFree b
    else goes N3 b
outcome s now me a N3 next = goes N4 (record a { next = next })
outcome s now me a N4 was =
    if same_ref was a.top then goes (with_node s.kind) (fills_hand a.top.node a.next.count a) else goes N1 a
outcome s now me a N5 was =
    if nat_eq was a.f then goes (with_node s.kind) (fills_hand (a.f + 1) 0 a) else goes N1 a
outcome s now me a F1 top =
    let b = record a { top = top } in
    if nat_eq top.count s.limit then sets_aside (freed s.kind now a.due b) else goes F2 b
outcome s now me a F2 was = goes F3 a
outcome s now me a F3 was = if same_ref was a.top then freed s.kind now a.due (empties_hand a) else goes F1 a
outcome s now me a E2 was = goes E3 a
outcome s now me a E3 was =
    let b = record a { mark = was.count } in
    if nat_eq was.count s.limit then sets_aside (worn now OfNext b) else goes E5 b
outcome s now me a E5 tail = goes E6 (record a { tail = tail })
outcome s now me a E6 next = goes E7 (record a { next = next })
outcome s now me a E7 tail =
    if same_ref tail a.tail
    then if is_null a.next then goes E9 a
    else if is_shut s.bits a.next then closed now (to_pocket a)
    else if nat_eq a.tail.count s.limit then worn now OfTail (to_pocket a)
    else goes E13 a
    else goes E5 a
outcome s now me a E9 was =
    let b = empties_hand (record a { due = Some Done }) in
    if same_ref was a.next
    then effect now (if nat_eq a.tail.count s.limit then ends now Done b else goes E17 b)
    else goes E5 a
outcome s now me a E13 was = goes E5 a
outcome s now me a E17 was = ends now Done a
outcome s now me a D2 head = goes D3 (record a { head = head })
outcome s now me a D3 tail = goes D4 (record a { tail = tail })
outcome s now me a D4 next = goes D5 (record a { next = next; empty_at = now })
outcome s now me a D5 head =
    if same_ref head a.head
    then if nat_eq a.head.node a.tail.node
    then if is_null a.next then ends now Empty a
    else if is_shut s.bits a.next then closed now a
    else if nat_eq a.tail.count s.limit then worn now OfTail a
    else goes D10 a
    else goes D12 a
    else goes D2 a
outcome s now me a D10 was = goes D2 a
outcome s now me a D12 val =
    let b = record a { val = val } in if nat_eq a.head.count s.limit then worn now OfHead b else goes D13 b
outcome s now me a D13 was =
    if same_ref was a.head
    then effect now (goes F1 (fills_hand a.head.node a.next.count (record a { due = Some (Value a.val) })))
    else goes D2 a
outcome s now me a A1 was = goes A2 a
outcome s now me a A2 was = goes A3 a
outcome s now me a A3 was = if nat_eq was 0 then goes A4 a else goes A3 a
outcome s now me a A4 tail = goes A5 (record a { tail = tail })
outcome s now me a A5 was =
    if same_ref was null
    then effect now (goes A6 (empties_hand (record a { due = Some Done })))
    else goes A7 (record a { due = Some (Refused Closed) })
outcome s now me a A6 was = goes A7 a
outcome s now me a A7 was = left_with_node now a.due a
outcome s now me a B1 was = if nat_eq was 0 then goes B2 a else goes B1 a
outcome s now me a B2 head = goes B3 (record a { head = head })
outcome s now me a B3 next =
    let b = record a { next = next; empty_at = now } in
    if is_null next then goes B6 (record b { due = Some Empty })
    else if is_shut s.bits next then goes B6 (record b { due = Some (Refused Closed) })
    else goes B4 b
outcome s now me a B4 val =
    let b = record a { val = val } in
    if nat_eq a.head.count s.limit then goes B6 (record b { due = Some (Refused (WornOut OfHead)) }) else goes B5 b
outcome s now me a B5 was =
    effect now (goes B6 (fills_hand a.head.node a.next.count (record a { due = Some (Value a.val) })))
outcome s now me a B6 was = unlocked now a.due a
outcome s now me a S1 tail = goes S2 (record a { tail = tail })
outcome s now me a S2 next = goes S3 (record a { next = next })
outcome s now me a S3 tail =
    if same_ref tail a.tail
    then if is_null a.next then goes S4 a
    else if is_shut s.bits a.next then closed now a
    else if nat_eq a.tail.count s.limit then worn now OfTail a
    else goes S5 a
    else goes S1 a
outcome s now me a S4 was = if same_ref was a.next then effect now (ends now Done a) else goes S1 a
outcome s now me a S5 was = goes S1 a
outcome s now me a S6 was = if nat_eq was 0 then goes S7 a else goes S6 a
outcome s now me a S7 tail = goes S8 (record a { tail = tail })
outcome s now me a S8 was =
    if same_ref was null then effect now (goes S9 (record a { due = Some Done })) else goes S9 (record a { due = Some (Refused Closed) })
outcome s now me a S9 was = left now a.due a

-- giving up ends the call with Busy
abbrev pub busy : ℕ → Actor → Option Outcome
busy now a = Some (ends now (Refused Busy) a)

-- giving up where a node is freed ends the call with the value taken, or with Busy where none was taken
abbrev pub busy_or : ℕ → Option Reply → Actor → Option Outcome
busy_or now None a = busy now a
busy_or now (Some reply) a = Some (ends now reply a)

-- what becomes of an actor that gives up at a line; none where no turn begins there
abbrev pub gives_up : ℕ → Actor → Line → Option Outcome
gives_up now a N1 = busy now a
gives_up now a F1 = busy_or now a.due (to_pocket a)
gives_up now a E5 = busy now (to_pocket a)
gives_up now a D2 = busy now a
gives_up now a A3 = busy now (to_pocket a)
gives_up now a B1 = busy now a
gives_up now a S1 = busy now a
gives_up now a S6 = busy now a
gives_up now a _ = None
