-- The history of a traced world is that of its operations which had their effect.
use Rattle.std.proofs.Common.{◌≡◌, ℕ, ◌+◌, Bool, true, false, nat_eq, nat_lt, if◌then◌else◌, Option, Some, None, IfSome, List, [], ◌∷◌, ◌++◌, append-nil, refl, sym, ap, subst, ◌∙◌}
use Rattle.std.proofs.lemmas.Option.{none-some, same_Some}
use Rattle.std.specs.List.{count_by, flat_map}
use Rattle.line_table.specs.declared.lines.Kind.{Kind}
use Rattle.line_table.specs.declared.lines.Line.{Line}
use Rattle.line_table.specs.declared.lines.Line.TheVariants.{N1, N2, N4, N5, F1, F3, E3, E5, E7, E9, E17, D2, D5, D12, D13, A3, A5, A6, A7, B1, B3, B4, B5, B6, S1, S3, S4, S6, S8, S9}
use Rattle.line_table.specs.Sections.{section_of}
use Rattle.counted_ref.specs.Ref.{null, is_null, is_shut, same_ref}
use Rattle.history.specs.declared.operations.Op.{Op}
use Rattle.history.specs.declared.operations.Op.TheVariants.{Enq, Deq, Shut}
use Rattle.history.specs.declared.operations.Reply.{Reply}
use Rattle.history.specs.declared.operations.Reply.TheVariants.{Done, Value, Empty, Refused}
use Rattle.history.specs.declared.refusals.Refusal.TheVariants.{Closed}
use Rattle.history.specs.declared.operations.Entry.{Entry}
use Rattle.history.specs.declared.operations.Entry.TheVariants.{Push, Pop, Shut as ShutEntry}
use Rattle.history.specs.declared.operations.Taken.{Taken}
use Rattle.history.specs.Queue.{empty}
use Rattle.history.specs.Entries.{is_pop, Plays}
use Rattle.history.specs.History.{by_point}
use Rattle.line_steps.specs.declared.actors.Setup.{Setup}
use Rattle.line_steps.specs.Actors.{Actor}
use Rattle.line_steps.specs.Outcomes.{Outcome}
use Rattle.line_steps.specs.Memory.{Found, found}
use Rattle.line_steps.specs.Lines.{action, outcome, goes, ends, effect, fills_hand, empties_hand, sets_aside, freed, unlocked, left, left_with_node, busy_or, gives_up}
use Rattle.line_steps.specs.Calls.{is_call, begun}
use Rattle.step_machine.specs.declared.actors.Move.TheVariants.{Begin, Step, Give}
use Rattle.step_machine.specs.Machine.{World, actor_of, rested, with_actor, begins, steps, given, gives, may_rest, rests, moved, rest_of, AnyMove, made, Rest, next_any, IsReached}
use Rattle.step_machine.specs.Entries.{pushed_by, entry_of, entries}
use Rattle.step_machine.specs.Chains.{queue_in}
use Rattle.step_machine.specs.Stamps.{makers}
use Rattle.step_machine.proofs.Fixed.{Pushes, Runs}
use Rattle.step_machine.proofs.Reached.{some_of, reached_next}
use Rattle.step_machine.proofs.Gains.{gained, completion_entries}
use Rattle.step_machine.proofs.LegalMoves.{kept_reached, book_begun, book_rested}
use Rattle.step_machine.proofs.Completion.{entries_booked}
use Rattle.step_machine.proofs.Pops.{head_counts_pops}
use Rattle.step_machine.proofs.EachEntry.{each_step_gains, each_give_gains, each_call, plays_to_the_values}
use Rattle.node_arena.specs.Traces.{Traced, entries_of, traced_at, traced_step, traced_move, traced_next, traced_on, trace, first_trace, IsTraced, PlaysToItsValues, CountsItsPops}
use Rattle.node_arena.proofs.Tracing.{world-traced_move, traced_reached}

-- an outcome adds nothing
record AddsNothing (me : ℕ) (op : Op) (o : Outcome) : Type 0 where
  none : gained me op o ≡ []

module _ (me : ℕ) (op : Op) where
  -- nor does a choice of two such outcomes
  both : (b : Bool) (x y : Outcome) → AddsNothing me op x → AddsNothing me op y → AddsNothing me op (if b then x else y)
  both true x y hx hy = hx
  both false x y hx hy = hy

  -- a call adds nothing where it ends: its effect came before, or it has none
  ended : (now : ℕ) (reply : Reply) (a : Actor) → AddsNothing me op (ends now reply a)
  ended now Done a = record { none = refl }
  ended now (Value v) a = record { none = refl }
  ended now Empty a = record { none = refl }
  ended now (Refused refusal) a = record { none = refl }

  freed_adds : (kind : Kind) (now : ℕ) (due : Option Reply) (a : Actor) → AddsNothing me op (freed kind now due a)
  freed_adds kind now None a = record { none = refl }
  freed_adds kind now (Some reply) a = ended now reply a

  aside_adds : (kind : Kind) (now : ℕ) (due : Option Reply) (a : Actor) → AddsNothing me op (sets_aside (freed kind now due a))
  aside_adds kind now None a = record { none = refl }
  aside_adds kind now (Some Done) a = record { none = refl }
  aside_adds kind now (Some (Value v)) a = record { none = refl }
  aside_adds kind now (Some Empty) a = record { none = refl }
  aside_adds kind now (Some (Refused refusal)) a = record { none = refl }

  unlocked_adds : (now : ℕ) (due : Option Reply) (a : Actor) → AddsNothing me op (unlocked now due a)
  unlocked_adds now None a = record { none = refl }
  unlocked_adds now (Some (Value v)) a = record { none = refl }
  unlocked_adds now (Some Done) a = record { none = refl }
  unlocked_adds now (Some Empty) a = record { none = refl }
  unlocked_adds now (Some (Refused refusal)) a = record { none = refl }

  left_adds : (now : ℕ) (due : Option Reply) (a : Actor) → AddsNothing me op (left now due a)
  left_adds now None a = record { none = refl }
  left_adds now (Some (Value v)) a = record { none = refl }
  left_adds now (Some Done) a = record { none = refl }
  left_adds now (Some Empty) a = record { none = refl }
  left_adds now (Some (Refused refusal)) a = record { none = refl }

  left_with_node_adds : (now : ℕ) (due : Option Reply) (a : Actor) → AddsNothing me op (left_with_node now due a)
  left_with_node_adds now None a = record { none = refl }
  left_with_node_adds now (Some (Value v)) a = record { none = refl }
  left_with_node_adds now (Some Done) a = record { none = refl }
  left_with_node_adds now (Some Empty) a = record { none = refl }
  left_with_node_adds now (Some (Refused refusal)) a = record { none = refl }

  -- giving up adds nothing
  busy_or_adds : (now : ℕ) (due : Option Reply) (a : Actor) → IfSome (busy_or now due a) (AddsNothing me op)
  busy_or_adds now None a = record { none = refl }
  busy_or_adds now (Some reply) a = ended now reply a

  given_adds : (now : ℕ) (a : Actor) (l : Line) → IfSome (gives_up now a l) (AddsNothing me op)
  given_adds now a N1 = record { none = refl }
  given_adds now a F1 = busy_or_adds now a.due _
  given_adds now a E5 = record { none = refl }
  given_adds now a D2 = record { none = refl }
  given_adds now a A3 = record { none = refl }
  given_adds now a B1 = record { none = refl }
  given_adds now a S1 = record { none = refl }
  given_adds now a S6 = record { none = refl }
  given_adds now a _ = tt

-- the push of an enqueue is that of its body
pushed_is : (me : ℕ) (op : Op) (v : Taken) → Pushes me op v → pushed_by me op ≡ Push me v.body ∷ []
pushed_is me (Enq body) v h = ap (λ (x : Taken). Push me x.body ∷ []) (sym h)
pushed_is me Deq v h = absurd h
pushed_is me Shut v h = absurd h

-- the entry of a shut is its own
shut_is : (me : ℕ) (op : Op) → op ≡ Shut → pushed_by me op ≡ ShutEntry me ∷ []
shut_is me op h = ap (pushed_by me) h

-- whether a call may have its effect at a line
abbrev is_effect : Line → Bool
is_effect E9 = true
is_effect D13 = true
is_effect A5 = true
is_effect B5 = true
is_effect S4 = true
is_effect S8 = true
is_effect _ = false

-- an outcome of a line where no call has its effect adds nothing
stutters : (s : Setup) (now me : ℕ) (a : Actor) (l : Line) (c : Found (action s me a l)) → is_effect l ≡ false → AddsNothing me a.op (outcome s now me a l c)
stutters s now me a N2 c e = both _ _ (is_null c) _ _ (both _ _ (nat_lt a.f s.size) _ _ record { none = refl } record { none = refl })
    (both _ _ (nat_eq c.count s.limit) _ _ record { none = refl } record { none = refl })
stutters s now me a N4 c e = both _ _ (same_ref c a.top) _ _ record { none = refl } record { none = refl }
stutters s now me a N5 c e = both _ _ (nat_eq c a.f) _ _ record { none = refl } record { none = refl }
stutters s now me a F1 c e = both _ _ (nat_eq c.count s.limit) _ _ (aside_adds _ _ s.kind now a.due (record a { top = c })) record { none = refl }
stutters s now me a F3 c e = both _ _ (same_ref c a.top) _ _ (freed_adds _ _ s.kind now a.due (empties_hand a)) record { none = refl }
stutters s now me a E3 c e = both _ _ (nat_eq c.count s.limit) _ _ record { none = refl } record { none = refl }
stutters s now me a E7 c e =
    both _ _ (same_ref c a.tail) _ _ (both _ _ (is_null a.next) _ _ record { none = refl }
    (both _ _ (is_shut s.bits a.next) _ _ record { none = refl } (both _ _ (nat_eq a.tail.count s.limit) _ _ record { none = refl } record
    { none = refl })))
    record { none = refl }
stutters s now me a E9 c e = absurd (let h : true ≡ false = e in cc)
stutters s now me a D5 c e =
    both _ _ (same_ref c a.head) _ _
    (both _ _ (nat_eq a.head.node a.tail.node) _ _ (both _ _ (is_null a.next) _ _ record { none = refl }
    (both _ _ (is_shut s.bits a.next) _ _ record { none = refl } (both _ _ (nat_eq a.tail.count s.limit) _ _ record { none = refl } record
    { none = refl }))) record { none = refl })
    record { none = refl }
stutters s now me a D12 c e = both _ _ (nat_eq a.head.count s.limit) _ _ record { none = refl } record { none = refl }
stutters s now me a D13 c e = absurd (let h : true ≡ false = e in cc)
stutters s now me a A3 c e = both _ _ (nat_eq c 0) _ _ record { none = refl } record { none = refl }
stutters s now me a A5 c e = absurd (let h : true ≡ false = e in cc)
stutters s now me a A7 c e = left_with_node_adds _ _ now a.due a
stutters s now me a B1 c e = both _ _ (nat_eq c 0) _ _ record { none = refl } record { none = refl }
stutters s now me a B3 c e = both _ _ (is_null c) _ _ record { none = refl } (both _ _ (is_shut s.bits c) _ _ record { none = refl } record { none = refl })
stutters s now me a B4 c e = both _ _ (nat_eq a.head.count s.limit) _ _ record { none = refl } record { none = refl }
stutters s now me a B5 c e = absurd (let h : true ≡ false = e in cc)
stutters s now me a B6 c e = unlocked_adds _ _ now a.due a
stutters s now me a S3 c e =
    both _ _ (same_ref c a.tail) _ _ (both _ _ (is_null a.next) _ _ record { none = refl }
    (both _ _ (is_shut s.bits a.next) _ _ record { none = refl } (both _ _ (nat_eq a.tail.count s.limit) _ _ record { none = refl } record
    { none = refl })))
    record { none = refl }
stutters s now me a S4 c e = absurd (let h : true ≡ false = e in cc)
stutters s now me a S6 c e = both _ _ (nat_eq c 0) _ _ record { none = refl } record { none = refl }
stutters s now me a S8 c e = absurd (let h : true ≡ false = e in cc)
stutters s now me a S9 c e = left_adds _ _ now a.due a
stutters s now me a _ c e = record { none = refl }

-- the outcome of a line adds the entries of the line
line_gains : (s : Setup) (now me : ℕ) (a : Actor) (l : Line) (c : Found (action s me a l)) → Runs (section_of l) me a.op a.val → gained me a.op (outcome s now me a l c) ≡ entries_of s me a l c
line_gains s now me a E9 c h = won (same_ref c a.next)
  where
    linked : (b : Bool) → gained me a.op (effect now (if b then ends now Done (empties_hand (record a { due = Some Done })) else goes E17
        (empties_hand (record a { due = Some Done })))) ≡ Push me a.val.body ∷ []
    linked true = pushed_is me a.op a.val h
    linked false = pushed_is me a.op a.val h

    won : (b : Bool) → gained me a.op (if b then effect now (if nat_eq a.tail.count s.limit then ends now Done
        (empties_hand (record a { due = Some Done })) else goes E17 (empties_hand (record a { due = Some Done }))) else goes E5 a) ≡
        (if b then Push me a.val.body ∷ [] else [])
    won true = linked (nat_eq a.tail.count s.limit)
    won false = refl
line_gains s now me a D13 c h = won (same_ref c a.head)
  where
    won : (b : Bool) → gained me a.op (if b then effect now (goes F1 (fills_hand a.head.node a.next.count (record a { due = Some (Value a.val) })))
        else goes D2 a) ≡ (if b then Pop me a.val ∷ [] else [])
    won true = refl
    won false = refl
line_gains s now me a A5 c h = won (same_ref c null)
  where
    won : (b : Bool) → gained me a.op (if b then effect now (goes A6 (empties_hand (record a { due = Some Done }))) else goes A7
        (record a { due = Some (Refused Closed) })) ≡ (if b then Push me a.val.body ∷ [] else [])
    won true = pushed_is me a.op a.val h
    won false = refl
line_gains s now me a B5 c h = refl
line_gains s now me a S4 c h = won (same_ref c a.next)
  where
    won : (b : Bool) → gained me a.op (if b then effect now (ends now Done a) else goes S1 a) ≡ (if b then ShutEntry me ∷ [] else [])
    won true = shut_is me a.op h
    won false = refl
line_gains s now me a S8 c h = won (same_ref c null)
  where
    won : (b : Bool) → gained me a.op (if b then effect now (goes S9 (record a { due = Some Done })) else goes S9 (record a { due = Some (Refused Closed) })) ≡ (if b then ShutEntry me ∷ [] else [])
    won true = shut_is me a.op h
    won false = refl
line_gains s now me a l c h = (stutters s now me a l c refl).none

-- the entries that a move adds: those of a step at the line of its actor
abbrev line_entries : World → (me : ℕ) → Actor → Option Line → List Entry
line_entries w me a None = []
line_entries w me a (Some l) = entries_of w.setup me a l (found (action w.setup me a l) w.shared)

abbrev step_entries : World → (me : ℕ) → Option Actor → List Entry
step_entries w me None = []
step_entries w me (Some a) = line_entries w me a a.line

abbrev move_entries : World → AnyMove → List Entry
move_entries w (made (Begin me op)) = []
move_entries w (made (Step me)) = step_entries w me (actor_of w me)
move_entries w (made (Give me)) = []
move_entries w (Rest me) = []

-- a move adds them to the history
history_moved : (t : Traced) (m : AnyMove) (w : World) → (traced_move t m w).history ≡ t.history ++ move_entries t.world m
history_moved t (made (Begin me op)) w = sym (append-nil t.history)
history_moved t (made (Step me)) w = go (actor_of t.world me)
  where
    at : (a : Actor) (l : Option Line) → (traced_at t me a l w).history ≡ t.history ++ line_entries t.world me a l
    at a None = sym (append-nil t.history)
    at a (Some l) = refl

    go : (o : Option Actor) → (traced_step t me o w).history ≡ t.history ++ step_entries t.world me o
    go None = sym (append-nil t.history)
    go (Some a) = at a a.line
history_moved t (made (Give me)) w = sym (append-nil t.history)
history_moved t (Rest me) w = sym (append-nil t.history)

-- a move adds them to the entries of the operations that had their effect
abbrev Adds : World → List Entry → World → Type 0
Adds w es v = completion_entries v ≡ completion_entries w ++ es

same_book : (w v : World) → completion_entries v ≡ completion_entries w → Adds w [] v
same_book w v e = e ∙ sym (append-nil (completion_entries w))

begin_adds : (w : World) (me : ℕ) (op : Op) (a : Actor) (l : Option Line) → IsReached w → actor_of w me ≡ Some a → a.line ≡ l → IfSome (begins w me op a l) (Adds w [])
begin_adds w me op a None r is at = go (is_call op)
  where
    go : (b : Bool) → IfSome (if b then Some (with_actor w me (begun w.setup.kind me op a)) else None) (Adds w [])
    go true =
        same_book w (with_actor w me (begun w.setup.kind me op a))
        (ap (λ os. flat_map entry_of (by_point os)) (book_begun (makers r.moves) w me a (begun w.setup.kind me op a) (kept_reached w r) is at))
    go false = tt
begin_adds w me op a (Some l) r is at = tt

step_adds : (w : World) (me : ℕ) (a : Actor) (l : Option Line) → IsReached w → actor_of w me ≡ Some a → a.line ≡ l → IfSome (steps w me a l) (Adds w (line_entries w me a l))
step_adds w me a None r is at = tt
step_adds w me a (Some l) r is at =
    each_step_gains w me a l r is at ∙ ap (λ es. completion_entries w ++ es) (line_gains w.setup (w.steps + 1) me a l (found (action w.setup me a l) w.shared) (each_call w me a l r is at))

give_adds : (w : World) (me : ℕ) (a : Actor) (l : Option Line) → IsReached w → actor_of w me ≡ Some a → a.line ≡ l → IfSome (gives w me a l) (Adds w [])
give_adds w me a None r is at = tt
give_adds w me a (Some l) r is at = go (gives_up (w.steps + 1) a l) refl
  where
    go : (o : Option Outcome) → gives_up (w.steps + 1) a l ≡ o → IfSome (given w me a o) (Adds w [])
    go None e = tt
    go (Some o) e =
        each_give_gains w me a l o r is at e
        ∙ ap (λ es. completion_entries w ++ es) (let n : AddsNothing me a.op o = some_of (AddsNothing me a.op) (gives_up (w.steps + 1) a l) o e (given_adds me a.op (w.steps + 1) a l) in n.none)

rest_adds : (w : World) (me : ℕ) (a : Actor) (l : Option Line) → actor_of w me ≡ Some a → IfSome (rests w me a l) (Adds w [])
rest_adds w me a None is = tt
rest_adds w me a (Some l) is = go (may_rest l)
  where
    go : (b : Bool) → IfSome (if b then Some (with_actor w me (rested a)) else None) (Adds w [])
    go true = same_book w (with_actor w me (rested a)) (ap (λ os. flat_map entry_of (by_point os)) (book_rested w me a (rested a) is refl))
    go false = tt

move_adds : (w : World) (m : AnyMove) → IsReached w → IfSome (next_any w m) (Adds w (move_entries w m))
move_adds w (made (Begin me op)) r = go (actor_of w me) refl
  where
    go : (o : Option Actor) → actor_of w me ≡ o → IfSome (moved w (Begin me op) o) (Adds w [])
    go None is = tt
    go (Some a) is = begin_adds w me op a a.line r is refl
move_adds w (made (Step me)) r = go (actor_of w me) refl
  where
    go : (o : Option Actor) → actor_of w me ≡ o → IfSome (moved w (Step me) o) (Adds w (step_entries w me o))
    go None is = tt
    go (Some a) is = step_adds w me a a.line r is refl
move_adds w (made (Give me)) r = go (actor_of w me) refl
  where
    go : (o : Option Actor) → actor_of w me ≡ o → IfSome (moved w (Give me) o) (Adds w [])
    go None is = tt
    go (Some a) is = give_adds w me a a.line r is refl
move_adds w (Rest me) r = go (actor_of w me) refl
  where
    go : (o : Option Actor) → actor_of w me ≡ o → IfSome (rest_of w me o) (Adds w [])
    go None is = tt
    go (Some a) is = rest_adds w me a a.line is

-- the history of a trace is that of the book of its world, and stays so
abbrev IsBooked : Traced → Type 0
IsBooked t = t.history ≡ completion_entries t.world

moved_booked : (t : Traced) (m : AnyMove) (w : World) → IsReached t.world → next_any t.world m ≡ Some w → IsBooked t → IsBooked (traced_move t m w)
moved_booked t m w r e h =
    history_moved t m w ∙ ap (λ es. es ++ move_entries t.world m) h
    ∙ sym (some_of (Adds t.world (move_entries t.world m)) (next_any t.world m) w e (move_adds t.world m r)) ∙ sym (ap completion_entries (world-traced_move t m w))

traced_booked : (ms : List AnyMove) (t u : Traced) → IsReached t.world → IsBooked t → trace ms t ≡ Some u → IsBooked u
traced_booked [] t u r h e = subst IsBooked (same_Some t u e) h
traced_booked (m ∷ ms) t u r h e = go (next_any t.world m) refl e (λ v. traced_booked ms v u)
  where
    go : (o : Option World) → next_any t.world m ≡ o → traced_on (trace ms) (traced_next t m o) ≡ Some u
        → ((v : Traced) → IsReached v.world → IsBooked v → trace ms v ≡ Some u → IsBooked u) → IsBooked u
    go None f g each = absurd (none-some u g)
    go (Some w) f g each =
        each (traced_move t m w) (subst IsReached (sym (world-traced_move t m w)) (reached_next t.world w m r f)) (moved_booked t m w r f h) g

-- the history of a traced world has just the entries of its operations that had their effect, by rising place
pub history_is : (t : Traced) → IsTraced t → t.history ≡ entries t.world
history_is t r =
    traced_booked r.moves (first_trace t.world.setup r.actors) t (record { actors = r.actors; moves = []; sized = r.sized; led = refl }) refl r.led ∙ sym (entries_booked t.world)

-- it leads to the queue that the chain from Head holds
pub history_plays : (t : Traced) → IsTraced t → PlaysToItsValues t
history_plays t r queue chain =
    subst (λ es. Plays empty es (queue_in t.world.setup.bits t.world.shared queue)) (sym (history_is t r)) (plays_to_the_values t.world (traced_reached t r) queue chain)

-- Head's count is the number of its pops
pub counts_pops : (t : Traced) → IsTraced t → CountsItsPops t
counts_pops t r = head_counts_pops t.world (traced_reached t r) ∙ ap (count_by is_pop) (sym (history_is t r))
