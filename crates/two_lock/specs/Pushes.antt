-- A running push: what it remembers before each line, and what it comes to.
use Rattle.std.specs.Prelude.{◌≡◌, ℕ, ◌+◌, ◌<◌, Bool, true, false, if◌then◌else◌, nat_eq, List, Option, Some, None, Result, Ok, Err}
use Rattle.counted_ref.specs.Ref.{Ref, ref, ref_of, null, same_ref}
use Rattle.line_table.specs.declared.lines.Line.{Line}
use Rattle.line_table.specs.declared.lines.Line.TheVariants.{A1, A2, A3, A4, A5, A6, A7}
use Rattle.history.specs.declared.operations.Entry.TheVariants.{Push}
use Rattle.history.specs.declared.operations.Op.TheVariants.{Enq}
use Rattle.history.specs.declared.operations.Reply as replies
use Rattle.history.specs.declared.operations.Reply.TheVariants as reply
use Rattle.history.specs.declared.refusals.Refusal.{Refusal}
use Rattle.history.specs.declared.refusals.Refusal.TheVariants.{Closed}
use Rattle.node_arena.specs.Machine.{Setup, Held, Actor}
use Rattle.node_arena.specs.Traces.{Event}
use Rattle.node_arena.specs.Prologues.{Prologue, begins, continues, after_prologue}
use Rattle.node_arena.specs.Arenas.{Arena}
use Rattle.node_arena.specs.declared.seats.Seat.{Seat}
use Rattle.node_arena.specs.Seats.{IsSeat, IsBefore, KeepsStored, KeepsSlots, DidStep, view}
use Rattle.arena_queue.specs.Answers.{PushMoves}
use Rattle.node_arena.specs.Turns.{failed_turns}
use Rattle.node_arena.specs.Paths.{ExtendsPath, FindsShut, Acts, FailedAt, EndedAt, IsRefusedAt}
use Rattle.node_arena.specs.Machine.{value_of}
use Rattle.free_list.specs.declared.outcomes.RowOutcome.{RowOutcome}
use Rattle.free_list.specs.declared.outcomes.RowOutcome.TheVariants.{Goes, Ends}
use Rattle.free_list.specs.declared.outcomes.Reply.{Reply}
use Rattle.free_list.specs.declared.outcomes.Reply.TheVariants.{Done, Refused as IsRefused}

-- what a running push remembers
pub record Running : Type 0 where
  pub node : ℕ
  pub mark : ℕ
  pub val : ℕ
  pub tail : Ref
  pub due : Option Reply

-- the registers of a push that has this node and this word of a value
abbrev pub registers_of : Held → ℕ → Running
registers_of h val = record { node = h.node; mark = h.mark; val = val; tail = ref 0 0; due = None }

-- where a push ends once the lock was let go: refused where that is due, else done
abbrev pub left_as : Option Reply → RowOutcome Running
left_as (Some (IsRefused refusal)) = Ends (IsRefused refusal)
left_as _ = Ends Done

-- how a push sets out that has its node and this word of a value
abbrev pub pushing : ℕ → Prologue
pushing val = begins (Enq (value_of val).body)

-- what a running push makes of the number found at a line
abbrev pub follow : Setup → Running → Line → ℕ → RowOutcome Running
follow z a A1 n = Goes A2 a
follow z a A2 n = Goes A3 a
follow z a A3 n = if nat_eq n 0 then Goes A4 a else Goes A3 a
follow z a A4 n = Goes A5 (record a { tail = ref_of z.bits n })
follow z a A5 n =
    if same_ref (ref_of z.bits n) null then Goes A6 (record a { due = Some Done }) else Goes A7 (record a { due = Some (IsRefused Closed) })
follow z a A6 n = Goes A7 a
follow z a A7 n = left_as a.due
follow z a l n = Goes l a

-- whether a try of the lock got it
abbrev pub has_lock : RowOutcome Running → Bool
has_lock (Goes A4 a) = true
has_lock outcome = false

-- a running push has the node in its actor's hand, with its mark, and the word of the value
abbrev pub HasNode : Actor → Running → Type 0
HasNode b a = record { node : b.node ≡ a.node; mark : b.mark ≡ a.mark; val : b.val ≡ value_of a.val }

-- the reply that is due, in the words of the machine
abbrev pub told_by : Option Reply → Option replies.Reply
told_by (Some (IsRefused refusal)) = Some (reply.Refused refusal)
told_by _ = Some reply.Done

-- and beside them these registers before a line
abbrev pub AgreesAt : Line → Actor → Running → Type 0
AgreesAt A5 b a = b.tail ≡ a.tail
AgreesAt A6 b a = b.due ≡ told_by a.due
AgreesAt A7 b a = b.due ≡ told_by a.due
AgreesAt l b a = Unit {0}

-- a seat's actor, led there, stands before a line of a push, and the call has its registers
pub record CallIsAt {T : Type 0} (r : Arena) (s : Seat T) (prologue : Prologue) (l : Line) (a : Running) : Type 0 where
  pub before : IsBefore r s prologue l
  pub hand : HasNode (after_prologue r.plan.setup (view s).number prologue (view s).actor) a
  pub knows : AgreesAt l (after_prologue r.plan.setup (view s).number prologue (view s).actor) a

-- the seat made its step at a line, and the call made of the number found what the line says
pub record Follows {T : Type 0} (r : Arena) (s t : Seat T) (prologue : Prologue) (l : Line) (a : Running) (out : RowOutcome Running) : Type 0 where
  pub found : ℕ
  pub did : DidStep r s t prologue l found
  pub leads_to : out ≡ follow r.plan.setup a l found

-- the node of a running push, with its mark
abbrev pub in_hand : Running → Held
in_hand a = record { node = a.node; mark = a.mark }

-- the node was linked
pub record NodeLinked {T : Type 0} (s t : Seat T) (a : Running) (es : List Event) : Type 0 where
  pub empty : (view t).actor.pocket ≡ None
  pub acts : Acts (view s) (view t) (Push (view s).number (value_of a.val).body) es

-- the queue was found shut, and the node is in the pocket
pub record SawShut {T : Type 0} (r : Arena) (s t : Seat T) (a : Running) (es : List Event) (refusal : Refusal) : Type 0 where
  pub pocket : (view t).actor.pocket ≡ Some (in_hand a)
  pub is : refusal ≡ Closed
  pub finds : FindsShut (view s) (view t) es
  pub cause : EndedAt r s (view t).ran es (IsRefusedAt r.plan.setup (view s).number Closed)

-- what the lines under the lock come to
abbrev pub PushedUnderLock : {T : Type 0} → Arena → Seat T → Seat T → Running → List Event → Result (Unit {0}) Refusal → Type 0
PushedUnderLock r s t a es (Ok x) = NodeLinked s t a es
PushedUnderLock r s t a es (Err refusal) = SawShut r s t a es refusal

-- the call is over: the node was linked, or the queue was found shut
pub record PushesUnderLock {T : Type 0} (r : Arena) (s t : Seat T) (a : Running) (out : Result (Unit {0}) Refusal) : Type 0 where
  pub seat : IsSeat r t
  pub over : (view t).actor.line ≡ None
  pub stored : KeepsStored s t
  pub slots : PushMoves r (value_of a.val).body s t out
  pub lines : List Event
  pub never : failed_turns lines ≡ 0
  pub links : PushedUnderLock r s t a lines out

-- a push that has its node, after so many failed turns of its call, `spent` of them before it had the node
pub record Trying {T : Type 0} (r : Arena) (s t : Seat T) (h : Held) (val spent n : ℕ) : Type 0 where
  pub stands : CallIsAt r t continues A3 (registers_of h val)
  pub stored : KeepsStored s t
  pub slots : KeepsSlots s t
  pub lines : List Event
  pub walks : ExtendsPath (view s) (view t) lines
  pub failed : spent + failed_turns lines ≡ n
  pub last : spent < n → FailedAt lines
