-- A running push: what it remembers before each line, and what its turns come to.
use Rattle.std.specs.Prelude.{◌≡◌, ℕ, ◌+◌, ◌<◌, if◌then◌else◌, nat_eq, List, Option, Some, None}
use Rattle.counted_ref.specs.Ref.{Ref, ref, ref_of, is_null, is_shut, same_ref}
use Rattle.line_table.specs.declared.lines.Line.{Line}
use Rattle.line_table.specs.declared.lines.Line.TheVariants.{E2, E3, E5, E6, E7, E9, E13, E17}
use Rattle.history.specs.declared.operations.Entry.TheVariants.{Push}
use Rattle.history.specs.declared.operations.Op.TheVariants.{Enq}
use Rattle.history.specs.declared.refusals.Refusal.{Refusal}
use Rattle.history.specs.declared.refusals.Refusal.TheVariants.{WornOut, Closed}
use Rattle.history.specs.declared.refusals.WornWord.{WornWord}
use Rattle.history.specs.declared.refusals.WornWord.TheVariants.{Next as OfNext, Tail as OfTail}
use Rattle.node_arena.specs.Machine.{Setup, Held, Actor}
use Rattle.node_arena.specs.Traces.{Event}
use Rattle.node_arena.specs.Prologues.{Prologue, begins, continues, after_prologue}
use Rattle.node_arena.specs.Arenas.{Arena}
use Rattle.node_arena.specs.declared.seats.Seat.{Seat}
use Rattle.node_arena.specs.Seats.{IsSeat, IsBefore, KeepsStored, KeepsSlots, DidStep, view}
use Rattle.node_arena.specs.Loads.{GivesSlot}
use Rattle.node_arena.specs.Turns.{failed_turns}
use Rattle.node_arena.specs.Paths.{ExtendsPath, FindsShut, Acts, FailedAt, EndedAt, IsRefusedAt}
use Rattle.node_arena.specs.Machine.{value_of}
use Rattle.free_list.specs.declared.outcomes.RowOutcome.{RowOutcome}
use Rattle.free_list.specs.declared.outcomes.RowOutcome.TheVariants.{Goes, Ends}
use Rattle.free_list.specs.declared.outcomes.Reply.{Reply}
use Rattle.free_list.specs.declared.outcomes.Reply.TheVariants.{Done as IsDone, Refused as IsRefused}
use Rattle.nonblocking.specs.declared.push_outcomes.Turn.{Turn}
use Rattle.nonblocking.specs.declared.push_outcomes.Turn.TheVariants.{Pushed, Failed, Refused as TurnRefused}

-- what a running push remembers
pub record Running : Type 0 where
  pub node : ℕ
  pub mark : ℕ
  pub val : ℕ
  pub tail : Ref
  pub next : Ref
  pub due : Option Reply

-- the registers of a push that has this node and this word of a value
abbrev pub registers_of : Held → ℕ → Running
registers_of h val = record { node = h.node; mark = h.mark; val = val; tail = ref 0 0; next = ref 0 0; due = None }

-- the node of a running push, with its mark
abbrev pub in_hand : Running → Held
in_hand a = record { node = a.node; mark = a.mark }

-- how a push sets out that has its node and this word of a value
abbrev pub pushing : ℕ → Prologue
pushing val = begins (Enq (value_of val).body)

-- what a running push makes of the number found at a line
abbrev pub follow : Setup → Running → Line → ℕ → RowOutcome Running
follow z a E2 n = Goes E3 a
follow z a E3 n =
    let b = record a { mark = (ref_of z.bits n).count } in
    if nat_eq (ref_of z.bits n).count z.limit then Ends (IsRefused (WornOut OfNext)) else Goes E5 b
follow z a E5 n = Goes E6 (record a { tail = ref_of z.bits n })
follow z a E6 n = Goes E7 (record a { next = ref_of z.bits n })
follow z a E7 n =
    if same_ref (ref_of z.bits n) a.tail
    then if is_null a.next then Goes E9 a
    else if is_shut z.bits a.next then Ends (IsRefused Closed)
    else if nat_eq a.tail.count z.limit then Ends (IsRefused (WornOut OfTail))
    else Goes E13 a
    else Goes E5 a
follow z a E9 n =
    let b = record a { due = Some IsDone } in
    if same_ref (ref_of z.bits n) a.next
    then if nat_eq a.tail.count z.limit then Ends IsDone else Goes E17 b
    else Goes E5 a
follow z a E13 n = Goes E5 a
follow z a E17 n = Ends IsDone
follow z a l n = Goes l a

-- a running push has the node in its actor's hand, with its mark, and the word of the value
abbrev pub HasNode : Actor → Running → Type 0
HasNode b a = record { node : b.node ≡ a.node; mark : b.mark ≡ a.mark; val : b.val ≡ value_of a.val }

-- and beside them these registers before a line
abbrev pub AgreesAt : Line → Actor → Running → Type 0
AgreesAt E6 b a = b.tail ≡ a.tail
AgreesAt E7 b a = (b.tail ≡ a.tail) × (b.next ≡ a.next)
AgreesAt E9 b a = (b.tail ≡ a.tail) × (b.next ≡ a.next)
AgreesAt E13 b a = (b.tail ≡ a.tail) × (b.next ≡ a.next)
AgreesAt E17 b a = b.tail ≡ a.tail
AgreesAt l b a = Unit {0}

-- a seat's actor, led there, stands before a line of a push, and the call has its registers
pub record CallIsAt {T : Type 0} (r : Arena) (s : Seat T) (prologue : Prologue) (l : Line) (a : Running) : Type 0 where
  pub before : IsBefore r s prologue l
  pub hand : HasNode (after_prologue r.plan.setup (view s).number prologue (view s).actor) a
  pub knows : AgreesAt l (after_prologue r.plan.setup (view s).number prologue (view s).actor) a

-- the seat made its step at a line, and the call made of the number found what the line says
pub record Follows {T : Type 0} (r : Arena) (s t : Seat T) (prologue : Prologue) (l : Line) (a : Running) (out : RowOutcome Running) : Type 0 where
  pub found : ℕ
  pub did : DidStep r s t prologue l found
  pub leads_to : out ≡ follow r.plan.setup a l found

-- a push stands before a line with the same node, mark and value, and no turn failed
pub record GoesOn {T : Type 0} (r : Arena) (t : Seat T) (l : Line) (a c : Running) (es : List Event) : Type 0 where
  pub stands : CallIsAt r t continues l c
  pub hand : in_hand c ≡ in_hand a
  pub val : c.val ≡ a.val
  pub never : failed_turns es ≡ 0

-- a turn failed
pub record TurnFailed {T : Type 0} (r : Arena) (t : Seat T) (a : Running) (es : List Event) : Type 0 where
  pub stands : CallIsAt r t continues E5 a
  pub once : failed_turns es ≡ 1
  pub last : FailedAt es

-- the call is over, with this pocket, since a word was found worn out
pub record FoundWorn {T : Type 0} (r : Arena) (s t : Seat T) (p : Option Held) (es : List Event) (word : WornWord) (refusal : Refusal) : Type 0 where
  pub seat : IsSeat r t
  pub over : (view t).actor.line ≡ None
  pub pocket : (view t).actor.pocket ≡ p
  pub never : failed_turns es ≡ 0
  pub is : refusal ≡ WornOut word
  pub cause : EndedAt r s (view t).ran es (IsRefusedAt r.plan.setup (view s).number (WornOut word))

-- the call is over, with its node in the pocket, since the queue was found shut
pub record SawShut {T : Type 0} (r : Arena) (s t : Seat T) (p : Option Held) (es : List Event) : Type 0 where
  pub seat : IsSeat r t
  pub over : (view t).actor.line ≡ None
  pub pocket : (view t).actor.pocket ≡ p
  pub never : failed_turns es ≡ 0
  pub finds : FindsShut (view s) (view t) es
  pub cause : EndedAt r s (view t).ran es (IsRefusedAt r.plan.setup (view s).number Closed)

-- why a turn ends its call: the queue was found shut, or Tail worn out
abbrev pub Stops : {T : Type 0} → Arena → Seat T → Seat T → Running → List Event → Refusal → Type 0
Stops r s t a es Closed = SawShut r s t (Some (in_hand a)) es
Stops r s t a es refusal = ExtendsPath (view s) (view t) es × FoundWorn r s t (Some (in_hand a)) es OfTail refusal

-- the body was pushed, and the call is over
pub record Linked {T : Type 0} (r : Arena) (s t : Seat T) (a : Running) (es : List Event) : Type 0 where
  pub seat : IsSeat r t
  pub over : (view t).actor.line ≡ None
  pub empty : (view t).actor.pocket ≡ None
  pub never : failed_turns es ≡ 0
  pub acts : Acts (view s) (view t) (Push (view s).number (value_of a.val).body) es

-- what E2 and E3 come to: the node is ready, or set aside
abbrev pub Filled : {T : Type 0} → Arena → Seat T → Seat T → Running → List Event → RowOutcome Running → Type 0
Filled r s t a es (Goes E5 c) = CallIsAt r t continues E5 c × (c.node ≡ a.node) × (c.val ≡ a.val) × (failed_turns es ≡ 0)
Filled r s t a es (Goes l c) = ⊥
Filled r s t a es (Ends (IsRefused refusal)) = FoundWorn r s t None es OfNext refusal
Filled r s t a es (Ends reply) = ⊥

-- the value is written into the node, and its next is cleared: E2 and E3
pub record Fills {T : Type 0} (r : Arena) (s t : Seat T) (a : Running) (out : RowOutcome Running) : Type 0 where
  pub stored : KeepsStored s t
  pub slots : KeepsSlots s t
  pub lines : List Event
  pub walks : ExtendsPath (view s) (view t) lines
  pub filled : Filled r s t a lines out

-- what E5 to E7 come to
abbrev pub TailRead : {T : Type 0} → Arena → Seat T → Seat T → Running → List Event → RowOutcome Running → Type 0
TailRead r s t a es (Goes E9 c) = ExtendsPath (view s) (view t) es × GoesOn r t E9 a c es
TailRead r s t a es (Goes E13 c) = ExtendsPath (view s) (view t) es × GoesOn r t E13 a c es
TailRead r s t a es (Goes E5 c) = ExtendsPath (view s) (view t) es × TurnFailed r t a es
TailRead r s t a es (Goes l c) = ⊥
TailRead r s t a es (Ends (IsRefused refusal)) = Stops r s t a es refusal
TailRead r s t a es (Ends reply) = ⊥

-- Tail was read, and what follows its node: E5 to E7
pub record ReadsTail {T : Type 0} (r : Arena) (s t : Seat T) (a : Running) (out : RowOutcome Running) : Type 0 where
  pub stored : KeepsStored s t
  pub slots : KeepsSlots s t
  pub lines : List Event
  pub looked : TailRead r s t a lines out

-- what a turn comes to
abbrev pub Turned : {T : Type 0} → Arena → Seat T → Seat T → Running → List Event → Turn → Type 0
Turned r s t a es Pushed = Linked r s t a es
Turned r s t a es Failed = ExtendsPath (view s) (view t) es × TurnFailed r t a es
Turned r s t a es (TurnRefused refusal) = Stops r s t a es refusal

-- the turn that pushes gives the slot that is out with the seat, and else those that are out are those that were
abbrev pub TurnMoves : {T : Type 0} → Arena → (body : ℕ) → Seat T → Seat T → Turn → Type 0
TurnMoves r body s t Pushed = GivesSlot r body s t
TurnMoves r body s t out = KeepsSlots s t

-- a turn of a push, or the end of one
pub record Turns {T : Type 0} (r : Arena) (s t : Seat T) (a : Running) (out : Turn) : Type 0 where
  pub stored : KeepsStored s t
  pub slots : TurnMoves r (value_of a.val).body s t out
  pub lines : List Event
  pub turned : Turned r s t a lines out

-- a push whose node is ready, after so many failed turns of its call, `spent` of them before
pub record Trying {T : Type 0} (r : Arena) (s t : Seat T) (a : Running) (spent n : ℕ) : Type 0 where
  pub stands : CallIsAt r t continues E5 a
  pub stored : KeepsStored s t
  pub slots : KeepsSlots s t
  pub lines : List Event
  pub walks : ExtendsPath (view s) (view t) lines
  pub failed : spent + failed_turns lines ≡ n
  pub last : spent < n → FailedAt lines
