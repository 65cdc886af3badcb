-- A running call: what it remembers agrees with its seat's actor, line by line.
use Rattle.std.specs.Prelude.{◌≡◌, ℕ, ◌+◌, if◌then◌else◌, nat_eq, nat_lt, List, None, zero, suc}
use Rattle.counted_ref.specs.Ref.{ref_of, same_ref, is_null}
use Rattle.line_table.specs.declared.lines.Line.{Line}
use Rattle.line_table.specs.declared.lines.Line.TheVariants.{N1, N2, N3, N4, N5, F1, F2, F3}
use Rattle.history.specs.declared.refusals.WornWord.TheVariants.{Free as OfFree}
use Rattle.history.specs.declared.refusals.Refusal.TheVariants.{NoNode, WornOut}
use Rattle.history.specs.declared.operations.Op.TheVariants.{Enq, Deq}
use Rattle.node_arena.specs.Machine.{Setup, Held, Actor, with_node}
use Rattle.node_arena.specs.Traces.{Event}
use Rattle.node_arena.specs.Prologues.{Prologue, continues, begins, after_prologue}
use Rattle.node_arena.specs.Arenas.{Arena}
use Rattle.node_arena.specs.declared.seats.Seat.{Seat}
use Rattle.node_arena.specs.Seats.{IsBefore, IsReady, KeepsStored, KeepsName, KeepsSlots, DidStep, view, failed_of}
use Rattle.node_arena.specs.Turns.{failed_turns}
use Rattle.node_arena.specs.Paths.{Passes, HadNoEffect, SeesNoMore, added}
use Rattle.free_list.specs.declared.outcomes.Reply.TheVariants.{Done, Refused as IsRefused}
use Rattle.free_list.specs.declared.outcomes.RowOutcome.{RowOutcome}
use Rattle.free_list.specs.declared.outcomes.RowOutcome.TheVariants.{Goes, Ends}
use Rattle.free_list.specs.Registers.{Running}
use Rattle.free_list.specs.declared.turns.Turn.{Turn}
use Rattle.free_list.specs.declared.turns.Turn.TheVariants.{Took, Failed, Refused}
use Rattle.free_list.specs.declared.turns.Gave.{Gave}
use Rattle.free_list.specs.declared.turns.Gave.TheVariants.{Back, Again}

-- how a take sets out: its first turn begins an enqueue, and a later one goes on
abbrev pub taking : ℕ → Prologue
taking zero = begins (Enq 0)
taking (suc n) = continues

-- how a give back sets out: its first turn begins a dequeue, and a later one goes on
abbrev pub giving : ℕ → Prologue
giving zero = begins Deq
giving (suc n) = continues

-- what a running call makes of the number found at a line
abbrev pub follow : Setup → Running → Line → ℕ → RowOutcome Running
follow z a N1 n = Goes N2 (record a { f = n })
follow z a N2 n =
    let b = record a { top = ref_of z.bits n } in
    if is_null (ref_of z.bits n)
    then if nat_lt a.f z.size then Goes N5 b else Ends (IsRefused NoNode)
    else if nat_eq (ref_of z.bits n).count z.limit then Ends (IsRefused (WornOut OfFree))
    else Goes N3 b
follow z a N3 n = Goes N4 (record a { next = ref_of z.bits n })
follow z a N4 n =
    if same_ref (ref_of z.bits n) a.top then Goes (with_node z.kind) (record a { node = a.top.node; mark = a.next.count }) else Goes N1 a
follow z a N5 n = if nat_eq n a.f then Goes (with_node z.kind) (record a { node = a.f + 1; mark = 0 }) else Goes N1 a
follow z a F1 n = if nat_eq (ref_of z.bits n).count z.limit then Ends Done else Goes F2 (record a { top = ref_of z.bits n })
follow z a F2 n = Goes F3 a
follow z a F3 n = if same_ref (ref_of z.bits n) a.top then Ends Done else Goes F1 a
follow z a l n = Goes l a

-- the node of a running call, with its mark
abbrev pub in_hand : Running → Held
in_hand a = record { node = a.node; mark = a.mark }

-- the turn of a take that ends so: it failed where it is back at N1, and else has its node
abbrev pub turn_of : RowOutcome Running → Turn
turn_of (Goes N1 a) = Failed
turn_of (Goes l a) = Took (in_hand a)
turn_of (Ends (IsRefused refusal)) = Refused refusal
turn_of (Ends reply) = Failed

-- the turn of a give back that ends so
abbrev pub gave_of : RowOutcome Running → Gave
gave_of (Goes l a) = Again
gave_of (Ends reply) = Back

-- an actor that frees the node in its hand, before a dequeue
pub record Frees (b : Actor) (h : Held) : Type 0 where
  pub node : b.node ≡ h.node
  pub mark : b.mark ≡ h.mark
  pub early : b.due ≡ None

-- which of its actor's registers a running call has before a line
abbrev pub AgreesAt : Line → Actor → Running → Type 0
AgreesAt N2 b a = b.f ≡ a.f
AgreesAt N3 b a = b.top ≡ a.top
AgreesAt N4 b a = (b.top ≡ a.top) × (b.next ≡ a.next)
AgreesAt N5 b a = b.f ≡ a.f
AgreesAt F1 b a = Frees b (in_hand a)
AgreesAt F2 b a = Frees b (in_hand a) × (b.top ≡ a.top)
AgreesAt F3 b a = Frees b (in_hand a) × (b.top ≡ a.top)
AgreesAt l b a = Unit {0}

-- a seat's actor, led there, stands before a line, and the call has its registers
pub record CallIsAt {T : Type 0} (r : Arena) (s : Seat T) (prologue : Prologue) (l : Line) (a : Running) : Type 0 where
  pub before : IsBefore r s prologue l
  pub knows : AgreesAt l (after_prologue r.plan.setup (view s).number prologue (view s).actor) a

-- a seat's actor, led there, stands at the start of a give back's turn, with its node
pub record StartsGive {T : Type 0} (r : Arena) (s : Seat T) (prologue : Prologue) (h : Held) : Type 0 where
  pub before : IsBefore r s prologue F1
  pub frees : Frees (after_prologue r.plan.setup (view s).number prologue (view s).actor) h

-- the seat made its step at a line, and the call made of the number found what the line says
pub record Follows {T : Type 0} (r : Arena) (s t : Seat T) (prologue : Prologue) (l : Line) (a : Running) (out : RowOutcome Running) : Type 0 where
  pub found : ℕ
  pub did : DidStep r s t prologue l found
  pub leads_to : out ≡ follow r.plan.setup a l found

-- the way of a call so far: the lines that its seat went through, which keep what it stores, and at which it saw nothing
pub record Way {T : Type 0} (s t : Seat T) : Type 0 where
  pub stored : KeepsStored s t
  pub slots : KeepsSlots s t
  pub lines : List Event
  pub walks : Passes (view s) (view t) lines

-- the call went on to a line, where it stands, and no turn failed on the way
pub record GoesTo {T : Type 0} (r : Arena) (s t : Seat T) (l : Line) (a : Running) : Type 0 where
  pub way : Way s t
  pub never : failed_turns way.lines ≡ 0
  pub stands : CallIsAt r t continues l a

-- the call is over, and had no effect
pub record Leaves {T : Type 0} (r : Arena) (s t : Seat T) : Type 0 where
  pub ready : IsReady r t
  pub same : KeepsName s t
  pub slots : KeepsSlots s t
  pub lines : HadNoEffect s t
  pub seen : SeesNoMore s t
  pub failed : failed_of t ≡ failed_turns (added s t)
