-- One push and one pop of a value by hand: what they ask of a seat, and what they did.
use Rattle.std.specs.Prelude.{◌≡◌, ◌≢◌, ℕ, Some}
use Rattle.line_table.specs.declared.lines.Line.{Line}
use Rattle.line_table.specs.declared.lines.Line.TheVariants.{E9, D13}
use Rattle.step_machine.specs.Tables.{WordStep, word_step}
use Rattle.line_steps.specs.Lines.{action}
use Rattle.node_arena.specs.declared.seats.Seat.{Seat}
use Rattle.node_arena.specs.Arenas.{Arena}
use Rattle.node_arena.specs.Prologues.{Prologue, after_prologue, CanStart}
use Rattle.node_arena.specs.Plans.{PermitsLine}
use Rattle.node_arena.specs.Deeds.{item, pushed, popped}
use Rattle.node_arena.specs.Seats.{IsSeat, DidStep, role_of, view}
use Rattle.node_arena.specs.Hands.{HasSlot, KeepsKnown, AddsOwn}

-- a seat stands before a line with this body, and this step on a word is its next move
pub record MayGo {T : Type 0} (r : Arena) (s : Seat T) (prologue : Prologue) (l : Line) (body : ℕ) (x : WordStep) : Type 0 where
  pub seat : IsSeat r s
  pub leads : CanStart prologue (view s).actor
  pub line : (after_prologue r.plan.setup (view s).number prologue (view s).actor).line ≡ Some l
  pub access : word_step r.plan.setup.bits (action r.plan.setup (view s).number (after_prologue r.plan.setup (view s).number prologue (view s).actor) l) ≡ x
  pub permits : PermitsLine (role_of s) l
  pub carried : (after_prologue r.plan.setup (view s).number prologue (view s).actor).val.body ≡ body

-- a seat may push this body
abbrev pub MayPush : {T : Type 0} → Arena → Seat T → Prologue → (body : ℕ) → WordStep → Type 0
MayPush r s prologue body x = MayGo r s prologue E9 body x

-- a seat may pop a value with this body
abbrev pub MayPop : {T : Type 0} → Arena → Seat T → Prologue → (body : ℕ) → WordStep → Type 0
MayPop r s prologue body x = MayGo r s prologue D13 body x

-- the value that lay in the slot was pushed
abbrev pub PushedIt : {T : Type 0} → Arena → (before after : Seat T) → (slot : ℕ) → Type 0
PushedIt {T} r s t slot = (x : T) × HasSlot r s slot (Some x) × AddsOwn s t (pushed (view s).number x)

-- this value was popped, of whichever seat
abbrev pub PoppedIt : {T : Type 0} → (before after : Seat T) → T → Type 0
PoppedIt s t x = (from : ℕ) × AddsOwn s t (popped (view s).number (item from x))

-- a seat's step of a line found another number than this one, and since then the seat stores and knows the same
pub record LostStep {T : Type 0} (r : Arena) (before after : Seat T) (prologue : Prologue) (l : Line) (old : ℕ) : Type 0 where
  pub found : ℕ
  pub other : found ≢ old
  pub seat : Seat T
  pub did : DidStep r before seat prologue l found
  pub keeps : KeepsKnown seat after
