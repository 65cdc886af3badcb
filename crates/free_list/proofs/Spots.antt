-- The word that a seat's next move accesses has a place in the table.
use Rattle.std.proofs.Common.{subst}
use Rattle.std.specs.Coded.{Unit-prop, le_prop}
use Rattle.std.proofs.Math.Logic.{∥∥₁_elim}
use Rattle.line_table.specs.declared.lines.Line.{Line}
use Rattle.node_arena.specs.Machine.{Shared, IsWord, WordStep}
use Rattle.node_arena.specs.Prologues.{Prologue, after_prologue}
use Rattle.node_arena.specs.Arenas.{Arena}
use Rattle.node_arena.specs.declared.seats.Seat.{Seat}
use Rattle.node_arena.specs.Seats.{MayStep, view}
use Rattle.node_arena.proofs.There.{Stood, stood, accesses_a_word}
use Rattle.free_list.specs.declared.words.Word.{Word}
use Rattle.free_list.specs.declared.words.Word.TheVariants.{Fresh, Free, Head, Tail, TailLock, HeadLock, Next, Value}
use Rattle.free_list.specs.Words.{HasPlace, Accesses, machine_word}

some_node : (m : Shared) (w : Word) → IsWord m (machine_word w) → HasPlace w
some_node m Fresh h = tt
some_node m Free h = tt
some_node m Head h = tt
some_node m Tail h = tt
some_node m TailLock h = tt
some_node m HeadLock h = tt
some_node m (Next n) h = h.0
some_node m (Value n) h = h.0

HasPlace-prop : (w : Word) → IsProp (HasPlace w)
HasPlace-prop (Next n) = le_prop
HasPlace-prop (Value n) = le_prop
HasPlace-prop _ = Unit-prop

pub has_place : {T : Type 0} (r : Arena) (s : Seat T) (prologue : Prologue) (l : Line) (w : Word) (x : WordStep) → MayStep r s prologue l x → Accesses r s prologue l w → HasPlace w
has_place r s prologue l w x may names =
    ∥∥₁_elim may.seat.sits.fitted (HasPlace-prop w) (λ fitted.
    let at : Stood r.plan (view s).number (after_prologue r.plan.setup (view s).number prologue (view s).actor) l = stood r.plan (view s) prologue l fitted may.leads may.line in
    some_node at.trace.world.shared w (subst (IsWord at.trace.world.shared) names (accesses_a_word r.plan (view s).number _ l at)))
