-- The access of a seat's next step names a word of its table.
use Rattle.std.proofs.Common.{◌≡◌, ℕ, ◌+◌, ◌*◌, ◌<◌, List, [], ◌∷◌, length, Some, refl, ap, subst, ◌∙◌, arith}
use Rattle.atomic_table.specs.Table.{State}
use Rattle.line_table.specs.declared.lines.Line.{Line}
use Rattle.line_steps.specs.declared.actors.Setup.{Setup}
use Rattle.line_steps.specs.Actors.{Actor, Node}
use Rattle.line_steps.specs.Memory.{Shared, Word, Fresh, Free, Head, Tail, Tail_lock, Head_lock, Next, Value_of, word}
use Rattle.line_steps.specs.Lines.{action}
use Rattle.step_machine.specs.Words.{node_words, index, IsWord}
use Rattle.step_machine.specs.Tables.{word_index, word_step}
use Rattle.step_machine.specs.Machine.{actor_of}
use Rattle.step_machine.proofs.Tables.{place-word_step}
use Rattle.step_machine.proofs.Reached.{reached_in_range}
use Rattle.step_machine.proofs.AccessesNameWords.{each_access_names_a_word}
use Rattle.node_arena.specs.Traces.{Traced, IsTraced}
use Rattle.node_arena.specs.Prologues.{Prologue, after_prologue, CanStart}
use Rattle.node_arena.specs.Knowledge.{SeatView, View}
use Rattle.node_arena.specs.Plans.{Layout}
use Rattle.node_arena.specs.Places.{shared_words}
use Rattle.node_arena.specs.Rule.{Fitted, Holds}
use Rattle.node_arena.proofs.Tracing.{traced_reached}
use Rattle.node_arena.proofs.PrologueTraces.{Led, prologue_traced}

pub length-node_words : (bits : ℕ) (ns : List Node) → length (node_words bits ns) ≡ 2 * length ns
length-node_words bits [] = refl
length-node_words bits (n ∷ ns) = omega (arith, length-node_words bits ns)

-- a table that keeps the rule has two words for each node, and 6
pub words_there : (z : Layout) (s : State ℕ View) → Holds z s → length (shared_words s.words) ≡ 6 + 2 * z.setup.size
words_there z s h =
    let all : length h.trace.world.shared.nodes ≡ h.trace.world.setup.size = (reached_in_range h.trace.world (traced_reached h.trace h.reached)).shared.all_nodes in
    let same : h.trace.world.setup.size ≡ z.setup.size = ap (λ (x : Setup). x.size) h.setup in
    omega (arith, ap length h.words, length-node_words z.setup.bits h.trace.world.shared.nodes, all, same)

within : (m : Shared) (x : Word) → IsWord m x → index x < 6 + 2 * length m.nodes
within m Fresh h = omega arith
within m Free h = omega arith
within m Head h = omega arith
within m Tail h = omega arith
within m Tail_lock h = omega arith
within m Head_lock h = omega arith
within m (Next n) h = let up = h.1 in omega arith
within m (Value_of n) h = let up = h.1 in omega arith

-- where a seat's actor stands, led to a line: in a traced world of the arena's setup
pub record Stood (z : Layout) (me : ℕ) (a : Actor) (l : Line) : Type 0 where
  pub trace : Traced
  pub reached : IsTraced trace
  pub setup : trace.world.setup ≡ z.setup
  pub here : actor_of trace.world me ≡ Some a
  pub line : a.line ≡ Some l

pub stood : (z : Layout) (v : SeatView) (prologue : Prologue) (l : Line) → Fitted z v → CanStart prologue v.actor
    → (after_prologue z.setup v.number prologue v.actor).line ≡ Some l → Stood z v.number (after_prologue z.setup v.number prologue v.actor) l
stood z v prologue l f can line =
    let g = prologue_traced f.trace v.number v.actor prologue f.reached f.fits.actor can in
    let d : Led f.trace g.0 v.number (after_prologue z.setup v.number prologue v.actor) = subst (λ x. Led f.trace g.0 v.number (after_prologue x v.number prologue v.actor)) f.setup g.2 in
    record { trace = g.0; reached = g.1; setup = d.setup ∙ f.setup; here = d.here; line = line }

-- its access names a word of that world
pub accesses_a_word : (z : Layout) (me : ℕ) (a : Actor) (l : Line) → (s : Stood z me a l) → IsWord s.trace.world.shared (word (action z.setup me a l))
accesses_a_word z me a l s =
    let w = s.trace.world in
    subst (λ y. IsWord w.shared (word (action y me a l))) s.setup (each_access_names_a_word w (traced_reached s.trace s.reached) me a l s.here s.line)

-- the index of its access is that of one of the words
pub index_within : (z : Layout) (me : ℕ) (a : Actor) (l : Line) → Stood z me a l → word_index (word_step z.setup.bits (action z.setup me a l)) < 6 + 2 * z.setup.size
index_within z me a l s =
    let w = s.trace.world in
    let r = traced_reached s.trace s.reached in
    let all : length w.shared.nodes ≡ w.setup.size = (reached_in_range w r).shared.all_nodes in
    let same : w.setup.size ≡ z.setup.size = ap (λ (x : Setup). x.size) s.setup in
    let less : index (word (action z.setup me a l)) < 6 + 2 * length w.shared.nodes = within w.shared (word (action z.setup me a l)) (accesses_a_word z me a l s) in
    let at : word_index (word_step z.setup.bits (action z.setup me a l)) ≡ index (word (action z.setup me a l)) = place-word_step z.setup.bits (action z.setup me a l) in
    omega arith
