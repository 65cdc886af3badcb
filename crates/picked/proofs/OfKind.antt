-- Which kind the arena of a queue is of: that of its algorithm, whichever its split.
use Rattle.std.proofs.Common.{◌≡◌, ◌∙◌}
use Rattle.line_table.specs.declared.lines.Kind.{Kind}
use Rattle.node_arena.specs.Seats.{setup_of}
use Rattle.arena_queue.specs.declared.algorithms.Algorithm.{Ghosts}
use Rattle.picked.specs.declared.values.SplitOf.{SplitOf}
use Rattle.picked.specs.declared.values.SplitOf.TheVariants.{Bits16, Bits20, Bits24, Bits28, Bits32}
use Rattle.picked.specs.Values.{arena_of}

module _ {T L : Type 0} {a : Ghosts L 16} {b : Ghosts L 20} {c : Ghosts L 24} {d : Ghosts L 28} {e : Ghosts L 32} (k : Kind)
    (ka : a.kind ≡ k) (kb : b.kind ≡ k) (kc : c.kind ≡ k) (kd : d.kind ≡ k) (ke : e.kind ≡ k) where
  pub is_of_kind : (q : SplitOf T L a b c d e) → (setup_of (arena_of q)).kind ≡ k
  is_of_kind (Bits16 q) = q.runs ∙ ka
  is_of_kind (Bits20 q) = q.runs ∙ kb
  is_of_kind (Bits24 q) = q.runs ∙ kc
  is_of_kind (Bits28 q) = q.runs ∙ kd
  is_of_kind (Bits32 q) = q.runs ∙ ke
