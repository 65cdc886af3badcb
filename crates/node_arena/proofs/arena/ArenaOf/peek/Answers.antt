use Rattle.std.proofs.Common.{◌<◌, ap, sym, ◌∙◌, subst, arith}
use Rattle.line_steps.specs.declared.actors.Setup.{Setup}
use Rattle.node_arena.specs.Arenas.{Arena}
use Rattle.node_arena.specs.Moments.{WasWord}
use Rattle.node_arena.specs.Beside.{words_of}
use Rattle.node_arena.proofs.Gathers.{look_there, look_within, peeks_beside, held_at}
use Rattle.node_arena.proofs.arena.ArenaOf.peek.Goals as goal

pub load_new_seat-requires : goal.load_new_seat-requires
load_new_seat-requires g c =
    let size = ap (λ (s : Setup). s.size) c.setup.ensures.value ∙ ap (λ (r : Arena). r.plan.setup.size) (sym c.self.view_is) in
    let there = look_there c.self.inside.plan c.self.inside.table.shared.key c.self.inside.table.shared.table_id c.args.word c.setup.result.size c.self.invariant.0 size (omega arith) in
    let at = subst (λ p. p < c.self.inside.table.shared.table_id.words) (sym c.place.ensures) there in (
      at,
      peeks_beside c.self.inside.plan _ _ _ c.self.invariant.0.key (subst (λ p. p < words_of c.self.inside.plan) (sym c.place.ensures)
          (look_within c.self.inside.plan c.args.word c.setup.result.size size (omega arith))),
    )

pub returns-then-word-setup-clause-held : goal.returns-then-word-setup-clause-held
returns-then-word-setup-clause-held g c =
    let size = ap (λ (s : Setup). s.size) c.setup.ensures.value ∙ ap (λ (r : Arena). r.plan.setup.size) (sym c.self.view_is) in
    subst (λ (r : Arena). WasWord r.plan c.args.word c.load_new_seat.result.0) c.self.view_is
    (held_at c.self.inside.plan c.self.inside.table.shared.key c.self.inside.table.shared.table_id c.place.result c.args.word c.setup.result.size
    c.load_new_seat.result.0 c.self.invariant.0 c.place.ensures size (omega arith) c.load_new_seat.ensures.2)
