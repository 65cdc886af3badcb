use Rattle.std.proofs.Common.{◌≡◌, length, refl, sym, subst, ap, ◌∙◌, arith}
use Rattle.node_arena.specs.Knowledge.{new_seat}
use Rattle.node_arena.specs.Plans.{Layout}
use Rattle.node_arena.specs.Beside.{slots_in, KnowsNow}
use Rattle.node_arena.specs.Arenas.{arena_of}
use Rattle.node_arena.proofs.Lifts.{none_held, none_hand}
use Rattle.node_arena.proofs.Meets.{spares_at, pairs_at, meets_at, parts_at, meeting, joined_as, grown_as, met_there, met_at, met_as, ready_as}
use Rattle.node_arena.proofs.arena.ArenaOf.meet.Goals as goal

pub split_seat-spare-requires : goal.split_seat-spare-requires
split_seat-spare-requires g c =
    let other = ready_as _ _ c.args.other.now c.self.view_is c.requires.other in
    (other.seat.sits.table, omega (arith, other.seat.arena.words), spares_at _ _ c.args.other.now.token.me _ (new_seat 0) other.seat.sits.seat)

pub join_seat-requires : goal.join_seat-requires
join_seat-requires g c =
    let one = ready_as _ _ c.args.one.now c.self.view_is c.requires.one in
    let other = ready_as _ _ c.args.other.now c.self.view_is c.requires.other in
    let me : c.replace-token.result.me ≡ c.args.other.now.token.me = ap (λ t. t.me) c.replace-token.ensures.value ∙ c.split_seat-spare.ensures.2 in (
      one.seat.sits.table,
      ap (λ t. t.table_id) c.replace-token.ensures.value ∙ (c.split_seat-spare.ensures.0 ∙ other.seat.sits.table),
      none_held _ (ap (λ m. length m.1) me ∙ c.requires.apart.1.0),
      omega (arith, one.seat.arena.words),
      pairs_at _ _ c.args.one.now.token.me _ _ _ c.replace-token.result.me one.seat.sits.seat
          (ap (λ m. m.0.plain) me ∙ other.seat.sits.seat) (ap (λ m. m.0.hand) me ∙ none_hand _ c.requires.apart.1.1),
    )

pub load-requires : goal.load-requires
load-requires g c =
    let one = ready_as _ _ c.args.one.now c.self.view_is c.requires.one in
    let other = ready_as _ _ c.args.other.now c.self.view_is c.requires.other in
    let joined = joined_as c.join_seat.new.seat.me c.args.one.now.token.me _ _ c.replace-token.result.me _ _ one.seat.sits.seat other.seat.sits.seat
    c.split_seat-spare.ensures.2 (ap (λ t. t.me) c.replace-token.ensures.value) c.join_seat.ensures.2 in
    (c.join_seat.ensures.0 ∙ one.seat.sits.table, omega (arith, one.seat.arena.words), meets_at _ _ c.join_seat.new.seat.me _ _ _ one.free other.free joined)

pub split_seat-requires : goal.split_seat-requires
split_seat-requires g c =
    let one = ready_as _ _ c.args.one.now c.self.view_is c.requires.one in
    let here = c.load.ensures.0 ∙ (c.join_seat.ensures.0 ∙ one.seat.sits.table) in
    let hand = c.load.ensures.2.2 ∙ (ap (λ m. m.0.hand) c.join_seat.ensures.2 ∙ none_hand _ c.requires.apart.0.1) in
    (here, omega (arith, one.seat.arena.words), parts_at _ _ c.load.new.seat.me _ _ (ap (λ y. y.0) c.load.ensures.2.0.seats) refl hand)

pub returns : goal.returns
returns g c =
    let one = ready_as _ _ c.args.one.now c.self.view_is c.requires.one in
    let other = ready_as _ _ c.args.other.now c.self.view_is c.requires.other in
    let put = ap (λ t. t.me) c.replace-token.ensures.value in
    let carried = c.join_seat.ensures.2 in
    let told = c.load.ensures.2 in
    let joined = joined_as c.join_seat.new.seat.me c.args.one.now.token.me _ _ c.replace-token.result.me _ _ one.seat.sits.seat other.seat.sits.seat
    c.split_seat-spare.ensures.2 put carried in
    let here = c.load.ensures.0 ∙ (c.join_seat.ensures.0 ∙ one.seat.sits.table) in
    met_as _ _ _ _ _ _ c.self.view_is
    (meeting (arena_of c.self.inside.plan c.self.inside.table.shared.key c.self.inside.table.shared.table_id) c.args.one.now c.args.other.now
    c.load.new.seat c.split_seat.new.seat c.split_seat.result one other (met_at _ _ _ _ _ one.seat.arena.key (met_there _ _ _ _ _ joined told.0))
    (ap length told.1 ∙ (ap (λ m. length m.1) carried ∙ c.requires.apart.0.0), ap slots_in told.2 ∙ (ap (λ m. slots_in m.0.hand) carried ∙ c.requires.apart.0.1))
    (subst (λ (z : Layout). KnowsNow z c.load.new.seat.me.0) one.seat.arena.key told.3)
    (grown_as _ _ _ c.args.one.now.token.me _ _ c.replace-token.result.me c.load.new.seat.me.0 one.seat.arena.key c.split_seat-spare.ensures.2 put carried told.4)
    c.split_seat.ensures.2 c.split_seat.ensures.4 (c.split_seat.ensures.0 ∙ here) (c.split_seat.ensures.3 ∙ here))
