use Rattle.std.proofs.Common.{◌≡◌, length, refl, sym, ap, ◌∙◌, arith}
use Rattle.node_arena.specs.Beside.{slots_in}
use Rattle.node_arena.proofs.Lifts.{none_held, none_hand}
use Rattle.ring_queue.specs.Plans.{Layout}
use Rattle.ring_queue.specs.Beside.{GrowsBy, GrowsPlaced, left_as_it_is}
use Rattle.ring_queue.proofs.Tokens.{spares_at, pairs_at, meets_at, parts_at, joined_as, grown_as}
use Rattle.ring_queue.proofs.queue.RingQueue.meet_at_rest.Goals as goal

pub split_seat-spare-requires : goal.split_seat-spare-requires
split_seat-spare-requires g c =
    (c.requires.other.sits.table, omega (arith, c.args.self.now.laid.words), spares_at _ _ c.args.other.now.token.me _ c.requires.other.sits.seat c.requires.other.rests)

pub join_seat-requires : goal.join_seat-requires
join_seat-requires g c =
    let me : c.replace-token.result.me ≡ (left_as_it_is c.args.other.now.token.me.0, c.args.other.now.token.me.1) = ap (λ t. t.me) c.replace-token.ensures.value ∙ c.split_seat-spare.ensures.2 in (
      c.requires.one.sits.table,
      ap (λ t. t.table_id) c.replace-token.ensures.value ∙ (c.split_seat-spare.ensures.0 ∙ c.requires.other.sits.table),
      none_held _ (ap (λ m. length m.1) me ∙ c.requires.apart.1.0),
      omega (arith, c.args.self.now.laid.words),
      pairs_at _ _ _ c.args.one.now.token.me c.replace-token.result.me _ _ c.requires.one.sits.seat (ap (λ m. m.0.plain) me ∙ c.requires.other.sits.seat)
          (ap (λ m. m.0.hand) me ∙ none_hand _ c.requires.apart.1.1) c.requires.one.rests c.requires.other.rests,
    )

pub load-requires : goal.load-requires
load-requires g c =
    let joined = joined_as c.join_seat.new.seat.me c.args.one.now.token.me _ _ c.replace-token.result.me _ _ c.requires.one.sits.seat
    c.requires.other.sits.seat c.split_seat-spare.ensures.2 (ap (λ t. t.me) c.replace-token.ensures.value) c.join_seat.ensures.2 in
    (c.join_seat.ensures.0 ∙ c.requires.one.sits.table, omega (arith, c.args.self.now.laid.words), meets_at _ _ _ c.join_seat.new.seat.me _ _ joined)

pub split_seat-requires : goal.split_seat-requires
split_seat-requires g c =
    (c.load.ensures.0 ∙ (c.join_seat.ensures.0 ∙ c.requires.one.sits.table), omega (arith, c.args.self.now.laid.words), parts_at _ _ c.load.new.seat.me _ _ (ap (λ y. y.0) c.load.ensures.2.0.seats) refl)

pub returns-clause-apart : goal.returns-clause-apart
returns-clause-apart g c =
    let told = c.load.ensures.2 in
    let joined = c.join_seat.ensures.2 in
    let first = c.split_seat.ensures.2 in
    let second = c.split_seat.ensures.4 in
    let held = ap (λ y. length y.1) first ∙ (ap length told.1 ∙ (ap (λ m. length m.1) joined ∙ c.requires.apart.0.0)) in
    let out = ap (λ y. slots_in y.0.hand) first ∙ (ap slots_in told.2 ∙ (ap (λ m. slots_in m.0.hand) joined ∙ c.requires.apart.0.1)) in
    ((held, out), (ap (λ y. length y.1) second, ap (λ y. slots_in y.0.hand) second))

pub returns-clause-values : goal.returns-clause-values
returns-clause-values g c = λ carries.
    let all = grown_as GrowsBy c.args.self.now.table.shared.key.carries c.join_seat.new.seat.me c.args.one.now.token.me _ _ c.replace-token.result.me c.load.new.seat.me.0
    (ap (λ (z : Layout). z.carries) c.args.self.now.laid.key ∙ carries) c.split_seat-spare.ensures.2 (ap (λ t. t.me) c.replace-token.ensures.value) c.join_seat.ensures.2 c.load.ensures.2.5 in
    let first = ap (λ y. y.0.deeds) c.split_seat.ensures.2 in
    let second = ap (λ y. y.0.deeds) c.split_seat.ensures.4 in
    record { same = second ∙ sym first; first = (all.0.0, first ∙ all.0.1); second = (all.1.0.0, second ∙ all.1.0.1) }

pub returns-clause-said : goal.returns-clause-said
returns-clause-said g c = λ placed.
    let all = grown_as GrowsPlaced c.args.self.now.table.shared.key.placed c.join_seat.new.seat.me c.args.one.now.token.me _ _ c.replace-token.result.me c.load.new.seat.me.0
    (ap (λ (z : Layout). z.placed) c.args.self.now.laid.key ∙ placed) c.split_seat-spare.ensures.2 (ap (λ t. t.me) c.replace-token.ensures.value) c.join_seat.ensures.2 c.load.ensures.2.6 in
    let first = ap (λ y. y.0.placing.deeds) c.split_seat.ensures.2 in
    let second = ap (λ y. y.0.placing.deeds) c.split_seat.ensures.4 in
    record { same = second ∙ sym first; first = (all.0.0, first ∙ all.0.1); second = (all.1.0.0, second ∙ all.1.0.1) }
