use Rattle.std.proofs.Common.{arith, ◌+◌, map, vec_len, vec_capacity, refl, ap, sym, subst, ◌∙◌, get_or}
use Rattle.std.specs.List.{All}
use Rattle.std.proofs.lemmas.List.{length-map, take_all}
use Rattle.std.proofs.lemmas.List.Elements.{All-same, All-push}
use Rattle.seat_pool.specs.Pools.{numbers_of, IsFrom}
use Rattle.seat_pool.proofs.Numbers.{numbers-next}
use Rattle.seat_pool.proofs.Kept.{numbered}
use Rattle.seat_pool.proofs.pools.Store.take_each.Goals.{in-Some, in-None}
use Rattle.seat_pool.proofs.pools.Store.take_each.Goals as goal

pub loop-place-preserved : goal.loop-place-preserved
loop-place-preserved g c =
    let store = c.args.self.now in
    let numbers = numbers_of g.C.Carrier.known store in
    let many = length-map store.home.first.value.items (λ s. (g.C.Carrier.known s).number) in
    elim c.match-take_any.branch [
      | in-Some w ↦
          let held = w.in-Some.held in let from = w.in-Some.ensures.from in record {
            from = subst (λ v. All (IsFrom store) v.items) (sym w.all-is)
                (All-same (IsFrom store) _ _ w.push_reserved.ensures.items (All-push (IsFrom store) c.loop-place.all.items held c.loop-place.invariant.from from));
            few = omega (arith, w.out-is, c.loop-place.invariant.few);
            many = omega (arith, ap vec_len w.all-is, w.push_reserved.ensures.len, c.loop-place.invariant.many);
            room = omega (arith, ap vec_capacity w.all-is, w.push_reserved.ensures.capacity, c.loop-place.invariant.room);
            numbers = λ none_out. ap (λ v. map (λ h. (g.C.Carrier.known h.seat).number) v.items) w.all-is
                ∙ numbers-next (λ h. (g.C.Carrier.known h.seat).number) numbers c.loop-place.place (c.loop-place.place + 1) held c.loop-place.all.items w.push_reserved.new.self.items refl
                (omega (arith, c.loop-place-test.true, c.places-place-end.ensures, store.seated, many))
                (numbered g.C.Carrier.is_seat g.C.Carrier.permits g.C.Carrier.known g.met.C.Carrier.seat_prop held.home.value store.home from.home held.place held.part held.seat held.belongs
                ∙ ap (λ k. get_or numbers k 0) w.in-Some.ensures.place)
                w.push_reserved.ensures.items (c.loop-place.invariant.numbers (sym w.out-is ∙ none_out));
          }
      | in-None w ↦ record {
        from = subst (λ v. All (IsFrom store) v.items) (sym w.all-is) c.loop-place.invariant.from;
        few = omega (arith, w.out-is, c.loop-place.invariant.few);
        many = omega (arith, ap vec_len w.all-is, c.loop-place.invariant.many);
        room = omega (arith, ap vec_capacity w.all-is, c.loop-place.invariant.room);
        numbers = λ none_out. absurd (omega (arith, w.out-is, none_out));
      }
    ]

pub returns-clause-numbers : goal.returns-clause-numbers
returns-clause-numbers g c none_out =
    let store = c.args.self.now in
    let many = length-map store.home.first.value.items (λ s. (g.C.Carrier.known s).number) in
    c.loop-place.invariant.numbers none_out
    ∙ take_all c.loop-place.place (numbers_of g.C.Carrier.known store) (omega (arith, c.loop-place-test.false, c.places-place-end.ensures, store.seated, many))
