-- What was seen of values before a step is seen after it, as what was seen of numbers is.
use Rattle.std.proofs.Common.{◌≡◌, ◌≢◌, ⊎_elim, ℕ, ◌≤◌, Bool, Option, List, [], ◌∷◌, ◌++◌, length, refl, sym, ap, ◌∙◌, subst, append-nil, append_assoc, length-append, arith}
use mathlib.Core.List.{IsPrefix}
use mathlib.Core.Option.{some, some-injective}
use lib.ListN.{get_elem?}
use Rattle.atomic_table.specs.Table.{Me}
use Rattle.atomic_table.proofs.Lists.{at_map, set_else}
use Rattle.history.specs.declared.operations.Entry.{Entry}
use Rattle.history.specs.declared.operations.Entry.TheVariants.{Push, Pop, Shut}
use Rattle.step_machine.proofs.StampsLists.{same_or_not}
use Rattle.node_arena.specs.Knowledge.{View, seated, knows}
use Rattle.node_arena.specs.Rule.{IsMember}
use Rattle.node_arena.specs.Beside.{Beside, words_of, plain_of, plain_state, Carried, CarriedBy, Effect, EffectBy}
use Rattle.node_arena.specs.Courses.{IsStep, SeenValuesAreSeen}
use Rattle.node_arena.proofs.KnownRuns.{prefixes, set_there}
use Rattle.node_arena.proofs.Loads.{length-matches}
use Rattle.node_arena.proofs.Courses.{seen_in_order, told_steps}

-- what begins a list and is no longer than what else begins it begins that too
shorter : {A : Type 0} (xs ys rs ss : List A) → xs ++ rs ≡ ys ++ ss → length xs ≤ length ys → IsPrefix xs ys
shorter xs ys rs ss e less = ⊎_elim (λ (p : IsPrefix xs ys). p) (λ (p : IsPrefix ys xs). turned p.0 p.1) (prefixes xs ys rs ss e)
  where
    turned : (more : List _) → ys ++ more ≡ xs → IsPrefix xs ys
    turned [] q = ([], append-nil xs ∙ (sym q ∙ append-nil ys))
    turned (m ∷ ms) q = absurd (let c = ap length q in omega (arith, c, less, length-append ys (m ∷ ms)))

module _ {T : Type 0} where
  -- a step's seat sees no less of values than it had seen
  sees_on : (n : ℕ) (es : List Entry) (w : Beside T) (held : List (ℕ × Option T)) (w' : Beside T) (held' : List (ℕ × Option T)) → Effect n es w held w' held' → IsPrefix w.deeds w'.deeds
  sees_on n [] w held w' held' e = (e.2.0, sym e.2.1)
  sees_on n (Push m b ∷ es) w held w' held' e = let d = e.4 in (d.0 ++ _, sym (append_assoc w.deeds d.0 _) ∙ sym d.1)
  sees_on n (Pop m t ∷ es) w held w' held' e = let d = e.3 in (d.0 ++ _, sym (append_assoc w.deeds d.0 _) ∙ sym d.1)
  sees_on n (Shut m ∷ es) w held w' held' e = let d = e.2 in (d.0 ++ _, sym (append_assoc w.deeds d.0 _) ∙ sym d.1)

  pub values_seen : SeenValuesAreSeen T
  values_seen z s s' id prologue n me me' carries h k at views is told seeing j w v there plain = ⊎_elim here else (same_or_not j id)
    where
      g : IsStep z (plain_state (words_of z) s) (plain_state (words_of z) s')
      g = told_steps z s s' id prologue n me me' at views is told

      here : j ≡ id → IsPrefix w.deeds me'.0.deeds
      here e =
          let one : w ≡ me.0 = some-injective w me.0 (sym there ∙ (ap (get_elem? s.views) e ∙ at)) in
          subst (λ (x : Beside T). IsPrefix x.deeds me'.0.deeds) (sym one)
          (sees_on (knows me.0.plain).number told.1.0 me.0 me.1 me'.0 me'.1 (subst (λ (b : Bool). EffectBy b (knows me.0.plain).number told.1.0 me me') carries told.1.2))

      carried : Carried z k.base.trace.history s'
      carried = subst (λ (b : Bool). CarriedBy b z k.base.trace.history s') carries k.values

      mine : get_elem? s'.views id ≡ some me'.0
      mine = ap (λ vs. get_elem? vs id) views ∙ set_there s.views id me.0 me'.0 at

      else : j ≢ id → IsPrefix w.deeds me'.0.deeds
      else ne =
          let still : get_elem? s'.views j ≡ some w = ap (λ vs. get_elem? vs j) views ∙ (set_else s.views id j me'.0 ne ∙ there) in
          let a = carried.known j w still in
          let b = carried.known id me'.0 mine in
          let now : me'.0.plain ≡ seated (knows me'.0.plain) = ap (λ (y : Me ℕ View). y.0) told.0.0 in
          let member : IsMember (plain_state (words_of z) s) v = (j, 0, seated v, at_map plain_of s.views j w there ∙ ap some plain, refl) in
          let before : IsPrefix v.seen g.after.seen = seen_in_order z (plain_state (words_of z) s) (plain_state (words_of z) s') h.base k.base g v seeing member in
          shorter w.deeds me'.0.deeds a.rest b.rest (sym a.begins ∙ b.begins)
          (omega (
            arith,
            length-matches v.seen w.deeds (a.matches v plain),
            length-matches (knows me'.0.plain).seen me'.0.deeds (b.matches (knows me'.0.plain) now),
            ap length before.1,
            length-append v.seen before.0,
          ))
