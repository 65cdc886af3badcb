-- Head's count is the number of pops that had their effect.
use Rattle.std.proofs.Common.{◌≡◌, ℕ, Bool, true, false, if◌then◌else◌, Option, Some, None, IsSome, is_some, List, [], ◌∷◌, map, refl, sym, ap, ◌∙◌}
use Rattle.std.specs.List.{AllByRecursion, count_by}
use Rattle.history.specs.declared.operations.Reply.{Reply}
use Rattle.history.specs.declared.operations.Stamped.{Stamped}
use Rattle.history.specs.Entries.{is_pop}
use Rattle.history.specs.History.{IsPlaced, inserted, by_point}
use Rattle.step_machine.specs.Machine.{World, actor_of}
use Rattle.step_machine.specs.Completion.{is_value, due_of, completed_reply, completed, completion}
use Rattle.step_machine.specs.Entries.{entries}
use Rattle.step_machine.specs.Histories.{OfEachWorld}
use Rattle.step_machine.proofs.EachHistory.{reached_placed}
use Rattle.step_machine.proofs.Few.{one_more, count, count_is, has_value, pops_are_values, values_inserted}
use Rattle.step_machine.proofs.EachLegal.{head_counts_values_taken}

-- an operation that has a value has a place
abbrev ValueHasPlace : Stamped → Type 0
ValueHasPlace o = is_value o.reply ≡ true → is_some o.at ≡ true

value_has_place : (w : World) (o : Stamped) → IsPlaced o → ValueHasPlace (completed w o)
value_has_place w o h = go o.reply o.at h.placed
  where
    go : (reply : Option Reply) (at : Option ℕ) → (IsSome reply → IsSome at) → is_value (completed_reply reply at (due_of (actor_of w o.actor))) ≡ true → is_some at ≡ true
    go (Some reply) at placed e = placed refl
    go None (Some n) placed e = refl
    go None None placed e = e

values_have_places : (w : World) (ops : List Stamped) → AllByRecursion IsPlaced ops → AllByRecursion ValueHasPlace (map (completed w) ops)
values_have_places w [] h = tt
values_have_places w (o ∷ ops) h = (value_has_place w o h.0, values_have_places w ops h.1)

-- so all values are among the operations by rising place
values_rise : (os : List Stamped) → AllByRecursion ValueHasPlace os → count has_value (by_point os) ≡ count has_value os
values_rise [] h = refl
values_rise (o ∷ os) h = go (is_some o.at) (is_value o.reply) h.0 (values_inserted o (by_point os)) (values_rise os h.1)
  where
    go : (b v : Bool) → (v ≡ true → b ≡ true) → count has_value (inserted o (by_point os)) ≡ one_more v (count has_value (by_point os))
        → count has_value (by_point os) ≡ count has_value os
        → count has_value (if b then inserted o (by_point os) else by_point os) ≡ one_more v (count has_value os)
    go true v placed more ih = more ∙ ap (one_more v) ih
    go false true placed more ih = let e : false ≡ true = placed refl in cc
    go false false placed more ih = ih

-- Head's count is the number of pops
pub head_counts_pops : OfEachWorld (λ w. w.shared.head.count ≡ count_by is_pop (entries w))
head_counts_pops w r =
    head_counts_values_taken w r
    ∙ sym (count_is has_value (completion w))
    ∙ sym (values_rise (completion w) (values_have_places w w.operations (reached_placed w r).each))
    ∙ sym (pops_are_values (by_point (completion w)))
    ∙ count_is is_pop (entries w)
