-- What a seat learns by one call and then another.
use Rattle.std.proofs.Common.{◌≡◌, true, false, List, [], ◌∷◌, ◌++◌, length, Option, Some, None, sym, refl, ap, ◌∙◌, append-nil, append_assoc}
use Rattle.history.specs.declared.refusals.Refusal.{Refusal}
use Rattle.history.specs.declared.refusals.Refusal.TheVariants.{Closed}
use Rattle.carriers.specs.declared.items.ItemOf.{ItemOf}
use Rattle.carriers.specs.Deeds.{Deed, did_push, did_pop, did_shut, RunsTo, RunsToShut}
use Rattle.carriers.specs.Knowledge.{KnownOf}
use Rattle.carriers.specs.Answers.{AddsDeed, FindsDone, SeesMoreOf, PopAnswersOf, PushRefusedOf, PopRefusedOf}

module _ {A : Type 0} where
  -- a seat that makes no call sees no less
  pub sees_itself : (k : KnownOf A) → SeesMoreOf k k
  sees_itself k = record { number = refl; between = []; seen = sym (append-nil k.seen); mine = refl; notes = refl }

  -- a seat that was refused, and then was refused again
  pub sees_then : (a b c : KnownOf A) → SeesMoreOf a b → SeesMoreOf b c → SeesMoreOf a c
  sees_then a b c f g =
      record {
        number = g.number ∙ f.number;
        between = f.between ++ g.between;
        seen = g.seen ∙ ap (λ ds. ds ++ g.between) f.seen ∙ append_assoc a.seen f.between g.between;
        mine = g.mine ∙ f.mine;
        notes = g.notes ∙ f.notes;
      }

  -- a seat that was refused, and then had its effect
  pub adds_then : (a b c : KnownOf A) (d d' : Deed A) → d ≡ d' → SeesMoreOf a b → AddsDeed b d c → AddsDeed a d' c
  adds_then a b c d d' same f g =
      record {
        number = g.number ∙ f.number;
        between = f.between ++ g.between;
        seen = g.seen ∙ (λ i. (f.seen i ++ g.between) ++ same i ∷ []) ∙ ap (λ ds. ds ++ d' ∷ []) (append_assoc a.seen f.between g.between);
        mine = g.mine ∙ (λ i. f.mine i ++ same i ∷ []);
        notes = g.notes ∙ f.notes;
      }

  -- a seat that was refused, and then found the queue so
  pub finds_then : (Leaves : List (Deed A) → Type 0) (a b c : KnownOf A) → SeesMoreOf a b → FindsDone Leaves b c → FindsDone Leaves a c
  finds_then Leaves a b c f g =
      record {
        number = g.number ∙ f.number;
        between = f.between ++ g.between;
        seen = g.seen ∙ ap (λ ds. ds ++ g.between) f.seen ∙ append_assoc a.seen f.between g.between;
        leaves = g.leaves;
        mine = g.mine ∙ f.mine;
        notes = g.notes ∙ ap (λ ns. ns ++ length c.seen ∷ []) f.notes;
      }

  -- a seat that was refused, and then pushed this value
  pub pushes_then : (a b c : KnownOf A) (value value' : A) → value ≡ value' → SeesMoreOf a b → AddsDeed b (did_push b.number value) c → AddsDeed a (did_push a.number value') c
  pushes_then a b c value value' same f g = adds_then a b c (did_push b.number value) (did_push a.number value') (λ i. did_push (f.number i) (same i)) f g

  -- or shut the queue
  pub shuts_then : (a b c : KnownOf A) → SeesMoreOf a b → AddsDeed b (did_shut b.number) c → AddsDeed a (did_shut a.number) c
  shuts_then a b c f g = adds_then a b c (did_shut b.number) (did_shut a.number) (ap did_shut f.number) f g

  -- or was refused a push
  pub push_refused_then : (a b c : KnownOf A) (refusal : Refusal) → SeesMoreOf a b → PushRefusedOf b refusal c → PushRefusedOf a refusal c
  push_refused_then a b c Closed f g = finds_then RunsToShut a b c f g
  push_refused_then a b c _ f g = sees_then a b c f g

  -- or a pop
  pub pop_refused_then : (a b c : KnownOf A) (refusal : Refusal) → SeesMoreOf a b → PopRefusedOf b refusal c → PopRefusedOf a refusal c
  pop_refused_then a b c Closed f g = finds_then (λ ds. RunsTo ds true []) a b c f g
  pop_refused_then a b c _ f g = sees_then a b c f g

  -- or was answered by a pop
  pub answers_then : (a b c : KnownOf A) (front : Option (ItemOf A)) → SeesMoreOf a b → PopAnswersOf b front c → PopAnswersOf a front c
  answers_then a b c None f g = finds_then (λ ds. RunsTo ds false []) a b c f g
  answers_then a b c (Some v) f g = adds_then a b c (did_pop b.number v) (did_pop a.number v) (ap (λ n. did_pop n v) f.number) f g
