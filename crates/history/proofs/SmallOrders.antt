-- Small histories that are linearizable, each with an order that shows it, and one in which an actor's operations overlap.
use Rattle.std.proofs.Common.{◌<◌, ◌⊎◌, inl, inr, [], ◌∷◌, refl, arith}
use Rattle.std.proofs.lemmas.List.Sorted.{IsPermutation-refl}
use Rattle.history.specs.declared.operations.Reply.TheVariants.{Done, Value, Empty}
use Rattle.history.specs.Linearizability.{IsLinearizable, EndsBefore, IsOneAtATime}
use Rattle.history.specs.SmallHistories.{five, push, pending_push, pop, pending_push_taken, overlapping_pop_is_empty, own_pop_during_push}

pub pending_push_is : IsLinearizable pending_push_taken
pending_push_is = record {
  order = record { operation = pending_push 1; reply = Done } ∷ record { operation = pop 2 2 3 (Value five); reply = Value five } ∷ [];
  left_out = [];
  each_once = IsPermutation-refl pending_push_taken;
  only_pending_left_out = tt;
  replies = (tt, (refl, tt));
  timely = ((omega arith, tt), (tt, tt));
  runs = (refl, (refl, tt));
}

pub overlapping_is : IsLinearizable overlapping_pop_is_empty
overlapping_is = record {
  order = record { operation = pop 2 2 4 Empty; reply = Empty } ∷ record { operation = push 1 3; reply = Done } ∷ [];
  left_out = [];
  each_once = record { moves = (0, 1) ∷ []; below = (omega arith, omega arith, tt); is = refl };
  only_pending_left_out = tt;
  replies = (refl, (refl, tt));
  timely = ((omega arith, tt), (tt, tt));
  runs = (refl, (refl, tt));
}

pub own_overlap_is : IsLinearizable own_pop_during_push
own_overlap_is = record {
  order = record { operation = pop 1 2 4 Empty; reply = Empty } ∷ record { operation = push 1 3; reply = Done } ∷ [];
  left_out = [];
  each_once = record { moves = (0, 1) ∷ []; below = (omega arith, omega arith, tt); is = refl };
  only_pending_left_out = tt;
  replies = (refl, (refl, tt));
  timely = ((omega arith, tt), (tt, tt));
  runs = (refl, (refl, tt));
}

pub own_overlap_overlaps : IsOneAtATime own_pop_during_push → ⊥
own_overlap_overlaps h = go (h 0 1 (push 1 3) (omega arith) (omega arith) refl)
  where
    go : EndsBefore (push 1 3) (pop 1 2 4 Empty) ⊎ EndsBefore (pop 1 2 4 Empty) (push 1 3) → ⊥
    go (inl e) = let before : 3 < 2 = e in omega arith
    go (inr e) = let before : 4 < 1 = e in omega arith
