-- No actor's operations overlap in a history, said in the words of histories.
use Rattle.std.proofs.Common.{◌≡◌, ◌⊎◌, inl, inr, true, map, get_or, arith}
use Rattle.std.specs.List.{filter}
use Rattle.std.proofs.lemmas.Option.{IfSome_then}
use Rattle.std.proofs.lemmas.List.Elements.{filter_passes}
use Rattle.std.proofs.lemmas.List.Kept.{AllPairs-filter}
use Rattle.history.specs.Linearizability.{EndsBefore, IsOneAtATime}
use Rattle.step_machine.specs.Below.{Stamped}
use Rattle.step_machine.specs.Machine.{opening, made, run}
use Rattle.step_machine.specs.Stamps.{has_trace, HasNoEffect, DoNotOverlapOrRest, AfterMoves, AfterCalls}
use Rattle.step_machine.proofs.StampsLaws.{operations_do_not_overlap, operations_do_not_overlap_or_rest}

-- after calls no actor's operations overlap
pub calls_one_at_a_time : AfterCalls (λ w. IsOneAtATime w.operations)
calls_one_at_a_time s actors moves =
    IfSome_then (run (map made moves) (opening s actors)) (operations_do_not_overlap s actors moves)
    (λ w h i j d lt within same. inl (h i j d lt within same))

-- an operation that ended or took effect is none that had no effect
traced : (o : Stamped) → has_trace o ≡ true → HasNoEffect o → ⊥
traced o trace none = cc (trace, none.no_last, none.no_place)

-- after rests too no operations of an actor overlap that ended or took effect
pub traced_one_at_a_time : AfterMoves (λ moves w. IsOneAtATime (filter has_trace w.operations))
traced_one_at_a_time s actors moves =
    IfSome_then (run moves (opening s actors)) (operations_do_not_overlap_or_rest s actors moves)
    (λ w h i j d lt within same. pick (get_or (filter has_trace w.operations) i d) (get_or (filter has_trace w.operations) j d)
    (filter_passes has_trace w.operations i d (omega arith))
    (AllPairs-filter DoNotOverlapOrRest has_trace w.operations h i j d lt within same))
  where
    pick : (o p : Stamped) → has_trace o ≡ true → (EndsBefore o p ⊎ HasNoEffect o) → EndsBefore o p ⊎ EndsBefore p o
    pick o p trace (inl ended) = inl ended
    pick o p trace (inr none) = absurd (traced o trace none)
