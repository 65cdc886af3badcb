-- Whether a history is linearizable doesn't hang on its places.
use Rattle.std.proofs.Common.{◌≡◌, ◌≤◌, Some, IfSome, List, [], ◌∷◌, ◌++◌, map, inl, inr, refl, sym, ap, ◌∙◌, subst}
use Rattle.std.proofs.lemmas.List.{map-append}
use Rattle.std.specs.List.{AllByRecursion}
use Rattle.std.specs.List.Sorted.{IsPermutation}
use Rattle.std.proofs.lemmas.List.Sorted.{IsPermutation-map}
use Rattle.history.specs.declared.operations.Reply.{Reply}
use Rattle.history.specs.declared.operations.Reply.TheVariants.{Done, Value, Empty, Refused}
use Rattle.history.specs.declared.operations.Stamped.{Stamped}
use Rattle.history.specs.Queue.{Queue, empty, response}
use Rattle.history.specs.History.{AgreesWithQueue, answer}
use Rattle.history.specs.Linearizability.{Answered, operations_of, IsPending, GivesRecordedReply, MayComeBefore, KeepsTime, IsRun, IsLinearizable, DifferInPlace}

-- an operation of an order with its place changed
abbrev replaced : (Stamped → Stamped) → Answered → Answered
replaced f a = record { operation = f a.operation; reply = a.reply }

-- a change of places changes nothing else
abbrev ChangesPlaces : (Stamped → Stamped) → Type 0
ChangesPlaces f = (o : Stamped) → DifferInPlace o (f o)

replaced_operations : (f : Stamped → Stamped) (order : List Answered) → operations_of (map (replaced f) order) ≡ map f (operations_of order)
replaced_operations f [] = refl
replaced_operations f (a ∷ rest) = ap (λ r. f a.operation ∷ r) (replaced_operations f rest)

still_pending : (f : Stamped → Stamped) → ChangesPlaces f → (os : List Stamped) → AllByRecursion IsPending os → AllByRecursion IsPending (map f os)
still_pending f same [] h = tt
still_pending f same (o ∷ os) h = (
  record { not_ended = (same o).last ∙ h.0.not_ended; not_told = (same o).reply ∙ h.0.not_told },
  still_pending f same os h.1,
)

still_told : (f : Stamped → Stamped) → ChangesPlaces f → (order : List Answered) → AllByRecursion GivesRecordedReply order → AllByRecursion GivesRecordedReply (map (replaced f) order)
still_told f same [] h = tt
still_told f same (a ∷ rest) h = (
  subst (λ r. IfSome r (λ told. a.reply ≡ told)) (sym (same a.operation).reply) h.0,
  still_told f same rest h.1,
)

still_before : (f : Stamped → Stamped) → ChangesPlaces f → (o : Stamped) (os : List Stamped) → AllByRecursion (MayComeBefore o) os → AllByRecursion (MayComeBefore (f o)) (map f os)
still_before f same o [] h = tt
still_before f same o (p ∷ ps) h = (
  subst (λ n. IfSome (f p).last (λ last. n ≤ last)) (sym (same o).first)
      (subst (λ l. IfSome l (λ last. o.first ≤ last)) (sym (same p).last) h.0),
  still_before f same o ps h.1,
)

still_timely : (f : Stamped → Stamped) → ChangesPlaces f → (os : List Stamped) → KeepsTime os → KeepsTime (map f os)
still_timely f same [] h = tt
still_timely f same (o ∷ os) h = (still_before f same o os h.0, still_timely f same os h.1)

-- what the queue gives an operation doesn't hang on its place
same_given : (f : Stamped → Stamped) → ChangesPlaces f → (queue : Queue) (o : Stamped) → response o.actor o.op queue ≡ response (f o).actor (f o).op queue
same_given f same queue o =
    ap (λ a. response a o.op queue) (sym (same o).actor) ∙ ap (λ op. response (f o).actor op queue) (sym (same o).op)

still_gets : (f : Stamped → Stamped) → ChangesPlaces f → (queue : Queue) (o : Stamped) (reply : Reply) → AgreesWithQueue queue o (Some reply)
    → AgreesWithQueue queue (f o) (Some reply) × (answer queue o (Some reply) ≡ answer queue (f o) (Some reply))
still_gets f same queue o (Refused refusal) (inl h) = (inl h, refl)
still_gets f same queue o (Refused refusal) (inr h) = (inr (h.0, h.1 ∙ ap (λ a. a.reply) (same_given f same queue o)), refl)
still_gets f same queue o Done h =
    (h ∙ ap (λ a. a.reply) (same_given f same queue o), same_given f same queue o)
still_gets f same queue o (Value v) h =
    (h ∙ ap (λ a. a.reply) (same_given f same queue o), same_given f same queue o)
still_gets f same queue o Empty h =
    (h ∙ ap (λ a. a.reply) (same_given f same queue o), same_given f same queue o)

still_runs : (f : Stamped → Stamped) → ChangesPlaces f → (queue : Queue) (order : List Answered) → IsRun queue order → IsRun queue (map (replaced f) order)
still_runs f same queue [] h = tt
still_runs f same queue (a ∷ rest) h =
    let on = still_gets f same queue a.operation a.reply h.0 in
    (on.0, subst (λ x. IsRun x.after (map (replaced f) rest)) on.1 (still_runs f same (answer queue a.operation (Some a.reply)).after rest h.1))

-- a linearizable history with other places is linearizable
pub still_linearizable : (ops : List Stamped) (f : Stamped → Stamped) → ((o : Stamped) → DifferInPlace o (f o)) → IsLinearizable ops → IsLinearizable (map f ops)
still_linearizable ops f same h =
    let e : operations_of (map (replaced f) h.order) ≡ map f (operations_of h.order) = replaced_operations f h.order in
    let parts : map f (operations_of h.order ++ h.left_out) ≡ operations_of (map (replaced f) h.order) ++ map f h.left_out =
    map-append f (operations_of h.order) h.left_out ∙ ap (λ os. os ++ map f h.left_out) (sym e) in
    record {
      order = map (replaced f) h.order;
      left_out = map f h.left_out;
      each_once = subst (IsPermutation (map f ops)) parts (IsPermutation-map f ops _ h.each_once);
      only_pending_left_out = still_pending f same h.left_out h.only_pending_left_out;
      replies = still_told f same h.order h.replies;
      timely = subst KeepsTime (sym e) (still_timely f same (operations_of h.order) h.timely);
      runs = still_runs f same empty h.order h.runs;
    }
