-- A traced world is before each one that moves lead to from it, and the history only grows.
use Rattle.std.proofs.Common.{◌≡◌, List, [], ◌∷◌, ◌++◌, Option, Some, None, IfSome, refl, sym, ap, ◌∙◌, append-nil, append_assoc}
use Rattle.std.proofs.lemmas.Option.{none-some, same_Some}
use Rattle.history.specs.declared.operations.Entry.{Entry}
use Rattle.step_machine.specs.Machine.{World, AnyMove, next_any}
use Rattle.step_machine.specs.Pasts.{IsBefore}
use Rattle.step_machine.proofs.AnyMoves.{after_move}
use Rattle.step_machine.proofs.Reached.{some_of}
use Rattle.step_machine.proofs.Pasts.{only_add}
use Rattle.node_arena.specs.Traces.{Traced, IsTraced, entries_at, traced_move, traced_next, traced_on, trace}
use Rattle.node_arena.proofs.Tracing.{traced_reached, world-trace, traced_step_is}

pub trace_before : (ms : List AnyMove) (t u : Traced) → IsTraced t → trace ms t ≡ Some u → IsBefore t.world u.world
trace_before ms t u r e = only_add ms t.world u.world (traced_reached t r) (world-trace ms t u e)

-- the history only grows
move_history : (t : Traced) (m : AnyMove) → IfSome (next_any t.world m) (λ w. (more : List Entry) × ((traced_move t m w).history ≡ t.history ++ more))
move_history t m =
    after_move t.world (λ k w. (more : List Entry) × ((traced_move t k w).history ≡ t.history ++ more))
    (record {
      began = λ me op a is free call. ([], sym (append-nil t.history));
      step = λ me a l is at. (entries_at t.world.setup t me a l, ap (λ (u : Traced). u.history) (traced_step_is t me a l is at));
      gave_up = λ me a l o is at given. ([], sym (append-nil t.history));
      at_rest = λ me a l is at may. ([], sym (append-nil t.history));
    })
    m

pub trace_history : (ms : List AnyMove) (t u : Traced) → trace ms t ≡ Some u → (more : List Entry) × (u.history ≡ t.history ++ more)
trace_history [] t u e = ([], ap (λ (x : Traced). x.history) (sym (same_Some t u e)) ∙ sym (append-nil t.history))
trace_history (m ∷ ms) t u e = go (next_any t.world m) refl e (λ x. trace_history ms x u)
  where
    go : (o : Option World) → next_any t.world m ≡ o → traced_on (trace ms) (traced_next t m o) ≡ Some u → ((x : Traced) → trace ms x ≡ Some u → (more : List Entry) × (u.history ≡ x.history ++ more))
        → (more : List Entry) × (u.history ≡ t.history ++ more)
    go None f g each = absurd (none-some u g)
    go (Some w) f g each =
        let one : (more : List Entry) × ((traced_move t m w).history ≡ t.history ++ more) = some_of (λ v. (more : List Entry) × ((traced_move t m v).history ≡ t.history ++ more)) (next_any t.world m) w f (move_history t m) in
        let rest = each (traced_move t m w) g in
        (one.0 ++ rest.0, rest.1 ∙ (ap (λ es. es ++ rest.0) one.1 ∙ append_assoc t.history one.0 rest.0))
