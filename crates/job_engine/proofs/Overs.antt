-- The seats that came back from a dispatch are those of the queue.
use Rattle.std.proofs.Common.{◌≡◌, ap, ℕ, suc, List, [], ◌∷◌, length, arith}
use Rattle.std.specs.List.{All, AllZip}
use Rattle.std.proofs.lemmas.List.Elements.{All-nil, All-cons}
use Rattle.history.specs.Seats.{Known}
use Rattle.dispatcher.specs.Goings.{IsKept, WentOver}
use Rattle.job_engine.specs.Overs.{IsOver}

module _ {Q S : Type 0} (is_seat : Q → S → Type 0) (known : S → Known) (queue : Q) where
  each_kept : (was seats : List S) → AllZip (IsKept is_seat known queue) was seats → All (is_seat queue) seats
  each_kept was [] h = All-nil (is_seat queue)
  each_kept [] (s ∷ ss) h = absurd h
  each_kept (w ∷ ws) (s ∷ ss) h = All-cons (is_seat queue) s ss h.0.0 (each_kept ws ss h.1)

  as_many : (was seats : List S) → AllZip (IsKept is_seat known queue) was seats → length seats ≡ length was
  as_many [] [] h = λ i. 0
  as_many [] (s ∷ ss) h = absurd h
  as_many (w ∷ ws) [] h = absurd h
  as_many (w ∷ ws) (s ∷ ss) h = ap suc (as_many ws ss h.1)

  pub is_over : (giver : S) (takers : List S) (workers jobs : ℕ) (seats : List S) → length takers ≡ workers
      → WentOver is_seat known queue giver takers jobs seats → IsOver is_seat known queue workers jobs seats
  is_over giver takers workers jobs seats many w =
      let same = as_many (giver ∷ takers) seats w.kept in
      record {
        each = each_kept (giver ∷ takers) seats w.kept;
        count = omega (arith, same, many);
        taken = w.taken;
      }
