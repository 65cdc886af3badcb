-- What changes nothing goes first: the state behind it is all that has to be tried.
use Rattle.std.proofs.Common.{◌≡◌, ℕ, zero, suc, max, ◌≤◌, Bool, true, false, not, ◌&&◌, inl, inr, List, [], ◌∷◌, ◌++◌, Option, None, Some, IfSome, slice_get, refl, sym, subst, arith}
use Rattle.std.specs.List.{AllByRecursion}
use Rattle.std.specs.List.Sorted.{IsPermutation}
use Rattle.std.proofs.lemmas.List.Sorted.{IsPermutation-refl, IsPermutation-append_left}
use Rattle.std.proofs.lemmas.Option.{same_Some}
use Rattle.history.specs.declared.operations.Op.{Op}
use Rattle.history.specs.declared.operations.Op.TheVariants.{Enq, Deq, Shut}
use Rattle.history.specs.declared.operations.Reply.{Reply}
use Rattle.history.specs.declared.operations.Reply.TheVariants.{Done, Value, Empty, Refused}
use Rattle.history.specs.declared.operations.Stamped.{Stamped}
use Rattle.waiting_orders.specs.declared.lines.Pick.{Pick}
use Rattle.waiting_orders.specs.declared.steps.Front.{Front}
use Rattle.waiting_orders.specs.declared.boards.Board.{Board}
use Rattle.waiting_orders.specs.Waiting.{IsCall, State, IsOpenAt, waits, is_open_at, is_quiet}
use Rattle.waiting_orders.specs.Lines.{Left, IsLimit, AreOut, left_of, view_left, view_picks}
use Rattle.waiting_orders.specs.Nodes.{Spot, Among, AreCalls, HasSteps, state_of, time_of, is_first, is_first_at, quiet_time, quiet_at}
use Rattle.waiting_orders.proofs.Futures.{all_moved}
use Rattle.waiting_orders.proofs.Lists.{all_joined}
use Rattle.waiting_orders.proofs.Quiet.{quiet_first, le_max_left, le_max_right}
use Rattle.waiting_orders.proofs.Stepping.{all_left}

pub and_left : (a b : Bool) → (a && b) ≡ true → a ≡ true
and_left true b e = refl
and_left false b e = absurd cc

pub and_right : (a b : Bool) → (a && b) ≡ true → b ≡ true
and_right true b e = e
and_right false b e = absurd cc

open_at_zero : (xs : List Stamped) → AllByRecursion (IsOpenAt 0) xs
open_at_zero [] = tt
open_at_zero (x ∷ xs) = (go x.last, open_at_zero xs)
  where
    go : (last : Option ℕ) → IfSome last (λ last. 0 ≤ last)
    go None = tt
    go (Some last) = omega arith

-- a number before which nothing that is left ended, and at which an operation may go first
record May (reply : Option Reply) (s : State) (time : ℕ) : Type 0 where
  number : ℕ
  quiet : is_quiet reply ≡ true
  ongoing : AllByRecursion (IsOpenAt number) s.left
  until : time ≤ max s.time number

module _ (board : Board) (s : Spot) (f : Front) (way : Pick) (calls : AreCalls board)
    (limit : IsLimit (left_of board.others.items s.others) f.limit) (push_limit : IsLimit (left_of board.pushes.items s.pushes) f.push_limit) where
  abbrev others : List Stamped
  others = left_of board.others.items s.others

  abbrev pushes : List Stamped
  pushes = left_of board.pushes.items s.pushes

  other_calls : AllByRecursion IsCall others
  other_calls = all_left IsCall board.others.items s.others calls.other_calls

  push_calls : AllByRecursion IsCall pushes
  push_calls = all_left IsCall board.pushes.items s.pushes calls.push_calls

  may : (reply : Option Reply) (op : Op) → is_first reply op s f way ≡ true → May reply (state_of board s) (quiet_time reply s way)
  may None op e = absurd cc
  may (Some Done) op e = absurd cc
  may (Some (Value v)) op e = absurd cc
  may (Some Empty) (Enq body) e = absurd cc
  may (Some Empty) Deq e =
      let time = time_of s way in
      let both = and_left (not s.shut && is_open_at time f.limit) (is_open_at time f.push_limit) e in
      record {
        number = time;
        quiet = refl;
        ongoing = all_joined (IsOpenAt time) others pushes (limit.enough other_calls time (and_right (not s.shut) (is_open_at time f.limit) both))
            (push_limit.enough push_calls time (and_right (not s.shut && is_open_at time f.limit) (is_open_at time f.push_limit) e));
        until = le_max_right s.time time;
      }
  may (Some Empty) Shut e = absurd cc
  may (Some (Refused refusal)) op e = record { number = 0; quiet = e; ongoing = open_at_zero (others ++ pushes); until = le_max_left s.time 0 }

  goes : IsPermutation others (way.operation ∷ left_of board.others.items (view_left way.rest)) → is_first way.operation.reply way.operation.op s f way ≡ true → (new : List Spot)
      → new ≡ quiet_at s (Some way) → HasSteps board s new
  goes is e new made again n h =
      let m = may way.operation.reply way.operation.op e in
      let t : State = record { left = left_of board.others.items (view_left way.rest) ++ pushes; shut = s.shut; time = quiet_time way.operation.reply s way } in
      let other = (all_moved (λ o. waits o ≡ false) others (way.operation ∷ left_of board.others.items (view_left way.rest)) is
      (all_left (λ o. waits o ≡ false) board.others.items s.others calls.others)).0 in
      inr (
        t,
        subst (λ us. Among board us t) (sym made) (inl (record { left = IsPermutation-refl _; shut = refl; time = omega arith })),
        quiet_first n m.number way.operation (state_of board s) t
            (record {
              quiet = m.quiet;
              other = other;
              is = IsPermutation-append_left pushes others (way.operation ∷ left_of board.others.items (view_left way.rest)) is;
              calls = all_joined IsCall others pushes other_calls push_calls;
              ongoing = m.ongoing;
              same = refl;
              time = m.until;
            }) h,
      )

pub pick_is : (ops : List Stamped) (left : Left) (ways : List Pick) (at : ℕ) (way : Pick) → AreOut ops left (view_picks ways) → slice_get ways at ≡ Some way
    → IsPermutation (left_of ops left) (way.operation ∷ left_of ops (view_left way.rest))
pick_is ops left [] at way h e = absurd cc
pick_is ops left (x ∷ ways) zero way h e = subst (λ w. IsPermutation (left_of ops left) (w.operation ∷ left_of ops (view_left w.rest))) (same_Some x way e) h.0
pick_is ops left (x ∷ ways) (suc at) way h e = pick_is ops left ways at way h.1 e

-- where an operation that changes nothing may go first, the state behind it is enough
pub quiet_steps : (board : Board) (s : Spot) (f : Front) (ways : List Pick) (at : ℕ) (new : List Spot)
    → IsLimit (left_of board.others.items s.others) f.limit → IsLimit (left_of board.pushes.items s.pushes) f.push_limit
    → AreOut board.others.items s.others (view_picks ways) → is_first_at s f (slice_get ways at) ≡ true → new ≡ quiet_at s (slice_get ways at) → HasSteps board s new
quiet_steps board s f ways at new limit push_limit are first made = go (slice_get ways at) refl first made
  where
    go : (x : Option Pick) → slice_get ways at ≡ x → is_first_at s f x ≡ true → new ≡ quiet_at s x → HasSteps board s new
    go None e first made = absurd cc
    go (Some way) e first made = λ calls. goes board s f way calls limit push_limit (pick_is board.others.items s.others ways at way are e) first new made calls
