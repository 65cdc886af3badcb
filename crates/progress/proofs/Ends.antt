-- By what is left of each call: an actor alone ends its call at any moment, and all calls end once no operation begins.
use Rattle.std.proofs.Common.{◌≡◌, ℕ, suc, ◌+◌, ◌-◌, ◌*◌, ◌≤◌, ◌<◌, nat_eq, if◌then◌else◌, length, get_or, slice_get, Option, Some, None, refl, sym, ap, ◌∙◌, subst, arith}
use Rattle.std.proofs.lemmas.Bool.{ne_eqb}
use Rattle.std.proofs.lemmas.List.Sums.{sum_by-le}
use Rattle.std.proofs.lemmas.Option.{slice_get-get_or}
use Rattle.std.specs.List.{sum_by}
use Rattle.step_machine.specs.Below.{Line, N2, N3, N4, N5, F1, F2, F3, E2, E6, E7, E9, E13, E17, D3, D4, D5, D10, D12, D13, S1, S2, S3, S4, S5, S6}
use Rattle.step_machine.specs.Below.{S7, S8, S9, Held, same_ref, Setup, Actor, Shared, section_of}
use Rattle.step_machine.specs.Machine.{World, actor_of, IsReached}
use Rattle.step_machine.specs.NonBlocking.{OfNonBlockingWorlds}
use Rattle.step_machine.proofs.EitherQueue.{fixed_at}
use Rattle.step_machine.proofs.Fixed.{PocketAt}
use Rattle.step_machine.specs.Prices.{if_so, of_pocket, all_steps, call_steps}
use Rattle.step_machine.specs.Amounts.{next_rose, tail_lags, own, amount_at, in_hand, has}
use Rattle.step_machine.specs.Pairs.{Stage, Resting, Taking, Linking, Popping, Freeing, FreeingFirst, pair, pairs, stage_of}
use Rattle.progress.specs.Steps.{cost_of_pair, left}
use Rattle.progress.specs.Ends.{EachEndsFromHere, AllEndTogether}
use Rattle.step_machine.proofs.Others.{unless_most, if_so_most, raced_most, misled_most}
use Rattle.progress.proofs.Sums.{pairs_most}
use Rattle.step_machine.proofs.Alone.{by_steps, first_most, nothing_kept, ends_in}
use Rattle.progress.proofs.Steps.{each_few_later}

module _ (i k : ℕ) (few : i ≤ 4) where
  -- an actor has at most so much before it, at any line
  pub own_most : (s : Setup) (m : Shared) (a : Actor) (l : Line) → own (by_steps i k) s m a l ≤ 19
  own_most s m a l = go l (λ j. if_so_most (tail_lags s m) j)
    where
      go : (l : Line) → ((j : ℕ) → if_so (tail_lags s m) j ≤ j) → own (by_steps i k) s m a l ≤ 19
      go N2 u = omega (arith, u 4, unless_most (nat_eq m.fresh a.f) 4)
      go N3 u = omega (arith, u 4, unless_most (same_ref m.free a.top) 4)
      go N4 u = omega (arith, u 4, unless_most (same_ref m.free a.top) 4)
      go N5 u = omega (arith, u 4, unless_most (nat_eq m.fresh a.f) 4)
      go F1 u = omega (arith, first_most i k few a.due (tail_lags s m))
      go F2 u = omega (arith, first_most i k few a.due (tail_lags s m), unless_most (same_ref m.free a.top) 3)
      go F3 u = omega (arith, first_most i k few a.due (tail_lags s m), unless_most (same_ref m.free a.top) 3)
      go E6 u = omega (arith, u 4, unless_most (same_ref m.tail a.tail) 4)
      go E7 u = omega (arith, u 4, raced_most (by_steps i k) (same_ref m.tail a.tail) (next_rose m a))
      go E9 u = omega (arith, u 4, if_so_most (next_rose m a) 4)
      go E13 u = omega (arith, u 4, unless_most (same_ref m.tail a.tail) 4)
      go E17 u = omega (arith, u i, few, unless_most (same_ref m.tail a.tail) (if_so (tail_lags s m) i))
      go D3 u = omega (arith, u 5, unless_most (same_ref m.head a.head) 6)
      go D4 u = omega (arith, u 5, misled_most (by_steps i k) (same_ref m.head a.head) (nat_eq a.head.node a.tail.node) (same_ref m.tail a.tail))
      go D5 u = omega (arith, u 5, misled_most (by_steps i k) (same_ref m.head a.head) (nat_eq a.head.node a.tail.node) (same_ref m.tail a.tail))
      go D10 u = omega (arith, u 5, unless_most (same_ref m.tail a.tail) 5)
      go D12 u = omega (arith, u 5, unless_most (same_ref m.head a.head) 6)
      go D13 u = omega (arith, u 5, unless_most (same_ref m.head a.head) 6)
      go S2 u = omega (arith, u 4, few, unless_most (same_ref m.tail a.tail) 4)
      go S3 u = omega (arith, u 4, few, raced_most (by_steps i k) (same_ref m.tail a.tail) (next_rose m a))
      go S4 u = omega (arith, u 4, few, if_so_most (next_rose m a) 4)
      go S5 u = omega (arith, u 4, few, unless_most (same_ref m.tail a.tail) 4)
      go _ u = omega (arith, u 4, u 5, few)

-- at any moment
pub each_ends_from_here : OfNonBlockingWorlds (EachEndsFromHere 19)
each_ends_from_here w r e me a l is at =
    ends_in 19 me w a r e is (subst (λ j. amount_at call_steps w.setup w.shared a j ≤ 19) (sym at) (omega (arith, own_most 0 0 (omega arith) w.setup w.shared a l, nothing_kept a.pocket)))

-- what is kept for a pocket, and for a node that came from one
kept_most : (q : Option Held) → of_pocket all_steps q ≤ 2
kept_most None = omega arith
kept_most (Some held) = omega arith

held_most : (l : Option Line) → in_hand all_steps l ≤ 2
held_most None = omega arith
held_most (Some F1) = omega arith
held_most (Some E2) = omega arith
held_most (Some _) = omega arith

-- where the pocket is full, a shut has no more before it
shut_most : (s : Setup) (m : Shared) (a : Actor) (l : Line) → PocketAt (section_of l) a.pocket → own all_steps s m a l + of_pocket all_steps a.pocket ≤ 19
shut_most s m a S2 k = omega (arith, kept_most a.pocket, if_so_most (tail_lags s m) 4, unless_most (same_ref m.tail a.tail) 4)
shut_most s m a S3 k = omega (arith, kept_most a.pocket, if_so_most (tail_lags s m) 4, raced_most all_steps (same_ref m.tail a.tail) (next_rose m a))
shut_most s m a S4 k = omega (arith, kept_most a.pocket, if_so_most (tail_lags s m) 4, if_so_most (next_rose m a) 4)
shut_most s m a S5 k = omega (arith, kept_most a.pocket, if_so_most (tail_lags s m) 4, unless_most (same_ref m.tail a.tail) 4)
shut_most s m a S1 k = omega (arith, kept_most a.pocket, if_so_most (tail_lags s m) 4)
shut_most s m a S6 k = omega (arith, kept_most a.pocket)
shut_most s m a S7 k = omega (arith, kept_most a.pocket)
shut_most s m a S8 k = omega (arith, kept_most a.pocket)
shut_most s m a S9 k = omega (arith, kept_most a.pocket)
shut_most s m a l k = omega (arith, own_most 4 2 (omega arith) s m a l, ap (of_pocket all_steps) k)

-- an actor of a world has at most so much before it
has_most : (w : World) (r : IsReached w) (me : ℕ) (a : Actor) → actor_of w me ≡ Some a → (entry : Option ℕ) → has all_steps w.setup w.shared a entry ≤ 19
has_most w r me a is None = omega (arith, held_most a.line, kept_most a.pocket, if_so_most (tail_lags w.setup w.shared) 4)
has_most w r me a is (Some entry) = by_line a.line refl
  where
    by_line : (l : Option Line) → a.line ≡ l → amount_at all_steps w.setup w.shared a l ≤ 19
    by_line None at = omega (arith, kept_most a.pocket, if_so_most (tail_lags w.setup w.shared) 4)
    by_line (Some l) at = shut_most w.setup w.shared a l (fixed_at w r me a l is at).pocket

-- an actor of the list is one of the world
in_list : (w : World) (i : ℕ) (d : Actor) → i < length w.actors → actor_of w (suc i) ≡ Some (get_or w.actors i d)
in_list w i d low =
    ap (λ b. if b then None else slice_get w.actors (suc i - 1)) (ne_eqb (suc i) 0 (λ z. omega arith))
    ∙ ap (slice_get w.actors) (omega arith)
    ∙ slice_get-get_or w.actors i d low

pair_most : (x y : Stage) → pair x y ≤ 16
pair_most Resting Resting = omega arith
pair_most Resting _ = omega arith
pair_most Taking Resting = omega arith
pair_most Taking _ = omega arith
pair_most Linking Resting = omega arith
pair_most Linking _ = omega arith
pair_most Popping Resting = omega arith
pair_most Popping _ = omega arith
pair_most Freeing Resting = omega arith
pair_most Freeing _ = omega arith
pair_most FreeingFirst Resting = omega arith
pair_most FreeingFirst _ = omega arith

-- all that is left is at most so much
left_most : (w : World) → IsReached w → left w ≤ length w.actors * (8 * length w.actors + 11)
left_most w r =
    let each : sum_by (λ c. has all_steps w.setup w.shared c c.entry) w.actors ≤ length w.actors * 19 =
    sum_by-le (λ c. has all_steps w.setup w.shared c c.entry) 19 w.actors (λ i d low. has_most w r (suc i) (get_or w.actors i d)
    (in_list w i d low) (get_or w.actors i d).entry) in
    let two : 2 * pairs cost_of_pair w.actors + 16 * length w.actors ≤ 16 * (length w.actors * length w.actors) =
    pairs_most cost_of_pair 16 (λ x y. pair_most (stage_of x.due x.line x.entry) (stage_of y.due y.line y.entry)) w.actors in
    let out : length w.actors * (8 * length w.actors + 11) ≡ 8 * (length w.actors * length w.actors) + 11 * length w.actors = squared (length w.actors) in
    omega (arith, each, two, out)
  where
    squared : (k : ℕ) → k * (8 * k + 11) ≡ 8 * (k * k) + 11 * k
    squared k = omega arith

pub all_end_together : OfNonBlockingWorlds (AllEndTogether 8 11)
all_end_together w r e ms v led none =
    omega (arith, each_few_later w r e ms v led, left_most w r, ap (λ k. (8 * length w.actors + 3) * k) none)
