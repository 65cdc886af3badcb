-- Each state that is made is one to which a step leads.
use Rattle.std.proofs.Common.{◌≡◌, ℕ, zero, suc, ◌≤◌, Bool, true, false, not, ◌&&◌, ◌||◌, ◌⊎◌, inl, inr, List, [], ◌∷◌, ◌++◌, Option, None, Some, IfSome, length, slice_get, refl, sym, ap, subst}
use Rattle.std.specs.List.{AllByRecursion, filter}
use Rattle.history.specs.declared.refusals.Refusal.{Refusal}
use Rattle.history.specs.declared.operations.Op.{Op}
use Rattle.history.specs.declared.operations.Op.TheVariants.{Enq, Deq, Shut}
use Rattle.history.specs.declared.operations.Reply.{Reply}
use Rattle.history.specs.declared.operations.Reply.TheVariants.{Done, Value, Empty, Refused}
use Rattle.history.specs.declared.operations.Stamped.{Stamped}
use Rattle.history.specs.History.{leaves, is_closed}
use Rattle.waiting_orders.specs.declared.lines.Pick.{Pick}
use Rattle.waiting_orders.specs.declared.steps.Front.{Front}
use Rattle.waiting_orders.specs.Waiting.{is_open_at}
use Rattle.waiting_orders.specs.Lines.{Left, Out, spelled, out_of, out_kept, kept_at, later_at, all_kept, later_to, without_kept, without_later, view_left, view_pick, view_picks}
use Rattle.waiting_orders.specs.Nodes.{Spot, where_so, time_of, stay, drained, began_by, shut_of, suits, take_at, takes_to, refused_of, steps_of, is_in_turn, steps_where, steps_at, steps_to, is_pending, goes_first, takes_where, pending_at, pending_to, pending_where, pending_of, quiet_time, quiet_at}
use Rattle.waiting_orders.specs.Alone.{alone_at, take_time}
use Rattle.waiting_orders.specs.Reached.{AreOutOf, IsOutOf, Leads}
use Rattle.waiting_orders.proofs.Picks.{all_gathered, outs_joined}

-- ---- what is picked is left

module _ (ops : List Stamped) (left : Left) where
  kept_is : (at : ℕ) → AllByRecursion (IsOutOf ops left) (kept_at ops left at)
  kept_is at = go (slice_get left.kept at) refl
    where
      one : (place : ℕ) → slice_get left.kept at ≡ Some place → (x : Option Stamped) → slice_get ops place ≡ x → AllByRecursion (IsOutOf ops left) (out_of x (without_kept at left))
      one place e None f = tt
      one place e (Some o) f = (record { place = place; there = f; rest = inl (at, e, refl) }, tt)

      go : (x : Option ℕ) → slice_get left.kept at ≡ x → AllByRecursion (IsOutOf ops left) (out_kept ops left at x)
      go None e = tt
      go (Some place) e = one place e (slice_get ops place) refl

  later_is : (place : ℕ) → left.from ≤ place → AllByRecursion (IsOutOf ops left) (later_at ops left place)
  later_is place h = go (slice_get ops place) refl
    where
      go : (x : Option Stamped) → slice_get ops place ≡ x → AllByRecursion (IsOutOf ops left) (out_of x (without_later place left))
      go None e = tt
      go (Some o) e = (record { place = place; there = e; rest = inr (h, refl) }, tt)

-- all that was kept, and all behind those up to a place, that were pushed one after another
pub picked_of : (ops : List Stamped) (left : Left) (until : ℕ) (all : List Out) → all ≡ all_kept ops left ++ later_to ops left until → AreOutOf ops left all
picked_of ops left until all e =
    subst (AllByRecursion (IsOutOf ops left)) (sym e)
    (outs_joined (IsOutOf ops left) (all_kept ops left) (later_to ops left until) (all_gathered (IsOutOf ops left) (kept_at ops left) 0 (length left.kept) (λ k h. kept_is ops left k))
    (all_gathered (IsOutOf ops left) (later_at ops left) left.from until (later_is ops left)))

-- what stands at a place of several that are each one of those left
pick_of : (ops : List Stamped) (left : Left) (picks : List Pick) → AreOutOf ops left (view_picks picks) → (k : ℕ) → IfSome (slice_get picks k) (λ pick. IsOutOf ops left (view_pick pick))
pick_of ops left [] h k = tt
pick_of ops left (pick ∷ picks) h zero = h.0
pick_of ops left (pick ∷ picks) h (suc k) = pick_of ops left picks h.1 k

none_pass : (ns : List ℕ) → filter (λ n. false) ns ≡ []
none_pass [] = refl
none_pass (n ∷ ns) = none_pass ns

-- ---- what is made

module _ (others pushes : List Stamped) (s : Spot) where
  abbrev AreLed : List Spot → Type 0
  AreLed us = AllByRecursion (Leads others pushes s) us

  led_joined : (us vs : List Spot) → AreLed us → AreLed vs → AreLed (us ++ vs)
  led_joined [] vs a b = b
  led_joined (u ∷ us) vs a b = (a.0, led_joined us vs a.1 b)

  where_led : (b : Bool) (o p : Left) (shut : Bool) (time : ℕ) → Leads others pushes s (record { others = o; pushes = p; shut = shut; time = time }) → AreLed (where_so b o p shut time)
  where_led true o p shut time h = (h, tt)
  where_led false o p shut time h = tt

  all_stay : (way : Pick) → IsOutOf others s.others (view_pick way) → (time : ℕ) → (time ≡ s.time) ⊎ (time ≡ time_of s way)
      → Leads others pushes s (record { others = view_left way.rest; pushes = s.pushes; shut = s.shut; time = time })
  all_stay way out time h = record { other = view_pick way; out = out; rest = refl; pushes_left = inr (inl (record { rest = refl; time = h })); shut = inl refl }

  one_goes : (way take : Pick) → IsOutOf others s.others (view_pick way) → IsOutOf pushes s.pushes (view_pick take)
      → Leads others pushes s (record { others = view_left way.rest; pushes = view_left take.rest; shut = s.shut; time = take_time s way take })
  one_goes way take out taken = record { other = view_pick way; out = out; rest = refl; pushes_left = inl (record { push = view_pick take; out = taken; rest = refl; time = refl }); shut = inl refl }

  some_stay : (way : Pick) → IsOutOf others s.others (view_pick way) → (stays : ℕ → Bool) (kept : List ℕ) (shut : Bool) → kept ≡ filter stays (spelled (length pushes) s.pushes)
      → (shut ≡ s.shut) ⊎ (shut ≡ true)
      → Leads others pushes s (record { others = view_left way.rest; pushes = record { kept = kept; from = length pushes }; shut = shut; time = time_of s way })
  some_stay way out stays kept shut e h =
      record {
        other = view_pick way;
        out = out;
        rest = refl;
        pushes_left = inr (inr (record { stays = stays; rest = ap (λ l. record { kept = l; from = length pushes }) e; time = refl }));
        shut = h;
      }

  module _ (f : Front) (taken : AreOutOf pushes s.pushes (view_picks f.takes.items)) where
    module _ (way : Pick) (out : IsOutOf others s.others (view_pick way)) where
      stay_led : (holds : Bool) → AreLed (stay holds s f way)
      stay_led holds = where_led (holds && is_open_at (time_of s way) f.limit) (view_left way.rest) s.pushes s.shut (time_of s way) (all_stay way out (time_of s way) (inr refl))

      drained_led : (holds : Bool) → AreLed (drained holds pushes s f way)
      drained_led holds =
          where_led _ (view_left way.rest) (record { kept = []; from = length pushes }) s.shut (time_of s way)
          (some_stay way out (λ n. false) [] s.shut (sym (none_pass (spelled (length pushes) s.pushes))) (inl refl))

      shut_led : AreLed (shut_of pushes s f way)
      shut_led =
          where_led _ (view_left way.rest) (record { kept = filter (began_by pushes f.limit) (spelled (length pushes) s.pushes); from = length pushes }) true (time_of s way)
          (some_stay way out (began_by pushes f.limit) (filter (began_by pushes f.limit) (spelled (length pushes) s.pushes)) true refl (inr refl))

      take_led : (suits : Stamped → Bool) (x : Option Pick) → IfSome x (λ take. IsOutOf pushes s.pushes (view_pick take)) → AreLed (take_at suits s f way x)
      take_led suits None h = tt
      take_led suits (Some take) h = where_led _ (view_left way.rest) (view_left take.rest) s.shut (take_time s way take) (one_goes way take out h)

      takes_led : (suits : Stamped → Bool) (k : ℕ) → AreLed (takes_to k suits s f way)
      takes_led suits zero = tt
      takes_led suits (suc k) =
          led_joined (takes_to k suits s f way) (take_at suits s f way (slice_get f.takes.items k)) (takes_led suits k)
          (take_led suits (slice_get f.takes.items k) (pick_of pushes s.pushes f.takes.items taken k))

      refused_led : (refusal : Refusal) (op : Op) → AreLed (refused_of refusal op pushes s f way)
      refused_led refusal (Enq body) = stay_led (leaves refusal || (is_closed refusal && s.shut))
      refused_led refusal Shut = stay_led (leaves refusal || (is_closed refusal && s.shut))
      refused_led refusal Deq = led_joined (stay (leaves refusal) s f way) (drained (is_closed refusal) pushes s f way) (stay_led (leaves refusal)) (drained_led (is_closed refusal))

      steps_led : (op : Op) (reply : Option Reply) → AreLed (steps_of op reply pushes s f way)
      steps_led (Enq body) None = tt
      steps_led Deq None = tt
      steps_led Shut None = shut_led
      steps_led (Enq body) (Some Done) = tt
      steps_led Deq (Some Done) = tt
      steps_led Shut (Some Done) = shut_led
      steps_led (Enq body) (Some (Value v)) = tt
      steps_led Deq (Some (Value v)) = takes_led (suits f (Some v)) (length f.takes.items)
      steps_led Shut (Some (Value v)) = tt
      steps_led (Enq body) (Some Empty) = tt
      steps_led Deq (Some Empty) = stay_led (not s.shut && is_open_at (time_of s way) f.push_limit)
      steps_led Shut (Some Empty) = tt
      steps_led (Enq body) (Some (Refused refusal)) = refused_led refusal (Enq body)
      steps_led Deq (Some (Refused refusal)) = refused_led refusal Deq
      steps_led Shut (Some (Refused refusal)) = refused_led refusal Shut

      where_takes_led : (b : Bool) → AreLed (takes_where b s f way)
      where_takes_led true = takes_led (suits f None) (length f.takes.items)
      where_takes_led false = tt

    module _ (ways : List Pick) (outs : AreOutOf others s.others (view_picks ways)) where
      at_led : (x : Option Pick) → IfSome x (λ way. IsOutOf others s.others (view_pick way)) → AreLed (steps_at pushes s f ways x)
      at_led None h = tt
      at_led (Some way) h = in_turn_led (is_in_turn s f ways way.operation)
        where
          in_turn_led : (b : Bool) → AreLed (steps_where b pushes s f way)
          in_turn_led true = steps_led way h way.operation.op way.operation.reply
          in_turn_led false = tt

      to_led : (k : ℕ) → AreLed (steps_to k pushes s f ways)
      to_led zero = tt
      to_led (suc k) = led_joined (steps_to k pushes s f ways) (steps_at pushes s f ways (slice_get ways k)) (to_led k) (at_led (slice_get ways k) (pick_of others s.others ways outs k))

      pending_at_led : (x : Option Pick) → IfSome x (λ way. IsOutOf others s.others (view_pick way)) → AreLed (pending_at s f ways x)
      pending_at_led None h = tt
      pending_at_led (Some way) h = where_takes_led way h (is_pending way && goes_first way.operation.first ways)

      pending_to_led : (k : ℕ) → AreLed (pending_to k s f ways)
      pending_to_led zero = tt
      pending_to_led (suc k) =
          led_joined (pending_to k s f ways) (pending_at s f ways (slice_get ways k)) (pending_to_led k) (pending_at_led (slice_get ways k) (pick_of others s.others ways outs k))

      pending_where_led : (b : Bool) → AreLed (pending_where b s f ways)
      pending_where_led true = pending_to_led (length ways)
      pending_where_led false = tt

      all_led : (behind : List Pick) → AreLed (steps_to (length ways) pushes s f ways ++ pending_of s f behind ways)
      all_led behind = led_joined (steps_to (length ways) pushes s f ways) (pending_of s f behind ways) (to_led (length ways)) (pending_where_led _)

      quiet_led : (x : Option Pick) → IfSome x (λ way. IsOutOf others s.others (view_pick way)) → AreLed (quiet_at s x)
      quiet_led None h = tt
      quiet_led (Some way) h = (all_stay way h (quiet_time way.operation.reply s way) (time_is way.operation.reply way), tt)
        where
          time_is : (reply : Option Reply) (way : Pick) → (quiet_time reply s way ≡ s.time) ⊎ (quiet_time reply s way ≡ time_of s way)
          time_is None way = inl refl
          time_is (Some Done) way = inl refl
          time_is (Some (Value v)) way = inl refl
          time_is (Some Empty) way = inr refl
          time_is (Some (Refused refusal)) way = inl refl

      alone_led : (x y : Option Pick) → IfSome x (λ way. IsOutOf others s.others (view_pick way)) → IfSome y (λ take. IsOutOf pushes s.pushes (view_pick take)) → AreLed (alone_at s x y)
      alone_led None y h k = tt
      alone_led (Some way) None h k = tt
      alone_led (Some way) (Some take) h k = (one_goes way take h k, tt)

      -- what goes first or alone, and all else
      pub led_first : (at : ℕ) (new : List Spot) → new ≡ quiet_at s (slice_get ways at) → AreLed new
      led_first at new e = subst AreLed (sym e) (quiet_led (slice_get ways at) (pick_of others s.others ways outs at))

      pub led_alone : (way take : ℕ) (new : List Spot) → new ≡ alone_at s (slice_get ways way) (slice_get f.takes.items take) → AreLed new
      led_alone way take new e =
          subst AreLed (sym e)
          (alone_led (slice_get ways way) (slice_get f.takes.items take) (pick_of others s.others ways outs way) (pick_of pushes s.pushes f.takes.items taken take))

      pub led : (behind : List Pick) (new : List Spot) → new ≡ steps_to (length ways) pushes s f ways ++ pending_of s f behind ways → AreLed new
      led behind new e = subst AreLed (sym e) (all_led behind)
