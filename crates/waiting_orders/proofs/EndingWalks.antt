-- The order that a walk to an end gives: pushes that were told done and whose values aren't taken come last.
use Rattle.std.proofs.Common.{◌≡◌, inl, inr, ◌∙◌, append_assoc, ℕ, zero, suc, Bool, true, false, not, ◌&&◌, cond, is_some, Option, None, Some, List, [], ◌∷◌, ◌++◌, refl, sym, ap, subst}
use Rattle.std.specs.Prelude.{All}
use Rattle.std.specs.List.{AllByRecursion, filter}
use Rattle.std.specs.List.Sorted.{IsPermutation}
use Rattle.std.proofs.lemmas.List.{append-nil}
use Rattle.std.proofs.lemmas.List.Elements.{recursion_from_All}
use Rattle.std.proofs.lemmas.List.Sorted.{IsPermutation-refl, IsPermutation-sym, IsPermutation-trans, IsPermutation-append, IsPermutation-append_left, IsPermutation-filter_both}
use Rattle.history.specs.declared.operations.Reply.{Reply}
use Rattle.history.specs.declared.operations.Stamped.{Stamped}
use Rattle.history.specs.History.{IsSequentialRun}
use Rattle.history.specs.Linearizability.{operations_of, IsPending, KeepsTime}
use Rattle.waiting_orders.specs.declared.walks.Went.{Went}
use Rattle.waiting_orders.specs.Waiting.{IsCall, IsOfQueue, waits, Where, IsUntold, OtherIsOpen, OtherIsUntold, State, IsStart, IsEnd}
use Rattle.waiting_orders.specs.Orders.{IsTimed, Does, DoesOther, Moves, AreWent, Walks}
use Rattle.waiting_orders.specs.Listed.{asides_of, merged, order_of, taken_of, IsOrderOf, Rises}
use Rattle.waiting_orders.proofs.Covering.{pending_is}
use Rattle.waiting_orders.proofs.Futures.{all_moved}
use Rattle.waiting_orders.proofs.Lists.{all_filtered, all_joined, all_pass, keeps_last}
use Rattle.waiting_orders.proofs.Inserting.{gives_recorded, runs_told, all_front, all_back, values_of, pushed, pushed_are, pushes_told, pushes_run}
use Rattle.waiting_orders.proofs.Merging.{all_asides, first_keeps, merged_are, merged_keeps, merged_runs, sorted, IsAside}
use Rattle.waiting_orders.proofs.Ordering.{AreSplit, OrderFrom, Future}
use Rattle.waiting_orders.proofs.Passing.{and_parts}
use Rattle.waiting_orders.proofs.Replies.{went_so}
use Rattle.waiting_orders.proofs.Walking.{before_take, before_empty, before_shut, before_tell, before_drain, before_aside}

-- ---- what is left at an end

-- pushes that were told done, which keep time, and what is left out
pub record Stays (os pushes : List Stamped) : Type 0 where
  pub out : List Stamped
  pub is : IsPermutation os (pushes ++ out)
  pub each_waits : AllByRecursion (λ p. waits p ≡ true) pushes
  pub timely : KeepsTime pushes
  pub pending : AllByRecursion IsPending out

-- whether an operation is a push that was told done
abbrev is_kept : Stamped → Bool
is_kept o = waits o && is_some o.reply

end_split : (o : Stamped) → IsCall o → OtherIsUntold o → (is_kept o ≡ true → waits o ≡ true) × (is_kept o ≡ false → IsPending o)
end_split o call h = (λ e. (and_parts (waits o) (is_some o.reply) e).0, λ e. pending_is o call (untold (waits o) refl o.reply refl e))
  where
    untold : (b : Bool) → waits o ≡ b → (reply : Option Reply) → o.reply ≡ reply → (b && is_some reply) ≡ false → o.reply ≡ None
    untold b f None g e = g
    untold true f (Some reply) g e = absurd cc
    untold false f (Some reply) g e = subst (λ b. Where (not b) (IsUntold o)) f h

kept_wait : (os : List Stamped) → AllByRecursion (λ o. is_kept o ≡ true) os → AllByRecursion (λ o. waits o ≡ true) os
kept_wait [] h = tt
kept_wait (o ∷ os) h = ((and_parts (waits o) (is_some o.reply) h.0).0, kept_wait os h.1)

others_pend : (os : List Stamped) → AllByRecursion IsCall os → AllByRecursion OtherIsUntold os → AllByRecursion IsPending (filter (λ o. not (is_kept o)) os)
others_pend [] calls h = tt
others_pend (o ∷ os) calls h = go (is_kept o) refl (others_pend os calls.1 h.1)
  where
    go : (b : Bool) → is_kept o ≡ b → AllByRecursion IsPending (filter (λ o. not (is_kept o)) os) → AllByRecursion IsPending (cond (not b) (o ∷ filter (λ o. not (is_kept o)) os) (filter (λ o. not (is_kept o)) os))
    go true e more = more
    go false e more = ((end_split o calls.0 h.0).1 e, more)

-- by first numbers they keep time
stays : (os : List Stamped) → AllByRecursion IsCall os → AllByRecursion OtherIsUntold os → (pushes : List Stamped) × Stays os pushes
stays os calls h =
    let m = sorted (λ o. o.first) (filter is_kept os) in
    let mine = all_moved IsCall (filter is_kept os) m.list m.is (all_filtered IsCall is_kept os calls) in (
      m.list,
      record {
        out = filter (λ o. not (is_kept o)) os;
        is = IsPermutation-trans os (filter is_kept os ++ filter (λ o. not (is_kept o)) os) _ (IsPermutation-filter_both is_kept (λ o. not (is_kept o)) (λ o. refl) os)
            (IsPermutation-append_left (filter (λ o. not (is_kept o)) os) (filter is_kept os) m.list m.is);
        each_waits = all_moved (λ o. waits o ≡ true) (filter is_kept os) m.list m.is (kept_wait (filter is_kept os) (all_pass is_kept os));
        timely = first_keeps m.list mine m.rises;
        pending = others_pend os calls h;
      },
    )

end_orders : (pushes : List Stamped) (time : ℕ) → AllByRecursion (λ p. waits p ≡ true) pushes → KeepsTime pushes → (shut : Bool) (content coming : List Stamped) → pushes ≡ content ++ coming
    → AreSplit shut time content coming → OrderFrom content coming [] shut coming
end_orders pushes time w timely true content coming is split = record {
  order = [];
  are = sym split;
  is = subst (λ ps. IsPermutation ps (ps ++ [])) (sym split) (IsPermutation-refl []);
  replies = tt;
  timely = subst KeepsTime (sym split) tt;
  runs = tt;
}
end_orders pushes time w timely false content coming is split =
    let wait = all_back (λ p. waits p ≡ true) content coming (subst (AllByRecursion (λ p. waits p ≡ true)) is w) in
    record {
      order = pushed coming [];
      are = pushed_are coming [] ∙ append-nil coming;
      is = subst (IsPermutation coming) (sym (append-nil coming)) (IsPermutation-refl coming);
      replies = pushes_told coming [] wait tt;
      timely = keeps_last content coming (subst KeepsTime is timely);
      runs = pushes_run coming (values_of content) [] wait tt;
    }

at_end : (s : State) (stay : List Stamped) → Stays s.left stay → Future s [] stay
at_end s stay m = record {
  pushes = stay;
  others = [];
  asides = [];
  out = m.out;
  pushes_are = refl;
  asides_are = refl;
  is = m.is;
  pending = m.pending;
  each_waits = m.each_waits;
  none_waits = tt;
  leave = tt;
  timely = m.timely;
  orders = λ shut e content coming is split. end_orders stay s.time m.each_waits m.timely shut content coming is split;
}

-- ---- a walk

module _ (s t : State) (w : Went) (moves : Moves w s t) (ws : List Went) (stay : List Stamped) (calls : AllByRecursion IsCall s.left) (more : AllByRecursion IsCall t.left → Future t ws stay) where
  abbrev o : Stamped
  o = w.other

  other : IsTimed o s t → w.push ≡ None → DoesOther o s t → Future s (w ∷ ws) stay
  other timed none (inl d) =
      let mine = all_moved IsCall s.left (o ∷ t.left) d.effect.is calls in
      before_empty s t w none d moves.since timed.began ws stay (more mine.1) (all_moved (OtherIsOpen t.time) s.left (o ∷ t.left) d.effect.is timed.ongoing)
  other timed none (inr (inl d)) =
      let mine = all_moved IsCall s.left (o ∷ t.left ++ d.effect.dropped) d.effect.is calls in
      let going = all_moved (OtherIsOpen t.time) s.left (o ∷ t.left ++ d.effect.dropped) d.effect.is timed.ongoing in
      before_shut s t w none d timed.began ws stay (more (all_front IsCall t.left d.effect.dropped mine.1)) (going.0, all_front (OtherIsOpen t.time) t.left d.effect.dropped going.1)
      (all_back IsCall t.left d.effect.dropped mine.1)
  other timed none (inr (inr (inl d))) =
      let mine = all_moved IsCall s.left (o ∷ t.left) d.effect.is calls in
      before_tell s t w none d timed.began ws stay (more mine.1) (all_moved (OtherIsOpen t.time) s.left (o ∷ t.left) d.effect.is timed.ongoing)
  other timed none (inr (inr (inr d))) =
      let mine = all_moved IsCall s.left (o ∷ t.left ++ d.effect.dropped) d.effect.is calls in
      let going = all_moved (OtherIsOpen t.time) s.left (o ∷ t.left ++ d.effect.dropped) d.effect.is timed.ongoing in
      before_drain s t w none d timed.began ws stay (more (all_front IsCall t.left d.effect.dropped mine.1)) (going.0, all_front (OtherIsOpen t.time) t.left d.effect.dropped going.1)
      (all_back IsCall t.left d.effect.dropped mine.1)

  behind : Does o w.push s t → Future s (w ∷ ws) stay
  behind (inl d) =
      let take = d.1 in
      let mine = all_moved IsCall s.left (o ∷ take.effect.push ∷ t.left) take.effect.is calls in
      let going = all_moved (OtherIsOpen t.time) s.left (o ∷ take.effect.push ∷ t.left) take.effect.is d.0.ongoing in
      before_take s t w moves.time take moves.since d.0.began ws stay (more mine.1.1) (going.0, going.1.1) mine.1.1 mine.1.0
  behind (inr (inl d)) = other d.0 d.2 d.1
  behind (inr (inr d)) =
      let mine = all_moved IsCall s.left (o ∷ t.left) d.0.effect.is calls in
      before_aside s t w d.1 d.0 moves.since ws stay (more mine.1)

pub future : (ws : List Went) (s t : State) (stay : List Stamped) → AllByRecursion IsCall s.left → AreWent ws s t → Stays t.left stay → Future s ws stay
future [] s t stay calls e m = at_end s stay (subst (λ t. Stays t.left stay) (sym e) m)
future (w ∷ ws) s t stay calls h m = behind s h.0 w h.1 ws stay calls (λ calls. future ws h.0 t stay calls h.2 m) h.1.does

-- a walk from the start of a history to an end gives this order of it, with what was set aside by first numbers
pub lists_order : (ops : List Stamped) (start end : State) (ws : List Went) (stay asides : List Stamped) → IsStart ops start → AllByRecursion IsCall ops → AreWent ws start end → Stays end.left stay
    → IsPermutation (asides_of ws) asides → Rises (λ o. o.first) asides → IsOrderOf ops (merged asides (order_of ws 0 (taken_of ws ++ stay)))
lists_order ops start end ws stay asides s calls went m same rises =
    let left_calls = all_moved IsCall ops start.left s.all calls in
    let f = future ws start end stay left_calls went m in
    let o = f.orders false s.unshut [] f.pushes refl tt in
    let all_calls = all_moved IsCall start.left (f.pushes ++ (f.others ++ (f.asides ++ f.out))) f.is left_calls in
    let push_calls = all_front IsCall f.pushes (f.others ++ (f.asides ++ f.out)) all_calls in
    let behind_calls = all_back IsCall f.pushes (f.others ++ (f.asides ++ f.out)) all_calls in
    let other_calls = all_front IsCall f.others (f.asides ++ f.out) behind_calls in
    let aside_calls = all_front IsCall f.asides f.out (all_back IsCall f.others (f.asides ++ f.out) behind_calls) in
    let moved : IsPermutation f.asides asides = subst (λ l. IsPermutation l asides) (sym f.asides_are) same in
    let are = all_moved IsAside f.asides asides moved (all_asides f.asides f.leave) in
    let moved_calls = all_moved IsCall f.asides asides moved aside_calls in
    let kept_asides = first_keeps asides moved_calls rises in
    let list = order_of ws 0 f.pushes in
    let list_calls = all_moved IsCall (f.pushes ++ f.others) list (IsPermutation-sym _ _ o.is) (all_joined IsCall f.pushes f.others push_calls other_calls) in
    let r = merged_runs asides are moved_calls kept_asides (record { values = []; shut = false }) o.order o.replies o.runs in
    let merged_is : merged asides (operations_of o.order) ≡ merged asides list = ap (merged asides) o.are in
    let kept : IsPermutation (merged asides list) ((f.pushes ++ f.others) ++ f.asides) =
    IsPermutation-trans _ (list ++ asides) _ (merged_are asides list moved_calls kept_asides) (IsPermutation-append list (f.pushes ++ f.others) asides f.asides o.is (IsPermutation-sym _ _ moved)) in
    subst (λ ps. IsOrderOf ops (merged asides (order_of ws 0 ps))) f.pushes_are
    (record {
      linearizable = record {
        order = r.order;
        left_out = f.out;
        each_once = IsPermutation-trans ops start.left _ s.all
            (IsPermutation-trans start.left (f.pushes ++ (f.others ++ (f.asides ++ f.out))) _ f.is
            (subst (λ l. IsPermutation (f.pushes ++ (f.others ++ (f.asides ++ f.out))) (l ++ f.out)) (sym (r.are ∙ merged_is))
            (subst (λ l. IsPermutation l (merged asides list ++ f.out)) (append_assoc (f.pushes ++ f.others) f.asides f.out ∙ append_assoc f.pushes f.others (f.asides ++ f.out))
            (IsPermutation-append_left f.out ((f.pushes ++ f.others) ++ f.asides) (merged asides list) (IsPermutation-sym _ _ kept)))));
        only_pending_left_out = f.pending;
        replies = gives_recorded r.order r.replies;
        timely = subst KeepsTime (sym (r.are ∙ merged_is)) (merged_keeps asides list moved_calls kept_asides list_calls o.timely);
        runs = r.runs;
      };
      is = r.are ∙ merged_is;
      runs = subst (IsSequentialRun (record { values = []; shut = false })) (r.are ∙ merged_is) (runs_told (record { values = []; shut = false }) r.order r.replies r.runs);
    })

-- ---- any walk

record WalkTo (s : State) : Type 0 where
  end : State
  went : List Went
  are : AreWent went s end
  is_end : IsEnd end

walk_of : (n : ℕ) (s : State) → Walks n s → WalkTo s
walk_of zero s h = record { end = s; went = []; are = refl; is_end = h }
walk_of (suc n) s (inl h) = record { end = s; went = []; are = refl; is_end = h }
walk_of (suc n) s (inr h) =
    let m = walk_of n h.0 h.2 in
    let w = went_so s h.0 h.1 in
    record { end = m.end; went = w.went ∷ m.went; are = (h.0, w.moves, m.are); is_end = m.is_end }

-- calls are calls to the end
calls_then : (w : Went) (s t : State) → Does w.other w.push s t → AllByRecursion IsCall s.left → AllByRecursion IsCall t.left
calls_then w s t (inl d) calls = (all_moved IsCall s.left (w.other ∷ d.1.effect.push ∷ t.left) d.1.effect.is calls).1.1
calls_then w s t (inr (inl d)) calls = go d.1
  where
    go : DoesOther w.other s t → AllByRecursion IsCall t.left
    go (inl d) = (all_moved IsCall s.left (w.other ∷ t.left) d.effect.is calls).1
    go (inr (inl d)) = all_front IsCall t.left d.effect.dropped (all_moved IsCall s.left (w.other ∷ t.left ++ d.effect.dropped) d.effect.is calls).1
    go (inr (inr (inl d))) = (all_moved IsCall s.left (w.other ∷ t.left) d.effect.is calls).1
    go (inr (inr (inr d))) = all_front IsCall t.left d.effect.dropped (all_moved IsCall s.left (w.other ∷ t.left ++ d.effect.dropped) d.effect.is calls).1
calls_then w s t (inr (inr d)) calls = (all_moved IsCall s.left (w.other ∷ t.left) d.0.effect.is calls).1

pub calls_at_end : (ws : List Went) (s t : State) → AreWent ws s t → AllByRecursion IsCall s.left → AllByRecursion IsCall t.left
calls_at_end [] s t e calls = subst (λ t. AllByRecursion IsCall t.left) e calls
calls_at_end (w ∷ ws) s t h calls = calls_at_end ws h.0 t h.2 (calls_then w s h.0 h.1.does calls)

-- a walk from the start of a history to an end gives an order of it
pub is_of_queue : (ops : List Stamped) (start : State) → IsStart ops start → All IsCall ops → (n : ℕ) → Walks n start → IsOfQueue ops
is_of_queue ops start s calls n h =
    let w = walk_of n start h in
    let cs = recursion_from_All IsCall ops calls in
    let end_calls = calls_at_end w.went start w.end w.are (all_moved IsCall ops start.left s.all cs) in
    let stay = stays w.end.left end_calls w.is_end in
    let asides = sorted (λ o. o.first) (asides_of w.went) in
    let o = lists_order ops start w.end w.went stay.0 asides.list s cs w.are stay.1 asides.is asides.rises in
    record { calls = calls; linearizable = o.linearizable }

-- where nothing was told a reply but pushes that may have had their effect, a history of calls is one of a queue
pub untold_is_of_queue : (ops : List Stamped) → All IsCall ops → AllByRecursion OtherIsUntold ops → IsOfQueue ops
untold_is_of_queue ops calls untold =
    is_of_queue ops (record { left = ops; shut = false; time = 0 }) (record { all = IsPermutation-refl ops; unshut = refl; time = refl }) calls 0 untold
