-- What a push of a value answers, by what its parts do.
use Rattle.std.proofs.Common.{◌≡◌, ℕ, ◌+◌, ◌-◌, List, [], ◌∷◌, ◌++◌, length, true, Option, Some, None, Result, Ok, Err, IfErr, inl, inr, sym, refl, ap, subst, ◌∙◌, arith, append_assoc}
use Rattle.history.specs.declared.operations.Entry.TheVariants.{Push}
use Rattle.history.specs.declared.refusals.Refusal.{Refusal}
use Rattle.history.specs.declared.refusals.Refusal.TheVariants.{NoNode, WornOut, Busy, Closed}
use Rattle.history.specs.declared.refusals.WornWord.{WornWord}
use Rattle.history.specs.declared.refusals.WornWord.TheVariants.{Free as OfFree, Next as OfNext, Tail as OfTail, Head as OfHead}
use Rattle.history.specs.Answers.{SeesMore, StopsPush}
use Rattle.history.proofs.Learning.{sees_itself}
use Rattle.carriers.specs.declared.items.Unpushed.{Unpushed}
use Rattle.carriers.specs.Answers.{PushRefusedOf}
use Rattle.node_arena.specs.Machine.{Held}
use Rattle.node_arena.specs.Arenas.{Arena}
use Rattle.node_arena.specs.declared.seats.Seat.{Seat}
use Rattle.node_arena.specs.declared.slots.Got.{Got}
use Rattle.node_arena.specs.Knowledge.{SeatView}
use Rattle.node_arena.specs.Knowledge as seeing
use Rattle.node_arena.specs.Deeds.{Deed, pushed}
use Rattle.node_arena.specs.Beside.{HasLoaded, slots_in}
use Rattle.node_arena.specs.Plans.{Layout}
use Rattle.node_arena.specs.Slots.{Try}
use Rattle.node_arena.specs.Hands.{HasSlot, KeepsKnown, KeepsTries, AddsOwn, FailedTries, HasTried, hitting, first_slot}
use Rattle.node_arena.specs.Seats.{IsReady, KeepsSlots, KeepsName, HasNoSlot, SeesMoreDeeds, carries_of, deeds_of, known_of, view}
use Rattle.node_arena.specs.Paths.{ExtendsPath, added}
use Rattle.node_arena.specs.Turns.{failed_turns}
use Rattle.node_arena.proofs.Paths.{no_walk, sees_on}
use Rattle.node_arena.proofs.Handing.{tried_none}
use Rattle.free_list.specs.Takes.{TakeRefused}
use Rattle.arena_queue.specs.Answers.{PushWithNodeCaused, PushesWithNodeAnd, PushMoves, PushesWithNode}
use Rattle.arena_queue.proofs.Pushes.{put_behind, learns, learns_of_take}
use Rattle.value_queue.specs.ValuesSeen.{known_by}
use Rattle.value_queue.specs.Pushes.{HasNode, TakesBack, MissedSlots, PushCaused, AnswersPush, back_with, last_try}
use Rattle.value_queue.specs.Sound.{sight, clear}
use Rattle.value_queue.proofs.Learned.{on, push-deed, push_refused-deeds}
use Rattle.value_queue.proofs.Kept.{added_still, name_still, more_still, stops_still, cause_still}

-- what a seat has seen goes on, and then on
pub more_on : {T : Type 0} (s t u : Seat T) → SeesMoreDeeds s t → SeesMoreDeeds t u → SeesMoreDeeds s u
more_on s t u f g = record { between = f.between ++ g.between; deeds = g.deeds ∙ (ap (λ ds. ds ++ g.between) f.deeds ∙ append_assoc (deeds_of s) f.between g.between) }

-- and then by a deed of one's own
adds_from : {T : Type 0} (s t u : Seat T) (d d' : Deed T) → d ≡ d' → SeesMoreDeeds s t → AddsOwn t u d → AddsOwn s u d'
adds_from s t u d d' same f g =
    record {
      between = f.between ++ g.between;
      deeds = g.deeds ∙ (λ i. (f.deeds i ++ g.between) ++ same i ∷ []) ∙ ap (λ ds. ds ++ d' ∷ []) (append_assoc (deeds_of s) f.between g.between);
    }

-- a refusal that is handed on
pub handed : {X E : Type 0} (out : Result X E) (e : E) (P : E → Type 0) → out ≡ Err e → P e → IfErr out P
handed out e P its p = subst (λ o. IfErr o P) (sym its) p

-- a slot has one value
value_is : {T : Type 0} (held : List (ℕ × Option T)) (i j : ℕ) (x y : T) → held ≡ (i, Some x) ∷ [] → held ≡ (j, Some y) ∷ [] → x ≡ y
value_is {T} held i j x y e f = ap value_or (sym e ∙ f)
  where
    value_or : List (ℕ × Option T) → T
    value_or [] = x
    value_or ((k, None) ∷ xs) = x
    value_or ((k, Some z) ∷ xs) = z

-- a slot that has a value is loaded for the body that is its number
pub loaded_by : {T : Type 0} (r : Arena) (v : Seat T) (slot body : ℕ) (value : T) → body ≡ slot → HasSlot r v slot (Some value) → HasLoaded r.plan body v.token.me
loaded_by r v slot body value same has carries =
    subst (λ (b : ℕ). HasLoaded r.plan b v.token.me) (sym same) (λ _. (value, has.out, has.hand, has.there)) carries

-- a seat that has tried no more slots than one did
pub tried_still : {T : Type 0} (z : Layout) (s t u : Seat T) (first tries : ℕ) (last : List Try) → HasTried z s t first tries last → KeepsTries t u → HasTried z s u first tries last
tried_still z s t u first tries last made same = record { missed = made.missed; count = made.count; tried = same ∙ made.tried; up = made.up }

-- a seat that stores and knows the same as one that does
pub keeps_on : {T : Type 0} (s t u : Seat T) → KeepsKnown s t → KeepsKnown t u → KeepsKnown s u
keeps_on s t u f g =
    record {
      stored = record {
        number = g.stored.number ∙ f.stored.number;
        role = g.stored.role ∙ f.stored.role;
        keeps = g.stored.keeps ∙ f.stored.keeps;
        pocket = g.stored.pocket ∙ f.stored.pocket;
        failed = g.stored.failed ∙ f.stored.failed;
      };
      view = g.view ∙ f.view;
      deeds = g.deeds ∙ f.deeds;
    }

module _ {T : Type 0} (worn : WornWord → Option Held → Type 0) (r : Arena) (carries : carries_of r ≡ true) (s : Seat T) (is : IsReady r s) (none : HasNoSlot s) (value : T) (turns : ℕ) where
  stays_without : (t : Seat T) → KeepsSlots s t → HasNoSlot t
  stays_without t k = (ap length k.same ∙ none.0, ap slots_in k.hand ∙ none.1)

  missed_none : (t : Seat T) → KeepsTries s t → MissedSlots r s t 0
  missed_none t same = record { seat = s; more = sees_itself (known_of s); node = 0; missed = tt; got = None; tried = tried_still r.plan s s t _ 0 [] (tried_none r s _) same }

  -- there was no node
  pub no_node : (t : Seat T) (refusal : Refusal) → HasNode r s t turns (Err refusal) → AnswersPush worn r s t value turns (Err (back_with refusal value))
  no_node t refusal h =
      record {
        ready = h.ready;
        none_out = stays_without t h.slots;
        same = h.same;
        pushed = tt;
        few = tt;
        missed = tt;
        pocket = tt;
        back = refl;
        refused = push_refused-deeds (sight s) (sight t) (clear r carries s is.seat) (clear r carries t h.ready.seat) refusal (on s t h.slots.more) (learns_of_take r s t turns refusal h.lines h.refused);
        refusal = stops refusal h.refused;
        caused = by_cause refusal h.refused;
      }
    where
      stops : (refusal : Refusal) → TakeRefused r s t turns refusal → StopsPush refusal
      stops NoNode x = tt
      stops (WornOut word) x = tt
      stops Busy x = tt
      stops Closed x = tt
      stops _ x = absurd x

      by_cause : (refusal : Refusal) → TakeRefused r s t turns refusal → PushCaused worn r s t turns refusal
      by_cause Busy x = (0, (let f = x.0 in omega arith), missed_none t h.slots.tries, inl x.1)
      by_cause NoNode x = x
      by_cause (WornOut OfFree) x = x
      by_cause _ x = absurd x

  module _ (u v : Seat T) (held : Held) (spent : ℕ) (h : HasNode r s u turns (Ok (held, spent))) (first : ℕ) where
    -- since then a seat knows the same
    seen_since : KeepsKnown u v → SeesMore (known_of s) (known_of v)
    seen_since k = subst (λ (w : SeatView). SeesMore (known_of s) (seeing.known_by w)) (sym k.view) (sees_on (view s) (view u) (added s u) h.lines)

    more_since : KeepsKnown u v → SeesMoreDeeds s v
    more_since k = record { between = h.slots.more.between; deeds = k.deeds ∙ h.slots.more.deeds }

    missed_since : (x : Seat T) (tries : ℕ) (got : Option ℕ) → FailedTries r u first tries → HasTried r.plan u x (first_slot r.plan.setup.size first) tries (last_try got)
        → MissedSlots r s x tries
    missed_since x tries got missed made =
        record {
          seat = u;
          more = sees_on (view s) (view u) (added s u) h.lines;
          node = first;
          missed = missed;
          got = got;
          tried = record { missed = made.missed; count = made.count; tried = made.tried ∙ ap (λ ts. ts ++ (made.missed ++ last_try got)) h.slots.tries; up = made.up };
        }

    -- what a push knows that got no slot
    pub slot_refused : (refusal : Refusal) → IsReady r v → KeepsKnown u v → refusal ≡ Busy → PushRefusedOf (known_by s) refusal (known_by v)
    slot_refused refusal ready k its =
        subst (λ q. PushRefusedOf (known_by s) q (known_by v)) (sym its) (push_refused-deeds (sight s) (sight v) (clear r carries s is.seat) (clear r carries v ready.seat) Busy (on s v (more_since k)) (seen_since k))

    -- there was no slot
    pub no_slot : (refusal : Refusal) → IsReady r v → KeepsKnown u v → (refusal ≡ Busy) × HasNoSlot v → FailedTries r u first (turns - spent)
        → HasTried r.plan u v (first_slot r.plan.setup.size first) (turns - spent) []
        → AnswersPush worn r s v value turns (Err (back_with refusal value))
    no_slot refusal ready k its missed made =
        let busy : Busy ≡ refusal = sym its.0 in
        record {
          ready = ready;
          none_out = its.1;
          same = name_still s u v k h.same;
          pushed = tt;
          few = tt;
          missed = tt;
          pocket = tt;
          back = refl;
          refused = slot_refused refusal ready k its.0;
          refusal = subst StopsPush busy tt;
          caused = subst (PushCaused worn r s v turns) busy (
            turns - spent,
            (let a = ap failed_turns (added_still s u v k) in let b = h.spent.0 in let c = h.spent.1 in omega (arith, a, b, c)),
            missed_since v (turns - spent) None missed made,
            inr (let c = h.spent.1 in omega (arith, c)),
          );
        }

    module _ (got : Got) (k : KeepsKnown u v) (has : HasSlot r v got.slot (Some value)) (missed : FailedTries r u first got.failed)
        (made : HasTried r.plan u v (first_slot r.plan.setup.size first) got.failed (hitting got.slot)) (body : ℕ) where
      same_name : KeepsName u v
      same_name = record { number = k.stored.number; role = k.stored.role; keeps = k.stored.keeps }

      no_lines : ExtendsPath (view u) (view v) []
      no_lines = subst (λ (w : SeatView). ExtendsPath (view u) w []) (sym k.view) (no_walk (view u))

      -- the push of the slot's number, behind the lines before it
      put_since : (x : Seat T) (out : Result (Unit {0}) Refusal) → PushesWithNode worn r v x held.node body (spent + got.failed) turns out
          → PushesWithNodeAnd (Unit {0}) worn r s x held.node body got.failed turns out
      put_since x out p =
          put_behind worn (Unit {0}) (Unit {0}) (λ y. y) r s u x (added s u) h.lines h.same held.node body got.failed (spent + got.failed) turns out (let b = h.spent.0 in omega (arith, b))
          (put_behind worn (PushMoves r body v x out) (Unit {0}) (λ y. tt) r u v x [] no_lines same_name held.node body (spent + got.failed)
          (spent + got.failed) turns out (let z : failed_turns [] ≡ 0 = refl in omega (arith, z)) p)

      -- the value was pushed
      pub value_pushed : (x : Seat T) → PushesWithNode worn r v x held.node body (spent + got.failed) turns (Ok tt) → AnswersPush worn r s x value turns (Ok tt)
      value_pushed x p =
          let n = put_since x (Ok tt) p in
          let gave = p.slots carries in
          let number : (view v).number ≡ (view s).number = ap (λ (w : SeatView). w.number) k.view ∙ h.slots.number in
          let its : gave.1.0 ≡ value = value_is v.token.me.1 body got.slot gave.1.0 value gave.1.1 has.out in
          let adds : AddsOwn s x (pushed (view s).number value) = adds_from s v x (pushed (view v).number gave.1.0) (pushed (view s).number value)
          (λ i. pushed (number i) (its i)) (more_since k) gave.1.2 in
          record {
            ready = n.ready;
            none_out = gave.0;
            same = n.same;
            pushed = push-deed (sight s) (sight x) (clear r carries s is.seat) (clear r carries x n.ready.seat) (Push (view s).number body) value adds.between adds.deeds n.pushed.0.adds;
            few = (let f = n.pushed.2 in omega (arith, f));
            missed = (
              got.failed,
              (let f = n.pushed.2 in omega (arith, f)),
              missed_since x got.failed (Some got.slot) missed (tried_still r.plan u v x _ got.failed (hitting got.slot) made gave.2),
            );
            pocket = n.pushed.1;
            back = tt;
            refused = tt;
            refusal = tt;
            caused = tt;
          }

      -- it came back
      pub value_back : (y x : Seat T) (refusal : Refusal) (out : Result (Unit {0}) (Unpushed T))
          → PushesWithNode worn r v y held.node body (spent + got.failed) turns (Err refusal) → (b : TakesBack r y x got.slot refusal out)
          → AnswersPush worn r s x value turns (Err (back_with refusal b.value))
      value_back y x refusal out p b =
          let n = put_since y (Err refusal) p in
          let more : SeesMoreDeeds s x = more_still s y x b.keeps (more_on s v y (more_since k) p.slots.more) in
          record {
            ready = b.ready;
            none_out = b.none_out;
            same = name_still s y x b.keeps n.same;
            pushed = tt;
            few = tt;
            missed = tt;
            pocket = tt;
            back = value_is y.token.me.1 got.slot got.slot b.value value b.had.out (p.slots.same ∙ has.out);
            refused = push_refused-deeds (sight s) (sight x) (clear r carries s is.seat) (clear r carries x b.ready.seat) refusal (on s x more) (learns s x refusal (stops_still s y x b.keeps refusal n.refused.0));
            refusal = stops refusal n.refused.1;
            caused = by_cause refusal (cause_still s y x b.keeps worn r held.node got.failed turns refusal n.refused.1);
          }
        where
          stops : (refusal : Refusal) → PushWithNodeCaused worn r s y held.node got.failed turns refusal → StopsPush refusal
          stops Busy z = tt
          stops (WornOut word) z = tt
          stops Closed z = tt
          stops _ z = absurd z

          by_cause : (refusal : Refusal) → PushWithNodeCaused worn r s x held.node got.failed turns refusal → PushCaused worn r s x turns refusal
          by_cause Busy z = (
            got.failed,
            (let f = z.0 in omega (arith, f)),
            missed_since x got.failed (Some got.slot) missed
                (tried_still r.plan u v x _ got.failed (hitting got.slot) made (b.tries ∙ p.slots.tries)),
            inl z.1,
          )
          by_cause (WornOut OfFree) z = z.0
          by_cause (WornOut OfNext) z = (z.0, z.1)
          by_cause (WornOut OfTail) z = (z.0, z.1)
          by_cause (WornOut OfHead) z = (z.0, z.1)
          by_cause Closed z = z.0
          by_cause _ z = absurd z
