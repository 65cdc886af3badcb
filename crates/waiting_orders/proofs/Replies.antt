-- What the queue answers to an operation that goes, by the operation's call and its reply.
use Rattle.std.proofs.Common.{◌≡◌, inl, inr, Bool, true, false, Option, None, Some, IfSome, List, [], ◌∷◌, refl, sym, ◌∙◌, subst}
use Rattle.history.specs.declared.operations.Taken.{Taken}
use Rattle.history.specs.declared.operations.Op.{Op}
use Rattle.history.specs.declared.operations.Op.TheVariants.{Enq, Deq, Shut}
use Rattle.history.specs.declared.operations.Reply.{Reply}
use Rattle.history.specs.declared.operations.Reply.TheVariants.{Done, Value, Empty, Refused}
use Rattle.history.specs.declared.operations.Stamped.{Stamped}
use Rattle.history.specs.declared.refusals.Refusal.{Refusal}
use Rattle.history.specs.declared.refusals.Refusal.TheVariants.{Closed}
use Rattle.history.specs.Queue.{Queue, response}
use Rattle.history.specs.Linearizability.{Answered, IsRun}
use Rattle.waiting_orders.specs.declared.walks.Went.{Went}
use Rattle.waiting_orders.specs.Waiting.{waits, is_push, State, Takes, IsLeft, IsTold, Shuts, HasEffect, GetsRefused}
use Rattle.waiting_orders.specs.Orders.{MayBeTold, IsTimed, DoesOther, Does, Moves, Goes}
use Rattle.waiting_orders.proofs.Inserting.{given}

-- ---- the effects that there are

-- the push whose value an operation takes, if it takes one
abbrev pub WithPush : Stamped → (s t : State) → Type 0
WithPush o s t = (taken : Option Stamped) × Does o taken s t

-- a call that is none of a pop
no_pop : (op : Op) {o : Op} → o ≡ op → (op ≡ Deq → ⊥) → o ≡ Deq → ⊥
no_pop op e n f = n (sym e ∙ f)

module _ (o : Stamped) (s t : State) (timed : IsTimed o s t) where
  takes : (v : Taken) → o.op ≡ Deq → MayBeTold (Value v) o → Takes v o s t → WithPush o s t
  takes v e f h = (Some h.push, inl (timed, record { op = e; value = v; told = f; effect = h; push = refl }))

  other : DoesOther o s t → WithPush o s t
  other d = (None, inr (inl (timed, d, refl)))

  shuts : o.op ≡ Shut → MayBeTold Done o → Shuts o s t → WithPush o s t
  shuts e f h = other (inr (inl (record { op = e; told = f; effect = h })))

  aside : (refusal : Refusal) → o.reply ≡ Some (Refused refusal) → IsLeft refusal o s t → WithPush o s t
  aside refusal f h = (None, inr (inr (record { refusal = refusal; told = f; effect = h }, refl)))

  -- a reply that an operation was told, or none
  told_so : (reply : Reply) (told : Option Reply) → o.reply ≡ told → IfSome told (λ told. reply ≡ told) → MayBeTold reply o
  told_so reply told e h = subst (λ told. IfSome told (λ told. reply ≡ told)) (sym e) h

  closed_reply : (refusal : Refusal) → refusal ≡ Closed → o.reply ≡ Some (Refused refusal) → o.reply ≡ Some (Refused Closed)
  closed_reply refusal c f = subst (λ r. o.reply ≡ Some (Refused r)) c f

  tells : (refusal : Refusal) → refusal ≡ Closed → (o.op ≡ Deq → ⊥) → o.reply ≡ Some (Refused refusal) → IsTold o s t → WithPush o s t
  tells refusal c n f h = other (inr (inr (inl (record { other = n; told = closed_reply refusal c f; effect = h }))))

  refused : (op : Op) (refusal : Refusal) → o.op ≡ op → o.reply ≡ Some (Refused refusal) → GetsRefused refusal op o s t → WithPush o s t
  refused (Enq body) refusal e f (inl h) = aside refusal f h
  refused (Enq body) refusal e f (inr h) = tells refusal h.0 (no_pop (Enq body) e (λ k. cc k)) f h.1
  refused Shut refusal e f (inl h) = aside refusal f h
  refused Shut refusal e f (inr h) = tells refusal h.0 (no_pop Shut e (λ k. cc k)) f h.1
  refused Deq refusal e f (inl h) = aside refusal f h
  refused Deq refusal e f (inr h) = other (inr (inr (inr (record { op = e; told = closed_reply refusal h.0 f; effect = h.1 }))))

  does : (op : Op) (reply : Option Reply) → o.op ≡ op → o.reply ≡ reply → HasEffect op reply o s t → WithPush o s t
  does (Enq body) None e f h = absurd h
  does Deq None e f h = takes h.0 e (told_so (Value h.0) None f tt) h.1
  does Shut None e f h = shuts e (told_so Done None f tt) h
  does (Enq body) (Some Done) e f h = absurd h
  does Deq (Some Done) e f h = absurd h
  does Shut (Some Done) e f h = shuts e (told_so Done (Some Done) f refl) h
  does (Enq body) (Some (Value v)) e f h = absurd h
  does Deq (Some (Value v)) e f h = takes v e (told_so (Value v) (Some (Value v)) f refl) h
  does Shut (Some (Value v)) e f h = absurd h
  does (Enq body) (Some Empty) e f h = absurd h
  does Deq (Some Empty) e f h = other (inl (record { op = e; told = f; effect = h }))
  does Shut (Some Empty) e f h = absurd h
  does (Enq body) (Some (Refused refusal)) e f h = refused (Enq body) refusal e f h
  does Deq (Some (Refused refusal)) e f h = refused Deq refusal e f h
  does Shut (Some (Refused refusal)) e f h = refused Shut refusal e f h

  it_does : HasEffect o.op o.reply o s t → WithPush o s t
  it_does h = does o.op o.reply refl refl h

-- what goes is one operation, with the push whose value it takes
pub record WentSo (s t : State) : Type 0 where
  pub went : Went
  pub moves : Moves went s t

pub went_so : (s t : State) → Goes s t → WentSo s t
went_so s t (inl h) =
    let d = it_does h.operation s t (record { began = h.began; ongoing = h.ongoing }) h.effect in
    record { went = record { other = h.operation; push = d.0; time = t.time }; moves = record { time = refl; since = h.since; does = d.1 } }
went_so s t (inr h) =
    record {
      went = record { other = h.operation; push = None; time = t.time };
      moves = record { time = refl; since = h.since; does = inr (inr (record { refusal = h.refusal; told = h.told; effect = h.effect }, refl)) };
    }

-- ---- what a queue that is shut tells

pub tell_answers : (o : Stamped) → (o.op ≡ Deq → ⊥) → (queue : Queue) → queue.shut ≡ true → Refused Closed ≡ (response o.actor o.op queue).reply
tell_answers o n queue shut = go o.op refl
  where
    push : (body : _) (b : Bool) → b ≡ true → Refused Closed ≡ (response o.actor (Enq body) (record queue { shut = b })).reply
    push body true h = refl
    push body false h = absurd cc

    second : (b : Bool) → b ≡ true → Refused Closed ≡ (response o.actor Shut (record queue { shut = b })).reply
    second true h = refl
    second false h = absurd cc

    go : (op : Op) → o.op ≡ op → Refused Closed ≡ (response o.actor op queue).reply
    go (Enq body) e = push body queue.shut shut
    go Deq e = absurd (n e)
    go Shut e = second queue.shut shut

-- ---- none of these waits as a push

pub pop_is_free : (o : Stamped) → o.op ≡ Deq → waits o ≡ false
pop_is_free o e = go o.op e o.reply
  where
    go : (op : Op) → op ≡ Deq → (reply : Option Reply) → is_push op reply ≡ false
    go (Enq body) e reply = absurd cc
    go Deq e reply = refl
    go Shut e reply = refl

pub shut_is_free : (o : Stamped) → o.op ≡ Shut → waits o ≡ false
shut_is_free o e = go o.op e o.reply
  where
    go : (op : Op) → op ≡ Shut → (reply : Option Reply) → is_push op reply ≡ false
    go (Enq body) e reply = absurd cc
    go Deq e reply = refl
    go Shut e reply = refl

pub refused_is_free : (o : Stamped) (refusal : Refusal) → o.reply ≡ Some (Refused refusal) → waits o ≡ false
refused_is_free o refusal e = subst (λ reply. is_push o.op reply ≡ false) (sym e) (go o.op)
  where
    go : (op : Op) → is_push op (Some (Refused refusal)) ≡ false
    go (Enq body) = refl
    go Deq = refl
    go Shut = refl

-- ---- runs

module _ (o : Stamped) (rest : List Answered) where
  pub take_runs : (v : Taken) (vs : List Taken) (shut : Bool) → o.op ≡ Deq → IsRun (record { values = vs; shut = shut }) rest
      → IsRun (record { values = v ∷ vs; shut = shut }) (given o (Value v) ∷ rest)
  take_runs v vs shut e runs =
      subst (λ op. (Value v ≡ (response o.actor op (record { values = v ∷ vs; shut = shut })).reply) × IsRun (response o.actor op (record { values = v ∷ vs; shut = shut })).after rest) (sym e) (refl, runs)

  pub empty_runs : o.op ≡ Deq → IsRun (record { values = []; shut = false }) rest → IsRun (record { values = []; shut = false }) (given o Empty ∷ rest)
  empty_runs e runs =
      subst (λ op. (Empty ≡ (response o.actor op (record { values = []; shut = false })).reply) × IsRun (response o.actor op (record { values = []; shut = false })).after rest) (sym e) (refl, runs)

  pub shut_runs : (vs : List Taken) → o.op ≡ Shut → IsRun (record { values = vs; shut = true }) rest → IsRun (record { values = vs; shut = false }) (given o Done ∷ rest)
  shut_runs vs e runs =
      subst (λ op. (Done ≡ (response o.actor op (record { values = vs; shut = false })).reply) × IsRun (response o.actor op (record { values = vs; shut = false })).after rest) (sym e) (refl, runs)

  pub told_runs : (queue : Queue) → Refused Closed ≡ (response o.actor o.op queue).reply → IsRun queue rest → IsRun queue (given o (Refused Closed) ∷ rest)
  told_runs queue h runs = (inr (refl, h), runs)

pub drained_answers : (o : Stamped) → o.op ≡ Deq → Refused Closed ≡ (response o.actor o.op (record { values = []; shut = true })).reply
drained_answers o e = subst (λ op. Refused Closed ≡ (response o.actor op (record { values = []; shut = true })).reply) (sym e) refl
