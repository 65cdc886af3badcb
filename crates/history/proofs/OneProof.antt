-- That what a seat knows is sound has at most one proof: entries lead to one queue alone, and no queue is both shut and not.
use Rattle.std.proofs.Common.{inl, inr, ℕ, true, false, List, [], ◌∷◌, take, ap}
use Rattle.std.specs.List.{All}
use Rattle.std.specs.Option.{IsSomeAnd-prop}
use Rattle.std.specs.Coded.{×_prop, Π_prop, le_prop, Coded-set}
use Rattle.std.proofs.Props.{props}
use Rattle.std.proofs.Math.Path.{Singl, contract, sym, ◌∙◌}
use mathlib.Core.HLevel.{Σ_prop_path}
use Rattle.std.proofs.lemmas.Bool.{false≢true}
use Rattle.history.specs.contracts.operations.Entry as entry
use Rattle.history.specs.contracts.operations.Taken as taken
use Rattle.history.specs.contracts.operations.Reply as reply
use Rattle.history.specs.declared.operations.Entry.{Entry}
use Rattle.history.specs.declared.operations.Entry.TheVariants.{Push, Pop, Shut}
use Rattle.history.specs.declared.operations.Taken.{Taken}
use Rattle.history.specs.declared.operations.Reply.{Reply}
use Rattle.history.specs.Queue.{Queue, empty}
use Rattle.history.specs.Entries.{Plays, LeadsTo, LeadsToShut, IsQueueRun}
use Rattle.history.specs.Seats.{Permit, Known, Allows, IsPermitted, IsNoted, IsSound}

-- entries, replies, values and queues are sets
Entry-set : IsSet Entry
Entry-set = Coded-set entry.the_row.coded

Taken-set : IsSet Taken
Taken-set = Coded-set taken.the_row.coded

Reply-set : IsSet Reply
Reply-set = Coded-set reply.the_row.coded

Queue-set : IsSet Queue
Queue-set = hlevel (props, Taken-set)

-- what one value is equal to is one
Singl-prop : {X : Type 0} (x : X) → IsProp (Singl x)
Singl-prop x a b = sym (contract a.1) ∙ contract b.1

-- entries lead there in one way
Plays-prop : (queue : Queue) (es : List Entry) (after : Queue) → IsProp (Plays queue es after)
Plays-prop queue [] after = Queue-set _ _
Plays-prop queue (Push seat body ∷ es) after = ×_prop (Reply-set _ _) (Plays-prop _ es after)
Plays-prop queue (Pop seat value ∷ es) after = ×_prop (Reply-set _ _) (Plays-prop _ es after)
Plays-prop queue (Shut seat ∷ es) after = ×_prop (Reply-set _ _) (Plays-prop _ es after)

-- a fact more leaves it at one queue
with_fact : {E : Type 0} {P : Queue → Type 0} → IsProp E → IsProp ((after : Queue) × P after) → IsProp ((after : Queue) × (E × P after))
with_fact fact one a b = let rest = one (a.0, a.1.1) (b.0, b.1.1) in λ i. ((rest i).0, (fact a.1.0 b.1.0 i, (rest i).1))

-- and to one queue
ends-prop : (queue : Queue) (es : List Entry) → IsProp ((after : Queue) × Plays queue es after)
ends-prop queue [] = Singl-prop queue
ends-prop queue (Push seat body ∷ es) = with_fact (Reply-set _ _) (ends-prop _ es)
ends-prop queue (Pop seat value ∷ es) = with_fact (Reply-set _ _) (ends-prop _ es)
ends-prop queue (Shut seat ∷ es) = with_fact (Reply-set _ _) (ends-prop _ es)

-- so a run is one fact, and that a queue is left shut
pub IsQueueRun-prop : (es : List Entry) → IsProp (IsQueueRun es)
IsQueueRun-prop es = ends-prop empty es

LeadsToShut-prop : (es : List Entry) → IsProp (LeadsToShut es)
LeadsToShut-prop es a b =
    let same = ends-prop empty es (record { values = a.0; shut = true }, a.1) (record { values = b.0; shut = true }, b.1) in
    Σ_prop_path (λ values. Plays-prop empty es (record { values = values; shut = true })) (λ i. (same i).0.values)

-- entries that leave the queue empty, and not shut, don't leave it shut
not_both : (es : List Entry) → LeadsTo es [] → LeadsToShut es → ⊥
not_both es a b =
    let same = ends-prop empty es (record { values = []; shut = false }, a) (record { values = b.0; shut = true }, b.1) in
    false≢true (λ i. (same i).0.shut)

IsNoted-prop : (seen : List Entry) (n : ℕ) → IsProp (IsNoted seen n)
IsNoted-prop seen n (inl a) (inl b) = ap inl (×_prop le_prop (Plays-prop empty (take n seen) _) a b)
IsNoted-prop seen n (inl a) (inr b) = absurd (not_both (take n seen) a.1 b.1)
IsNoted-prop seen n (inr a) (inl b) = absurd (not_both (take n seen) b.1 a.1)
IsNoted-prop seen n (inr a) (inr b) = ap inr (×_prop le_prop (LeadsToShut-prop (take n seen)) a b)

Allows-prop : (p : Permit) (e : Entry) → IsProp (Allows p e)
Allows-prop p (Push seat body) = hlevel props
Allows-prop p (Pop seat value) = hlevel props
Allows-prop p (Shut seat) = hlevel props

IsPermitted-prop : (permits : List Permit) (e : Entry) → IsProp (IsPermitted permits e)
IsPermitted-prop permits e = ×_prop le_prop (IsSomeAnd-prop _ _ (λ p. Allows-prop p e))

-- what holds of each element is one fact, where it is of each
pub All-prop : {X : Type 0} (P : X → Type 0) → ((x : X) → IsProp (P x)) → (xs : List X) → IsProp (All P xs)
All-prop P each xs = Π_prop (λ k. Π_prop (λ d. Π_prop (λ _. each _)))

-- that what a seat knows is sound is one fact
pub IsSound-prop : (permits : List Permit) (k : Known) → IsProp (IsSound permits k)
IsSound-prop permits k a b =
    λ i. record {
      legal = IsQueueRun-prop k.seen a.legal b.legal i;
      permitted = All-prop (IsPermitted permits) (IsPermitted-prop permits) k.seen a.permitted b.permitted i;
      own = let own_prop : IsSet (List Entry) = hlevel (props, Entry-set) in own_prop _ _ a.own b.own i;
      noted = All-prop (IsNoted k.seen) (IsNoted-prop k.seen) k.notes a.noted b.noted i;
    }
