-- Operations that are put into an order where they keep time, and values that pushes put into a queue.
use Rattle.std.proofs.Common.{◌≡◌, ◌⊎◌, inl, inr, append_assoc, ℕ, ◌≤◌, ◌<◌, Bool, true, false, nat_le, Option, None, Some, IfSome, List, [], ◌∷◌, ◌++◌, refl, sym, ap, ◌∙◌, subst, arith}
use Rattle.std.specs.List.{AllByRecursion}
use Rattle.std.proofs.lemmas.Bool.{leb-true, leb-false}
use Rattle.history.specs.declared.operations.Taken.{Taken}
use Rattle.history.specs.declared.operations.Op.{Op}
use Rattle.history.specs.declared.operations.Op.TheVariants.{Enq, Deq, Shut}
use Rattle.history.specs.declared.operations.Reply.{Reply}
use Rattle.history.specs.declared.operations.Reply.TheVariants.{Done, Value, Empty, Refused}
use Rattle.history.specs.declared.operations.Stamped.{Stamped}
use Rattle.history.specs.Queue.{Queue}
use Rattle.history.specs.History.{answer, AgreesWithQueue, IsSequentialRun}
use Rattle.history.specs.Linearizability.{Answered, operations_of, GivesRecordedReply, MayComeBefore, KeepsTime, IsRun}
use Rattle.waiting_orders.specs.Waiting.{IsCall, IsOpenAt, waits}
use Rattle.waiting_orders.proofs.Lists.{all_weaker}

-- ---- lists

pub all_front : (P : Stamped → Type 0) (xs ys : List Stamped) → AllByRecursion P (xs ++ ys) → AllByRecursion P xs
all_front P [] ys h = tt
all_front P (x ∷ xs) ys h = (h.0, all_front P xs ys h.1)

pub all_back : (P : Stamped → Type 0) (xs ys : List Stamped) → AllByRecursion P (xs ++ ys) → AllByRecursion P ys
all_back P [] ys h = h
all_back P (x ∷ xs) ys h = all_back P xs ys h.1

pub keeps_joined : (xs ys : List Stamped) → KeepsTime xs → KeepsTime ys → AllByRecursion (λ x. AllByRecursion (MayComeBefore x) ys) xs → KeepsTime (xs ++ ys)
keeps_joined [] ys a b c = b
keeps_joined (x ∷ xs) ys a b c = (all_both xs a.0, keeps_joined xs ys a.1 b c.1)
  where
    all_both : (xs : List Stamped) → AllByRecursion (MayComeBefore x) xs → AllByRecursion (MayComeBefore x) (xs ++ ys)
    all_both [] h = c.0
    all_both (z ∷ zs) h = (h.0, all_both zs h.1)

pub keeps_front : (xs ys : List Stamped) → KeepsTime (xs ++ ys) → KeepsTime xs
keeps_front [] ys h = tt
keeps_front (x ∷ xs) ys h = (all_front (MayComeBefore x) xs ys h.0, keeps_front xs ys h.1)

pub keeps_across : (xs ys : List Stamped) → KeepsTime (xs ++ ys) → AllByRecursion (λ x. AllByRecursion (MayComeBefore x) ys) xs
keeps_across [] ys h = tt
keeps_across (x ∷ xs) ys h = (all_back (MayComeBefore x) xs ys h.0, keeps_across xs ys h.1)

-- ---- numbers

-- an operation had not ended before a number, or it ended before
pub open_or_not : (time : ℕ) (o : Stamped) → IsOpenAt time o ⊎ (IsOpenAt time o → ⊥)
open_or_not time o = go o.last
  where
    go : (last : Option ℕ) → IfSome last (λ last. time ≤ last) ⊎ (IfSome last (λ last. time ≤ last) → ⊥)
    go None = inl tt
    go (Some last) = by (nat_le time last) refl
      where
        by : (b : Bool) → nat_le time last ≡ b → (time ≤ last) ⊎ (time ≤ last → ⊥)
        by true e = inl (leb-true _ _ e)
        by false e = let h : last < time = leb-false _ _ e in inr (λ k. omega (arith, h, k))

pub sooner_open : (sooner later : ℕ) → sooner ≤ later → (o : Stamped) → IsOpenAt later o → IsOpenAt sooner o
sooner_open sooner later h o = go o.last
  where
    go : (last : Option ℕ) → IfSome last (λ last. later ≤ last) → IfSome last (λ last. sooner ≤ last)
    go None k = tt
    go (Some last) k = omega (arith, h, k)

pub all_sooner_open : (sooner later : ℕ) → sooner ≤ later → (os : List Stamped) → AllByRecursion (IsOpenAt later) os → AllByRecursion (IsOpenAt sooner) os
all_sooner_open sooner later h os k = all_weaker (IsOpenAt later) (IsOpenAt sooner) (sooner_open sooner later h) os k

-- what ended before a number, and no sooner than another one, shows that the other one is no later
pub ended_between : (number time : ℕ) (last : Option ℕ) → IfSome last (λ last. number ≤ last) → (IfSome last (λ last. time ≤ last) → ⊥) → number ≤ time
ended_between number time None a b = absurd (b tt)
ended_between number time (Some last) a b = by (nat_le time last) refl
  where
    by : (c : Bool) → nat_le time last ≡ c → number ≤ time
    by true e = absurd (b (leb-true _ _ e))
    by false e = let h : last < time = leb-false _ _ e in omega (arith, h, a)

-- what ended before a number began before it
pub began_before : (time : ℕ) (o : Stamped) → IsCall o → (IsOpenAt time o → ⊥) → o.first ≤ time
began_before time o call ended = ended_between o.first time o.last call.spans ended

abbrev pub given : Stamped → Reply → Answered
given o reply = record { operation = o; reply = reply }

-- whether a reply is a refusal
abbrev pub is_refusal : Reply → Bool
is_refusal Done = false
is_refusal (Value v) = false
is_refusal Empty = false
is_refusal (Refused refusal) = true

-- an operation was told a reply, or nothing where that isn't a refusal
abbrev pub MayGive : Stamped → Reply → Type 0
MayGive o reply = (o.reply ≡ Some reply) ⊎ ((o.reply ≡ None) × (is_refusal reply ≡ false))

abbrev pub Gives : Answered → Type 0
Gives a = MayGive a.operation a.reply

pub may_give : (o : Stamped) (reply : Reply) → is_refusal reply ≡ false → IfSome o.reply (λ told. reply ≡ told) → MayGive o reply
may_give o reply e h = go o.reply h
  where
    go : (told : Option Reply) → IfSome told (λ told. reply ≡ told) → (told ≡ Some reply) ⊎ ((told ≡ None) × (is_refusal reply ≡ false))
    go None h = inr (refl, e)
    go (Some told) h = inl (ap Some (sym h))

pub gives_recorded : (order : List Answered) → AllByRecursion Gives order → AllByRecursion GivesRecordedReply order
gives_recorded [] h = tt
gives_recorded (a ∷ order) h = (one h.0, gives_recorded order h.1)
  where
    one : Gives a → GivesRecordedReply a
    one (inl e) = subst (λ r. IfSome r (λ told. a.reply ≡ told)) (sym e) refl
    one (inr e) = subst (λ r. IfSome r (λ told. a.reply ≡ told)) (sym e.0) tt

-- a run is one of what was told
pub runs_told : (queue : Queue) (order : List Answered) → AllByRecursion Gives order → IsRun queue order → IsSequentialRun queue (operations_of order)
runs_told queue [] h runs = tt
runs_told queue (a ∷ order) h runs =
    (agrees h.0, subst (λ q. IsSequentialRun q (operations_of order)) (after h.0) (runs_told (answer queue a.operation (Some a.reply)).after order h.1 runs.1))
  where
    agrees : Gives a → AgreesWithQueue queue a.operation a.operation.reply
    agrees (inl e) = subst (AgreesWithQueue queue a.operation) (sym e) runs.0
    agrees (inr e) = subst (AgreesWithQueue queue a.operation) (sym e.0) tt

    same : (reply : Reply) → is_refusal reply ≡ false → (answer queue a.operation (Some reply)).after ≡ (answer queue a.operation None).after
    same Done e = refl
    same (Value v) e = refl
    same Empty e = refl
    same (Refused refusal) e = absurd cc

    after : Gives a → (answer queue a.operation (Some a.reply)).after ≡ (answer queue a.operation a.operation.reply).after
    after (inl e) = ap (λ r. (answer queue a.operation r).after) (sym e)
    after (inr e) = same a.reply e.1 ∙ ap (λ r. (answer queue a.operation r).after) (sym e.0)

-- ---- pushes have their effects

abbrev pub body_of : Op → ℕ
body_of (Enq body) = body
body_of Deq = 0
body_of Shut = 0

-- the value that an operation pushes
abbrev pub value_of : Stamped → Taken
value_of p = record { from = p.actor; body = body_of p.op }

abbrev pub values_of : List Stamped → List Taken
values_of [] = []
values_of (p ∷ ps) = value_of p ∷ values_of ps

-- pushes, each told done, before other operations
abbrev pub pushed : List Stamped → List Answered → List Answered
pushed [] rest = rest
pushed (p ∷ ps) rest = given p Done ∷ pushed ps rest

pub pushed_are : (ps : List Stamped) (rest : List Answered) → operations_of (pushed ps rest) ≡ ps ++ operations_of rest
pushed_are [] rest = refl
pushed_are (p ∷ ps) rest = ap (λ os. p ∷ os) (pushed_are ps rest)

abbrev OneRuns : Stamped → Type 0
OneRuns p = (vs : List Taken) (rest : List Answered) → IsRun (record { values = vs ++ value_of p ∷ []; shut = false }) rest → IsRun (record { values = vs; shut = false }) (given p Done ∷ rest)

one_runs : (actor first : ℕ) (last at : Option ℕ) (op : Op) (reply : Option Reply) → waits (record { actor = actor; op = op; first = first; last = last; at = at; reply = reply }) ≡ true
    → OneRuns (record { actor = actor; op = op; first = first; last = last; at = at; reply = reply })
one_runs actor first last at (Enq body) reply w vs rest runs = (refl, runs)
one_runs actor first last at Deq reply w vs rest runs = absurd cc
one_runs actor first last at Shut reply w vs rest runs = absurd cc

one_told : (actor first : ℕ) (last at : Option ℕ) (op : Op) (reply : Option Reply) → waits (record { actor = actor; op = op; first = first; last = last; at = at; reply = reply }) ≡ true
    → IfSome reply (λ told. Done ≡ told)
one_told actor first last at (Enq body) None w = tt
one_told actor first last at (Enq body) (Some Done) w = refl
one_told actor first last at (Enq body) (Some (Value v)) w = absurd cc
one_told actor first last at (Enq body) (Some Empty) w = absurd cc
one_told actor first last at (Enq body) (Some (Refused refusal)) w = absurd cc
one_told actor first last at Deq reply w = absurd cc
one_told actor first last at Shut reply w = absurd cc

pub pushes_told : (ps : List Stamped) (rest : List Answered) → AllByRecursion (λ p. waits p ≡ true) ps → AllByRecursion Gives rest → AllByRecursion Gives (pushed ps rest)
pushes_told [] rest w h = h
pushes_told (p ∷ ps) rest w h = (may_give p Done refl (one_told p.actor p.first p.last p.at p.op p.reply w.0), pushes_told ps rest w.1 h)

pub pushes_run : (ps : List Stamped) (vs : List Taken) (rest : List Answered) → AllByRecursion (λ p. waits p ≡ true) ps → IsRun (record { values = vs ++ values_of ps; shut = false }) rest
    → IsRun (record { values = vs; shut = false }) (pushed ps rest)
pushes_run [] vs rest w runs = subst (λ vs. IsRun (record { values = vs; shut = false }) rest) (nothing_more vs) runs
  where
    nothing_more : (vs : List Taken) → vs ++ [] ≡ vs
    nothing_more [] = refl
    nothing_more (v ∷ vs) = ap (λ l. v ∷ l) (nothing_more vs)
pushes_run (p ∷ ps) vs rest w runs =
    one_runs p.actor p.first p.last p.at p.op p.reply w.0 vs (pushed ps rest)
    (pushes_run ps (vs ++ value_of p ∷ []) rest w.1
    (subst (λ vs. IsRun (record { values = vs; shut = false }) rest) (sym (append_assoc vs (value_of p ∷ []) (values_of ps))) runs))

pub values_joined : (ps qs : List Stamped) → values_of (ps ++ qs) ≡ values_of ps ++ values_of qs
values_joined [] qs = refl
values_joined (p ∷ ps) qs = ap (λ vs. value_of p ∷ vs) (values_joined ps qs)
