-- A walk to an end is an order: each push is told done as late as it may be, and before its value is taken.
use Rattle.std.proofs.Common.{◌≡◌, ◌⊎◌, inl, inr, append_assoc, ℕ, ◌≤◌, Bool, true, false, not, cond, Option, None, Some, IfSome, List, [], ◌∷◌, ◌++◌, length, refl, sym, ap, ◌∙◌, subst}
use Rattle.std.proofs.lemmas.Bool.{leb-true, le-leb}
use Rattle.std.specs.List.{AllByRecursion}
use Rattle.std.specs.List.Sorted.{IsPermutation}
use Rattle.std.proofs.lemmas.List.Sorted.{IsPermutation-sym, IsPermutation-cons, IsPermutation-trans, IsPermutation-middle, IsPermutation-append_right}
use Rattle.history.specs.declared.operations.Reply.{Reply}
use Rattle.history.specs.declared.operations.Stamped.{Stamped}
use Rattle.history.specs.Linearizability.{Answered, operations_of, IsPending, MayComeBefore, KeepsTime, IsRun}
use Rattle.waiting_orders.specs.declared.walks.Went.{Went}
use Rattle.waiting_orders.specs.Waiting.{IsCall, waits, Where, IsOpenAt, OtherIsOpen, PushIsOpen, State, is_open_at}
use Rattle.waiting_orders.specs.Listed.{all_open, asides_of, due_front, due_later, is_aside, order_of, taken_of}
use Rattle.waiting_orders.proofs.Futures.{all_every, all_moved, every_all}
use Rattle.waiting_orders.proofs.Lists.{all_joined, all_weaker}
use Rattle.waiting_orders.proofs.Inserting.{Gives, MayGive, all_front, all_back, keeps_joined, keeps_front, keeps_across, open_or_not, all_sooner_open, ended_between, given, pushed, pushed_are, pushes_told, values_of}

-- ---- pushes that have to be before a number

-- none of these pushes is before a number without need: of each and those behind it one ended before the number
abbrev pub AreDue : ℕ → List Stamped → Type 0
AreDue time [] = Unit {0}
AreDue time (p ∷ ps) = (AllByRecursion (IsOpenAt time) (p ∷ ps) → ⊥) × AreDue time ps

-- pushes of which the first ones have to be before a number, and the others don't
pub record Due (time : ℕ) (ps due later : List Stamped) : Type 0 where
  pub is : ps ≡ due ++ later
  pub began : AllByRecursion (λ p. p.first ≤ time) due
  pub ongoing : AllByRecursion (IsOpenAt time) later
  pub are : AreDue time due

pub open_test : (time : ℕ) (last : Option ℕ) → is_open_at time last ≡ true → IfSome last (λ last. time ≤ last)
open_test time None e = tt
open_test time (Some last) e = leb-true time last e

test_open : (time : ℕ) (last : Option ℕ) → IfSome last (λ last. time ≤ last) → is_open_at time last ≡ true
test_open time None h = refl
test_open time (Some last) h = le-leb time last h

all_are_open : (time : ℕ) (ps : List Stamped) → all_open time ps ≡ true → AllByRecursion (IsOpenAt time) ps
all_are_open time ps e = all_weaker (λ p. is_open_at time p.last ≡ true) (IsOpenAt time) (λ p. open_test time p.last) ps (all_every (λ p. is_open_at time p.last) ps e)

one_ended : (time : ℕ) (ps : List Stamped) → all_open time ps ≡ false → AllByRecursion (IsOpenAt time) ps → ⊥
one_ended time ps e h =
    let f : all_open time ps ≡ true = every_all (λ p. is_open_at time p.last) ps (all_weaker (IsOpenAt time) (λ p. is_open_at time p.last ≡ true) (λ p. test_open time p.last) ps h) in
    let k : true ≡ false = sym f ∙ e in
    cc k

-- where one of some operations before which an operation may come ended before a number, that one began by then
began_by : (time : ℕ) (p : Stamped) (qs : List Stamped) → AllByRecursion (MayComeBefore p) qs → (AllByRecursion (IsOpenAt time) qs → ⊥) → p.first ≤ time
began_by time p [] b ended = absurd (ended tt)
began_by time p (q ∷ qs) b ended = go (open_or_not time q) (began_by time p qs b.1)
  where
    go : IsOpenAt time q ⊎ (IsOpenAt time q → ⊥) → ((AllByRecursion (IsOpenAt time) qs → ⊥) → p.first ≤ time) → p.first ≤ time
    go (inl a) more = more (λ h. ended (a, h))
    go (inr a) more = ended_between p.first time q.last b.0 a

pub due_of : (time : ℕ) (ps : List Stamped) → AllByRecursion IsCall ps → KeepsTime ps → Due time ps (due_front time ps) (due_later time ps)
due_of time [] calls timely = record { is = refl; began = tt; ongoing = tt; are = tt }
due_of time (p ∷ ps) calls timely = go (all_open time (p ∷ ps)) refl (due_of time ps calls.1 timely.1)
  where
    go : (b : Bool) → all_open time (p ∷ ps) ≡ b → Due time ps (due_front time ps) (due_later time ps) → Due time (p ∷ ps) (cond b [] (p ∷ due_front time ps)) (cond b (p ∷ ps) (due_later time ps))
    go true e m = record { is = refl; began = tt; ongoing = all_are_open time (p ∷ ps) e; are = tt }
    go false e m =
        let ended = one_ended time (p ∷ ps) e in
        record {
          is = ap (λ os. p ∷ os) m.is;
          began = (began_by time p (p ∷ ps) (calls.0.spans, timely.0) ended, m.began);
          ongoing = m.ongoing;
          are = (λ h. ended (h.0, subst (AllByRecursion (IsOpenAt time)) (sym m.is) (all_joined (IsOpenAt time) (due_front time ps) (due_later time ps) h.1 m.ongoing)), m.are);
        }

pub due_joined : (time : ℕ) (ps qs : List Stamped) → AreDue time ps → AreDue time qs → AreDue time (ps ++ qs)
due_joined time [] qs a b = b
due_joined time (p ∷ ps) qs a b = (λ h. a.0 (h.0, all_front (IsOpenAt time) ps qs h.1), due_joined time ps qs a.1 b)

pub due_at_later : (time later : ℕ) → time ≤ later → (ps : List Stamped) → AreDue time ps → AreDue later ps
due_at_later time later h [] a = tt
due_at_later time later h (p ∷ ps) a = (λ k. a.0 (all_sooner_open time later h (p ∷ ps) k), due_at_later time later h ps a.1)

pub none_due : (time : ℕ) (ps : List Stamped) → AllByRecursion (IsOpenAt time) ps → AreDue time ps → ps ≡ []
none_due time [] h a = refl
none_due time (p ∷ ps) h a = absurd (a.0 h)

-- ---- what comes behind a state

-- Pushes had their effect whose values aren't taken yet, and others are to come: none is to come where the queue is shut, and
-- else those that had it had to.
abbrev pub AreSplit : Bool → ℕ → (content coming : List Stamped) → Type 0
AreSplit true time content coming = coming ≡ []
AreSplit false time content coming = AreDue time content

-- an order of the pushes and others that are to come, from a queue with these values, in this list
pub record OrderFrom (content coming others : List Stamped) (shut : Bool) (list : List Stamped) : Type 0 where
  pub order : List Answered
  pub are : operations_of order ≡ list
  pub is : IsPermutation list (coming ++ others)
  pub replies : AllByRecursion Gives order
  pub timely : KeepsTime list
  pub runs : IsRun (record { values = values_of content; shut = shut }) order

-- What comes behind a state: what goes, with pushes in the order of their effects, whose values are in the queue or will be,
-- others, and those set aside; the rest is left out. Where nothing goes any more, these pushes come last.
pub record Future (s : State) (ws : List Went) (stay : List Stamped) : Type 0 where
  pub pushes : List Stamped
  pub others : List Stamped
  pub asides : List Stamped
  pub out : List Stamped
  pub pushes_are : pushes ≡ taken_of ws ++ stay
  pub asides_are : asides ≡ asides_of ws
  pub is : IsPermutation s.left (pushes ++ (others ++ (asides ++ out)))
  pub pending : AllByRecursion IsPending out
  pub each_waits : AllByRecursion (λ p. waits p ≡ true) pushes
  pub none_waits : AllByRecursion (λ o. waits o ≡ false) others
  pub leave : AllByRecursion (λ o. is_aside o.reply ≡ true) asides
  pub timely : KeepsTime pushes
  pub orders : (shut : Bool) → s.shut ≡ shut → (content coming : List Stamped) → pushes ≡ content ++ coming → AreSplit shut s.time content coming
      → OrderFrom content coming others shut (order_of ws (length content) coming)

-- ---- an operation goes, behind pushes that have to be before it

-- what comes before and behind an operation that goes
pub record Passes (o : Stamped) (pushes coming others : List Stamped) : Type 0 where
  pub each_waits : AllByRecursion (λ p. waits p ≡ true) pushes
  pub timely : KeepsTime (pushes ++ coming)
  pub before : AllByRecursion (λ p. AllByRecursion (MayComeBefore p) (o ∷ others)) pushes
  pub then : AllByRecursion (MayComeBefore o) coming
  pub behind : AllByRecursion (MayComeBefore o) others

timely_with : (o : Stamped) (pushes coming others rest : List Stamped) → Passes o pushes coming others → IsPermutation rest (coming ++ others) → KeepsTime rest → KeepsTime (pushes ++ o ∷ rest)
timely_with o pushes coming others rest g is timely =
    keeps_joined pushes (o ∷ rest) (keeps_front pushes coming g.timely)
    (moved o (all_joined (MayComeBefore o) coming others g.then g.behind), timely)
    (each pushes g.before (keeps_across pushes coming g.timely))
  where
    moved : (p : Stamped) → AllByRecursion (MayComeBefore p) (coming ++ others) → AllByRecursion (MayComeBefore p) rest
    moved p h = all_moved (MayComeBefore p) (coming ++ others) rest (IsPermutation-sym rest (coming ++ others) is) h

    each : (ps : List Stamped) → AllByRecursion (λ p. AllByRecursion (MayComeBefore p) (o ∷ others)) ps → AllByRecursion (λ p. AllByRecursion (MayComeBefore p) coming) ps
        → AllByRecursion (λ p. AllByRecursion (MayComeBefore p) (o ∷ rest)) ps
    each [] a b = tt
    each (p ∷ ps) a b = ((a.0.0, moved p (all_joined (MayComeBefore p) coming others b.0 a.0.1)), each ps a.1 b.1)

pub open_others : (time : ℕ) (os : List Stamped) → AllByRecursion (OtherIsOpen time) os → AllByRecursion (λ o. waits o ≡ false) os → AllByRecursion (IsOpenAt time) os
open_others time [] h w = tt
open_others time (o ∷ os) h w = (subst (λ b. Where (not b) (IsOpenAt time o)) w.0 h.0, open_others time os h.1 w.1)

pub open_pushes : (time : ℕ) (ps : List Stamped) → AllByRecursion (PushIsOpen time) ps → AllByRecursion (λ p. waits p ≡ true) ps → AllByRecursion (IsOpenAt time) ps
open_pushes time [] h w = tt
open_pushes time (p ∷ ps) h w = (subst (λ b. Where b (IsOpenAt time p)) w.0 h.0, open_pushes time ps h.1 w.1)

module _ (o : Stamped) (s t : State) (began : o.first ≤ t.time) (ws : List Went) (stay : List Stamped) (r : Future t ws stay)
    (ongoing : AllByRecursion (OtherIsOpen t.time) (o ∷ t.left)) (free : waits o ≡ false) where
  pub of_pushes : (P : Stamped → Type 0) → AllByRecursion P t.left → AllByRecursion P r.pushes
  of_pushes P h = all_front P r.pushes (r.others ++ (r.asides ++ r.out)) (all_moved P t.left (r.pushes ++ (r.others ++ (r.asides ++ r.out))) r.is h)

  pub of_others : (P : Stamped → Type 0) → AllByRecursion P t.left → AllByRecursion P r.others
  of_others P h = all_front P r.others (r.asides ++ r.out) (all_back P r.pushes (r.others ++ (r.asides ++ r.out)) (all_moved P t.left (r.pushes ++ (r.others ++ (r.asides ++ r.out))) r.is h))

  still_ongoing : AllByRecursion (IsOpenAt t.time) (o ∷ r.others)
  still_ongoing = open_others t.time (o ∷ r.others) (ongoing.0, of_others (OtherIsOpen t.time) ongoing.1) (free, r.none_waits)

  -- pushes that began by then, and others that had not ended
  pub goes_at : (pushes coming : List Stamped) → AllByRecursion (λ p. waits p ≡ true) pushes → KeepsTime (pushes ++ coming) → AllByRecursion (λ p. p.first ≤ t.time) pushes
      → AllByRecursion (IsOpenAt t.time) coming → Passes o pushes coming r.others
  goes_at pushes coming w timely b going = record {
    each_waits = w;
    timely = timely;
    before = all_weaker (λ p. p.first ≤ t.time) (λ p. AllByRecursion (MayComeBefore p) (o ∷ r.others)) (λ p h. all_sooner_open p.first t.time h (o ∷ r.others) still_ongoing) pushes b;
    then = all_sooner_open o.first t.time began coming going;
    behind = all_sooner_open o.first t.time began r.others still_ongoing.1;
  }

  -- the order with the operation, behind pushes
  pub line : (shut after : Bool) (reply : Reply) → MayGive o reply → (content pushes later coming list : List Stamped) → Passes o pushes coming r.others
      → (m : OrderFrom later coming r.others after list) → IsRun (record { values = values_of content; shut = shut }) (pushed pushes (given o reply ∷ m.order))
      → OrderFrom content (pushes ++ coming) (o ∷ r.others) shut (pushes ++ o ∷ list)
  line shut after reply told content pushes later coming list g m runs = record {
    order = pushed pushes (given o reply ∷ m.order);
    are = pushed_are pushes (given o reply ∷ m.order) ∙ ap (λ os. pushes ++ o ∷ os) m.are;
    is = subst (λ os. IsPermutation (pushes ++ o ∷ list) os) (sym (append_assoc pushes coming (o ∷ r.others)))
        (IsPermutation-append_right pushes (o ∷ list) (coming ++ o ∷ r.others)
        (IsPermutation-trans _ (o ∷ (coming ++ r.others)) _ (IsPermutation-cons o list (coming ++ r.others) m.is)
        (IsPermutation-sym _ _ (IsPermutation-middle coming o r.others))));
    replies = pushes_told pushes (given o reply ∷ m.order) g.each_waits (told, m.replies);
    timely = timely_with o pushes coming r.others list g m.is m.timely;
    runs = runs;
  }
