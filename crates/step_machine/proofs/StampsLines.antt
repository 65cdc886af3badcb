-- What each line knows of its operation, and that each step and each giving up keeps it.
use Rattle.std.proofs.Common.{◌≡◌, ℕ, ◌+◌, Bool, true, false, nat_eq, nat_lt, if◌then◌else◌, Option, Some, None, IfSome, refl}
use Rattle.std.specs.Prelude.{IsSome}
use Rattle.step_machine.specs.Below.{is_null, same_ref, Kind, TwoLock, NonBlocking, Line, N1, N2, N4, N5, F1, F2, F3, E3, E5, E7, E9, E17, D2, D4, D5}
use Rattle.step_machine.specs.Below.{D12, D13, A3, A5, A6, A7, B1, B3, B4, B5, B6, S1, S3, S4, S6, S8, S9, is_shut, null, left, left_with_node, Reply}
use Rattle.step_machine.specs.Below.{Done, Value, Empty, Refused, Setup, Actor, Outcome, Found, action, outcome, goes, ends, effect, sets_aside}
use Rattle.step_machine.specs.Below.{fills_hand, empties_hand, to_pocket, with_node, freed, unlocked, busy_or, gives_up}
use Rattle.step_machine.specs.Machine.{latest_point}
use Rattle.step_machine.proofs.Choices.{both}

-- what a call's answer, where it is settled, says of the operation's place; `Noted` says that the number noted is one
-- of the call
abbrev pub PointFits : (due : Option Reply) (at : Option ℕ) → (Noted : Type 0) → Type 0
PointFits None at Noted = at ≡ None
PointFits (Some Done) at Noted = IsSome at
PointFits (Some (Value v)) at Noted = IsSome at
PointFits (Some Empty) at Noted = (at ≡ None) × Noted
PointFits (Some (Refused refusal)) at Noted = at ≡ None

-- where the operation of a call stands that lets the tail lock go: it has a place, unless it is refused
abbrev pub PointLeft : (due : Option Reply) (at : Option ℕ) → Type 0
PointLeft (Some (Refused refusal)) at = at ≡ None
PointLeft _ at = IsSome at

-- what is known of the operation of an actor that stands before a line
abbrev pub PointAt : Line → (due : Option Reply) (at : Option ℕ) → (Noted : Type 0) → Type 0
PointAt F1 due at Noted = PointFits due at Noted
PointAt F2 due at Noted = PointFits due at Noted
PointAt F3 due at Noted = PointFits due at Noted
PointAt E17 due at Noted = IsSome at
PointAt D5 due at Noted = (at ≡ None) × Noted
PointAt A6 due at Noted = PointLeft due at
PointAt A7 due at Noted = PointLeft due at
PointAt S9 due at Noted = PointLeft due at
PointAt B6 due at Noted = PointFits due at Noted
PointAt _ due at Noted = at ≡ None

-- what is earned stays so while the number noted stays one of the call
point_fits_while : (due : Option Reply) (at : Option ℕ) {P Q : Type 0} → (P → Q) → PointFits due at P → PointFits due at Q
point_fits_while (Some Empty) at f h = (h.0, f h.1)
point_fits_while _ at f h = h

-- what a line knows stays so while the number noted stays one of the call
pub point_at_while : (l : Line) (due : Option Reply) (at : Option ℕ) {P Q : Type 0} → (P → Q) → PointAt l due at P → PointAt l due at Q
point_at_while F1 due at f h = point_fits_while due at f h
point_at_while F2 due at f h = point_fits_while due at f h
point_at_while F3 due at f h = point_fits_while due at f h
point_at_while B6 due at f h = point_fits_while due at f h
point_at_while D5 due at f h = (h.0, f h.1)
point_at_while _ due at f h = h

-- an actor that goes on knows what its line knows; a call that ends has a place
abbrev pub GoesOn : Option Line → (reply due : Option Reply) (at : Option ℕ) → (Noted : Type 0) → Type 0
GoesOn None None due at Noted = ⊥
GoesOn None (Some reply) due at Noted = IsSome at
GoesOn (Some l) None due at Noted = PointAt l due at Noted
GoesOn (Some l) (Some reply) due at Noted = ⊥

-- an outcome tells an operation a place that is a number of the call, and its actor goes on
pub record Turns (Q : ℕ → Type 0) (at : Option ℕ) (o : Outcome) : Type 0 where
  pub place : IfSome (latest_point o.at at) Q
  pub goes_on : GoesOn o.actor.line o.reply o.actor.due (latest_point o.at at) (Q o.actor.empty_at)

-- a call that ends with the answer that it earned
ends_turned : (Q : ℕ → Type 0) (now : ℕ) (reply : Reply) (a : Actor) (at : Option ℕ) → Q now → IfSome at Q → PointFits (Some reply) at (Q a.empty_at) → Turns Q at (ends now reply a)
ends_turned Q now Done a at n p h = record { place = p; goes_on = h }
ends_turned Q now (Value v) a at n p h = record { place = p; goes_on = h }
ends_turned Q now Empty a at n p h = record { place = h.1; goes_on = refl }
ends_turned Q now (Refused refusal) a at n p h = record { place = n; goes_on = refl }

left_turned : (Q : ℕ → Type 0) (now : ℕ) (due : Option Reply) (a : Actor) (at : Option ℕ) → Q now → IfSome at Q → PointLeft due at → Turns Q at (left now due a)
left_turned Q now (Some (Refused refusal)) a at n p h = record { place = n; goes_on = refl }
left_turned Q now None a at n p h = record { place = p; goes_on = h }
left_turned Q now (Some Done) a at n p h = record { place = p; goes_on = h }
left_turned Q now (Some (Value v)) a at n p h = record { place = p; goes_on = h }
left_turned Q now (Some Empty) a at n p h = record { place = p; goes_on = h }

left_with_node_turned : (Q : ℕ → Type 0) (now : ℕ) (due : Option Reply) (a : Actor) (at : Option ℕ) → Q now → IfSome at Q → PointLeft due at → Turns Q at (left_with_node now due a)
left_with_node_turned Q now (Some (Refused refusal)) a at n p h = record { place = n; goes_on = refl }
left_with_node_turned Q now None a at n p h = record { place = p; goes_on = h }
left_with_node_turned Q now (Some Done) a at n p h = record { place = p; goes_on = h }
left_with_node_turned Q now (Some (Value v)) a at n p h = record { place = p; goes_on = h }
left_with_node_turned Q now (Some Empty) a at n p h = record { place = p; goes_on = h }

freed_turned : (Q : ℕ → Type 0) (k : Kind) (now : ℕ) (due : Option Reply) (a : Actor) (at : Option ℕ) → Q now → IfSome at Q → PointFits due at (Q a.empty_at) → Turns Q at (freed k now due a)
freed_turned Q TwoLock now None a at n p h = record { place = p; goes_on = h }
freed_turned Q NonBlocking now None a at n p h = record { place = p; goes_on = h }
freed_turned Q k now (Some reply) a at n p h = ends_turned Q now reply a at n p h

aside_turned : {Q : ℕ → Type 0} {at : Option ℕ} (o : Outcome) → Turns Q at o → Turns Q at (sets_aside o)
aside_turned o t = record { place = t.place; goes_on = t.goes_on }

unlocked_turned : (Q : ℕ → Type 0) (now : ℕ) (due : Option Reply) (a : Actor) (at : Option ℕ) → Q now → IfSome at Q → PointFits due at (Q a.empty_at)
    → PointFits a.due at (Q a.empty_at) → Turns Q at (unlocked now due a)
unlocked_turned Q now None a at n p h g = record { place = p; goes_on = g }
unlocked_turned Q now (Some (Value v)) a at n p h g = record { place = p; goes_on = g }
unlocked_turned Q now (Some Done) a at n p h g = ends_turned Q now Done a at n p h
unlocked_turned Q now (Some Empty) a at n p h g = ends_turned Q now Empty a at n p h
unlocked_turned Q now (Some (Refused refusal)) a at n p h g = ends_turned Q now (Refused refusal) a at n p h

with_node_turned : (Q : ℕ → Type 0) (k : Kind) (a : Actor) (at : Option ℕ) → IfSome at Q → at ≡ None → Turns Q at (goes (with_node k) a)
with_node_turned Q TwoLock a at p h = record { place = p; goes_on = h }
with_node_turned Q NonBlocking a at p h = record { place = p; goes_on = h }

pushed_turned : (Q : ℕ → Type 0) (b : Bool) (now : ℕ) (a : Actor) (at : Option ℕ) → Q now → Turns Q at (effect now (if b then ends now Done a else goes E17 a))
pushed_turned Q true now a at n = record { place = n; goes_on = refl }
pushed_turned Q false now a at n = record { place = n; goes_on = refl }

-- the outcome of each line
pub turned : (Q : ℕ → Type 0) (s : Setup) (now me : ℕ) (a : Actor) (l : Line) (c : Found (action s me a l)) (at : Option ℕ) → Q now → IfSome at Q
    → PointAt l a.due at (Q a.empty_at) → Turns Q at (outcome s now me a l c)
turned Q s now me a N2 c at n p h =
    both (Turns Q at) (is_null c)
    (both (Turns Q at) (nat_lt a.f s.size) record { place = p; goes_on = h } record { place = n; goes_on = refl })
    (both (Turns Q at) (nat_eq c.count s.limit) record { place = n; goes_on = refl } record { place = p; goes_on = h })
turned Q s now me a N4 c at n p h =
    both (Turns Q at) (same_ref c a.top) (with_node_turned Q s.kind (fills_hand a.top.node a.next.count a) at p h) record { place = p; goes_on = h }
turned Q s now me a N5 c at n p h =
    both (Turns Q at) (nat_eq c a.f) (with_node_turned Q s.kind (fills_hand (a.f + 1) 0 a) at p h) record { place = p; goes_on = h }
turned Q s now me a F1 c at n p h =
    both (Turns Q at) (nat_eq c.count s.limit)
    (aside_turned _ (freed_turned Q s.kind now a.due (record a { top = c }) at n p h))
    record { place = p; goes_on = h }
turned Q s now me a F3 c at n p h =
    both (Turns Q at) (same_ref c a.top) (freed_turned Q s.kind now a.due (empties_hand a) at n p h) record { place = p; goes_on = h }
turned Q s now me a E3 c at n p h =
    both (Turns Q at) (nat_eq c.count s.limit) record { place = n; goes_on = refl } record { place = p; goes_on = h }
turned Q s now me a E7 c at n p h =
    both (Turns Q at) (same_ref c a.tail)
    (both (Turns Q at) (is_null a.next) record { place = p; goes_on = h } (both (Turns Q at) (is_shut s.bits a.next) record
    { place = n; goes_on = refl } (both (Turns Q at) (nat_eq a.tail.count s.limit) record { place = n; goes_on = refl } record
    { place = p; goes_on = h })))
    record { place = p; goes_on = h }
turned Q s now me a E9 c at n p h =
    both (Turns Q at) (same_ref c a.next)
    (pushed_turned Q (nat_eq a.tail.count s.limit) now (empties_hand (record a { due = Some Done })) at n)
    record { place = p; goes_on = h }
turned Q s now me a D4 c at n p h = record { place = p; goes_on = (h, n) }
turned Q s now me a D5 c at n p h =
    both (Turns Q at) (same_ref c a.head)
    (both (Turns Q at) (nat_eq a.head.node a.tail.node)
    (both (Turns Q at) (is_null a.next) record { place = h.1; goes_on = refl }
    (both (Turns Q at) (is_shut s.bits a.next) record { place = n; goes_on = refl }
    (both (Turns Q at) (nat_eq a.tail.count s.limit) record { place = n; goes_on = refl } record { place = p; goes_on = h.0 })))
    record { place = p; goes_on = h.0 })
    record { place = p; goes_on = h.0 }
turned Q s now me a D12 c at n p h =
    both (Turns Q at) (nat_eq a.head.count s.limit) record { place = n; goes_on = refl } record { place = p; goes_on = h }
turned Q s now me a D13 c at n p h =
    both (Turns Q at) (same_ref c a.head) record { place = n; goes_on = refl } record { place = p; goes_on = h }
turned Q s now me a A3 c at n p h = both (Turns Q at) (nat_eq c 0) record { place = p; goes_on = h } record { place = p; goes_on = h }
turned Q s now me a A5 c at n p h = both (Turns Q at) (same_ref c null) record { place = n; goes_on = refl } record { place = p; goes_on = h }
turned Q s now me a A7 c at n p h = left_with_node_turned Q now a.due a at n p h
turned Q s now me a S3 c at n p h =
    both (Turns Q at) (same_ref c a.tail)
    (both (Turns Q at) (is_null a.next) record { place = p; goes_on = h } (both (Turns Q at) (is_shut s.bits a.next) record
    { place = n; goes_on = refl } (both (Turns Q at) (nat_eq a.tail.count s.limit) record { place = n; goes_on = refl } record
    { place = p; goes_on = h })))
    record { place = p; goes_on = h }
turned Q s now me a S4 c at n p h = both (Turns Q at) (same_ref c a.next) record { place = n; goes_on = refl } record { place = p; goes_on = h }
turned Q s now me a S6 c at n p h = both (Turns Q at) (nat_eq c 0) record { place = p; goes_on = h } record { place = p; goes_on = h }
turned Q s now me a S8 c at n p h = both (Turns Q at) (same_ref c null) record { place = n; goes_on = refl } record { place = p; goes_on = h }
turned Q s now me a S9 c at n p h = left_turned Q now a.due a at n p h
turned Q s now me a B1 c at n p h = both (Turns Q at) (nat_eq c 0) record { place = p; goes_on = h } record { place = p; goes_on = h }
turned Q s now me a B3 c at n p h = both (Turns Q at) (is_null c) record { place = p; goes_on = (h, n) }
    (both (Turns Q at) (is_shut s.bits c) record { place = p; goes_on = h } record { place = p; goes_on = h })
turned Q s now me a B4 c at n p h =
    both (Turns Q at) (nat_eq a.head.count s.limit) record { place = p; goes_on = h } record { place = p; goes_on = h }
turned Q s now me a B5 c at n p h = record { place = n; goes_on = refl }
turned Q s now me a B6 c at n p h = unlocked_turned Q now a.due a at n p h h
turned Q s now me a _ c at n p h = record { place = p; goes_on = h }

busy_or_turned : (Q : ℕ → Type 0) (now : ℕ) (due : Option Reply) (a : Actor) (at : Option ℕ) → Q now → IfSome at Q → PointFits due at (Q a.empty_at) → IfSome (busy_or now due a) (Turns Q at)
busy_or_turned Q now None a at n p h = record { place = n; goes_on = refl }
busy_or_turned Q now (Some reply) a at n p h = ends_turned Q now reply a at n p h

-- the outcome of giving up at each line
pub given_turned : (Q : ℕ → Type 0) (now : ℕ) (a : Actor) (l : Line) (at : Option ℕ) → Q now → IfSome at Q → PointAt l a.due at (Q a.empty_at) → IfSome (gives_up now a l) (Turns Q at)
given_turned Q now a N1 at n p h = record { place = n; goes_on = refl }
given_turned Q now a D2 at n p h = record { place = n; goes_on = refl }
given_turned Q now a B1 at n p h = record { place = n; goes_on = refl }
given_turned Q now a S1 at n p h = record { place = n; goes_on = refl }
given_turned Q now a S6 at n p h = record { place = n; goes_on = refl }
given_turned Q now a E5 at n p h = record { place = n; goes_on = refl }
given_turned Q now a A3 at n p h = record { place = n; goes_on = refl }
given_turned Q now a F1 at n p h = busy_or_turned Q now a.due (to_pocket a) at n p h
given_turned Q now a _ at n p h = tt
