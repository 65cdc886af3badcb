-- Which steps note nothing: those that don't answer that the queue is empty, or shut.
use Rattle.std.proofs.Common.{◌≡◌, ℕ, Bool, true, false, if◌then◌else◌, nat_eq, nat_lt, Option, Some, None, List, [], refl, sym, subst}
use Rattle.counted_ref.specs.Ref.{null, is_null, is_shut, same_ref}
use Rattle.line_table.specs.declared.lines.Kind.{Kind}
use Rattle.line_table.specs.declared.lines.Line.{Line}
use Rattle.line_table.specs.declared.lines.Line.TheVariants.{N2, N4, N5, F1, F3, E3, E5, E7, E9, E17, D5, D12, D13, A3, A5, A7, B1, B3, B4, B6, S3, S4, S6, S8, S9}
use Rattle.history.specs.declared.operations.Entry.{Entry}
use Rattle.history.specs.declared.operations.Reply.{Reply}
use Rattle.history.specs.declared.operations.Reply.TheVariants.{Done, Value, Empty, Refused}
use Rattle.history.specs.declared.refusals.Refusal.TheVariants.{Closed}
use Rattle.line_steps.specs.declared.actors.Setup.{Setup}
use Rattle.line_steps.specs.Actors.{Actor}
use Rattle.line_steps.specs.Outcomes.{Outcome}
use Rattle.line_steps.specs.Memory.{Found}
use Rattle.line_steps.specs.Lines.{action, outcome, goes, ends, effect, empties_hand, sets_aside, freed, unlocked, left, left_with_node}
use Rattle.node_arena.specs.Rule.{notes_of}

-- a reply doesn't say that the queue is empty, or shut
abbrev pub IsSilent : Option Reply → Type 0
IsSilent (Some Empty) = ⊥
IsSilent (Some (Refused Closed)) = ⊥
IsSilent reply = Unit {0}

-- a call doesn't answer so at a line: neither by what it read, nor by what is due
abbrev pub AnswersSilently : (bits : ℕ) → Actor → Line → Type 0
AnswersSilently bits a D5 = ⊥
AnswersSilently bits a E7 = is_shut bits a.next ≡ false
AnswersSilently bits a S3 = is_shut bits a.next ≡ false
AnswersSilently bits a F1 = IsSilent a.due
AnswersSilently bits a F3 = IsSilent a.due
AnswersSilently bits a A7 = IsSilent a.due
AnswersSilently bits a B6 = IsSilent a.due
AnswersSilently bits a S9 = IsSilent a.due
AnswersSilently bits a l = Unit {0}

-- such a reply notes nothing
pub notes_no : (reply : Option Reply) (es : List Entry) → IsSilent reply → notes_of reply es ≡ []
notes_no None es h = refl
notes_no (Some Done) es h = refl
notes_no (Some (Value v)) es h = refl
notes_no (Some Empty) es h = absurd h
notes_no (Some (Refused Closed)) es h = absurd h
notes_no (Some (Refused _)) es h = refl

-- an outcome that doesn't say so
pub record Silent (o : Outcome) : Type 0 where
  pub reply : IsSilent o.reply

both : (b : Bool) (x y : Outcome) → Silent x → Silent y → Silent (if b then x else y)
both true x y hx hy = hx
both false x y hx hy = hy

freed_silent : (kind : Kind) (now : ℕ) (due : Option Reply) (a : Actor) → IsSilent due → Silent (freed kind now due a)
freed_silent kind now None a h = record { reply = tt }
freed_silent kind now (Some reply) a h = record { reply = h }

aside_silent : (kind : Kind) (now : ℕ) (due : Option Reply) (a : Actor) → IsSilent due → Silent (sets_aside (freed kind now due a))
aside_silent kind now None a h = record { reply = tt }
aside_silent kind now (Some reply) a h = record { reply = h }

unlocked_silent : (now : ℕ) (due : Option Reply) (a : Actor) → IsSilent due → Silent (unlocked now due a)
unlocked_silent now None a h = record { reply = tt }
unlocked_silent now (Some Done) a h = record { reply = tt }
unlocked_silent now (Some (Value v)) a h = record { reply = tt }
unlocked_silent now (Some Empty) a h = absurd h
unlocked_silent now (Some (Refused refusal)) a h = record { reply = h }

left_silent : (now : ℕ) (due : Option Reply) (a : Actor) → IsSilent due → Silent (left now due a)
left_silent now None a h = record { reply = tt }
left_silent now (Some (Value v)) a h = record { reply = tt }
left_silent now (Some Done) a h = record { reply = tt }
left_silent now (Some Empty) a h = record { reply = tt }
left_silent now (Some (Refused refusal)) a h = record { reply = h }

left_with_node_silent : (now : ℕ) (due : Option Reply) (a : Actor) → IsSilent due → Silent (left_with_node now due a)
left_with_node_silent now None a h = record { reply = tt }
left_with_node_silent now (Some (Value v)) a h = record { reply = tt }
left_with_node_silent now (Some Done) a h = record { reply = tt }
left_with_node_silent now (Some Empty) a h = record { reply = tt }
left_with_node_silent now (Some (Refused refusal)) a h = record { reply = h }

-- an outcome by whether a closed end was read, where none was
open_silent : (b : Bool) (x y : Outcome) → b ≡ false → Silent y → Silent (if b then x else y)
open_silent true x y e h = absurd (let f : true ≡ false = e in cc)
open_silent false x y e h = h

pub silent : (s : Setup) (now me : ℕ) (a : Actor) (l : Line) (c : Found (action s me a l)) → AnswersSilently s.bits a l → Silent (outcome s now me a l c)
silent s now me a N2 c h = both (is_null c) _ _ (both (nat_lt a.f s.size) _ _ record { reply = tt } record { reply = tt })
    (both (nat_eq c.count s.limit) _ _ record { reply = tt } record { reply = tt })
silent s now me a N4 c h = both (same_ref c a.top) _ _ record { reply = tt } record { reply = tt }
silent s now me a N5 c h = both (nat_eq c a.f) _ _ record { reply = tt } record { reply = tt }
silent s now me a F1 c h = both (nat_eq c.count s.limit) _ _ (aside_silent s.kind now a.due (record a { top = c }) h) record { reply = tt }
silent s now me a F3 c h = both (same_ref c a.top) _ _ (freed_silent s.kind now a.due (empties_hand a) h) record { reply = tt }
silent s now me a E3 c h = both (nat_eq c.count s.limit) _ _ record { reply = tt } record { reply = tt }
silent s now me a E7 c h =
    both (same_ref c a.tail) _ _ (both (is_null a.next) _ _ record { reply = tt }
    (open_silent (is_shut s.bits a.next) _ _ h (both (nat_eq a.tail.count s.limit) _ _ record { reply = tt } record { reply = tt })))
    record { reply = tt }
silent s now me a E9 c h = won (same_ref c a.next)
  where
    linked : (b : Bool) → Silent (effect now (if b then ends now Done (empties_hand (record a { due = Some Done })) else goes E17 (empties_hand (record a { due = Some Done }))))
    linked true = record { reply = tt }
    linked false = record { reply = tt }

    won : (b : Bool) → Silent (if b then effect now (if nat_eq a.tail.count s.limit then ends now Done (empties_hand (record a { due = Some Done }))
        else goes E17 (empties_hand (record a { due = Some Done }))) else goes E5 a)
    won true = linked (nat_eq a.tail.count s.limit)
    won false = record { reply = tt }
silent s now me a D5 c h = absurd h
silent s now me a D12 c h = both (nat_eq a.head.count s.limit) _ _ record { reply = tt } record { reply = tt }
silent s now me a D13 c h = both (same_ref c a.head) _ _ record { reply = tt } record { reply = tt }
silent s now me a A3 c h = both (nat_eq c 0) _ _ record { reply = tt } record { reply = tt }
silent s now me a B1 c h = both (nat_eq c 0) _ _ record { reply = tt } record { reply = tt }
silent s now me a B3 c h = both (is_null c) _ _ record { reply = tt } (both (is_shut s.bits c) _ _ record { reply = tt } record { reply = tt })
silent s now me a B4 c h = both (nat_eq a.head.count s.limit) _ _ record { reply = tt } record { reply = tt }
silent s now me a B6 c h = unlocked_silent now a.due a h
silent s now me a A5 c h = both (same_ref c null) _ _ record { reply = tt } record { reply = tt }
silent s now me a A7 c h = left_with_node_silent now a.due a h
silent s now me a S3 c h =
    both (same_ref c a.tail) _ _ (both (is_null a.next) _ _ record { reply = tt }
    (open_silent (is_shut s.bits a.next) _ _ h (both (nat_eq a.tail.count s.limit) _ _ record { reply = tt } record { reply = tt })))
    record { reply = tt }
silent s now me a S4 c h = both (same_ref c a.next) _ _ record { reply = tt } record { reply = tt }
silent s now me a S6 c h = both (nat_eq c 0) _ _ record { reply = tt } record { reply = tt }
silent s now me a S8 c h = both (same_ref c null) _ _ record { reply = tt } record { reply = tt }
silent s now me a S9 c h = left_silent now a.due a h
silent s now me a _ c h = record { reply = tt }

-- a step at a line where the call doesn't answer empty notes nothing
pub notes_nothing : (s : Setup) (now me : ℕ) (a : Actor) (l : Line) (c : Found (action s me a l)) (es : List Entry) → AnswersSilently s.bits a l → notes_of (outcome s now me a l c).reply es ≡ []
notes_nothing s now me a l c es h = notes_no (outcome s now me a l c).reply es (silent s now me a l c h).reply

-- nothing is due yet
pub none_due : (a : Actor) → a.due ≡ None → IsSilent a.due
none_due a e = subst IsSilent (sym e) tt
