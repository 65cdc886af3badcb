-- Which lines give an operation a place by an effect, and that no other one does.
use Rattle.std.proofs.Common.{◌≡◌, ℕ, Bool, true, false, nat_eq, nat_lt, if◌then◌else◌, Option, Some, None, IfSome, refl, sym, ◌∙◌, ◌⊎◌, inl, inr}
use Rattle.std.proofs.lemmas.Option.{none-some, same_Some}
use Rattle.step_machine.specs.Below.{is_null, same_ref, Kind, TwoLock, NonBlocking, Line, N1, N2, N4, N5, F1, F3, E3, E5, E7, E9, D2, D5, D12, D13}
use Rattle.step_machine.specs.Below.{A3, A5, B1, B3, B4, B5, B6, A7, S1, S3, S4, S6, S8, S9, is_shut, null, left, left_with_node, Reply, Done, Value}
use Rattle.step_machine.specs.Below.{Empty, Refused, Setup, Actor, Outcome, Shared, node_at, found, action, outcome, ends, sets_aside, freed}
use Rattle.step_machine.specs.Below.{unlocked, busy_or, gives_up}
use Rattle.counted_ref.proofs.Words.{same_ref-true, same_ref-equal}
use Rattle.step_machine.specs.TakingEffect.{HasEffect, IsByEffect}
use Rattle.step_machine.proofs.Choices.{both}
use Rattle.step_machine.proofs.Reached.{some_of}

-- an outcome gives no place, or it is told empty or refused
abbrev pub Quiet : Outcome → Type 0
Quiet o = (o.at ≡ None) ⊎ (IsByEffect o.reply → ⊥)

ends_quiet : (now : ℕ) (reply : Reply) (a : Actor) → Quiet (ends now reply a)
ends_quiet now Done a = inl refl
ends_quiet now (Value v) a = inl refl
ends_quiet now Empty a = inr (λ h. h)
ends_quiet now (Refused refusal) a = inr (λ h. h)

freed_quiet : (k : Kind) (now : ℕ) (due : Option Reply) (a : Actor) → Quiet (freed k now due a)
freed_quiet TwoLock now None a = inl refl
freed_quiet NonBlocking now None a = inl refl
freed_quiet k now (Some reply) a = ends_quiet now reply a

aside_quiet : (o : Outcome) → Quiet o → Quiet (sets_aside o)
aside_quiet o h = h

unlocked_quiet : (now : ℕ) (due : Option Reply) (a : Actor) → Quiet (unlocked now due a)
unlocked_quiet now (Some Empty) a = inr (λ h. h)
unlocked_quiet now (Some (Refused refusal)) a = inr (λ h. h)
unlocked_quiet now _ a = inl refl

left_quiet : (now : ℕ) (due : Option Reply) (a : Actor) → Quiet (left now due a)
left_quiet now (Some (Refused refusal)) a = inr (λ h. h)
left_quiet now _ a = inl refl

left_with_node_quiet : (now : ℕ) (due : Option Reply) (a : Actor) → Quiet (left_with_node now due a)
left_with_node_quiet now (Some (Refused refusal)) a = inr (λ h. h)
left_with_node_quiet now _ a = inl refl

-- an outcome gives a place by an effect exactly where there is one, and then its own number
pub record Effects (E : Type 0) (now : ℕ) (o : Outcome) : Type 0 where
  pub by : (n : ℕ) → o.at ≡ Some n → IsByEffect o.reply → (n ≡ now) × E
  pub gives : E → o.at ≡ Some now

quietly : (now : ℕ) (o : Outcome) → Quiet o → Effects ⊥ now o
quietly now o (inl none) = record { by = λ n e may. absurd (none-some n (sym none ∙ e)); gives = λ x. absurd x }
quietly now o (inr told) = record { by = λ n e may. absurd (told may); gives = λ x. absurd x }

-- an exchange that has an effect where it finds what it compares with
exchanged : (E : Type 0) (now : ℕ) (b : Bool) (x y : Outcome) → (b ≡ true → E) → (E → b ≡ true) → x.at ≡ Some now → y.at ≡ None → Effects E now (if b then x else y)
exchanged E now true x y is on at none =
    record { by = λ n e may. (same_Some n now (sym e ∙ at), is refl); gives = λ h. at }
exchanged E now false x y is on at none =
    record { by = λ n e may. absurd (none-some n (sym none ∙ e)); gives = λ h. absurd (let f : false ≡ true = on h in cc) }

-- the outcome of each line
pub line_effects : (s : Setup) (now me : ℕ) (a : Actor) (l : Line) (m : Shared) → Effects (HasEffect m a l) now (outcome s now me a l (found (action s me a l) m))
line_effects s now me a E9 m =
    exchanged _ now (same_ref (node_at m a.tail.node).next a.next) _ _ (same_ref-true _ _) (same_ref-equal _ _) refl refl
line_effects s now me a D13 m =
    exchanged _ now (same_ref m.head a.head) _ _ (same_ref-true _ _) (same_ref-equal _ _) refl refl
line_effects s now me a A5 m =
    exchanged _ now (same_ref (node_at m a.tail.node).next null) _ _ (same_ref-true _ _) (same_ref-equal _ _) refl refl
line_effects s now me a S4 m =
    exchanged _ now (same_ref (node_at m a.tail.node).next a.next) _ _ (same_ref-true _ _) (same_ref-equal _ _) refl refl
line_effects s now me a S8 m =
    exchanged _ now (same_ref (node_at m a.tail.node).next null) _ _ (same_ref-true _ _) (same_ref-equal _ _) refl refl
line_effects s now me a S3 m =
    quietly now _
    (both Quiet (same_ref m.tail a.tail)
    (both Quiet (is_null a.next) (inl refl) (both Quiet (is_shut s.bits a.next) (inr (λ h. h)) (both Quiet (nat_eq a.tail.count s.limit) (inr (λ h. h)) (inl refl))))
    (inl refl))
line_effects s now me a S6 m = quietly now _ (both Quiet (nat_eq m.tail_lock 0) (inl refl) (inl refl))
line_effects s now me a A7 m = quietly now _ (left_with_node_quiet now a.due a)
line_effects s now me a S9 m = quietly now _ (left_quiet now a.due a)
line_effects s now me a B5 m = record { by = λ n e may. (same_Some n now (sym e), tt); gives = λ h. refl }
line_effects s now me a N2 m =
    quietly now _
    (both Quiet (is_null m.free) (both Quiet (nat_lt a.f s.size) (inl refl) (inr (λ h. h)))
    (both Quiet (nat_eq m.free.count s.limit) (inr (λ h. h)) (inl refl)))
line_effects s now me a N4 m = quietly now _ (both Quiet (same_ref m.free a.top) (inl refl) (inl refl))
line_effects s now me a N5 m = quietly now _ (both Quiet (nat_eq m.fresh a.f) (inl refl) (inl refl))
line_effects s now me a F1 m =
    quietly now _
    (both Quiet (nat_eq m.free.count s.limit) (aside_quiet (freed s.kind now a.due (record a { top = m.free })) (freed_quiet s.kind now a.due (record a { top = m.free }))) (inl refl))
line_effects s now me a F3 m =
    quietly now _ (both Quiet (same_ref m.free a.top) (freed_quiet s.kind now a.due (record a { holds = false })) (inl refl))
line_effects s now me a E3 m =
    quietly now _ (both Quiet (nat_eq (node_at m a.node).next.count s.limit) (inr (λ h. h)) (inl refl))
line_effects s now me a E7 m =
    quietly now _
    (both Quiet (same_ref m.tail a.tail)
    (both Quiet (is_null a.next) (inl refl) (both Quiet (is_shut s.bits a.next) (inr (λ h. h)) (both Quiet (nat_eq a.tail.count s.limit) (inr (λ h. h)) (inl refl))))
    (inl refl))
line_effects s now me a D5 m =
    quietly now _
    (both Quiet (same_ref m.head a.head)
    (both Quiet (nat_eq a.head.node a.tail.node)
    (both Quiet (is_null a.next) (inr (λ h. h)) (both Quiet (is_shut s.bits a.next) (inr (λ h. h)) (both Quiet (nat_eq a.tail.count s.limit) (inr (λ h. h)) (inl refl))))
    (inl refl))
    (inl refl))
line_effects s now me a D12 m =
    quietly now _ (both Quiet (nat_eq a.head.count s.limit) (inr (λ h. h)) (inl refl))
line_effects s now me a A3 m = quietly now _ (both Quiet (nat_eq m.tail_lock 0) (inl refl) (inl refl))
line_effects s now me a B1 m = quietly now _ (both Quiet (nat_eq m.head_lock 0) (inl refl) (inl refl))
line_effects s now me a B3 m =
    quietly now _ (both Quiet (is_null (node_at m a.head.node).next) (inl refl) (both Quiet (is_shut s.bits (node_at m a.head.node).next) (inl refl) (inl refl)))
line_effects s now me a B4 m = quietly now _ (both Quiet (nat_eq a.head.count s.limit) (inl refl) (inl refl))
line_effects s now me a B6 m = quietly now _ (unlocked_quiet now a.due a)
line_effects s now me a _ m = quietly now _ (inl refl)

busy_or_quiet : (now : ℕ) (due : Option Reply) (a : Actor) → IfSome (busy_or now due a) Quiet
busy_or_quiet now None a = inr (λ h. h)
busy_or_quiet now (Some reply) a = ends_quiet now reply a

-- giving up has no effect
gives_up_quiet : (now : ℕ) (a : Actor) (l : Line) → IfSome (gives_up now a l) Quiet
gives_up_quiet now a N1 = inr (λ h. h)
gives_up_quiet now a D2 = inr (λ h. h)
gives_up_quiet now a B1 = inr (λ h. h)
gives_up_quiet now a S1 = inr (λ h. h)
gives_up_quiet now a S6 = inr (λ h. h)
gives_up_quiet now a E5 = inr (λ h. h)
gives_up_quiet now a A3 = inr (λ h. h)
gives_up_quiet now a F1 = busy_or_quiet now a.due _
gives_up_quiet now a _ = tt

pub give_effects : (now : ℕ) (a : Actor) (l : Line) (o : Outcome) → gives_up now a l ≡ Some o → Effects ⊥ now o
give_effects now a l o e = quietly now o (some_of Quiet (gives_up now a l) o e (gives_up_quiet now a l))
