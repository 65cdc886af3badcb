-- What the outcome of each line and of each giving up tells of its call: where a refusal and an empty reply stand, which
-- number is noted, and that a call with a place is neither refused nor told that the queue is empty.
use Rattle.std.proofs.Common.{◌≡◌, ℕ, ◌⊎◌, inl, inr, Bool, true, false, nat_eq, nat_lt, if◌then◌else◌, Option, Some, None, IfSome, refl, sym, subst, ap, ◌∙◌}
use Rattle.std.proofs.lemmas.Option.{none-some}
use Rattle.counted_ref.specs.Ref.{is_null, is_shut, null, same_ref}
use Rattle.line_table.specs.declared.lines.Kind.{Kind}
use Rattle.line_table.specs.declared.lines.Line.{Line}
use Rattle.line_table.specs.declared.lines.Line.TheVariants.{N1, N2, N4, N5, F1, F3, E3, E5, E7, E9, E17, D2, D4, D5, D12, D13, A3, A5, A7, B1, B3, B4, B6, S1, S3, S4, S6, S8, S9}
use Rattle.history.specs.declared.refusals.WornWord.TheVariants.{Free as OfFree, Next as OfNext, Tail as OfTail, Head as OfHead}
use Rattle.history.specs.declared.refusals.Refusal.{Refusal}
use Rattle.history.specs.declared.refusals.Refusal.TheVariants.{NoNode, WornOut, Busy, Closed}
use Rattle.history.specs.declared.operations.Reply.{Reply}
use Rattle.history.specs.declared.operations.Reply.TheVariants.{Done, Value, Empty, Refused}
use Rattle.line_steps.specs.declared.actors.Setup.{Setup}
use Rattle.line_steps.specs.Actors.{Actor}
use Rattle.line_steps.specs.Outcomes.{Outcome}
use Rattle.line_steps.specs.Memory.{Found}
use Rattle.line_steps.specs.Lines.{action, outcome, goes, ends, effect, sets_aside, empties_hand, to_pocket, freed, unlocked, left, left_with_node, busy_or, gives_up}
use Rattle.step_machine.specs.TakingEffect.{IsByEffect}
use Rattle.step_machine.specs.Recorded.{looks}
use Rattle.step_machine.proofs.StampsLines.{PointFits, PointLeft, PointAt}

-- what an outcome at a line tells; `looked` is whether the line looks for a node
pub record Tells (l : Line) (looked : Bool) (now : ℕ) (a : Actor) (o : Outcome) : Type 0 where
  pub refused : (refusal : Refusal) → o.reply ≡ Some (Refused refusal) → o.at ≡ Some now
  pub empty : o.reply ≡ Some Empty → o.at ≡ Some a.empty_at
  pub passes : looked ≡ false → o.actor.empty_at ≡ a.empty_at
  pub notes : looked ≡ true → (o.actor.empty_at ≡ now) × (o.reply ≡ None)
  pub unplaced : (at : Option ℕ) → PointAt l a.due at (Unit {0}) → IsByEffect o.reply ⊎ (at ≡ None)

both : {l : Line} {looked : Bool} {now : ℕ} {a : Actor} (b : Bool) (x y : Outcome) → Tells l looked now a x → Tells l looked now a y → Tells l looked now a (if b then x else y)
both true x y hx hy = hx
both false x y hx hy = hy

not_yet : (o : Outcome) (reply : Reply) {X : Type 0} → o.reply ≡ None → o.reply ≡ Some reply → X
not_yet o reply none e = absurd (none-some reply (sym none ∙ e))

false_true : {X : Type 0} → false ≡ true → X
false_true e = cc

-- a call that goes on
goes_on : (l : Line) (now : ℕ) (a : Actor) (o : Outcome) → o.reply ≡ None → o.actor.empty_at ≡ a.empty_at → Tells l false now a o
goes_on l now a o none same =
    record {
      refused = λ refusal e. not_yet o (Refused refusal) none e;
      empty = λ e. not_yet o Empty none e;
      passes = λ e. same;
      notes = λ e. false_true e;
      unplaced = λ at stands. inl (subst IsByEffect (sym none) tt);
    }

-- one that looks for a node
looks_on : (l : Line) (now : ℕ) (a : Actor) (o : Outcome) → o.reply ≡ None → o.actor.empty_at ≡ now → Tells l true now a o
looks_on l now a o none empty_at =
    record {
      refused = λ refusal e. not_yet o (Refused refusal) none e;
      empty = λ e. not_yet o Empty none e;
      passes = λ e. false_true (sym e);
      notes = λ e. (empty_at, none);
      unplaced = λ at stands. inl (subst IsByEffect (sym none) tt);
    }

-- one that ends
ends_with : (l : Line) (now : ℕ) (a : Actor) (reply : Reply) (b : Actor) → b.empty_at ≡ a.empty_at
    → ((at : Option ℕ) → PointAt l a.due at (Unit {0}) → IsByEffect (Some reply) ⊎ (at ≡ None)) → Tells l false now a (ends now reply b)
ends_with l now a Done b same place =
    record { refused = λ refusal e. cc; empty = λ e. cc; passes = λ e. same; notes = λ e. false_true e; unplaced = place }
ends_with l now a (Value v) b same place =
    record { refused = λ refusal e. cc; empty = λ e. cc; passes = λ e. same; notes = λ e. false_true e; unplaced = place }
ends_with l now a Empty b same place =
    record { refused = λ refusal e. cc; empty = λ e. ap Some same; passes = λ e. same; notes = λ e. false_true e; unplaced = place }
ends_with l now a (Refused because) b same place =
    record { refused = λ refusal e. refl; empty = λ e. cc; passes = λ e. same; notes = λ e. false_true e; unplaced = place }

earned_or : (reply : Reply) (at : Option ℕ) → PointFits (Some reply) at (Unit {0}) → IsByEffect (Some reply) ⊎ (at ≡ None)
earned_or Done at h = inl tt
earned_or (Value v) at h = inl tt
earned_or Empty at h = inr h.0
earned_or (Refused refusal) at h = inr h

aside_tells : {l : Line} {looked : Bool} {now : ℕ} {a : Actor} (o : Outcome) → Tells l looked now a o → Tells l looked now a (sets_aside o)
aside_tells o t = record { refused = t.refused; empty = t.empty; passes = t.passes; notes = t.notes; unplaced = t.unplaced }

freed_tells : (l : Line) (kind : Kind) (now : ℕ) (a : Actor) (due : Option Reply) (b : Actor) → b.empty_at ≡ a.empty_at
    → ((at : Option ℕ) → PointAt l a.due at (Unit {0}) → PointFits due at (Unit {0})) → Tells l false now a (freed kind now due b)
freed_tells l kind now a None b same earns = goes_on l now a (freed kind now None b) refl same
freed_tells l kind now a (Some reply) b same earns =
    ends_with l now a reply b same (λ at stands. earned_or reply at (earns at stands))

unlocked_tells : (now : ℕ) (a : Actor) (due : Option Reply) (b : Actor) → b.empty_at ≡ a.empty_at
    → ((at : Option ℕ) → PointAt B6 a.due at (Unit {0}) → PointFits due at (Unit {0})) → Tells B6 false now a (unlocked now due b)
unlocked_tells now a None b same earns = goes_on B6 now a _ refl same
unlocked_tells now a (Some (Value v)) b same earns = goes_on B6 now a _ refl same
unlocked_tells now a (Some Done) b same earns = ends_with B6 now a Done b same (λ at stands. inl tt)
unlocked_tells now a (Some Empty) b same earns = ends_with B6 now a Empty b same (λ at stands. inr (earns at stands).0)
unlocked_tells now a (Some (Refused refusal)) b same earns = ends_with B6 now a (Refused refusal) b same (λ at stands. inr (earns at stands))

pushed_tells : (b : Bool) (now : ℕ) (a c : Actor) → c.empty_at ≡ a.empty_at → Tells E9 false now a (effect now (if b then ends now Done c else goes E17 c))
pushed_tells true now a c same =
    record { refused = λ refusal e. cc; empty = λ e. cc; passes = λ e. same; notes = λ e. false_true e; unplaced = λ at stands. inl tt }
pushed_tells false now a c same = goes_on E9 now a _ refl same

-- a refusal before a line at which the call has no place
refuses : (l : Line) (now : ℕ) (a : Actor) (refusal : Refusal) (b : Actor) → b.empty_at ≡ a.empty_at
    → ((at : Option ℕ) → PointAt l a.due at (Unit {0}) → at ≡ None) → Tells l false now a (ends now (Refused refusal) b)
refuses l now a refusal b same none = ends_with l now a (Refused refusal) b same (λ at stands. inr (none at stands))

left_tells : (now : ℕ) (a : Actor) (due : Option Reply) (b : Actor) → b.empty_at ≡ a.empty_at
    → ((at : Option ℕ) → PointAt S9 a.due at (Unit {0}) → PointLeft due at) → Tells S9 false now a (left now due b)
left_tells now a (Some (Refused refusal)) b same earns = ends_with S9 now a (Refused refusal) b same (λ at stands. inr (earns at stands))
left_tells now a None b same earns = ends_with S9 now a Done b same (λ at stands. inl tt)
left_tells now a (Some Done) b same earns = ends_with S9 now a Done b same (λ at stands. inl tt)
left_tells now a (Some (Value v)) b same earns = ends_with S9 now a Done b same (λ at stands. inl tt)
left_tells now a (Some Empty) b same earns = ends_with S9 now a Done b same (λ at stands. inl tt)

left_with_node_tells : (now : ℕ) (a : Actor) (due : Option Reply) (b : Actor) → b.empty_at ≡ a.empty_at
    → ((at : Option ℕ) → PointAt A7 a.due at (Unit {0}) → PointLeft due at) → Tells A7 false now a (left_with_node now due b)
left_with_node_tells now a (Some (Refused refusal)) b same earns = ends_with A7 now a (Refused refusal) (to_pocket b) same (λ at stands. inr (earns at stands))
left_with_node_tells now a None b same earns = ends_with A7 now a Done b same (λ at stands. inl tt)
left_with_node_tells now a (Some Done) b same earns = ends_with A7 now a Done b same (λ at stands. inl tt)
left_with_node_tells now a (Some (Value v)) b same earns = ends_with A7 now a Done b same (λ at stands. inl tt)
left_with_node_tells now a (Some Empty) b same earns = ends_with A7 now a Done b same (λ at stands. inl tt)

shut_tells : (now : ℕ) (a : Actor) → Tells S4 false now a (effect now (ends now Done a))
shut_tells now a = record { refused = λ refusal e. cc; empty = λ e. cc; passes = λ e. refl; notes = λ e. false_true e; unplaced = λ at stands. inl tt }

-- the outcome of each line
pub tells : (s : Setup) (now me : ℕ) (a : Actor) (l : Line) (c : Found (action s me a l)) → Tells l (looks l) now a (outcome s now me a l c)
tells s now me a N2 c =
    both (is_null c) _ _
    (both (nat_lt a.f s.size) _ _ (goes_on N2 now a _ refl refl) (refuses N2 now a NoNode (record a { top = c }) refl (λ at h. h)))
    (both (nat_eq c.count s.limit) _ _ (refuses N2 now a (WornOut OfFree) (record a { top = c }) refl (λ at h. h)) (goes_on N2 now a _ refl refl))
tells s now me a N4 c = both (same_ref c a.top) _ _ (goes_on N4 now a _ refl refl) (goes_on N4 now a _ refl refl)
tells s now me a N5 c = both (nat_eq c a.f) _ _ (goes_on N5 now a _ refl refl) (goes_on N5 now a _ refl refl)
tells s now me a F1 c =
    both (nat_eq c.count s.limit) _ _
    (aside_tells (freed s.kind now a.due (record a { top = c })) (freed_tells F1 s.kind now a a.due (record a { top = c }) refl (λ at h. h)))
    (goes_on F1 now a _ refl refl)
tells s now me a F3 c =
    both (same_ref c a.top) _ _ (freed_tells F3 s.kind now a a.due (empties_hand a) refl (λ at h. h)) (goes_on F3 now a _ refl refl)
tells s now me a E3 c =
    both (nat_eq c.count s.limit) _ _
    (aside_tells (ends now (Refused (WornOut OfNext)) (record a { mark = c.count })) (refuses E3 now a (WornOut OfNext) (record a { mark = c.count }) refl (λ at h. h)))
    (goes_on E3 now a _ refl refl)
tells s now me a E7 c =
    both (same_ref c a.tail) _ _
    (both (is_null a.next) _ _ (goes_on E7 now a _ refl refl)
    (both (is_shut s.bits a.next) _ _ (refuses E7 now a Closed (to_pocket a) refl (λ at h. h))
    (both (nat_eq a.tail.count s.limit) _ _ (refuses E7 now a (WornOut OfTail) (to_pocket a) refl (λ at h. h)) (goes_on E7 now a _ refl refl))))
    (goes_on E7 now a _ refl refl)
tells s now me a E9 c =
    both (same_ref c a.next) _ _ (pushed_tells (nat_eq a.tail.count s.limit) now a (empties_hand (record a { due = Some Done })) refl) (goes_on E9 now a _ refl refl)
tells s now me a E17 c = ends_with E17 now a Done a refl (λ at h. inl tt)
tells s now me a D4 c = looks_on D4 now a _ refl refl
tells s now me a D5 c =
    both (same_ref c a.head) _ _
    (both (nat_eq a.head.node a.tail.node) _ _
    (both (is_null a.next) _ _ (ends_with D5 now a Empty a refl (λ at h. inr h.0))
    (both (is_shut s.bits a.next) _ _ (refuses D5 now a Closed a refl (λ at h. h.0))
    (both (nat_eq a.tail.count s.limit) _ _ (refuses D5 now a (WornOut OfTail) a refl (λ at h. h.0)) (goes_on D5 now a _ refl refl))))
    (goes_on D5 now a _ refl refl))
    (goes_on D5 now a _ refl refl)
tells s now me a D12 c =
    both (nat_eq a.head.count s.limit) _ _ (refuses D12 now a (WornOut OfHead) (record a { val = c }) refl (λ at h. h)) (goes_on D12 now a _ refl refl)
tells s now me a D13 c = both (same_ref c a.head) _ _ (goes_on D13 now a _ refl refl) (goes_on D13 now a _ refl refl)
tells s now me a A3 c = both (nat_eq c 0) _ _ (goes_on A3 now a _ refl refl) (goes_on A3 now a _ refl refl)
tells s now me a A5 c = both (same_ref c null) _ _ (goes_on A5 now a _ refl refl) (goes_on A5 now a _ refl refl)
tells s now me a A7 c = left_with_node_tells now a a.due a refl (λ at h. h)
tells s now me a S3 c =
    both (same_ref c a.tail) _ _
    (both (is_null a.next) _ _ (goes_on S3 now a _ refl refl)
    (both (is_shut s.bits a.next) _ _ (refuses S3 now a Closed a refl (λ at h. h))
    (both (nat_eq a.tail.count s.limit) _ _ (refuses S3 now a (WornOut OfTail) a refl (λ at h. h)) (goes_on S3 now a _ refl refl))))
    (goes_on S3 now a _ refl refl)
tells s now me a S4 c = both (same_ref c a.next) _ _ (shut_tells now a) (goes_on S4 now a _ refl refl)
tells s now me a S6 c = both (nat_eq c 0) _ _ (goes_on S6 now a _ refl refl) (goes_on S6 now a _ refl refl)
tells s now me a S8 c = both (same_ref c null) _ _ (goes_on S8 now a _ refl refl) (goes_on S8 now a _ refl refl)
tells s now me a S9 c = left_tells now a a.due a refl (λ at h. h)
tells s now me a B1 c = both (nat_eq c 0) _ _ (goes_on B1 now a _ refl refl) (goes_on B1 now a _ refl refl)
tells s now me a B3 c = both (is_null c) _ _ (looks_on B3 now a _ refl refl) (both (is_shut s.bits c) _ _ (looks_on B3 now a _ refl refl) (looks_on B3 now a _ refl refl))
tells s now me a B4 c = both (nat_eq a.head.count s.limit) _ _ (goes_on B4 now a _ refl refl) (goes_on B4 now a _ refl refl)
tells s now me a B6 c = unlocked_tells now a a.due a refl (λ at h. h)
tells s now me a _ c = goes_on _ now a _ refl refl

busy_or_tells : (now : ℕ) (a : Actor) (due : Option Reply) → ((at : Option ℕ) → PointAt F1 a.due at (Unit {0}) → PointFits due at (Unit {0}))
    → IfSome (busy_or now due (to_pocket a)) (Tells F1 false now a)
busy_or_tells now a None earns = refuses F1 now a Busy (to_pocket a) refl (λ at stands. earns at stands)
busy_or_tells now a (Some reply) earns =
    ends_with F1 now a reply (to_pocket a) refl (λ at stands. earned_or reply at (earns at stands))

-- the outcome of giving up at each line
pub given_tells : (now : ℕ) (a : Actor) (l : Line) → IfSome (gives_up now a l) (Tells l false now a)
given_tells now a N1 = refuses N1 now a Busy a refl (λ at h. h)
given_tells now a F1 = busy_or_tells now a a.due (λ at h. h)
given_tells now a E5 = refuses E5 now a Busy (to_pocket a) refl (λ at h. h)
given_tells now a D2 = refuses D2 now a Busy a refl (λ at h. h)
given_tells now a A3 = refuses A3 now a Busy (to_pocket a) refl (λ at h. h)
given_tells now a B1 = refuses B1 now a Busy a refl (λ at h. h)
given_tells now a S1 = refuses S1 now a Busy a refl (λ at h. h)
given_tells now a S6 = refuses S6 now a Busy a refl (λ at h. h)
given_tells now a _ = tt
