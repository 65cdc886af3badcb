-- Acts that are done one after another.
use Rattle.std.proofs.Common.{◌≡◌, ◌≢◌, ℕ, ◌+◌, ◌*◌, ◌<◌, ◌≤◌, List, [], ◌∷◌, ◌++◌, All, length, take, drop, get_or}
use Rattle.std.proofs.Common.{take-append-drop, subst, arith, refl, sym, ap, ◌∙◌, append_assoc}
use Rattle.std.proofs.lemmas.List.{append-nil, drop_more, take_all, take_more}
use Rattle.std.proofs.lemmas.List.Elements.{All-nil, All-cons, All-append}
use Rattle.engine_faults.specs.Faults.{IsEventRefusal, IsMoveRefusal}
use Rattle.history.specs.declared.refusals.Refusal.TheVariants.{Memory, IdleActor, ActorBusy, NotHere, NoSuchActor}
use Rattle.history.specs.declared.refusals.Refusal.{Refusal}
use Rattle.schedule_text.specs.declared.schedules.Event.{Event}
use Rattle.step_machine.specs.Machine.{World}
use Rattle.expand_engine.specs.declared.recipes.Act.{Act}
use Rattle.expand_engine.specs.Expansions.{ActLeads, ActRefused, ActsLead, DoesAct, StopsAt}

-- acts, and then one more
pub ActsLead-push : (acts : List Act) (act : Act) (w v u : World) (events more : List Event) → ActsLead w acts events v → ActLeads v act.said more u → ActsLead w (acts ++ act ∷ []) (events ++ more) u
ActsLead-push [] act w v u events more led leads =
    (u, more, [], ap (λ (e : List Event). e ++ more) led.0 ∙ sym (append-nil more), rw led.1 leads, (refl, refl))
ActsLead-push (first ∷ acts) act w v u events more led leads =
    (led.0, led.1, led.2 ++ more, ap (λ (e : List Event). e ++ more) led.3 ∙ append_assoc led.1 led.2 more, led.4, ActsLead-push acts act led.0 v u led.2 more led.5 leads)

-- what moves are refused but for memory, an event is
event_refusal : (refusal : Refusal) → IsMoveRefusal refusal → refusal ≢ Memory → IsEventRefusal refusal
event_refusal Memory kind other = absurd (other refl)
event_refusal IdleActor kind other = kind
event_refusal ActorBusy kind other = kind
event_refusal NotHere kind other = kind
event_refusal NoSuchActor kind other = kind
event_refusal _ kind other = absurd kind

-- so many acts were done, each in at most 1,000,000 steps
pub record HasDone (w : World) (acts : List Act) (events : List Event) (v : World) (count : ℕ) : Type 0 where
  pub led : ActsLead w acts events v
  pub steps : v.steps ≤ w.steps + 1000000 * count

pub HasDone-more : (acts : List Act) (w v u : World) (events more : List Event) (i : ℕ) (act : Act) → HasDone w (take i acts) events v i → i < length acts → act ≡ get_or acts i act
    → DoesAct v act.said events more u → u.steps ≤ v.steps + 1000000 → HasDone w (take (i + 1) acts) more u (i + 1)
HasDone-more acts w v u events more i act done within is does few = record {
  led =
      subst (λ (e : List Event). ActsLead w (take (i + 1) acts) e u) (sym does.added)
      (subst (λ (l : List Act). ActsLead w l (events ++ does.events) u) (sym (take_more acts i act within ∙ ap (λ (a : Act). take i acts ++ a ∷ []) (sym is)))
      (ActsLead-push (take i acts) act w v u events does.events done.led does.leads));
  steps = let before = done.steps in omega (arith, few, before);
}

-- the act at hand is refused
pub HasDone-stops : (acts : List Act) (w v : World) (events told : List Event) (i : ℕ) (act : Act) (refusal : Refusal) → HasDone w (take i acts) events v i → i < length acts → act ≡ get_or acts i act
    → told ≡ events → IsMoveRefusal refusal → refusal ≢ Memory → (refusal ≢ Memory → ActRefused v act.said refusal) → StopsAt w acts told v (record { act = act; refusal = refusal })
HasDone-stops acts w v events told i act refusal done within is same kind other refused = record {
  before = take i acts;
  later = drop (i + 1) acts;
  split = sym (take-append-drop i acts) ∙ ap (λ (l : List Act). take i acts ++ l) (drop_more acts i act within ∙ ap (λ (a : Act). a ∷ drop (i + 1) acts) (sym is));
  led = subst (λ (e : List Event). ActsLead w (take i acts) e v) (sym same) done.led;
  kind = event_refusal refusal kind other;
  refused = refused other;
}

-- all were done
pub HasDone-all : (acts : List Act) (w v : World) (events : List Event) (i : ℕ) → HasDone w (take i acts) events v i → length acts ≤ i → ActsLead w acts events v
HasDone-all acts w v events i done over = subst (λ (l : List Act). ActsLead w l events v) (take_all i acts over) done.led

-- what holds of the first elements holds of one more
pub All-more : {A : Type 0} (P : A → Type 0) (xs : List A) (i : ℕ) (x : A) → All P (take i xs) → i < length xs → x ≡ get_or xs i x → P x → All P (take (i + 1) xs)
All-more P xs i x all within is holds =
    subst (All P) (sym (take_more xs i x within ∙ ap (λ x. take i xs ++ x ∷ []) (sym is))) (All-append P (take i xs) (x ∷ []) all (All-cons P x [] holds (All-nil P)))

pub All-whole : {A : Type 0} (P : A → Type 0) (xs : List A) (i : ℕ) → All P (take i xs) → length xs ≤ i → All P xs
All-whole P xs i all over = subst (All P) (take_all i xs over) all
