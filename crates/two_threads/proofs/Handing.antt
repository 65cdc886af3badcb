-- A push, a meeting and a pop, one after another.
use Rattle.std.proofs.Common.{◌≡◌, ℕ, List, [], ◌∷◌, ◌++◌, Option, Some, None, Result, Ok, Err, IfOk, ap, ◌∙◌, append_assoc}
use Rattle.history.specs.declared.operations.Entry.{Entry}
use Rattle.history.specs.declared.operations.Entry.TheVariants.{Push, Pop}
use Rattle.history.specs.declared.operations.Taken.{Taken}
use Rattle.history.specs.declared.refusals.Refusal.{Refusal}
use Rattle.history.specs.Seats.{Known}
use Rattle.history.specs.Answers.{Pushed, PopAnswers, Meets}
use Rattle.two_threads.specs.Duos.{HasSeenPush}

-- what a pop has seen goes on from what its seat had seen
goes_on : (k k' : Known) (taken : Option Taken) → PopAnswers k taken k' → (more : List Entry) × (k'.seen ≡ k.seen ++ more)
goes_on k k' None h = (h.between, h.seen)
goes_on k k' (Some v) h = (h.between ++ Pop k.number v ∷ [], h.seen ∙ append_assoc k.seen h.between (Pop k.number v ∷ []))

pub has_seen : (g g1 g2 t t1 t2 : Known) (body : ℕ) (taken : Option Taken) → Pushed g body g1 → Meets g1 t g2 t1 → PopAnswers t1 taken t2 → HasSeenPush g body t2
has_seen g g1 g2 t t1 t2 body taken push met pop =
    let on = goes_on t1 t2 taken pop in
    let met_seen : t1.seen ≡ g1.seen ++ met.first.between = met.same ∙ met.first.seen in
    let push_then : g1.seen ++ met.first.between ≡ (g.seen ++ push.between) ++ Push g.number body ∷ met.first.between =
    ap (λ es. es ++ met.first.between) push.seen ∙ append_assoc (g.seen ++ push.between) (Push g.number body ∷ []) met.first.between in
    record {
      before = push.between;
      after = met.first.between ++ on.0;
      seen = on.1 ∙ (ap (λ es. es ++ on.0) (met_seen ∙ push_then) ∙ append_assoc (g.seen ++ push.between) (Push g.number body ∷ met.first.between) on.0);
    }

pub if_seen : (g g1 g2 t t1 t2 : Known) (body : ℕ) (r : Result (Option Taken) Refusal) → Pushed g body g1 → Meets g1 t g2 t1 → IfOk r (λ taken. PopAnswers t1 taken t2)
    → IfOk r (λ taken. HasSeenPush g body t2)
if_seen g g1 g2 t t1 t2 body (Ok taken) push met pop = has_seen g g1 g2 t t1 t2 body taken push met pop
if_seen g g1 g2 t t1 t2 body (Err refusal) push met pop = tt
