-- The first steps of calls whose handle is a share.
use Rattle.std.proofs.Common.{◌≡◌, refl, sym, true, Bool, Option, subst}
use Rattle.calls.specs.declared.calls.Task.{Task}
use Rattle.carriers.specs.declared.queues.Carrier.{Ghosts}
use Rattle.carriers.specs.Knowledge.{KnownOf}
use Rattle.shared_queue.specs.declared.at_once.Tried.{Tried}
use Rattle.shared_queue.specs.declared.at_once.Tried.TheVariants.{Told, Wakes, Rest, AtPlace}
use Rattle.shared_queue.specs.declared.stepped.Asked.{Asked}
use Rattle.shared_queue.specs.Steps.{rests}
use Rattle.shared_queue.specs.TriedCalls.{ComesTo, asked_at, call_after}
use Rattle.msq_c.specs.declared.call_words.MsqAct.{MsqAct}
use Rattle.msq_c.specs.declared.call_words.MsqCall.{MsqCall}
use Rattle.msq_c.specs.declared.share_blocks.ShareBlock.{ShareBlock}
use Rattle.msq_c.specs.Calls.{FirstSteps, LaysTry, BegunFrom, act_after, first_value, known_in, new_call}
use Rattle.msq_c.specs.Passed.{Passing}

-- what a try came to are its call's first steps
pub first_of_try : {A : Type 0} (task : Task) (v : Option A) (k : KnownOf A) (tried : Tried) (v' : Option A) (k' : KnownOf A)
    → ComesTo task v k tried v' k' → FirstSteps true (new_call task true v) k (act_after tried) (asked_at (call_after task tried) v') k'
first_of_try task v k (Told code) v' k' comes = record { after = asked_at comes.0 v'; steps = comes.1; kept = refl }
first_of_try task v k (Wakes bell) v' k' comes = record { after = asked_at (call_after task (Wakes bell)) v'; steps = comes; kept = refl }
first_of_try task v k (Rest seen) v' k' comes = record { after = asked_at (call_after task (Rest seen)) v'; steps = rests comes; kept = refl }
first_of_try task v k (AtPlace seen) v' k' comes = record { after = asked_at (call_after task (AtPlace seen)) v'; steps = rests comes; kept = refl }

module _ {A W C S : Type 0} {g : Ghosts C A S} (p : Passing A W) (b b' : ShareBlock C A S g) (w w' : W) (m m' : MsqCall) (told' : MsqAct) where
  -- and C got what they came to
  pub begun_by_try : (task : Task) (v : Option A) (tried : Tried) (v' : Option A) → ComesTo task v (known_in b) tried v' (known_in b')
      → LaysTry p task tried v' w w' m m' told' → BegunFrom p true (new_call task true v) b b' w w' m m' told'
  begun_by_try task v tried v' comes lays = record {
    act = act_after tried;
    kept = asked_at (call_after task tried) v';
    first = first_of_try task v (known_in b) tried v' (known_in b') comes;
    lays = lays;
  }

  -- the same of a call of this task that tries
  pub begun_so : (task task' : Task) (tries : Bool) (value : A) → tries ≡ true → task ≡ task'
      → BegunFrom p true (new_call task' true (first_value task' value)) b b' w w' m m' told' → BegunFrom p tries (new_call task tries (first_value task value)) b b' w w' m m' told'
  begun_so task task' tries value is of begun =
      subst (λ (t : Bool). BegunFrom p t (new_call task t (first_value task value)) b b' w w' m m' told') (sym is)
      (subst (λ (x : Task). BegunFrom p true (new_call x true (first_value x value)) b b' w w' m m' told') (sym of) begun)
