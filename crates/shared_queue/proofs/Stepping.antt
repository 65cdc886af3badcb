-- One access more of a call.
use Rattle.std.proofs.Common.{◌≡◌, ◌∙◌, ℕ, sym, subst, Bool, Option}
use Rattle.calls.specs.declared.calls.Access.{Access}
use Rattle.calls.specs.declared.calls.Act.{Act}
use Rattle.calls.specs.declared.calls.Act.TheVariants.{GoOn}
use Rattle.calls.specs.declared.calls.Call.{Call}
use Rattle.calls.specs.declared.calls.Seen.{Seen}
use Rattle.calls.specs.Machine.{access_of, advanced}
use Rattle.carriers.specs.Knowledge.{KnownOf}
use Rattle.shared_queue.specs.declared.stepped.Asked.{Asked}
use Rattle.shared_queue.specs.Steps.{Makes, GoesOn, and_then, Steps, comes_to}

-- a call went on to here, and made this access, which was due; it stays the call that it was until it is told what it saw
module _ {A : Type 0} (past : Bool) (a b : Asked A) (k l : KnownOf A) (goes : GoesOn past a k b l) (due : Access) (is_due : due ≡ access_of b.call)
    (seen : Seen) (l' : KnownOf A) (value' : Option A) (makes : Makes due l b.value seen l' value')
    (call call' : Call) (same : call ≡ b.call) (is_call : call' ≡ (advanced call seen past).0) (act : Act) (is_act : act ≡ (advanced call seen past).1) (heard' : ℕ) where
  -- the access that was due
  made : Makes (access_of b.call) l b.value seen l' value'
  made = subst (λ d. Makes d l b.value seen l' value') is_due makes

  -- where the call then stands
  stands : call' ≡ (advanced b.call seen past).0
  stands = subst (λ c. call' ≡ (advanced c seen past).0) same is_call

  -- what is then to be done
  does : act ≡ (advanced b.call seen past).1
  does = subst (λ c. act ≡ (advanced c seen past).1) same is_act

  -- it goes on
  pub goes_on : act ≡ GoOn → GoesOn past a k (record { call = call'; value = value'; heard = heard' }) l'
  goes_on is = and_then seen goes made stands (sym does ∙ is)

  -- or comes to something to do
  pub comes : Steps past a k act (record { call = call'; value = value'; heard = heard' }) l'
  comes = subst (λ x. Steps past a k x (record { call = call'; value = value'; heard = heard' }) l') (sym does) (comes_to seen goes made stands)
