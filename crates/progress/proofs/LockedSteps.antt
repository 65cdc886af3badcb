-- The two-lock queue's account: what each actor has before it pays for its steps that find no lock held.
use Rattle.std.proofs.Common.{◌≡◌, ℕ, ◌+◌, ◌-◌, ◌*◌, ◌≤◌, length, Option, Some, None, refl, sym, ap, ◌∙◌, subst, arith}
use Rattle.step_machine.specs.Below.{TwoLock, Line, N1, F1, E2, D2, S1, A1, B1, S6, Reply, Actor, Outcome, Shared, performed, found, action, outcome, gives_up, begun}
use Rattle.step_machine.specs.Machine.{World, opening, actor_of, rested, entry_or, run, IsReached}
use Rattle.step_machine.proofs.Reached.{if_some, some_of}
use Rattle.step_machine.proofs.LegalMoves.{begun_entry}
use Rattle.step_machine.specs.Prices.{by_due}
use Rattle.progress.specs.Locked.{unheld_at, unheld_of}
use Rattle.progress.specs.Moves.{steps_unheld, numbered_unheld}
use Rattle.progress.specs.Steps.{FewFindNoLockHeld}
use Rattle.progress.proofs.LockedMover.{locked_at, locked_has, charge_at, charge_of, LowersUnheld, step_lowers_unheld, give_lowers_unheld}
use Rattle.progress.proofs.Accounts.{new_ones, told_actor, Pays, Account, opening_gains}
use Rattle.progress.proofs.Steps.{First, FirstAt, each_begins}

-- a call that begins has at most so much before it, and yet to cost others
first_unheld : (m : Shared) (a : Actor) (l : Line) → First a.due l → locked_at m a (Some l) ≤ 12
first_unheld m a N1 h = omega arith
first_unheld m a E2 h = omega arith
first_unheld m a D2 h = omega arith
first_unheld m a F1 h = omega (arith, ap (λ d. by_due d 9 0) h)
first_unheld m a S1 h = omega arith
first_unheld m a A1 h = omega arith
first_unheld m a B1 h = omega arith
first_unheld m a S6 h = omega arith
first_unheld m a _ h = absurd h

first_charge : (due : Option Reply) (l : Line) → First due l → charge_at due (Some l) ≤ 8
first_charge due N1 h = omega arith
first_charge due E2 h = omega arith
first_charge due D2 h = omega arith
first_charge due F1 h = omega (arith, ap (λ d. by_due d 8 4) h)
first_charge due S1 h = omega arith
first_charge due A1 h = omega arith
first_charge due B1 h = omega arith
first_charge due S6 h = omega arith
first_charge due _ h = absurd h

-- where its operation stands says nothing of what an actor has before it
pub entry_unheld : (m : Shared) (a : Actor) (entry : Option ℕ) (l : Option Line) → locked_at m (record a { entry = entry }) l ≡ locked_at m a l
entry_unheld m a entry None = refl
entry_unheld m a entry (Some N1) = refl
entry_unheld m a entry (Some _) = refl

-- an actor that rests has nothing before it
pub rested_none : (m : Shared) (a : Actor) (entry : Option ℕ) → locked_has m (rested a) entry ≡ 0
rested_none m a None = refl
rested_none m a (Some entry) = refl

pub rested_charge : (due : Option Reply) (entry : Option ℕ) → charge_of due None entry ≡ 0
rested_charge due None = refl
rested_charge due (Some entry) = refl

-- what two actors have yet to cost each other
abbrev pub charge_of_pair : Actor → Actor → ℕ
charge_of_pair a b = charge_of a.due a.line a.entry + charge_of b.due b.line b.entry

-- what an actor that was told an outcome has before it then
module _ (w : World) (r : IsReached w) (e : w.setup.kind ≡ TwoLock) (me : ℕ) (a : Actor) (l : Line) (is : actor_of w me ≡ Some a) (at : a.line ≡ Some l) where
  pub paid_unheld : (m' : Shared) (counts : ℕ) (o : Outcome) → LowersUnheld w.shared m' (charge_at a.due (Some l)) (locked_at w.shared a (Some l))
      counts o → Pays (λ s m c. locked_has m c c.entry) charge_of_pair 12 8 w a m' counts o
  paid_unheld m' counts o f = record { mine = mine a.entry refl; others = λ c. others a.entry refl c }
    where
      amount_then : locked_at m' (told_actor w a o) (told_actor w a o).line ≡ locked_at m' o.actor o.actor.line
      amount_then = entry_unheld m' o.actor (Some (entry_or a.entry (length w.operations))) o.actor.line

      starts : a.entry ≡ None → First a.due l
      starts new = subst (FirstAt a.due) at (each_begins TwoLock w r e me a is new)

      mine : (entry : Option ℕ) → a.entry ≡ entry → locked_at m' (told_actor w a o) (told_actor w a o).line + counts ≤ locked_has w.shared a a.entry + 12 * new_ones a.entry
      mine None new = omega (arith, f.mine, amount_then, first_unheld w.shared a l (starts new), ap (locked_has w.shared a) new, ap (λ x. 12 * new_ones x) new)
      mine (Some entry) old = omega (arith, f.mine, amount_then, ap (locked_has w.shared a) old, ap (locked_at w.shared a) at, ap (λ x. 12 * new_ones x) old)

      up_at : (c : Actor) (j : Option Line) → locked_at m' c j ≤ locked_at w.shared c j + f.cost
      up_at c None = omega arith
      up_at c (Some j) = omega (arith, f.others c j)

      up : (c : Actor) (entry : Option ℕ) → locked_has m' c entry ≤ locked_has w.shared c entry + f.cost
      up c None = omega arith
      up c (Some entry) = up_at c c.line

      others : (entry : Option ℕ) → a.entry ≡ entry → (c : Actor) → locked_has m' c c.entry + charge_of_pair (told_actor w a o) c ≤ locked_has
          w.shared c c.entry + charge_of_pair a c + 8 * new_ones a.entry
      others None new c = omega (arith, up c c.entry, f.covers, first_charge a.due l (starts new), ap (charge_of a.due a.line) new, ap (λ x. 8 * new_ones x) new)
      others (Some entry) old c = omega (arith, up c c.entry, f.covers, ap (charge_of a.due a.line) old, ap (charge_at a.due) at, ap (λ x. 8 * new_ones x) old)

-- the account of the steps that find no lock held
abbrev pub account_unheld : Account TwoLock 12 8 numbered_unheld
account_unheld = record {
  has = λ s m c. locked_has m c c.entry;
  cost = charge_of_pair;
  turned = λ x y. omega arith;
  none = λ s. refl;
  no_cost = refl;
  began = λ w r e me op a at. record {
    mine = omega (arith, ap (locked_has w.shared (begun w.setup.kind me op a)) (begun_entry w.setup.kind me op a));
    others = λ c. omega (arith, ap (charge_of (begun w.setup.kind me op a).due (begun w.setup.kind me op a).line) (begun_entry w.setup.kind me op a));
  };
  step = λ w r e me a l is at.
      subst (λ k. Pays (λ s m c. locked_has m c c.entry) charge_of_pair 12 8 w a (performed (action w.setup me a l) w.shared) k
      (outcome w.setup (w.steps + 1) me a l (found (action w.setup me a l) w.shared)))
      (sym (ap (unheld_of w.shared) is ∙ ap (unheld_at w.shared) at))
      (paid_unheld w r e me a l is at _ _ _ (step_lowers_unheld w r e me a l is at));
  gave_up = λ w r e me a l o is at given. paid_unheld w r e me a l is at w.shared 1 o
      (some_of (LowersUnheld w.shared w.shared (charge_at a.due (Some l)) (locked_at w.shared a (Some l)) 1) (gives_up (w.steps + 1) a l) o given
      (give_lowers_unheld w r e me a l is at));
  at_rest = λ w r e me a l is at may. record {
    mine = omega (arith, rested_none w.shared a a.entry);
    others = λ c. omega (arith, rested_charge a.due a.entry);
  };
}

pub few_find_no_lock_held : FewFindNoLockHeld 8 4
few_find_no_lock_held s actors moves sized e =
    if_some (λ v. steps_unheld moves (opening s actors) ≤ (8 * actors + 4) * length v.operations) (run moves (opening s actors))
    (λ v led. let few : steps_unheld moves (opening s actors) ≤ (12 + 8 * (actors - 1)) * length v.operations =
    some_of (λ x. steps_unheld moves (opening s actors) ≤ (12 + 8 * (actors - 1)) * length x.operations) (run moves (opening s actors)) v led
    (opening_gains TwoLock 12 8 numbered_unheld account_unheld s actors moves sized e) in
    let some : 1 ≤ actors = sized.some_actors in
    let same : 12 + 8 * (actors - 1) ≡ 8 * actors + 4 = omega arith in
    omega (arith, few, ap (λ k. k * length v.operations) same))
