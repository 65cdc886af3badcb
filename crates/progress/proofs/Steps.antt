-- The non-blocking queue's account: what each actor has before it, and each two, pays for its steps.
use Rattle.std.proofs.Common.{◌≡◌, ◌≢◌, ℕ, zero, suc, ◌+◌, ◌-◌, ◌*◌, ◌≤◌, Bool, true, false, nat_eq, slice_index_or, List, length, replicate, Option}
use Rattle.std.proofs.Common.{Some, None, IfSome, refl, sym, ap, ◌∙◌, subst, arith, ◌⊎◌, inl, inr}
use Rattle.std.proofs.Math.ListN.{length-replicate}
use Rattle.std.proofs.lemmas.Bool.{true≢false}
use Rattle.std.proofs.lemmas.Option.{none-some}
use Rattle.step_machine.specs.Below.{Kind, TwoLock, NonBlocking, Line, N1, F1, E2, D2, S1, A1, B1, S6, Op, Enq, Deq, Shut, Reply, Setup, Held, Actor}
use Rattle.step_machine.specs.Below.{Outcome, Shared, blank, first_words, is_null, is_shut, gives_up, begun, from_pocket, section_of}
use Rattle.step_machine.specs.Machine.{World, idle, opening, actor_of, rested, with_actor, entry_or, after_outcome, stepped, may_rest, AnyMove, run, IsSized, IsReached}
use Rattle.step_machine.specs.ProgramCounters.{IsRunBy}
use Rattle.step_machine.specs.NonBlocking.{OfNonBlockingWorlds}
use Rattle.step_machine.proofs.Reached.{actor_stands, if_some, some_of, reached_in_range}
use Rattle.step_machine.proofs.Reaching.{each_reached}
use Rattle.step_machine.proofs.LegalMoves.{begun_entry}
use Rattle.step_machine.proofs.EitherQueue.{each_runs_its_queue}
use Rattle.step_machine.proofs.StampsInvariants.{actor_cases}
use Rattle.step_machine.proofs.StampsMoves.{idle_got}
use Rattle.step_machine.specs.Prices.{if_so, by_due, of_pocket, all_steps}
use Rattle.step_machine.specs.Amounts.{names, tail_lags, own, amount_at, in_hand, has}
use Rattle.step_machine.specs.Pairs.{Stage, Resting, Taking, Linking, Popping, Freeing, FreeingFirst, freeing, stage, stage_at, stage_of, pair, dues}
use Rattle.progress.specs.Moves.{total, numbered}
use Rattle.progress.specs.Steps.{cost_of_pair, IsFew, IsFewLater}
use Rattle.step_machine.proofs.Others.{for_tail}
use Rattle.step_machine.proofs.Mover.{unless_worn, IsEnough, Lowers, step_lowers, give_lowers, gone}
use Rattle.step_machine.proofs.Alone.{entry_left}
use Rattle.progress.proofs.Accounts.{new_ones, told_actor, Pays, Account, steps_numbered, as_many, Gains, run_gains, opening_gains}

-- a call begins at one of these lines
abbrev pub First : Option Reply → Line → Type 0
First due N1 = Unit {0}
First due E2 = Unit {0}
First due D2 = Unit {0}
First due F1 = due ≡ None
First due S1 = Unit {0}
First due A1 = Unit {0}
First due B1 = Unit {0}
First due S6 = Unit {0}
First due _ = ⊥

abbrev pub FirstAt : Option Reply → Option Line → Type 0
FirstAt due None = Unit {0}
FirstAt due (Some l) = First due l

-- an actor whose call has no number stands where a call begins
abbrev pub EachBegins : World → Type 0
EachBegins w = (me : ℕ) (a : Actor) → actor_of w me ≡ Some a → a.entry ≡ None → FirstAt a.due a.line

pocket_first : (l : Line) (q : Option Held) (a : Actor) → First a.due l → FirstAt a.due a.line → FirstAt (from_pocket l q a).due (from_pocket l q a).line
pocket_first l None a h g = g
pocket_first l (Some held) a h g = h

begun_first : (kind : Kind) (me : ℕ) (op : Op) (a : Actor) → FirstAt (begun kind me op a).due (begun kind me op a).line
begun_first TwoLock me (Enq body) a = pocket_first A1 a.pocket _ tt tt
begun_first NonBlocking me (Enq body) a = pocket_first E2 a.pocket _ tt tt
begun_first TwoLock me Deq a = pocket_first F1 a.pocket _ refl tt
begun_first NonBlocking me Deq a = pocket_first F1 a.pocket _ refl tt
begun_first TwoLock me Shut a = tt
begun_first NonBlocking me Shut a = tt

-- it stays so where one actor has another state, that has a number or stands so
first_with : (w v : World) (me : ℕ) (b : Actor) → ((you : ℕ) (c : Actor) → actor_of v you ≡ Some c → ((you ≡ me) × (b ≡ c))
    ⊎ ((you ≢ me) × (actor_of w you ≡ Some c))) → (b.entry ≡ None → FirstAt b.due b.line) → EachBegins w → EachBegins v
first_with w v me b cases mine h you c got new = go (cases you c got)
  where
    go : ((you ≡ me) × (b ≡ c)) ⊎ ((you ≢ me) × (actor_of w you ≡ Some c)) → FirstAt c.due c.line
    go (inl e) = subst (λ (x : Actor). x.entry ≡ None → FirstAt x.due x.line) e.1 mine new
    go (inr e) = h you c e.1 new

pub each_begins : (kind : Kind) (w : World) → IsReached w → w.setup.kind ≡ kind → EachBegins w
each_begins kind =
    each_reached kind EachBegins
    (record {
      step = λ w me a l r e is at h. first_with w (stepped w me a l) me _ (actor_cases w me a _ is) (λ n. absurd (none-some _ (sym n))) h;
      gave_up = λ w me a l o r e is at given h. first_with w (after_outcome w me a w.shared o) me _ (actor_cases w me a _ is) (λ n. absurd (none-some _ (sym n))) h;
      began = λ w me op a r e is at call h. first_with w (with_actor w me (begun w.setup.kind me op a)) me _ (actor_cases w me a _ is) (λ n. begun_first w.setup.kind me op a) h;
      at_rest = λ w me a l r e is at may h. first_with w (with_actor w me (rested a)) me _ (actor_cases w me a _ is) (λ n. tt) h;
    })
    (λ s actors sized e me a is new. starts s actors me a is)
  where
    starts : (s : Setup) (actors me : ℕ) (a : Actor) → actor_of (opening s actors) me ≡ Some a → FirstAt a.due a.line
    starts s actors me a is = subst (λ (x : Actor). FirstAt x.due x.line) (idle_got actors (me - 1) a (actor_stands (opening s actors) me a is).1) tt

-- the prices are enough
pub all_enough : IsEnough all_steps
all_enough = record { node = omega arith; link = omega arith; pop = omega arith; idle = omega arith; kept = omega arith }

-- two actors may cost each other the same, whichever is named first
pub pair_turned : (x y : Stage) → pair x y ≡ pair y x
pair_turned Resting Resting = refl
pair_turned Resting _ = refl
pair_turned Taking Resting = refl
pair_turned Taking _ = refl
pair_turned Linking Resting = refl
pair_turned Linking _ = refl
pair_turned Popping Resting = refl
pair_turned Popping _ = refl
pair_turned Freeing Resting = refl
pair_turned Freeing _ = refl
pair_turned FreeingFirst Resting = refl
pair_turned FreeingFirst _ = refl

-- a call that begins costs each other actor at most 8 more
begins_at : (due : Option Reply) (l : Line) → First due l → (z : Stage) → pair (stage due l) z ≤ pair Resting z + 8
begins_at due N1 h z = taking z
  where
    taking : (z : Stage) → pair Taking z ≤ pair Resting z + 8
    taking Resting = omega arith
    taking _ = omega arith
begins_at due E2 h z = linking z
  where
    linking : (z : Stage) → pair Linking z ≤ pair Resting z + 8
    linking Resting = omega arith
    linking _ = omega arith
begins_at due S1 h z = linking z
  where
    linking : (z : Stage) → pair Linking z ≤ pair Resting z + 8
    linking Resting = omega arith
    linking _ = omega arith
begins_at due D2 h z = popping z
  where
    popping : (z : Stage) → pair Popping z ≤ pair Resting z + 8
    popping Resting = omega arith
    popping _ = omega arith
begins_at due F1 h z = subst (λ d. pair (freeing d) z ≤ pair Resting z + 8) (sym h) (first z)
  where
    first : (z : Stage) → pair FreeingFirst z ≤ pair Resting z + 8
    first Resting = omega arith
    first _ = omega arith
begins_at due A1 h z = omega arith
begins_at due B1 h z = omega arith
begins_at due S6 h z = omega arith
begins_at due _ h z = absurd h

module _ (s : Setup) (m : Shared) where
  -- a call that begins has at most 11 more before it than what was kept
  first_most : (a : Actor) (l : Line) → IsRunBy (section_of l) NonBlocking → First a.due l → own all_steps s m a l ≤ in_hand all_steps (Some l) + if_so (tail_lags s m) 4 + 11
  first_most a N1 runs h = omega arith
  first_most a E2 runs h = omega arith
  first_most a D2 runs h = omega (arith, five (tail_lags s m))
    where
      five : (b : Bool) → if_so b 5 ≤ if_so b 4 + 1
      five true = omega arith
      five false = omega arith
  first_most a F1 runs h = omega (arith, ap (λ d. by_due d 9 0) h, ap (λ d. for_tail all_steps d (tail_lags s m)) h)
  first_most a S1 runs h = omega arith
  first_most a A1 runs h = absurd runs
  first_most a B1 runs h = absurd runs
  first_most a S6 runs h = absurd runs
  first_most a _ runs h = absurd h

  -- an actor without a call has what is kept, and one that begins a call no more
  pub none_has : (a : Actor) (entry : Option ℕ) → a.line ≡ None → has all_steps s m a entry ≡ of_pocket all_steps a.pocket + if_so (tail_lags s m) 4
  none_has a None at = ap (λ l. in_hand all_steps l + of_pocket all_steps a.pocket + if_so (tail_lags s m) 4) at ∙ omega arith
  none_has a (Some entry) at = ap (amount_at all_steps s m a) at

  pocket_has : (l : Line) (q : Option Held) (b : Actor) → b.pocket ≡ q → in_hand all_steps b.line ≡ 0 → in_hand all_steps (Some l) ≡ 2
      → in_hand all_steps (from_pocket l q b).line + of_pocket all_steps (from_pocket l q b).pocket ≤ of_pocket all_steps q
  pocket_has l None b same none kept = omega (arith, ap (of_pocket all_steps) same, none)
  pocket_has l (Some held) b same none kept = omega (arith, kept)

  pub begun_has : (kind : Kind) (me : ℕ) (op : Op) (a : Actor) → kind ≡ NonBlocking
      → in_hand all_steps (begun kind me op a).line + of_pocket all_steps (begun kind me op a).pocket ≤ of_pocket all_steps a.pocket
  begun_has kind me op a e = subst (λ k. in_hand all_steps (begun k me op a).line + of_pocket all_steps (begun k me op a).pocket ≤ of_pocket all_steps a.pocket) (sym e) (go op)
    where
      go : (op : Op) → in_hand all_steps (begun NonBlocking me op a).line + of_pocket all_steps (begun NonBlocking me op a).pocket ≤ of_pocket all_steps a.pocket
      go (Enq body) = pocket_has E2 a.pocket _ refl refl refl
      go Deq = pocket_has F1 a.pocket _ refl refl refl
      go Shut = omega arith

  -- an actor that rests had before it what is kept then
  pub rested_has : (a : Actor) (l : Line) (entry : Option ℕ) → IsRunBy (section_of l) NonBlocking → a.line ≡ Some l → may_rest l ≡ true → has all_steps s m (rested a) entry ≤ has all_steps s m a entry
  rested_has a E2 None runs at may = omega (arith, ap (in_hand all_steps) at)
  rested_has a E2 (Some entry) runs at may = omega (arith, ap (amount_at all_steps s m a) at)
  rested_has a A1 entry runs at may = absurd runs
  rested_has a _ entry runs at may = absurd (true≢false (sym may))

-- an actor at no line, or without a number, is at nothing that costs others
pub no_stage : (due : Option Reply) (l : Option Line) (entry : Option ℕ) → l ≡ None → stage_of due l entry ≡ Resting
no_stage due l None at = refl
no_stage due l (Some entry) at = ap (stage_at due) at

pub no_number : (due : Option Reply) (l : Option Line) (entry : Option ℕ) → entry ≡ None → stage_of due l entry ≡ Resting
no_number due l entry new = ap (stage_of due l) new

pub resting_less : (x z : Stage) → pair Resting z ≤ pair x z
resting_less x z = omega (arith, gone x z)

-- a first Tail doesn't lag
pub open_first : (s : Setup) → tail_lags s (first_words s.size) ≡ false
open_first s = unless_worn (nat_eq 0 s.limit) (go s.size)
  where
    go : (n : ℕ) → names (is_null (slice_index_or (replicate n blank) 0 blank).next) (is_shut s.bits (slice_index_or (replicate n blank) 0 blank).next) ≡ false
    go zero = refl
    go (suc n) = refl

-- what an actor that was told an outcome has before it then
module _ (w : World) (r : IsReached w) (e : w.setup.kind ≡ NonBlocking) (me : ℕ) (a : Actor) (l : Line) (is : actor_of w me ≡ Some a) (at : a.line ≡ Some l) where
  pub paid : (m' : Shared) (counts toll : ℕ) (o : Outcome) → 1 ≤ counts → Lowers all_steps w.setup w.shared m' (stage a.due l)
      (amount_at all_steps w.setup w.shared a (Some l)) counts toll o → Pays (λ s m c. has all_steps s m c c.entry) cost_of_pair 11 8 w a m' 1 o
  paid m' counts toll o one f = record { mine = mine a.entry refl; others = λ c. others a.entry refl c c.entry refl }
    where
      amount_then : has all_steps w.setup m' (told_actor w a o) (told_actor w a o).entry ≡ amount_at all_steps w.setup m' o.actor o.actor.line
      amount_then = entry_left all_steps w.setup m' o.actor (Some (entry_or a.entry (length w.operations))) o.actor.line

      starts : a.entry ≡ None → First a.due l
      starts new = subst (FirstAt a.due) at (each_begins NonBlocking w r e me a is new)

      mine : (entry : Option ℕ) → a.entry ≡ entry → has all_steps w.setup m' (told_actor w a o) (told_actor w a o).entry + 1 ≤ has all_steps w.setup w.shared a a.entry + 11 * new_ones a.entry
      mine None new =
          let few : own all_steps w.setup w.shared a l ≤ in_hand all_steps (Some l) + if_so (tail_lags w.setup w.shared) 4 + 11 =
          first_most w.setup w.shared a l (subst (IsRunBy (section_of l)) e (each_runs_its_queue w r me a l is at)) (starts new) in
          omega (arith, f.mine, one, amount_then, few, ap (has all_steps w.setup w.shared a) new, ap (in_hand all_steps) at, ap (λ x. 11 * new_ones x) new)
      mine (Some entry) old =
          omega (arith, f.mine, one, amount_then, ap (has all_steps w.setup w.shared a) old, ap (amount_at all_steps w.setup w.shared a) at, ap (λ x. 11 * new_ones x) old)

      -- what each other one has, by its stage
      up : (c : Actor) (entry : Option ℕ) → has all_steps w.setup m' c entry ≤ has all_steps w.setup w.shared c entry + dues all_steps f.won (stage_of c.due c.line entry)
      up c None = omega (arith, f.idle)
      up c (Some entry) = by_line c.line
        where
          by_line : (j : Option Line) → amount_at all_steps w.setup m' c j ≤ amount_at all_steps w.setup w.shared c j + dues all_steps f.won (stage_at c.due j)
          by_line None = omega (arith, f.idle)
          by_line (Some j) = omega (arith, f.others c j)

      others : (entry : Option ℕ) → a.entry ≡ entry → (c : Actor) (its : Option ℕ) → c.entry ≡ its
          → has all_steps w.setup m' c c.entry + cost_of_pair (told_actor w a o) c ≤ has all_steps w.setup w.shared c c.entry + cost_of_pair a c + 8 *
          new_ones a.entry
      others None new c its _ =
          omega (
            arith,
            up c c.entry,
            f.covers (stage_of c.due c.line c.entry),
            begins_at a.due l (starts new) (stage_of c.due c.line c.entry),
            ap (λ x. pair (stage_of a.due a.line x) (stage_of c.due c.line c.entry)) new,
            ap (λ x. 8 * new_ones x) new,
          )
      others (Some entry) old c its _ =
          omega (
            arith,
            up c c.entry,
            f.covers (stage_of c.due c.line c.entry),
            ap
                (λ x. pair (stage_of a.due a.line x) (stage_of c.due c.line c.entry)) old,
            ap (λ x. pair (stage_at a.due x) (stage_of c.due c.line c.entry)) at,
            ap (λ x. 8 * new_ones x) old,
          )

-- the account of steps
abbrev pub account : Account NonBlocking 11 8 numbered
account = record {
  has = λ s m c. has all_steps s m c c.entry;
  cost = cost_of_pair;
  turned = λ x y. pair_turned (stage_of x.due x.line x.entry) (stage_of y.due y.line y.entry);
  none = λ s. omega (arith, ap (λ b. if_so b 4) (open_first s));
  no_cost = refl;
  began = λ w r e me op a at. record {
    mine = omega (
      arith,
      ap (has all_steps w.setup w.shared (begun w.setup.kind me op a)) (begun_entry w.setup.kind me op a),
      begun_has w.setup w.shared w.setup.kind me op a e,
      none_has w.setup w.shared a a.entry at,
    );
    others = λ c. omega (
      arith,
      ap (λ x. pair x (stage_of c.due c.line c.entry))
          (no_number (begun w.setup.kind me op a).due (begun w.setup.kind me op a).line (begun w.setup.kind me op a).entry
          (begun_entry w.setup.kind me op a)),
      resting_less (stage_of a.due a.line a.entry) (stage_of c.due c.line c.entry),
    );
  };
  step = λ w r e me a l is at. paid w r e me a l is at _ _ _ _ (omega arith) (step_lowers all_steps all_enough w r e me a l is at);
  gave_up = λ w r e me a l o is at given. paid w r e me a l is at w.shared 1 0 o (omega arith)
      (some_of (Lowers all_steps w.setup w.shared w.shared (stage a.due l) (amount_at all_steps w.setup w.shared a (Some l)) 1 0)
      (gives_up (w.steps + 1) a l) o given (give_lowers all_steps all_enough w r e me a l is at));
  at_rest = λ w r e me a l is at may. record {
    mine = omega (arith, rested_has w.setup w.shared a l a.entry (subst (IsRunBy (section_of l)) e (each_runs_its_queue w r me a l is at)) at may);
    others = λ c. omega (arith, ap (λ x. pair x (stage_of c.due c.line c.entry)) (no_stage a.due None a.entry refl), resting_less (stage_of a.due a.line a.entry) (stage_of c.due c.line c.entry));
  };
}

-- from each world on the steps of any moves are at most those before its actors, and so many for each operation
pub each_few_later : OfNonBlockingWorlds (IsFewLater 8 3)
each_few_later w r e ms v led =
    let n = length w.actors - 1 in
    let some : 1 ≤ length w.actors = (reached_in_range w r).sized.some_actors in
    let same : 11 + 8 * n ≡ 8 * length w.actors + 3 = omega arith in
    let g : Gains NonBlocking 11 8 numbered account n (total numbered ms w) w v =
    some_of (Gains NonBlocking 11 8 numbered account n (total numbered ms w) w) (run ms w) v led
    (run_gains NonBlocking 11 8 numbered account n ms w r e refl) in
    let s : v.steps ≡ w.steps + total numbered ms w = some_of (λ x. x.steps ≡ w.steps + total numbered ms w) (run ms w) v led (steps_numbered ms w) in
    omega (arith, g, s, ap (λ k. k * length w.operations) same, ap (λ k. k * length v.operations) same)

pub few_numbered : (s : Setup) (actors : ℕ) (moves : List AnyMove) → IsSized s actors → s.kind ≡ NonBlocking
    → IfSome (run moves (opening s actors)) (λ v. v.steps ≤ (8 * actors + 3) * length v.operations)
few_numbered s actors moves sized e =
    if_some (λ v. v.steps ≤ (8 * actors + 3) * length v.operations) (run moves (opening s actors))
    (λ v led. let few : total numbered moves (opening s actors) ≤ (11 + 8 * (actors - 1)) * length v.operations =
    some_of (λ x. total numbered moves (opening s actors) ≤ (11 + 8 * (actors - 1)) * length x.operations) (run moves (opening s actors)) v led
    (opening_gains NonBlocking 11 8 numbered account s actors moves sized e) in
    let steps : v.steps ≡ 0 + total numbered moves (opening s actors) = some_of (λ x. x.steps ≡ 0 + total numbered moves (opening s actors))
    (run moves (opening s actors)) v led (steps_numbered moves (opening s actors)) in
    let some : 1 ≤ actors = sized.some_actors in
    let same : 11 + 8 * (actors - 1) ≡ 8 * actors + 3 = omega arith in
    omega (arith, few, steps, ap (λ k. k * length v.operations) same))

pub each_few : OfNonBlockingWorlds (IsFew 8 3)
each_few w r e =
    let same : length w.actors ≡ r.actors = some_of (λ v. length v.actors ≡ r.actors) (run r.moves (opening w.setup r.actors)) w r.led
    (as_many r.actors r.moves (opening w.setup r.actors) (length-replicate r.actors idle)) in
    let few : w.steps ≤ (8 * r.actors + 3) * length w.operations = some_of (λ v. v.steps ≤ (8 * r.actors + 3) * length v.operations)
    (run r.moves (opening w.setup r.actors)) w r.led (few_numbered w.setup r.actors r.moves r.sized e) in
    omega (arith, few, ap (λ k. (8 * k + 3) * length w.operations) same)
