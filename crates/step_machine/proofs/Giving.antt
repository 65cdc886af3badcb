-- Giving up, and beginning, by the parts of the calls that do it.
use Rattle.std.proofs.Common.{◌≡◌, ℕ, ◌+◌, ◌⊎◌, inl, inr, Bool, true, false, if◌then◌else◌, Option, Some, None, IsSome, is_some, List, [], length, replicate, refl, sym, ap, subst, ◌∙◌, arith}
use Rattle.std.proofs.lemmas.List.Folds.{sum_by-replicate}
use Rattle.step_machine.specs.Below.{Kind, TwoLock, NonBlocking, Line, N1, F1, Op, Enq, Deq, Shut, Reply, Stamped, Setup, Held, Actor, Outcome}
use Rattle.step_machine.specs.Below.{Shared, gives_up, busy_or, with_node, dequeues, is_call, begun, from_pocket, first_memory, aside_after}
use Rattle.line_steps.specs.Rooms.{Memory}
use Rattle.step_machine.specs.declared.actors.Move.TheVariants.{Begin, Step, Give}
use Rattle.step_machine.specs.Machine.{World, opening, idle, actor_of, with_actor, begins, stepped, steps, given, gives, moved, next, after_outcome}
use Rattle.step_machine.specs.Calls.{giving_up, giving_up_at}
use Rattle.step_machine.specs.Views.{wants_node, wanting_node, unrecorded, is_unrecorded, actors_after, operations_after}

-- giving up, for an actor before a line
pub giving_up-at : (w : World) (me : ℕ) (a : Actor) (l : Line) → actor_of w me ≡ Some a → a.line ≡ Some l → giving_up w (actor_of w me) ≡ gives_up (w.steps + 1) a l
giving_up-at w me a l at here = ap (giving_up w) at ∙ ap (giving_up_at w a) here

busy_or_any : (n m : ℕ) (due : Option Reply) (a : Actor) → IsSome (busy_or n due a) → IsSome (busy_or m due a)
busy_or_any n m None a h = refl
busy_or_any n m (Some reply) a h = refl

-- whether an actor may give up does not hang on the step's number
pub gives_up-any : (n m : ℕ) (a : Actor) (l : Line) → IsSome (gives_up n a l) → IsSome (gives_up m a l)
gives_up-any n m a F1 h = busy_or_any n m a.due _ h
gives_up-any n m a _ h = h

-- an actor that may give up by any number may do so in its world
pub may_give_up : (w : World) (me now : ℕ) (a : Actor) (l : Line) → actor_of w me ≡ Some a → a.line ≡ Some l → IsSome (gives_up now a l) → IsSome (giving_up w (actor_of w me))
may_give_up w me now a l at here h = subst IsSome (sym (giving_up-at w me a l at here)) (gives_up-any now (w.steps + 1) a l h)

-- the outcome of giving up in a world is that of the actor's line
pub giving_up-is : (w : World) (me : ℕ) (a : Actor) (l : Line) (o : Outcome) → actor_of w me ≡ Some a → a.line ≡ Some l → gives_up (w.steps + 1) a l ≡ Some o → giving_up w (actor_of w me) ≡ Some o
giving_up-is w me a l o at here up = giving_up-at w me a l at here ∙ up

-- the move of a step, by its parts
pub step_move : (w : World) (me : ℕ) (a : Actor) (l : Line) → actor_of w me ≡ Some a → a.line ≡ Some l → next w (Step me) ≡ Some (stepped w me a l)
step_move w me a l at here = ap (moved w (Step me)) at ∙ ap (steps w me a) here

-- the move of giving up, by its parts
pub give_move : (w : World) (me : ℕ) (a : Actor) (l : Line) (o : Outcome) → actor_of w me ≡ Some a → a.line ≡ Some l → gives_up (w.steps + 1) a l ≡ Some o
    → next w (Give me) ≡ Some (after_outcome w me a w.shared o)
give_move w me a l o at here up = ap (moved w (Give me)) at ∙ ap (gives w me a) here ∙ ap (given w me a) up

-- the move of beginning a call, by its parts
pub begin_move : (w : World) (me : ℕ) (op : Op) (a : Actor) → actor_of w me ≡ Some a → a.line ≡ None → is_call op ≡ true → next w (Begin me op) ≡ Some (with_actor w me (begun w.setup.kind me op a))
begin_move w me op a at here call =
    ap (moved w (Begin me op)) at ∙ ap (begins w me op a) here ∙
    ap (λ b. if b then Some (with_actor w me (begun w.setup.kind me op a)) else None) call

-- an actor that begins a call looks for a node at N1 alone
pub begun_looks : (kind : Kind) (me : ℕ) (op : Op) (a : Actor) → (wants_node (begun kind me op a).line ≡ 0) ⊎ ((begun kind me op a).line ≡ Some N1)
begun_looks kind me (Enq body) a = go kind a.pocket
  where
    go : (k : Kind) (p : Option Held) → let b = record a {
      line = Some N1;
      op = Enq body;
      val = record { from = me; body = body };
      due = None;
      entry = None;
    } in (wants_node (from_pocket (with_node k) p b).line ≡ 0) ⊎ ((from_pocket (with_node k) p b).line ≡ Some N1)
    go k None = inr refl
    go TwoLock (Some held) = inl refl
    go NonBlocking (Some held) = inl refl
begun_looks kind me Deq a = go kind a.pocket
  where
    go : (k : Kind) (p : Option Held)
        → let b = record a { line = Some (dequeues k); op = Deq; due = None; entry = None } in (wants_node (from_pocket F1 p b).line ≡ 0) ⊎ ((from_pocket F1 p b).line ≡ Some N1)
    go TwoLock None = inl refl
    go NonBlocking None = inl refl
    go k (Some held) = inl refl
begun_looks TwoLock me Shut a = inl refl
begun_looks NonBlocking me Shut a = inl refl

-- idle actors look for no node, and have no call without a number
pub wanting_node-idle : (n : ℕ) → wanting_node (replicate n idle) ≡ 0
wanting_node-idle n = omega (arith, sum_by-replicate (λ a. wants_node a.line) n idle)

pub unrecorded-idle : (n : ℕ) → unrecorded (replicate n idle) ≡ 0
unrecorded-idle n = omega (arith, sum_by-replicate (λ a. is_unrecorded a.line a.entry) n idle)

-- the world in which nothing happened yet, by its parts
pub opened : (s : Setup) (actors : ℕ) (m : Memory) (xs : List Actor) (ops : List Stamped) → m ≡ first_memory s.size → xs ≡ replicate actors idle → ops ≡ []
    → opening s actors ≡ record { setup = s; steps = 0; shared = m.words; actors = xs; aside = m.aside; operations = ops }
opened s actors m xs ops e f g =
    let there : Memory → List Actor → List Stamped → World = λ m xs ops. record { setup = s; steps = 0; shared = m.words; actors = xs; aside = m.aside; operations = ops } in
    sym (ap (λ m. there m xs ops) e ∙ ap (λ xs. there (first_memory s.size) xs ops) f ∙ ap (there (first_memory s.size) (replicate actors idle)) g)

-- two worlds are the same where their parts are
pub same_world : (u v : World) → u.setup ≡ v.setup → u.steps ≡ v.steps → u.shared ≡ v.shared → u.actors ≡ v.actors → u.aside ≡ v.aside → u.operations ≡ v.operations → u ≡ v
same_world u v e f g h i j =
    let of_parts : Setup → ℕ → Shared → List Actor → List Bool → List Stamped → World =
    λ s n m xs flags ops. record { setup = s; steps = n; shared = m; actors = xs; aside = flags; operations = ops } in
    ap (λ s. of_parts s u.steps u.shared u.actors u.aside u.operations) e ∙
    ap (λ n. of_parts v.setup n u.shared u.actors u.aside u.operations) f ∙
    ap (λ m. of_parts v.setup v.steps m u.actors u.aside u.operations) g ∙
    ap (λ xs. of_parts v.setup v.steps v.shared xs u.aside u.operations) h ∙
    ap (λ flags. of_parts v.setup v.steps v.shared v.actors flags u.operations) i ∙
    ap (λ ops. of_parts v.setup v.steps v.shared v.actors v.aside ops) j

-- the world whose parts are those of one after a call began is the next one
pub begin_leads : (w u : World) (me : ℕ) (op : Op) (a : Actor) → let v = with_actor w me (begun w.setup.kind me op a) in actor_of w me ≡ Some a → a.line ≡ None → is_call op ≡ true
    → u.setup ≡ v.setup → u.steps ≡ v.steps → u.shared ≡ v.shared → u.actors ≡ v.actors → u.aside ≡ v.aside → u.operations ≡ v.operations → next w (Begin me op) ≡ Some u
begin_leads w u me op a at here call e f g h i j =
    begin_move w me op a at here call ∙ ap Some (sym (same_world u (with_actor w me (begun w.setup.kind me op a)) e f g h i j))

-- what an actor that gave up at a step number left in the lists of a world
pub record GaveUp (w : World) (me now : ℕ) (a : Actor) (l : Line) (o : Outcome) (actors : List Actor) (operations : List Stamped) : Type 0 where
  pub up : gives_up now a l ≡ Some o
  pub actors_are : actors ≡ actors_after me a.entry (length w.operations) o w.actors
  pub operations_are : operations ≡ operations_after me a.op a.entry now o w.operations

-- it is what the next number leaves of the actor as it is stored
pub gave_up : (w : World) (me now : ℕ) (a b : Actor) (l : Line) (o : Outcome) (actors : List Actor) (operations : List Stamped) → b ≡ a → now ≡ w.steps + 1
    → GaveUp w me now b l o actors operations → GaveUp w me (w.steps + 1) a l o actors operations
gave_up w me now a b l o actors operations same next_number h =
    subst (λ (x : Actor). GaveUp w me (w.steps + 1) x l o actors operations) same (subst (λ n. GaveUp w me n b l o actors operations) next_number h)

-- and the world with these lists is the next one
pub give_leads : (w u : World) (me : ℕ) (a : Actor) (l : Line) (o : Outcome) → actor_of w me ≡ Some a → a.line ≡ Some l
    → GaveUp w me (w.steps + 1) a l o u.actors u.operations → u.setup ≡ w.setup → u.steps ≡ w.steps + 1 → u.shared ≡ w.shared
    → u.aside ≡ aside_after w.aside o.aside → next w (Give me) ≡ Some u
give_leads w u me a l o at here gave e f g i =
    give_move w me a l o at here gave.up ∙
    ap Some (sym (same_world u (after_outcome w me a w.shared o) e f g gave.actors_are i gave.operations_are))

-- nothing is there where a test says so
pub none_of : {X : Type 0} (o : Option X) → is_some o ≡ false → o ≡ None
none_of None e = refl
none_of (Some x) e = cc
