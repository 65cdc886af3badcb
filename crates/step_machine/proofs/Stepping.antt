-- What a step puts down in the lists of a world, and that the room that the world keeps then still serves.
use Rattle.std.proofs.Common.{◌≡◌, ℕ, ◌+◌, ◌-◌, ◌<◌, ◌≤◌, List, [], ◌∷◌, ◌++◌, Option, Some, None, length, get_or, slice_get, slice_set, vec_capacity, refl, sym, ap, subst, ◌∙◌}
use Rattle.std.proofs.lemmas.List.{get_or-set_same, length-set}
use Rattle.std.proofs.lemmas.Option.{get_or_from_slice_get, slice_get-get_or}
use Rattle.std.proofs.Math.Seq.{set-append_seam, get_or-append_seam}
use Rattle.line_steps.specs.Rooms.{Memory}
use Rattle.line_steps.specs.Steps.{outcome_on}
use Rattle.step_machine.specs.Below.{Line, Reply, Stamped, Setup, Actor, Outcome, performed, action, memory_after}
use Rattle.step_machine.specs.declared.actors.Move.TheVariants.{Step}
use Rattle.step_machine.specs.Machine.{World, actor_of, entry_or, new_operation, with_operation, with_outcome, next, stepped}
use Rattle.step_machine.specs.Views.{wants_node, HasNodes, unrecorded, entered, led, listed, reply_in, TookStep}
use Rattle.step_machine.specs.Stored.{world}
use Rattle.step_machine.specs.declared.world.WorldOf.TheInside.{Inside}
use Rattle.step_machine.proofs.Growth.{grows}
use Rattle.step_machine.proofs.Giving.{step_move, same_world}
use Rattle.step_machine.proofs.Making.{Rooms, settled_rooms}

-- an operation that is changed where it stands, once it is in the list
pub changed_where_listed : (entry : Option ℕ) (place : ℕ) (new was : Stamped) (change : Stamped → Stamped) (ops : List Stamped)
    → place ≡ entry_or entry (length ops) → place < length (listed entry new ops) → was ≡ get_or (listed entry new ops) place was
    → slice_set (listed entry new ops) place (change was) ≡ with_operation entry new change ops
changed_where_listed None place new was change ops at there is =
    let same : was ≡ new = is ∙ ap (λ n. get_or (ops ++ new ∷ []) n was) at ∙ get_or-append_seam ops new [] was in
    ap (λ n. slice_set (ops ++ new ∷ []) n (change was)) at ∙ ap (λ s. slice_set (ops ++ new ∷ []) (length ops) (change s)) same ∙ set-append_seam ops new [] (change new)
changed_where_listed (Some e) place new was change ops at there is =
    let here : slice_get ops place ≡ Some (get_or ops place was) = slice_get-get_or ops place was there in
    let same : was ≡ get_or ops place new = is ∙ sym (get_or_from_slice_get ops place (get_or ops place was) new here) in
    ap (λ s. slice_set ops place (change s)) same ∙ ap (λ n. slice_set ops n (change (get_or ops n new))) at

-- what stands at a place once it is written there
pub written_there : (ops : List Stamped) (place : ℕ) (new : Stamped) → place < length ops → slice_get (slice_set ops place new) place ≡ Some new
written_there ops place new there =
    slice_get-get_or (slice_set ops place new) place new (subst (λ n. place < n) (sym (length-set ops place new)) there) ∙
    ap Some (get_or-set_same ops place new new there)

-- the reply of an operation that a look at the operations answered
pub looked_up : (ops seen : List Stamped) (place : ℕ) (is : Stamped) → seen ≡ ops → place < length seen → is ≡ get_or seen place is
    → reply_in (slice_get ops place) ≡ is.reply
looked_up ops seen place is same there here =
    sym (ap (λ xs. reply_in (slice_get xs place)) same) ∙ ap reply_in (slice_get-get_or seen place is there ∙ ap Some (sym here))

-- the outcome that a step had is the one that it leads to
led_on : (s : Setup) (now me : ℕ) (a : Actor) (l : Line) (m : Memory) → outcome_on s now me a l m.words ≡ led s now me a l m
unfolding outcome_on
led_on s now me a l m = refl

module _ (s : Setup) (now me : ℕ) (l : Line) (old : Memory) (a : Actor) (ops : List Stamped) where
  -- the outcome of the step, and the operations with that of its call
  abbrev pub led_to : Outcome
  led_to = outcome_on s now me a l old.words

  abbrev pub entries : List Stamped
  entries = listed a.entry (new_operation me a.op now) ops

  -- what the step makes of its actor and its operation, and where they stand
  pub took : (new : Memory) (b : Actor) (was is : Stamped) (place : ℕ) (r : Option Reply) → b ≡ led_to.actor → is ≡ with_outcome now led_to was
      → r ≡ led_to.reply → new ≡ memory_after (action s me a l) led_to old → place ≡ entry_or a.entry (length ops) → place < length entries
      → was ≡ get_or entries place was → TookStep s now me l old ops a new (slice_set entries place is) (record b { entry = Some place }) r
  took new b was is place r actor operation reply memory at there here =
      let o : Outcome = led s now me a l old in
      let same : led_to ≡ o = led_on s now me a l old in
      record {
        memory = memory ∙ ap (λ p. memory_after (action s me a l) p old) same;
        actor =
            let mine : b ≡ o.actor = actor ∙ ap (λ p. p.actor) same in
            let entered_at : (c : Actor) → Actor = λ c. record c { entry = Some place } in
            let placed : (n : ℕ) → Actor = λ n. record o.actor { entry = Some n } in
            ap entered_at mine ∙ ap placed at;
        operations =
            let told : is ≡ with_outcome now o was = operation ∙ ap (λ p. with_outcome now p was) same in
            ap (λ x. slice_set entries place x) told ∙
            changed_where_listed a.entry place (new_operation me a.op now) was (with_outcome now o) ops at there here;
        reply = reply ∙ ap (λ p. p.reply) same;
      }

-- the room that the world keeps serves what the step put down
module _ (bits : ℕ) (i : Inside bits) (more me : ℕ) (a b : Actor) (l : Line) (after : Memory) (listed : List Stamped) (reply : Option Reply) where
  pub took_rooms : actor_of (world bits i) me ≡ Some a → a.line ≡ Some l
      → TookStep i.setup (i.steps + 1) me l i.memory i.operations.items a after listed b reply
      → HasNodes i.setup.size i.memory.words.fresh i.memory.room i.actors.items
      → length i.operations.items + unrecorded i.actors.items ≤ vec_capacity i.operations → vec_capacity i.operations ≤ more
      → Rooms i.setup.size after.words.fresh after.room more (slice_set i.actors.items (me - 1) b) listed
  took_rooms at here took nodes entries enough =
      let w = world bits i in
      let o : Outcome = led w.setup (w.steps + 1) me a l i.memory in
      let fresh : after.words.fresh ≡ (performed (action w.setup me a l) w.shared).fresh = ap (λ n. n.words.fresh) took.memory in
      let grown : after.words.fresh + wants_node o.actor.line ≤ w.shared.fresh + wants_node (Some l) =
      subst (λ n. n + wants_node o.actor.line ≤ w.shared.fresh + wants_node (Some l)) (sym fresh) (grows w.setup (w.steps + 1) me a l w.shared) in
      let actors : slice_set w.actors (me - 1) b ≡ slice_set w.actors (me - 1) (entered a.entry (length w.operations) o) = ap (λ c. slice_set w.actors (me - 1) c) took.actor in
      subst (λ n. Rooms w.setup.size after.words.fresh n more (slice_set w.actors (me - 1) b) listed) (sym (ap (λ n. n.room) took.memory))
      (settled_rooms w i.memory.room _ more me a l o after.words.fresh _ _ listed _ _ at here grown actors took.operations nodes entries enough)

-- the fields that the step put down are those of the world that it leads to
module _ (bits : ℕ) (i : Inside bits) (me : ℕ) (a b : Actor) (l : Line) (after : Memory) (listed : List Stamped) (reply : Option Reply) where
  abbrev pub stepped_to : World
  stepped_to =
      record {
        setup = i.setup;
        steps = i.steps + 1;
        shared = after.words;
        actors = slice_set i.actors.items (me - 1) b;
        aside = after.aside;
        operations = listed;
      }

  pub took_move : actor_of (world bits i) me ≡ Some a → a.line ≡ Some l → TookStep i.setup (i.steps + 1) me l i.memory i.operations.items a after listed b reply
      → next (world bits i) (Step me) ≡ Some stepped_to
  took_move at here took =
      let w = world bits i in
      step_move w me a l at here ∙
      ap Some
      (sym
      (same_world stepped_to (stepped w me a l) refl refl (ap (λ m. m.words) took.memory)
      (ap (λ c. slice_set w.actors (me - 1) c) took.actor) (ap (λ m. m.aside) took.memory) took.operations))
