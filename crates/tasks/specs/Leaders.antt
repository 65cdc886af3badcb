-- What is done by who hands out the tasks.
use Rattle.std.specs.Prelude.{◌≡◌, ℕ, ◌+◌, List, [], ◌++◌, map, length, None}
use Rattle.std.specs.List.{AllZip}
use Rattle.std.specs.List.Sorted.{IsPermutation}
use Rattle.history.specs.Seats.{Permit, MayPush, MayPop}
use Rattle.carriers.specs.declared.items.ItemOf.{ItemOf}
use Rattle.carriers.specs.Deeds.{item}
use Rattle.carriers.specs.Values.{values_pushed, values_popped}
use Rattle.carriers.specs.Knowledge.{KnownOf}
use Rattle.tasks.specs.declared.answers.Done.{Done}
use Rattle.tasks.specs.declared.runs.Numbered.{Numbered}
use Rattle.tasks.specs.Tasks.{IsDoneOf}
use Rattle.tasks.specs.Turns.{AreDone}
use Rattle.tasks.specs.Offers.{EndsShutBy}
use Rattle.tasks.specs.declared.leader.Leader.{Leader}
use Rattle.tasks.specs.declared.leader.Led.{Led}
use Rattle.tasks.specs.Answered.{numbered, value_in}

-- what two seats did that did nothing before: tasks were given, each was pushed under its number, or run here; some were popped
-- again and run here; results were popped, and all of these were told
pub record LeadsSo {T A : Type 0} (answers : T → A → Type 0) (stands : List T → List (Done A) → Type 0) (k : KnownOf (Numbered T)) (o : KnownOf (Done A)) (count awaited : ℕ) : Type 0 where
  pub given : List T
  pub told : List (Done A)
  pub so_far : stands given told
  pub as_given : count ≡ length given
  pub pushed : List (Numbered T)
  pub here : List (Numbered T)
  pub popped : List (ItemOf (Numbered T))
  pub received : List (ItemOf (Done A))
  pub here_done : List (Done A)
  pub popped_done : List (Done A)
  pub pushes : values_pushed k.mine ≡ map (item k.number) pushed
  pub pops : values_popped k.mine ≡ popped
  pub sends : values_pushed o.mine ≡ []
  pub receives : values_popped o.mine ≡ received
  pub all : IsPermutation (numbered 0 given) (pushed ++ here)
  pub each_here : AllZip (IsDoneOf answers) here here_done
  pub each_popped : AreDone answers popped popped_done
  pub came : IsPermutation told (map value_in received ++ (here_done ++ popped_done))
  pub still_awaited : awaited + (length popped + length received) ≡ length pushed

module _ {Q S V U T A F : Type 0} (is_seat : Q → S → Type 0) (permits : Q → List Permit) (known : S → KnownOf (Numbered T))
    (is_seat' : V → U → Type 0) (permits' : V → List Permit) (known' : U → KnownOf (Done A)) where
  -- the seats of who hands out the tasks are in no call; by the one it may push tasks and pop them, by the other one pop results
  pub record IsLeader (queue : Q) (results : V) (l : Leader S U F) : Type 0 where
    pub tasks_seat : is_seat queue l.tasks
    pub may_give : MayPush (permits queue) (known l.tasks).number
    pub may_help : MayPop (permits queue) (known l.tasks).number
    pub results_seat : is_seat' results l.results
    pub may_take : MayPop (permits' results) (known' l.results).number

  module _ (answers : T → A → Type 0) (stands : F → List T → List (Done A) → Type 0) (queue : Q) (results : V) where
    -- and it did so
    pub record IsLeading (l : Leader S U F) : Type 0 where
      pub seats : IsLeader queue results l
      pub so : LeadsSo answers (stands l.feed) (known l.tasks) (known' l.results) l.given l.awaited

    -- and went on from there, with the same seats' numbers
    pub record GoesOn (l l' : Leader S U F) : Type 0 where
      pub leading : IsLeading l'
      pub tasks_number : (known l'.tasks).number ≡ (known l.tasks).number
      pub results_number : (known' l'.results).number ≡ (known' l.results).number

    -- who handed out the tasks ended: where it wasn't refused, all was told; then the queue of tasks was shut, or found shut
    pub record HasEnded (l : Leader S U F) (led : Led S U F) : Type 0 where
      pub goes : GoesOn l led.leader
      pub told : led.refused ≡ None → led.leader.awaited ≡ 0
      pub before : KnownOf (Numbered T)
      pub shut : EndsShutBy before (known led.leader.tasks) led.unshut
