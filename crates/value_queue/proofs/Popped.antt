-- What a pop of a value answers, by what its parts do.
use Rattle.std.proofs.Common.{◌≡◌, ℕ, ◌≤◌, [], length, true, Option, Some, None, Result, Ok, Err, inl, inr, ⊎_elim, sym, ap, subst, ◌∙◌, arith}
use Rattle.std.specs.Option.{is_some}
use Rattle.history.specs.declared.operations.Entry.TheVariants.{Pop}
use Rattle.history.specs.declared.operations.Taken.{Taken}
use Rattle.history.specs.declared.refusals.Refusal.{Refusal}
use Rattle.history.specs.declared.refusals.WornWord.{WornWord}
use Rattle.carriers.specs.declared.items.ItemOf.{ItemOf}
use Rattle.carriers.specs.Deeds.{own_deeds, did_pop}
use Rattle.carriers.specs.Answers.{AddsDeed}
use Rattle.node_arena.specs.Arenas.{Arena}
use Rattle.node_arena.specs.declared.seats.Seat.{Seat}
use Rattle.node_arena.specs.Deeds.{item}
use Rattle.node_arena.specs.Beside.{slots_in}
use Rattle.node_arena.specs.Hands.{HasValue, KeepsKnown}
use Rattle.node_arena.specs.Seats.{IsReady, KeepsSlots, KeepsName, HasNoSlot, carries_of, view}
use Rattle.node_arena.specs.Paths.{HadNoEffect, added}
use Rattle.node_arena.specs.Turns.{failed_turns}
use Rattle.node_arena.proofs.Moved.{one_value}
use Rattle.node_arena.proofs.Loads.{took_slot}
use Rattle.arena_queue.specs.Answers.{PopsWithoutNode}
use Rattle.arena_queue.proofs.Pops.{draws_late, whole}
use Rattle.value_queue.specs.ValuesSeen.{told, known_by}
use Rattle.value_queue.specs.Runs.{as_item}
use Rattle.value_queue.specs.Pops.{TakesOut, AnswersPop}
use Rattle.value_queue.specs.Sound.{sight, clear}
use Rattle.value_queue.proofs.Learned.{on, pop-deed, empty-deeds, pop_refused-deeds}
use Rattle.value_queue.proofs.Kept.{added_still, name_still}

module _ {T : Type 0} (worn : WornWord → Type 0) (r : Arena) where
  -- the pop of a seat whose pocket was empty
  pub draw_at_once : (s v x : Seat T) (n turns : ℕ) (out : Result (Option Taken) Refusal) → v ≡ s → n ≡ 0 → PopsWithoutNode worn r v x n turns out → PopsWithoutNode worn r s x 0 turns out
  draw_at_once s v x n turns out e f d = subst (λ u. PopsWithoutNode worn r u x 0 turns out) e (subst (λ m. PopsWithoutNode worn r v x m turns out) f d)

  -- the pop of a seat that first gave its node back
  pub draw_after_give : (s u v x : Seat T) (spent n turns : ℕ) (out : Result (Option Taken) Refusal) → v ≡ u → n ≡ spent → KeepsName s u
      → KeepsSlots s u → HadNoEffect s u → spent ≡ failed_turns (added s u) → PopsWithoutNode worn r v x n turns out → PopsWithoutNode worn r s x 0 turns out
  draw_after_give s u v x spent n turns out e f name slots w g d =
      let k : PopsWithoutNode worn r u x spent turns out = subst (λ y. PopsWithoutNode worn r y x spent turns out) e (subst (λ m. PopsWithoutNode worn r v x m turns out) f d) in
      draws_late worn r s u x (added s u) w 0 spent turns (omega (arith, g)) out name slots k

-- a seat knows the same of values
known_still : {T : Type 0} (x y : Seat T) → KeepsKnown x y → known_by y ≡ known_by x
known_still x y k = (λ i. record { number = (k.view i).number; seen = told [] (k.deeds i); mine = own_deeds (k.view i).number (told [] (k.deeds i)); notes = (k.view i).notes })

module _ {T : Type 0} (worn : WornWord → Type 0) (r : Arena) (carries : carries_of r ≡ true) (s x : Seat T) (is : IsReady r s) (none : HasNoSlot s) (turns : ℕ) where
  stays_without : KeepsSlots s x → HasNoSlot x
  stays_without k = (ap length k.same ∙ none.0, ap slots_in k.hand ∙ none.1)

  -- the queue was empty
  pub pop_empty : PopsWithoutNode worn r s x 0 turns (Ok None) → AnswersPop worn r s x turns (Ok None)
  pop_empty d =
      let a = whole worn r s x turns (Ok None) is d in
      record {
        ready = d.ready;
        none_out = stays_without d.slots;
        same = d.same;
        answer = empty-deeds (sight s) (sight x) (clear r carries s is.seat) (clear r carries x d.ready.seat) (on s x d.slots.more) d.answer;
        few = a.few;
        freed = a.freed;
        kept = a.kept;
        refused = tt;
        refusal = tt;
        caused = tt;
      }

  -- the pop was refused
  pub pop_refused : (refusal : Refusal) → PopsWithoutNode worn r s x 0 turns (Err refusal) → AnswersPop worn r s x turns (Err refusal)
  pop_refused refusal d =
      let a = whole worn r s x turns (Err refusal) is d in
      record {
        ready = d.ready;
        none_out = stays_without d.slots;
        same = d.same;
        answer = tt;
        few = tt;
        freed = λ off. tt;
        kept = λ on. tt;
        refused = pop_refused-deeds (sight s) (sight x) (clear r carries s is.seat) (clear r carries x d.ready.seat) refusal (on s x d.slots.more) a.refused;
        refusal = a.refusal;
        caused = a.caused;
      }

  module _ (taken : Taken) (d : PopsWithoutNode worn r s x 0 turns (Ok (Some taken))) where
    -- the slot of what was popped is out with the seat, with a value in it
    pub pop_slot : HasValue r x taken.body
    pop_slot = let took = took_slot r taken s x d.ready.seat none carries d.slots in (took.0, took.1)

    -- the value was taken out of it
    pub pop_value : (y : Seat T) (front : ItemOf T) → TakesOut r x y taken front → AnswersPop worn r s y turns (Ok (Some front))
    pop_value y front t =
        let a = whole worn r s x turns (Ok (Some taken)) is d in
        let k : KeepsKnown x y = t.keeps in
        let took = took_slot r taken s x d.ready.seat none carries d.slots in
        let value : took.0 ≡ front.value = one_value r x taken.body took.0 front.value took.1 t.value in
        let its : as_item (item taken.from took.0) ≡ front = (λ i. record { from = sym t.from i; value = value i }) in
        let adds : AddsDeed (known_by s) (did_pop (view s).number (as_item (item taken.from took.0))) (known_by x) =
        pop-deed (sight s) (sight x) (clear r carries s is.seat) (clear r carries x d.ready.seat) (Pop (view s).number taken) (item taken.from took.0)
        took.2.adds.between took.2.adds.deeds took.2.rest took.2.shut took.2.stood d.answer in
        let es = added_still s x y k in
        record {
          ready = t.ready;
          none_out = t.none_out;
          same = name_still s x y k d.same;
          answer = subst (λ q. AddsDeed (known_by s) (did_pop (view s).number front) q) (sym (known_still x y k))
              (subst (λ q. AddsDeed (known_by s) (did_pop (view s).number q) (known_by x)) its adds);
          few = subst (λ q. failed_turns q ≤ turns) (sym es) a.few;
          freed = λ off. ⊎_elim (λ p. inl (k.stored.pocket ∙ p)) (λ f. inr (ap failed_turns es ∙ f)) (a.freed off);
          kept = λ on. ap is_some k.stored.pocket ∙ a.kept on;
          refused = tt;
          refusal = tt;
          caused = tt;
        }
