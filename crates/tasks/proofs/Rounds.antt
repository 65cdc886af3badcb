-- What a worker has served, after one more task.
use Rattle.std.proofs.Common.{◌≡◌, ◌∙◌, sym, ap, subst, List, [], ◌∷◌, ◌++◌, map, Option, Some, None, Ok, Err, append-nil, append_assoc}
use Rattle.std.proofs.lemmas.List.{map-append}
use Rattle.carriers.specs.declared.items.ItemOf.{ItemOf}
use Rattle.carriers.specs.Deeds.{Deed, did_push, did_pop}
use Rattle.carriers.specs.Knowledge.{KnownOf}
use Rattle.shared_queue.specs.Answers.{ReceivedOf}
use Rattle.tasks.specs.declared.answers.Done.{Done}
use Rattle.tasks.specs.declared.runs.Numbered.{Numbered}
use Rattle.tasks.specs.Tasks.{IsDoneOf}
use Rattle.tasks.specs.Turns.{AreDone}
use Rattle.tasks.proofs.Zipping.{zip-append}
use Rattle.tasks.specs.declared.worker.Unsendable.{Unsendable}
use Rattle.tasks.specs.Workers.{Sends, ServesSo, unsent_in}

module _ {T A : Type 0} (answers : T → A → Type 0) where
  -- nothing yet
  pub serves_none : (k : KnownOf (Numbered T)) (o : KnownOf (Done A)) → ServesSo answers k k o o None
  serves_none k o = record { items = []; popped = sym (append-nil k.mine); sent = []; pushed = sym (append-nil o.mine); done = tt }

  -- nothing popped
  pub serves_same : (k k' : KnownOf (Numbered T)) (o : KnownOf (Done A)) → k'.mine ≡ k.mine → ServesSo answers k k' o o None
  serves_same k k' o mine = record { items = []; popped = mine ∙ sym (append-nil k.mine); sent = []; pushed = sym (append-nil o.mine); done = tt }

  module _ (k k' : KnownOf (Numbered T)) (o o' : KnownOf (Done A)) (front : ItemOf (Numbered T)) (d : Done A) (got : ReceivedOf k front k') (of : IsDoneOf answers front.value d) where
    popped : k'.mine ≡ k.mine ++ map (did_pop k.number) (front ∷ [])
    popped = got.popped.mine ∙ (λ i. got.waited.mine i ++ did_pop (got.waited.number i) front ∷ [])

    -- a task popped, and its result sent
    pub serves_sent : k'.number ≡ k.number → Sends o o' d (Ok tt) → ServesSo answers k k' o o' None
    serves_sent same sent = record { items = front ∷ []; popped = popped; sent = d ∷ []; pushed = sent.mine; done = (of, tt) }

    -- a task popped, and its result brought back
    pub serves_unsent : (u : Unsendable A) → Sends o o' d (Err u) → ServesSo answers k k' o o' (Some u.done)
    serves_unsent u sent =
        record { items = front ∷ []; popped = popped; sent = []; pushed = sent.1 ∙ sym (append-nil o.mine); done = (subst (IsDoneOf answers front.value) (sym sent.0) of, tt) }

  -- one round behind others
  pub serves_on : (k k1 k2 : KnownOf (Numbered T)) (o o1 o2 : KnownOf (Done A)) (unsent : Option (Done A)) → k1.number ≡ k.number → o1.number ≡ o.number
      → ServesSo answers k k1 o o1 None → ServesSo answers k1 k2 o1 o2 unsent → ServesSo answers k k2 o o2 unsent
  serves_on k k1 k2 o o1 o2 unsent same same' h next =
      record {
        items = h.items ++ next.items;
        popped = next.popped
            ∙ (λ i. h.popped i ++ map (did_pop (same i)) next.items)
            ∙ append_assoc k.mine (map (did_pop k.number) h.items) (map (did_pop k.number) next.items)
            ∙ ap (λ (ds : List (Deed (Numbered T))). k.mine ++ ds) (sym (map-append (did_pop k.number) h.items next.items));
        sent = h.sent ++ next.sent;
        pushed = next.pushed
            ∙ (λ i. h.pushed i ++ map (did_push (same' i)) next.sent)
            ∙ append_assoc o.mine (map (did_push o.number) h.sent) (map (did_push o.number) next.sent)
            ∙ ap (λ (ds : List (Deed (Done A))). o.mine ++ ds) (sym (map-append (did_push o.number) h.sent next.sent));
        done = subst (AreDone answers (h.items ++ next.items)) (sym (append_assoc h.sent next.sent (unsent_in unsent)))
            (zip-append (λ (x : ItemOf (Numbered T)) d. IsDoneOf answers x.value d) h.items next.items h.sent (next.sent ++ unsent_in unsent)
            (subst (AreDone answers h.items) (append-nil h.sent) h.done) next.done);
      }
