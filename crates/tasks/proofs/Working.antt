-- What a worker has run, and what the submitter has offered, after one more.
use Rattle.std.proofs.Common.{◌≡◌, ◌∙◌, ◌+◌, ◌⊎◌, inl, inr, sym, refl, ap, subst, ℕ, zero, suc, List, [], ◌∷◌, ◌++◌, map, length, drop, set, Option}
use Rattle.std.proofs.Common.{Some, None, slice_get, append-nil, append_assoc, below_more, arith}
use Rattle.std.specs.List.{Any}
use Rattle.std.proofs.lemmas.List.{map-append, length-append, length-set, get_or_append_left}
use Rattle.std.proofs.lemmas.List.Elements.{All-nil, All-push}
use Rattle.std.proofs.lemmas.List.Quantifiers.{Any-push}
use Rattle.history.specs.declared.refusals.Refusal.{Refusal}
use Rattle.history.specs.declared.refusals.Refusal.TheVariants.{Closed}
use Rattle.carriers.specs.declared.items.ItemOf.{ItemOf}
use Rattle.carriers.specs.Deeds.{Deed, did_push, did_pop}
use Rattle.carriers.specs.Knowledge.{KnownOf}
use Rattle.carriers.specs.Answers.{PushedOf, PushRefusedOf}
use Rattle.tasks.specs.declared.answers.Done.{Done}
use Rattle.tasks.specs.declared.answers.Outcome.{Outcome}
use Rattle.tasks.specs.declared.answers.Outcome.TheVariants.{Answered}
use Rattle.tasks.specs.declared.runs.Numbered.{Numbered}
use Rattle.tasks.specs.Tasks.{IsOf, IsDoneOf}
use Rattle.tasks.specs.Turns.{RunsOne, AreDone, HasRun}
use Rattle.tasks.specs.Gathers.{fills, told_done}
use Rattle.tasks.specs.Offers.{RanHere, OffersNext, IsAnswerOf, HasOffered}
use Rattle.tasks.proofs.Lying.{zip-push}
use Rattle.tasks.proofs.Gathering.{fills-append}

-- the first of what is left of a list stands at its place
get-drop : {X : Type 0} (xs : List X) (n : ℕ) → slice_get xs n ≡ slice_get (drop n xs) 0
get-drop [] zero = refl
get-drop [] (suc n) = refl
get-drop (x ∷ xs) zero = refl
get-drop (x ∷ xs) (suc n) = get-drop xs n

pub get_first : {X : Type 0} (xs : List X) (n : ℕ) (x : X) (rest : List X) → drop n xs ≡ x ∷ rest → slice_get xs n ≡ Some x
get_first xs n x rest h = get-drop xs n ∙ ap (λ l. slice_get l 0) h

drop-suc : {X : Type 0} (xs : List X) (n : ℕ) → drop (suc n) xs ≡ drop 1 (drop n xs)
drop-suc [] zero = refl
drop-suc [] (suc n) = refl
drop-suc (x ∷ xs) zero = refl
drop-suc (x ∷ xs) (suc n) = drop-suc xs n

pub drop_first : {X : Type 0} (xs : List X) (n : ℕ) (x : X) (rest : List X) → drop n xs ≡ x ∷ rest → drop (n + 1) xs ≡ rest
drop_first xs n x rest h =
    let next : n + 1 ≡ suc n = omega arith in
    ap (λ m. drop m xs) next ∙ drop-suc xs n ∙ ap (drop 1) h

any-left : {X : Type 0} (P : X → Type 0) (xs ys : List X) → Any P xs → Any P (xs ++ ys)
any-left P xs ys h =
    let more = length-append xs ys in
    let low = h.2 in
    (h.0, h.1, omega (arith, low, more), get_or_append_left xs ys h.1 h.0 h.2 ∙ h.3, h.4)

-- a push that was refused leaves the seat's own deeds
pub refused_mine : {N : Type 0} (k k' : KnownOf N) (refusal : Refusal) → PushRefusedOf k refusal k' → k'.mine ≡ k.mine
refused_mine k k' Closed h = h.mine
refused_mine k k' _ h = h.mine

module _ {T A : Type 0} (answers : T → A → Type 0) where
  pub run_none : (k : KnownOf (Numbered T)) → HasRun answers k k []
  run_none k = record { items = []; mine = sym (append-nil k.mine); done = tt }

  -- a turn that popped nothing
  pub run_same : (k k1 k2 : KnownOf (Numbered T)) (out out' : List (Done A)) → HasRun answers k k1 out → k2.mine ≡ k1.mine → out' ≡ out → HasRun answers k k2 out'
  run_same k k1 k2 out out' h mine same = record { items = h.items; mine = mine ∙ h.mine; done = subst (AreDone answers h.items) (sym same) h.done }

  -- a turn that ran a task
  pub run_more : (k k1 k2 : KnownOf (Numbered T)) (out out' : List (Done A)) → HasRun answers k k1 out → k1.number ≡ k.number → RunsOne answers k1 k2 out out' → HasRun answers k k2 out'
  run_more k k1 k2 out out' h same r =
      record {
        items = h.items ++ r.front ∷ [];
        mine = r.popped.popped.mine
            ∙ (λ i. (r.popped.waited.mine ∙ h.mine) i ++ did_pop ((r.popped.waited.number ∙ same) i) r.front ∷ [])
            ∙ append_assoc k.mine (map (did_pop k.number) h.items) (did_pop k.number r.front ∷ [])
            ∙ ap (λ (ds : List (Deed (Numbered T))). k.mine ++ ds) (sym (map-append (did_pop k.number) h.items (r.front ∷ [])));
        done = subst (AreDone answers (h.items ++ r.front ∷ [])) (sym r.added) (zip-push (λ (x : ItemOf (Numbered T)) d. IsDoneOf answers x.value d) h.items out r.front r.result h.done r.of);
      }

  -- nothing was offered yet
  pub offered_none : (tasks : List T) (refused : Option Refusal) (k : KnownOf (Numbered T)) (slots : List (Option (Outcome T A))) → HasOffered answers tasks 0 refused k k slots slots
  offered_none tasks refused k slots =
      record {
        pushed = [];
        mine = sym (append-nil k.mine);
        of = All-nil (IsOf tasks);
        ran = [];
        put = refl;
        answered = All-nil (IsAnswerOf answers tasks);
        each = λ n low. absurd (omega (arith, low));
        here = λ none. refl;
      }

  module _ (tasks : List T) (n : ℕ) (t : T) (at : slice_get tasks n ≡ Some t) (k k1 k2 : KnownOf (Numbered T)) (slots slots1 slots2 : List (Option (Outcome T A))) (same : k1.number ≡ k.number) where
    abbrev this : Numbered T
    this = record { number = n; task = t }

    -- one more task was pushed
    pub offered_push : (refused : Option Refusal) → HasOffered answers tasks n refused k k1 slots slots1 → PushedOf k1 this k2 → slots2 ≡ slots1
        → HasOffered answers tasks (n + 1) refused k k2 slots slots2
    offered_push refused h p kept =
        record {
          pushed = h.pushed ++ this ∷ [];
          mine = p.mine
              ∙ (λ i. h.mine i ++ did_push (same i) this ∷ [])
              ∙ append_assoc k.mine (map (did_push k.number) h.pushed) (did_push k.number this ∷ [])
              ∙ ap (λ (ds : List (Deed (Numbered T))). k.mine ++ ds) (sym (map-append (did_push k.number) h.pushed (this ∷ [])));
          of = All-push (IsOf tasks) h.pushed this h.of at;
          ran = h.ran;
          put = kept ∙ h.put;
          answered = h.answered;
          each = λ m low. below_more (λ m. Any (λ (x : Numbered T). x.number ≡ m) (h.pushed ++ this ∷ []) ⊎ Any (λ (d : Done A). d.number ≡ m) h.ran) n
              (λ m low. elim (h.each m low) [ inl a ↦ inl (any-left (λ (x : Numbered T). x.number ≡ m) h.pushed (this ∷ []) a) | inr b ↦ inr b ])
              (inl (Any-push (λ (x : Numbered T). x.number ≡ n) h.pushed this refl)) m low;
          here = h.here;
        }

    -- one more task was run where it was offered
    pub offered_ran : (refused : Option Refusal) (refusal : Refusal) → HasOffered answers tasks n refused k k1 slots slots1
        → RanHere answers this k1 k2 slots1 slots2 → HasOffered answers tasks (n + 1) (Some refusal) k k2 slots slots2
    offered_ran refused refusal h r =
        let d = r.result in
        let told : IsAnswerOf answers tasks d = record { task = t; at = ap (slice_get tasks) r.of.number ∙ at; answer = r.of.answer } in
        record {
          pushed = h.pushed;
          mine = r.mine ∙ h.mine;
          of = h.of;
          ran = h.ran ++ d ∷ [];
          put = r.put
              ∙ ap (λ (ss : List (Option (Outcome T A))). set ss d.number (Some (Answered d.answer))) h.put
              ∙ sym (fills-append slots (map told_done h.ran) (told_done d ∷ []))
              ∙ ap (fills slots) (sym (map-append told_done h.ran (d ∷ [])));
          answered = All-push (IsAnswerOf answers tasks) h.ran d h.answered told;
          each = λ m low. below_more (λ m. Any (λ (x : Numbered T). x.number ≡ m) h.pushed ⊎ Any (λ (d : Done A). d.number ≡ m) (h.ran ++ d ∷ [])) n
              (λ m low. elim (h.each m low) [ inl a ↦ inl a | inr b ↦ inr (any-left (λ (d : Done A). d.number ≡ m) h.ran (d ∷ []) b) ])
              (inr (Any-push (λ (d : Done A). d.number ≡ n) h.ran d r.of.number)) m low;
          here = λ none. absurd (let e : Some refusal ≡ None = none in cc);
        }

    -- one more task was offered
    pub offered_next : (refused refused' : Option Refusal) → HasOffered answers tasks n refused k k1 slots slots1
        → OffersNext answers this refused refused' k1 k2 slots1 slots2 → HasOffered answers tasks (n + 1) refused' k k2 slots slots2
    offered_next refused refused' h (inl r) = subst (λ u. HasOffered answers tasks (n + 1) u k k2 slots slots2) (sym r.0) (offered_push refused h r.1 r.2)
    offered_next refused refused' h (inr r) = subst (λ u. HasOffered answers tasks (n + 1) u k k2 slots slots2) (sym r.1) (offered_ran refused r.0 h r.2)

  -- there are as many slots as before
  pub next_long : (x : Numbered T) (refused refused' : Option Refusal) (k k' : KnownOf (Numbered T)) (slots slots' : List (Option (Outcome T A)))
      → OffersNext answers x refused refused' k k' slots slots' → length slots' ≡ length slots
  next_long x refused refused' k k' slots slots' (inl r) = ap length r.2
  next_long x refused refused' k k' slots slots' (inr r) = ap length r.2.put ∙ length-set slots r.2.result.number (Some (Answered r.2.result.answer))
