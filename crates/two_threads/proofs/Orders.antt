-- What one seat pushed another popped, in order.
use Rattle.std.proofs.Common.{cond, suc, zero, ◌≡◌, ◌∙◌, sym, refl, ap, subst, ℕ, Bool, true, false, nat_eq, eq-eqb, List, [], ◌∷◌, ◌++◌, arith}
use Rattle.std.specs.List.{All, count_by}
use Rattle.std.proofs.lemmas.Bool.{false≢true}
use Rattle.std.proofs.lemmas.List.{append-nil}
use Rattle.std.proofs.lemmas.List.Elements.{All-head, All-tail}
use Rattle.std.proofs.lemmas.List.Sums.{sum_by-cons, sum_by_push}
use Rattle.std.proofs.lemmas.Grind.{flat_map-append}
use Rattle.history.specs.declared.operations.Entry.{Entry}
use Rattle.history.specs.declared.operations.Entry.TheVariants.{Push, Pop, Shut}
use Rattle.history.specs.declared.operations.Reply.TheVariants.{Value, Empty}
use Rattle.history.specs.declared.operations.Taken.{Taken}
use Rattle.history.specs.declared.refusals.Refusal.{Refusal}
use Rattle.history.specs.declared.refusals.Refusal.TheVariants.{WornOut, Closed}
use Rattle.shared_queue.specs.Answers.{EndsSend}
use Rattle.history.specs.Answers.{FoundShut, PushRefused, EndsShut}
use Rattle.history.specs.Queue.{Queue, empty}
use Rattle.history.specs.Entries.{is_shut, own_entries, Plays, Leads, LeadsToShut}
use Rattle.history.specs.Seats.{Permit, Known, IsPermitted, IsSound}
use Rattle.history.specs.Values.{pushed, popped, pushed_by, OnlyPushes, OnlyPops}
use Rattle.history.proofs.Values.{pushed-Leads, pushed-alone, popped-alone}
use Rattle.history.proofs.Ending.{ends_there}
use Rattle.two_threads.specs.Duos.{pushes_to, values_to, pops_of, EndsRun}

-- the values that these pushes push
pushed-pushes_to : (seat n : ℕ) → pushed (pushes_to seat n) ≡ values_to seat n
pushed-pushes_to seat zero = refl
pushed-pushes_to seat (suc n) =
    flat_map-append pushed_by (pushes_to seat n) (Push seat (suc n) ∷ [])
    ∙ ap (λ t. t ++ record { from = seat; body = suc n } ∷ []) (pushed-pushes_to seat n)

-- the values that these pops pop
popped-pops_of : (seat : ℕ) (vs : List Taken) → popped (pops_of seat vs) ≡ vs
popped-pops_of seat [] = refl
popped-pops_of seat (v ∷ vs) = ap (λ t. v ∷ t) (popped-pops_of seat vs)

-- the pops of one value more
pops_of-push : (seat : ℕ) (vs : List Taken) (v : Taken) → pops_of seat (vs ++ v ∷ []) ≡ pops_of seat vs ++ Pop seat v ∷ []
pops_of-push seat [] v = refl
pops_of-push seat (x ∷ vs) v = ap (λ t. Pop seat x ∷ t) (pops_of-push seat vs v)

-- pushes are no shuts
pub shuts-pushes_to : (seat n : ℕ) → count_by is_shut (pushes_to seat n) ≡ 0
shuts-pushes_to seat zero = refl
shuts-pushes_to seat (suc n) =
    let one = sum_by_push (λ e. cond (is_shut e) 1 0) (pushes_to seat n) (Push seat (suc n)) in
    let ih = shuts-pushes_to seat n in
    omega (arith, one, ih)

-- an entry more has no less shuts
fewer : (b : Bool) (e : Entry) (es : List Entry) → count_by is_shut (cond b (e ∷ es) es) ≡ 0 → count_by is_shut es ≡ 0
fewer true e es h = let one = sum_by-cons (λ x. cond (is_shut x) 1 0) e es in omega (arith, one, h)
fewer false e es h = h

module _ (permits : List Permit) (me : ℕ) (only : OnlyPushes permits me) where
  abbrev May : List Entry → Type 0
  May es = All (IsPermitted permits) es

  -- where one seat alone may push, and made no shut, nothing leads to a queue that is shut
  stays_open : (es : List Entry) (values left : List Taken) → May es → count_by is_shut (own_entries me es) ≡ 0
      → Plays (record { values = values; shut = false }) es (record { values = left; shut = true }) → ⊥
  stays_open [] values left may none h = false≢true (ap (λ (q : Queue). q.shut) h)
  stays_open (Push seat body ∷ es) values left may none h =
      stays_open es _ left (All-tail (IsPermitted permits) (Push seat body) es may) (fewer (nat_eq seat me) (Push seat body) (own_entries me es) none) h.1
  stays_open (Pop seat value ∷ es) (v ∷ vs) left may none h =
      stays_open es vs left (All-tail (IsPermitted permits) (Pop seat value) es may) (fewer (nat_eq seat me) (Pop seat value) (own_entries me es) none) h.1
  stays_open (Pop seat value ∷ es) [] left may none h = let e : Empty ≡ Value value = h.0 in absurd cc
  stays_open (Shut seat ∷ es) values left may none h =
      let mine : nat_eq seat me ≡ true = eq-eqb seat me (only seat (All-head (IsPermitted permits) (Shut seat) es may)) in
      let made : count_by is_shut (Shut seat ∷ own_entries me es) ≡ 0 = subst (λ b. count_by is_shut (cond b (Shut seat ∷ own_entries me es) (own_entries me es)) ≡ 0) mine none in
      let one = sum_by-cons (λ x. cond (is_shut x) 1 0) (Shut seat) (own_entries me es) in
      omega (arith, one, made)

-- so a seat that alone may push, and did nothing but push, never finds the queue shut
pub never_shut : (permits : List Permit) (k : Known) (seat n : ℕ) → IsSound permits k → OnlyPushes permits k.number → k.mine ≡ pushes_to seat n → LeadsToShut k.seen → ⊥
never_shut permits k seat n sound only mine found =
    let none : count_by is_shut (own_entries k.number k.seen) ≡ 0 = ap (count_by is_shut) (sound.own ∙ mine) ∙ shuts-pushes_to seat n in
    stays_open permits k.number only k.seen [] found.0 sound.permitted none found.1

-- and its push is refused only as the run may be
pub ends_run : (most : ℕ) (k k' : Known) (refusal : Refusal) → (FoundShut k k' → ⊥) → EndsSend refusal → PushRefused k refusal k' → EndsRun most refusal
ends_run most k k' (WornOut word) never may h = tt
ends_run most k k' Closed never may h = absurd (never h)
ends_run most k k' _ never may h = absurd may

-- and so is its shut
pub shut_ends_run : (most : ℕ) (k k' : Known) (refusal : Refusal) → (FoundShut k k' → ⊥) → EndsShut refusal → PushRefused k refusal k' → EndsRun most refusal
shut_ends_run most k k' (WornOut word) never may h = tt
shut_ends_run most k k' Closed never may h = absurd (never h)
shut_ends_run most k k' _ never may h = absurd may

-- what the one popper took, who then found the queue shut and empty, is what the one pusher pushed, in order
pub in_order :
    (permits : List Permit) (g t : Known) (giver taker n : ℕ) (vs : List Taken) (found between : List Entry) →
    IsSound permits g → IsSound permits t → t.seen ≡ g.seen →
    OnlyPushes permits giver → OnlyPops permits taker →
    g.number ≡ giver → t.number ≡ taker →
    g.mine ≡ pushes_to giver n ++ Shut giver ∷ [] → t.mine ≡ pops_of taker vs →
    t.seen ≡ found ++ between → Leads found true [] → vs ≡ values_to giver n
in_order permits g t giver taker n vs found between gs ts same pushes pops gn tn gm tm more empties =
    let all_pushed : pushed g.seen ≡ values_to giver n =
    sym (pushed-alone permits g gs (λ m may. pushes m may ∙ sym gn)) ∙ ap pushed gm ∙ flat_map-append pushed_by (pushes_to giver n) (Shut giver ∷ [])
    ∙ append-nil (pushed (pushes_to giver n)) ∙ pushed-pushes_to giver n in
    let all_popped : vs ≡ popped g.seen =
    sym (popped-pops_of taker vs) ∙ ap popped (sym tm) ∙ popped-alone permits t ts (λ m may. pops m may ∙ sym tn) ∙ ap popped same in
    let after = gs.legal.0 in
    let nothing : after.values ≡ [] =
    ap (λ (q : Queue). q.values) (sym (ends_there found between empty after empties (subst (λ es. Plays empty es after) (sym same ∙ more) gs.legal.1))) in
    all_popped ∙ sym (pushed-Leads g.seen after.shut after.values gs.legal.1 ∙ ap (λ x. popped g.seen ++ x) nothing ∙ append-nil (popped g.seen)) ∙ all_pushed

-- one value more was popped
pub popped_more :
    (n m : ℕ) (mine mine' : List Entry) (vs vs' : List Taken) (v : Taken) →
    n ≡ m → mine ≡ pops_of m vs → mine' ≡ mine ++ Pop n v ∷ [] → vs' ≡ vs ++ v ∷ [] → mine' ≡ pops_of m vs'
popped_more n m mine mine' vs vs' v same was more items =
    more ∙ ap (λ k. mine ++ Pop k v ∷ []) same ∙ ap (λ t. t ++ Pop m v ∷ []) was ∙ sym (pops_of-push m vs v) ∙ ap (pops_of m) (sym items)

-- one number more was pushed
pub pushed_more :
    (n m count next body : ℕ) (mine mine' : List Entry) →
    n ≡ m → mine ≡ pushes_to m count → mine' ≡ mine ++ Push n body ∷ [] → body ≡ suc count → next ≡ suc count → mine' ≡ pushes_to m next
pushed_more n m count next body mine mine' same was more it one =
    more ∙ (λ i. was i ++ Push (same i) (it i) ∷ []) ∙ ap (pushes_to m) (sym one)
