-- What was popped, and then what is left, is what was pushed; and a seat that alone may pop popped all of it.
use Rattle.std.proofs.Common.{cond, ◌≡◌, ◌∙◌, sym, refl, ap, ℕ, List, [], ◌∷◌, ◌++◌, append_assoc, nat_eq, true, false, Bool}
use Rattle.std.proofs.lemmas.List.{append-nil}
use Rattle.std.proofs.lemmas.List.Elements.{All-head, All-tail}
use Rattle.std.proofs.lemmas.Bool.{eq-eqb}
use Rattle.std.specs.List.{All}
use Rattle.history.specs.declared.operations.Entry.{Entry}
use Rattle.history.specs.declared.operations.Entry.TheVariants.{Push, Pop, Shut}
use Rattle.history.specs.declared.operations.Taken.{Taken}
use Rattle.history.specs.declared.operations.Reply.{Reply}
use Rattle.history.specs.declared.operations.Reply.TheVariants.{Done, Value, Empty, Refused}
use Rattle.history.specs.declared.refusals.Refusal.TheVariants.{Closed}
use Rattle.history.specs.Queue.{Queue}
use Rattle.history.specs.Entries.{Plays, Leads, own_entries}
use Rattle.history.specs.Seats.{Permit, Known, IsSound, IsPermitted}
use Rattle.history.specs.Values.{pushed, popped, OnlyPushes, OnlyPops}

-- the value that is answered, and else another
abbrev value_or : Taken → Reply → Taken
value_or d Done = d
value_or d (Value v) = v
value_or d Empty = d
value_or d (Refused refusal) = d

-- what a queue held and what was pushed is what was popped and what is left
popped-then_left : (es : List Entry) (shut : Bool) (values : List Taken) (after : Queue) → Plays (record { values = values; shut = shut }) es after → values ++ pushed es ≡ popped es ++ after.values
popped-then_left [] shut values after h = append-nil values ∙ ap (λ q. q.values) h
popped-then_left (Push seat body ∷ es) false values after h =
    let v : Taken = record { from = seat; body = body } in
    sym (append_assoc values (v ∷ []) (pushed es)) ∙ popped-then_left es false (values ++ v ∷ []) after h.1
popped-then_left (Push seat body ∷ es) true values after h = absurd (let e : Refused Closed ≡ Done = h.0 in cc)
popped-then_left (Pop seat value ∷ es) shut (v ∷ vs) after h =
    ap (λ y. y ∷ (vs ++ pushed es)) (ap (value_or v) h.0) ∙ ap (λ t. value ∷ t) (popped-then_left es shut vs after h.1)
popped-then_left (Pop seat value ∷ es) false [] after h = absurd (let e : Empty ≡ Value value = h.0 in cc)
popped-then_left (Pop seat value ∷ es) true [] after h = absurd (let e : Refused Closed ≡ Value value = h.0 in cc)
popped-then_left (Shut seat ∷ es) false values after h = popped-then_left es true values after h.1
popped-then_left (Shut seat ∷ es) true values after h = absurd (let e : Refused Closed ≡ Done = h.0 in cc)

-- what was pushed is what was popped, and then what is left
pub pushed-Leads : (es : List Entry) (shut : Bool) (left : List Taken) → Leads es shut left → pushed es ≡ popped es ++ left
pushed-Leads es shut left h = popped-then_left es false [] (record { values = left; shut = shut }) h

-- a push is no pop, whoever made it
push_or_not : (b : Bool) (seat body : ℕ) (es : List Entry) → popped (cond b (Push seat body ∷ es) es) ≡ popped es
push_or_not true seat body es = refl
push_or_not false seat body es = refl

-- and a pop no push
pop_or_not : (b : Bool) (seat : ℕ) (value : Taken) (es : List Entry) → pushed (cond b (Pop seat value ∷ es) es) ≡ pushed es
pop_or_not true seat value es = refl
pop_or_not false seat value es = refl

-- and a shut is neither
shut_pops_none : (b : Bool) (seat : ℕ) (es : List Entry) → popped (cond b (Shut seat ∷ es) es) ≡ popped es
shut_pops_none true seat es = refl
shut_pops_none false seat es = refl

shut_pushes_none : (b : Bool) (seat : ℕ) (es : List Entry) → pushed (cond b (Shut seat ∷ es) es) ≡ pushed es
shut_pushes_none true seat es = refl
shut_pushes_none false seat es = refl

module _ (permits : List Permit) (me : ℕ) where
  abbrev May : List Entry → Type 0
  May es = All (IsPermitted permits) es

  -- where nobody else may pop, a seat's own pops are all pops
  pub popped-own : OnlyPops permits me → (es : List Entry) → May es → popped (own_entries me es) ≡ popped es
  popped-own only [] may = refl
  popped-own only (Push seat body ∷ es) may =
      push_or_not (nat_eq seat me) seat body (own_entries me es) ∙ popped-own only es (All-tail (IsPermitted permits) (Push seat body) es may)
  popped-own only (Shut seat ∷ es) may =
      shut_pops_none (nat_eq seat me) seat (own_entries me es) ∙ popped-own only es (All-tail (IsPermitted permits) (Shut seat) es may)
  popped-own only (Pop seat value ∷ es) may =
      let mine : nat_eq seat me ≡ true = eq-eqb seat me (only seat (All-head (IsPermitted permits) (Pop seat value) es may)) in
      ap (λ b. popped (cond b (Pop seat value ∷ own_entries me es) (own_entries me es))) mine
      ∙ ap (λ t. value ∷ t) (popped-own only es (All-tail (IsPermitted permits) (Pop seat value) es may))

  -- where nobody else may push, its own pushes are all pushes
  pub pushed-own : OnlyPushes permits me → (es : List Entry) → May es → pushed (own_entries me es) ≡ pushed es
  pushed-own only [] may = refl
  pushed-own only (Pop seat value ∷ es) may =
      pop_or_not (nat_eq seat me) seat value (own_entries me es) ∙ pushed-own only es (All-tail (IsPermitted permits) (Pop seat value) es may)
  pushed-own only (Shut seat ∷ es) may =
      shut_pushes_none (nat_eq seat me) seat (own_entries me es) ∙ pushed-own only es (All-tail (IsPermitted permits) (Shut seat) es may)
  pushed-own only (Push seat body ∷ es) may =
      let mine : nat_eq seat me ≡ true = eq-eqb seat me (only seat (All-head (IsPermitted permits) (Push seat body) es may)) in
      let v : Taken = record { from = seat; body = body } in
      ap (λ b. pushed (cond b (Push seat body ∷ own_entries me es) (own_entries me es))) mine
      ∙ ap (λ t. v ∷ t) (pushed-own only es (All-tail (IsPermitted permits) (Push seat body) es may))

-- a seat that alone may pop popped all that it has seen popped
pub popped-alone : (permits : List Permit) (k : Known) → IsSound permits k → OnlyPops permits k.number → popped k.mine ≡ popped k.seen
popped-alone permits k sound only = ap popped (sym sound.own) ∙ popped-own permits k.number only k.seen sound.permitted

-- and one that alone may push pushed all that it has seen pushed
pub pushed-alone : (permits : List Permit) (k : Known) → IsSound permits k → OnlyPushes permits k.number → pushed k.mine ≡ pushed k.seen
pushed-alone permits k sound only = ap pushed (sym sound.own) ∙ pushed-own permits k.number only k.seen sound.permitted
