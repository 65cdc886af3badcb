-- What a seat of a queue of numbers knows, by deeds, is sound.
use Rattle.std.specs.Prelude.{◌≡◌, ℕ, ◌≤◌, Bool, true, false, cond, nat_eq, List, [], ◌∷◌, ◌++◌, map, take, refl}
use Rattle.std.specs.List.{All}
use Rattle.std.proofs.Common.{◌∙◌, sym, ap, subst, inl, inr}
use Rattle.std.proofs.lemmas.List.{map-append, length-map, take-map}
use Rattle.std.proofs.lemmas.List.Elements.{All-map, All-weaker}
use Rattle.history.specs.declared.operations.Entry.{Entry}
use Rattle.history.specs.declared.operations.Entry.TheVariants.{Push, Pop, Shut}
use Rattle.history.specs.declared.operations.Taken.{Taken}
use Rattle.history.specs.declared.operations.Reply.{Reply}
use Rattle.history.specs.declared.operations.Reply.TheVariants.{Done, Value, Empty, Refused}
use Rattle.history.specs.declared.refusals.Refusal.TheVariants.{Closed}
use Rattle.history.specs.Queue.{Queue}
use Rattle.history.specs.Entries.{Plays, Leads, LeadsToShut, IsQueueRun, own_entries}
use Rattle.history.specs.Seats.{Permit, Known, IsPermitted, IsNoted, IsSound}
use Rattle.carriers.specs.declared.items.ItemOf.{ItemOf}
use Rattle.carriers.specs.Deeds.{Deed, own_deeds, Runs, RunsTo, RunsToShut, IsRun}
use Rattle.carriers.specs.Knowledge.{IsPermittedDeed, IsNotedOf, IsSoundOf}
use Rattle.carriers.specs.DeedsOfNumbers.{item_taken, deed_of, deeds_of, known_by_deeds}

-- the value that is answered, and else another
abbrev value_or : Taken → Reply → Taken
value_or d (Value v) = v
value_or d _ = d

-- entries that lead from a queue to another lead there as deeds
runs-deeds : (es : List Entry) (shut : Bool) (values : List Taken) (after : Queue) → Plays (record { values = values; shut = shut }) es after
    → Runs (map item_taken values) shut (deeds_of es) (map item_taken after.values) after.shut
runs-deeds [] shut values after h = (ap (λ (q : Queue). map item_taken q.values) h, ap (λ (q : Queue). q.shut) h)
runs-deeds (Push seat body ∷ es) false values after h =
    let v : Taken = record { from = seat; body = body } in (
      refl,
      subst (λ (y : List (ItemOf ℕ)). Runs y false (deeds_of es) (map item_taken after.values) after.shut)
          (map-append item_taken values (v ∷ [])) (runs-deeds es false (values ++ v ∷ []) after h.1),
    )
runs-deeds (Push seat body ∷ es) true values after h = absurd (let e : Refused Closed ≡ Done = h.0 in cc)
runs-deeds (Pop seat value ∷ es) shut (v ∷ vs) after h =
    (map item_taken vs, ap (λ (t : Taken). item_taken t ∷ map item_taken vs) (ap (value_or v) h.0), runs-deeds es shut vs after h.1)
runs-deeds (Pop seat value ∷ es) false [] after h = absurd (let e : Empty ≡ Value value = h.0 in cc)
runs-deeds (Pop seat value ∷ es) true [] after h = absurd (let e : Refused Closed ≡ Value value = h.0 in cc)
runs-deeds (Shut seat ∷ es) false values after h = (refl, runs-deeds es true values after h.1)
runs-deeds (Shut seat ∷ es) true values after h = absurd (let e : Refused Closed ≡ Done = h.0 in cc)

-- what entries lead to, they lead to as deeds
pub RunsTo-deeds : (es : List Entry) (shut : Bool) (values : List Taken) → Leads es shut values → RunsTo (deeds_of es) shut (map item_taken values)
RunsTo-deeds es shut values h = runs-deeds es false [] (record { values = values; shut = shut }) h

pub RunsToShut-deeds : (es : List Entry) → LeadsToShut es → RunsToShut (deeds_of es)
RunsToShut-deeds es h = (map item_taken h.0, RunsTo-deeds es true h.0 h.1)

pub IsRun-deeds : (es : List Entry) → IsQueueRun es → IsRun (deeds_of es)
IsRun-deeds es h = (map item_taken h.0.values, h.0.shut, runs-deeds es false [] h.0 h.1)

-- a permitted entry is permitted as a deed
permitted-deed : (permits : List Permit) (e : Entry) → IsPermitted permits e → IsPermittedDeed permits (deed_of e)
permitted-deed permits (Push seat body) h = h
permitted-deed permits (Pop seat taken) h = h
permitted-deed permits (Shut seat) h = h

pub permitted-deeds : (permits : List Permit) (es : List Entry) → All (IsPermitted permits) es → All (IsPermittedDeed permits) (deeds_of es)
permitted-deeds permits es may = All-map (IsPermittedDeed permits) deed_of es (All-weaker (IsPermitted permits) (λ e. IsPermittedDeed permits (deed_of e)) (permitted-deed permits) es may)

-- a deed that is one's own or not
one_or_none : (b : Bool) (e : Entry) (ds : List (Deed ℕ)) (es : List Entry) → ds ≡ deeds_of es → cond b (deed_of e ∷ ds) ds ≡ deeds_of (cond b (e ∷ es) es)
one_or_none true e ds es same = ap (λ (y : List (Deed ℕ)). deed_of e ∷ y) same
one_or_none false e ds es same = same

-- the deeds of a seat are its entries, as deeds
pub own-deeds : (me : ℕ) (es : List Entry) → own_deeds me (deeds_of es) ≡ deeds_of (own_entries me es)
own-deeds me [] = refl
own-deeds me (Push seat body ∷ es) = one_or_none (nat_eq seat me) (Push seat body) _ (own_entries me es) (own-deeds me es)
own-deeds me (Pop seat taken ∷ es) = one_or_none (nat_eq seat me) (Pop seat taken) _ (own_entries me es) (own-deeds me es)
own-deeds me (Shut seat ∷ es) = one_or_none (nat_eq seat me) (Shut seat) _ (own_entries me es) (own-deeds me es)

-- notes say the same
noted-deeds : (es : List Entry) (n : ℕ) → IsNoted es n → IsNotedOf (deeds_of es) n
noted-deeds es n (inl a) =
    inl (subst (λ m. n ≤ m) (sym (length-map es deed_of)) a.0, subst (λ (ds : List (Deed ℕ)). RunsTo ds false []) (sym (take-map deed_of n es)) (RunsTo-deeds (take n es) false [] a.1))
noted-deeds es n (inr b) =
    inr (subst (λ m. n ≤ m) (sym (length-map es deed_of)) b.0, subst RunsToShut (sym (take-map deed_of n es)) (RunsToShut-deeds (take n es) b.1))

-- what a seat knows that is sound is so by deeds
pub sound-deeds : (permits : List Permit) (k : Known) → IsSound permits k → IsSoundOf permits (known_by_deeds k)
sound-deeds permits k sound =
    record {
      run = IsRun-deeds k.seen sound.legal;
      permitted = permitted-deeds permits k.seen sound.permitted;
      own = own-deeds k.number k.seen ∙ ap deeds_of sound.own;
      noted = All-weaker (IsNoted k.seen) (IsNotedOf (deeds_of k.seen)) (noted-deeds k.seen) k.notes sound.noted;
    }
