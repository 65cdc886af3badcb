-- What a seat of a queue of numbers learns by deeds, it learns by entries: the way back.
use Rattle.std.proofs.Common.{◌≡◌, ◌∙◌, sym, refl, ap, subst, ℕ, Bool, true, false, List, [], ◌∷◌, ◌++◌, map, length, take, Option, Some, None, option_map, ◌≤◌, cond, nat_eq, inl, inr}
use Rattle.std.proofs.lemmas.List.{map-append, length-map, take-map}
use Rattle.std.proofs.lemmas.List.Elements.{All-map, All-weaker}
use Rattle.std.specs.List.{All}
use Rattle.history.specs.declared.operations.Entry.{Entry}
use Rattle.history.specs.declared.operations.Entry.TheVariants.{Push, Pop, Shut}
use Rattle.history.specs.declared.operations.Taken.{Taken}
use Rattle.history.specs.declared.refusals.Refusal.{Refusal}
use Rattle.history.specs.declared.refusals.Refusal.TheVariants.{Closed}
use Rattle.history.specs.Queue.{Queue}
use Rattle.history.specs.Entries.{Plays, Leads, LeadsTo, LeadsToShut, IsQueueRun, own_entries}
use Rattle.history.specs.Answers.{Adds, SeesMore, FoundEmpty, FoundShut, FoundShutEmpty, Pushed, PopAnswers, DidShut, PushRefused, PopRefused, Meets}
use Rattle.history.specs.Seats.{Known, Permit, IsPermitted, IsNoted, IsSound}
use Rattle.carriers.specs.declared.items.ItemOf.{ItemOf}
use Rattle.carriers.specs.Deeds.{Deed, did_push, did_pop, did_shut, item, Runs, RunsTo, RunsToShut, own_deeds}
use Rattle.carriers.specs.Answers.{AddsDeed, SeesMoreOf, FindsDone, PushedOf, PopAnswersOf, DidShutOf, PushRefusedOf, PopRefusedOf, MeetsOf}
use Rattle.carriers.specs.Knowledge.{KnownOf, IsPermittedDeed, IsNotedOf, IsSoundOf}
use Rattle.carriers.specs.DeedsOfNumbers.{item_taken, deed_of, deeds_of, known_by_deeds}

abbrev taken_of : ItemOf ℕ → Taken
taken_of t = record { from = t.from; body = t.value }

abbrev entry_of : Deed ℕ → Entry
entry_of (did_push seat value) = Push seat value
entry_of (did_pop seat front) = Pop seat (taken_of front)
entry_of (did_shut seat) = Shut seat

entry_back : (e : Entry) → entry_of (deed_of e) ≡ e
entry_back (Push seat body) = refl
entry_back (Pop seat taken) = refl
entry_back (Shut seat) = refl

back : (es : List Entry) → map entry_of (deeds_of es) ≡ es
back [] = refl
back (e ∷ es) = λ i. entry_back e i ∷ back es i

-- a history of deeds that goes on goes on as one of entries
grown : (es es' : List Entry) (ds : List (Deed ℕ)) → deeds_of es' ≡ deeds_of es ++ ds → es' ≡ es ++ map entry_of ds
grown es es' ds h = sym (back es') ∙ ap (map entry_of) h ∙ map-append entry_of (deeds_of es) ds ∙ ap (λ (y : List Entry). y ++ map entry_of ds) (back es)

ended : (es es' : List Entry) (ds : List (Deed ℕ)) (e : Entry) → deeds_of es' ≡ (deeds_of es ++ ds) ++ deed_of e ∷ [] → es' ≡ (es ++ map entry_of ds) ++ e ∷ []
ended es es' ds e h =
    sym (back es') ∙ ap (map entry_of) h ∙ map-append entry_of (deeds_of es ++ ds) (deed_of e ∷ [])
    ∙ (λ i. (map-append entry_of (deeds_of es) ds i) ++ entry_back e i ∷ [])
    ∙ ap (λ (y : List Entry). (y ++ map entry_of ds) ++ e ∷ []) (back es)

one_more : (es es' : List Entry) (e : Entry) → deeds_of es' ≡ deeds_of es ++ deed_of e ∷ [] → es' ≡ es ++ e ∷ []
one_more es es' e h = grown es es' (deed_of e ∷ []) h ∙ ap (λ (x : Entry). es ++ x ∷ []) (entry_back e)

same : (es es' : List Entry) → deeds_of es' ≡ deeds_of es → es' ≡ es
same es es' h = sym (back es') ∙ ap (map entry_of) h ∙ back es

-- and the list itself: what deeds lead to, entries lead to
plays : (es : List Entry) (shut : Bool) (values after : List (ItemOf ℕ)) (shut' : Bool) → Runs values shut (deeds_of es) after shut'
    → Plays (record { values = map taken_of values; shut = shut }) es (record { values = map taken_of after; shut = shut' })
plays [] shut values after shut' h = λ i. record { values = map taken_of (h.0 i); shut = h.1 i }
plays (Push seat body ∷ es) false values after shut' h = (
  refl,
  subst (λ (y : List Taken). Plays (record { values = y; shut = false }) es (record { values = map taken_of after; shut = shut' }))
      (map-append taken_of values (item seat body ∷ [])) (plays es false (values ++ item seat body ∷ []) after shut' h.1),
)
plays (Push seat body ∷ es) true values after shut' h = absurd (let e : true ≡ false = h.0 in cc)
plays (Pop seat taken ∷ es) shut [] after shut' h = absurd (let e : [] ≡ item_taken taken ∷ h.0 = h.1 in cc)
plays (Pop seat taken ∷ es) shut (v ∷ vs) after shut' h =
    let r = plays es shut h.0 after shut' h.2 in
    subst (λ (y : List (ItemOf ℕ)). Plays (record { values = map taken_of y; shut = shut }) (Pop seat taken ∷ es) (record { values = map taken_of after; shut = shut' }))
    (sym h.1) (refl, r)
plays (Shut seat ∷ es) false values after shut' h = (refl, plays es true values after shut' h.1)
plays (Shut seat ∷ es) true values after shut' h = absurd (let e : true ≡ false = h.0 in cc)

adds : (k k' : Known) (e : Entry) → AddsDeed (known_by_deeds k) (deed_of e) (known_by_deeds k') → Adds k e k'
adds k k' e h =
    record {
      number = h.number;
      between = map entry_of h.between;
      seen = ended k.seen k'.seen h.between e h.seen;
      mine = one_more k.mine k'.mine e h.mine;
      notes = h.notes;
    }

sees : (k k' : Known) → SeesMoreOf (known_by_deeds k) (known_by_deeds k') → SeesMore k k'
sees k k' h =
    record { number = h.number; between = map entry_of h.between; seen = grown k.seen k'.seen h.between h.seen; mine = same k.mine k'.mine h.mine; notes = h.notes }

noted : (k k' : Known) → (known_by_deeds k').notes ≡ (known_by_deeds k).notes ++ length (known_by_deeds k').seen ∷ [] → k'.notes ≡ k.notes ++ length k'.seen ∷ []
noted k k' h = h ∙ ap (λ (n : ℕ). k.notes ++ n ∷ []) (length-map k'.seen deed_of)

pub pushed : (k k' : Known) (body : ℕ) → PushedOf (known_by_deeds k) body (known_by_deeds k') → Pushed k body k'
pushed k k' body h = adds k k' (Push k.number body) h

pub shut : (k k' : Known) → DidShutOf (known_by_deeds k) (known_by_deeds k') → DidShut k k'
shut k k' h = adds k k' (Shut k.number) h

pub answers : (k k' : Known) (taken : Option Taken) → PopAnswersOf (known_by_deeds k) (option_map item_taken taken) (known_by_deeds k') → PopAnswers k taken k'
answers k k' None h =
    record {
      number = h.number;
      between = map entry_of h.between;
      seen = grown k.seen k'.seen h.between h.seen;
      empty = plays k'.seen false [] [] false h.leaves;
      mine = same k.mine k'.mine h.mine;
      notes = noted k k' h.notes;
    }
answers k k' (Some taken) h = adds k k' (Pop k.number taken) h

pub push_refused : (k k' : Known) (refusal : Refusal) → PushRefusedOf (known_by_deeds k) refusal (known_by_deeds k') → PushRefused k refusal k'
push_refused k k' Closed h =
    record {
      number = h.number;
      between = map entry_of h.between;
      seen = grown k.seen k'.seen h.between h.seen;
      shut = (map taken_of h.leaves.0, plays k'.seen false [] h.leaves.0 true h.leaves.1);
      mine = same k.mine k'.mine h.mine;
      notes = noted k k' h.notes;
    }
push_refused k k' _ h = sees k k' h

pub pop_refused : (k k' : Known) (refusal : Refusal) → PopRefusedOf (known_by_deeds k) refusal (known_by_deeds k') → PopRefused k refusal k'
pop_refused k k' Closed h =
    record {
      number = h.number;
      between = map entry_of h.between;
      seen = grown k.seen k'.seen h.between h.seen;
      empty = plays k'.seen false [] [] true h.leaves;
      mine = same k.mine k'.mine h.mine;
      notes = noted k k' h.notes;
    }
pop_refused k k' _ h = sees k k' h

pub meets : (one other one' other' : Known) → MeetsOf (known_by_deeds one) (known_by_deeds other) (known_by_deeds one') (known_by_deeds other') → Meets one other one' other'
meets one other one' other' h = record { same = same one'.seen other'.seen h.same; first = sees one one' h.first; second = sees other other' h.second }

-- each list of deeds of numbers is one of entries, and so is what a seat knows
forth : (ds : List (Deed ℕ)) → deeds_of (map entry_of ds) ≡ ds
forth [] = refl
forth (did_push seat value ∷ ds) = ap (λ (y : List (Deed ℕ)). did_push seat value ∷ y) (forth ds)
forth (did_pop seat front ∷ ds) = ap (λ (y : List (Deed ℕ)). did_pop seat front ∷ y) (forth ds)
forth (did_shut seat ∷ ds) = ap (λ (y : List (Deed ℕ)). did_shut seat ∷ y) (forth ds)

-- what a seat knows by deeds of numbers, by entries
abbrev pub known_of_deeds : KnownOf ℕ → Known
known_of_deeds k = record { number = k.number; seen = map entry_of k.seen; mine = map entry_of k.mine; notes = k.notes }

pub known_forth : (k : KnownOf ℕ) → known_by_deeds (known_of_deeds k) ≡ k
known_forth k = λ i. record { number = k.number; seen = forth k.seen i; mine = forth k.mine i; notes = k.notes }

-- what is sound of deeds is sound of them as entries
leads : (ds : List (Deed ℕ)) (shut : Bool) (values : List (ItemOf ℕ)) → RunsTo ds shut values → Leads (map entry_of ds) shut (map taken_of values)
leads ds shut values h = plays (map entry_of ds) false [] values shut (subst (λ (y : List (Deed ℕ)). Runs [] false y values shut) (sym (forth ds)) h)

may : (permits : List Permit) (d : Deed ℕ) → IsPermittedDeed permits d → IsPermitted permits (entry_of d)
may permits (did_push seat value) h = h
may permits (did_pop seat front) h = h
may permits (did_shut seat) h = h

own_or_none : (b : Bool) (d : Deed ℕ) (es : List Entry) (ds : List (Deed ℕ)) → es ≡ map entry_of ds → cond b (entry_of d ∷ es) es ≡ map entry_of (cond b (d ∷ ds) ds)
own_or_none true d es ds same = ap (λ (y : List Entry). entry_of d ∷ y) same
own_or_none false d es ds same = same

own : (me : ℕ) (ds : List (Deed ℕ)) → own_entries me (map entry_of ds) ≡ map entry_of (own_deeds me ds)
own me [] = refl
own me (did_push seat value ∷ ds) = own_or_none (nat_eq seat me) (did_push seat value) _ (own_deeds me ds) (own me ds)
own me (did_pop seat front ∷ ds) = own_or_none (nat_eq seat me) (did_pop seat front) _ (own_deeds me ds) (own me ds)
own me (did_shut seat ∷ ds) = own_or_none (nat_eq seat me) (did_shut seat) _ (own_deeds me ds) (own me ds)

is_noted : (ds : List (Deed ℕ)) (n : ℕ) → IsNotedOf ds n → IsNoted (map entry_of ds) n
is_noted ds n (inl a) =
    inl (subst (λ m. n ≤ m) (sym (length-map ds entry_of)) a.0, subst (λ (es : List Entry). LeadsTo es []) (sym (take-map entry_of n ds)) (leads (take n ds) false [] a.1))
is_noted ds n (inr b) =
    inr (
      subst (λ m. n ≤ m) (sym (length-map ds entry_of)) b.0,
      subst LeadsToShut (sym (take-map entry_of n ds)) (map taken_of b.1.0, leads (take n ds) true b.1.0 b.1.1),
    )

pub sound-entries : (permits : List Permit) (k : KnownOf ℕ) → IsSoundOf permits k → IsSound permits (known_of_deeds k)
sound-entries permits k sound =
    record {
      legal = (record { values = map taken_of sound.run.0; shut = sound.run.1 }, leads k.seen sound.run.1 sound.run.0 sound.run.2);
      permitted = All-map (IsPermitted permits) entry_of k.seen (All-weaker (IsPermittedDeed permits) (λ d. IsPermitted permits (entry_of d)) (may permits) k.seen sound.permitted);
      own = own k.number k.seen ∙ ap (map entry_of) sound.own;
      noted = All-weaker (IsNotedOf k.seen) (IsNoted (map entry_of k.seen)) (is_noted k.seen) k.notes sound.noted;
    }

-- and what a call tells by deeds it tells by these entries
over : (R : KnownOf ℕ → KnownOf ℕ → Type 0) (k k' : KnownOf ℕ) → R k k' → R (known_by_deeds (known_of_deeds k)) (known_by_deeds (known_of_deeds k'))
over R k k' h = subst (λ (y : KnownOf ℕ). R y (known_by_deeds (known_of_deeds k'))) (sym (known_forth k)) (subst (R k) (sym (known_forth k')) h)

pub pushed_of : (k k' : KnownOf ℕ) (body : ℕ) → PushedOf k body k' → Pushed (known_of_deeds k) body (known_of_deeds k')
pushed_of k k' body h = pushed _ _ body (over (λ a b. PushedOf a body b) k k' h)

pub shut_of : (k k' : KnownOf ℕ) → DidShutOf k k' → DidShut (known_of_deeds k) (known_of_deeds k')
shut_of k k' h = shut _ _ (over DidShutOf k k' h)

pub answers_of : (k k' : KnownOf ℕ) (taken : Option Taken) → PopAnswersOf k (option_map item_taken taken) k' → PopAnswers (known_of_deeds k) taken (known_of_deeds k')
answers_of k k' taken h = answers _ _ taken (over (λ a b. PopAnswersOf a (option_map item_taken taken) b) k k' h)

pub push_refused_of : (k k' : KnownOf ℕ) (refusal : Refusal) → PushRefusedOf k refusal k' → PushRefused (known_of_deeds k) refusal (known_of_deeds k')
push_refused_of k k' refusal h = push_refused _ _ refusal (over (λ a b. PushRefusedOf a refusal b) k k' h)

pub pop_refused_of : (k k' : KnownOf ℕ) (refusal : Refusal) → PopRefusedOf k refusal k' → PopRefused (known_of_deeds k) refusal (known_of_deeds k')
pop_refused_of k k' refusal h = pop_refused _ _ refusal (over (λ a b. PopRefusedOf a refusal b) k k' h)

sees_of : (k k' : KnownOf ℕ) → SeesMoreOf k k' → SeesMore (known_of_deeds k) (known_of_deeds k')
sees_of k k' h = sees _ _ (over SeesMoreOf k k' h)

pub meets_of : (one other one' other' : KnownOf ℕ) → MeetsOf one other one' other' → Meets (known_of_deeds one) (known_of_deeds other) (known_of_deeds one') (known_of_deeds other')
meets_of one other one' other' h = record { same = ap (map entry_of) h.same; first = sees_of one one' h.first; second = sees_of other other' h.second }
