-- What one more entry does to a history.
use Rattle.std.proofs.Common.{◌≡◌, ◌≢◌, ⊎_elim, inl, inr, ℕ, ◌≤◌, arith, length-append, Bool, true, false, nat_eq, if◌then◌else◌, List, [], ◌∷◌, ◌++◌}
use Rattle.std.proofs.Common.{length, sym, refl, ap, ◌∙◌, subst, append-nil, ne_eqb}
use Rattle.std.specs.List.{All}
use Rattle.std.proofs.lemmas.Bool.{eq-eqb}
use Rattle.std.proofs.lemmas.List.Elements.{All-append, All-nil, All-cons, filter-append}
use Rattle.history.specs.declared.operations.Op.TheVariants.{Enq, Deq, Shut as Shuts}
use Rattle.history.specs.declared.operations.Entry.{Entry}
use Rattle.history.specs.declared.operations.Entry.TheVariants.{Push, Pop, Shut}
use Rattle.history.specs.declared.operations.Taken.{Taken}
use Rattle.history.specs.Queue.{Queue, empty, response}
use Rattle.std.proofs.lemmas.List.{take-append-le}
use Rattle.std.proofs.Math.Seq.{take-length}
use Rattle.std.proofs.lemmas.List.Elements.{All-head, All-tail, All-weaker}
use Rattle.history.specs.Entries.{seat_of, own_entries, Plays, Leads, LeadsTo, LeadsToShut, IsQueueRun}
use Rattle.history.specs.Seats.{IsNoted, IsEmptyAfter, IsShutAfter}
use Rattle.history.specs.Entries.{is_pop}
use Rattle.history.specs.Values.{pushed, pushed_by, popped}
use Rattle.std.specs.List.{count_by}
use Rattle.std.proofs.lemmas.List.Recursion.{is_count_by}
use Rattle.std.proofs.Common.{cond, suc, ◌+◌}

-- entries after others lead on
plays-append : (q r s : Queue) (es fs : List Entry) → Plays q es r → Plays r fs s → Plays q (es ++ fs) s
plays-append q r s [] fs h g = subst (λ x. Plays x fs s) (sym h) g
plays-append q r s (Push seat body ∷ es) fs h g = (h.0, plays-append (response seat (Enq body) q).after r s es fs h.1 g)
plays-append q r s (Shut seat ∷ es) fs h g = (h.0, plays-append (response seat Shuts q).after r s es fs h.1 g)
plays-append q r s (Pop seat value ∷ es) fs h g = (h.0, plays-append (response seat Deq q).after r s es fs h.1 g)

-- one more push, where the queue isn't shut
pub leads_push : (es : List Entry) (values : List Taken) (n body : ℕ) → Leads es false values → Leads (es ++ Push n body ∷ []) false (values ++ record { from = n; body = body } ∷ [])
leads_push es values n body h = plays-append empty _ _ es (Push n body ∷ []) h (refl, refl)

-- one more pop
pub leads_pop : (es : List Entry) (shut : Bool) (v : Taken) (values : List Taken) (n : ℕ) → Leads es shut (v ∷ values) → Leads (es ++ Pop n v ∷ []) shut values
leads_pop es shut v values n h = plays-append empty _ _ es (Pop n v ∷ []) h (refl, refl)

-- a shut
pub leads_shut : (es : List Entry) (values : List Taken) (n : ℕ) → Leads es false values → Leads (es ++ Shut n ∷ []) true values
leads_shut es values n h = plays-append empty _ _ es (Shut n ∷ []) h (refl, refl)

-- the entry is its seat's own, and no other's
pub own_one : (n : ℕ) (es : List Entry) (e : Entry) → seat_of e ≡ n → own_entries n (es ++ e ∷ []) ≡ own_entries n es ++ e ∷ []
own_one n es e is = filter-append (λ x. nat_eq (seat_of x) n) es (e ∷ []) ∙ ap (λ b. own_entries n es ++ (if b then e ∷ [] else [])) (eq-eqb (seat_of e) n is)

pub own_other : (n : ℕ) (es : List Entry) (e : Entry) → seat_of e ≢ n → own_entries n (es ++ e ∷ []) ≡ own_entries n es
own_other n es e ne = filter-append (λ x. nat_eq (seat_of x) n) es (e ∷ []) ∙ (ap (λ b. own_entries n es ++ (if b then e ∷ [] else [])) (ne_eqb (seat_of e) n ne) ∙ append-nil (own_entries n es))

-- a fact of each entry, with one more
pub all_one : (P : Entry → Type 0) (es : List Entry) (e : Entry) → All P es → P e → All P (es ++ e ∷ [])
all_one P es e h p = All-append P es (e ∷ []) h (All-cons P e [] p (All-nil P))

-- what holds of all entries holds of the first ones
pub all_first : (P : Entry → Type 0) (xs ys : List Entry) → All P (xs ++ ys) → All P xs
all_first P [] ys h = All-nil P
all_first P (x ∷ xs) ys h = All-cons P x xs (All-head P x (xs ++ ys) h) (all_first P xs ys (All-tail P x (xs ++ ys) h))

plays_first : (xs ys : List Entry) (from to : Queue) → Plays from (xs ++ ys) to → (after : Queue) × Plays from xs after
plays_first [] ys from to h = (from, refl)
plays_first (Push seat body ∷ xs) ys from to h = let r = plays_first xs ys _ to h.1 in (r.0, (h.0, r.1))
plays_first (Shut seat ∷ xs) ys from to h = let r = plays_first xs ys _ to h.1 in (r.0, (h.0, r.1))
plays_first (Pop seat value ∷ xs) ys from to h = let r = plays_first xs ys _ to h.1 in (r.0, (h.0, r.1))

-- a prefix of a legal history is legal
pub legal_first : (xs ys : List Entry) → IsQueueRun (xs ++ ys) → IsQueueRun xs
legal_first xs ys h = plays_first xs ys empty h.0 h.1

-- a note stays right while more is seen
pub noted_more : (seen more : List Entry) (n : ℕ) → IsNoted seen n → IsNoted (seen ++ more) n
noted_more seen more n h =
    let within : n ≤ length seen → n ≤ length (seen ++ more) = λ le. omega (arith, length-append seen more) in
    ⊎_elim
    (λ (e : IsEmptyAfter seen n). inl (within e.0, subst (λ es. LeadsTo es []) (sym (take-append-le n seen more e.0)) e.1))
    (λ (e : IsShutAfter seen n). inr (within e.0, subst LeadsToShut (sym (take-append-le n seen more e.0)) e.1))
    h

pub all_noted_more : (seen more : List Entry) (ns : List ℕ) → All (IsNoted seen) ns → All (IsNoted (seen ++ more)) ns
all_noted_more seen more ns h = All-weaker (IsNoted seen) (IsNoted (seen ++ more)) (noted_more seen more) ns h

-- all of what leads to a queue, noted
pub noted_empty : (es : List Entry) → LeadsTo es [] → IsNoted es (length es)
noted_empty es h = inl (omega arith, subst (λ xs. LeadsTo xs []) (sym (take-length es)) h)

pub noted_shut : (es : List Entry) → LeadsToShut es → IsNoted es (length es)
noted_shut es h = inr (omega arith, subst LeadsToShut (sym (take-length es)) h)

-- one more note
pub all_one_note : (P : ℕ → Type 0) (ns : List ℕ) (n : ℕ) → All P ns → P n → All P (ns ++ n ∷ [])
all_one_note P ns n h p = All-append P ns (n ∷ []) h (All-cons P n [] p (All-nil P))

-- what was pushed, with more entries
pub pushed_more : (es fs : List Entry) → pushed (es ++ fs) ≡ pushed es ++ pushed fs
pushed_more [] fs = refl
pushed_more (Push seat body ∷ es) fs = ap (λ vs. record { from = seat; body = body } ∷ vs) (pushed_more es fs)
pushed_more (Pop seat value ∷ es) fs = pushed_more es fs
pushed_more (Shut seat ∷ es) fs = pushed_more es fs

-- what isn't a push pushes nothing
pub pushed_quiet : (es : List Entry) (e : Entry) → pushed_by e ≡ [] → pushed (es ++ e ∷ []) ≡ pushed es
pushed_quiet es e none_pushed = pushed_more es (e ∷ []) ∙ (ap (λ vs. pushed es ++ (vs ++ [])) none_pushed ∙ append-nil (pushed es))

-- there are as many values popped as pops
pub popped_count : (es : List Entry) → length (popped es) ≡ count_by is_pop es
popped_count es = is_count_by (λ fs. length (popped fs)) is_pop refl one es
  where
    one : (e : Entry) (fs : List Entry) → length (popped (e ∷ fs)) ≡ cond (is_pop e) (1 + length (popped fs)) (length (popped fs))
    one (Push seat body) fs = refl
    one (Pop seat value) fs = let q : suc (length (popped fs)) ≡ 1 + length (popped fs) = omega arith in q
    one (Shut seat) fs = refl
