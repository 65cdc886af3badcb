-- Where givers and a taker alone have seats, each value taken is of a giver.
use Rattle.std.proofs.Common.{◌≡◌, ◌-◌, ◌<◌, sym, subst, ℕ, zero, suc, Bool, true, false, IsTrue, cond, nat_eq, get_or, List, [], ◌∷◌, ◌++◌, arith}
use Rattle.std.specs.Prelude.{slice_get, IsSomeAnd}
use Rattle.std.specs.List.{All}
use Rattle.std.proofs.lemmas.Bool.{false≢true}
use Rattle.std.proofs.lemmas.List.Elements.{All-nil, All-cons, All-map}
use Rattle.text_io.specs.Numerals.{IsWithin}
use Rattle.history.specs.declared.operations.Entry.{Entry}
use Rattle.history.specs.declared.operations.Entry.TheVariants.{Push, Pop, Shut}
use Rattle.history.specs.declared.operations.Taken.{Taken}
use Rattle.history.specs.Entries.{own_entries}
use Rattle.history.specs.Seats.{Permit, Known, IsSound, IsPermitted, MayPush}
use Rattle.history.specs.Values.{pushed, popped}
use Rattle.history.proofs.Values.{pushed-Leads}
use Rattle.mailbox.specs.declared.receiver.Receiver.{Receiver}
use Rattle.mailbox.specs.declared.receiver.Letter.{Letter}
use Rattle.mailbox.specs.Posts.{Delivered}
use Rattle.mail_engine.specs.Rows.{givers_and_taker}
use Rattle.mail_engine.proofs.SenderTasks.{all_before-map}

-- what holds of all of a list holds of its front
front : {X : Type 0} (P : X → Type 0) (x : X) (xs : List X) → All P (x ∷ xs) → P x
front P x xs all = all 0 x (omega arith)

-- and of all behind it
behind : {X : Type 0} (P : X → Type 0) (x : X) (xs : List X) → All P (x ∷ xs) → All P xs
behind P x xs all k d short = all (suc k) d (omega (arith, short))

-- of a first part
first_part : {X : Type 0} (P : X → Type 0) (xs ys : List X) → All P (xs ++ ys) → All P xs
first_part P [] ys all = All-nil P
first_part P (x ∷ xs) ys all = All-cons P x xs (front P x (xs ++ ys) all) (first_part P xs ys (behind P x (xs ++ ys) all))

-- and of a last part
last_part : {X : Type 0} (P : X → Type 0) (xs ys : List X) → All P (xs ++ ys) → All P ys
last_part P [] ys all = all
last_part P (x ∷ xs) ys all = last_part P xs ys (behind P x (xs ++ ys) all)

-- a number that may push is a giver's
pushes_at : (n k : ℕ) → IsSomeAnd (slice_get (givers_and_taker n) k) (λ p. IsTrue p.pushes) → k < n
pushes_at zero zero h = absurd (false≢true h)
pushes_at zero (suc k) h = absurd h
pushes_at (suc n) zero h = omega arith
pushes_at (suc n) (suc k) h = let l = pushes_at n k h in omega (arith, l)

giver_within : (n m : ℕ) → MayPush (givers_and_taker n) m → IsWithin 1 n m
giver_within n m may = let l = pushes_at n (m - 1) may.1 in let some = may.0 in (some, omega (arith, l, some))

-- what was pushed is of those who may push
pushers : (permits : List Permit) (es : List Entry) → All (IsPermitted permits) es → All (λ (v : Taken). MayPush permits v.from) (pushed es)
pushers permits [] all = All-nil (λ (v : Taken). MayPush permits v.from)
pushers permits (Push seat body ∷ es) all =
    All-cons (λ (v : Taken). MayPush permits v.from) (record { from = seat; body = body }) (pushed es)
    (front (IsPermitted permits) (Push seat body) es all)
    (pushers permits es (behind (IsPermitted permits) (Push seat body) es all))
pushers permits (Pop seat value ∷ es) all = pushers permits es (behind (IsPermitted permits) (Pop seat value) es all)
pushers permits (Shut seat ∷ es) all = pushers permits es (behind (IsPermitted permits) (Shut seat) es all)

-- what holds of all values popped holds of those that one seat popped
own_popped : (P : Taken → Type 0) (me : ℕ) (es : List Entry) → All P (popped es) → All P (popped (own_entries me es))
own_popped P me [] all = All-nil P
own_popped P me (Push seat body ∷ es) all = go (nat_eq seat me) (own_popped P me es all)
  where
    go : (b : Bool) → All P (popped (own_entries me es)) → All P (popped (cond b (Push seat body ∷ own_entries me es) (own_entries me es)))
    go true rest = rest
    go false rest = rest
own_popped P me (Shut seat ∷ es) all = go (nat_eq seat me) (own_popped P me es all)
  where
    go : (b : Bool) → All P (popped (own_entries me es)) → All P (popped (cond b (Shut seat ∷ own_entries me es) (own_entries me es)))
    go true rest = rest
    go false rest = rest
own_popped P me (Pop seat value ∷ es) all =
    go (nat_eq seat me) (front P value (popped es) all) (own_popped P me es (behind P value (popped es) all))
  where
    go : (b : Bool) → P value → All P (popped (own_entries me es)) → All P (popped (cond b (Pop seat value ∷ own_entries me es) (own_entries me es)))
    go true one rest = All-cons P value (popped (own_entries me es)) one rest
    go false one rest = rest

-- a seat took values of those who may push
taken_of-pushers : (permits : List Permit) (k : Known) → IsSound permits k → All (λ (v : Taken). MayPush permits v.from) (popped k.mine)
taken_of-pushers permits k sound =
    let P : Taken → Type 0 = λ v. MayPush permits v.from in
    let plays = pushed-Leads k.seen sound.legal.0.shut sound.legal.0.values sound.legal.1 in
    let seen : All P (popped k.seen) = first_part P (popped k.seen) sound.legal.0.values (subst (All P) plays (pushers permits k.seen sound.permitted)) in
    subst (λ es. All P (popped es)) sound.own (own_popped P k.number k.seen seen)

-- each letter delivered is of a giver
pub senders_within : {Q S : Type 0} (permits : List Permit) (known : S → Known) (n : ℕ) (r : Receiver Q S) (letters : List Letter) (r' : Receiver Q S)
    → permits ≡ givers_and_taker n → IsSound permits (known r'.seat) → Delivered known r letters r' → All (λ (l : Letter). IsWithin 1 n l.from) letters
senders_within permits known n r letters r' row sound told =
    let P : Taken → Type 0 = λ v. IsWithin 1 n v.from in
    let M : Taken → Type 0 = λ v. MayPush permits v.from in
    let all : All M told.values =
    last_part M (popped (known r.seat).mine) told.values (subst (All M) told.popped_them (taken_of-pushers permits (known r'.seat) sound)) in
    let within : All P told.values = λ k d short. giver_within n (get_or told.values k d).from (subst (λ ps. MayPush ps (get_or told.values k d).from) row (all k d short)) in
    all_before-map (IsWithin 1 n) (λ (l : Letter). l.from) letters
    (subst (All (IsWithin 1 n)) (sym told.senders) (All-map (IsWithin 1 n) (λ (v : Taken). v.from) told.values within))
