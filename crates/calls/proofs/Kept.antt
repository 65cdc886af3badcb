-- What holds of one bell and any number of calls at each moment, and that each move keeps it.
use Rattle.std.proofs.Common.{◌≡◌, ℕ, zero, suc, ◌+◌, ◌<◌, ◌≤◌, Bool, true, false, cond, nat_eq, nat_lt, List, [], ◌∷◌, ◌++◌, replicate, ◌⊎◌, inl, inr, sym, refl, subst, arith, eq-zero-or-pos}
use Rattle.std.proofs.lemmas.Bool.Decides.{nat_tests}
use Rattle.std.proofs.lemmas.List.Sums.{sum_by-cons, sum_by-append}
use Rattle.std.specs.List.{sum_by}
use Rattle.calls.specs.Bells.{Stance, Away, Wakes, Wakes_all, Hears, Saw, Sleeps, Asleep, Slept, Bell, bell, Step, nobody, nobody_at_end, adds, adds_at_end, hears, sleeps, stays_awake, finds_none, drops_told, Roused, nobody_more, this_one, not_this_one, counted, asleep, owed, ringing, owed_all, ringing_all, awake, State, Move, steps, wakes, wakes_all, Reached, begins, goes_on, on_the_way, NoneIsLeft, NobodyIsLeft}

-- 1 if a fact holds
abbrev pub one_if : Bool → ℕ
one_if b = cond b 1 0

-- counts a call that heard the last ring and is told to sleep; that, or has seen no end; and one that heard more rings than there were
abbrev pub drowsy : (rings : ℕ) → Stance → ℕ
drowsy r (Sleeps h) = one_if (nat_eq h r)
drowsy r _ = 0

abbrev pub looking : (rings : ℕ) → Stance → ℕ
looking r (Saw h) = one_if (nat_eq h r)
looking r (Sleeps h) = one_if (nat_eq h r)
looking r _ = 0

abbrev pub ahead : (rings : ℕ) → Stance → ℕ
ahead r (Hears h) = one_if (nat_lt r h)
ahead r (Saw h) = one_if (nat_lt r h)
ahead r (Sleeps h) = one_if (nat_lt r h)
ahead r _ = 0

-- a count of all calls, by what counts one
abbrev pub Tally : Type 0
Tally = (Stance → ℕ) → ℕ

-- what holds: all that are counted listen, and nobody heard more than there were rings. Beside an end, who saw none and heard the last
-- ring is owed a ring for all, and who sleeps that or a wake. Who is told to sleep and heard the last ring is owed a ring for each unit,
-- and who sleeps a ring, a wake or somebody awake for each.
pub record IsKept (r l u : ℕ) (e : Bool) (all : Tally) : Type 0 where
  pub listeners : all counted ≤ l
  pub heard : all (ahead r) ≡ 0
  pub looks : 0 < one_if e → 0 < all (looking r) → 0 < all owed_all
  pub sleeps_at_end : 0 < one_if e → 0 < all asleep → 0 < all owed_all + all ringing_all
  pub drowses : 0 < all (drowsy r) → all owed_all ≡ 0 → u ≤ all owed
  pub sleeps_on : 0 < all asleep → all owed_all + all ringing_all ≡ 0 → u ≤ all owed + all ringing + all (awake r)

-- what holds of these calls at this bell
abbrev pub AreKeptAt : Bell → List Stance → Type 0
AreKeptAt (bell r l u e) cs = IsKept r l u e (λ f. sum_by f cs)

-- a count of these calls and one more
abbrev with_one : List Stance → Stance → Tally
with_one cs c f = sum_by f cs + f c

-- what is so of the counts of any calls
record IsTally (r : ℕ) (rest : Tally) : Type 0 where
  drowsy_are_counted : rest (drowsy r) ≤ rest counted
  looking_are_counted : rest (looking r) ≤ rest counted
  sleepers_are_counted : rest asleep ≤ rest counted
  next_drowsy : rest (drowsy (suc r)) ≤ rest (ahead r)
  next_looking : rest (looking (suc r)) ≤ rest (ahead r)
  next_ahead : rest (ahead (suc r)) ≤ rest (ahead r)
  next_awake : rest (awake r) ≤ rest (awake (suc r)) + rest (ahead r)

one_at_most : (b : Bool) → one_if b ≤ 1
one_at_most true = omega arith
one_at_most false = omega arith

next_is_ahead : (r h : ℕ) → one_if (nat_eq h (suc r)) ≤ one_if (nat_lt r h)
next_is_ahead r h = grind (arith, nat_tests)

less_ahead : (r h : ℕ) → one_if (nat_lt (suc r) h) ≤ one_if (nat_lt r h)
less_ahead r h = grind (arith, nat_tests)

still_awake : (r h : ℕ) → cond (nat_eq h r) 0 1 ≤ cond (nat_eq h (suc r)) 0 1 + one_if (nat_lt r h)
still_awake r h = grind (arith, nat_tests)

now_is_now : (r : ℕ) → one_if (nat_eq r r) ≡ 1
now_is_now r = grind (arith, nat_tests)

now_is_not_ahead : (r : ℕ) → one_if (nat_lt r r) ≡ 0
now_is_not_ahead r = grind (arith, nat_tests)

awake_at_most : (b : Bool) → cond b 0 1 ≤ 1
awake_at_most true = omega arith
awake_at_most false = omega arith

-- the same of one call
abbrev of_one : Stance → Tally
of_one c f = f c

one_is_tally : (r : ℕ) (c : Stance) → IsTally r (of_one c)
one_is_tally r (Saw h) = omega (arith, one_at_most (nat_eq h r), next_is_ahead r h, less_ahead r h)
one_is_tally r (Hears h) = omega (arith, less_ahead r h)
one_is_tally r (Sleeps h) = omega (arith, one_at_most (nat_eq h r), next_is_ahead r h, less_ahead r h, still_awake r h)
one_is_tally r c = omega arith

-- a count of a list with an item more
abbrev and_one : Stance → List Stance → Tally
and_one c cs f = f c + sum_by f cs

same_tally : {r : ℕ} {a b : Tally} → ((f : Stance → ℕ) → a f ≡ b f) → IsTally r a → IsTally r b
same_tally {r = r} same k =
    omega (
      arith,
      k,
      same (drowsy r),
      same (looking r),
      same asleep,
      same counted,
      same (drowsy (suc r)),
      same (ahead r),
      same (looking (suc r)),
      same (ahead (suc r)),
      same (awake r),
      same (awake (suc r)),
    )

are_tally : (r : ℕ) (cs : List Stance) → IsTally r (λ f. sum_by f cs)
are_tally r [] = omega arith
are_tally r (c ∷ cs) = same_tally {a = and_one c cs} (λ f. sym (sum_by-cons f c cs)) (omega (arith, one_is_tally r c, are_tally r cs))

-- what holds by the same counts
same_kept : {r l u : ℕ} {e : Bool} {a b : Tally} → ((f : Stance → ℕ) → a f ≡ b f) → IsKept r l u e a → IsKept r l u e b
same_kept {r = r} same k =
    omega (
      arith,
      k,
      same counted,
      same (ahead r),
      same (looking r),
      same owed_all,
      same asleep,
      same ringing_all,
      same (drowsy r),
      same owed,
      same ringing,
      same (awake r),
    )

-- a sum, with one call told apart
apart : (xs ys : List Stance) (c : Stance) (f : Stance → ℕ) → sum_by f (xs ++ c ∷ ys) ≡ sum_by f (xs ++ ys) + f c
apart xs ys c f = omega (arith, sum_by-append f xs (c ∷ ys), sum_by-cons f c ys, sum_by-append f xs ys)

-- each step of a call keeps it, whatever the others are
one_keeps : {r l u r' l' u' : ℕ} {e e' : Bool} {c c' : Stance} (rest : Tally) → IsTally r rest → Step (bell r l u e) c (bell r' l' u' e') c'
    → IsKept r l u e (λ f. rest f + f c) → IsKept r' l' u' e' (λ f. rest f + f c')
one_keeps {r = r} rest t hears k = omega (arith, k, t, now_is_not_ahead r)
one_keeps {r = r} rest t sleeps k = omega (arith, k, t, now_is_now r)
one_keeps {r = r} rest t (stays_awake h) k = omega (arith, k, t, awake_at_most (nat_eq h r))
one_keeps {r = r} rest t (drops_told h) k = omega (arith, k, t, awake_at_most (nat_eq h r))
one_keeps rest t step k = omega (arith, k, t)

-- each step of a call keeps it
pub step_keeps : (xs ys : List Stance) {b b' : Bell} {c c' : Stance} → Step b c b' c' → AreKeptAt b (xs ++ c ∷ ys) → AreKeptAt b' (xs ++ c' ∷ ys)
step_keeps xs ys {b = bell r l u e} {b' = bell r' l' u' e'} {c = c} {c' = c'} step k =
    same_kept (λ f. sym (apart xs ys c' f))
    (one_keeps (λ f. sum_by f (xs ++ ys)) (are_tally r (xs ++ ys)) step (same_kept (apart xs ys c) k))

-- who was roused: so many less sleep, so many more are awake, and no other count differs
roused_same : (f : Stance → ℕ) → f Asleep ≡ f Slept → {n : ℕ} {cs ds : List Stance} → Roused n cs ds → sum_by f ds ≡ sum_by f cs
roused_same f e nobody_more = refl
roused_same f e (this_one {cs = cs} {ds = ds} more) = omega (arith, e, roused_same f e more, sum_by-cons f Asleep cs, sum_by-cons f Slept ds)
roused_same f e (not_this_one {cs = cs} {ds = ds} c more) = omega (arith, roused_same f e more, sum_by-cons f c cs, sum_by-cons f c ds)

roused_asleep : {n : ℕ} {cs ds : List Stance} → Roused n cs ds → sum_by asleep cs ≡ n + sum_by asleep ds
roused_asleep nobody_more = omega arith
roused_asleep (this_one {cs = cs} {ds = ds} more) = omega (arith, roused_asleep more, sum_by-cons asleep Asleep cs, sum_by-cons asleep Slept ds)
roused_asleep (not_this_one {cs = cs} {ds = ds} c more) = omega (arith, roused_asleep more, sum_by-cons asleep c cs, sum_by-cons asleep c ds)

roused_awake : (r : ℕ) {n : ℕ} {cs ds : List Stance} → Roused n cs ds → sum_by (awake r) ds ≡ n + sum_by (awake r) cs
roused_awake r nobody_more = omega arith
roused_awake r (this_one {cs = cs} {ds = ds} more) = omega (arith, roused_awake r more, sum_by-cons (awake r) Asleep cs, sum_by-cons (awake r) Slept ds)
roused_awake r (not_this_one {cs = cs} {ds = ds} c more) = omega (arith, roused_awake r more, sum_by-cons (awake r) c cs, sum_by-cons (awake r) c ds)

-- what a wake leaves of each count
record IsWake (r n : ℕ) (before after : Tally) : Type 0 where
  counted_same : after counted ≡ before counted
  owed_same : after owed ≡ before owed
  ringing_same : after ringing ≡ before ringing
  owed_all_same : after owed_all ≡ before owed_all
  ringing_all_same : after ringing_all ≡ before ringing_all
  drowsy_same : after (drowsy r) ≡ before (drowsy r)
  looking_same : after (looking r) ≡ before (looking r)
  ahead_same : after (ahead r) ≡ before (ahead r)
  less_asleep : before asleep ≡ n + after asleep
  more_awake : after (awake r) ≡ n + before (awake r)

is_wake : (r : ℕ) {n : ℕ} {cs ds : List Stance} → Roused n cs ds → IsWake r n (λ f. sum_by f cs) (λ f. sum_by f ds)
is_wake r who = record {
  counted_same = roused_same counted refl who;
  owed_same = roused_same owed refl who;
  ringing_same = roused_same ringing refl who;
  owed_all_same = roused_same owed_all refl who;
  ringing_all_same = roused_same ringing_all refl who;
  drowsy_same = roused_same (drowsy r) refl who;
  looking_same = roused_same (looking r) refl who;
  ahead_same = roused_same (ahead r) refl who;
  less_asleep = roused_asleep who;
  more_awake = roused_awake r who;
}

-- a wake keeps it: of as many as it rang for, or of all that sleep
some_woken : {r l u n : ℕ} {e : Bool} {before after : Tally} (rest : Tally) → ((f : Stance → ℕ) → before f ≡ rest f + f Away) → IsWake r n before after
    → IsKept r l u e (λ f. rest f + f (Wakes n)) → IsKept r l u e after
some_woken {r = r} rest same who k =
    omega (
      arith,
      k,
      who,
      same counted,
      same (ahead r),
      same (looking r),
      same owed_all,
      same asleep,
      same ringing_all,
      same (drowsy r),
      same owed,
      same ringing,
      same (awake r),
    )

all_woken : {r l u n : ℕ} {e : Bool} {before after : Tally} (c : Stance) (rest : Tally) → ((f : Stance → ℕ) → before f ≡ rest f + f Away) → IsWake r n before after
    → counted c ≡ 0 → owed c ≡ 0 → owed_all c ≡ 0 → awake r c ≡ 0 → drowsy r c ≡ 0 → looking r c ≡ 0 → ahead r c ≡ 0
    → asleep c ≡ 0 → after asleep ≡ 0
    → IsKept r l u e (λ f. rest f + f c) → IsKept r l u e after
all_woken {r = r} c rest same who e0 e1 e2 e3 e4 e5 e6 e7 none k =
    omega (
      arith,
      k,
      who,
      same counted,
      same (ahead r),
      same (looking r),
      same owed_all,
      same asleep,
      same ringing_all,
      same (drowsy r),
      same owed,
      same ringing,
      same (awake r),
    )

pub wake_keeps : (b : Bell) (k n : ℕ) (xs ys ds : List Stance) → Roused n (xs ++ Away ∷ ys) ds → (n ≡ k) ⊎ (sum_by asleep ds ≡ 0)
    → AreKeptAt b (xs ++ Wakes k ∷ ys) → AreKeptAt b ds
wake_keeps (bell r l u e) k n xs ys ds who (inl so) kept =
    some_woken (λ f. sum_by f (xs ++ ys)) (apart xs ys Away) (is_wake r who)
    (same_kept (apart xs ys (Wakes n)) (subst (λ m. IsKept r l u e (λ f. sum_by f (xs ++ Wakes m ∷ ys))) (sym so) kept))
wake_keeps (bell r l u e) k n xs ys ds who (inr none) kept =
    all_woken (Wakes k) (λ f. sum_by f (xs ++ ys)) (apart xs ys Away) (is_wake r who) refl refl refl refl refl refl refl refl none
    (same_kept (apart xs ys (Wakes k)) kept)

pub wake_all_keeps : (b : Bell) (n : ℕ) (xs ys ds : List Stance) → Roused n (xs ++ Away ∷ ys) ds → sum_by asleep ds ≡ 0
    → AreKeptAt b (xs ++ Wakes_all ∷ ys) → AreKeptAt b ds
wake_all_keeps (bell r l u e) n xs ys ds who none kept =
    all_woken Wakes_all (λ f. sum_by f (xs ++ ys)) (apart xs ys Away) (is_wake r who) refl refl refl refl refl refl refl refl none
    (same_kept (apart xs ys Wakes_all) kept)

-- each move keeps it
move_keeps : {s s' : State} → Move s s' → AreKeptAt s.at s.calls → AreKeptAt s'.at s'.calls
move_keeps (steps before after step) kept = step_keeps before after step kept
move_keeps (wakes {b = b} {ds = ds} k n before after who enough) kept = wake_keeps b k n before after ds who enough kept
move_keeps (wakes_all {b = b} {ds = ds} n before after who none) kept = wake_all_keeps b n before after ds who none kept

-- calls that are all away count nothing
none_of : (f : Stance → ℕ) → f Away ≡ 0 → (n : ℕ) → sum_by f (replicate n Away) ≡ 0
none_of f none zero = refl
none_of f none (suc n) = omega (arith, none, none_of f none n, sum_by-cons f Away (replicate n Away))

pub kept_none_asleep : (u : ℕ) (e : Bool) (n : ℕ) → AreKeptAt (bell 0 0 u e) (replicate n Away)
kept_none_asleep u e n = omega (arith, none_of counted refl n, none_of (ahead 0) refl n, none_of (looking 0) refl n, none_of asleep refl n, none_of (drowsy 0) refl n)

-- one that listens and is no call, as a descriptor that is polled
pub kept_watched : (r l u : ℕ) (e : Bool) (cs : List Stance) → AreKeptAt (bell r l u e) cs → AreKeptAt (bell r (suc l) u e) cs
kept_watched r l u e cs kept = omega (arith, kept)

always : {s : State} → Reached s → AreKeptAt s.at s.calls
always (begins units n) = kept_none_asleep units false n
always (goes_on reached move) = move_keeps move (always reached)

-- nobody sleeps beside a unit, or an end, without somebody on its way to ring, to wake, or to look
left_alone : (r l u : ℕ) (e : Bool) (cs : List Stance) → IsKept r l u e (λ f. sum_by f cs) → 0 < sum_by asleep cs
    → (0 < u) ⊎ (0 < one_if e) → 0 < on_the_way r cs
left_alone r l u e cs k sleeper (inr end) = omega (arith, k.sleeps_at_end end sleeper)
left_alone r l u e cs k sleeper (inl some) = go (eq-zero-or-pos (sum_by owed_all cs + sum_by ringing_all cs))
  where
    go : (sum_by owed_all cs + sum_by ringing_all cs ≡ 0) ⊎ (0 < sum_by owed_all cs + sum_by ringing_all cs) → 0 < on_the_way r cs
    go (inl none) = omega (arith, some, k.sleeps_on sleeper none)
    go (inr few) = omega (arith, few)

is_one : {e : Bool} → e ≡ true → 0 < one_if e
is_one same = subst (λ b. 0 < one_if b) (sym same) (omega arith)

-- the same of a unit or an end
beside : {u : ℕ} {e : Bool} → (0 < u) ⊎ (e ≡ true) → (0 < u) ⊎ (0 < one_if e)
beside (inl some) = inl some
beside (inr end) = inr (is_one end)

pub left_at : (b : Bell) (cs : List Stance) → AreKeptAt b cs → NoneIsLeft b cs
left_at (bell r l u e) cs k = λ sleeper which. left_alone r l u e cs k sleeper (beside which)

pub nobody_is_left : {s : State} → Reached s → NobodyIsLeft s
nobody_is_left {s = s} reached = left_at s.at s.calls (always reached)
