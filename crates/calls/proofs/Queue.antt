-- Of any number of callers none is left asleep, and room is exact.
use Rattle.std.proofs.Common.{◌≡◌, ℕ, zero, suc, Bool, true, false, ◌+◌, ◌≤◌, List, [], ◌∷◌, ◌++◌, map, replicate, ap, sym, refl, ◌∙◌, subst, arith}
use Rattle.std.proofs.lemmas.List.Sums.{sum_by-cons, sum_by-append}
use Rattle.std.specs.List.{sum_by}
use Rattle.calls.specs.declared.calls.Task.{Task}
use Rattle.calls.specs.declared.calls.Bell.{Bell}
use Rattle.calls.specs.declared.calls.Bell.TheVariants.{Values, Room}
use Rattle.calls.specs.declared.calls.Code.{Code}
use Rattle.calls.specs.declared.calls.Phase.{Phase}
use Rattle.calls.specs.declared.calls.Call.{Call}
use Rattle.calls.specs.Machine.{awaited_by}
use Rattle.calls.specs.Bells as one
use Rattle.calls.specs.Accesses.{Words, words, side, has_ended, held_in, values_in}
use Rattle.calls.specs.Callers.{Steps, Sleeping, Waking, Caller, caller, Does}
use Rattle.calls.specs.Stances.{bell_in, stance_to, waking}
use Rattle.calls.specs.Queues as q
use Rattle.calls.specs.Queues.{IsBell, RousedAt, Queue, Moves, IsReached, idle, seen_by, in_hand, IsExact, Fits}
use Rattle.calls.proofs.Sound.{Sound, SoundAt, Dues, dues, Others, call_of, others, sleeping, slept, pushes, pops, ringing, finished, waking_first, waking_last, for_room}
use Rattle.calls.proofs.Kept.{AreKeptAt, step_keeps, wake_keeps, wake_all_keeps, left_at, kept_none_asleep, kept_watched}
use Rattle.calls.proofs.Paths.{Path, still, then_on}
use Rattle.calls.proofs.Goes.{Goes, goes}

-- each of these comes to be
data Each : List Caller → Type 0 where
  each_none : Each []
  each_more : {x : Caller} {xs : List Caller} → Sound x → Each xs → Each (x ∷ xs)

one_of : (xs ys : List Caller) (x : Caller) → Each (xs ++ x ∷ ys) → Sound x
one_of [] ys x (each_more s more) = s
one_of (z ∷ zs) ys x (each_more s more) = one_of zs ys x more

put_in : (xs ys : List Caller) (x x' : Caller) → Each (xs ++ x ∷ ys) → Sound x' → Each (xs ++ x' ∷ ys)
put_in [] ys x x' (each_more s more) new = each_more new more
put_in (z ∷ zs) ys x x' (each_more s more) new = each_more s (put_in zs ys x x' more new)

map_apart : (f : Caller → one.Stance) (xs ys : List Caller) (x : Caller) → map f (xs ++ x ∷ ys) ≡ map f xs ++ f x ∷ map f ys
map_apart f [] ys x = refl
map_apart f (z ∷ zs) ys x = ap (λ l. f z ∷ l) (map_apart f zs ys x)

-- some steps keep what holds at a bell
path_keeps : (xs ys : List one.Stance) {b b' : one.Bell} {c c' : one.Stance} → Path b c b' c' → AreKeptAt b (xs ++ c ∷ ys)
    → AreKeptAt b' (xs ++ c' ∷ ys)
path_keeps xs ys still k = k
path_keeps xs ys (then_on step more) k = path_keeps xs ys more (step_keeps xs ys step k)

at_bell : (b : Bell) (w w' : Words) (xs ys : List Caller) (x x' : Caller) → Path (bell_in b w) (stance_to b x) (bell_in b w') (stance_to b x')
    → AreKeptAt (bell_in b w) (map (stance_to b) (xs ++ x ∷ ys)) → AreKeptAt (bell_in b w') (map (stance_to b) (xs ++ x' ∷ ys))
at_bell b w w' xs ys x x' path k =
    subst (AreKeptAt (bell_in b w')) (sym (map_apart (stance_to b) xs ys x'))
    (path_keeps (map (stance_to b) xs) (map (stance_to b) ys) path
    (subst (AreKeptAt (bell_in b w)) (map_apart (stance_to b) xs ys x) k))

-- what holds of a queue: each caller comes to be, and at each bell what holds there
record IsFine (w : Words) (cs : List Caller) : Type 0 where
  each : Each cs
  at : (b : Bell) → AreKeptAt (bell_in b w) (map (stance_to b) cs)

path_at : {w w' : Words} {x x' : Caller} → Goes w x w' x' → (b : Bell) → Path (bell_in b w) (stance_to b x) (bell_in b w') (stance_to b x')
path_at g Values = g.values
path_at g Room = g.room

does_keeps : {w w' : Words} {x x' : Caller} (xs ys : List Caller) → Does w x w' x' → IsFine w (xs ++ x ∷ ys) → IsFine w' (xs ++ x' ∷ ys)
does_keeps {w = w} {w' = w'} {x = x} {x' = x'} xs ys d fine =
    let g : Goes w x w' x' = goes d (one_of xs ys x fine.each) in
    record {
      each = put_in xs ys x x' fine.each g.sound;
      at = λ b. at_bell b w w' xs ys x x' (path_at g b) (fine.at b);
    }

-- the other bell
abbrev other : Bell → Bell
other Values = Room
other Room = Values

-- a caller that slept for a bell
is_roused : {t : Task} {p n : Phase} {v r a w : Bool} (o : Others) (h : ℕ) (b : Bell) {k : ℕ} {cs ds : List one.Stance}
    → SoundAt t p n (dues v r a) w Sleeping → IsBell b (awaited_by t) → one.Roused k cs ds
    → one.Roused (suc k) (stance_to b (caller (call_of t p n v r a w o) h Sleeping) ∷ cs)
    (stance_to b (caller (call_of t p n v r a w o) h Steps) ∷ ds)
is_roused o h Values (sleeping pops) is more = one.this_one more
is_roused o h Room (sleeping pushes) is more = one.this_one more
is_roused o h Values (sleeping pushes) is more = elim is [ ]
is_roused o h Room (sleeping pops) is more = elim is [ ]

is_same : {t : Task} {p n : Phase} {v r a w : Bool} (o : Others) (h : ℕ) (b : Bell)
    → SoundAt t p n (dues v r a) w Sleeping → IsBell b (awaited_by t)
    → stance_to (other b) (caller (call_of t p n v r a w o) h Steps) ≡ stance_to (other b) (caller (call_of t p n v r a w o) h Sleeping)
is_same o h Values (sleeping pops) is = refl
is_same o h Room (sleeping pushes) is = refl
is_same o h Values (sleeping pushes) is = elim is [ ]
is_same o h Room (sleeping pops) is = elim is [ ]

-- a caller that has to wake
is_away : {t : Task} {p n : Phase} {v r a w : Bool} (o : Others) (h : ℕ) (b : Bell) {all : Bool} → SoundAt t p n (dues v r a) w (Waking b all)
    → stance_to b (caller (call_of t p n v r a w o) h Steps) ≡ one.Away
is_away o h Values (waking_first all) = refl
is_away o h Values (waking_last Values all) = refl
is_away o h Room (waking_last Room all) = refl

is_beside : {t : Task} {p n : Phase} {v r a w : Bool} (o : Others) (h : ℕ) (b : Bell) {all : Bool} → SoundAt t p n (dues v r a) w (Waking b all)
    → stance_to (other b) (caller (call_of t p n v r a w o) h Steps)
    ≡ stance_to (other b) (caller (call_of t p n v r a w o) h (Waking b all))
is_beside o h Values (waking_first all) = refl
is_beside o h Values (waking_last Values all) = refl
is_beside o h Room (waking_last Room all) = refl

slept_of : {t : Task} {p n : Phase} {d : Dues} {w : Bool} → SoundAt t p n d w Sleeping → SoundAt t p n d w Steps
slept_of (sleeping who) = slept who

woke_of : {t : Task} {p n : Phase} {d : Dues} {w all : Bool} {b : Bell} → SoundAt t p n d w (Waking b all) → SoundAt t p n d w Steps
woke_of (waking_first all) = ringing (for_room all)
woke_of (waking_last b all) = finished

-- who was roused
roused_each : {b : Bell} {n : ℕ} {cs ds : List Caller} → RousedAt b n cs ds → Each cs → Each ds
roused_each q.none_more each = each_none
roused_each (q.this_caller is more) (each_more s rest) = each_more (slept_of s) (roused_each more rest)
roused_each (q.not_this_caller x more) (each_more s rest) = each_more s (roused_each more rest)

roused_at : (b : Bell) {n : ℕ} {cs ds : List Caller} → RousedAt b n cs ds → Each cs → one.Roused n (map (stance_to b) cs) (map (stance_to b) ds)
roused_at b q.none_more each = one.nobody_more
roused_at b (q.this_caller {c = c} {h = h} is more) (each_more s rest) = is_roused (others c) h b s is (roused_at b more rest)
roused_at b (q.not_this_caller x more) (each_more s rest) = one.not_this_one (stance_to b x) (roused_at b more rest)

same_at : (b : Bell) {n : ℕ} {cs ds : List Caller} → RousedAt b n cs ds → Each cs → map (stance_to (other b)) ds ≡ map (stance_to (other b)) cs
same_at b q.none_more each = refl
same_at b (q.this_caller {cs = cs} {c = c} {h = h} is more) (each_more s rest) =
    ap (λ l. stance_to (other b) (caller c h Steps) ∷ l) (same_at b more rest)
    ∙ ap (λ z. z ∷ map (stance_to (other b)) cs) (is_same (others c) h b s is)
same_at b (q.not_this_caller x more) (each_more s rest) = ap (λ l. stance_to (other b) x ∷ l) (same_at b more rest)

-- a list of stances with one in it
with_one : (f : Caller → one.Stance) (xs ys : List Caller) (x : Caller) (s : one.Stance) → f x ≡ s → map f (xs ++ x ∷ ys) ≡ map f xs ++ s ∷ map f ys
with_one f xs ys x s e = map_apart f xs ys x ∙ ap (λ z. map f xs ++ z ∷ map f ys) e

-- a caller that has to wake stands so to its bell
is_waking : (b : Bell) (all : Bool) (c : Call) (h : ℕ) → stance_to b (caller c h (Waking b all)) ≡ waking all
is_waking Values all c h = refl
is_waking Room all c h = refl

module _ (w : Words) (c : Call) (h : ℕ) (b : Bell) (all : Bool) (n : ℕ) (xs ys ds : List Caller)
    (who : RousedAt b n (xs ++ caller c h Steps ∷ ys) ds) (fine : IsFine w (xs ++ caller c h (Waking b all) ∷ ys)) where
  its_sound : Sound (caller c h (Waking b all))
  its_sound = one_of xs ys (caller c h (Waking b all)) fine.each

  each_now : Each (xs ++ caller c h Steps ∷ ys)
  each_now = put_in xs ys (caller c h (Waking b all)) (caller c h Steps) fine.each (woke_of its_sound)

  -- at its own bell
  roused_now : one.Roused n (map (stance_to b) xs ++ one.Away ∷ map (stance_to b) ys) (map (stance_to b) ds)
  roused_now = subst (λ l. one.Roused n l (map (stance_to b) ds)) (with_one (stance_to b) xs ys (caller c h Steps) one.Away (is_away (others c) h b its_sound)) (roused_at b who each_now)

  kept_now : AreKeptAt (bell_in b w) (map (stance_to b) xs ++ waking all ∷ map (stance_to b) ys)
  kept_now = subst (AreKeptAt (bell_in b w)) (with_one (stance_to b) xs ys (caller c h (Waking b all)) (waking all) (is_waking b all c h)) (fine.at b)

  -- at the other one
  kept_beside : AreKeptAt (bell_in (other b) w) (map (stance_to (other b)) ds)
  kept_beside = subst (AreKeptAt (bell_in (other b) w))
      (map_apart (stance_to (other b)) xs ys (caller c h (Waking b all))
      ∙ sym (with_one (stance_to (other b)) xs ys (caller c h Steps) (stance_to (other b) (caller c h (Waking b all))) (is_beside (others c) h b its_sound))
      ∙ sym (same_at b who each_now))
      (fine.at (other b))

-- at both bells
at_both : (w : Words) (ds : List Caller) (b : Bell) → AreKeptAt (bell_in b w) (map (stance_to b) ds) → AreKeptAt (bell_in (other b) w) (map (stance_to (other b)) ds)
    → (b' : Bell) → AreKeptAt (bell_in b' w) (map (stance_to b') ds)
at_both w ds Values k j Values = k
at_both w ds Values k j Room = j
at_both w ds Room k j Values = j
at_both w ds Room k j Room = k

-- a side has one end more, or one that listens
joined : {w w' : Words} {cs : List Caller} → ((b : Bell) → bell_in b w ≡ bell_in b w') → IsFine w cs → IsFine w' cs
joined {cs = cs} same fine = record {
  each = fine.each;
  at = λ b. subst (λ z. AreKeptAt z (map (stance_to b) cs)) (same b) (fine.at b);
}

same_bells : (w w' : Words) → bell_in Values w ≡ bell_in Values w' → bell_in Room w ≡ bell_in Room w' → (b : Bell) → bell_in b w ≡ bell_in b w'
same_bells w w' p r Values = p
same_bells w w' p r Room = r

-- each move keeps it
moves_keep : {u u' : Queue} → Moves u u' → IsFine u.at u.callers → IsFine u'.at u'.callers
moves_keep (q.does before after d) fine = does_keeps before after d fine
moves_keep (q.wakes_one {w = w} {ds = ds} c h b n before after who enough) fine = record {
  each = roused_each who (each_now w c h b false n before after ds who fine);
  at = at_both w ds b
      (wake_keeps (bell_in b w) 1 n (map (stance_to b) before) (map (stance_to b) after) (map (stance_to b) ds)
      (roused_now w c h b false n before after ds who fine) enough (kept_now w c h b false n before after ds who fine))
      (kept_beside w c h b false n before after ds who fine);
}
moves_keep (q.wakes_all {w = w} {ds = ds} c h b n before after who none) fine = record {
  each = roused_each who (each_now w c h b true n before after ds who fine);
  at = at_both w ds b
      (wake_all_keeps (bell_in b w) n (map (stance_to b) before) (map (stance_to b) after) (map (stance_to b) ds)
      (roused_now w c h b true n before after ds who fine) none (kept_now w c h b true n before after ds who fine))
      (kept_beside w c h b true n before after ds who fine);
}
moves_keep (q.sender_joins {s = s} {o = o} {v = v} {r = r} {l = l} {n = n} {b = b} cs) fine =
    joined (same_bells (words (side v r l (suc n)) b s o) (words (side v r l (suc (suc n))) b s o) refl refl) fine
moves_keep (q.receiver_joins {s = s} {o = o} {m = m} {r = r} {l = l} {n = n} {a = a} cs) fine =
    joined (same_bells (words a (side m r l (suc n)) s o) (words a (side m r l (suc (suc n))) s o) refl refl) fine
moves_keep (q.watches_values {s = s} {o = o} {v = v} {r = r} {l = l} {n = n} {b = b} cs) fine = record {
  each = fine.each;
  at = at_both (words (side v r (suc l) n) b s o) cs Values (kept_watched r l v (has_ended o n) (map (stance_to Values) cs) (fine.at Values)) (fine.at Room);
}
moves_keep (q.watches_room {s = s} {o = o} {m = m} {r = r} {l = l} {n = n} {a = a} cs) fine = record {
  each = fine.each;
  at = at_both (words a (side m r (suc l) n) s o) cs Room (kept_watched r l m (has_ended o n) (map (stance_to Room) cs) (fine.at Room)) (fine.at Values);
}

-- and so it holds of all that is reached
idle_each : (n : ℕ) → Each (replicate n idle)
idle_each zero = each_none
idle_each (suc n) = each_more finished (idle_each n)

idle_all : (b : Bell) (n : ℕ) → map (stance_to b) (replicate n idle) ≡ replicate n one.Away
idle_all b zero = refl
idle_all Values (suc n) = ap (λ l. one.Away ∷ l) (idle_all Values n)
idle_all Room (suc n) = ap (λ l. one.Away ∷ l) (idle_all Room n)

fine_always : {capacity : ℕ} {u : Queue} → IsReached capacity u → IsFine u.at u.callers
fine_always (q.first v m s o n k count all) = record {
  each = idle_each count;
  at = at_both (words (side v 0 0 n) (side m 0 0 k) s o) (replicate count idle) Values
      (subst (AreKeptAt (one.bell 0 0 v (has_ended o n))) (sym (idle_all Values count)) (kept_none_asleep v (has_ended o n) count))
      (subst (AreKeptAt (one.bell 0 0 m (has_ended o k))) (sym (idle_all Room count)) (kept_none_asleep m (has_ended o k) count));
}
fine_always (q.next before move) = moves_keep move (fine_always before)

-- nobody sleeps for a value beside one, and nobody for room beside room, and neither beside an end, without somebody on its way
pub no_call_is_left : {capacity : ℕ} {u : Queue} (b : Bell) → IsReached capacity u → one.NobodyIsLeft (seen_by b u)
no_call_is_left {u = u} b reached = left_at (bell_in b u.at) (map (stance_to b) u.callers) ((fine_always reached).at b)

-- what callers have in hand, of whom one is another one
hands_apart : (xs ys : List Caller) (x : Caller) → sum_by in_hand (xs ++ x ∷ ys) ≡ sum_by in_hand xs + (in_hand x + sum_by in_hand ys)
hands_apart xs ys x = omega (arith, sum_by-append in_hand xs (x ∷ ys), sum_by-cons in_hand x ys)

hands_same : {b : Bell} {n : ℕ} {cs ds : List Caller} → RousedAt b n cs ds → sum_by in_hand ds ≡ sum_by in_hand cs
hands_same q.none_more = refl
hands_same (q.this_caller {cs = cs} {ds = ds} {c = c} {h = h} is more) =
    omega (arith, hands_same more, sum_by-cons in_hand (caller c h Sleeping) cs, sum_by-cons in_hand (caller c h Steps) ds)
hands_same (q.not_this_caller {cs = cs} {ds = ds} x more) = omega (arith, hands_same more, sum_by-cons in_hand x cs, sum_by-cons in_hand x ds)

hands_move : {u u' : Queue} → Moves u u' → IsFine u.at u.callers → held_in u'.at + sum_by in_hand u'.callers ≡ held_in u.at + sum_by in_hand u.callers
hands_move (q.does {x = x} {x' = x'} before after d) fine =
    omega (arith, (goes d (one_of before after x fine.each)).places, hands_apart before after x, hands_apart before after x')
hands_move (q.wakes_one c h b n before after who enough) fine =
    omega (arith, hands_same who, hands_apart before after (caller c h Steps), hands_apart before after (caller c h (Waking b false)))
hands_move (q.wakes_all c h b n before after who none) fine =
    omega (arith, hands_same who, hands_apart before after (caller c h Steps), hands_apart before after (caller c h (Waking b true)))
hands_move (q.sender_joins cs) fine = refl
hands_move (q.receiver_joins cs) fine = refl
hands_move (q.watches_values cs) fine = refl
hands_move (q.watches_room cs) fine = refl

idle_hands : (n : ℕ) → sum_by in_hand (replicate n idle) ≡ 0
idle_hands zero = refl
idle_hands (suc n) = omega (arith, idle_hands n, sum_by-cons in_hand idle (replicate n idle))

-- values, room, and the places in the hands of calls are the capacity together
pub room_is_exact : {capacity : ℕ} {u : Queue} → IsReached capacity u → IsExact capacity u
room_is_exact (q.first v m s o n k count all) = omega (arith, all, idle_hands count)
room_is_exact (q.next before move) = omega (arith, room_is_exact before, hands_move move (fine_always before))

-- so there are never more values than the capacity
pub no_more_than_room : {capacity : ℕ} {u : Queue} → IsReached capacity u → Fits capacity u
no_more_than_room {capacity = capacity} {u = u} reached = fits u.at (sum_by in_hand u.callers) (room_is_exact reached)
  where
    fits : (w : Words) (hands : ℕ) → held_in w + hands ≡ capacity → values_in w ≤ capacity
    fits (words (side v r l n) (side m r' l' n') s o) hands all = omega (arith, all)
