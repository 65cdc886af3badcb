-- Each number that was pushed is answered once, or left, once the queue is closed by all its seats.
use Rattle.std.proofs.Common.{◌≡◌, ◌∙◌, ◌≢◌, ◌+◌, ◌<◌, ◌≤◌, inl, inr, sym, refl, ap, subst, ℕ, zero, suc, Bool, false, cond, nat_eq, eq-eqb, ne_eqb}
use Rattle.std.proofs.Common.{List, [], ◌∷◌, ◌++◌, map, length, Option, Some, None, IsSomeAnd, slice_get, append-nil, eq-or-lt_of_le, arith}
use Rattle.std.specs.List.{All, AllZip, count_by, sum_by}
use mathlib.Core.List.{IsPrefix}
use Rattle.std.proofs.lemmas.List.{map-append}
use Rattle.std.proofs.lemmas.List.Elements.{All-head, All-tail}
use Rattle.std.proofs.lemmas.Option.{same_Some}
use Rattle.std.proofs.lemmas.List.Sums.{sum_by-cons, sum_by-append, sum_by_push}
use Rattle.std.proofs.lemmas.Grind.{flat_map-append}
use Rattle.history.specs.declared.operations.Entry.{Entry}
use Rattle.history.specs.declared.operations.Entry.TheVariants.{Push, Pop, Shut}
use Rattle.history.specs.declared.operations.Taken.{Taken}
use Rattle.history.specs.declared.refusals.Refusal.{Refusal}
use Rattle.history.specs.declared.refusals.Refusal.TheVariants.{Closed, Stranger, WornOut}
use Rattle.history.specs.declared.refusals.WornWord.TheVariants.{Tail as OfTail}
use Rattle.history.specs.declared.rests.Rest.{Rest}
use Rattle.history.specs.Rests.{left_of, was_shut_of}
use Rattle.history.specs.Queue.{Queue, empty}
use Rattle.history.specs.Entries.{own_entries, Plays}
use Rattle.history.specs.Seats.{Permit, Known}
use Rattle.history.specs.Values.{pushed, popped, pushed_by, OnlyPushes}
use Rattle.history.specs.Ends.{AreAll, Closes}
use Rattle.history.proofs.Sums.{AreApart, made-all}
use Rattle.history.proofs.Values.{pushed-Leads, pushed-own}
use Rattle.history.proofs.Ending.{ends_there}
use Rattle.carriers.specs.ToEntries.{push_refused, shut as shut_entry}
use Rattle.job_results.specs.declared.jobs.Job.{Job}
use Rattle.dispatcher.specs.declared.workers.Back.{Back}
use Rattle.dispatcher.specs.declared.workers.End.{End}
use Rattle.dispatcher.specs.declared.workers.End.TheVariants.{Finished, Stopped, NoMemory, Refused}
use Rattle.dispatcher.specs.declared.crews.JobsRun.{JobsRun}
use Rattle.dispatcher.specs.Workers.{after_pushes}
use Rattle.dispatcher.specs.WorkerTurns.{IsNoJob}
use Rattle.dispatcher.specs.Turns.{EndsSo, IsBack}
use Rattle.dispatcher.specs.Submissions.{EndsShutBy}
use Rattle.dispatcher.specs.Crews.{HasRun}
use Rattle.dispatcher.specs.Goings.{numbers_of, numbers_in, seats_in, body_of}
use Rattle.dispatcher.specs.Laws.{times, AreNewSeats}
use Rattle.dispatcher.proofs.Ending.{seen-mine}
use Rattle.dispatcher.proofs.Going.{numbers_are}

-- whether an entry pops a value with this body
abbrev takes : (n : ℕ) → Entry → Bool
takes n (Push seat body) = false
takes n (Pop seat value) = nat_eq n value.body
takes n (Shut seat) = false

module _ (n : ℕ) where
  times-append : (xs ys : List ℕ) → times n (xs ++ ys) ≡ times n xs + times n ys
  times-append xs ys = sum_by-append (λ x. cond (nat_eq n x) 1 0) xs ys

  times-cons : (x : ℕ) (xs : List ℕ) → times n (x ∷ xs) ≡ cond (nat_eq n x) 1 0 + times n xs
  times-cons x xs = sum_by-cons (λ x. cond (nat_eq n x) 1 0) x xs

  takes-cons : (e : Entry) (es : List Entry) → count_by (takes n) (e ∷ es) ≡ cond (takes n e) 1 0 + count_by (takes n) es
  takes-cons e es = sum_by-cons (λ e. cond (takes n e) 1 0) e es

  takes-append : (es fs : List Entry) → count_by (takes n) (es ++ fs) ≡ count_by (takes n) es + count_by (takes n) fs
  takes-append es fs = sum_by-append (λ e. cond (takes n e) 1 0) es fs

  -- so many pops take it as it stands among the values popped
  taken_times : (es : List Entry) → times n (map body_of (popped es)) ≡ count_by (takes n) es
  taken_times [] = refl
  taken_times (Push seat body ∷ es) = let one = takes-cons (Push seat body) es in let ih = taken_times es in omega (arith, one, ih)
  taken_times (Shut seat ∷ es) = let one = takes-cons (Shut seat) es in let ih = taken_times es in omega (arith, one, ih)
  taken_times (Pop seat value ∷ es) =
      let one = takes-cons (Pop seat value) es in
      let also = times-cons value.body (map body_of (popped es)) in
      let ih = taken_times es in
      omega (arith, one, also, ih)

  -- a submitter's pushes take nothing
  no_takes : (seat m : ℕ) → count_by (takes n) (after_pushes [] seat m) ≡ 0
  no_takes seat zero = refl
  no_takes seat (suc m) =
      let one = sum_by_push (λ e. cond (takes n e) 1 0) (after_pushes [] seat m) (Push seat (suc m)) in
      let ih = no_takes seat m in
      omega (arith, one, ih)

  -- and push each number from 1 on once
  pushed_more : (seat m : ℕ) → times n (map body_of (pushed (after_pushes [] seat (suc m)))) ≡ times n (map body_of (pushed (after_pushes [] seat m))) + cond (nat_eq n (suc m)) 1 0
  pushed_more seat m =
      let split = ap (λ (vs : List Taken). times n (map body_of vs)) (flat_map-append pushed_by (after_pushes [] seat m) (Push seat (suc m) ∷ [])) in
      let v : Taken = record { from = seat; body = suc m } in
      let parts : times n (map body_of (pushed (after_pushes [] seat m) ++ v ∷ [])) ≡ times n (map body_of (pushed (after_pushes [] seat m))) + times n (suc m ∷ []) =
      ap (times n) (map-append body_of (pushed (after_pushes [] seat m)) (v ∷ [])) ∙ times-append (map body_of (pushed (after_pushes [] seat m))) (suc m ∷ []) in
      let one = times-cons (suc m) [] in
      omega (arith, split, parts, one)

  -- none of greater numbers was pushed yet
  pushed_none : (seat m : ℕ) → m < n → times n (map body_of (pushed (after_pushes [] seat m))) ≡ 0
  pushed_none seat zero low = refl
  pushed_none seat (suc m) low =
      let more = pushed_more seat m in
      let ih = pushed_none seat m (omega (arith, low)) in
      let other : nat_eq n (suc m) ≡ false = ne_eqb n (suc m) (λ e. absurd (omega (arith, e, low))) in
      let none = ap {B = ℕ} (λ b. cond b 1 0) other in
      omega (arith, more, ih, none)

  pushed_once : (seat m : ℕ) → 1 ≤ n → n ≤ m → times n (map body_of (pushed (after_pushes [] seat m))) ≡ 1
  pushed_once seat zero one low = absurd (omega (arith, one, low))
  pushed_once seat (suc m) one low =
      let more = pushed_more seat m in
      elim (eq-or-lt_of_le low) [
        | inl e ↦ (
            let none = pushed_none seat m (omega (arith, e)) in
            let this = ap {B = ℕ} (λ b. cond b 1 0) (eq-eqb n (suc m) e) in
            omega (arith, more, none, this))
        | inr less ↦ (
            let ih = pushed_once seat m one (omega (arith, less)) in
            let this = ap {B = ℕ} (λ b. cond b 1 0) (ne_eqb n (suc m) (λ e. absurd (omega (arith, e, less)))) in
            omega (arith, more, ih, this))
      ]

  -- a worker's pops are counted as its results are
  pops_times : (seat : ℕ) (vs : List Taken) → count_by (takes n) (map (Pop seat) vs) ≡ times n (map body_of vs)
  pops_times seat [] = refl
  pops_times seat (v ∷ vs) =
      let one = takes-cons (Pop seat v) (map (Pop seat) vs) in
      let also = times-cons v.body (map body_of vs) in
      let ih = pops_times seat vs in
      omega (arith, one, also, ih)

  module _ (jobs : List Job) (one : 1 ≤ n) (low : n ≤ length jobs) where
    module _ {Q S : Type 0} (is_seat : Q → S → Type 0) (known : S → Known) (cause : Q → S → S → ℕ → Refusal → Type 0) (queue : Q) (stops : Type 0) (gated : ℕ → Type 0) where
      -- what ended a worker took no job's number
      ended_none : (before after : S) (end : End) → EndsSo is_seat known cause queue jobs stops before after end
          → count_by (takes n) (known after).mine ≡ count_by (takes n) (known before).mine
      ended_none before after Finished h = ap (count_by (takes n)) h.1
      ended_none before after Stopped h = ap (count_by (takes n)) h.2
      ended_none before after (NoMemory none) h = ap (count_by (takes n)) h
      ended_none before after (Refused (WornOut word)) h = ap (count_by (takes n)) h.0
      ended_none before after (Refused Stranger) h =
          let v = h.0 in
          let more = ap (count_by (takes n)) h.2 ∙ sum_by_push (λ e. cond (takes n e) 1 0) (known before).mine (Pop (known before).number v) in
          let none = ap {B = ℕ} (λ b. cond b 1 0) (ne_eqb n v.body (no_job v.body h.1)) in
          omega (arith, more, none)
        where
          no_job : (body : ℕ) → IsNoJob jobs body → n ≢ body
          no_job body (inl e) same = absurd (omega (arith, e, same, one))
          no_job body (inr l) same = absurd (omega (arith, l, same, low))
      ended_none before after (Refused _) h = absurd h

      back_times : (was : S) (w : Back S) → (known was).mine ≡ [] → IsBack is_seat known cause queue jobs stops gated was w → count_by (takes n) (known w.seat).mine ≡ times n (numbers_of w)
      back_times was w unused b =
          let k = known was in
          ended_none b.last w.seat w.end b.ended
          ∙ ap (count_by (takes n)) (b.done.mine ∙ ap (λ (es : List Entry). es ++ map (Pop k.number) b.done.values) unused)
          ∙ pops_times k.number b.done.values
          ∙ ap (times n) (sym (numbers_are jobs b.done.values w.results.items b.done.done))

      workers_times : (takers : List S) (ws : List (Back S)) → AllZip (IsBack is_seat known cause queue jobs stops gated) takers ws
          → All (λ k. k.mine ≡ []) (map known takers) → sum_by (λ k. count_by (takes n) k.mine) (map known (seats_in ws)) ≡ times n (numbers_in ws)
      workers_times [] [] all unused = refl
      workers_times [] (w ∷ ws) all unused = absurd all
      workers_times (t ∷ ts) [] all unused = absurd all
      workers_times (t ∷ ts) (w ∷ ws) all unused =
          let f : Known → ℕ = λ k. count_by (takes n) k.mine in
          let first = sum_by-cons f (known w.seat) (map known (seats_in ws)) in
          let this = back_times t w (All-head (λ (k : Known). k.mine ≡ []) (known t) (map known ts) unused) all.0 in
          let ih = workers_times ts ws all.1 (All-tail (λ (k : Known). k.mine ≡ []) (known t) (map known ts) unused) in
          let parts = times-append (numbers_of w) (numbers_in ws) in
          omega (arith, first, this, ih, parts)

-- what the submitter did to shut the queue, or not to
module _ {Q S : Type 0} (is_seat : Q → S → Type 0) (known : S → Known) (cause : Q → S → S → ℕ → Refusal → Type 0) (queue : Q) (before after : S) where
  shut_more : (unshut : Option Refusal) → EndsShutBy is_seat known cause queue before after unshut
      → (shuts : List ℕ) × ((known after).mine ≡ (known before).mine ++ map Shut shuts)
  shut_more None (inl d) = ((known before).number ∷ [], (shut_entry (known before) (known after) d).mine)
  shut_more None (inr f) = ([], (push_refused (known before) (known after) Closed f).mine ∙ sym (append-nil (known before).mine))
  shut_more (Some (WornOut OfTail)) h = ([], seen-mine (known before) (known after) h.0 ∙ sym (append-nil (known before).mine))
  shut_more (Some _) h = absurd h

shuts_take : (n : ℕ) (shuts : List ℕ) → count_by (takes n) (map Shut shuts) ≡ 0
shuts_take n [] = refl
shuts_take n (s ∷ ss) = let one = takes-cons n (Shut s) (map Shut ss) in let ih = shuts_take n ss in omega (arith, one, ih)

shuts_push : (shuts : List ℕ) → pushed (map Shut shuts) ≡ []
shuts_push [] = refl
shuts_push (s ∷ ss) = shuts_push ss

module _ {Q S : Type 0} (is_seat : Q → S → Type 0) (known : S → Known) (push_cause pop_cause shut_cause : Q → S → S → ℕ → Refusal → Type 0) (queue : Q)
    (permits : List Permit) (jobs : List Job) (stops : Type 0) (gated : ℕ → Type 0) (giver : S) (takers : List S) (run : JobsRun S) (rest : Rest)
    (h : HasRun is_seat known push_cause pop_cause shut_cause queue jobs stops gated giver takers run) (new : AreNewSeats permits known giver takers) (closed : Closes permits (map known (run.giver.seat ∷ seats_in run.workers.items)) rest) where
  abbrev ws : List (Back S)
  ws = run.workers.items

  abbrev g : Known
  g = known run.giver.seat

  abbrev back : List Known
  back = map known (seats_in ws)

  -- the seats that came back have the numbers of those that were handed in
  same_at : (ts : List S) (us : List (Back S)) → AllZip (IsBack is_seat known pop_cause queue jobs stops gated) ts us → (i : ℕ) (k : Known)
      → slice_get (map known (seats_in us)) i ≡ Some k → (t : Known) × (slice_get (map known ts) i ≡ Some t) × (k.number ≡ t.number)
  same_at [] [] all i k at = absurd (let e : None ≡ Some k = at in cc)
  same_at [] (u ∷ us) all i k at = absurd all
  same_at (t ∷ ts) [] all i k at = absurd all
  same_at (t ∷ ts) (u ∷ us) all zero k at = (known t, refl, ap (λ (x : Known). x.number) (sym (same_Some (known u.seat) k at)) ∙ all.0.number)
  same_at (t ∷ ts) (u ∷ us) all (suc i) k at = same_at ts us all.1 i k at

  all_same_at : (i : ℕ) (k : Known) → slice_get (g ∷ back) i ≡ Some k → (t : Known) × (slice_get (map known (giver ∷ takers)) i ≡ Some t) × (k.number ≡ t.number)
  all_same_at zero k at = (known giver, refl, ap (λ (x : Known). x.number) (sym (same_Some g k at)) ∙ h.given.number)
  all_same_at (suc i) k at = same_at takers ws h.back i k at

  apart : AreApart (g ∷ back)
  apart i j k l at at' same =
      let s = all_same_at i k at in
      let t = all_same_at j l at' in
      new.apart i j s.0 t.0 s.1 t.1 (sym s.2 ∙ same ∙ t.2)

  back_at : (ts : List S) (us : List (Back S)) → AllZip (IsBack is_seat known pop_cause queue jobs stops gated) ts us → (i n : ℕ)
      → IsSomeAnd (slice_get (map known ts) i) (λ k. k.number ≡ n) → IsSomeAnd (slice_get (map known (seats_in us)) i) (λ k. k.number ≡ n)
  back_at [] [] all i n at = at
  back_at [] (u ∷ us) all i n at = absurd all
  back_at (t ∷ ts) [] all i n at = absurd all
  back_at (t ∷ ts) (u ∷ us) all zero n at = all.0.number ∙ at
  back_at (t ∷ ts) (u ∷ us) all (suc i) n at = back_at ts us all.1 i n at

  all_back_at : (i n : ℕ) → IsSomeAnd (slice_get (map known (giver ∷ takers)) i) (λ k. k.number ≡ n) → IsSomeAnd (slice_get (g ∷ back) i) (λ k. k.number ≡ n)
  all_back_at zero n at = h.given.number ∙ at
  all_back_at (suc i) n at = back_at takers ws h.back i n at

  every : AreAll permits (g ∷ back)
  every n some few = let r = new.all n some few in (r.0, all_back_at r.0 n r.1)

  -- what the submitter did
  mine : (shuts : List ℕ) × (g.mine ≡ after_pushes [] (known giver).number h.given.offered.count ++ map Shut shuts)
  mine =
      let s = shut_more is_seat known shut_cause queue h.given.last run.giver.seat run.giver.unshut h.given.shut in
      let unused = All-head (λ (k : Known). k.mine ≡ []) (known giver) (map known takers) new.unused in (
        s.0,
        s.1 ∙ ap (λ (es : List Entry). es ++ map Shut s.0) (h.given.offered.pushed ∙ ap (λ (es : List Entry). after_pushes es (known giver).number h.given.offered.count) unused),
      )

  module _ (n : ℕ) (one : 1 ≤ n) (low : n ≤ h.given.offered.count) where
    given_none : count_by (takes n) g.mine ≡ 0
    given_none =
        let same = ap (count_by (takes n)) mine.1 in
        let parts = takes-append n (after_pushes [] (known giver).number h.given.offered.count) (map Shut mine.0) in
        let none = no_takes n (known giver).number h.given.offered.count in
        let shuts = shuts_take n mine.0 in
        omega (arith, same, parts, none, shuts)

    -- of all that was pushed on the queue it is one
    pushed_one : times n (map body_of (pushed closed.history)) ≡ 1
    pushed_one =
        let only : OnlyPushes permits g.number = λ m may. new.only m may ∙ sym h.given.number in
        let own : own_entries g.number closed.history ≡ g.mine = All-head (λ (k : Known). own_entries k.number closed.history ≡ k.mine) g back closed.own in
        let parts : pushed g.mine ≡ pushed (after_pushes [] (known giver).number h.given.offered.count) =
        ap pushed mine.1 ∙ flat_map-append pushed_by (after_pushes [] (known giver).number h.given.offered.count) (map Shut mine.0)
        ∙ ap (λ (vs : List Taken). pushed (after_pushes [] (known giver).number h.given.offered.count) ++ vs) (shuts_push mine.0)
        ∙ append-nil (pushed (after_pushes [] (known giver).number h.given.offered.count)) in
        ap (λ (vs : List Taken). times n (map body_of vs)) (sym (pushed-own permits g.number only closed.history closed.permitted) ∙ ap pushed own ∙ parts)
        ∙ pushed_once n (known giver).number h.given.offered.count one low

    -- so it is answered once, or left once
    pub once_or_left : times n (numbers_in ws) + times n (map body_of (left_of rest)) ≡ 1
    once_or_left =
        let f : Known → ℕ = λ k. count_by (takes n) k.mine in
        let all = made-all (g ∷ back) closed.history apart closed.own permits closed.permitted every (takes n) in
        let first = sum_by-cons f g back in
        let none = given_none in
        let few = h.given.offered.few in
        let workers = workers_times n jobs one (omega (arith, low, few)) is_seat known pop_cause queue stops gated takers ws h.back (All-tail (λ (k : Known). k.mine ≡ []) (known giver) (map known takers) new.unused) in
        let took = taken_times n closed.history in
        let same = ap (λ (vs : List Taken). times n (map body_of vs)) (pushed-Leads closed.history (was_shut_of rest) (left_of rest) closed.leads) in
        let parts : times n (map body_of (popped closed.history ++ left_of rest)) ≡ times n (map body_of (popped closed.history)) + times n (map body_of (left_of rest)) =
        ap (times n) (map-append body_of (popped closed.history) (left_of rest)) ∙ times-append n (map body_of (popped closed.history)) (map body_of (left_of rest)) in
        let total = pushed_one in
        omega (arith, all, first, none, workers, took, same, parts, total)

  -- nothing is left where a worker found the queue shut and empty
  found_end : (ts : List S) (us : List (Back S)) → AllZip (IsBack is_seat known pop_cause queue jobs stops gated) ts us
      → All (λ k. IsPrefix k.seen closed.history) (map known (seats_in us)) → (i : ℕ) (w : Back S) → slice_get us i ≡ Some w → w.end ≡ Finished
      → left_of rest ≡ []
  found_end ts [] all begins i w at fin = absurd (let e : None ≡ Some w = at in cc)
  found_end [] (u ∷ us) all begins i w at fin = absurd all
  found_end (t ∷ ts) (u ∷ us) all begins zero w at fin =
      let k = known u.seat in
      let ended : EndsSo is_seat known pop_cause queue jobs stops all.0.last u.seat Finished = subst (EndsSo is_seat known pop_cause queue jobs stops all.0.last u.seat) (ap (λ (b : Back S). b.end) (same_Some u w at) ∙ fin) all.0.ended in
      let begun : IsPrefix k.seen closed.history = All-head (λ (k : Known). IsPrefix k.seen closed.history) k (map known (seats_in us)) begins in
      let after : Queue = record { values = left_of rest; shut = was_shut_of rest } in
      ap (λ (q : Queue). q.values) (sym (ends_there k.seen begun.0 empty after ended.0 (subst (λ es. Plays empty es after) (sym begun.1) closed.leads)))
  found_end (t ∷ ts) (u ∷ us) all begins (suc i) w at fin =
      found_end ts us all.1 (All-tail (λ (k : Known). IsPrefix k.seen closed.history) (known u.seat) (map known (seats_in us)) begins) i w at fin

  pub nothing_left : (i : ℕ) (w : Back S) → slice_get ws i ≡ Some w → w.end ≡ Finished → left_of rest ≡ []
  nothing_left i w at fin = found_end takers ws h.back (All-tail (λ (k : Known). IsPrefix k.seen closed.history) g back closed.begins) i w at fin
