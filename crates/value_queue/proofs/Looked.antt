-- What a look of a seat of any table with slots tells of deeds, by what it tells of entries.
use Rattle.std.proofs.Common.{◌≡◌, ℕ, zero, suc, ◌≤◌, Bool, true, false, List, [], ◌∷◌, ◌++◌, length, take, drop, sym, refl, ap, subst, ◌∙◌, arith, length-append}
use Rattle.std.specs.List.{count_by}
use Rattle.std.proofs.lemmas.List.{take-append-drop}
use mathlib.Core.List.{IsPrefix}
use Rattle.history.specs.declared.operations.Entry.{Entry}
use Rattle.history.specs.declared.operations.Taken.{Taken}
use Rattle.history.specs.Entries.{is_pop, Leads}
use Rattle.carriers.specs.declared.items.ItemOf.{ItemOf}
use Rattle.carriers.specs.Deeds.{Deed, is_popping, RunsTo, IsRun}
use Rattle.carriers.specs.DeedsOfNumbers.{Matches}
use Rattle.carriers.proofs.Running.{run-first}
use Rattle.node_arena.specs.declared.emptiness.Emptiness.{Emptiness}
use Rattle.node_arena.specs.declared.emptiness.Emptiness.TheVariants.{Empty, ShutEmpty, Holds, Moved}
use Rattle.node_arena.specs.declared.lengths.Len.{Len}
use Rattle.node_arena.specs.Looks.{WasMeanwhile, LeadsToSome, FoundSo, WasSoLong}
use Rattle.value_queue.specs.Sights.{Sight, values_seen, values_known, IsClear, GoesOn}
use Rattle.value_queue.specs.Matched.{length-Matches, Matches-take, left-Matches}
use Rattle.value_queue.specs.Sound.{RunsTo-Matches, seen_runs}
use Rattle.value_queue.specs.Looks.{WasMeanwhileOf, RunsToSome, FoundSoOf, WasSoLongOf}
use Rattle.value_queue.proofs.Learned.{seen-more, sees-deeds}
use Rattle.value_queue.proofs.Closings.{count-Matches, popping-is}

module _ {A : Type 0} where
  -- the first ones of a list are those that stand in front
  first_of : (xs ys : List A) → take (length xs) (xs ++ ys) ≡ xs
  first_of [] ys = refl
  first_of (x ∷ xs) ys = ap (λ zs. x ∷ zs) (first_of xs ys)

  -- and more of them begin with these
  begins_with : (xs ys : List A) (n : ℕ) → length xs ≤ n → IsPrefix xs (take n (xs ++ ys))
  begins_with [] ys n le = (take n ys, refl)
  begins_with (x ∷ xs) ys zero le = absurd (omega (arith, le))
  begins_with (x ∷ xs) ys (suc n) le = let p = begins_with xs ys n (omega (arith, le)) in (p.0, ap (λ zs. x ∷ zs) p.1)

  -- where a run leaves a value, there is one in front
  some_left : (ds : List (Deed A)) (shut : Bool) (left : List (ItemOf A)) (n : ℕ) → suc n ≡ length left → RunsTo ds shut left → RunsToSome ds
  some_left ds shut [] n long runs = absurd (omega (arith, long))
  some_left ds shut (front ∷ others) n long runs = record { shut = shut; front = front; others = others; runs = runs }

module _ {T : Type 0} (s t : Sight T) (is : IsClear s) (it : IsClear t) (more : GoesOn s t) where
  -- as many pops as deeds
  pub pops_as : (x : Sight T) → IsClear x → count_by is_popping (values_seen x) ≡ count_by is_pop x.known.seen
  pops_as x ix = count-Matches is_pop is_popping popping-is x.known.seen (values_seen x) ix.matches

  module _ (now : List Entry) (w : WasMeanwhile s.known now t.known) where
    -- the deeds of that moment
    abbrev pub deeds_then : List (Deed T)
    deeds_then = take (length now) (values_seen t)

    pub matches_then : Matches now deeds_then
    matches_then = subst (λ es. Matches es deeds_then) (ap (λ es. take (length now) es) (sym w.ends.1) ∙ first_of now w.ends.0)
        (Matches-take (length now) t.known.seen (values_seen t) it.matches)

    pub run_then : IsRun deeds_then
    run_then = run-first deeds_then (drop (length now) (values_seen t)) (subst IsRun (sym (take-append-drop (length now) (values_seen t))) (seen_runs t it))

    pub was_then : WasMeanwhileOf (values_known s) deeds_then (values_known t)
    was_then =
        let seen = seen-more s t is it more in
        let known = length-Matches s.known.seen (values_seen s) is.matches in
        let long = sym (length-append s.known.seen w.begins.0) ∙ ap length w.begins.1 in
        record {
          more = sees-deeds s t is it more w.more;
          begins = subst (λ ds. IsPrefix (values_seen s) (take (length now) ds)) (sym seen.1) (begins_with (values_seen s) seen.0 (length now) (omega (arith, known, long)));
          ends = (drop (length now) (values_seen t), take-append-drop (length now) (values_seen t));
        }

    -- they leave as many values as the entries, and shut the queue where those do
    pub same_then : (values : List Taken) (shut : Bool) → Leads now shut values → (length values ≡ length run_then.0) × (shut ≡ run_then.1)
    same_then values shut leads = left-Matches now deeds_then false [] [] (record { values = values; shut = shut }) run_then.0 run_then.1 refl leads run_then.2 matches_then

    holds_then : LeadsToSome now → RunsToSome deeds_then
    holds_then some = some_left deeds_then run_then.1 run_then.0 (length some.others) (same_then (some.front ∷ some.others) some.shut some.leads).0 run_then.2

  -- what a look at Head and what follows it finds
  pub found : (e : Emptiness) → FoundSo s.known e t.known → FoundSoOf (values_known s) e (values_known t)
  found Empty h = (deeds_then h.0 h.1, was_then h.0 h.1, RunsTo-Matches h.0 (deeds_then h.0 h.1) (matches_then h.0 h.1) false (run_then h.0 h.1) h.2)
  found ShutEmpty h = (deeds_then h.0 h.1, was_then h.0 h.1, RunsTo-Matches h.0 (deeds_then h.0 h.1) (matches_then h.0 h.1) true (run_then h.0 h.1) h.2)
  found Holds h = (deeds_then h.0 h.1, was_then h.0 h.1, holds_then h.0 h.1 h.2)
  found Moved h = record { more = sees-deeds s t is it more h.more; pops = (let p = h.pops in omega (arith, p, pops_as s is, pops_as t it)) }

  -- and how long a queue of nodes is
  pub long : (len : Len) → WasSoLong s.known len t.known → WasSoLongOf (values_known s) len (values_known t)
  long len h =
      let run = run_then h.now h.meanwhile in
      let same = same_then h.now h.meanwhile h.values h.shut h.leads in
      let l = h.least in
      let m = h.most in
      let n = h.near in
      record {
        now = deeds_then h.now h.meanwhile;
        meanwhile = was_then h.now h.meanwhile;
        shut = run.1;
        values = run.0;
        runs = run.2;
        least = omega (arith, l, same.0);
        most = omega (arith, m, same.0);
        near = omega (arith, n, pops_as s is, pops_as t it);
      }
