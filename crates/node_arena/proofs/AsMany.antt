-- A history of values leaves as many as that of the numbers with which it goes one by one.
use Rattle.std.proofs.Common.{◌≡◌, ℕ, Bool, true, false, List, [], ◌∷◌, ◌++◌, refl, sym, ap, subst, ◌∙◌}
use Rattle.std.proofs.lemmas.List.{map-append}
use mathlib.Core.List.{IsPrefix}
use mathlib.Core.Bool.{true≢false}
use Rattle.history.specs.declared.operations.Entry.{Entry}
use Rattle.history.specs.declared.operations.Entry.TheVariants.{Push, Pop, Shut}
use Rattle.history.specs.declared.operations.Taken.{Taken}
use Rattle.history.specs.declared.operations.Reply.TheVariants.{Value, Empty, Refused}
use Rattle.history.specs.declared.refusals.Refusal.TheVariants.{Closed}
use Rattle.history.specs.Queue.{Queue}
use Rattle.history.specs.Entries.{Plays, Leads}
use Rattle.node_arena.specs.Deeds.{Item, item, Deed, pushed, popped, closed, Runs, Matches}
use Rattle.node_arena.specs.AsMany.{pushers, pushers_of, LeftNoValue}
use Rattle.node_arena.proofs.Riding.{runs_first}

abbrev queue_of : List Taken → Bool → Queue
queue_of vs s = record { values = vs; shut = s }

-- all but the first one
abbrev others_of : List ℕ → List ℕ
others_of [] = []
others_of (n ∷ ns) = ns

module _ {T : Type 0} where
  -- one value more of the same seat
  longer : (qs : List Taken) (xs : List (Item T)) (n b j : ℕ) (x : T) → j ≡ n → pushers qs ≡ pushers_of xs → pushers (qs ++ record { from = n; body = b } ∷ []) ≡ pushers_of (xs ++ item j x ∷ [])
  longer qs xs n b j x one same = map-append (λ (y : Taken). y.from) qs (record { from = n; body = b } ∷ []) ∙ (λ i. same i ++ sym one i ∷ []) ∙ sym
      (map-append (λ (y : Item T). y.from) xs (item j x ∷ []))

  as_many_from : (es : List Entry) (ds : List (Deed T)) (qs : List Taken) (s : Bool) (xs : List (Item T)) (vs : List Taken) (ys : List (Item T))
      (t u : Bool) → pushers qs ≡ pushers_of xs → Matches es ds → Plays (queue_of qs s) es (queue_of vs t) → Runs xs s ds ys u
      → (pushers vs ≡ pushers_of ys) × (t ≡ u)
  as_many_from [] [] qs s xs vs ys t u same m h k = (ap (λ (q : Queue). pushers q.values) (sym h) ∙ same ∙ ap pushers_of k.0, ap (λ (q : Queue). q.shut) (sym h) ∙ k.1)
  as_many_from (Push n b ∷ es) (pushed j x ∷ ds) qs true xs vs ys t u same m h k = absurd (true≢false k.0)
  as_many_from (Push n b ∷ es) (pushed j x ∷ ds) qs false xs vs ys t u same m h k =
      as_many_from es ds (qs ++ record { from = n; body = b } ∷ []) false (xs ++ item j x ∷ []) vs ys t u (longer qs xs n b j x m.0 same) m.1 h.1 k.1
  as_many_from (Pop n v ∷ es) (popped j y ∷ ds) (w ∷ ws) s xs vs ys t u same m h k = as_many_from es ds ws s k.0 vs ys t u (ap others_of (same ∙ ap pushers_of k.1)) m.2 h.1 k.2
  as_many_from (Pop n v ∷ es) (popped j y ∷ ds) [] false xs vs ys t u same m h k = absurd (let f : Empty ≡ Value v = h.0 in cc)
  as_many_from (Pop n v ∷ es) (popped j y ∷ ds) [] true xs vs ys t u same m h k = absurd (let f : Refused Closed ≡ Value v = h.0 in cc)
  as_many_from (Shut n ∷ es) (closed j ∷ ds) qs true xs vs ys t u same m h k = absurd (true≢false k.0)
  as_many_from (Shut n ∷ es) (closed j ∷ ds) qs false xs vs ys t u same m h k = as_many_from es ds qs true xs vs ys t u same m.1 h.1 k.1
  as_many_from es ds qs s xs vs ys t u same m h k = absurd m

  pub as_many : (es : List Entry) (ds : List (Deed T)) (numbers : List Taken) (values : List (Item T)) (shut shut' : Bool) → Matches es ds
      → Leads es shut numbers → Runs [] false ds values shut' → (pushers numbers ≡ pushers_of values) × (shut ≡ shut')
  as_many es ds numbers values shut shut' m h k = as_many_from es ds [] false [] numbers values shut shut' refl m h k

  -- who pushed none is told of none
  none_from : (xs : List (Item T)) → [] ≡ pushers_of xs → xs ≡ []
  none_from [] e = refl
  none_from (x ∷ xs) e = cc

  -- what goes one by one with a beginning
  matches_first : (es fs : List Entry) (ds : List (Deed T)) → Matches (es ++ fs) ds → (first : List (Deed T)) × (rest : List (Deed T)) × (first ++ rest ≡ ds) × Matches es first
  matches_first [] fs ds m = ([], ds, refl, tt)
  matches_first (Push n b ∷ es) fs (pushed j x ∷ ds) m = let r = matches_first es fs ds m.1 in (pushed j x ∷ r.0, r.1, ap (λ y. pushed j x ∷ y) r.2, (m.0, r.3))
  matches_first (Pop n v ∷ es) fs (popped j y ∷ ds) m = let r = matches_first es fs ds m.2 in (popped j y ∷ r.0, r.1, ap (λ z. popped j y ∷ z) r.2, (m.0, m.1, r.3))
  matches_first (Shut n ∷ es) fs (closed j ∷ ds) m = let r = matches_first es fs ds m.1 in (closed j ∷ r.0, r.1, ap (λ y. closed j ∷ y) r.2, (m.0, r.3))
  matches_first (e ∷ es) fs ds m = absurd m

  -- where a beginning of the entries seen leaves no number, that of the values leaves none
  pub left_no_value : (seen : List (Deed T)) (all es : List Entry) (shut : Bool) (values : List (Item T)) (s : Bool) → Matches all seen
      → Runs [] false seen values s → IsPrefix es all → Leads es shut [] → LeftNoValue seen es shut
  left_no_value seen all es shut values s m k p h =
      let r = matches_first es p.0 seen (subst (λ (y : List Entry). Matches y seen) (sym p.1) m) in
      let f = runs_first [] false r.0 r.1 values s (subst (λ (y : List (Deed T)). Runs [] false y values s) (sym r.2) k) in
      let a = as_many es r.0 [] f.0 shut f.1 r.3 h f.2 in
      record {
        deeds = r.0;
        begins = (r.1, r.2);
        matches = r.3;
        runs = (let P : List (Item T) × Bool → Type 0 = λ y. Runs [] false r.0 y.0 y.1 in subst P (λ i. (none_from f.0 a.0 i, sym a.1 i)) f.2);
      }
