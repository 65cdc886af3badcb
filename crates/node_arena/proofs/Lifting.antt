-- The step of a seat, of which node_arena says that it keeps its rule, also keeps the rule of the slots.
use Rattle.std.proofs.Common.{◌≡◌, ◌≢◌, ℕ, ◌-◌, ◌<◌, ◌≤◌, Bool, true, false, if◌then◌else◌, Option, Some, List, [], ◌∷◌, ◌++◌, zero, suc, length}
use Rattle.std.proofs.Common.{get_or, set, slice_get, sym, refl, ap, ◌∙◌, subst, ⊎_elim, arith, append-nil, append_assoc}
use Rattle.std.proofs.lemmas.List.{length-set, set-get_or}
use mathlib.Core.Option.{some, some-ne-none}
use lib.ListN.{get_elem?}
use Rattle.atomic_table.specs.Table.{State, Me, keeps, Allows}
use Rattle.atomic_table.proofs.Lists.{at_set}
use Rattle.line_table.specs.declared.lines.Line.{Line}
use Rattle.history.specs.declared.operations.Entry.{Entry}
use Rattle.line_steps.specs.Actors.{Actor}
use Rattle.line_steps.specs.declared.actors.Setup.{Setup}
use Rattle.line_steps.specs.Memory.{found}
use Rattle.line_steps.specs.Lines.{action}
use Rattle.step_machine.specs.Tables.{WordStep, word_index, word_step}
use Rattle.node_arena.specs.declared.roles.Role.{Role}
use Rattle.node_arena.specs.Traces.{Traced, entries_at, sees}
use Rattle.node_arena.specs.Prologues.{Prologue, after_prologue, CanStart}
use Rattle.node_arena.specs.Knowledge.{SeatView, View, seated, knows}
use Rattle.node_arena.specs.Places.{place}
use Rattle.node_arena.specs.Plans.{Layout, PermitsLine, slots_of}
use Rattle.node_arena.specs.Rule.{Holds, Steps, Tells, line_or_first}
use Rattle.std.proofs.lemmas.List.{get_or-set_same, get_or-set_other, get_or-take, take-set-le}
use Rattle.std.proofs.Math.Seq.{take-set-lt}
use Rattle.std.proofs.Common.{take, map, inl, inr, ◌+◌, ◌⊎◌, None}
use mathlib.Core.Option.{none}
use mathlib.Core.Option as maybe
use mathlib.Core.Logic.{dite}
use native.Mathlib.Decide.{ℕ_discrete}
use Rattle.atomic_table.specs.Table.{Act, takes, gives, Valid, carried_after, stepped}
use Rattle.atomic_table.proofs.Lists.{at_map, set_else, set_here, set_again}
use Rattle.node_arena.proofs.KnownRuns.{set_there}
use Rattle.node_arena.proofs.Slotting.{acquires, releases}
use Rattle.counted_ref.specs.Ref.{null, same_ref}
use Rattle.line_table.specs.declared.lines.Line.TheVariants.{E9, D13, A5, B5, S4, S8}
use Rattle.history.specs.declared.operations.Entry.TheVariants.{Push, Pop, Shut}
use Rattle.history.specs.Entries.{Leads, IsQueueRun}
use Rattle.line_steps.specs.Memory.{Found}
use Rattle.node_arena.specs.Traces.{entries_of}
use Rattle.node_arena.proofs.Seens.{history_legal}
use Rattle.node_arena.specs.Deeds.{item, Deed, pushed, popped, closed, Matches}
use Rattle.node_arena.specs.Slots.{Try, Changes, item_of}
use Rattle.node_arena.specs.ValueHistories.{Rides, number_of}
use Rattle.node_arena.specs.Beside.{Beside, hand_in, hand_at, home_at, plain_of, plain_state, words_of, flag_at, Begins, CarriedBy, HoldsFor}
use Rattle.node_arena.specs.Beside.{KnowsValues, KnowsBy, Effect, EffectBy, TellsBeside, LoadedAt, with_hand, with_tries}
use Rattle.node_arena.proofs.Riding.{rides_push, rides_pop, rides_shut, rides_same}
use Rattle.node_arena.proofs.StepsPreserve.{becomes, one_seat, allows_seated}
use Rattle.node_arena.proofs.StepsPreserve as landed
use Rattle.node_arena.proofs.Lifts.{map_set, hand_set, moved, lift_allows, none_hand}
use Rattle.node_arena.proofs.KnownValues.{knows_values, all_on}

-- what a step adds to the history: nothing, a push by a line that pushes, a pop or a shut
abbrev pub pushes_at : Line → Bool
pushes_at E9 = true
pushes_at A5 = true
pushes_at l = false

abbrev pub takes_at : Line → Bool
takes_at D13 = true
takes_at B5 = true
takes_at l = false

abbrev Kinds : (me : ℕ) (a : Actor) (l : Line) → List Entry → Type 0
Kinds me a l es = (es ≡ []) ⊎ (((pushes_at l ≡ true) × (es ≡ Push me a.val.body ∷ [])) ⊎ (((takes_at l ≡ true) × (es ≡ Pop me a.val ∷ [])) ⊎ (es ≡ Shut me ∷ [])))

kinds : (s : Setup) (me : ℕ) (a : Actor) (l : Line) (c : Found (action s me a l)) → Kinds me a l (entries_of s me a l c)
kinds s me a E9 c = go (same_ref c a.next)
  where
    go : (b : Bool) → Kinds me a E9 (if b then Push me a.val.body ∷ [] else [])
    go true = inr (inl (refl, refl))
    go false = inl refl
kinds s me a D13 c = go (same_ref c a.head)
  where
    go : (b : Bool) → Kinds me a D13 (if b then Pop me a.val ∷ [] else [])
    go true = inr (inr (inl (refl, refl)))
    go false = inl refl
kinds s me a A5 c = go (same_ref c null)
  where
    go : (b : Bool) → Kinds me a A5 (if b then Push me a.val.body ∷ [] else [])
    go true = inr (inl (refl, refl))
    go false = inl refl
kinds s me a B5 c = inr (inr (inl (refl, refl)))
kinds s me a S4 c = go (same_ref c a.next)
  where
    go : (b : Bool) → Kinds me a S4 (if b then Shut me ∷ [] else [])
    go true = inr (inr (inr refl))
    go false = inl refl
kinds s me a S8 c = go (same_ref c null)
  where
    go : (b : Bool) → Kinds me a S8 (if b then Shut me ∷ [] else [])
    go true = inr (inr (inr refl))
    go false = inl refl
kinds s me a l c = inl refl

at_lt : {A : Type 0} (l : List A) (i : ℕ) (a : A) → get_elem? l i ≡ some a → i < length l
at_lt [] i a e = absurd (some-ne-none a (sym e))
at_lt (x ∷ xs) zero a e = omega arith
at_lt (x ∷ xs) (suc i) a e = let lt = at_lt xs i a e in omega arith

-- the rule of the queue, and of so many slots behind so many words
pub record HoldsBeside {T : Type 0} (z : Layout) (m n : ℕ) (s : State (Option T) (Beside T)) : Type 0 where
  pub base : Holds z (plain_state m s)
  pub rides : Rides base.trace.history n (flag_at m s.words) (home_at s.homes) (hand_at s.views)
  pub known : (j : ℕ) (w : Beside T) → get_elem? s.views j ≡ some w → Begins rides.deeds w

module _ {T : Type 0} (z : Layout) (m n : ℕ) (s : State (Option T) (Beside T)) (H : HoldsBeside z m n s) (count : length s.homes ≡ n) (id : ℕ)
    (v : SeatView) (ds : List (Deed T)) (hd : maybe.Option ℕ) (os : List (List (Deed T))) (ts : List Try)
    (mine : get_elem? s.views id ≡ some (record { plain = seated v; deeds = ds; hand = hd; others = os; tries = ts })) (prologue : Prologue) (l : Line)
    (can : CanStart prologue v.actor) (line : (after_prologue z.setup v.number prologue v.actor).line ≡ Some l)
    (role : Role) (its : slice_get z.roles (v.number - 1) ≡ Some role) (permits : PermitsLine role l) (x : WordStep)
    (acts : word_step z.setup.bits (action z.setup v.number (after_prologue z.setup v.number prologue v.actor) l) ≡ x)
    (within : place (word_index x) < m) where
  abbrev w : Beside T
  w = record { plain = seated v; deeds = ds; hand = hd; others = os; tries = ts }

  abbrev s0 : State ℕ View
  s0 = plain_state m s

  abbrev a : Actor
  a = after_prologue z.setup v.number prologue v.actor

  mine0 : get_elem? s0.views id ≡ some (seated v)
  mine0 = at_map plain_of s.views id w mine

  abbrev es : List Entry
  es = landed.es z s0 H.base id v mine0 prologue l can line role its permits

  abbrev t : Traced
  t = landed.t z s0 H.base id v mine0 prologue l can line role its permits

  abbrev v' : SeatView
  v' = landed.v' z s0 H.base id v mine0 prologue l can line role its permits

  abbrev hist : List Entry
  hist = H.base.trace.history

  abbrev p : ℕ
  p = place (word_index x)

  abbrev words' : List ℕ
  words' = set s.words p (becomes x (get_or s.words p 0))

  history_is : t.history ≡ hist ++ es
  history_is = landed.history_is z s0 H.base id v mine0 prologue l can line role its permits

  legal : IsQueueRun (hist ++ es)
  legal = subst IsQueueRun history_is (history_legal t (landed.reached z s0 H.base id v mine0 prologue l can line role its permits))

  -- node_arena's rule after the step
  abbrev base0 : Holds z record { words = set s0.words p (becomes x (get_or s0.words p 0)); homes = s0.homes; views = set s0.views id (seated v') }
  base0 = one_seat z s0 H.base id v v' (set s0.words p (becomes x (get_or s0.words p 0))) t mine0 (landed.goes z s0 H.base id v mine0 prologue l can line role its permits x acts)

  same_words : take m words' ≡ set s0.words p (becomes x (get_or s0.words p 0))
  same_words = take-set-lt m s.words p (becomes x (get_or s.words p 0)) within ∙ ap (λ (k : ℕ). set (take m s.words) p (becomes x k)) (sym (get_or-take m s.words p 0 within))

  flags : (i : ℕ) → flag_at m words' i ≡ flag_at m s.words i
  flags i = get_or-set_other s.words p (m + i) (becomes x (get_or s.words p 0)) 0 (λ e. (let lt = within in omega (arith, e, lt)))

  abbrev seat_after : List (Deed T) → maybe.Option ℕ → Beside T
  seat_after d h = record { plain = seated v'; deeds = if sees l then H.rides.deeds ++ d else ds; hand = h; others = []; tries = ts }

  hands : (d : List (Deed T)) (h : maybe.Option ℕ) → Changes (hand_at s.views) (hand_at (set s.views id (seat_after d h))) id h
  hands d h = (ap hand_in (set_there s.views id w (seat_after d h) mine), λ i ne. ap hand_in (set_else s.views id i (seat_after d h) ne))

  same_hands : (d : List (Deed T)) (j : ℕ) → hand_at s.views j ≡ hand_at (set s.views id (seat_after d hd)) j
  same_hands d j = dite (ℕ_discrete j id)
      (λ same. ap (hand_at s.views) same ∙ (ap hand_in mine ∙ (sym (hands d hd).0 ∙ ap (hand_at (set s.views id (seat_after d hd))) (sym same))))
      (λ ne. sym ((hands d hd).1 j ne))

  fit : Begins H.rides.deeds w
  fit = H.known id w mine

  -- put together
  built : (d : List (Deed T)) (h : maybe.Option ℕ) (homes' : List (maybe.Option (Option T)))
      (r : Rides (hist ++ es) n (flag_at m words') (home_at homes') (hand_at (set s.views id (seat_after d h)))) → r.deeds ≡ H.rides.deeds ++ d
      → HoldsBeside z m n record { words = words'; homes = homes'; views = set s.views id (seat_after d h) }
  built d h homes' r is =
      record {
        base = moved z record { words = set s0.words p (becomes x (get_or s0.words p 0)); homes = s0.homes; views = set s0.views id (seated v') }
            (plain_state m (record { words = words'; homes = homes'; views = set s.views id (seat_after d h) })) base0 same_words
            (map_set plain_of s.views id (seat_after d h));
        rides = record {
          deeds = r.deeds;
          q = r.q;
          pops = r.pops;
          shut = r.shut;
          leads = subst (λ es. Leads es r.shut (map number_of r.q))
              (sym history_is) r.leads;
          runs = r.runs;
          matches = subst (λ es. Matches es r.deeds) (sym history_is) r.matches;
          slotted = r.slotted;
        };
        known = λ j o at. ⊎_elim
            (λ (e : (j ≡ id) × (seat_after d h ≡ o)). subst (Begins r.deeds) e.1 here)
            (λ (e : (j ≢ id) × (get_elem? s.views j ≡ some o)). let f = H.known j o e.1 in let g : Begins r.deeds o =
            record {
              rest = f.rest ++ d;
              begins = is ∙ (ap (λ y. y ++ d) f.begins ∙ append_assoc o.deeds f.rest d);
              matches = f.matches;
              pair =
                  f.pair;
              others = all_on o.others H.rides.deeds d r.deeds is f.others;
            } in g)
            (at_set s.views id j (seat_after d h) o at);
      }
    where
      begins_by : (b : Bool) → (rest : List (Deed T)) × (H.rides.deeds ++ d ≡ (if b then H.rides.deeds ++ d else ds) ++ rest)
      begins_by true = ([], sym (append-nil (H.rides.deeds ++ d)))
      begins_by false = (fit.rest ++ d, ap (λ y. y ++ d) fit.begins ∙ append_assoc ds fit.rest d)

      matches_by : (b : Bool) → sees l ≡ b → Matches v'.seen (if b then H.rides.deeds ++ d else ds)
      matches_by true e = let P : List Entry × List (Deed T) → Type 0 = λ y. Matches y.0 y.1 in subst P
          (λ i. (sym (landed.whole z s0 H.base id v mine0 prologue l can line role its permits e ∙ history_is) i, is i)) r.matches
      matches_by false e = subst (λ es. Matches es ds) (sym (landed.stays z s0 H.base id v mine0 prologue l can line role its permits e)) (fit.matches v refl)

      here : Begins r.deeds (seat_after d h)
      here = record {
        rest = (begins_by (sees l)).0;
        begins = is ∙ (begins_by (sees l)).1;
        matches = λ o e. subst (λ (y : View). Matches (knows y).seen (seat_after d h).deeds) e (matches_by (sees l) refl);
        pair = λ o u e same. cc;
        others = tt;
      }

  -- where the step adds something, all is seen
  all_seen : (d : List (Deed T)) → ¬ (es ≡ []) → (if sees l then H.rides.deeds ++ d else ds) ≡ (ds ++ fit.rest) ++ d
  all_seen d some_entry = go (sees l) refl
    where
      go : (b : Bool) → sees l ≡ b → (if b then H.rides.deeds ++ d else ds) ≡ (ds ++ fit.rest) ++ d
      go true e = ap (λ y. y ++ d) fit.begins
      go false e = absurd (some_entry (landed.quiet z s0 H.base id v mine0 prologue l can line role its permits e))

  grown : (if sees l then H.rides.deeds ++ [] else ds) ≡ ds ++ (if sees l then fit.rest else [])
  grown = go (sees l)
    where
      go : (b : Bool) → (if b then H.rides.deeds ++ [] else ds) ≡ ds ++ (if b then fit.rest else [])
      go true = append-nil H.rides.deeds ∙ fit.begins
      go false = sym (append-nil ds)

  abbrev Told : (held : List (ℕ × Option T)) (k : ℕ) → Beside T × List (ℕ × Option T) → Type 0
  Told held k o = ((o.0.plain ≡ seated (knows o.0.plain)) × Steps z prologue l k v (knows o.0.plain))
      × ((fs : List Entry) × ((knows o.0.plain).mine ≡ v.mine ++ fs) × Effect v.number fs w held o.0 o.1 × (o.0.tries ≡ w.tries))

  told0 : Steps z prologue l (get_or s.words p 0) v v'
  told0 = subst (λ (k : ℕ). Steps z prologue l k v v') (get_or-take m s.words p 0 within) (landed.steps_told z s0 H.base id v mine0 prologue l can line role its permits x acts)

  homes : (hs : List (maybe.Option (Option T))) (k : ℕ) (y : maybe.Option (Option T)) → k < length hs → Changes (home_at hs) (home_at (set hs k y)) k (some y)
  homes hs k y lt = (set_here hs k y lt, λ i ne. set_else hs k i y ne)

  -- what the step is to come to, with these slots in hand
  abbrev Result : List (ℕ × Option T) → Type 0
  Result held = (w' : Beside T) × (act : Act (Option T)) × Valid s.homes held act
      × HoldsBeside z m n (stepped s p (becomes x (get_or s.words p 0)) id held w' act) × Told held (get_or s.words p 0) (w', carried_after held act)

  some_entry : (e : Entry) → es ≡ e ∷ [] → ¬ (es ≡ [])
  some_entry e is none_there = let bad : 1 ≡ 0 = ap length (sym is ∙ none_there) in absurd (omega (arith, bad))

  abbrev At : List (Deed T) → maybe.Option ℕ → List (maybe.Option (Option T)) → List Entry → Type 0
  At d h homes' fs = (r : Rides (hist ++ fs) n (flag_at m words') (home_at homes') (hand_at (set s.views id (seat_after d h)))) × (r.deeds ≡ H.rides.deeds ++ d)

  -- nothing is added, or a shut: no slot moves
  stays_put : (held : List (ℕ × Option T)) (d : List (Deed T)) (fs : List Entry) → es ≡ fs → At d hd s.homes fs → Effect v.number fs w held (seat_after d hd) held → Result held
  stays_put held d fs is r effect =
      let r' = subst (At d hd s.homes) (sym is) r in
      (seat_after d hd, keeps, tt, built d hd s.homes r'.0 r'.1, ((refl, told0), (fs, ap (λ y. v.mine ++ y) is, effect, refl)))

  by_none : (held : List (ℕ × Option T)) → es ≡ [] → Result held
  by_none held is =
      let r = rides_same hist n (flag_at m s.words) (flag_at m words') (home_at s.homes) (hand_at s.views) (hand_at (set s.views id (seat_after [] hd))) H.rides (λ i. sym (flags i)) (same_hands []) in
      let r' : At [] hd s.homes [] = subst (λ (y : List Entry). (q : Rides y n (flag_at m words') (home_at s.homes)
      (hand_at (set s.views id (seat_after [] hd)))) × (q.deeds ≡ H.rides.deeds ++ [])) (sym (append-nil hist))
      (r.0, r.1 ∙ sym (append-nil H.rides.deeds)) in
      stays_put held [] [] is r' (refl, refl, ((if sees l then fit.rest else []), grown))

  by_shut : (held : List (ℕ × Option T)) → es ≡ Shut v.number ∷ [] → Result held
  by_shut held is =
      let d = closed v.number ∷ [] in
      let one = rides_shut hist n (flag_at m s.words) (flag_at m s.words) (home_at s.homes) (home_at s.homes) (hand_at s.views)
      (hand_at s.views) id v.number H.rides (subst IsQueueRun (ap (λ y. hist ++ y) is) legal) in
      let two = rides_same (hist ++ Shut v.number ∷ []) n (flag_at m s.words) (flag_at m words') (home_at s.homes) (hand_at s.views)
      (hand_at (set s.views id (seat_after d hd))) one.0 (λ i. sym (flags i)) (same_hands d) in
      stays_put held d (Shut v.number ∷ []) is (two.0, two.1 ∙ one.1) (refl, refl, (fit.rest, all_seen d (some_entry (Shut v.number) is)))

  by_push : (y : T) → hd ≡ some a.val.body → a.val.body < n → es ≡ Push v.number a.val.body ∷ [] → Result ((a.val.body, Some y) ∷ [])
  by_push y has lt is =
      let b = a.val.body in
      let d = pushed v.number y ∷ [] in
      let homes' = set s.homes b (some (Some y)) in
      let r = rides_push hist n (flag_at m s.words) (flag_at m words') (home_at s.homes) (home_at homes') (hand_at s.views)
      (hand_at (set s.views id (seat_after d none))) id v.number H.rides b y (ap hand_in mine ∙ has)
      (subst IsQueueRun (ap (λ y. hist ++ y) is) legal)
      flags (homes s.homes b (some (Some y)) (omega (arith, lt, count))) (hands d none) in
      let r' = subst (At d none homes') (sym is) r in (
        seat_after d none,
        gives,
        tt,
        built d none homes' r'.0 r'.1,
        ((refl, told0), (Push v.number b ∷ [], ap (λ y. v.mine ++ y) is, (y, refl, refl, refl, (fit.rest, all_seen d (some_entry (Push v.number b) is))), refl)),
      )

  by_pop : (held : List (ℕ × Option T)) → hd ≡ none → es ≡ Pop v.number a.val ∷ [] → Result held
  by_pop held has_none is =
      let it = rides_pop hist n (flag_at m s.words) (home_at s.homes) (hand_at s.views) v.number H.rides a.val (subst IsQueueRun (ap (λ y. hist ++ y) is) legal) in
      let b = a.val.body in
      let d = popped v.number (item a.val.from it.0) ∷ [] in
      let homes' = set s.homes b none in
      let r = it.3 (flag_at m words') (home_at homes') (hand_at (set s.views id (seat_after d (some b)))) id (ap hand_in mine ∙ has_none) flags
      (homes s.homes b none (let lt = it.1 in omega (arith, lt, count))) (hands d (some b)) in
      let r' = subst (At d (some b) homes') (sym is) r in (
        seat_after d (some b),
        takes b (Some it.0),
        it.2,
        built d (some b) homes' r'.0 r'.1,
        ((refl, told0), (Pop v.number a.val ∷ [], ap (λ y. v.mine ++ y) is, (it.0, refl, refl, (fit.rest, all_seen d (some_entry (Pop v.number a.val) is))), refl)),
      )

  -- every line and every form of access: a push gives the slot that the seat holds, a pop takes that of the front
  pub goes_beside : (held : List (ℕ × Option T)) → (pushes_at l ≡ true → (y : T) × (held ≡ (a.val.body, Some y) ∷ []) × (hd ≡ some a.val.body) × (a.val.body < n))
      → (takes_at l ≡ true → hd ≡ none) → Result held
  goes_beside held ready bare =
      ⊎_elim (by_none held)
      (λ k1. ⊎_elim
      (λ (e : (pushes_at l ≡ true) × (es ≡ Push v.number a.val.body ∷ [])). let got = ready e.0 in subst Result (sym got.1) (by_push got.0 got.2 got.3 e.1))
      (λ k2. ⊎_elim (λ (e : (takes_at l ≡ true) × (es ≡ Pop v.number a.val ∷ [])). by_pop held (bare e.0) e.1) (by_shut held) k2) k1)
      (kinds z.setup v.number a l (found (action z.setup v.number a l) (landed.u z s0 H.base id v mine0 prologue l can line role its permits).world.shared))

-- a view with other tries, and this slot, or none, out with its seat
abbrev pub handed : {T : Type 0} → Beside T → maybe.Option ℕ → List Try → Beside T
handed w h ts = with_tries (with_hand w h) ts

-- what a step tells: what node_arena tells, and what became of the slots and of the history of values
abbrev pub ToldBeside : {T : Type 0} (z : Layout) (prologue : Prologue) (l : Line) (v : SeatView) (w : Beside T) (held : List (ℕ × Option T)) (k : ℕ) → Me (Option T) (Beside T) → Type 0
ToldBeside z prologue l v w held k o = ((o.0.plain ≡ seated (knows o.0.plain)) × Steps z prologue l k v (knows o.0.plain))
    × ((fs : List Entry) × ((knows o.0.plain).mine ≡ v.mine ++ fs) × Effect v.number fs w held o.0 o.1 × (o.0.tries ≡ w.tries))

module _ {T : Type 0} (z : Layout) (m n id : ℕ) where
  -- every step of both queues keeps the rule of the slots
  pub allows_beside : (v : SeatView) (ds : List (Deed T)) (hd : maybe.Option ℕ) (os : List (List (Deed T))) (ts : List Try) (prologue : Prologue) (l : Line)
      (x : WordStep) (role : Role) → CanStart prologue v.actor → (after_prologue z.setup v.number prologue v.actor).line ≡ Some l
      → slice_get z.roles (v.number - 1) ≡ Some role → PermitsLine role l
      → word_step z.setup.bits (action z.setup v.number (after_prologue z.setup v.number prologue v.actor) l) ≡ x → place (word_index x) < m → (held : List (ℕ × Option T))
      → (pushes_at l ≡ true → (y : T) × (held ≡ ((after_prologue z.setup v.number prologue v.actor).val.body, Some y) ∷ [])
      × (hd ≡ some (after_prologue z.setup v.number prologue v.actor).val.body)
      × ((after_prologue z.setup v.number prologue v.actor).val.body < n)) → (takes_at l ≡ true → hd ≡ none)
      → Allows {S = Option T} (HoldsBeside z m n) n id (record { plain = seated v; deeds = ds; hand = hd; others = os; tries = ts }, held) (place (word_index x))
      (becomes x) (ToldBeside z prologue l v (record { plain = seated v; deeds = ds; hand = hd; others = os; tries = ts }) held)
  allows_beside v ds hd os ts prologue l x role can line its permits acts within held ready bare s H count mine small =
      goes_beside z m n s H count id v ds hd os ts mine prologue l can line role its permits x acts within held ready bare

  abbrev same_base : (s s' : State (Option T) (Beside T)) → take m s'.words ≡ take m s.words → map plain_of s'.views ≡ map plain_of s.views → Holds z (plain_state m s) → Holds z (plain_state m s')
  same_base s s' words views h = moved z (plain_state m s) (plain_state m s') h words views

  -- a free slot is got, by its flag
  pub gets_beside : (w : Beside T) (ts : List Try) (i : ℕ) → i < n → w.hand ≡ none → (s : State (Option T) (Beside T)) (H : HoldsBeside z m n s) → length s.homes ≡ n
      → m + n ≤ length s.words → get_elem? s.views id ≡ some w → get_or s.words (m + i) 0 ≡ 0
      → (get_elem? s.homes i ≡ some (some None)) × HoldsBeside z m n (stepped s (m + i) 1 id [] (handed w (some i) ts) (takes i None))
  gets_beside w ts i lt has_none s H count long mine down =
      let w' : Beside T = handed w (some i) ts in
      let words' = set s.words (m + i) 1 in
      let homes' = set s.homes i none in
      let r = H.rides in
      let got = acquires n (flag_at m s.words) (flag_at m words') (home_at s.homes) (home_at homes') (hand_at s.views) (hand_at (set s.views id w'))
      r.pops id i r.q r.slotted lt down (ap hand_in mine ∙ has_none)
      (get_or-set_same s.words (m + i) 1 0 (omega (arith, lt, long)), λ j ne. get_or-set_other s.words (m + i) (m + j) 1 0 (λ e. ne (omega (arith, e))))
      (set_here s.homes i none (omega (arith, lt, count)), λ j ne. set_else s.homes i j none ne)
      (ap hand_in (set_there s.views id w w' mine), λ j ne. ap hand_in (set_else s.views id j w' ne)) in
      let same_views : map plain_of (set s.views id w') ≡ map plain_of s.views = map_set plain_of s.views id w' ∙ set_again (map plain_of s.views) id w.plain (at_map plain_of s.views id w mine) in (
        got.0,
        record {
          base = same_base s (record { words = words'; homes = homes'; views = set s.views id w' }) (take-set-le m s.words (m + i) 1 (omega arith)) same_views H.base;
          rides = record { deeds = r.deeds; q = r.q; pops = r.pops; shut = r.shut; leads = r.leads; runs = r.runs; matches = r.matches; slotted = got.1 };
          known = λ j o at. ⊎_elim
              (λ (e : (j ≡ id) × (w' ≡ o)). subst (Begins r.deeds) e.1 (let f = H.known id w mine in let g : Begins r.deeds w' =
              record { rest = f.rest; begins = f.begins; matches = f.matches; pair = f.pair; others = f.others } in g))
              (λ (e : (j ≢ id) × (get_elem? s.views j ≡ some o)). H.known j o e.1)
              (at_set s.views id j w' o at);
        },
      )

  -- a try that missed: nothing changes but the seat's tries
  pub misses_beside : (w : Beside T) (ts : List Try) (i : ℕ) (s : State (Option T) (Beside T)) (H : HoldsBeside z m n s) → get_elem? s.views id ≡ some w
      → HoldsBeside z m n (stepped s (m + i) (get_or s.words (m + i) 0) id [] (with_tries w ts) keeps)
  misses_beside w ts i s H mine =
      let w' : Beside T = with_tries w ts in
      let views : List (Beside T) = set s.views id w' in
      let r = rides_same H.base.trace.history n (flag_at m s.words) (flag_at m s.words) (home_at s.homes) (hand_at s.views) (hand_at views) H.rides (λ j. refl) (hand_set s.views id w w' mine refl) in
      let same_views : map plain_of views ≡ map plain_of s.views = map_set plain_of s.views id w' ∙ set_again (map plain_of s.views) id w.plain (at_map plain_of s.views id w mine) in
      let kept : HoldsBeside z m n (record { words = s.words; homes = s.homes; views = views }) = record {
        base = same_base s (record { words = s.words; homes = s.homes; views = views }) refl same_views H.base;
        rides = r.0;
        known = λ j o at. subst (λ (ds : List (Deed T)). Begins ds o) (sym r.1) (⊎_elim
            (λ (e : (j ≡ id) × (w' ≡ o)). subst (Begins H.rides.deeds) e.1 (let f = H.known id w mine in let g : Begins H.rides.deeds w' =
            record { rest = f.rest; begins = f.begins; matches = f.matches; pair = f.pair; others = f.others } in g))
            (λ (e : (j ≢ id) × (get_elem? s.views j ≡ some o)). H.known j o e.1)
            (at_set s.views id j w' o at));
      } in
      subst (λ (words : List ℕ). HoldsBeside z m n (record { words = words; homes = s.homes; views = views })) (sym (set-get_or s.words (m + i) 0)) kept

  -- an empty slot is given back
  pub frees_beside : (w : Beside T) (k : ℕ) → k < n → w.hand ≡ some k → (s : State (Option T) (Beside T)) (H : HoldsBeside z m n s)
      → length s.homes ≡ n → m + n ≤ length s.words → get_elem? s.views id ≡ some w
      → HoldsBeside z m n (stepped s (m + k) 0 id ((k, None) ∷ []) (with_hand w none) gives)
  frees_beside w k lt hand s H count long mine =
      let w' : Beside T = with_hand w none in
      let words' = set s.words (m + k) 0 in
      let homes' = set s.homes k (some None) in
      let r = H.rides in
      let same_views : map plain_of (set s.views id w') ≡ map plain_of s.views = map_set plain_of s.views id w' ∙ set_again (map plain_of s.views) id w.plain (at_map plain_of s.views id w mine) in
      record {
        base = same_base s (record { words = words'; homes = homes'; views = set s.views id w' }) (take-set-le m s.words (m + k) 0 (omega arith)) same_views H.base;
        rides = record {
          deeds = r.deeds;
          q = r.q;
          pops = r.pops;
          shut = r.shut;
          leads = r.leads;
          runs = r.runs;
          matches = r.matches;
          slotted = releases n (flag_at m s.words) (flag_at m words') (home_at s.homes) (home_at homes') (hand_at s.views)
              (hand_at (set s.views id w')) r.pops id k r.q r.slotted (ap hand_in mine ∙ hand)
              (get_or-set_same s.words (m + k) 0 0 (omega (arith, lt, long)), λ j ne. get_or-set_other s.words (m + k) (m + j) 0 0 (λ e. ne (omega (arith, e))))
              (set_here s.homes k (some None) (omega (arith, lt, count)), λ j ne. set_else s.homes k j (some None) ne)
              (ap hand_in (set_there s.views id w w' mine), λ j ne. ap hand_in (set_else s.views id j w' ne));
        };
        known = λ j o at. ⊎_elim
            (λ (e : (j ≡ id) × (w' ≡ o)). subst (Begins r.deeds) e.1 (let f = H.known id w mine in let g : Begins r.deeds w' =
            record { rest = f.rest; begins = f.begins; matches = f.matches; pair = f.pair; others = f.others } in g))
            (λ (e : (j ≢ id) × (get_elem? s.views j ≡ some o)). H.known j o e.1)
            (at_set s.views id j w' o at);
      }

-- a line whose step may push has its value ready
ready_at : {T : Type 0} (z : Layout) (l : Line) (body : ℕ) (me : Me (Option T) (Beside T)) → LoadedAt l z body me → z.carries ≡ true
    → pushes_at l ≡ true → (y : T) × (me.1 ≡ (body, Some y) ∷ []) × (me.0.hand ≡ some body) × (body < z.setup.size)
ready_at z E9 body me loaded carries e = loaded carries
ready_at z A5 body me loaded carries e = loaded carries
ready_at z l body me loaded carries e = cc

-- at a line whose step may pop no slot is out
bare_at : {T : Type 0} (z : Layout) (l : Line) (body : ℕ) (me : Me (Option T) (Beside T)) → LoadedAt l z body me → z.carries ≡ true → takes_at l ≡ true → me.0.hand ≡ none
bare_at z D13 body me loaded carries e = none_hand me.0.hand (loaded carries).1
bare_at z B5 body me loaded carries e = none_hand me.0.hand (loaded carries).1
bare_at z l body me loaded carries e = cc

module _ {T : Type 0} (z : Layout) (slots id : ℕ) (all : z.carries ≡ true → slots ≡ z.setup.size) (v : SeatView) (ds : List (Deed T))
    (hd : maybe.Option ℕ) (os : List (List (Deed T))) (ts : List Try) (held : List (ℕ × Option T)) (prologue : Prologue) (l : Line) (x : WordStep) (role : Role)
    (can : CanStart prologue v.actor) (line : (after_prologue z.setup v.number prologue v.actor).line ≡ Some l) (its : slice_get z.roles (v.number - 1) ≡ Some role) (permits : PermitsLine role l)
    (acts : word_step z.setup.bits (action z.setup v.number (after_prologue z.setup v.number prologue v.actor) l) ≡ x) (within : place (word_index x) < words_of z) where
  abbrev before : Me (Option T) (Beside T)
  before = (record { plain = seated v; deeds = ds; hand = hd; others = os; tries = ts }, held)

  -- where values are carried
  carrying : z.carries ≡ true → LoadedAt l z (after_prologue z.setup v.number prologue v.actor).val.body before
      → Allows {S = Option T} (HoldsFor z) slots id before (place (word_index x)) (becomes x) (λ n m. TellsBeside z prologue before n m)
  carrying carries loaded s h count mine small =
      let told_values : (w : Beside T) (act : Act (Option T)) (after : HoldsBeside z (words_of z) z.setup.size
      (stepped s (place (word_index x)) (becomes x (get_or s.words (place (word_index x)) 0)) id held w act)) → w.plain ≡ seated (knows w.plain)
      → get_elem? (set s.views id w) id ≡ some w → KnowsValues z (knows w.plain).seen w = λ w act after is there.
      let fit = after.known id w there in
      knows_values z (knows w.plain).seen w after.rides.deeds fit.rest (map item_of after.rides.q) after.rides.shut fit.begins after.rides.runs
      (fit.matches (knows w.plain) is) (λ i e. (after.rides.slotted.out id i (ap hand_in there ∙ e)).0) in
      let c = subst (λ (b : Bool). CarriedBy b z h.base.trace.history s) carries h.values in
      let q = goes_beside z (words_of z) z.setup.size s (record { base = h.base; rides = c.rides; known = c.known }) (count ∙ all carries) id v ds hd
      os ts mine prologue l can line role its permits x acts within held (ready_at z l _ before loaded carries) (bare_at z l _ before loaded carries) in (
        q.0,
        q.1,
        q.2,
        record {
          base = q.3.base;
          values = subst (λ (b : Bool). CarriedBy b z q.3.base.trace.history
              (stepped s (place (word_index x)) (becomes x (get_or s.words (place (word_index x)) 0)) id held q.0 q.1)) (sym carries)
              (record {
                rides = q.3.rides;
                known = q.3.known;
                long = subst (λ (k : ℕ). words_of z + z.setup.size ≤ k)
                    (sym (length-set s.words (place (word_index x)) (becomes x (get_or s.words (place (word_index x)) 0)))) c.long;
              });
        },
        (
          (ap (λ y. (y, [])) q.4.0.0, subst (λ (k : Line). Steps z prologue k (get_or s.words (place (word_index x)) 0) v (knows q.0.plain)) (sym (ap line_or_first line)) q.4.0.1),
          (q.4.1.0, q.4.1.1, subst (λ (b : Bool). EffectBy b v.number q.4.1.0 before (q.0, carried_after held q.1)) (sym carries) q.4.1.2, q.4.1.3),
          subst (λ (b : Bool). KnowsBy b z (knows q.0.plain).seen q.0) (sym carries) (told_values q.0 q.1 q.3 q.4.0.0 (set_there s.views id before.0 q.0 mine)),
        ),
      )

  -- where none are
  plainly : z.carries ≡ false → Allows {S = Option T} (HoldsFor z) slots id before (place (word_index x)) (becomes x) (λ n m. TellsBeside z prologue before n m)
  plainly carries s h count mine small =
      let q = lift_allows z slots id before.0 held (place (word_index x)) (becomes x) (λ n m. Tells z prologue (seated v, []) n m) within
      (allows_seated z id v prologue l x role can line its permits acts) s h.base count mine small in (
        q.0,
        q.1,
        q.2,
        record {
          base = q.3;
          values = subst (λ (b : Bool). CarriedBy b z q.3.trace.history
              (stepped s (place (word_index x)) (becomes x (get_or s.words (place (word_index x)) 0)) id held q.0 q.1)) (sym carries) tt;
        },
        (
          q.4.0,
          (
            _,
            q.4.0.1.mine,
            subst (λ (b : Bool). EffectBy b v.number (entries_at z.setup q.4.0.1.was v.number
                (after_prologue z.setup v.number prologue v.actor) (line_or_first (after_prologue z.setup v.number prologue v.actor).line)) before
                (q.0, carried_after held q.1)) (sym carries) (q.4.1.0, q.4.1.1, q.4.1.2),
            q.4.1.3,
          ),
          subst (λ (b : Bool). KnowsBy b z (knows q.0.plain).seen q.0) (sym carries) tt,
        ),
      )

  pub allows_either : LoadedAt l z (after_prologue z.setup v.number prologue v.actor).val.body before
      → Allows {S = Option T} (HoldsFor z) slots id before (place (word_index x)) (becomes x) (λ n m. TellsBeside z prologue before n m)
  allows_either loaded = go z.carries refl
    where
      go : (b : Bool) → z.carries ≡ b → Allows {S = Option T} (HoldsFor z) slots id before (place (word_index x)) (becomes x) (λ n m. TellsBeside z prologue before n m)
      go true e = carrying e loaded
      go false e = plainly e

-- the same at the names of a call: its table says the number of slots, and its seat the view
pub allows_as : {T : Type 0} (z key : Layout) (slots id : ℕ) (me : Me (Option T) (Beside T)) (prologue : Prologue) (l : Line) (x : WordStep)
    (role : Role) → key ≡ z → slots ≡ slots_of z → me.0.plain ≡ seated (knows me.0.plain)
    → CanStart prologue (knows me.0.plain).actor → (after_prologue z.setup (knows me.0.plain).number prologue (knows me.0.plain).actor).line ≡ Some l
    → slice_get z.roles ((knows me.0.plain).number - 1) ≡ Some role → PermitsLine role l
    → word_step z.setup.bits (action z.setup (knows me.0.plain).number (after_prologue z.setup (knows me.0.plain).number prologue
    (knows me.0.plain).actor) l) ≡ x → place (word_index x) < words_of z → LoadedAt l z
    (after_prologue z.setup (knows me.0.plain).number prologue (knows me.0.plain).actor).val.body me
    → Allows {S = Option T} (HoldsFor key) slots id me (place (word_index x)) (becomes x) (λ n m. TellsBeside key prologue me n m)
allows_as {T} z key slots id me prologue l x role same all is can line its permits acts within loaded =
    let v : SeatView = knows me.0.plain in
    let at : Me (Option T) (Beside T) = (record { plain = seated v; deeds = me.0.deeds; hand = me.0.hand; others = me.0.others; tries = me.0.tries }, me.1) in
    let back : at ≡ me = (λ i. (record { plain = sym is i; deeds = me.0.deeds; hand = me.0.hand; others = me.0.others; tries = me.0.tries }, me.1)) in
    let P : Layout × Me (Option T) (Beside T) → Type 0 = λ y. Allows {S = Option T} (HoldsFor y.0) slots id y.1 (place (word_index x)) (becomes x) (λ n m. TellsBeside y.0 prologue y.1 n m) in
    subst P (λ i. (sym same i, back i))
    (allows_either z slots id (λ c. all ∙ ap (λ (b : Bool). if b then z.setup.size else 0) c) v me.0.deeds me.0.hand me.0.others me.0.tries me.1 prologue l x role can line its permits acts within
    (subst (λ (y : Me (Option T) (Beside T)). LoadedAt l z (after_prologue z.setup v.number prologue v.actor).val.body y) (sym back) loaded))
