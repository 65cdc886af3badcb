-- One seat's step, as the table has it.
use Rattle.std.proofs.Common.{◌≡◌, ◌≢◌, ℕ, ◌^◌, ◌<◌, ◌≤◌, List, [], ◌∷◌, ◌++◌, set, sym, refl, ap, ◌∙◌, subst, ◌⊎◌, inl, inr, ⊎_elim, arith, append-nil, append_assoc}
use Rattle.std.specs.List.{All}
use Rattle.std.proofs.lemmas.List.Elements.{All-nil, All-cons, All-append}
use mathlib.Core.Option.{some}
use lib.ListN.{get_elem?}
use Rattle.atomic_table.specs.Table.{State}
use Rattle.atomic_table.proofs.Lists.{at_set}
use Rattle.history.specs.declared.operations.Entry.{Entry}
use Rattle.history.specs.Entries.{own_entries, Leads}
use Rattle.history.specs.Seats.{IsSound, IsNoted, IsPermitted}
use Rattle.ring_queue.specs.Plans.{Layout, permits_of}
use Rattle.ring_queue.specs.Knowledge.{SeatView, View, keeper, seated, members, knowing, known_by}
use Rattle.ring_queue.specs.Rule.{Stands, SeatOk, put, Ring, Run, Holds}
use Rattle.ring_queue.specs.Steps.{Rests, Learns}
use Rattle.ring_queue.specs.Paths.{Event, Step, Ran, RunsOn, accessed, added_by}
use Rattle.node_arena.specs.KnownRuns.{IsThere}
use Rattle.node_arena.proofs.KnownRuns.{one_of, set_there, seated_there, other_there}
use Rattle.ring_queue.proofs.Puts.{put_here, put_else, same_or_not}
use Rattle.ring_queue.proofs.Histories.{all_first, legal_first, all_noted_more}
use Rattle.ring_queue.proofs.Keeps.{Became, watches}

-- the rule of the queue, with this history
abbrev pub HoldsWith : Layout → List Entry → State ℕ View → Type 0
HoldsWith z es s = (h : Holds z s) × (h.ring.history ≡ es)

module _ (z : Layout) (s : State ℕ View) (h : Holds z s) (id : ℕ) (v : SeatView) (mine : get_elem? s.views id ≡ some (seated v)) where
  -- the seat is that of its number
  pub its_seat : h.seats v.number ≡ v
  its_seat = h.fits id 0 (seated v) v mine refl

  -- each seat that made an access is still there, once this one has made one
  pub there_on : (v' : SeatView) → v'.number ≡ v.number → (e : Event) (n : ℕ) → IsThere knowing (set s.views id (seated v')) (accessed h.run.trace v.number e) n
  there_on v' same e n = same_or_not n v.number
      (λ (is : n ≡ v.number). inr (v', seated_there knowing (set s.views id (seated v')) id v' (set_there s.views id (seated v) (seated v') mine), same ∙ sym is))
      (λ (ne : n ≢ v.number). other_there knowing s.views id v v' mine h.run.trace (accessed h.run.trace v.number e) n ne
      (λ none. record {
        rest = none.rest ++ record { by = v.number; event = e } ∷ [];
        begins = ap (λ es. es ++ record { by = v.number; event = e } ∷ []) none.begins;
        others = All-append (λ (x : Step). x.by ≢ n) none.rest (record { by = v.number; event = e } ∷ []) none.others
            (All-cons (λ (x : Step). x.by ≢ n) (record { by = v.number; event = e }) [] (λ q. ne (sym q)) (All-nil (λ (x : Step). x.by ≢ n)));
      }) (h.there n))

  -- one seat's view changes, and with it the ring
  abbrev pub one_seat : (v' : SeatView) (words : List ℕ) → v'.number ≡ v.number → (ring : Ring z words (put h.seats v.number v')) → (run : Run z words (put h.seats v.number v') ring.history)
      → (e : Event) → run.trace ≡ accessed h.run.trace v.number e
      → Holds z record { words = words; homes = s.homes; views = set s.views id (seated v') }
  one_seat v' words same ring run e more =
      let P : ℕ → ℕ → SeatView → Type 0 = λ j i u. (put h.seats v.number v' u.number ≡ u) × (h.owner u.number ≡ (j, i)) × (u.number < h.dealt) in
      let own = h.owned id 0 (seated v) v mine refl in
      let here : P id 0 v' = (put_here h.seats v.number v'.number v' same, ap h.owner same ∙ own.0, subst (λ (k : ℕ). k < h.dealt) (sym same) own.1) in
      let all : (j i : ℕ) (u : View) (o : SeatView) → get_elem? (set s.views id (seated v')) j ≡ some u → get_elem? (members u) i ≡ some o → P j i o = λ j i u o there which.
      ⊎_elim
      (λ (q : (j ≡ id) × (seated v' ≡ u)).
      let one = one_of v' o i (ap (λ (y : View). get_elem? (members y) i) q.1 ∙ which) in subst (λ (y : ℕ × ℕ × SeatView). P y.0 y.1 y.2) (λ c. (sym q.0 c, sym one.0 c, one.1 c)) here)
      (λ (q : (j ≢ id) × (get_elem? s.views j ≡ some u)).
      let theirs = h.owned j i u o q.1 which in
      let apart : o.number ≢ v.number = λ e. q.0 (ap (λ (y : ℕ × ℕ). y.0) (sym theirs.0 ∙ (ap h.owner e ∙ own.0))) in
      (put_else h.seats v.number o.number v' apart ∙ h.fits j i u o q.1 which, theirs.0, theirs.1))
      (at_set s.views id j (seated v') u there) in
      record {
        seats = put h.seats v.number v';
        ring = ring;
        run = run;
        dealt = h.dealt;
        home = h.home;
        owner = h.owner;
        fits = λ j i u o a b. (all j i u o a b).0;
        owned = λ j i u o a b. let q = all j i u o a b in (q.1, q.2);
        kept = λ j m n there. ⊎_elim (λ (q : (j ≡ id) × (seated v' ≡ keeper m n)). let e = q.1 in cc)
            (λ (q : (j ≢ id) × (get_elem? s.views j ≡ some (keeper m n))). h.kept j m n q.1) (at_set s.views id j (seated v') (keeper m n) there);
        undealt = λ n over. put_else h.seats v.number n v' (λ e. let lt = own.1 in omega (arith, lt, over, e)) ∙ h.undealt n over;
        there = λ n. subst (λ (es : List Step). IsThere knowing (set s.views id (seated v')) es n) (sym more) (there_on v' same e n);
      }

module _ (z : Layout) (words : List ℕ) (seats : ℕ → SeatView) (r : Ring z words seats) (v : SeatView) (is : seats v.number ≡ v) where
  -- what the ring knows of a seat
  pub it_fits : SeatOk z r.head r.tail r.log r.cells r.history v.number v
  it_fits = subst (SeatOk z r.head r.tail r.log r.cells r.history v.number) is (r.each_seat v.number)

  -- what it knows is sound
  pub it_is_sound : IsSound (permits_of z) (known_by v)
  it_is_sound =
      let f = it_fits in
      record {
        legal = legal_first v.seen f.rest (record { values = r.values; shut = r.shut }, subst (λ es. Leads es r.shut r.values) f.begins r.leads);
        permitted = all_first (IsPermitted (permits_of z)) v.seen f.rest (subst (All (IsPermitted (permits_of z))) f.begins r.permitted);
        own = f.known;
        noted = f.noted;
      }

  -- its notes stay right of the whole history
  pub notes_stay : All (IsNoted r.history) v.notes
  notes_stay = let f = it_fits in subst (λ es. All (IsNoted es) v.notes) (sym f.begins) (all_noted_more v.seen f.rest v.notes f.noted)

  -- a seat that has seen the whole history
  pub saw_all : (v' : SeatView) → v'.number ≡ v.number → v'.seen ≡ r.history → v'.mine ≡ v.mine → All (IsNoted r.history) v'.notes → v'.head ≤ r.head → v'.tail ≤ r.tail
      → Stands z.slots r.head r.tail r.log r.cells v' v'.stage
      → SeatOk z r.head r.tail r.log r.cells r.history v.number v'
  saw_all v' number seen mine noted behind under stands =
      let f = it_fits in
      record {
        number = number;
        behind = behind;
        under = under;
        rest = [];
        begins = sym (append-nil v'.seen ∙ seen);
        own = f.own ∙ sym mine;
        known = ap (own_entries v.number) seen ∙ (f.own ∙ sym mine);
        noted = subst (λ es. All (IsNoted es) v'.notes) (sym seen) noted;
        stage = stands;
      }

  -- a step that changes no word, of a seat that has claimed no place, keeps the ring
  pub looks : (v' : SeatView) → Rests v.stage → SeatOk z r.head r.tail r.log r.cells r.history v.number v' → Became z words (put seats v.number v') r.history
  looks v' rested ok = watches z words seats r v.number v' (subst (λ (u : SeatView). Rests u.stage) (sym is) rested) ok

-- a step added nothing, or all of these, to the history and to its seat's own entries; the seat has seen all, or added nothing and
-- has seen what it had; and it knows of the whole run, and of its access
pub record Extends (run : List Step) (all history : List Entry) (v : SeatView) (history' : List Entry) (v' : SeatView) : Type 0 where
  pub added : List Entry
  pub which : (added ≡ []) ⊎ (added ≡ all)
  pub grown : history' ≡ history ++ added
  pub own : v'.mine ≡ v.mine ++ added
  pub seen : (v'.seen ≡ history') ⊎ ((added ≡ []) × (v'.seen ≡ v.seen))
  pub event : Event
  pub ran : v'.ran ≡ accessed run v.number event

-- a step that adds nothing, of a seat that has then seen all
pub adds_none : (run : List Step) (all history : List Entry) (v : SeatView) (history' : List Entry) (v' : SeatView) (e : Event) → history' ≡ history
    → v'.mine ≡ v.mine → v'.seen ≡ history → v'.ran ≡ accessed run v.number e
    → Extends run all history v history' v'
adds_none run all history v history' v' e same own seen ran = record {
  added = [];
  which = inl refl;
  grown = same ∙ sym (append-nil history);
  own = own ∙ sym (append-nil v.mine);
  seen = inl (seen ∙ sym same);
  event = e;
  ran = ran;
}

-- what took its effect with one access more
pub added_more : (es : List Step) (e : Step) → added_by (es ++ e ∷ []) ≡ added_by es ++ e.event.adds
added_more [] e = append-nil e.event.adds
added_more (x ∷ xs) e = ap (λ es. x.event.adds ++ es) (added_more xs e) ∙ sym (append_assoc x.event.adds (added_by xs) e.event.adds)

-- so a history goes on with an access
pub sees_on : (run : List Step) (history : List Entry) → history ≡ added_by run → (me : ℕ) (e : Event) → history ++ e.adds ≡ added_by (accessed run me e)
sees_on run history whole me e = ap (λ es. es ++ e.adds) whole ∙ sym (added_more run (record { by = me; event = e }))

-- what a seat knows of the run once it has made an access
pub runs_on : (run : List Step) (me : ℕ) (ran : List Step) → Ran run me ran → (e : Event) → RunsOn me ran e (accessed run me e)
runs_on run me ran knew e = record { before = run; knew = knew; ends = refl }

-- neither a seat's head nor its tail is beyond the limit
pub places_below : (z : Layout) (words : List ℕ) (seats : ℕ → SeatView) → Ring z words seats → (n : ℕ) → ((seats n).head < 2 ^ 62) × ((seats n).tail < 2 ^ 62)
places_below z words seats r n =
    let seat = r.each_seat n in
    let behind = seat.behind in
    let under = seat.under in
    let counted = r.counted in
    let limited = r.limited in
    let planned = r.planned in
    let limit = planned.limited in
    (omega (arith, behind, counted, limited, limit), omega (arith, under, limited, limit))

-- a seat has learned at its step
pub learns : (z : Layout) (words : List ℕ) (seats : ℕ → SeatView) (v v' : SeatView) → v'.number ≡ v.number → Ring z words (put seats v.number v') → Learns z v v'
learns z words seats v v' number r =
    let below = subst (λ (u : SeatView). (u.head < 2 ^ 62) × (u.tail < 2 ^ 62)) (put_here seats v.number v'.number v' number) (places_below z words (put seats v.number v') r v'.number) in
    record {
      number = number;
      below = below.0;
      tail_below = below.1;
      sound = it_is_sound z words (put seats v.number v') r v' (put_here seats v.number v'.number v' number);
    }
