-- A token that gathers those of seats that are closed. No move of the world is made.
use Rattle.std.proofs.Common.{◌≡◌, ◌≢◌, ℕ, ◌+◌, ◌-◌, ◌*◌, ◌<◌, arith, List, [], ◌∷◌, ◌++◌, length, map, get_or, set, slice_index, Option, sym, refl, ap, ◌∙◌, subst, ⊎_elim}
use mathlib.Core.Option.{some, none}
use Rattle.std.proofs.lemmas.List.Elements.{All-nil, All-cons, All-append}
use mathlib.Core.List.{map-append, IsPrefix}
use lib.ListN.{get_elem?}
use Rattle.atomic_table.specs.Table.{Me, Joins, Enters}
use Rattle.atomic_table.specs.Seated.{TableId}
use Rattle.atomic_table.specs.declared.shared.Seat.{Seat as Token}
use Rattle.atomic_table.proofs.Lists.{at_set, set_else}
use Rattle.node_arena.specs.Beside.{Beside, words_of, HoldsFor, AllBegin, both_beside, knows_nothing, OpensBeside}
use Rattle.node_arena.specs.Deeds.{Deed}
use Rattle.history.specs.declared.operations.Entry.{Entry}
use Rattle.node_arena.proofs.Lifts.{HoldsWith, at_end, none_hand, lift_joins, lift_enters}
use Rattle.node_arena.specs.declared.seats.Seat.{Seat}
use Rattle.node_arena.specs.Traces.{changed}
use Rattle.node_arena.specs.Knowledge.{SeatView, View, keeper, gathered, seated, paired, spent, members, both_of}
use Rattle.node_arena.specs.Places.{place}
use Rattle.node_arena.specs.Plans.{Layout, IsTable}
use Rattle.node_arena.specs.Rule.{Holds, Opens}
use Rattle.node_arena.specs.Moments.{WasWord}
use Rattle.node_arena.specs.Seats.{view, deeds_of}
use Rattle.node_arena.specs.Ends.{HasToken, HasGathered}
use Rattle.node_arena.proofs.Placed.{place_there, length-shared_words, get_or-shared_words}
use Rattle.node_arena.proofs.There.{words_there}
use Rattle.node_arena.proofs.Tracing.{changed_here, changed_else}
use Rattle.node_arena.proofs.KnownRuns.{no_one}
use Rattle.node_arena.proofs.Quiet as quiet
use Rattle.node_arena.proofs.Meets.{FitsAll, both, views_now}

-- a token that gathers takes in one of a seat
gathers : (z : Layout) (es : List Entry) (id other : ℕ) (vs : List SeatView) (w : SeatView) → Joins {S = ℕ} (HoldsWith z es) id (gathered vs) other (seated w) (gathered (vs ++ w ∷ [])) spent
gathers z es id other vs w s hs at_id ne at_other =
    let h : Holds z s = hs.0 in
    let all : View = gathered (vs ++ w ∷ []) in
    let there : get_elem? s.views other ≡ some (seated w) = sym (set_else s.views id other all ne) ∙ at_other in
    let l : ℕ = length vs in
    let own : ℕ → ℕ × ℕ = changed h.owner w.number (id, l) in
    let ow = h.owned other 0 (seated w) w there refl in
    let P : ℕ → ℕ → SeatView → Type 0 = λ j i o. FitsAll h o × (own o.number ≡ (j, i)) × (o.number < h.dealt) in
    let old : (j i : ℕ) (u : View) (o : SeatView) → j ≢ other → get_elem? s.views j ≡ some u → get_elem? (members u) i ≡ some o → P j i o = λ j i u o far a b.
    let k = h.owned j i u o a b in (both z s h j i u o a b, changed_else h.owner w.number (id, l) o.number (λ e. far (ap (λ (y : ℕ × ℕ). y.0) (sym k.0 ∙ (ap h.owner e ∙ ow.0)))) ∙ k.0, k.1) in
    let new : P id l w = (both z s h other 0 (seated w) w there refl, changed_here h.owner w.number (id, l), ow.1) in
    views_now z es s hs s.words (set (set s.views id all) other spent) own (quiet.gathers s.views id other vs w at_id ne there) refl
    (λ j i u o a b. ⊎_elim
    (λ (t : (j ≡ other) × (spent ≡ u)). no_one o i (ap (λ (y : View). get_elem? (members y) i) t.1 ∙ b))
    (λ (t : (j ≢ other) × (get_elem? (set s.views id all) j ≡ some u)). ⊎_elim
    (λ (q : (j ≡ id) × (all ≡ u)). subst (λ x. P x i o) (sym q.0) (⊎_elim
    (λ (y : get_elem? vs i ≡ some o). old id i (gathered vs) o (λ e. ne (sym e)) at_id y)
    (λ (y : (i ≡ l) × (w ≡ o)). subst (λ (x : ℕ × SeatView). P id x.0 x.1) (λ c. (sym y.0 c, y.1 c)) new)
    (at_end vs w o i (ap (λ (y : View). get_elem? (members y) i) q.1 ∙ b))))
    (λ (q : (j ≢ id) × (get_elem? s.views j ≡ some u)). old j i u o t.0 q.1 b)
    (at_set s.views id j all u t.1))
    (at_set (set s.views id all) other j spent u a))
    (λ j m a. ⊎_elim (λ (t : (j ≡ other) × (spent ≡ keeper m)). let e = t.1 in cc)
    (λ (t : (j ≢ other) × (get_elem? (set s.views id all) j ≡ some (keeper m))). ⊎_elim
    (λ (q : (j ≡ id) × (all ≡ keeper m)). let e = q.1 in cc)
    (λ (q : (j ≢ id) × (get_elem? s.views j ≡ some (keeper m))). h.kept j m q.1)
    (at_set s.views id j all (keeper m) t.1))
    (at_set (set s.views id all) other j spent (keeper m) a))

-- a new token gathers
pub enters : (key : Layout) (es : List Entry) (slots word : ℕ) → Enters {S = ℕ} (HoldsWith key es) slots word (λ n w. Opens (w, []))
enters key es slots word s hs empty fit = let h : Holds key s = hs.0 in (
  gathered [],
  views_now key es s hs s.words (s.views ++ gathered [] ∷ []) h.owner (quiet.opens s.views (gathered [])) refl
      (λ j i u o a b. ⊎_elim
      (λ (t : get_elem? s.views j ≡ some u). let k = h.owned j i u o t b in (both key s h j i u o t b, k.0, k.1))
      (λ (t : (j ≡ length s.views) × (gathered [] ≡ u)). no_one o i (ap (λ (y : View). get_elem? (members y) i) t.1 ∙ b))
      (at_end s.views (gathered []) u j a))
      (λ j n a. ⊎_elim
      (λ (t : get_elem? s.views j ≡ some (keeper n)). h.kept j n t)
      (λ (t : (j ≡ length s.views) × (gathered [] ≡ keeper n)). let e = t.1 in cc)
      (at_end s.views (gathered []) (keeper n) j a)),
  refl,
)

none_seated : (v : SeatView) → gathered [] ≡ seated v → ⊥
none_seated v e = cc

none_paired : (v u : SeatView) → gathered [] ≡ paired v u → ⊥
none_paired v u e = cc

-- the same of views that know of values
pub enters_beside : {T : Type 0} (key : Layout) (slots : ℕ) → Enters {S = Option T} (HoldsFor key) slots 0 (λ n w. OpensBeside (w, []))
enters_beside key slots = lift_enters key slots 0 (λ n w. Opens (w, [])) (omega arith)
    (λ es s hs empty fit. let q = enters key es 0 0 s hs empty fit in (
      q.0,
      q.1,
      (
        q.2,
        (λ v e. none_seated v (sym (ap (λ (y : Me ℕ View). y.0) q.2) ∙ e)),
        (λ v u e. none_paired v u
            (sym (ap (λ (y : Me ℕ View). y.0) q.2) ∙ e)),
      ),
    ))

-- an index below the number of words is that of one of them, which has a place in the table
pub look_there : (z key : Layout) (t : TableId) (word size : ℕ) → IsTable z key t → size ≡ z.setup.size → word < 6 + 2 * size → place word < t.words
look_there z key t word size h same less = place_there t.words word (omega (arith, h.words, same, less))

-- the word that lies at a place held this number at some moment
abbrev pub WasAt : Layout → (p n : ℕ) → Type 0
WasAt z p n = (i : ℕ) → place i ≡ p → i < 6 + 2 * z.setup.size → WasWord z i n

-- a new token for a look at a place, where a word of a world then lies
pub peeks : (key : Layout) (es : List Entry) (slots p : ℕ) → Enters {S = ℕ} (HoldsWith key es) slots p (λ n w. WasAt key p n × ((v : SeatView) → w ≢ seated v) × ((v u : SeatView) → w ≢ paired v u))
peeks key es slots p s hs empty fit =
    let h : Holds key s = hs.0 in
    let new = enters key es slots p s hs empty fit in (
      new.0,
      new.1,
      (
        λ i at less.
            let there : i < length s.words - 42 = omega (arith, less, words_there key s h, length-shared_words s.words) in
            record {
              was = h.trace;
              reached = h.reached;
              setup = h.setup;
              peopled = h.actors;
              held = ap (λ q. get_or s.words q 0) (sym at) ∙
                  (sym (get_or-shared_words s.words i there) ∙ ap (λ ws. slice_index ws i) h.words);
            },
        (λ v e. none_seated v (sym (ap (λ (y : Me ℕ View). y.0) new.2) ∙ e)),
        (λ v u e. none_paired v u (sym (ap (λ (y : Me ℕ View). y.0) new.2) ∙ e)),
      ),
    )

-- it lies among the words of the queue
pub look_within : (z : Layout) (word size : ℕ) → size ≡ z.setup.size → word < 6 + 2 * size → place word < words_of z
look_within z word size same less = place_there (words_of z) word (omega (arith, same, less))

-- the same of a table with slots
pub peeks_beside : {T : Type 0} (z key : Layout) (slots p : ℕ) → key ≡ z → p < words_of z → Enters {S = Option T} (HoldsFor key) slots p (λ n w. WasAt key p n)
peeks_beside z key slots p same there = lift_enters key slots p (λ n w. WasAt key p n) (subst (λ (y : Layout). p < words_of y) (sym same) there) (λ es. peeks key es 0 p)

-- the same in words of the plan
pub held_at : (z key : Layout) (t : TableId) (p word size n : ℕ) → IsTable z key t → p ≡ place word → size ≡ z.setup.size → word < 6 + 2 * size → WasAt key p n → WasWord z word n
held_at z key t p word size n h at same less was = subst (λ y. WasWord y word n) h.key (was word (sym at) (omega (arith, ap (λ (y : Layout). y.setup.size) h.key, same, less)))

-- the same of views that know of values, at the names of a call
pub gathers_at : {T : Type 0} (key : Layout) (id other : ℕ) (vs : List SeatView) (me him : Me (Option T) (Beside T)) (w : SeatView)
    → me.0.plain ≡ gathered vs → him.0.plain ≡ seated w → him.0.hand ≡ none → Joins {S = Option T} (HoldsFor key) id me.0 other him.0
    (both_beside me.0 him.0) knows_nothing
gathers_at key id other vs me him w is his none_out = lift_joins key id other me.0 him.0 (both_beside me.0 him.0) knows_nothing
    (λ es. subst (λ (y : View × View). Joins {S = ℕ} (HoldsWith key es) id y.0 other y.1 (both_of y.0 y.1) spent) (λ i. (sym is i, sym his i)) (gathers key es id other vs w)) refl (sym none_out)
    (λ ds b his_own. (
      record {
        rest = b.rest;
        begins = b.begins;
        matches = λ v e. cc;
        pair = λ v u e y. cc;
        others =
            ((his_own.rest, his_own.begins), b.others);
      },
      record { rest = ds; begins = refl; matches = λ v e. cc; pair = λ v u e y. cc; others = tt },
    ))

-- the same of a token that gathers, and of a seat that brings its own
pub gathers_token : {T : Type 0} (key : Layout) (t : TableId) (k : Token (Option T) (Beside T)) (s : Seat T) (seats : List (Seat T))
    → HasGathered t k seats → HasToken t s → Joins {S = Option T} (HoldsFor key) k.id k.me.0 s.token.id s.token.me.0 (both_beside k.me.0 s.token.me.0)
    knows_nothing
gathers_token key t k s seats g has = gathers_at key k.id s.token.id (map view seats) k.me s.token.me (view s) g.seat has.seat (none_hand s.token.me.0.hand has.none_out.1)

-- a token that took in one more
pub took_in : {T : Type 0} (t : TableId) (k k' : Token (Option T) (Beside T)) (seats : List (Seat T)) (s : Seat T) → HasGathered t k seats
    → HasToken t s → k'.table_id ≡ k.table_id → k'.me ≡ (both_beside k.me.0 s.token.me.0, k.me.1) → HasGathered t k' (seats ++ s ∷ [])
took_in {T} t k k' seats s g has same is =
    record {
      table = same ∙ g.table;
      seat = ap (λ y. y.0.plain) is ∙ (λ i. both_of (g.seat i) (has.seat i)) ∙ ap gathered (sym (map-append view seats (s ∷ [])));
      held = ap (λ y. y.1) is ∙ g.held;
      others = λ ds all.
          let both : AllBegin (deeds_of s ∷ k.me.0.others) ds = subst (λ (o : List (List (Deed T))). AllBegin o ds) (ap (λ y. y.0.others) is) all in
          let P : Seat T → Type 0 = λ x. IsPrefix (deeds_of x) ds in
          All-append P seats (s ∷ []) (g.others ds both.1) (All-cons P s [] (both.0.0, sym both.0.1) (All-nil P));
    }

-- a new token has taken in none
pub took_none : {T : Type 0} (t : TableId) (k : Token (Option T) (Beside T)) → k.table_id ≡ t → k.me.1 ≡ [] → OpensBeside k.me → HasGathered t k []
took_none {T} t k table held opened = record { table = table; seat = ap (λ y. y.0) opened; held = held; others = λ ds all. All-nil (λ (x : Seat T). IsPrefix (deeds_of x) ds) }
