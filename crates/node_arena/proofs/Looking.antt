-- A look of a seat. No move of the world is made.
use Rattle.std.proofs.Common.{Bool, true, false, append-nil, ◌≡◌, ◌≢◌, ℕ, ◌+◌, ◌-◌, ◌*◌, ◌<◌, List, [], ◌++◌, length, get_or, set, slice_index}
use Rattle.std.proofs.Common.{Option, None, sym, refl, ap, ◌∙◌, subst, ⊎_elim, arith}
use Rattle.std.proofs.lemmas.List.{set-get_or}
use mathlib.Core.Option.{some}
use lib.ListN.{get_elem?}
use Rattle.atomic_table.specs.Table.{Me, Allows, keeps}
use Rattle.atomic_table.specs.declared.shared.Seat.{Seat as Token}
use Rattle.atomic_table.proofs.Lists.{at_set}
use Rattle.history.specs.declared.operations.Entry.{Entry}
use Rattle.step_machine.specs.Words.{memory_words}
use Rattle.step_machine.specs.Machine.{AnyMove}
use Rattle.node_arena.specs.Beside.{Beside, words_of, HoldsFor, KnowsNow, GrowsBy, slots_in}
use Rattle.node_arena.specs.declared.seats.Seat.{Seat}
use Rattle.node_arena.specs.Arenas.{Arena}
use Rattle.node_arena.specs.Traces.{Traced, IsTraced}
use Rattle.node_arena.specs.Prologues.{at_rest}
use Rattle.node_arena.specs.Knowledge.{SeatView, View, keeper, seated, members, knows}
use Rattle.node_arena.specs.Places.{place}
use Rattle.node_arena.specs.Plans.{Layout}
use Rattle.node_arena.specs.Rule.{LearnsRun, Holds, Fitted}
use Rattle.node_arena.proofs.PrologueTraces.{ran_all}
use Rattle.node_arena.proofs.KnownRuns.{one_of}
use Rattle.node_arena.proofs.Keeping.{learns_run, learned_more}
use Rattle.node_arena.proofs.Quiet as quiet
use Rattle.node_arena.specs.Seats.{IsReady, SeesMoreDeeds, deeds_of, view}
use Rattle.node_arena.specs.Looks.{Looks}
use Rattle.node_arena.proofs.Placed.{place_there, length-shared_words, get_or-shared_words}
use Rattle.node_arena.proofs.There.{words_there}
use Rattle.node_arena.proofs.Lifts.{HoldsWith, Learns, lift_learns}
use Rattle.node_arena.proofs.Meets.{FitsAll, both, views_now, learned, learns, one_not_two, sits_so}

-- what a look at a place tells of a seat
pub record LooksIn (z : Layout) (p n : ℕ) (v v' : SeatView) : Type 0 where
  pub was : Traced
  pub reached : IsTraced was
  pub setup : was.world.setup ≡ z.setup
  pub held : (i : ℕ) → place i ≡ p → i < 6 + 2 * z.setup.size → n ≡ slice_index (memory_words z.setup.bits was.world.shared) i
  pub rest : List Entry
  pub begins : was.history ≡ v.seen ++ rest
  pub ran : List AnyMove
  pub run : LearnsRun z v ran was
  pub knows : v' ≡ record v { seen = was.history; ran = ran }
  pub fits : Fitted z v'

-- the same of a view, and of a seat beside whose queue's numbers no slot moves
abbrev pub LooksTold : Layout → (p : ℕ) → View → ℕ → View → Type 0
LooksTold z p u n u' = (u' ≡ seated (knows u')) × LooksIn z p n (knows u) (knows u')

abbrev pub LooksBeside : {T : Type 0} → Layout → (p : ℕ) → Me (Option T) (Beside T) → ℕ → Me (Option T) (Beside T) → Type 0
LooksBeside z p me n me' = LooksTold z p me.0.plain n me'.0.plain × (me'.1 ≡ me.1) × (me'.0.hand ≡ me.0.hand) × KnowsNow z me'.0 × GrowsBy z.carries me.0 me'.0 × (me'.0.tries ≡ me.0.tries)

-- a load of a place by a seat that may rest: it has then seen the whole history
looks : (z : Layout) (es : List Entry) (id p : ℕ) (v : SeatView) → (at_rest v.actor).line ≡ None
    → Allows {S = ℕ} (HoldsWith z es) 0 id (seated v, []) p (λ n. n) (λ n m. LooksTold z p (seated v) n m.0 × Learns es m.0)
looks z es id p v free s hs none at_id fit =
    let h : Holds z s = hs.0 in
    let t : Traced = h.trace in
    let f = h.fits id 0 (seated v) v at_id refl in
    let ran : List AnyMove = h.reached.moves in
    let v' = learned t ran v in
    let P : ℕ → ℕ → SeatView → Type 0 = λ j i o. FitsAll h o × (h.owner o.number ≡ (j, i)) × (o.number < h.dealt) in
    let run = learns_run z s h v (h.ran id 0 (seated v) v at_id refl) in
    let kept = quiet.looks s.views id v v' at_id refl (learned_more z v ran t run) in
    let mine : P id 0 v' = let k = h.owned id 0 (seated v) v at_id refl in ((learns t ran v free f, ran_all ran v.number), k.0, k.1) in (
      seated v',
      keeps,
      tt,
      views_now z es s hs (set s.words p (get_or s.words p 0)) (set s.views id (seated v')) h.owner kept (set-get_or s.words p 0)
          (λ j i x o a b. ⊎_elim
          (λ (q : (j ≡ id) × (seated v' ≡ x)). let y = one_of v' o i (ap (λ (y : View). get_elem? (members y) i) q.1 ∙ b) in subst
          (λ (x : ℕ × ℕ × SeatView). P x.0 x.1 x.2) (λ c. (sym q.0 c, sym y.0 c, y.1 c)) mine)
          (λ (q : (j ≢ id) × (get_elem? s.views j ≡ some x)). let k = h.owned j i x o q.1 b in (both z s h j i x o q.1 b, k.0, k.1))
          (at_set s.views id j (seated v') x a))
          (λ j n a. ⊎_elim (λ (q : (j ≡ id) × (seated v' ≡ keeper n)). let e = q.1 in cc) (λ (q : (j ≢ id) × (get_elem? s.views j ≡ some (keeper n))). h.kept j n q.1)
          (at_set s.views id j (seated v') (keeper n) a)),
      (
        (
          refl,
          record {
            was = t;
            reached = h.reached;
            setup = h.setup;
            held = λ i at less.
                let there : i < length s.words - 42 = omega (arith, less, words_there z s h, length-shared_words s.words) in
                ap (λ q. get_or s.words q 0) (sym at) ∙ (sym (get_or-shared_words s.words i there) ∙ ap (λ ws. slice_index ws i) h.words);
            rest = f.rest;
            begins = f.begins;
            ran = ran;
            run = run;
            knows = refl;
            fits = record { trace = t; run = run.led; reached = h.reached; setup = h.setup; permitted = h.permitted; fits = mine.0.0 };
          },
        ),
        ((λ u e. ap (λ y. (knows y).seen) (sym e) ∙ hs.1), (λ u o e. absurd (one_not_two v' u o e)), hs.1),
      ),
    )

-- the same at the names of a call
looks_at : {T : Type 0} (key : Layout) (slots id p : ℕ) (me : Me (Option T) (Beside T)) → p < words_of key → me.0.plain ≡ seated (knows me.0.plain)
    → (at_rest (knows me.0.plain).actor).line ≡ None → Allows {S = Option T} (HoldsFor key) slots id me p (λ n. n) (λ n m. LooksBeside key p me n m)
looks_at key slots id p me within is free =
    lift_learns key slots id me.0 me.1 p (LooksTold key p me.0.plain) within
    (λ es. subst (λ (y : View). Allows {S = ℕ} (HoldsWith key es) 0 id (y, []) p (λ n. n) (λ n o. LooksTold key p y n o.0 × Learns es o.0)) (sym is) (looks key es id p (knows me.0.plain) free))

-- what a look asks of the table
pub asks_look : {T : Type 0} (r : Arena) (s : Seat T) (word : ℕ) → IsReady r s → word < 6 + 2 * r.plan.setup.size
    → (s.token.table_id ≡ r.id) × (place word < r.id.words) × Allows {S = Option T} (HoldsFor r.key) r.id.slots s.token.id s.token.me (place word)
    (λ n. n) (λ n m. LooksBeside r.key (place word) s.token.me n m)
asks_look r s word i less = (
  i.seat.sits.table,
  place_there r.id.words word (omega (arith, i.seat.arena.words, less)),
  looks_at r.key r.id.slots s.token.id (place word) s.token.me (subst (λ (z : Layout). place word < words_of z) (sym i.seat.arena.key)
      (place_there (words_of r.plan) word (omega (arith, less)))) i.seat.sits.seat i.free,
)

-- what is seen of values goes on, whether values are carried or not
sees_more : {T : Type 0} (s t : Seat T) (b : Bool) → GrowsBy b s.token.me.0 t.token.me.0 → SeesMoreDeeds s t
sees_more s t true g = record { between = g.0.0; deeds = g.0.1 }
sees_more s t false g = record { between = []; deeds = g ∙ sym (append-nil (deeds_of s)) }

-- what it answers
pub looked : {T : Type 0} (r : Arena) (s : Seat T) (t : Token (Option T) (Beside T)) (word p n : ℕ) → IsReady r s → word < 6 + 2 * r.plan.setup.size
    → p ≡ place word → (t.table_id ≡ s.token.table_id) × (t.id ≡ s.token.id) × LooksBeside r.key p s.token.me n t.me
    → Looks r s (record s { token = t }) word n
looked r s t word p n i less at h =
    let told : LooksIn r.plan p n (view s) (knows t.me.0.plain) = subst (λ (z : Layout). LooksIn z p n (view s) (knows t.me.0.plain)) i.seat.arena.key h.2.0.1 in
    record {
      ready = sits_so r s t (knows t.me.0.plain) i (h.0 ∙ i.seat.sits.table) h.2.0.0
          (λ c. let before = i.seat.sits.none_out c in (ap length h.2.1 ∙ before.0, ap slots_in h.2.2 ∙ before.1)) ∣ subst
          (λ (z : Layout). KnowsNow z t.me.0) i.seat.arena.key h.2.3 ∣₁ (ap (λ (v : SeatView). v.number) told.knows)
          (ap (λ (v : SeatView). v.actor) told.knows) (ap (λ (v : SeatView). v.mine) told.knows) told.fits;
      stored = record { number = refl; role = refl; keeps = refl; pocket = refl; failed = refl };
      told = record { was = told.was; reached = told.reached; setup = told.setup; held = told.held word (sym at) less; rest = told.rest; begins = told.begins; ran = told.ran; run = told.run; knows = told.knows };
      slots = record {
        same = h.2.1;
        hand = h.2.2;
        tries = h.2.5;
        number = ap (λ (v : SeatView). v.number) told.knows;
        more = sees_more s (record s { token = t }) r.key.carries h.2.4;
      };
      values = λ c. let g = subst (λ (b : Bool). GrowsBy b s.token.me.0 t.me.0) (ap (λ (z : Layout). z.carries) i.seat.arena.key ∙ c) h.2.4 in record { between = g.0.0; deeds = g.0.1 };
    }
