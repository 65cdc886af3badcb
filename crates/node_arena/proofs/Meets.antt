-- Seats that meet. No move of the world is made.
use Rattle.std.proofs.Common.{◌≡◌, ◌≢◌, ℕ, ◌+◌, ◌<◌, Bool, true, false, take, None, List, [], ◌∷◌, ◌++◌, Option, length, map, get_or, set}
use Rattle.std.proofs.Common.{sym, refl, ap, ◌∙◌, subst, ⊎_elim, arith, append-nil, nat_lt}
use Rattle.std.proofs.lemmas.List.{set-get_or, length-set}
use mathlib.Core.Option.{some, none}
use lib.ListN.{get_elem?}
use Rattle.atomic_table.specs.Table.{State, Me, Act, keeps, Valid, carried_after, stepped, Splits, Joins, Allows}
use Rattle.atomic_table.proofs.Lists.{at_set, at_map, set_else, set_again}
use Rattle.std.proofs.lemmas.List.{get_or-take}
use Rattle.std.proofs.Math.Seq.{take-set-lt}
use Rattle.history.specs.declared.operations.Entry.{Entry}
use Rattle.node_arena.specs.Deeds.{Deed, Matches}
use Rattle.node_arena.specs.Slots.{item_of}
use Rattle.history.specs.Entries.{is_push, is_pop, is_shut}
use Rattle.history.specs.Seats.{IsNoted}
use Rattle.step_machine.specs.Machine.{AnyMove}
use Rattle.node_arena.specs.Traces.{Traced, changed}
use Rattle.node_arena.specs.Knowledge.{SeatView, View, keeper, seated, paired, spent, members, knows, knows_second, both_of, first_of, second_of}
use Rattle.node_arena.specs.Places.{shared_words}
use Rattle.node_arena.specs.Plans.{Layout}
use Rattle.node_arena.specs.Rule.{knowing, Ran, Keeps, Fits, Holds, Fitted, Met}
use Rattle.node_arena.proofs.PrologueTraces.{ran_all}
use Rattle.node_arena.proofs.KnownRuns.{one_of, two_of, no_one, there_kept}
use Rattle.node_arena.proofs.Keeping.{learns_run, learned_more}
use Rattle.node_arena.proofs.Quiet as quiet
use Rattle.std.specs.List.{All, count_by}
use Rattle.std.proofs.lemmas.List.Elements.{All-weaker}
use Rattle.atomic_table.specs.declared.shared.Seat.{Seat as Token}
use Rattle.node_arena.specs.Beside.{Beside, plain_me, words_of, HoldsFor, plain_of, plain_state, Begins, Carried, CarriedBy, left_as_it_is}
use Rattle.node_arena.specs.Beside.{knows_nothing, both_beside, first_beside_of, second_beside_of, MeetsBeside, HasNone, KnowsBy, KnowsNow, GrowsBy}
use Rattle.node_arena.specs.Beside.{hand_in, slots_in}
use Rattle.node_arena.specs.Arenas.{Arena}
use Rattle.node_arena.specs.declared.seats.Seat.{Seat}
use Rattle.node_arena.specs.Prologues.{at_rest}
use Rattle.node_arena.specs.Seats.{IsReady, Meets, view}
use Rattle.node_arena.proofs.Tracing.{changed_here, changed_else}
use Rattle.node_arena.proofs.Empties.{noted_more, saw_at_rest}
use Rattle.node_arena.proofs.Lifts.{HoldsWith, at_end, none_moved, map_set, moved, hand_set, recarried, lift_splits, lift_joins}
use Rattle.node_arena.proofs.KnownValues.{knows_values, knows_parted}

-- a seat fits the world of the rule, and knows a beginning of its moves
abbrev pub FitsAll : {z : Layout} {s : State ℕ View} → Holds z s → SeatView → Type 0
FitsAll h o = Fits h.trace o × Ran h.reached.moves o.number o.ran

-- the same of each seat of the table
pub both : (z : Layout) (s : State ℕ View) (h : Holds z s) (j i : ℕ) (u : View) (o : SeatView) → get_elem? s.views j ≡ some u → get_elem? (members u) i ≡ some o → FitsAll h o
both z s h j i u o a b = (h.fits j i u o a b, h.ran j i u o a b)

-- the views change, and each actor that they speak of keeps its place in `own`
pub views_now : (z : Layout) (es : List Entry) (s : State ℕ View) (hs : HoldsWith z es s) (words : List ℕ) (views : List View) (own : ℕ → ℕ × ℕ) → Keeps s.views views → words ≡ s.words
    → ((j i : ℕ) (u : View) (o : SeatView) → get_elem? views j ≡ some u → get_elem? (members u) i ≡ some o → FitsAll hs.0 o × (own o.number ≡ (j, i)) × (o.number < hs.0.dealt))
    → ((j n : ℕ) → get_elem? views j ≡ some (keeper n) → (j ≡ hs.0.home) × (n ≡ hs.0.dealt))
    → HoldsWith z es record { words = words; homes = s.homes; views = views }
views_now z es s hs words views own kept same all some_keeper =
    let h : Holds z s = hs.0 in (
      record {
        sized = h.sized;
        trace = h.trace;
        reached = h.reached;
        setup = h.setup;
        actors = h.actors;
        words = ap shared_words same ∙ h.words;
        permitted = h.permitted;
        dealt = h.dealt;
        home = h.home;
        owner = own;
        fits = λ j i u o a b. (all j i u o a b).0.0;
        owned = λ j i u o a b. let t = all j i u o a b in (t.1, t.2);
        kept = some_keeper;
        undealt = h.undealt;
        peopled = h.peopled;
        ran = λ j i u o a b. (all j i u o a b).0.1;
        unmoved = h.unmoved;
        there = λ n. there_kept knowing s.views views h.reached.moves kept n (h.there n);
      },
      hs.1,
    )

-- two seats become one
pub pairs : (z : Layout) (es : List Entry) (id other : ℕ) (v w : SeatView) → Joins {S = ℕ} (HoldsWith z es) id (seated v) other (seated w) (paired v w) spent
pairs z es id other v w s hs at_id ne at_other =
    let h : Holds z s = hs.0 in
    let there : get_elem? s.views other ≡ some (seated w) = sym (set_else s.views id other (paired v w) ne) ∙ at_other in
    let own : ℕ → ℕ × ℕ = changed h.owner w.number (id, 1) in
    let ov = h.owned id 0 (seated v) v at_id refl in
    let ow = h.owned other 0 (seated w) w there refl in
    let P : ℕ → ℕ → SeatView → Type 0 = λ j i o. FitsAll h o × (own o.number ≡ (j, i)) × (o.number < h.dealt) in
    let differ : v.number ≢ w.number = λ e. ne (ap (λ (y : ℕ × ℕ). y.0) (sym ow.0 ∙ (ap h.owner (sym e) ∙ ov.0))) in
    let first : P id 0 v = (both z s h id 0 (seated v) v at_id refl, changed_else h.owner w.number (id, 1) v.number differ ∙ ov.0, ov.1) in
    let second : P id 1 w = (both z s h other 0 (seated w) w there refl, changed_here h.owner w.number (id, 1), ow.1) in
    views_now z es s hs s.words (set (set s.views id (paired v w)) other spent) own (quiet.pairs s.views id other v w at_id ne there) refl
    (λ j i u o a b. ⊎_elim
    (λ (t : (j ≡ other) × (spent ≡ u)). no_one o i (ap (λ (y : View). get_elem? (members y) i) t.1 ∙ b))
    (λ (t : (j ≢ other) × (get_elem? (set s.views id (paired v w)) j ≡ some u)). ⊎_elim
    (λ (q : (j ≡ id) × (paired v w ≡ u)). subst (λ x. P x i o) (sym q.0) (⊎_elim
    (λ (y : (i ≡ 0) × (v ≡ o)). subst (λ (x : ℕ × SeatView). P id x.0 x.1) (λ c. (sym y.0 c, y.1 c)) first)
    (λ (y : (i ≡ 1) × (w ≡ o)). subst (λ (x : ℕ × SeatView). P id x.0 x.1) (λ c. (sym y.0 c, y.1 c)) second)
    (two_of v w o i (ap (λ (y : View). get_elem? (members y) i) q.1 ∙ b))))
    (λ (q : (j ≢ id) × (get_elem? s.views j ≡ some u)). let k = h.owned j i u o q.1 b in
    (both z s h j i u o q.1 b, changed_else h.owner w.number (id, 1) o.number (λ e. t.0 (ap (λ (y : ℕ × ℕ). y.0) (sym k.0 ∙ (ap h.owner e ∙ ow.0)))) ∙ k.0, k.1))
    (at_set s.views id j (paired v w) u t.1))
    (at_set (set s.views id (paired v w)) other j spent u a))
    (λ j n a. ⊎_elim (λ (t : (j ≡ other) × (spent ≡ keeper n)). let e = t.1 in cc)
    (λ (t : (j ≢ other) × (get_elem? (set s.views id (paired v w)) j ≡ some (keeper n))). ⊎_elim (λ (q : (j ≡ id) × (paired v w ≡ keeper n)). let e = q.1 in cc)
    (λ (q : (j ≢ id) × (get_elem? s.views j ≡ some (keeper n))). h.kept j n q.1)
    (at_set s.views id j (paired v w) (keeper n) t.1))
    (at_set (set s.views id (paired v w)) other j spent (keeper n) a))

-- one seat becomes two
pub parts : (z : Layout) (es : List Entry) (id : ℕ) (v w : SeatView) → Splits {S = ℕ} (HoldsWith z es) id (paired v w) (seated v) (seated w)
parts z es id v w s hs at_id =
    let h : Holds z s = hs.0 in
    let l : ℕ = length (set s.views id (seated v)) in
    let own : ℕ → ℕ × ℕ = changed h.owner w.number (l, 0) in
    let ov = h.owned id 0 (paired v w) v at_id refl in
    let ow = h.owned id 1 (paired v w) w at_id refl in
    let P : ℕ → ℕ → SeatView → Type 0 = λ j i o. FitsAll h o × (own o.number ≡ (j, i)) × (o.number < h.dealt) in
    let differ : v.number ≢ w.number = λ e. let f = ap (λ (y : ℕ × ℕ). y.1) (sym ow.0 ∙ (ap h.owner (sym e) ∙ ov.0)) in omega arith in
    let first : P id 0 v = (both z s h id 0 (paired v w) v at_id refl, changed_else h.owner w.number (l, 0) v.number differ ∙ ov.0, ov.1) in
    let second : P l 0 w = (both z s h id 1 (paired v w) w at_id refl, changed_here h.owner w.number (l, 0), ow.1) in
    views_now z es s hs s.words (set s.views id (seated v) ++ seated w ∷ []) own (quiet.parts s.views id v w at_id) refl
    (λ j i u o a b. ⊎_elim
    (λ (t : get_elem? (set s.views id (seated v)) j ≡ some u). ⊎_elim
    (λ (q : (j ≡ id) × (seated v ≡ u)). let y = one_of v o i (ap (λ (y : View). get_elem? (members y) i) q.1 ∙ b) in subst
    (λ (x : ℕ × ℕ × SeatView). P x.0 x.1 x.2) (λ c. (sym q.0 c, sym y.0 c, y.1 c)) first)
    (λ (q : (j ≢ id) × (get_elem? s.views j ≡ some u)). let k = h.owned j i u o q.1 b in
    (both z s h j i u o q.1 b, changed_else h.owner w.number (l, 0) o.number (λ e. q.0 (ap (λ (y : ℕ × ℕ). y.0) (sym k.0 ∙ (ap h.owner e ∙ ow.0)))) ∙ k.0, k.1))
    (at_set s.views id j (seated v) u t))
    (λ (t : (j ≡ l) × (seated w ≡ u)). let y = one_of w o i (ap (λ (y : View). get_elem? (members y) i) t.1 ∙ b) in subst
    (λ (x : ℕ × ℕ × SeatView). P x.0 x.1 x.2) (λ c. (sym t.0 c, sym y.0 c, y.1 c)) second)
    (at_end (set s.views id (seated v)) (seated w) u j a))
    (λ j n a. ⊎_elim
    (λ (t : get_elem? (set s.views id (seated v)) j ≡ some (keeper n)). ⊎_elim (λ (q : (j ≡ id) × (seated v ≡ keeper n)). let e = q.1 in cc)
    (λ (q : (j ≢ id) × (get_elem? s.views j ≡ some (keeper n))). h.kept j n q.1)
    (at_set s.views id j (seated v) (keeper n) t))
    (λ (t : (j ≡ l) × (seated w ≡ keeper n)). let e = t.1 in cc)
    (at_end (set s.views id (seated v)) (seated w) (keeper n) j a))

-- a spare seat, which knows nothing
pub spares : (z : Layout) (es : List Entry) (id : ℕ) (v : SeatView) → Splits {S = ℕ} (HoldsWith z es) id (seated v) (seated v) spent
spares z es id v s hs at_id =
    let h : Holds z s = hs.0 in
    let l : ℕ = length (set s.views id (seated v)) in
    let same : set s.views id (seated v) ≡ s.views = set_again s.views id (seated v) at_id in
    views_now z es s hs s.words (set s.views id (seated v) ++ spent ∷ []) h.owner (quiet.spares s.views id v spent at_id) refl
    (λ j i u o a b. ⊎_elim
    (λ (t : get_elem? (set s.views id (seated v)) j ≡ some u). let q = subst (λ (vs : List View). get_elem? vs j ≡ some u) same t in let k = h.owned j i u o q b in (both z s h j i u o q b, k.0, k.1))
    (λ (t : (j ≡ l) × (spent ≡ u)). no_one o i (ap (λ (y : View). get_elem? (members y) i) t.1 ∙ b))
    (at_end (set s.views id (seated v)) spent u j a))
    (λ j n a. ⊎_elim
    (λ (t : get_elem? (set s.views id (seated v)) j ≡ some (keeper n)). h.kept j n (subst (λ (xs : List View). get_elem? xs j ≡ some (keeper n)) same t))
    (λ (t : (j ≡ l) × (spent ≡ keeper n)). let e = t.1 in cc)
    (at_end (set s.views id (seated v)) spent (keeper n) j a))

-- what a seat knows, once it has seen the whole history and knows all moves
abbrev pub learned : Traced → List AnyMove → SeatView → SeatView
learned t ran v = record v { seen = t.history; ran = ran }

pub learns : (t : Traced) (ran : List AnyMove) (v : SeatView) → (at_rest v.actor).line ≡ None → Fits t v → Fits t (learned t ran v)
learns t ran v free f =
    record {
      actor = f.actor;
      path = f.path;
      rest = [];
      begins = sym (append-nil t.history);
      own = f.own;
      known = f.own;
      noted = subst (λ es. All (IsNoted es) v.notes) (sym f.begins) (All-weaker (IsNoted v.seen) (IsNoted (v.seen ++ f.rest)) (noted_more v.seen f.rest) v.notes f.noted);
      saw = saw_at_rest t t.history v.actor v.actor.line refl free;
    }

-- a load of the word 0 by two seats that are one: both have seen the whole history
pub meets : (z : Layout) (es : List Entry) (id : ℕ) (v w : SeatView) → (at_rest v.actor).line ≡ None → (at_rest w.actor).line ≡ None
    → Allows {S = ℕ} (HoldsWith z es) 0 id (paired v w, []) 0 (λ n. n) (λ n m. (k : Met z v w m) × (k.all ≡ es))
meets z es id v w vf wf s hs empty at_id fit =
    let h : Holds z s = hs.0 in
    let u : Traced = h.trace in
    let fv = h.fits id 0 (paired v w) v at_id refl in
    let fw = h.fits id 1 (paired v w) w at_id refl in
    let ran : List AnyMove = h.reached.moves in
    let v' = learned u ran v in
    let w' = learned u ran w in
    let P : ℕ → ℕ → SeatView → Type 0 = λ j i o. FitsAll h o × (h.owner o.number ≡ (j, i)) × (o.number < h.dealt) in
    let first : P id 0 v' = let k = h.owned id 0 (paired v w) v at_id refl in ((learns u ran v vf fv, ran_all ran v.number), k.0, k.1) in
    let second : P id 1 w' = let k = h.owned id 1 (paired v w) w at_id refl in ((learns u ran w wf fw, ran_all ran w.number), k.0, k.1) in
    let run_v = learns_run z s h v (h.ran id 0 (paired v w) v at_id refl) in
    let run_w = learns_run z s h w (h.ran id 1 (paired v w) w at_id refl) in
    let kept = quiet.meets s.views id v w v' w' at_id refl (learned_more z v ran u run_v) refl (learned_more z w ran u run_w) in (
      paired v' w',
      keeps,
      tt,
      views_now z es s hs (set s.words 0 (get_or s.words 0 0)) (set s.views id (paired v' w')) h.owner kept (set-get_or s.words 0 0)
          (λ j i x o a b. ⊎_elim
          (λ (q : (j ≡ id) × (paired v' w' ≡ x)). subst (λ x. P x i o) (sym q.0) (⊎_elim
          (λ (y : (i ≡ 0) × (v' ≡ o)). subst (λ (x : ℕ × SeatView). P id x.0 x.1) (λ c. (sym y.0 c, y.1 c)) first)
          (λ (y : (i ≡ 1) × (w' ≡ o)). subst (λ (x : ℕ × SeatView). P id x.0 x.1) (λ c. (sym y.0 c, y.1 c)) second)
          (two_of v' w' o i (ap (λ (y : View). get_elem? (members y) i) q.1 ∙ b))))
          (λ (q : (j ≢ id) × (get_elem? s.views j ≡ some x)). let k = h.owned j i x o q.1 b in (both z s h j i x o q.1 b, k.0, k.1))
          (at_set s.views id j (paired v' w') x a))
          (λ j n a. ⊎_elim (λ (q : (j ≡ id) × (paired v' w' ≡ keeper n)). let e = q.1 in cc) (λ (q : (j ≢ id) × (get_elem? s.views j ≡ some (keeper n))). h.kept j n q.1)
          (at_set s.views id j (paired v' w') (keeper n) a)),
      (
        record {
          was = u;
          ran = ran;
          all = u.history;
          first_rest = fv.rest;
          second_rest = fw.rest;
          history = refl;
          seats = refl;
          first = fv.begins;
          second = fw.begins;
          first_run = run_v;
          second_run = run_w;
          first_fits = record { trace = u; run = run_v.led; reached = h.reached; setup = h.setup; permitted = h.permitted; fits = first.0.0 };
          second_fits = record { trace = u; run = run_v.led; reached = h.reached; setup = h.setup; permitted = h.permitted; fits = second.0.0 };
        },
        hs.1,
      ),
    )

two_not_one : (v w u : SeatView) → paired v w ≡ seated u → ⊥
two_not_one v w u e = cc

none_not_one : (u : SeatView) → spent ≡ seated u → ⊥
none_not_one u e = cc

none_not_two : (v u : SeatView) → spent ≡ paired v u → ⊥
none_not_two v u e = cc

pub one_not_two : (o v u : SeatView) → seated o ≡ paired v u → ⊥
one_not_two o v u e = cc

-- nothing is known of values by a view that knows nothing
spent_begins : {T : Type 0} (ds : List (Deed T)) → Begins ds (knows_nothing {T = T})
spent_begins ds = record { rest = ds; begins = refl; matches = λ v e. absurd (none_not_one v e); pair = λ v u e y. absurd (none_not_two v u e); others = tt }

-- the same of views that know of values, at the names of calls
module _ {T : Type 0} (key : Layout) (id : ℕ) (me : Me (Option T) (Beside T)) (v w : SeatView) where
  pub spares_at : me.0.plain ≡ seated v → Splits {S = Option T} (HoldsFor key) id me.0 (left_as_it_is me.0) knows_nothing
  spares_at is =
      lift_splits key id me.0 (left_as_it_is me.0) knows_nothing (λ es. subst (λ (y : View). Splits {S = ℕ} (HoldsWith key es) id y y spent) (sym is) (spares key es id v)) refl refl
      (λ ds b. (record { rest = b.rest; begins = b.begins; matches = b.matches; pair = b.pair; others = b.others }, spent_begins ds))

  pub pairs_at : (other : ℕ) (him : Me (Option T) (Beside T)) → me.0.plain ≡ seated v → him.0.plain ≡ seated w → him.0.hand ≡ none
      → Joins {S = Option T} (HoldsFor key) id me.0 other him.0 (both_beside me.0 him.0) knows_nothing
  pairs_at other him is his none_out =
      let two : both_of me.0.plain him.0.plain ≡ paired v w = (λ i. both_of (is i) (his i)) in
      lift_joins key id other me.0 him.0 (both_beside me.0 him.0) knows_nothing
      (λ es. subst (λ (y : View × View). Joins {S = ℕ} (HoldsWith key es) id y.0 other y.1 (both_of y.0 y.1) spent) (λ i. (sym is i, sym his i))
      (pairs key es id other v w)) refl (sym none_out)
      (λ ds b his_own. (
        record {
          rest = b.rest;
          begins = b.begins;
          matches = λ o e. absurd (two_not_one v w o (sym two ∙ e));
          pair = λ o u e y. subst (λ (k : SeatView). Matches k.seen me.0.deeds) (ap knows (sym two ∙ e)) (b.matches v is);
          others = ((his_own.rest, his_own.begins), b.others);
        },
        spent_begins ds,
      ))

  pub meets_at : (slots : ℕ) → (at_rest v.actor).line ≡ None → (at_rest w.actor).line ≡ None → me.0.plain ≡ paired v w
      → Allows {S = Option T} (HoldsFor key) slots id me 0 (λ n. n) (λ n m. MeetsBeside key me m)
  meets_at slots vf wf is s h count mine small =
      let m : ℕ = words_of key in
      let es : List Entry = h.base.trace.history in
      let same : get_or (take m s.words) 0 0 ≡ get_or s.words 0 0 = get_or-take m s.words 0 0 (omega arith) in
      let q = subst (λ (y : View). Allows {S = ℕ} (HoldsWith key es) 0 id (y, []) 0 (λ n. n) (λ n o. (k : Met key (knows y) (knows_second y) o)
      × (k.all ≡ es))) (sym is) (meets key es id v w vf wf) (plain_state m s) (h.base, refl) refl (at_map plain_of s.views id me.0 mine)
      (subst (λ (k : ℕ). k < 18446744073709551616) (sym same) small) in
      let words : List ℕ = set s.words 0 (get_or s.words 0 0) in
      let after : List (Deed T) → Beside T = λ ds. record { plain = q.0; deeds = ds; hand = me.0.hand; others = []; tries = me.0.tries } in
      let base : (ds : List (Deed T)) → HoldsWith key es (plain_state m (record { words = words; homes = s.homes; views = set s.views id (after ds) })) = λ ds. (
        moved key (stepped (plain_state m s) 0 (get_or (take m s.words) 0 0) id [] q.0 q.1) (plain_state m (record { words = words; homes = s.homes; views = set s.views id (after ds) })) q.3.0
            (take-set-lt m s.words 0 (get_or s.words 0 0) (omega arith) ∙ ap (λ (k : ℕ). set (take m s.words) 0 k) (sym same)) (map_set plain_of s.views id (after ds)),
        q.3.1,
      ) in
      let told : (ds : List (Deed T)) → KnowsNow key (after ds) → GrowsBy key.carries me.0 (after ds) → MeetsBeside key me (after ds, me.1) =
      λ ds known grown. (
        subst (λ (c : List (ℕ × ℕ)). Met key (knows me.0.plain) (knows_second me.0.plain) (q.0, c)) (none_moved q.1 q.2).0 q.4.0,
        refl,
        refl,
        known,
        grown,
      ) in
      let Out : Type 0 = (w' : Beside T) × (a : Act (Option T)) × Valid s.homes me.1 a × HoldsFor key (stepped s 0 (get_or s.words 0 0) id me.1 w' a) × MeetsBeside key me (w', carried_after me.1 a) in
      let plainly : key.carries ≡ false → Out = λ e. (
        after me.0.deeds,
        keeps,
        tt,
        record {
          base = (base me.0.deeds).0;
          values = subst (λ (b : Bool). CarriedBy b key (base me.0.deeds).0.trace.history
              (stepped s 0 (get_or s.words 0 0) id me.1 (after me.0.deeds) keeps)) (sym e) tt;
        },
        told me.0.deeds (subst (λ (b : Bool). KnowsBy b key (knows q.0).seen (after me.0.deeds)) (sym e) tt) (subst (λ (b : Bool). GrowsBy b me.0 (after me.0.deeds)) (sym e) refl),
      ) in
      let carrying : key.carries ≡ true → Out = λ e.
      let c = subst (λ (b : Bool). CarriedBy b key es s) e h.values in
      let ds = c.rides.deeds in
      let new : Begins ds (after ds) = record {
        rest = [];
        begins = sym (append-nil ds);
        matches = λ o k. absurd (two_not_one _ _ o (sym (ap (λ (y : Me ℕ View). y.0) q.4.0.seats) ∙ k));
        pair = λ o u k y. subst (λ (x : List Entry). Matches x ds) (sym q.4.1 ∙ ap (λ (x : View). (knows x).seen) (sym (ap (λ (y : Me ℕ View). y.0) q.4.0.seats) ∙ k)) c.rides.matches;
        others = tt;
      } in (
        after ds,
        keeps,
        tt,
        record {
          base = (base ds).0;
          values = subst (λ (b : Bool). CarriedBy b key (base ds).0.trace.history (stepped s 0 (get_or s.words 0 0) id me.1 (after ds) keeps)) (sym e)
              (subst (λ (x : List Entry). Carried key x (record { words = words; homes = s.homes; views = set s.views id (after ds) })) (sym (base ds).1)
              (recarried key es s words (set s.views id (after ds)) c (λ i. ap (λ (ws : List ℕ). get_or ws (m + i) 0) (sym (set-get_or s.words 0 0)))
              (λ j. hand_set s.views id me.0 (after ds) mine refl j)
              (λ j o got. ⊎_elim (λ (k : (j ≡ id) × (after ds ≡ o)). subst (Begins ds) k.1 new)
              (λ (k : (j ≢ id) × (get_elem? s.views j ≡ some o)). c.known j o k.1) (at_set s.views id j (after ds) o got))
              (length-set s.words 0 (get_or s.words 0 0))));
        },
        told ds
            (subst (λ (b : Bool). KnowsBy b key (knows q.0).seen (after ds)) (sym e)
            (knows_values key (knows q.0).seen (after ds) ds [] (map item_of c.rides.q) c.rides.shut (sym (append-nil ds)) c.rides.runs
            (subst (λ (x : List Entry). Matches x ds) (sym q.4.1 ∙ ap (λ (x : View). (knows x).seen)
            (sym (ap (λ (y : Me ℕ View). y.0) q.4.0.seats))) c.rides.matches)
            (λ i k. (c.rides.slotted.out id i (ap hand_in mine ∙ k)).0)))
            (subst (λ (b : Bool). GrowsBy b me.0 (after ds)) (sym e) (let f = c.known id me.0 mine in ((f.rest, f.begins), f.others))),
      ) in
      by_bool plainly carrying
    where
      by_bool : {X : Type 0} → (key.carries ≡ false → X) → (key.carries ≡ true → X) → X
      by_bool {X} f t = go key.carries refl
        where
          go : (b : Bool) → key.carries ≡ b → X
          go true e = t e
          go false e = f e

  pub parts_at : me.0.plain ≡ paired v w → v.seen ≡ w.seen → me.0.hand ≡ none → Splits {S = Option T} (HoldsFor key) id me.0 (first_beside_of me.0) (second_beside_of me.0)
  parts_at is met none_out =
      lift_splits key id me.0 (first_beside_of me.0) (second_beside_of me.0) (λ es. subst
      (λ (y : View). Splits {S = ℕ} (HoldsWith key es) id y (first_of y) (second_of y)) (sym is) (parts key es id v w)) refl refl
      (λ ds b. (
        record {
          rest = b.rest;
          begins = b.begins;
          matches = λ o e. subst (λ (k : SeatView). Matches k.seen me.0.deeds)
              (ap knows (ap first_of (sym is) ∙ e)) (b.pair v w is met);
          pair = λ o u e y. absurd (one_not_two v o u (ap first_of (sym is) ∙ e));
          others = b.others;
        },
        record {
          rest = b.rest;
          begins = b.begins;
          matches = λ o e. subst (λ (k : SeatView). Matches k.seen me.0.deeds)
              (ap knows (ap second_of (sym is) ∙ e)) (subst (λ (x : List Entry). Matches x me.0.deeds) met (b.pair v w is met));
          pair =
              λ o u e y. absurd (one_not_two w o u (ap second_of (sym is) ∙ e));
          others = tt;
        },
      ))

-- the token that two others joined into
joined_is : {T : Type 0} (j one tok : Me (Option T) (Beside T)) (v w : SeatView) → one.0.plain ≡ seated v → tok.0.plain ≡ seated w → j ≡ (both_beside one.0 tok.0, one.1) → j.0.plain ≡ paired v w
joined_is j one tok v w a b e = ap (λ y. y.0.plain) e ∙ (λ i. both_of (a i) (b i))

-- the same where that token is what was put in the place of one that was left as it is
pub joined_as : {T : Type 0} (j one him was tok : Me (Option T) (Beside T)) (v w : SeatView) → one.0.plain ≡ seated v → was.0.plain ≡ seated w
    → him ≡ was → tok ≡ him → j ≡ (both_beside one.0 tok.0, one.1) → j.0.plain ≡ paired v w
joined_as j one him was tok v w a b left put e = joined_is j one tok v w a (ap (λ m. m.0.plain) put ∙ (ap (λ m. m.0.plain) left ∙ b)) e

-- and what grew from the token that two joined into grew from the two
pub grown_as : {T : Type 0} (y z : Layout) (j one him was tok : Me (Option T) (Beside T)) (now : Beside T) → y ≡ z → him ≡ was → tok ≡ him
    → j ≡ (both_beside one.0 tok.0, one.1) → GrowsBy y.carries j.0 now → GrowsBy z.carries (both_beside one.0 was.0) now
grown_as {T} y z j one him was tok now same left put e grown =
    subst (λ (x : Layout). GrowsBy x.carries (both_beside one.0 was.0) now) same
    (subst (λ (w : Beside T). GrowsBy y.carries w now) (ap (λ (m : Me (Option T) (Beside T)). m.0) e ∙ ap (λ (m : Me (Option T) (Beside T)). both_beside one.0 m.0) (put ∙ left)) grown)

-- what the load tells of two views that are one, said of the two
pub met_there : (z : Layout) (j : View) (m : Me ℕ View) (v w : SeatView) → j ≡ paired v w → Met z (knows j) (knows_second j) m → Met z v w m
met_there z j m v w is h = subst (λ (y : View). Met z (knows y) (knows_second y) m) is h

-- a seat with another token of its own, which knows the same but for what it has seen
pub sits_so : {T : Type 0} (r : Arena) (s : Seat T) (t : Token (Option T) (Beside T)) (v : SeatView) → IsReady r s → t.table_id ≡ r.id
    → t.me.0.plain ≡ seated v → (r.plan.carries ≡ false → HasNone t.me) → ∥ KnowsNow r.plan t.me.0 ∥₁ → v.number ≡ (view s).number
    → v.actor ≡ (view s).actor → v.mine ≡ (view s).mine → Fitted r.plan v → IsReady r (record s { token = t })
sits_so r s t v i here me none_out valued number actor mine fitted =
    let is : knows t.me.0.plain ≡ v = ap knows me in
    record {
      seat = record {
        arena = i.seat.arena;
        sits = record {
          table = here;
          seat = me ∙ ap seated (sym is);
          none_out = none_out;
          number = i.seat.sits.number ∙ sym (ap (λ w. w.number) is ∙ number);
          role = i.seat.sits.role;
          pushes = i.seat.sits.pushes ∙ ap (count_by is_push) (sym (ap (λ w. w.mine) is ∙ mine));
          pops = i.seat.sits.pops ∙ ap (count_by is_pop) (sym (ap (λ w. w.mine) is ∙ mine));
          shut = i.seat.sits.shut ∙ ap (λ es. nat_lt 0 (count_by is_shut es)) (sym (ap (λ w. w.mine) is ∙ mine));
          fitted = ∣ subst (Fitted r.plan) (sym is) fitted ∣₁;
          valued = valued;
        };
      };
      free = ap (λ a. (at_rest a).line) (ap (λ w. w.actor) is ∙ actor) ∙ i.free;
      pocket = i.pocket ∙ sym (ap (λ a. (at_rest a).pocket) (ap (λ w. w.actor) is ∙ actor));
    }

-- the seats after they met
pub meeting : {T : Type 0} (r : Arena) (s o : Seat T) (k a b : Token (Option T) (Beside T)) → IsReady r s → IsReady r o
    → Met r.plan (view s) (view o) (plain_me k.me) → HasNone k.me → KnowsNow r.plan k.me.0
    → GrowsBy r.plan.carries (both_beside s.token.me.0 o.token.me.0) k.me.0 → a.me ≡ (first_beside_of k.me.0, k.me.1)
    → b.me ≡ (second_beside_of k.me.0, []) → a.table_id ≡ r.id → b.table_id ≡ r.id
    → Meets r s o (record s { token = a }) (record o { token = b })
meeting r s o k a b i j h none_out valued grown left right here there =
    let parted = knows_parted r.plan k.me.0 (record (view s) { seen = h.all; ran = h.ran }) (record (view o) { seen = h.all; ran = h.ran }) (ap (λ (y : Me ℕ View). y.0) h.seats) refl valued in
    let one : a.me.0.plain ≡ seated (record (view s) { seen = h.all; ran = h.ran }) = ap (λ y. y.0.plain) left ∙ ap (λ (y : Me ℕ View). first_of y.0) h.seats in
    let two : b.me.0.plain ≡ seated (record (view o) { seen = h.all; ran = h.ran }) = ap (λ y. y.0.plain) right ∙ ap (λ (y : Me ℕ View). second_of y.0) h.seats in
    record {
      one = sits_so r s a (record (view s) { seen = h.all; ran = h.ran }) i here one (λ c. (
        ap (λ y. length y.1) left ∙ none_out.0,
        ap (λ y. slots_in y.0.hand) left ∙ none_out.1,
      )) ∣ subst (λ (y : Beside _). KnowsNow r.plan y) (ap (λ y. y.0) (sym left)) parted.0 ∣₁ refl
          refl refl h.first_fits;
      other = sits_so r o b (record (view o) { seen = h.all; ran = h.ran }) j there two (λ c. (ap (λ y. length y.1) right, ap (λ y. slots_in y.0.hand) right)) ∣
          subst (λ (y : Beside _). KnowsNow r.plan y) (ap (λ y. y.0) (sym right)) parted.1 ∣₁ refl refl refl h.second_fits;
      was = h.was;
      all = h.all;
      history = h.history;
      first = record { stored = record { number = refl; role = refl; keeps = refl; pocket = refl; failed = refl }; ran = h.ran; run = h.first_run; knows = ap knows one; more = h.first_rest; begins = h.first };
      second = record { stored = record { number = refl; role = refl; keeps = refl; pocket = refl; failed = refl }; ran = h.ran; run = h.second_run; knows = ap knows two; more = h.second_rest; begins = h.second };
      none_out = ((ap (λ y. length y.1) left ∙ none_out.0, ap (λ y. slots_in y.0.hand) left ∙ none_out.1), (ap (λ y. length y.1) right, ap (λ y. slots_in y.0.hand) right));
      values = λ c.
          let g = subst (λ (b : Bool). GrowsBy b (both_beside s.token.me.0 o.token.me.0) k.me.0) c grown in
          record {
            same = ap (λ y. y.0.deeds) right ∙ sym (ap (λ y. y.0.deeds) left);
            first = record { between = g.0.0; deeds = ap (λ y. y.0.deeds) left ∙ g.0.1 };
            second = record { between = g.1.0.0; deeds = ap (λ y. y.0.deeds) right ∙ g.1.0.1 };
          };
    }

-- the plan by which a meeting is told is the arena's
pub met_at : (z y : Layout) (v w : SeatView) (m : Me ℕ View) → y ≡ z → Met y v w m → Met z v w m
met_at z y v w m e h = subst (λ (x : Layout). Met x v w m) e h

-- the same of an arena by another name
pub met_as : {T : Type 0} (r q : Arena) (s t s' t' : Seat T) → r ≡ q → Meets r s t s' t' → Meets q s t s' t'
met_as r q s t s' t' same = subst (λ a. Meets a s t s' t') same

pub ready_as : {T : Type 0} (r q : Arena) (s : Seat T) → r ≡ q → IsReady q s → IsReady r s
ready_as r q s same = subst (λ a. IsReady a s) (sym same)
