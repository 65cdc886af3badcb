-- Seats that meet.
use Rattle.std.proofs.Common.{◌≡◌, ◌≢◌, ℕ, ◌^◌, ◌<◌, List, [], ◌∷◌, ◌++◌, length, set, sym, refl, ap, ◌∙◌, subst, ⊎_elim, arith}
use mathlib.Core.Option.{some}
use lib.ListN.{get_elem?}
use Rattle.atomic_table.specs.Table.{State, Splits, Joins}
use Rattle.atomic_table.proofs.Lists.{at_set, set_else, set_again}
use Rattle.history.specs.declared.operations.Entry.{Entry}
use Rattle.history.specs.Answers.{SeesMore}
use Rattle.ring_queue.specs.Plans.{Layout}
use Rattle.ring_queue.specs.Knowledge.{Stage, rests, claimed, found, unfilled, head_due, SeatView, View, keeper, seated, paired, spent, members, knowing, known_by}
use Rattle.ring_queue.specs.Rule.{HasClaimed, Stands, SeatOk, put, Ring, Run, Holds}
use Rattle.ring_queue.specs.Meets.{learned, Met}
use Rattle.ring_queue.proofs.Keeps.{renewed}
use Rattle.ring_queue.proofs.Puts.{put_here, put_else, put_each}
use Rattle.ring_queue.proofs.Tables.{HoldsWith, it_fits, it_is_sound, notes_stay, saw_all, places_below}
use Rattle.ring_queue.proofs.Deals.{at_end}
use Rattle.ring_queue.specs.Rows.{regs}
use Rattle.ring_queue.specs.Paths.{Step, Ran}
use Rattle.node_arena.specs.KnownRuns.{Keeps, IsThere}
use Rattle.node_arena.proofs.KnownRuns.{one_of, two_of, no_one, there_kept}
use Rattle.node_arena.proofs.KnownRuns as known_runs
use Rattle.ring_queue.proofs.Runs.{run_same, knew_of, knows_all}

-- the views change, and each seat that they speak of keeps its place in `own`
pub views_now : (z : Layout) (s : State ℕ View) (h : Holds z s) (views : List View) (own : ℕ → ℕ × ℕ)
    → ((j i : ℕ) (u : View) (o : SeatView) → get_elem? views j ≡ some u → get_elem? (members u) i ≡ some o → (h.seats o.number ≡ o) × (own o.number ≡ (j, i)) × (o.number < h.dealt))
    → ((j m n : ℕ) → get_elem? views j ≡ some (keeper m n) → (j ≡ h.home) × (n ≡ h.dealt) × (m ≡ z.slots))
    → Keeps knowing s.views views → HoldsWith z h.ring.history record { words = s.words; homes = s.homes; views = views }
views_now z s h views own all some_keeper kept = (
  record {
    seats = h.seats;
    ring = h.ring;
    run = h.run;
    dealt = h.dealt;
    home = h.home;
    owner = own;
    fits = λ j i u o a b. (all j i u o a b).0;
    owned = λ j i u o a b. let t = all j i u o a b in (t.1, t.2);
    kept = some_keeper;
    undealt = h.undealt;
    there = λ n. there_kept knowing s.views views h.run.trace kept n (h.there n);
  },
  refl,
)

-- two seats become one
pub pairs : (z : Layout) (es : List Entry) (id other : ℕ) (v w : SeatView) → Joins {S = ℕ} (HoldsWith z es) id (seated v) other (seated w) (paired v w) spent
pairs z es id other v w s whole at_id ne at_other =
    let h : Holds z s = whole.0 in
    let there : get_elem? s.views other ≡ some (seated w) = sym (set_else s.views id other (paired v w) ne) ∙ at_other in
    let own : ℕ → ℕ × ℕ = put h.owner w.number (id, 1) in
    let ov = h.owned id 0 (seated v) v at_id refl in
    let ow = h.owned other 0 (seated w) w there refl in
    let P : ℕ → ℕ → SeatView → Type 0 = λ j i o. (h.seats o.number ≡ o) × (own o.number ≡ (j, i)) × (o.number < h.dealt) in
    let differ : v.number ≢ w.number = λ e. ne (ap (λ (y : ℕ × ℕ). y.0) (sym ow.0 ∙ (ap h.owner (sym e) ∙ ov.0))) in
    let first : P id 0 v = (h.fits id 0 (seated v) v at_id refl, put_else h.owner w.number v.number (id, 1) differ ∙ ov.0, ov.1) in
    let second : P id 1 w = (h.fits other 0 (seated w) w there refl, put_here h.owner w.number w.number (id, 1) refl, ow.1) in
    let q = views_now z s h (set (set s.views id (paired v w)) other spent) own
    (λ j i u o a b. ⊎_elim
    (λ (t : (j ≡ other) × (spent ≡ u)). no_one o i (ap (λ (y : View). get_elem? (members y) i) t.1 ∙ b))
    (λ (t : (j ≢ other) × (get_elem? (set s.views id (paired v w)) j ≡ some u)). ⊎_elim
    (λ (q : (j ≡ id) × (paired v w ≡ u)). subst (λ x. P x i o) (sym q.0) (⊎_elim
    (λ (y : (i ≡ 0) × (v ≡ o)). subst (λ (x : ℕ × SeatView). P id x.0 x.1) (λ c. (sym y.0 c, y.1 c)) first)
    (λ (y : (i ≡ 1) × (w ≡ o)). subst (λ (x : ℕ × SeatView). P id x.0 x.1) (λ c. (sym y.0 c, y.1 c)) second)
    (two_of v w o i (ap (λ (y : View). get_elem? (members y) i) q.1 ∙ b))))
    (λ (q : (j ≢ id) × (get_elem? s.views j ≡ some u)). let k = h.owned j i u o q.1 b in
    (h.fits j i u o q.1 b, put_else h.owner w.number o.number (id, 1) (λ e. t.0 (ap (λ (y : ℕ × ℕ). y.0) (sym k.0 ∙ (ap h.owner e ∙ ow.0)))) ∙ k.0, k.1))
    (at_set s.views id j (paired v w) u t.1))
    (at_set (set s.views id (paired v w)) other j spent u a))
    (λ j m n a. ⊎_elim (λ (t : (j ≡ other) × (spent ≡ keeper m n)). let e = t.1 in cc)
    (λ (t : (j ≢ other) × (get_elem? (set s.views id (paired v w)) j ≡ some (keeper m n))). ⊎_elim (λ (q : (j ≡ id) × (paired v w ≡ keeper m n)). let e = q.1 in cc)
    (λ (q : (j ≢ id) × (get_elem? s.views j ≡ some (keeper m n))). h.kept j m n q.1)
    (at_set s.views id j (paired v w) (keeper m n) t.1))
    (at_set (set s.views id (paired v w)) other j spent (keeper m n) a))
    (known_runs.pairs knowing s.views id other v w (paired v w) spent at_id ne there refl) in
    (q.0, q.1 ∙ whole.1)

-- one seat becomes two
pub parts : (z : Layout) (es : List Entry) (id : ℕ) (v w : SeatView) → Splits {S = ℕ} (HoldsWith z es) id (paired v w) (seated v) (seated w)
parts z es id v w s whole at_id =
    let h : Holds z s = whole.0 in
    let l : ℕ = length (set s.views id (seated v)) in
    let own : ℕ → ℕ × ℕ = put h.owner w.number (l, 0) in
    let ov = h.owned id 0 (paired v w) v at_id refl in
    let ow = h.owned id 1 (paired v w) w at_id refl in
    let P : ℕ → ℕ → SeatView → Type 0 = λ j i o. (h.seats o.number ≡ o) × (own o.number ≡ (j, i)) × (o.number < h.dealt) in
    let differ : v.number ≢ w.number = λ e. let f = ap (λ (y : ℕ × ℕ). y.1) (sym ow.0 ∙ (ap h.owner (sym e) ∙ ov.0)) in omega arith in
    let first : P id 0 v = (h.fits id 0 (paired v w) v at_id refl, put_else h.owner w.number v.number (l, 0) differ ∙ ov.0, ov.1) in
    let second : P l 0 w = (h.fits id 1 (paired v w) w at_id refl, put_here h.owner w.number w.number (l, 0) refl, ow.1) in
    let q = views_now z s h (set s.views id (seated v) ++ seated w ∷ []) own
    (λ j i u o a b. ⊎_elim
    (λ (t : get_elem? (set s.views id (seated v)) j ≡ some u). ⊎_elim
    (λ (q : (j ≡ id) × (seated v ≡ u)). let y = one_of v o i (ap (λ (y : View). get_elem? (members y) i) q.1 ∙ b) in subst
    (λ (x : ℕ × ℕ × SeatView). P x.0 x.1 x.2) (λ c. (sym q.0 c, sym y.0 c, y.1 c)) first)
    (λ (q : (j ≢ id) × (get_elem? s.views j ≡ some u)). let k = h.owned j i u o q.1 b in
    (h.fits j i u o q.1 b, put_else h.owner w.number o.number (l, 0) (λ e. q.0 (ap (λ (y : ℕ × ℕ). y.0) (sym k.0 ∙ (ap h.owner e ∙ ow.0)))) ∙ k.0, k.1))
    (at_set s.views id j (seated v) u t))
    (λ (t : (j ≡ l) × (seated w ≡ u)). let y = one_of w o i (ap (λ (y : View). get_elem? (members y) i) t.1 ∙ b) in subst
    (λ (x : ℕ × ℕ × SeatView). P x.0 x.1 x.2) (λ c. (sym t.0 c, sym y.0 c, y.1 c)) second)
    (at_end (set s.views id (seated v)) (seated w) u j a))
    (λ j m n a. ⊎_elim
    (λ (t : get_elem? (set s.views id (seated v)) j ≡ some (keeper m n)). ⊎_elim (λ (q : (j ≡ id) × (seated v ≡ keeper m n)). let e = q.1 in cc)
    (λ (q : (j ≢ id) × (get_elem? s.views j ≡ some (keeper m n))). h.kept j m n q.1)
    (at_set s.views id j (seated v) (keeper m n) t))
    (λ (t : (j ≡ l) × (seated w ≡ keeper m n)). let e = t.1 in cc)
    (at_end (set s.views id (seated v)) (seated w) (keeper m n) j a))
    (known_runs.parts knowing s.views id v w (paired v w) at_id refl) in
    (q.0, q.1 ∙ whole.1)

-- a spare seat, which knows nothing
pub spares : (z : Layout) (es : List Entry) (id : ℕ) (v : SeatView) → Splits {S = ℕ} (HoldsWith z es) id (seated v) (seated v) spent
spares z es id v s whole at_id =
    let h : Holds z s = whole.0 in
    let l : ℕ = length (set s.views id (seated v)) in
    let same : set s.views id (seated v) ≡ s.views = set_again s.views id (seated v) at_id in
    let q = views_now z s h (set s.views id (seated v) ++ spent ∷ []) h.owner
    (λ j i u o a b. ⊎_elim
    (λ (t : get_elem? (set s.views id (seated v)) j ≡ some u). let q = subst (λ (vs : List View). get_elem? vs j ≡ some u) same t in let k = h.owned j i u o q b in (h.fits j i u o q b, k.0, k.1))
    (λ (t : (j ≡ l) × (spent ≡ u)). no_one o i (ap (λ (y : View). get_elem? (members y) i) t.1 ∙ b))
    (at_end (set s.views id (seated v)) spent u j a))
    (λ j m n a. ⊎_elim
    (λ (t : get_elem? (set s.views id (seated v)) j ≡ some (keeper m n)). h.kept j m n (subst (λ (vs : List View). get_elem? vs j ≡ some (keeper m n)) same t))
    (λ (t : (j ≡ l) × (spent ≡ keeper m n)). let e = t.1 in cc)
    (at_end (set s.views id (seated v)) spent (keeper m n) j a))
    (subst (λ (vs : List View). Keeps knowing s.views (vs ++ spent ∷ [])) (sym same) (known_runs.comes knowing s.views spent)) in
    (q.0, q.1 ∙ whole.1)

module _ (z : Layout) (words : List ℕ) (seats : ℕ → SeatView) (r : Ring z words seats) (v w : SeatView) (differ : w.number ≢ v.number) (is_v : seats v.number ≡ v) (is_w : seats w.number ≡ w)
    (run : Run z words seats r.history) where
  abbrev both : ℕ → SeatView
  both = put (put seats v.number (learned r.history run.trace v)) w.number (learned r.history run.trace w)

  pub fits_still : (u : SeatView) → seats u.number ≡ u → SeatOk z r.head r.tail r.log r.cells r.history u.number (learned r.history run.trace u)
  fits_still u is =
      let f = it_fits z words seats r u is in
      saw_all z words seats r u is (learned r.history run.trace u) refl refl refl (notes_stay z words seats r u is) f.behind f.under (go u.stage f.stage)
    where
      go : (st : Stage) → Stands z.slots r.head r.tail r.log r.cells u st → Stands z.slots r.head r.tail r.log r.cells (learned r.history run.trace u) st
      go rests k = k
      go (claimed p xs) k = k
      go (found ws) k = k
      go unfilled k = k
      go head_due k = k

  -- the ring when both have seen the whole history
  abbrev both_look : Ring z words both
  both_look =
      renewed z words seats r both
      (λ k. put_each (put seats v.number (learned r.history run.trace v)) w.number k (learned r.history run.trace w) (SeatOk z r.head r.tail r.log r.cells r.history) (fits_still w is_w)
      (λ _. put_each seats v.number k (learned r.history run.trace v) (SeatOk z r.head r.tail r.log r.cells r.history) (fits_still v is_v) (λ _. r.each_seat k)))
      (λ k p x e. put_each (put seats v.number (learned r.history run.trace v)) w.number k (learned r.history run.trace w) (λ q (u : SeatView). HasClaimed (seats q).stage p x → HasClaimed u.stage p x)
      (subst (λ (u : SeatView). HasClaimed u.stage p x) is_w)
      (λ _. put_each seats v.number k (learned r.history run.trace v) (λ q (u : SeatView). HasClaimed (seats q).stage p x → HasClaimed u.stage p x)
      (subst (λ (u : SeatView). HasClaimed u.stage p x) is_v) (λ _ h. h)) e)

  first_is : both v.number ≡ learned r.history run.trace v
  first_is = put_else (put seats v.number (learned r.history run.trace v)) w.number v.number (learned r.history run.trace w) (λ e. differ (sym e))
      ∙ put_here seats v.number v.number (learned r.history run.trace v) refl

  second_is : both w.number ≡ learned r.history run.trace w
  second_is = put_here (put seats v.number (learned r.history run.trace v)) w.number w.number (learned r.history run.trace w) refl

  sees_all : (u : SeatView) → seats u.number ≡ u → SeesMore (known_by u) (known_by (learned r.history run.trace u))
  sees_all u is = let f = it_fits z words seats r u is in record { number = refl; between = f.rest; seen = f.begins; mine = refl; notes = refl }

  below : (u : SeatView) (k : ℕ) → both k ≡ u → (u.head < 2 ^ 62) × (u.tail < 2 ^ 62)
  below u k is = subst (λ (u : SeatView). (u.head < 2 ^ 62) × (u.tail < 2 ^ 62)) is (places_below z words both both_look k)

  pub met : Met z v w (paired (learned r.history run.trace v) (learned r.history run.trace w), [])
  met = record {
    all = r.history;
    run = run.trace;
    whole = run.adds;
    seats = refl;
    first_run = knew_of z words seats r.history v is_v run;
    second_run = knew_of z words seats r.history w is_w run;
    first = sees_all v is_v;
    second = sees_all w is_w;
    first_learns = record {
      number = refl;
      below = (below (learned r.history run.trace v) v.number first_is).0;
      tail_below = (below (learned r.history run.trace v) v.number first_is).1;
      sound = it_is_sound z words both both_look (learned r.history run.trace v) first_is;
    };
    second_learns = record {
      number = refl;
      below = (below (learned r.history run.trace w) w.number second_is).0;
      tail_below = (below (learned r.history run.trace w) w.number second_is).1;
      sound = it_is_sound z words both both_look (learned r.history run.trace w) second_is;
    };
  }

-- two seats that are one have seen the whole history
pub meets_now : (z : Layout) (s : State ℕ View) (h : Holds z s) (id : ℕ) (v w : SeatView) → get_elem? s.views id ≡ some (paired v w)
    → HoldsWith z h.ring.history record {
      words = s.words;
      homes = s.homes;
      views =
          set s.views id (paired (learned h.ring.history h.run.trace v) (learned h.ring.history h.run.trace w));
    }
    × Met z v w (paired (learned h.ring.history h.run.trace v) (learned h.ring.history h.run.trace w), [])
meets_now z s h id v w at_id =
    let r = h.ring in
    let is_v : h.seats v.number ≡ v = h.fits id 0 (paired v w) v at_id refl in
    let is_w : h.seats w.number ≡ w = h.fits id 1 (paired v w) w at_id refl in
    let ov = h.owned id 0 (paired v w) v at_id refl in
    let ow = h.owned id 1 (paired v w) w at_id refl in
    let differ : w.number ≢ v.number = λ e. let f = ap (λ (y : ℕ × ℕ). y.1) (sym ow.0 ∙ (ap h.owner e ∙ ov.0)) in omega arith in
    let v' = learned r.history h.run.trace v in
    let w' = learned r.history h.run.trace w in
    let seats' : ℕ → SeatView = both z s.words h.seats r v w differ is_v is_w h.run in
    let knew_v : Ran h.run.trace v.number v.ran = knew_of z s.words h.seats r.history v is_v h.run in
    let knew_w : Ran h.run.trace w.number w.ran = knew_of z s.words h.seats r.history w is_w h.run in
    let runs = run_same z s.words h.seats seats' r.history h.run
    (λ n. put_each (put h.seats v.number v') w.number n w' (λ k (u : SeatView). regs u ≡ regs (h.seats k)) (ap regs (sym is_w))
    (λ _. put_each h.seats v.number n v' (λ k (u : SeatView). regs u ≡ regs (h.seats k)) (ap regs (sym is_v)) (λ _. refl)))
    (λ n. put_each (put h.seats v.number v') w.number n w' (λ k (u : SeatView). Ran h.run.trace k u.ran) (knows_all w.number h.run.trace)
    (λ _. put_each h.seats v.number n v' (λ k (u : SeatView). Ran h.run.trace k u.ran) (knows_all v.number h.run.trace) (λ _. h.run.ran n))) in
    let P : ℕ → ℕ → SeatView → Type 0 = λ j i o. (seats' o.number ≡ o) × (h.owner o.number ≡ (j, i)) × (o.number < h.dealt) in
    let first : P id 0 v' = (first_is z s.words h.seats r v w differ is_v is_w h.run, ov.0, ov.1) in
    let second : P id 1 w' = (second_is z s.words h.seats r v w differ is_v is_w h.run, ow.0, ow.1) in
    let all : (j i : ℕ) (u : View) (o : SeatView) → get_elem? (set s.views id (paired v' w')) j ≡ some u → get_elem? (members u) i ≡ some o → P j i o = λ j i x o a b. ⊎_elim
    (λ (q : (j ≡ id) × (paired v' w' ≡ x)). subst (λ x. P x i o) (sym q.0) (⊎_elim
    (λ (y : (i ≡ 0) × (v' ≡ o)). subst (λ (x : ℕ × SeatView). P id x.0 x.1) (λ c. (sym y.0 c, y.1 c)) first)
    (λ (y : (i ≡ 1) × (w' ≡ o)). subst (λ (x : ℕ × SeatView). P id x.0 x.1) (λ c. (sym y.0 c, y.1 c)) second)
    (two_of v' w' o i (ap (λ (y : View). get_elem? (members y) i) q.1 ∙ b))))
    (λ (q : (j ≢ id) × (get_elem? s.views j ≡ some x)).
    let k = h.owned j i x o q.1 b in
    let apart_v : o.number ≢ v.number = λ e. q.0 (ap (λ (y : ℕ × ℕ). y.0) (sym k.0 ∙ (ap h.owner e ∙ ov.0))) in
    let apart_w : o.number ≢ w.number = λ e. q.0 (ap (λ (y : ℕ × ℕ). y.0) (sym k.0 ∙ (ap h.owner e ∙ ow.0))) in
    (put_else (put h.seats v.number v') w.number o.number w' apart_w ∙ (put_else h.seats v.number o.number v' apart_v ∙ h.fits j i x o q.1 b), k.0, k.1))
    (at_set s.views id j (paired v' w') x a) in (
      (
        record {
          seats = seats';
          ring = both_look z s.words h.seats r v w differ is_v is_w h.run;
          run = runs.0;
          dealt = h.dealt;
          home = h.home;
          owner = h.owner;
          fits = λ j i x o a b. (all j i x o a b).0;
          owned = λ j i x o a b. let q = all j i x o a b in (q.1, q.2);
          kept = λ j m n a. ⊎_elim (λ (q : (j ≡ id) × (paired v' w' ≡ keeper m n)). let e = q.1 in cc)
              (λ (q : (j ≢ id) × (get_elem? s.views j ≡ some (keeper m n))). h.kept j m n q.1) (at_set s.views id j (paired v' w') (keeper m n) a);
          there = λ n. subst (λ (es : List Step). IsThere knowing (set s.views id (paired v' w')) es n) (sym runs.1)
              (there_kept knowing s.views (set s.views id (paired v' w')) h.run.trace
              (known_runs.meets knowing s.views id v w v' w' (paired v w) (paired v' w') at_id refl refl refl (knew_v.rest, sym knew_v.begins) refl (knew_w.rest, sym knew_w.begins)) n (h.there n));
          undealt = λ n over. let lv = ov.1 in let lw = ow.1 in
              put_else (put h.seats v.number v') w.number n w' (λ e. omega (arith, e, over, lw)) ∙ (put_else h.seats v.number n v' (λ e. omega (arith, e, over, lv)) ∙ h.undealt n over);
        },
        refl,
      ),
      met z s.words h.seats r v w differ is_v is_w h.run,
    )
