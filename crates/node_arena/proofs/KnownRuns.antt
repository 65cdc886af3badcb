-- What the seats of any table know of a run puts their steps in one order, and is kept where views change.
use Rattle.std.proofs.Common.{◌≡◌, ◌≢◌, ◌⊎◌, inl, inr, ⊎_elim, ℕ, zero, suc, List, [], ◌∷◌, ◌++◌, length, get_or, drop, set, refl, sym, ap, ◌∙◌, subst, append-nil, append_assoc}
use Rattle.std.specs.List.{All, AllByRecursion}
use Rattle.std.proofs.lemmas.List.{append_cancel_left}
use Rattle.std.proofs.lemmas.List.Elements.{All-nil, All-cons, All-append, recursion_from_All}
use mathlib.Core.List.{IsPrefix}
use mathlib.Core.Option.{some, some-injective, some-ne-none}
use lib.ListN.{get_elem?}
use Rattle.atomic_table.proofs.Lists.{at_set, set_else}
use Rattle.step_machine.proofs.StampsLists.{same_or_not}
use Rattle.node_arena.specs.KnownRuns.{Knowing, Ran, IsAmong, IsFound, Keeps, IsThere, AreTold, GoesOn}

-- a list begins with itself, and with what begins one that it begins with
pub prefix_same : {A : Type 0} (xs : List A) → IsPrefix xs xs
prefix_same xs = ([], append-nil xs)

pub prefix_then : {A : Type 0} (xs ys zs : List A) → IsPrefix xs ys → IsPrefix ys zs → IsPrefix xs zs
prefix_then xs ys zs p q = (p.0 ++ q.0, sym (append_assoc xs p.0 q.0) ∙ (ap (λ l. l ++ q.0) p.1 ∙ q.1))

-- two beginnings of one list: one begins the other
pub prefixes : {A : Type 0} (xs ys rs ss : List A) → xs ++ rs ≡ ys ++ ss → IsPrefix xs ys ⊎ IsPrefix ys xs
prefixes [] ys rs ss e = inl (ys, refl)
prefixes (x ∷ xs) [] rs ss e = inr (x ∷ xs, refl)
prefixes (x ∷ xs) (y ∷ ys) rs ss e = ⊎_elim
    (λ (p : IsPrefix xs ys). inl (p.0, ap (λ l. x ∷ l) p.1 ∙ ap (λ a. a ∷ ys) head))
    (λ (p : IsPrefix ys xs). inr (p.0, ap (λ l. y ∷ l) p.1 ∙ ap (λ a. a ∷ xs) (sym head)))
    (prefixes xs ys rs ss (ap (drop 1) e))
  where
    head : x ≡ y
    head = ap (λ l. get_or l 0 x) e

-- what stands among others is one of them
pub stands : {A : Type 0} (P : A → Type 0) (xs : List A) (m : A) (ys : List A) → AllByRecursion P (xs ++ m ∷ ys) → P m
stands P [] m ys all = all.0
stands P (x ∷ xs) m ys all = stands P xs m ys all.1

-- the members of a list of one, of two, and of none
pub one_of : {V : Type 0} (v u : V) (i : ℕ) → get_elem? (v ∷ []) i ≡ some u → (i ≡ 0) × (v ≡ u)
one_of v u zero e = (refl, some-injective v u e)
one_of v u (suc i) e = absurd (some-ne-none u (sym e))

pub two_of : {V : Type 0} (v w o : V) (i : ℕ) → get_elem? (v ∷ w ∷ []) i ≡ some o → ((i ≡ 0) × (v ≡ o)) ⊎ ((i ≡ 1) × (w ≡ o))
two_of v w o zero e = inl (refl, some-injective v o e)
two_of v w o (suc i) e = let t = one_of w o i e in inr (ap suc t.0, t.1)

pub no_one : {V X : Type 0} (o : V) (i : ℕ) → get_elem? {A = V} [] i ≡ some o → X
no_one o i e = absurd (some-ne-none o (sym e))

pub set_there : {A : Type 0} (l : List A) (i : ℕ) (a b : A) → get_elem? l i ≡ some a → get_elem? (set l i b) i ≡ some b
set_there [] i a b e = absurd (some-ne-none a (sym e))
set_there (x ∷ xs) zero a b e = refl
set_there (x ∷ xs) (suc i) a b e = set_there xs i a b e

-- a list with more at its end has what it had
pub at_kept : {A : Type 0} (l more : List A) (j : ℕ) (a : A) → get_elem? l j ≡ some a → get_elem? (l ++ more) j ≡ some a
at_kept [] more j a e = absurd (some-ne-none a (sym e))
at_kept (x ∷ xs) more zero a e = e
at_kept (x ∷ xs) more (suc j) a e = at_kept xs more j a e

pub at_last : {A : Type 0} (l : List A) (a : A) → get_elem? (l ++ a ∷ []) (length l) ≡ some a
at_last [] a = refl
at_last (x ∷ xs) a = at_last xs a

module _ {M V W : Type 0} (k : Knowing M V W) where
  -- a seat with a view of its own is among the views
  abbrev pub seated_there : (views : List W) (id : ℕ) (v : V) → get_elem? views id ≡ some (k.seated v) → IsAmong k views v
  seated_there views id v at = (id, 0, k.seated v, at, ap (λ l. get_elem? l 0) (k.alone v))

  -- it is the one that its view speaks of
  pub seat_in : (views : List W) (id : ℕ) (v w : V) → get_elem? views id ≡ some (k.seated v) → (is : IsAmong k views w) → is.0 ≡ id → v ≡ w
  seat_in views id v w at is e =
      let view : is.2 ≡ k.seated v = some-injective is.2 (k.seated v) (sym is.3 ∙ (ap (λ j. get_elem? views j) e ∙ at)) in
      (one_of v w is.1 (ap (λ l. get_elem? l is.1) (sym (ap k.members view ∙ k.alone v)) ∙ is.4)).1

  -- a seat itself is found where it is
  pub found_here : (views : List W) (v : V) → IsAmong k views v → IsFound k views v
  found_here views v is = (v, is, refl, prefix_same (k.ran v))

  -- views that stay where they were, but one, whose seats are found
  pub keeps_but : (views others : List W) (id : ℕ) (was : W) → get_elem? views id ≡ some was
      → ((j : ℕ) (u : W) → j ≢ id → get_elem? views j ≡ some u → get_elem? others j ≡ some u)
      → ((i : ℕ) (o : V) → get_elem? (k.members was) i ≡ some o → IsFound k others o) → Keeps k views others
  keeps_but views others id was at same each v is = go (same_or_not is.0 id)
    where
      go : (is.0 ≡ id) ⊎ (is.0 ≢ id) → IsFound k others v
      go (inl e) =
          let u : is.2 ≡ was = some-injective is.2 was (sym is.3 ∙ (ap (λ j. get_elem? views j) e ∙ at)) in
          each is.1 v (ap (λ (y : W). get_elem? (k.members y) is.1) (sym u) ∙ is.4)
      go (inr ne) = found_here others v (is.0, is.1, is.2, same is.0 is.2 ne is.3, is.4)

  pub keeps_all : (views others : List W) → ((j : ℕ) (u : W) → get_elem? views j ≡ some u → get_elem? others j ≡ some u) → Keeps k views others
  keeps_all views others same v is = found_here others v (is.0, is.1, is.2, same is.0 is.2 is.3, is.4)

  pub keeps_twice : (a b c : List W) → Keeps k a b → Keeps k b c → Keeps k a c
  keeps_twice a b c f g v is = let w = f v is in let x = g w.0 w.1 in (x.0, x.1, x.2 ∙ w.2, prefix_then (k.ran v) (k.ran w.0) (k.ran x.0) w.3 x.3)

  -- so each maker of moves is there still
  pub there_kept : (views others : List W) (run : List M) → Keeps k views others → (n : ℕ) → IsThere k views run n → IsThere k others run n
  there_kept views others run keeps n (inl none) = inl none
  there_kept views others run keeps n (inr y) = let w = keeps y.0 y.1 in inr (w.0, w.1, w.2 ∙ y.2)

  -- another seat is there as it was
  pub other_there : (views : List W) (id : ℕ) (v v' : V) → get_elem? views id ≡ some (k.seated v) → (run more : List M) (n : ℕ) → n ≢ k.number v
      → (Ran k.by run n [] → Ran k.by more n []) → IsThere k views run n → IsThere k (set views id (k.seated v')) more n
  other_there views id v v' mine run more n ne on (inl none) = inl (on none)
  other_there views id v v' mine run more n ne on (inr y) = inr (y.0, (y.1.0, y.1.1, y.1.2, set_else views id y.1.0 (k.seated v') away ∙ y.1.3, y.1.4), y.2)
    where
      away : y.1.0 ≢ id
      away e = ne (sym y.2 ∙ ap k.number (sym (seat_in views id v y.0 mine y.1 e)))

  -- changes of views that aren't steps: two seats become one
  pub pairs : (views : List W) (id other : ℕ) (v w : V) (both gone : W) → get_elem? views id ≡ some (k.seated v) → other ≢ id → get_elem? views other ≡ some (k.seated w)
      → k.members both ≡ v ∷ w ∷ [] → Keeps k views (set (set views id both) other gone)
  pairs views id other v w both gone at ne there two =
      let one : List W = set views id both in
      let inside : get_elem? one id ≡ some both = set_there views id (k.seated v) both at in
      keeps_twice views one (set one other gone)
      (keeps_but views one id (k.seated v) at (λ j u away h. set_else views id j both away ∙ h)
      (λ i o h. found_here one o (id, 0, both, inside, ap (λ l. get_elem? l 0) two ∙ ap some (one_of v o i (ap (λ l. get_elem? l i) (sym (k.alone v)) ∙ h)).1)))
      (keeps_but one (set one other gone) other (k.seated w) (set_else views id other both ne ∙ there) (λ j u away h. set_else one other j gone away ∙ h)
      (λ i o h. found_here (set one other gone) o (
        id,
        1,
        both,
        set_else one other id gone (λ e. ne (sym e)) ∙ inside,
        ap (λ l. get_elem? l 1) two ∙ ap some (one_of w o i (ap (λ l. get_elem? l i) (sym (k.alone w)) ∙ h)).1,
      )))

  -- two seats that are one become two
  pub parts : (views : List W) (id : ℕ) (v w : V) (both : W) → get_elem? views id ≡ some both → k.members both ≡ v ∷ w ∷ []
      → Keeps k views (set views id (k.seated v) ++ k.seated w ∷ [])
  parts views id v w both at two =
      let one : List W = set views id (k.seated v) in
      let now : List W = one ++ k.seated w ∷ [] in
      keeps_but views now id both at (λ j u away h. at_kept one (k.seated w ∷ []) j u (set_else views id j (k.seated v) away ∙ h))
      (λ i o h. ⊎_elim
      (λ (y : (i ≡ 0) × (v ≡ o)). subst (IsFound k now) y.1 (found_here now v (seated_there now id v (at_kept one (k.seated w ∷ []) id (k.seated v) (set_there views id both (k.seated v) at)))))
      (λ (y : (i ≡ 1) × (w ≡ o)). subst (IsFound k now) y.1 (found_here now w (seated_there now (length one) w (at_last one (k.seated w)))))
      (two_of v w o i (ap (λ l. get_elem? l i) (sym two) ∙ h)))

  -- a view stays as it is, and a token comes
  pub comes : (views : List W) (x : W) → Keeps k views (views ++ x ∷ [])
  comes views x = keeps_all views (views ++ x ∷ []) (λ j u h. at_kept views (x ∷ []) j u h)

  -- a view with no seat changes, and a token comes
  pub deals : (views : List W) (id : ℕ) (was now x : W) → get_elem? views id ≡ some was → k.members was ≡ [] → Keeps k views (set views id now ++ x ∷ [])
  deals views id was now x at none =
      keeps_but views (set views id now ++ x ∷ []) id was at (λ j u away h. at_kept (set views id now) (x ∷ []) j u (set_else views id j now away ∙ h))
      (λ i o h. no_one o i (ap (λ l. get_elem? l i) (sym none) ∙ h))

  -- a view takes in the seat of another one
  pub gathers : (views : List W) (id other : ℕ) (was all gone : W) (w : V) → get_elem? views id ≡ some was → other ≢ id → get_elem? views other ≡ some (k.seated w)
      → k.members all ≡ k.members was ++ w ∷ [] → Keeps k views (set (set views id all) other gone)
  gathers views id other was all gone w at ne there more =
      let one : List W = set views id all in
      let vs : List V = k.members was in
      let inside : get_elem? one id ≡ some all = set_there views id was all at in
      keeps_twice views one (set one other gone)
      (keeps_but views one id was at (λ j u away h. set_else views id j all away ∙ h)
      (λ i o h. found_here one o (id, i, all, inside, ap (λ l. get_elem? l i) more ∙ at_kept vs (w ∷ []) i o h)))
      (keeps_but one (set one other gone) other (k.seated w) (set_else views id other all ne ∙ there) (λ j u away h. set_else one other j gone away ∙ h)
      (λ i o h. found_here (set one other gone) o (
        id,
        length vs,
        all,
        set_else one other id gone (λ e. ne (sym e)) ∙ inside,
        ap (λ l. get_elem? l (length vs)) more ∙ (at_last vs w ∙ ap some (one_of w o i (ap (λ l. get_elem? l i) (sym (k.alone w)) ∙ h)).1),
      )))

  -- one seat knows more
  pub looks : (views : List W) (id : ℕ) (v v' : V) → get_elem? views id ≡ some (k.seated v) → k.number v' ≡ k.number v → IsPrefix (k.ran v) (k.ran v')
      → Keeps k views (set views id (k.seated v'))
  looks views id v v' at number ran =
      let now : List W = set views id (k.seated v') in
      keeps_but views now id (k.seated v) at (λ j u away h. set_else views id j (k.seated v') away ∙ h)
      (λ i o h. subst (IsFound k now) (one_of v o i (ap (λ l. get_elem? l i) (sym (k.alone v)) ∙ h)).1
      (v', seated_there now id v' (set_there views id (k.seated v) (k.seated v') at), number, ran))

  -- two seats that are one know more
  pub meets : (views : List W) (id : ℕ) (v w v' w' : V) (both now : W) → get_elem? views id ≡ some both → k.members both ≡ v ∷ w ∷ [] → k.members now ≡ v' ∷ w' ∷ []
      → k.number v' ≡ k.number v → IsPrefix (k.ran v) (k.ran v') → k.number w' ≡ k.number w → IsPrefix (k.ran w) (k.ran w') → Keeps k views (set views id now)
  meets views id v w v' w' both now at was is n1 r1 n2 r2 =
      let inside : get_elem? (set views id now) id ≡ some now = set_there views id both now at in
      keeps_but views (set views id now) id both at (λ j u away h. set_else views id j now away ∙ h)
      (λ i o h. ⊎_elim
      (λ (y : (i ≡ 0) × (v ≡ o)). subst (IsFound k (set views id now)) y.1 (v', (id, 0, now, inside, ap (λ l. get_elem? l 0) is), n1, r1))
      (λ (y : (i ≡ 1) × (w ≡ o)). subst (IsFound k (set views id now)) y.1 (w', (id, 1, now, inside, ap (λ l. get_elem? l 1) is), n2, r2))
      (two_of v w o i (ap (λ l. get_elem? l i) (sym was) ∙ h)))

-- the seat of a step is among the views before and after, and its own moves are all of its own
module _ {M V W : Type 0} (k : Knowing M V W) (views views' : List W) (g : GoesOn k views views') where
  abbrev pub was_seated : IsAmong k views g.before
  was_seated = seated_there k views g.id g.before g.seat

  abbrev pub is_seated : IsAmong k views' g.after
  is_seated = seated_there k views' g.id g.after (ap (λ vs. get_elem? vs g.id) g.changed ∙ set_there views g.id (k.seated g.before) (k.seated g.after) g.seat)

  pub all_own : All (λ m. k.by m ≡ k.number g.before) (g.sets_out ++ g.last ∷ [])
  all_own = All-append (λ m. k.by m ≡ k.number g.before) g.sets_out (g.last ∷ []) g.by_own
      (All-cons (λ m. k.by m ≡ k.number g.before) g.last [] g.by_last (All-nil (λ m. k.by m ≡ k.number g.before)))

-- a step between views that are told, whichever runs these are told of
module _ {M V W : Type 0} (k : Knowing M V W) (views views' : List W) (run run' : List M) (h : AreTold k views run) (q : AreTold k views' run') (g : GoesOn k views views') where
  abbrev me : ℕ
  me = k.number g.before

  abbrev after : List M
  after = k.ran g.after

  abbrev own : List M
  own = g.sets_out ++ g.last ∷ []

  abbrev IsOther : M → Type 0
  IsOther m = k.by m ≢ me

  mine_before : Ran k.by run me (k.ran g.before)
  mine_before = h.ran g.before (was_seated k views views' g)

  mine_then : Ran k.by run' (k.number g.after) after
  mine_then = q.ran g.after (is_seated k views views' g)

  -- another seat is there afterwards as it was, and was before as it is then
  still : (w : V) → k.number w ≢ me → IsAmong k views w → IsAmong k views' w
  still w ne is = (is.0, is.1, is.2, ap (λ vs. get_elem? vs is.0) g.changed ∙ (set_else views g.id is.0 (k.seated g.after) away ∙ is.3), is.4)
    where
      away : is.0 ≢ g.id
      away e = ne (ap k.number (sym (seat_in k views g.id g.before w g.seat is e)))

  was_there : (w : V) → k.number w ≢ me → IsAmong k views' w → IsAmong k views w
  was_there w ne is = ⊎_elim
      (λ (y : (is.0 ≡ g.id) × (k.seated g.after ≡ is.2)).
      let one : g.after ≡ w = seat_in k views' g.id g.after w (is_seated k views views' g).3 is y.0 in
      absurd (ne (ap k.number (sym one) ∙ g.number)))
      (λ (y : (is.0 ≢ g.id) × (get_elem? views is.0 ≡ some is.2)). (is.0, is.1, is.2, y.1, is.4))
      (at_set views g.id is.0 (k.seated g.after) is.2 (ap (λ vs. get_elem? vs is.0) (sym g.changed) ∙ is.3))

  -- a move by who made none of these
  not_among : (ms : List M) (n : ℕ) (xs ys : List M) (m : M) (ran : List M) → Ran k.by ms n ran → ms ≡ ran ++ (xs ++ m ∷ ys) → k.by m ≢ n
  not_among ms n xs ys m ran r e = stands (λ x. k.by x ≢ n) xs m ys
      (recursion_from_All (λ x. k.by x ≢ n) _ (subst (All (λ x. k.by x ≢ n)) (append_cancel_left ran r.rest (xs ++ m ∷ ys) (sym r.begins ∙ e)) r.others))

  -- what another one knows begins what the step's seat knows then: else the step would stand among moves of others
  others_less : (v : V) → k.number v ≢ me → IsAmong k views v → IsPrefix (k.ran v) after
  others_less v ne is = ⊎_elim (λ (p : IsPrefix (k.ran v) after). p) (λ (p : IsPrefix after (k.ran v)). absurd (late p))
      (prefixes (k.ran v) after theirs.rest mine_then.rest (sym theirs.begins ∙ mine_then.begins))
    where
      theirs : Ran k.by run' (k.number v) (k.ran v)
      theirs = q.ran v (still v ne is)

      was : Ran k.by run (k.number v) (k.ran v)
      was = h.ran v is

      late : IsPrefix after (k.ran v) → ⊥
      late p =
          let behind : List M = p.0 ++ was.rest in
          let parts : after ++ behind ≡ k.ran g.before ++ ((g.others ++ g.sets_out) ++ g.last ∷ behind) =
          ap (λ xs. xs ++ behind) (g.ran ∙ ap (λ xs. k.ran g.before ++ xs) (sym (append_assoc g.others g.sets_out (g.last ∷ []))))
          ∙ (append_assoc (k.ran g.before) ((g.others ++ g.sets_out) ++ g.last ∷ []) behind ∙ ap (λ xs. k.ran g.before ++ xs) (append_assoc (g.others ++ g.sets_out) (g.last ∷ []) behind)) in
          let whole : run ≡ after ++ behind = was.begins ∙ (ap (λ xs. xs ++ was.rest) (sym p.1) ∙ append_assoc after p.0 was.rest) in
          not_among run me (g.others ++ g.sets_out) behind g.last (k.ran g.before) mine_before (whole ∙ parts) g.by_last

  -- what any seat knew of the run begins what the step's seat knows of it then
  pub in_order : (v : V) → IsAmong k views v → IsPrefix (k.ran v) after
  in_order v is = ⊎_elim
      (λ (e : is.0 ≡ g.id). subst (λ x. IsPrefix (k.ran x) after) (seat_in k views g.id g.before v g.seat is e) (g.others ++ own, sym g.ran))
      (λ (ne : is.0 ≢ g.id). others_less v (λ e. ne (h.apart v g.before is (was_seated k views views' g) e)) is)
      (same_or_not is.0 g.id)

  -- no move of another follows what the step's seat knows
  ends : (r : List M) → run' ≡ after ++ r → AllByRecursion IsOther r → r ≡ []
  ends [] e others = refl
  ends (m ∷ r) e others = absurd (go (q.there (k.by m)))
    where
      go : IsThere k views' run' (k.by m) → ⊥
      go (inl none) = not_among run' (k.by m) after r m [] none e refl
      go (inr y) =
          let ne : k.number y.0 ≢ me = λ same. others.0 (sym y.2 ∙ same) in
          let p = others_less y.0 ne (was_there y.0 ne y.1) in
          not_among run' (k.number y.0) p.0 r m (k.ran y.0) (q.ran y.0 y.1) (e ∙ (ap (λ xs. xs ++ m ∷ r) (sym p.1) ∙ append_assoc (k.ran y.0) p.0 (m ∷ r))) (sym y.2)

  -- the step's seat then knows of the whole run
  pub all_known : run' ≡ after
  all_known =
      let none : mine_then.rest ≡ [] = ends mine_then.rest mine_then.begins
      (recursion_from_All IsOther mine_then.rest (subst (λ n. All (λ m. k.by m ≢ n) mine_then.rest) g.number mine_then.others)) in
      mine_then.begins ∙ (ap (λ r. after ++ r) none ∙ append-nil after)

  -- what was made before the step begins what its seat knows then
  starts : (c x y : List M) (m : M) → run ≡ c ++ m ∷ x → after ≡ c ++ y → k.by m ≢ me → (y' : List M) × (y ≡ m ∷ y')
  starts c x y m l a other = go (h.there (k.by m))
    where
      go : IsThere k views run (k.by m) → (y' : List M) × (y ≡ m ∷ y')
      go (inl none) = absurd (not_among run (k.by m) c x m [] none l refl)
      go (inr w) = by (prefixes (k.ran w.0) c was.rest (m ∷ x) (sym was.begins ∙ l))
        where
          ne : k.number w.0 ≢ me
          ne same = other (sym w.2 ∙ same)

          was : Ran k.by run (k.number w.0) (k.ran w.0)
          was = h.ran w.0 w.1

          p : IsPrefix (k.ran w.0) after
          p = others_less w.0 ne w.1

          nonempty : (d : List M) → c ++ d ≡ k.ran w.0 → (y' : List M) × (y ≡ m ∷ y')
          nonempty [] d = absurd (not_among run (k.number w.0) [] x m (k.ran w.0) was (l ∙ ap (λ xs. xs ++ m ∷ x) (sym (append-nil c) ∙ d)) (sym w.2))
          nonempty (m' ∷ d') d =
              let same : m ∷ x ≡ m' ∷ (d' ++ was.rest) = append_cancel_left c (m ∷ x) (m' ∷ (d' ++ was.rest)) (sym l ∙ (was.begins ∙ (ap (λ xs. xs ++ was.rest) (sym d) ∙ append_assoc c (m' ∷ d') was.rest))) in
              let head : m ≡ m' = ap (λ xs. get_or xs 0 m) same in
              let rest : y ≡ m' ∷ (d' ++ p.0) = append_cancel_left c y (m' ∷ (d' ++ p.0)) (sym a ∙ (sym p.1 ∙ (ap (λ xs. xs ++ p.0) (sym d) ∙ append_assoc c (m' ∷ d') p.0))) in
              (d' ++ p.0, rest ∙ ap (λ b. b ∷ (d' ++ p.0)) (sym head))

          by : IsPrefix (k.ran w.0) c ⊎ IsPrefix c (k.ran w.0) → (y' : List M) × (y ≡ m ∷ y')
          by (inl d) = absurd (not_among run (k.number w.0) d.0 x m (k.ran w.0) was (l ∙ (ap (λ xs. xs ++ m ∷ x) (sym d.1) ∙ append_assoc (k.ran w.0) d.0 (m ∷ x))) (sym w.2))
          by (inr d) = nonempty d.0 d.1

  follow : (c x y : List M) → run ≡ c ++ x → after ≡ c ++ y → AllByRecursion IsOther x → (e : List M) × (y ≡ x ++ e)
  follow c [] y l a others = (y, refl)
  follow c (m ∷ x) y l a others =
      let d = starts c x y m l a others.0 in
      let r = follow (c ++ m ∷ []) x d.0 (l ∙ sym (append_assoc c (m ∷ []) x)) (a ∙ (ap (λ xs. c ++ xs) d.1 ∙ sym (append_assoc c (m ∷ []) d.0))) others.1 in
      (r.0, d.1 ∙ ap (λ xs. m ∷ xs) r.1)

  -- the run goes on by moves of the step's seat alone
  pub goes_by_own : after ≡ run ++ own
  goes_by_own = ends_so (prefixes g.others mine_before.rest own e.0 e.1)
    where
      old : List M
      old = mine_before.rest

      others_old : AllByRecursion IsOther old
      others_old = recursion_from_All IsOther old mine_before.others

      e : (e : List M) × (g.others ++ own ≡ old ++ e)
      e = follow (k.ran g.before) old (g.others ++ own) mine_before.begins g.ran others_old

      whole : (x : List M) → e.0 ≡ x → after ≡ run ++ x
      whole x same = g.ran ∙ (ap (λ xs. k.ran g.before ++ xs) (e.1 ∙ ap (λ xs. old ++ xs) same) ∙ (sym (append_assoc (k.ran g.before) old x) ∙ ap (λ xs. xs ++ x) (sym mine_before.begins)))

      none_more : (p : List M) → g.others ++ p ≡ old → own ≡ p ++ e.0 → after ≡ run ++ own
      none_more [] a b = whole own (sym b)
      none_more (m ∷ p) a b = absurd (stands IsOther g.others m p (recursion_from_All IsOther (g.others ++ m ∷ p) (subst (All IsOther) (sym a) mine_before.others))
          (stands (λ x. k.by x ≡ me) [] m (p ++ e.0) (recursion_from_All (λ x. k.by x ≡ me) (m ∷ (p ++ e.0)) (subst (All (λ x. k.by x ≡ me)) b (all_own k views views' g)))))

      none_between : (p : List M) → old ++ p ≡ g.others → e.0 ≡ p ++ own → after ≡ run ++ own
      none_between [] a b = whole own b
      none_between (m ∷ p) a b = absurd (go (q.there (k.by m)))
        where
          other : IsOther m
          other = stands IsOther old m p (recursion_from_All IsOther (old ++ m ∷ p) (subst (All IsOther) (sym a) g.by_others))

          long : run' ≡ run ++ m ∷ (p ++ own)
          long = all_known ∙ whole (m ∷ (p ++ own)) b

          go : IsThere k views' run' (k.by m) → ⊥
          go (inl none) = not_among run' (k.by m) run (p ++ own) m [] none long refl
          go (inr w) =
              let ne : k.number w.0 ≢ me = λ same. other (sym w.2 ∙ same) in
              let was : Ran k.by run (k.number w.0) (k.ran w.0) = h.ran w.0 (was_there w.0 ne w.1) in
              not_among run' (k.number w.0) was.rest (p ++ own) m (k.ran w.0) (q.ran w.0 w.1)
              (long ∙ (ap (λ xs. xs ++ m ∷ (p ++ own)) was.begins ∙ append_assoc (k.ran w.0) was.rest (m ∷ (p ++ own)))) (sym w.2)

      ends_so : IsPrefix g.others old ⊎ IsPrefix old g.others → after ≡ run ++ own
      ends_so (inl p) = none_more p.0 p.1 (append_cancel_left g.others own (p.0 ++ e.0) (e.1 ∙ (ap (λ xs. xs ++ e.0) (sym p.1) ∙ append_assoc g.others p.0 e.0)))
      ends_so (inr p) = none_between p.0 p.1 (append_cancel_left old e.0 (p.0 ++ own) (sym e.1 ∙ (ap (λ xs. xs ++ own) (sym p.1) ∙ append_assoc old p.0 own)))
