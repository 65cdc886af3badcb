-- States are tried once each, and where there is no room for more, those that are reached are too many.
use Rattle.std.proofs.Common.{◌≡◌, ℕ, ◌+◌, ◌<◌, ◌≤◌, Bool, true, false, ◌&&◌, ◌||◌, cond, ◌⊎◌, inl, inr, List, [], ◌∷◌, ◌++◌, length, refl, sym, ap, ◌∙◌, subst, arith}
use Rattle.std.specs.List.{AllByRecursion, list_any}
use Rattle.std.specs.Cmp.{booleans_Decides}
use Rattle.std.specs.Cmp.Lexicographic.{bytes_decides}
use Rattle.std.proofs.lemmas.Bool.Decides.{Decides-eqb}
use Rattle.std.proofs.lemmas.List.{map-append, length-append}
use Rattle.history.specs.declared.operations.Stamped.{Stamped}
use Rattle.waiting_orders.specs.declared.boards.Board.{Board}
use Rattle.waiting_orders.specs.declared.nodes.Node.{Node}
use Rattle.waiting_orders.specs.Nodes.{Spot, IsIn, IsBoard, is_same, start, turned, view, views}
use Rattle.waiting_orders.specs.Reached.{AreApart, IsReached, Leads, TakesRoom, size, sizes}
use Rattle.waiting_orders.specs.Indexed.{indexed}
use Rattle.waiting_orders.specs.Search.{HasNoRoom, IsCounted, IsFull, IsPut, WerePut}
use Rattle.waiting_orders.proofs.Lists.{both_true, or_left, or_right}

-- ---- states are compared exactly

both_so : (a b : Bool) → (a && b) ≡ true → (a ≡ true) × (b ≡ true)
both_so true b e = (refl, e)
both_so false b e = absurd cc

pub same_view : (m n : Node) → is_same m n ≡ true → view m ≡ view n
same_view m n h =
    let a = both_so _ _ h in
    let b = both_so _ _ a.1 in
    let c = both_so _ _ b.1 in
    let d = both_so _ _ c.1 in
    let e = both_so _ _ d.1 in
    let shut : m.is_shut ≡ n.is_shut = (booleans_Decides m.is_shut n.is_shut).0 a.0 in
    let time : m.time ≡ n.time = (Decides-eqb m.time n.time).0 b.0 in
    let others : m.others.from ≡ n.others.from = (Decides-eqb m.others.from n.others.from).0 c.0 in
    let pushes : m.pushes.from ≡ n.pushes.from = (Decides-eqb m.pushes.from n.pushes.from).0 d.0 in
    let kept : m.others.kept.items ≡ n.others.kept.items = (bytes_decides m.others.kept.items n.others.kept.items).0 e.0 in
    let waiting : m.pushes.kept.items ≡ n.pushes.kept.items = (bytes_decides m.pushes.kept.items n.pushes.kept.items).0 e.1 in
    (λ j. record { others = record { kept = kept j; from = others j }; pushes = record { kept = waiting j; from = pushes j }; shut = shut j; time = time j })

pub view_same : (m n : Node) → view m ≡ view n → is_same m n ≡ true
view_same m n e =
    both_true _ _ ((booleans_Decides m.is_shut n.is_shut).1 (ap (λ s. s.shut) e))
    (both_true _ _ ((Decides-eqb m.time n.time).1 (ap (λ s. s.time) e))
    (both_true _ _ ((Decides-eqb m.others.from n.others.from).1 (ap (λ s. s.others.from) e))
    (both_true _ _ ((Decides-eqb m.pushes.from n.pushes.from).1 (ap (λ s. s.pushes.from) e))
    (both_true _ _ ((bytes_decides m.others.kept.items n.others.kept.items).1 (ap (λ s. s.others.kept) e))
    ((bytes_decides m.pushes.kept.items n.pushes.kept.items).1 (ap (λ s. s.pushes.kept) e))))))

pub any_in : (n : Node) (ns : List Node) → list_any (is_same n) ns ≡ true → IsIn (view n) (views ns)
any_in n [] e = absurd cc
any_in n (m ∷ ns) e = go (is_same n m) refl e (λ e. any_in n ns e)
  where
    go : (b : Bool) → is_same n m ≡ b → (b || list_any (is_same n) ns) ≡ true → (list_any (is_same n) ns ≡ true → IsIn (view n) (views ns)) → IsIn (view n) (views (m ∷ ns))
    go true f e more = inl (same_view n m f)
    go false f e more = inr (more e)

in_any : (n : Node) (ns : List Node) → IsIn (view n) (views ns) → list_any (is_same n) ns ≡ true
in_any n [] i = absurd i
in_any n (m ∷ ns) (inl e) = or_left (is_same n m) (list_any (is_same n) ns) (view_same n m e)
in_any n (m ∷ ns) (inr i) = or_right (is_same n m) (list_any (is_same n) ns) (in_any n ns i)

pub none_in : (n : Node) (ns : List Node) → list_any (is_same n) ns ≡ false → IsIn (view n) (views ns) → ⊥
none_in n ns e i = let f = in_any n ns i in cc (sym e ∙ f)

-- a state that is none of those there goes last
pub put_node : (n : Node) (ns after : List Node) → (IsIn (view n) (views ns) → ⊥) → after ≡ cond (list_any (is_same n) ns) ns (ns ++ n ∷ []) → after ≡ ns ++ n ∷ []
put_node n ns after off e = go (list_any (is_same n) ns) refl e
  where
    go : (b : Bool) → list_any (is_same n) ns ≡ b → after ≡ cond b ns (ns ++ n ∷ []) → after ≡ ns ++ n ∷ []
    go true f e = absurd (off (any_in n ns f))
    go false f e = e

pub put_last : (n : Node) (ns after : List Node) → (IsIn (view n) (views ns) → ⊥) → after ≡ cond (list_any (is_same n) ns) ns (ns ++ n ∷ []) → views after ≡ views ns ++ view n ∷ []
put_last n ns after off e = ap views (put_node n ns after off e) ∙ map-append view ns (n ∷ [])

-- ---- lists of states

in_split : (us : List Spot) (s u : Spot) → IsIn u (us ++ s ∷ []) → IsIn u us ⊎ (u ≡ s)
in_split [] s u (inl e) = inr e
in_split [] s u (inr i) = absurd i
in_split (v ∷ us) s u (inl e) = inl (inl e)
in_split (v ∷ us) s u (inr i) = go (in_split us s u i)
  where
    go : IsIn u us ⊎ (u ≡ s) → IsIn u (v ∷ us) ⊎ (u ≡ s)
    go (inl i) = inl (inr i)
    go (inr e) = inr e

pub in_front : (us vs : List Spot) (u : Spot) → IsIn u us → IsIn u (us ++ vs)
in_front [] vs u i = absurd i
in_front (v ∷ us) vs u (inl e) = inl e
in_front (v ∷ us) vs u (inr i) = inr (in_front us vs u i)

in_either : (us vs : List Spot) (u : Spot) → IsIn u (us ++ vs) → IsIn u us ⊎ IsIn u vs
in_either [] vs u i = inr i
in_either (v ∷ us) vs u (inl e) = inl (inl e)
in_either (v ∷ us) vs u (inr i) = go (in_either us vs u i)
  where
    go : IsIn u us ⊎ IsIn u vs → IsIn u (v ∷ us) ⊎ IsIn u vs
    go (inl i) = inl (inr i)
    go (inr i) = inr i

pub in_neither : (us vs : List Spot) (u : Spot) → (IsIn u us → ⊥) → (IsIn u vs → ⊥) → IsIn u (us ++ vs) → ⊥
in_neither us vs u a b i = go (in_either us vs u i)
  where
    go : IsIn u us ⊎ IsIn u vs → ⊥
    go (inl i) = a i
    go (inr i) = b i

pub in_behind : (us vs : List Spot) (u : Spot) → IsIn u vs → IsIn u (us ++ vs)
in_behind [] vs u i = i
in_behind (v ∷ us) vs u i = inr (in_behind us vs u i)

in_last : (us : List Spot) (s : Spot) → IsIn s (us ++ s ∷ [])
in_last [] s = inl refl
in_last (u ∷ us) s = inr (in_last us s)

apart_more : (us : List Spot) (s : Spot) → AreApart us → (IsIn s us → ⊥) → AreApart (us ++ s ∷ [])
apart_more [] s a off = ((λ i. i), tt)
apart_more (u ∷ us) s a off = ((λ i. go (in_split us s u i)), apart_more us s a.1 (λ i. off (inr i)))
  where
    go : IsIn u us ⊎ (u ≡ s) → ⊥
    go (inl i) = a.0 i
    go (inr e) = off (inl (sym e))

apart_front : (us : List Spot) (s : Spot) → AreApart (us ++ s ∷ []) → AreApart us
apart_front [] s a = tt
apart_front (u ∷ us) s a = ((λ i. a.0 (in_front us (s ∷ []) u i)), apart_front us s a.1)

apart_both : (us vs : List Spot) → AreApart us → AreApart vs → AllByRecursion (λ v. IsIn v us → ⊥) vs → AreApart (us ++ vs)
apart_both [] vs a b off = b
apart_both (u ∷ us) vs a b off = ((λ i. go (in_either us vs u i)), apart_both us vs a.1 b (all_off vs off))
  where
    none : (ws : List Spot) → AllByRecursion (λ v. IsIn v (u ∷ us) → ⊥) ws → IsIn u ws → ⊥
    none [] off i = i
    none (w ∷ ws) off (inl e) = off.0 (inl (sym e))
    none (w ∷ ws) off (inr i) = none ws off.1 i

    go : IsIn u us ⊎ IsIn u vs → ⊥
    go (inl i) = a.0 i
    go (inr i) = none vs off i

    all_off : (ws : List Spot) → AllByRecursion (λ v. IsIn v (u ∷ us) → ⊥) ws → AllByRecursion (λ v. IsIn v us → ⊥) ws
    all_off [] off = tt
    all_off (w ∷ ws) off = ((λ i. off.0 (inr i)), all_off ws off.1)

-- what is none of these, nor another state that is none of them either
off_more : (done : List Spot) (s : Spot) (us : List Spot) → AreApart (us ++ s ∷ []) → AllByRecursion (λ u. IsIn u done → ⊥) us → AllByRecursion (λ u. IsIn u (done ++ s ∷ []) → ⊥) us
off_more done s [] a off = tt
off_more done s (u ∷ us) a off = ((λ i. go (in_split done s u i)), off_more done s us a.1 off.1)
  where
    go : IsIn u done ⊎ (u ≡ s) → ⊥
    go (inl i) = off.0 i
    go (inr e) = a.0 (subst (λ u. IsIn u (us ++ s ∷ [])) (sym e) (in_last us s))

sizes_both : (us vs : List Spot) → sizes (us ++ vs) ≡ sizes us + sizes vs
sizes_both [] vs = omega arith
sizes_both (u ∷ us) vs = let e = sizes_both us vs in omega (arith, e)

module _ (P : Spot → Type 0) where
  pub joined : (us vs : List Spot) → AllByRecursion P us → AllByRecursion P vs → AllByRecursion P (us ++ vs)
  joined [] vs a b = b
  joined (u ∷ us) vs a b = (a.0, joined us vs a.1 b)

  pub front : (us vs : List Spot) → AllByRecursion P (us ++ vs) → AllByRecursion P us
  front [] vs h = tt
  front (u ∷ us) vs h = (h.0, front us vs h.1)

  pub behind : (us vs : List Spot) → AllByRecursion P (us ++ vs) → AllByRecursion P vs
  behind [] vs h = h
  behind (u ∷ us) vs h = behind us vs h.1

  pub all_turned : (us : List Spot) → AllByRecursion P us → AllByRecursion P (turned us)
  all_turned [] h = tt
  all_turned (u ∷ us) h = joined (turned us) (u ∷ []) (all_turned us h.1) (h.0, tt)

-- ---- what is reached

module _ (others pushes : List Stamped) (us more : List Spot) (in_more : (u : Spot) → IsIn u us → IsIn u more) where
  reached_more : (t : Spot) → IsReached others pushes us t → IsReached others pushes more t
  reached_more t (inl e) = inl e
  reached_more t (inr h) = inr (h.0, in_more h.0 h.1, h.2)

  all_reached : (ts : List Spot) → AllByRecursion (IsReached others pushes us) ts → AllByRecursion (IsReached others pushes more) ts
  all_reached [] h = tt
  all_reached (t ∷ ts) h = (reached_more t h.0, all_reached ts h.1)

-- ---- what is counted

module _ (board : Board) where
  abbrev Reached : List Spot → Spot → Type 0
  Reached us t = IsReached board.others.items board.pushes.items us t

  abbrev Led : Spot → Spot → Type 0
  Led s t = Leads board.others.items board.pushes.items s t

  -- the last one of those ahead is put to those that were tried
  pub counted_put : (done ahead : List Spot) (s : Spot) (bytes : ℕ) → IsCounted board done (ahead ++ s ∷ []) bytes → IsCounted board (done ++ s ∷ []) ahead bytes
  counted_put done ahead s bytes h = record {
    done_apart = apart_more done s h.done_apart (behind (λ u. IsIn u done → ⊥) ahead (s ∷ []) h.new).0;
    ahead_apart = apart_front ahead s h.ahead_apart;
    new = off_more done s ahead h.ahead_apart (front (λ u. IsIn u done → ⊥) ahead (s ∷ []) h.new);
    done_reached = more (done ++ s ∷ []) (joined (Reached done) done (s ∷ []) h.done_reached (behind (Reached done) ahead (s ∷ []) h.ahead_reached));
    ahead_reached = more ahead (front (Reached done) ahead (s ∷ []) h.ahead_reached);
    few = (let a = sizes_both done (s ∷ []) in let b = sizes_both ahead (s ∷ []) in let c = h.few in omega (arith, a, b, c));
  }
    where
      more : (ts : List Spot) → AllByRecursion (Reached done) ts → AllByRecursion (Reached (done ++ s ∷ [])) ts
      more ts h = all_reached board.others.items board.pushes.items done (done ++ s ∷ []) (λ u i. in_front done (s ∷ []) u i) ts h

  -- one is put ahead
  counted_one : (room : ℕ) (done ahead : List Spot) (bytes : ℕ) (s : Spot) (after : List Spot) (now : ℕ) (u : Spot) → IsIn u done → Led u s → IsPut room done ahead bytes s after now
      → IsCounted board done ahead bytes → IsCounted board done after now
  counted_one room done ahead bytes s after now u i led (inl p) h = subst (λ after. IsCounted board done after now) (sym p.1) (subst (IsCounted board done ahead) (sym p.2) h)
  counted_one room done ahead bytes s after now u i led (inr p) h = subst (λ after. IsCounted board done after now) (sym p.1) (record {
    done_apart = h.done_apart;
    ahead_apart = apart_more ahead s h.ahead_apart (λ k. p.0 (in_behind done ahead s k));
    new = joined (λ u. IsIn u done → ⊥) ahead (s ∷ []) h.new ((λ k. p.0 (in_front done ahead s k)), tt);
    done_reached = h.done_reached;
    ahead_reached = joined (Reached done) ahead (s ∷ []) h.ahead_reached (inr (u, i, led), tt);
    few = (let a = sizes_both ahead (s ∷ []) in let b = h.few in let c : now ≤ bytes + size s = p.3 in omega (arith, a, b, c));
  })

  -- several are put ahead
  pub counted_all : (room : ℕ) (done ahead : List Spot) (bytes : ℕ) (new after : List Spot) (now : ℕ) (u : Spot) → IsIn u done → AllByRecursion (Led u) new → WerePut room done ahead bytes new after now
      → IsCounted board done ahead bytes → IsCounted board done after now
  counted_all room done ahead bytes [] after now u i led p h = subst (λ after. IsCounted board done after now) (sym p.0) (subst (IsCounted board done ahead) (sym p.1) h)
  counted_all room done ahead bytes (s ∷ new) after now u i led p h =
      counted_all room done p.0 p.1 new after now u i led.1 p.3 (counted_one room done ahead bytes s p.0 p.1 u i led.0 p.2 h)

  -- where there is no room for one that is led to, those that are reached take it
  pub full_so : (room : ℕ) (done ahead : List Spot) (bytes : ℕ) (new : List Spot) (u : Spot) → IsIn u done → AllByRecursion (Led u) new → IsFull room done ahead bytes new
      → IsCounted board done ahead bytes → HasNoRoom board room
  full_so room done ahead bytes new u i led f h = record {
    states = all;
    apart = apart_both done (f.after ++ f.last ∷ []) c.done_apart (apart_more f.after f.last c.ahead_apart (λ k. f.unknown (in_behind done f.after f.last k)))
        (joined (λ u. IsIn u done → ⊥) f.after (f.last ∷ []) c.new ((λ k. f.unknown (in_front done f.after f.last k)), tt));
    reached = all_reached board.others.items board.pushes.items done all (λ u i. in_front done (f.after ++ f.last ∷ []) u i) all
        (joined (Reached done) done (f.after ++ f.last ∷ []) c.done_reached (joined (Reached done) f.after (f.last ∷ []) c.ahead_reached (inr (u, i, last_led.0), tt)));
    many = (let a = sizes_both done (f.after ++ f.last ∷ []) in let b = sizes_both f.after (f.last ∷ []) in let d = c.few in let e = f.full in omega (arith, a, b, d, e));
  }
    where
      all : List Spot
      all = done ++ (f.after ++ f.last ∷ [])

      split : AllByRecursion (Led u) (f.before ++ f.last ∷ f.later)
      split = subst (AllByRecursion (Led u)) f.split led

      last_led : AllByRecursion (Led u) (f.last ∷ f.later)
      last_led = behind (Led u) f.before (f.last ∷ f.later) split

      c : IsCounted board done f.after f.now
      c = counted_all room done ahead bytes f.before f.after f.now u i (front (Led u) f.before (f.last ∷ f.later) split) f.put h

  -- a state that is tried isn't one of those that were
  pub not_tried : (done ahead : List Spot) (s : Spot) (bytes : ℕ) → IsCounted board done (ahead ++ s ∷ []) bytes → IsIn s done → ⊥
  not_tried done ahead s bytes h = (behind (λ u. IsIn u done → ⊥) ahead (s ∷ []) h.new).0

  -- what was put to those that were tried and those ahead, with what the one tried leads to
  pub counts : (room : ℕ) (done ahead : List Spot) (s : Spot) (bytes : ℕ) (put new after : List Spot) (now : ℕ) → put ≡ done ++ s ∷ [] → AllByRecursion (Led s) new
      → WerePut room put ahead bytes (turned new) after now → IsCounted board done (ahead ++ s ∷ []) bytes → IsCounted board put after now
  counts room done ahead s bytes put new after now e led p h =
      counted_all room put ahead bytes (turned new) after now s (subst (IsIn s) (sym e) (in_last done s)) (all_turned (Led s) new led) p
      (subst (λ put. IsCounted board put ahead bytes) (sym e) (counted_put done ahead s bytes h))

  pub fills : (room : ℕ) (done ahead : List Spot) (s : Spot) (bytes : ℕ) (put new : List Spot) → put ≡ done ++ s ∷ [] → AllByRecursion (Led s) new
      → IsFull room put ahead bytes (turned new) → IsCounted board done (ahead ++ s ∷ []) bytes → HasNoRoom board room
  fills room done ahead s bytes put new e led f h =
      full_so room put ahead bytes (turned new) s (subst (IsIn s) (sym e) (in_last done s)) (all_turned (Led s) new led) f
      (subst (λ put. IsCounted board put ahead bytes) (sym e) (counted_put done ahead s bytes h))

-- ---- what was put ahead

module _ (room : ℕ) (done : List Spot) where
  -- one more
  pub put_more : (ahead : List Spot) (bytes : ℕ) (new : List Spot) (s : Spot) (between : List Spot) (by : ℕ) (after : List Spot) (now : ℕ) → WerePut room done ahead bytes new between by
      → IsPut room done between by s after now → WerePut room done ahead bytes (new ++ s ∷ []) after now
  put_more ahead bytes [] s between by after now p q =
      (after, now, subst (λ a. IsPut room done a bytes s after now) p.0 (subst (λ b. IsPut room done between b s after now) p.1 q), (refl, refl))
  put_more ahead bytes (t ∷ new) s between by after now p q = (p.0, p.1, p.2, put_more p.0 p.1 new s between by after now p.3 q)

  all_in : (us vs : List Spot) → ((u : Spot) → IsIn u us → IsIn u vs) → (ws : List Spot) → AllByRecursion (λ w. IsIn w us) ws → AllByRecursion (λ w. IsIn w vs) ws
  all_in us vs f [] h = tt
  all_in us vs f (w ∷ ws) h = (f w h.0, all_in us vs f ws h.1)

  keeps_one : (ahead : List Spot) (bytes : ℕ) (s : Spot) (after : List Spot) (now : ℕ) → IsPut room done ahead bytes s after now → (u : Spot) → IsIn u ahead → IsIn u after
  keeps_one ahead bytes s after now (inl p) u i = subst (IsIn u) (sym p.1) i
  keeps_one ahead bytes s after now (inr p) u i = subst (IsIn u) (sym p.1) (in_front ahead (s ∷ []) u i)

  pub keeps : (ahead : List Spot) (bytes : ℕ) (new after : List Spot) (now : ℕ) → WerePut room done ahead bytes new after now → (u : Spot) → IsIn u ahead → IsIn u after
  keeps ahead bytes [] after now p u i = subst (IsIn u) (sym p.0) i
  keeps ahead bytes (s ∷ new) after now p u i = keeps p.0 p.1 new after now p.3 u (keeps_one ahead bytes s p.0 p.1 p.2 u i)

  made_one : (ahead : List Spot) (bytes : ℕ) (s : Spot) (after : List Spot) (now : ℕ) → IsPut room done ahead bytes s after now → IsIn s (done ++ after)
  made_one ahead bytes s after now (inl p) = subst (λ after. IsIn s (done ++ after)) (sym p.1) p.0
  made_one ahead bytes s after now (inr p) = in_behind done after s (subst (IsIn s) (sym p.1) (in_last ahead s))

  both_keep : (ahead after : List Spot) → ((u : Spot) → IsIn u ahead → IsIn u after) → (u : Spot) → IsIn u (done ++ ahead) → IsIn u (done ++ after)
  both_keep ahead after f u i = go (in_either done ahead u i)
    where
      go : IsIn u done ⊎ IsIn u ahead → IsIn u (done ++ after)
      go (inl i) = in_front done after u i
      go (inr i) = in_behind done after u (f u i)

  pub all_made : (ahead : List Spot) (bytes : ℕ) (new after : List Spot) (now : ℕ) → WerePut room done ahead bytes new after now → AllByRecursion (λ u. IsIn u (done ++ after)) new
  all_made ahead bytes [] after now p = tt
  all_made ahead bytes (s ∷ new) after now p =
      (both_keep p.0 after (keeps p.0 p.1 new after now p.3) s (made_one ahead bytes s p.0 p.1 p.2), all_made p.0 p.1 new after now p.3)

  within_one : (ahead : List Spot) (bytes : ℕ) (s : Spot) (after : List Spot) (now : ℕ) → IsPut room done ahead bytes s after now → bytes ≤ room → now ≤ room
  within_one ahead bytes s after now (inl p) l = subst (λ now. now ≤ room) (sym p.2) l
  within_one ahead bytes s after now (inr p) l = p.4

  pub within : (ahead : List Spot) (bytes : ℕ) (new after : List Spot) (now : ℕ) → WerePut room done ahead bytes new after now → bytes ≤ room → now ≤ room
  within ahead bytes [] after now p l = subst (λ now. now ≤ room) (sym p.1) l
  within ahead bytes (s ∷ new) after now p l = within p.0 p.1 new after now p.3 (within_one ahead bytes s p.0 p.1 p.2 l)

  grown_one : (ahead : List Spot) (bytes : ℕ) (s : Spot) (after : List Spot) (now : ℕ) → IsPut room done ahead bytes s after now → length after + bytes ≤ length ahead + now
  grown_one ahead bytes s after now (inl p) = let a : length after ≡ length ahead = ap length p.1 in let b = p.2 in omega (arith, a, b)
  grown_one ahead bytes s after now (inr p) =
      let a : length after ≡ length ahead + 1 = ap length p.1 ∙ length-append ahead (s ∷ []) in let b : bytes < now = p.2 in omega (arith, a, b)

  pub grown : (ahead : List Spot) (bytes : ℕ) (new after : List Spot) (now : ℕ) → WerePut room done ahead bytes new after now → length after + bytes ≤ length ahead + now
  grown ahead bytes [] after now p = let a : length after ≡ length ahead = ap length p.0 in let b = p.1 in omega (arith, a, b)
  grown ahead bytes (s ∷ new) after now p =
      let a = grown_one ahead bytes s p.0 p.1 p.2 in
      let b = grown p.0 p.1 new after now p.3 in
      omega (arith, a, b)

-- the same of lists and bytes that are the same
pub were_moved : (room : ℕ) (done put ahead a : List Spot) (bytes b : ℕ) (new after : List Spot) (now : ℕ) → done ≡ put → ahead ≡ a → bytes ≡ b → WerePut room done ahead bytes new after now → WerePut room put a b new after now
were_moved room done put ahead a bytes b new after now e f g p =
    subst (λ d. WerePut room d a b new after now) e (subst (λ a. WerePut room done a b new after now) f (subst (λ b. WerePut room done ahead b new after now) g p))

pub full_moved : (room : ℕ) (done ahead a : List Spot) (bytes b : ℕ) (new : List Spot) → ahead ≡ a → bytes ≡ b → IsFull room done ahead bytes new → IsFull room done a b new
full_moved room done ahead a bytes b new f g p = subst (λ a. IsFull room done a b new) f (subst (λ b. IsFull room done ahead b new) g p)

-- ---- the start, and what is told

pub counted_first : (board : Board) (done ahead : List Node) (bytes : ℕ) → views done ≡ [] → views ahead ≡ start ∷ [] → bytes ≤ size start → IsCounted board (views done) (views ahead) bytes
counted_first board done ahead bytes e f l =
    subst (λ us. IsCounted board us (views ahead) bytes) (sym e)
    (subst (λ us. IsCounted board [] us bytes) (sym f)
    (record { done_apart = tt; ahead_apart = ((λ i. i), tt); new = ((λ i. i), tt); done_reached = tt; ahead_reached = (inl refl, tt); few = omega (arith, l) }))

pub counted_ahead : (board : Board) (done ahead rest : List Node) (node : Node) (bytes : ℕ) → ahead ≡ rest ++ node ∷ [] → IsCounted board (views done) (views ahead) bytes
    → IsCounted board (views done) (views rest ++ view node ∷ []) bytes
counted_ahead board done ahead rest node bytes e h = subst (λ l. IsCounted board (views done) l bytes) (ap views e ∙ map-append view rest (node ∷ [])) h

pub start_alone : (board : Board) (room bytes : ℕ) → bytes ≤ size start → room ≤ bytes → HasNoRoom board room
start_alone board room bytes l fits = record { states = start ∷ []; apart = ((λ i. i), tt); reached = (inl refl, tt); many = omega (arith, l, fits) }

pub takes_room : (ops : List Stamped) (board : Board) (room : ℕ) → IsBoard (indexed 0 ops) board → HasNoRoom board room → TakesRoom ops room
takes_room ops board room is many =
    record {
      others = board.others.items;
      pushes = board.pushes.items;
      all = is.all;
      none_waits = is.others;
      each_waits = is.pushes;
      others_rise = is.rising.others;
      pushes_rise = is.rising.pushes;
      many = many;
    }
