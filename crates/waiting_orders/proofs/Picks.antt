-- What is left without an operation that may be taken out.
use Rattle.std.proofs.Common.{◌≡◌, ℕ, zero, suc, ◌+◌, ◌-◌, ◌<◌, ◌≤◌, nat_lt, nat_le, cond, Bool, true, false, ◌&&◌, inl, inr, List, [], ◌∷◌, ◌++◌, Option, None, Some, length, take, drop, map, slice_get, refl, sym, ap, ◌∙◌, subst, arith}
use Rattle.std.specs.List.{AllByRecursion, list_all}
use Rattle.std.specs.List.Sorted.{IsPermutation}
use Rattle.std.proofs.lemmas.Bool.{leb-true, ltb-true, ltb-false}
use Rattle.std.proofs.lemmas.List.{map-append, append_assoc}
use Rattle.std.proofs.lemmas.List.Sorted.{IsPermutation-refl, IsPermutation-trans, IsPermutation-cons, IsPermutation-middle, IsPermutation-append_left, IsPermutation-append_right}
use Rattle.std.proofs.lemmas.Option.{slice_get_within, none-some, same_Some}
use Rattle.history.specs.declared.operations.Stamped.{Stamped}
use Rattle.waiting_orders.specs.declared.lines.Pick.{Pick}
use Rattle.waiting_orders.specs.Waiting.{is_open_at}
use Rattle.waiting_orders.specs.Lines.{Left, Out, HasOut, ArePicks, AreOut, left_of, picked, cat, without, gathered, spelled, without_kept, without_later, out_of, out_kept, kept_at, later_at, all_kept, later_to, view_left, view_picks}
use Rattle.waiting_orders.proofs.Picking.{found_first}
use Rattle.waiting_orders.proofs.Places.{gathered_next, without_split, get_dropped, drop_twice, cat_append, map_without, get_mapped, where_is, IsWhere, all_at, run_is, taken_out}

out_left : (ops : List Stamped) (xs ys : List Out) (o : Stamped) (rest : List Stamped) → HasOut ops xs o rest → HasOut ops (xs ++ ys) o rest
out_left ops [] ys o rest h = absurd h
out_left ops (x ∷ xs) ys o rest (inl h) = inl h
out_left ops (x ∷ xs) ys o rest (inr h) = inr (out_left ops xs ys o rest h)

out_right : (ops : List Stamped) (xs ys : List Out) (o : Stamped) (rest : List Stamped) → HasOut ops ys o rest → HasOut ops (xs ++ ys) o rest
out_right ops [] ys o rest h = h
out_right ops (x ∷ xs) ys o rest h = inr (out_right ops xs ys o rest h)

pub outs_joined : (P : Out → Type 0) (xs ys : List Out) → AllByRecursion P xs → AllByRecursion P ys → AllByRecursion P (xs ++ ys)
outs_joined P [] ys a b = b
outs_joined P (x ∷ xs) ys a b = (a.0, outs_joined P xs ys a.1 b)

out_gathered : (ops : List Stamped) (f : ℕ → List Out) (from to k : ℕ) (o : Stamped) (rest : List Stamped) → from ≤ k → k < to → HasOut ops (f k) o rest → HasOut ops (gathered f from to) o rest
out_gathered ops f from zero k o rest a b h = absurd (omega (arith, b))
out_gathered ops f from (suc to) k o rest a b h =
    let l : from ≤ to = omega (arith, a, b) in
    subst (λ xs. HasOut ops xs o rest) (sym (gathered_next f from to l)) (go (nat_lt k to) refl (λ m. out_gathered ops f from to k o rest a m h))
  where
    go : (c : Bool) → nat_lt k to ≡ c → (k < to → HasOut ops (gathered f from to) o rest) → HasOut ops (gathered f from to ++ f to) o rest
    go true e more = out_left ops (gathered f from to) (f to) o rest (more (ltb-true k to e))
    go false e more =
        let m : to ≤ k = ltb-false k to e in
        let same : k ≡ to = omega (arith, m, b) in
        out_right ops (gathered f from to) (f to) o rest (subst (λ k. HasOut ops (f k) o rest) same h)

-- what is left of places spelled out is what was left
pub spelled_left : (ops : List Stamped) (left : Left) (k : ℕ) → picked ops (spelled (left.from + k) left) ≡ picked ops left.kept ++ take k (drop left.from ops)
spelled_left ops left k =
    ap cat (map-append (slice_get ops) left.kept (gathered (λ place. place ∷ []) left.from (left.from + k)))
    ∙ cat_append (map (slice_get ops) left.kept) (map (slice_get ops) (gathered (λ place. place ∷ []) left.from (left.from + k)))
    ∙ ap (λ l. picked ops left.kept ++ l) (run_is ops left.from k)

later_left : (ops : List Stamped) (left : Left) (j : ℕ) → left_of ops (without_later (left.from + j) left) ≡ picked ops left.kept ++ without j (drop left.from ops)
later_left ops left j =
    let more : left.from + j + 1 ≡ left.from + suc j = omega arith in
    ap (λ l. l ++ drop (left.from + j + 1) ops) (spelled_left ops left j)
    ∙ append_assoc (picked ops left.kept) (take j (drop left.from ops)) (drop (left.from + j + 1) ops)
    ∙ ap (λ l. picked ops left.kept ++ l)
    (ap (λ l. take j (drop left.from ops) ++ l) (ap (λ n. drop n ops) more ∙ sym (drop_twice left.from (suc j) ops)) ∙ sym (without_split j (drop left.from ops)))

module _ (ops : List Stamped) (left : Left) (limit : Option ℕ) (until : ℕ) (past : AllByRecursion (λ o. is_open_at o.first limit ≡ false) (drop until ops)) where
  abbrev outs : List Out
  outs = all_kept ops left ++ later_to ops left until

  kept_there : (o : Stamped) (rest : List Stamped) (at place : ℕ) → slice_get left.kept at ≡ Some place → slice_get ops place ≡ Some o → IsPermutation rest (left_of ops (without_kept at left)) → HasOut ops outs o rest
  kept_there o rest at place e f h =
      out_left ops (all_kept ops left) (later_to ops left until) o rest
      (out_gathered ops (kept_at ops left) 0 (length left.kept) at o rest (omega arith) (slice_get_within left.kept at place e)
      (subst (λ x. HasOut ops (out_kept ops left at x) o rest) (sym e) (subst (λ x. HasOut ops (out_of x (without_kept at left)) o rest) (sym f) (inl (refl, h)))))

  before : (place : ℕ) (o : Stamped) → slice_get ops place ≡ Some o → is_open_at o.first limit ≡ true → place < until
  before place o e ahead = go (nat_lt place until) refl
    where
      go : (b : Bool) → nat_lt place until ≡ b → place < until
      go true f = ltb-true place until f
      go false f =
          let l : until ≤ place = ltb-false place until f in
          let k : until + (place - until) ≡ place = omega (arith, l) in
          let there : slice_get (drop until ops) (place - until) ≡ Some o = get_dropped until (place - until) ops ∙ ap (slice_get ops) k ∙ e in
          let shut : is_open_at o.first limit ≡ false = all_at (λ o. is_open_at o.first limit ≡ false) (drop until ops) (place - until) o there past in
          absurd (cc (sym ahead ∙ shut))

  later_there : (o : Stamped) (rest : List Stamped) (j : ℕ) → slice_get (drop left.from ops) j ≡ Some o → is_open_at o.first limit ≡ true → IsPermutation rest (left_of ops (without_later (left.from + j) left)) → HasOut ops outs o rest
  later_there o rest j e ahead h =
      let f : slice_get ops (left.from + j) ≡ Some o = sym (get_dropped left.from j ops) ∙ e in
      out_right ops (all_kept ops left) (later_to ops left until) o rest
      (out_gathered ops (later_at ops left) left.from until (left.from + j) o rest (omega arith) (before (left.from + j) o f ahead)
      (subst (λ x. HasOut ops (out_of x (without_later (left.from + j) left)) o rest) (sym f) (inl (refl, h))))

  pub picks_are : ArePicks ops left limit outs
  picks_are o rest is ahead =
      let f = found_first o (left_of ops left) rest is in
      go f.0 f.2 (where_is (map (slice_get ops) left.kept) (drop left.from ops) f.0 o f.1)
    where
      go : (k : ℕ) → IsPermutation rest (without k (left_of ops left)) → IsWhere (map (slice_get ops) left.kept) (drop left.from ops) k o → HasOut ops outs o rest
      go k perm (inl h) =
          let g = get_mapped (slice_get ops) h.0 left.kept (Some o) h.1 in
          kept_there o rest h.0 g.0 g.1 g.2
          (subst (λ l. IsPermutation rest l) (sym (ap (λ l. cat l ++ drop left.from ops) (map_without (slice_get ops) h.0 left.kept) ∙ h.2)) perm)
      go k perm (inr h) = later_there o rest h.0 h.1 ahead (subst (λ l. IsPermutation rest l) (sym (later_left ops left h.0 ∙ h.2)) perm)

-- the same, of picks that were pushed one after another
pub picks_pushed : (ops : List Stamped) (left : Left) (limit : Option ℕ) (until : ℕ) (all : List Out) → AllByRecursion (λ o. is_open_at o.first limit ≡ false) (drop until ops)
    → all ≡ all_kept ops left ++ later_to ops left until → ArePicks ops left limit all
picks_pushed ops left limit until all past e = subst (ArePicks ops left limit) (sym e) (picks_are ops left limit until past)

-- one of the picks
pub found_pick : (ops : List Stamped) (picks : List Pick) (o : Stamped) (rest : List Stamped) → HasOut ops (view_picks picks) o rest
    → (k : ℕ) × (pick : Pick) × (slice_get picks k ≡ Some pick) × (pick.operation ≡ o) × IsPermutation rest (left_of ops (view_left pick.rest))
found_pick ops [] o rest h = absurd h
found_pick ops (pick ∷ picks) o rest (inl h) = (0, pick, refl, h.0, h.1)
found_pick ops (pick ∷ picks) o rest (inr h) = let f = found_pick ops picks o rest h in (suc f.0, f.1, f.2, f.3, f.4)

-- ---- tests of all

-- what fails a test at a place fails it of all
pub fails_at : (test : Pick → Bool) (xs : List Pick) (k : ℕ) (x : Pick) → slice_get xs k ≡ Some x → test x ≡ false → list_all test xs ≡ false
fails_at test [] k x e f = absurd cc
fails_at test (y ∷ xs) zero x e f = ap (λ b. b && list_all test xs) (ap test (same_Some y x e) ∙ f)
fails_at test (y ∷ xs) (suc k) x e f = go (test y) (fails_at test xs k x e f)
  where
    go : (b : Bool) → list_all test xs ≡ false → (b && list_all test xs) ≡ false
    go true h = h
    go false h = refl

-- what passes a test of all passes it at each place
pub passes_at : (test : Pick → Bool) (xs : List Pick) (k : ℕ) (x : Pick) → slice_get xs k ≡ Some x → list_all test xs ≡ true → test x ≡ true
passes_at test xs k x e h = go (test x) refl
  where
    go : (b : Bool) → test x ≡ b → b ≡ true
    go true f = refl
    go false f = sym (fails_at test xs k x e f) ∙ h

-- ---- each pick is one

get_map : {X Y : Type 0} (f : X → Y) (k : ℕ) (xs : List X) (x : X) → slice_get xs k ≡ Some x → slice_get (map f xs) k ≡ Some (f x)
get_map f k [] x e = absurd cc
get_map f zero (y ∷ xs) x e = ap (λ y. Some (f y)) (same_Some y x e)
get_map f (suc k) (y ∷ xs) x e = get_map f k xs x e

cat_out : {X : Type 0} (xs : List (Option X)) (at : ℕ) (o : X) → slice_get xs at ≡ Some (Some o) → IsPermutation (cat xs) (o ∷ cat (without at xs))
cat_out [] at o e = absurd cc
cat_out (None ∷ xs) zero o e = absurd (none-some o (same_Some None (Some o) e))
cat_out (None ∷ xs) (suc at) o e = cat_out xs at o e
cat_out (Some x ∷ xs) zero o e = subst (λ y. IsPermutation (x ∷ cat xs) (y ∷ cat xs)) (same_Some x o (same_Some (Some x) (Some o) e)) (IsPermutation-refl (x ∷ cat xs))
cat_out (Some x ∷ xs) (suc at) o e = IsPermutation-trans _ _ _ (IsPermutation-cons x _ _ (cat_out xs at o e)) (IsPermutation-middle (x ∷ []) o (cat (without at xs)))

pub kept_out : (ops : List Stamped) (left : Left) (at place : ℕ) (o : Stamped) → slice_get left.kept at ≡ Some place → slice_get ops place ≡ Some o
    → IsPermutation (left_of ops left) (o ∷ left_of ops (without_kept at left))
kept_out ops left at place o e f =
    let there : slice_get (map (slice_get ops) left.kept) at ≡ Some (Some o) = get_map (slice_get ops) at left.kept place e ∙ ap Some f in
    let out = cat_out (map (slice_get ops) left.kept) at o there in
    subst (λ l. IsPermutation (left_of ops left) (o ∷ (cat l ++ drop left.from ops))) (sym (map_without (slice_get ops) at left.kept))
    (IsPermutation-append_left (drop left.from ops) (picked ops left.kept) (o ∷ cat (without at (map (slice_get ops) left.kept))) out)

pub later_out : (ops : List Stamped) (left : Left) (place : ℕ) (o : Stamped) → left.from ≤ place → slice_get ops place ≡ Some o
    → IsPermutation (left_of ops left) (o ∷ left_of ops (without_later place left))
later_out ops left place o h e =
    let n : left.from + (place - left.from) ≡ place = omega (arith, h) in
    let there : slice_get (drop left.from ops) (place - left.from) ≡ Some o = get_dropped left.from (place - left.from) ops ∙ ap (slice_get ops) n ∙ e in
    let out = taken_out (place - left.from) (drop left.from ops) o there in
    let is : left_of ops (without_later place left) ≡ picked ops left.kept ++ without (place - left.from) (drop left.from ops) =
    ap (λ p. left_of ops (without_later p left)) (sym n) ∙ later_left ops left (place - left.from) in
    subst (λ l. IsPermutation (left_of ops left) (o ∷ l)) (sym is)
    (IsPermutation-trans _ _ _ (IsPermutation-append_right (picked ops left.kept) (drop left.from ops) (o ∷ without (place - left.from) (drop left.from ops)) out)
    (IsPermutation-middle (picked ops left.kept) o (without (place - left.from) (drop left.from ops))))

-- ---- what is picked is left

pub all_gathered : (P : Out → Type 0) (f : ℕ → List Out) (from to : ℕ) → ((k : ℕ) → from ≤ k → AllByRecursion P (f k)) → AllByRecursion P (gathered f from to)
all_gathered P f from zero h = tt
all_gathered P f from (suc to) h = go (nat_le from to) refl (all_gathered P f from to h)
  where
    go : (b : Bool) → nat_le from to ≡ b → AllByRecursion P (gathered f from to) → AllByRecursion P (cond b (gathered f from to ++ f to) [])
    go true e more = outs_joined P (gathered f from to) (f to) more (h to (leb-true from to e))
    go false e more = tt

module _ (ops : List Stamped) (left : Left) where
  abbrev IsOut : Out → Type 0
  IsOut out = IsPermutation (left_of ops left) (out.operation ∷ left_of ops out.left)

  kept_are : (at : ℕ) → AllByRecursion IsOut (kept_at ops left at)
  kept_are at = go (slice_get left.kept at) refl
    where
      one : (place : ℕ) → slice_get left.kept at ≡ Some place → (x : Option Stamped) → slice_get ops place ≡ x → AllByRecursion IsOut (out_of x (without_kept at left))
      one place e None f = tt
      one place e (Some o) f = (kept_out ops left at place o e f, tt)

      go : (x : Option ℕ) → slice_get left.kept at ≡ x → AllByRecursion IsOut (out_kept ops left at x)
      go None e = tt
      go (Some place) e = one place e (slice_get ops place) refl

  later_are : (place : ℕ) → left.from ≤ place → AllByRecursion IsOut (later_at ops left place)
  later_are place h = go (slice_get ops place) refl
    where
      go : (x : Option Stamped) → slice_get ops place ≡ x → AllByRecursion IsOut (out_of x (without_later place left))
      go None e = tt
      go (Some o) e = (later_out ops left place o h e, tt)

-- all that was kept, and all behind those up to a place, that were pushed one after another
pub picked_are : (ops : List Stamped) (left : Left) (until : ℕ) (all : List Out) → all ≡ all_kept ops left ++ later_to ops left until → AreOut ops left all
picked_are ops left until all e =
    subst (AllByRecursion (IsOut ops left)) (sym e)
    (outs_joined (IsOut ops left) (all_kept ops left) (later_to ops left until) (all_gathered (IsOut ops left) (kept_at ops left) 0 (length left.kept) (λ k h. kept_are ops left k))
    (all_gathered (IsOut ops left) (later_at ops left) left.from until (later_are ops left)))
