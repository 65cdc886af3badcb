-- Of operations in order of which no neighbours clash none clash.
use Rattle.std.proofs.Common.{◌≡◌, ◌≢◌, ℕ, suc, ◌+◌, ◌<◌, ◌≤◌, nat_lt, nat_eq, Bool, true, false, List, [], ◌∷◌, get_or, None, Some, All, IsSorted, refl, sym, ◌∙◌, ap, subst, arith, inl, inr, ◌⊎◌}
use Rattle.std.specs.Prelude.{if◌then◌else◌}
use Rattle.std.proofs.lemmas.Bool.{false≢true, ltb-true, ltb-false, eqb-true, eqb-false}
use Rattle.std.proofs.lemmas.Cmp.{ranked, tied_itself, upto, nat_cmp_total, nat_list_cmp_total}
use Rattle.std.proofs.lemmas.List.Elements.{All-nil, All-cons, All-head, All-tail, All-weaker, All-contains}
use Rattle.std.proofs.lemmas.Map.Lookups.{exact_bytes}
use Rattle.std.specs.Ordering.{is_lt, is_gt, nat_cmp, bool_cmp, ordering_then, ordering_reverse, MatchOrdering}
use Rattle.std.specs.Cmp.Lexicographic.{slice_cmp}
use Rattle.std.specs.declared.cmp.Ordering.{Ordering}
use Rattle.std.specs.declared.cmp.Ordering.TheVariants.{Less, Equal, Greater}
use Rattle.place_engine.specs.declared.overlaps.Spell.{Spell}
use Rattle.place_engine.specs.Overlaps.{BeganBefore, Clash, end_of, NoneClash, NoNeighboursClash}

-- how two operations are sorted: by thread, beginning and end, where pending ones end behind all
abbrev pub spell_cmp : Spell → Spell → Ordering
spell_cmp x y =
    ordering_then (slice_cmp nat_cmp x.name.now y.name.now)
    (ordering_then (nat_cmp x.first y.first) (ordering_then (bool_cmp x.is_pending y.is_pending) (ordering_then (nat_cmp x.last y.last) (nat_cmp x.line y.line))))

-- operations are in this order
abbrev pub IsInOrder : List Spell → Type 0
IsInOrder spells = IsSorted spell_cmp spells

-- whether an operation is sorted before another
abbrev less : Spell → Spell → Bool
less x y = is_lt (spell_cmp x y)

not_lt_then : (r s : Ordering) → is_lt (ordering_then r s) ≡ false → is_lt r ≡ false
not_lt_then Less s h = h
not_lt_then Equal s h = refl
not_lt_then Greater s h = refl

not_lt_behind : (r s : Ordering) → r ≡ Equal → is_lt (ordering_then r s) ≡ false → is_lt s ≡ false
not_lt_behind Less s e h = absurd (cc)
not_lt_behind Equal s e h = h
not_lt_behind Greater s e h = absurd (cc)

not_gt : (r s : Ordering) → s ≡ ordering_reverse r → is_lt r ≡ false → is_gt s ≡ false
not_gt Less s e h = absurd (cc)
not_gt Equal s e h = ap is_gt e
not_gt Greater s e h = ap is_gt e

tied : (r s : Ordering) → s ≡ ordering_reverse r → is_gt r ≡ false → is_gt s ≡ false → r ≡ Equal
tied Less s e h k = let high : is_gt s ≡ true = ap is_gt e in absurd (cc)
tied Equal s e h k = refl
tied Greater s e h k = absurd (cc)

at_most : (r : Ordering) (a b : ℕ) → MatchOrdering r (a < b) (a ≡ b) (b < a) → is_lt r ≡ false → b ≤ a
at_most Less a b m h = absurd (cc)
at_most Equal a b m h = omega (arith, m)
at_most Greater a b m h = omega (arith, m)

nat_at_most : (a b : ℕ) → is_lt (nat_cmp a b) ≡ false → b ≤ a
nat_at_most a b h = at_most (nat_cmp a b) a b (ranked a b (nat_cmp a b) refl) h

nat_tied : (a b : ℕ) → b ≡ a → nat_cmp a b ≡ Equal
nat_tied a b e = ap (nat_cmp a) e ∙ tied_itself nat_cmp_total a

bool_at_most : (a b : Bool) → is_lt (bool_cmp a b) ≡ false → b ≡ true → a ≡ true
bool_at_most true b h e = refl
bool_at_most false true h e = absurd (cc)
bool_at_most false false h e = absurd (cc)

bool_tied : (a b : Bool) → is_lt (bool_cmp a b) ≡ false → a ≡ false → (b ≡ false) × (bool_cmp a b ≡ Equal)
bool_tied true b h e = absurd (cc)
bool_tied false true h e = absurd (cc)
bool_tied false false h e = (refl, refl)

-- an operation of a thread is sorted before another of it
record Follows (x y : Spell) : Type 0 where
  first : x.first ≤ y.first
  pending : x.first ≡ y.first → x.is_pending ≡ true → y.is_pending ≡ true
  last : x.first ≡ y.first → y.is_pending ≡ false → x.last ≤ y.last

-- what two operations are sorted by behind thread and beginning
abbrev by_end : Spell → Spell → Ordering
by_end x y = ordering_then (bool_cmp x.is_pending y.is_pending) (ordering_then (nat_cmp x.last y.last) (nat_cmp x.line y.line))

follows : (x y : Spell) → x.name.now ≡ y.name.now → less y x ≡ false → Follows x y
follows x y same up = record {
  first = nat_at_most y.first x.first (not_lt_then (nat_cmp y.first x.first) (by_end y x) firsts);
  pending = λ e. bool_at_most y.is_pending x.is_pending (not_lt_then (bool_cmp y.is_pending x.is_pending) (ordering_then (nat_cmp y.last x.last) (nat_cmp y.line x.line)) (behind e));
  last = λ e ended.
      let b = bool_tied y.is_pending x.is_pending (not_lt_then (bool_cmp y.is_pending x.is_pending) (ordering_then (nat_cmp y.last x.last) (nat_cmp y.line x.line)) (behind e)) ended in
      nat_at_most y.last x.last
      (not_lt_then (nat_cmp y.last x.last) (nat_cmp y.line x.line) (not_lt_behind (bool_cmp y.is_pending x.is_pending) (ordering_then (nat_cmp y.last x.last) (nat_cmp y.line x.line)) b.1 (behind e)));
}
  where
    names : slice_cmp nat_cmp y.name.now x.name.now ≡ Equal
    names = ap (slice_cmp nat_cmp y.name.now) same ∙ tied_itself nat_list_cmp_total y.name.now

    firsts : is_lt (ordering_then (nat_cmp y.first x.first) (by_end y x)) ≡ false
    firsts = not_lt_behind (slice_cmp nat_cmp y.name.now x.name.now) (ordering_then (nat_cmp y.first x.first) (by_end y x)) names up

    behind : x.first ≡ y.first → is_lt (by_end y x) ≡ false
    behind e = not_lt_behind (nat_cmp y.first x.first) (by_end y x) (nat_tied y.first x.first e) firsts

-- an operation ended before another began
record Precedes (x y : Spell) : Type 0 where
  ended : x.is_pending ≡ false
  before : x.last ≤ y.first

-- two are one
pub record AreSame (x y : Spell) : Type 0 where
  pub line : x.line ≡ y.line
  pub first : x.first ≡ y.first
  pub pending : x.is_pending ≡ y.is_pending
  pub last : x.last ≡ y.last

-- an operation that ended did so no sooner than it began
abbrev pub IsTimed : Spell → Type 0
IsTimed x = x.is_pending ≡ false → x.first ≤ x.last

began-pending : (f l : ℕ) (p : Bool) → p ≡ true → BeganBefore f (if p then None else Some l)
began-pending f l true e = tt
began-pending f l false e = absurd (cc)

began-ended : (f l : ℕ) (p : Bool) → f < l → BeganBefore f (if p then None else Some l)
began-ended f l true h = tt
began-ended f l false h = h

ended-began : (f l : ℕ) (p : Bool) → p ≡ false → BeganBefore f (if p then None else Some l) → f < l
ended-began f l true e h = absurd (cc)
ended-began f l false e h = h

-- how two neighbours stand to each other that don't clash
neighbours : (x y : Spell) → x.name.now ≡ y.name.now → less y x ≡ false → ¬ Clash x y → IsTimed y → x.line ≢ y.line → Precedes x y
neighbours x y same up clash timed apart = by_pending y.is_pending refl
  where
    f : Follows x y
    f = follows x y same up

    no : BeganBefore x.first (end_of y) → BeganBefore y.first (end_of x) → ⊥
    no a b = clash (record { apart = apart; same = same; began = a; began_too = b })

    begun : BeganBefore x.first (end_of y) → Precedes x y
    begun a = by x.is_pending (nat_lt y.first x.last) refl refl
      where
        by : (p t : Bool) → x.is_pending ≡ p → nat_lt y.first x.last ≡ t → Precedes x y
        by true t e h = absurd (no a (began-pending y.first x.last x.is_pending e))
        by false true e h = absurd (no a (began-ended y.first x.last x.is_pending (ltb-true y.first x.last h)))
        by false false e h = record { ended = e; before = ltb-false y.first x.last h }

    -- where the other has ended by the beginning of the one, both begin and end there
    touching : y.is_pending ≡ false → y.last ≤ x.first → Precedes x y
    touching e h = by x.is_pending refl
      where
        firsts : x.first ≡ y.first
        firsts = let low : y.first ≤ y.last = timed e in let high : x.first ≤ y.first = f.first in omega (arith, low, high, h)

        by : (p : Bool) → x.is_pending ≡ p → Precedes x y
        by true q = absurd (false≢true (sym e ∙ f.pending firsts q))
        by false q = record { ended = q; before = let low : x.last ≤ y.last = f.last firsts e in omega (arith, low, h, firsts) }

    by_pending : (p : Bool) → y.is_pending ≡ p → Precedes x y
    by_pending true e = begun (began-pending x.first y.last y.is_pending e)
    by_pending false e = by_end (nat_lt x.first y.last) refl
      where
        by_end : (t : Bool) → nat_lt x.first y.last ≡ t → Precedes x y
        by_end true h = begun (began-ended x.first y.last y.is_pending (ltb-true x.first y.last h))
        by_end false h = touching e (ltb-false x.first y.last h)

-- two operations, sorted in this order, that don't clash
record Settled (x y : Spell) : Type 0 where
  upto : is_gt (slice_cmp nat_cmp x.name.now y.name.now) ≡ false
  done : x.name.now ≡ y.name.now → AreSame x y ⊎ Precedes x y

names_upto : (x y : Spell) → less y x ≡ false → is_gt (slice_cmp nat_cmp x.name.now y.name.now) ≡ false
names_upto x y up =
    not_gt (slice_cmp nat_cmp y.name.now x.name.now) (slice_cmp nat_cmp x.name.now y.name.now) (nat_list_cmp_total.antisymm x.name.now y.name.now)
    (not_lt_then (slice_cmp nat_cmp y.name.now x.name.now) (ordering_then (nat_cmp y.first x.first) (by_end y x)) up)

between : (a b : List ℕ) → is_gt (slice_cmp nat_cmp a b) ≡ false → is_gt (slice_cmp nat_cmp b a) ≡ false → a ≡ b
between a b h k = exact_bytes a b (tied (slice_cmp nat_cmp a b) (slice_cmp nat_cmp b a) (nat_list_cmp_total.antisymm b a) h k)

settled-behind : (x y z : Spell) → IsTimed y → Settled x y → Settled y z → Settled x z
settled-behind x y z timed first later = record { upto = upto nat_list_cmp_total x.name.now y.name.now z.name.now first.upto later.upto; done = done }
  where
    by_first : AreSame x y ⊎ Precedes x y → AreSame y z ⊎ Precedes y z → AreSame x z ⊎ Precedes x z
    by_first (inl s) (inl t) = inl (record { line = s.line ∙ t.line; first = s.first ∙ t.first; pending = s.pending ∙ t.pending; last = s.last ∙ t.last })
    by_first (inl s) (inr q) = inr (record { ended = s.pending ∙ q.ended; before = let is : x.last ≡ y.last = s.last in let h : y.last ≤ z.first = q.before in omega (arith, is, h) })
    by_first (inr p) (inl t) = inr (record { ended = p.ended; before = let is : y.first ≡ z.first = t.first in let h : x.last ≤ y.first = p.before in omega (arith, is, h) })
    by_first (inr p) (inr q) =
        inr (record {
          ended = p.ended;
          before = let h : x.last ≤ y.first = p.before in let k : y.last ≤ z.first = q.before in let m : y.first ≤ y.last = timed q.ended in omega (arith, h, k, m);
        })

    done : x.name.now ≡ z.name.now → AreSame x z ⊎ Precedes x z
    done e =
        let xy : x.name.now ≡ y.name.now = between x.name.now y.name.now first.upto (subst (λ n. is_gt (slice_cmp nat_cmp y.name.now n) ≡ false) (sym e) later.upto) in
        by_first (first.done xy) (later.done (sym xy ∙ e))

settled-apart : (x y : Spell) → Settled x y → ¬ Clash x y
settled-apart x y h clash = by (h.done clash.same)
  where
    by : AreSame x y ⊎ Precedes x y → ⊥
    by (inl s) = clash.apart s.line
    by (inr p) = let began : y.first < x.last = ended-began y.first x.last x.is_pending p.ended clash.began_too in let h : x.last ≤ y.first = p.before in omega (arith, began, h)

clash-back : (x y : Spell) → Clash x y → Clash y x
clash-back x y c = record { apart = λ e. c.apart (sym e); same = sym c.same; began = c.began_too; began_too = c.began }

rest_sorted : (x : Spell) (xs : List Spell) → IsInOrder (x ∷ xs) → IsInOrder xs
rest_sorted x xs up k d low lt = next (up (suc k) d (omega arith) (omega arith))
  where
    next : less (get_or (x ∷ xs) (suc k + 1) d) (get_or (x ∷ xs) (suc k) d) ≡ false → less (get_or xs (k + 1) d) (get_or xs k d) ≡ false
    next h =
        let e : suc k + 1 ≡ suc (k + 1) = omega arith in
        subst (λ n. less (get_or (x ∷ xs) n d) (get_or xs k d) ≡ false) e h

rest_apart : (x : Spell) (xs : List Spell) → NoNeighboursClash (x ∷ xs) → NoNeighboursClash xs
rest_apart x xs apart k d lt clash = apart (suc k) d (omega arith) (next clash)
  where
    next : Clash (get_or xs k d) (get_or xs (k + 1) d) → Clash (get_or (x ∷ xs) (suc k) d) (get_or (x ∷ xs) (suc k + 1) d)
    next c =
        let e : suc (k + 1) ≡ suc k + 1 = omega arith in
        subst (λ n. Clash (get_or xs k d) (get_or (x ∷ xs) n d)) e c

module _ (P : Spell → Type 0) (timed : (x : Spell) → P x → IsTimed x) (one_each : (x y : Spell) → P x → P y → x.line ≡ y.line → AreSame x y) where
  first_settled : (x y : Spell) → P x → P y → less y x ≡ false → ¬ Clash x y → Settled x y
  first_settled x y p q up clash = record { upto = names_upto x y up; done = λ e. by e (nat_eq x.line y.line) refl }
    where
      by : x.name.now ≡ y.name.now → (t : Bool) → nat_eq x.line y.line ≡ t → AreSame x y ⊎ Precedes x y
      by e true h = inl (one_each x y p q (eqb-true x.line y.line h))
      by e false h = inr (neighbours x y e up clash (timed y q) (eqb-false x.line y.line h))

  all_settled : (x : Spell) (xs : List Spell) → All P (x ∷ xs) → IsInOrder (x ∷ xs) → NoNeighboursClash (x ∷ xs) → All (Settled x) xs
  all_settled x [] all up apart = All-nil (Settled x)
  all_settled x (y ∷ ys) all up apart =
      let p = All-head P x (y ∷ ys) all in
      let rest = All-tail P x (y ∷ ys) all in
      let q = All-head P y ys rest in
      let first : Settled x y = first_settled x y p q (up 0 x (omega arith) (omega arith)) (apart 0 x (omega arith)) in
      All-cons (Settled x) y ys first
      (All-weaker (Settled y) (Settled x) (λ z later. settled-behind x y z (timed y q) first later) ys
      (all_settled y ys rest (rest_sorted x (y ∷ ys) up) (rest_apart x (y ∷ ys) apart)))

  none_in : (xs : List Spell) → All P xs → IsInOrder xs → NoNeighboursClash xs → All (λ x. All (λ y. ¬ Clash x y) xs) xs
  none_in [] all up apart = All-nil (λ x. All (λ y. ¬ Clash x y) [])
  none_in (x ∷ xs) all up apart =
      let row : All (λ y. ¬ Clash x y) xs = All-weaker (Settled x) (λ y. ¬ Clash x y) (settled-apart x) xs (all_settled x xs all up apart) in
      let rest = none_in xs (All-tail P x xs all) (rest_sorted x xs up) (rest_apart x xs apart) in
      let whole : Spell → Type 0 = λ y. All (λ z. ¬ Clash y z) (x ∷ xs) in
      All-cons whole x xs (All-cons (λ z. ¬ Clash x z) x xs (λ c. c.apart refl) row)
      (λ k d lt. All-cons (λ z. ¬ Clash (get_or xs k d) z) x xs (λ c. row k d lt (clash-back (get_or xs k d) x c)) (rest k d lt))

  -- of operations in order of which no neighbours clash none clash, where each is its line's
  pub none_clash : (xs : List Spell) → All P xs → IsInOrder xs → NoNeighboursClash xs → NoneClash xs
  none_clash xs all up apart one other there there' =
      All-contains (λ y. ¬ Clash one y) xs other (All-contains (λ x. All (λ y. ¬ Clash x y) xs) xs one (none_in xs all up apart) there) there'
