-- A map by place against the operations by rising place.
use Rattle.std.proofs.Common.{◌≡◌, ℕ, ◌+◌, ◌<◌, Bool, true, false, not, ◌||◌, cond, nat_le, nat_eq, if◌then◌else◌, Option, None, Some, is_some, List}
use Rattle.std.proofs.Common.{[], ◌∷◌, ◌++◌, map, take, drop, get_or, length, refl, sym, ap, ◌∙◌, subst, arith, add-one, Ordering}
use Rattle.std.proofs.Math.Seq.{take-suc, drop-cons}
use Rattle.std.specs.Borrow.{Bor}
use Rattle.std.specs.BTreeMap.{insert_entry, is_at, get}
use Rattle.std.specs.Map.{lookup}
use Rattle.std.specs.declared.cmp.Ordering.TheVariants.{Less, Equal, Greater}
use Rattle.std.specs.Ordering.{nat_cmp, match_ordering, is_eq}
use Rattle.std.proofs.lemmas.Cmp.{ranked}
use Rattle.std.proofs.lemmas.Bool.{le-leb, lt-leb, eq-eqb, ne_eqb}
use Rattle.history.specs.declared.operations.Stamped.{Stamped}
use Rattle.history.specs.declared.operations.Cause.{Cause}
use Rattle.history.specs.declared.operations.Cause.TheVariants.{Shape, Span, Shared}
use Rattle.history.specs.History.{point_or_zero, inserted, by_point, same_point, is_shared, is_shaped, lies_within, fault_of, fault_or, first_fault}
use Rattle.history.specs.Tables.{OperationsByPoint, shown, numbered, listed, HoldsThoseWithPoints, Judges}
use Rattle.history.proofs.Rising.{by_point-cons, by_point-push, by_point-push_unplaced}

-- a list of operations has been gone through without fault, up to an index
pub record IsPassed (ops : List Stamped) (i : ℕ) (places : OperationsByPoint) : Type 0 where
  pub earlier : List Stamped
  pub passed : first_fault 1 [] ops ≡ first_fault (i + 1) earlier (drop i ops)
  pub same : (o : Stamped) → is_shared o earlier ≡ is_shared o (take i ops)
  pub holds : HoldsThoseWithPoints places (take i ops)

-- an entry put into those that are lent is put into those that are shown
shown-insert : (at : ℕ) (o : Bor Stamped) (es : List (ℕ × Bor Stamped)) → map shown (insert_entry nat_cmp es at o) ≡ insert_entry nat_cmp (map shown es) at o.now
shown-insert at o [] = refl
shown-insert at o (e ∷ es) = go (nat_cmp at e.0) (shown-insert at o es)
  where
    go : (r : Ordering) → map shown (insert_entry nat_cmp es at o) ≡ insert_entry nat_cmp (map shown es) at o.now
        → map shown (match_ordering r ((at, o) ∷ e ∷ es) ((e.0, o) ∷ es) (e ∷ insert_entry nat_cmp es at o)) ≡ match_ordering r
        ((at, o.now) ∷ shown e ∷ map shown es) ((e.0, o.now) ∷ map shown es) (shown e ∷ insert_entry nat_cmp (map shown es) at o.now)
    go Less h = refl
    go Equal h = refl
    go Greater h = ap (λ r. shown e ∷ r) h

-- a key is among the entries lent where it is among those shown
has-shown : (test : ℕ → Bool) (es : List (ℕ × Bor Stamped)) → is_some (lookup test (map shown es)) ≡ is_some (lookup test es)
has-shown test [] = refl
has-shown test (e ∷ es) = go (test e.0) (has-shown test es)
  where
    go : (b : Bool) → is_some (lookup test (map shown es)) ≡ is_some (lookup test es) → is_some (cond b (Some e.1.now) (lookup test (map shown es))) ≡ is_some (cond b (Some e.1) (lookup test es))
    go true h = refl
    go false h = h

-- where a new number isn't among those of a list, its entry goes where its operation is put in
numbered-insert : (o : Stamped) (at : ℕ) → point_or_zero o.at ≡ at → (ps : List Stamped)
    → is_some (lookup (is_at (nat_cmp at)) (map numbered ps)) ≡ false → insert_entry nat_cmp (map numbered ps) at o ≡ map numbered (inserted o ps)
numbered-insert o at e [] h = ap (λ n. (n, o) ∷ []) (sym e)
numbered-insert o at e (p ∷ ps) h = go (nat_cmp at (point_or_zero p.at)) refl h (numbered-insert o at e ps)
  where
    both : (b : Bool) → nat_le (point_or_zero o.at) (point_or_zero p.at) ≡ b → map numbered (inserted o (p ∷ ps)) ≡ map numbered (if b then o ∷ p ∷ ps else p ∷ inserted o ps)
    both b f = ap (λ b. map numbered (if b then o ∷ p ∷ ps else p ∷ inserted o ps)) f

    go : (r : Ordering) → nat_cmp at (point_or_zero p.at) ≡ r → is_some (cond (is_eq r) (Some p) (lookup (is_at (nat_cmp at)) (map numbered ps))) ≡
        false → (is_some (lookup (is_at (nat_cmp at)) (map numbered ps)) ≡ false
        → insert_entry nat_cmp (map numbered ps) at o ≡ map numbered (inserted o ps))
        → match_ordering r ((at, o) ∷ map numbered (p ∷ ps)) ((point_or_zero p.at, o) ∷ map numbered ps)
        (numbered p ∷ insert_entry nat_cmp (map numbered ps) at o) ≡ map numbered (inserted o (p ∷ ps))
    go Less f h ih =
        let l : at < point_or_zero p.at = ranked at (point_or_zero p.at) Less (sym f) in
        ap (λ n. (n, o) ∷ map numbered (p ∷ ps)) (sym e) ∙ sym (both true (le-leb _ _ (omega arith)))
    go Equal f h ih = cc h
    go Greater f h ih =
        let l : point_or_zero p.at < at = ranked at (point_or_zero p.at) Greater (sym f) in
        ap (λ r. numbered p ∷ r) (ih h) ∙ sym (both false (lt-leb _ _ (omega arith)))

has_head : (b : Bool) (p : Stamped) (r : Option Stamped) → is_some (cond b (Some p) r) ≡ (b || is_some r)
has_head true p r = refl
has_head false p r = refl

or_swap : (a b c : Bool) → (a || (b || c)) ≡ (b || (a || c))
or_swap true true c = refl
or_swap true false c = refl
or_swap false b c = refl

-- a number among those of a list with one operation put in: its own or one of the list's
has-inserted : (test : ℕ → Bool) (p : Stamped) (ps : List Stamped) → is_some (lookup test (map numbered (inserted p ps))) ≡ (test (point_or_zero p.at) || is_some (lookup test (map numbered ps)))
has-inserted test p [] = has_head (test (point_or_zero p.at)) p None
has-inserted test p (q ∷ qs) = go (nat_le (point_or_zero p.at) (point_or_zero q.at)) (has-inserted test p qs)
  where
    go : (b : Bool) → is_some (lookup test (map numbered (inserted p qs))) ≡ (test (point_or_zero p.at) || is_some (lookup test (map numbered qs)))
        → is_some (lookup test (map numbered (if b then p ∷ q ∷ qs else q ∷ inserted p qs))) ≡
        (test (point_or_zero p.at) || is_some (lookup test (map numbered (q ∷ qs))))
    go true h = has_head (test (point_or_zero p.at)) p (lookup test (map numbered (q ∷ qs)))
    go false h =
        has_head (test (point_or_zero q.at)) q (lookup test (map numbered (inserted p qs))) ∙
        ap (λ r. test (point_or_zero q.at) || r) h ∙
        or_swap (test (point_or_zero q.at)) (test (point_or_zero p.at)) (is_some (lookup test (map numbered qs))) ∙
        ap (λ r. test (point_or_zero p.at) || r) (sym (has_head (test (point_or_zero q.at)) q (lookup test (map numbered qs))))

same_number : (a b : ℕ) → is_eq (nat_cmp a b) ≡ nat_eq a b
same_number a b = go (nat_cmp a b) refl
  where
    go : (r : Ordering) → nat_cmp a b ≡ r → is_eq r ≡ nat_eq a b
    go Less f = let l : a < b = ranked a b Less (sym f) in sym (ne_eqb a b (λ e. omega arith))
    go Equal f = sym (eq-eqb a b (ranked a b Equal (sym f)))
    go Greater f = let l : b < a = ranked a b Greater (sym f) in sym (ne_eqb a b (λ e. omega arith))

-- a number is among those of the operations with a place where that place is shared
has-by_point : (o : Stamped) (at : ℕ) → o.at ≡ Some at → (ps : List Stamped) → is_some (lookup (is_at (nat_cmp at)) (map numbered (by_point ps))) ≡ is_shared o ps
has-by_point o at e [] = refl
has-by_point o at e (p ∷ ps) = go p.at refl (has-by_point o at e ps)
  where
    go : (b : Option ℕ) → p.at ≡ b → is_some (lookup (is_at (nat_cmp at)) (map numbered (by_point ps))) ≡ is_shared o ps
        → is_some (lookup (is_at (nat_cmp at)) (map numbered (by_point (p ∷ ps)))) ≡ (same_point o.at p.at || is_shared o ps)
    go None f h =
        ap (λ r. is_some (lookup (is_at (nat_cmp at)) (map numbered r))) (by_point-cons p ps false (ap is_some f)) ∙
        h ∙ sym (ap (λ s. s || is_shared o ps) (ap (λ x. same_point x p.at) e ∙ ap (same_point (Some at)) f))
    go (Some b) f h =
        ap (λ r. is_some (lookup (is_at (nat_cmp at)) (map numbered r))) (by_point-cons p ps true (ap is_some f)) ∙
        has-inserted (is_at (nat_cmp at)) p (by_point ps) ∙
        ap (λ r. is_eq (nat_cmp at (point_or_zero p.at)) || r) h ∙
        ap (λ s. s || is_shared o ps)
        (same_number at (point_or_zero p.at) ∙ ap (λ x. nat_eq at (point_or_zero x)) f ∙
        sym (ap (λ x. same_point x p.at) e ∙ ap (same_point (Some at)) f))

-- a place is shared where the map has it
has_place : (places : OperationsByPoint) (before : List Stamped) (o : Stamped) (at : ℕ) → HoldsThoseWithPoints places before → o.at ≡ Some at → is_some (get nat_cmp places at) ≡ is_shared o before
has_place places before o at h e =
    sym (has-shown (is_at (nat_cmp at)) places.entries) ∙
    ap (λ es. is_some (lookup (is_at (nat_cmp at)) es)) h ∙ has-by_point o at e before

-- an operation in shape and within its steps has no fault but a shared place
fault-shared : (before : List Stamped) (o : Stamped) (d : Bool) → is_shaped o.last o.at o.reply ≡ true → lies_within o.first o.last o.at ≡ true
    → is_shared o before ≡ d → fault_of before o ≡ (if d then Some Shared else None)
fault-shared before o d s w e =
    ap (λ b. if not b then Some Shape else if not (lies_within o.first o.last o.at) then Some Span else if is_shared o before then Some Shared else None) s ∙
    ap (λ c. if not c then Some Span else if is_shared o before then Some Shared else None) w ∙
    ap (λ d. if d then Some Shared else None) e

unshared : (o : Stamped) → o.at ≡ None → (ps : List Stamped) → is_shared o ps ≡ false
unshared o e [] = refl
unshared o e (p ∷ ps) = ap (λ a. same_point a p.at || is_shared o ps) e ∙ unshared o e ps

-- an operation without a place
pub judges_unplaced : (places : OperationsByPoint) (o : Stamped) → is_shaped o.last o.at o.reply ≡ true → lies_within o.first o.last o.at ≡ true → o.at ≡ None → Judges places places o None
judges_unplaced places o s w e before h = (
  sym (fault-shared before o false s w (unshared o e before)),
  λ _. h ∙ ap (map numbered) (sym (by_point-push_unplaced o before (ap is_some e))),
)

-- an operation whose place is new
pub judges_new : (old new : OperationsByPoint) (o : Bor Stamped) (at : ℕ) → is_shaped o.now.last o.now.at o.now.reply ≡ true
    → lies_within o.now.first o.now.last o.now.at ≡ true → o.now.at ≡ Some at → get nat_cmp old at ≡ None
    → new.entries ≡ insert_entry nat_cmp old.entries at o → Judges old new o.now None
judges_new old new o at s w e n i before h =
    let d : is_shared o.now before ≡ false = sym (has_place old before o.now at h e) ∙ ap is_some n in
    let k : is_some (lookup (is_at (nat_cmp at)) (map numbered (by_point before))) ≡ false = has-by_point o.now at e before ∙ d in (
      sym (fault-shared before o.now false s w d),
      λ _. ap (map shown) i ∙ shown-insert at o old.entries ∙
          ap (λ es. insert_entry nat_cmp es at o.now) h ∙
          numbered-insert o.now at (ap point_or_zero e) (by_point before) k ∙
          ap (map numbered) (sym (by_point-push o.now before (ap is_some e) d)),
    )

-- an operation whose place is there already
pub judges_shared : (old new : OperationsByPoint) (o : Stamped) (at : ℕ) (p : Bor Stamped) → is_shaped o.last o.at o.reply ≡ true
    → lies_within o.first o.last o.at ≡ true → o.at ≡ Some at → get nat_cmp old at ≡ Some p → Judges old new o (Some Shared)
judges_shared old new o at p s w e n before h =
    let d : is_shared o before ≡ true = sym (has_place old before o at h e) ∙ ap is_some n in
    (sym (fault-shared before o true s w d), λ f. cc f)

lent-shown : (es : List (ℕ × Bor Stamped)) → map (λ v. v.now) (map (λ e. e.1) es) ≡ map (λ e. e.1) (map shown es)
lent-shown [] = refl
lent-shown (e ∷ es) = ap (λ r. e.1.now ∷ r) (lent-shown es)

unnumbered : (os : List Stamped) → map (λ e. e.1) (map numbered os) ≡ os
unnumbered [] = refl
unnumbered (o ∷ os) = ap (λ r. o ∷ r) (unnumbered os)

-- a map that has the operations of a list lists them by rising place
pub listed-holds : (places : OperationsByPoint) (ops : List Stamped) → HoldsThoseWithPoints places ops → listed places ≡ by_point ops
listed-holds places ops h = lent-shown places.entries ∙ ap (map (λ e. e.1)) h ∙ unnumbered (by_point ops)

shared-push : (o x : Stamped) (ps : List Stamped) → is_shared o (ps ++ x ∷ []) ≡ (same_point o.at x.at || is_shared o ps)
shared-push o x [] = refl
shared-push o x (p ∷ ps) =
    ap (λ r. same_point o.at p.at || r) (shared-push o x ps) ∙
    or_swap (same_point o.at p.at) (same_point o.at x.at) (is_shared o ps)

-- the fault of an operation, by whether its place is shared
abbrev fault_seen : Stamped → Bool → Option Cause
fault_seen o d =
    if not (is_shaped o.last o.at o.reply) then Some Shape
    else if not (lies_within o.first o.last o.at) then Some Span
    else if d then Some Shared
    else None

-- one more operation without fault
pub passes_on : (ops : List Stamped) (i : ℕ) (x : Stamped) (old new : OperationsByPoint) (cause : Option Cause) → IsPassed ops i old → i < length ops
    → x ≡ get_or ops i x → Judges old new x cause → cause ≡ None → IsPassed ops (i + 1) new
passes_on ops i x old new cause p l e j n =
    let t : take (i + 1) ops ≡ take i ops ++ x ∷ [] = rw (add-one, take-suc ops i x l, ← e) refl in
    let d : drop i ops ≡ x ∷ drop (i + 1) ops = rw (add-one, drop-cons ops i x l, ← e) refl in
    let h = j (take i ops) p.holds in
    let f : fault_of p.earlier x ≡ None = ap (fault_seen x) (p.same x) ∙ sym h.0 ∙ n in
    record {
      earlier = x ∷ p.earlier;
      passed = p.passed ∙ ap (first_fault (i + 1) p.earlier) d ∙
          ap (λ f. fault_or f (i + 1) (first_fault (i + 1 + 1) (x ∷ p.earlier) (drop (i + 1) ops))) f;
      same = λ o. ap (λ r. same_point o.at x.at || r) (p.same o) ∙ sym (shared-push o x (take i ops)) ∙ ap (is_shared o) (sym t);
      holds = subst (HoldsThoseWithPoints new) (sym t) (h.1 n);
    }
