-- The operations by rising place: those of a list with one more at its front or at its end.
use Rattle.std.proofs.Common.{◌≡◌, ◌≢◌, ℕ, ◌≤◌, ◌<◌, Bool, true, false, not, nat_le, if◌then◌else◌, Option, None, Some, is_some, List, [], ◌∷◌, ◌++◌, refl, sym, ap, ◌∙◌, arith}
use Rattle.std.proofs.lemmas.Bool.{leb-true, leb-false, eqb-false, le-leb, lt-leb, or_parts}
use Rattle.history.specs.declared.operations.Stamped.{Stamped}
use Rattle.history.specs.History.{point_or_zero, inserted, by_point, same_point, is_shared}

-- whether one place isn't above another
abbrev at_most : Stamped → Stamped → Bool
at_most a b = nat_le (point_or_zero a.at) (point_or_zero b.at)

front : (a p : Stamped) (ps : List Stamped) (b : Bool) → at_most a p ≡ b → inserted a (p ∷ ps) ≡ (if b then a ∷ p ∷ ps else p ∷ inserted a ps)
front a p ps b e = ap (λ x. if x then a ∷ p ∷ ps else p ∷ inserted a ps) e

opposite : (a b : Stamped) (x : Bool) → point_or_zero a.at ≢ point_or_zero b.at → at_most a b ≡ x → at_most b a ≡ not x
opposite a b true d e =
    let h : point_or_zero a.at ≤ point_or_zero b.at = leb-true _ _ e in lt-leb _ _ (omega arith)
opposite a b false d e =
    let h : point_or_zero b.at < point_or_zero a.at = leb-false _ _ e in le-leb _ _ (omega arith)

commute_front : (a b p : Stamped) (ps : List Stamped) (x y z : Bool) → point_or_zero a.at ≢ point_or_zero b.at → at_most a p ≡ x → at_most b p ≡ y
    → at_most a b ≡ z → inserted a (inserted b ps) ≡ inserted b (inserted a ps) → inserted a (inserted b (p ∷ ps)) ≡ inserted b (inserted a (p ∷ ps))
commute_front a b p ps true true true d ea eb e ih =
    ap (inserted a) (front b p ps true eb) ∙ front a b (p ∷ ps) true e ∙
    sym (ap (inserted b) (front a p ps true ea) ∙ front b a (p ∷ ps) false (opposite a b true d e) ∙ ap (λ r. a ∷ r) (front b p ps true eb))
commute_front a b p ps true true false d ea eb e ih =
    ap (inserted a) (front b p ps true eb) ∙ front a b (p ∷ ps) false e ∙ ap (λ r. b ∷ r) (front a p ps true ea) ∙
    sym (ap (inserted b) (front a p ps true ea) ∙ front b a (p ∷ ps) true (opposite a b false d e))
commute_front a b p ps true false z d ea eb e ih =
    let h1 : point_or_zero a.at ≤ point_or_zero p.at = leb-true _ _ ea in
    let h2 : point_or_zero p.at < point_or_zero b.at = leb-false _ _ eb in
    let f : at_most b a ≡ false = lt-leb _ _ (omega arith) in
    ap (inserted a) (front b p ps false eb) ∙ front a p (inserted b ps) true ea ∙
    sym (ap (inserted b) (front a p ps true ea) ∙ front b a (p ∷ ps) false f ∙ ap (λ r. a ∷ r) (front b p ps false eb))
commute_front a b p ps false true z d ea eb e ih =
    let h1 : point_or_zero p.at < point_or_zero a.at = leb-false _ _ ea in
    let h2 : point_or_zero b.at ≤ point_or_zero p.at = leb-true _ _ eb in
    let f : at_most a b ≡ false = lt-leb _ _ (omega arith) in
    ap (inserted a) (front b p ps true eb) ∙ front a b (p ∷ ps) false f ∙ ap (λ r. b ∷ r) (front a p ps false ea) ∙
    sym (ap (inserted b) (front a p ps false ea) ∙ front b p (inserted a ps) true eb)
commute_front a b p ps false false z d ea eb e ih =
    ap (inserted a) (front b p ps false eb) ∙ front a p (inserted b ps) false ea ∙ ap (λ r. p ∷ r) ih ∙
    sym (ap (inserted b) (front a p ps false ea) ∙ front b p (inserted a ps) false eb)

-- two operations whose places differ may be put in in either order
pub commute : (a b : Stamped) (ps : List Stamped) → point_or_zero a.at ≢ point_or_zero b.at → inserted a (inserted b ps) ≡ inserted b (inserted a ps)
commute a b [] d = go (at_most a b) refl
  where
    first : (a b : Stamped) (x : Bool) → at_most a b ≡ x → inserted a (b ∷ []) ≡ (if x then a ∷ b ∷ [] else b ∷ a ∷ [])
    first a b x e = ap (λ x. if x then a ∷ b ∷ [] else b ∷ a ∷ []) e

    go : (x : Bool) → at_most a b ≡ x → inserted a (b ∷ []) ≡ inserted b (a ∷ [])
    go true e = first a b true e ∙ sym (first b a false (opposite a b true d e))
    go false e = first a b false e ∙ sym (first b a true (opposite a b false d e))
commute a b (p ∷ ps) d = commute_front a b p ps _ _ _ d refl refl refl (commute a b ps d)

-- the front of a list by rising place: put in where it has a place
pub by_point-cons : (o : Stamped) (os : List Stamped) (b : Bool) → is_some o.at ≡ b → by_point (o ∷ os) ≡ (if b then inserted o (by_point os) else by_point os)
by_point-cons o os b e = ap (λ b. if b then inserted o (by_point os) else by_point os) e

-- two places that are there and are not the same have different numbers
numbers_differ : (a b : Option ℕ) → is_some a ≡ true → is_some b ≡ true → same_point a b ≡ false → point_or_zero b ≢ point_or_zero a
numbers_differ (Some a) (Some b) s t e h = eqb-false a b e (sym h)
numbers_differ None b s t e h = cc s
numbers_differ (Some a) None s t e h = cc t

push_front : (o p : Stamped) (ps : List Stamped) (b : Bool) → is_some o.at ≡ true → is_some p.at ≡ b → same_point o.at p.at ≡ false
    → by_point (ps ++ o ∷ []) ≡ inserted o (by_point ps) → by_point (p ∷ ps ++ o ∷ []) ≡ inserted o (by_point (p ∷ ps))
push_front o p ps true s t d e =
    by_point-cons p (ps ++ o ∷ []) true t ∙ ap (inserted p) e ∙
    commute p o (by_point ps) (numbers_differ o.at p.at s t d) ∙ ap (inserted o) (sym (by_point-cons p ps true t))
push_front o p ps false s t d e =
    by_point-cons p (ps ++ o ∷ []) false t ∙ e ∙ ap (inserted o) (sym (by_point-cons p ps false t))

-- one more operation at the end of a list, at a place that is not there: put in as at its front
pub by_point-push : (o : Stamped) (ps : List Stamped) → is_some o.at ≡ true → is_shared o ps ≡ false → by_point (ps ++ o ∷ []) ≡ inserted o (by_point ps)
by_point-push o [] s h = by_point-cons o [] true s
by_point-push o (p ∷ ps) s h =
    let d = or_parts (same_point o.at p.at) (is_shared o ps) h in
    push_front o p ps _ s refl d.0 (by_point-push o ps s d.1)

-- one more without a place: no change
pub by_point-push_unplaced : (o : Stamped) (ps : List Stamped) → is_some o.at ≡ false → by_point (ps ++ o ∷ []) ≡ by_point ps
by_point-push_unplaced o [] s = by_point-cons o [] false s
by_point-push_unplaced o (p ∷ ps) s =
    ap (λ r. if is_some p.at then inserted p r else r) (by_point-push_unplaced o ps s)
