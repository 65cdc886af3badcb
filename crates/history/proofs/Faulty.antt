-- The tests of an operation's shape, span and place against what they say in words.
use Rattle.std.proofs.Common.{◌≡◌, ℕ, ◌<◌, ◌⊎◌, inl, inr, true, false, nat_le, ◌&&◌, Option, Some, None, is_some, IsSome, IsNone, IsSomeAnd, List, [], ◌∷◌, map, refl, sym, ap, subst, arith}
use Rattle.std.specs.List.{Contains}
use Rattle.std.proofs.lemmas.Bool.{leb-false, lt-leb, eq-eqb, eqb-true, and_cases, and_left, and_right, or_cases, or_left, or_right}
use Rattle.std.proofs.lemmas.List.Elements.{Contains-append_left, Contains-append_right, Contains-push, Contains-push_cases, Contains-append_cases}
use Rattle.history.specs.declared.operations.Reply.{Reply}
use Rattle.history.specs.declared.operations.Stamped.{Stamped}
use Rattle.history.specs.History.{is_shaped, lies_within, same_point, is_shared}
use Rattle.history.specs.Faults.{SharesPlace}

-- exactly one of last step and reply is there, or both are and the place isn't
abbrev Misshapen : Option ℕ → Option ℕ → Option Reply → Type 0
Misshapen last at reply =
    (IsSome last × IsNone reply) ⊎ ((IsNone last × IsSome reply) ⊎ (IsSome last × IsSome reply × IsNone at))

-- a failed test of the shape
pub misshapen : (last at : Option ℕ) (reply : Option Reply) → is_shaped last at reply ≡ false → Misshapen last at reply
misshapen None None None e = cc e
misshapen None (Some at) None e = cc e
misshapen None None (Some reply) e = inr (inl (refl, refl))
misshapen None (Some at) (Some reply) e = inr (inl (refl, refl))
misshapen (Some last) None None e = inl (refl, refl)
misshapen (Some last) (Some at) None e = inl (refl, refl)
misshapen (Some last) None (Some reply) e = inr (inr (refl, refl, refl))
misshapen (Some last) (Some at) (Some reply) e = cc e

-- the test of the shape fails
pub shape_fails : (last at : Option ℕ) (reply : Option Reply) → Misshapen last at reply → is_shaped last at reply ≡ false
shape_fails None None None (inl h) = cc (h.0)
shape_fails None None None (inr (inl h)) = cc (h.1)
shape_fails None None None (inr (inr h)) = cc (h.0)
shape_fails None (Some at) None (inl h) = cc (h.0)
shape_fails None (Some at) None (inr (inl h)) = cc (h.1)
shape_fails None (Some at) None (inr (inr h)) = cc (h.0)
shape_fails None None (Some reply) h = refl
shape_fails None (Some at) (Some reply) h = refl
shape_fails (Some last) None None h = refl
shape_fails (Some last) (Some at) None h = refl
shape_fails (Some last) None (Some reply) h = refl
shape_fails (Some last) (Some at) (Some reply) (inl h) = cc (h.1)
shape_fails (Some last) (Some at) (Some reply) (inr (inl h)) = cc (h.0)
shape_fails (Some last) (Some at) (Some reply) (inr (inr h)) = cc (h.2)

-- the last step is before the first one, or the place is outside of them
abbrev Outside : ℕ → Option ℕ → Option ℕ → Type 0
Outside first last at =
    IsSomeAnd last (λ last. last < first) ⊎
    (IsSomeAnd at (λ at. at < first) ⊎ IsSomeAnd at (λ at. IsSomeAnd last (λ last. last < at)))

-- a failed test of the span
pub outside : (first : ℕ) (last at : Option ℕ) → lies_within first last at ≡ false → Outside first last at
outside first None None e = cc e
outside first (Some last) None e = inl (leb-false first last e)
outside first None (Some at) e = inr (inl (leb-false first at e))
outside first (Some last) (Some at) e = go (and_cases (nat_le first last && nat_le first at) (nat_le at last) e)
  where
    sooner : (nat_le first last ≡ false) ⊎ (nat_le first at ≡ false) → Outside first (Some last) (Some at)
    sooner (inl e) = inl (leb-false first last e)
    sooner (inr e) = inr (inl (leb-false first at e))

    go : ((nat_le first last && nat_le first at) ≡ false) ⊎ (nat_le at last ≡ false) → Outside first (Some last) (Some at)
    go (inl e) = sooner (and_cases (nat_le first last) (nat_le first at) e)
    go (inr e) = inr (inr (leb-false at last e))

-- the test of the span fails
pub span_fails : (first : ℕ) (last at : Option ℕ) → Outside first last at → lies_within first last at ≡ false
span_fails first None None (inl h) = absurd h
span_fails first None None (inr (inl h)) = absurd h
span_fails first None None (inr (inr h)) = absurd h
span_fails first (Some last) None (inl h) = lt-leb first last h
span_fails first (Some last) None (inr (inl h)) = absurd h
span_fails first (Some last) None (inr (inr h)) = absurd h
span_fails first None (Some at) (inl h) = absurd h
span_fails first None (Some at) (inr (inl h)) = lt-leb first at h
span_fails first None (Some at) (inr (inr h)) = absurd h
span_fails first (Some last) (Some at) (inl h) =
    and_left _ (nat_le at last) (and_left _ (nat_le first at) (lt-leb first last h))
span_fails first (Some last) (Some at) (inr (inl h)) =
    and_left _ (nat_le at last) (and_right (nat_le first last) _ (lt-leb first at h))
span_fails first (Some last) (Some at) (inr (inr h)) = and_right (nat_le first last && nat_le first at) _ (lt-leb at last h)

same_true : (a b : Option ℕ) → same_point a b ≡ true → (is_some a ≡ true) × (b ≡ a)
same_true None b e = cc e
same_true (Some a) None e = cc e
same_true (Some a) (Some b) e = (refl, ap Some (sym (eqb-true a b e)))

pub same_from : (a b : Option ℕ) → is_some a ≡ true → b ≡ a → same_point a b ≡ true
same_from None b s e = cc s
same_from (Some a) None s e = cc e
same_from (Some a) (Some b) s e = let h : a ≡ b = cc e in eq-eqb a b h

-- a passed test of a shared place
pub shares : (o : Stamped) (ps : List Stamped) → is_shared o ps ≡ true → SharesPlace ps o
shares o [] e = cc e
shares o (p ∷ ps) e = go (or_cases (same_point o.at p.at) (is_shared o ps) e) (shares o ps)
  where
    go : (same_point o.at p.at ≡ true) ⊎ (is_shared o ps ≡ true) → (is_shared o ps ≡ true → SharesPlace ps o) → SharesPlace (p ∷ ps) o
    go (inl e) more =
        let s = same_true o.at p.at e in (
          s.0,
          subst (λ a. Contains (a ∷ map (λ p. p.at) ps) o.at) (sym s.1)
              (Contains-append_left (o.at ∷ []) (map (λ p. p.at) ps) o.at (Contains-push [] o.at)),
        )
    go (inr e) more =
        let s = more e in (s.0, Contains-append_right (p.at ∷ []) (map (λ p. p.at) ps) o.at s.1)

none_there : (x : Option ℕ) → Contains [] x → ⊥
none_there x h = omega (arith, h.1)

-- the test of a shared place passes
pub sharing_passes : (o : Stamped) (ps : List Stamped) → SharesPlace ps o → is_shared o ps ≡ true
sharing_passes o [] h = absurd (none_there o.at h.1)
sharing_passes o (p ∷ ps) h = go (Contains-append_cases (p.at ∷ []) (map (λ p. p.at) ps) o.at h.1) (sharing_passes o ps)
  where
    here : Contains [] o.at ⊎ (p.at ≡ o.at) → same_point o.at p.at ≡ true
    here (inl g) = absurd (none_there o.at g)
    here (inr e) = same_from o.at p.at h.0 e

    go : Contains (p.at ∷ []) o.at ⊎ Contains (map (λ p. p.at) ps) o.at → (SharesPlace ps o → is_shared o ps ≡ true) → is_shared o (p ∷ ps) ≡ true
    go (inl g) more = or_left _ _ (here (Contains-push_cases [] p.at o.at g))
    go (inr g) more = or_right _ _ (more (h.0, g))
