-- A text on its way to a sink, piece by piece.
use Rattle.std.proofs.Common.{◌≡◌, ℕ, List, [], ◌++◌, Option, refl, sym, subst, ◌∙◌, append_assoc, append-nil}
use Rattle.text_io.specs.Blocks.{Sends, TakesPrefix}
use Rattle.text_io.proofs.Sends.{Sends-none, Sends-trans, TakesPrefix-longer, TakesPrefix-trans}

-- of a whole text, a sink took a front, some is held back, and the rest is still to come
pub record IsUnderWay (old new : Option (List ℕ)) (whole held rest : List ℕ) : Type 0 where
  pub text : List ℕ
  pub sends : Sends old new text held
  pub all : text ++ rest ≡ whole

-- at the start nothing was taken but what is held
pub under_way_first : (a : Option (List ℕ)) (held rest : List ℕ) → IsUnderWay a a (held ++ rest) held rest
under_way_first a held rest = record { text = held; sends = Sends-none a held; all = refl }

-- one more piece was handed on
pub under_way_more : (a b c : Option (List ℕ)) (whole held piece rest after : List ℕ) → IsUnderWay a b whole held (piece ++ rest) → Sends b c (held ++ piece) after → IsUnderWay a c whole after rest
under_way_more a b c whole held piece rest after u s = record {
  text = u.text ++ piece;
  sends = Sends-trans a b c u.text held piece after u.sends s;
  all = append_assoc u.text piece rest ∙ u.all;
}

-- the sink gave up within a piece
pub under_way_stops : (a b c : Option (List ℕ)) (whole held piece rest : List ℕ) → IsUnderWay a b whole held (piece ++ rest) → TakesPrefix b c (held ++ piece) → TakesPrefix a c whole
under_way_stops a b c whole held piece rest u t =
    subst (TakesPrefix a c) (append_assoc u.text piece rest ∙ u.all)
    (TakesPrefix-longer a c (u.text ++ piece) rest (TakesPrefix-trans a b c u.text held piece u.sends t))

-- nothing is to come any more
pub under_way_done : (a b : Option (List ℕ)) (whole held : List ℕ) → IsUnderWay a b whole held [] → Sends a b whole held
under_way_done a b whole held u = subst (λ t. Sends a b t held) (sym (append-nil u.text) ∙ u.all) u.sends

-- a text of three pieces, of which the first was handed on
pieces_first : (a b : Option (List ℕ)) (x y z h : List ℕ) → Sends a b x h → IsUnderWay a b (x ++ y ++ z) h (y ++ z)
pieces_first a b x y z h s =
    subst (λ w. IsUnderWay a b w h (y ++ z)) (sym (append_assoc x y z))
    (under_way_more a a b (x ++ (y ++ z)) [] x (y ++ z) h (under_way_first a [] (x ++ (y ++ z))) s)

-- and the second
pieces_second : (a b c : Option (List ℕ)) (x y z h i : List ℕ) → Sends a b x h → Sends b c (h ++ y) i → IsUnderWay a c (x ++ y ++ z) i (z ++ [])
pieces_second a b c x y z h i s t =
    subst (IsUnderWay a c (x ++ y ++ z) i) (sym (append-nil z))
    (under_way_more a b c (x ++ y ++ z) h y z i (pieces_first a b x y z h s) t)

pieces_third : (a b c d : Option (List ℕ)) (x y z h i j : List ℕ) → Sends a b x h → Sends b c (h ++ y) i → Sends c d (i ++ z) j → IsUnderWay a d (x ++ y ++ z) j []
pieces_third a b c d x y z h i j s t u =
    under_way_more a c d (x ++ y ++ z) i z [] j (pieces_second a b c x y z h i s t) u

-- the sink gave up within the first of three pieces
pub pieces_stop_at_first : (a b : Option (List ℕ)) (x y z : List ℕ) → TakesPrefix a b x → TakesPrefix a b (x ++ y ++ z)
pieces_stop_at_first a b x y z t =
    subst (TakesPrefix a b) (sym (append_assoc x y z)) (TakesPrefix-longer a b x (y ++ z) t)

-- within the second
pub pieces_stop_at_second : (a b c : Option (List ℕ)) (x y z h : List ℕ) → Sends a b x h → TakesPrefix b c (h ++ y) → TakesPrefix a c (x ++ y ++ z)
pieces_stop_at_second a b c x y z h s t = under_way_stops a b c (x ++ y ++ z) h y z (pieces_first a b x y z h s) t

-- within the third
pub pieces_stop_at_third : (a b c d : Option (List ℕ)) (x y z h i : List ℕ) → Sends a b x h → Sends b c (h ++ y) i → TakesPrefix c d (i ++ z) → TakesPrefix a d (x ++ y ++ z)
pieces_stop_at_third a b c d x y z h i s t u = under_way_stops a c d (x ++ y ++ z) i z [] (pieces_second a b c x y z h i s t) u

-- all three were handed on
pub pieces_done : (a b c d : Option (List ℕ)) (x y z h i j : List ℕ) → Sends a b x h → Sends b c (h ++ y) i → Sends c d (i ++ z) j → Sends a d (x ++ y ++ z) j
pieces_done a b c d x y z h i j s t u = under_way_done a d (x ++ y ++ z) j (pieces_third a b c d x y z h i j s t u)
