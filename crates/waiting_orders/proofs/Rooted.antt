-- Each state that a search made is the start, or behind one that was tried before it.
use Rattle.std.proofs.Common.{◌≡◌, ℕ, zero, suc, ◌+◌, ◌-◌, inl, inr, List, [], ◌∷◌, ◌++◌, Some, length, slice_get, refl, sym, ap, ◌∙◌, subst, arith}
use Rattle.std.specs.List.{AllByRecursion}
use Rattle.std.proofs.lemmas.List.{append-nil, append_assoc, length-append}
use Rattle.waiting_orders.specs.declared.boards.Board.{Board}
use Rattle.waiting_orders.specs.declared.nodes.Node.{Node}
use Rattle.waiting_orders.specs.Nodes.{Spot, IsIn, start, view, views}
use Rattle.waiting_orders.specs.Orders.{AreBehind, LeadsTo}
use Rattle.waiting_orders.specs.Walked.{IsFrom, AreRooted, IsRooted, AddsNode, AddsBehind}

-- ---- lists

module _ (P : Node → Type 0) where
  both : (xs ys : List Node) → AllByRecursion P xs → AllByRecursion P ys → AllByRecursion P (xs ++ ys)
  both [] ys a b = b
  both (x ∷ xs) ys a b = (a.0, both xs ys a.1 b)

  first : (xs ys : List Node) → AllByRecursion P (xs ++ ys) → AllByRecursion P xs
  first [] ys h = tt
  first (x ∷ xs) ys h = (h.0, first xs ys h.1)

  last : (xs ys : List Node) → AllByRecursion P (xs ++ ys) → AllByRecursion P ys
  last [] ys h = h
  last (x ∷ xs) ys h = last xs ys h.1

weaker : (P Q : Node → Type 0) → ((n : Node) → P n → Q n) → (ns : List Node) → AllByRecursion P ns → AllByRecursion Q ns
weaker P Q f [] h = tt
weaker P Q f (n ∷ ns) h = (f n h.0, weaker P Q f ns h.1)

get_front : (xs ys : List Node) (i : ℕ) (n : Node) → slice_get xs i ≡ Some n → slice_get (xs ++ ys) i ≡ Some n
get_front [] ys i n e = absurd cc
get_front (x ∷ xs) ys zero n e = e
get_front (x ∷ xs) ys (suc i) n e = get_front xs ys i n e

get_last : (xs : List Node) (n : Node) → slice_get (xs ++ n ∷ []) (length xs) ≡ Some n
get_last [] n = refl
get_last (x ∷ xs) n = get_last xs n

one_of : (P : Spot → Type 0) (us : List Spot) (u : Spot) → IsIn u us → AllByRecursion P us → P u
one_of P [] u i h = absurd i
one_of P (v ∷ us) u (inl e) h = subst P (sym e) h.0
one_of P (v ∷ us) u (inr i) h = one_of P us u i h.1

no_views : (ns : List Node) → views ns ≡ [] → ns ≡ []
no_views [] e = refl
no_views (n ∷ ns) e = absurd cc

abbrev head_or : Spot → List Spot → Spot
head_or s [] = s
head_or s (u ∷ us) = u

abbrev tail_of : List Spot → List Spot
tail_of [] = []
tail_of (u ∷ us) = us

-- ---- states behind those that were tried

module _ (board : Board) where
  from_more : (done more : List Node) (n : Node) → IsFrom board done n → IsFrom board (done ++ more) n
  from_more done more n (inl e) = inl e
  from_more done more n (inr h) = inr (h.0, get_front done more n.parent h.0 h.1, h.2)

  rooted_last : (seen done : List Node) (n : Node) → AreRooted board seen done → IsFrom board (seen ++ done) n → AreRooted board seen (done ++ n ∷ [])
  rooted_last seen [] n h f = (subst (λ l. IsFrom board l n) (append-nil seen) f, tt)
  rooted_last seen (d ∷ done) n h f = (h.0, rooted_last (seen ++ d ∷ []) done n h.1 (subst (λ l. IsFrom board l n) (sym (append_assoc seen (d ∷ []) done)) f))

  pub rooted_first : (done ahead : List Node) → views done ≡ [] → views ahead ≡ start ∷ [] → IsRooted board done ahead
  rooted_first done ahead e f = record { tried = subst (AreRooted board []) (sym (no_views done e)) tt; waiting = alone ahead f }
    where
      alone : (ahead : List Node) → views ahead ≡ start ∷ [] → AllByRecursion (IsFrom board done) ahead
      alone [] f = absurd cc
      alone (n ∷ ns) f = (inl (ap (head_or start) f), subst (AllByRecursion (IsFrom board done)) (sym (no_views ns (ap tail_of f))) tt)

  pub rooted_ahead : (done ahead rest : List Node) (node : Node) → ahead ≡ rest ++ node ∷ [] → IsRooted board done ahead → IsRooted board done (rest ++ node ∷ [])
  rooted_ahead done ahead rest node e h = subst (IsRooted board done) e h

  -- the one that is tried
  pub rooted_node : (done ahead : List Node) (node : Node) → IsRooted board done (ahead ++ node ∷ []) → IsFrom board done node
  rooted_node done ahead node h = (last (IsFrom board done) ahead (node ∷ []) h.waiting).0

  pub rooted_next : (done ahead put after : List Node) (node : Node) (made : List Spot) → put ≡ done ++ node ∷ [] → AreBehind board (view node) made → AddsBehind put made ahead after
      → IsRooted board done (ahead ++ node ∷ []) → IsRooted board put after
  rooted_next done ahead put after node made e b added h =
      subst (λ put. IsRooted board put after) (sym e) (record {
        tried = rooted_last [] done node h.tried (rooted_node done ahead node h);
        waiting = subst (AllByRecursion (IsFrom board (done ++ node ∷ []))) (sym added.1)
            (both (IsFrom board (done ++ node ∷ [])) ahead added.0 (weaker (IsFrom board done) (IsFrom board (done ++ node ∷ [])) (from_more done (node ∷ [])) ahead (first (IsFrom board done) ahead (node ∷ []) h.waiting))
            (weaker (λ n. (n.parent ≡ length put - 1) × IsIn (view n) made) (IsFrom board (done ++ node ∷ [])) new added.0 added.2));
      })
    where
      at_last : length put - 1 ≡ length done
      at_last = let a : length put ≡ length done + 1 = ap length e ∙ length-append done (node ∷ []) in omega (arith, a)

      new : (n : Node) → (n.parent ≡ length put - 1) × IsIn (view n) made → IsFrom board (done ++ node ∷ []) n
      new n k = inr (node, subst (λ i. slice_get (done ++ node ∷ []) i ≡ Some node) (sym (k.0 ∙ at_last)) (get_last done node), λ calls. one_of (LeadsTo board (view node)) made (view n) k.1 (b calls))

-- ---- what is put ahead

pub all_in : (us vs : List Spot) → ((u : Spot) → IsIn u us → IsIn u vs) → AllByRecursion (λ u. IsIn u vs) us
all_in [] vs f = tt
all_in (u ∷ us) vs f = (f u (inl refl), all_in us vs (λ w i. f w (inr i)))

pub adds_one : (done ahead between after : List Node) (node : Node) (made : List Spot) → node.parent ≡ length done - 1 → IsIn (view node) made → AddsBehind done made ahead between → AddsNode between node after
    → AddsBehind done made ahead after
adds_one done ahead between after node made p i added (inl e) = (added.0, e ∙ added.1, added.2)
adds_one done ahead between after node made p i added (inr e) =
    (added.0 ++ node ∷ [], e ∙ ap (λ l. l ++ node ∷ []) added.1 ∙ append_assoc ahead added.0 (node ∷ []), both (λ n. (n.parent ≡ length done - 1) × IsIn (view n) made) added.0 (node ∷ []) added.2 ((p, i), tt))
