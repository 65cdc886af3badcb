-- One more state is tried, or was known, or none is left.
use Rattle.std.proofs.Common.{◌≡◌, ◌⊎◌, inl, inr, ℕ, zero, suc, List, [], ◌∷◌, ◌++◌, ◌<◌, ◌↔◌, Option, None, IsSome, length, refl, sym, ap, ◌∙◌, subst, arith}
use Rattle.std.specs.List.{AllByRecursion}
use Rattle.std.proofs.lemmas.List.{append-nil, map-append}
use Rattle.std.proofs.lemmas.List.Sorted.{IsPermutation-refl}
use Rattle.std.proofs.lemmas.List.Elements.{recursion_from_All}
use Rattle.history.specs.declared.operations.Stamped.{Stamped}
use Rattle.waiting_orders.specs.declared.boards.Board.{Board}
use Rattle.waiting_orders.specs.declared.nodes.Node.{Node}
use Rattle.waiting_orders.specs.Waiting.{IsOfQueue, IsCall, State, Same, IsEnd, CanEnd}
use Rattle.waiting_orders.specs.Nodes.{Spot, Among, AreCalls, OneEnds, HasSteps, IsBoard, IsIn, Searched, WasTried, start, state_of, turned, view, views}
use Rattle.waiting_orders.proofs.Covering.{walks}
use Rattle.waiting_orders.proofs.Futures.{all_moved, same_futures}
use Rattle.waiting_orders.proofs.Limits.{all_first, all_second}
use Rattle.waiting_orders.proofs.Stepping.{among_left, among_right}

module _ (board : Board) where
  among_split : (us vs : List Spot) (t : State) → Among board (us ++ vs) t → Among board us t ⊎ Among board vs t
  among_split [] vs t h = inr h
  among_split (u ∷ us) vs t (inl h) = inl (inl h)
  among_split (u ∷ us) vs t (inr h) = go (among_split us vs t h)
    where
      go : Among board us t ⊎ Among board vs t → Among board (u ∷ us) t ⊎ Among board vs t
      go (inl h) = inl (inr h)
      go (inr h) = inr h

  among_turned : (us : List Spot) (t : State) → Among board us t → Among board (turned us) t
  among_turned [] t h = h
  among_turned (u ∷ us) t (inl h) = among_right board (turned us) (u ∷ []) t (inl h)
  among_turned (u ∷ us) t (inr h) = among_left board (turned us) (u ∷ []) t (among_turned us t h)

  among_in : (s : Spot) (us : List Spot) (t : State) → IsIn s us → Same t (state_of board s) → Among board us t
  among_in s [] t i h = absurd i
  among_in s (u ∷ us) t (inl e) h = inl (subst (λ s. Same t (state_of board s)) e h)
  among_in s (u ∷ us) t (inr i) h = inr (among_in s us t i h)

  one_of : (us vs : List Spot) → ((t : State) → Among board us t → Among board vs t) → (s : Spot) (n : ℕ)
      → IsEnd (state_of board s) ⊎ OneEnds board n us → IsEnd (state_of board s) ⊎ OneEnds board n vs
  one_of us vs f s n (inl e) = inl e
  one_of us vs f s n (inr h) = inr (h.0, f h.0 h.1, h.2)

  wider : (all more : List Spot) → ((t : State) → Among board all t → Among board more t) → (us : List Spot) → AllByRecursion (WasTried board all) us → AllByRecursion (WasTried board more) us
  wider all more f [] h = tt
  wider all more f (u ∷ us) h = (record { no_end = h.0.no_end; steps = λ c n e. one_of all more f u n (h.0.steps c n e) }, wider all more f us h.1)

  both_tried : (P : Spot → Type 0) (us : List Spot) (s : Spot) → AllByRecursion P us → P s → AllByRecursion P (us ++ s ∷ [])
  both_tried P [] s h p = (p, tt)
  both_tried P (u ∷ us) s h p = (h.0, both_tried P us s h.1 p)

  among_all : (us vs : List Spot) → AllByRecursion (λ u. IsIn u vs) us → (t : State) → Among board us t → Among board vs t
  among_all [] vs h t a = absurd a
  among_all (u ∷ us) vs h t (inl e) = among_in u vs t h.0 e
  among_all (u ∷ us) vs h t (inr a) = among_all us vs h.1 t a

  all_among : (us vs : List Spot) → ((u : Spot) → IsIn u us → IsIn u vs) → (t : State) → Among board us t → Among board vs t
  all_among [] vs f t a = absurd a
  all_among (u ∷ us) vs f t (inl e) = among_in u vs t (f u (inl refl)) e
  all_among (u ∷ us) vs f t (inr a) = all_among us vs (λ u i. f u (inr i)) t a

  -- a state is tried, and all that one step leads to is put ahead
  pub tried : (done ahead after new : List Spot) (s : Spot) → (AreCalls board → IsEnd (state_of board s) → ⊥) → HasSteps board s new → ((u : Spot) → IsIn u ahead → IsIn u after)
      → AllByRecursion (λ u. IsIn u ((done ++ s ∷ []) ++ after)) (turned new) → Searched board done (ahead ++ s ∷ []) → Searched board (done ++ s ∷ []) after
  tried done ahead after new s off steps keeps made h =
      record {
        start = moves (state_of board start) h.start;
        tried = both_tried (WasTried board all) done s (wider (done ++ (ahead ++ s ∷ [])) all moves done h.tried)
            (record { no_end = off; steps = λ c n e. one_of new all (λ t a. among_all (turned new) all made t (among_turned new t a)) s n (steps c n e) });
      }
    where
      all : List Spot
      all = (done ++ s ∷ []) ++ after

      last : (t : State) → Among board ahead t ⊎ Among board (s ∷ []) t → Among board all t
      last t (inl a) = among_right board (done ++ s ∷ []) after t (all_among ahead after keeps t a)
      last t (inr a) = among_left board (done ++ s ∷ []) after t (among_right board done (s ∷ []) t a)

      moves : (t : State) → Among board (done ++ (ahead ++ s ∷ [])) t → Among board all t
      moves t a = go (among_split done (ahead ++ s ∷ []) t a)
        where
          go : Among board done t ⊎ Among board (ahead ++ s ∷ []) t → Among board all t
          go (inl a) = among_left board (done ++ s ∷ []) after t (among_left board done (s ∷ []) t a)
          go (inr a) = last t (among_split ahead (s ∷ []) t a)

  -- where all was tried, nothing that is the same as one of the states can end
  module _ (calls : AreCalls board) (all : List Spot) (done : AllByRecursion (WasTried board all) all) where
    found : (us : List Spot) → AllByRecursion (WasTried board all) us → (t : State) → Among board us t → (u : Spot) × WasTried board all u × Same t (state_of board u)
    found [] h t a = absurd a
    found (u ∷ us) h t (inl a) = (u, h.0, a)
    found (u ∷ us) h t (inr a) = found us h.1 t a

    no_end : (n : ℕ) (t : State) → Among board all t → CanEnd n t → ⊥
    no_end zero t a c = let f = found all done t a in f.1.no_end calls (same_futures 0 t (state_of board f.0) f.2 c)
    no_end (suc n) t a c =
        let f = found all done t a in
        go (λ t a c. no_end n t a c) f.0 f.1 (f.1.steps calls n (same_futures (suc n) t (state_of board f.0) f.2 c))
      where
        go : ((t : State) → Among board all t → CanEnd n t → ⊥) → (u : Spot) → WasTried board all u → IsEnd (state_of board u) ⊎ OneEnds board n all → ⊥
        go more u w (inl e) = w.no_end calls e
        go more u w (inr e) = more e.0 e.1 e.2

pub begins : (board : Board) → Searched board [] (start ∷ [])
begins board = record { start = inl (record { left = IsPermutation-refl _; shut = refl; time = omega arith }); tried = tt }

-- so where nothing is left to try, the history is not one of a queue
pub nothing_left : (ops : List Stamped) (board : Board) (done : List Spot) → IsBoard ops board → Searched board done [] → IsOfQueue ops → ⊥
nothing_left ops board done is h q =
    let all = board.others.items ++ board.pushes.items in
    let each = all_moved IsCall ops all is.all (recursion_from_All IsCall ops q.calls) in
    let calls : AreCalls board = record {
      others = is.others;
      pushes = is.pushes;
      other_calls = all_first IsCall board.others.items board.pushes.items each;
      push_calls = all_second IsCall board.others.items board.pushes.items each;
    } in
    let w = walks ops (state_of board start) (record { all = is.all; unshut = refl; time = refl }) q in
    let none : done ++ [] ≡ done = append-nil done in
    no_end board calls done (subst (λ all. AllByRecursion (WasTried board all) done) none h.tried) w.0 (state_of board start)
    (subst (λ all. Among board all (state_of board start)) none h.start) w.1

-- the last one of a list turned around is the first
turned_last : (us : List Spot) (s : Spot) → turned (us ++ s ∷ []) ≡ s ∷ turned us
turned_last [] s = refl
turned_last (u ∷ us) s = ap (λ l. l ++ u ∷ []) (turned_last us s)

-- the same of nodes, of which some were put ahead
pub turned_next : (all before : List Spot) (new rest : List Node) (node : Node) → new ≡ rest ++ node ∷ [] → all ≡ before ++ turned (views new) → all ≡ before ++ view node ∷ turned (views rest)
turned_next all before new rest node e f =
    f ∙ ap (λ l. before ++ turned l) (ap views e ∙ map-append view rest (node ∷ [])) ∙ ap (λ l. before ++ l) (turned_last (views rest) (view node))

-- the same of what comes of it
pub tries : (board : Board) (done ahead after new put : List Spot) (s : Spot) → put ≡ done ++ s ∷ [] → (AreCalls board → IsEnd (state_of board s) → ⊥) → HasSteps board s new
    → ((u : Spot) → IsIn u ahead → IsIn u after) → AllByRecursion (λ u. IsIn u (put ++ after)) (turned new) → Searched board done (ahead ++ s ∷ []) → Searched board put after
tries board done ahead after new put s e off steps keeps made h =
    subst (λ put. Searched board put after) (sym e) (tried board done ahead after new s off steps keeps (subst (λ put. AllByRecursion (λ u. IsIn u (put ++ after)) (turned new)) e made) h)

pub seen_ahead : (board : Board) (done ahead rest : List Node) (node : Node) → ahead ≡ rest ++ node ∷ [] → Searched board (views done) (views ahead) → Searched board (views done) (views rest ++ view node ∷ [])
seen_ahead board done ahead rest node e h = subst (Searched board (views done)) (ap views e ∙ map-append view rest (node ∷ [])) h

pub none_left : (keys : List Node) (last : Option Node) → last ≡ None → (IsSome last ↔ (0 < length keys)) → keys ≡ []
none_left [] last e h = refl
none_left (k ∷ keys) last e h = let some : IsSome {T = Node} None = subst IsSome e (h.1 (omega arith)) in absurd (cc some)

pub none_ahead : (ops : List Stamped) (board : Board) (done ahead : List Node) → IsBoard ops board → ahead ≡ [] → Searched board (views done) (views ahead) → IsOfQueue ops → ⊥
none_ahead ops board done ahead is e h q = nothing_left ops board (views done) is (subst (λ l. Searched board (views done) (views l)) e h) q

pub begins_so : (board : Board) (done ahead : List Node) → views done ≡ [] → views ahead ≡ start ∷ [] → Searched board (views done) (views ahead)
begins_so board done ahead e f = subst (λ l. Searched board l (views ahead)) (sym e) (subst (Searched board []) (sym f) (begins board))
