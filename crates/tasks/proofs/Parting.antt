-- What workers brought back, each part by itself.
use Rattle.std.proofs.Common.{◌≡◌, ◌∙◌, ◌+◌, ◌≤◌, refl, ap, ℕ, List, [], ◌∷◌, ◌++◌, map, length, arith}
use Rattle.std.proofs.lemmas.List.{length-map}
use Rattle.tasks.specs.declared.turns.Worked.{Worked}
use Rattle.tasks.specs.declared.posts.Post.{Post}
use Rattle.tasks.specs.Parts.{seat_in}
use Rattle.tasks.specs.Posts.{takes, gives}

-- elements were put into an empty list
pub alone : {X : Type 0} {end start rest : List X} → end ≡ start ++ rest → start ≡ [] → end ≡ rest
alone {rest = rest} put none = put ∙ ap (λ l. l ++ rest) none

-- or behind one that was
pub behind : {X : Type 0} {x : X} {end middle start rest : List X} → end ≡ middle ++ rest → middle ≡ start ++ x ∷ [] → start ≡ [] → end ≡ x ∷ rest
behind {x = x} {rest = rest} two one none = two ∙ ap (λ l. l ++ rest) (one ∙ ap (λ l. l ++ x ∷ []) none)

-- there is room for one seat more than workers
pub fits : {S D : Type 0} (ws : List (Worked S D)) (seats : List S) (s : S) (n : ℕ) → seats ≡ s ∷ map seat_in ws → length ws + 1 ≤ n → length seats ≤ n
fits ws seats s n is room =
    let same = ap length is in
    let workers = length-map ws seat_in in
    omega (arith, same, workers, room)

module _ {S U D : Type 0} where
  takes-seats : (ws : List (Worked (Post S U) D)) → map takes (map seat_in ws) ≡ map (λ (w : Worked (Post S U) D). w.seat.taker) ws
  takes-seats [] = refl
  takes-seats (w ∷ ws) = ap (λ l. w.seat.taker ∷ l) (takes-seats ws)

  gives-seats : (ws : List (Worked (Post S U) D)) → map gives (map seat_in ws) ≡ map (λ (w : Worked (Post S U) D). w.seat.giver) ws
  gives-seats [] = refl
  gives-seats (w ∷ ws) = ap (λ l. w.seat.giver ∷ l) (gives-seats ws)

  -- the seats of posts, the first of which is who hands out the tasks
  pub all_takers : {ts : List S} {ps : List (Post S U)} (p : Post S U) (ws : List (Worked (Post S U) D)) → ts ≡ map takes ps → ps ≡ p ∷ map seat_in ws
      → ts ≡ p.taker ∷ map (λ (w : Worked (Post S U) D). w.seat.taker) ws
  all_takers p ws are is = are ∙ ap (map takes) is ∙ ap (λ l. p.taker ∷ l) (takes-seats ws)

  pub all_givers : {us : List U} {ps : List (Post S U)} (p : Post S U) (ws : List (Worked (Post S U) D)) → us ≡ map gives ps → ps ≡ p ∷ map seat_in ws
      → us ≡ p.giver ∷ map (λ (w : Worked (Post S U) D). w.seat.giver) ws
  all_givers p ws are is = are ∙ ap (map gives) is ∙ ap (λ l. p.giver ∷ l) (gives-seats ws)
