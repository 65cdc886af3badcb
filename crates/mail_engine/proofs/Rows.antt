-- The seats of a queue whose last seat receives and whose other seats send.
use Rattle.std.proofs.Common.{◌≡◌, ◌∙◌, ◌+◌, ◌-◌, ◌<◌, refl, sym, ap, subst, ℕ, zero, suc, IsTrue, List, [], ◌∷◌, ◌++◌, length, map, replicate, Option, Some, None, get_or, arith, length-append}
use Rattle.std.specs.Prelude.{slice_get, IsSomeAnd}
use Rattle.std.specs.List.{All}
use Rattle.std.proofs.lemmas.Bool.{false≢true}
use Rattle.std.proofs.lemmas.List.{length-map, length-replicate, get_or_append_left}
use Rattle.std.proofs.Math.Seq.{get_or-append_seam}
use Rattle.std.proofs.lemmas.Option.{slice_get-map, slice_get-get_or}
use Rattle.history.specs.Seats.{Permit, Known, MayPush, MayPop}
use Rattle.history.specs.Values.{OnlyPops}
use Rattle.history.specs.Openings.{AreNew, newcomer}
use Rattle.mailbox.specs.Openings.{CanSend, CanReceive}
use Rattle.node_arena.specs.Plans.{permits_by}
use Rattle.ring_queue.specs.Plans.{permits_by as ring_permits_by}
use Rattle.mail_engine.specs.Rows.{giver, taker, givers_and_taker, giver_and_taker_roles, ring_roles, IsOpened}

-- so many givers and then a taker are permitted so
pub permits_by-givers : (n : ℕ) → permits_by (giver_and_taker_roles n) ≡ givers_and_taker n
permits_by-givers zero = refl
permits_by-givers (suc n) = ap (λ ps. giver ∷ ps) (permits_by-givers n)

-- the same of a ring
pub permits_by-ring : (n : ℕ) → ring_permits_by (ring_roles n) ≡ givers_and_taker n
permits_by-ring zero = refl
permits_by-ring (suc n) = ap (λ ps. giver ∷ ps) (permits_by-ring n)

-- each of the first n seats is a giver
giver_at : (n k : ℕ) → k < n → slice_get (givers_and_taker n) k ≡ Some giver
giver_at zero k short = absurd (omega (arith, short))
giver_at (suc n) zero short = refl
giver_at (suc n) (suc k) short = giver_at n k (omega (arith, short))

-- the seat after them is a taker
taker_at : (n : ℕ) → slice_get (givers_and_taker n) n ≡ Some taker
taker_at zero = refl
taker_at (suc n) = taker_at n

-- who may pop is that seat
pops_at : (n k : ℕ) → IsSomeAnd (slice_get (givers_and_taker n) k) (λ p. IsTrue p.pops) → k ≡ n
pops_at zero zero h = refl
pops_at zero (suc k) h = absurd h
pops_at (suc n) zero h = absurd (false≢true h)
pops_at (suc n) (suc k) h = ap suc (pops_at n k h)

-- a giver's number may push
may_push_at : (n k m : ℕ) → k < n → m ≡ k + 1 → MayPush (givers_and_taker n) m
may_push_at n k m short is = (
  omega (arith, is),
  subst (λ o. IsSomeAnd o (λ p. IsTrue p.pushes)) (sym (giver_at n k short) ∙ ap (slice_get (givers_and_taker n)) (omega (arith, is))) refl,
)

-- the taker's number may pop
may_pop_at : (n m : ℕ) → m ≡ n + 1 → MayPop (givers_and_taker n) m
may_pop_at n m is = (
  omega (arith, is),
  subst (λ o. IsSomeAnd o (λ p. IsTrue p.pops)) (sym (taker_at n) ∙ ap (slice_get (givers_and_taker n)) (omega (arith, is))) refl,
)

-- no other number may pop
only_pops_at : (n m : ℕ) → m ≡ n + 1 → OnlyPops (givers_and_taker n) m
only_pops_at n m is k may = let at = pops_at n (k - 1) may.1 in let some = may.0 in omega (arith, is, at, some)

-- a new seat knows nothing, and its number is its place, from 1 on
known_at : {S : Type 0} (permits : List Permit) (known : S → Known) (seats : List S) → AreNew permits (map known seats) → (k : ℕ) (d : S) → k < length seats
    → known (get_or seats k d) ≡ newcomer (k + 1)
known_at permits known seats new k d short =
    new.each k (known (get_or seats k d)) (slice_get-map known seats k ∙ ap (λ o. elim o as (λ o'. Option Known) [ None ↦ None | Some s ↦ Some (known s) ]) (slice_get-get_or seats k d short))

number_at : {S : Type 0} (permits : List Permit) (known : S → Known) (seats : List S) → AreNew permits (map known seats) → (k : ℕ) (d : S) → k < length seats
    → (known (get_or seats k d)).number ≡ k + 1
number_at permits known seats new k d short = ap (λ s. s.number) (known_at permits known seats new k d short)

-- the last of new seats has no entry of its own
pub unused_last : {S : Type 0} (permits : List Permit) (known : S → Known) (seats : List S) (last : S) → AreNew permits (map known (seats ++ last ∷ [])) → (known last).mine ≡ []
unused_last permits known seats last new =
    let here : get_or (seats ++ last ∷ []) (length seats) last ≡ last = get_or-append_seam seats last [] last in
    let within : length seats < length (seats ++ last ∷ []) = omega (arith, length-append seats (last ∷ [])) in
    ap (λ s. (known s).mine) (sym here) ∙ ap (λ k. k.mine) (known_at permits known (seats ++ last ∷ []) new (length seats) last within)

module _ {Q S : Type 0} (is_seat : Q → S → Type 0) (permits : Q → List Permit) (known : S → Known) (q : Q) (n : ℕ) (row : permits q ≡ givers_and_taker n)
    (seats : List S) (last : S) (new : AreNew (permits q) (map known (seats ++ last ∷ []))) (all : All (is_seat q) (seats ++ last ∷ [])) where
  -- there are n seats before the last one
  count : length seats ≡ n
  count =
      let a = new.count in
      let b = length-map (seats ++ last ∷ []) known in
      let c = length-append seats (last ∷ []) in
      let d = ap length row in
      let e = length-append (replicate n giver) (taker ∷ []) in
      let f = length-replicate n giver in
      omega (arith, a, b, c, d, e, f)

  -- the first seats may send
  can_send : All (CanSend is_seat permits known q) seats
  can_send k d short =
      let here : get_or (seats ++ last ∷ []) k d ≡ get_or seats k d = get_or_append_left seats (last ∷ []) d k short in
      let within : k < length (seats ++ last ∷ []) = omega (arith, short, length-append seats (last ∷ [])) in
      let number : (known (get_or seats k d)).number ≡ k + 1 = ap (λ s. (known s).number) (sym here) ∙ number_at (permits q) known (seats ++ last ∷ []) new k d within in
      let few = count in
      record {
        seat = subst (is_seat q) here (all k d within);
        role = subst (λ ps. MayPush ps (known (get_or seats k d)).number) (sym row) (may_push_at n k _ (omega (arith, short, few)) number);
      }

  -- the last one receives
  can_receive : CanReceive is_seat permits known q last
  can_receive =
      let here : get_or (seats ++ last ∷ []) (length seats) last ≡ last = get_or-append_seam seats last [] last in
      let within : length seats < length (seats ++ last ∷ []) = omega (arith, length-append seats (last ∷ [])) in
      let few = count in
      let number : (known last).number ≡ n + 1 = ap (λ s. (known s).number) (sym here) ∙ number_at (permits q) known (seats ++ last ∷ []) new (length seats) last within ∙ ap (λ k. k + 1) few in
      record {
        seat = subst (is_seat q) here (all (length seats) last within);
        role = subst (λ ps. MayPop ps (known last).number) (sym row) (may_pop_at n _ number);
        only = subst (λ ps. OnlyPops ps (known last).number) (sym row) (only_pops_at n _ number);
      }

-- a new queue of these roles, with its last seat told apart
pub opened : {Q S : Type 0} (is_seat : Q → S → Type 0) (permits : Q → List Permit) (known : S → Known) (n : ℕ) (q : Q) (seats before : List S) (last : S)
    → permits q ≡ givers_and_taker n → seats ≡ before ++ last ∷ [] → AreNew (permits q) (map known seats) → All (is_seat q) seats
    → IsOpened is_seat permits known n q before last
opened is_seat permits known n q seats before last row whole new all =
    let dealt : AreNew (permits q) (map known (before ++ last ∷ [])) = subst (λ ss. AreNew (permits q) (map known ss)) whole new in
    let each : All (is_seat q) (before ++ last ∷ []) = subst (All (is_seat q)) whole all in
    record {
      permitted = row;
      new = dealt;
      count = count is_seat permits known q n row before last dealt each;
      each = can_send is_seat permits known q n row before last dealt each;
      last = can_receive is_seat permits known q n row before last dealt each;
    }
