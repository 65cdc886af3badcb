-- The seats of a new queue, by what they are for.
use Rattle.std.proofs.Common.{◌≡◌, ◌∙◌, ◌+◌, ◌-◌, ◌<◌, ◌≤◌, sym, refl, ap, subst, ℕ, zero, suc, List, [], ◌∷◌, ◌++◌, map, length, replicate, Some}
use Rattle.std.proofs.Common.{IsSomeAnd, IsTrue, true≢false, slice_get, option_map, length-append, arith}
use Rattle.std.specs.Prelude.{⊤}
use Rattle.std.specs.List.{All}
use Rattle.std.proofs.lemmas.List.{length-map, length-replicate}
use Rattle.std.proofs.lemmas.List.Elements.{All-cons, All-nil, All-head, All-tail}
use Rattle.std.proofs.lemmas.Option.{slice_get-map}
use Rattle.history.specs.Seats.{Permit, MayPush, MayPop}
use Rattle.carriers.specs.Knowledge.{KnownOf}
use Rattle.node_arena.specs.declared.roles.Role.TheVariants.{Giver, Taker}
use Rattle.node_arena.specs.Plans.{permit_of, permits_by}
use Rattle.value_queue.specs.Queues.{newcomer, AreNewOf}
use Rattle.shared_queue.specs.Seats.{IsGiver, IsTaker}
use Rattle.post_office.specs.declared.offices.Desks.{Desks}
use Rattle.post_office.specs.Desks.{AreDesks}
use Rattle.post_office.specs.Roles.{office_roles, newcomers}

giver_at : (s r k : ℕ) → k < s → slice_get (permits_by (office_roles s r)) k ≡ Some (permit_of Giver)
giver_at zero r k low = absurd (omega (arith, low))
giver_at (suc s) r zero low = refl
giver_at (suc s) r (suc k) low = giver_at s r k (omega (arith, low))

taker_first : (r k : ℕ) → k < r → slice_get (permits_by (office_roles zero r)) k ≡ Some (permit_of Taker)
taker_first zero k low = absurd (omega (arith, low))
taker_first (suc r) zero low = refl
taker_first (suc r) (suc k) low = taker_first r k (omega (arith, low))

taker_at : (s r k : ℕ) → s ≤ k → k < s + r → slice_get (permits_by (office_roles s r)) k ≡ Some (permit_of Taker)
taker_at zero r k from low = taker_first r k (omega (arith, low))
taker_at (suc s) r zero from low = absurd (omega (arith, from))
taker_at (suc s) r (suc k) from low = taker_at s r k (omega (arith, from)) (omega (arith, low))

last_first : (r k : ℕ) → r ≤ k → k < r + 3 → slice_get (permits_by (office_roles zero r)) k ≡ Some (permit_of Giver)
last_first zero zero from low = refl
last_first zero (suc zero) from low = refl
last_first zero (suc (suc zero)) from low = refl
last_first zero (suc (suc (suc k))) from low = absurd (omega (arith, low))
last_first (suc r) zero from low = absurd (omega (arith, from))
last_first (suc r) (suc k) from low = last_first r k (omega (arith, from)) (omega (arith, low))

last_at : (s r k : ℕ) → s + r ≤ k → k < s + r + 3 → slice_get (permits_by (office_roles s r)) k ≡ Some (permit_of Giver)
last_at zero r k from low = last_first r k (omega (arith, from)) (omega (arith, low))
last_at (suc s) r zero from low = absurd (omega (arith, from))
last_at (suc s) r (suc k) from low = last_at s r k (omega (arith, from)) (omega (arith, low))

pops_first : (r k : ℕ) → IsSomeAnd (slice_get (permits_by (office_roles zero r)) k) (λ (p : Permit). IsTrue p.pops) → k < r
pops_first zero zero h = absurd (true≢false (sym h))
pops_first zero (suc zero) h = absurd (true≢false (sym h))
pops_first zero (suc (suc zero)) h = absurd (true≢false (sym h))
pops_first zero (suc (suc (suc k))) h = absurd h
pops_first (suc r) zero h = omega arith
pops_first (suc r) (suc k) h = let few = pops_first r k h in omega (arith, few)

-- who may pop is a receiver
pops_at : (s r k : ℕ) → IsSomeAnd (slice_get (permits_by (office_roles s r)) k) (λ (p : Permit). IsTrue p.pops) → (s ≤ k) × (k < s + r)
pops_at zero r k h = let few = pops_first r k h in (omega arith, omega (arith, few))
pops_at (suc s) r zero h = absurd (true≢false (sym h))
pops_at (suc s) r (suc k) h =
    let was = pops_at s r k h in
    let from = was.0 in
    let low = was.1 in
    (omega (arith, from), omega (arith, low))

long : (s r : ℕ) → length (permits_by (office_roles s r)) ≡ s + r + 3
long s r =
    let m = length-map (office_roles s r) permit_of in
    let a = length-append (replicate s Giver) (replicate r Taker ++ Giver ∷ Giver ∷ Giver ∷ []) in
    let b = length-append (replicate r Taker) (Giver ∷ Giver ∷ Giver ∷ []) in
    let x = length-replicate s Giver in
    let y = length-replicate r Taker in
    omega (arith, m, a, b, x, y)

-- this holds of each of these and its number, the first of which has this one
abbrev pub From : {S : Type 0} → (ℕ → S → Type 0) → ℕ → List S → Type 0
From P n [] = ⊤
From P n (x ∷ xs) = P n x × From P (n + 1) xs

module _ {S : Type 0} (P : ℕ → S → Type 0) where
  -- of two lists, one behind the other, it holds of the one, and of the other from there on
  from_left : (n : ℕ) (xs ys : List S) → From P n (xs ++ ys) → From P n xs
  from_left n [] ys h = tt
  from_left n (x ∷ xs) ys h = (h.0, from_left (n + 1) xs ys h.1)

  from_right : (n m : ℕ) (xs ys : List S) → n + length xs ≡ m → From P n (xs ++ ys) → From P m ys
  from_right n m [] ys e h = subst (λ k. From P k ys) (omega (arith, e)) h
  from_right n m (x ∷ xs) ys e h = from_right (n + 1) m xs ys (omega (arith, e)) h.1

  -- what follows from it holds of all
  from_all : (Q : S → Type 0) (n m : ℕ) (xs : List S) → n + length xs ≡ m → ((k : ℕ) (x : S) → n ≤ k → k < m → P k x → Q x) → From P n xs → All Q xs
  from_all Q n m [] e then h = All-nil Q
  from_all Q n m (x ∷ xs) e then h =
      All-cons Q x xs (then n x (omega arith) (omega (arith, e)) h.0)
      (from_all Q (n + 1) m xs (omega (arith, e)) (λ k y from low. then k y (omega (arith, from)) low) h.1)

module _ {Q S A : Type 0} (is_seat : Q → S → Type 0) (known : S → KnownOf A) (q : Q) where
  -- a seat of this number that is new
  abbrev pub IsNew : ℕ → S → Type 0
  IsNew n x = is_seat q x × (known x ≡ newcomer n)

  are_new : (n : ℕ) (xs : List S) → All (is_seat q) xs → ((k : ℕ) (x : S) → slice_get xs k ≡ Some x → known x ≡ newcomer (n + k)) → From IsNew n xs
  are_new n [] each new = tt
  are_new n (x ∷ xs) each new =
      let here : n + 0 ≡ n = omega arith in (
        (All-head (is_seat q) x xs each, subst (λ m. known x ≡ newcomer m) here (new 0 x refl)),
        are_new (n + 1) xs (All-tail (is_seat q) x xs each) (λ k y at. let next : n + suc k ≡ n + 1 + k = omega arith in subst (λ m. known y ≡ newcomer m) next (new (suc k) y at)),
      )

  -- what new seats know
  pub known_new : (n : ℕ) (xs : List S) → From IsNew n xs → map known xs ≡ newcomers n (length xs)
  known_new n [] h = refl
  known_new n (x ∷ xs) h = ap (λ k. k ∷ map known xs) h.0.1 ∙ ap (λ l. newcomer n ∷ l) (known_new (n + 1) xs h.1)

module _ {Q S A : Type 0} (is_seat : Q → S → Type 0) (permits : Q → List Permit) (known : S → KnownOf A) (q : Q) (s r : ℕ) (row : permits q ≡ permits_by (office_roles s r)) where
  role_at : (R : Permit → Type 0) (p : Permit) (n k : ℕ) → n - 1 ≡ k → slice_get (permits_by (office_roles s r)) k ≡ Some p → R p → IsSomeAnd (slice_get (permits q) (n - 1)) R
  role_at R p n k e at so = subst (λ o. IsSomeAnd o R) (sym (ap (slice_get (permits q)) e ∙ ap (λ ps. slice_get ps k) row ∙ at)) so

  giver : (n : ℕ) (x : S) → 1 ≤ n → (n < 1 + s) → IsNew is_seat known q n x → IsGiver is_seat permits known q x
  giver n x some low new =
      let same = ap (λ (k : KnownOf A). k.number) new.1 in
      (new.0, subst (MayPush (permits q)) (sym same) (some, role_at (λ (p : Permit). IsTrue p.pushes) (permit_of Giver) n (n - 1) refl (giver_at s r (n - 1) (omega (arith, some, low))) refl))

  taker : (n : ℕ) (x : S) → 1 + s ≤ n → n < 1 + s + r → IsNew is_seat known q n x → IsTaker is_seat permits known q x
  taker n x from low new =
      let same = ap (λ (k : KnownOf A). k.number) new.1 in (
        new.0,
        subst (MayPop (permits q)) (sym same) (
          omega (arith, from),
          role_at (λ (p : Permit). IsTrue p.pops) (permit_of Taker) n (n - 1) refl
              (taker_at s r (n - 1) (omega (arith, from)) (omega (arith, from, low))) refl,
        ),
      )

  last : (n : ℕ) (x : S) → 1 + s + r ≤ n → n < 4 + s + r → IsNew is_seat known q n x → IsGiver is_seat permits known q x
  last n x from low new =
      let same = ap (λ (k : KnownOf A). k.number) new.1 in (
        new.0,
        subst (MayPush (permits q)) (sym same) (
          omega (arith, from),
          role_at (λ (p : Permit). IsTrue p.pushes) (permit_of Giver) n (n - 1) refl
              (last_at s r (n - 1) (omega (arith, from)) (omega (arith, from, low))) refl,
        ),
      )

  -- who may pop is a receiver
  pub only_takers : (n : ℕ) → MayPop (permits q) n → (s < n) × (n ≤ s + r)
  only_takers n may =
      let some = may.0 in
      let at = pops_at s r (n - 1) (subst (λ ps. IsSomeAnd (slice_get ps (n - 1)) (λ (p : Permit). IsTrue p.pops)) row may.1) in
      let from = at.0 in
      let low = at.1 in
      (omega (arith, some, from), omega (arith, some, low))

  module _ (seats : List S) (each : All (is_seat q) seats) (new : AreNewOf (permits q) (map known seats)) (d : Desks S)
      (split : seats ≡ d.senders.items ++ (d.receivers.items ++ d.office ∷ d.last_sender ∷ d.last_receiver ∷ [])) (senders : length d.senders.items ≡ s) where
    pub many : length seats ≡ s + r + 3
    many = sym (length-map seats known) ∙ new.count ∙ ap length row ∙ long s r

    receivers : length d.receivers.items ≡ r
    receivers =
        let m = many in
        let e = ap length split in
        let a = length-append d.senders.items (d.receivers.items ++ d.office ∷ d.last_sender ∷ d.last_receiver ∷ []) in
        let b = length-append d.receivers.items (d.office ∷ d.last_sender ∷ d.last_receiver ∷ []) in
        omega (arith, m, e, a, b, senders)

    all_new : From (IsNew is_seat known q) 1 (d.senders.items ++ (d.receivers.items ++ d.office ∷ d.last_sender ∷ d.last_receiver ∷ []))
    all_new = subst (From (IsNew is_seat known q) 1) split
        (are_new is_seat known q 1 seats each (λ k x at. let same : k + 1 ≡ 1 + k = omega arith in subst (λ m. known x ≡ newcomer m) same
        (new.each k (known x) (slice_get-map known seats k ∙ ap (option_map known) at))))

    senders_new : From (IsNew is_seat known q) 1 d.senders.items
    senders_new = from_left (IsNew is_seat known q) 1 d.senders.items _ all_new

    others_new : From (IsNew is_seat known q) (1 + s) (d.receivers.items ++ d.office ∷ d.last_sender ∷ d.last_receiver ∷ [])
    others_new = from_right (IsNew is_seat known q) 1 (1 + s) d.senders.items _ (ap (λ n. 1 + n) senders) all_new

    receivers_new : From (IsNew is_seat known q) (1 + s) d.receivers.items
    receivers_new = from_left (IsNew is_seat known q) (1 + s) d.receivers.items _ others_new

    lasts_new : From (IsNew is_seat known q) (1 + s + r) (d.office ∷ d.last_sender ∷ d.last_receiver ∷ [])
    lasts_new = from_right (IsNew is_seat known q) (1 + s) (1 + s + r) d.receivers.items _ (ap (λ n. 1 + s + n) receivers) others_new

    -- they are what an office asks for
    pub desks_are : AreDesks is_seat permits known q d
    desks_are =
        let l = lasts_new in
        record {
          senders = from_all (IsNew is_seat known q) (IsGiver is_seat permits known q) 1 (1 + s) d.senders.items (ap (λ n. 1 + n) senders) giver senders_new;
          receivers = from_all (IsNew is_seat known q) (IsTaker is_seat permits known q) (1 + s) (1 + s + r) d.receivers.items (ap (λ n. 1 + s + n) receivers) taker receivers_new;
          office = last (1 + s + r) d.office (omega arith) (omega arith) l.0;
          last_sender = last (1 + s + r + 1) d.last_sender (omega arith) (omega arith) l.1.0;
          last_receiver = last (1 + s + r + 1 + 1) d.last_receiver (omega arith) (omega arith) l.1.1.0;
        }

    pub known_senders : map known d.senders.items ≡ newcomers 1 s
    known_senders = known_new is_seat known q 1 d.senders.items senders_new ∙ ap (newcomers 1) senders

    pub known_receivers : map known d.receivers.items ≡ newcomers (s + 1) r
    known_receivers =
        let same : 1 + s ≡ s + 1 = omega arith in
        known_new is_seat known q (1 + s) d.receivers.items receivers_new ∙ ap (newcomers (1 + s)) receivers ∙ ap (λ n. newcomers n r) same
