-- What a step does to the number of nodes used and of actors that look for one, and which node it may set aside.
use Rattle.std.proofs.Common.{◌≡◌, ℕ, ◌+◌, ◌≤◌, Bool, true, false, nat_eq, nat_lt, if◌then◌else◌, Option, Some, None, IfSome, refl, arith}
use Rattle.std.proofs.lemmas.Bool.{eqb-true}
use Rattle.step_machine.specs.Below.{is_null, same_ref, Kind, TwoLock, NonBlocking, Line, N1, N2, N4, N5, F1, F3, E3, E5, E7, E9, E13, E17, D2, D5}
use Rattle.step_machine.specs.Below.{D10, D12, D13, A3, B1, B3, B4, B6, A5, A7, S1, S3, S4, S5, S6, S8, S9, is_shut, null, ref, shut_ref, raised_end}
use Rattle.step_machine.specs.Below.{left, left_with_node, Reply, Done, Refused, Setup, Actor, Outcome, Shared, Found, found, performed, put, same}
use Rattle.step_machine.specs.Below.{content, Free, Head, Tail, Tail_lock, Head_lock, Next, Fresh, action, outcome, freed, unlocked, sets_aside, goes}
use Rattle.step_machine.specs.Below.{effect, with_node, ends, empties_hand, fills_hand, raised, gives_up, busy_or, to_pocket}
use Rattle.step_machine.specs.Views.{wants_node}
use Rattle.step_machine.proofs.Choices.{both}

-- the actor of an outcome looks for a node only where the line before did, and the node set aside is this one
pub record Settles (seek node : ℕ) (o : Outcome) : Type 0 where
  pub looks : wants_node o.actor.line ≤ seek
  pub leaves : IfSome o.aside (λ n. n ≡ node)

freed_settles : (n : ℕ) (k : Kind) (now : ℕ) (due : Option Reply) (a : Actor) → Settles 0 n (freed k now due a)
freed_settles n TwoLock now None a = record { looks = omega arith; leaves = tt }
freed_settles n NonBlocking now None a = record { looks = omega arith; leaves = tt }
freed_settles n k now (Some reply) a = record { looks = omega arith; leaves = tt }

freed_aside : (k : Kind) (now : ℕ) (due : Option Reply) (a : Actor) → Settles 0 a.node (sets_aside (freed k now due a))
freed_aside TwoLock now None a = record { looks = omega arith; leaves = refl }
freed_aside NonBlocking now None a = record { looks = omega arith; leaves = refl }
freed_aside k now (Some reply) a = record { looks = omega arith; leaves = refl }

unlocked_settles : (n now : ℕ) (due : Option Reply) (a : Actor) → Settles 0 n (unlocked now due a)
unlocked_settles n now (Some Done) a = record { looks = omega arith; leaves = tt }
unlocked_settles n now _ a = record { looks = omega arith; leaves = tt }

left_settles : (n now : ℕ) (due : Option Reply) (a : Actor) → Settles 0 n (left now due a)
left_settles n now (Some (Refused refusal)) a = record { looks = omega arith; leaves = tt }
left_settles n now _ a = record { looks = omega arith; leaves = tt }

left_with_node_settles : (n now : ℕ) (due : Option Reply) (a : Actor) → Settles 0 n (left_with_node now due a)
left_with_node_settles n now (Some (Refused refusal)) a = record { looks = omega arith; leaves = tt }
left_with_node_settles n now _ a = record { looks = omega arith; leaves = tt }

with_node_settles : (n : ℕ) (k : Kind) (a : Actor) → Settles 0 n (goes (with_node k) a)
with_node_settles n TwoLock a = record { looks = omega arith; leaves = tt }
with_node_settles n NonBlocking a = record { looks = omega arith; leaves = tt }

weakened : (n : ℕ) (o : Outcome) → Settles 0 n o → Settles 1 n o
weakened n o h = record { looks = omega (arith, h.looks); leaves = h.leaves }

-- one step, but for a won exchange of Fresh, adds no actor that looks for a node
pub settles : (s : Setup) (now me : ℕ) (a : Actor) (l : Line) (c : Found (action s me a l)) → Settles (wants_node (Some l)) a.node (outcome s now me a l c)
settles s now me a N2 c =
    both (Settles _ _) (is_null c) (both (Settles _ _) (nat_lt a.f s.size) record { looks = omega arith; leaves = tt } record { looks = omega arith; leaves = tt })
    (both (Settles _ _) (nat_eq c.count s.limit) record { looks = omega arith; leaves = tt } record { looks = omega arith; leaves = tt })
settles s now me a N4 c =
    both (Settles _ _) (same_ref c a.top) (weakened _ _ (with_node_settles _ s.kind (fills_hand a.top.node a.next.count a))) record { looks = omega arith; leaves = tt }
settles s now me a N5 c =
    both (Settles _ _) (nat_eq c a.f) (weakened _ _ (with_node_settles _ s.kind (fills_hand (a.f + 1) 0 a))) record { looks = omega arith; leaves = tt }
settles s now me a F1 c =
    both (Settles _ _) (nat_eq c.count s.limit) (freed_aside s.kind now a.due (record a { top = c })) record { looks = omega arith; leaves = tt }
settles s now me a F3 c =
    both (Settles _ _) (same_ref c a.top) (freed_settles _ s.kind now a.due (empties_hand a)) record { looks = omega arith; leaves = tt }
settles s now me a E3 c =
    both (Settles _ _) (nat_eq c.count s.limit) record { looks = omega arith; leaves = refl } record { looks = omega arith; leaves = tt }
settles s now me a E7 c =
    both (Settles _ _) (same_ref c a.tail) (both (Settles _ _) (is_null a.next) record { looks = omega arith; leaves = tt }
    (both (Settles _ _) (is_shut s.bits a.next) record { looks = omega arith; leaves = tt }
    (both (Settles _ _) (nat_eq a.tail.count s.limit) record { looks = omega arith; leaves = tt } record { looks = omega arith; leaves = tt })))
    record { looks = omega arith; leaves = tt }
settles s now me a E9 c =
    both (Settles _ _) (same_ref c a.next) (linked (nat_eq a.tail.count s.limit)) record { looks = omega arith; leaves = tt }
  where
    linked : (b : Bool) → Settles 0 a.node (effect now (if b then ends now Done (empties_hand (record a { due = Some Done })) else goes E17 (empties_hand (record a { due = Some Done }))))
    linked true = record { looks = omega arith; leaves = tt }
    linked false = record { looks = omega arith; leaves = tt }
settles s now me a D5 c =
    both (Settles _ _) (same_ref c a.head) (both (Settles _ _) (nat_eq a.head.node a.tail.node)
    (both (Settles _ _) (is_null a.next) record { looks = omega arith; leaves = tt }
    (both (Settles _ _) (is_shut s.bits a.next) record { looks = omega arith; leaves = tt }
    (both (Settles _ _) (nat_eq a.tail.count s.limit) record { looks = omega arith; leaves = tt } record { looks = omega arith; leaves = tt })))
    record { looks = omega arith; leaves = tt }) record { looks = omega arith; leaves = tt }
settles s now me a D12 c =
    both (Settles _ _) (nat_eq a.head.count s.limit) record { looks = omega arith; leaves = tt } record { looks = omega arith; leaves = tt }
settles s now me a D13 c =
    both (Settles _ _) (same_ref c a.head) record { looks = omega arith; leaves = tt } record { looks = omega arith; leaves = tt }
settles s now me a A3 c = both (Settles _ _) (nat_eq c 0) record { looks = omega arith; leaves = tt } record { looks = omega arith; leaves = tt }
settles s now me a B1 c = both (Settles _ _) (nat_eq c 0) record { looks = omega arith; leaves = tt } record { looks = omega arith; leaves = tt }
settles s now me a B3 c = both (Settles _ _) (is_null c) record { looks = omega arith; leaves = tt }
    (both (Settles _ _) (is_shut s.bits c) record { looks = omega arith; leaves = tt } record { looks = omega arith; leaves = tt })
settles s now me a B4 c =
    both (Settles _ _) (nat_eq a.head.count s.limit) record { looks = omega arith; leaves = tt } record { looks = omega arith; leaves = tt }
settles s now me a B6 c = unlocked_settles _ now a.due a
settles s now me a A5 c = both (Settles _ _) (same_ref c null) record { looks = omega arith; leaves = tt } record { looks = omega arith; leaves = tt }
settles s now me a A7 c = left_with_node_settles _ now a.due a
settles s now me a S3 c =
    both (Settles _ _) (same_ref c a.tail) (both (Settles _ _) (is_null a.next) record { looks = omega arith; leaves = tt }
    (both (Settles _ _) (is_shut s.bits a.next) record { looks = omega arith; leaves = tt }
    (both (Settles _ _) (nat_eq a.tail.count s.limit) record { looks = omega arith; leaves = tt } record { looks = omega arith; leaves = tt })))
    record { looks = omega arith; leaves = tt }
settles s now me a S4 c = both (Settles _ _) (same_ref c a.next) record { looks = omega arith; leaves = tt } record { looks = omega arith; leaves = tt }
settles s now me a S6 c = both (Settles _ _) (nat_eq c 0) record { looks = omega arith; leaves = tt } record { looks = omega arith; leaves = tt }
settles s now me a S8 c = both (Settles _ _) (same_ref c null) record { looks = omega arith; leaves = tt } record { looks = omega arith; leaves = tt }
settles s now me a S9 c = left_settles _ now a.due a
settles s now me a _ c = record { looks = omega arith; leaves = tt }

-- Fresh after an exchange of another word
if_fresh : (b : Bool) (x y : Shared) → x.fresh ≡ y.fresh → (if b then x else y).fresh ≡ y.fresh
if_fresh true x y e = e
if_fresh false x y e = refl

plus : (m : Shared) (fresh seek : ℕ) (o : Outcome) (node : ℕ) → fresh ≡ m.fresh → Settles seek node o → fresh + wants_node o.actor.line ≤ m.fresh + seek
plus m fresh seek o node e h = omega (arith, h.looks)

-- a step that leaves how many nodes were used
used_kept : (s : Setup) (now me : ℕ) (a : Actor) (l : Line) (m : Shared) → (performed (action s me a l) m).fresh ≡ m.fresh
    → (performed (action s me a l) m).fresh + wants_node (outcome s now me a l (found (action s me a l) m)).actor.line ≤ m.fresh + wants_node (Some l)
used_kept s now me a l m same = plus m _ _ (outcome s now me a l (found (action s me a l) m)) a.node same (settles s now me a l (found (action s me a l) m))

-- a step uses one node more only where its actor looked for one and then no longer does
pub grows : (s : Setup) (now me : ℕ) (a : Actor) (l : Line) (m : Shared)
    → (performed (action s me a l) m).fresh + wants_node (outcome s now me a l (found (action s me a l) m)).actor.line ≤ m.fresh + wants_node (Some l)
grows s now me a N5 m = go (nat_eq m.fresh a.f) refl s.kind
  where
    go : (b : Bool) → nat_eq m.fresh a.f ≡ b → (k : Kind)
        → (if b then put Fresh (a.f + 1) m else m).fresh + wants_node (if b then goes (with_node k) (fills_hand (a.f + 1) 0 a) else goes N1 a).actor.line ≤ m.fresh + 1
    go true e TwoLock = let h : m.fresh ≡ a.f = eqb-true m.fresh a.f e in omega arith
    go true e NonBlocking = let h : m.fresh ≡ a.f = eqb-true m.fresh a.f e in omega arith
    go false e k = omega arith
grows s now me a N4 m = used_kept s now me a N4 m (if_fresh (same Free (content Free m) a.top) (put Free (raised s a.top a.next.node) m) m refl)
grows s now me a F3 m = used_kept s now me a F3 m (if_fresh (same Free (content Free m) a.top) (put Free (raised s a.top a.node) m) m refl)
grows s now me a E9 m = used_kept s now me a E9 m (if_fresh (same (Next a.tail.node) (content (Next a.tail.node) m) a.next) (put (Next a.tail.node) (raised s a.next a.node) m) m refl)
grows s now me a E13 m = used_kept s now me a E13 m (if_fresh (same Tail (content Tail m) a.tail) (put Tail (raised s a.tail a.next.node) m) m refl)
grows s now me a E17 m = used_kept s now me a E17 m (if_fresh (same Tail (content Tail m) a.tail) (put Tail (raised s a.tail a.node) m) m refl)
grows s now me a D10 m = used_kept s now me a D10 m (if_fresh (same Tail (content Tail m) a.tail) (put Tail (raised s a.tail a.next.node) m) m refl)
grows s now me a D13 m = used_kept s now me a D13 m (if_fresh (same Head (content Head m) a.head) (put Head (raised s a.head a.next.node) m) m refl)
grows s now me a A3 m = used_kept s now me a A3 m (if_fresh (same Tail_lock (content Tail_lock m) 0) (put Tail_lock me m) m refl)
grows s now me a B1 m = used_kept s now me a B1 m (if_fresh (same Head_lock (content Head_lock m) 0) (put Head_lock me m) m refl)
grows s now me a A5 m = used_kept s now me a A5 m (if_fresh (same (Next a.tail.node) (content (Next a.tail.node) m) null) (put (Next a.tail.node) (ref a.node 0) m) m refl)
grows s now me a S4 m = used_kept s now me a S4 m (if_fresh (same (Next a.tail.node) (content (Next a.tail.node) m) a.next) (put (Next a.tail.node) (raised_end s a.next) m) m refl)
grows s now me a S5 m = used_kept s now me a S5 m (if_fresh (same Tail (content Tail m) a.tail) (put Tail (raised s a.tail a.next.node) m) m refl)
grows s now me a S6 m = used_kept s now me a S6 m (if_fresh (same Tail_lock (content Tail_lock m) 0) (put Tail_lock me m) m refl)
grows s now me a S8 m = used_kept s now me a S8 m (if_fresh (same (Next a.tail.node) (content (Next a.tail.node) m) null) (put (Next a.tail.node) (shut_ref s.bits 0) m) m refl)
grows s now me a l m = used_kept s now me a l m refl

-- giving up ends the call, and sets nothing aside
busy_or_settles : (now node seek : ℕ) (due : Option Reply) (a : Actor) → IfSome (busy_or now due a) (Settles seek node)
busy_or_settles now node seek None a = record { looks = omega arith; leaves = tt }
busy_or_settles now node seek (Some reply) a = record { looks = omega arith; leaves = tt }

pub given_settles : (now : ℕ) (a : Actor) (l : Line) → IfSome (gives_up now a l) (Settles (wants_node (Some l)) a.node)
given_settles now a N1 = record { looks = omega arith; leaves = tt }
given_settles now a F1 = busy_or_settles now a.node 0 a.due (to_pocket a)
given_settles now a E5 = record { looks = omega arith; leaves = tt }
given_settles now a D2 = record { looks = omega arith; leaves = tt }
given_settles now a A3 = record { looks = omega arith; leaves = tt }
given_settles now a B1 = record { looks = omega arith; leaves = tt }
given_settles now a S1 = record { looks = omega arith; leaves = tt }
given_settles now a S6 = record { looks = omega arith; leaves = tt }
given_settles now a _ = tt
