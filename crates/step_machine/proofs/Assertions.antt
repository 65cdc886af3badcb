-- What both queues assert of the words, of the actors and of a step, over what each of them asserts alone: a `Queue`.
-- The lines of the free list assert the same in both.
use Rattle.std.proofs.Common.{◌≡◌, ◌≢◌, ℕ, zero, suc, get_or, replicate, ◌≤◌, ◌<◌, Bool, true, false, nat_eq, if◌then◌else◌, List, [], ◌∷◌, length}
use Rattle.std.proofs.Common.{Option, Some, None, IfSome, refl, sym, ap, ◌∙◌, subst, arith}
use Rattle.step_machine.specs.Below.{reserved_node, Ref, ref, Kind, Line, N1, N2, N3, N4, N5, F1, F2, F3, E2, D2, A1, A4, A5, A6, A7, B1, B2, B3, B4}
use Rattle.step_machine.specs.Below.{B5, B6, S1, S6, S7, S8, S9, Section, section_of, Setup, empty, Node, Held, Actor, Outcome, blank, Shared}
use Rattle.step_machine.specs.Below.{node_at, found, performed, action, outcome}
use Rattle.line_table.specs.declared.lines.Section.TheVariants.{NewNode, Free}
use Rattle.step_machine.specs.Machine.{opening, IsSized}
use Rattle.step_machine.specs.Places.{in_hand, in_pocket, one_if, times}
use Rattle.step_machine.specs.ProgramCounters.{IsRunBy, NonNullAt}
use Rattle.step_machine.specs.Chains.{last_node, queue_in}
use Rattle.step_machine.proofs.Chains.{one_if_same}
use Rattle.step_machine.proofs.Counting.{holds, holds_own}
use Rattle.step_machine.proofs.Effects.{Shape, Turn}
use Rattle.step_machine.proofs.Fixed.{FixedAt}
use Rattle.step_machine.proofs.LinearizationSteps.{LinearizationStep}
use Rattle.step_machine.proofs.ProgramCounters.{FoundANode}
use Rattle.step_machine.proofs.StaleReferences.{Rises, IsCurrentOrStale, was_on, still_there}

-- the `next` of a node
abbrev pub next_of : Shared → ℕ → Ref
next_of m n = (node_at m n).next

-- nodes that were never used have no count
pub blank_counts : (n k : ℕ) → (get_or (replicate k blank) n blank).next.count ≡ 0
blank_counts n zero = refl
blank_counts zero (suc k) = refl
blank_counts (suc n) (suc k) = blank_counts n k

-- whether an actor has the tail lock before its line
abbrev pub has_tail : Option Line → Bool
has_tail (Some A4) = true
has_tail (Some A5) = true
has_tail (Some A6) = true
has_tail (Some A7) = true
has_tail (Some S7) = true
has_tail (Some S8) = true
has_tail (Some S9) = true
has_tail _ = false

-- whether an actor has the head lock before its line
abbrev pub has_head : Option Line → Bool
has_head (Some B2) = true
has_head (Some B3) = true
has_head (Some B4) = true
has_head (Some B5) = true
has_head (Some B6) = true
has_head _ = false

-- a lock is an actor's, or it is not
abbrev pub Owns : (lock me : ℕ) → Bool → Type 0
Owns lock me true = lock ≡ me
Owns lock me false = lock ≢ me

-- an actor has the locks of its line
abbrev pub OwnsAt : Shared → (me : ℕ) → Option Line → Type 0
OwnsAt m me l = Owns m.tail_lock me (has_tail l) × Owns m.head_lock me (has_head l)

-- a mark is the count of its node's `next`
abbrev pub IsMark : Shared → (node mark : ℕ) → Type 0
IsMark m node mark = (1 ≤ node) × ((next_of m node).count ≡ mark)

-- the marks of the nodes that an actor holds
abbrev pub Marked : Shared → Actor → Type 0
Marked m a =
    record {
      hand : a.holds ≡ true → IsMark m a.node a.mark;
      pocket : IfSome a.pocket (λ held. IsMark m held.node held.mark);
    }

-- what an actor knows of the free nodes before its line
abbrev pub FreeAt : Shared → Actor → Option Line → Type 0
FreeAt m a (Some N3) = IsCurrentOrStale m.free a.top
FreeAt m a (Some N4) = IsCurrentOrStale m.free a.top × (m.free ≡ a.top → next_of m a.top.node ≡ a.next)
FreeAt m a (Some F3) = next_of m a.node ≡ ref a.top.node a.mark
FreeAt m a _ = Unit {0}

-- whether a line is one where each queue has an assertion of its own: no line of the free list, and none that a call of
-- the queue begins with
abbrev pub is_own : Option Line → Bool
is_own None = false
is_own (Some N1) = false
is_own (Some N2) = false
is_own (Some N3) = false
is_own (Some N4) = false
is_own (Some N5) = false
is_own (Some F1) = false
is_own (Some F2) = false
is_own (Some F3) = false
is_own (Some E2) = false
is_own (Some D2) = false
is_own (Some A1) = false
is_own (Some B1) = false
is_own (Some S1) = false
is_own (Some S6) = false
is_own _ = true

-- what steps of others keep of the nodes, for an actor
pub record NodesRely (m m' : Shared) (c : Actor) : Type 0 where
  pub free : Rises m.free m'.free
  pub top : 1 ≤ m.free.node → node_at m' m.free.node ≡ node_at m m.free.node
  pub hand : (n : ℕ) → 1 ≤ n → 1 ≤ holds n c → node_at m' n ≡ node_at m n
  pub dummy : 1 ≤ (next_of m m.head.node).node → node_at m' m.head.node ≡ node_at m m.head.node
  pub front : 1 ≤ (next_of m m.head.node).node → (node_at m' (next_of m m.head.node).node).value ≡ (node_at m (next_of m m.head.node).node).value

-- a step changes no word of the queue: not Head, Tail or a lock, and no node of its chain; and no count of a `next`
pub record QueueStays (m m' : Shared) (queue : List ℕ) : Type 0 where
  pub head : m'.head ≡ m.head
  pub tail : m'.tail ≡ m.tail
  pub tail_lock : m'.tail_lock ≡ m.tail_lock
  pub head_lock : m'.head_lock ≡ m.head_lock
  pub nodes : (n : ℕ) → 1 ≤ times n queue → node_at m' n ≡ node_at m n
  pub counts : (n : ℕ) → 1 ≤ n → (next_of m' n).count ≡ (next_of m n).count

-- what a queue asserts alone: of the words with its chain, of an actor before a line of its own (`Z` is what is known of
-- a number at which the queue was found empty, `last` its last node), and what a step keeps of the words for another
-- actor; and that all this lasts
pub record Queue : Type 1 where
  pub kind : Kind
  pub Words : Setup → Shared → List ℕ → Type 0
  pub OwnAt : (Z : ℕ → Type 0) → Setup → Shared → (last : ℕ) → Actor → Option Line → Type 0
  pub Rely : (m m' : Shared) → (last last' you : ℕ) → Type 0
  pub own_entry : (Z : ℕ → Type 0) (s : Setup) (m : Shared) (last : ℕ) (a : Actor) (entry : Option ℕ) (l : Option Line) → OwnAt Z s m last a l → OwnAt Z s m last (record a { entry = entry }) l
  pub own_more : (Y Z : ℕ → Type 0) (s : Setup) (m : Shared) (last : ℕ) (a : Actor) (l : Option Line) → ((k : ℕ) → Y k → Z k) → OwnAt Y s m last a l → OwnAt Z s m last a l
  pub own_kept : (Z : ℕ → Type 0) (s : Setup) (m m' : Shared) (last last' you : ℕ) (c : Actor) (l : Line) → Rely m m' last last' you → NodesRely m m' c
      → FixedAt s.limit you c (Some l) → NonNullAt s.bits l c → OwnsAt m you (Some l) → OwnAt Z s m last c (Some l) → OwnAt Z s m' last' c (Some l)
  pub locks_kept : (m m' : Shared) (last last' you : ℕ) (l : Option Line) → Rely m m' last last' you → OwnsAt m you l → OwnsAt m' you l
  pub words_stay : (s : Setup) (m m' : Shared) (front : ℕ) (rest : List ℕ) → QueueStays m m' (front ∷ rest) → Words s m (front ∷ rest) → Words s m' (front ∷ rest)
  pub relies : (s : Setup) (m m' : Shared) (front : ℕ) (rest : List ℕ) → QueueStays m m' (front ∷ rest) → Words s m (front ∷ rest) → (you : ℕ)
      → Rely m m' (last_node (front ∷ rest)) (last_node (front ∷ rest)) you

-- what an actor knows before its line, by whether the line is one of the queue's own
abbrev pub KnowsBy : Queue → Bool → (Z : ℕ → Type 0) → Setup → Shared → (last : ℕ) → Actor → Option Line → Type 0
KnowsBy q true Z s m last a l = q.OwnAt Z s m last a l
KnowsBy q false Z s m last a l = FreeAt m a l

-- what an actor knows before its line
abbrev pub Knows : Queue → (Z : ℕ → Type 0) → Setup → Shared → (last : ℕ) → Actor → Option Line → Type 0
Knows q Z s m last a l = KnowsBy q (is_own l) Z s m last a l

-- the queue was found empty and not shut, at this number
abbrev pub Found : (bits : ℕ) → Shared → List ℕ → (now : ℕ) → ℕ → Type 0
Found bits m queue now k = (queue_in bits m queue ≡ empty) × (k ≡ now)

-- an actor that takes a step at a number, and what holds before it; `E` counts how often a node stands outside the
-- chains
pub record Before (q : Queue) : Type 1 where
  pub Z : ℕ → Type 0
  pub s : Setup
  pub m : Shared
  pub E : ℕ → ℕ
  pub front : ℕ
  pub rest : List ℕ
  pub free : List ℕ
  pub me : ℕ
  pub now : ℕ
  pub a : Actor
  pub shape : Shape s.bits m E (front ∷ rest) free
  pub unused : (n : ℕ) → m.fresh < n → (next_of m n).count ≡ 0
  pub few_nodes : length m.nodes < reserved_node s.bits
  pub words : q.Words s m (front ∷ rest)
  pub mine : (n : ℕ) → holds n a ≤ E n
  pub low : a.node ≤ length m.nodes
  pub hand_no_end : a.node ≢ reserved_node s.bits
  pub marked : Marked m a
  pub some : 1 ≤ me

-- what the step does
pub record After (q : Queue) (b : Before q) (m' : Shared) (o : Outcome) : Type 0 where
  pub front' : ℕ
  pub rest' : List ℕ
  pub free' : List ℕ
  pub turn : Turn b.s.bits b.m m' (b.front ∷ b.rest) b.free (front' ∷ rest') free' b.a o.actor o.aside
  pub own_aside : IfSome o.aside (λ k. (1 ≤ k) × (1 ≤ holds k b.a))
  pub rises : Rises b.m.free m'.free
  pub relies : (you : ℕ) → 1 ≤ you → you ≢ b.me → q.Rely b.m m' (last_node (b.front ∷ b.rest)) (last_node (front' ∷ rest')) you
  pub words : q.Words b.s m' (front' ∷ rest')
  pub marked : Marked m' o.actor
  pub knows : Knows q (Found b.s.bits b.m (b.front ∷ b.rest) b.now) b.s m' (last_node (front' ∷ rest')) o.actor o.actor.line
  pub owns : OwnsAt m' b.me o.actor.line
  pub linearizes : LinearizationStep b.s.bits b.Z b.me b.now b.m m' (b.front ∷ b.rest) (front' ∷ rest') b.a o

-- what holds before the step of a line
pub record AtLine (q : Queue) (b : Before q) (l : Line) : Type 0 where
  pub runs : IsRunBy (section_of l) q.kind
  pub nodes : NonNullAt b.s.bits l b.a
  pub fixed : FixedAt b.s.limit b.me b.a (Some l)
  pub knows : Knows q b.Z b.s b.m (last_node (b.front ∷ b.rest)) b.a (Some l)
  pub owns : OwnsAt b.m b.me (Some l)

-- a section of the line table is one of a queue's own
abbrev pub IsOwnOf : Section → Kind → Type 0
IsOwnOf NewNode kind = ⊥
IsOwnOf Free kind = ⊥
IsOwnOf section kind = IsRunBy section kind

-- what the steps of a queue's own lines do, and that it holds its assertions at the start
pub record Steps (q : Queue) : Type 1 where
  pub starts : (s : Setup) (actors : ℕ) → IsSized s actors → q.Words s (opening s actors).shared (1 ∷ [])
  pub found_a_node : (Z : ℕ → Type 0) (s : Setup) (me : ℕ) (m : Shared) (last : ℕ) (a : Actor) (l : Line) → IsRunBy (section_of l) q.kind
      → Knows q Z s m last a (Some l) → FoundANode s me a l (found (action s me a l) m)
  pub does : (b : Before q) (l : Line) → IsOwnOf (section_of l) q.kind → AtLine q b l
      → After q b (performed (action b.s b.me b.a l) b.m) (outcome b.s b.now b.me b.a l (found (action b.s b.me b.a l) b.m))

-- where its operation stands says nothing of what an actor knows of the free nodes
free_entry : (m : Shared) (a : Actor) (entry : Option ℕ) (l : Option Line) → FreeAt m a l → FreeAt m (record a { entry = entry }) l
free_entry m a entry None h = h
free_entry m a entry (Some N1) h = h
free_entry m a entry (Some _) h = h

-- steps of others keep what an actor knows of the free nodes
free_kept : (bits limit you : ℕ) (m m' : Shared) (c : Actor) (l : Line) → NodesRely m m' c → FixedAt limit you c (Some l) → NonNullAt bits l c → FreeAt m c (Some l) → FreeAt m' c (Some l)
free_kept bits limit you m m' c N3 n f p h = was_on m.free m'.free c.top n.free h
free_kept bits limit you m m' c N4 n f p h =
    (was_on m.free m'.free c.top n.free h.0, λ e. go e (still_there m.free m'.free c.top n.free h.0 e))
  where
    go : m'.free ≡ c.top → m'.free ≡ m.free → next_of m' c.top.node ≡ c.next
    go e same =
        let at : m.free ≡ c.top = sym same ∙ e in
        let some : 1 ≤ m.free.node = subst (λ (r : Ref). 1 ≤ r.node) (sym at) p in
        ap (λ (x : Node). x.next) (subst (λ (r : Ref). node_at m' r.node ≡ node_at m r.node) at (n.top some)) ∙ h.1 at
free_kept bits limit you m m' c F3 n f p h =
    ap (λ (x : Node). x.next) (n.hand c.node p (let one : holds c.node c ≡ 1 = holds_own c f.hand f.pocket in omega arith)) ∙ h
free_kept bits limit you m m' c _ n f p h = tt

module _ (q : Queue) where
  -- where its operation stands says nothing of what an actor knows
  pub knows_entry : (Z : ℕ → Type 0) (s : Setup) (m : Shared) (last : ℕ) (a : Actor) (entry : Option ℕ) (l : Option Line) → Knows q Z s m last a l → Knows q Z s m last (record a { entry = entry }) l
  knows_entry Z s m last a entry l = go (is_own l)
    where
      go : (b : Bool) → KnowsBy q b Z s m last a l → KnowsBy q b Z s m last (record a { entry = entry }) l
      go true h = q.own_entry Z s m last a entry l h
      go false h = free_entry m a entry l h

  -- so it does where more is known of the number noted
  pub knows_more : (Y Z : ℕ → Type 0) (s : Setup) (m : Shared) (last : ℕ) (a : Actor) (l : Option Line) → ((k : ℕ) → Y k → Z k) → Knows q Y s m last a l → Knows q Z s m last a l
  knows_more Y Z s m last a l more = go (is_own l)
    where
      go : (b : Bool) → KnowsBy q b Y s m last a l → KnowsBy q b Z s m last a l
      go true h = q.own_more Y Z s m last a l more h
      go false h = h

  -- an actor still knows what it knew
  pub knows_kept : (Z : ℕ → Type 0) (s : Setup) (m m' : Shared) (last last' you : ℕ) (c : Actor) (l : Line) → q.Rely m m' last last' you → NodesRely m m' c
      → FixedAt s.limit you c (Some l) → NonNullAt s.bits l c → OwnsAt m you (Some l) → Knows q Z s m last c (Some l) → Knows q Z s m' last' c (Some l)
  knows_kept Z s m m' last last' you c l k n f p o = go (is_own (Some l))
    where
      go : (b : Bool) → KnowsBy q b Z s m last c (Some l) → KnowsBy q b Z s m' last' c (Some l)
      go true h = q.own_kept Z s m m' last last' you c l k n f p o h
      go false h = free_kept s.bits s.limit you m m' c l n f p h

-- an actor whose nodes stay as they are
module _ (m m' : Shared) (c : Actor) (keeps : (n : ℕ) → 1 ≤ n → 1 ≤ holds n c → node_at m' n ≡ node_at m n) where
  pocket_kept : (pocket : Option Held) → c.pocket ≡ pocket → IfSome pocket (λ held. IsMark m held.node held.mark) → IfSome pocket (λ held. IsMark m' held.node held.mark)
  pocket_kept None e h = tt
  pocket_kept (Some held) e h = (h.0, ap (λ (x : Node). x.next.count) (keeps held.node h.0 here) ∙ h.1)
    where
      here : 1 ≤ holds held.node c
      here =
          let one : in_pocket held.node c.pocket ≡ 1 = ap (in_pocket held.node) e ∙ one_if_same held.node held.node refl in
          omega arith

  -- the marks of its nodes stay
  pub marks_kept : Marked m c → Marked m' c
  marks_kept h = record { hand = in_it; pocket = pocket_kept c.pocket refl h.pocket }
    where
      in_it : c.holds ≡ true → IsMark m' c.node c.mark
      in_it e =
          let one : in_hand c.node c ≡ 1 = ap (λ b. if b then one_if (nat_eq c.node c.node) else 0) e ∙ one_if_same c.node c.node refl in
          ((h.hand e).0, ap (λ (x : Node). x.next.count) (keeps c.node (h.hand e).0 (omega arith)) ∙ (h.hand e).1)
