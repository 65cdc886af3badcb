-- A lock of the two-lock queue names its holder, who has linked a node has Tail alone, and B5 takes the first value.
use Rattle.std.proofs.Common.{◌≡◌, ◌≢◌, ℕ, ◌-◌, ◌≤◌, Bool, true, false, IsTrue, if◌then◌else◌, get_or, length, List, ◌∷◌, Option, Some, None, refl, sym, ap, ◌∙◌, subst, arith}
use Rattle.std.specs.Prelude.{◌↔◌, slice_get, IsSome}
use Rattle.std.proofs.lemmas.Bool.{ne_eqb}
use Rattle.std.proofs.lemmas.Option.{slice_get-get_or}
use Rattle.counted_ref.specs.Ref.{Ref}
use Rattle.line_table.specs.declared.lines.Kind.TheVariants.{TwoLock}
use Rattle.line_table.specs.declared.lines.Line.{Line}
use Rattle.line_table.specs.declared.lines.Line.TheVariants.{N1, E5, E7, E13, E17, D3, D10, A4, A5, A6, A7, B5, S1, S3, S5, S7, S8, S9}
use Rattle.line_table.specs.Sections.{section_of}
use Rattle.line_steps.specs.declared.actors.Setup.{Setup}
use Rattle.line_steps.specs.Actors.{Actor}
use Rattle.line_steps.specs.Memory.{Word, Tail, word}
use Rattle.line_steps.specs.Lines.{action}
use Rattle.step_machine.specs.Machine.{World, idle, actor_of, IsReached}
use Rattle.step_machine.specs.Range.{WorldInRange}
use Rattle.step_machine.specs.ProgramCounters.{IsRunBy}
use Rattle.step_machine.specs.TwoLock.{OfTwoLockWorlds}
use Rattle.step_machine.specs.Locks.{has_tail_lock, has_head_lock, LocksNameTheirHolders, LocksAreOfActors, LeavesTailToItsMover, TakesTheFrontAtB5}
use Rattle.step_machine.specs.Places.{IsEnd}
use Rattle.step_machine.specs.Chains.{last_node}
use Rattle.step_machine.proofs.Chains.{next_in, no_end, second_leads}
use Rattle.step_machine.proofs.Reached.{reached_in_range}
use Rattle.step_machine.proofs.Assertions.{Owns, OwnsAt, has_tail, has_head}
use Rattle.step_machine.proofs.EitherQueue.{same_queue}
use Rattle.step_machine.proofs.TwoLockAtLines.{InvariantAt}
use Rattle.step_machine.proofs.TwoLockInvariant.{ReachedInvariant, nodes_at, reached_invariant}

-- the same lines
tail_lines : (l : Option Line) → has_tail l ≡ has_tail_lock l
tail_lines None = refl
tail_lines (Some N1) = refl
tail_lines (Some _) = refl

head_lines : (l : Option Line) → has_head l ≡ has_head_lock l
head_lines None = refl
head_lines (Some N1) = refl
head_lines (Some _) = refl

owned : (lock me : ℕ) (b : Bool) → Owns lock me b → (lock ≡ me) ↔ IsTrue b
owned lock me true h = (λ e. refl, λ t. h)
owned lock me false h = (λ e. absurd (h e), λ t. absurd (let f : false ≡ true = t in cc))

-- the locks of an actor, by its line
owns_at : (w : World) (r : IsReached w) (e : w.setup.kind ≡ TwoLock) (me : ℕ) (a : Actor) → actor_of w me ≡ Some a → OwnsAt w.shared me a.line
owns_at w r e me a is =
    let p : ReachedInvariant (λ w q. Unit {0}) (λ w k. Unit {0}) w = reached_invariant w r e in (p.sound.actors me a is).owns

pub locks_name_their_holders : OfTwoLockWorlds LocksNameTheirHolders
locks_name_their_holders w r e me a is =
    let o : OwnsAt w.shared me a.line = owns_at w r e me a is in (
      subst (λ b. (w.shared.tail_lock ≡ me) ↔ IsTrue b) (tail_lines a.line) (owned w.shared.tail_lock me (has_tail a.line) o.0),
      subst (λ b. (w.shared.head_lock ≡ me) ↔ IsTrue b) (head_lines a.line) (owned w.shared.head_lock me (has_head a.line) o.1),
    )

-- a number from 1 up to the number of actors is an actor's
there : (w : World) (n : ℕ) → n ≢ 0 → n ≤ length w.actors → IsSome (actor_of w n)
there w n some low =
    let at : slice_get w.actors (n - 1) ≡ Some (get_or w.actors (n - 1) idle) = slice_get-get_or w.actors (n - 1) idle (omega arith) in
    let is : actor_of w n ≡ Some (get_or w.actors (n - 1) idle) = ap (λ b. if b then None else slice_get w.actors (n - 1)) (ne_eqb n 0 some) ∙ at in
    subst (λ o. IsSome o) (sym is) refl

pub locks_are_of_actors : OfTwoLockWorlds LocksAreOfActors
locks_are_of_actors w r e =
    let g : WorldInRange w = reached_in_range w r in
    (λ some. there w w.shared.tail_lock some g.shared.tail_lock, λ some. there w w.shared.head_lock some g.shared.head_lock)

-- whether a word is Tail, and whether a line writes behind Tail's node under the tail lock
abbrev is_tail : Word → Bool
is_tail Tail = true
is_tail _ = false

abbrev writes_behind : Line → Bool
writes_behind A5 = true
writes_behind S8 = true
writes_behind _ = false

-- a line that holds no tail lock has nothing to do with Tail, nor writes it there
leaves_tail : (s : Setup) (me : ℕ) (a : Actor) (l : Line) → IsRunBy (section_of l) TwoLock → has_tail_lock (Some l) ≡ false → (is_tail (word (action s me a l)) ≡ false) × (writes_behind l ≡ false)
leaves_tail s me a E5 r none = absurd r
leaves_tail s me a E7 r none = absurd r
leaves_tail s me a E13 r none = absurd r
leaves_tail s me a E17 r none = absurd r
leaves_tail s me a D3 r none = absurd r
leaves_tail s me a D10 r none = absurd r
leaves_tail s me a A4 r none = absurd (let f : false ≡ true = sym none in cc)
leaves_tail s me a A5 r none = absurd (let f : false ≡ true = sym none in cc)
leaves_tail s me a A6 r none = absurd (let f : false ≡ true = sym none in cc)
leaves_tail s me a A7 r none = absurd (let f : false ≡ true = sym none in cc)
leaves_tail s me a S1 r none = absurd r
leaves_tail s me a S3 r none = absurd r
leaves_tail s me a S5 r none = absurd r
leaves_tail s me a S7 r none = absurd (let f : false ≡ true = sym none in cc)
leaves_tail s me a S8 r none = absurd (let f : false ≡ true = sym none in cc)
leaves_tail s me a S9 r none = absurd (let f : false ≡ true = sym none in cc)
leaves_tail s me a _ r none = (refl, refl)

-- a lock that is one actor's is not another one's
none_other : (lock me you : ℕ) (b : Bool) → lock ≡ me → you ≢ me → Owns lock you b → b ≡ false
none_other lock me you true mine other owns = absurd (other (sym owns ∙ mine))
none_other lock me you false mine other owns = refl

pub leave_tail_to_its_mover : OfTwoLockWorlds LeavesTailToItsMover
leave_tail_to_its_mover w r e me you a b l is at other there here =
    let mine : OwnsAt w.shared me (Some A6) = subst (OwnsAt w.shared me) at (owns_at w r e me a is) in
    let theirs : OwnsAt w.shared you (Some l) = subst (OwnsAt w.shared you) here (owns_at w r e you b there) in
    let none : has_tail_lock (Some l) ≡ false = sym (tail_lines (Some l)) ∙ none_other w.shared.tail_lock me you (has_tail (Some l)) mine.0 other theirs.0 in
    let away : (is_tail (word (action w.setup you b l)) ≡ false) × (writes_behind l ≡ false) = leaves_tail w.setup you b l (nodes_at w r e you b l there here).0 none in (
      λ q. (let f : false ≡ true = sym away.0 ∙ ap is_tail q in cc),
      λ q. (let f : false ≡ true = sym away.1 ∙ ap writes_behind q in cc),
      λ q. (let f : false ≡ true = sym away.1 ∙ ap writes_behind q in cc),
    )

-- at B5 the registers are the front of the queue
pub front_is_taken : OfTwoLockWorlds TakesTheFrontAtB5
front_is_taken w r e me a queue is at chain =
    let p : ReachedInvariant (λ w q. Unit {0}) (λ w k. Unit {0}) w = reached_invariant w r e in
    let k : InvariantAt (λ k. Unit {0}) w.setup w.shared (last_node (p.front ∷ p.rest)) a (Some B5) =
    subst (InvariantAt (λ k. Unit {0}) w.setup w.shared (last_node (p.front ∷ p.rest)) a) at (p.sound.actors me a is).knows in
    let here : p.front ≡ a.head.node = sym p.sound.shape.queue_chain.0 ∙ ap (λ (x : Ref). x.node) k.0 in
    let second : (others : List ℕ) × (p.rest ≡ a.next.node ∷ others) =
    second_leads (IsEnd w.setup.bits) w.shared.nodes w.shared.head.node p.front a.next.node p.rest p.sound.shape.queue_chain
    (ap (next_in w.shared.nodes) here ∙ ap (λ (x : Ref). x.node) k.1)
    (no_end w.setup.bits a.next.node (nodes_at w r e me a B5 is at).1.1 (nodes_at w r e me a B5 is at).1.2) in
    record {
      others = second.0;
      nodes =
          same_queue w r queue (p.front ∷ p.rest) chain p.sound.shape.queue_chain
          ∙ ap (λ ns. p.front ∷ ns) second.1
          ∙ ap (λ n. n ∷ a.next.node ∷ second.0) here;
      value = k.2;
    }
