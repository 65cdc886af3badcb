-- Head's count rises where Head changes, and so does Tail's in the queue that counts it.
use Rattle.std.proofs.Common.{◌≡◌, ℕ, ◌+◌, inl, inr, Bool, true, false, if◌then◌else◌, nat_eq, Option, Some, None, IfSome, List, [], ◌∷◌, refl, sym, subst, arith}
use Rattle.std.proofs.lemmas.Option.{none-some, same_Some}
use Rattle.std.proofs.lemmas.List.Sums.{sum_by-append}
use Rattle.counted_ref.specs.Ref.{Ref, ref, same_ref, reserved_node}
use Rattle.counted_ref.proofs.Words.{same_ref-true}
use Rattle.line_table.specs.declared.lines.Kind.{Kind}
use Rattle.line_table.specs.declared.lines.Kind.TheVariants.{NonBlocking}
use Rattle.line_table.specs.declared.lines.Line.{Line}
use Rattle.line_table.specs.declared.lines.Line.TheVariants.{E13, E17, D10, D13, A6, B5, S5}
use Rattle.history.specs.declared.operations.Entry.{Entry}
use Rattle.history.specs.declared.operations.Entry.TheVariants.{Pop}
use Rattle.history.specs.Entries.{is_pop}
use Rattle.line_steps.specs.declared.actors.Setup.{Setup}
use Rattle.line_steps.specs.Actors.{Actor}
use Rattle.line_steps.specs.Memory.{Shared, Head, Tail, Action, load, store, clear, exchange, content, put, same, performed}
use Rattle.line_steps.specs.Lines.{action, raised}
use Rattle.step_machine.specs.Machine.{World, actor_of, AnyMove, next_any}
use Rattle.step_machine.proofs.AnyMoves.{after_move}
use Rattle.step_machine.proofs.Reached.{some_of, setup-next_any}
use Rattle.step_machine.proofs.StaleReferences.{Rises, was_on}
use Rattle.step_machine.proofs.NonBlockingLaws.{at_line}
use Rattle.node_arena.specs.Traces.{Traced, IsTraced, step_at, traced_move, traced_next, traced_on, trace}
use Rattle.node_arena.specs.Rule.{IsCurrentOrPast}
use Rattle.node_arena.proofs.Tracing.{world-traced_move, traced_moves, traced_reached, step_traced}
use Rattle.node_arena.proofs.Histories.{counts_pops}

-- a reference that names another node has a higher count, or is the same
raised_rises : (s : Setup) (r : Ref) (to : ℕ) → Rises r (raised s r to)
raised_rises s r to = go (nat_eq to (reserved_node s.bits)) (nat_eq r.count s.limit)
  where
    go : (p q : Bool) → Rises r (if p then r else if q then r else ref to (r.count + 1))
    go true q = inl refl
    go false true = inl refl
    go false false = inr (omega arith)

-- of what was there, where it is the one that was read
raised_there : (s : Setup) (now r : Ref) (to : ℕ) → same_ref now r ≡ true → Rises now (raised s r to)
raised_there s now r to e = subst (λ x. Rises x (raised s r to)) (sym (same_ref-true now r e)) (raised_rises s r to)

-- an access that writes no Head, and one that writes no Tail
abbrev LeavesHead : Action → Type 0
LeavesHead (store Head c) = ⊥
LeavesHead (exchange Head old new) = ⊥
LeavesHead x = Unit {0}

abbrev LeavesTail : Action → Type 0
LeavesTail (store Tail c) = ⊥
LeavesTail (exchange Tail old new) = ⊥
LeavesTail x = Unit {0}

head_if : (b : Bool) (x y : Shared) → x.head ≡ y.head → (if b then x else y).head ≡ y.head
head_if true x y e = e
head_if false x y e = refl

tail_if : (b : Bool) (x y : Shared) → x.tail ≡ y.tail → (if b then x else y).tail ≡ y.tail
tail_if true x y e = e
tail_if false x y e = refl

head_kept : (x : Action) (m : Shared) → LeavesHead x → (performed x m).head ≡ m.head
head_kept (load x) m h = refl
head_kept (clear n) m h = refl
head_kept (store Head c) m h = absurd h
head_kept (store x c) m h = refl
head_kept (exchange Head old new) m h = absurd h
head_kept (exchange x old new) m h = head_if (same x (content x m) old) (put x new m) m refl

tail_kept : (x : Action) (m : Shared) → LeavesTail x → (performed x m).tail ≡ m.tail
tail_kept (load x) m h = refl
tail_kept (clear n) m h = refl
tail_kept (store Tail c) m h = absurd h
tail_kept (store x c) m h = refl
tail_kept (exchange Tail old new) m h = absurd h
tail_kept (exchange x old new) m h = tail_if (same x (content x m) old) (put x new m) m refl

-- an exchange of Head, and one of Tail
head_won : (s : Setup) (m : Shared) (r : Ref) (to : ℕ) → Rises m.head (performed (exchange Head r (raised s r to)) m).head
head_won s m r to = go (same_ref m.head r) refl
  where
    go : (b : Bool) → same_ref m.head r ≡ b → Rises m.head (if b then put Head (raised s r to) m else m).head
    go true e = raised_there s m.head r to e
    go false e = inl refl

tail_won : (s : Setup) (m : Shared) (r : Ref) (to : ℕ) → Rises m.tail (performed (exchange Tail r (raised s r to)) m).tail
tail_won s m r to = go (same_ref m.tail r) refl
  where
    go : (b : Bool) → same_ref m.tail r ≡ b → Rises m.tail (if b then put Tail (raised s r to) m else m).tail
    go true e = raised_there s m.tail r to e
    go false e = inl refl

-- a step leaves Head as it is, or raises its count
head_rises : (t : Traced) (me : ℕ) (a : Actor) (l : Line) → IsTraced t → actor_of t.world me ≡ Some a → a.line ≡ Some l → Rises t.world.shared.head (step_at t me a l).world.shared.head
head_rises t me a D13 r is here = head_won t.world.setup t.world.shared a.head a.next.node
head_rises t me a B5 r is here =
    let one : List Entry = Pop me a.val ∷ [] in
    inr (omega (arith, counts_pops t r, counts_pops (step_at t me a B5) (step_traced t me a B5 r is here), sum_by-append (λ e. if is_pop e then 1 else 0) t.history one))
head_rises t me a l r is here = inl (head_kept (action t.world.setup me a l) t.world.shared tt)

-- and Tail, in the queue that counts it
tail_rises : (t : Traced) (me : ℕ) (a : Actor) (l : Line) → IsTraced t → actor_of t.world me ≡ Some a → a.line ≡ Some l
    → t.world.setup.kind ≡ NonBlocking → Rises t.world.shared.tail (step_at t me a l).world.shared.tail
tail_rises t me a E13 r is here k = tail_won t.world.setup t.world.shared a.tail a.next.node
tail_rises t me a E17 r is here k = tail_won t.world.setup t.world.shared a.tail a.node
tail_rises t me a D10 r is here k = tail_won t.world.setup t.world.shared a.tail a.next.node
tail_rises t me a S5 r is here k = tail_won t.world.setup t.world.shared a.tail a.next.node
tail_rises t me a A6 r is here k = absurd (at_line t.world (traced_reached t r) k me a A6 is here).runs
tail_rises t me a l r is here k = inl (tail_kept (action t.world.setup me a l) t.world.shared tt)

-- the words of one world and those of a later one: Head is as it was, or its count is higher, and so is Tail in the queue that
-- counts it
pub record Rose (kind : Kind) (m n : Shared) : Type 0 where
  pub head : IsCurrentOrPast n.head m.head
  pub tail : kind ≡ NonBlocking → IsCurrentOrPast n.tail m.tail

rose_same : (kind : Kind) (m : Shared) → Rose kind m m
rose_same kind m = record { head = inl refl; tail = λ k. inl refl }

rose_twice : (kind : Kind) (m n o : Shared) → Rose kind m n → Rose kind n o → Rose kind m o
rose_twice kind m n o f g = record { head = was_on n.head o.head m.head g.head f.head; tail = λ k. was_on n.tail o.tail m.tail (g.tail k) (f.tail k) }

-- each move
move_rose : (t : Traced) → IsTraced t → (m : AnyMove) → IfSome (next_any t.world m) (λ w. Rose t.world.setup.kind t.world.shared w.shared)
move_rose t r m =
    after_move t.world (λ k w. Rose t.world.setup.kind t.world.shared w.shared)
    (record {
      began = λ me op a is free call. rose_same t.world.setup.kind t.world.shared;
      step = λ me a l is at. record { head = head_rises t me a l r is at; tail = λ k. tail_rises t me a l r is at k };
      gave_up = λ me a l o is at given. rose_same t.world.setup.kind t.world.shared;
      at_rest = λ me a l is at may. rose_same t.world.setup.kind t.world.shared;
    })
    m

-- and each list of moves
pub rose : (ms : List AnyMove) (t u : Traced) → IsTraced t → trace ms t ≡ Some u → Rose t.world.setup.kind t.world.shared u.world.shared
rose [] t u r e = subst (λ (x : Traced). Rose t.world.setup.kind t.world.shared x.world.shared) (same_Some t u e) (rose_same t.world.setup.kind t.world.shared)
rose (m ∷ ms) t u r e = go (next_any t.world m) refl e (λ x. rose ms x u)
  where
    go : (o : Option World) → next_any t.world m ≡ o → traced_on (trace ms) (traced_next t m o) ≡ Some u
        → ((x : Traced) → IsTraced x → trace ms x ≡ Some u → Rose x.world.setup.kind x.world.shared u.world.shared) → Rose t.world.setup.kind t.world.shared u.world.shared
    go None f g each = absurd (none-some u g)
    go (Some w) f g each =
        let one : Rose t.world.setup.kind t.world.shared w.shared = some_of (λ v. Rose t.world.setup.kind t.world.shared v.shared) (next_any t.world m) w f (move_rose t r m) in
        let more : Rose w.setup.kind w.shared u.world.shared = subst (λ (v : World). Rose v.setup.kind v.shared u.world.shared) (world-traced_move t m w) (each (traced_move t m w) (traced_moves t m w r f) g) in
        rose_twice t.world.setup.kind t.world.shared w.shared u.world.shared one (subst (λ (s : Setup). Rose s.kind w.shared u.world.shared) (setup-next_any t.world w m f) more)
