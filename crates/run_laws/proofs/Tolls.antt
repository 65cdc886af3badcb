-- What a step fails, and what it makes others fail, line by line: in the words of the machine's progress, and by what the step
-- adds to the path of its actor and to the history.
use Rattle.std.proofs.Common.{◌≡◌, ℕ, ◌+◌, ◌≤◌, Bool, true, false, not, cond, nat_eq, if◌then◌else◌, ◌-◌, [], ◌∷◌, Option, Some, None, refl, ap, arith}
use Rattle.counted_ref.specs.Ref.{is_null, is_shut, same_ref}
use Rattle.line_table.specs.declared.lines.Kind.{Kind}
use Rattle.line_table.specs.declared.lines.Kind.TheVariants.{TwoLock, NonBlocking}
use Rattle.line_table.specs.declared.lines.Line.{Line}
use Rattle.line_table.specs.declared.lines.Line.TheVariants.{N1, N4, N5, F1, F3, E7, E9, D5, D13, A3, B1, S3, S4, S6}
use Rattle.line_table.specs.Sections.{section_of}
use Rattle.history.specs.declared.operations.Reply.{Reply}
use Rattle.history.specs.declared.operations.Entry.{Entry}
use Rattle.history.specs.declared.operations.Entry.TheVariants.{Push, Pop, Shut}
use Rattle.line_steps.specs.declared.actors.Setup.{Setup}
use Rattle.line_steps.specs.Actors.{Actor}
use Rattle.line_steps.specs.Outcomes.{Outcome}
use Rattle.line_steps.specs.Memory.{Shared, node_at, found}
use Rattle.line_steps.specs.Lines.{action, outcome, effect, fills_hand, goes, with_node, freed, empties_hand}
use Rattle.step_machine.specs.ProgramCounters.{IsRunBy}
use Rattle.step_machine.proofs.Choices.{both}
use Rattle.step_machine.specs.Prices.{Prices, if_so, unless}
use Rattle.step_machine.specs.Amounts.{failed, toll}
use Rattle.node_arena.specs.Traces.{entries_of}
use Rattle.node_arena.specs.Turns.{at_n1, at_f1, at_e5, at_d2, at_s1, failed_at}
use Rattle.run_laws.specs.Others.{is_others_link, is_others_pop, nodes_at, paid}

-- what a failed turn counts, and what an exchange costs each other actor: a turn that swings a lagging Tail is kept for
-- an actor without a call
abbrev pub turns : Prices
turns = record { step = 0; turn = 1; node = 1; link = 2; pop = 1; idle = 1; kept = 0 }

-- an actor goes on with its node at no line at which a turn begins
took_on : (kind : Kind) → at_n1 (Some (with_node kind)) ≡ 0
took_on TwoLock = refl
took_on NonBlocking = refl

gave_on : (kind : Kind) (now : ℕ) (due : Option Reply) (a : Actor) → at_f1 (freed kind now due a).actor.line ≡ 0
gave_on TwoLock now None a = refl
gave_on NonBlocking now None a = refl
gave_on kind now (Some reply) a = refl

-- where a turn starts again only if a test failed, one fails at most there
tested : (at : Option Line → ℕ) (b : Bool) (x y : Outcome) → at x.actor.line ≡ 0 → at y.actor.line ≤ 1 → at (if b then x else y).actor.line ≤ unless b 1
tested at true x y hx hy = omega (arith, hx)
tested at false x y hx hy = hy

-- a push, a shut or a pop of another seat counts
linked : (you : ℕ) (b : Bool) (e : Entry) → is_others_link you e ≡ true → if_so b 2 ≤ paid 2 1 1 you (if b then e ∷ [] else []) 0
linked you true e h = omega (arith, ap {B = ℕ} (λ c. cond c 1 0) h)
linked you false e h = omega arith

popped : (you : ℕ) (b : Bool) (e : Entry) → is_others_pop you e ≡ true → if_so b 1 ≤ paid 2 1 1 you (if b then e ∷ [] else []) 0
popped you true e h = omega (arith, ap {B = ℕ} (λ c. cond c 1 0) h)
popped you false e h = omega arith

-- a node that was taken or given back counts
moved_node : (at : Option Line → ℕ) (b : Bool) (x y : Outcome) → at x.actor.line ≡ 0 → if_so b 1 ≤ 1 - at (if b then x else y).actor.line
moved_node at true x y h = omega (arith, h)
moved_node at false x y h = omega arith

module _ (s : Setup) (m : Shared) (now me : ℕ) (a : Actor) where
  -- where the actor goes from a line
  abbrev pub to : Line → Option Line
  to l = (outcome s now me a l (found (action s me a l) m)).actor.line

  -- a turn that failed by the path failed in the machine
  pub failed_most : (l : Line) → IsRunBy (section_of l) NonBlocking → failed_at l (to l) ≤ failed turns m a l
  failed_most N4 _ = tested at_n1 (same_ref m.free a.top) _ _ (took_on s.kind) (omega arith)
  failed_most N5 _ = tested at_n1 (nat_eq m.fresh a.f) _ _ (took_on s.kind) (omega arith)
  failed_most F3 _ = tested at_f1 (same_ref m.free a.top) _ _ (gave_on s.kind now a.due (empties_hand a)) (omega arith)
  failed_most E7 _ = tested at_e5 (same_ref m.tail a.tail) _ _ (both (λ (o : Outcome). at_e5 o.actor.line ≡ 0) (is_null a.next) refl
      (both (λ (o : Outcome). at_e5 o.actor.line ≡ 0) (is_shut s.bits a.next) refl
      (both (λ (o : Outcome). at_e5 o.actor.line ≡ 0) (nat_eq a.tail.count s.limit) refl refl))) (omega arith)
  failed_most E9 _ = tested at_e5 (same_ref (node_at m a.tail.node).next a.next) _ _ (both (λ (o : Outcome). at_e5 (effect now o).actor.line ≡ 0) (nat_eq a.tail.count s.limit) refl refl) (omega arith)
  failed_most D5 _ = tested at_d2 (same_ref m.head a.head) _ _ (both (λ (o : Outcome). at_d2 o.actor.line ≡ 0) (nat_eq a.head.node a.tail.node)
      (both (λ (o : Outcome). at_d2 o.actor.line ≡ 0) (is_null a.next) refl (both (λ (o : Outcome). at_d2 o.actor.line ≡ 0) (is_shut s.bits a.next)
      refl (both (λ (o : Outcome). at_d2 o.actor.line ≡ 0) (nat_eq a.tail.count s.limit) refl refl))) refl) (omega arith)
  failed_most D13 _ = tested at_d2 (same_ref m.head a.head) _ _ refl (omega arith)
  failed_most S3 _ = tested at_s1 (same_ref m.tail a.tail) _ _ (both (λ (o : Outcome). at_s1 o.actor.line ≡ 0) (is_null a.next) refl
      (both (λ (o : Outcome). at_s1 o.actor.line ≡ 0) (is_shut s.bits a.next) refl
      (both (λ (o : Outcome). at_s1 o.actor.line ≡ 0) (nat_eq a.tail.count s.limit) refl refl))) (omega arith)
  failed_most S4 _ = tested at_s1 (same_ref (node_at m a.tail.node).next a.next) _ _ refl (omega arith)
  failed_most A3 runs = absurd runs
  failed_most B1 runs = absurd runs
  failed_most S6 runs = absurd runs
  failed_most _ _ = omega arith

  -- what a step costs another actor is counted there
  pub toll_paid : (you : ℕ) (l : Line) → nat_eq me you ≡ false → toll turns m a l ≤ paid 2 1 1 you (entries_of s me a l (found (action s me a l) m)) (nodes_at l (to l))
  toll_paid you N4 d = omega (arith, moved_node at_n1 (same_ref m.free a.top) (goes (with_node s.kind) (fills_hand a.top.node a.next.count a)) (goes N1 a) (took_on s.kind))
  toll_paid you N5 d = omega (arith, moved_node at_n1 (nat_eq m.fresh a.f) (goes (with_node s.kind) (fills_hand (a.f + 1) 0 a)) (goes N1 a) (took_on s.kind))
  toll_paid you F3 d = omega (arith, moved_node at_f1 (same_ref m.free a.top) (freed s.kind now a.due (empties_hand a)) (goes F1 a) (gave_on s.kind now a.due (empties_hand a)))
  toll_paid you E9 d = linked you (same_ref (node_at m a.tail.node).next a.next) (Push me a.val.body) (ap not d)
  toll_paid you S4 d = linked you (same_ref (node_at m a.tail.node).next a.next) (Shut me) (ap not d)
  toll_paid you D13 d = popped you (same_ref m.head a.head) (Pop me a.val) (ap not d)
  toll_paid you _ d = omega arith
