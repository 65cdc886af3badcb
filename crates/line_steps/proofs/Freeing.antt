-- What a call says whose node is free, or that let the lock of the head go, is what the line table makes of it.
use Rattle.std.proofs.Common.{ℕ, ◌≡◌, Option, Some, None, refl}
use Rattle.line_table.specs.declared.lines.Kind.{Kind}
use Rattle.history.specs.declared.operations.Reply.{Reply}
use Rattle.history.specs.declared.operations.Reply.TheVariants.{Done, Value, Empty, Refused}
use Rattle.line_steps.specs.Actors.{Actor}
use Rattle.line_steps.specs.Lines.{freed, unlocked, left, left_with_node, sets_aside, empties_hand}
use Rattle.line_steps.specs.Said.{numbered, freed_at, freed_said, unlocked_at, unlocked_said, left_said, left_with_node_at}

freed_due : (kind : Kind) (now : ℕ) (due : Option Reply) (a : Actor) → numbered now (freed_at kind due a) (freed_said due) ≡ freed kind now due (empties_hand a)
freed_due kind now None a = refl
freed_due kind now (Some Done) a = refl
freed_due kind now (Some (Value v)) a = refl
freed_due kind now (Some Empty) a = refl
freed_due kind now (Some (Refused refusal)) a = refl

aside_due : (kind : Kind) (now : ℕ) (due : Option Reply) (a : Actor) → numbered now (freed_at kind due a) (record (freed_said due) { aside = Some a.node }) ≡ sets_aside (freed kind now due a)
aside_due kind now None a = refl
aside_due kind now (Some Done) a = refl
aside_due kind now (Some (Value v)) a = refl
aside_due kind now (Some Empty) a = refl
aside_due kind now (Some (Refused refusal)) a = refl

unlocked_due : (now : ℕ) (due : Option Reply) (a : Actor) → numbered now (unlocked_at due a) (unlocked_said due) ≡ unlocked now due a
unlocked_due now None a = refl
unlocked_due now (Some (Value v)) a = refl
unlocked_due now (Some Done) a = refl
unlocked_due now (Some Empty) a = refl
unlocked_due now (Some (Refused refusal)) a = refl

-- the same of the actor's own reply
pub freed_numbered : (kind : Kind) (now : ℕ) (a : Actor) → numbered now (freed_at kind a.due a) (freed_said a.due) ≡ freed kind now a.due (empties_hand a)
freed_numbered kind now a = freed_due kind now a.due a

pub aside_numbered : (kind : Kind) (now : ℕ) (a : Actor) → numbered now (freed_at kind a.due a) (record (freed_said a.due) { aside = Some a.node }) ≡ sets_aside (freed kind now a.due a)
aside_numbered kind now a = aside_due kind now a.due a

pub unlocked_numbered : (now : ℕ) (a : Actor) → numbered now (unlocked_at a.due a) (unlocked_said a.due) ≡ unlocked now a.due a
unlocked_numbered now a = unlocked_due now a.due a

left_due : (now : ℕ) (due : Option Reply) (a : Actor) → numbered now (record a { line = None }) (left_said due) ≡ left now due a
left_due now None a = refl
left_due now (Some Done) a = refl
left_due now (Some (Value v)) a = refl
left_due now (Some Empty) a = refl
left_due now (Some (Refused refusal)) a = refl

left_with_node_due : (now : ℕ) (due : Option Reply) (a : Actor) → numbered now (left_with_node_at due a) (left_said due) ≡ left_with_node now due a
left_with_node_due now None a = refl
left_with_node_due now (Some Done) a = refl
left_with_node_due now (Some (Value v)) a = refl
left_with_node_due now (Some Empty) a = refl
left_with_node_due now (Some (Refused refusal)) a = refl

pub left_numbered : (now : ℕ) (a : Actor) → numbered now (record a { line = None }) (left_said a.due) ≡ left now a.due a
left_numbered now a = left_due now a.due a

pub left_with_node_numbered : (now : ℕ) (a : Actor) → numbered now (left_with_node_at a.due a) (left_said a.due) ≡ left_with_node now a.due a
left_with_node_numbered now a = left_with_node_due now a.due a
