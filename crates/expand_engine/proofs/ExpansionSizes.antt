-- The sizes that a recipe says.
use Rattle.std.proofs.Common.{◌≡◌, ℕ, List, [], ◌∷◌, map, false, refl, sym, subst, arith}
use Rattle.counted_ref.specs.Ref.{IsSplit}
use Rattle.schedule_text.specs.declared.fields.Field.{Field}
use Rattle.schedule_text.specs.declared.fields.Field.TheVariants.{Bits, Nodes, Limit, Actors, Events}
use Rattle.schedule_text.specs.Texts.{greatest, least}
use Rattle.text_io.specs.Grammars.{AreDue, state_after}
use Rattle.text_io.specs.Numerals.{IsWithin}
use Rattle.expand_engine.specs.declared.recipes.Due.{Due}
use Rattle.expand_engine.specs.declared.recipes.Due.TheVariants.{Version as VersionDue, Queue as QueueDue, Number as NumberDue, Act as ActDue, Repeated, Nothing as NothingDue}
use Rattle.expand_engine.specs.declared.recipes.Said.{Said}
use Rattle.expand_engine.specs.declared.recipes.Said.TheVariants.{Nothing, Version, Queue, Number}
use Rattle.expand_engine.specs.declared.recipes.Sizes.{Sizes}
use Rattle.expand_engine.specs.Recipes.{IsSaidInRange, MayName, MaySay, RecipeLine, due_after, is_due, no_sizes, recipe_lines, sizes_after, sizes_from}
use Rattle.expand_engine.specs.Expansions.{AreSizesInRange}

-- so many bits hold a node, where this was said
record KnowsBits (bits : ℕ) (s : Sizes) : Type 0 where
  same : s.bits ≡ bits
  split : IsSplit bits

-- so were the nodes
record KnowsNodes (bits : ℕ) (s : Sizes) : Type 0 where
  before : KnowsBits bits s
  nodes : IsWithin (least Nodes) (greatest bits Nodes) s.nodes

-- so was the limit
record KnowsLimit (bits : ℕ) (s : Sizes) : Type 0 where
  before : KnowsNodes bits s
  limit : IsWithin (least Limit) (greatest bits Limit) s.limit

-- what is known of the sizes where this line is due
abbrev Knows : Due → Sizes → Type 0
Knows VersionDue s = s.bits ≡ 24
Knows QueueDue s = s.bits ≡ 24
Knows (NumberDue bits Bits) s = KnowsBits bits s
Knows (NumberDue bits Nodes) s = KnowsBits bits s
Knows (NumberDue bits Limit) s = KnowsNodes bits s
Knows (NumberDue bits Actors) s = KnowsLimit bits s
Knows (NumberDue bits Events) s = ⊥
Knows (ActDue acts) s = AreSizesInRange s
Knows (Repeated acts times) s = AreSizesInRange s
Knows NothingDue s = AreSizesInRange s

-- each line of sizes
after_bits : (bits : ℕ) (field : Field) (value : ℕ) (s : Sizes) → MayName Bits field → IsWithin (least field) (greatest bits field) value → KnowsBits bits s
    → Knows (due_after (NumberDue bits Bits) (Number field value)) (sizes_after s (Number field value))
after_bits bits Bits value s may within knows = record { same = refl; split = record { least = within.0; most = within.1 } }
after_bits bits Nodes value s may within knows = record { before = record { same = knows.same; split = knows.split }; nodes = within }
after_bits bits Limit value s may within knows = absurd cc
after_bits bits Actors value s may within knows = absurd cc
after_bits bits Events value s may within knows = absurd cc

after_nodes : (bits : ℕ) (field : Field) (value : ℕ) (s : Sizes) → Nodes ≡ field → IsWithin (least field) (greatest bits field) value → KnowsBits bits s
    → Knows (due_after (NumberDue bits Nodes) (Number field value)) (sizes_after s (Number field value))
after_nodes bits field value s is within knows =
    subst (λ (f : Field). IsWithin (least f) (greatest bits f) value → Knows (due_after (NumberDue bits Nodes) (Number f value)) (sizes_after s (Number f value))) is
    (λ within. record { before = record { same = knows.same; split = knows.split }; nodes = within }) within

after_limit : (bits : ℕ) (field : Field) (value : ℕ) (s : Sizes) → Limit ≡ field → IsWithin (least field) (greatest bits field) value → KnowsNodes bits s
    → Knows (due_after (NumberDue bits Limit) (Number field value)) (sizes_after s (Number field value))
after_limit bits field value s is within knows =
    subst (λ (f : Field). IsWithin (least f) (greatest bits f) value → Knows (due_after (NumberDue bits Limit) (Number f value)) (sizes_after s (Number f value))) is
    (λ within. record { before = record { before = record { same = knows.before.same; split = knows.before.split }; nodes = knows.nodes }; limit = within }) within

-- all that was said
all_known : (bits value : ℕ) (s : Sizes) → KnowsLimit bits s → IsWithin (least Actors) (greatest bits Actors) value → AreSizesInRange (record s { actors = value })
all_known bits value s knows within =
    let same = sym knows.before.before.same in
    record {
      split = subst IsSplit same knows.before.before.split;
      nodes = subst (λ (bits : ℕ). IsWithin (least Nodes) (greatest bits Nodes) s.nodes) same knows.before.nodes;
      limit = subst (λ (bits : ℕ). IsWithin (least Limit) (greatest bits Limit) s.limit) same knows.limit;
      actors = within;
    }

after_actors : (bits : ℕ) (field : Field) (value : ℕ) (s : Sizes) → Actors ≡ field → IsWithin (least field) (greatest bits field) value → KnowsLimit bits s
    → Knows (due_after (NumberDue bits Actors) (Number field value)) (sizes_after s (Number field value))
after_actors bits field value s is within knows =
    subst (λ (f : Field). IsWithin (least f) (greatest bits f) value → Knows (due_after (NumberDue bits Actors) (Number f value)) (sizes_after s (Number f value))) is
    (λ within. all_known bits value s knows within) within

-- a number of the header
after_number : (bits : ℕ) (due : Field) (said : Said) (s : Sizes) → MaySay (NumberDue bits due) said → IsSaidInRange (NumberDue bits due) said → Knows (NumberDue bits due) s
    → Knows (due_after (NumberDue bits due) said) (sizes_after s said)
after_number bits due Nothing s may range knows = knows
after_number bits Bits (Number field value) s may range knows = after_bits bits field value s may range knows
after_number bits Nodes (Number field value) s may range knows = after_nodes bits field value s may range knows
after_number bits Limit (Number field value) s may range knows = after_limit bits field value s may range knows
after_number bits Actors (Number field value) s may range knows = after_actors bits field value s may range knows
after_number bits Events (Number field value) s may range knows = absurd knows
after_number bits due _ s may range knows = absurd may

-- an act, a repeat or an end
after_act : (acts : ℕ) (said : Said) (s : Sizes) → MaySay (ActDue acts) said → AreSizesInRange s → Knows (due_after (ActDue acts) said) (sizes_after s said)
after_act acts Version s may knows = absurd may
after_act acts (Queue kind) s may knows = absurd may
after_act acts (Number field value) s may knows = absurd may
after_act acts _ s may knows = knows

after_repeated : (acts times : ℕ) (said : Said) (s : Sizes) → MaySay (Repeated acts times) said → AreSizesInRange s → Knows (due_after (Repeated acts times) said) (sizes_after s said)
after_repeated acts times Version s may knows = absurd may
after_repeated acts times (Queue kind) s may knows = absurd may
after_repeated acts times (Number field value) s may knows = absurd may
after_repeated acts times _ s may knows = knows

-- the queue
after_queue : (said : Said) (s : Sizes) → MaySay QueueDue said → s.bits ≡ 24 → Knows (due_after QueueDue said) (sizes_after s said)
after_queue Nothing s may knows = knows
after_queue (Queue kind) s may knows = record { same = knows; split = record { least = omega arith; most = omega arith } }
after_queue _ s may knows = absurd may

-- the version
after_version : (said : Said) (s : Sizes) → MaySay VersionDue said → s.bits ≡ 24 → Knows (due_after VersionDue said) (sizes_after s said)
after_version Version s may knows = knows
after_version _ s may knows = absurd may

-- any line
after_line : (due : Due) (said : Said) (s : Sizes) → MaySay due said → IsSaidInRange due said → Knows due s → Knows (due_after due said) (sizes_after s said)
after_line VersionDue said s may range knows = after_version said s may knows
after_line QueueDue said s may range knows = after_queue said s may knows
after_line (NumberDue bits due) said s may range knows = after_number bits due said s may range knows
after_line (ActDue acts) said s may range knows = after_act acts said s may knows
after_line (Repeated acts times) said s may range knows = after_repeated acts times said s may knows
after_line NothingDue said s may range knows = absurd may

-- where no further line is due, all is known
all_said : (due : Due) (s : Sizes) → is_due due ≡ false → Knows due s → AreSizesInRange s
all_said NothingDue s done knows = knows
all_said _ s done knows = absurd cc

-- the sizes after lines that were due
sizes_known : (due : Due) (s : Sizes) (lines : List RecipeLine) → AreDue recipe_lines due lines → is_due (state_after recipe_lines due lines) ≡ false → Knows due s
    → AreSizesInRange (sizes_from s (map (λ (line : RecipeLine). line.says) lines))
sizes_known due s [] are done knows = all_said due s done knows
sizes_known due s (line ∷ lines) are done knows =
    sizes_known (due_after due line.says) (sizes_after s line.says) lines are.3 done (after_line due line.says s are.1.may are.2 knows)

-- those of a recipe
pub of_lines : (lines : List RecipeLine) → AreDue recipe_lines VersionDue lines → is_due (state_after recipe_lines VersionDue lines) ≡ false
    → AreSizesInRange (sizes_from no_sizes (map (λ (line : RecipeLine). line.says) lines))
of_lines lines are done = sizes_known VersionDue no_sizes lines are done refl
