-- How many acts a recipe has, and what their numbers are.
use Rattle.std.proofs.Common.{◌≡◌, ℕ, zero, suc, ◌+◌, ◌*◌, ◌<◌, ◌≤◌, Bool, nat_le, if◌then◌else◌, List, [], ◌∷◌, ◌++◌, length, map, All, true, false, Option, Some, None, refl, sym, ap, subst, ◌∙◌, arith}
use Rattle.std.proofs.lemmas.Bool.{leb-false}
use Rattle.std.proofs.lemmas.Nat.{mul-le}
use Rattle.std.proofs.Math.Nat.{mul-suc, suc-mul, zero-mul}
use Rattle.std.proofs.lemmas.List.{append-nil, length-append}
use Rattle.std.proofs.lemmas.List.Elements.{All-nil, All-cons, All-append}
use Rattle.schedule_text.specs.declared.schedules.Event.{Event}
use Rattle.schedule_text.specs.declared.schedules.Event.TheVariants.{Steps}
use Rattle.schedule_text.specs.declared.fields.Field.TheVariants.{Bits, Nodes, Limit, Actors, Events}
use Rattle.text_io.specs.Grammars.{AreDue, state_after}
use Rattle.expand_engine.specs.declared.recipes.Act.{Act}
use Rattle.expand_engine.specs.declared.recipes.Due.{Due}
use Rattle.expand_engine.specs.declared.recipes.Due.TheVariants.{Version as VersionDue, Queue as QueueDue, Number as NumberDue, Act as ActDue, Repeated, Nothing as NothingDue}
use Rattle.expand_engine.specs.declared.recipes.Said.{Said}
use Rattle.expand_engine.specs.declared.recipes.Said.TheVariants.{Nothing, Version, Queue, Number, Happens, Until, Finish, Repeat, End}
use Rattle.expand_engine.specs.Recipes.{IsActInRange, IsSaidInRange, MaySay, RecipeLine, due_after, is_act, is_due, recipe_lines, weight}
use Rattle.expand_engine.specs.UnrolledActs.{Open, acts_done, open_after, repeated, unrolled}
use Rattle.expand_engine.specs.Expansions.{IsActOf}

-- one list, and then as many as there are of the others
joined : (whole one rest few all : ℕ) → whole ≡ one + rest → rest ≡ few → all ≡ few + one → whole ≡ all
joined whole one rest few all split same more = omega (arith, split, same, more)

-- how long a list is, so often
length-repeated : {A : Type 0} (times : ℕ) (xs : List A) → length (repeated times xs) ≡ times * length xs
length-repeated zero xs = sym (zero-mul (length xs))
length-repeated (suc times) xs =
    joined (length (xs ++ repeated times xs)) (length xs) (length (repeated times xs)) (times * length xs) (suc times * length xs) (length-append xs (repeated times xs))
    (length-repeated times xs) (suc-mul times (length xs))

-- what holds of each of a list holds of each of it, so often
All-repeated : {A : Type 0} (P : A → Type 0) (times : ℕ) (xs : List A) → All P xs → All P (repeated times xs)
All-repeated P zero xs all = All-nil P
All-repeated P (suc times) xs all = All-append P xs (repeated times xs) all (All-repeated P times xs all)

-- where this line is due, it has at least this number, and the repeat that is open is the one that it is in
abbrev Fits : Due → (number : ℕ) → Option Open → Type 0
Fits VersionDue number None = 1 ≤ number
Fits QueueDue number None = 2 ≤ number
Fits (NumberDue bits Bits) number None = 3 ≤ number
Fits (NumberDue bits Nodes) number None = 4 ≤ number
Fits (NumberDue bits Limit) number None = 4 ≤ number
Fits (NumberDue bits Actors) number None = 5 ≤ number
Fits (ActDue acts) number None = (6 ≤ number) × (acts ≤ 100000000)
Fits (Repeated acts times) number (Some held) = (6 ≤ number) × (acts ≤ 100000000) × (held.times ≡ times) × All IsActOf held.body
Fits NothingDue number None = Unit {0}
Fits _ number held = ⊥

-- so many acts may have been told where this line is due, each of which counts as 100 steps at least
abbrev Allows : Due → Option Open → (told : ℕ) → Type 0
Allows (ActDue acts) None told = told * 100 ≤ acts
Allows (Repeated acts times) (Some held) told = (told + times * length held.body) * 100 ≤ acts
Allows NothingDue None told = told ≤ 1000000
Allows _ held told = told ≡ 0

-- what holds after a line that was due
record Goes (due : Due) (said : Said) (number : ℕ) (held : Option Open) : Type 0 where
  fits : Fits (due_after due said) (number + 1) (open_after number held said)
  acts : All IsActOf (acts_done number held said)
  told : (told : ℕ) → Allows due held told → Allows (due_after due said) (open_after number held said) (told + length (acts_done number held said))

-- an act counts as 100 steps at least
steps_least : (event : Event) → 100 ≤ weight (Happens event)
steps_least (Steps me count) = by (nat_le count 100) refl
  where
    by : (b : Bool) → nat_le count 100 ≡ b → 100 ≤ (if b then 100 else count)
    by true is = omega arith
    by false is = let more : 100 < count = leb-false count 100 is in omega (arith, more)
steps_least _ = omega arith

-- the act of a line
one_act : (said : Said) (number : ℕ) → is_act said ≡ true → IsActInRange said → 6 ≤ number → All IsActOf (record { line = number; said = said } ∷ [])
one_act said number is range far =
    All-cons IsActOf (record { line = number; said = said }) [] (record { is = is; range = range; behind = far }) (All-nil IsActOf)

-- the version
goes_version : (said : Said) (number : ℕ) → MaySay VersionDue said → 1 ≤ number → Goes VersionDue said number None
goes_version Version number may far = record { fits = omega (arith, far); acts = All-nil IsActOf; told = λ told is. omega (arith, is) }
goes_version _ number may far = absurd may

-- the queue
goes_queue : (said : Said) (number : ℕ) → MaySay QueueDue said → 2 ≤ number → Goes QueueDue said number None
goes_queue Nothing number may far = record { fits = omega (arith, far); acts = All-nil IsActOf; told = λ told is. omega (arith, is) }
goes_queue (Queue kind) number may far = record { fits = omega (arith, far); acts = All-nil IsActOf; told = λ told is. omega (arith, is) }
goes_queue _ number may far = absurd may

-- how many bits hold a node
goes_bits : (bits : ℕ) (said : Said) (number : ℕ) → MaySay (NumberDue bits Bits) said → 3 ≤ number → Goes (NumberDue bits Bits) said number None
goes_bits bits Nothing number may far = record { fits = omega (arith, far); acts = All-nil IsActOf; told = λ told is. omega (arith, is) }
goes_bits bits (Number Bits value) number may far = record { fits = omega (arith, far); acts = All-nil IsActOf; told = λ told is. omega (arith, is) }
goes_bits bits (Number Nodes value) number may far = record { fits = omega (arith, far); acts = All-nil IsActOf; told = λ told is. omega (arith, is) }
goes_bits bits (Number Limit value) number may far = record { fits = omega (arith, far); acts = All-nil IsActOf; told = λ told is. omega (arith, is) }
goes_bits bits (Number Actors value) number may far = record { fits = omega (arith, far); acts = All-nil IsActOf; told = λ told is. omega (arith, is) }
goes_bits bits (Number Events value) number may far = record { fits = omega (arith, far); acts = All-nil IsActOf; told = λ told is. omega (arith, is) }
goes_bits bits _ number may far = absurd may

-- how many nodes there are
goes_nodes : (bits : ℕ) (said : Said) (number : ℕ) → MaySay (NumberDue bits Nodes) said → 4 ≤ number → Goes (NumberDue bits Nodes) said number None
goes_nodes bits Nothing number may far = record { fits = omega (arith, far); acts = All-nil IsActOf; told = λ told is. omega (arith, is) }
goes_nodes bits (Number field value) number may far = record { fits = omega (arith, far); acts = All-nil IsActOf; told = λ told is. omega (arith, is) }
goes_nodes bits _ number may far = absurd may

-- the limit
goes_limit : (bits : ℕ) (said : Said) (number : ℕ) → MaySay (NumberDue bits Limit) said → 4 ≤ number → Goes (NumberDue bits Limit) said number None
goes_limit bits Nothing number may far = record { fits = omega (arith, far); acts = All-nil IsActOf; told = λ told is. omega (arith, is) }
goes_limit bits (Number field value) number may far = record { fits = omega (arith, far); acts = All-nil IsActOf; told = λ told is. omega (arith, is) }
goes_limit bits _ number may far = absurd may

-- how many actors there are
goes_actors : (bits : ℕ) (said : Said) (number : ℕ) → MaySay (NumberDue bits Actors) said → 5 ≤ number → Goes (NumberDue bits Actors) said number None
goes_actors bits Nothing number may far = record { fits = omega (arith, far); acts = All-nil IsActOf; told = λ told is. omega (arith, is) }
goes_actors bits (Number field value) number may far =
    record { fits = (omega (arith, far), omega arith); acts = All-nil IsActOf; told = λ told is. omega (arith, is) }
goes_actors bits _ number may far = absurd may

-- an act, a repeat or the end
goes_outside : (acts : ℕ) (said : Said) (number : ℕ) → MaySay (ActDue acts) said → IsSaidInRange (ActDue acts) said → 6 ≤ number → acts ≤ 100000000 → Goes (ActDue acts) said number None
goes_outside acts Nothing number may range far few = record { fits = (omega (arith, far), few); acts = All-nil IsActOf; told = λ told is. omega (arith, is) }
goes_outside acts Version number may range far few = absurd may
goes_outside acts (Queue kind) number may range far few = absurd may
goes_outside acts (Number field value) number may range far few = absurd may
goes_outside acts (Happens event) number may range far few =
    let room = range.1 in
    let least = steps_least event in
    record { fits = (omega (arith, far), omega (arith, room)); acts = one_act (Happens event) number refl range.0 far; told = λ told is. omega (arith, is, least) }
goes_outside acts (Until actor line) number may range far few =
    let room = range.1 in
    record { fits = (omega (arith, far), omega (arith, room)); acts = one_act (Until actor line) number refl range.0 far; told = λ told is. omega (arith, is) }
goes_outside acts (Finish actor) number may range far few =
    let room = range.1 in
    record { fits = (omega (arith, far), omega (arith, room)); acts = one_act (Finish actor) number refl range.0 far; told = λ told is. omega (arith, is) }
goes_outside acts (Repeat times) number may range far few = record {
  fits = (omega (arith, far), few, refl, All-nil IsActOf);
  acts = All-nil IsActOf;
  told = λ told is. opened told acts times is;
}
  where
    opened : (told acts times : ℕ) → told * 100 ≤ acts → (told + 0 + times * 0) * 100 ≤ acts
    opened told acts times is = omega (arith, is)
goes_outside acts End number may range far few = record { fits = tt; acts = All-nil IsActOf; told = λ told is. omega (arith, is, few) }

-- each act in a repeat counts so often
has_room : (told acts times before after steps : ℕ) → after ≡ before + times → (told + before) * 100 ≤ acts → times * 100 ≤ steps → (told + 0 + after) * 100 ≤ acts + steps
has_room told acts times before after steps more allows counts = omega (arith, more, allows, counts)

-- an act in a repeat
goes_in_repeat : (acts times : ℕ) (body : List Act) (act : Act) (told counts : ℕ) → 100 ≤ counts → (told + times * length body) * 100 ≤ acts
    → (told + 0 + times * length (body ++ act ∷ [])) * 100 ≤ acts + times * counts
goes_in_repeat acts times body act told counts least allows =
    let long = length-append body (act ∷ []) in
    let longer : length (body ++ act ∷ []) ≡ suc (length body) = omega (arith, long) in
    has_room told acts times (times * length body) (times * length (body ++ act ∷ [])) (times * counts) (ap (λ (n : ℕ). times * n) longer ∙ mul-suc times (length body)) allows
    (mul-le times 100 times counts (omega arith) least)

-- all of it that an act in a repeat does
in_repeat : (body : List Act) (said : Said) (number : ℕ) → is_act said ≡ true → IsActInRange said → 6 ≤ number → All IsActOf body → All IsActOf (body ++ record { line = number; said = said } ∷ [])
in_repeat body said number is range far all = All-append IsActOf body (record { line = number; said = said } ∷ []) all (one_act said number is range far)

-- a line in a repeat that says nothing
plus_nothing : (told before acts : ℕ) → (told + before) * 100 ≤ acts → (told + 0 + before) * 100 ≤ acts
plus_nothing told before acts allows = omega (arith, allows)

goes_on : (told times acts : ℕ) (body : List Act) → (told + times * length body) * 100 ≤ acts → (told + 0 + times * length (body ++ [])) * 100 ≤ acts
goes_on told times acts body allows =
    subst (λ (longer : List Act). (told + 0 + times * length longer) * 100 ≤ acts) (sym (append-nil body)) (plus_nothing told (times * length body) acts allows)

-- a repeat's end
goes_out : (told times acts : ℕ) (held : Open) → held.times ≡ times → (told + times * length held.body) * 100 ≤ acts → (told + length (repeated held.times held.body)) * 100 ≤ acts
goes_out told times acts held same allows =
    let long : length (repeated held.times held.body) ≡ times * length held.body = length-repeated held.times held.body ∙ ap (λ n. n * length held.body) same in
    rw long allows

goes_inside : (acts times : ℕ) (said : Said) (number : ℕ) (held : Open) → MaySay (Repeated acts times) said → IsSaidInRange (Repeated acts times) said → 6 ≤ number → acts ≤ 100000000
    → held.times ≡ times → All IsActOf held.body → Goes (Repeated acts times) said number (Some held)
goes_inside acts times Nothing number held may range far few same body = record {
  fits = (omega (arith, far), few, same, All-append IsActOf held.body [] body (All-nil IsActOf));
  acts = All-nil IsActOf;
  told = λ told is. goes_on told times acts held.body is;
}
goes_inside acts times Version number held may range far few same body = absurd may
goes_inside acts times (Queue kind) number held may range far few same body = absurd may
goes_inside acts times (Number field value) number held may range far few same body = absurd may
goes_inside acts times (Happens event) number held may range far few same body = record {
  fits = (omega (arith, far), range.1, same, in_repeat held.body (Happens event) number refl range.0 far body);
  acts = All-nil IsActOf;
  told = λ told is. goes_in_repeat acts times held.body (record { line = number; said = Happens event }) told (weight (Happens event)) (steps_least event) is;
}
goes_inside acts times (Until actor line) number held may range far few same body = record {
  fits = (omega (arith, far), range.1, same, in_repeat held.body (Until actor line) number refl range.0 far body);
  acts = All-nil IsActOf;
  told = λ told is. goes_in_repeat acts times held.body (record { line = number; said = Until actor line }) told (weight (Until actor line)) (omega arith) is;
}
goes_inside acts times (Finish actor) number held may range far few same body = record {
  fits = (omega (arith, far), range.1, same, in_repeat held.body (Finish actor) number refl range.0 far body);
  acts = All-nil IsActOf;
  told = λ told is. goes_in_repeat acts times held.body (record { line = number; said = Finish actor }) told (weight (Finish actor)) (omega arith) is;
}
goes_inside acts times (Repeat again) number held may range far few same body = absurd may
goes_inside acts times End number held may range far few same body = record {
  fits = (omega (arith, far), few);
  acts = All-repeated IsActOf held.times held.body body;
  told = λ told is. goes_out told times acts held same is;
}

-- any line
goes : (due : Due) (said : Said) (number : ℕ) (held : Option Open) → MaySay due said → IsSaidInRange due said → Fits due number held → Goes due said number held
goes VersionDue said number None may range fits = goes_version said number may fits
goes QueueDue said number None may range fits = goes_queue said number may fits
goes (NumberDue bits Bits) said number None may range fits = goes_bits bits said number may fits
goes (NumberDue bits Nodes) said number None may range fits = goes_nodes bits said number may fits
goes (NumberDue bits Limit) said number None may range fits = goes_limit bits said number may fits
goes (NumberDue bits Actors) said number None may range fits = goes_actors bits said number may fits
goes (ActDue acts) said number None may range fits = goes_outside acts said number may range fits.0 fits.1
goes (Repeated acts times) said number (Some held) may range fits = goes_inside acts times said number held may range fits.0 fits.1 fits.2 fits.3
goes NothingDue said number None may range fits = absurd may
goes _ said number held may range fits = absurd fits

-- the acts of lines, of which so many were told before
pub record Bounded (number : ℕ) (held : Option Open) (saids : List Said) (told : ℕ) : Type 0 where
  pub acts : All IsActOf (unrolled number held saids)
  pub few : told + length (unrolled number held saids) ≤ 1000000

-- where no further line is due
ended : (due : Due) (number : ℕ) (held : Option Open) (told : ℕ) → is_due due ≡ false → Fits due number held → Allows due held told → told + 0 ≤ 1000000
ended NothingDue number None told done fits allows = omega (arith, allows)
ended NothingDue number (Some held) told done fits allows = absurd fits
ended _ number held told done fits allows = absurd cc

-- the acts at a line, and those behind it
total : (told : ℕ) (first later : List Act) → told + length first + length later ≤ 1000000 → told + length (first ++ later) ≤ 1000000
total told first later few = let long = length-append first later in omega (arith, long, few)

joining : (number : ℕ) (held : Option Open) (said : Said) (saids : List Said) (told : ℕ) → All IsActOf (acts_done number held said)
    → Bounded (number + 1) (open_after number held said) saids (told + length (acts_done number held said)) → Bounded number held (said ∷ saids) told
joining number held said saids told here later = record {
  acts = All-append IsActOf (acts_done number held said) (unrolled (number + 1) (open_after number held said) saids) here later.acts;
  few = total told (acts_done number held said) (unrolled (number + 1) (open_after number held said) saids) later.few;
}

bounded : (due : Due) (number : ℕ) (held : Option Open) (lines : List RecipeLine) (told : ℕ) → AreDue recipe_lines due lines → is_due (state_after recipe_lines due lines) ≡ false
    → Fits due number held → Allows due held told → Bounded number held (map (λ (line : RecipeLine). line.says) lines) told
bounded due number held [] told are done fits allows = record { acts = All-nil IsActOf; few = ended due number held told done fits allows }
bounded due number held (line ∷ lines) told are done fits allows =
    let here : Goes due line.says number held = goes due line.says number held are.1.may are.2 fits in
    let later =
    bounded (due_after due line.says) (number + 1) (open_after number held line.says) lines (told + length (acts_done number held line.says)) are.3 done here.fits (here.told told allows) in
    joining number held line.says (map (λ (line : RecipeLine). line.says) lines) told here.acts later

-- those of a recipe
pub of_recipe : (lines : List RecipeLine) → AreDue recipe_lines VersionDue lines → is_due (state_after recipe_lines VersionDue lines) ≡ false
    → Bounded 1 None (map (λ (line : RecipeLine). line.says) lines) 0
of_recipe lines are done = bounded VersionDue 1 None lines 0 are done (omega arith) refl
