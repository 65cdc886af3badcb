-- The text that tells what is found of a recorded history.
use Rattle.std.specs.Prelude.{ℕ, ◌-◌, nat_le, if◌then◌else◌, List, [], ◌++◌, codes, decimal}
use Rattle.std.specs.List.{flat_map}
use Rattle.placing.specs.declared.answers.Held.{Held}
use Rattle.placing.specs.declared.answers.Held.TheVariants.{Value, Left}
use Rattle.placing.specs.declared.answers.Reason.{Reason}
use Rattle.placing.specs.declared.answers.Reason.TheVariants.{Shape, Span as Spans, Reply, Sooner, Order, Full, Late, Twice, Unshut, Undrained, Stuck}
use Rattle.placing.specs.declared.answers.Unknown.{Unknown}
use Rattle.placing.specs.declared.answers.Unknown.TheVariants.{Room, Unplaced}

-- a place, with a space before it: of the first so many, that it is held, and of the others counted behind these
abbrev pub place_text : (count place : ℕ) → List ℕ
place_text count place = if nat_le place count then codes " held " ++ decimal place else codes " " ++ decimal (place - count)

-- the place of the operation that a reason is of
abbrev pub place_of : Reason → ℕ
place_of (Shape place) = place
place_of (Spans place) = place
place_of (Reply place) = place
place_of (Sooner place others) = place
place_of (Order place push held) = place
place_of (Full place spans) = place
place_of (Late place other) = place
place_of (Twice place other) = place
place_of (Unshut place) = place
place_of (Undrained place held) = place
place_of (Stuck place others) = place

-- the name of a reason
abbrev pub cause_of : Reason → List ℕ
cause_of (Shape place) = codes "Shape"
cause_of (Spans place) = codes "Span"
cause_of (Reply place) = codes "Reply"
cause_of (Sooner place others) = codes "Sooner"
cause_of (Order place push held) = codes "Order"
cause_of (Full place spans) = codes "Full"
cause_of (Late place other) = codes "Late"
cause_of (Twice place other) = codes "Twice"
cause_of (Unshut place) = codes "Unshut"
cause_of (Undrained place held) = codes "Undrained"
cause_of (Stuck place others) = codes "Stuck"

-- the places of the pushes of values of which one stays, where the first so many are held
abbrev pub held_text : (count : ℕ) → Held → List ℕ
held_text count (Value push take) = place_text count push
held_text count (Left places) = flat_map (place_text count) places.items

-- the places of the other operations that a reason names, where the first so many are held
abbrev pub others_text : (count : ℕ) → Reason → List ℕ
others_text count (Shape place) = []
others_text count (Spans place) = []
others_text count (Reply place) = []
others_text count (Sooner place others) = flat_map (place_text count) others.items
others_text count (Order place push held) = place_text count push ++ held_text count held
others_text count (Full place spans) = flat_map (λ span. held_text count span.held) spans.items
others_text count (Late place other) = place_text count other
others_text count (Twice place other) = place_text count other
others_text count (Unshut place) = []
others_text count (Undrained place held) = held_text count held
others_text count (Stuck place others) = flat_map (place_text count) others.items

-- the beginning of the line that tells a reason
unfoldable pub head_text : (count : ℕ) → Reason → List ℕ
head_text count reason = codes "no" ++ place_text count (place_of reason) ++ codes " " ++ cause_of reason

-- the line that tells a reason: the operation's place in the list, the cause, and the places of the others; the first so many
-- push what is held at the start
abbrev pub no_text : (count : ℕ) → Reason → List ℕ
no_text count reason = head_text count reason ++ others_text count reason ++ codes "\n"

-- the name of why nothing was found
abbrev pub unknown_name : Unknown → List ℕ
unknown_name Room = codes "Room"
unknown_name Unplaced = codes "Unplaced"

-- the line that tells that nothing was found
unfoldable pub open_text : Unknown → List ℕ
open_text cause = codes "open " ++ unknown_name cause ++ codes "\n"
