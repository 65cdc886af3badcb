-- What a step adds to the history is its own actor's, and permitted where its line is.
use Rattle.std.proofs.Common.{◌≡◌, ◌≢◌, ℕ, ◌-◌, ◌≤◌, Bool, true, false, if◌then◌else◌, cond, zero, suc, Some, None, IsSomeAnd, List, [], ◌∷◌, slice_get, sym, refl, ap, subst, eq-eqb, ne_eqb, arith}
use Rattle.std.specs.List.{All}
use Rattle.std.proofs.lemmas.Option.{same_Some}
use Rattle.counted_ref.specs.Ref.{null, same_ref}
use Rattle.line_table.specs.declared.lines.Line.{Line}
use Rattle.line_table.specs.declared.lines.Line.TheVariants.{E9, D13, A5, B5, S4, S8}
use Rattle.history.specs.declared.operations.Taken.{Taken}
use Rattle.history.specs.declared.operations.Entry.{Entry}
use Rattle.history.specs.declared.operations.Entry.TheVariants.{Push, Pop, Shut}
use Rattle.history.specs.Entries.{seat_of, own_entries}
use Rattle.history.specs.Seats.{Allows}
use Rattle.line_steps.specs.declared.actors.Setup.{Setup}
use Rattle.line_steps.specs.Actors.{Actor}
use Rattle.line_steps.specs.Memory.{Found, found}
use Rattle.line_steps.specs.Lines.{action}
use Rattle.node_arena.specs.declared.roles.Role.{Role}
use Rattle.node_arena.specs.Traces.{Traced, entries_of, entries_at}
use Rattle.node_arena.specs.Plans.{PermitsLine, RolesPermit, permit_of, permits_by}

push_own : (me body : ℕ) → own_entries me (Push me body ∷ []) ≡ Push me body ∷ []
push_own me body = ap (λ b. cond b (Push me body ∷ []) []) (eq-eqb me me refl)

pop_own : (me : ℕ) (v : Taken) → own_entries me (Pop me v ∷ []) ≡ Pop me v ∷ []
pop_own me v = ap (λ b. cond b (Pop me v ∷ []) []) (eq-eqb me me refl)

shut_own : (me : ℕ) → own_entries me (Shut me ∷ []) ≡ Shut me ∷ []
shut_own me = ap (λ b. cond b (Shut me ∷ []) []) (eq-eqb me me refl)

push_other : (me you body : ℕ) → me ≢ you → own_entries you (Push me body ∷ []) ≡ []
push_other me you body ne = ap (λ b. cond b (Push me body ∷ []) []) (ne_eqb me you ne)

pop_other : (me you : ℕ) (v : Taken) → me ≢ you → own_entries you (Pop me v ∷ []) ≡ []
pop_other me you v ne = ap (λ b. cond b (Pop me v ∷ []) []) (ne_eqb me you ne)

shut_other : (me you : ℕ) → me ≢ you → own_entries you (Shut me ∷ []) ≡ []
shut_other me you ne = ap (λ b. cond b (Shut me ∷ []) []) (ne_eqb me you ne)

own_of : (s : Setup) (me : ℕ) (a : Actor) (l : Line) (c : Found (action s me a l)) → own_entries me (entries_of s me a l c) ≡ entries_of s me a l c
own_of s me a E9 c = go (same_ref c a.next)
  where
    go : (b : Bool) → own_entries me (if b then Push me a.val.body ∷ [] else []) ≡ (if b then Push me a.val.body ∷ [] else [])
    go true = push_own me a.val.body
    go false = refl
own_of s me a D13 c = go (same_ref c a.head)
  where
    go : (b : Bool) → own_entries me (if b then Pop me a.val ∷ [] else []) ≡ (if b then Pop me a.val ∷ [] else [])
    go true = pop_own me a.val
    go false = refl
own_of s me a A5 c = go (same_ref c null)
  where
    go : (b : Bool) → own_entries me (if b then Push me a.val.body ∷ [] else []) ≡ (if b then Push me a.val.body ∷ [] else [])
    go true = push_own me a.val.body
    go false = refl
own_of s me a B5 c = pop_own me a.val
own_of s me a S4 c = go (same_ref c a.next)
  where
    go : (b : Bool) → own_entries me (if b then Shut me ∷ [] else []) ≡ (if b then Shut me ∷ [] else [])
    go true = shut_own me
    go false = refl
own_of s me a S8 c = go (same_ref c null)
  where
    go : (b : Bool) → own_entries me (if b then Shut me ∷ [] else []) ≡ (if b then Shut me ∷ [] else [])
    go true = shut_own me
    go false = refl
own_of s me a _ c = refl

-- the entries that a step adds are its actor's
pub own_added : (s : Setup) (t : Traced) (me : ℕ) (a : Actor) (l : Line) → own_entries me (entries_at s t me a l) ≡ entries_at s t me a l
own_added s t me a l = own_of s me a l (found (action s me a l) t.world.shared)

none_of : (s : Setup) (me you : ℕ) (a : Actor) (l : Line) (c : Found (action s me a l)) → me ≢ you → own_entries you (entries_of s me a l c) ≡ []
none_of s me you a E9 c ne = go (same_ref c a.next)
  where
    go : (b : Bool) → own_entries you (if b then Push me a.val.body ∷ [] else []) ≡ []
    go true = push_other me you a.val.body ne
    go false = refl
none_of s me you a D13 c ne = go (same_ref c a.head)
  where
    go : (b : Bool) → own_entries you (if b then Pop me a.val ∷ [] else []) ≡ []
    go true = pop_other me you a.val ne
    go false = refl
none_of s me you a A5 c ne = go (same_ref c null)
  where
    go : (b : Bool) → own_entries you (if b then Push me a.val.body ∷ [] else []) ≡ []
    go true = push_other me you a.val.body ne
    go false = refl
none_of s me you a B5 c ne = pop_other me you a.val ne
none_of s me you a S4 c ne = go (same_ref c a.next)
  where
    go : (b : Bool) → own_entries you (if b then Shut me ∷ [] else []) ≡ []
    go true = shut_other me you ne
    go false = refl
none_of s me you a S8 c ne = go (same_ref c null)
  where
    go : (b : Bool) → own_entries you (if b then Shut me ∷ [] else []) ≡ []
    go true = shut_other me you ne
    go false = refl
none_of s me you a _ c ne = refl

-- and no other one's
pub none_added : (s : Setup) (t : Traced) (me you : ℕ) (a : Actor) (l : Line) → you ≢ me → own_entries you (entries_at s t me a l) ≡ []
none_added s t me you a l ne = none_of s me you a l (found (action s me a l) t.world.shared) (λ e. ne (sym e))

all_none : (P : Entry → Type 0) → All P []
all_none P k d b = absurd (omega arith)

all_one : (P : Entry → Type 0) (e : Entry) → P e → All P (e ∷ [])
all_one P e p zero d b = p
all_one P e p (suc k) d b = absurd (omega arith)

-- what a role permits stands where the role stands
pub permits-at : (roles : List Role) (k : ℕ) (r : Role) → slice_get roles k ≡ Some r → slice_get (permits_by roles) k ≡ Some (permit_of r)
permits-at [] k r at = absurd (let e : None ≡ Some r = at in cc)
permits-at (x ∷ xs) zero r at = ap (λ o. Some (permit_of o)) (same_Some x r at)
permits-at (x ∷ xs) (suc k) r at = permits-at xs k r at

permitted_one : (roles : List Role) (r : Role) (e : Entry) → 1 ≤ seat_of e → slice_get roles (seat_of e - 1) ≡ Some r → Allows (permit_of r) e → RolesPermit roles e
permitted_one roles r e least at p = (least, subst (λ o. IsSomeAnd o (λ x. Allows x e)) (sym (permits-at roles (seat_of e - 1) r at)) p)

permitted_of : (s : Setup) (roles : List Role) (me : ℕ) (a : Actor) (l : Line) (r : Role) (c : Found (action s me a l)) → 1 ≤ me
    → slice_get roles (me - 1) ≡ Some r → PermitsLine r l → All (RolesPermit roles) (entries_of s me a l c)
permitted_of s roles me a E9 r c least at p = go (same_ref c a.next)
  where
    go : (b : Bool) → All (RolesPermit roles) (if b then Push me a.val.body ∷ [] else [])
    go true = all_one (RolesPermit roles) (Push me a.val.body) (permitted_one roles r (Push me a.val.body) least at p)
    go false = all_none (RolesPermit roles)
permitted_of s roles me a D13 r c least at p = go (same_ref c a.head)
  where
    go : (b : Bool) → All (RolesPermit roles) (if b then Pop me a.val ∷ [] else [])
    go true = all_one (RolesPermit roles) (Pop me a.val) (permitted_one roles r (Pop me a.val) least at p)
    go false = all_none (RolesPermit roles)
permitted_of s roles me a A5 r c least at p = go (same_ref c null)
  where
    go : (b : Bool) → All (RolesPermit roles) (if b then Push me a.val.body ∷ [] else [])
    go true = all_one (RolesPermit roles) (Push me a.val.body) (permitted_one roles r (Push me a.val.body) least at p)
    go false = all_none (RolesPermit roles)
permitted_of s roles me a B5 r c least at p = all_one (RolesPermit roles) (Pop me a.val) (permitted_one roles r (Pop me a.val) least at p)
permitted_of s roles me a S4 r c least at p = go (same_ref c a.next)
  where
    go : (b : Bool) → All (RolesPermit roles) (if b then Shut me ∷ [] else [])
    go true = all_one (RolesPermit roles) (Shut me) (permitted_one roles r (Shut me) least at p)
    go false = all_none (RolesPermit roles)
permitted_of s roles me a S8 r c least at p = go (same_ref c null)
  where
    go : (b : Bool) → All (RolesPermit roles) (if b then Shut me ∷ [] else [])
    go true = all_one (RolesPermit roles) (Shut me) (permitted_one roles r (Shut me) least at p)
    go false = all_none (RolesPermit roles)
permitted_of s roles me a _ r c least at p = all_none (RolesPermit roles)

-- what a step adds is permitted, where the actor's role permits the line
pub permitted_added : (s : Setup) (roles : List Role) (t : Traced) (me : ℕ) (a : Actor) (l : Line) (r : Role) → 1 ≤ me
    → slice_get roles (me - 1) ≡ Some r → PermitsLine r l → All (RolesPermit roles) (entries_at s t me a l)
permitted_added s roles t me a l r least at p = permitted_of s roles me a l r (found (action s me a l) t.world.shared) least at p
