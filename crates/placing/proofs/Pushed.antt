-- Values that were pushed or told are in sets.
use Rattle.std.proofs.Common.{◌≡◌, ℕ, ◌+◌, ◌≤◌, ◌<◌, Bool, true, false, not, ◌&&◌, cond, nat_eq, if◌then◌else◌, List, length, take, get_or, refl, sym, ap, ◌∙◌, subst, arith}
use Rattle.std.specs.Ordering.{nat_cmp, is_eq}
use Rattle.std.specs.BTreeSet as tree
use Rattle.std.specs.BTreeSet.{BTreeSet}
use Rattle.std.specs.BTreeMap.{is_at}
use Rattle.std.specs.Cmp.{tied_then, unsigned_tied}
use Rattle.std.proofs.lemmas.Bool.{eqb-true, eq-eqb}
use Rattle.std.proofs.lemmas.List.Sums.{sum_by_more}
use Rattle.history.specs.declared.operations.Taken.{Taken}
use Rattle.history.specs.declared.operations.Stamped.{Stamped}
use Rattle.placing.specs.Kinds.{Kind, same_value, is_told_in, pushes_in, pushes_of, takes_of}
use Rattle.placing.specs.Seen.{by_parts, has, NotesPush, NotesTake, HasAllPushedAgain}

-- of each value that isn't pushed again, no more pushes were than the set has of it
abbrev pub ArePushed : (seen again : BTreeSet (ℕ × ℕ)) → List Stamped → Type 0
ArePushed seen again ops = (v : Taken) → has again v ≡ false → pushes_of (same_value v) ops ≤ (if has seen v then 1 else 0)

-- a set has one key more, that of a value
abbrev pub PutsIn : (old new : BTreeSet (ℕ × ℕ)) → Taken → Type 0
PutsIn old new w = (q : ℕ × ℕ) → tree.contains by_parts new q ≡ cond (is_at (by_parts (w.from, w.body)) q) true (tree.contains by_parts old q)

both_true : (a b : Bool) → (a && b) ≡ true → (a ≡ true) × (b ≡ true)
both_true true b e = (refl, e)
both_true false b e = absurd (let x : false ≡ true = e in cc)

both_hold : (a b : Bool) → a ≡ true → b ≡ true → (a && b) ≡ true
both_hold true b e d = d
both_hold false b e d = absurd (let x : false ≡ true = e in cc)

both_lack : (x b : Bool) → cond x true b ≡ false → (x ≡ false) × (b ≡ false)
both_lack true b e = absurd (let t : true ≡ false = e in cc)
both_lack false b e = (refl, e)

-- the place of a value's key, by its parts
at_key : (v w : Taken) → is_at (by_parts (w.from, w.body)) (v.from, v.body) ≡ (nat_eq w.from v.from && nat_eq w.body v.body)
at_key v w =
    sym (tied_then (nat_cmp w.from v.from) (nat_cmp w.body v.body)) ∙ ap (λ b. b && is_eq (nat_cmp w.body v.body)) (unsigned_tied w.from v.from) ∙
    ap (λ b. nat_eq w.from v.from && b) (unsigned_tied w.body v.body)

-- two values that are the same have one key
one_key : (v w : Taken) → same_value v w ≡ true → ◌≡◌ {A = ℕ × ℕ} (v.from, v.body) (w.from, w.body)
one_key v w e =
    let parts = both_true (nat_eq v.from w.from) (nat_eq v.body w.body) e in
    let from : v.from ≡ w.from = eqb-true v.from w.from parts.0 in
    let body : v.body ≡ w.body = eqb-true v.body w.body parts.1 in
    ap (λ (n : ℕ). let k : ℕ × ℕ = (n, v.body) in k) from ∙ ap (λ (n : ℕ). let k : ℕ × ℕ = (w.from, n) in k) body

-- the key of a value is at that of the same value
here : (v w : Taken) → same_value v w ≡ true → is_at (by_parts (w.from, w.body)) (v.from, v.body) ≡ true
here v w e =
    let parts = both_true (nat_eq v.from w.from) (nat_eq v.body w.body) e in
    let from : v.from ≡ w.from = eqb-true v.from w.from parts.0 in
    let body : v.body ≡ w.body = eqb-true v.body w.body parts.1 in
    at_key v w ∙ both_hold (nat_eq w.from v.from) (nat_eq w.body v.body) (eq-eqb w.from v.from (sym from)) (eq-eqb w.body v.body (sym body))

-- a value that a set lacks, into which another one was put, isn't that one, and wasn't there before
lacks : (old new : BTreeSet (ℕ × ℕ)) (w : Taken) → PutsIn old new w → (v : Taken) → has new v ≡ false → (has old v ≡ false) × (same_value v w ≡ false)
lacks old new w puts v e =
    let parts = both_lack (is_at (by_parts (w.from, w.body)) (v.from, v.body)) (has old v) (sym (puts (v.from, v.body)) ∙ e) in
    (parts.1, go (same_value v w) refl parts.0)
  where
    go : (b : Bool) → same_value v w ≡ b → is_at (by_parts (w.from, w.body)) (v.from, v.body) ≡ false → same_value v w ≡ false
    go true s n = absurd (let x : true ≡ false = sym (here v w s) ∙ n in cc)
    go false s n = s

-- what a set had it has
keeps : (old new : BTreeSet (ℕ × ℕ)) (w : Taken) → PutsIn old new w → (v : Taken) → (if has old v then 1 else 0) ≤ (if has new v then 1 else 0)
keeps old new w puts v =
    subst (λ b. (if has old v then 1 else 0) ≤ (if b then 1 else 0)) (sym (puts (v.from, v.body))) (go (is_at (by_parts (w.from, w.body)) (v.from, v.body)) (has old v))
  where
    go : (x b : Bool) → (if b then 1 else 0) ≤ (if cond x true b then 1 else 0)
    go true true = omega arith
    go true false = omega arith
    go false b = omega arith

-- a value that a set lacks is put in, and counted once
puts_new : (old new : BTreeSet (ℕ × ℕ)) (w : Taken) → PutsIn old new w → has old w ≡ false → (v : Taken)
    → (if has old v then 1 else 0) + (if same_value v w then 1 else 0) ≤ (if has new v then 1 else 0)
puts_new old new w puts absent v = go (same_value v w) refl
  where
    go : (b : Bool) → same_value v w ≡ b → (if has old v then 1 else 0) + (if b then 1 else 0) ≤ (if has new v then 1 else 0)
    go true e =
        let before : has old v ≡ false = ap (tree.contains by_parts old) (one_key v w e) ∙ absent in
        let after : has new v ≡ true = puts (v.from, v.body) ∙ ap (λ x. cond x true (has old v)) (here v w e) in
        subst (λ b. (if b then 1 else 0) + 1 ≤ (if has new v then 1 else 0)) (sym before) (subst (λ b. 0 + 1 ≤ (if b then 1 else 0)) (sym after) (omega arith))
    go false e = let k = keeps old new w puts v in omega (arith, k)

-- an operation that pushes nothing leaves the sets as they are
pub notes_none : (seen again : BTreeSet (ℕ × ℕ)) (o : Stamped) → ((kind : Kind) → pushes_in kind o ≡ false) → NotesPush seen seen again again o
notes_none seen again o none v e =
    (e, subst (λ b. (if has seen v then 1 else 0) + (if b then 1 else 0) ≤ (if has seen v then 1 else 0)) (sym (none (same_value v))) (omega arith))

absent_where_new : (there added : Bool) → added ≡ not there → added ≡ true → there ≡ false
absent_where_new true added e t = absurd (let x : true ≡ false = sym t ∙ e in cc)
absent_where_new false added e t = refl

-- a value that is seen for the first time
pub notes_first : (seen new again : BTreeSet (ℕ × ℕ)) (o : Stamped) (w : Taken) (body : ℕ) (added : Bool) → body ≡ w.body
    → ((kind : Kind) → pushes_in kind o ≡ kind w) → added ≡ not (tree.contains by_parts seen (w.from, body))
    → ((q : ℕ × ℕ) → tree.contains by_parts new q ≡ cond (is_at (by_parts (w.from, body)) q) true (tree.contains by_parts seen q)) → added ≡ true
    → NotesPush seen new again again o
notes_first seen new again o w body added same one says updates t v e =
    let puts : PutsIn seen new w = λ q. subst (λ n. tree.contains by_parts new q ≡ cond (is_at (by_parts (w.from, n)) q) true (tree.contains by_parts seen q)) same (updates q) in
    let absent : has seen w ≡ false = absent_where_new (has seen w) added (subst (λ n. added ≡ not (tree.contains by_parts seen (w.from, n))) same says) t in
    (e, subst (λ b. (if has seen v then 1 else 0) + (if b then 1 else 0) ≤ (if has new v then 1 else 0)) (sym (one (same_value v))) (puts_new seen new w puts absent v))

-- a value that was seen before
pub notes_again : (seen new again more : BTreeSet (ℕ × ℕ)) (o : Stamped) (w : Taken) (body : ℕ) → body ≡ w.body
    → ((kind : Kind) → pushes_in kind o ≡ kind w)
    → ((q : ℕ × ℕ) → tree.contains by_parts new q ≡ cond (is_at (by_parts (w.from, body)) q) true (tree.contains by_parts seen q))
    → ((q : ℕ × ℕ) → tree.contains by_parts more q ≡ cond (is_at (by_parts (w.from, body)) q) true (tree.contains by_parts again q))
    → NotesPush seen new again more o
notes_again seen new again more o w body same one updates adds v e =
    let puts : PutsIn seen new w = λ q. subst (λ n. tree.contains by_parts new q ≡ cond (is_at (by_parts (w.from, n)) q) true (tree.contains by_parts seen q)) same (updates q) in
    let more_puts : PutsIn again more w = λ q. subst (λ n. tree.contains by_parts more q ≡ cond (is_at (by_parts (w.from, n)) q) true (tree.contains by_parts again q)) same (adds q) in
    let lacking = lacks again more w more_puts v e in
    let other : pushes_in (same_value v) o ≡ false = one (same_value v) ∙ lacking.1 in
    let kept = keeps seen new w puts v in
    (lacking.0, subst (λ b. (if has seen v then 1 else 0) + (if b then 1 else 0) ≤ (if has new v then 1 else 0)) (sym other) (omega (arith, kept)))

-- one operation more
pub pushed_more : (seen new again more : BTreeSet (ℕ × ℕ)) (ops : List Stamped) (i : ℕ) (o : Stamped) → i < length ops → o ≡ get_or ops i o → NotesPush seen new again more o
    → ArePushed seen again (take i ops) → ArePushed new more (take (i + 1) ops)
pushed_more seen new again more ops i o lt is notes h v e =
    let f : Stamped → ℕ = λ p. cond (pushes_in (same_value v) p) 1 0 in
    let sums = sum_by_more f ops i o lt in
    let same : f (get_or ops i o) ≡ f o = ap f (sym is) in
    let noted = notes v e in
    let k = h v noted.0 in
    let m = noted.1 in
    omega (arith, sums, same, k, m)

-- what isn't pushed again was pushed at most once
pub all_pushed_again : (seen again : BTreeSet (ℕ × ℕ)) (ops : List Stamped) → ArePushed seen again ops → HasAllPushedAgain ops again
all_pushed_again seen again ops h v e = go (has seen v) (h v e)
  where
    go : (b : Bool) → pushes_of (same_value v) ops ≤ (if b then 1 else 0) → pushes_of (same_value v) ops ≤ 1
    go true k = k
    go false k = omega arith

-- an operation that was told no value leaves the set as it is
pub takes_none : (values : BTreeSet (ℕ × ℕ)) (o : Stamped) → ((kind : Kind) → is_told_in kind o.reply ≡ false) → NotesTake values values o
takes_none values o none v e = (e, none (same_value v))

-- what an operation was told is put in
pub takes_one : (old new : BTreeSet (ℕ × ℕ)) (o : Stamped) (w : Taken) (body : ℕ) → body ≡ w.body → ((kind : Kind) → is_told_in kind o.reply ≡ kind w)
    → ((q : ℕ × ℕ) → tree.contains by_parts new q ≡ cond (is_at (by_parts (w.from, body)) q) true (tree.contains by_parts old q)) → NotesTake old new o
takes_one old new o w body same one updates v e =
    let puts : PutsIn old new w = λ q. subst (λ n. tree.contains by_parts new q ≡ cond (is_at (by_parts (w.from, n)) q) true (tree.contains by_parts old q)) same (updates q) in
    let lacking = lacks old new w puts v e in
    (lacking.0, one (same_value v) ∙ lacking.1)

-- one operation more
pub told_more : (old new : BTreeSet (ℕ × ℕ)) (ops : List Stamped) (i : ℕ) (o : Stamped) → i < length ops → o ≡ get_or ops i o → NotesTake old new o
    → ((v : Taken) → has old v ≡ false → takes_of (same_value v) (take i ops) ≡ 0) → (v : Taken) → has new v ≡ false → takes_of (same_value v) (take (i + 1) ops) ≡ 0
told_more old new ops i o lt is notes h v e =
    let f : Stamped → ℕ = λ p. cond (is_told_in (same_value v) p.reply) 1 0 in
    let sums = sum_by_more f ops i o lt in
    let same : f (get_or ops i o) ≡ f o = ap f (sym is) in
    let noted = notes v e in
    let none : f o ≡ 0 = ap (λ b. cond b 1 0) noted.1 in
    let k = h v noted.0 in
    omega (arith, sums, same, none, k)
