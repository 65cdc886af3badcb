-- Calls as they were at a number, marked one after another.
use Rattle.std.proofs.Common.{◌≡◌, ◌∙◌, inl, inr, ℕ, ◌+◌, ◌-◌, ◌≤◌, ◌<◌, true, false, Bool, cond, nat_le, Some, All, List, [], ◌∷◌, ◌++◌, map, length, take, get_or, slice_get, refl, sym, ap, subst, arith}
use Rattle.std.specs.List.{filter}
use Rattle.std.proofs.lemmas.Bool.{cases_lt, le-leb, lt-leb}
use Rattle.std.proofs.lemmas.List.{append-nil, map-append}
use Rattle.std.proofs.lemmas.List.Elements.{All-push, filter_more}
use Rattle.std.proofs.lemmas.Option.{slice_get_read}
use Rattle.history.specs.declared.operations.Stamped.{Stamped}
use Rattle.placing.specs.declared.marks.Marked.{Marked}
use Rattle.placing.specs.Parts.{all_of, begun, cut, marked, part_of, AddsCall}
use Rattle.placing.specs.Reasons.{IsCutOf, StandsAt}

-- calls are those of the operations up to an index that began by a number, as they were then, each at its place
pub record AreMarked (ops : List Stamped) (time i : ℕ) (calls : List Marked) : Type 0 where
  pub all : all_of calls ≡ begun time (take i ops)
  pub each : All (IsCutOf ops time) calls

stands_at : (ops : List Stamped) (i : ℕ) (o : Stamped) → i < length ops → o ≡ get_or ops i o → StandsAt ops (i + 1) o
stands_at ops i o lt is = record {
  from_one = omega arith;
  there =
      let e : i ≡ i + 1 - 1 = omega arith in
      subst (λ (n : ℕ). slice_get ops n ≡ Some o) e (slice_get_read ops (length ops) i o refl lt is);
}

begun_more : (ops : List Stamped) (time i : ℕ) (o : Stamped) → i < length ops → o ≡ get_or ops i o
    → begun time (take (i + 1) ops) ≡ begun time (take i ops) ++ map (cut time) (cond (nat_le o.first time) (o ∷ []) [])
begun_more ops time i o lt is =
    ap (map (cut time)) (filter_more (λ (p : Stamped). nat_le p.first time) ops i o lt)
    ∙ map-append (cut time) (filter (λ (p : Stamped). nat_le p.first time) (take i ops)) (cond (nat_le (get_or ops i o).first time) (get_or ops i o ∷ []) [])
    ∙ ap (λ (p : Stamped). begun time (take i ops) ++ map (cut time) (cond (nat_le p.first time) (p ∷ []) [])) (sym is)

-- an operation that began by the number
marked_more : (ops : List Stamped) (time i : ℕ) (o : Stamped) (is_in : Bool) (calls more : List Marked) → i < length ops → o ≡ get_or ops i o → o.first ≤ time
    → more ≡ calls ++ marked time (i + 1) is_in o ∷ [] → AreMarked ops time i calls → AreMarked ops time (i + 1) more
marked_more ops time i o is_in calls more lt is first pushed h =
    let call : Marked = marked time (i + 1) is_in o in
    subst (AreMarked ops time (i + 1)) (sym pushed) (record {
      all =
          map-append (λ (m : Marked). m.operation) calls (call ∷ []) ∙ ap (λ (os : List Stamped). os ++ cut time o ∷ []) h.all
          ∙ ap (λ (b : Bool). begun time (take i ops) ++ map (cut time) (cond b (o ∷ []) [])) (sym (le-leb o.first time first)) ∙ sym (begun_more ops time i o lt is);
      each = All-push (IsCutOf ops time) calls call h.each (record { operation = o; stands = stands_at ops i o lt is; is = refl });
    })

-- one that began later
marked_none : (ops : List Stamped) (time i : ℕ) (o : Stamped) (calls : List Marked) → i < length ops → o ≡ get_or ops i o → time < o.first
    → AreMarked ops time i calls → AreMarked ops time (i + 1) calls
marked_none ops time i o calls lt is late h = record {
  all =
      h.all ∙ sym (append-nil (begun time (take i ops)))
      ∙ ap (λ (b : Bool). begun time (take i ops) ++ map (cut time) (cond b (o ∷ []) [])) (sym (lt-leb o.first time late)) ∙ sym (begun_more ops time i o lt is);
  each = h.each;
}

-- an operation more
pub adds_more : (ops : List Stamped) (time i : ℕ) (is_in : Bool) (o : Stamped) (calls more : List Marked) → i < length ops → o ≡ get_or ops i o
    → AddsCall time (i + 1) is_in o calls more → AreMarked ops time i calls → AreMarked ops time (i + 1) more
adds_more ops time i is_in o calls more lt is adds h = elim (cases_lt time o.first) [
  | inl late ↦ subst (AreMarked ops time (i + 1)) (sym (adds.late late)) (marked_none ops time i o calls lt is late h)
  | inr early ↦ marked_more ops time i o is_in calls more lt is early (adds.early early) h
]

-- ---- the part of some calls, one after another

part_more : (calls : List Marked) (i : ℕ) (call : Marked) → i < length calls → call ≡ get_or calls i call
    → part_of (take (i + 1) calls) ≡ part_of (take i calls) ++ all_of (cond call.is_in (call ∷ []) [])
part_more calls i call lt is =
    ap all_of (filter_more (λ (m : Marked). m.is_in) calls i call lt)
    ∙ map-append (λ (m : Marked). m.operation) (filter (λ (m : Marked). m.is_in) (take i calls)) (cond (get_or calls i call).is_in (get_or calls i call ∷ []) [])
    ∙ ap (λ (m : Marked). part_of (take i calls) ++ all_of (cond m.is_in (m ∷ []) [])) (sym is)

-- a call more that is in the part
pub takes_in : (calls : List Marked) (i : ℕ) (call : Marked) (part more : List Stamped) → i < length calls → call ≡ get_or calls i call → call.is_in ≡ true
    → part ≡ part_of (take i calls) → more ≡ part ++ call.operation ∷ [] → more ≡ part_of (take (i + 1) calls)
takes_in calls i call part more lt is inside h pushed =
    pushed ∙ ap (λ (os : List Stamped). os ++ call.operation ∷ []) h
    ∙ ap (λ (b : Bool). part_of (take i calls) ++ all_of (cond b (call ∷ []) [])) (sym inside) ∙ sym (part_more calls i call lt is)

-- one that isn't
pub leaves_out : (calls : List Marked) (i : ℕ) (call : Marked) (part : List Stamped) → i < length calls → call ≡ get_or calls i call → call.is_in ≡ false
    → part ≡ part_of (take i calls) → part ≡ part_of (take (i + 1) calls)
leaves_out calls i call part lt is outside h =
    h ∙ sym (append-nil (part_of (take i calls)))
    ∙ ap (λ (b : Bool). part_of (take i calls) ++ all_of (cond b (call ∷ []) [])) (sym outside) ∙ sym (part_more calls i call lt is)
