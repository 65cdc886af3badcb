-- A no by shape, span or place, in words: of the first operation with such a fault, the first fault that it has.
use Rattle.std.proofs.Common.{◌≡◌, ℕ, Bool, true, false, Some, List, ◌↔◌, refl}
use Rattle.std.proofs.lemmas.Bool.{true_from_ne_false, both_ways}
use Rattle.history.specs.declared.operations.Stamped.{Stamped}
use Rattle.history.specs.declared.operations.Verdict.TheVariants.{No}
use Rattle.history.specs.declared.operations.Cause.{Cause}
use Rattle.history.specs.declared.operations.Cause.TheVariants.{Shape, Span, Shared, Reply}
use Rattle.history.specs.History.{is_shaped, lies_within, is_shared, fault_of, verdict}
use Rattle.history.specs.Faults.{IsMisshapen, IsOutside, SharesPlace, FirstFaultIs, FirstIsMisshapen, FirstIsOutside, FirstIsShared}
use Rattle.history.proofs.Finding.{seen, told_is_fault, fault_is_told}
use Rattle.history.proofs.Faulty.{misshapen, shape_fails, outside, span_fails, shares, sharing_passes}

-- the same fault in other words
refit : (F G : List Stamped → Stamped → Type 0) → ((earlier : List Stamped) (o : Stamped) → F earlier o → G earlier o)
    → (ops : List Stamped) (place : ℕ) → FirstFaultIs F ops place → FirstFaultIs G ops place
refit F G f ops place h = record {
  earlier = h.earlier;
  operation = h.operation;
  stands = h.stands;
  before = h.before;
  fault = f h.earlier h.operation h.fault;
}

-- a no by a cause of these is the first fault, which is said in other words
as_fault : (c : Cause) → (Reply ≡ c → ⊥) → (F : List Stamped → Stamped → Type 0)
    → ((earlier : List Stamped) (o : Stamped) → (fault_of earlier o ≡ Some c) ↔ F earlier o) → (ops : List Stamped) (place : ℕ)
    → (verdict ops ≡ No place c) ↔ FirstFaultIs F ops place
as_fault c n F f ops place = (
  λ h. refit (λ earlier o. fault_of earlier o ≡ Some c) F (λ earlier o. (f earlier o).0) ops place (told_is_fault ops place c n h),
  λ h. fault_is_told ops place c (refit F (λ earlier o. fault_of earlier o ≡ Some c) (λ earlier o. (f earlier o).1) ops place h),
)

seen_shape : (b c d : Bool) → (seen b c d ≡ Some Shape) ↔ (b ≡ false)
seen_shape false c d = (λ h. refl, λ h. refl)
seen_shape true false d = (λ h. cc h, λ h. cc h)
seen_shape true true true = (λ h. cc h, λ h. cc h)
seen_shape true true false = (λ h. cc h, λ h. cc h)

seen_span : (b c d : Bool) → (seen b c d ≡ Some Span) ↔ ((b ≡ true) × (c ≡ false))
seen_span false c d = (λ h. cc h, λ h. cc (h.0))
seen_span true false d = (λ h. (refl, refl), λ h. refl)
seen_span true true true = (λ h. cc h, λ h. cc (h.1))
seen_span true true false = (λ h. cc h, λ h. cc (h.1))

seen_shared : (b c d : Bool) → (seen b c d ≡ Some Shared) ↔ ((b ≡ true) × (c ≡ true) × (d ≡ true))
seen_shared false c d = (λ h. cc h, λ h. cc (h.0))
seen_shared true false d = (λ h. cc h, λ h. cc (h.1))
seen_shared true true true = (λ h. (refl, refl, refl), λ h. refl)
seen_shared true true false = (λ h. cc h, λ h. cc (h.2))

shaped : (o : Stamped) → is_shaped o.last o.at o.reply ≡ true → ¬ (IsMisshapen o)
shaped o e h = both_ways _ (shape_fails o.last o.at o.reply h) e

shaped_from : (o : Stamped) → ¬ (IsMisshapen o) → is_shaped o.last o.at o.reply ≡ true
shaped_from o n = true_from_ne_false _ (λ e. n (misshapen o.last o.at o.reply e))

within : (o : Stamped) → lies_within o.first o.last o.at ≡ true → ¬ (IsOutside o)
within o e h = both_ways _ (span_fails o.first o.last o.at h) e

within_from : (o : Stamped) → ¬ (IsOutside o) → lies_within o.first o.last o.at ≡ true
within_from o n = true_from_ne_false _ (λ e. n (outside o.first o.last o.at e))

-- a no by shape
pub first_is_misshapen : (ops : List Stamped) (place : ℕ) → (verdict ops ≡ No place Shape) ↔ FirstIsMisshapen ops place
first_is_misshapen = as_fault Shape (λ e. cc e) (λ earlier o. IsMisshapen o) words
  where
    words : (earlier : List Stamped) (o : Stamped) → (fault_of earlier o ≡ Some Shape) ↔ IsMisshapen o
    words earlier o =
        let s = seen_shape (is_shaped o.last o.at o.reply) (lies_within o.first o.last o.at) (is_shared o earlier) in
        (λ h. misshapen o.last o.at o.reply (s.0 h), λ h. s.1 (shape_fails o.last o.at o.reply h))

-- a no by span
pub first_is_outside : (ops : List Stamped) (place : ℕ) → (verdict ops ≡ No place Span) ↔ FirstIsOutside ops place
first_is_outside = as_fault Span (λ e. cc e) (λ earlier o. ¬ (IsMisshapen o) × IsOutside o) words
  where
    words : (earlier : List Stamped) (o : Stamped) → (fault_of earlier o ≡ Some Span) ↔ (¬ (IsMisshapen o) × IsOutside o)
    words earlier o =
        let s = seen_span (is_shaped o.last o.at o.reply) (lies_within o.first o.last o.at) (is_shared o earlier) in (
          λ h. let t = s.0 h in (shaped o t.0, outside o.first o.last o.at t.1),
          λ h. s.1 (shaped_from o h.0, span_fails o.first o.last o.at h.1),
        )

-- a no by a shared place
pub first_is_shared : (ops : List Stamped) (place : ℕ) → (verdict ops ≡ No place Shared) ↔ FirstIsShared ops place
first_is_shared = as_fault Shared (λ e. cc e) (λ earlier o. ¬ (IsMisshapen o) × ¬ (IsOutside o) × SharesPlace earlier o) words
  where
    words : (earlier : List Stamped) (o : Stamped) → (fault_of earlier o ≡ Some Shared) ↔ (¬ (IsMisshapen o) × ¬ (IsOutside o) × SharesPlace earlier o)
    words earlier o =
        let s = seen_shared (is_shaped o.last o.at o.reply) (lies_within o.first o.last o.at) (is_shared o earlier) in (
          λ h. let t = s.0 h in (shaped o t.0, within o t.1, shares o earlier t.2),
          λ h. s.1 (shaped_from o h.0, within_from o h.1, sharing_passes o earlier h.2),
        )
