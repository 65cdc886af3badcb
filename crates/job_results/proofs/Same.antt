-- Jobs that are the same.
use Rattle.std.proofs.Common.{◌≡◌, ◌∙◌, sym, ap, refl, ◌*◌, true, false, Bool, ◌&&◌, eqb-true, length, arith}
use Rattle.std.specs.Cmp.Lexicographic.{same_text}
use Rattle.job_results.specs.declared.jobs.Job.{Job}
use Rattle.job_results.specs.declared.jobs.Job.TheVariants.{Add, Mul, Div, Len}
use Rattle.job_results.specs.declared.jobs.Value.TheVariants.{Number}
use Rattle.job_results.specs.Jobs.{kind_of, value_of, quotient, same_job}

-- both tests hold where one of both does
pub both : (a b : Bool) → (a && b) ≡ true → (a ≡ true) × (b ≡ true)
both true true h = (refl, refl)
both true false h = absurd (cc h)
both false b h = absurd (cc h)

-- where two tests hold, both hold
pub true_both : (a b : Bool) → a ≡ true → b ≡ true → (a && b) ≡ true
true_both true true _ _ = refl
true_both true false _ h = absurd (cc h)
true_both false b h _ = absurd (cc h)

-- jobs that are the same have one kind
pub kind_of-same : (a b : Job) → same_job a b ≡ true → kind_of a ≡ kind_of b
kind_of-same (Add a b) (Add c d) h = refl
kind_of-same (Mul a b) (Mul c d) h = refl
kind_of-same (Div a b) (Div c d) h = refl
kind_of-same (Len s) (Len t) h = refl
kind_of-same _ _ h = absurd (cc h)

-- jobs that are the same have one value
pub value_of-same : (a b : Job) → same_job a b ≡ true → value_of a ≡ value_of b
value_of-same (Add a b) (Add c d) h = ap Number (omega (arith, eqb-true a c (both _ _ h).0, eqb-true b d (both _ _ h).1))
value_of-same (Mul a b) (Mul c d) h = ap (λ n. Number (n * b)) (eqb-true a c (both _ _ h).0) ∙ ap (λ n. Number (c * n)) (eqb-true b d (both _ _ h).1)
value_of-same (Div a b) (Div c d) h = ap (λ n. quotient n b) (eqb-true a c (both _ _ h).0) ∙ ap (λ n. quotient c n) (eqb-true b d (both _ _ h).1)
value_of-same (Len s) (Len t) h = ap Number (omega (arith, ap length (same_text s.bytes.items t.bytes.items (sym h)), s.bytes.ok.0, t.bytes.ok.0))
value_of-same _ _ h = absurd (cc h)
