use Rattle.std.proofs.Common.{◌≡◌, ℕ, ◌-◌, ◌++◌, ◌∷◌, [], sym, ap, subst, ◌∙◌, arith}
use Rattle.schedule_text.specs.ShortLines.{Held, IsHeldBy}
use Rattle.schedule_text.proofs.Holding.{held_space, held_early, held_other, held_digit, not_digit}
use Rattle.schedule_text.proofs.held.HeldLine.push.Goals as goal

pub returns-then-byte-eq-SPACE : goal.returns-then-byte-eq-SPACE
returns-then-byte-eq-SPACE c = λ says held.
    subst (λ (m : Held). IsHeldBy m.is_over m.bytes 21 (says ++ c.args.byte ∷ [])) (sym c.self.view_is)
    (held_space c.args.self.now c.keep.new.self says c.args.byte c.if-byte-eq-SPACE.true c.keep.ensures.kept held)

pub returns-then-self-gt0 : goal.returns-then-self-gt0
returns-then-self-gt0 c = λ says held.
    let before : c.self-else-byte-eq-SPACE.inside.room ≡ c.args.self.now.room = ap (λ (h : Held). h.room) c.self-else-byte-eq-SPACE.view_is in
    let after : c.self-then-self-gt0.inside.room ≡ c.keep-then-self-gt0.new.self.room = ap (λ (h : Held). h.room) c.self-then-self-gt0.view_is in
    let same : c.args.self.now.room ≡ c.self-then-self-gt0.inside.room = sym c.keep-then-self-gt0.ensures.room ∙ sym after in
    let mid = c.keep-then-self-gt0.new.self in
    subst (λ (m : Held). IsHeldBy m.is_over m.bytes (c.self-then-self-gt0.inside.room - 1) (says ++ c.args.byte ∷ [])) (sym c.self-then-self-gt0.view_is)
    (subst (λ (n : ℕ). IsHeldBy mid.is_over mid.bytes (n - 1) (says ++ c.args.byte ∷ [])) same
    (held_early c.args.self.now mid says c.args.byte c.if-byte-eq-SPACE.false (omega arith) c.keep-then-self-gt0.ensures.kept held))

pub returns-then-not-is_ascii_digit : goal.returns-then-not-is_ascii_digit
returns-then-not-is_ascii_digit c = λ says held.
    let before : c.self-else-byte-eq-SPACE.inside.room ≡ c.args.self.now.room = ap (λ (h : Held). h.room) c.self-else-byte-eq-SPACE.view_is in
    held_other c.args.self.now c.keep-then-not-is_ascii_digit.new.self says c.args.byte c.if-byte-eq-SPACE.false (omega arith)
    (not_digit c.args.byte (rw c.if-not-is_ascii_digit.true at c.is_ascii_digit.ensures.cases)) c.keep-then-not-is_ascii_digit.ensures.room
    c.keep-then-not-is_ascii_digit.ensures.kept held

pub returns-else-not-is_ascii_digit : goal.returns-else-not-is_ascii_digit
returns-else-not-is_ascii_digit c = λ says held.
    let before : c.self-else-byte-eq-SPACE.inside.room ≡ c.args.self.now.room = ap (λ (h : Held). h.room) c.self-else-byte-eq-SPACE.view_is in
    held_digit c.args.self.now says c.args.byte (omega arith) (rw c.if-not-is_ascii_digit.false at c.is_ascii_digit.ensures.cases) held
