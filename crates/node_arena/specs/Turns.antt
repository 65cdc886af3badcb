-- Failed turns: an actor went back to the start of its turn.
use Rattle.std.specs.Prelude.{ℕ, Option, Some, List}
use Rattle.std.specs.List.{sum_by}
use Rattle.line_table.specs.declared.lines.Line.{Line}
use Rattle.line_table.specs.declared.lines.Line.TheVariants.{N1, N4, N5, F1, F3, E5, E7, E9, E13, D2, D5, D10, D13, A3, B1, S1, S3, S4, S5, S6}
use Rattle.node_arena.specs.Traces.{Event}

-- whether an actor stands before N1, as a number
abbrev pub at_n1 : Option Line → ℕ
at_n1 (Some N1) = 1
at_n1 to = 0

-- whether an actor stands before F1, as a number
abbrev pub at_f1 : Option Line → ℕ
at_f1 (Some F1) = 1
at_f1 to = 0

-- whether an actor stands before E5, as a number
abbrev pub at_e5 : Option Line → ℕ
at_e5 (Some E5) = 1
at_e5 to = 0

-- whether an actor stands before D2, as a number
abbrev pub at_d2 : Option Line → ℕ
at_d2 (Some D2) = 1
at_d2 to = 0

-- whether an actor stands before A3, as a number
abbrev pub at_a3 : Option Line → ℕ
at_a3 (Some A3) = 1
at_a3 to = 0

-- whether an actor stands before B1, as a number
abbrev pub at_b1 : Option Line → ℕ
at_b1 (Some B1) = 1
at_b1 to = 0

-- whether an actor stands before S1, as a number
abbrev pub at_s1 : Option Line → ℕ
at_s1 (Some S1) = 1
at_s1 to = 0

-- whether an actor stands before S6, as a number
abbrev pub at_s6 : Option Line → ℕ
at_s6 (Some S6) = 1
at_s6 to = 0

-- whether a turn failed at a line, by where it went, as a number: a lost N4, N5, F3, E9, D13, A3, B1, S4 or S6, a
-- difference at E7, D5 or S3, and each E13, D10 and S5
abbrev pub failed_at : Line → Option Line → ℕ
failed_at N4 to = at_n1 to
failed_at N5 to = at_n1 to
failed_at F3 to = at_f1 to
failed_at E7 to = at_e5 to
failed_at E9 to = at_e5 to
failed_at E13 to = at_e5 to
failed_at D5 to = at_d2 to
failed_at D10 to = at_d2 to
failed_at D13 to = at_d2 to
failed_at A3 to = at_a3 to
failed_at B1 to = at_b1 to
failed_at S3 to = at_s1 to
failed_at S4 to = at_s1 to
failed_at S5 to = at_s1 to
failed_at S6 to = at_s6 to
failed_at l to = 0

-- how many turns failed on a path
abbrev pub failed_turns : List Event → ℕ
failed_turns es = sum_by (λ e. failed_at e.line e.to) es
