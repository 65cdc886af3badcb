-- The list of all lines has each line, and none twice.
use Prim.Native.Nat.{zero, suc}
use Rattle.std.proofs.Common.{◌≡◌, ◌≢◌, ℕ, ◌+◌, ◌<◌, List, [], ◌∷◌, length, get_or, Bool, true, nat_eq, ◌&&◌, lit<, refl, ap, arith}
use Rattle.std.specs.Prelude.{Contains, AllPairs}
use Rattle.std.proofs.lemmas.Bool.{eqb-true, and_parts}
use Rattle.line_table.specs.declared.lines.Line.{Line}
use Rattle.line_table.specs.declared.lines.Line.TheVariants.{N1, N2, N3, N4, N5, F1, F2, F3, E2, E3, E5, E6, E7, E9, E13, E17, D2, D3, D4, D5, D10}
use Rattle.line_table.specs.declared.lines.Line.TheVariants.{D12, D13, A1, A2, A3, A4, A5, A6, A7, B1, B2, B3, B4, B5, B6, S1, S2, S3, S4, S5, S6, S7}
use Rattle.line_table.specs.declared.lines.Line.TheVariants.{S8, S9}
use Rattle.line_table.specs.declared.lines.TheConstants.Line.{ALL}

-- the place of a line in the list of all lines
abbrev place_of : Line → ℕ
place_of N1 = 0
place_of N2 = 1
place_of N3 = 2
place_of N4 = 3
place_of N5 = 4
place_of F1 = 5
place_of F2 = 6
place_of F3 = 7
place_of E2 = 8
place_of E3 = 9
place_of E5 = 10
place_of E6 = 11
place_of E7 = 12
place_of E9 = 13
place_of E13 = 14
place_of E17 = 15
place_of D2 = 16
place_of D3 = 17
place_of D4 = 18
place_of D5 = 19
place_of D10 = 20
place_of D12 = 21
place_of D13 = 22
place_of A1 = 23
place_of A2 = 24
place_of A3 = 25
place_of A4 = 26
place_of A5 = 27
place_of A6 = 28
place_of A7 = 29
place_of B1 = 30
place_of B2 = 31
place_of B3 = 32
place_of B4 = 33
place_of B5 = 34
place_of B6 = 35
place_of S1 = 36
place_of S2 = 37
place_of S3 = 38
place_of S4 = 39
place_of S5 = 40
place_of S6 = 41
place_of S7 = 42
place_of S8 = 43
place_of S9 = 44

-- each line is in the list of all lines
pub lists_each : (line : Line) → Contains ALL line
lists_each N1 = (0, lit< tt, refl)
lists_each N2 = (1, lit< tt, refl)
lists_each N3 = (2, lit< tt, refl)
lists_each N4 = (3, lit< tt, refl)
lists_each N5 = (4, lit< tt, refl)
lists_each F1 = (5, lit< tt, refl)
lists_each F2 = (6, lit< tt, refl)
lists_each F3 = (7, lit< tt, refl)
lists_each E2 = (8, lit< tt, refl)
lists_each E3 = (9, lit< tt, refl)
lists_each E5 = (10, lit< tt, refl)
lists_each E6 = (11, lit< tt, refl)
lists_each E7 = (12, lit< tt, refl)
lists_each E9 = (13, lit< tt, refl)
lists_each E13 = (14, lit< tt, refl)
lists_each E17 = (15, lit< tt, refl)
lists_each D2 = (16, lit< tt, refl)
lists_each D3 = (17, lit< tt, refl)
lists_each D4 = (18, lit< tt, refl)
lists_each D5 = (19, lit< tt, refl)
lists_each D10 = (20, lit< tt, refl)
lists_each D12 = (21, lit< tt, refl)
lists_each D13 = (22, lit< tt, refl)
lists_each A1 = (23, lit< tt, refl)
lists_each A2 = (24, lit< tt, refl)
lists_each A3 = (25, lit< tt, refl)
lists_each A4 = (26, lit< tt, refl)
lists_each A5 = (27, lit< tt, refl)
lists_each A6 = (28, lit< tt, refl)
lists_each A7 = (29, lit< tt, refl)
lists_each B1 = (30, lit< tt, refl)
lists_each B2 = (31, lit< tt, refl)
lists_each B3 = (32, lit< tt, refl)
lists_each B4 = (33, lit< tt, refl)
lists_each B5 = (34, lit< tt, refl)
lists_each B6 = (35, lit< tt, refl)
lists_each S1 = (36, lit< tt, refl)
lists_each S2 = (37, lit< tt, refl)
lists_each S3 = (38, lit< tt, refl)
lists_each S4 = (39, lit< tt, refl)
lists_each S5 = (40, lit< tt, refl)
lists_each S6 = (41, lit< tt, refl)
lists_each S7 = (42, lit< tt, refl)
lists_each S8 = (43, lit< tt, refl)
lists_each S9 = (44, lit< tt, refl)

-- whether the lines of a list have the places from this one on
abbrev counts_from : ℕ → List Line → Bool
counts_from n [] = true
counts_from n (line ∷ lines) = nat_eq (place_of line) n && counts_from (suc n) lines

-- in such a list a line's place is the one at which it stands
place_of-at : (n : ℕ) (lines : List Line) → counts_from n lines ≡ true → (k : ℕ) (d : Line) → k < length lines
    → place_of (get_or lines k d) ≡ n + k
place_of-at n [] counts k d within = absurd (omega arith)
place_of-at n (line ∷ lines) counts zero d within =
    let parts = and_parts (nat_eq (place_of line) n) (counts_from (suc n) lines) counts in
    let here : place_of line ≡ n = eqb-true (place_of line) n parts.0 in
    omega arith
place_of-at n (line ∷ lines) counts (suc k) d within =
    let parts = and_parts (nat_eq (place_of line) n) (counts_from (suc n) lines) counts in
    let rest : place_of (get_or lines k d) ≡ suc n + k =
    place_of-at (suc n) lines parts.1 k d (omega arith) in
    omega arith

-- no line is twice in the list of all lines
pub lists_once : AllPairs (λ a b. a ≢ b) ALL
lists_once i j d before within same =
    let at_i : place_of (get_or ALL i d) ≡ 0 + i = place_of-at 0 ALL refl i d (omega arith) in
    let at_j : place_of (get_or ALL j d) ≡ 0 + j = place_of-at 0 ALL refl j d within in
    let e : place_of (get_or ALL i d) ≡ place_of (get_or ALL j d) = ap place_of same in
    omega arith
