-- The words of one more blank node and one more flag change nothing that is seen.
use Rattle.std.proofs.Common.{◌≡◌, ℕ, ◌+◌, ◌*◌, ◌<◌, ◌++◌, ◌∷◌, [], List, length, length-append, vec_len, refl, sym, arith, ◌∙◌, ap, subst}
use Rattle.line_steps.specs.Words.{IsTable}
use Rattle.line_steps.proofs.Tables.{table-push}
use Rattle.line_steps.proofs.Seen.{grown, room_left}
use Rattle.line_steps.proofs.memory.MemoryOf.add_node.Goals as goal
use Rattle.line_steps.proofs.memory.MemoryOf.add_node.Given as given

more : (g : given.Over) (c : goal.After-push_blank g) → c.push_blank.new.words.items ≡ c.self.inside.words.items ++ 0 ∷ 0 ∷ []
more g c = c.push_blank.ensures ∙ ap (λ ws. ws ++ 0 ∷ 0 ∷ []) c.reserve.ensures.items

left : (g : given.Over) (c : goal.After-push_blank g) → vec_len c.self.inside.aside < c.self.inside.size
left g c = room_left g.row.B _ _ c.self.view_is c.self.inside.size c.self.inside.words.items refl c.self.invariant.words c.requires

longer : (ws : List ℕ) (n : ℕ) → length ws ≡ 6 + 2 * n → length (ws ++ 0 ∷ 0 ∷ []) ≡ 6 + 2 * (n + 1)
longer ws n e = omega (arith, length-append ws (0 ∷ 0 ∷ []))

pub invariant_of-self-2 : goal.invariant_of-self-2
invariant_of-self-2 g c =
    let room : vec_len c.push.new.self ≡ vec_len c.self.inside.aside + 1 = c.in_ok-push.ensures.len in
    let less : vec_len c.self.inside.aside < c.self.inside.size = left g c in
    record {
      split = c.self.invariant.split;
      table = subst IsTable (sym (more g c)) (table-push c.self.inside.words.items c.self.invariant.table);
      words = ap length (more g c) ∙ longer c.self.inside.words.items _ c.self.invariant.words ∙ ap (λ n. 6 + 2 * n) (sym room);
      few = omega arith;
    }

pub returns-clause-ok : goal.returns-clause-ok
returns-clause-ok g c =
    grown g.row.B _ _ c.self.view_is c.self.inside.size c.self.inside.words.items _ c.self.inside.aside.items c.push.new.self.items _ refl refl
    c.self.invariant.words (sym c.self.inside.aside.ok.0) (left g c) (more g c) c.in_ok-push.ensures.items c.in_ok-push.ensures.len
