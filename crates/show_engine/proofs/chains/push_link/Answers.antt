use Rattle.std.proofs.Common.{◌≡◌, ◌+◌, ◌-◌, ◌++◌, ap, sym, ◌∙◌, arith, decimal, append_assoc, List, ℕ}
use Rattle.line_steps.specs.Memory.{Next}
use Rattle.step_machine.specs.declared.accesses.Contents.{Contents}
use Rattle.step_machine.specs.Accesses.{contents_in}
use Rattle.show_engine.specs.Chains.{arrow_text, links_text, node_in, tail_node}
use Rattle.show_engine.proofs.Links.{links_text-more}
use Rattle.show_engine.proofs.chains.push_link.Goals as goal

-- a line goes on with an arrow or a space, a number, and more
regroup : (line arrow digits more : List ℕ) → line ++ (arrow ++ digits ++ more) ≡ ((line ++ arrow) ++ digits) ++ more
regroup line arrow digits more = simp append_assoc

pub returns-clause-text : goal.returns-clause-text
returns-clause-text g c = λ more.
    let bits = g.row.B in
    let s = c.args.world.now.shared in
    let r = c.args.from.now in
    let n = c.node_in-node.result in
    let t = tail_node bits s in
    let line = c.args.line.now in
    let is : n ≡ node_in r = c.node_in-node.ensures in
    let less : more + 1 - 1 ≡ more = omega arith in
    let follows = links_text-more bits s r (more + 1) (omega arith) (λ none. c.if-node-eq0.false (is ∙ none)) in
    let put = c.push.ensures.bytes ∙ ap (λ (l : List ℕ). c.push_arrow.new.line ++ l) (c.as_slice.ensures ∙ c.digits_of.ensures.digits) in
    let pointed = c.push_arrow.ensures.text ∙ ap (λ (k : ℕ). line ++ arrow_text k n) c.tail_node.ensures in
    ap (λ (l : List ℕ). line ++ l)
    (follows
    ∙ ap (λ (k : ℕ). arrow_text t k ++ decimal k ++ links_text bits s (more + 1 - 1) (contents_in bits (Next k) s)) (sym is)
    ∙ ap (λ (k : ℕ). arrow_text t n ++ decimal n ++ links_text bits s k (contents_in bits (Next n) s)) less
    ∙ ap (λ (q : Contents). arrow_text t n ++ decimal n ++ links_text bits s more q) (sym c.holds.ensures))
    ∙ regroup line (arrow_text t n) (decimal n) (links_text bits s more c.holds.result)
    ∙ sym (ap (λ (l : List ℕ). l ++ links_text bits s more c.holds.result) (put ∙ ap (λ (l : List ℕ). l ++ decimal n) pointed))
