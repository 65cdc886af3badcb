-- The last one that was made is put ahead, until there is no room.
use Rattle.std.proofs.Common.{◌≡◌, ◌++◌, ◌∷◌, [], refl, sym, ap, ◌∙◌, subst, rules, ◌-◌, length, arith, tests}
use Rattle.std.proofs.lemmas.List.{append-nil, append_assoc, map-append}
use Rattle.std.specs.List.{AllByRecursion}
use Rattle.waiting_orders.specs.Nodes.{Spot, IsIn, turned, view, views}
use Rattle.waiting_orders.specs.Search.{IsPut, WerePut}
use Rattle.waiting_orders.proofs.Counting.{behind, front, put_more}
use Rattle.waiting_orders.proofs.Rooted.{adds_one, all_in}
use Rattle.waiting_orders.proofs.Trying.{turned_next}
use Rattle.waiting_orders.proofs.searching.Search.put_ahead.Goals as goal

pub loop-node-init : goal.loop-node-init
loop-node-init c = ([], refl, refl, (refl, refl), all_in (views c.args.new.items) (views c.args.new.items) (λ u i. i), ([], sym (append-nil c.args.self.now.ahead.keys), tt))

pub loop-node-preserved : goal.loop-node-preserved
loop-node-preserved c =
    let inv = c.loop-node.invariant in
    let node = c.in-Some.node in
    let put = subst (λ done. IsPut c.args.room (views done.keys) (views c.loop-node.self.ahead.keys) c.loop-node.self.bytes (view node) (views c.put_last.new.self.ahead.keys) c.put_last.new.self.bytes) inv.1
    (c.in_ok-put_last.ensures.put c.if-not-branch.false) in
    let made = λ (u : Spot). IsIn u (views c.args.new.items) in
    let mine = subst (AllByRecursion made) (ap views c.in-Some.ensures.items ∙ map-append view c.pop.new.self.items (node ∷ [])) inv.4 in
    let parent : c.saturating_sub-parent.result ≡ length c.args.self.now.done.keys - 1 = grind (arith, tests, c.saturating_sub-parent.ensures, c.len.ensures) in (
      inv.0 ++ view node ∷ [],
      c.in_ok-put_last.ensures.same ∙ inv.1,
      turned_next _ inv.0 c.loop-node.new.items c.pop.new.self.items node c.in-Some.ensures.items inv.2 ∙ sym (append_assoc inv.0 (view node ∷ []) (turned (views c.pop.new.self.items))),
      put_more c.args.room (views c.args.self.now.done.keys) (views c.args.self.now.ahead.keys) c.args.self.now.bytes inv.0 (view node) (views c.loop-node.self.ahead.keys) c.loop-node.self.bytes
          (views c.put_last.new.self.ahead.keys) c.put_last.new.self.bytes inv.3 put,
      front made (views c.pop.new.self.items) (view node ∷ []) mine,
      adds_one c.args.self.now.done.keys c.args.self.now.ahead.keys c.loop-node.self.ahead.keys c.put_last.new.self.ahead.keys (record node { parent = c.saturating_sub-parent.result })
          (views c.args.new.items) parent (behind made (views c.pop.new.self.items) (view node ∷ []) mine).0 inv.5 (c.in_ok-put_last.ensures.stands c.if-not-branch.false),
    )

pub returns-then-not-branch-clause-full : goal.returns-then-not-branch-clause-full
returns-then-not-branch-clause-full c = λ e.
    let inv = c.loop-node.invariant in
    let node = c.in-Some.node in
    record {
      before = inv.0;
      last = view node;
      later = turned (views c.pop.new.self.items);
      split = turned_next _ inv.0 c.loop-node.new.items c.pop.new.self.items node c.in-Some.ensures.items inv.2;
      after = views c.loop-node.self.ahead.keys;
      now = c.loop-node.self.bytes;
      put = inv.3;
      unknown = subst (λ done. IsIn (view node) (views done.keys ++ views c.loop-node.self.ahead.keys) → ⊥) inv.1 (c.in_ok-put_last.ensures.new c.if-not-branch.true);
      full = c.in_ok-put_last.ensures.full c.if-not-branch.true;
    }

pub returns-clause-all : goal.returns-clause-all
returns-clause-all c = λ e.
    let inv = c.loop-node.invariant in
    let none : c.loop-node.new.items ≡ [] = search rules in
    let all : turned (views c.args.new.items) ≡ inv.0 = inv.2 ∙ ap (λ l. inv.0 ++ turned (views l)) none ∙ append-nil inv.0 in
    subst (λ l. WerePut c.args.room (views c.args.self.now.done.keys) (views c.args.self.now.ahead.keys) c.args.self.now.bytes l (views c.loop-node.self.ahead.keys) c.loop-node.self.bytes) (sym all) inv.3

pub returns-clause-behind : goal.returns-clause-behind
returns-clause-behind c = λ e. c.loop-node.invariant.5
