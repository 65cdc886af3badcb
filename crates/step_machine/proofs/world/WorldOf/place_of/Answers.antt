-- What is found is the one place of the node, since a made world has its places.
use Rattle.std.proofs.Common.{rules, lit≤, ◌≡◌, ◌≤◌, sym, ap, ◌∙◌, subst, arith}
use Rattle.step_machine.specs.declared.places.Place.TheVariants.{Untouched, Queue, Free, Held, SetAside}
use Rattle.step_machine.specs.Places.{one_if}
use Rattle.step_machine.specs.NodePlaces.{IsAt}
use Rattle.step_machine.specs.Stored.{world}
use Rattle.step_machine.proofs.PlaceOf.{nowhere_else, walkable, queue_place, free_place}
use Rattle.step_machine.proofs.world.WorldOf.place_of.Goals as goal
use Rattle.step_machine.proofs.world.WorldOf.place_of.Given as given

pub returns-then-node-used-clause-nowhere_else : goal.returns-then-node-used-clause-nowhere_else
returns-then-node-used-clause-nowhere_else g c =
    nowhere_else (world g.row.B c.self.inside) _ c.self.view_is c.self.invariant.made c.args.node c.requires.some Untouched (search rules)

pub returns-then-is_aside-clause-nowhere_else : goal.returns-then-is_aside-clause-nowhere_else
returns-then-is_aside-clause-nowhere_else g c =
    nowhere_else (world g.row.B c.self.inside) _ c.self.view_is c.self.invariant.made c.args.node c.requires.some SetAside (search rules)

pub returns-then-is_held-clause-nowhere_else : goal.returns-then-is_held-clause-nowhere_else
returns-then-is_held-clause-nowhere_else g c =
    nowhere_else (world g.row.B c.self.inside) _ c.self.view_is c.self.invariant.made c.args.node c.requires.some Held (search rules)

pub is_in_chain-requires : goal.is_in_chain-requires
is_in_chain-requires g c =
    let can = walkable (world g.row.B c.self.inside) g.row.B c.self.invariant.split c.self.invariant.made in (lit≤ tt, (can.0, can.1))

queued : (g : given.Over) (c : goal.Then-is_in_chain g) → IsAt (world g.row.B c.self.inside) c.args.node Queue
queued g c =
    queue_place g.row.B (world g.row.B c.self.inside) c.self.invariant.split c.self.invariant.made c.args.node c.requires.some c.is_in_chain.result _ _
    (c.node.ensures.value ∙ ap (λ r. r.node) c.head.ensures) c.fresh-used.ensures c.is_in_chain.ensures c.if-is_in_chain.true

pub returns-then-is_in_chain-clause-there : goal.returns-then-is_in_chain-clause-there
returns-then-is_in_chain-clause-there g c = subst (λ w. IsAt w c.args.node Queue) c.self.view_is (queued g c)

pub returns-then-is_in_chain-clause-nowhere_else : goal.returns-then-is_in_chain-clause-nowhere_else
returns-then-is_in_chain-clause-nowhere_else g c =
    nowhere_else (world g.row.B c.self.inside) _ c.self.view_is c.self.invariant.made c.args.node c.requires.some Queue (queued g c)

freed : (g : given.Over) (c : goal.Else-is_in_chain g) → IsAt (world g.row.B c.self.inside) c.args.node Free
freed g c =
    free_place g.row.B (world g.row.B c.self.inside) c.self.invariant.split c.self.invariant.made c.args.node c.requires.some
    (omega (arith, c.if-node-used.false)) c.is_in_chain.result _ _ (c.node.ensures.value ∙ ap (λ r. r.node) c.head.ensures) c.fresh-used.ensures
    c.is_in_chain.ensures c.if-is_in_chain.false (c.is_held.ensures.1 c.if-is_held.false) (ap one_if (sym c.is_aside.ensures ∙ c.if-is_aside.false))

pub returns-clause-there : goal.returns-clause-there
returns-clause-there g c = subst (λ w. IsAt w c.args.node Free) c.self.view_is (freed g c)

pub returns-clause-nowhere_else : goal.returns-clause-nowhere_else
returns-clause-nowhere_else g c =
    nowhere_else (world g.row.B c.self.inside) _ c.self.view_is c.self.invariant.made c.args.node c.requires.some Free (freed g c)
