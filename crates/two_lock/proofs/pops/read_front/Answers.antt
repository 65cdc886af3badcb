use Rattle.std.proofs.Common.{IsTrue, sym, subst, ◌∙◌, lit≤}
use Rattle.node_arena.specs.Plans.{may_pop}
use Rattle.two_lock.proofs.UnderLock.{to_b3, front_to_b4, front_to_b5, to_b6_empty, to_b6_worn, to_b6_value, saw_empty, saw_worn, took, look_bare}
use Rattle.two_lock.proofs.pops.read_front.Goals as goal

pub b3-next-requires : goal.b3-next-requires
b3-next-requires g c = (lit≤ tt, (lit≤ tt, to_b3 _ _ _ _ _ _ c.requires.stands c.b2-a.ensures))

pub b6-requires : goal.b6-requires
b6-requires g c =
    let at_b3 = to_b3 _ _ _ _ _ _ c.requires.stands c.b2-a.ensures in
    (lit≤ tt, (lit≤ tt, to_b6_empty _ _ _ _ _ _ at_b3 c.b3-next.ensures c.in-B6.is))

pub returns-in-B6 : goal.returns-in-B6
returns-in-B6 g c = saw_empty _ _ _ _ _ _ _ _ _ _ _ c.requires.stands c.b2-a.ensures c.b3-next.ensures c.in-B6.is c.b6.ensures

pub b4-next-requires : goal.b4-next-requires
b4-next-requires g c =
    (lit≤ tt, (lit≤ tt, front_to_b4 _ _ _ _ _ _ _ _ _ c.requires.stands c.b2-a.ensures c.b3-next.ensures c.in_default.not-B6))

pub b6-requires-in-B6-next : goal.b6-requires-in-B6-next
b6-requires-in-B6-next g c =
    let at_b4 = front_to_b4 _ _ _ _ _ _ _ _ _ c.requires.stands c.b2-a.ensures c.b3-next.ensures c.in_default.not-B6 in
    (lit≤ tt, (lit≤ tt, to_b6_worn _ _ _ _ _ _ at_b4 c.b4-next.ensures c.in-B6-next.is))

pub returns-in-B6-next : goal.returns-in-B6-next
returns-in-B6-next g c =
    saw_worn _ _ _ _ _ _ _ _ _ _ _ _ c.requires.stands c.b2-a.ensures c.b3-next.ensures c.in_default.not-B6 c.b4-next.ensures
    _ _ c.in-B6-next.is c.b6-in-B6-next.ensures

pub b5-a-requires : goal.b5-a-requires
b5-a-requires g c =
    let at_b5 = front_to_b5 _ _ _ _ _ _ _ _ _ _ _ _ c.requires.stands c.b2-a.ensures c.b3-next.ensures c.in_default.not-B6
    c.b4-next.ensures c.in_default-next.not-B6 in
    let role = c.b4-next.ensures.did.stored.role ∙ c.b3-next.ensures.did.stored.role ∙ c.b2-a.ensures.did.stored.role in
    let bare = look_bare _ _ _ _ _ _ _ _ _ _ _ _ c.requires.stands c.b2-a.ensures c.b3-next.ensures c.in_default.not-B6 c.b4-next.ensures c.requires.bare in
    (lit≤ tt, (lit≤ tt, (at_b5, (bare, subst (λ x. IsTrue (may_pop x)) (sym role) c.requires.role))))

pub b6-requires-2 : goal.b6-requires-2
b6-requires-2 g c =
    let at_b5 = front_to_b5 _ _ _ _ _ _ _ _ _ _ _ _ c.requires.stands c.b2-a.ensures c.b3-next.ensures c.in_default.not-B6
    c.b4-next.ensures c.in_default-next.not-B6 in
    (lit≤ tt, (lit≤ tt, to_b6_value _ _ _ _ _ _ at_b5 c.b5-a.ensures))

pub returns : goal.returns
returns g c =
    took _ _ _ _ _ _ _ _ _ _ _ _ c.requires.stands c.b2-a.ensures c.b3-next.ensures c.in_default.not-B6 c.b4-next.ensures
    _ _ _ _ _ c.in_default-next.not-B6 c.b5-a.ensures c.b6-2.ensures
