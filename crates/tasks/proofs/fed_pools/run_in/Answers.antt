use Rattle.std.proofs.Common.{sym, subst, arith, ◌∙◌}
use denote.Param.Send.{sendable}
use Rattle.carriers.specs.Ends.{AsksSoMany}
use Rattle.tasks.specs.FedPools.{AreRooms}
use Rattle.tasks.proofs.Posting.{on}
use Rattle.tasks.proofs.Starting.{new_posts, new_leader, new_ended, new_many}
use Rattle.tasks.proofs.fed_pools.run_in.Goals as goal

pub run_team-crew-requires-clause-bounds : goal.run_team-crew-requires-clause-bounds
run_team-crew-requires-clause-bounds g c κs within =
    let b = c.type_bounds in
    (b.sync-R, b.sync-C, b.sync-D, b.send-T, b.send-T-Output, b.send-T-Error, search (sendable, b.send-C-Seat) depth 20, search (sendable, b.send-D-Seat) depth 20)

pub run_team-crew-requires-clause-posts : goal.run_team-crew-requires-clause-posts
run_team-crew-requires-clause-posts g c κs within =
    new_posts _ _ _ c.requires.tasks c.requires.results c.in-Some.ensures.items c.in-Some-pop.ensures.items c.posts_of-posts.ensures.takers
    c.posts_of-posts.ensures.givers c.new-queue.ensures c.new-answers.ensures

pub run_team-crew-requires-clause-leading : goal.run_team-crew-requires-clause-leading
run_team-crew-requires-clause-leading g c κs within =
    new_leader _ _ _ c.requires.tasks c.requires.results c.in-Some.ensures.items c.in-Some-pop.ensures.items c.posts_of-posts.ensures.takers
    c.posts_of-posts.ensures.givers c.new-queue.ensures c.new-answers.ensures g.T.Task.answers g.F.Feed.stands c.args.feed c.requires.feed

pub closed-requires-clause-tasks_asked : goal.closed-requires-clause-tasks_asked
closed-requires-clause-tasks_asked g c κs within =
    let many = new_many _ _ _ c.requires.tasks c.requires.results c.in-Some.ensures.items c.in-Some-pop.ensures.items c.posts_of-posts.ensures.takers
    c.posts_of-posts.ensures.givers c.new-queue.ensures c.new-answers.ensures g.T.Task.answers _ c.run_team-crew.ensures.back in
    on (AsksSoMany g.C.CloseCarrier.asks) (sym (c.into_inner.ensures ∙ c.new-queue.ensures)) many c.requires.tasks_asked

pub closed-requires-clause-results_asked : goal.closed-requires-clause-results_asked
closed-requires-clause-results_asked g c κs within =
    let many = new_many _ _ _ c.requires.tasks c.requires.results c.in-Some.ensures.items c.in-Some-pop.ensures.items c.posts_of-posts.ensures.takers
    c.posts_of-posts.ensures.givers c.new-queue.ensures c.new-answers.ensures g.T.Task.answers _ c.run_team-crew.ensures.back in
    on (AsksSoMany g.D.CloseCarrier.asks) (sym (c.into_inner-2.ensures ∙ c.new-answers.ensures)) (sym c.requires.same ∙ many) c.requires.results_asked

pub closed-requires-clause-rooms : goal.closed-requires-clause-rooms
closed-requires-clause-rooms g c κs within =
    let many = new_many _ _ _ c.requires.tasks c.requires.results c.in-Some.ensures.items c.in-Some-pop.ensures.items c.posts_of-posts.ensures.takers
    c.posts_of-posts.ensures.givers c.new-queue.ensures c.new-answers.ensures g.T.Task.answers _ c.run_team-crew.ensures.back in
    subst (λ n. AreRooms n c.args.space.rooms) many c.requires.space.rooms

pub closed-requires-clause-ended : goal.closed-requires-clause-ended
closed-requires-clause-ended g c κs within =
    new_ended _ _ _ c.requires.tasks c.requires.results c.in-Some.ensures.items c.in-Some-pop.ensures.items c.posts_of-posts.ensures.takers
    c.posts_of-posts.ensures.givers c.new-queue.ensures c.new-answers.ensures g.T.Task.answers g.F.Feed.stands c.args.feed
    c.run_team-crew.ensures.led c.run_team-crew.ensures.back c.into_inner.ensures c.into_inner-2.ensures

pub returns-clause-kept : goal.returns-clause-kept
returns-clause-kept g c = c.closed.ensures.kept ∙ c.run_team-crew.ensures.kept

pub returns-clause-joined : goal.returns-clause-joined
returns-clause-joined g c =
    let many = new_many _ _ _ c.requires.tasks c.requires.results c.in-Some.ensures.items c.in-Some-pop.ensures.items c.posts_of-posts.ensures.takers
    c.posts_of-posts.ensures.givers c.new-queue.ensures c.new-answers.ensures g.T.Task.answers _ c.run_team-crew.ensures.back in
    let joined = c.closed.ensures.joined in
    omega (arith, many, joined)
