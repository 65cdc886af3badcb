use Rattle.std.proofs.Common.{ℕ, List, subst}
use Rattle.msq_c.specs.NewWordsShares.{IsNew}
use Rattle.msq_c.proofs.NewWordsShares.{many_new, may_share}
use Rattle.msq_c.proofs.new_words_shares.WordsQueueNewQueue.new_queue.Goals as goal

pub returns-clause-len : goal.returns-clause-len
returns-clause-len c = many_new c.args.kind c.args.nodes c.args.limit c.args.numbers.now c.in_ok-queue.queue c.in_ok-queue.seats.items c.in_ok-queue.ensures.new

pub returns-clause-both : goal.returns-clause-both
returns-clause-both c count those = may_share c.args.kind c.args.nodes c.args.limit count c.in_ok-queue.queue c.in_ok-queue.seats.items
    (subst (λ (rs : List ℕ). IsNew c.args.kind c.args.nodes c.args.limit rs c.in_ok-queue.queue c.in_ok-queue.seats.items) those c.in_ok-queue.ensures.new)
    c.in_ok-queue.ensures.unused c.in_ok-queue.ensures.seats
