use Rattle.std.proofs.Common.{arith, ◌≡◌, ◌+◌, ◌-◌, ◌^◌, length, ap, ◌∙◌}
use Rattle.std.proofs.lemmas.List.{length-map}
use Rattle.counted_ref.specs.Ref.{count_bits}
use Rattle.mail_engine.specs.MailTexts.{said_letter, said_letters}
use Rattle.node_arena.specs.NewArenas.{plan}
use Rattle.node_arena.specs.Seats.{plan_of}
use Rattle.arena_queue.specs.Queues.{arena_of}
use Rattle.mail_engine.specs.Rows.{giver_and_taker_roles}
use Rattle.mail_engine.proofs.Carried.{IfOk-both}
use Rattle.mail_engine.proofs.engine.post_by.Goals as goal

pub returns-clause-carried : goal.returns-clause-carried
returns-clause-carried g c =
    let letters = length (said_letters c.args.mail.letters.items) in
    let count = length-map c.args.mail.letters.items said_letter in
    let nodes : c.len.result + c.from.result + 2 ≡ letters + c.args.mail.senders + 2 = omega (arith, c.len.ensures, c.from.ensures, count) in
    IfOk-both c.post_over.result _ _ _ (λ r over by. record {
      made = ap (λ q. plan_of (arena_of q)) over ∙ c.in_ok-queue.ensures.made.plan ∙ ap (λ n. plan 24 g.A.Algorithm.kind n (2 ^ count_bits 24 - 1) (giver_and_taker_roles c.args.mail.senders)) nodes;
      carried = record { ready = by.ready; only = by.only; count = by.count; each = by.each };
    }) c.post_over.ensures.over c.post_over.ensures.carried
