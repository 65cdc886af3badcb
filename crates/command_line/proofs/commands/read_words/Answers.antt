use Rattle.std.proofs.Common.{rules, map, inl, inr, Global}
use Rattle.std.specs.Prelude.{string_bytes}
use mathlib.Core.Logic.{⊎_elim}
use Rattle.command_line.specs.Commands.{IsAskedSomewhere}
use Rattle.command_line.proofs.Words.{forward-nil}
use Rattle.command_line.proofs.commands.read_words.Goals as goal

pub returns-in-Err-clause-passes : goal.returns-in-Err-clause-passes
returns-in-Err-clause-passes c = λ taken. inl (c.told.ensures.refused (c.in-Err.ensures.passes (taken c.as_slice.result c.as_slice-2.result (search rules) (search rules))))

pub returns-in-Err-clause-status : goal.returns-in-Err-clause-status
returns-in-Err-clause-status c = inl (search rules)

pub returns-in-Some-clause-passes : goal.returns-in-Some-clause-passes
returns-in-Some-clause-passes c = λ taken.
    let asked : IsAskedSomewhere (map (string_bytes {Z = Global}) c.args.words.now) c.in-Ok.command = record { queues = c.as_slice.result; whens = c.as_slice-2.result; named = search rules; timed = search rules; asked = c.in-Ok.ensures.asked } in
    ⊎_elim (λ one. inl one) (λ two. inr (two, (c.in-Ok.command, asked, c.in-Some.ensures.some))) c.told_backward.ensures.status

pub returns-in-Some-clause-none : goal.returns-in-Some-clause-none
returns-in-Some-clause-none c = λ empty.
    let task = rw empty at c.in-Ok.ensures.asked.task in
    absurd (c.in-Some.ensures.some (forward-nil c.as_slice.result c.as_slice-2.result c.in-Ok.command.task task))

pub returns-in-Some-clause-status : goal.returns-in-Some-clause-status
returns-in-Some-clause-status c =
    let asked : IsAskedSomewhere (map (string_bytes {Z = Global}) c.args.words.now) c.in-Ok.command = record { queues = c.as_slice.result; whens = c.as_slice-2.result; named = search rules; timed = search rules; asked = c.in-Ok.ensures.asked } in
    ⊎_elim
    (λ one. inl (record { queues = c.as_slice.result; whens = c.as_slice-2.result; named = search rules; timed = search rules; among = inl one }))
    (λ two. inr (two, (c.in-Ok.command, asked, c.in-Some.ensures.some))) c.told_backward.ensures.status
