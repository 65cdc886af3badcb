use Rattle.std.proofs.Common.{◌≡◌, ◌∙◌, sym, ap, map, refl, subst, codes, List, Option, None, Global}
use Rattle.std.specs.Prelude.{string_bytes, unwrap_or}
use Rattle.std.proofs.lemmas.Bool.{eqb-true}
use Rattle.std.proofs.lemmas.List.{nil_from_length}
use Rattle.std.proofs.lemmas.Result.{err_from_is_err_and}
use Rattle.clap.specs.Words.{App, HasKind, Kinds, Row, Text, is_simple, is_simple_and_free, takes, subcommand_rows_of}
use Rattle.command_line.specs.declared.commands.Task.TheVariants.{Run}
use Rattle.command_line.specs.Commands.{file_met, held_met, met_in, AsksForCauses, IsTask}
use Rattle.command_line.proofs.Words.{faults_in-nil, faults_in-words, is_free-command_line, is_simple-command_line, met_in-nil, met_in-words, unwrap_or-now}
use Rattle.command_line.proofs.commands.asked.Goals as goal

pub returns-then-is_empty-clause-asked : goal.returns-then-is_empty-clause-asked
returns-then-is_empty-clause-asked c =
    let empty = nil_from_length c.args.words.now (eqb-true _ _ (sym c.is_empty.ensures ∙ c.if-is_empty.true)) in
    let queues = c.args.queues in
    let whens = c.args.whens in
    let none : IsTask None Run = record { trace = refl; show = refl; check = refl; place = refl; work = refl; post = refl; explain = refl; options = tt } in
    rw empty (record {
      file = c.in_ok-command_of.ensures.file ∙ ap (λ met. unwrap_or (file_met met) (codes "-")) (sym (met_in-nil queues whens));
      task = subst (λ met. IsTask met c.in_ok-command_of.field-0.task) (sym (met_in-nil queues whens)) (rw c.in_ok-command_of.ensures.task none);
      explains = subst (λ met. AsksForCauses met c.in_ok-command_of.field-0.explains) (sym (met_in-nil queues whens)) c.in_ok-command_of.ensures.explains;
      held = c.in_ok-command_of.ensures.held ∙ ap held_met (sym (met_in-nil queues whens));
      taken = faults_in-nil queues whens;
    })

pub returns-in_err-matches-clause-kinds : goal.returns-in_err-matches-clause-kinds
returns-in_err-matches-clause-kinds c =
    let free = ap is_simple_and_free c.in_ok-command_line.ensures ∙ is_free-command_line c.args.queues c.args.whens in
    let faults = faults_in-words c.args.queues c.args.whens _ c.args.words.now _ _ c.in_ok-command_line.ensures c.is_empty.ensures c.if-is_empty.false in
    let p = err_from_is_err_and c.from_residual-in_err-matches.result c.from_residual-in_err-matches.ensures.1 in
    rw (p.1, p.2) (subst (λ (kinds : Kinds). HasKind kinds c.in_err-matches.field-0.0) faults (c.in_err-matches.ensures.kinds free))

pub returns-in_err-matches-clause-passes : goal.returns-in_err-matches-clause-passes
returns-in_err-matches-clause-passes c =
    let words : List Text = map (string_bytes {Z = Global}) c.args.words.now in
    let p = err_from_is_err_and c.from_residual-in_err-matches.result c.from_residual-in_err-matches.ensures.1 in
    rw (p.1, p.2)
    (λ taken. c.in_err-matches.ensures.passes (ap (λ (a : App). takes a words) c.in_ok-command_line.ensures ∙ taken))

pub returns-clause-asked : goal.returns-clause-asked
returns-clause-asked c =
    let words : List Text = map (string_bytes {Z = Global}) c.args.words.now in
    let queues = c.args.queues in
    let whens = c.args.whens in
    let line = c.in_ok-command_line.ensures in
    let free = ap is_simple_and_free line ∙ is_free-command_line queues whens in
    let simple = ap is_simple line ∙ is_simple-command_line queues whens in
    let met : subcommand_rows_of c.in_ok-matches.matches ≡ met_in queues whens words = (c.in_ok-matches.ensures.matches simple).1 ∙ met_in-words queues whens _ words line in
    record {
      file = c.in_ok-command_of-2.ensures.file ∙ ap (λ file. file.now) c.unwrap_or-file.ensures ∙ unwrap_or-now c.file_in.result _
          ∙ ap (λ o. unwrap_or o (codes "-")) (c.file_in.ensures ∙ ap file_met met);
      task = rw c.in_ok-command_of-2.ensures.task (subst (λ (o : Option (Text × List Row)). IsTask o c.task_in-task.result) met c.task_in-task.ensures);
      explains = rw c.in_ok-command_of-2.ensures.explains (subst (λ (o : Option (Text × List Row)). AsksForCauses o c.explains_in-explains.result) met c.explains_in-explains.ensures);
      held = c.in_ok-command_of-2.ensures.held ∙ c.held_in.ensures ∙ ap held_met met;
      taken = sym (faults_in-words queues whens _ c.args.words.now _ _ line c.is_empty.ensures c.if-is_empty.false) ∙ c.in_ok-matches.ensures.kinds free;
    }
