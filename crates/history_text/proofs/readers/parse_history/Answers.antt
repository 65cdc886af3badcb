use Rattle.std.proofs.Common.{ap, ◌∙◌}
use Rattle.std.proofs.lemmas.List.{map-id}
use Rattle.history_text.specs.HistoryText.{history_text}
use Rattle.history_text.proofs.Texts.{listed-spelled}
use Rattle.history_text.proofs.readers.parse_history.Goals as goal

pub returns-clause-text : goal.returns-clause-text
returns-clause-text c =
    let read = c.in_ok-operations in
    read.ensures.text ∙ listed-spelled read.field-0-0 _ read.ensures.range ∙ ap history_text (map-id read.operations.items)
