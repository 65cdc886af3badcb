use Rattle.std.proofs.Common.{◌∙◌}
use Rattle.schedule_text.specs.declared.fields.Field.TheVariants.{Nodes, Limit, Actors, Events}
use Rattle.schedule_text.specs.Texts.{number}
use Rattle.schedule_text.proofs.Parts.{four_lines}
use Rattle.schedule_text.proofs.printers.push_sizes.Goals as goal

pub returns : goal.returns
returns c =
    let s = c.args.sizes in
    (rw (c.push_field-3.ensures.text, c.push_field-2.ensures.text, c.push_field.ensures.text, c.from.ensures, c.from-2.ensures) at c.push_field-4.ensures.text)
    ∙ four_lines _ (number Nodes s.nodes) (number Limit s.limit) (number Actors s.actors) (number Events s.events)
