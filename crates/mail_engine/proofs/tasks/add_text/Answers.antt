use Rattle.std.proofs.Common.{◌∙◌, [], ◌∷◌, ap, map}
use Rattle.std.specs.Prelude.{string_bytes}
use Rattle.std.proofs.Math.Seq.{map-set_same}
use Rattle.std.proofs.lemmas.List.{map-append}
use Rattle.mail_engine.proofs.Shares.{text_added}
use Rattle.mail_engine.proofs.tasks.add_text.Goals as goal

pub returns-clause-senders : goal.returns-clause-senders
returns-clause-senders g c =
    map-set_same (λ t. t.sender) c.args.tasks.now.items c.args.place _ c.index_mut.result.now (ap (λ t. t.sender) c.index_mut.ensures.value)

pub returns-clause-text : goal.returns-clause-text
returns-clause-text g c =
    text_added c.args.tasks.now.items c.args.place c.index_mut.result.now _ (string_bytes c.args.text) c.requires c.index_mut.ensures.value
    (ap (map string_bytes) c.in-Ok.ensures.items ∙ map-append string_bytes c.index_mut.result.now.texts.items (c.args.text ∷ []))

pub returns-in_default-clause-senders : goal.returns-in_default-clause-senders
returns-in_default-clause-senders g c =
    map-set_same (λ t. t.sender) c.args.tasks.now.items c.args.place _ c.index_mut.result.now (ap (λ t. t.sender) c.index_mut.ensures.value)
