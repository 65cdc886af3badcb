use Rattle.std.proofs.Common.{rules, ◌+◌, ◌*◌, ◌^◌, ap, ◌∙◌}
use Rattle.counted_ref.specs.Ref.{ref, ref_of}
use Rattle.counted_ref.proofs.Words.{packed, ref_word_fits, ref_of-ref_word}
use Rattle.counted_ref.proofs.reference.CountedRefOf.packed.Goals as goal

pub overflow_add-result : goal.overflow_add-result
overflow_add-result g c =
    let p = packed g.row.B c.requires.split c.args.count c.requires.count in
    let f = ref_word_fits g.row.B c.requires.split (ref c.args.node c.args.count) record { node = c.requires.node; count = c.requires.count } in
    rw p (search rules)

pub returns : goal.returns
returns g c =
    let p = packed g.row.B c.requires.split c.args.count c.requires.count in
    ap (λ w. ref_of g.row.B (w + c.from.result)) p ∙
    ap (λ n. ref_of g.row.B (c.args.count * 2 ^ g.row.B + n)) c.from.ensures ∙
    ref_of-ref_word g.row.B c.requires.split (ref c.args.node c.args.count) record { node = c.requires.node; count = c.requires.count }
