use Rattle.std.proofs.Common.{ℕ, List, ◌-◌, ◌<◌, length, get_or, ap, sym, ◌∙◌, subst, arith}
use Rattle.std.specs.Slots.{slots_items, slots_len, slots_counts, slots_small}
use Rattle.node_arena.proofs.Lefts.{got_word}
use Rattle.node_arena.proofs.Placed.{place_there, length-shared_words, get_or-shared_words}
use Rattle.node_arena.proofs.remains.word_at.Goals as goal

pub place-requires : goal.place-requires
place-requires g c =
    let words = c.args.closed.now.words in
    let small = slots_small words in
    omega (arith, c.requires.there, length-shared_words (slots_items words), (slots_counts words).0, small)

pub word-requires : goal.word-requires
word-requires g c =
    let words = c.args.closed.now.words in
    let there = place_there (slots_len words) c.args.index (omega (arith, c.requires.there, length-shared_words (slots_items words), (slots_counts words).0)) in
    (subst (λ p. p < slots_len words) (sym c.place.ensures) there, c.requires.full)

pub returns : goal.returns
returns g c =
    let items : List ℕ = slots_items c.args.closed.now.words in
    let there : c.args.index < length items - 42 = omega (arith, c.requires.there, length-shared_words items) in
    sym (got_word items c.place.result c.word.result c.word.ensures) ∙
    (ap (λ p. get_or items p 0) c.place.ensures ∙
    sym (get_or-shared_words items c.args.index there))
