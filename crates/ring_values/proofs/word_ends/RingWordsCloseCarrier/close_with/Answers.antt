use Rattle.std.proofs.Common.{ℕ, ◌*◌, ◌≤◌, Bool, List, map, length, sym, ap, subst, ◌∙◌, arith}
use Rattle.std.proofs.lemmas.List.{length-map}
use Rattle.history.specs.Rests.{left_of}
use Rattle.carriers.specs.declared.items.ItemOf.{ItemOf}
use Rattle.carriers.specs.Ends.{ClosesWith}
use Rattle.ring_values.specs.Words.{words_known}
use Rattle.ring_values.specs.WordQueues.{joined, ring_in, permits_at}
use Rattle.ring_values.proofs.LearnedWords.{words_same, words_close}
use Rattle.ring_values.proofs.word_ends.RingWordsCloseCarrier.close_with.Goals as goal

pub close_words-rest-requires-clause-all : goal.close_words-rest-requires-clause-all
close_words-rest-requires-clause-all g c = sym (length-map c.args.seats.items words_known) ∙ c.requires.asked

pub rest_of_words-requires : goal.rest_of_words-requires
rest_of_words-requires g c =
    let q = c.args.self in
    let left = c.close_words-rest.ensures in
    let few : g.row.K ≤ 3 = subst (λ (k : ℕ). k ≤ 3) q.wide (ring_in q).laid.planned.thin in
    let same = words_same (ring_in q) c.args.seats.items _ _ left ∙ ap (λ (k : ℕ). length (left_of c.close_words-rest.result.0) * k) q.wide in
    (omega (arith, few), (same, (omega (arith, left.few, c.requires.room.values.enough), c.requires.room.values.empty)))

pub returns : goal.returns
returns g c =
    let q = c.args.self in
    let told = c.rest_of_words.ensures in
    let left = told.left ∙ ap (λ (k : ℕ). joined k (left_of c.close_words-rest.result.0) c.close_words-rest.result.1.items) (sym q.wide) in
    record {
      rest = subst (λ (y : List (ItemOf (List ℕ)) × ℕ × Bool × Bool). ClosesWith (permits_at q) (map words_known c.args.seats.items) y.0 y.1
          y.2 y.3) (λ i. (sym left i, sym told.taken i, sym told.whole i, sym told.shut i)) (words_close (ring_in q) c.args.seats.items _ _ c.close_words-rest.ensures c.requires.seats);
    }
