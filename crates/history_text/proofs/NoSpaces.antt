-- The words of histories have neither spaces nor line feeds, nor have other words of such bytes.
use Rattle.std.proofs.Common.{◌≡◌, ◌≢◌, ℕ, ◌<◌, ◌≤◌, List, [], ◌∷◌, ◌++◌, All, Option, Some, None, Bool, true, false, refl, arith, codes}
use Rattle.std.specs.Prelude.{nat_lt, ◌&&◌}
use Rattle.std.specs.List.{list_all}
use Rattle.std.proofs.lemmas.Bool.{ltb-true}
use Rattle.std.proofs.lemmas.List.Elements.{All-nil, All-cons, All-append, All-weaker, All-head, All-tail}
use Rattle.text_io.specs.Lines.{HasNo, spaced, words_of}
use Rattle.text_io.specs.Numerals.{numeral}
use Rattle.text_io.proofs.Numerals.{IsPlain-numeral}
use Rattle.text_io.proofs.Splits.{words_of-spaced}
use Rattle.history.specs.declared.refusals.WornWord.{WornWord}
use Rattle.history.specs.declared.refusals.WornWord.TheVariants.{Free, Next, Tail, Head}
use Rattle.history.specs.declared.refusals.Refusal.{Refusal}
use Rattle.history.specs.declared.refusals.Refusal.TheVariants.{NoNode, WornOut, Busy, Closed}
use Rattle.history.specs.declared.operations.Op.{Op}
use Rattle.history.specs.declared.operations.Op.TheVariants.{Enq, Deq, Shut}
use Rattle.history.specs.declared.operations.Reply.{Reply}
use Rattle.history.specs.declared.operations.Reply.TheVariants.{Done, Value, Empty, Refused}
use Rattle.history.specs.declared.operations.Stamped.{Stamped}
use Rattle.history.specs.WornWords.{word_text}
use Rattle.history.specs.History.{may_refuse}
use Rattle.history_text.specs.HistoryLines.{call_words, step_word, refusal_words, value_words, reply_words, stamp_words, operation_words, IsQueueReply}

-- a word of bytes from the dash on, as letters, digits and points are
abbrev pub IsInk : List ℕ → Type 0
IsInk word = All (λ b. 45 ≤ b) word

-- a test of each byte that computes to true
pub ink-tested : (word : List ℕ) → list_all (λ b. nat_lt 44 b) word ≡ true → IsInk word
ink-tested [] e = All-nil (λ b. 45 ≤ b)
ink-tested (b ∷ word) e = by (nat_lt 44 b) refl (ink-tested word) e
  where
    by : (t : Bool) → nat_lt 44 b ≡ t → (list_all (λ b. nat_lt 44 b) word ≡ true → IsInk word) → (t && list_all (λ b. nat_lt 44 b) word) ≡ true → IsInk (b ∷ word)
    by true is rest e = let low : 44 < b = ltb-true 44 b is in All-cons (λ b. 45 ≤ b) b word (omega arith) (rest e)
    by false is rest e = absurd cc

pub ink-numeral : (n : ℕ) → IsInk (numeral n)
ink-numeral n = All-weaker (λ b. (48 ≤ b) × (b ≤ 57)) (λ b. 45 ≤ b) (λ b h. omega (arith, h.0)) (numeral n) (IsPlain-numeral n).digits

-- one more word
pub more : (word : List ℕ) (words : List (List ℕ)) → IsInk word → All IsInk words → All IsInk (word ∷ words)
more word words = All-cons IsInk word words

pub one : (word : List ℕ) → IsInk word → All IsInk (word ∷ [])
one word ink = more word [] ink (All-nil IsInk)

ink-word : (word : WornWord) → IsInk (word_text word)
ink-word Free = ink-tested (codes "Free") refl
ink-word Next = ink-tested (codes "Next") refl
ink-word Tail = ink-tested (codes "Tail") refl
ink-word Head = ink-tested (codes "Head") refl

ink-call : (op : Op) → All IsInk (call_words op)
ink-call (Enq body) = more (codes "enq") (numeral body ∷ []) (ink-tested (codes "enq") refl) (one (numeral body) (ink-numeral body))
ink-call Deq = one (codes "deq") (ink-tested (codes "deq") refl)
ink-call Shut = one (codes "shut") (ink-tested (codes "shut") refl)

pub ink-step : (step : Option ℕ) → IsInk (step_word step)
ink-step None = ink-tested (codes "-") refl
ink-step (Some step) = ink-numeral step

ink-refusal : (refusal : Refusal) → may_refuse refusal ≡ true → All IsInk (refusal_words refusal)
ink-refusal NoNode e = one (codes "1") (ink-tested (codes "1") refl)
ink-refusal (WornOut word) e = more (codes "2") (word_text word ∷ []) (ink-tested (codes "2") refl) (one (word_text word) (ink-word word))
ink-refusal Busy e = one (codes "3") (ink-tested (codes "3") refl)
ink-refusal Closed e = one (codes "16") (ink-tested (codes "16") refl)
ink-refusal _ e = absurd cc

ink-reply : (reply : Option Reply) → IsQueueReply reply → All IsInk (reply_words reply)
ink-reply None may = one (codes "-") (ink-tested (codes "-") refl)
ink-reply (Some Done) may = one (codes "done") (ink-tested (codes "done") refl)
ink-reply (Some (Value value)) may =
    more (codes "value") (value_words value) (ink-tested (codes "value") refl)
    (more (numeral value.from) (numeral value.body ∷ []) (ink-numeral value.from) (one (numeral value.body) (ink-numeral value.body)))
ink-reply (Some Empty) may = one (codes "empty") (ink-tested (codes "empty") refl)
ink-reply (Some (Refused refusal)) may = more (codes "refused") (refusal_words refusal) (ink-tested (codes "refused") refl) (ink-refusal refusal may)

ink-reply_part : (reply : Option Reply) → IsQueueReply reply → All IsInk (codes "reply" ∷ reply_words reply)
ink-reply_part reply may = more (codes "reply") (reply_words reply) (ink-tested (codes "reply") refl) (ink-reply reply may)

-- a label and the word behind it, before more words
pub ink-labelled : (label word : List ℕ) (words : List (List ℕ)) → IsInk label → IsInk word → All IsInk words → All IsInk (label ∷ word ∷ words)
ink-labelled label word words first second rest = more label (word ∷ words) first (more word words second rest)

ink-stamps : (o : Stamped) → IsQueueReply o.reply → All IsInk (stamp_words o)
ink-stamps o may =
    let reply : List (List ℕ) = codes "reply" ∷ reply_words o.reply in
    let at : List (List ℕ) = codes "at" ∷ step_word o.at ∷ reply in
    let last : List (List ℕ) = codes "last" ∷ step_word o.last ∷ at in
    ink-labelled (codes "first") (numeral o.first) last (ink-tested (codes "first") refl) (ink-numeral o.first)
    (ink-labelled (codes "last") (step_word o.last) at (ink-tested (codes "last") refl) (ink-step o.last)
    (ink-labelled (codes "at") (step_word o.at) reply (ink-tested (codes "at") refl) (ink-step o.at) (ink-reply_part o.reply may)))

-- the words of an operation that a line may say
pub ink-operation : (o : Stamped) → IsQueueReply o.reply → All IsInk (operation_words o)
ink-operation o may = more (numeral o.actor) (call_words o.op ++ stamp_words o) (ink-numeral o.actor) (All-append IsInk (call_words o.op) (stamp_words o) (ink-call o.op) (ink-stamps o may))

-- the words of the first line
pub ink-count : (count : ℕ) → All IsInk (codes "history" ∷ numeral count ∷ [])
ink-count count = more (codes "history") (numeral count ∷ []) (ink-tested (codes "history") refl) (one (numeral count) (ink-numeral count))

-- a lower byte isn't in such a word
pub HasNo-ink : (byte : ℕ) → byte < 45 → (word : List ℕ) → IsInk word → HasNo byte word
HasNo-ink byte low = All-weaker (λ b. 45 ≤ b) (λ b. b ≢ byte) (λ b h e. omega (arith, low, h, e))

-- such words are those of their line
pub words_of-ink : (word : List ℕ) (words : List (List ℕ)) → All IsInk (word ∷ words) → words_of (spaced (word ∷ words)) ≡ word ∷ words
words_of-ink word words ink = words_of-spaced word words (All-weaker IsInk (HasNo 32) (λ word. HasNo-ink 32 (omega arith) word) (word ∷ words) ink)

-- a line of such words has no line feed
pub HasNo-spaced : (words : List (List ℕ)) → All IsInk words → HasNo 10 (spaced words)
HasNo-spaced [] ink = All-nil (λ b. b ≢ 10)
HasNo-spaced (word ∷ []) ink = HasNo-ink 10 (omega arith) word (All-head IsInk word [] ink)
HasNo-spaced (word ∷ next ∷ words) ink =
    All-append (λ b. b ≢ 10) word (32 ∷ spaced (next ∷ words)) (HasNo-ink 10 (omega arith) word (All-head IsInk word (next ∷ words) ink))
    (All-cons (λ b. b ≢ 10) 32 (spaced (next ∷ words)) (λ e. omega (arith, e)) (HasNo-spaced (next ∷ words) (All-tail IsInk word (next ∷ words) ink)))
