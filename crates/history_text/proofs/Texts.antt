-- The lines of a history's text.
use Rattle.std.proofs.Common.{◌≡◌, ℕ, List, [], ◌∷◌, ◌++◌, length, All, Option, Some, None, true, refl, sym, ap, ◌∙◌, arith, codes, append_assoc, subst}
use Rattle.std.specs.List.{flat_map}
use Rattle.std.specs.Fmt.{decimal}
use Rattle.std.proofs.lemmas.List.{append-nil}
use Rattle.std.proofs.lemmas.List.Elements.{All-head, All-tail}
use Rattle.text_io.specs.Lines.{line, spaced}
use Rattle.text_io.specs.Numerals.{numeral}
use Rattle.text_io.specs.Listings.{IsListing, listing_text}
use Rattle.text_io.proofs.Numerals.{numeral_decimal}
use Rattle.history.specs.declared.refusals.Refusal.{Refusal}
use Rattle.history.specs.declared.refusals.Refusal.TheVariants.{NoNode, WornOut, Busy, Closed}
use Rattle.history.specs.declared.operations.Op.{Op}
use Rattle.history.specs.declared.operations.Op.TheVariants.{Enq, Deq, Shut}
use Rattle.history.specs.declared.operations.Reply.{Reply}
use Rattle.history.specs.declared.operations.Reply.TheVariants.{Done, Value, Empty, Refused}
use Rattle.history.specs.declared.operations.Stamped.{Stamped}
use Rattle.history.specs.History.{may_refuse}
use Rattle.history.specs.WornWords.{word_text}
use Rattle.history_text.specs.HistoryText.{call_text, step_text, refusal_text, reply_text, operation_text, header_text, history_text}
use Rattle.history_text.specs.HistoryLines.{count_words, call_words, step_word, refusal_words, reply_words, stamp_words, operation_words}
use Rattle.history_text.specs.HistoryLines.{IsQueueReply, IsCallInRange, IsStepInRange, IsReplyInRange, IsReadable, IsCount, IsHistoryInRange}
use Rattle.history_text.specs.HistoryLines.{history_listing}

-- words, each behind a space
spaces : List (List ℕ) → List ℕ
spaces [] = []
spaces (word ∷ words) = 32 ∷ word ++ spaces words

-- the first word, and the others behind spaces
spaced-cons : (word : List ℕ) (words : List (List ℕ)) → spaced (word ∷ words) ≡ word ++ spaces words
unfolding spaces
spaced-cons word [] = sym (append-nil word)
spaced-cons word (next ∷ words) = ap (λ (later : List ℕ). word ++ (32 ∷ later)) (spaced-cons next words)

spaces-append : (xs ys : List (List ℕ)) → spaces (xs ++ ys) ≡ spaces xs ++ spaces ys
unfolding spaces
spaces-append [] ys = refl
spaces-append (x ∷ xs) ys = ap (λ (later : List ℕ). 32 ∷ x ++ later) (spaces-append xs ys) ∙ ap (λ (all : List ℕ). 32 ∷ all) (sym (append_assoc x (spaces xs) (spaces ys)))

-- the call, the steps and the reply of an operation in range, as words and as text
call-spelled : (op : Op) → IsCallInRange op → spaces (call_words op) ≡ 32 ∷ call_text op
unfolding spaces
call-spelled (Enq body) range = ap (λ (later : List ℕ). 32 ∷ codes "enq" ++ (32 ∷ later)) (append-nil (numeral body) ∙ numeral_decimal body (omega (arith, range.1)))
call-spelled Deq range = refl
call-spelled Shut range = refl

step-spelled : (step : Option ℕ) → IsStepInRange step → step_word step ≡ step_text step
step-spelled None range = refl
step-spelled (Some step) range = numeral_decimal step (omega (arith, range.1))

refusal-spelled : (refusal : Refusal) → may_refuse refusal ≡ true → spaces (refusal_words refusal) ≡ 32 ∷ refusal_text refusal
unfolding spaces
refusal-spelled NoNode e = refl
refusal-spelled (WornOut word) e = ap (λ (later : List ℕ). 32 ∷ codes "2" ++ (32 ∷ later)) (append-nil (word_text word))
refusal-spelled Busy e = refl
refusal-spelled Closed e = refl
refusal-spelled _ e = absurd cc

value_text : (from body : List ℕ) → 32 ∷ codes "value" ++ (32 ∷ from ++ (32 ∷ body)) ≡ 32 ∷ (codes "value " ++ from ++ codes " " ++ body)
value_text from body = ap (λ (later : List ℕ). 32 ∷ codes "value " ++ later) (sym (append_assoc from (codes " ") body))

reply-spelled : (reply : Option Reply) → IsQueueReply reply → IsReplyInRange reply → spaces (reply_words reply) ≡ 32 ∷ reply_text reply
unfolding spaces
reply-spelled None may range = refl
reply-spelled (Some Done) may range = refl
reply-spelled (Some (Value value)) may range =
    let from : numeral value.from ≡ decimal value.from = numeral_decimal value.from (omega (arith, range.0.1)) in
    let body : numeral value.body ++ [] ≡ decimal value.body = append-nil (numeral value.body) ∙ numeral_decimal value.body (omega (arith, range.1.1)) in
    (λ i. 32 ∷ codes "value" ++ (32 ∷ from i ++ (32 ∷ body i))) ∙ value_text (decimal value.from) (decimal value.body)
reply-spelled (Some Empty) may range = refl
reply-spelled (Some (Refused refusal)) may range = ap (λ (later : List ℕ). 32 ∷ codes "refused" ++ later) (refusal-spelled refusal may)

-- the words behind those of the call, as text
abbrev stamps_text : (first last at reply : List ℕ) → List ℕ
stamps_text first last at reply = codes " first " ++ (first ++ (codes " last " ++ (last ++ (codes " at " ++ (at ++ (codes " reply " ++ reply))))))

stamps-spelled : (o : Stamped) → IsReadable o → spaces (stamp_words o) ≡ stamps_text (decimal o.first) (step_text o.last) (step_text o.at) (reply_text o.reply)
unfolding spaces
stamps-spelled o readable =
    rw (numeral_decimal o.first (omega (arith, readable.1.first.1)), step-spelled o.last readable.1.last, step-spelled o.at readable.1.at, reply-spelled o.reply readable.0 readable.1.reply) refl

-- parts of an operation's line, one behind another
joined : (actor call first last at reply : List ℕ)
    → (actor ++ ((32 ∷ call) ++ stamps_text first last at reply)) ++ 10 ∷ []
    ≡ actor ++ codes " " ++ call ++ codes " first " ++ first ++ codes " last " ++ last ++ codes " at " ++ at ++ codes " reply " ++ reply ++ codes "\n"
joined actor call first last at reply = simp (append_assoc)

-- the line of an operation
pub operation-spelled : (o : Stamped) → IsReadable o → line (spaced (operation_words o)) ≡ operation_text o
unfolding operation_text
operation-spelled o readable =
    let words : spaced (operation_words o) ≡ decimal o.actor ++ ((32 ∷ call_text o.op) ++ stamps_text (decimal o.first) (step_text o.last) (step_text o.at) (reply_text o.reply)) =
    spaced-cons (numeral o.actor) (call_words o.op ++ stamp_words o)
    ∙ (λ i. numeral_decimal o.actor (omega (arith, readable.1.actor.1)) i
    ++ (spaces-append (call_words o.op) (stamp_words o) ∙ (λ j. call-spelled o.op readable.1.op j ++ stamps-spelled o readable j)) i) in
    ap (λ (all : List ℕ). all ++ 10 ∷ []) words ∙ joined (decimal o.actor) (call_text o.op) (decimal o.first) (step_text o.last) (step_text o.at) (reply_text o.reply)

-- the first line
count-spelled : (count : ℕ) → IsCount count → line (spaced (count_words count)) ≡ header_text count
unfolding header_text
count-spelled count range = rw (numeral_decimal count (omega (arith, range))) refl

-- the lines of operations
operations-spelled : (ops : List Stamped) → All IsReadable ops → flat_map (λ o. line (history_listing.item o)) ops ≡ flat_map operation_text ops
operations-spelled [] all = refl
operations-spelled (o ∷ ops) all = λ i. operation-spelled o (All-head IsReadable o ops all) i ++ operations-spelled ops (All-tail IsReadable o ops all) i

-- a history in range is a listing
pub IsListing-history : (ops : List Stamped) → IsHistoryInRange ops → IsListing history_listing (length ops) ops
IsListing-history ops range = record { announced = refl; header = range.count; each = range.each }

-- the text of its lines is the history's text
pub history-spelled : (ops : List Stamped) → IsHistoryInRange ops → listing_text history_listing (length ops) ops ≡ history_text ops
history-spelled ops range = λ i. count-spelled (length ops) range.count i ++ operations-spelled ops range.each i

-- and each listing is a history in range, with its text
pub range-listed : (count : ℕ) (ops : List Stamped) → IsListing history_listing count ops → IsHistoryInRange ops
range-listed count ops is = record { count = subst IsCount is.announced is.header; each = is.each }

pub listed-spelled : (count : ℕ) (ops : List Stamped) → IsListing history_listing count ops → listing_text history_listing count ops ≡ history_text ops
listed-spelled count ops is = ap (λ (count : ℕ). listing_text history_listing count ops) is.announced ∙ history-spelled ops (range-listed count ops is)
