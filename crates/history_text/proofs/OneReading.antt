-- Each text is of one history at most, and its lines tell what they say.
use Rattle.std.proofs.Common.{◌≡◌, ◌≢◌, ℕ, List, [], ◌∷◌, ◌++◌, length, Option, Some, None, true, false, refl, sym, ap, ◌∙◌, arith, subst, codes, inl, ◌==◌}
use Rattle.std.proofs.lemmas.List.Elements.{All-head}
use Rattle.history.specs.declared.text_causes.TextCause.{TextCause}
use Rattle.text_io.specs.Lines.{HasNo, words_of}
use Rattle.text_io.specs.Numerals.{numeral}
use Rattle.text_io.specs.Listings.{IsSoundListing}
use Rattle.text_io.proofs.Numerals.{numeral_injective, HasNo-numeral}
use Rattle.text_io.proofs.FirstWords.{first_byte, apart}
use Rattle.text_io.proofs.Listings.{one_listing, listing-no_fault, listing-not_neither}
use Rattle.history.specs.declared.refusals.WornWord.{WornWord}
use Rattle.history.specs.declared.refusals.WornWord.TheVariants.{Free, Next, Tail, Head}
use Rattle.history.specs.declared.refusals.Refusal.{Refusal}
use Rattle.history.specs.declared.refusals.Refusal.TheVariants.{NoNode, WornOut, Busy, Closed}
use Rattle.history.specs.declared.operations.Op.{Op}
use Rattle.history.specs.declared.operations.Op.TheVariants.{Enq, Deq, Shut}
use Rattle.history.specs.declared.operations.Reply.{Reply}
use Rattle.history.specs.declared.operations.Reply.TheVariants.{Done, Value, Empty, Refused}
use Rattle.history.specs.declared.operations.Stamped.{Stamped}
use Rattle.history.specs.History.{may_refuse}
use Rattle.history.specs.WornWords.{word_text}
use Rattle.history_text.specs.HistoryText.{history_text}
use Rattle.history_text.specs.HistoryLines.{count_words, call_words, step_word, refusal_words, reply_words, stamp_words, operation_words}
use Rattle.history_text.specs.HistoryLines.{IsQueueReply, IsHistoryInRange, HasFirstFault, history_listing}
use Rattle.history_text.proofs.NoSpaces.{ink-operation, ink-count, words_of-ink, HasNo-spaced}
use Rattle.history_text.proofs.Texts.{IsListing-history, history-spelled, range-listed, listed-spelled}

-- a number is no dash
dash_no_number : (n : ℕ) → codes "-" ≢ numeral n
dash_no_number n e = All-head (λ b. b ≢ 45) 45 [] (subst (HasNo 45) (sym e) (HasNo-numeral 45 n (inl (omega arith)))) refl

-- one word that begins with another byte is another one
other_word : (w v : List ℕ) → (first_byte (w ∷ []) == first_byte (v ∷ [])) ≡ false → w ≢ v
other_word w v other same = apart (w ∷ []) (v ∷ []) other (ap (λ (w : List ℕ). w ∷ []) same)

one-word : (a b : WornWord) → word_text a ≡ word_text b → a ≡ b
one-word Free Free e = refl
one-word Free Next e = absurd (other_word _ _ refl e)
one-word Free Tail e = absurd (other_word _ _ refl e)
one-word Free Head e = absurd (other_word _ _ refl e)
one-word Next Free e = absurd (other_word _ _ refl e)
one-word Next Next e = refl
one-word Next Tail e = absurd (other_word _ _ refl e)
one-word Next Head e = absurd (other_word _ _ refl e)
one-word Tail Free e = absurd (other_word _ _ refl e)
one-word Tail Next e = absurd (other_word _ _ refl e)
one-word Tail Tail e = refl
one-word Tail Head e = absurd (other_word _ _ refl e)
one-word Head Free e = absurd (other_word _ _ refl e)
one-word Head Next e = absurd (other_word _ _ refl e)
one-word Head Tail e = absurd (other_word _ _ refl e)
one-word Head Head e = refl

-- the words of a step tell it
pub one-step : (a b : Option ℕ) → step_word a ≡ step_word b → a ≡ b
one-step None None e = refl
one-step None (Some n) e = absurd (dash_no_number n e)
one-step (Some m) None e = absurd (dash_no_number m (sym e))
one-step (Some m) (Some n) e = ap (λ (n : ℕ). Some n) (numeral_injective m n e)

-- the words of a call, before others, tell it and them
one-call : (a b : Op) (xs ys : List (List ℕ)) → call_words a ++ xs ≡ call_words b ++ ys → (a ≡ b) × (xs ≡ ys)
one-call (Enq m) (Enq n) xs ys e = let body : numeral m ≡ numeral n = cc in (ap (λ (n : ℕ). Enq n) (numeral_injective m n body), cc)
one-call (Enq m) Deq xs ys e = absurd (apart _ _ refl e)
one-call Deq (Enq n) xs ys e = absurd (apart _ _ refl e)
one-call Deq Deq xs ys e = (refl, cc)
one-call Shut Shut xs ys e = (refl, cc)
one-call (Enq m) Shut xs ys e = absurd (apart _ _ refl e)
one-call Deq Shut xs ys e = absurd (apart _ _ refl e)
one-call Shut (Enq n) xs ys e = absurd (apart _ _ refl e)
one-call Shut Deq xs ys e = absurd (apart _ _ refl e)

-- the words of a refusal that a queue may give tell it
one-refusal : (a b : Refusal) → may_refuse a ≡ true → may_refuse b ≡ true → refusal_words a ≡ refusal_words b → a ≡ b
one-refusal NoNode NoNode may may' e = refl
one-refusal NoNode (WornOut other) may may' e = absurd (apart _ _ refl e)
one-refusal NoNode Busy may may' e = absurd (apart _ _ refl e)
one-refusal NoNode Closed may may' e = absurd cc
one-refusal (WornOut word) NoNode may may' e = absurd (apart _ _ refl e)
one-refusal (WornOut word) (WornOut other) may may' e =
    let same : word_text word ≡ word_text other = cc in ap (λ (w : WornWord). WornOut w) (one-word word other same)
one-refusal (WornOut word) Busy may may' e = absurd (apart _ _ refl e)
one-refusal (WornOut word) Closed may may' e = absurd (apart _ _ refl e)
one-refusal Busy NoNode may may' e = absurd (apart _ _ refl e)
one-refusal Busy (WornOut other) may may' e = absurd (apart _ _ refl e)
one-refusal Busy Busy may may' e = refl
one-refusal Busy Closed may may' e = absurd (apart _ _ refl e)
one-refusal Closed NoNode may may' e = absurd cc
one-refusal Closed (WornOut other) may may' e = absurd (apart _ _ refl e)
one-refusal Closed Busy may may' e = absurd (apart _ _ refl e)
one-refusal Closed Closed may may' e = refl
one-refusal _ _ may may' e = absurd cc

-- the words of a reply that a queue may give tell it
one-reply : (a b : Option Reply) → IsQueueReply a → IsQueueReply b → reply_words a ≡ reply_words b → a ≡ b
one-reply None None may may' e = refl
one-reply None (Some Done) may may' e = absurd (apart _ _ refl e)
one-reply None (Some (Value w)) may may' e = absurd (apart _ _ refl e)
one-reply None (Some Empty) may may' e = absurd (apart _ _ refl e)
one-reply None (Some (Refused b)) may may' e = absurd (apart _ _ refl e)
one-reply (Some Done) None may may' e = absurd (apart _ _ refl e)
one-reply (Some Done) (Some Done) may may' e = refl
one-reply (Some Done) (Some (Value w)) may may' e = absurd (apart _ _ refl e)
one-reply (Some Done) (Some Empty) may may' e = absurd (apart _ _ refl e)
one-reply (Some Done) (Some (Refused b)) may may' e = absurd (apart _ _ refl e)
one-reply (Some (Value v)) None may may' e = absurd (apart _ _ refl e)
one-reply (Some (Value v)) (Some Done) may may' e = absurd (apart _ _ refl e)
one-reply (Some (Value v)) (Some (Value w)) may may' e =
    let from : numeral v.from ≡ numeral w.from = cc in
    let body : numeral v.body ≡ numeral w.body = cc in
    λ i. Some (Value (record { from = numeral_injective v.from w.from from i; body = numeral_injective v.body w.body body i }))
one-reply (Some (Value v)) (Some Empty) may may' e = absurd (apart _ _ refl e)
one-reply (Some (Value v)) (Some (Refused b)) may may' e = absurd (apart _ _ refl e)
one-reply (Some Empty) None may may' e = absurd (apart _ _ refl e)
one-reply (Some Empty) (Some Done) may may' e = absurd (apart _ _ refl e)
one-reply (Some Empty) (Some (Value w)) may may' e = absurd (apart _ _ refl e)
one-reply (Some Empty) (Some Empty) may may' e = refl
one-reply (Some Empty) (Some (Refused b)) may may' e = absurd (apart _ _ refl e)
one-reply (Some (Refused a)) None may may' e = absurd (apart _ _ refl e)
one-reply (Some (Refused a)) (Some Done) may may' e = absurd (apart _ _ refl e)
one-reply (Some (Refused a)) (Some (Value w)) may may' e = absurd (apart _ _ refl e)
one-reply (Some (Refused a)) (Some Empty) may may' e = absurd (apart _ _ refl e)
one-reply (Some (Refused a)) (Some (Refused b)) may may' e =
    let words : refusal_words a ≡ refusal_words b = cc in
    ap (λ (refusal : Refusal). Some (Refused refusal)) (one-refusal a b may may' words)

-- the words of an operation tell it
one-operation : (a b : Stamped) → IsQueueReply a.reply → IsQueueReply b.reply → operation_words a ≡ operation_words b → a ≡ b
one-operation a b may may' e =
    let actor : numeral a.actor ≡ numeral b.actor = cc in
    let rest : call_words a.op ++ stamp_words a ≡ call_words b.op ++ stamp_words b = cc in
    let call = one-call a.op b.op (stamp_words a) (stamp_words b) rest in
    let stamps : stamp_words a ≡ stamp_words b = call.1 in
    let first : numeral a.first ≡ numeral b.first = cc in
    let last : step_word a.last ≡ step_word b.last = cc in
    let at : step_word a.at ≡ step_word b.at = cc in
    let reply : reply_words a.reply ≡ reply_words b.reply = cc in
    λ i. record {
      actor = numeral_injective a.actor b.actor actor i;
      op = call.0 i;
      first = numeral_injective a.first b.first first i;
      last = one-step a.last b.last last i;
      at = one-step a.at b.at at i;
      reply = one-reply a.reply b.reply may may' reply i;
    }

-- the words of the first line tell the number
one-count : (m n : ℕ) → count_words m ≡ count_words n → m ≡ n
one-count m n e = let same : numeral m ≡ numeral n = cc in numeral_injective m n same

-- the lines of histories tell what they say, and have no line feed
pub IsSoundListing-history : IsSoundListing history_listing
IsSoundListing-history = record {
  header_no_feed = λ count. HasNo-spaced (count_words count) (ink-count count);
  one_header = λ m n e. one-count m n (sym (words_of-ink _ _ (ink-count m)) ∙ ap words_of e ∙ words_of-ink _ _ (ink-count n));
  item_no_feed = λ o may. HasNo-spaced (operation_words o) (ink-operation o may);
  one_item = λ a b may may' e. one-operation a b may may' (sym (words_of-ink _ _ (ink-operation a may)) ∙ ap words_of e ∙ words_of-ink _ _ (ink-operation b may'));
}

-- one history a text
pub one_history : (a b : List Stamped) → IsHistoryInRange a → IsHistoryInRange b → history_text a ≡ history_text b → a ≡ b
one_history a b ra rb e =
    (one_listing history_listing IsSoundListing-history (length a) (length b) a b (IsListing-history a ra) (IsListing-history b rb)
    (history-spelled a ra ∙ e ∙ sym (history-spelled b rb))).1

-- the text of a history in range has no faulty line
pub no_fault_of_history : (ops : List Stamped) (number : ℕ) (cause : TextCause) → IsHistoryInRange ops → ¬ HasFirstFault (history_text ops) number cause
no_fault_of_history ops number cause range fault =
    listing-no_fault history_listing IsSoundListing-history (length ops) ops number cause (IsListing-history ops range)
    (subst (λ (text : List ℕ). HasFirstFault text number cause) (sym (history-spelled ops range)) fault)

-- no text is neither a history's nor faulty
pub not_neither_of_history : (text : List ℕ) → ((ops : List Stamped) → IsHistoryInRange ops → text ≢ history_text ops)
    → ((number : ℕ) (cause : TextCause) → ¬ HasFirstFault text number cause) → ⊥
not_neither_of_history text none =
    listing-not_neither history_listing text (λ count ops is e. none ops (range-listed count ops is) (e ∙ listed-spelled count ops is))
