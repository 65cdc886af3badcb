-- The history of a recording's longer one, of the pushes and of the operations that were read.
use Rattle.std.proofs.Common.{◌≡◌, ◌⊎◌, inl, inr, ℕ, zero, suc, Bool, true, false, Bor, ◌+◌, ◌<◌, ◌≤◌, List, [], ◌∷◌, ◌++◌, map, length, take, get_or}
use Rattle.std.proofs.Common.{All, append_assoc, Option, None, Some, option_map, refl, sym, ap, ◌∙◌, subst, arith}
use Rattle.std.specs.Prelude.{slice_get, MatchBool}
use Rattle.std.proofs.lemmas.Grind.{flat_map-append}
use Rattle.std.proofs.lemmas.List.{map-append, length-map, take-map}
use Rattle.std.proofs.lemmas.List.Elements.{All-nil, All-cons, All-head, All-tail, All-map, All-append}
use Rattle.std.proofs.lemmas.Option.{slice_get-map}
use Rattle.history.specs.declared.refusals.Refusal.{Refusal}
use Rattle.history.specs.declared.refusals.Refusal.TheVariants.{Memory, Text}
use Rattle.history.specs.declared.operations.Stamped.{Stamped}
use Rattle.recording_text.specs.Recordings.{Recorded, texts_in, texts_of}
use Rattle.recording_text.specs.RecordingLines.{IsFirstFaultOfRecording, HasFirstFault}
use Rattle.recording_text.specs.Numbers.{with_texts, known_in, stamped_by}
use Rattle.recording_text.specs.declared.lines.ReadOperation.{ReadOperation}
use Rattle.recording_text.specs.RecordingReading.{StandsBehind, bytes_of, said_of}
use Rattle.recording_text.specs.HeldTexts.{push_at, pushes_from, later_by, longer, stamped_later, StampsFit, StandsHolding, IsBeyond, IsBeyondIn, IsFaultHolding, IsHeldText, AreHeld}
use Rattle.recording_text.proofs.Known.{AllAreKnown, all-known_in, history-stays, with_texts-append, length-with_texts}

-- the texts of pushes
pub texts-pushes : (number : ℕ) (texts : List (List ℕ)) → texts_of (pushes_from number texts) ≡ texts
texts-pushes number [] = refl
texts-pushes number (text ∷ texts) = ap (λ (l : List (List ℕ)). text ∷ l) (texts-pushes (number + 1) texts)

-- one push more
pub pushes-push : (number : ℕ) (texts : List (List ℕ)) (text : List ℕ)
    → pushes_from number (texts ++ text ∷ []) ≡ pushes_from number texts ++ push_at (number + length texts) text ∷ []
pushes-push number [] text = ap (λ (n : ℕ). push_at n text ∷ []) {x = number} {y = number + 0} (omega arith)
pushes-push number (first ∷ texts) text =
    ap (λ (l : List Recorded). push_at number first ∷ l)
    (pushes-push (number + 1) texts text ∙ ap (λ (n : ℕ). pushes_from (number + 1) texts ++ push_at n text ∷ []) {x = number + 1 + length texts} {y = number + suc (length texts)} (omega arith))

-- Texts were learnt, and their pushes have their numbers.
pub record HasPushed (texts : List (List ℕ)) (known : List (List ℕ)) (ops : List Stamped) : Type 0 where
  pub learnt : known ≡ with_texts [] texts
  pub numbered : ops ≡ map (stamped_by known) (pushes_from 1 texts)

pub HasPushed-none : HasPushed [] [] []
HasPushed-none = record { learnt = refl; numbered = refl }

pub HasPushed-more : (texts : List (List ℕ)) (text : List ℕ) (known new : List (List ℕ)) (ops : List Stamped) → HasPushed texts known ops
    → new ≡ with_texts known (text ∷ []) → HasPushed (texts ++ text ∷ []) new (ops ++ stamped_by new (push_at (1 + length texts) text) ∷ [])
HasPushed-more texts text known new ops has learnt =
    let pushes : List Recorded = pushes_from 1 texts in
    let all : known ≡ with_texts [] (texts_of pushes) = has.learnt ∙ ap (with_texts []) (sym (texts-pushes 1 texts)) in
    let old : ops ≡ map (stamped_by new) pushes =
    has.numbered
    ∙ sym (history-stays known pushes (text ∷ []) (subst (λ (known : List (List ℕ)). AllAreKnown known pushes) (sym all) (all-known_in pushes [])))
    ∙ ap (λ (known : List (List ℕ)). map (stamped_by known) pushes) (sym learnt) in
    record {
      learnt = learnt ∙ ap (λ (known : List (List ℕ)). with_texts known (text ∷ [])) has.learnt ∙ sym (with_texts-append [] texts (text ∷ []));
      numbered =
          ap (λ (ops : List Stamped). ops ++ stamped_by new (push_at (1 + length texts) text) ∷ []) old
          ∙ sym (map-append (stamped_by new) pushes (push_at (1 + length texts) text ∷ []))
          ∙ ap (map (stamped_by new)) (sym (pushes-push 1 texts text));
    }

-- the texts that are known leave room for one more
pub HasPushed-room : (texts : List (List ℕ)) (known : List (List ℕ)) (ops : List Stamped) → HasPushed texts known ops → length texts ≤ 1000000 → length known ≤ 1000000
HasPushed-room texts known ops has few =
    let long : length known ≡ length (with_texts [] texts) = ap (λ (l : List (List ℕ)). length l) has.learnt in
    omega (arith, few, long, length-with_texts [] texts)

-- operations later have the texts that they had
texts-later : (count : ℕ) (rs : List Recorded) → texts_of (map (later_by count) rs) ≡ texts_of rs
texts-later count [] = refl
texts-later count (r ∷ rs) = ap (λ (l : List (List ℕ)). texts_in r ++ l) (texts-later count rs)

-- and the numbers later that their history has
stamped-later : (known : List (List ℕ)) (count : ℕ) (rs : List Recorded) → map (stamped_by known) (map (later_by count) rs) ≡ map (stamped_later count) (map (stamped_by known) rs)
stamped-later known count [] = refl
stamped-later known count (r ∷ rs) = ap (λ (l : List Stamped). stamped_by known (later_by count r) ∷ l) (stamped-later known count rs)

-- what is known of the longer recording
known-longer : (held : List (List ℕ)) (rs : List Recorded) → known_in (longer held rs) ≡ with_texts (with_texts [] held) (texts_of rs)
known-longer held rs =
    let pushes : List Recorded = pushes_from 1 held in
    let later : List Recorded = map (later_by (length held)) rs in
    ap (with_texts []) (flat_map-append texts_in pushes later)
    ∙ ap (λ (l : List (List ℕ)). with_texts [] (l ++ texts_of later)) (texts-pushes 1 held)
    ∙ ap (λ (l : List (List ℕ)). with_texts [] (held ++ l)) (texts-later (length held) rs)
    ∙ with_texts-append [] held (texts_of rs)

-- the pushes and the operations, so many numbers later, are the history of the longer recording
pub stands-holding : (held known new : List (List ℕ)) (text : List ℕ) (pushes ops all : List Stamped) → known ≡ with_texts [] held → pushes ≡ map (stamped_by known) (pushes_from 1 held)
    → StandsBehind known new text ops → all ≡ pushes ++ map (stamped_later (length held)) ops → StandsHolding held text all
stands-holding held known new text pushes ops all first are is added =
    let rs = is.recording in
    let held_pushes : List Recorded = pushes_from 1 held in
    let whole : new ≡ known_in (longer held rs) = is.learnt ∙ ap (λ (known : List (List ℕ)). with_texts known (texts_of rs)) first ∙ sym (known-longer held rs) in
    let all_known : known ≡ with_texts [] (texts_of held_pushes) = first ∙ ap (with_texts []) (sym (texts-pushes 1 held)) in
    let front : pushes ≡ map (stamped_by new) held_pushes =
    are
    ∙ sym (history-stays known held_pushes (texts_of rs) (subst (λ (known : List (List ℕ)). AllAreKnown known held_pushes) (sym all_known) (all-known_in held_pushes [])))
    ∙ ap (λ (known : List (List ℕ)). map (stamped_by known) held_pushes) (sym is.learnt) in
    let back : map (stamped_later (length held)) ops ≡ map (stamped_by new) (map (later_by (length held)) rs) =
    ap (map (stamped_later (length held))) is.history ∙ sym (stamped-later new (length held) rs) in
    record {
      recording = rs;
      in_range = is.in_range;
      spelled = is.spelled;
      history =
          added ∙ (λ i. front i ++ back i)
          ∙ sym (map-append (stamped_by new) held_pushes (map (later_by (length held)) rs))
          ∙ ap (λ (known : List (List ℕ)). map (stamped_by known) (longer held rs)) whole;
    }

-- each of a list, of what it becomes
pub all-mapped_back : {X Y : Type 0} (P : Y → Type 0) (f : X → Y) (xs : List X) → All P (map f xs) → All (λ x. P (f x)) xs
all-mapped_back P f [] all = All-nil (λ x. P (f x))
all-mapped_back P f (x ∷ xs) all = All-cons (λ x. P (f x)) x xs (All-head P (f x) (map f xs) all) (all-mapped_back P f xs (All-tail P (f x) (map f xs) all))

-- the first operation of a recording that leaves no room, by its history
pub beyond-holding : (count : ℕ) (known new : List (List ℕ)) (text : List ℕ) (ops : List Stamped) (refusal : Refusal) → StandsBehind known new text ops → IsBeyondIn count ops refusal
    → IsFaultHolding count text refusal
beyond-holding count known new text ops (Text number cause) is beyond =
    let rs = is.recording in
    let index : ℕ = beyond.1.0 in
    let found = beyond.1.2 in
    let there : option_map (stamped_by new) (slice_get rs index) ≡ Some found.operation =
    sym (slice_get-map (stamped_by new) rs index) ∙ ap (λ (ops : List Stamped). slice_get ops index) (sym is.history) ∙ found.stands in
    let before : All (StampsFit count) (map (stamped_by new) (take index rs)) =
    subst (All (StampsFit count)) (ap (take index) is.history ∙ take-map (stamped_by new) index rs) found.before in
    by (slice_get rs index) refl there before found.none
  where
    by : (o : Option Recorded) → slice_get is.recording beyond.1.0 ≡ o → option_map (stamped_by new) o ≡ Some beyond.1.2.operation
        → All (StampsFit count) (map (stamped_by new) (take beyond.1.0 is.recording)) → ¬ StampsFit count beyond.1.2.operation
        → HasFirstFault text number cause ⊎ IsBeyond count text number cause
    by None stands there before none = absurd cc
    by (Some r) stands there before none =
        let same : stamped_by new r ≡ beyond.1.2.operation = cc in
        inr (record {
          recording = is.recording;
          in_range = is.in_range;
          spelled = is.spelled;
          cause_is = beyond.0;
          index = beyond.1.0;
          operation = r;
          stands = stands;
          counted = beyond.1.1;
          before = all-mapped_back (StampsFit count) (stamped_by new) (take beyond.1.0 is.recording) before;
          none = λ fits. none (subst (StampsFit count) same fits);
        })
beyond-holding count known new text ops Memory is beyond = tt
beyond-holding count known new text ops _ is beyond = absurd beyond

-- a faulty line is one, whatever is held
pub fault-holding : (count : ℕ) (text : List ℕ) (refusal : Refusal) → IsFirstFaultOfRecording text refusal → IsFaultHolding count text refusal
fault-holding count text (Text number cause) fault = inl fault
fault-holding count text Memory fault = tt
fault-holding count text _ fault = absurd fault

-- texts of which each can be held
pub held-by_each : (texts : List (Bor (List ℕ))) (test : Bool) → 0 < length texts → length texts ≤ 1000000
    → MatchBool test (All (λ text. IsHeldText text.now) texts) (¬ All (λ text. IsHeldText text.now) texts)
    → MatchBool test (AreHeld (map bytes_of texts)) (¬ AreHeld (map bytes_of texts))
held-by_each texts true some few all =
    let long = length-map texts bytes_of in
    record { some = omega (arith, long, some); few = omega (arith, long, few); each = All-map IsHeldText bytes_of texts all }
held-by_each texts false some few none = λ held. none (all-mapped_back IsHeldText bytes_of texts held.each)

-- one element more
pub take-more : {X : Type 0} (xs : List X) (i : ℕ) (d : X) → i < length xs → take (i + 1) xs ≡ take i xs ++ get_or xs i d ∷ []
take-more [] i d less = absurd (omega (arith, less))
take-more (x ∷ xs) zero d less = refl
take-more (x ∷ xs) (suc i) d less =
    ap (λ n. take n (x ∷ xs)) {x = suc i + 1} {y = suc (i + 1)} (omega arith) ∙ ap (λ l. x ∷ l) (take-more xs i d (omega (arith, less)))

-- one operation more is added, so many numbers later
pub added-more : (count : ℕ) (ops : List Stamped) (i : ℕ) (d : Stamped) (old now new : List Stamped) (later : Stamped) → i < length ops → now ≡ old ++ map (stamped_later count) (take i ops)
    → later ≡ stamped_later count (get_or ops i d) → new ≡ now ++ later ∷ [] → new ≡ old ++ map (stamped_later count) (take (i + 1) ops)
added-more count ops i d old now new later less was is added =
    added ∙ (λ k. was k ++ is k ∷ []) ∙ append_assoc old (map (stamped_later count) (take i ops)) (stamped_later count (get_or ops i d) ∷ [])
    ∙ ap (λ l. old ++ l) (sym (map-append (stamped_later count) (take i ops) (get_or ops i d ∷ [])) ∙ ap (map (stamped_later count)) (sym (take-more ops i d less)))

-- and its numbers fit too
pub fit-more : (count : ℕ) (ops : List Stamped) (i : ℕ) (d : Stamped) → i < length ops → All (StampsFit count) (take i ops) → StampsFit count (get_or ops i d)
    → All (StampsFit count) (take (i + 1) ops)
fit-more count ops i d less all one =
    subst (All (StampsFit count)) (sym (take-more ops i d less))
    (All-append (StampsFit count) (take i ops) (get_or ops i d ∷ []) all (All-cons (StampsFit count) (get_or ops i d) [] one (All-nil (StampsFit count))))

length-take-within : {X : Type 0} (n : ℕ) (xs : List X) → n ≤ length xs → length (take n xs) ≡ n
length-take-within zero xs le = refl
length-take-within (suc n) [] le = absurd (omega (arith, le))
length-take-within (suc n) (x ∷ xs) le = ap suc (length-take-within n xs (omega (arith, le)))

-- one push more, of the text at a place
pub more-pushed : (held : List (Bor (List ℕ))) (i : ℕ) (d : Bor (List ℕ)) (read : ReadOperation) (known new : List (List ℕ)) (ops all : List Stamped) (push : Stamped) → i < length held
    → HasPushed (map bytes_of (take i held)) known ops → said_of read ≡ push_at (i + 1) (get_or held i d).now → new ≡ with_texts known (texts_in (said_of read)) → push ≡ stamped_by new (said_of read)
    → all ≡ ops ++ push ∷ [] → HasPushed (map bytes_of (take (i + 1) held)) new all
more-pushed held i d read known new ops all push less has said learnt is added =
    let texts = map bytes_of (take i held) in
    let text = (get_or held i d).now in
    let long : length texts ≡ i = length-map (take i held) bytes_of ∙ length-take-within i held (omega (arith, less)) in
    let at : said_of read ≡ push_at (1 + length texts) text = said ∙ ap (λ n. push_at n text) {x = i + 1} {y = 1 + length texts} (omega (arith, long)) in
    let next : new ≡ with_texts known (text ∷ []) = learnt ∙ ap (λ r. with_texts known (texts_in r)) said in
    let more = HasPushed-more texts text known new ops has next in
    let front : texts ++ text ∷ [] ≡ map bytes_of (take (i + 1) held) =
    sym (map-append bytes_of (take i held) (get_or held i d ∷ [])) ∙ ap (map bytes_of) (sym (take-more held i d less)) in
    let back : ops ++ stamped_by new (push_at (1 + length texts) text) ∷ [] ≡ all = ap (λ r. ops ++ stamped_by new r ∷ []) (sym at) ∙ ap (λ p. ops ++ p ∷ []) (sym is) ∙ sym added in
    subst (λ l. HasPushed l new all) front (subst (HasPushed (texts ++ text ∷ []) new) back more)
