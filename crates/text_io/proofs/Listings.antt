-- A listing that is read a line at a time, and what its texts are.
use Rattle.std.proofs.Common.{◌≡◌, ◌≢◌, ℕ, zero, suc, ◌+◌, ◌-◌, ◌<◌, ◌≤◌, List, [], ◌∷◌, ◌++◌, length, map, All, true, false, refl, sym, ap, ◌∙◌, arith, subst}
use Rattle.std.specs.List.{flat_map}
use Rattle.std.proofs.lemmas.List.{append-nil, map-append, length-map}
use Rattle.std.proofs.lemmas.List.Elements.{All-nil, All-cons, All-head, All-tail}
use Rattle.history.specs.declared.text_causes.TextCause.{TextCause}
use Rattle.history.specs.declared.text_causes.TextCause.TheVariants.{End, Form, Range, Extra}
use Rattle.text_io.specs.Lines.{HasNo, line}
use Rattle.text_io.specs.LineReadings.{IsWrong}
use Rattle.text_io.specs.Grammars.{Says, AreDue, state_after, lines_of, Begins, IsText, IsSoundGrammar}
use Rattle.text_io.specs.Listings.{Listing, ListingLine, Header, Item, ListingDue, First, After, is_due_in, MaySayIn, listing_grammar}
use Rattle.text_io.specs.Listings.{listing_lines, listing_text, IsListing, SaysItem, SaysHeader, IsFirstFaultIn, IsSoundListing}
use Rattle.text_io.proofs.Faults.{Begins-nothing, Begins-more, first_fault-end, first_fault-line, first_fault-extra}
use Rattle.text_io.proofs.Single.{one_list, no_fault, one_fault}
use Rattle.text_io.proofs.Total.{not_neither}

module _ {H I : Type 0} (l : Listing H I) where
  -- what the lines behind the first one say
  abbrev said : List I → List (ListingLine H I)
  said items = map (λ i. Item i) items

  length-said : (items : List I) → length (said items) ≡ length items
  length-said items = length-map items (λ i. Item i)

  -- what is due after some lines
  state-said : (h : H) (items : List I) (left : ℕ) → state_after (listing_grammar l) (After h left) (said items) ≡ After h (left - length items)
  state-said h [] left = ap (λ (n : ℕ). After h n) {x = left} {y = left - 0} (omega arith)
  state-said h (i ∷ items) left = state-said h items (left - 1) ∙ ap (λ (n : ℕ). After h n) {x = left - 1 - length items} {y = left - suc (length items)} (omega arith)

  -- a line is due while some are left
  due-some : (h : H) (left : ℕ) → 0 < left → is_due_in (After h left) ≡ true
  due-some h zero some = absurd (omega arith)
  due-some h (suc left) some = refl

  due-none : (h : H) (left : ℕ) → left ≡ 0 → is_due_in (After h left) ≡ false
  due-none h zero none = refl
  due-none h (suc left) none = absurd (omega arith)

  -- a text begins with this first line and the lines of these items
  abbrev pub BeginsListing : H → List I → List ℕ → List ℕ → Type 0
  BeginsListing h items text rest = Begins (listing_grammar l) First (Header h ∷ said items) text rest

  -- the first line is read
  pub BeginsListing-first : (h : H) (text rest : List ℕ) → l.header_in_range h → text ≡ line (l.header h) ++ rest → BeginsListing h [] text rest
  BeginsListing-first h text rest range split =
      Begins-more (listing_grammar l) First First [] (Header h) text text rest (Begins-nothing (listing_grammar l) First text) refl refl tt range split

  -- one more line is read
  pub BeginsListing-next : (h : H) (items : List I) (i : I) (text rest says later : List ℕ) → BeginsListing h items text rest → length items < l.count h
      → rest ≡ line says ++ later → SaysItem l says i → l.in_range h i → BeginsListing h (items ++ i ∷ []) text later
  BeginsListing-next h items i text rest says later begins more split there range =
      let longer : Begins (listing_grammar l) First ((Header h ∷ said items) ++ Item i ∷ []) text later =
      Begins-more (listing_grammar l) First (After h (l.count h - length items)) (Header h ∷ said items) (Item i) text rest later begins
      (state-said h items (l.count h)) (due-some h (l.count h - length items) (omega arith)) there.0 range
      (split ∙ ap (λ (says : List ℕ). line says ++ later) there.1) in
      let lines : said (items ++ i ∷ []) ≡ said items ++ Item i ∷ [] = map-append (λ i. Item i) items (i ∷ []) in
      subst (λ (lines : List (ListingLine H I)). Begins (listing_grammar l) First (Header h ∷ lines) text later) (sym lines) longer

  -- a first line that says nothing, or something that is out of range
  wrong-header : (says : List ℕ) (cause : TextCause) → IsWrong (SaysHeader l says) l.header_in_range cause
      → IsWrong (Says (listing_grammar l) First says) ((listing_grammar l).in_range First) cause
  wrong-header says End wrong = absurd wrong
  wrong-header says Form wrong = by
    where
      by : (r : ListingLine H I) → ¬ Says (listing_grammar l) First says r
      by (Header h) s = wrong h s.spelled
      by (Item i) s = absurd s.may
  wrong-header says Range wrong = (Header wrong.0, record { may = tt; spelled = wrong.1 }, wrong.2)
  wrong-header says Extra wrong = absurd wrong

  -- the same of a line behind it
  wrong-item : (h : H) (left : ℕ) (says : List ℕ) (cause : TextCause) → IsWrong (SaysItem l says) (l.in_range h) cause
      → IsWrong (Says (listing_grammar l) (After h left) says) ((listing_grammar l).in_range (After h left)) cause
  wrong-item h left says End wrong = absurd wrong
  wrong-item h left says Form wrong = by
    where
      by : (r : ListingLine H I) → ¬ Says (listing_grammar l) (After h left) says r
      by (Header other) s = absurd s.may
      by (Item i) s = wrong i (s.may, s.spelled)
  wrong-item h left says Range wrong = (Item wrong.0, record { may = wrong.1.0; spelled = wrong.1.1 }, wrong.2)
  wrong-item h left says Extra wrong = absurd wrong

  -- the first line has no line feed
  pub fault-no_header : (text : List ℕ) → HasNo 10 text → IsFirstFaultIn l text 1 End
  fault-no_header text none = first_fault-end (listing_grammar l) First First [] text text 1 (Begins-nothing (listing_grammar l) First text) refl refl refl none

  -- the first line is wrong
  pub fault-header : (text says rest : List ℕ) (cause : TextCause) → text ≡ line says ++ rest → HasNo 10 says
      → IsWrong (SaysHeader l says) l.header_in_range cause → IsFirstFaultIn l text 1 cause
  fault-header text says rest cause split whole wrong =
      first_fault-line (listing_grammar l) First First [] text text says rest 1 cause (Begins-nothing (listing_grammar l) First text) refl refl refl split whole (wrong-header says cause wrong)

  -- a line is due, and there is no further line feed
  pub fault-end : (h : H) (items : List I) (text rest : List ℕ) (place : ℕ) → BeginsListing h items text rest → length items ≡ place → place < l.count h
      → HasNo 10 rest → IsFirstFaultIn l text (2 + place) End
  fault-end h items text rest place begins counted more none =
      first_fault-end (listing_grammar l) First (After h (l.count h - length items)) (Header h ∷ said items) text rest (2 + place) begins (state-said h items (l.count h))
      (omega (arith, counted, length-said items)) (due-some h (l.count h - length items) (omega arith)) none

  -- a line is due, and the next one is wrong
  pub fault-item : (h : H) (items : List I) (text rest says later : List ℕ) (place : ℕ) (cause : TextCause) → BeginsListing h items text rest → length items ≡ place
      → place < l.count h → rest ≡ line says ++ later → HasNo 10 says → IsWrong (SaysItem l says) (l.in_range h) cause → IsFirstFaultIn l text (2 + place) cause
  fault-item h items text rest says later place cause begins counted more split whole wrong =
      first_fault-line (listing_grammar l) First (After h (l.count h - length items)) (Header h ∷ said items) text rest says later (2 + place) cause begins (state-said h items (l.count h))
      (omega (arith, counted, length-said items)) (due-some h (l.count h - length items) (omega arith)) split whole
      (wrong-item h (l.count h - length items) says cause wrong)

  -- no line is due, and bytes follow
  pub fault-extra : (h : H) (items : List I) (text rest : List ℕ) → BeginsListing h items text rest → length items ≡ l.count h → rest ≢ []
      → IsFirstFaultIn l text (2 + l.count h) Extra
  fault-extra h items text rest begins counted some =
      first_fault-extra (listing_grammar l) First (After h (l.count h - length items)) (Header h ∷ said items) text rest (2 + l.count h) begins (state-said h items (l.count h))
      (omega (arith, counted, length-said items)) (due-none h (l.count h - length items) (omega arith)) some

  -- the bytes of some lines
  lines-said : (items : List I) → lines_of (listing_grammar l) (said items) ≡ flat_map (λ i. line (l.item i)) items
  lines-said [] = refl
  lines-said (i ∷ items) = ap (λ (later : List ℕ). line (l.item i) ++ later) (lines-said items)

  -- each line that is due is in its form and in range
  said-due : (h : H) (items : List I) (left : ℕ) → AreDue (listing_grammar l) (After h left) (said items) → All (λ i. l.may_say i × l.in_range h i) items
  said-due h [] left due = All-nil (λ i. l.may_say i × l.in_range h i)
  said-due h (i ∷ items) left due = All-cons (λ i. l.may_say i × l.in_range h i) i items (due.1, due.2) (said-due h items (left - 1) due.3)

  -- and the other way round
  due-said : (h : H) (items : List I) (left : ℕ) → length items ≤ left → All (λ i. l.may_say i × l.in_range h i) items → AreDue (listing_grammar l) (After h left) (said items)
  due-said h [] left enough all = tt
  due-said h (i ∷ items) left enough all =
      let here = All-head (λ i. l.may_say i × l.in_range h i) i items all in
      (due-some h left (omega arith), here.0, here.1, due-said h items (left - 1) (omega arith) (All-tail (λ i. l.may_say i × l.in_range h i) i items all))

  -- a text of as many lines as are announced is that of its lines
  pub listing-whole : (h : H) (items : List I) (text rest : List ℕ) → BeginsListing h items text rest → length items ≡ l.count h → rest ≡ []
      → (text ≡ listing_text l h items) × IsListing l h items
  listing-whole h items text rest begins counted empty = (
    begins.spelled ∙ ap (λ (rest : List ℕ). lines_of (listing_grammar l) (listing_lines h items) ++ rest) empty
        ∙ append-nil (lines_of (listing_grammar l) (listing_lines h items)) ∙ ap (λ (later : List ℕ). line (l.header h) ++ later) (lines-said items),
    record { announced = sym counted; header = begins.due.2; each = said-due h items (l.count h) begins.due.3 },
  )

  -- a listing's text is in its grammar
  IsText-listing : (h : H) (items : List I) → IsListing l h items → IsText (listing_grammar l) First (listing_lines h items) (listing_text l h items)
  IsText-listing h items is = record {
    lines = record {
      due = (refl, tt, is.header, due-said h items (l.count h) (omega (arith, is.announced)) is.each);
      spelled = ap (λ (later : List ℕ). line (l.header h) ++ later) (sym (lines-said items)) ∙ sym (append-nil (lines_of (listing_grammar l) (listing_lines h items)));
    };
    done = ap is_due_in (state-said h items (l.count h)) ∙ due-none h (l.count h - length items) (omega (arith, is.announced));
  }

  -- lines that are due behind a first one, as many as are due
  record AreItems (left : ℕ) (rs : List (ListingLine H I)) : Type 0 where
    items : List I
    lines : rs ≡ said items
    counted : length items ≡ left

  items_of : (h : H) (rs : List (ListingLine H I)) (left : ℕ) → AreDue (listing_grammar l) (After h left) rs
      → is_due_in (state_after (listing_grammar l) (After h left) rs) ≡ false → AreItems left rs
  items_of h [] zero due done = record { items = []; lines = refl; counted = refl }
  items_of h [] (suc left) due done = absurd cc
  items_of h (Header other ∷ rs) left due done = absurd due.1
  items_of h (Item i ∷ rs) zero due done = absurd (let e : false ≡ true = due.0 in cc)
  items_of h (Item i ∷ rs) (suc left) due done =
      let less : suc left - 1 ≡ left = omega arith in
      let later = items_of h rs left (subst (λ n. AreDue (listing_grammar l) (After h n) rs) less due.3)
      (subst (λ n. is_due_in (state_after (listing_grammar l) (After h n) rs) ≡ false) less done) in
      record { items = i ∷ later.items; lines = ap (λ (rs : List (ListingLine H I)). Item i ∷ rs) later.lines; counted = ap suc later.counted }

  -- a text in the grammar is that of a listing
  listing_of : (rs : List (ListingLine H I)) (text : List ℕ) → IsText (listing_grammar l) First rs text
      → (h : H) × (items : List I) × IsListing l h items × (text ≡ listing_text l h items)
  listing_of [] text is = absurd (let e : true ≡ false = is.done in cc)
  listing_of (Item i ∷ rs) text is = absurd is.lines.due.1
  listing_of (Header h ∷ rs) text is =
      let later = items_of h rs (l.count h) is.lines.due.3 is.done in
      let begins : BeginsListing h later.items text [] = subst (λ (rs : List (ListingLine H I)). Begins (listing_grammar l) First (Header h ∷ rs) text []) later.lines is.lines in
      let whole = listing-whole h later.items text [] begins later.counted refl in
      (h, later.items, whole.1, whole.0)

  -- no text is neither a listing's nor faulty
  pub listing-not_neither : (text : List ℕ) → ((h : H) (items : List I) → IsListing l h items → text ≢ listing_text l h items)
      → ((number : ℕ) (cause : TextCause) → ¬ IsFirstFaultIn l text number cause) → ⊥
  listing-not_neither text none =
      not_neither (listing_grammar l) First text (λ rs is. let found = listing_of rs text is in none found.0 found.1 found.2 found.3)

  module _ (sound : IsSoundListing l) where
    -- the bytes of a line tell what it says, and have no line feed
    IsSoundGrammar-listing : IsSoundGrammar (listing_grammar l)
    IsSoundGrammar-listing = record { no_feed = no_feed; one = one }
      where
        no_feed : (s : ListingDue H) (r : ListingLine H I) → MaySayIn l s r → HasNo 10 ((listing_grammar l).words r)
        no_feed First (Header h) may = sound.header_no_feed h
        no_feed First (Item i) may = absurd may
        no_feed (After h left) (Header other) may = absurd may
        no_feed (After h left) (Item i) may = sound.item_no_feed i may

        one : (s : ListingDue H) (r q : ListingLine H I) → MaySayIn l s r → MaySayIn l s q → (listing_grammar l).words r ≡ (listing_grammar l).words q → r ≡ q
        one First (Header g) (Header h) may may' e = ap (λ (h : H). Header h) (sound.one_header g h e)
        one First (Header g) (Item i) may may' e = absurd may'
        one First (Item i) q may may' e = absurd may
        one (After h left) (Header other) q may may' e = absurd may
        one (After h left) (Item i) (Header other) may may' e = absurd may'
        one (After h left) (Item i) (Item j) may may' e = ap (λ (i : I). Item i) (sound.one_item i j may may' e)

    said_injective : (is js : List I) → said is ≡ said js → is ≡ js
    said_injective [] [] e = refl
    said_injective [] (j ∷ js) e = absurd cc
    said_injective (i ∷ is) [] e = absurd cc
    said_injective (i ∷ is) (j ∷ js) e =
        let head : i ≡ j = cc in
        let tail : said is ≡ said js = cc in
        λ k. head k ∷ said_injective is js tail k

    -- one listing a text
    pub one_listing : (g h : H) (is js : List I) → IsListing l g is → IsListing l h js → listing_text l g is ≡ listing_text l h js → (g ≡ h) × (is ≡ js)
    one_listing g h is js a b e =
        let lines : listing_lines g is ≡ listing_lines h js = one_list (listing_grammar l) IsSoundGrammar-listing First (listing_lines g is) (listing_lines h js) (listing_text l h js)
        (subst (IsText (listing_grammar l) First (listing_lines g is)) e (IsText-listing g is a)) (IsText-listing h js b) in
        let same : g ≡ h = cc in
        let saids : said is ≡ said js = cc in
        (same, said_injective is js saids)

    -- the text of a listing has no faulty line
    pub listing-no_fault : (h : H) (items : List I) (number : ℕ) (cause : TextCause) → IsListing l h items → ¬ IsFirstFaultIn l (listing_text l h items) number cause
    listing-no_fault h items number cause is =
        no_fault (listing_grammar l) IsSoundGrammar-listing First (listing_lines h items) (listing_text l h items) number cause (IsText-listing h items is)

    -- the first faulty line of a text is one, and wrong for one cause
    pub listing-one_fault : (text : List ℕ) (m n : ℕ) (c d : TextCause) → IsFirstFaultIn l text m c → IsFirstFaultIn l text n d → (m ≡ n) × (c ≡ d)
    listing-one_fault = one_fault (listing_grammar l) IsSoundGrammar-listing First
