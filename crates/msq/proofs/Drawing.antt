-- What is drawn to a sink that colours, and to the sink behind it.
use Rattle.std.proofs.Common.{◌≡◌, ℕ, Bool, true, false, List, [], Option, None, Some, refl, sym, ap, ap₂, ◌∙◌, append-nil, subst}
use Rattle.std.proofs.lemmas.Bool.{false≢true}
use Rattle.std.proofs.lemmas.Result.{on_ok_weaker}
use Rattle.std.specs.Prelude.{option_map, OnOk, Result, Ok, Err}
use Rattle.std.specs.Io.KnownBytes.{Appends, Keeps}
use Rattle.show_engine.specs.declared.coloured.Coloured.{Coloured}
use Rattle.show_engine.specs.Plain.{plain}
use Rattle.show_engine.specs.Colouring.{IsUnused, plain_of, state_of}
use Rattle.command_line.specs.declared.commands.ShowOptions.{ShowOptions}
use Rattle.show_engine.specs.declared.frames.Meaning.{Meaning}
use Rattle.text_io.specs.Devices.{SinkState}
use Rattle.msq.specs.declared.options.Frames.{Frames}
use Rattle.msq.specs.Options.{Draws}

-- nothing that is held back adds nothing
plain_of-nil : (sent : Option (List ℕ)) → option_map plain sent ≡ plain_of sent []
plain_of-nil None = refl
plain_of-nil (Some bytes) = ap (λ (l : List ℕ). Some (plain l)) (sym (append-nil bytes))

-- what a new sink that colours has is what the one behind it has
pub contents_unused : {W : Type 0} (state : W → SinkState) (sink : Coloured W) (behind : W) → IsUnused sink behind
    → option_map plain (state behind).contents ≡ (state_of state sink).contents
contents_unused state sink behind is =
    plain_of-nil (state behind).contents ∙ ap₂ (λ w held. plain_of (state w).contents held) (sym is.inner) (sym is.held)

-- what holds where one call is Ok, whose answer is that of an earlier one
pub OnOk-carried : {A E : Type 0} (result earlier : Result A E) (P K Q : Type 0) → OnOk result (result ≡ earlier) → OnOk earlier P → OnOk result K → (P → K → Q) → OnOk result Q
OnOk-carried (Ok x) earlier P K Q same holds kept f = f (subst (λ r. OnOk r P) (sym same) holds) kept
OnOk-carried (Err e) earlier P K Q same holds kept f = tt

-- what follows where a call is Ok, of which one of three facts is known by two flags
pub OnOk-by : {A E : Type 0} (first second : Bool) (result : Result A E) (P Q S R : Type 0) → (first ≡ false → second ≡ false → OnOk result P) → (first ≡ false → second ≡ true → OnOk result Q)
    → (first ≡ true → OnOk result S) → ((first ≡ false → second ≡ false → P) → (first ≡ false → second ≡ true → Q) → (first ≡ true → S) → R) → OnOk result R
OnOk-by false false result P Q S R p q s f = on_ok_weaker result (λ x. f (λ a b. x) (λ a e. absurd (false≢true e)) (λ e. absurd (false≢true e))) (p refl refl)
OnOk-by false true result P Q S R p q s f = on_ok_weaker result (λ x. f (λ a e. absurd (false≢true (sym e))) (λ a b. x) (λ e. absurd (false≢true e))) (q refl refl)
OnOk-by true second result P Q S R p q s f = on_ok_weaker result (λ x. f (λ e. absurd (false≢true (sym e))) (λ e. absurd (false≢true (sym e))) (λ e. x)) (s refl)

-- bytes that grew, and were kept then, grew
Appends-carried : (before a b after : Option (List ℕ)) (bytes : List ℕ) → before ≡ a → Keeps b after → Appends a b bytes → Appends before after bytes
Appends-carried before None b after bytes same kept grown = subst (λ o. Appends o after bytes) (sym same) tt
Appends-carried before (Some x) None after bytes same kept grown = absurd grown
Appends-carried before (Some x) (Some y) None bytes same kept grown = absurd kept
Appends-carried before (Some x) (Some y) (Some z) bytes same kept grown = subst (λ o. Appends o (Some z) bytes) (sym same) (kept ∙ grown)

-- what was drawn to one sink, as another one has it that kept as much
pub Draws-carried : (options : ShowOptions) (frames : Frames) (meanings : List Meaning) (is_recipe : Bool) (given : Option (List ℕ)) (before a b after : SinkState)
    → before.contents ≡ a.contents → Keeps b.contents after.contents → Draws options frames meanings is_recipe given a b → Draws options frames meanings is_recipe given before after
Draws-carried options frames meanings is_recipe given before a b after same kept d =
    let carried : (bytes : List ℕ) → Appends a.contents b.contents bytes → Appends before.contents after.contents bytes =
    λ bytes grown. Appends-carried before.contents a.contents b.contents after.contents bytes same kept grown in
    record {
      view = d.view;
      asked = d.asked;
      timeline = λ on off no. let t = d.timeline on off no in record { operations = t.operations; read = t.read; written = carried _ t.written };
      history_page = λ on page.
          let p = d.history_page on page in
          record { text = p.text; operations = p.operations; bytes = p.bytes; history = p.history; found = p.found; written = carried _ p.written };
      page = λ off on none.
          let p = d.page off on none in
          record { schedule = p.schedule; in_range = p.in_range; read = p.read; holds = (p.holds.0, p.holds.1, carried _ p.holds.2) };
      recipe_page = λ off on is.
          let p = d.recipe_page off on is in
          record { expansion = p.expansion; read = p.read; holds = (p.holds.0, p.holds.1, carried _ p.holds.2) };
      picture = λ off page no none.
          let p = d.picture off page no none in
          record { schedule = p.schedule; in_range = p.in_range; read = p.read; holds = (p.holds.0, p.holds.1, carried _ p.holds.2) };
      recipe = λ off page no is.
          let p = d.recipe off page no is in
          let w = p.holds.written in
          record { expansion = p.expansion; read = p.read; holds = record { whole = p.holds.whole; written = (w.0, w.1, carried _ w.2) } };
      found = λ on page.
          let f = d.found on page in
          record {
            text = f.text;
            operations = f.operations;
            answer = f.answer;
            history = f.history;
            answers = f.answers;
            cause = f.cause;
            right = f.right;
            written = carried _ f.written;
          };
    }
