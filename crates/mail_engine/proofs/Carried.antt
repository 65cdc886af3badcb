-- The seat that took letters popped one value for each, as many of each sender as it has letters.
use Rattle.std.proofs.Common.{◌≡◌, ◌∙◌, refl, sym, ap, ℕ, suc, Bool, true, false, cond, nat_eq, List, [], ◌∷◌, ◌++◌, length, map}
use Rattle.std.specs.Prelude.{Result, Ok, Err, IfOk}
use Rattle.std.specs.List.{filter}
use Rattle.std.proofs.lemmas.List.{length-map}
use Rattle.history.specs.declared.operations.Taken.{Taken}
use Rattle.history.specs.Seats.{Permit, Known}
use Rattle.history.specs.Values.{popped, OnlyPops}
use Rattle.mail_engine.specs.MailTexts.{SaidLetter}
use Rattle.mailbox.specs.declared.receiver.Letter.{Letter}
use Rattle.mailbox.specs.declared.receiver.Receiver.{Receiver}
use Rattle.mailbox.specs.Posts.{Delivered, texts_of}
use Rattle.mail_engine.specs.Carriers.{values_of, CarriedBy}
use Rattle.mail_engine.proofs.Told.{AreBrought}

-- what holds of a value by two things that hold of it
pub IfOk-both : {T E : Type 0} (r : Result T E) (P Q R : T → Type 0) → ((x : T) → P x → Q x → R x) → IfOk r P → IfOk r Q → IfOk r R
IfOk-both (Ok x) P Q R f p q = f x p q
IfOk-both (Err y) P Q R f p q = tt

-- one more of each list, or of none
one_more : {X Y : Type 0} (b : Bool) (x : X) (y : Y) (xs : List X) (ys : List Y) → length xs ≡ length ys → length (cond b (x ∷ xs) xs) ≡ length (cond b (y ∷ ys) ys)
one_more true x y xs ys same = ap suc same
one_more false x y xs ys same = same

-- as many have a number as there are of it among their numbers
numbered : {X : Type 0} (f : X → ℕ) (n : ℕ) (xs : List X) → length (filter (λ x. nat_eq (f x) n) xs) ≡ length (filter (λ m. nat_eq m n) (map f xs))
numbered f n [] = refl
numbered f n (x ∷ xs) = one_more (nat_eq (f x) n) x (f x) (filter (λ y. nat_eq (f y) n) xs) (filter (λ m. nat_eq m n) (map f xs)) (numbered f n xs)

module _ {Q S : Type 0} (is_seat : Q → S → Type 0) (permits : Q → List Permit) (known : S → Known) {senders : ℕ} {letters : List SaidLetter} {taken : List Letter}
    (are : AreBrought senders letters taken) (queue : Q) {r r' : Receiver Q S} (told : Delivered known r taken r') (unused : (known r.seat).mine ≡ []) where
  -- the seat popped the values of these letters, and no others
  all : popped (known r'.seat).mine ≡ told.values
  all = told.popped_them ∙ ap (λ es. popped es ++ told.values) unused

  -- as many values of a sender as letters
  of_sender : (sender : ℕ) → length (values_of sender (popped (known r'.seat).mine)) ≡ length (texts_of sender taken)
  of_sender sender =
      ap (λ vs. length (filter (λ (v : Taken). nat_eq v.from sender) vs)) all
      ∙ numbered (λ (v : Taken). v.from) sender told.values
      ∙ ap (λ ns. length (filter (λ m. nat_eq m sender) ns)) (sym told.senders)
      ∙ sym (numbered (λ (l : Letter). l.from) sender taken)
      ∙ sym (length-map (filter (λ (l : Letter). nat_eq l.from sender) taken) (λ (l : Letter). l.text.now))

  -- what carried letters that were brought
  pub carried : is_seat queue r'.seat → OnlyPops (permits queue) (known r'.seat).number → CarriedBy is_seat permits known senders letters queue r'.seat
  carried ready only = record {
    ready = ready;
    only = only;
    count =
        ap length all
        ∙ sym (length-map told.values (λ (v : Taken). v.from))
        ∙ ap length (sym told.senders)
        ∙ length-map taken (λ (l : Letter). l.from)
        ∙ are.count;
    each = λ sender within. of_sender sender ∙ ap length (are.texts sender within);
  }
