-- What is read off a history of the recording that it stands for.
use Rattle.std.proofs.Common.{◌≡◌, ℕ, List, [], ◌∷◌, ◌++◌, map, Option, None, Some, option_map, refl, sym, ap, ◌∙◌, flat_map}
use Rattle.std.proofs.lemmas.List.{map-append}
use Rattle.history.specs.declared.refusals.Refusal.TheVariants.{NoNode, Closed as IsShut}
use Rattle.history.specs.declared.operations.Op.{Op}
use Rattle.history.specs.declared.operations.Op.TheVariants.{Enq, Deq, Shut as ShutOp}
use Rattle.history.specs.declared.operations.Reply.{Reply}
use Rattle.history.specs.declared.operations.Reply.TheVariants.{Done as DoneReply, Value as ValueReply, Empty as EmptyReply, Refused as RefusedReply}
use Rattle.history.specs.declared.operations.Stamped.{Stamped}
use Rattle.recording_text.specs.Recordings.{Call, Push, Pop, Shut, Told, Done, Value, Empty, Refused, Closed, Recorded, text_of_call, text_of_told, texts_in, texts_of}
use Rattle.recording_text.specs.Numbers.{known_in, number_in, op_by, reply_by, stamped_by, history_of}
use Rattle.recording_text.specs.Shapes.{shape_of_call, shape_of_told, shape_of, numbers_of}

-- the call that an operation of a history stands for, and the numbers in it
abbrev call_shape : Op → Call
call_shape (Enq body) = Push []
call_shape Deq = Pop
call_shape ShutOp = Shut

abbrev op_numbers : Op → List ℕ
op_numbers (Enq body) = body ∷ []
op_numbers Deq = []
op_numbers ShutOp = []

-- what it stands for that was told, and the numbers in it
abbrev told_shape : Option Reply → Option Told
told_shape (Some DoneReply) = Some Done
told_shape (Some (ValueReply value)) = Some (Value [])
told_shape (Some EmptyReply) = Some Empty
told_shape (Some (RefusedReply NoNode)) = Some Refused
told_shape (Some (RefusedReply IsShut)) = Some Closed
told_shape _ = None

abbrev reply_numbers : Option Reply → List ℕ
reply_numbers (Some (ValueReply value)) = value.body ∷ []
reply_numbers _ = []

-- the operation that one of a history stands for, and all numbers in it
abbrev stamped_shape : Stamped → Recorded
stamped_shape o = record { name = []; call = call_shape o.op; first = o.first; last = o.last; told = told_shape o.reply }

abbrev stamped_numbers : Stamped → List ℕ
stamped_numbers o = op_numbers o.op ++ reply_numbers o.reply

module _ (known : List (List ℕ)) where
  call-read : (call : Call) → call_shape (op_by known call) ≡ shape_of_call call
  call-read (Push text) = refl
  call-read Pop = refl
  call-read Shut = refl

  told-read : (told : Option Told) → told_shape (option_map (reply_by known) told) ≡ shape_of_told told
  told-read None = refl
  told-read (Some Done) = refl
  told-read (Some (Value text)) = refl
  told-read (Some Empty) = refl
  told-read (Some Refused) = refl
  told-read (Some Closed) = refl

  op-counted : (call : Call) → op_numbers (op_by known call) ≡ map (number_in known) (text_of_call call)
  op-counted (Push text) = refl
  op-counted Pop = refl
  op-counted Shut = refl

  reply-counted : (told : Option Told) → reply_numbers (option_map (reply_by known) told) ≡ map (number_in known) (text_of_told told)
  reply-counted None = refl
  reply-counted (Some Done) = refl
  reply-counted (Some (Value text)) = refl
  reply-counted (Some Empty) = refl
  reply-counted (Some Refused) = refl
  reply-counted (Some Closed) = refl

  -- the shapes of all operations
  shapes-read : (rs : List Recorded) → map stamped_shape (map (stamped_by known) rs) ≡ map shape_of rs
  shapes-read [] = refl
  shapes-read (r ∷ rs) = λ i. record { name = []; call = call-read r.call i; first = r.first; last = r.last; told = told-read r.told i } ∷ shapes-read rs i

  -- and their numbers
  numbers-read : (rs : List Recorded) → flat_map stamped_numbers (map (stamped_by known) rs) ≡ map (number_in known) (texts_of rs)
  numbers-read [] = refl
  numbers-read (r ∷ rs) =
      (λ i. (op-counted r.call i ++ reply-counted r.told i) ++ numbers-read rs i)
      ∙ ap (λ (front : List ℕ). front ++ map (number_in known) (texts_of rs)) (sym (map-append (number_in known) (text_of_call r.call) (text_of_told r.told)))
      ∙ sym (map-append (number_in known) (texts_in r) (texts_of rs))

-- recordings with one history have one shape, and their texts have the same numbers
pub shapes_one : (rs qs : List Recorded) → history_of rs ≡ history_of qs → map shape_of rs ≡ map shape_of qs
shapes_one rs qs e = sym (shapes-read (known_in rs) rs) ∙ ap (λ (ops : List Stamped). map stamped_shape ops) e ∙ shapes-read (known_in qs) qs

pub numbers_one : (rs qs : List Recorded) → history_of rs ≡ history_of qs → numbers_of rs ≡ numbers_of qs
numbers_one rs qs e = sym (numbers-read (known_in rs) rs) ∙ ap (λ (ops : List Stamped). flat_map stamped_numbers ops) e ∙ numbers-read (known_in qs) qs
