-- Texts that are due of tasks.
use Rattle.std.proofs.Common.{◌≡◌, ◌∙◌, ◌<◌, ◌+◌, sym, refl, ap, subst, ℕ, suc, List, [], ◌∷◌, length, map, get_or, arith, Some}
use Rattle.std.specs.Prelude.{⊤, slice_get, vec_len, String, string_bytes}
use Rattle.std.specs.List.{All, sum_by}
use Rattle.std.proofs.lemmas.List.Sums.{sum_by-cons}
use Rattle.std.proofs.lemmas.List.{length-map}
use Rattle.std.proofs.lemmas.List.Elements.{All-head, All-tail}
use Rattle.history.specs.Seats.{Permit, Known, MayPush, MayPop}
use Rattle.history.specs.Values.{OnlyPops}
use Rattle.shared_queue.specs.Queues.{numbers_in}
use Rattle.mailbox.specs.declared.office.Office.{Office}
use Rattle.mailbox.specs.declared.receiver.Letter.{Letter}
use Rattle.mailbox.specs.declared.receiver.Receiver.{Receiver}
use Rattle.mailbox.specs.declared.threads.Task.{Task}
use Rattle.mailbox.specs.Plans.{plan_numbers, IsDue, AreDue}
use Rattle.mailbox.specs.Offices.{IsReceiver, queue_in}
use Rattle.mailbox.specs.Posts.{AreThoseDue, BringTexts, IsTask, HasQueueOf, Plans, texts_in, letters_of}
use Rattle.mailbox.proofs.Codes.{plan-same}

-- a prefix of the texts due, and the rest
pub due_first : {Z : Type 0} (numbers : List ℕ) (task place : ℕ) (text : String Z) (texts : List (String Z)) → AreDue numbers task place (text ∷ texts)
    → IsDue numbers (record { task = task; place = place }) (string_bytes text)
due_first numbers task place text texts due lists same =
    subst (λ p. slice_get (get_or lists task []) p ≡ Some (string_bytes text)) (omega arith) (due 0 (string_bytes text) refl lists same)

pub due_rest : {Z : Type 0} (numbers : List ℕ) (task place : ℕ) (text : String Z) (texts : List (String Z)) → AreDue numbers task place (text ∷ texts) → AreDue numbers task (place + 1) texts
due_rest numbers task place text texts due k t at lists same =
    subst (λ p. slice_get (get_or lists task []) p ≡ Some t) (omega arith) (due (suc k) t at lists same)

-- the texts of these tasks are due, the first of which has this number
abbrev pub AreDueFrom : {Q S : Type 0} → (numbers : List ℕ) → (number : ℕ) → List (Task Q S) → Type 0
AreDueFrom numbers number [] = ⊤
AreDueFrom numbers number (t ∷ ts) = AreDue numbers number 0 t.texts.items × AreDueFrom numbers (number + 1) ts

-- texts that stand at these places are due
due_from : {Q S : Type 0} (numbers : List ℕ) (all : List (List (List ℕ))) (number : ℕ) (tasks : List (Task Q S)) → numbers ≡ plan_numbers all
    → ((k : ℕ) → k < length tasks → get_or all (number + k) [] ≡ get_or (map texts_in tasks) k []) → AreDueFrom numbers number tasks
due_from numbers all number [] plan there = tt
due_from {Q} {S} numbers all number (t ∷ ts) plan there =
    let at_first : number ≡ number + 0 = omega arith in
    let first : AreDue numbers number 0 t.texts.items = λ k text at lists same.
    let here : get_or lists number [] ≡ texts_in t = ap (λ ls. get_or ls number []) (plan-same lists all (sym same ∙ plan)) ∙ ap (λ n. get_or all n []) at_first ∙ there 0 (omega arith) in
    ap (λ ls. slice_get ls (0 + k)) here ∙ subst (λ p. slice_get (texts_in t) p ≡ Some text) (omega arith) at in
    let next : (k : ℕ) → k < length ts → get_or all (number + 1 + k) [] ≡ get_or (map texts_in ts) k [] = λ k short.
    let after : number + 1 + k ≡ number + suc k = omega arith in
    ap (λ n. get_or all n []) after ∙ there (suc k) (omega (arith, short)) in
    (first, due_from numbers all (number + 1) ts plan next)

-- the texts of the tasks that an office is made for are due there
pub due_of-plan : {Q S : Type 0} (numbers : List ℕ) (tasks : List (Task Q S)) → numbers ≡ plan_numbers (map texts_in tasks) → AreDueFrom numbers 0 tasks
due_of-plan numbers tasks plan =
    due_from numbers (map texts_in tasks) 0 tasks plan (λ k short. let at : 0 + k ≡ k = omega arith in ap (λ n. get_or (map texts_in tasks) n []) at)

-- the first of some tasks, and those after it
module _ {Q S : Type 0} (P : Task Q S → Type 0) (numbers : List ℕ) (number : ℕ) (all : List (Task Q S)) (task : Task Q S) (rest : List (Task Q S))
    (split : all ≡ task ∷ rest) (each : All P all) (due : AreDueFrom numbers number all) where
  pub first_task : P task
  first_task = All-head P task rest (subst (All P) split each)

  pub first_due : (n : ℕ) → number ≡ n → AreDue numbers n 0 task.texts.items
  first_due n same = subst (λ m. AreDue numbers m 0 task.texts.items) same (subst (AreDueFrom numbers number) split due).0

  pub other_tasks : All P rest
  other_tasks = All-tail P task rest (subst (All P) split each)

  pub others_due : (n : ℕ) → number + 1 ≡ n → AreDueFrom numbers n rest
  others_due n same = subst (λ m. AreDueFrom numbers m rest) same (subst (AreDueFrom numbers number) split due).1

-- an office over the queue of another one
pub queue_in-same : {Q S : Type 0} (o o' : Office Q S) → HasQueueOf o o' → queue_in o' ≡ queue_in o
queue_in-same o o' same = ap numbers_in same

module _ {Q S : Type 0} (is_seat : Q → S → Type 0) (permits : Q → List Permit) (known : S → Known) (o o' : Office Q S) (same : HasQueueOf o o') where
  -- the tasks of an office are tasks of another one over the same queue
  pub tasks_of-same : (tasks : List (Task Q S)) → All (IsTask is_seat permits known o) tasks → All (IsTask is_seat permits known o') tasks
  tasks_of-same tasks all k d short =
      let is = all k d short in
      record {
        seat = subst (λ q. is_seat (numbers_in q) (get_or tasks k d).sender.seat) (sym same) is.seat;
        role = subst (λ q. MayPush (permits (numbers_in q)) (known (get_or tasks k d).sender.seat).number) (sym same) is.role;
      }

  -- and so is its receiver
  pub receiver_of-same : (r : Receiver Q S) → IsReceiver is_seat permits known o r → IsReceiver is_seat permits known o' r
  receiver_of-same r is = record {
    seat = subst (λ q. is_seat (numbers_in q) r.seat) (sym same) is.seat;
    role = subst (λ q. MayPop (permits (numbers_in q)) (known r.seat).number) (sym same) is.role;
    only = subst (λ q. OnlyPops (permits (numbers_in q)) (known r.seat).number) (sym same) is.only;
  }

-- how many letters tasks have to send
pub letters_of-lengths : {Q S : Type 0} (tasks : List (Task Q S)) → sum_by length (map texts_in tasks) ≡ letters_of tasks
letters_of-lengths {Q} {S} [] = refl
letters_of-lengths {Q} {S} (t ∷ ts) =
    let one = length-map t.texts.items string_bytes in
    let others = letters_of-lengths ts in
    let a : sum_by length (map texts_in (t ∷ ts)) ≡ length (map string_bytes t.texts.items) + sum_by length (map texts_in ts) = sum_by-cons length (texts_in t) (map texts_in ts) in
    let b : letters_of (t ∷ ts) ≡ vec_len t.texts + letters_of ts = sum_by-cons (λ (x : Task Q S). vec_len x.texts) t ts in
    let c = t.texts.ok in
    omega (arith, one, others, a, b, c)

-- as many letters as tasks have to send, which are those that are due, bring the texts of the tasks
pub due_of-tasks : {Q S : Type 0} (o : Office Q S) (tasks : List (Task Q S)) (letters : List Letter) (senders : ℕ) → AreThoseDue o senders letters → Plans o tasks
    → length tasks ≡ senders → length letters ≡ letters_of tasks → BringTexts (map texts_in tasks) letters
due_of-tasks o tasks letters senders those plan same many = those (map texts_in tasks) plan (length-map tasks texts_in ∙ same) (many ∙ sym (letters_of-lengths tasks))
