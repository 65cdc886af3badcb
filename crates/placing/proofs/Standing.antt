-- An operation in an order of a history, and the first push of a kind in one.
use Rattle.std.proofs.Common.{◌≡◌, ◌⊎◌, inl, inr, ℕ, ◌≤◌, Bool, true, false, ◌&&◌, None, Some, IfSome, List, [], ◌∷◌, ◌++◌, refl, sym, ap, ◌∙◌, subst, arith}
use Rattle.std.specs.List.{sum_by}
use Rattle.std.proofs.lemmas.List.Sums.{sum_by-cons}
use Rattle.history.specs.declared.operations.Reply.{Reply}
use Rattle.history.specs.declared.operations.Stamped.{Stamped}
use Rattle.history.specs.Queue.{empty}
use Rattle.history.specs.History.{AgreesWithQueue}
use Rattle.history.specs.Linearizability.{Answered, IsPending, GivesRecordedReply}
use Rattle.history.specs.Tallies.{is_not_refused}
use Rattle.waiting_orders.specs.Waiting.{IsOfQueue}
use Rattle.placing.specs.Kinds.{Kind, is_push_in}
use Rattle.placing.specs.Reasons.{StandsAt}
use Rattle.placing.proofs.Runs.{one_if, pushed_in, after_run, run_parts}
use Rattle.placing.proofs.Parting.{PartsAt, parts_at}
use Rattle.placing.proofs.Staying.{IsOrder, is_order, last_part}
use Rattle.placing.proofs.Keeping.{contained}

-- ---- an operation in an order

-- an operation stands in an order of a history between these
pub record Standing (ops : List Stamped) (o : Stamped) : Type 0 where
  pub before : List Answered
  pub here : Answered
  pub behind : List Answered
  pub left : List Stamped
  pub same : here.operation ≡ o
  pub order : IsOrder ops (before ++ here ∷ behind) left

pub stands_in : (ops : List Stamped) (place : ℕ) (o : Stamped) → IsOfQueue ops → StandsAt ops place o → (IsPending o → ⊥) → Standing ops o
stands_in ops place o h s n =
    let l = h.linearizable in
    let p : PartsAt l.order o = parts_at ops o l.order l.left_out l.each_once l.only_pending_left_out n (contained ops place o s) in
    record {
      before = p.before;
      here = p.here;
      behind = p.behind;
      left = l.left_out;
      same = p.same;
      order = subst (λ order. IsOrder ops order l.left_out) p.is (is_order ops h);
    }

pub told_not_pending : (o : Stamped) (reply : Reply) → o.reply ≡ Some reply → IsPending o → ⊥
told_not_pending o reply e p = let n : o.reply ≡ None = p.not_told in let f : Some reply ≡ None = sym e ∙ n in cc f

-- the queue gives it its reply there
pub given_there : (ops : List Stamped) (o : Stamped) (s : Standing ops o) → AgreesWithQueue (after_run empty s.before) s.here.operation (Some s.here.reply)
given_there ops o s = (run_parts empty s.before (s.here ∷ s.behind) s.order.runs).1.0

pub given_told : (ops : List Stamped) (o : Stamped) (s : Standing ops o) (reply : Reply) → o.reply ≡ Some reply → s.here.reply ≡ reply
given_told ops o s reply e =
    let told : IfSome s.here.operation.reply (λ told. s.here.reply ≡ told) = (last_part GivesRecordedReply s.before (s.here ∷ s.behind) s.order.told).0 in
    subst (λ r. IfSome r (λ told. s.here.reply ≡ told)) e (subst (λ p. IfSome p.reply (λ told. s.here.reply ≡ told)) s.same told)

-- the first operation of an order that pushes a kind
pub record FirstPush (kind : Kind) (xs : List Answered) : Type 0 where
  pub before : List Answered
  pub here : Answered
  pub behind : List Answered
  pub is : xs ≡ before ++ here ∷ behind
  pub none : sum_by (pushed_in kind) before ≡ 0
  pub one : pushed_in kind here ≡ 1

one_or_none : (b : Bool) → (one_if b ≡ 1) ⊎ (one_if b ≡ 0)
one_or_none true = inl refl
one_or_none false = inr refl

pub first_push : (kind : Kind) (xs : List Answered) → 1 ≤ sum_by (pushed_in kind) xs → FirstPush kind xs
first_push kind [] h = absurd (let k : 1 ≤ 0 = h in omega (arith, k))
first_push kind (a ∷ rest) h = go (one_or_none (is_not_refused (Some a.reply) && is_push_in kind a.operation.actor a.operation.op)) (λ more. first_push kind rest more)
  where
    go : (pushed_in kind a ≡ 1) ⊎ (pushed_in kind a ≡ 0) → (1 ≤ sum_by (pushed_in kind) rest → FirstPush kind rest) → FirstPush kind (a ∷ rest)
    go (inl e) more = record { before = []; here = a; behind = rest; is = refl; none = refl; one = e }
    go (inr e) more =
        let d = sum_by-cons (pushed_in kind) a rest in
        let f = more (omega (arith, d, e, h)) in
        record {
          before = a ∷ f.before;
          here = f.here;
          behind = f.behind;
          is = ap (λ r. a ∷ r) f.is;
          none = (let n = f.none in let c = sum_by-cons (pushed_in kind) a f.before in omega (arith, n, c, e));
          one = f.one;
        }
