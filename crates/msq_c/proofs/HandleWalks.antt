-- The walks that every kind of handle has: how one is made of the parts of a box, made empty, and taken apart. Assumes `Logic`.
use Rattle.std.proofs.Common.{◌≡◌, List, [], ◌∷◌, ◌++◌, refl, sym, subst, ap, ◌∙◌, lit<}
use seplogic.Ra.Ura.{Ura}
use mir.Syntax.{Fn, Sym, Ty, Callee, named, local, value_local, ty_ptr, ty_bool, ty_ref, ty_struct, ty_named, imm, tcons, tnil, place, field, copy, int, w64, opd_true, opd_false, rv_opd, aggregate, assign, seq, return}
use mir.Val.{Val, vptr, vbool, vstruct, of_list}
use mir.Raw.{raw as bare}
use base.Logic.{SProp, ent, sep, emp, emp∗, via, id⊢, never, fst∗}
use base.Fml.{Fml, ftrue, fsep, fex, feq}
use base.Fraction.{full_share}
use base.Shift.{Keyless}
use prog.Wp.{WpFn, Closed}
use prog.Model.{Model}
use types.Logic.{Logic, sem}
use types.Kit.{Item, Goal, Step, step, ‵, raw, ◌⊛◌, given, ◌$◌, ◌∵◌, !, qed, by, move, keep, drop, split, join, fsplit, fjoin, fpick, fpack, feq_i, feq_l, suffices, use0, use1, learn}
use types.Run.{stop, fld, of_opd, no_more, and_then, returns, enter, lit, true_lit, false_lit}
use types.ByLocal.{alloc_all, pass_all, free_all, look_at, get, get_in, sets}
use types.Part.{agg, sub, whole}
use contract.Monad.{fact, fact_i}
use contract.Running.{Running, MachineTables, tables}
use denote.Builtin.{RefOf, One, bool}
use denote.Exit.{Exit, yes, Last, left, unchanged, hidden, under}
use denote.Exit as exit
use denote.RattleType.{RattleType, owns}
use denote.Laws.{Is, shows}
use denote.Memory.{lone}
use denote.Param.Send.{IsSend, AllSend, Frees, Quiet, part_keyless, owning_send, struct_send, sendable}
use denote.RawPtr.{Ptr, block_ptr, null_ptr, in_a_block, lies_at}
use denote.Ref.{shr_vals, shr_Tells}
use denote.Signature.{types_at, plain}
use denote.Steps.{nothing, peeks}
use denote.Struct.Field.{rows}
use denote.Struct.Owning.{Codes, owning, row, shape, fields, to}
use denote.Struct.Record.{Record}
use denote.Struct.Struct.{exits_of}
use denote.Triple.Clauses.{Ended, Clauses, closing}
use denote.Triple.Entry.{alive}
use denote.Triple.Spec.{Meets}
use denote.Triple.Walked.{Stays, stay_dropped, walk_of, Goes, Goes-dropped}
use Rattle.std.proofs.raw_atomic.Walks.{proved, proved_at, leaves}
use Rattle.std.proofs.alloc.Calls.{handle_tells}
use Rattle.std.proofs.Crossing.{crosses}
use Rattle.std.specs.Prelude.{Bool, true, false}
use Rattle.std.specs.Box.Ownership.{box_owns}
use Rattle.std.specs.contracts.alloc.Global.{the_row as heap_row}
use Rattle.std.proofs.alloc.Global.TheLaws.{the_row_laws as heap_laws}
use Rattle.std.specs.contracts.impls.GlobalAllocator.TheImpl.{ghosts}
use Rattle.msq_c.specs.Boxed.{box_if, heap_token}
use Rattle.msq_c.proofs.Bytes.{both, word, Data, told, made, Parts, al, parts_good, parts_in, parts_out}

-- what a handle owns at the machine's values: the pointer, with the block behind it where it is full, and whether it is
abbrev inside : (R : RattleType) → Ptr → Bool → Bool → R.Denot → List Val → List Val × (List Val × Unit {0}) → Fml
inside R p g f x vs vss = fsep (feq (List Val) vs (vstruct (of_list (vss.0 ++ (vss.1.0 ++ []))) ∷ []))
    (fsep (fsep (Data.own_val (p, tt) vss.0) (box_if R g p x)) (fsep (bool.own_val f vss.1.0) ftrue))

abbrev pub held : (R : RattleType) → Ptr → Bool → Bool → R.Denot → List Val → Fml
held R p g f x vs = fex (List Val × (List Val × Unit {0})) (inside R p g f x vs)

-- a kind of handle: the row of its block and its own, the names of its two types, its parts, and how it is made of them
pub record Kind : Type 2 where
  pub block : RattleType
  pub slot : RattleType
  pub names : Sym × Sym
  pub single : One slot.mir
  pub full : slot.Denot → Bool
  pub at : slot.Denot → Ptr
  pub value : slot.Denot → block.Denot
  pub make : Ptr → Bool → block.Denot → slot.Denot
  pub owned : (d : slot.Denot) → slot.own_val d ≡ held block (at d) (full d) (full d) (value d)
  pub made : (p : Ptr) (f : Bool) (x : block.Denot) → (full (make p f x) ≡ f) × ((value (make p f x) ≡ x) × (slot.own_val (make p f x) ≡ held block p f f x))
  pub rest : (d : slot.Denot) → Last (slot.exit yes) d
  pub silent : (d : slot.Denot) (f : Last (slot.exit yes) d) → left (slot.exit yes) d f ≡ fsep ftrue ftrue

abbrev pair : Ptr → Bool → Val
pair p f = both (word p) (vbool f)

module _ (N : Kind) where
  abbrev R : RattleType
  R = N.block

  abbrev S : RattleType
  S = N.slot

  abbrev Pr : RattleType
  Pr = Parts R heap_row heap_laws ghosts

  abbrev handle_type : Ty
  handle_type = ty_struct N.names.1 (tcons ty_ptr tnil)

  abbrev slot_type : Ty
  slot_type = ty_struct N.names.0 (tcons handle_type (tcons ty_bool tnil))

  module _ {M : Type 1} {𝓤 : Ura M} {𝓛 : Logic 𝓤} {K : Type 0} {Γ : List (Item 𝓤)} {G : Goal 𝓤 𝓛.H} where
    -- what a new handle owns
    slot_in : K → (p : Ptr) (f : Bool) (x : R.Denot) → Step K 𝓛 (‵ (S.own_val (N.make p f x) (pair p f ∷ [])) ∷ Γ) G (‵ (box_if R f p x) ∷ Γ) G
    slot_in t p f x = step (λ s. let v : Val = pair p f in
        use0 𝓛 (‵ (Data.own_val (p, tt) (word p ∷ []))) (made 𝓛 p) $ fjoin t $ nothing t $ feq_i t (List Val) (vbool f ∷ []) (vbool f ∷ []) refl $ fjoin t $ move t (1 ∷ []) $ fjoin t $
        feq_i t (List Val) (v ∷ []) (v ∷ []) refl $ fjoin t $ fpack t (List Val × (List Val × Unit {0})) (inside R p f f x (v ∷ [])) (word p ∷ [], (vbool f ∷ [], tt)) $
        use1 𝓛 (‵ (S.own_val (N.make p f x) (v ∷ []))) (subst (λ (O : List Val → Fml). ent 𝓤 (sem 𝓛 (held R p f f x (v ∷ []))) (sem 𝓛 (O (v ∷ [])))) (sym (N.made p f x).1.1) (id⊢ 𝓤 _)) $ s)

  abbrev pub made_of : Ended
  made_of = record { signature = record { lifetimes = 0; outlives = []; params = plain (λ _. Pr) ∷ []; result = plain (λ _. S) }; kept = (yes, tt) }

  abbrev of_parts_code : Fn
  of_parts_code = record {
    lifetimes = 0;
    outlives = [];
    ty_params = [];
    givens = 0;
    params = 1;
    locals = local slot_type value_local ∷ local (lone Pr.mir) value_local ∷ local ty_ptr value_local ∷ local ty_ptr value_local ∷ local handle_type value_local ∷ [];
    body = seq (assign (place 2 []) (rv_opd (copy (place 1 (field 0 ∷ []))))) (seq (assign (place 3 []) (rv_opd (copy (place 2 []))))
        (seq (assign (place 4 []) (aggregate (copy (place 3 []) ∷ []))) (seq (assign (place 0 []) (aggregate (copy (place 4 []) ∷ opd_true ∷ []))) return)));
  }

  abbrev pub made_empty : Ended
  made_empty = record { signature = record { lifetimes = 1; outlives = []; params = RefOf (0 ∷ []) tt (plain (λ _. S)) (λ _. N.single) ∷ []; result = plain (λ _. S) }; kept = (yes, tt) }

  abbrev empty_like_code : Fn
  empty_like_code = record {
    lifetimes = 1;
    outlives = [];
    ty_params = [];
    givens = 0;
    params = 1;
    locals = local slot_type value_local ∷ local (ty_ref (named 0) imm (ty_named (N.names.0, []) tnil)) value_local ∷ local handle_type value_local ∷ [];
    body = seq (assign (place 2 []) (aggregate (int w64 0 ∷ []))) (seq (assign (place 0 []) (aggregate (copy (place 2 []) ∷ opd_false ∷ []))) return);
  }

  abbrev pub taken : Ended
  taken = record { signature = record { lifetimes = 0; outlives = []; params = plain (λ _. S) ∷ plain (λ _. heap_row) ∷ []; result = plain (λ _. Pr) }; kept = (yes, (yes, tt)) }

  abbrev into_parts_code : Fn
  into_parts_code = record {
    lifetimes = 0;
    outlives = [];
    ty_params = [];
    givens = 0;
    params = 2;
    locals = local (lone Pr.mir) value_local ∷ local slot_type value_local ∷ local (lone heap_row.mir) value_local ∷ local handle_type value_local ∷ local ty_ptr value_local ∷ local ty_ptr value_local ∷ [];
    body = seq (assign (place 3 []) (rv_opd (copy (place 1 (field 0 ∷ []))))) (seq (assign (place 4 []) (rv_opd (copy (place 3 (field 0 ∷ [])))))
        (seq (assign (place 5 []) (rv_opd (copy (place 4 [])))) (seq (assign (place 0 []) (aggregate (copy (place 5 []) ∷ copy (place 2 []) ∷ []))) return)));
  }

  module _ {M : Type 1} (𝓤 : Ura M) (𝓛 : Logic 𝓤) (𝓜 : Model 𝓤 𝓛.H) (𝓡 : Running 𝓤 𝓛.H 𝓜) where
    open 𝓛 use {H}

    abbrev 𝓣 : MachineTables 𝓤 H 𝓜
    𝓣 = tables 𝓤 H 𝓜 𝓡 𝓡.env

    abbrev pub made_clauses : Clauses 𝓤 made_of
    made_clauses κs a = record {
      ghost = Unit {0};
      requires = λ _. emp 𝓤;
      ensures = λ g r e. sep 𝓤 (fact 𝓤 (N.value r ≡ a.0.value)) (fact 𝓤 (N.full r ≡ true));
    }

    -- the handle owns what the parts owned
    pub of_parts : (k : Callee) → Closed 𝓤 H 𝓣.C 𝓣.Λ k of_parts_code → Meets 𝓛 made_of.signature (𝓣.C k) (closing 𝓛 made_of made_clauses)
    of_parts k closed =
        let En = made_of in let c = made_clauses in let fn = of_parts_code in
        let hs : Stays En.signature.params En.kept = (stay_dropped (plain (λ _. Pr)) yes, tt) in
        proved_at 𝓛 En hs c 𝓜 𝓡 (Goes-dropped 𝓛 0 (plain (λ _. Pr)) yes (λ κs x f. refl), tt) k fn closed (λ z are.
        let κs = z.0.0 in let qs = z.0.1 in let v = z.0.3.0 in let Post : Val → SProp 𝓤 = (walk_of 𝓛 En hs c).post z in let Run : List Val → SProp 𝓤 = λ ws. WpFn 𝓤 H 𝓣.C 𝓣.Λ fn ws Post in
        qed 𝓛 ((raw (alive 𝓛 En.signature κs qs) ⊛ ‵ (owns (types_at En.signature.params κs) z.0.3 z.0.4)) ∷ raw ((c κs z.0.3).requires z.1) ∷ []) ∵
        split ! $ move ! (1 ∷ []) $ fsplit ! $ parts_out R heap_row heap_laws ghosts ! v z.0.4.0 (λ b o h e ws fits.
        let w : Val = both (vptr b o) h in let p : Ptr = block_ptr b o in let r : S.Denot = N.make p true v.value in
        keep ! (0 ∷ 3 ∷ []) $
        suffices ! (Run (w ∷ [])) (subst (λ (us : List Val). ent 𝓤 (Run (w ∷ [])) (Run us)) (sym (λ i. ws i ++ [])) (id⊢ 𝓤 (Run (w ∷ [])))) $
        enter ! 𝓣.C 𝓣.Λ fn (w ∷ []) Post $ alloc_all ! (λ l. pass_all ! refl (parts_good R heap_row heap_laws ghosts b o h fits, tt) $
        sets ! (of_opd ! (get_in ! (fld ! refl (stop !)) (sub ! 0 refl (whole !)))) refl (tt, tt) $ sets ! (of_opd ! (get ! refl)) refl (tt, tt) $
        sets ! (agg ! (and_then ! (get ! refl) (no_more !))) refl (tt, (tt, tt)) $
        sets ! (agg ! (and_then ! (get ! refl) (and_then ! (true_lit !) (no_more !)))) refl (tt, ((tt, tt), (tt, tt))) $
        slot_in ! p true v.value $
        use0 𝓛 (raw (fact 𝓤 (N.full r ≡ true))) (fact_i 𝓤 (N.full r ≡ true) (emp 𝓤) (N.made p true v.value).0) $
        use0 𝓛 (raw (fact 𝓤 (N.value r ≡ v.value))) (fact_i 𝓤 (N.value r ≡ v.value) (emp 𝓤) (N.made p true v.value).1.0) $ join ! $
        nothing ! $ nothing ! $ fjoin ! $ returns ! (look_at ! 0 refl) $ free_all ! refl $ keep ! (3 ∷ 0 ∷ 2 ∷ 1 ∷ []) $ by ! (leaves 𝓛 En hs c z (pair p true) r (tt, tt) (tt, tt)))))

    abbrev pub empty_clauses : Clauses 𝓤 made_empty
    empty_clauses κs a = record { ghost = Unit {0}; requires = λ _. emp 𝓤; ensures = λ g r e. fact 𝓤 (N.full r ≡ false) }

    -- an empty handle owns nothing
    pub empty_like : (k : Callee) → Closed 𝓤 H 𝓣.C 𝓣.Λ k empty_like_code → Meets 𝓛 made_empty.signature (𝓣.C k) (closing 𝓛 made_empty empty_clauses)
    empty_like k closed =
        let En = made_empty in let c = empty_clauses in let fn = empty_like_code in
        let hs : Stays En.signature.params En.kept = (stay_dropped (RefOf (0 ∷ []) tt (plain (λ _. S)) (λ _. N.single)) yes, tt) in
        proved 𝓛 En hs c 𝓜 𝓡 (Goes-dropped 𝓛 1 (RefOf (0 ∷ []) tt (plain (λ _. S)) (λ _. N.single)) yes (λ κs x f. refl), tt) k fn closed
        (λ κs. (shr_vals, tt)) (λ κs. (shr_Tells (named 0) κs.0 S, tt)) (λ κs qs bounds a gh are.
        let at : Val = vptr a.0.ref_ptr.0 a.0.ref_ptr.1 in let x : R.Denot = N.value a.0.now in let r : S.Denot = N.make null_ptr false x in
        let y : (walk_of 𝓛 En hs c).Ghost = ((κs, qs, bounds, a, (at ∷ [], tt)), gh) in let Post : Val → SProp 𝓤 = (walk_of 𝓛 En hs c).post y in
        qed 𝓛 ((raw (alive 𝓛 En.signature κs qs) ⊛ ‵ (owns (types_at En.signature.params κs) a y.0.4)) ∷ raw ((c κs a).requires gh) ∷ []) ∵
        split ! $ keep ! (0 ∷ []) $
        enter ! 𝓣.C 𝓣.Λ fn (at ∷ []) Post $ alloc_all ! (λ l. pass_all ! refl ((tt, tt), tt) $
        sets ! (agg ! (and_then ! (lit ! tt) (no_more !))) refl (tt, (record { fits = lit< tt }, tt)) $
        sets ! (agg ! (and_then ! (get ! refl) (and_then ! (false_lit !) (no_more !)))) refl (tt, ((record { fits = lit< tt }, tt), (tt, tt))) $
        nothing ! $ slot_in ! null_ptr false x $
        use0 𝓛 (raw (fact 𝓤 (N.full r ≡ false))) (fact_i 𝓤 (N.full r ≡ false) (emp 𝓤) (N.made null_ptr false x).0) $
        nothing ! $ nothing ! $ fjoin ! $ returns ! (look_at ! 0 refl) $ free_all ! refl $ keep ! (3 ∷ 0 ∷ 2 ∷ 1 ∷ []) $ by ! (leaves 𝓛 En hs c y (pair null_ptr false) r (tt, tt) (tt, tt))))

    abbrev pub taken_clauses : Clauses 𝓤 taken
    taken_clauses κs a = record { ghost = Unit {0}; requires = λ _. fact 𝓤 (N.full a.0 ≡ true); ensures = λ g r e. fact 𝓤 (r.value ≡ N.value a.0) }

    goes : Goes 𝓛 0 (plain (λ _. S)) yes (stay_dropped (plain (λ _. S)) yes)
    goes κs x f vs ok = subst (λ (P : Fml). ent 𝓤 (emp 𝓤) (H.⇛ (sem 𝓛 P))) (sym (N.silent x f)) (via 𝓤 (sep 𝓤 (emp 𝓤) (emp 𝓤)) (emp∗ 𝓤 (emp 𝓤)) (𝓛.laws.⇛_intro (sep 𝓤 (emp 𝓤) (emp 𝓤))))

    -- a full handle hands on what it owns
    pub into_parts : (k : Callee) → Closed 𝓤 H 𝓣.C 𝓣.Λ k into_parts_code → Meets 𝓛 taken.signature (𝓣.C k) (closing 𝓛 taken taken_clauses)
    into_parts k closed =
        let En = taken in let c = taken_clauses in let fn = into_parts_code in
        let hs : Stays En.signature.params En.kept = (stay_dropped (plain (λ _. S)) yes, (stay_dropped (plain (λ _. heap_row)) yes, tt)) in
        proved_at 𝓛 En hs c 𝓜 𝓡 (goes, (Goes-dropped 𝓛 0 (plain (λ _. heap_row)) yes (λ κs x f. refl), tt)) k fn closed (λ z are.
        let κs = z.0.0 in let qs = z.0.1 in let d = z.0.3.0 in let a = z.0.3.1.0 in let q : Ptr = N.at d in let x : R.Denot = N.value d in
        let Post : Val → SProp 𝓤 = (walk_of 𝓛 En hs c).post z in let Run : List Val → SProp 𝓤 = λ ws. WpFn 𝓤 H 𝓣.C 𝓣.Λ fn ws Post in
        qed 𝓛 ((raw (alive 𝓛 En.signature κs qs) ⊛ ‵ (owns (types_at En.signature.params κs) z.0.3 z.0.4)) ∷ given (N.full d ≡ true) (‵ ftrue) ∷ []) ∵
        move ! (1 ∷ []) $ learn ! (λ asked. drop ! $ split ! $ move ! (1 ∷ []) $ fsplit ! $
        use1 𝓛 (‵ (held R q true true x z.0.4.0)) (subst (λ (O : List Val → Fml). ent 𝓤 (sem 𝓛 (S.own_val d z.0.4.0)) (sem 𝓛 (O z.0.4.0))) (N.owned d ∙ ap (λ (f : Bool). held R q f f x) asked) (id⊢ 𝓤 _)) $
        fpick ! (λ vss. fsplit ! $ feq_l ! (λ ev. fsplit ! $ fsplit ! $ peeks ! Data (Is Data) (shows 𝓛 Data) (q, tt) vss.0 (λ is. drop ! $
        in_a_block ! q (λ p. box_owns heap_token R p x) (fst∗ 𝓤 (never 𝓤) (sem 𝓛 (heap_token (bare (lone R.mir)) null_ptr))) (λ b o e.
        -- [what the handle owns; whether it is full; the allocator and no more; the tokens]
        move ! (1 ∷ []) $ fsplit ! $ feq_l ! (λ eb. drop ! $ move ! (1 ∷ []) $ fsplit ! $ handle_tells (al R heap_row heap_laws ghosts) ! a z.0.4.1.0 (λ h eh fits. keep ! (2 ∷ 0 ∷ 3 ∷ []) $
        let p : Ptr = block_ptr b o in let v : Val = pair p true in let r : Pr.Denot = record { ptr = p; alloc = a; value = x } in let Told : Type 0 = x ≡ x in
        let there : vss.0 ≡ word p ∷ [] = told q vss.0 is ∙ ap (λ (p : Ptr). word p ∷ []) e in
        let first : z.0.4.0 ≡ v ∷ [] = ev ∙ (λ i. vstruct (of_list (there i ++ (eb i ++ []))) ∷ []) in
        suffices ! (Run (v ∷ h ∷ [])) (subst (λ (us : List Val). ent 𝓤 (Run (v ∷ h ∷ [])) (Run us)) (sym (λ i. first i ++ (eh i ++ []))) (id⊢ 𝓤 (Run (v ∷ h ∷ [])))) $
        enter ! 𝓣.C 𝓣.Λ fn (v ∷ h ∷ []) Post $ alloc_all ! (λ l. pass_all ! refl ((tt, ((tt, tt), (tt, tt))), (fits, tt)) $
        sets ! (of_opd ! (get_in ! (fld ! refl (stop !)) (sub ! 0 refl (whole !)))) refl (tt, (tt, tt)) $
        sets ! (of_opd ! (get_in ! (fld ! refl (stop !)) (sub ! 0 refl (whole !)))) refl (tt, tt) $ sets ! (of_opd ! (get ! refl)) refl (tt, tt) $
        sets ! (agg ! (and_then ! (get ! refl) (and_then ! (get ! refl) (no_more !)))) refl (parts_good R heap_row heap_laws ghosts b o h fits) $
        parts_in R heap_row heap_laws ghosts ! b o h a x $
        use0 𝓛 (raw (fact 𝓤 Told)) (fact_i 𝓤 Told (emp 𝓤) refl) $ nothing ! $ nothing ! $ nothing ! $ fjoin ! $ move ! (1 ∷ 0 ∷ []) $ fjoin ! $
        returns ! (look_at ! 0 refl) $ free_all ! refl $ keep ! (3 ∷ 0 ∷ 2 ∷ 1 ∷ []) $ by ! (leaves 𝓛 En hs c z (both (vptr b o) h) r (N.rest d, (tt, tt)) (tt, (tt, tt))))))))))))

-- ---- to another thread
quiet : {D X : Type 0} (to : D → X) (e : Exit X) → Quiet e → Quiet (hidden (under to e))
quiet to unchanged q = λ x w. tt
quiet to (exit.leaves L l S s r₀) q = λ d. q (to d)

lies : (R : RattleType) → IsSend R → (p : Ptr) (x : R.Denot) → Keyless (lies_at R full_share p x)
lies R s (block_ptr b o) x = part_keyless R s full_share x b o
lies R s null_ptr x = tt

-- a box may go to another thread where its block may
pub crosses_if : (R : RattleType) → IsSend R → (f : Bool) (p : Ptr) (x : R.Denot) → Keyless (box_if R f p x)
crosses_if R s true p x = let f : Frees ghosts ghosts.dealloc_token = search (crosses, sendable) in (lies R s p x, f.frees (record { memory = record { seal = tt } }) _ p)
crosses_if R s false p x = tt

-- so may a handle
pub sends : (T : Record) (cs : Codes T) (heap : T.D → Fml) → AllSend (rows T.parts) → ((d : T.D) → Keyless (heap d)) → IsSend (row (owning T cs heap))
sends T cs heap ps h = let O = owning T cs heap in owning_send O ps h (λ k. quiet (to O) (exits_of k (fields O)) ((struct_send (shape O) ps).leaving k))
