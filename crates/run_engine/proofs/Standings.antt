-- The texts of the first so many actors, and of more of them.
use Rattle.std.proofs.Common.{◌≡◌, ℕ, ◌+◌, ◌-◌, ◌<◌, zero, suc, List, [], ◌++◌, refl, sym, ap, subst, ◌∙◌, arith, append_assoc}
use Rattle.std.proofs.lemmas.List.{append-nil}
use Rattle.text_io.specs.Blocks.{Sends, TakesPrefix}
use Rattle.text_io.specs.Devices.{SinkState}
use Rattle.text_io.proofs.Sends.{Sends-trans, TakesPrefix-longer, TakesPrefix-trans}
use Rattle.run_engine.specs.Pieces.{actors_text}

module _ (each : ℕ → List ℕ) where
  -- one actor more
  actors_more : (i : ℕ) → actors_text each (i + 1) ≡ actors_text each i ++ each (i + 1)
  actors_more i =
      let next : i + 1 ≡ suc i = omega arith in
      ap (λ (n : ℕ). actors_text each n) next ∙ ap (λ (n : ℕ). actors_text each i ++ each n) (sym next)

  -- the texts of more actors begin with those of fewer
  actors_longer : (i k n : ℕ) → n ≡ i + k → (rest : List ℕ) × (actors_text each n ≡ actors_text each i ++ rest)
  actors_longer i zero n is =
      let same : n ≡ i = omega (arith, is) in
      ([], ap (λ (m : ℕ). actors_text each m) same ∙ sym (append-nil (actors_text each i)))
  actors_longer i (suc k) n is =
      let fewer = actors_longer i k (i + k) refl in
      let next : n ≡ (i + k) + 1 = omega (arith, is) in (
        fewer.0 ++ each ((i + k) + 1),
        ap (λ (j : ℕ). actors_text each j) next ∙ actors_more (i + k) ∙ ap (λ (l : List ℕ). l ++ each ((i + k) + 1)) fewer.1
            ∙ append_assoc (actors_text each i) fewer.0 (each ((i + k) + 1)),
      )

module _ (each : ℕ → List ℕ) (block : List ℕ) (a b d : SinkState) where
  -- the text of one actor more, behind those that were put
  with_one : (i : ℕ) → (block ++ actors_text each i) ++ each (i + 1) ≡ block ++ actors_text each (i + 1)
  with_one i = append_assoc block (actors_text each i) (each (i + 1)) ∙ ap (λ (l : List ℕ). block ++ l) (sym (actors_more each i))

  -- it was put too
  pub actors_put : (i : ℕ) (held after : List ℕ) → Sends a.contents b.contents (block ++ actors_text each i) held → Sends b.contents d.contents (held ++ each (i + 1)) after
      → Sends a.contents d.contents (block ++ actors_text each (i + 1)) after
  actors_put i held after before sends =
      subst (λ (l : List ℕ). Sends a.contents d.contents l after) (with_one i)
      (Sends-trans a.contents b.contents d.contents (block ++ actors_text each i) held (each (i + 1)) after before sends)

  -- its putting stopped, so a prefix of the whole was put
  pub actors_stopped : (i n : ℕ) (held : List ℕ) → i < n → Sends a.contents b.contents (block ++ actors_text each i) held → TakesPrefix b.contents d.contents (held ++ each (i + 1))
      → TakesPrefix a.contents d.contents (block ++ actors_text each n)
  actors_stopped i n held few before begun =
      let longer = actors_longer each (i + 1) (n - (i + 1)) n (omega (arith, few)) in
      let some = TakesPrefix-trans a.contents b.contents d.contents (block ++ actors_text each i) held (each (i + 1)) before begun in
      let whole : ((block ++ actors_text each i) ++ each (i + 1)) ++ longer.0 ≡ block ++ actors_text each n =
      ap (λ (l : List ℕ). l ++ longer.0) (with_one i) ∙ append_assoc block (actors_text each (i + 1)) longer.0 ∙ ap (λ (l : List ℕ). block ++ l) (sym longer.1) in
      subst (λ (l : List ℕ). TakesPrefix a.contents d.contents l) whole
      (TakesPrefix-longer a.contents d.contents ((block ++ actors_text each i) ++ each (i + 1)) longer.0 some)
