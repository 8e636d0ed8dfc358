-- One line more: its dart is linked to all of its neighbours, or one of them is no dart.
use Rattle.std.proofs.Common.{◌≡◌, ℕ, ◌+◌, ◌-◌, ◌*◌, ◌≤◌, cond, ltb, List, [], ◌∷◌, ◌++◌, length, take, drop, get_or, Option, None, refl, sym, ap, subst, ◌∙◌, arith}
use Rattle.std.specs.Prelude.{MatchOption}
use Rattle.std.proofs.lemmas.List.{length-take, length-drop}
use Rattle.std.proofs.Math.Seq.{take-length}
use Rattle.gm_model.specs.GMap.{Row, row_of, IsLive}
use Rattle.gm_mapfile.specs.MapFaults.{AreNamedOnce}
use Rattle.gm_arena.specs.inner.ArenaMap.{ArenaMap}
use Rattle.gm_mapfile.specs.inner.Rows.{row_in, rows_in}
use Rattle.gm_mapfile.specs.inner.Building.{IsRelinked, IsDartLinked, IsLabelWithoutTarget, IsFirstLack, AreLinkedUnless}
use Rattle.gm_mapfile.proofs.Chunks.{between, name_live, name_of_line, alphas_long}
use Rattle.gm_mapfile.proofs.Named.{none_beside}
use Rattle.gm_mapfile.proofs.Linking.{relinked_twice, step_linked, step_lack}

-- as the code cuts them off
abbrev pub neighbours_in : List ℕ → List ℕ
neighbours_in line = take (length line - 1) (drop 1 line)

neighbours_of_line : (line : List ℕ) → (row_in line).alphas ≡ neighbours_in line
neighbours_of_line [] = refl
neighbours_of_line (name ∷ alphas) = let long : length (name ∷ alphas) - 1 ≡ length alphas = omega arith in sym (ap (λ k. take k alphas) long ∙ take-length alphas)

pub neighbours_long : (line : List ℕ) (n : ℕ) → length line ≡ n + 2 → length (neighbours_in line) ≡ n + 1
neighbours_long line n long = omega (arith, long, length-take (length line - 1) (drop 1 line), length-drop 1 line)

-- so many steps for each of one line more
pub steps_more : (each before start after count more : ℕ) → more ≡ count + 1 → start ≤ before + each * count → after ≤ start + each → after ≤ before + each * more
steps_more each before start after count more one first last =
    let product : each * more ≡ each * count + each = ap (λ k. each * k) one ∙ omega arith in
    omega (arith, product, first, last)

module _ (n : ℕ) (old m m' : ArenaMap) (front : List Row) (numbers all line rest : List ℕ) (split : front ++ rows_in n all ≡ rows_in n numbers) (cut : all ≡ line ++ rest) (long : length line ≡ n + 2) where
  whole : front ++ row_in line ∷ rows_in n rest ≡ rows_in n numbers
  whole = between n front (rows_in n numbers) all line rest split cut long

  pub line_live : IsLive (rows_in n numbers) (get_or line 0 0)
  line_live = name_live n front numbers all line rest split cut long

  module _ (distinct : AreNamedOnce (rows_in n numbers)) (state : IsRelinked n old m) (missing : Option (ℕ × ℕ)) (before : AreLinkedUnless n old m front missing) where
    new_name : row_of front (row_in line).name ≡ None
    new_name = none_beside front (row_in line) (rows_in n rest) (subst AreNamedOnce (sym whole) distinct)

    of_row : (label : ℕ) → m.schema.dim ≡ n → IsDartLinked m.schema.dim m m' (get_or line 0 0) (neighbours_in line) label → IsDartLinked n m m' (row_in line).name (row_in line).alphas label
    of_row label e h =
        subst (λ k. IsDartLinked k m m' (row_in line).name (row_in line).alphas label) e
        (subst (λ xs. IsDartLinked m.schema.dim m m' (row_in line).name xs label) (sym (neighbours_of_line line))
        (subst (λ d. IsDartLinked m.schema.dim m m' d (neighbours_in line) label) (sym (name_of_line line)) h))

    lack_of_row : (label : ℕ) → m.schema.dim ≡ n → IsLabelWithoutTarget m.schema.dim m (neighbours_in line) label → IsLabelWithoutTarget n m (row_in line).alphas label
    lack_of_row label e h =
        subst (λ k. IsLabelWithoutTarget k m (row_in line).alphas label) e (subst (λ xs. IsLabelWithoutTarget m.schema.dim m xs label) (sym (neighbours_of_line line)) h)

    module _ (at : m.schema.dim ≡ n) where
      pub line_linked : IsDartLinked m.schema.dim m m' (get_or line 0 0) (neighbours_in line) (m.schema.dim + 1) → IsRelinked n old m' × AreLinkedUnless n old m' (front ++ row_in line ∷ []) missing
      line_linked h =
          let here : IsDartLinked n m m' (row_in line).name (row_in line).alphas (n + 1) = subst (λ k. IsDartLinked n m m' (row_in line).name (row_in line).alphas (k + 1)) at (of_row (m.schema.dim + 1) at h) in
          (relinked_twice n old m m' state here.relinked, step_linked n old front (row_in line) new_name (alphas_long n line long) m m' state missing here before)

      pub line_lacks : (label : ℕ) (r : ℕ × ℕ) → IsDartLinked m.schema.dim m m' (get_or line 0 0) (neighbours_in line) label → IsLabelWithoutTarget m.schema.dim m (neighbours_in line) label
          → MatchOption missing (r ≡ (get_or line 0 0, label)) (λ p. r ≡ cond (ltb p.0 (get_or line 0 0)) p (get_or line 0 0, label)) → IsRelinked n old m' × IsFirstLack n old (front ++ row_in line ∷ []) r.0 r.1
      line_lacks label r h lacks is =
          let here = of_row label at h in
          let first = subst (λ d. MatchOption missing (r ≡ (d, label)) (λ p. r ≡ cond (ltb p.0 d) p (d, label))) (sym (name_of_line line)) is in
          (relinked_twice n old m m' state here.relinked, step_lack n old front (row_in line) new_name (alphas_long n line long) m m' state missing label r (lack_of_row label at lacks) first before)
