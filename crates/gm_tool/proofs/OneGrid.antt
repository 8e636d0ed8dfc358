-- `grid` has one answer at most to its number.
use Rattle.std.proofs.Common.{◌≡◌, ℕ, ◌≤◌, List, [], ◌∷◌, refl, sym, ap, subst, ◌∙◌}
use Rattle.std.specs.List.{count_by}
use Rattle.gm_cells.specs.Cells.{AreByLabel, HasCells, HasCellsOf, labels_but}
use Rattle.gm_cells.proofs.LabelLemmas.{but_within}
use Rattle.gm_model.specs.declared.schema.Schema.{Schema}
use Rattle.gm_model.specs.Maps.{Map, IsDart, IsGeneralised, dimension}
use Rattle.gm_model.specs.Orbits.{IsLead, IsPathIn, follow}
use Rattle.gm_model.specs.Runs.{is_done}
use Rattle.gm_run.specs.inner.Alike.{AreAlike}
use Rattle.gm_run.proofs.AlikeLemmas.{alike_back, alike_generalised}
use Rattle.gm_theory.proofs.ValuesUnique.{one_count}
use Rattle.gm_walk.proofs.CountLemmas.{count_alike}
use Rattle.gm_tool.specs.Answer.{Answer, answers}
use Rattle.gm_tool.specs.GridAnswer.{Gridded, IsGridded, IsGridText, IsGridAnswer, grid_line}
use Rattle.gm_tool.proofs.Grids.{one_gridding, run_here}
use Rattle.gm_tool.proofs.OneCells.{one_by_label}

-- ---- maps that are alike have the same cells

module _ (a b : Map) (alike : AreAlike a b) (lawful : IsGeneralised a) (label : ℕ) where
  same_path : (path : List ℕ) → IsPathIn (labels_but (dimension a) label) path → (d : ℕ) → IsDart a d → follow a.alpha path d ≡ follow b.alpha path d
  same_path [] all d live = refl
  same_path (i ∷ path) all d live =
      let low : i ≤ dimension a = but_within (dimension a) label i all.0 in
      same_path path all.1 (a.alpha i d) (lawful.stays d i live low) ∙ ap (follow b.alpha path) (alike.same.arcs d i live low)

  pub lead_there : (d : ℕ) → IsLead (IsDart a) a.alpha (labels_but (dimension a) label) d → IsLead (IsDart b) b.alpha (labels_but (dimension b) label) d
  lead_there d lead = subst (λ (s : Schema). IsLead (IsDart b) b.alpha (labels_but s.dim label) d) alike.schema (record {
    live = (alike.same.darts d).0 lead.live;
    least = λ e (path, all, is) live. lead.least e (path, all, same_path path all d lead.live ∙ is) ((alike.same.darts e).1 live);
  })

module _ (a b : Map) (alike : AreAlike a b) (lawful : IsGeneralised a) where
  cells_of_there : (i count : ℕ) → HasCellsOf a i count → HasCellsOf b i count
  cells_of_there i count = count_alike (IsLead (IsDart a) a.alpha (labels_but (dimension a) i)) (IsLead (IsDart b) b.alpha (labels_but (dimension b) i))
      (lead_there a b alike lawful i) (lead_there b a (alike_back a b alike) (alike_generalised a b alike lawful) i) count

  cells_there : (cells : List ℕ) → HasCells a cells → HasCells b cells
  cells_there cells has = subst (λ (s : Schema). AreByLabel s.dim (HasCellsOf b) cells) alike.schema (record {
    one_each = has.one_each;
    each = λ i low. cells_of_there i _ (has.each i low);
  })

  one_cells : (cells others : List ℕ) → HasCells a cells → HasCells b others → cells ≡ others
  one_cells cells others first second =
      one_by_label (dimension b) (HasCellsOf b) (λ i n k. one_count (IsLead (IsDart b) b.alpha (labels_but (dimension b) i)) n k) cells others (cells_there cells first) second

-- ---- one line

module _ (m : ℕ) (small : m ≤ 100) where
  after_generalised : (made : Gridded) → IsGridded m made → IsGeneralised made.after.map
  after_generalised made is =
      let found = run_here m small made.grid is.grid_is in
      let same = one_gridding m small made.grid made.grid is.grid_is is.grid_is found.outcomes made.outcomes found.after made.after found.run is.run in
      alike_generalised found.after.map made.after.map same.1.map found.sound.map.sound.generalised

  one_text : (text other : List ℕ) → IsGridText m text → IsGridText m other → text ≡ other
  one_text text other (made, is, tells) (made', is', tells') =
      let same = one_gridding m small made.grid made'.grid is.grid_is is'.grid_is made.outcomes made'.outcomes made.after made'.after is.run is'.run in
      let alike : AreAlike made.after.map made'.after.map = same.1.map in
      let darts : tells.darts ≡ tells'.darts = one_count (IsDart made'.after.map) tells.darts tells'.darts (count_alike (IsDart made.after.map) (IsDart made'.after.map) (λ d. (alike.same.darts d).0) (λ d. (alike.same.darts d).1) tells.darts tells.darts_are) tells'.darts_are in
      let cells : tells.cells ≡ tells'.cells = one_cells made.after.map made'.after.map alike (after_generalised made is) tells.cells tells'.cells tells.cells_are tells'.cells_are in
      let outcomes : made.outcomes ≡ made'.outcomes = same.0 in
      let next : made.after.map.next ≡ made'.after.map.next = alike.same.next in
      tells.is ∙ (λ k. grid_line m (count_by is_done (outcomes k)) (darts k) (next k) (cells k)) ∙ sym tells'.is

  pub one_grid_answer : (one other : Answer) → IsGridAnswer m one → IsGridAnswer m other → one ≡ other
  one_grid_answer one other (text, is, e) (text', is', e') = e ∙ ap (answers 0) (one_text text text' is is') ∙ sym e'
