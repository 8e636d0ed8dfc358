-- The steps that the table of tested steps leaves out are forced, and it has the others as they are.
use Rattle.std.proofs.Common.{◌≡◌, ◌≢◌, ℕ, zero, suc, ◌<◌, Bool, true, false, List, [], ◌∷◌, Some, get_or, refl, sym, ap, ap₂, subst, ◌∙◌, arith}
use Rattle.std.proofs.lemmas.Bool.{eqb-true}
use Rattle.std.proofs.lemmas.List.{get_or_past}
use Rattle.std.specs.List.{slice_get, list_any}
use Rattle.std.specs.Prelude.{if◌then◌else◌, ◌&&◌, ◌||◌, ◌==◌}
use Rattle.gm_model.specs.declared.rule.Link.{Link}
use Rattle.gm_model.specs.declared.rule.Side.TheVariants.{Left}
use Rattle.gm_model.specs.declared.step.Step.{Step}
use Rattle.gm_model.specs.declared.step.Step.TheVariants.{Absent, Exp, Imp}
use Rattle.gm_model.specs.Rules.{Rule, link_from, step}
use Rattle.gm_plan.specs.inner.Paths.{IsLastLink, ArePaths}
use Rattle.gm_plan.specs.inner.Plans.{AreRows}
use Rattle.gm_plan.specs.inner.Tested.{IsForcedStep, begins_with, is_walked, is_end, is_step, tested_step}
use Rattle.gm_plan.specs.inner.Tested.IsForcedStep.{Free, Turns, EndsOwn, EndsOther}
use Rattle.gm_plan.proofs.Rows.{read_row}

begins : (hooks : List ℕ) (x : ℕ) → begins_with hooks x ≡ true → slice_get hooks 0 ≡ Some x
begins [] x e = absurd (cc)
begins (hook ∷ hooks) x e = ap Some (eqb-true hook x e)

module _ (rule : Rule) (x i : ℕ) where
  walked : (s : Step) → step rule Left x i ≡ s → is_walked rule x s ≡ true → IsForcedStep rule x i
  walked Absent e w = absurd (cc)
  walked (Exp y) e w = absurd (cc)
  walked (Imp k) e w = Turns k (begins rule.hooks x w) e

  ended : (link : Link) → IsLastLink rule link → is_end x i link ≡ true → IsForcedStep rule x i
  ended link last e = go (link.label == i) refl (link.from == x) refl (link.to == x) refl e
    where
      go : (l : Bool) → (link.label == i) ≡ l → (f : Bool) → (link.from == x) ≡ f → (t : Bool) → (link.to == x) ≡ t → l && (f || t) ≡ true → IsForcedStep rule x i
      go true label true from t to e =
          EndsOther link.to (subst (λ z. IsLastLink rule (link_from z i link.to)) (eqb-true link.from x from) (subst (λ k. IsLastLink rule (link_from link.from k link.to)) (eqb-true link.label i label) last))
      go true label false from true to e =
          EndsOwn link.from (subst (λ z. IsLastLink rule (link_from link.from i z)) (eqb-true link.to x to) (subst (λ k. IsLastLink rule (link_from link.from k link.to)) (eqb-true link.label i label) last))
      go true label false from false to e = absurd (cc)
      go false label f from t to e = absurd (cc)

  on_path : (links : List Link) → ((t : ℕ) (link : Link) → slice_get links t ≡ Some link → IsLastLink rule link) → list_any (is_end x i) links ≡ true → IsForcedStep rule x i
  on_path [] ends e = absurd (cc)
  on_path (link ∷ links) ends e = go (on_path links (λ t other at. ends (suc t) other at)) (is_end x i link) refl e
    where
      go : (list_any (is_end x i) links ≡ true → IsForcedStep rule x i) → (b : Bool) → is_end x i link ≡ b → b || list_any (is_end x i) links ≡ true → IsForcedStep rule x i
      go later true here _ = ended link (ends 0 link refl) here
      go later false _ rest = later rest

  -- the step that the table has, by both tests
  module _ (links : List Link) where
    tested_by : (w p : Bool) → is_walked rule x (step rule Left x i) ≡ w → list_any (is_end x i) links ≡ p → (if w || p then Absent else step rule Left x i) ≡ tested_step rule links x i
    tested_by w p e f = ap₂ (λ (w p : Bool). if w || p then Absent else step rule Left x i) (sym e) (sym f)

    absent_by : (w : Bool) (s : Step) → Absent ≡ (if w || true then Absent else s)
    absent_by true s = refl
    absent_by false s = refl

    pub tested_on_path : list_any (is_end x i) links ≡ true → Absent ≡ tested_step rule links x i
    tested_on_path f = absent_by (is_walked rule x (step rule Left x i)) (step rule Left x i) ∙ tested_by (is_walked rule x (step rule Left x i)) true refl f

    module _ (s : Step) (is : s ≡ step rule Left x i) where
      pub tested_walked : is_walked rule x s ≡ true → Absent ≡ tested_step rule links x i
      tested_walked e = tested_by true (list_any (is_end x i) links) (subst (λ (t : Step). is_walked rule x t ≡ true) is e) refl

      pub tested_kept : is_walked rule x s ≡ false → list_any (is_end x i) links ≡ false → s ≡ tested_step rule links x i
      tested_kept e f = is ∙ tested_by false false (subst (λ (t : Step). is_walked rule x t ≡ false) is e) f

  module _ (links : List Link) (paths : ArePaths rule links) where
    pub forced_at : tested_step rule links x i ≡ Absent → IsForcedStep rule x i
    forced_at e = go (is_walked rule x (step rule Left x i)) refl (list_any (is_end x i) links) refl e
      where
        go : (w : Bool) → is_walked rule x (step rule Left x i) ≡ w → (p : Bool) → list_any (is_end x i) links ≡ p → (if w || p then Absent else step rule Left x i) ≡ Absent → IsForcedStep rule x i
        go true here p there e = walked (step rule Left x i) refl here
        go false here true there e = on_path links paths.ends there
        go false here false there e = Free e

    pub kept_at : tested_step rule links x i ≢ Absent → tested_step rule links x i ≡ step rule Left x i
    kept_at = go (is_walked rule x (step rule Left x i) || list_any (is_end x i) links)
      where
        go : (b : Bool) → (if b then Absent else step rule Left x i) ≢ Absent → (if b then Absent else step rule Left x i) ≡ step rule Left x i
        go true some = absurd (some refl)
        go false some = refl

-- where a row has no step, each label has none
no_step : (row : List Step) → list_any is_step row ≡ false → (i : ℕ) → get_or row i Absent ≡ Absent
no_step [] none i = get_or_past [] i Absent (omega arith)
no_step (Absent ∷ row) none zero = refl
no_step (Absent ∷ row) none (suc i) = no_step row none i
no_step (Exp y ∷ row) none i = absurd (cc)
no_step (Imp k ∷ row) none i = absurd (cc)

-- what a row that was read of the table has
module _ (rule : Rule) (links : List Link) (paths : ArePaths rule links) (count : ℕ) (rows : List (List Step)) (are : AreRows (tested_step rule links) count rows) (x : ℕ) (h : x < count) (row : List Step) (read : row ≡ get_or rows x row) where
  here : (i : ℕ) → i < 8 → get_or row i Absent ≡ tested_step rule links x i
  here i low = read_row (tested_step rule links) count rows are x i h low row read

  pub row_forced : (i : ℕ) → i < 8 → get_or row i Absent ≡ Absent → IsForcedStep rule x i
  row_forced i low none = forced_at rule x i links paths (sym (here i low) ∙ none)

  pub row_kept : (i : ℕ) → i < 8 → get_or row i Absent ≢ Absent → get_or row i Absent ≡ step rule Left x i
  row_kept i low some = here i low ∙ kept_at rule x i links paths (λ none. some (here i low ∙ none))

  pub all_forced : list_any is_step row ≡ false → (i : ℕ) → i < 8 → IsForcedStep rule x i
  all_forced none i low = row_forced i low (no_step row none i)
