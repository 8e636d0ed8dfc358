-- The links of a rule in range lead to its nodes.
use Rattle.std.proofs.Common.{◌≡◌, ℕ, ◌<◌, inl, inr, Option, Some, None, List, [], ◌∷◌, length, eqb, refl, sym, ◌∙◌}
use Rattle.std.specs.List.{AllByRecursion, find, position}
use Rattle.std.proofs.lemmas.Bool.{cases_Bool}
use Rattle.gm_model.specs.declared.rule.Link.{Link}
use Rattle.gm_model.specs.declared.rule.Side.{Side}
use Rattle.gm_model.specs.declared.rule.Side.TheVariants.{Right}
use Rattle.gm_model.specs.declared.schema.Schema.{Schema}
use Rattle.gm_model.specs.declared.step.Step.{Step}
use Rattle.gm_model.specs.declared.step.Step.TheVariants.{Exp}
use Rattle.gm_model.specs.Rules.{Rule, letters, links_on, is_end, is_label, other_end, step_by}
use Rattle.gm_model.specs.Structure.{IsInRange, IsLinkInRange}
use Rattle.gm_model.proofs.Nodes.{node_below}
use Rattle.gm_cycle.specs.inner.StepRows.{HasEnds, HasRows}

module _ (n : ℕ) (rule : Rule) (side : Side) (x i : ℕ) where
  end_below : (link : Link) → IsLinkInRange n rule side link → other_end x link < length rule.nodes
  end_below link r = elim (cases_Bool (eqb link.from x)) [
    | inl e ↦ rw e (node_below rule side link.to r.to)
    | inr e ↦ rw e (node_below rule side link.from r.from)
  ]

  found_below : (links : List Link) (link : Link) → AllByRecursion (IsLinkInRange n rule side) links → find (is_end x i) links ≡ Some link → other_end x link < length rule.nodes
  found_below [] link r e = cc
  found_below (l ∷ links) link r e = elim (cases_Bool (is_end x i l)) [
    | inl p ↦ (let e' : Some l ≡ Some link = sym (rw p refl) ∙ e in let s : l ≡ link = cc in rw (← s) (end_below l r.0))
    | inr p ↦ found_below links link r.1 (sym (rw p refl) ∙ e)
  ]

  step_by_below : (found : Option Link) (place : Option ℕ) (y : ℕ) → ((link : Link) → found ≡ Some link → other_end x link < length rule.nodes) → step_by x found place ≡ Exp y → y < length rule.nodes
  step_by_below (Some link) place y h e = let s : other_end x link ≡ y = cc in rw (← s) (h link refl)
  step_by_below None (Some m) y h e = cc
  step_by_below None None y h e = cc

pub ends_below : (schema : Schema) (rule : Rule) (rows : List (List Step)) → IsInRange schema rule → HasRows rule rows (length rule.nodes) → HasEnds rows (length rule.nodes)
ends_below schema rule rows r h = λ x i y bx bi e.
    step_by_below schema.dim rule Right x i (find (is_end x i) (links_on rule Right)) (position (is_label i) (letters rule Right x)) y
    (λ link p. found_below schema.dim rule Right x i (links_on rule Right) link (r.links Right) p)
    (sym (h x i bx bi) ∙ e)
