-- A search that has ended has found the least path to each left node.
use Rattle.std.proofs.Common.{◌≡◌, ℕ, ◌+◌, ◌<◌, ◌≤◌, inl, inr, IsTrue, List, [], ◌∷◌, length, map, Option, Some, sym, subst, ◌∙◌, arith, length-append}
use Rattle.std.proofs.lemmas.List.{length-map}
use Rattle.std.proofs.lemmas.Option.{get_or_from_slice_get}
use Rattle.std.specs.List.{slice_get, Contains}
use Rattle.gm_model.specs.declared.rule.Link.{Link}
use Rattle.gm_model.specs.declared.rule.Side.TheVariants.{Left}
use Rattle.gm_model.specs.declared.schema.Schema.{Schema}
use Rattle.gm_model.specs.declared.step.Step.{Step}
use Rattle.gm_model.specs.declared.step.Step.TheVariants.{Exp}
use Rattle.gm_model.specs.Matches.{IsPathTo, IsPathBefore}
use Rattle.gm_model.specs.Rules.{Rule, has_word, step, IsLinked}
use Rattle.gm_model.specs.Structure.{Leads, IsJoined, any_label}
use Rattle.gm_plan.specs.inner.Paths.{IsLastLink, ArePaths}
use Rattle.gm_plan.specs.inner.Plans.{IsPlanned, AreSteps}
use Rattle.gm_plan.specs.inner.Searches.{row_step, HasLabelsBelow, HasEndsWithin, StepsLead, IsAtMost, found_nodes, IsRankedLink, IsSearchedBy}
use Rattle.gm_plan.proofs.Distinct.{few_below}
use Rattle.gm_plan.proofs.Hooks.{hook_left}
use Rattle.gm_plan.proofs.Orders.{at_most_not_smaller}
use Rattle.gm_plan.proofs.Rows.{row_step_is, row_step_within}
use Rattle.gm_plan.proofs.Search.{same_end, leads_on, search_ends}
use Rattle.gm_theory.proofs.Lists.{contained_at, get_contained, some_same}
use Rattle.gm_theory.proofs.RuleLinks.{linked_in_range, linked_step}
use Rattle.gm_theory.proofs.RuleSteps.{word_below}
use Rattle.gm_theory.proofs.ValuesReadOff.{step_linked}

module _ (schema : Schema) (rule : Rule) (planned : IsPlanned schema rule) where
  in_range : (x i y : ℕ) → IsLinked rule.left_links x i y → IsTrue (has_word rule Left x) × IsTrue (has_word rule Left y) × (i ≤ schema.dim)
  in_range = linked_in_range schema rule planned.accepted.in_range planned.accepted.incidence Left

  -- ---- paths followed back

  linked_back : (x i y : ℕ) → IsLinked rule.left_links x i y → IsLinked rule.left_links y i x
  linked_back x i y (inl c) = inr c
  linked_back x i y (inr c) = inl c

  -- one list of labels leads to a node from one node at most
  same_start : (path : List ℕ) (x z y : ℕ) → Leads rule.left_links x path y → Leads rule.left_links z path y → x ≡ z
  same_start [] x z y e f = e ∙ sym f
  same_start (i ∷ path) x z y (v, e, there) (w, f, there') = go (same_start path v w y there there')
    where
      go : v ≡ w → x ≡ z
      go same = same_end x z (sym (linked_step schema rule planned.accepted.in_range planned.accepted.incidence Left v i x (linked_back x i v e)) ∙ rw same (linked_step schema rule planned.accepted.in_range planned.accepted.incidence Left w i z (linked_back z i w f)))

  module _ (top : schema.dim ≤ 7) (rows : List (List Step)) (are : AreSteps rule Left (length rule.nodes) rows) where
    -- ---- steps and links

    step_is_linked : (x i y : ℕ) → row_step rows x i ≡ Exp y → IsLinked rule.left_links x i y
    step_is_linked x i y e =
        let within : (x < length rule.nodes) × (i < 8) = row_step_within (step rule Left) (length rule.nodes) rows are x i y e in
        step_linked rule Left x i y (sym (row_step_is (step rule Left) (length rule.nodes) rows are x i within.0 within.1) ∙ e)

    pub labels_below : (labels : ℕ) → labels ≡ schema.dim + 1 → HasLabelsBelow labels rows
    labels_below labels is x i y e = omega (arith, is, (in_range x i y (step_is_linked x i y e)).2)

    pub ends_within : HasEndsWithin rows
    ends_within x i y e = rw are.long (word_below rule Left y (in_range x i y (step_is_linked x i y e)).1)

    steps_lead : (x : ℕ) (path : List ℕ) (y : ℕ) → StepsLead (row_step rows) x path y → Leads rule.left_links x path y
    steps_lead x [] y l = l
    steps_lead x (i ∷ path) y (z, e, l) = (z, step_is_linked x i z e, steps_lead z path y l)

    lead_steps : (x : ℕ) (path : List ℕ) (y : ℕ) → Leads rule.left_links x path y → StepsLead (row_step rows) x path y
    lead_steps x [] y l = l
    lead_steps x (i ∷ path) y (z, e, l) =
        let range : IsTrue (has_word rule Left x) × IsTrue (has_word rule Left z) × (i ≤ schema.dim) = in_range x i z e in
        (z, row_step_is (step rule Left) (length rule.nodes) rows are x i (word_below rule Left x range.0) (omega (arith, range.2)) ∙ linked_step schema rule planned.accepted.in_range planned.accepted.incidence Left x i z e, lead_steps z path y l)

    lead_word : (x : ℕ) (path : List ℕ) (y : ℕ) → Leads rule.left_links x path y → IsTrue (has_word rule Left x) → IsTrue (has_word rule Left y)
    lead_word x [] y l h = subst (λ w. IsTrue (has_word rule Left w)) l h
    lead_word x (i ∷ path) y (z, e, l) h = lead_word z path y l (in_range x i z e).1

    -- ---- the nodes that are found

    module _ (rank : ℕ → Option ℕ) (links : List Link) (count q l : ℕ) (h : IsSearchedBy (row_step rows) rule.hooks rank links count q l) where
      ranked_left : (x t : ℕ) → rank x ≡ Some t → IsTrue (has_word rule Left x)
      ranked_left x t e = go (h.search.leads x t e)
        where
          go : (hook : ℕ) × Contains rule.hooks hook × StepsLead (row_step rows) hook (h.way t) x → IsTrue (has_word rule Left x)
          go (hook, c, there) = lead_word hook (h.way t) x (steps_lead hook (h.way t) x there) (hook_left schema rule planned hook c)

      found_left : (x : ℕ) → Contains (found_nodes rule.hooks links) x → IsTrue (has_word rule Left x)
      found_left x c = let e : (t : ℕ) × (rank x ≡ Some t) = (h.search.ranked x).0 c in ranked_left x e.0 e.1

      -- no more lists are found than the rule has nodes, but for that of the hooks
      pub few_ranks : count ≤ length rule.nodes + 1
      few_ranks = omega (arith, h.few, length-append rule.hooks (map (λ (link : Link). link.to) links), length-map links (λ (link : Link). link.to), few_below (found_nodes rule.hooks links) (length rule.nodes) h.search.distinct (λ x c. word_below rule Left x (found_left x c)))

      -- ---- the least paths

      module _ (all : count ≤ q) where
        reached : (t g : ℕ) (path : List ℕ) (x : ℕ) → slice_get rule.hooks t ≡ Some g → Leads rule.left_links g path x → (s : ℕ) × (rank x ≡ Some s) × IsAtMost (h.way s) path
        reached t g path x at there = search_ends (row_step rows) rule.hooks rank links count q l h all g path x (get_contained rule.hooks t g at) (lead_steps g path x there)

        least_way : (x t hook : ℕ) → rank x ≡ Some t → (c : Contains rule.hooks hook) → Leads rule.left_links hook (h.way t) x → IsPathTo rule x hook (h.way t)
        least_way x t hook e c there = record {
          index = c.0;
          hook_at = contained_at rule.hooks hook c;
          leads = there;
          least = least;
        }
          where
            least : (u g : ℕ) (other : List ℕ) → slice_get rule.hooks u ≡ Some g → Leads rule.left_links g other x → IsPathBefore other u (h.way t) c.0 → ⊥
            least u g other at other_there (inl smaller) = go (reached u g other x at other_there)
              where
                go : (s : ℕ) × (rank x ≡ Some s) × IsAtMost (h.way s) other → ⊥
                go (s, f, m) = at_most_not_smaller (h.way s) other m (rw (some_same s t (sym f ∙ e)) smaller)
            least u g other at other_there (inr (same, before)) =
                let hooks : g ≡ hook = same_start (h.way t) g hook x (subst (λ path. Leads rule.left_links g path x) same other_there) there in
                planned.accepted.in_range.hooks_differ u c.0 before c.1 (get_or_from_slice_get rule.hooks u g 0 at ∙ hooks ∙ sym (get_or_from_slice_get rule.hooks c.0 hook 0 (contained_at rule.hooks hook c)))

        ends : (link : Link) → IsRankedLink (row_step rows) rank h.way link → IsLastLink rule link
        ends link r = go (h.search.leads link.from r.before r.from_rank)
          where
            go : (hook : ℕ) × Contains rule.hooks hook × StepsLead (row_step rows) hook (h.way r.before) link.from → IsLastLink rule link
            go (hook, c, there) = record {
              hook = hook;
              front = h.way r.before;
              to_from = least_way link.from r.before hook r.from_rank c (steps_lead hook (h.way r.before) link.from there);
              to_end = subst (IsPathTo rule link.to hook) r.way_is (least_way link.to r.behind hook r.to_rank c
                  (steps_lead hook (h.way r.behind) link.to (rw r.way_is (leads_on (row_step rows) hook (h.way r.before) link.from link.label link.to there r.steps_to))));
            }

        left_found : (x : ℕ) → IsTrue (has_word rule Left x) → Contains (found_nodes rule.hooks links) x
        left_found x w = joined (planned.accepted.incidence.structured.connected x (word_below rule Left x w) w)
          where
            joined : (g : ℕ) × Contains rule.hooks g × IsJoined rule.left_links any_label g x → Contains (found_nodes rule.hooks links) x
            joined (g, c, (path, o, there)) = let r : (s : ℕ) × (rank x ≡ Some s) × IsAtMost (h.way s) path = reached c.0 g path x (contained_at rule.hooks g c) there in (h.search.ranked x).1 (r.0, r.1)

        pub searched_paths : ArePaths rule links
        searched_paths = record {
          ends = λ t link e. ends link (h.search.linked link (get_contained links t link e));
          earlier = h.search.earlier;
          nodes = record { distinct = h.search.distinct; same = λ x. (found_left x, left_found x) };
        }
