-- The candidate meets each forced step. The first hook lies along the walk, to whose positions it turns; and each other node lies where its
-- least path leads, whose last link leads back too.
use Rattle.std.proofs.Common.{◌≡◌, ℕ, ◌<◌, ◌≤◌, ◌⊎◌, inl, inr, IsTrue, List, [], ◌∷◌, ◌++◌, Some, refl, sym, ap, subst, ◌∙◌, arith}
use Rattle.std.proofs.lemmas.Option.{slice_get_within}
use Rattle.std.specs.List.{slice_get}
use Rattle.std.specs.Prelude.{slice_index}
use Rattle.gm_model.specs.declared.rule.Link.{Link}
use Rattle.gm_model.specs.declared.rule.Side.TheVariants.{Left}
use Rattle.gm_model.specs.declared.schema.Schema.{Schema}
use Rattle.gm_model.specs.declared.step.Step.TheVariants.{Imp}
use Rattle.gm_model.specs.declared.word.Letter.TheVariants.{At}
use Rattle.gm_model.specs.Matches.{IsMetAt}
use Rattle.gm_model.specs.Rules.{Rule, rule_of, has_word, letters, link_from, step, hook_label, width, IsLinked}
use Rattle.gm_arena.specs.inner.ArenaAsMap.{as_map}
use Rattle.gm_arena.specs.inner.ArenaMap.{ArenaMap, IsLiveName, alpha}
use Rattle.gm_arena.proofs.MapLemmas.{IsLiveName-name_at}
use Rattle.gm_plan.specs.inner.Paths.{IsLastLink}
use Rattle.gm_plan.specs.inner.Placed.{Placed, turn_at}
use Rattle.gm_plan.specs.inner.Plans.{PlanOf}
use Rattle.gm_plan.specs.inner.Tested.{IsForcedStep}
use Rattle.gm_plan.specs.inner.Tested.IsForcedStep.{Free, Turns, EndsOwn, EndsOther}
use Rattle.gm_theory.proofs.Agreement.{IsCreatedBy, IsWalkedBy, positions_parts}
use Rattle.gm_theory.proofs.Lists.{none_some}
use Rattle.gm_theory.proofs.RuleLinks.{linked_in_range, linked_step}
use Rattle.gm_theory.proofs.ValuesReadOff.{read_off}
use Rattle.gm_match.specs.inner.Firsts.{AreMetBy}
use Rattle.gm_match.specs.inner.Layout.{AreMatchable, IsCandidateAt}
use Rattle.gm_plan.specs.inner.InArena.{placement_in}
use Rattle.gm_match.specs.inner.Outcome.{name_of}
use Rattle.gm_match.proofs.InArena.{named_slot}
use Rattle.gm_match.proofs.Paths.{follow_more, last_linked}
use Rattle.gm_match.proofs.Stepping.{slot_live, slot_some}

turn_round : (links : List Link) (x i y : ℕ) → IsLinked links x i y → IsLinked links y i x
turn_round links x i y (inl c) = inr c
turn_round links x i y (inr c) = inl c

module _ (rule : Rule) (x : ℕ) (first : slice_get rule.hooks 0 ≡ Some x) (i k : ℕ) (here : slice_get (letters rule Left x) k ≡ Some (At i)) where
  label_is : hook_label rule k ≡ i
  label_is = rw (first, here) refl

  place_within : k < width rule
  place_within = rw first (slice_get_within (letters rule Left x) k (At i) here)

module _ (m : ArenaMap) (plan : PlanOf) (able : AreMatchable m plan) (found : Placed) (at : (hooks : List ℕ) × IsCandidateAt m (rule_of plan.table) hooks found) where
  abbrev rule : Rule
  rule = rule_of plan.table

  -- the dart of a left node at a position
  abbrev lies : ℕ → ℕ → ℕ
  lies x p = (placement_in m found).dart_of x p

  -- ---- the turns of the first hook

  module _ (x : ℕ) (first : slice_get rule.hooks 0 ≡ Some x) (p i k : ℕ) (within : p < found.positions) (here : slice_get (letters rule Left x) k ≡ Some (At i)) where
    turned : IsCreatedBy (as_map m) rule at.0 (placement_in m found) at.1.candidate.walk ⊎ IsWalkedBy (as_map m) rule at.0 (placement_in m found) at.1.candidate.walk → alpha m i (lies x p) ≡ lies x (turn_at found p k)
    turned (inl created) = none_some x (subst (λ hs. slice_get hs 0 ≡ Some x) created.none first)
    turned (inr walked) =
        let turn = walked.turns p k (subst (λ n. p < n) walked.size within) (place_within rule x first i k here) in
        ap (alpha m i) (at.1.candidate.hooked x p first within)
        ∙ ap (λ j. alpha m j (slice_index at.1.candidate.walk p)) (sym (label_is rule x first i k here))
        ∙ sym turn.1
        ∙ sym (at.1.candidate.hooked x (turn_at found p k) first (subst (λ n. turn_at found p k < n) (sym walked.size) turn.0))

  turn_met : (x p i k : ℕ) → p < found.positions → slice_get rule.hooks 0 ≡ Some x → step rule Left x i ≡ Imp k → alpha m i (lies x p) ≡ lies x (turn_at found p k)
  turn_met x p i k within first e =
      let here = (read_off plan.schema rule able.planned.accepted.in_range able.planned.accepted.incidence).lettered Left x i k e in
      turned x first p i k within here (positions_parts (as_map m) rule (placement_in m found) at.0 at.1.candidate.walk at.1.candidate.positions)

  -- ---- the last links of the paths

  module _ (link : Link) (last : IsLastLink rule link) (p : ℕ) (within : p < found.positions) where
    linked : IsLinked rule.left_links link.from link.label link.to
    linked = last_linked plan.schema rule able.planned link last

    range : IsTrue (has_word rule Left link.from) × IsTrue (has_word rule Left link.to) × (link.label ≤ plan.schema.dim)
    range = linked_in_range plan.schema rule able.planned.accepted.in_range able.planned.accepted.incidence Left link.from link.label link.to linked

    leads_on : alpha m link.label (lies link.from p) ≡ lies link.to p
    leads_on =
        ap (alpha m link.label) (at.1.candidate.forced link.from p last.hook last.front (range.0, within) last.to_from)
        ∙ sym (follow_more (alpha m) last.front link.label (lies last.hook p))
        ∙ sym (at.1.candidate.forced link.to p last.hook (last.front ++ link.label ∷ []) (range.1, within) last.to_end)

    live : IsLiveName m (lies link.from p)
    live =
        let there = slot_some m found at.1.laid.long link.from p ((at.1.laid.nodes link.from).0 range.0) within in
        subst (IsLiveName m) (sym (ap (name_of m) there.1) ∙ named_slot m found link.from p) (IsLiveName-name_at m there.0.at able.lawful (slot_live m found at.1.laid.slots link.from p there.0 there.1))

    leads_back : alpha m link.label (lies link.to p) ≡ lies link.from p
    leads_back = ap (alpha m link.label) (sym leads_on) ∙ able.generalised.back (lies link.from p) link.label live (subst (λ (s : Schema). link.label ≤ s.dim) (sym able.schema) range.2)

  -- ---- each forced step

  pub forced_met : (x p i : ℕ) → p < found.positions → IsForcedStep rule x i → IsMetAt (as_map m) rule (placement_in m found) x p i
  forced_met x p i within (Free e) = rw e tt
  forced_met x p i within (Turns k first e) = rw e (turn_met x p i k within first e)
  forced_met x p i within (EndsOwn y last) =
      let link : Link = link_from y i x in
      rw (linked_step plan.schema rule able.planned.accepted.in_range able.planned.accepted.incidence Left x i y (turn_round rule.left_links y i x (linked link last p within))) (leads_back link last p within, leads_on link last p within)
  forced_met x p i within (EndsOther y last) =
      let link : Link = link_from x i y in
      rw (linked_step plan.schema rule able.planned.accepted.in_range able.planned.accepted.incidence Left x i y (linked link last p within)) (leads_on link last p within, leads_back link last p within)

  -- where all steps of a node are forced, each is met
  pub all_met : (x : ℕ) → ((i : ℕ) → i < 8 → IsForcedStep rule x i) → AreMetBy m rule found x
  all_met x forced p within i low = forced_met x p i within (forced i (omega (arith, low, able.lawful.dim.1)))
