-- A match is the candidate: each left node lies where its path leads from its hook, and so a match without repeats that meets each step is all that a match is.
use Rattle.std.proofs.Common.{◌≡◌, ◌≢◌, ℕ, zero, suc, ◌<◌, ◌≤◌, ◌⊎◌, IsTrue, List, [], ◌∷◌, length, get_or, Option, Some, None, slice_get, refl, sym, ◌∙◌, ap, subst, inl, inr, arith}
use Rattle.std.proofs.lemmas.Option.{slice_get-get_or, slice_get_within}
use Rattle.std.specs.List.{Contains}
use Rattle.gm_model.specs.declared.rule.Side.TheVariants.{Left}
use Rattle.gm_model.specs.declared.schema.Schema.{Schema}
use Rattle.gm_model.specs.declared.step.Step.TheVariants.{Imp}
use Rattle.gm_model.specs.declared.word.Letter.{Letter}
use Rattle.gm_model.specs.declared.word.Letter.TheVariants.{At, Gone}
use Rattle.gm_model.specs.Maps.{Map, IsDart, IsGeneralised, dimension}
use Rattle.gm_model.specs.Matches.{Placement, IsMatch, IsCandidate, IsStepMet, IsMetAt, IsInstance, IsFirstTurn, GoInStep}
use Rattle.gm_model.specs.Orbits.{follow, IsPairBefore}
use Rattle.gm_model.specs.Rules.{Rule, has_word, letters, label_at, width, step}
use Rattle.gm_model.specs.Structure.{IsInRange, HasIncidence, IsPlainWord, Leads, IsJoined, any_label}
use Rattle.gm_theory.proofs.Lists.{contained_at, get_contained, none_some}
use Rattle.gm_theory.proofs.RuleLinks.{contains_has, linked_in_range, linked_step}
use Rattle.gm_theory.proofs.RuleSteps.{word_below}
use Rattle.gm_theory.proofs.Turns.{positions_live, first_turn, label_up_to}
use Rattle.gm_theory.proofs.ValuesReadOff.{letter_step}
use Rattle.gm_theory.proofs.Walks.{pair_order}

-- the letter at a place of a plain word is its label
pub plain_letter : (word : List Letter) → IsPlainWord word → (m : ℕ) → m < length word → slice_get word m ≡ Some (At (label_at word m))
plain_letter word plain m b = go (slice_get word m) refl
  where
    go : (letter : Option Letter) → slice_get word m ≡ letter → slice_get word m ≡ Some (At (label_at word m))
    go None e = absurd (let some : slice_get word m ≡ Some (get_or word m Gone) = slice_get-get_or word m Gone b in none_some (get_or word m Gone) (sym e ∙ some))
    go (Some Gone) e = absurd (plain.labels m e)
    go (Some (At i)) e = e ∙ ap (λ j. Some (At j)) (sym (rw e refl))

module _ (schema : Schema) (rule : Rule) (in_range : IsInRange schema rule) (incidence : HasIncidence schema.dim rule) where
  -- each hook is a left node
  pub hook_left : (t h : ℕ) → slice_get rule.hooks t ≡ Some h → IsTrue (has_word rule Left h)
  hook_left t h at = contains_has (λ x. IsTrue (has_word rule Left x)) rule.hooks h in_range.hooks (get_contained rule.hooks t h at)

  -- and has a plain word, with a letter at each place
  module _ (t h : ℕ) (at : slice_get rule.hooks t ≡ Some h) where
    pub hook_plain : IsPlainWord (letters rule Left h)
    hook_plain = incidence.structured.plain t (slice_get_within rule.hooks t h at) h at

    pub hook_letter : (m : ℕ) → m < width rule → slice_get (letters rule Left h) m ≡ Some (At (label_at (letters rule Left h) m))
    hook_letter m b =
        let wide : length (letters rule Left h) ≡ width rule = incidence.structured.widths h (word_below rule Left h (hook_left t h at)) Left (hook_left t h at) in
        plain_letter (letters rule Left h) hook_plain m (subst (λ k. m < k) (sym wide) b)

    pub letter_low : (m : ℕ) → label_at (letters rule Left h) m ≤ schema.dim
    letter_low m = label_up_to schema.dim (letters rule Left h) m (in_range.words Left h)

    -- so the letter is a step
    pub hook_step : (m : ℕ) → m < width rule → step rule Left h (label_at (letters rule Left h) m) ≡ Imp m
    hook_step m b = letter_step schema rule in_range incidence Left h (label_at (letters rule Left h) m) m (hook_left t h at) (letter_low m) (hook_letter m b)

module _ (map : Map) (rule : Rule) (place : Placement) (in_range : IsInRange map.schema rule) (incidence : HasIncidence map.schema.dim rule) where
  -- each left step is met
  abbrev pub MeetsEach : Type 0
  MeetsEach = (x p i : ℕ) → IsInstance rule place x p → i ≤ dimension map → IsMetAt map rule place x p i

  -- along left links the darts follow their labels
  pub steps_follow : MeetsEach → (path : List ℕ) (x y p : ℕ) → p < place.positions → Leads rule.left_links x path y → place.dart_of y p ≡ follow map.alpha path (place.dart_of x p)
  steps_follow met [] x y p b e = ap (λ z. place.dart_of z p) (sym e)
  steps_follow met (i ∷ path) x y p b (z, linked, leads) =
      steps_follow met path z y p b leads
      ∙ ap (follow map.alpha path) (sym (subst (IsStepMet map.alpha place x p i) (linked_step map.schema rule in_range incidence Left x i z linked) (met x p i ((linked_in_range map.schema rule in_range incidence Left x i z linked).0, b) (linked_in_range map.schema rule in_range incidence Left x i z linked).2)).0)

  -- where a later hook's steps are met, it goes in step with the first
  pub steps_in_step : MeetsEach → GoInStep map rule place
  steps_in_step met t h p q m later at some b turn =
      let label : ℕ = label_at (letters rule Left h) m in
      let step_is : step rule Left h label ≡ Imp m = hook_step map.schema rule in_range incidence t h at m turn.within in
      let here : IsStepMet map.alpha place h q label (Imp m) = subst (IsStepMet map.alpha place h q label) step_is (met h q label (hook_left map.schema rule in_range incidence t h at, turn.position) (letter_low map.schema rule in_range incidence t h at m)) in
      ap (place.dart_of h) (sym turn.turns) ∙ sym here

  -- so a match is the candidate
  pub match_is_candidate : (hooks : List ℕ) → IsMatch map rule hooks place → IsCandidate map rule hooks place
  match_is_candidate hooks found = record {
    count = found.count;
    walk = found.walk;
    positions = found.positions;
    hooked = found.hooked;
    at_darts = found.at_darts;
    in_step = steps_in_step found.embedded.steps;
    forced = λ x p hook path at to. steps_follow found.embedded.steps path hook x p at.1 to.leads;
  }

  -- a path of left links leads from live darts to live darts
  pub follow_live : IsGeneralised map → (path : List ℕ) (x y d : ℕ) → Leads rule.left_links x path y → IsDart map d → IsDart map (follow map.alpha path d)
  follow_live old [] x y d e live = live
  follow_live old (i ∷ path) x y d (z, linked, leads) live = follow_live old path z y (map.alpha i d) leads (old.stays d i live (linked_in_range map.schema rule in_range incidence Left x i z linked).2)

  -- the hooks of a candidate lie at live darts
  module _ (old : IsGeneralised map) (hooks : List ℕ) (candidate : IsCandidate map rule hooks place) (darts : (d : ℕ) → Contains hooks d → IsDart map d) where
    starts_live : (t h : ℕ) → slice_get rule.hooks t ≡ Some h → IsDart map (place.dart_of h 0)
    starts_live t h at =
        let within : t < length hooks = omega (arith, candidate.count, slice_get_within rule.hooks t h at) in
        let named : slice_get hooks t ≡ Some (get_or hooks t 0) = slice_get-get_or hooks t 0 within in
        subst (IsDart map) (sym (candidate.at_darts t h (get_or hooks t 0) at named)) (darts (get_or hooks t 0) (get_contained hooks t (get_or hooks t 0) named))

    later_live : (t h : ℕ) → 0 < t → slice_get rule.hooks t ≡ Some h → (n p : ℕ) → p < n → p < place.positions → IsDart map (place.dart_of h p)
    later_live t h later at zero p less b = absurd (omega arith)
    later_live t h later at (suc n) zero less b = starts_live t h at
    later_live t h later at (suc n) (suc p) less b = go (first_turn map rule place hooks candidate.walk candidate.positions (suc p) (omega arith) b) (later_live t h later at n)
      where
        go : (q : ℕ) × (m : ℕ) × (q < suc p) × IsFirstTurn rule place (suc p) q m → ((p : ℕ) → p < n → p < place.positions → IsDart map (place.dart_of h p)) → IsDart map (place.dart_of h (suc p))
        go (q, m, earlier, turn) before =
            subst (IsDart map) (sym (candidate.in_step t h (suc p) q m later at (omega arith) b turn)) (old.stays (place.dart_of h q) (label_at (letters rule Left h) m) (before q (omega arith) (omega arith)) (letter_low map.schema rule in_range incidence t h at m))

    pub hooks_live : (t h p : ℕ) → slice_get rule.hooks t ≡ Some h → p < place.positions → IsDart map (place.dart_of h p)
    hooks_live zero h p at b = subst (IsDart map) (sym (candidate.hooked h p at b)) (positions_live map rule place hooks candidate.walk old in_range candidate.positions h at p b)
    hooks_live (suc t) h p at b = later_live (suc t) h (omega arith) at (suc p) p (omega arith) b

    -- a candidate that meets each step, and takes no dart twice, is a match
    pub candidate_is_match : MeetsEach → ((x p y q : ℕ) → IsInstance rule place x p → IsInstance rule place y q → IsPairBefore x p y q → place.dart_of x p ≢ place.dart_of y q) → IsMatch map rule hooks place
    candidate_is_match met distinct = record {
      count = candidate.count;
      walk = candidate.walk;
      positions = candidate.positions;
      hooked = candidate.hooked;
      at_darts = candidate.at_darts;
      embedded = record { live = live; injective = injective; steps = met };
    }
      where
        live : (x p : ℕ) → IsInstance rule place x p → IsDart map (place.dart_of x p)
        live x p at = go (incidence.structured.connected x (word_below rule Left x at.0) at.0)
          where
            go : (h : ℕ) × Contains rule.hooks h × IsJoined rule.left_links any_label h x → IsDart map (place.dart_of x p)
            go (h, c, (path, all, leads)) = subst (IsDart map) (sym (steps_follow met path h x p at.1 leads)) (follow_live old path h x (place.dart_of h p) leads (hooks_live c.0 h p (contained_at rule.hooks h c) at.1))

        injective : (x p y q : ℕ) → IsInstance rule place x p → IsInstance rule place y q → place.dart_of x p ≡ place.dart_of y q → (x ≡ y) × (p ≡ q)
        injective x p y q at at' e = go (pair_order x p y q)
          where
            go : ((x ≡ y) × (p ≡ q)) ⊎ (IsPairBefore x p y q ⊎ IsPairBefore y q x p) → (x ≡ y) × (p ≡ q)
            go (inl same) = same
            go (inr (inl before)) = absurd (distinct x p y q at at' before e)
            go (inr (inr before)) = absurd (distinct y q x p at' at before (sym e))
