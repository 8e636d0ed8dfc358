-- An application of the dual rule to the dual map has the budget of that of the rule to the map.
use Rattle.std.proofs.Common.{◌≡◌, ◌↔◌, ℕ, ◌+◌, ◌*◌, ◌≤◌, true, false, IsTrue, List, [], ◌∷◌, length, inl, inr, sym, ap, ap₂, subst, ◌∙◌}
use Rattle.std.specs.List.{AllZip}
use Rattle.std.specs.Option.{option_map}
use Rattle.std.proofs.lemmas.List.{length-map}
use Rattle.std.proofs.lemmas.Option.{slice_get-map}
use Rattle.gm_model.specs.declared.expr.DartTerm.{DartTerm}
use Rattle.gm_model.specs.declared.schema.Embed.{Embed}
use Rattle.gm_model.specs.declared.value.Value.TheVariants as values
use Rattle.gm_model.specs.declared.word.Mask.{Mask}
use Rattle.gm_model.specs.Acceptance.{IsAccepted}
use Rattle.gm_model.specs.Applications.{Application, Decider, IsMatched, HasPositions, NoDarts, Candidate, IsBudget, Of, IsPreUnits, IsReachedAt, IsReachedSum, IsReadSum, IsReadUnits, IsReady, IsValuedBefore, IsWork, NoMatch, NotReady, Ready, reading_at}
use Rattle.gm_model.specs.Expressions.{HasNoValue, HasUnits, IsCollected, Reading, path_units}
use Rattle.gm_model.specs.Kinds.{IsMaskInRange, IsTreeInRange}
use Rattle.gm_model.specs.Maps.{IsEmbedAt, IsSchema, IsSound, Map, type_of}
use Rattle.gm_model.specs.Matches.{ArePositions, Created, Walked, Placement, along_hook}
use Rattle.gm_model.specs.Orbits.{HasCount}
use Rattle.gm_model.specs.Rules.{Assigns, Rule, width}
use Rattle.gm_model.specs.Trees.{Tree, Number, Truth, Param, Field, Same, Count, Sum, Least, Greatest, Unary, Binary, If, MakeVec2, MakeVec3, MakeRgb}
use Rattle.gm_theory.proofs.CandidatesFound.{candidate_exists}
use Rattle.gm_theory.proofs.Walks.{walk_unique}
use Rattle.gm_dual.specs.Duals.{dual_application, dual_assignment, dual_embed, dual_label, dual_map, dual_mask, dual_node, dual_rule, dual_term, dual_tree}
use Rattle.gm_dual.proofs.AcceptLemmas.{tree_range}
use Rattle.gm_dual.proofs.BookLemmas.{application_twice}
use Rattle.gm_dual.proofs.DoneLemmas.{at_from, at_to, gives_dual, lies_from, lies_to, ready_dual}
use Rattle.gm_dual.proofs.MatchLemmas.{match_dual, positions_dual}
use Rattle.gm_dual.proofs.ReadLemmas.{collected_dual, dual_reading, list_alike, value_dual}
use Rattle.gm_dual.proofs.RefusedLemmas.{decider_from, decider_to, fine, gives_from, matched_dual, pre_is, unfolded_dual, value_from, with_neighbours, turned}
use Rattle.gm_dual.proofs.RuleLemmas.{contains_map}
use Rattle.gm_dual.proofs.SoundLemmas.{embed_from_dual, has_embed_dual, schema_dual, sound_dual}
use Rattle.gm_dual.proofs.TwiceLemmas.{found}

-- what holds of each pair holds in another way
zip_alike : {A B : Type 0} (P Q : A → B → Type 0) → ((x : A) (y : B) → P x y → Q x y) → (xs : List A) (ys : List B) → AllZip P xs ys → AllZip Q xs ys
zip_alike P Q alike [] [] h = tt
zip_alike P Q alike [] (y ∷ ys) h = absurd h
zip_alike P Q alike (x ∷ xs) [] h = absurd h
zip_alike P Q alike (x ∷ xs) (y ∷ ys) h = (alike x y h.0, zip_alike P Q alike xs ys h.1)

-- two placements at the same hook darts have as many positions, since there is one walk
one_size : (m : Map) (rule : Rule) (hooks walk walk' : List ℕ) (a b : Placement) → ArePositions m rule a hooks walk → ArePositions m rule b hooks walk' → a.positions ≡ b.positions
one_size m rule _ _ _ a b (Created none one) (Created none' one') = one ∙ sym one'
one_size m rule _ _ _ a b (Walked d others walk live is count turns) (Walked _ _ walk' live' is' count' turns') =
    count ∙ (ap length (walk_unique (along_hook m rule) (width rule) d walk walk' is is') ∙ sym count')

module _ (app : Application) (most : app.map.schema.dim ≤ 7) (lawful : IsSchema app.map.schema) (accepted : IsAccepted app.map.schema app.rule) where
  abbrev n : ℕ
  n = app.map.schema.dim

  abbrev dual : Application
  dual = dual_application app

  module _ (place : Placement) where
    -- ---- what a reading takes

    module _ (p : ℕ) where
      abbrev r : Reading
      r = reading_at app place p

      path_dual : (d : DartTerm) → path_units (reading_at dual place p) (dual_term n d) ≡ path_units r d
      path_dual d = length-map d.path (dual_label n)

      count_dual : (o : Mask) (d : DartTerm) (u : ℕ) → IsMaskInRange app.map.schema app.rule o → (count : ℕ) × HasCount (IsCollected r o d) count × (u ≡ path_units r d + count)
          → (count : ℕ) × HasCount (IsCollected (dual_reading r) (dual_mask n o) (dual_term n d)) count × (u ≡ path_units (reading_at dual place p) (dual_term n d) + count)
      count_dual o d u range h = (
        h.0,
        (h.1.0, list_alike (IsCollected r o d) (IsCollected (dual_reading r) (dual_mask n o) (dual_term n d)) (collected_dual r app.rule most o d range) h.1.0 h.1.1, h.1.2),
        h.2 ∙ ap (λ k. k + h.0) (sym (path_dual d)),
      )

      none_dual : (tree : Tree) → IsTreeInRange app.map.schema app.rule tree → HasNoValue r tree → HasNoValue (dual_reading r) (dual_tree n tree)
      none_dual tree range none v h = none v (value_from app most lawful accepted place p tree v range (tree_range app.map.schema app.rule most tree range) h)

      units_dual : (tree : Tree) (u : ℕ) → IsTreeInRange app.map.schema app.rule tree → HasUnits r tree u → HasUnits (dual_reading r) (dual_tree n tree) u
      units_dual (Number k) u range h = h
      units_dual (Truth b) u range h = h
      units_dual (Param k) u range h = h
      units_dual (Field d e) u range h = h ∙ ap (λ k. k + 1) (sym (path_dual d))
      units_dual (Same d d') u range h = h ∙ ap₂ (λ x y. x + y) (sym (path_dual d)) (sym (path_dual d'))
      units_dual (Count o d) u range h = count_dual o d u range.0 h
      units_dual (Sum o d e) u range h = count_dual o d u range.0 h
      units_dual (Least o d e) u range h = count_dual o d u range.0 h
      units_dual (Greatest o d e) u range h = count_dual o d u range.0 h
      units_dual (Unary op a) u range h = units_dual a u range h
      units_dual (Binary op a b) u range h = (h.0, h.1, units_dual a h.0 range.0 h.2, units_dual b h.1 range.1 h.3, h.4)
      units_dual (If c a b) u range (s, t, first, inl (is, then_units), e) = (s, t, units_dual c s range.0 first, inl (value_dual r app.rule most c (values.Bool true) range.0 is, units_dual a t range.1 then_units), e)
      units_dual (If c a b) u range (s, t, first, inr (inl (is, else_units)), e) = (s, t, units_dual c s range.0 first, inr (inl (value_dual r app.rule most c (values.Bool false) range.0 is, units_dual b t range.2 else_units)), e)
      units_dual (If c a b) u range (s, t, first, inr (inr (none, zero_units)), e) = (s, t, units_dual c s range.0 first, inr (inr (none_dual c range.0 none, zero_units)), e)
      units_dual (MakeVec2 a b) u range h = (h.0, h.1, units_dual a h.0 range.0 h.2, units_dual b h.1 range.1 h.3, h.4)
      units_dual (MakeVec3 a b c) u range h = (h.0, h.1, h.2, units_dual a h.0 range.0 h.3, units_dual b h.1 range.1 h.4, units_dual c h.2 range.2 h.5, h.6)
      units_dual (MakeRgb a b c) u range h = (h.0, h.1, h.2, units_dual a h.0 range.0 h.3, units_dual b h.1 range.1 h.4, units_dual c h.2 range.2 h.5, h.6)

    pre_units_dual : (u : ℕ) → IsPreUnits app place u → IsPreUnits dual place u
    pre_units_dual u (inl (none, e)) = inl (ap (option_map (dual_tree n)) none, e)
    pre_units_dual u (inr (tree, is, h)) = inr (dual_tree n tree, pre_is app most lawful accepted place tree is, units_dual 0 tree u (accepted.typed.pre tree is).in_range h)

    assigns_dual : (x e : ℕ) (tree : Tree) → Assigns app.rule x e tree → Assigns (dual_rule n app.rule) x e (dual_tree n tree)
    assigns_dual x e tree node = (
      dual_node n node.0,
      slice_get-map (dual_node n) app.rule.nodes x ∙ ap (option_map (dual_node n)) node.1,
      contains_map (dual_assignment n) node.0.sets (record { embed = e; tree = tree }) node.2,
    )

    -- what a node is assigned is in range, since its embedding is one of the schema
    assigned_range : (x e : ℕ) (tree : Tree) → Assigns app.rule x e tree → IsTreeInRange app.map.schema app.rule tree
    assigned_range x e tree node =
        let some = found app.map.schema.embeds e (accepted.in_range.sets x node.0 (record { embed = e; tree = tree }) node.1 node.2).1 in
        (accepted.typed.sets x e tree some.0 node some.1).in_range

    read_units_dual : (by : Decider) (u : ℕ) → IsReadUnits app place by u → IsReadUnits dual place by u
    read_units_dual by u (tree, (assigns, within), h) =
        (dual_tree n tree, (assigns_dual by.node by.embed tree assigns, within), units_dual by.position tree u (assigned_range by.node by.embed tree assigns) h)

    -- ---- what is read, and which darts get values

    module _ (IsLive : ℕ → Type 0) (alpha : ℕ → ℕ → ℕ) where
      valued_to : (by : Decider) → IsValuedBefore app place IsLive alpha by → IsValuedBefore dual place IsLive (turned app most lawful accepted alpha) by
      valued_to by all other low is =
          let was = decider_from app most lawful accepted place IsLive alpha other is in
          let given = all other low was in
          (given.0, gives_dual app most lawful accepted place other.embed other.node other.position given.0 was.embed was.embed_at given.1)

      valued_from : (by : Decider) → IsValuedBefore dual place IsLive (turned app most lawful accepted alpha) by → IsValuedBefore app place IsLive alpha by
      valued_from by all other low is =
          let given = all other low (decider_to app most lawful accepted place IsLive alpha other is) in
          (given.0, gives_from app most lawful accepted place other.embed other.node other.position given.0 is.embed is.embed_at given.1)

      read_sum_dual : (u : ℕ) → IsReadSum app place IsLive alpha u → IsReadSum dual place IsLive (turned app most lawful accepted alpha) u
      read_sum_dual u s = record {
        read = s.read;
        ordered = s.ordered;
        same = λ by. (
          (λ c. let is = (s.same by).0 c in (decider_to app most lawful accepted place IsLive alpha by is.0, valued_to by is.1)),
          (λ is. (s.same by).1 (decider_from app most lawful accepted place IsLive alpha by is.0, valued_from by is.1)),
        );
        units = s.units;
        units_are = zip_alike (IsReadUnits app place) (IsReadUnits dual place) read_units_dual s.read s.units s.units_are;
        sum_is = s.sum_is;
      }

      reached_dual : (e : ℕ) (embed : Embed) → IsEmbedAt app.map.schema e embed → (d : ℕ) → IsReachedAt app place IsLive alpha e embed d ↔ IsReachedAt dual place IsLive (turned app most lawful accepted alpha) e (dual_embed n embed) d
      reached_dual e embed at d =
          let same = has_embed_dual app.map.schema most lawful e embed at in
          let m = with_neighbours app most lawful accepted alpha in (
            (λ h. (h.0, (h.1.0, h.1.1, at_to app most lawful accepted place m e (type_of embed) (type_of (dual_embed n embed)) same h.1.0 h.1.1 h.1.2, lies_to app most lawful accepted place m e (type_of embed) (type_of (dual_embed n embed)) same d h.1.0 h.1.1 h.1.3))),
            (λ h. (h.0, (h.1.0, h.1.1, at_from app most lawful accepted place m e (type_of embed) (type_of (dual_embed n embed)) same h.1.0 h.1.1 h.1.2, lies_from app most lawful accepted place m e (type_of embed) (type_of (dual_embed n embed)) same d h.1.0 h.1.1 h.1.3))),
          )

      reached_sum_dual : (count : ℕ) → IsReachedSum app place IsLive alpha count → IsReachedSum dual place IsLive (turned app most lawful accepted alpha) count
      reached_sum_dual count s = record {
        counts = s.counts;
        each = s.each ∙ sym (length-map app.map.schema.embeds (dual_embed n));
        counts_are = λ e c embed is at.
            let old = embed_from_dual app.map.schema e embed at in
            let had : HasCount (IsReachedAt app place IsLive alpha e old.0) c = s.counts_are e c old.0 is old.1 in
            let here : HasCount (IsReachedAt dual place IsLive (turned app most lawful accepted alpha) e (dual_embed n old.0)) c =
            (had.0, list_alike (IsReachedAt app place IsLive alpha e old.0) (IsReachedAt dual place IsLive (turned app most lawful accepted alpha) e (dual_embed n old.0)) (reached_dual e old.0 old.1) had.0 had.1, had.2) in
            subst (λ (x : Embed). HasCount (IsReachedAt dual place IsLive (turned app most lawful accepted alpha) e x) c) (sym old.2) here;
        sum_is = s.sum_is;
      }

  -- ---- the budget

  twice : dual_application dual ≡ app
  twice = application_twice app most lawful accepted.in_range accepted.typed

  matched_from : (place : Placement) → IsMatched dual place → IsMatched app place
  matched_from place m = subst (λ a. IsMatched a place) twice (match_dual (dual_map app.map) (dual_rule n app.rule) (fine app most lawful accepted).in_range (fine app most lawful accepted).incidence app.hooks place m)

  ready_from : (place : Placement) → IsReady dual place → IsReady app place
  ready_from place ready = subst (λ a. IsReady a place) twice (ready_dual dual most (schema_dual app.map.schema most lawful) (fine app most lawful accepted) place ready)

  work_dual : (reached read : ℕ) → IsWork app reached read → IsWork dual reached read
  work_dual _ _ (NoMatch none) = NoMatch (λ place m. none place (matched_from place m))
  work_dual _ _ (NotReady place u matched never pre) = NotReady place u (matched_dual app most lawful accepted place matched) (λ ready. never (ready_from place ready)) (pre_units_dual place u pre)
  work_dual _ _ (Ready place IsLive alpha reached u w ready unfolded sum pre read) =
      Ready place IsLive (turned app most lawful accepted alpha) reached u w (ready_dual app most lawful accepted place ready) (unfolded_dual app most lawful accepted place (λ d. IsTrue (IsLive d)) alpha unfolded)
      (reached_sum_dual place (λ d. IsTrue (IsLive d)) alpha reached sum) (pre_units_dual place u pre) (read_sum_dual place (λ d. IsTrue (IsLive d)) alpha w read)

  size_dual : (positions : ℕ) → IsSound app.map → HasPositions app positions → HasPositions dual positions
  size_dual _ sound (NoDarts none) = NoDarts none
  size_dual _ sound (Candidate place darts candidate) =
      let there = sound_dual app.map most lawful sound in
      let rules = fine app most lawful accepted in
      let some = candidate_exists (dual_map app.map) (dual_rule n app.rule) there.is_map there.generalised rules.in_range rules.incidence app.hooks candidate.count darts in
      subst (HasPositions dual)
      (one_size (dual_map app.map) (dual_rule n app.rule) app.hooks some.1.walk candidate.walk some.0 place some.1.positions (positions_dual app.map app.rule accepted.in_range accepted.incidence place app.hooks candidate.walk candidate.positions))
      (Candidate some.0 darts some.1)

  pub budget_dual : (budget : ℕ) → IsSound app.map → IsBudget app budget → IsBudget dual budget
  budget_dual _ sound (Of positions reached read has work) =
      subst (λ k. IsBudget dual (24 * (n + 1) * (k * positions + reached + read + 1))) (length-map app.rule.nodes (dual_node n)) (Of positions reached read (size_dual positions sound has) (work_dual reached read work))
