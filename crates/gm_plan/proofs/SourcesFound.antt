-- Each right component of a rule has one assignment at most and a value to take over, for each embedding, or there is a first fault.
use Rattle.std.proofs.Common.{◌≡◌, ℕ, ◌<◌, ◌≤◌, ◌⊎◌, IsTrue, List, length, Option, Some, None, slice_get, refl, sym, ◌∙◌, subst, inl, inr, arith}
use Rattle.std.proofs.lemmas.Bool.{cases_lt, cases_order}
use Rattle.std.proofs.lemmas.Option.{slice_get_within}
use Rattle.gm_model.specs.declared.rule.RuleFault.{RuleFault}
use Rattle.gm_model.specs.declared.rule.RuleFault.TheVariants as faults
use Rattle.gm_model.specs.declared.rule.Side.{Side}
use Rattle.gm_model.specs.declared.rule.Side.TheVariants.{Left, Right}
use Rattle.gm_model.specs.declared.schema.Embed.{Embed}
use Rattle.gm_model.specs.declared.schema.Schema.{Schema}
use Rattle.gm_model.specs.declared.word.Letter.{Letter}
use Rattle.gm_model.specs.declared.word.Letter.TheVariants.{At, Gone}
use Rattle.gm_model.specs.Components.{IsTogether, WereTogether, IsAssigned, HasLetterIn, IsUnassigned, IsKeeper, ComesFromOne, ComesAlong, HasSource, HasSources, IsComponentFault, Twice, Sourceless, Merged, MergedAlong, IsEmbedFault, First}
use Rattle.gm_model.specs.Maps.{IsEmbedAt, type_of}
use Rattle.gm_model.specs.Orbits.{Labels}
use Rattle.gm_model.specs.Rules.{Rule, has_word, is_preserved, letters, word_at}
use Rattle.gm_embcheck.proofs.Transfer.{same_source}
use Rattle.gm_plan.proofs.Decided.{decide_true, decide_both, decide_three, decide_not, decide_some, stable, first_bad, least_of_all, least_from, most_of}
use Rattle.gm_plan.proofs.JoinedFound.{decide_joined}
use Rattle.gm_theory.proofs.Lists.{some_same, none_some}
use Rattle.gm_theory.proofs.NoFault.{source_no_fault}
use Rattle.gm_theory.proofs.RuleSteps.{word_below}
use Rattle.gm_theory.proofs.Tests.{both_true}
use Rattle.gm_theory.proofs.ValuesFound.{IsLeast, least_below, decide_assigned, assigned_below}
use Rattle.gm_theory.proofs.ValuesReach.{IsDecided}
use Rattle.gm_model.specs.Structure.{IsFirstBad, AreGood}

module _ (rule : Rule) where
  preserved_below : (x : ℕ) → IsTrue (is_preserved rule x) → x < length rule.nodes
  preserved_below x h = word_below rule Left x (both_true (has_word rule Left x) (has_word rule Right x) h).0

  -- ---- letters

  decide_letter : (o : Labels) (letter : Option Letter) → IsDecided ((i : ℕ) × (letter ≡ Some (At i)) × IsTrue (o i))
  decide_letter o None = inr (λ h. none_some (At h.0) h.1)
  decide_letter o (Some Gone) = inr (λ h. (let e = h.1 in cc))
  decide_letter o (Some (At i)) = go (decide_true (o i))
    where
      label : (j : ℕ) → Some (At i) ≡ Some (At j) → j ≡ i
      label j e = cc

      go : IsDecided (IsTrue (o i)) → IsDecided ((j : ℕ) × (Some (At i) ≡ Some (At j)) × IsTrue (o j))
      go (inl t) = inl (i, refl, t)
      go (inr none) = inr (λ h. none (subst (λ j. IsTrue (o j)) (label h.0 h.1) h.2))

  decide_letter_in : (side : Side) (o : Labels) (x m : ℕ) → IsDecided (HasLetterIn rule side o x m)
  decide_letter_in side o x m = decide_letter o (slice_get (letters rule side x) m)

  letter_below : (side : Side) (o : Labels) (x m : ℕ) → HasLetterIn rule side o x m → x < length rule.nodes
  letter_below side o x m (i, at, t) = go (word_at rule side x) refl
    where
      go : (word : Option (List Letter)) → word_at rule side x ≡ word → x < length rule.nodes
      go None e = none_some (At i) (rw e at at)
      go (Some word) e = word_below rule side x (rw e refl)

  letter_place : (side : Side) (o : Labels) (x m : ℕ) → HasLetterIn rule side o x m → m < length (letters rule side x)
  letter_place side o x m (i, at, t) = slice_get_within (letters rule side x) m (At i) at

  module _ (o : Labels) where
    decide_together : (x y : ℕ) → IsDecided (IsTogether rule o x y)
    decide_together x y = decide_both (decide_true (has_word rule Right x)) (decide_joined rule.right_links o x y)

    decide_were : (x y : ℕ) → IsDecided (WereTogether rule o x y)
    decide_were x y = decide_both (decide_true (has_word rule Left x)) (decide_joined rule.left_links o x y)

    -- ---- whether a component comes along

    abbrev IsOneAlong : ℕ → ℕ → ℕ → Type 0
    IsOneAlong x m y = IsTogether rule o x y × HasLetterIn rule Right o y m

    abbrev WasOneAlong : ℕ → ℕ → ℕ → Type 0
    WasOneAlong keeper m z = WereTogether rule o keeper z × HasLetterIn rule Left o z m

    decide_along : (x keeper m : ℕ) → IsDecided (ComesAlong rule o x keeper m)
    decide_along x keeper m = go
        (decide_some (IsOneAlong x m) (λ y. decide_both (decide_together x y) (decide_letter_in Right o y m)) (length rule.nodes) (λ y h. letter_below Right o y m h.1))
        (decide_some (WasOneAlong keeper m) (λ z. decide_both (decide_were keeper z) (decide_letter_in Left o z m)) (length rule.nodes) (λ z h. letter_below Left o z m h.1))
      where
        go : IsDecided ((y : ℕ) × IsOneAlong x m y) → IsDecided ((z : ℕ) × WasOneAlong keeper m z) → IsDecided (ComesAlong rule o x keeper m)
        go side (inl (z, (were, letter))) = inl (λ y together other. (z, were, letter))
        go (inl (y, (together, letter))) (inr none) = inr (λ along. (let was = along y together letter in none (was.0, (was.1, was.2))))
        go (inr nowhere) side = inl (λ y together letter. absurd (nowhere (y, (together, letter))))

    -- no letter stands at a place behind all words
    few_places : (most : ℕ) × ((y : ℕ) → y < length rule.nodes → length (letters rule Right y) ≤ most)
    few_places = most_of (λ y. length (letters rule Right y)) (length rule.nodes)

    along_behind : (x keeper m : ℕ) → few_places.0 ≤ m → ComesAlong rule o x keeper m
    along_behind x keeper m past y together letter = absurd (
        let few : length (letters rule Right y) ≤ few_places.0 = few_places.1 y (letter_below Right o y m letter) in
        let within : m < length (letters rule Right y) = letter_place Right o y m letter in
        omega arith)

    module _ (e x : ℕ) where
      abbrev SourceOrFault : Type 0
      SourceOrFault = HasSource rule e o x ⊎ ((fault : RuleFault) × IsComponentFault rule e o x fault)

      -- ---- where a node has an assignment

      abbrev IsOneAssigned : ℕ → Type 0
      IsOneAssigned y = IsTogether rule o x y × IsAssigned rule e y

      decide_one_assigned : (y : ℕ) → IsDecided (IsOneAssigned y)
      decide_one_assigned y = decide_both (decide_together x y) (decide_assigned rule e y)

      module _ (y : ℕ) (least : IsLeast IsOneAssigned y) where
        abbrev IsOther : ℕ → Type 0
        IsOther z = (y < z) × IsOneAssigned z

        the_only : ((z : ℕ) → IsOther z → ⊥) → (z : ℕ) → IsOneAssigned z → z ≡ y
        the_only none z one = go (cases_order z y)
          where
            go : (z ≡ y) ⊎ ((z < y) ⊎ (y < z)) → z ≡ y
            go (inl same) = same
            go (inr (inl less)) = absurd (least.1 z less one)
            go (inr (inr more)) = absurd (none z (more, one))

        by_other : ((z : ℕ) × IsLeast IsOther z) ⊎ ((z : ℕ) → IsOther z → ⊥) → SourceOrFault
        by_other (inl (z, ((more, (together, has)), before))) = inr (
          faults.SetTwice e y z,
          Twice y z
              (record { together = least.0.0; above = tt; has = least.0.1; least = λ u b t a h. least.1 u b (t, h) })
              (record { together = together; above = more; has = has; least = λ u b t a h. before u b (a, (t, h)) }),
        )
        by_other (inr none) = inl (record { once = λ u v tu tv au av. the_only none u (tu, au) ∙ sym (the_only none v (tv, av)); source = inl (y, least.0.0, least.0.1) })

        by_assigned : SourceOrFault
        by_assigned = by_other (least_of_all IsOther (λ z. decide_both (by_order z) (decide_one_assigned z)) (length rule.nodes) (λ z h. assigned_below rule e z h.1.1))
          where
            by_order : (z : ℕ) → IsDecided (y < z)
            by_order z = go (cases_lt y z)
              where
                go : (y < z) ⊎ (z ≤ y) → IsDecided (y < z)
                go (inl less) = inl less
                go (inr more) = inr (λ less. omega arith)

      -- ---- where none has

      module _ (unassigned : IsUnassigned rule e o x) where
        never_twice : (y z : ℕ) → IsTogether rule o x y → IsTogether rule o x z → IsAssigned rule e y → IsAssigned rule e z → y ≡ z
        never_twice y z ty tz ay az = absurd (unassigned y ty ay)

        abbrev IsOnePreserved : ℕ → Type 0
        IsOnePreserved y = IsTogether rule o x y × IsTrue (is_preserved rule y)

        module _ (keeper : ℕ) (kept : IsKeeper rule o x keeper) where
          abbrev IsOutside : ℕ → Type 0
          IsOutside y = IsTogether rule o x y × (WereTogether rule o keeper y → ⊥) × IsTrue (is_preserved rule y)

          decide_outside : (y : ℕ) → IsDecided (IsOutside y)
          decide_outside y = decide_three (decide_together x y) (decide_not (decide_were keeper y)) (decide_true (is_preserved rule y))

          module _ (one : ComesFromOne rule o x keeper) where
            each_along : AreGood (ComesAlong rule o x keeper) few_places.0 → (m : ℕ) → ComesAlong rule o x keeper m
            each_along good m = go (cases_lt m few_places.0)
              where
                go : (m < few_places.0) ⊎ (few_places.0 ≤ m) → ComesAlong rule o x keeper m
                go (inl less) = good m less
                go (inr past) = along_behind x keeper m past

            by_along : AreGood (ComesAlong rule o x keeper) few_places.0 ⊎ ((m : ℕ) × IsFirstBad (ComesAlong rule o x keeper) few_places.0 m) → SourceOrFault
            by_along (inl good) = inl (record { once = never_twice; source = inr (unassigned, (keeper, record { kept = kept; one = one; along = each_along good })) })
            by_along (inr (m, first)) = inr (faults.MergeAlong e keeper m, MergedAlong keeper m unassigned kept one (record { fails = first.fails; before = first.before }))

          by_outside : ((y : ℕ) × IsLeast IsOutside y) ⊎ ((y : ℕ) → IsOutside y → ⊥) → SourceOrFault
          by_outside (inl (y, ((together, apart, preserved), before))) = inr (
            faults.Merge e keeper y,
            Merged keeper y unassigned kept
                (record { together = together; above = apart; has = preserved; least = λ z b t a h. before z b (t, a, h) }),
          )
          by_outside (inr none) = by_along (λ y t p. stable (decide_were keeper y) (λ apart. none y (t, apart, p))) (first_bad (ComesAlong rule o x keeper) (decide_along x keeper) few_places.0)

          by_keeper : SourceOrFault
          by_keeper = by_outside (least_of_all IsOutside decide_outside (length rule.nodes) (λ y h. preserved_below y h.2))

        by_preserved : ((y : ℕ) × IsLeast IsOnePreserved y) ⊎ ((y : ℕ) → IsOnePreserved y → ⊥) → SourceOrFault
        by_preserved (inl (keeper, ((together, preserved), before))) = by_keeper keeper (record { together = together; preserved = preserved; least = λ y b t p. before y b (t, p) })
        by_preserved (inr none) = inr (faults.NoValue e x, Sourceless unassigned (λ y t p. none y (t, p)))

        by_unassigned : SourceOrFault
        by_unassigned = by_preserved (least_of_all IsOnePreserved (λ y. decide_both (decide_together x y) (decide_true (is_preserved rule y))) (length rule.nodes) (λ y h. preserved_below y h.1))

      source_or_fault : SourceOrFault
      source_or_fault = go (least_of_all IsOneAssigned decide_one_assigned (length rule.nodes) (λ y h. assigned_below rule e y h.1))
        where
          go : ((y : ℕ) × IsLeast IsOneAssigned y) ⊎ ((y : ℕ) → IsOneAssigned y → ⊥) → SourceOrFault
          go (inl (y, least)) = by_assigned y least
          go (inr none) = by_unassigned (λ y t a. none y (t, a))

      decide_source : IsDecided (HasSource rule e o x)
      decide_source = go source_or_fault
        where
          go : SourceOrFault → IsDecided (HasSource rule e o x)
          go (inl source) = inl source
          go (inr (fault, here)) = inr (λ source. source_no_fault rule e o x fault source here)

  -- ---- all embeddings

  module _ (schema : Schema) where
    -- a right node whose component has no source
    abbrev IsBadNode : ℕ → Embed → ℕ → Type 0
    IsBadNode e embed x = IsTrue (has_word rule Right x) × (HasSource rule e (type_of embed) x → ⊥)

    decide_bad_node : (e : ℕ) (embed : Embed) (x : ℕ) → IsDecided (IsBadNode e embed x)
    decide_bad_node e embed x = decide_both (decide_true (has_word rule Right x)) (decide_not (decide_source (type_of embed) e x))

    abbrev IsBadEmbed : ℕ → Type 0
    IsBadEmbed e = (embed : Embed) × IsEmbedAt schema e embed × ((x : ℕ) × IsBadNode e embed x)

    decide_bad_embed : (e : ℕ) → IsDecided (IsBadEmbed e)
    decide_bad_embed e = go (slice_get schema.embeds e) refl
      where
        by : (embed : Embed) → IsEmbedAt schema e embed → IsDecided ((x : ℕ) × IsBadNode e embed x) → IsDecided (IsBadEmbed e)
        by embed at (inl bad) = inl (embed, at, bad)
        by embed at (inr none) = inr (λ h. (let same : h.0 ≡ embed = some_same h.0 embed (sym h.1 ∙ at) in none (subst (λ (m : Embed). (x : ℕ) × IsBadNode e m x) same h.2)))

        go : (found : Option Embed) → slice_get schema.embeds e ≡ found → IsDecided (IsBadEmbed e)
        go None f = inr (λ h. none_some h.0 (sym f ∙ h.1))
        go (Some embed) f = by embed f (decide_some (IsBadNode e embed) (decide_bad_node e embed) (length rule.nodes) (λ x h. word_below rule Right x h.0))

    -- an embedding without a bad node has sources
    good_embed : (e : ℕ) → (IsBadEmbed e → ⊥) → (embed : Embed) → IsEmbedAt schema e embed → (x : ℕ) → IsTrue (has_word rule Right x) → HasSource rule e (type_of embed) x
    good_embed e none embed at x on_right = stable (decide_source (type_of embed) e x) (λ fails. none (embed, at, (x, (on_right, fails))))

    module _ (e : ℕ) (embed : Embed) (at : IsEmbedAt schema e embed) (earlier : (e' : ℕ) → e' < e → IsBadEmbed e' → ⊥) (x : ℕ) (least : IsLeast (IsBadNode e embed) x) where
      earlier_node : (y : ℕ) → y < x → IsTrue (has_word rule Right y) → HasSource rule e (type_of embed) y
      earlier_node y less on_right = stable (decide_source (type_of embed) e y) (λ fails. least.1 y less (on_right, fails))

      fault_here : HasSource rule e (type_of embed) x ⊎ ((fault : RuleFault) × IsComponentFault rule e (type_of embed) x fault) → (fault : RuleFault) × IsEmbedFault schema rule fault
      fault_here (inl source) = absurd (least.0.1 source)
      fault_here (inr (fault, here)) = (
        fault,
        First e embed x (record {
          embed_at = at;
          leader = (least.0.0, λ y less together. least.0.1 (same_source rule e (type_of embed) y x together least.0.0 (earlier_node y less together.0)));
          here = here;
          earlier_embeds = λ e' embed' less at'. good_embed e' (earlier e' less) embed' at';
          earlier_nodes = earlier_node;
        }),
      )

    first_fault : (e : ℕ) → IsBadEmbed e → ((e' : ℕ) → e' < e → IsBadEmbed e' → ⊥) → (fault : RuleFault) × IsEmbedFault schema rule fault
    first_fault e (embed, at, (x, bad)) earlier =
        let least = least_from (IsBadNode e embed) (decide_bad_node e embed) x bad in
        fault_here e embed at earlier least.0 least.1 (source_or_fault (type_of embed) e least.0)

    pub sources_or_fault : HasSources schema rule ⊎ ((fault : RuleFault) × IsEmbedFault schema rule fault)
    sources_or_fault = go (least_below IsBadEmbed decide_bad_embed (length schema.embeds))
      where
        go : ((e : ℕ) × (e < length schema.embeds) × IsLeast IsBadEmbed e) ⊎ ((e : ℕ) → e < length schema.embeds → IsBadEmbed e → ⊥) → HasSources schema rule ⊎ ((fault : RuleFault) × IsEmbedFault schema rule fault)
        go (inl (e, b, (bad, earlier))) = inr (first_fault e bad earlier)
        go (inr none) = inl (λ e embed at. good_embed e (none e (slice_get_within schema.embeds e embed at)) embed at)
