-- A rule has its structure and its arcs in order, or a first fault of these.
use Rattle.std.proofs.Common.{◌≡◌, ◌≢◌, ℕ, ◌+◌, ◌<◌, false, ◌⊎◌, IsTrue, List, [], ◌∷◌, length, Option, Some, None, slice_get, slice_index, refl, sym, ◌∙◌, ap, subst, inl, inr, arith}
use Rattle.std.proofs.lemmas.Bool.{cases_eq}
use Rattle.std.proofs.lemmas.Option.{slice_get-get_or, slice_get_within}
use Rattle.std.specs.Prelude.{IsFalse}
use Rattle.gm_model.specs.declared.rule.RuleFault.{RuleFault}
use Rattle.gm_model.specs.declared.rule.RuleFault.TheVariants as faults
use Rattle.gm_model.specs.declared.rule.Side.{Side}
use Rattle.gm_model.specs.declared.rule.Side.TheVariants.{Left, Right}
use Rattle.gm_model.specs.declared.word.Letter.{Letter}
use Rattle.gm_model.specs.declared.word.Letter.TheVariants.{At, Gone}
use Rattle.gm_model.specs.Rules.{Rule, has_word, is_preserved, is_removed, is_added, letters, width}
use Rattle.gm_model.specs.Structure.{AreGood, IsFirstBad, HasHook, IsPlainWord, HasPlainHook, HasWidth, IsConnected, any_label, IsJoined, IsStructured, IsStructureFault, BadHooks, BadHookWord, BadLength, Unconnected, HasOnce, HasLabel, HasWhereOneSided, HasOnBoth, HasArcs, IsNodeArcFault, TwiceLeft, TwiceRight, Missing, Differs, AtNode, HasIncidence, IsIncidenceFault, OfStructure, OfArcs, arcs_at}
use Rattle.gm_plan.proofs.Decided.{decide_true, decide_at_most, decide_both, decide_where, decide_any, first_bad}
use Rattle.gm_plan.proofs.JoinedFound.{decide_joined}
use Rattle.gm_theory.proofs.FirstFound.{decide_pair_below}
use Rattle.gm_theory.proofs.Lists.{some_same, none_some}
use Rattle.gm_theory.proofs.NoFault.{node_no_fault}
use Rattle.gm_theory.proofs.RuleSteps.{word_below}
use Rattle.gm_theory.proofs.Tests.{true_or_false, not_both, search_below}
use Rattle.gm_theory.proofs.ValuesReach.{IsDecided}

-- ---- words

decide_gone : (letter : Option Letter) → IsDecided (letter ≡ Some Gone)
decide_gone None = inr (λ e. none_some Gone e)
decide_gone (Some Gone) = inl refl
decide_gone (Some (At i)) = inr (λ e. cc)

-- both are one label
abbrev AreOneLabel : Option Letter → Option Letter → Type 0
AreOneLabel letter other = (i : ℕ) × (letter ≡ Some (At i)) × (other ≡ Some (At i))

decide_one_label : (letter other : Option Letter) → IsDecided (AreOneLabel letter other)
decide_one_label None other = inr (λ h. none_some (At h.0) h.1)
decide_one_label (Some letter) None = inr (λ h. none_some (At h.0) h.2)
decide_one_label (Some Gone) (Some other) = inr (λ h. (let e = h.1 in cc))
decide_one_label (Some (At i)) (Some Gone) = inr (λ h. (let e = h.2 in cc))
decide_one_label (Some (At i)) (Some (At j)) = go (cases_eq i j)
  where
    go : (i ≡ j) ⊎ (i ≡ j → ⊥) → IsDecided (AreOneLabel (Some (At i)) (Some (At j)))
    go (inl e) = inl (i, refl, ap (λ k. Some (At k)) (sym e))
    go (inr apart) = inr (λ h. apart (label i h.0 h.1 ∙ sym (label j h.0 h.2)))
      where
        label : (k l : ℕ) → Some (At k) ≡ Some (At l) → k ≡ l
        label k l e = cc

module _ (word : List Letter) where
  abbrev IsTwice : ℕ → ℕ → Type 0
  IsTwice m m' = AreOneLabel (slice_get word m) (slice_get word m') × (m ≢ m')

  decide_twice : (m m' : ℕ) → IsDecided (IsTwice m m')
  decide_twice m m' = by (decide_one_label (slice_get word m) (slice_get word m')) (cases_eq m m')
    where
      by : IsDecided (AreOneLabel (slice_get word m) (slice_get word m')) → (m ≡ m') ⊎ (m ≢ m') → IsDecided (IsTwice m m')
      by (inl one) (inr apart) = inl (one, apart)
      by (inl one) (inl same) = inr (λ h. h.1 same)
      by (inr none) side = inr (λ h. none h.0)

  once_only : ((m m' : ℕ) → m < length word → m' < length word → IsTwice m m' → ⊥) → (m m' i : ℕ) → slice_get word m ≡ Some (At i) → slice_get word m' ≡ Some (At i) → m ≡ m'
  once_only never m m' i at at' = by (cases_eq m m')
    where
      by : (m ≡ m') ⊎ (m ≢ m') → m ≡ m'
      by (inl same) = same
      by (inr apart) = absurd (never m m' (slice_get_within word m (At i) at) (slice_get_within word m' (At i) at') ((i, at, at'), apart))

  decide_plain : IsDecided (IsPlainWord word)
  decide_plain = go (search_below (λ m. slice_get word m ≡ Some Gone) (λ m. decide_gone (slice_get word m)) (length word)) (decide_pair_below IsTwice decide_twice (length word) (length word))
    where
      go : ((m : ℕ) × (m < length word) × (slice_get word m ≡ Some Gone)) ⊎ ((m : ℕ) → m < length word → slice_get word m ≡ Some Gone → ⊥)
          → ((m : ℕ) × (m' : ℕ) × (m < length word) × (m' < length word) × IsTwice m m') ⊎ ((m m' : ℕ) → m < length word → m' < length word → IsTwice m m' → ⊥) → IsDecided (IsPlainWord word)
      go (inl (m, b, gone)) side = inr (λ plain. plain.labels m gone)
      go (inr none) (inl (m, m', b, b', (one, apart))) = inr (λ plain. apart (plain.distinct m m' one.0 one.1 one.2))
      go (inr none) (inr never) = inl (record { labels = λ m gone. none m (slice_get_within word m Gone gone) gone; distinct = once_only never })

module _ (rule : Rule) where
  -- ---- structure

  decide_hook : IsDecided (HasHook rule)
  decide_hook = go (search_below (λ x. IsTrue (has_word rule Left x)) (λ x. decide_true (has_word rule Left x)) (length rule.nodes)) rule.hooks refl
    where
      no_left : ((x : ℕ) → x < length rule.nodes → IsTrue (has_word rule Left x) → ⊥) → (x : ℕ) → IsTrue (has_word rule Left x) → ⊥
      no_left none x left = none x (word_below rule Left x left) left

      without : ((x : ℕ) → x < length rule.nodes → IsTrue (has_word rule Left x) → ⊥) → (x : ℕ) → IsFalse (has_word rule Left x)
      without none x = by (true_or_false (has_word rule Left x))
        where
          by : IsTrue (has_word rule Left x) ⊎ (has_word rule Left x ≡ false) → IsFalse (has_word rule Left x)
          by (inl left) = absurd (no_left none x left)
          by (inr none_here) = none_here

      go : ((x : ℕ) × (x < length rule.nodes) × IsTrue (has_word rule Left x)) ⊎ ((x : ℕ) → x < length rule.nodes → IsTrue (has_word rule Left x) → ⊥) → (hooks : List ℕ) → rule.hooks ≡ hooks → IsDecided (HasHook rule)
      go (inl (x, b, left)) [] e = inr (λ h. (let some : 0 < length rule.hooks = h.0 x left in omega (arith, ap length e)))
      go (inl (x, b, left)) (hook ∷ hooks) e = inl ((λ y other. omega (arith, ap length e)), (λ none. not_both (has_word rule Left x) left (none x)))
      go (inr none) [] e = inl ((λ x left. absurd (no_left none x left)), (λ all. e))
      go (inr none) (hook ∷ hooks) e = inr (λ h. (let empty : rule.hooks ≡ [] = h.1 (without none) in omega (arith, ap length e, ap length empty)))

  decide_plain_hook : (t : ℕ) → IsDecided (HasPlainHook rule t)
  decide_plain_hook t = go (slice_get rule.hooks t) refl
    where
      go : (hook : Option ℕ) → slice_get rule.hooks t ≡ hook → IsDecided (HasPlainHook rule t)
      go None e = inl (λ h at. none_some h (sym e ∙ at))
      go (Some hook) e = by (decide_plain (letters rule Left hook))
        where
          by : IsDecided (IsPlainWord (letters rule Left hook)) → IsDecided (HasPlainHook rule t)
          by (inl plain) = inl (λ h at. subst (λ x. IsPlainWord (letters rule Left x)) (some_same hook h (sym e ∙ at)) plain)
          by (inr not_plain) = inr (λ all. not_plain (all hook e))

  abbrev HasWidthOn : ℕ → Side → Type 0
  HasWidthOn x side = IsTrue (has_word rule side x) → length (letters rule side x) ≡ width rule

  decide_width_on : (x : ℕ) (side : Side) → IsDecided (HasWidthOn x side)
  decide_width_on x side = decide_where (decide_true (has_word rule side x)) (cases_eq (length (letters rule side x)) (width rule))

  decide_width : (x : ℕ) → IsDecided (HasWidth rule x)
  decide_width x = go (decide_width_on x Left) (decide_width_on x Right)
    where
      each : HasWidthOn x Left → HasWidthOn x Right → (side : Side) → HasWidthOn x side
      each left right Left = left
      each left right Right = right

      go : IsDecided (HasWidthOn x Left) → IsDecided (HasWidthOn x Right) → IsDecided (HasWidth rule x)
      go (inl left) (inl right) = inl (each left right)
      go (inl left) (inr none) = inr (λ all. none (all Right))
      go (inr none) right = inr (λ all. none (all Left))

  decide_connected : (x : ℕ) → IsDecided (IsConnected rule x)
  decide_connected x = decide_where (decide_true (has_word rule Left x)) (decide_any (λ h. IsJoined rule.left_links any_label h x) (λ h. decide_joined rule.left_links any_label h x) rule.hooks)

  abbrev StructureOrFault : Type 0
  StructureOrFault = IsStructured rule ⊎ ((fault : RuleFault) × IsStructureFault rule fault)

  module _ (hook : HasHook rule) where
    by_connected : AreGood (HasPlainHook rule) (length rule.hooks) → AreGood (HasWidth rule) (length rule.nodes) → AreGood (IsConnected rule) (length rule.nodes) ⊎ ((x : ℕ) × IsFirstBad (IsConnected rule) (length rule.nodes) x) → StructureOrFault
    by_connected plain widths (inl connected) = inl (record { hook = hook; plain = plain; widths = widths; connected = connected })
    by_connected plain widths (inr (x, first)) = inr (faults.NotConnected x, Unconnected x hook plain widths first)

    by_width : AreGood (HasPlainHook rule) (length rule.hooks) → AreGood (HasWidth rule) (length rule.nodes) ⊎ ((x : ℕ) × IsFirstBad (HasWidth rule) (length rule.nodes) x) → StructureOrFault
    by_width plain (inl widths) = by_connected plain widths (first_bad (IsConnected rule) decide_connected (length rule.nodes))
    by_width plain (inr (x, first)) = inr (faults.WordLength x, BadLength x hook plain first)

    by_plain : AreGood (HasPlainHook rule) (length rule.hooks) ⊎ ((t : ℕ) × IsFirstBad (HasPlainHook rule) (length rule.hooks) t) → StructureOrFault
    by_plain (inl plain) = by_width plain (first_bad (HasWidth rule) decide_width (length rule.nodes))
    by_plain (inr (t, first)) = inr (faults.HookWord (slice_index rule.hooks t), BadHookWord t (slice_index rule.hooks t) hook first (slice_get-get_or rule.hooks t 0 first.within))

  by_hook : IsDecided (HasHook rule) → StructureOrFault
  by_hook (inl hook) = by_plain hook (first_bad (HasPlainHook rule) decide_plain_hook (length rule.hooks))
  by_hook (inr none) = inr (faults.Hooks, BadHooks none)

  -- ---- arcs

  decide_label : (side : Side) (x i : ℕ) → IsDecided (HasLabel rule side x i)
  decide_label side x i = decide_at_most 1 (arcs_at rule side x i)

  decide_one_sided : (x i : ℕ) → IsDecided (HasWhereOneSided rule x i)
  decide_one_sided x i = decide_both
      (decide_where (decide_true (is_removed rule x)) (decide_label Left x i))
      (decide_where (decide_true (is_added rule x)) (decide_label Right x i))

  decide_on_both : (x i : ℕ) → IsDecided (HasOnBoth rule x i)
  decide_on_both x i = decide_where (decide_true (is_preserved rule x)) (decide_both (decide_where (decide_label Left x i) (decide_label Right x i)) (decide_where (decide_label Right x i) (decide_label Left x i)))

  decide_once : (side : Side) (x i : ℕ) → IsDecided (HasOnce rule side x i)
  decide_once side x i = decide_at_most (arcs_at rule side x i) 1

  module _ (n x : ℕ) where
    abbrev ArcsOrFault : Type 0
    ArcsOrFault = HasArcs n rule x ⊎ ((fault : RuleFault) × IsNodeArcFault n rule x fault)

    module _ (left : AreGood (HasOnce rule Left x) (n + 1)) where
      module _ (right : AreGood (HasOnce rule Right x) (n + 1)) where
        by_both : AreGood (HasWhereOneSided rule x) (n + 1) → AreGood (HasOnBoth rule x) (n + 1) ⊎ ((i : ℕ) × IsFirstBad (HasOnBoth rule x) (n + 1) i) → ArcsOrFault
        by_both one_sided (inl both) = inl (record { left_once = left; right_once = right; one_sided = one_sided; both = both })
        by_both one_sided (inr (i, first)) = inr (faults.ArcSetDiffers x i, Differs i left right first)

        by_one_sided : AreGood (HasWhereOneSided rule x) (n + 1) ⊎ ((i : ℕ) × IsFirstBad (HasWhereOneSided rule x) (n + 1) i) → ArcsOrFault
        by_one_sided (inl one_sided) = by_both one_sided (first_bad (HasOnBoth rule x) (decide_on_both x) (n + 1))
        by_one_sided (inr (i, first)) = inr (faults.ArcMissing x i, Missing i left right first)

      by_right : AreGood (HasOnce rule Right x) (n + 1) ⊎ ((i : ℕ) × IsFirstBad (HasOnce rule Right x) (n + 1) i) → ArcsOrFault
      by_right (inl right) = by_one_sided right (first_bad (HasWhereOneSided rule x) (decide_one_sided x) (n + 1))
      by_right (inr (i, first)) = inr (faults.ArcTwice x i Right, TwiceRight i left first)

    by_left : AreGood (HasOnce rule Left x) (n + 1) ⊎ ((i : ℕ) × IsFirstBad (HasOnce rule Left x) (n + 1) i) → ArcsOrFault
    by_left (inl left) = by_right left (first_bad (HasOnce rule Right x) (decide_once Right x) (n + 1))
    by_left (inr (i, first)) = inr (faults.ArcTwice x i Left, TwiceLeft i first)

    arcs_or_fault : ArcsOrFault
    arcs_or_fault = by_left (first_bad (HasOnce rule Left x) (decide_once Left x) (n + 1))

    decide_arcs : IsDecided (HasArcs n rule x)
    decide_arcs = go arcs_or_fault
      where
        go : ArcsOrFault → IsDecided (HasArcs n rule x)
        go (inl arcs) = inl arcs
        go (inr (fault, here)) = inr (λ arcs. node_no_fault n rule x fault arcs here)

  -- ---- both

  module _ (n : ℕ) where
    abbrev IncidenceOrFault : Type 0
    IncidenceOrFault = HasIncidence n rule ⊎ ((fault : RuleFault) × IsIncidenceFault n rule fault)

    module _ (structured : IsStructured rule) where
      by_node : (x : ℕ) → IsFirstBad (HasArcs n rule) (length rule.nodes) x → ArcsOrFault n x → IncidenceOrFault
      by_node x first (inl arcs) = absurd (first.fails arcs)
      by_node x first (inr (fault, here)) = inr (fault, OfArcs structured (AtNode x first.within first.before here))

      by_arcs : AreGood (HasArcs n rule) (length rule.nodes) ⊎ ((x : ℕ) × IsFirstBad (HasArcs n rule) (length rule.nodes) x) → IncidenceOrFault
      by_arcs (inl arcs) = inl (record { structured = structured; arcs = arcs })
      by_arcs (inr (x, first)) = by_node x first (arcs_or_fault n x)

    by_structure : StructureOrFault → IncidenceOrFault
    by_structure (inl structured) = by_arcs structured (first_bad (HasArcs n rule) (decide_arcs n) (length rule.nodes))
    by_structure (inr (fault, here)) = inr (fault, OfStructure here)

    pub incidence_or_fault : HasIncidence n rule ⊎ ((fault : RuleFault) × IsIncidenceFault n rule fault)
    incidence_or_fault = by_structure (by_hook decide_hook)
