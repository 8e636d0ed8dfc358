-- How the arcs of one reached dart are followed, label by label.
use Rattle.std.proofs.Common.{◌≡◌, ℕ, zero, suc, ◌+◌, ◌-◌, ◌*◌, ◌<◌, ◌≤◌, ◌⊎◌, false, List, length, Option, Some, slice_get, IsTrue, inl, inr, sym, ◌∙◌, ap, subst, arith}
use Rattle.std.proofs.lemmas.Bool.{cases_eq, cases_lt, false≢true}
use Rattle.std.proofs.lemmas.Option.{slice_get_within}
use Rattle.gm_model.specs.declared.schema.Embed.{Embed}
use Rattle.gm_model.specs.declared.word.Mask.{Mask}
use Rattle.gm_model.specs.Labels.{has}
use Rattle.gm_model.specs.Maps.{IsEmbedAt, type_of}
use Rattle.gm_model.specs.Unfolding.{IsArcAfter}
use Rattle.gm_theory.proofs.Lists.{some_same}
use Rattle.gm_theory.specs.inner.Theorem.{Unfolded}
use Rattle.gm_walk.specs.declared.at.At.{At}
use Rattle.gm_walk.specs.declared.mark.Mark.{Mark}
use Rattle.gm_pending.specs.inner.Marks.{IsMarkedMore, HasDistinctKeys}
use Rattle.gm_pending.specs.inner.ReachedDarts.{AreResultDarts, IsFollowedTo, IsFollowed, IsGrown, IsSpreadTo}
use Rattle.gm_pending.specs.inner.Results.{PendingOf, IsPrepared, IsResultDart, IsUnfoldedIn, scene_in, name_of}
use Rattle.gm_pending.proofs.on_marks.OneMoreMark.{get_within}
use Rattle.gm_pending.proofs.on_deciding.OrbitsWalked.{label_within, spread_passes, spread_returns, spread_follows, spread_next}

-- what was marked is marked
abbrev pub StaysMarked : List Mark → List Mark → Type 0
StaysMarked old new = (j : ℕ) (entry : Mark) → slice_get old j ≡ Some entry → slice_get new j ≡ Some entry

pub stays_longer : (old new : List Mark) → StaysMarked old new → length old ≤ length new
stays_longer old new kept = elim (cases_lt (length new) (length old)) [
  | inr h ↦ h
  | inl h ↦ let last = get_within old (length new) h in absurd (let b = slice_get_within new (length new) last.0 (kept (length new) last.0 last.1) in omega (arith, b))
]

-- ---- which labels are left

-- those of the set from label i on, but that over which the dart was reached
abbrev pub IsAskedFrom : Mask → Option ℕ → Mask → ℕ → Type 0
IsAskedFrom labels over asked i = ((l : ℕ) → l < 8 → IsTrue (has asked l) → (i ≤ l) × IsTrue (has labels l)) × ((l : ℕ) → l < 8 → i ≤ l → has asked l ≡ false → (over ≡ Some l) ⊎ (has labels l ≡ false))

-- the next label is the lowest of them
pub asked_next : (labels asked rest : Mask) (over : Option ℕ) (i label : ℕ) → IsAskedFrom labels over asked i → label < 8 → IsTrue (has asked label) → ((l : ℕ) → l < label → has asked l ≡ false) →
    ((l : ℕ) → l < 8 → IsTrue (has rest l) → IsTrue (has asked l)) → ((l : ℕ) → l < 8 → has rest l ≡ false → (Some label ≡ Some l) ⊎ (has asked l ≡ false)) → ((l : ℕ) → l < 8 → Some label ≡ Some l → has rest l ≡ false) → IsAskedFrom labels over rest (label + 1)
asked_next labels asked rest over i label so_far few set lowest among others gone = (λ l h t. (later l h t, (so_far.0 l h (among l h t)).1), λ l h late unset. left l h late (others l h unset))
  where
    later : (l : ℕ) → l < 8 → IsTrue (has rest l) → label + 1 ≤ l
    later l h t = elim (cases_lt l label) [
      | inl b ↦ absurd (false≢true (sym (lowest l b) ∙ among l h t))
      | inr b ↦ elim (cases_eq l label) [
        | inl same ↦ absurd (false≢true (sym (gone l h (ap Some (sym same))) ∙ t))
        | inr apart ↦ omega (arith, b, apart)
      ]
    ]

    left : (l : ℕ) → l < 8 → label + 1 ≤ l → (Some label ≡ Some l) ⊎ (has asked l ≡ false) → (over ≡ Some l) ⊎ (has labels l ≡ false)
    left l h late (inl same) = absurd (let is : label ≡ l = some_same label l same in omega (arith, late, is))
    left l h late (inr unset) = so_far.1 l h (omega (arith, late, (so_far.0 label few set).0)) unset

module _ (app : PendingOf) (prepared : IsPrepared app) (e : ℕ) (embed : Embed) (at_embed : IsEmbedAt app.map.schema e embed) (from : Mark) (old marks : List Mark) where
  pub followed_some : (i : ℕ) → IsFollowedTo app embed from old marks i → IsFollowed app embed from old marks
  followed_some i followed result before d n unfolded there late spread = (followed result before d n unfolded there late spread).grown

  module _ (i : ℕ) (kept : StaysMarked old marks) (followed : IsFollowedTo app embed from old marks i) where
    pub followed_passes : type_of embed i ≡ false → IsFollowedTo app embed from old marks (i + 1)
    followed_passes none result before d n unfolded there late spread =
        spread_passes app prepared e embed at_embed result unfolded before marks from.instance d n i from (followed result before d n unfolded there late spread) late (kept n from there) none

    pub followed_returns : from.over ≡ Some i → IsFollowedTo app embed from old marks (i + 1)
    followed_returns over result before d n unfolded there late spread =
        spread_returns app prepared e embed at_embed result unfolded before marks from.instance d n i from (followed result before d n unfolded there late spread) late (kept n from there) over

    pub followed_follows : (after : List Mark) (to : At) → IsTrue (type_of embed i) → AreResultDarts app marks → HasDistinctKeys marks → IsResultDart app to → IsArcAfter (scene_in app) (name_of app from.at) i (name_of app to) → IsMarkedMore marks after to from.instance (Some i) → IsFollowedTo app embed from old after (i + 1)
    followed_follows after to t darts distinct dart arc more result before d n unfolded there late spread =
        let h : i ≤ app.map.schema.dim = label_within app prepared e embed at_embed result unfolded i t in
        let leads : result.alpha i (name_of app from.at) ≡ name_of app to = ((unfolded.arcs (name_of app from.at) i (name_of app to) h).1 arc).1 in
        spread_follows app prepared e embed at_embed result unfolded before marks from.instance d n i from (followed result before d n unfolded there late spread) late (kept n from there) after to t darts distinct dart (sym leads) more

  -- labels that are none of the type, or lead back, are passed
  followed_past : StaysMarked old marks → (n i : ℕ) → IsFollowedTo app embed from old marks i → ((l : ℕ) → i ≤ l → l < i + n → (from.over ≡ Some l) ⊎ (type_of embed l ≡ false)) → IsFollowedTo app embed from old marks (i + n)
  followed_past kept zero i followed passed = let end : i ≡ i + zero = omega arith in subst (λ j. IsFollowedTo app embed from old marks j) end followed
  followed_past kept (suc n) i followed passed = subst (λ j. IsFollowedTo app embed from old marks j) end (followed_past kept n (i + 1) (one (passed i (omega arith) (omega arith))) (λ l a b. passed l (omega (arith, a)) (omega (arith, b))))
    where
      end : i + 1 + n ≡ i + suc n
      end = omega arith

      one : (from.over ≡ Some i) ⊎ (type_of embed i ≡ false) → IsFollowedTo app embed from old marks (i + 1)
      one (inl over) = followed_returns i kept followed over
      one (inr none) = followed_passes i kept followed none

  pub followed_up_to : StaysMarked old marks → (asked : Mask) (i n : ℕ) → i ≤ n → n ≤ 8 → IsFollowedTo app embed from old marks i → IsAskedFrom embed.mask from.over asked i → ((l : ℕ) → l < n → has asked l ≡ false) → IsFollowedTo app embed from old marks n
  followed_up_to kept asked i n more few followed left none = subst (λ j. IsFollowedTo app embed from old marks j) end (followed_past kept (n - i) i followed (λ l a b. let h : l < n = omega (arith, b, more) in left.1 l (omega (arith, h, few)) a (none l h)))
    where
      end : i + (n - i) ≡ n
      end = omega (arith, more)

  pub followed_next : IsFollowedTo app embed from old marks (app.map.schema.dim + 1) → (result : Unfolded) (before : List Mark) (d n : ℕ) → IsUnfoldedIn app result → slice_get old n ≡ Some from → length before ≤ n → IsSpreadTo app embed result before old from.instance d n 0 → IsSpreadTo app embed result before marks from.instance d (n + 1) 0
  followed_next followed result before d n unfolded there late spread = spread_next app prepared e embed at_embed result unfolded before marks from.instance d n (followed result before d n unfolded there late spread)

-- ---- from one entry to the next

pub walked_cost : (dim n m old start before after : ℕ) → n + 1 ≤ m → before + (dim + 1) * old ≤ start + (dim + 1) * n → after ≤ before + (dim + 1) → after + (dim + 1) * old ≤ start + (dim + 1) * m
walked_cost dim n m old start before after h b c =
    let more : (dim + 1) * (n + 1) ≤ (dim + 1) * m = grind arith in
    let one : (dim + 1) * (n + 1) ≡ (dim + 1) * n + (dim + 1) = grind arith in
    omega (arith, more, one, b, c)

module _ (app : PendingOf) (prepared : IsPrepared app) (e : ℕ) (embed : Embed) (at_embed : IsEmbedAt app.map.schema e embed) (before marks after : List Mark) (k d n : ℕ) (from : Mark) (late : length before ≤ n) (there : slice_get marks n ≡ Some from) (result : Unfolded) (unfolded : IsUnfoldedIn app result) (spread : IsSpreadTo app embed result before marks k d n 0) where
  same : from.instance ≡ k
  same = (spread.grown.more n from late there).0

  pub walked_on : IsFollowedTo app embed from marks after (app.map.schema.dim + 1) → IsSpreadTo app embed result before after k d (n + 1) 0
  walked_on followed = subst (λ j. IsSpreadTo app embed result before after j d (n + 1) 0) same
      (followed_next app prepared e embed at_embed from marks after followed result before d n unfolded there late (subst (λ j. IsSpreadTo app embed result before marks j d n 0) (sym same) spread))

  pub walked_some : IsFollowed app embed from marks after → IsGrown app embed result before after k d
  walked_some followed = subst (λ j. IsGrown app embed result before after j d) same
      (followed result before d n unfolded there late (subst (λ j. IsSpreadTo app embed result before marks j d n 0) (sym same) spread))
