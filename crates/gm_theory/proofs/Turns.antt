-- Turning a position twice at one place gives it back, and turns at places with distant labels commute.
use Rattle.std.proofs.Common.{◌≡◌, ◌≢◌, ℕ, zero, suc, ◌<◌, ◌≤◌, List, [], ◌∷◌, length, ◌⊎◌, Option, Some, None, slice_get, refl, sym, ◌∙◌, ap, subst, inl, inr, arith}
use Rattle.std.specs.Option.{option_and_then, unwrap_or}
use Rattle.std.specs.Prelude.{slice_index}
use Rattle.gm_model.specs.declared.word.Letter.{Letter}
use Rattle.gm_model.specs.declared.word.Letter.TheVariants.{At, Gone}
use Rattle.gm_model.specs.declared.rule.Side.TheVariants.{Left}
use Rattle.gm_model.specs.declared.schema.Schema.{Schema}
use Rattle.gm_model.specs.Maps.{Map, IsDart, IsGeneralised, dimension}
use Rattle.gm_model.specs.Matches.{Placement, ArePositions, Created, Walked, IsFirstTurn, along_hook}
use Rattle.gm_model.specs.Orbits.{IsLeastStep, IsPairBefore}
use Rattle.gm_model.specs.Rules.{Rule, word_at, label_at, first_hook, hook_word, hook_label, width}
use Rattle.gm_model.specs.Squares.{IsApart}
use Rattle.gm_model.specs.Structure.{IsInRange, HasLabelsUpTo}
use Rattle.gm_model.specs.Unfolding.{scene_of}
use Rattle.gm_theory.proofs.Lists.{none_some}
use Rattle.gm_theory.proofs.Scenes.{HasLawfulTurns}
use Rattle.gm_theory.proofs.Walks.{same_place, contains_before, pair_order, walk_keeps}

-- ---- the labels of a hook's word

pub label_up_to : (n : ℕ) (word : List Letter) (m : ℕ) → HasLabelsUpTo n word → label_at word m ≤ n
label_up_to n [] m all = omega arith
label_up_to n (At i ∷ word) zero all = all.0 i refl
label_up_to n (Gone ∷ word) zero all = omega arith
label_up_to n (letter ∷ word) (suc m) all = label_up_to n word m all.1

pub hook_label_up_to : (schema : Schema) (rule : Rule) → IsInRange schema rule → (m : ℕ) → hook_label rule m ≤ schema.dim
hook_label_up_to schema rule range m = label_up_to schema.dim (hook_word rule) m (go (first_hook rule))
  where
    go : (hook : Option ℕ) → HasLabelsUpTo schema.dim (unwrap_or (option_and_then (word_at rule Left) hook) [])
    go None = tt
    go (Some h) = range.words Left h

-- a rule without hooks has no places
pub no_places : (rule : Rule) → rule.hooks ≡ [] → width rule ≡ 0
no_places rule e = rw e refl

-- ---- positions

-- there is one
pub some_position_walked : (map : Map) (rule : Rule) (hooks walk : List ℕ) (place : Placement) → ArePositions map rule place hooks walk → 0 < place.positions
some_position_walked map rule _ _ place (Created none one) = omega (arith, one)
some_position_walked map rule _ _ place (Walked d others walk live is_walk size turns) = subst (λ n. 0 < n) (sym size) (some walk d is_walk.starts)
  where
    some : (walk : List ℕ) (d : ℕ) → slice_get walk 0 ≡ Some d → 0 < length walk
    some [] d e = none_some d e
    some (x ∷ walk) d e = omega arith

-- where a rule has a hook, each position holds a live dart
pub positions_live : (map : Map) (rule : Rule) (place : Placement) (hooks walk : List ℕ) → IsGeneralised map → IsInRange map.schema rule → ArePositions map rule place hooks walk →
    (h : ℕ) → first_hook rule ≡ Some h → (p : ℕ) → p < place.positions → IsDart map (slice_index walk p)
positions_live map rule place _ _ old range (Created none one) h first p b = none_some h (rw none at first)
positions_live map rule place _ _ old range (Walked d others walk live walk_is size turns) h first p b =
    walk_keeps (along_hook map rule) (width rule) (IsDart map) d walk walk_is live (λ e m hm l. old.stays e (hook_label rule m) l (hook_label_up_to map.schema rule range m)) (suc p) p (omega arith) (rw size at b)

-- ---- turns

pub lawful_turns : (map : Map) (rule : Rule) (place : Placement) (hooks walk : List ℕ) (count : ℕ) → IsGeneralised map → IsInRange map.schema rule → ArePositions map rule place hooks walk →
    HasLawfulTurns (scene_of map rule place) count (width rule) (hook_label rule)
lawful_turns map rule place _ _ count old range (Created none one) = record {
  within = λ p m b h. absurd (let z : width rule ≡ 0 = no_places rule none in omega arith);
  twice = λ p m b h. absurd (let z : width rule ≡ 0 = no_places rule none in omega arith);
  commute = λ p m m' b h h' far. absurd (let z : width rule ≡ 0 = no_places rule none in omega arith);
}
lawful_turns map rule place _ _ count old range (Walked d others walk live walk_is size turns) = record { within = within; twice = twice; commute = commute }
  where
    label_le : (m : ℕ) → hook_label rule m ≤ dimension map
    label_le = hook_label_up_to map.schema rule range

    live_at : (p : ℕ) → p < length walk → IsDart map (slice_index walk p)
    live_at p b = walk_keeps (along_hook map rule) (width rule) (IsDart map) d walk walk_is live (λ e m h l. old.stays e (hook_label rule m) l (label_le m)) (suc p) p (omega arith) b

    within : (p m : ℕ) → p < place.positions → m < width rule → place.turn p m < place.positions
    within p m b h = rw size (turns p m (rw size at b) h).0

    -- where a position turns lies the neighbour
    lies : (p m : ℕ) → p < length walk → m < width rule → slice_index walk (place.turn p m) ≡ map.alpha (hook_label rule m) (slice_index walk p)
    lies p m b h = (turns p m b h).1

    there : (p m : ℕ) → p < length walk → m < width rule → place.turn p m < length walk
    there p m b h = (turns p m b h).0

    twice : (p m : ℕ) → p < place.positions → m < width rule → place.turn (place.turn p m) m ≡ p
    twice p m b h =
        let c : p < length walk = rw size at b in
        same_place walk (place.turn (place.turn p m) m) p walk_is.distinct (there (place.turn p m) m (there p m c h) h) c
        (lies (place.turn p m) m (there p m c h) h ∙ ap (map.alpha (hook_label rule m)) (lies p m c h) ∙ old.back (slice_index walk p) (hook_label rule m) (live_at p c) (label_le m))

    commute : (p m m' : ℕ) → p < place.positions → m < width rule → m' < width rule → IsApart (hook_label rule m) (hook_label rule m') → place.turn (place.turn p m) m' ≡ place.turn (place.turn p m') m
    commute p m m' b h h' far = same_place walk (place.turn (place.turn p m) m') (place.turn (place.turn p m') m) walk_is.distinct (there (place.turn p m) m' (there p m c h) h') (there (place.turn p m') m (there p m' c h') h)
        (two m m' h h' ∙ old_commutes far ∙ sym (two m' m h' h))
      where
        c : p < length walk
        c = rw size at b

        two : (k l : ℕ) → k < width rule → l < width rule → slice_index walk (place.turn (place.turn p k) l) ≡ map.alpha (hook_label rule l) (map.alpha (hook_label rule k) (slice_index walk p))
        two k l hk hl = lies (place.turn p k) l (there p k c hk) hl ∙ ap (map.alpha (hook_label rule l)) (lies p k c hk)

        old_commutes : IsApart (hook_label rule m) (hook_label rule m') → map.alpha (hook_label rule m') (map.alpha (hook_label rule m) (slice_index walk p)) ≡ map.alpha (hook_label rule m) (map.alpha (hook_label rule m') (slice_index walk p))
        old_commutes (inl far) = sym (old.commutes (slice_index walk p) (hook_label rule m) (hook_label rule m') (live_at p c) far (label_le m'))
        old_commutes (inr far) = old.commutes (slice_index walk p) (hook_label rule m') (hook_label rule m) (live_at p c) far (label_le m)

-- a later position is first turned to from an earlier one
pub first_turn : (map : Map) (rule : Rule) (place : Placement) (hooks walk : List ℕ) → ArePositions map rule place hooks walk → (p : ℕ) → 0 < p → p < place.positions → (q : ℕ) × (m : ℕ) × (q < p) × IsFirstTurn rule place p q m
first_turn map rule place _ _ (Created none one) p some b = absurd (omega (arith, one))
first_turn map rule place _ _ (Walked d others walk live walk_is size turns) p some b = go (walk_is.least p some within)
  where
    within : p < length walk
    within = rw size at b

    go : (q : ℕ) × (l : ℕ) × IsLeastStep (along_hook map rule) (width rule) walk p q l → (q : ℕ) × (m : ℕ) × (q < p) × IsFirstTurn rule place p q m
    go (q, l, s) = (q, l, s.earlier, record { position = omega (arith, s.earlier); within = s.place; turns = lands; first = first })
      where
        before : (q' l' : ℕ) → IsPairBefore q' l' q l → q' < length walk
        before q' l' (inl h) = omega (arith, s.earlier)
        before q' l' (inr (e, h)) = omega (arith, s.earlier)

        here : (place.turn q l < length walk) × (slice_index walk (place.turn q l) ≡ along_hook map rule (slice_index walk q) l)
        here = turns q l (omega (arith, s.earlier)) s.place

        lands : place.turn q l ≡ p
        lands = same_place walk (place.turn q l) p walk_is.distinct here.0 within (here.1 ∙ sym s.leads)

        first : (q' l' : ℕ) → IsPairBefore q' l' q l → l' < width rule → place.turn q' l' ≢ p
        first q' l' earlier low e = by (contains_before walk p (along_hook map rule (slice_index walk q') l') (s.least q' l' earlier low))
          where
            by : (k : ℕ) × (k < p) × (k < length walk) × (slice_index walk k ≡ along_hook map rule (slice_index walk q') l') → ⊥
            by (k, less, inside, same) = walk_is.distinct k p less within (same ∙ sym (turns q' l' (before q' l' earlier) low).1 ∙ ap (slice_index walk) e)

-- and by one pair
pub one_first_turn : (rule : Rule) (place : Placement) (p q m q' m' : ℕ) → IsFirstTurn rule place p q m → IsFirstTurn rule place p q' m' → (q ≡ q') × (m ≡ m')
one_first_turn rule place p q m q' m' a b = go (pair_order q m q' m')
  where
    go : ((q ≡ q') × (m ≡ m')) ⊎ (IsPairBefore q m q' m' ⊎ IsPairBefore q' m' q m) → (q ≡ q') × (m ≡ m')
    go (inl same) = same
    go (inr (inl before)) = absurd (b.first q m before a.within a.turns)
    go (inr (inr before)) = absurd (a.first q' m' before b.within b.turns)
