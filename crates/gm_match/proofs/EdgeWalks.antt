-- The walk along one label: a dart and its neighbour, or the dart alone.
use Rattle.std.proofs.Common.{◌≡◌, ◌≢◌, ℕ, zero, suc, ◌+◌, ◌*◌, ◌<◌, ◌≤◌, List, [], ◌∷◌, length, take, Some, refl, sym, ap, subst, ◌∙◌, inl, inr, arith}
use Rattle.std.proofs.lemmas.List.{length-take, length-take-le}
use Rattle.std.proofs.lemmas.List.Elements.{All-take}
use Rattle.std.proofs.lemmas.Option.{slice_get_within, get_or_from_slice_get}
use Rattle.std.specs.List.{Contains, slice_get}
use Rattle.std.specs.Prelude.{slice_index}
use Rattle.gm_model.specs.declared.word.Letter.{Letter}
use Rattle.gm_model.specs.declared.word.Letter.TheVariants.{At}
use Rattle.gm_model.specs.Orbits.{IsPairBefore, IsLeastStep, IsWalk}
use Rattle.gm_model.specs.Maps.{IsGeneralised}
use Rattle.gm_arena.specs.declared.slot.Slot.{Slot}
use Rattle.gm_arena.specs.inner.ArenaAsMap.{as_map}
use Rattle.gm_arena.specs.inner.ArenaMap.{ArenaMap, IsAt, IsLiveSlot, alpha, name_at}
use Rattle.gm_arena.specs.inner.Lawful.{IsLawful}
use Rattle.gm_arena.proofs.MapLemmas.{IsLiveName-name_at}
use Rattle.gm_walk.proofs.NameLemmas.{at_name, live_at}
use Rattle.gm_match.proofs.Stepping.{one_slot}
use Rattle.gm_walk.specs.inner.Cells.{AreCells}
use Rattle.gm_walk.specs.inner.Turns.{IsTurn}
use Rattle.gm_walk.specs.inner.Walks.{AreLive, IsLabelUpTo, IsWord, along, names_of}
use Rattle.gm_match.specs.inner.Layout.{ends, walk_of}

none_before : (q l : ℕ) → IsPairBefore q l 0 0 → ⊥
none_before q l (inl less) = omega (arith, less)
none_before q l (inr (same, less)) = omega (arith, less)

module _ (m : ArenaMap) (word : List Letter) (i : ℕ) (one : length word ≡ 1) (letter : slice_get word 0 ≡ Some (At i)) where
  along_is : (x : ℕ) → along m word x 0 ≡ alpha m i x
  along_is x = rw letter refl

  -- ---- the dart alone

  module _ (d : ℕ) (stays : alpha m i d ≡ d) where
    closed_one : (q l : ℕ) → q < 1 → l < length word → Contains (d ∷ []) (along m word (slice_index (d ∷ []) q) l)
    closed_one zero zero h k = (0, omega arith, sym (along_is d ∙ stays))
    closed_one zero (suc l) h k = absurd (omega (arith, k, one))
    closed_one (suc q) l h k = absurd (omega (arith, h))

    pub walk_one : IsWalk (along m word) (length word) d (d ∷ [])
    walk_one = record {
      starts = refl;
      distinct = λ p q less within. absurd (omega (arith, less, within));
      closed = λ q l before h k. closed_one q l h k;
      least = λ p some within. absurd (omega (arith, some, within));
    }

    each_one : (p x : ℕ) → p < 1 → x < length word → (v : ℕ) × (slice_get (0 ∷ []) (p * length word + x) ≡ Some v) × IsTurn m word (d ∷ []) p x v
    each_one zero zero h k = rw one (0, refl, record { within = omega arith; leads = sym (along_is d ∙ stays) })
    each_one zero (suc x) h k = absurd (omega (arith, k, one))
    each_one (suc p) x h k = absurd (omega (arith, h))

    pub turns_one : AreCells (IsTurn m word (d ∷ [])) 1 (length word) (0 ∷ [])
    turns_one = record { long = omega (arith, one); each = each_one }

  -- ---- the dart and its neighbour

  module _ (d e : ℕ) (apart : d ≢ e) (to : e ≡ alpha m i d) (back : alpha m i e ≡ d) where
    closed_two : (q l : ℕ) → q < 2 → l < length word → Contains (d ∷ e ∷ []) (along m word (slice_index (d ∷ e ∷ []) q) l)
    closed_two zero zero h k = (1, omega arith, to ∙ sym (along_is d))
    closed_two (suc zero) zero h k = (0, omega arith, sym (along_is e ∙ back))
    closed_two zero (suc l) h k = absurd (omega (arith, k, one))
    closed_two (suc zero) (suc l) h k = absurd (omega (arith, k, one))
    closed_two (suc (suc q)) l h k = absurd (omega (arith, h))

    distinct : (p q : ℕ) → p < q → q < 2 → slice_index (d ∷ e ∷ []) p ≢ slice_index (d ∷ e ∷ []) q
    distinct zero zero less within = absurd (omega (arith, less))
    distinct zero (suc zero) less within = apart
    distinct zero (suc (suc q)) less within = absurd (omega (arith, within))
    distinct (suc p) q less within = absurd (omega (arith, less, within))

    least : (p : ℕ) → 0 < p → p < 2 → (q : ℕ) × (l : ℕ) × IsLeastStep (along m word) (length word) (d ∷ e ∷ []) p q l
    least zero some within = absurd (omega (arith, some))
    least (suc zero) some within = (0, 0, record { earlier = omega arith; place = omega (arith, one); leads = to ∙ sym (along_is d); least = λ q l before low. absurd (none_before q l before) })
    least (suc (suc p)) some within = absurd (omega (arith, within))

    pub walk_two : IsWalk (along m word) (length word) d (d ∷ e ∷ [])
    walk_two = record { starts = refl; distinct = distinct; closed = λ q l before h k. closed_two q l h k; least = least }

    each_two : (p x : ℕ) → p < 2 → x < length word → (v : ℕ) × (slice_get (1 ∷ 0 ∷ []) (p * length word + x) ≡ Some v) × IsTurn m word (d ∷ e ∷ []) p x v
    each_two zero zero h k = rw one (1, refl, record { within = omega arith; leads = to ∙ sym (along_is d) })
    each_two (suc zero) zero h k = rw one (0, refl, record { within = omega arith; leads = sym (along_is e ∙ back) })
    each_two zero (suc x) h k = absurd (omega (arith, k, one))
    each_two (suc zero) (suc x) h k = absurd (omega (arith, k, one))
    each_two (suc (suc p)) x h k = absurd (omega (arith, h))

    pub turns_two : AreCells (IsTurn m word (d ∷ e ∷ [])) 2 (length word) (1 ∷ 0 ∷ [])
    turns_two = record { long = omega (arith, one); each = each_two }

-- ---- the slots

pub one_walk : (places : ℕ) → places ≡ 1 → (one walked : List Slot) → one ≡ walk_of places one walked
one_walk places e one walked = rw e refl

pub walk_made : (walk walked both : List Slot) (turns same : List ℕ) (places long : ℕ) → walk ≡ walk_of places (take (length same) both) walked → places ≡ long → same ≡ turns → walk ≡ walk_of long (take (length turns) both) walked
walk_made walk walked both turns same places long is has equal = is ∙ ap (λ n. walk_of n (take (length same) both) walked) has ∙ ap (λ xs. walk_of long (take (length xs) both) walked) equal

pub other_walk : (places : ℕ) → places ≢ 1 → (one walked : List Slot) → walked ≡ walk_of places one walked
other_walk zero e one walked = refl
other_walk (suc zero) e one walked = absurd (e refl)
other_walk (suc (suc places)) e one walked = refl

both_live : (m : ArenaMap) (from to : Slot) → IsLiveSlot m from.at → IsLiveSlot m to.at → AreLive m (from ∷ to ∷ [])
both_live m from to live live2 zero d h = live
both_live m from to live live2 (suc zero) d h = live2
both_live m from to live live2 (suc (suc k)) d h = absurd (omega (arith, h))

pub ends_live : (m : ArenaMap) (from to : Slot) (turns : List ℕ) → IsLiveSlot m from.at → IsLiveSlot m to.at → AreLive m (ends from to turns)
ends_live m from to turns live live2 = All-take (λ (s : Slot). IsLiveSlot m s.at) (length turns) (from ∷ to ∷ []) (both_live m from to live live2)

pub ends_long : (from to : Slot) (turns : List ℕ) → length turns ≤ 2 → length (ends from to turns) ≡ length turns
ends_long from to turns few = length-take-le (length turns) (from ∷ to ∷ []) few

pub few_ends : (from to : Slot) (turns : List ℕ) → length (ends from to turns) ≤ 2
few_ends from to turns = omega (arith, length-take (length turns) (from ∷ to ∷ []))

-- the dart is its own neighbour
module _ (m : ArenaMap) (word : List Letter) (i : ℕ) (one : length word ≡ 1) (letter : slice_get word 0 ≡ Some (At i)) (from to : Slot) (leads : IsAt m to.at (alpha m i (name_at m from.at))) (same : to ≡ from) where
  stays_there : alpha m i (name_at m from.at) ≡ name_at m from.at
  stays_there = sym (at_name m to.at _ leads) ∙ ap (λ (s : Slot). name_at m s.at) same

  pub alone_walk : (turns : List ℕ) → turns ≡ 0 ∷ [] → IsWalk (along m word) (length word) (name_at m from.at) (names_of m (ends from to turns))
  alone_walk turns are = rw are (walk_one m word i one letter (name_at m from.at) stays_there)

  pub alone_turns : (turns : List ℕ) → turns ≡ 0 ∷ [] → AreCells (IsTurn m word (names_of m (ends from to turns))) (length turns) (length word) turns
  alone_turns turns are = rw are (turns_one m word i one letter (name_at m from.at) stays_there)

-- it has another
module _ (m : ArenaMap) (lawful : IsLawful m) (generalised : IsGeneralised (as_map m)) (word : List Letter) (i : ℕ) (one : length word ≡ 1) (letter : slice_get word 0 ≡ Some (At i)) (low : i ≤ m.schema.dim) (from to : Slot) (live : IsLiveSlot m from.at) (leads : IsAt m to.at (alpha m i (name_at m from.at))) (differs : to ≡ from → ⊥) where
  to_is : name_at m to.at ≡ alpha m i (name_at m from.at)
  to_is = at_name m to.at _ leads

  back_is : alpha m i (name_at m to.at) ≡ name_at m from.at
  back_is = ap (alpha m i) to_is ∙ generalised.back (name_at m from.at) i (IsLiveName-name_at m from.at lawful live) low

  apart : name_at m from.at ≢ name_at m to.at
  apart same = differs (sym (one_slot m lawful from to live (live_at m to.at _ leads) same))

  pub edge_walk : (turns : List ℕ) → turns ≡ 1 ∷ 0 ∷ [] → IsWalk (along m word) (length word) (name_at m from.at) (names_of m (ends from to turns))
  edge_walk turns are = rw are (walk_two m word i one letter (name_at m from.at) (name_at m to.at) apart to_is back_is)

  pub edge_turns : (turns : List ℕ) → turns ≡ 1 ∷ 0 ∷ [] → AreCells (IsTurn m word (names_of m (ends from to turns))) (length turns) (length word) turns
  edge_turns turns are = rw are (turns_two m word i one letter (name_at m from.at) (name_at m to.at) apart to_is back_is)

-- a letter has one label
pub same_label : (i j : ℕ) → At i ≡ At j → i ≡ j
same_label i j e = cc

-- the label is one of the map's
pub only_label : (dim : ℕ) (word : List Letter) (i : ℕ) → IsWord dim word → slice_get word 0 ≡ Some (At i) → i ≤ dim
only_label dim word i is_word letter = subst (IsLabelUpTo dim) (get_or_from_slice_get word 0 (At i) (At i) letter) (is_word 0 (At i) (slice_get_within word 0 (At i) letter))

-- its steps are no more than those of the walk
pub edge_steps : (m : ArenaMap) (word : List Letter) (d : ℕ) (walk : List ℕ) → length word ≡ 1 → IsWalk (along m word) (length word) d walk → (start after : ℕ) → after ≤ start + 1 → after ≤ start + length walk * length word
edge_steps m word d walk one is start after cost = let some : 0 < length walk = slice_get_within walk 0 d is.starts in rw one (omega (arith, cost, some))
