-- The walk of slots as the walk of the names at them.
use Rattle.std.proofs.Common.{◌≡◌, ℕ, ◌+◌, ◌-◌, ◌*◌, ◌<◌, ◌≤◌, ◌⊎◌, ◌↔◌, inl, inr, Bool, false, IsTrue, List, [], ◌∷◌, ◌++◌, Option, Some, None, length, get_or, unwrap_or, slice_get, refl, sym, ap, subst, ◌∙◌, Fits, w64, arith}
use Rattle.std.specs.List.{Contains}
use Rattle.std.specs.Option.{IsSome, option_map}
use Rattle.std.specs.FinMap.{get}
use Rattle.std.proofs.lemmas.Bool.{cases_lt, false≢true}
use Rattle.std.proofs.lemmas.List.{length-map, length_push, map_push, get_or-map, get_or_append_left}
use Rattle.std.proofs.lemmas.List.Elements.{All-push}
use Rattle.std.proofs.lemmas.Option.{slice_get_within, get_or_from_slice_get}
use Rattle.gm_model.specs.declared.word.Letter.{Letter}
use Rattle.gm_model.specs.declared.word.Letter.TheVariants.{At}
use Rattle.gm_model.specs.Orbits.{IsWalkTo}
use Rattle.gm_model.specs.Rules.{label_of}
use Rattle.gm_arena.specs.declared.slot.Slot.{Slot}
use Rattle.gm_arena.specs.inner.ArenaMap.{ArenaMap, IsAt, IsLiveSlot, name_at, alpha}
use Rattle.gm_arena.specs.inner.Lawful.{IsLawful}
use Rattle.gm_arena.proofs.MapLemmas.{IsAt-name_at}
use Rattle.gm_walk.specs.inner.Room.{Room, TakesIn}
use Rattle.gm_walk.specs.inner.Room.TakesIn.{Known, Added}
use Rattle.gm_walk.specs.inner.Walks.{AreLive, IsWalkedTo, along, names_of}
use Rattle.gm_walk.proofs.MarkLemmas.{same_slot}
use Rattle.gm_walk.proofs.WalkLemmas.{begins, known, added}

-- the slot is the last that was walked, behind others, none of which it is
pub record IsNewLast (before : List Slot) (slot : Slot) (walked : List Slot) : Type 0 where
  pub lacks : Contains before slot → ⊥
  pub last : walked ≡ before ++ slot ∷ []

-- what the answer of taking a slot in says of it
module _ (old : Room) (slot : Slot) (new : Room) (answer : Bool) (takes : TakesIn old slot new) (says : IsTrue answer ↔ (Contains old.walked slot → ⊥)) where
  pub is_new : IsTrue answer → IsNewLast old.walked slot new.walked
  is_new told = go takes
    where
      go : TakesIn old slot new → IsNewLast old.walked slot new.walked
      go (Known c e) = absurd (says.0 told c)
      go (Added c e) = record { lacks = c; last = ap (λ (r : Room). r.walked) e }

  pub not_new : answer ≡ false → Contains old.walked slot × (new ≡ old)
  not_new denied = go takes
    where
      go : TakesIn old slot new → Contains old.walked slot × (new ≡ old)
      go (Known c e) = (c, e)
      go (Added c e) = absurd (false≢true (sym denied ∙ says.1 c))

-- a slot is new exactly where it is behind those that were walked
pub new_at_end : (old : Room) (slot : Slot) (new : Room) → TakesIn old slot new → (p : ℕ) → slice_get new.walked p ≡ Some slot → (p ≡ length old.walked) ↔ (Contains old.walked slot → ⊥)
new_at_end old slot new (Known c e) p at = let within = slice_get_within new.walked p slot at in ((λ end. absurd (omega (arith, end, within, ap (λ (r : Room). length r.walked) e))), (λ lacks. absurd (lacks c)))
new_at_end old slot new (Added c e) p at = ((λ end. c), (λ lacks. go (cases_lt p (length old.walked))))
  where
    same : new.walked ≡ old.walked ++ slot ∷ []
    same = ap (λ (r : Room). r.walked) e

    go : (p < length old.walked) ⊎ (length old.walked ≤ p) → p ≡ length old.walked
    go (inl less) = absurd (c (p, less, sym (get_or_append_left old.walked (slot ∷ []) slot p less) ∙ (ap (λ xs. get_or xs p slot) (sym same) ∙ get_or_from_slice_get new.walked p slot slot at)))
    go (inr past) = omega (arith, past, slice_get_within new.walked p slot at, ap length same, length_push old.walked slot)

module _ (m : ArenaMap) where
  pub name_there : (slots : List Slot) (p : ℕ) (d : Slot) → p < length slots → get_or (names_of m slots) p 0 ≡ name_at m (get_or slots p d).at
  name_there slots p d h = get_or-map (λ (s : Slot). name_at m s.at) slots p d 0 h

  pub at_name : (slot name : ℕ) → IsAt m slot name → name_at m slot ≡ name
  at_name slot name e = ap (λ o. unwrap_or o 0) e

  pub live_at : (slot name : ℕ) → IsAt m slot name → IsLiveSlot m slot
  live_at slot name e = rw e refl

  -- the neighbour along a letter is the neighbour at its place
  pub at_place : (word : List Letter) (l i slot d : ℕ) → slice_get word l ≡ Some (At i) → IsAt m slot (alpha m i d) → IsAt m slot (along m word d l)
  at_place word l i slot d e at = let P : ℕ → Type 0 = λ label. IsAt m slot (alpha m label d) in subst P (sym (ap (λ o. unwrap_or (option_map label_of o) 0) e)) at

  some_name : (slot : ℕ) → IsLiveSlot m slot → IsAt m slot (name_at m slot)
  some_name slot h = go (get m.slots slot) h
    where
      go : (o : Option ℕ) → IsSome o → o ≡ Some (unwrap_or o 0)
      go None h = absurd (cc)
      go (Some x) h = refl

  -- the name of a slot of the walk is a name of the walk
  pub names_contain : (slots : List Slot) (slot : Slot) → Contains slots slot → Contains (names_of m slots) (name_at m slot.at)
  names_contain slots slot (p, h, e) =
      (p, omega (arith, length-map slots (λ (s : Slot). name_at m s.at)), get_or-map (λ (s : Slot). name_at m s.at) slots p slot (name_at m slot.at) h ∙ ap (λ (s : Slot). name_at m s.at) e)

  -- and the name of another live slot is none
  pub names_lack : IsLawful m → (slots : List Slot) (slot : Slot) (name : ℕ) → AreLive m slots → IsAt m slot.at name → (Contains slots slot → ⊥) → Contains (names_of m slots) name → ⊥
  names_lack lawful slots slot name live at lacks (p, h, e) =
      let within : p < length slots = omega (arith, length-map slots (λ (s : Slot). name_at m s.at)) in
      let there = get_or slots p slot in
      let same : name_at m there.at ≡ name = sym (get_or-map (λ (s : Slot). name_at m s.at) slots p slot name within) ∙ e in
      let also : IsAt m there.at name = some_name there.at (live p slot within) ∙ ap Some same in
      lacks (p, within, same_slot there slot (lawful.one_slot slot.at there.at name at also))

  module _ (old : Room) (slot : Slot) (new : Room) (takes : TakesIn old slot new) where
    pub live_after : AreLive m old.walked → IsLiveSlot m slot.at → AreLive m new.walked
    live_after live here = go takes
      where
        go : TakesIn old slot new → AreLive m new.walked
        go (Known c e) = subst (λ (r : Room). AreLive m r.walked) (sym e) live
        go (Added c e) = subst (λ (r : Room). AreLive m r.walked) (sym e) (All-push (λ (s : Slot). IsLiveSlot m s.at) old.walked slot live here)

    pub longer_after : length old.walked ≤ length new.walked
    longer_after = go takes
      where
        go : TakesIn old slot new → length old.walked ≤ length new.walked
        go (Known c e) = omega (arith, ap (λ (r : Room). length r.walked) e)
        go (Added c e) = omega (arith, ap (λ (r : Room). length r.walked) e, length_push old.walked slot)

    pub same_after : (p : ℕ) (d : Slot) → p < length old.walked → get_or new.walked p d ≡ get_or old.walked p d
    same_after p d h = go takes
      where
        go : TakesIn old slot new → get_or new.walked p d ≡ get_or old.walked p d
        go (Known c e) = ap (λ (r : Room). get_or r.walked p d) e
        go (Added c e) = ap (λ (r : Room). get_or r.walked p d) e ∙ get_or_append_left old.walked (slot ∷ []) d p h

    pub bound_after : new.bound ≡ old.bound
    bound_after = go takes
      where
        go : TakesIn old slot new → new.bound ≡ old.bound
        go (Known c e) = ap (λ (r : Room). r.bound) e
        go (Added c e) = ap (λ (r : Room). r.bound) e

    -- the walk grows by the pair (q, l)
    pub walk_after : IsLawful m → (word : List Letter) (d q l : ℕ) (from : Slot) → AreLive m old.walked → q < length old.walked → get_or old.walked q from ≡ from → l < length word
        → IsAt m slot.at (along m word (name_at m from.at) l) → IsWalkTo (along m word) (length word) d q l (names_of m old.walked) → IsWalkTo (along m word) (length word) d q (l + 1) (names_of m new.walked)
    walk_after lawful word d q l from live within here place at w = go takes
      where
        there : get_or (names_of m old.walked) q 0 ≡ name_at m from.at
        there = name_there old.walked q from within ∙ ap (λ (s : Slot). name_at m s.at) here

        leads : name_at m slot.at ≡ along m word (get_or (names_of m old.walked) q 0) l
        leads = at_name slot.at _ at ∙ ap (λ a. along m word a l) (sym there)

        go : TakesIn old slot new → IsWalkTo (along m word) (length word) d q (l + 1) (names_of m new.walked)
        go (Known c e) = subst (λ (r : Room). IsWalkTo (along m word) (length word) d q (l + 1) (names_of m r.walked)) (sym e)
            (known (along m word) (length word) d q l (names_of m old.walked) w (subst (Contains (names_of m old.walked)) leads (names_contain old.walked slot c)))
        go (Added c e) = subst (λ (r : Room). IsWalkTo (along m word) (length word) d q (l + 1) (names_of m r.walked)) (sym e)
            (subst (IsWalkTo (along m word) (length word) d q (l + 1)) (sym (map_push (λ (s : Slot). name_at m s.at) old.walked slot))
            (added (along m word) (length word) d q l (names_of m old.walked) w
            (omega (arith, length-map old.walked (λ (s : Slot). name_at m s.at))) place (name_at m slot.at) leads
            (names_lack lawful old.walked slot (name_at m slot.at) live (subst (IsAt m slot.at) (sym (at_name slot.at _ at)) at) c)))

-- ---- the first slot of a walk

-- what a scratch that was cleared has once it took in the slot that a walk begins with
pub record HasBegun (m : ArenaMap) (before : Room) (slot : Slot) (new : Room) : Type 0 where
  pub live : AreLive m new.walked
  pub walk : (word : List Letter) → IsWalkedTo m word (name_at m slot.at) 0 new.walked
  pub bound : new.bound ≡ before.bound
  pub within : 0 ≤ length new.walked

pub has_begun : (m : ArenaMap) (before old : Room) (slot : Slot) (new : Room) → old ≡ record before { walked = [] } → TakesIn old slot new → IsLiveSlot m slot.at → HasBegun m before slot new
has_begun m before old slot new cleared takes here =
    let none : old.walked ≡ [] = ap (λ (r : Room). r.walked) cleared in
    let alone = one_walked none takes in
    record {
      live = live_after m old slot new takes (subst (AreLive m) (sym none) (λ k d h. absurd (omega (arith, h)))) here;
      walk = λ word. subst (λ slots. IsWalkedTo m word (name_at m slot.at) 0 slots) (sym alone) (begins (along m word) (length word) (name_at m slot.at));
      bound = bound_after m old slot new takes ∙ ap (λ (r : Room). r.bound) cleared;
      within = omega arith;
    }
  where
    one_walked : old.walked ≡ [] → TakesIn old slot new → new.walked ≡ slot ∷ []
    one_walked none (Known c e) = absurd (lacks (subst (λ slots. Contains slots slot) none c))
      where
        lacks : Contains [] slot → ⊥
        lacks c = omega (arith, c.1)
    one_walked none (Added c e) = ap (λ (r : Room). r.walked) e ∙ ap (λ slots. slots ++ slot ∷ []) none

-- ---- the places of a walk

pub next_fits : (place walked : ℕ) → place < walked → walked ≤ 4294967295 → Fits w64 (place + 1)
next_fits place walked within most = omega arith

pub next_within : (place walked longer : ℕ) → place < walked → walked ≤ longer → place + 1 ≤ longer
next_within place walked longer within more = omega arith

-- the steps for one place more
pub next_steps : (start before after place width : ℕ) → before ≤ start + place * width → after ≤ before + width → after ≤ start + (place + 1) * width
next_steps start before after place width was more = omega arith

pub next_steps_each : (k start before after place : ℕ) → before ≤ start + k * place → after ≤ before + k → after ≤ start + k * (place + 1)
next_steps_each k start before after place was more = omega arith

-- the places that are left of those that there can be
pub place_falls : (place walked before after : ℕ) → place < walked → walked ≤ before → after ≡ before → after - (place + 1) < before - place
place_falls place walked before after within few same = omega arith

-- a live slot is below the bound
pub live_below : (m : ArenaMap) (slot : ℕ) → IsLawful m → IsLiveSlot m slot → slot < m.bound
live_below m slot lawful here = lawful.below_bound slot _ (IsAt-name_at m slot here)

pub none_past : (m : ArenaMap) (slot end : ℕ) → IsLawful m → IsLiveSlot m slot → end ≡ m.bound → end ≤ slot → ⊥
none_past m slot end lawful here same past = let below = live_below m slot lawful here in omega arith
