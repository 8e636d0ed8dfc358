-- Slots that are taken in one after another.
use Rattle.std.proofs.Common.{◌≡◌, ◌≢◌, ℕ, ◌+◌, ◌*◌, ◌<◌, ◌≤◌, ◌⊎◌, List, [], ◌∷◌, ◌++◌, length, sym, ap, ◌∙◌, subst, inl, inr, arith}
use Rattle.std.specs.List.{Contains}
use Rattle.std.proofs.lemmas.List.{length_push}
use Rattle.std.proofs.lemmas.List.Elements.{Contains-append_left, Contains-push, Contains-push_cases}
use Rattle.gm_arena.specs.declared.slot.Slot.{Slot}
use Rattle.gm_arena.specs.inner.ArenaMap.{ArenaMap, IsLiveSlot}
use Rattle.gm_arena.specs.inner.Lawful.{IsLawful}
use Rattle.gm_arena.proofs.MapLemmas.{IsAt-name_at}
use Rattle.gm_walk.specs.inner.Room.{Room, TakesIn, Known, Added}
use Rattle.gm_commit.specs.declared.changes.ValueAt.{ValueAt}
use Rattle.gm_commit.specs.inner.EditLists.{EditLists, AreDistinct, AreEditsHere, AreEditsOf, IsReachedSumIn, IsTouchedBy, Matched, Valued}
use Rattle.gm_commit.specs.inner.OwnEdits.{AreTouched}
use Rattle.gm_pending.specs.inner.Results.{PendingOf, rule_in}
use Rattle.gm_commit.specs.inner.TouchedSlots.{AreTaken, IsSetAmong}
use Rattle.gm_commit.proofs.ListMembers.{contains_first, contains_later, contains_none}

pub none_taken : AreTaken [] [] []
none_taken = record {
  from = λ slot among. absurd (contains_none slot among);
  all = λ slot among. absurd (contains_none slot among);
  set = λ slot set. absurd (contains_none set.0 set.1);
  distinct = tt;
  few = omega arith;
}

-- where no value is set, the slots are taken in as they stand
pub none_valued : (values : List ValueAt) (slots : List Slot) → length values ≡ 0 → AreDistinct slots → AreTaken slots values slots
none_valued [] slots none distinct = record {
  from = λ slot among. inl among;
  all = λ slot among. among;
  set = λ slot set. absurd (contains_none set.0 set.1);
  distinct = distinct;
  few = omega arith;
}
none_valued (at ∷ values) slots none distinct = absurd (omega (arith, none))

distinct_push : (slots : List Slot) (slot : Slot) → AreDistinct slots → (Contains slots slot → ⊥) → AreDistinct (slots ++ slot ∷ [])
distinct_push [] slot distinct new = (λ other among. absurd (contains_none other among), tt)
distinct_push (first ∷ slots) slot distinct new = (apart, distinct_push slots slot distinct.1 (λ among. new (contains_later first slots slot among)))
  where
    apart : (other : Slot) → Contains (slots ++ slot ∷ []) other → other.at ≢ first.at
    apart other among e = elim (Contains-push_cases slots slot other among) [
      | inl earlier ↦ distinct.0 other earlier e
      | inr is ↦ new (subst (λ (s : Slot). Contains (first ∷ slots) s) (same first slot (sym e ∙ ap (λ (s : Slot). s.at) (sym is))) (contains_first first slots))
    ]
      where
        same : (s t : Slot) → s.at ≡ t.at → s ≡ t
        same s t e = λ i. record { at = e i }

module _ (slots : List Slot) (values : List ValueAt) (old new : Room) where
  pub take_slot : (slot : Slot) → AreTaken slots values old.walked → TakesIn old slot new → AreTaken (slots ++ slot ∷ []) values new.walked
  take_slot slot taken (Known known same) = rw same (record {
    from = λ s among. elim (taken.from s among) [ inl a ↦ inl (Contains-append_left slots (slot ∷ []) s a) | inr b ↦ inr b ];
    all = λ s among. elim (Contains-push_cases slots slot s among) [ inl a ↦ taken.all s a | inr e ↦ subst (Contains old.walked) e known ];
    set = taken.set;
    distinct = taken.distinct;
    few = omega (arith, taken.few, length_push slots slot);
  })
  take_slot slot taken (Added none grown) = rw grown (record {
    from = λ s among. elim (Contains-push_cases old.walked slot s among) [
      | inl a ↦ elim (taken.from s a) [ inl b ↦ inl (Contains-append_left slots (slot ∷ []) s b) | inr b ↦ inr b ]
      | inr e ↦ inl (subst (Contains (slots ++ slot ∷ [])) e (Contains-push slots slot))
    ];
    all = λ s among. elim (Contains-push_cases slots slot s among) [
      | inl a ↦ Contains-append_left old.walked (slot ∷ []) s (taken.all s a)
      | inr e ↦ subst (Contains (old.walked ++ slot ∷ [])) e (Contains-push old.walked slot)
    ];
    set = λ s set. Contains-append_left old.walked (slot ∷ []) s (taken.set s set);
    distinct = distinct_push old.walked slot taken.distinct none;
    few = omega (arith, taken.few, length_push slots slot, length_push old.walked slot);
  })

  set_cases : (at : ValueAt) (s : Slot) → IsSetAmong (values ++ at ∷ []) s → IsSetAmong values s ⊎ (at.slot ≡ s)
  set_cases at s (v, among, e) = elim (Contains-push_cases values at v among) [
    | inl a ↦ inl (v, a, e)
    | inr is ↦ inr (ap (λ (w : ValueAt). w.slot) is ∙ e)
  ]

  set_before : (at : ValueAt) (s : Slot) → IsSetAmong values s → IsSetAmong (values ++ at ∷ []) s
  set_before at s (v, among, e) = (v, Contains-append_left values (at ∷ []) v among, e)

  pub take_value : (at : ValueAt) → AreTaken slots values old.walked → TakesIn old at.slot new → AreTaken slots (values ++ at ∷ []) new.walked
  take_value at taken (Known known same) = rw same (record {
    from = λ s among. elim (taken.from s among) [ inl a ↦ inl a | inr b ↦ inr (set_before at s b) ];
    all = taken.all;
    set = λ s set. elim (set_cases at s set) [ inl a ↦ taken.set s a | inr e ↦ subst (Contains old.walked) e known ];
    distinct = taken.distinct;
    few = omega (arith, taken.few, length_push values at);
  })
  take_value at taken (Added none grown) = rw grown (record {
    from = λ s among. elim (Contains-push_cases old.walked at.slot s among) [
      | inl a ↦ elim (taken.from s a) [ inl b ↦ inl b | inr b ↦ inr (set_before at s b) ]
      | inr e ↦ inr (at, Contains-push values at, e)
    ];
    all = λ s among. Contains-append_left old.walked (at.slot ∷ []) s (taken.all s among);
    set = λ s set. elim (set_cases at s set) [
      | inl a ↦ Contains-append_left old.walked (at.slot ∷ []) s (taken.set s a)
      | inr e ↦ subst (Contains (old.walked ++ at.slot ∷ [])) e (Contains-push old.walked at.slot)
    ];
    distinct = distinct_push old.walked at.slot taken.distinct none;
    few = omega (arith, taken.few, length_push values at, length_push old.walked at.slot);
  })

-- and the room stays
pub same_bound : (old new : Room) (slot : Slot) → TakesIn old slot new → new.bound ≡ old.bound
same_bound old new slot (Known known same) = ap (λ (r : Room). r.bound) same
same_bound old new slot (Added none grown) = ap (λ (r : Room). r.bound) grown

-- the same of equal lists
pub same_taken : (slots slots' taken taken' : List Slot) (values values' : List ValueAt) → slots ≡ slots' → values ≡ values' → taken' ≡ taken → AreTaken slots values taken → AreTaken slots' values' taken'
same_taken slots slots' taken taken' values values' s v t are = subst (λ a. AreTaken a values' taken') s (subst (λ b. AreTaken slots b taken') v (subst (AreTaken slots values) (sym t) are))

-- ---- what edits touch

module _ (m : ArenaMap) (edits : EditLists) (here : AreEditsHere m edits) where
  live_there : (slot : ℕ) → IsLiveSlot here.0.map slot → IsLiveSlot m slot
  live_there slot live = subst (λ (n : ArenaMap). IsLiveSlot n slot) (sym here.1) live

  pub matched_live : (slot : Slot) → Contains edits.matched slot → IsLiveSlot m slot.at
  matched_live slot among = live_there slot.at (here.2.matched.live slot among)

  pub valued_live : (at : ValueAt) → Contains edits.values at → IsLiveSlot m at.slot.at
  valued_live at among = live_there at.slot.at (here.2.values.new at among).stays.0

  pub are_touched : (taken : List Slot) → AreTaken edits.matched edits.values taken → AreTouched m edits taken
  are_touched taken are = record {
    live = λ slot among. elim (are.from slot among) [
      | inl a ↦ matched_live slot a
      | inr (at, b, e) ↦ subst (λ (s : Slot). IsLiveSlot m s.at) e (valued_live at b)
    ];
    distinct = are.distinct;
    all = λ slot touched. go slot touched;
  }
    where
      go : (slot : Slot) → IsTouchedBy edits slot → Contains taken slot
      go slot (Matched among) = are.all slot among
      go slot (Valued at among e) = are.set slot (at, among, e)

-- a live slot has room in a scratch that fits
pub within : (m : ArenaMap) (bound slot : ℕ) → IsLawful m → m.bound ≤ bound → IsLiveSlot m slot → slot < bound
within m bound slot lawful fits live = omega (arith, fits, lawful.below_bound slot _ (IsAt-name_at m slot live))

pub few_touched : (app : PendingOf) (edits : EditLists) (taken : List Slot) (reached : ℕ) → AreTaken edits.matched edits.values taken → AreEditsOf app edits → IsReachedSumIn app reached → length taken ≤ length (rule_in app).nodes * app.placed.positions + reached
few_touched app edits taken reached are ok sum = omega (arith, are.few, ok.matched.few, ok.values.few reached sum)
