-- Counting the darts that have a property, over the names of the live darts.
use Rattle.std.proofs.Common.{◌≡◌, ℕ, ◌+◌, ◌<◌, ◌≤◌, ◌⊎◌, List, [], ◌∷◌, ◌++◌, Option, Some, None, length, get_or, refl, sym, ap, subst, ◌∙◌, inl, inr, arith}
use Rattle.std.specs.List.{Contains}
use Rattle.std.specs.Option.{MatchOption, IsSome, is_some}
use Rattle.std.specs.FinMap.{get, keys, entries, len-entries}
use Rattle.std.proofs.lemmas.Bool.{cases_lt, false≢true, some_since}
use Rattle.std.proofs.lemmas.List.{get_or_default, get_or_append_left, get_or_push, length_push, length-map}
use Rattle.std.proofs.lemmas.List.Elements.{Contains-append_left, Contains-push, Contains-push_cases}
use Rattle.std.proofs.lemmas.Option.{MatchOption-at_some}
use Rattle.gm_model.specs.Orbits.{HasCount, IsListOf}
use Rattle.gm_arena.specs.declared.slot.Slot.{Slot}
use Rattle.gm_arena.specs.inner.ArenaMap.{ArenaMap, IsAt, IsLiveName}
use Rattle.gm_arena.specs.inner.Lawful.{IsLawful}
use Rattle.gm_arena.proofs.Keys.{rising, named, live}

-- d has P and is one of the first names
pub record IsEarly (P : ℕ → Type 0) (names : List ℕ) (p d : ℕ) : Type 0 where
  pub has : P d
  pub place : ℕ
  pub before : place < p
  pub is : get_or names place 0 ≡ d

-- so many of the first names have P
abbrev pub CountedTo : (ℕ → Type 0) → List ℕ → ℕ → ℕ → Type 0
CountedTo P names p count = HasCount (IsEarly P names p) count

module _ (P : ℕ → Type 0) (m : ArenaMap) (names : List ℕ) (e : names ≡ keys m.darts) where
  pub rises : (p q : ℕ) → p < q → q < length names → get_or names p 0 < get_or names q 0
  rises = let R : List ℕ → Type 0 = λ ks. (p q : ℕ) → p < q → q < length ks → get_or ks p 0 < get_or ks q 0 in subst R (sym e) (rising m)

  pub is_live : (p d : ℕ) → p < length names → IsLiveName m (get_or names p d)
  is_live p d h = let R : List ℕ → Type 0 = λ ks. p < length ks → IsLiveName m (get_or ks p d) in subst R (sym e) (live m p d) h

  pub is_named : (d : ℕ) → IsLiveName m d → (p : ℕ) × (p < length names) × (get_or names p 0 ≡ d)
  is_named d one = let R : List ℕ → Type 0 = λ ks. (p : ℕ) × (p < length ks) × (get_or ks p 0 ≡ d) in subst R (sym e) (named m d one)

  pub has_slot : (p d : ℕ) (o : Option Slot) → p < length names → MatchOption o (get m.darts (get_or names p d) ≡ None) (λ (s : Slot). IsAt m s.at (get_or names p d)) → IsSome o
  has_slot p d o h told = some_since o (get m.darts (get_or names p d) ≡ None) (λ (s : Slot). IsAt m s.at (get_or names p d)) told (λ none. false≢true (sym (ap is_some none) ∙ is_live p d h))

  pub listed_none : IsListOf (IsEarly P names 0) []
  listed_none = record { distinct = λ p q h k. absurd (omega arith); same = λ d. ((λ c. absurd (let k = c.1 in omega arith)), (λ early. absurd (let k = early.before in omega arith))) }

  pub counted_none : CountedTo P names 0 0
  counted_none = ([], listed_none, refl)

  -- ---- the list of those among the first names

  module _ (p : ℕ) (within : p < length names) (list : List ℕ) (old : IsListOf (IsEarly P names p) list) where
    further : (d : ℕ) → IsEarly P names p d → IsEarly P names (p + 1) d
    further d early = record { has = early.has; place = early.place; before = (let k = early.before in omega arith); is = early.is }

    earlier : (d : ℕ) → IsEarly P names (p + 1) d → IsEarly P names p d ⊎ (P d × (get_or names p 0 ≡ d))
    earlier d early = elim (cases_lt early.place p) [
      | inl l ↦ inl (record { has = early.has; place = early.place; before = l; is = early.is })
      | inr l ↦ (let k = early.before in let same : early.place ≡ p = omega arith in inr (early.has, ap (λ q. get_or names q 0) (sym same) ∙ early.is))
    ]

    pub listed_no : (P (get_or names p 0) → ⊥) → IsListOf (IsEarly P names (p + 1)) list
    listed_no fails = record {
      distinct = old.distinct;
      same = λ d. ((λ c. further d ((old.same d).0 c)), (λ early. elim (earlier d early) [ inl k ↦ (old.same d).1 k | inr k ↦ absurd (fails (subst P (sym k.1) k.0)) ]));
    }

    pub less_than_next : (q : ℕ) → q < length list → get_or list q 0 < get_or names p 0
    less_than_next q h =
        let early : IsEarly P names p (get_or list q 0) = (old.same (get_or list q 0)).0 (q, h, get_or_default list q (get_or list q 0) 0 h) in
        let less = rises early.place p early.before within in
        omega (arith, less, early.is)

    pub listed_yes : P (get_or names p 0) → IsListOf (IsEarly P names (p + 1)) (list ++ get_or names p 0 ∷ [])
    listed_yes holds = record {
      distinct = λ q r h k same. elim (cases_lt r (length list)) [
        | inl l ↦ old.distinct q r h l (sym (get_or_append_left list (get_or names p 0 ∷ []) 0 q (omega arith)) ∙ same ∙ get_or_append_left list (get_or names p 0 ∷ []) 0 r l)
        | inr l ↦
            let end : length list ≡ r = omega (arith, length_push list (get_or names p 0)) in
            let less : q < length list = omega arith in
            let both : get_or list q 0 ≡ get_or names p 0 = sym (get_or_append_left list (get_or names p 0 ∷ []) 0 q less) ∙ same ∙ get_or_push list (get_or names p 0) 0 r end in
            let apart = less_than_next q less in
            absurd (omega (arith, both, apart))
      ];
      same = λ d. (
        (λ c. elim (Contains-push_cases list (get_or names p 0) d c) [
          | inl k ↦ further d ((old.same d).0 k)
          | inr k ↦ record { has = subst P k holds; place = p; before = omega arith; is = k }
        ]),
        (λ early. elim (earlier d early) [
          | inl k ↦ Contains-append_left list (get_or names p 0 ∷ []) d ((old.same d).1 k)
          | inr k ↦ subst (Contains (list ++ get_or names p 0 ∷ [])) k.1 (Contains-push list (get_or names p 0))
        ]),
      );
    }

  pub listed_all : (p : ℕ) (list : List ℕ) → length names ≤ p → ((d : ℕ) → P d → IsLiveName m d) → IsListOf (IsEarly P names p) list → IsListOf P list
  listed_all p list past lives old = record {
    distinct = old.distinct;
    same = λ d. (
      (λ c. let early = (old.same d).0 c in early.has),
      (λ holds. let at = is_named d (lives d holds) in (old.same d).1 (record { has = holds; place = at.0; before = omega (arith, at.1); is = at.2 })),
    );
  }

  -- ---- and how many they are

  module _ (p count : ℕ) (within : p < length names) (old : CountedTo P names p count) where
    pub counted_no : (P (get_or names p 0) → ⊥) → CountedTo P names (p + 1) count
    counted_no fails = (old.0, listed_no p within old.0 old.1 fails, old.2)

    pub counted_yes : P (get_or names p 0) → CountedTo P names (p + 1) (count + 1)
    counted_yes holds = (old.0 ++ get_or names p 0 ∷ [], listed_yes p within old.0 old.1 holds, length_push old.0 (get_or names p 0) ∙ ap (λ n. n + 1) old.2)

  pub counted_all : (p count : ℕ) → length names ≤ p → ((d : ℕ) → P d → IsLiveName m d) → CountedTo P names p count → HasCount P count
  counted_all p count past lives old = (old.0, listed_all p old.0 past lives old.1, old.2)

-- the same property, the same count
pub count_alike : (P Q : ℕ → Type 0) → ((d : ℕ) → P d → Q d) → ((d : ℕ) → Q d → P d) → (count : ℕ) → HasCount P count → HasCount Q count
count_alike P Q to from count old = (old.0, record { distinct = old.1.distinct; same = λ d. ((λ c. to d ((old.1.same d).0 c)), (λ q. (old.1.same d).1 (from d q))) }, old.2)

pub name_of_slot : (m : ArenaMap) (name : ℕ) (o : Option Slot) (slot : Slot) → MatchOption o (get m.darts name ≡ None) (λ (s : Slot). IsAt m s.at name) → o ≡ Some slot → IsAt m slot.at name
name_of_slot m name o slot told e = MatchOption-at_some (get m.darts name ≡ None) (λ (s : Slot). IsAt m s.at name) slot e told

-- the names are as many as the darts of the arena
pub names_counted : (m : ArenaMap) (names : List ℕ) → names ≡ keys m.darts → IsLawful m → length names ≡ m.count
names_counted m names e lawful = ap length e ∙ length-map (entries m.darts) (λ e. e.0) ∙ sym (len-entries m.darts) ∙ sym lawful.counted

pub few_names : (m : ArenaMap) (names : List ℕ) → names ≡ keys m.darts → IsLawful m → length names ≤ 1048576
few_names m names e lawful = omega (arith, names_counted m names e lawful, lawful.few_darts)
