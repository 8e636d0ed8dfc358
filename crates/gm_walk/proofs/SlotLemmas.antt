-- The slots that were seen, and the darts at them.
use Rattle.std.proofs.Common.{◌≡◌, ℕ, ◌+◌, ◌<◌, Bool, true, false, List, [], ◌∷◌, ◌++◌, cond, length, get_or, set, replicate, refl, sym, ap, subst, ◌∙◌, inl, inr, arith, get_or-set_same, get_or-set_other}
use Rattle.std.specs.List.{Contains}
use Rattle.std.specs.Prelude.{Some}
use Rattle.std.proofs.lemmas.Bool.{cases_eq, cases_lt, false≢true}
use Rattle.std.proofs.lemmas.List.{get_or-replicate, get_or_past, length-replicate, length_push}
use Rattle.std.proofs.lemmas.List.Elements.{Contains-append_left, Contains-push, Contains-push_cases}
use Rattle.std.proofs.lemmas.List.Folds.{sum_by-replicate}
use Rattle.std.proofs.lemmas.List.Sums.{sum_by-set}
use Rattle.gm_arena.specs.inner.ArenaMap.{ArenaMap, IsAt}
use Rattle.gm_arena.specs.inner.Lawful.{IsLawful}
use Rattle.gm_walk.specs.inner.Seen.{HasSeen, seen_count}
use Rattle.gm_walk.proofs.GrowLemmas.{distinct_push}

-- ---- how many

abbrev worth : Bool → ℕ
worth b = cond b 1 0

pub one_more_seen : (seen : List Bool) (slot : ℕ) → slot < length seen → get_or seen slot false ≡ false → seen_count (set seen slot true) ≡ seen_count seen + 1
one_more_seen seen slot within free =
    let one : seen_count (set seen slot true) + worth (get_or seen slot false) ≡ seen_count seen + 1 = sum_by-set (λ b. cond b 1 0) seen slot true false within in
    let was : worth (get_or seen slot false) ≡ 0 = ap worth free in
    omega arith

none_there : (n slot : ℕ) → get_or (replicate n false) slot false ≡ false
none_there n slot = elim (cases_lt slot n) [ inl l ↦ get_or-replicate n slot false false l | inr l ↦ get_or_past (replicate n false) slot false (omega (arith, length-replicate n false)) ]

-- ---- which

module _ (m : ArenaMap) where
  pub nothing_there : (n : ℕ) → HasSeen m (replicate n false) []
  nothing_there n = record {
    distinct = λ p q h k. absurd (omega arith);
    same = λ slot d at. ((λ yes. absurd (false≢true (sym (none_there n slot) ∙ yes))), (λ c. absurd (let k = c.1 in omega arith)));
    counted = sum_by-replicate (λ b. cond b 1 0) n false ∙ omega arith;
  }

  module _ (seen : List Bool) (darts : List ℕ) (s : HasSeen m seen darts) (slot d : ℕ) (at : IsAt m slot d) where
    pub unseen_lacks : get_or seen slot false ≡ false → Contains darts d → ⊥
    unseen_lacks free c = false≢true (sym free ∙ (s.same slot d at).1 c)

    pub lacked_unseen : (Contains darts d → ⊥) → get_or seen slot false ≡ false
    lacked_unseen lacks = go (get_or seen slot false) (λ yes. lacks ((s.same slot d at).0 yes))
      where
        go : (b : Bool) → (b ≡ true → ⊥) → b ≡ false
        go true never = absurd (never refl)
        go false never = refl

    -- one more slot is one more dart
    pub one_seen : IsLawful m → slot < length seen → get_or seen slot false ≡ false → HasSeen m (set seen slot true) (darts ++ d ∷ [])
    one_seen lawful within free = record {
      distinct = distinct_push darts d s.distinct (unseen_lacks free);
      same = λ other e there. elim (cases_eq other slot) [
        | inl same ↦
            let is : e ≡ d = (let both : Some e ≡ Some d = sym there ∙ subst (λ o. IsAt m o d) (sym same) at in cc) in
            ((λ yes. subst (Contains (darts ++ d ∷ [])) (sym is) (Contains-push darts d)), (λ c. subst (λ o. get_or (set seen slot true) o false ≡ true) (sym same) (get_or-set_same seen slot true false within)))
        | inr apart ↦
            let stays : get_or (set seen slot true) other false ≡ get_or seen other false = get_or-set_other seen slot other true false apart in (
              (λ yes. Contains-append_left darts (d ∷ []) e ((s.same other e there).0 (sym stays ∙ yes))),
              (λ c. elim (Contains-push_cases darts d e c) [
                | inl old ↦ stays ∙ (s.same other e there).1 old
                | inr is ↦ absurd (apart (lawful.one_slot slot other d at (subst (IsAt m other) (sym is) there)))
              ]),
            )
      ];
      counted = omega (arith, one_more_seen seen slot within free, s.counted, length_push darts d);
    }
