-- Outcomes of applications, worked out.
use Rattle.std.proofs.Common.{◌≡◌, ℕ, codes, zero, suc, ◌+◌, ◌-◌, ◌<◌, ◌≤◌, false, true, ◌↔◌, pos, IsTrue, List, [], ◌∷◌, length, Contains, Some, slice_get, slice_index, refl, sym, ◌∙◌, ap, subst, inl, inr, arith}
use Rattle.std.proofs.lemmas.Bool.{eqb-true, eq-eqb, ltb-true, lt-ltb}
use Rattle.std.proofs.lemmas.Grind.{get_or_default_zero}
use Rattle.std.proofs.lemmas.Int.{ints}
use Rattle.gm_model.specs.declared.rule.Side.TheVariants.{Left, Right}
use Rattle.gm_model.specs.declared.value.Kind.TheVariants as kinds
use Rattle.gm_model.specs.declared.value.Value.TheVariants as values
use Rattle.gm_model.specs.Applications.{MeetsSteps, IsStaying, IsRepeat, IsStepBefore, IsRefused, reading_at, NoDart, Arc, Same, PreNoValue, PreFalse, FullDarts, FullNames, NoHookDart, BrokenStep, Repeated, ValuelessPre, FalsePre, NoRoom, NoNames}
use Rattle.gm_model.specs.Expressions.{Reading, HasNoValue}
use Rattle.gm_model.specs.Kinds.{AreGoodParams}
use Rattle.gm_model.specs.Maps.{Map, IsDart, IsMap, IsSchema, IsWellEmbedded}
use Rattle.gm_model.specs.Matches.{Placement, ArePositions, Walked, IsMatch, IsCandidate, IsForced, IsPathTo, IsInstance, IsMetAt, Created}
use Rattle.gm_model.specs.Orbits.{HasCount, IsPairBefore, IsWalk, follow}
use Rattle.gm_model.specs.Rules.{Rule, has_word, step}
use Rattle.gm_model.specs.Structure.{IsInRange}
use Rattle.gm_model.specs.Trees.{Tree, Number, Truth}
use Rattle.gm_model.specs.Unfolding.{scene_of, IsGone}
use Rattle.gm_model.specs.Values.{IsInValueRange}
use Rattle.gm_theory.proofs.ExamplesChecks.{each_below, each}
use Rattle.gm_theory.proofs.ExamplesMatches.{match_shown, candidate_shown, walk_shown, met_test, met_shown}
use Rattle.gm_theory.proofs.Lists.{some_same, none_some}
use Rattle.gm_theory.proofs.RuleSteps.{word_below}
use Rattle.gm_theory.proofs.Tests.{both_true, not_both}
use Rattle.gm_theory.proofs.ValuesUnique.{number_made}
use Rattle.gm_theory.proofs.Walks.{walk_unique}
use Rattle.gm_theory.specs.inner.Examples.{planar, four_triangles, square, square_walk, triangulation, edge, on_edge, merging, point, points_of_vertices}
use Rattle.gm_theory.specs.inner.ExamplesOutcomes.{drop, drop_at, on_triangle, triangle_walk, lone, merging_alone, on_lone, split_if, valueless, pair, created, late, crowded, pair_on, torn, overdue, misnamed, astray, setting, outsized, too_great}

-- ---- where the only left node of a rule is its hook, the candidate

module _ (rule : Rule) (only : rule.hooks ≡ 0 ∷ []) (alone : (x : ℕ) → IsTrue (has_word rule Left x) → x ≡ 0) where
  only_hook : (t h : ℕ) → slice_get rule.hooks t ≡ Some h → 0 ≡ h
  only_hook t h at = go t (rw only at at)
    where
      go : (t : ℕ) → slice_get (0 ∷ []) t ≡ Some h → 0 ≡ h
      go zero e = some_same 0 h e
      go (suc t) e = none_some h e

  no_path : (hook : ℕ) (path : List ℕ) → IsPathTo rule 0 hook path → path ≡ []
  no_path hook [] to = refl
  no_path hook (i ∷ path) to = absurd (to.least 0 0 [] (rw only refl) refl (inl tt))

  pub forced_alone : (map : Map) (place : Placement) → IsForced map rule place
  forced_alone map place x p hook path at to =
      let zero_x : x ≡ 0 = alone x at.0 in
      let empty : path ≡ [] = no_path hook path (subst (λ y. IsPathTo rule y hook path) zero_x to) in
      ap (λ y. place.dart_of y p) (zero_x ∙ only_hook to.index hook to.hook_at) ∙ ap (λ q. follow map.alpha q (place.dart_of hook p)) (sym empty)

-- the one hook is live
pub one_live : (map : Map) (d : ℕ) → IsDart map d → (c : ℕ) → Contains (d ∷ []) c → IsDart map c
one_live map d live c (zero, b, e) = subst (IsDart map) e live
one_live map d live c (suc k, b, e) = absurd (omega arith)

-- ---- refusals before the precondition

pub no_dart : IsRefused (drop_at 99) (NoDart 0)
no_dart = NoHookDart 0 99 refl (λ h. not_both false h refl) (λ k e h. absurd (omega arith))

only_drop : (x : ℕ) → IsTrue (has_word drop Left x) → x ≡ 0
only_drop x w = let b : x < 1 = word_below drop Left x w in omega arith

drop_candidate : IsCandidate four_triangles drop (0 ∷ []) on_triangle
drop_candidate = candidate_shown four_triangles drop on_triangle 0 triangle_walk refl refl refl refl (forced_alone drop refl only_drop four_triangles on_triangle)

-- at its first two positions the triangle has no neighbour, at the third it has one
pub broken_step : IsRefused (drop_at 0) (Arc 0 2 2)
broken_step = BrokenStep on_triangle 0 2 2 (one_live four_triangles 0 refl) drop_candidate record { instance = (refl, omega arith); label = omega arith; broken = λ m. let e : Path ℕ 10 8 = m.0 in omega arith; before = before }
  where
    met : (q j : ℕ) → IsTrue (met_test four_triangles drop on_triangle 0 q j (step drop Left 0 j)) → IsMetAt four_triangles drop on_triangle 0 q j
    met q j t = met_shown four_triangles drop on_triangle 0 q j (step drop Left 0 j) t

    front : (q j : ℕ) → q < 2 → j < 3 → IsMetAt four_triangles drop on_triangle 0 q j
    front q j b c = met q j (each 3 (λ j. met_test four_triangles drop on_triangle 0 q j (step drop Left 0 j)) (each 2 (λ q. each_below 3 (λ j. met_test four_triangles drop on_triangle 0 q j (step drop Left 0 j))) refl q b) j c)

    before : (y q j : ℕ) → IsStepBefore (drop_at 0) on_triangle y q j 0 2 2 → IsInstance drop on_triangle y q → j ≤ 2 → IsMetAt four_triangles drop on_triangle y q j
    before y q j (inl (inl h)) at c = absurd (omega arith)
    before y q j (inl (inr (e, h))) at c = subst (λ x. IsMetAt four_triangles drop on_triangle x q j) (sym e) (front q j h (omega arith))
    before y q j (inr (e, f, h)) at c = subst (λ x. IsMetAt four_triangles drop on_triangle x q j) (sym e) (subst (λ p. IsMetAt four_triangles drop on_triangle 0 p j) (sym f) (met 2 j (each 2 (λ j. met_test four_triangles drop on_triangle 0 2 j (step drop Left 0 j)) refl j h)))

-- the free ends of the one edge are one dart
pub repeated : IsRefused merging_alone (Same 0 0 1 0)
repeated = Repeated on_lone 0 0 1 0 (one_live lone 0 refl) candidate meets record { here = record { first = (refl, omega arith); second = (refl, omega arith); later = inl (omega arith); same = refl }; before = before }
  where
    loop : (i : ℕ) → lone.alpha i 0 ≡ 0
    loop zero = refl
    loop (suc zero) = refl
    loop (suc (suc i)) = refl

    loops : (path : List ℕ) (c : ℕ) → c ≡ 0 → follow lone.alpha path c ≡ 0
    loops [] c e = e
    loops (i ∷ path) c e = loops path (lone.alpha i c) (ap (lone.alpha i) e ∙ loop i)

    candidate : IsCandidate lone merging (0 ∷ []) on_lone
    candidate = candidate_shown lone merging on_lone 0 (0 ∷ []) refl refl refl refl (λ x p hook path at to. sym (loops path (on_lone.dart_of hook p) refl))

    meets : MeetsSteps merging_alone on_lone
    meets x p i at h = met_shown lone merging on_lone x p i (step merging Left x i) (each 2 (λ j. met_test lone merging on_lone x p j (step merging Left x j)) (each 1 (λ q. each_below 2 (λ j. met_test lone merging on_lone x q j (step merging Left x j))) (each 2 (λ y. each_below 1 (λ q. each_below 2 (λ j. met_test lone merging on_lone y q j (step merging Left y j)))) refl x (word_below merging Left x at.0)) p at.1) i (omega arith))

    before : (x p y q : ℕ) → IsPairBefore y q 1 0 → IsRepeat merging_alone on_lone x p y q → ⊥
    before x p y q (inl h) r = go r.later
      where
        go : IsPairBefore x p y q → ⊥
        go (inl k) = omega arith
        go (inr (e, k)) = let b : q < 1 = r.second.1 in omega arith
    before x p y q (inr (e, h)) r = omega arith

-- ---- preconditions

split_match : (tree : Tree) → IsMatch edge (split_if tree).rule (0 ∷ []) on_edge
split_match tree = match_shown edge (split_if tree).rule on_edge 0 (0 ∷ 1 ∷ []) refl refl refl refl

pub false_pre : IsRefused (split_if (Truth false)) PreFalse
false_pre = FalsePre on_edge (Truth false) (split_match (Truth false)) refl refl

pub valueless_pre : IsRefused (split_if valueless) PreNoValue
valueless_pre = ValuelessPre on_edge valueless (split_match valueless) refl none
  where
    none : HasNoValue (reading_at (split_if valueless) on_edge 0) valueless
    none v (x, y, (a, b, one, zero_b, (z, e, nonzero, made)), second, same) = nonzero (let f : values.Int z ≡ values.Int (pos 0) = sym e ∙ number_made (pos 0) b zero_b in cc)

-- ---- room

no_left : (x : ℕ) → IsTrue (has_word pair Left x) → ⊥
no_left zero w = not_both false w refl
no_left (suc zero) w = not_both false w refl
no_left (suc (suc x)) w = not_both false w refl

pair_match : (map : Map) → IsMatch map pair [] created
pair_match map = record {
  count = refl;
  walk = [];
  positions = Created refl refl;
  hooked = λ h p first b. none_some h first;
  at_darts = λ t h d at named. none_some h at;
  embedded = record { live = λ x p at. absurd (no_left x at.0); injective = λ x p y q at at' e. absurd (no_left x at.0); steps = λ x p i at h. absurd (no_left x at.0) };
}

none_gone : (map : Map) (d : ℕ) → IsGone (scene_of map pair created) d → ⊥
none_gone map d (x, p, g, b, e) = no_left x (both_true _ _ g).0

-- the numbers below n, the greatest first
numbers : ℕ → List ℕ
numbers zero = []
numbers (suc n) = n ∷ numbers n

count_numbers : (n : ℕ) → length (numbers n) ≡ n
unfolding numbers
count_numbers zero = refl
count_numbers (suc n) = ap suc (count_numbers n)

at_place : (n k : ℕ) → k < n → slice_index (numbers n) k + k + 1 ≡ n
unfolding numbers
at_place zero k b = absurd (omega arith)
at_place (suc n) zero b = omega arith
at_place (suc n) (suc k) b = let rest : slice_index (numbers n) k + k + 1 ≡ n = at_place n k (omega arith) in omega arith

pub numbers_listed : (P : ℕ → Type 0) (n : ℕ) → ((d : ℕ) → P d ↔ (d < n)) → HasCount P n
numbers_listed P n below = (
  numbers n,
  record {
    distinct = λ p q b c e. absurd (let first : slice_index (numbers n) p + p + 1 ≡ n = at_place n p (omega (arith, count_numbers n)) in let second : slice_index (numbers n) q + q + 1 ≡ n = at_place n q (omega (arith, count_numbers n)) in omega arith);
    same = λ d. (
      (λ c. (below d).1 (let there : slice_index (numbers n) c.0 + c.0 + 1 ≡ n = at_place n c.0 (omega (arith, count_numbers n, c.1)) in let same : slice_index (numbers n) c.0 ≡ d = sym (get_or_default_zero (numbers n) c.0 d c.1) ∙ c.2 in omega arith)),
      (λ p. let h : d < n = (below d).0 p in let k : (n - 1 - d) < length (numbers n) = omega (arith, count_numbers n) in (n - 1 - d, k, get_or_default_zero (numbers n) (n - 1 - d) d k ∙ (let there : slice_index (numbers n) (n - 1 - d) + (n - 1 - d) + 1 ≡ n = at_place n (n - 1 - d) (omega arith) in omega arith))),
    );
  },
  count_numbers n,
)

pub no_names : IsRefused (pair_on late) (FullNames 16777215 2)
no_names = NoNames created 1 (pair_match late) (λ tree e. none_some tree e) (16777214 ∷ [], record { distinct = λ p q b c e. absurd (omega arith); same = λ d. (there d, back d) }, refl) (omega arith) (omega arith)
  where
    there : (d : ℕ) → Contains (16777214 ∷ []) d → IsStaying (pair_on late) created d
    there d (zero, b, e) = (eq-eqb d 16777214 (sym e), none_gone late d)
    there d (suc k, b, e) = absurd (omega arith)

    back : (d : ℕ) → IsStaying (pair_on late) created d → Contains (16777214 ∷ []) d
    back d (live, stays) = (0, omega arith, sym (eqb-true d 16777214 live))

pub no_room : IsRefused (pair_on crowded) (FullDarts 1048575 2)
no_room = NoRoom created 1048575 (pair_match crowded) (λ tree e. none_some tree e) (numbers_listed (IsStaying (pair_on crowded) created) 1048575 (λ d. ((λ s. ltb-true d 1048575 s.0), (λ h. (lt-ltb d 1048575 h, none_gone crowded d))))) (omega arith)

-- ---- what fails

-- dart 7 doesn't come before dart 1 in the walk from 0
pub other_order : IsWalk (λ d l. square.alpha l d) 2 0 (0 ∷ 7 ∷ 1 ∷ 6 ∷ 2 ∷ 5 ∷ 3 ∷ 4 ∷ []) → ⊥
other_order w = let same : 0 ∷ 7 ∷ 1 ∷ 6 ∷ 2 ∷ 5 ∷ 3 ∷ 4 ∷ [] ≡ square_walk = walk_unique (λ d l. square.alpha l d) 2 0 (0 ∷ 7 ∷ 1 ∷ 6 ∷ 2 ∷ 5 ∷ 3 ∷ 4 ∷ []) square_walk w (walk_shown (λ d l. square.alpha l d) 2 square_walk 0 refl refl) in
    let second : Path ℕ 7 1 = ap (λ xs. slice_index xs 1) same in omega arith

pub torn_apart : IsWellEmbedded torn → ⊥
torn_apart h = let e : point 3 0 ≡ point 4 0 = h 0 points_of_vertices refl 1 2 refl (1 ∷ [], (refl, tt), refl) in
    let f : Path ℕ 3 4 = cc in omega arith

pub next_taken : IsMap overdue → ⊥
next_taken h = let b : 7 < 7 = h.below 7 refl in omega arith

pub name_reserved : IsSchema misnamed → ⊥
name_reserved h = h.free 0 (record points_of_vertices { name = codes "rule" }) refl (0, omega arith, refl)

pub label_astray : IsInRange planar astray → ⊥
label_astray h = let l : 3 ≤ 2 = (h.links Right).1.0.label in omega arith

-- no dart, no match
pub hook_astray : (place : Placement) → IsMatch square triangulation (99 ∷ []) place → ⊥
hook_astray place m = go m.positions
  where
    go : ArePositions square triangulation place (99 ∷ []) m.walk → ⊥
    go (Walked d others walk live is_walk many turns) = not_both false live refl

-- the triangulation has one hook
pub hook_left : (place : Placement) → IsMatch square triangulation (0 ∷ 1 ∷ []) place → ⊥
hook_left place m = let two_is_one : Path ℕ 2 1 = m.count in omega arith

-- ---- values

pub truth_for_number : AreGoodParams setting (values.Bool true ∷ []) → ⊥
truth_for_number h = absurd (let e : kinds.Bool ≡ kinds.Int = h.0.kind_is in cc)

out_of_range : IsInValueRange (values.Int (pos too_great)) → ⊥
out_of_range h = omega (arith, ints)

pub number_too_great : IsMap outsized → ⊥
number_too_great h = out_of_range (h.values 0 0 (record { name = codes "size"; mask = record { bits = 2 }; kind = kinds.Int }) refl refl).range

pub literal_too_great : (reading : Reading) → HasNoValue reading (Number (pos too_great))
literal_too_great reading v made = out_of_range (subst IsInValueRange (number_made (pos too_great) v made) made.is_value.range)
