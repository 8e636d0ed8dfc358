-- What becomes of an application that is ready: it lacks a value, or each deciding instance has one; and not both.
use Rattle.std.proofs.Common.{◌≡◌, ℕ, ◌<◌, ◌⊎◌, inl, inr, List, Option, Some, None, refl, sym, ap, ap₂, subst}
use Rattle.std.proofs.lemmas.Bool.{cases_order}
use Rattle.gm_model.specs.declared.value.Value.{Value}
use Rattle.gm_model.specs.Applications.{Application, Cause, NoValue, Decider, IsDeciderBefore, GivesValue, IsDecider, IsFirstValueless, IsResult}
use Rattle.gm_model.specs.Maps.{Map, IsSchema, type_of}
use Rattle.gm_model.specs.Matches.{Placement, IsMatch}
use Rattle.gm_model.specs.NewValues.{IsValueAfter, Decided, Kept, Added}
use Rattle.gm_model.specs.Orbits.{IsPairBefore}
use Rattle.gm_model.specs.Rules.{Rule}
use Rattle.gm_model.specs.Unfolding.{name_in}
use Rattle.gm_apply.proofs.LikeApplications.{here, there}
use Rattle.gm_apply.proofs.LikePlaces.{AreLikeAt, same_map}
use Rattle.gm_apply.proofs.LikeResults.{AreLikeResults, results_like, results_back, right_of}
use Rattle.gm_apply.proofs.LikeScenes.{unfolding_there}
use Rattle.gm_apply.proofs.LikeValues.{decider_there, first_valueless_there, gives_there}
use Rattle.gm_theory.specs.inner.Theorem.{Unfolded, Unfolds, IsDartOf}
use Rattle.gm_theory.proofs.Agreement.{one_match}
use Rattle.gm_theory.proofs.Walks.{pair_order}
use Rattle.gm_run.proofs.AlikeLemmas.{Suits}

-- each deciding instance has a value
abbrev pub HasAllValues : Application → Placement → Unfolded → Type 0
HasAllValues app place result = (decider : Decider) → IsDecider app place (IsDartOf result) result.alpha decider → (v : Value) × GivesValue app place decider.embed decider.node decider.position v

-- The application lacks a value, and is refused for that; without a cause it has all.
pub data IsReadyEnd (app : Application) (place : Placement) : Option Cause → Type 0 where
  Lacks : (result : Unfolded) (decider : Decider) → Unfolds app.map app.rule place result → IsFirstValueless app place (IsDartOf result) result.alpha decider → IsReadyEnd app place (Some (NoValue decider.embed decider.node))
  HasAll : (result : Unfolded) → Unfolds app.map app.rule place result → HasAllValues app place result → IsReadyEnd app place None

-- ---- over maps and places that are like

module _ (rule : Rule) (hooks : List ℕ) (params : List Value) (a b : Map) (place other : Placement) (like : AreLikeAt rule a b place other) (of_schema : IsSchema a.schema) (matched : IsMatch a rule hooks place) where
  over : (result : Unfolded) → Unfolds a rule place result → Unfolds b rule other result
  over result = unfolding_there rule a b place other like (IsDartOf result) result.alpha result.next

  both : (result : Unfolded) → Unfolds a rule place result → AreLikeResults rule a b place other result result
  both result unfolds = results_like rule hooks a b place other like of_schema matched result result unfolds (over result unfolds)

  pub ready_end_there : (told : Option Cause) → IsReadyEnd (here rule hooks params a b place other like) place told → IsReadyEnd (there rule hooks params a b place other like) other told
  ready_end_there _ (Lacks result decider unfolds first) = Lacks result decider (over result unfolds) (first_valueless_there rule hooks params a b place other result result (both result unfolds) decider first)
  ready_end_there _ (HasAll result unfolds all) = HasAll result (over result unfolds) values
    where
      values : HasAllValues (there rule hooks params a b place other like) other result
      values decider is =
          let r = both result unfolds in
          let old = decider_there rule hooks params b a other place result result (results_back rule a b place other result result r) decider is in
          let given = all decider old in
          (given.0, gives_there rule hooks params a b place other result result r decider.embed decider.node decider.position old.embed given.0 old.embed_at given.1)

-- ---- one end

-- the order of deciding instances
order : (d e : Decider) → ((d.embed ≡ e.embed) × (d.node ≡ e.node) × (d.position ≡ e.position)) ⊎ (IsDeciderBefore d e ⊎ IsDeciderBefore e d)
order d e = go (cases_order d.embed e.embed) (pair_order d.node d.position e.node e.position)
  where
    go : (d.embed ≡ e.embed) ⊎ ((d.embed < e.embed) ⊎ (e.embed < d.embed)) → ((d.node ≡ e.node) × (d.position ≡ e.position)) ⊎ (IsPairBefore d.node d.position e.node e.position ⊎ IsPairBefore e.node e.position d.node d.position)
        → ((d.embed ≡ e.embed) × (d.node ≡ e.node) × (d.position ≡ e.position)) ⊎ (IsDeciderBefore d e ⊎ IsDeciderBefore e d)
    go (inl same) (inl pair) = inl (same, pair.0, pair.1)
    go (inl same) (inr (inl before)) = inr (inl (inr (same, before)))
    go (inl same) (inr (inr before)) = inr (inr (inr (sym same, before)))
    go (inr (inl less)) side = inr (inl (inl less))
    go (inr (inr more)) side = inr (inr (inl more))

module _ (app : Application) (place : Placement) (result : Unfolded) where
  one_first : (d e : Decider) → IsFirstValueless app place (IsDartOf result) result.alpha d → IsFirstValueless app place (IsDartOf result) result.alpha e → NoValue d.embed d.node ≡ NoValue e.embed e.node
  one_first d e first second = go (order d e)
    where
      go : ((d.embed ≡ e.embed) × (d.node ≡ e.node) × (d.position ≡ e.position)) ⊎ (IsDeciderBefore d e ⊎ IsDeciderBefore e d) → NoValue d.embed d.node ≡ NoValue e.embed e.node
      go (inl same) = ap₂ NoValue same.0 same.1
      go (inr (inl before)) = let given = second.before d before first.here in absurd (first.none given.0 given.1)
      go (inr (inr before)) = let given = first.before e before second.here in absurd (second.none given.0 given.1)

  lacks_or_has : (d : Decider) → IsFirstValueless app place (IsDartOf result) result.alpha d → HasAllValues app place result → ⊥
  lacks_or_has d first all = let given = all d first.here in first.none given.0 given.1

module _ (app : Application) (suits : Suits app.rule app.map) (place : Placement) (matched : IsMatch app.map app.rule app.hooks place) where
  same_place : AreLikeAt app.rule app.map app.map place place
  same_place = same_map app.rule app.map place place suits.accepted suits.sound.is_map suits.sound.generalised (one_match app.map app.rule app.hooks place place suits.accepted.in_range suits.accepted.incidence matched matched) matched.embedded.live

  same_results : (result end : Unfolded) → Unfolds app.map app.rule place result → Unfolds app.map app.rule place end → AreLikeResults app.rule app.map app.map place place result end
  same_results = results_like app.rule app.hooks app.map app.map place place same_place suits.of_schema matched

  first_there : (result end : Unfolded) → Unfolds app.map app.rule place result → Unfolds app.map app.rule place end → (d : Decider) → IsFirstValueless app place (IsDartOf result) result.alpha d → IsFirstValueless app place (IsDartOf end) end.alpha d
  first_there result end u v d = first_valueless_there app.rule app.hooks app.params app.map app.map place place result end (same_results result end u v) d

  pub one_ready_end : (told other : Option Cause) → IsReadyEnd app place told → IsReadyEnd app place other → told ≡ other
  one_ready_end _ _ (Lacks result d u first) (Lacks end e v second) = ap Some (one_first app place end d e (first_there result end u v d first) second)
  one_ready_end _ _ (Lacks result d u first) (HasAll end v all) = absurd (lacks_or_has app place end d (first_there result end u v d first) all)
  one_ready_end _ _ (HasAll result u all) (Lacks end d v first) = absurd (lacks_or_has app place result d (first_there end result v u d first) all)
  one_ready_end _ _ (HasAll result u all) (HasAll end v all') = refl

  -- ---- done

  -- in a result each deciding instance has a value
  pub result_has_all : (after : Map) → IsResult app place after → HasAllValues app place (record { live = after.live; alpha = after.alpha; next = after.next })
  result_has_all after is decider d =
      let right = right_of app.rule app.map app.map place place result result (same_results result result is.unfolded is.unfolded) decider.embed decider.node d.deciding.assigned.0 in
      let live = (same_results result result is.unfolded is.unfolded).named decider.node decider.position right d.deciding.assigned.1 in
      by d (after.value decider.embed (name_in app.map app.rule place decider.node decider.position)) (is.values decider.embed (name_in app.map app.rule place decider.node decider.position) d.embed d.embed_at live)
    where
      result : Unfolded
      result = record { live = after.live; alpha = after.alpha; next = after.next }

      by : (d : IsDecider app place (IsDartOf result) result.alpha decider) (v : Value)
          → IsValueAfter app.map app.rule place after.alpha decider.embed (type_of d.embed) (GivesValue app place decider.embed) (name_in app.map app.rule place decider.node decider.position) v
          → (v : Value) × GivesValue app place decider.embed decider.node decider.position v
      by d v (Decided y q decided given) = go (pair_order y q decider.node decider.position)
        where
          go : ((y ≡ decider.node) × (q ≡ decider.position)) ⊎ (IsPairBefore y q decider.node decider.position ⊎ IsPairBefore decider.node decider.position y q) → (v : Value) × GivesValue app place decider.embed decider.node decider.position v
          go (inl same) = (v, subst (λ x. GivesValue app place decider.embed x decider.position v) same.0 (subst (λ p. GivesValue app place decider.embed y p v) same.1 given))
          go (inr (inl before)) = absurd (d.deciding.least y q before decided.assigned decided.lies)
          go (inr (inr before)) = absurd (decided.least decider.node decider.position before d.deciding.assigned d.deciding.lies)
      by d v (Kept none live same) = absurd (none decider.node decider.position d.deciding.assigned d.deciding.lies)
      by d v (Added y q keeper none added within named kept same) = absurd (none decider.node decider.position d.deciding.assigned d.deciding.lies)
