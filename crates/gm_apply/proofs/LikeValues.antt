-- What is read for the values of a result, and the values, are the same over maps and at places that are like.
use Rattle.std.proofs.Common.{◌≡◌, ℕ, suc, not, List, [], ◌∷◌, length, Some, slice_get, refl, sym, ap, subst, ◌∙◌, arith}
use Rattle.std.specs.List.{Contains, AllZip}
use Rattle.std.proofs.lemmas.Option.{slice_get_within}
use Rattle.gm_model.specs.declared.rule.Side.TheVariants.{Left, Right}
use Rattle.gm_model.specs.declared.schema.Embed.{Embed}
use Rattle.gm_model.specs.declared.schema.Schema.{Schema}
use Rattle.gm_model.specs.declared.value.Value.{Value}
use Rattle.gm_model.specs.Applications.{Application, Decider, GivesValue, IsDecider, IsValuedBefore, IsFirstValueless, IsRead, IsReadUnits, IsReadSum, IsReachedAt, IsReachedSum, IsResult}
use Rattle.gm_model.specs.Maps.{Map, IsDart, IsEmbedAt, IsSchema, type_of}
use Rattle.gm_model.specs.Matches.{Placement, IsMatch}
use Rattle.gm_model.specs.NewValues.{IsValueAfter, Decided, Kept, Added}
use Rattle.gm_model.specs.Orbits.{HasCount}
use Rattle.gm_model.specs.Rules.{Rule, has_word}
use Rattle.gm_theory.specs.inner.Theorem.{Unfolded, Unfolds, IsDartOf}
use Rattle.gm_theory.proofs.Tests.{both_true}
use Rattle.gm_apply.proofs.Counting.{count_same}
use Rattle.gm_apply.proofs.LikeApplications.{here, there}
use Rattle.gm_apply.proofs.LikePlaces.{AreLikeAt, readings_like}
use Rattle.gm_apply.proofs.LikeReadings.{value_there, units_there}
use Rattle.gm_apply.proofs.LikeResults.{AreLikeResults, results_back, results_like, within_there, embed_there, decided_there, deciding_there, undecided_there, reached_there}
use Rattle.gm_apply.proofs.LikeScenes.{name_there, unfolding_there}

module _ (rule : Rule) (hooks : List ℕ) (params : List Value) (a b : Map) (place other : Placement) (result end : Unfolded) (r : AreLikeResults rule a b place other result end) where
  abbrev pub ours : Application
  ours = here rule hooks params a b place other r.like

  abbrev pub theirs : Application
  theirs = there rule hooks params a b place other r.like

  -- ---- deciding instances

  pub gives_there : (e x p : ℕ) (embed : Embed) (v : Value) → IsEmbedAt a.schema e embed → GivesValue ours place e x p v → GivesValue theirs other e x p v
  gives_there e x p embed v at (tree, (assigns, within), value) =
      (tree, (assigns, within_there rule a b place other result end r p within), value_there rule _ _ (readings_like rule a b place other params r.like p within) tree v (r.like.accepted.typed.sets x e tree embed assigns at).in_range value)

  pub decider_there : (decider : Decider) → IsDecider ours place (IsDartOf result) result.alpha decider → IsDecider theirs other (IsDartOf end) end.alpha decider
  decider_there decider h = record {
    embed = h.embed;
    embed_at = embed_there rule a b place other result end r decider.embed h.embed h.embed_at;
    deciding = deciding_there rule a b place other result end r decider.embed h.embed h.embed_at decider.node decider.position h.deciding;
  }

  pub read_units_there : (decider : Decider) (u : ℕ) → IsDecider ours place (IsDartOf result) result.alpha decider → IsReadUnits ours place decider u → IsReadUnits theirs other decider u
  read_units_there decider u h (tree, (assigns, within), units) =
      (tree, (assigns, within_there rule a b place other result end r decider.position within), units_there rule _ _ (readings_like rule a b place other params r.like decider.position within) tree u (r.like.accepted.typed.sets decider.node decider.embed tree h.embed assigns h.embed_at).in_range units)

  all_units_there : (read : List Decider) (units : List ℕ) → ((decider : Decider) → Contains read decider → IsDecider ours place (IsDartOf result) result.alpha decider)
      → AllZip (IsReadUnits ours place) read units → AllZip (IsReadUnits theirs other) read units
  all_units_there [] [] decide all = all
  all_units_there [] (u ∷ units) decide all = all
  all_units_there (decider ∷ read) [] decide all = all
  all_units_there (decider ∷ read) (u ∷ units) decide all =
      (read_units_there decider u (decide decider (0, omega arith, refl)) all.0, all_units_there read units (λ d c. decide d (suc c.0, (let less = c.1 in omega (arith, less)), c.2)) all.1)

module _ (rule : Rule) (hooks : List ℕ) (params : List Value) (a b : Map) (place other : Placement) (result end : Unfolded) (r : AreLikeResults rule a b place other result end) where
  back : AreLikeResults rule b a other place end result
  back = results_back rule a b place other result end r

  decider_back : (decider : Decider) → IsDecider (theirs rule hooks params a b place other result end r) other (IsDartOf end) end.alpha decider → IsDecider (ours rule hooks params a b place other result end r) place (IsDartOf result) result.alpha decider
  decider_back = decider_there rule hooks params b a other place end result back

  pub valued_before_there : (decider : Decider) → IsValuedBefore (ours rule hooks params a b place other result end r) place (IsDartOf result) result.alpha decider → IsValuedBefore (theirs rule hooks params a b place other result end r) other (IsDartOf end) end.alpha decider
  valued_before_there decider valued o before is =
      let old = decider_back o is in
      let given = valued o before old in
      (given.0, gives_there rule hooks params a b place other result end r o.embed o.node o.position old.embed given.0 old.embed_at given.1)

  pub first_valueless_there : (decider : Decider) → IsFirstValueless (ours rule hooks params a b place other result end r) place (IsDartOf result) result.alpha decider → IsFirstValueless (theirs rule hooks params a b place other result end r) other (IsDartOf end) end.alpha decider
  first_valueless_there decider first =
      let new = decider_there rule hooks params a b place other result end r decider first.here in
      record {
        here = new;
        none = λ v given. first.none v (gives_there rule hooks params b a other place end result back decider.embed decider.node decider.position new.embed v new.embed_at given);
        before = valued_before_there decider first.before;
      }

  pub read_there : (decider : Decider) → IsRead (ours rule hooks params a b place other result end r) place (IsDartOf result) result.alpha decider → IsRead (theirs rule hooks params a b place other result end r) other (IsDartOf end) end.alpha decider
  read_there decider h = (decider_there rule hooks params a b place other result end r decider h.0, valued_before_there decider h.1)

module _ (rule : Rule) (hooks : List ℕ) (params : List Value) (a b : Map) (place other : Placement) (result end : Unfolded) (r : AreLikeResults rule a b place other result end) where
  -- ---- work

  pub read_sum_there : (w : ℕ) → IsReadSum (ours rule hooks params a b place other result end r) place (IsDartOf result) result.alpha w → IsReadSum (theirs rule hooks params a b place other result end r) other (IsDartOf end) end.alpha w
  read_sum_there w s = record {
    read = s.read;
    ordered = s.ordered;
    same = λ decider. (
      λ c. read_there rule hooks params a b place other result end r decider ((s.same decider).0 c),
      λ h. (s.same decider).1 (read_there rule hooks params b a other place end result (results_back rule a b place other result end r) decider h),
    );
    units = s.units;
    units_are = all_units_there rule hooks params a b place other result end r s.read s.units (λ decider c. ((s.same decider).0 c).0) s.units_are;
    sum_is = s.sum_is;
  }

  pub reached_sum_there : (count : ℕ) → IsReachedSum (ours rule hooks params a b place other result end r) place (IsDartOf result) result.alpha count → IsReachedSum (theirs rule hooks params a b place other result end r) other (IsDartOf end) end.alpha count
  reached_sum_there count s = record {
    counts = s.counts;
    each = s.each ∙ ap (λ (t : Schema). length t.embeds) r.like.schema;
    counts_are = λ e c embed is at. counted e c embed is (subst (λ (t : Schema). IsEmbedAt t e embed) (sym r.like.schema) at);
    sum_is = s.sum_is;
  }
    where
      counted : (e c : ℕ) (embed : Embed) → slice_get s.counts e ≡ Some c → IsEmbedAt a.schema e embed → HasCount (IsReachedAt (theirs rule hooks params a b place other result end r) other (IsDartOf end) end.alpha e embed) c
      counted e c embed is at = count_same (IsReachedAt (ours rule hooks params a b place other result end r) place (IsDartOf result) result.alpha e embed) (IsReachedAt (theirs rule hooks params a b place other result end r) other (IsDartOf end) end.alpha e embed) c (λ d. (
        λ h. ((r.same.darts d).0 h.0, reached_there rule a b place other result end r e embed at d h.0 h.1),
        λ h. ((r.same.darts d).1 h.0, reached_there rule b a other place end result (results_back rule a b place other result end r) e embed (embed_there rule a b place other result end r e embed at) d h.0 h.1),
      )) (s.counts_are e c embed is at)

  -- ---- values

  pub value_after_there : (e d : ℕ) (embed : Embed) (v : Value) → IsEmbedAt a.schema e embed → IsDartOf result d
      → IsValueAfter a rule place result.alpha e (type_of embed) (GivesValue (ours rule hooks params a b place other result end r) place e) d v
      → IsValueAfter b rule other end.alpha e (type_of embed) (GivesValue (theirs rule hooks params a b place other result end r) other e) d v
  value_after_there e d embed v at live (Decided x p decided given) =
      Decided x p (decided_there rule a b place other result end r e embed at d x p live decided) (gives_there rule hooks params a b place other result end r e x p embed v at given)
  value_after_there e d embed v at live (Kept none old is) =
      Kept (undecided_there rule a b place other result end r e embed at d live none) ((r.like.darts d).0 old) (is ∙ r.like.values e d (slice_get_within a.schema.embeds e embed at) old)
  value_after_there e d embed v at live (Added x p keeper none added within is kept same) =
      let right = (both_true (not (has_word rule Left x)) (has_word rule Right x) added).1 in
      let left = (both_true (has_word rule Left keeper) (has_word rule Right keeper) kept.preserved).0 in
      Added x p keeper (undecided_there rule a b place other result end r e embed at d live none) added (within_there rule a b place other result end r p within) (is ∙ name_there rule a b place other r.like x p right within) kept
      (same ∙ r.like.values e (place.dart_of keeper p) (slice_get_within a.schema.embeds e embed at) (r.like.live keeper p (left, within)) ∙ ap (b.value e) (r.like.like.darts keeper p (left, within)))

-- ---- results

-- the map is a result of one application where it is one of the other
pub result_there : (rule : Rule) (hooks : List ℕ) (params : List Value) (a b : Map) (place other : Placement) (like : AreLikeAt rule a b place other) → IsSchema a.schema → IsMatch a rule hooks place → (after : Map)
    → IsResult (here rule hooks params a b place other like) place after → IsResult (there rule hooks params a b place other like) other after
result_there rule hooks params a b place other like of_schema matched after is = record {
  schema = is.schema ∙ like.schema;
  unfolded = unfolded;
  values = λ e d embed at live.
      let at_first = subst (λ (t : Schema). IsEmbedAt t e embed) (sym like.schema) at in
      value_after_there rule hooks params a b place other result result both e d embed (after.value e d) at_first live (is.values e d embed at_first live);
}
  where
    result : Unfolded
    result = record { live = after.live; alpha = after.alpha; next = after.next }

    unfolded : Unfolds b rule other result
    unfolded = unfolding_there rule a b place other like (IsDart after) after.alpha after.next is.unfolded

    both : AreLikeResults rule a b place other result result
    both = results_like rule hooks a b place other like of_schema matched result result is.unfolded unfolded
