-- The second half of the theorem: for every generalised and well embedded map, every accepted rule and every match, the new values are determined, and the result is well embedded.
use Rattle.std.proofs.Common.{◌≡◌, ℕ, ◌<◌, ◌≤◌, ◌⊎◌, not, false, IsTrue, length, Contains, Option, Some, None, slice_get, refl, sym, ◌∙◌, ap, subst, inl, inr}
use Rattle.gm_model.specs.declared.rule.Side.TheVariants.{Left, Right}
use Rattle.gm_model.specs.declared.schema.Embed.{Embed}
use Rattle.gm_model.specs.declared.schema.Schema.{Schema}
use Rattle.gm_model.specs.declared.value.Value.{Value}
use Rattle.gm_model.specs.Acceptance.{IsAccepted}
use Rattle.gm_model.specs.Components.{IsTogether, IsAssigned, IsUnassigned, IsInherited}
use Rattle.gm_model.specs.NewValues.{LiesIn, IsDecidedBy, IsUndecided, IsValueAfter, Decided, Kept, Added}
use Rattle.gm_model.specs.Orbits.{IsInOrbit}
use Rattle.gm_model.specs.Applications.{Application, GivesValue, IsResult, IsDone, reading_at}
use Rattle.gm_model.specs.Expressions.{HasValue}
use Rattle.gm_model.specs.GMap.{IsGMap}
use Rattle.gm_model.specs.Kinds.{AreGoodParams}
use Rattle.gm_model.specs.Maps.{Map, IsDart, IsEmbedAt, IsGeneralised, IsMap, IsSchema, IsWellEmbedded, type_of}
use Rattle.gm_model.specs.Matches.{Placement, IsMatch}
use Rattle.gm_model.specs.Rules.{Rule, has_word, is_added, RuleNode, Assignment, Assigns, width, hook_label}
use Rattle.gm_model.specs.Structure.{IsInRange}
use Rattle.gm_model.specs.Trees.{Tree}
use Rattle.gm_model.specs.Unfolding.{Scene, scene_of, name_in, IsDartAfter}
use Rattle.gm_model.specs.Values.{IsValueOf}
use Rattle.gm_theory.proofs.Keeps.{lawful}
use Rattle.gm_theory.proofs.Lists.{some_same, none_some, contained_at}
use Rattle.gm_theory.proofs.ReadingsTyped.{values_have_their_kinds}
use Rattle.gm_theory.proofs.Results.{unfolding_generalised, unfolding_below, unfoldings_agree}
use Rattle.gm_theory.proofs.Scenes.{IsLawful}
use Rattle.gm_theory.proofs.ValuesAcross.{constant_after, new_together}
use Rattle.gm_theory.proofs.ValuesDetermined.{value_same}
use Rattle.gm_theory.proofs.ValuesFound.{decided_or_not, decides_own}
use Rattle.gm_theory.proofs.ValuesReach.{IsDecided, decide_orbit}
use Rattle.gm_theory.proofs.Tests.{both_true, true_or_false, not_both}
use Rattle.gm_theory.proofs.ValuesReadOff.{read_off}
use Rattle.gm_theory.proofs.ValuesUnique.{one_value}
use Rattle.gm_theory.specs.inner.Readings.{IsReadingOf}
use Rattle.gm_theory.specs.inner.Theorem.{Unfolded, Unfolds}
use Rattle.gm_theory.specs.inner.Values.{HaveValues, HaveSameValues, with_values, KeepsWellEmbedded, RulesKeepWellEmbeddedMaps, ApplicationsKeepSoundMaps}

-- ---- an instance has one expression, and it has one value

pub one_tree : (schema : Schema) (rule : Rule) → IsInRange schema rule → (x e : ℕ) (t s : Tree) → Assigns rule x e t → Assigns rule x e s → t ≡ s
one_tree schema rule range x e t s (node, at, c) (node', at', c') = ap (λ (a : Assignment). a.tree) same
  where
    node_same : node' ≡ node
    node_same = cc

    d : Contains node.sets (record { embed = e; tree = s })
    d = subst (λ (n : RuleNode). Contains n.sets (record { embed = e; tree = s })) node_same c'

    place : c.0 ≡ d.0
    place = range.sets_differ x node c.0 d.0 (record { embed = e; tree = t }) (record { embed = e; tree = s }) at (contained_at node.sets (record { embed = e; tree = t }) c) (contained_at node.sets (record { embed = e; tree = s }) d) refl

    first : slice_get node.sets d.0 ≡ Some (record { embed = e; tree = t })
    first = subst (λ k. slice_get node.sets k ≡ Some (record { embed = e; tree = t })) place (contained_at node.sets (record { embed = e; tree = t }) c)

    second : slice_get node.sets d.0 ≡ Some (record { embed = e; tree = s })
    second = contained_at node.sets (record { embed = e; tree = s }) d

    same : Path Assignment (record { embed = e; tree = t }) (record { embed = e; tree = s })
    same = some_same (record { embed = e; tree = t }) (record { embed = e; tree = s }) (sym first ∙ second)

one_given : (app : Application) (place : Placement) → IsInRange app.map.schema app.rule → (e x p : ℕ) (v w : Value) → GivesValue app place e x p v → GivesValue app place e x p w → v ≡ w
one_given app place range e x p v w (t, a, h) (s, b, k) =
    one_value (reading_at app place p) t v w h (subst (λ u. HasValue (reading_at app place p) u w) (one_tree app.map.schema app.rule range x e s t b.0 a.0) k)

-- ---- the theorem

module _ (app : Application) (place : Placement) (of_schema : IsSchema app.map.schema) (is_map : IsMap app.map) (old : IsGeneralised app.map) (embedded : IsWellEmbedded app.map) (accepted : IsAccepted app.map.schema app.rule) (found : IsMatch app.map app.rule app.hooks place) where
  law : IsLawful (scene_of app.map app.rule place) (length app.rule.nodes) (width app.rule) (hook_label app.rule)
  law = lawful app.map app.rule place accepted old is_map.below app.hooks found

  well_embedded : (result : Map) → IsResult app place result → IsWellEmbedded result
  well_embedded result new e embed at = constant_after app.map app.rule place (length app.rule.nodes) (width app.rule) (hook_label app.rule) law (read_off app.map.schema app.rule accepted.in_range accepted.incidence)
      (IsDart result) result.alpha result.next new.unfolded e (type_of embed) (λ i t. of_schema.labels e i embed at' t) (embedded e embed at') (λ x r. accepted.sources e embed at' x r)
      (GivesValue app place e) (one_given app place accepted.in_range e) (result.value e) (λ d live. new.values e d embed at' live)
    where
      at' : IsEmbedAt app.map.schema e embed
      at' = subst (λ schema. IsEmbedAt schema e embed) new.schema at

  determined : (a b : Map) → IsResult app place a → IsResult app place b → HaveSameValues a b
  determined a b new new' e d embed at live = value_same app.map app.rule place (length app.rule.nodes) (width app.rule) (hook_label app.rule) law
      e (type_of embed) (λ i t. of_schema.labels e i embed at' t) (GivesValue app place e) (one_given app place accepted.in_range e) (IsDart a) a.alpha b.alpha
      (unfolding_generalised (scene_of app.map app.rule place) (length app.rule.nodes) (width app.rule) (hook_label app.rule) law (IsDart a) a.alpha a.next new.unfolded).stays
      agree.2 d (a.value e d) (b.value e d) live (new.values e d embed at' live) (new'.values e d embed at' (agree.1 d live))
    where
      at' : IsEmbedAt app.map.schema e embed
      at' = subst (λ schema. IsEmbedAt schema e embed) new.schema at

      agree : (a.next ≡ b.next) × ((c : ℕ) → IsDart a c → IsDart b c) × ((c i : ℕ) → IsDart a c → i ≤ app.map.schema.dim → a.alpha i c ≡ b.alpha i c)
      agree = unfoldings_agree (scene_of app.map app.rule place) (length app.rule.nodes) (width app.rule) (hook_label app.rule) law (IsDart a) (IsDart b) a.alpha b.alpha a.next b.next new.unfolded new'.unfolded

  -- ---- an unfolding has new values, where the deciding instances have values

  module _ (result : Unfolded) (unfolds : Unfolds app.map app.rule place result) (given : HaveValues app place result.alpha) where
    abbrev HasNew : ℕ → Embed → ℕ → Value → Type 0
    HasNew e embed d v = IsValueAfter app.map app.rule place result.alpha e (type_of embed) (GivesValue app place e) d v

    has_value : (e : ℕ) (embed : Embed) → IsEmbedAt app.map.schema e embed → (d : ℕ) → IsTrue (result.live d) → (v : Value) × HasNew e embed d v
    has_value e embed at d live = go (decided_or_not app.map app.rule place result.alpha e (type_of embed) d decide)
      where
        lawful_result : IsGMap app.map.schema.dim (λ c. IsTrue (result.live c)) result.alpha
        lawful_result = unfolding_generalised (scene_of app.map app.rule place) (length app.rule.nodes) (width app.rule) (hook_label app.rule) law (λ c. IsTrue (result.live c)) result.alpha result.next unfolds

        decide : (c : ℕ) → IsDecided (IsInOrbit result.alpha (type_of embed) d c)
        decide c = decide_orbit app.map.schema.dim result.alpha (type_of embed) (λ b. IsTrue (result.live b)) result.next (λ i t. of_schema.labels e i embed at t) lawful_result.stays
            (unfolding_below (scene_of app.map app.rule place) (length app.rule.nodes) (width app.rule) (hook_label app.rule) law (λ b. IsTrue (result.live b)) result.alpha result.next unfolds) d c live

        together : (x y p : ℕ) → p < place.positions → IsTogether app.rule (type_of embed) x y → LiesIn app.map app.rule place result.alpha e (type_of embed) (name_in app.map app.rule place x p) y p
        together x y p b t = new_together app.map app.rule place (length app.rule.nodes) (width app.rule) (hook_label app.rule) law (read_off app.map.schema app.rule accepted.in_range accepted.incidence)
            (λ b. IsTrue (result.live b)) result.alpha result.next unfolds e (type_of embed) (λ i t. of_schema.labels e i embed at t) (embedded e embed at) (λ x r. accepted.sources e embed at x r)
            (GivesValue app place e) (one_given app place accepted.in_range e) x y p b t

        added : (x p : ℕ) → IsUndecided app.map app.rule place result.alpha e (type_of embed) d → IsTrue (is_added app.rule x) → p < place.positions → d ≡ name_in app.map app.rule place x p → (v : Value) × HasNew e embed d v
        added x p u n b f = by (accepted.sources e embed at x (both_true (not (has_word app.rule Left x)) (has_word app.rule Right x) n).1).source
          where
            by : ((y : ℕ) × IsTogether app.rule (type_of embed) x y × IsAssigned app.rule e y) ⊎ (IsUnassigned app.rule e (type_of embed) x × ((keeper : ℕ) × IsInherited app.rule (type_of embed) x keeper)) → (v : Value) × HasNew e embed d v
            by (inl (y, t, a)) = absurd (u y p (a, b) (subst (λ c. LiesIn app.map app.rule place result.alpha e (type_of embed) c y p) (sym f) (together x y p b t)))
            by (inr (none, (keeper, i))) = (app.map.value e (place.dart_of keeper p), Added x p keeper u n b f i.kept refl)

        after : IsUndecided app.map app.rule place result.alpha e (type_of embed) d → IsDartAfter (scene_of app.map app.rule place) d → (v : Value) × HasNew e embed d v
        after u (inl (old, stays)) = (app.map.value e d, Kept u old refl)
        after u (inr (x, p, n, b, f)) = added x p u n b f

        go : ((x : ℕ) × (p : ℕ) × IsDecidedBy app.map app.rule place result.alpha e (type_of embed) d x p) ⊎ IsUndecided app.map app.rule place result.alpha e (type_of embed) d → (v : Value) × HasNew e embed d v
        go (inl (x, p, by)) =
            let own : (v : Value) × GivesValue app place e x p v = given e x p embed at (decides_own app.map app.rule place result.alpha e (type_of embed) d decide x p by) in
            (own.0, Decided x p by own.1)
        go (inr u) = after u ((unfolds.darts d).0 live)

    -- the value at a live dart, where the embedding is one of the schema
    pick : (e d : ℕ) (o : Option Embed) → slice_get app.map.schema.embeds e ≡ o → IsTrue (result.live d) ⊎ (result.live d ≡ false) → Value
    pick e d (Some embed) at (inl live) = (has_value e embed at d live).0
    pick e d (Some embed) at (inr dead) = app.map.value e d
    pick e d None at side = app.map.value e d

    pick_new : (e d : ℕ) (embed : Embed) → IsEmbedAt app.map.schema e embed → IsTrue (result.live d) → (o : Option Embed) (f : slice_get app.map.schema.embeds e ≡ o) (side : IsTrue (result.live d) ⊎ (result.live d ≡ false)) → HasNew e embed d (pick e d o f side)
    unfolding pick
    pick_new e d embed at live (Some embed') f (inl l) = subst (λ (b : Embed). HasNew e b d (has_value e embed' f d l).0) (some_same embed' embed (sym f ∙ at)) (has_value e embed' f d l).1
    pick_new e d embed at live (Some embed') f (inr dead) = not_both (result.live d) live dead
    pick_new e d embed at live None f side = none_some embed (sym f ∙ at)

    exists : (value : ℕ → ℕ → Value) × IsResult app place (with_values app.map result value)
    exists = (
      (λ e d. pick e d (slice_get app.map.schema.embeds e) refl (true_or_false (result.live d))),
      record {
        schema = refl;
        unfolded = unfolds;
        values = λ e d embed at live. pick_new e d embed at live (slice_get app.map.schema.embeds e) refl (true_or_false (result.live d));
      },
    )

  keeps : KeepsWellEmbedded app place
  keeps = record { exists = exists; determined = determined; well_embedded = well_embedded }

pub rules_keep_well_embedded_maps : RulesKeepWellEmbeddedMaps
rules_keep_well_embedded_maps app place of_schema is_map old embedded accepted found = keeps app place of_schema is_map old embedded accepted found

-- ---- applications that are done

-- an expression is read at a position of a match
pub match_reading : (app : Application) (place : Placement) → IsMap app.map → IsGeneralised app.map → IsMatch app.map app.rule app.hooks place → (p : ℕ) → p < place.positions → IsReadingOf app.rule (reading_at app place p)
match_reading app place is_map old found p b = record { is_map = is_map; stays = old.stays; darts = λ x l. found.embedded.live x p (l, b) }

-- each new value is one of its embedding's kind
value_typed : (app : Application) (place : Placement) (alpha : ℕ → ℕ → ℕ) → IsMap app.map → IsGeneralised app.map → IsAccepted app.map.schema app.rule → AreGoodParams app.rule app.params → IsMatch app.map app.rule app.hooks place →
    (e d : ℕ) (embed : Embed) (v : Value) → IsEmbedAt app.map.schema e embed → IsValueAfter app.map app.rule place alpha e (type_of embed) (GivesValue app place e) d v → IsValueOf embed.kind v
value_typed app place alpha is_map old accepted params found e d embed v at (Decided x p by (tree, a, h)) =
    values_have_their_kinds app.rule (reading_at app place p) tree embed.kind v (match_reading app place is_map old found p a.1) params (accepted.typed.sets x e tree embed a.0 at) h
value_typed app place alpha is_map old accepted params found e d embed v at (Kept none live f) = subst (IsValueOf embed.kind) (sym f) (is_map.values e d embed at live)
value_typed app place alpha is_map old accepted params found e d embed v at (Added x p keeper none n b f kept g) =
    subst (IsValueOf embed.kind) (sym g) (is_map.values e (place.dart_of keeper p) embed at (found.embedded.live keeper p ((both_true (has_word app.rule Left keeper) (has_word app.rule Right keeper) kept.preserved).0, b)))

-- the unfolding of an application that is done is generalised, with its names below the next, whatever its parameters
pub done_lawful : (app : Application) (result : Map) (added removed : ℕ) → IsMap app.map → IsGeneralised app.map → IsAccepted app.map.schema app.rule → IsDone app result added removed → IsGeneralised result × ((d : ℕ) → IsDart result d → d < result.next)
done_lawful app result added removed is_map old accepted done = (
  subst (λ n. IsGMap n (IsDart result) result.alpha) (sym (ap (λ (schema : Schema). schema.dim) done.result_is.schema)) (unfolding_generalised s count w label here (IsDart result) result.alpha result.next done.result_is.unfolded),
  unfolding_below s count w label here (IsDart result) result.alpha result.next done.result_is.unfolded,
)
  where
    s : Scene
    s = scene_of app.map app.rule done.place

    count : ℕ
    count = length app.rule.nodes

    w : ℕ
    w = width app.rule

    label : ℕ → ℕ
    label = hook_label app.rule

    here : IsLawful (scene_of app.map app.rule done.place) (length app.rule.nodes) (width app.rule) (hook_label app.rule)
    here = lawful app.map app.rule done.place accepted old is_map.below app.hooks done.ready.matched

pub applications_keep_sound_maps : ApplicationsKeepSoundMaps
applications_keep_sound_maps app result added removed of_schema sound accepted params done = record {
  is_map = record { below = unfolded.1; values = λ e d embed at live. typed e d embed (subst (λ schema. IsEmbedAt schema e embed) done.result_is.schema at) live };
  generalised = unfolded.0;
  embedded = well_embedded app done.place of_schema sound.is_map sound.generalised sound.embedded accepted done.ready.matched result done.result_is;
}
  where
    unfolded : IsGeneralised result × ((d : ℕ) → IsDart result d → d < result.next)
    unfolded = done_lawful app result added removed sound.is_map sound.generalised accepted done

    typed : (e d : ℕ) (embed : Embed) → IsEmbedAt app.map.schema e embed → IsDart result d → IsValueOf embed.kind (result.value e d)
    typed e d embed at live = value_typed app done.place result.alpha sound.is_map sound.generalised accepted params done.ready.matched e d embed (result.value e d) at (done.result_is.values e d embed at live)
