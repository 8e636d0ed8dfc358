-- What reading the expression of an assigned instance gives and takes.
use Rattle.std.proofs.Common.{◌≡◌, ℕ, zero, suc, ◌<◌, List, [], ◌∷◌, length, Option, Some, None, slice_get, refl, subst, arith}
use Rattle.std.specs.Prelude.{MatchOption}
use Rattle.gm_model.specs.declared.schema.Embed.{Embed}
use Rattle.gm_model.specs.declared.value.Value.{Value}
use Rattle.gm_model.specs.Acceptance.{IsAccepted}
use Rattle.gm_model.specs.Applications.{GivesValue, IsReadUnits}
use Rattle.gm_model.specs.Expressions.{HasValue, HasNoValue, HasUnits}
use Rattle.gm_model.specs.Maps.{IsEmbedAt}
use Rattle.gm_model.specs.Rules.{Assigns, rule_of}
use Rattle.gm_model.specs.Trees.{Tree}
use Rattle.gm_model.specs.Values.{IsValueOf}
use Rattle.gm_eval.specs.inner.Places.{IsTypedFor, reading_in}
use Rattle.gm_eval.proofs.Matched.{typed_there}
use Rattle.gm_plan.specs.inner.Plans.{IsPlanned}
use Rattle.gm_theory.proofs.ReadingsTyped.{values_have_their_kinds}
use Rattle.gm_theory.proofs.ValuesKept.{match_reading, one_tree}
use Rattle.gm_apply.specs.declared.reading.Reading.{Reading}
use Rattle.gm_apply.specs.inner.Reads.{IsReadable, app_at, place_at}
use Rattle.gm_apply.proofs.Applying.{accepted_for}

pub some_embed : (embeds : List Embed) (e : ℕ) → e < length embeds → (embed : Embed) × (slice_get embeds e ≡ Some embed)
some_embed [] e within = absurd (omega (arith, within))
some_embed (embed ∷ embeds) zero within = (embed, refl)
some_embed (embed ∷ embeds) (suc e) within = some_embed embeds e (omega (arith, within))

module _ (reading : Reading) (hooks : List ℕ) (readable : IsReadable reading hooks) (planned : IsPlanned reading.plan.now.schema (rule_of reading.plan.now.table)) where
  pub accepted_here : IsAccepted reading.arena.now.schema (rule_of reading.plan.now.table)
  accepted_here = accepted_for reading.arena.now reading.plan.now.schema (rule_of reading.plan.now.table) readable.schema planned

  module _ (e x p : ℕ) (tree : Tree) (assigns : Assigns (rule_of reading.plan.now.table) x e tree) (within : p < reading.found.now.positions) where
    pub one : (other : Tree) → Assigns (rule_of reading.plan.now.table) x e other → other ≡ tree
    one other theirs = one_tree reading.arena.now.schema (rule_of reading.plan.now.table) accepted_here.in_range x e other tree theirs assigns

    embed_there : (embed : Embed) × IsEmbedAt reading.arena.now.schema e embed
    embed_there = some_embed reading.arena.now.schema.embeds e (accepted_here.in_range.sets x assigns.0 (record { embed = e; tree = tree }) assigns.1 assigns.2).1

    pub tree_typed : IsTypedFor reading.arena.now.schema reading.found.now.nodes reading.params.now tree
    tree_typed =
        typed_there reading.arena.now (rule_of reading.plan.now.table) hooks reading.found.now readable.answer.matched reading.params.now tree embed_there.0.kind readable.params
        (accepted_here.typed.sets x e tree embed_there.0 assigns embed_there.1)

    pub gives : (result : Option Value) → MatchOption result (HasNoValue (reading_in reading.arena.now reading.found.now p reading.params.now) tree) (HasValue (reading_in reading.arena.now reading.found.now p reading.params.now) tree)
        → MatchOption result ((v : Value) → GivesValue (app_at reading hooks) (place_at reading) e x p v → ⊥) (GivesValue (app_at reading hooks) (place_at reading) e x p)
    gives (Some v) value = (tree, (assigns, within), value)
    gives None none = λ v given. none v (subst (λ t. HasValue (reading_in reading.arena.now reading.found.now p reading.params.now) t v) (one given.0 given.1.0) given.2)

    pub of_kind : (embed : Embed) (v : Value) → IsEmbedAt reading.arena.now.schema e embed → HasValue (reading_in reading.arena.now reading.found.now p reading.params.now) tree v → IsValueOf embed.kind v
    of_kind embed v at value =
        values_have_their_kinds (rule_of reading.plan.now.table) (reading_in reading.arena.now reading.found.now p reading.params.now) tree embed.kind v
        (match_reading (app_at reading hooks) (place_at reading) readable.sound.is_map readable.sound.generalised readable.answer.matched.is_match p within) readable.params
        (accepted_here.typed.sets x e tree embed assigns at) value

    pub of_units : (u : ℕ) → IsReadUnits (app_at reading hooks) (place_at reading) (record { embed = e; node = x; position = p }) u → HasUnits (reading_in reading.arena.now reading.found.now p reading.params.now) tree u
    of_units u (other, (theirs, b), units) = subst (λ t. HasUnits (reading_in reading.arena.now reading.found.now p reading.params.now) t u) (one other theirs) units
