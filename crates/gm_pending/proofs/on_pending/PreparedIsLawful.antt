-- A prepared application is lawful, so that the laws of the theory hold of it.
use Rattle.std.proofs.Common.{length}
use Rattle.gm_model.specs.Rules.{width, hook_label}
use Rattle.gm_arena.specs.inner.ArenaAsMap.{as_map}
use Rattle.gm_theory.proofs.Keeps.{lawful, rules_keep_generalised_maps}
use Rattle.gm_theory.proofs.Scenes.{IsLawful}
use Rattle.gm_theory.specs.inner.Theorem.{Unfolded}
use Rattle.gm_pending.specs.inner.Results.{PendingOf, IsPrepared, IsUnfoldedIn, rule_in, place_in, scene_in}

module _ (app : PendingOf) (prepared : IsPrepared app) where
  pub law : IsLawful (scene_in app) (length (rule_in app).nodes) (width (rule_in app)) (hook_label (rule_in app))
  law = lawful (as_map app.map) (rule_in app) (place_in app) prepared.planned.accepted prepared.sound.generalised prepared.sound.is_map.below prepared.hooks prepared.matched.is_match

  -- it has an unfolding
  pub some_unfolding : (result : Unfolded) × IsUnfoldedIn app result
  some_unfolding = (rules_keep_generalised_maps (as_map app.map) (rule_in app) prepared.hooks (place_in app) prepared.sound.is_map.below prepared.sound.generalised prepared.planned.accepted prepared.matched.is_match).exists
