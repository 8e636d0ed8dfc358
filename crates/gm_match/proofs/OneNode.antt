-- Where a rule has one left node, this is the hook, and the walk's slots are those of the candidate.
use Rattle.std.proofs.Common.{◌≡◌, ℕ, ◌+◌, ◌*◌, ◌<◌, List, [], length, Some, refl, sym, ap, subst, ◌∙◌, arith}
use Rattle.std.proofs.lemmas.Option.{slice_get-get_or, slice_get_within, get_or_from_slice_get}
use Rattle.std.specs.List.{slice_get}
use Rattle.std.specs.Prelude.{slice_index}
use Rattle.gm_model.specs.declared.schema.Schema.{Schema}
use Rattle.gm_model.specs.Matches.{IsPathTo}
use Rattle.gm_model.specs.Orbits.{follow}
use Rattle.gm_model.specs.Rules.{Rule}
use Rattle.gm_arena.specs.declared.slot.Slot.{Slot}
use Rattle.gm_arena.specs.inner.ArenaMap.{ArenaMap, alpha}
use Rattle.gm_plan.specs.inner.Plans.{IsLeftCount, IsPlanned}
use Rattle.gm_theory.proofs.Candidates.{hook_left}
use Rattle.gm_theory.proofs.LeastPaths.{hook_path, same_path}
use Rattle.gm_walk.specs.inner.Walks.{AreLive, names_of}
use Rattle.gm_walk.proofs.NameLemmas.{name_there}
use Rattle.gm_match.specs.inner.Layout.{AreRows, dart_at}
use Rattle.gm_match.specs.inner.Outcome.{name_of}
use Rattle.gm_match.proofs.Growing.{same_index}
use Rattle.gm_match.proofs.Paths.{path_left}

module _ (m : ArenaMap) (schema : Schema) (rule : Rule) (planned : IsPlanned schema rule) (counts : IsLeftCount rule 1) where
  -- a hook is the one node
  hook_is : (t h : ℕ) → slice_get rule.hooks t ≡ Some h → h ≡ 0
  hook_is t h at = let low : h < 1 = (counts h).0 (hook_left schema rule planned.accepted.in_range planned.accepted.incidence t h at) in omega arith

  -- and the one hook
  index_is : (t h : ℕ) → slice_get rule.hooks t ≡ Some h → t ≡ 0
  index_is t h at =
      let first = slice_get-get_or rule.hooks 0 0 (let within = slice_get_within rule.hooks t h at in omega arith) in
      let same : slice_index rule.hooks 0 ≡ h = hook_is 0 (slice_index rule.hooks 0) first ∙ sym (hook_is t h at) in
      same_index rule.hooks planned.accepted.in_range.hooks_differ t 0 h at (first ∙ ap Some same)

  module _ (walk : List Slot) where
    lies : (x p : ℕ) → x ≡ 0 → p < length walk → dart_at m 1 walk x p ≡ slice_index (names_of m walk) p
    lies x p one within =
        let at : p * 1 + x ≡ p = omega (arith, one) in
        ap (λ k. name_of m (slice_get walk k)) at ∙ ap (name_of m) (slice_get-get_or walk p (record { at = 0 }) within) ∙ sym (name_there m walk p (record { at = 0 }) within)

    forced : (x p hook : ℕ) (path : List ℕ) → IsPathTo rule x hook path → dart_at m 1 walk x p ≡ follow (alpha m) path (dart_at m 1 walk hook p)
    forced x p hook path to = go (same_path rule x hook x path [] to (hook_path rule planned.accepted.in_range.hooks_differ to.index x (subst (λ h. slice_get rule.hooks to.index ≡ Some h) same to.hook_at)))
      where
        same : hook ≡ x
        same = let low : x < 1 = (counts x).0 (path_left schema rule planned x hook path to) in omega (arith, hook_is to.index hook to.hook_at)

        go : (hook ≡ x) × (path ≡ []) → dart_at m 1 walk x p ≡ follow (alpha m) path (dart_at m 1 walk hook p)
        go (hooked, none) = rw (hooked, none) refl

    pub walk_rows : (hooks turns : List ℕ) → AreLive m walk → slice_index (names_of m walk) 0 ≡ slice_index hooks 0 → AreRows m rule hooks (names_of m walk) turns 1 (length walk) walk
    walk_rows hooks turns live starts = record {
      along = record {
        long = omega arith;
        live = live;
        hooked = λ h p first less. lies h p (hook_is 0 h first) less;
        forced = λ x p hook path less to. forced x p hook path to;
      };
      at_darts = λ t h d some at named. lies h 0 (hook_is t h at) some ∙ starts ∙ get_or_from_slice_get hooks 0 d 0 (subst (λ k. slice_get hooks k ≡ Some d) (index_is t h at) named);
      in_step = λ t h p k later at less turn first. absurd (omega (arith, later, index_is t h at));
    }
