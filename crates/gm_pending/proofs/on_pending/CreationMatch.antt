-- The match of a rule without left nodes: one position, and no slots.
use Rattle.std.proofs.Common.{◌≡◌, ℕ, ◌<◌, List, [], ◌∷◌, length, IsTrue, is_some, refl, sym, ◌∙◌, arith}
use Rattle.std.specs.FinMap.{get, get-empty}
use Rattle.std.proofs.lemmas.Bool.{false≢true}
use Rattle.gm_model.specs.declared.rule.Side.TheVariants.{Left}
use Rattle.gm_model.specs.Matches.{Created}
use Rattle.gm_model.specs.Rules.{Rule, has_word}
use Rattle.gm_model.specs.declared.schema.Schema.{Schema}
use Rattle.gm_model.specs.Maps.{IsGeneralised}
use Rattle.gm_arena.specs.inner.ArenaAsMap.{as_map}
use Rattle.gm_arena.specs.inner.ArenaMap.{ArenaMap}
use Rattle.gm_arena.specs.inner.Edits.{empty_map}
use Rattle.gm_plan.specs.inner.InArena.{AreMatched}
use Rattle.gm_plan.specs.inner.Placed.{Placed}
use Rattle.gm_plan.specs.inner.Plans.{IsLeftCount}
use Rattle.gm_theory.proofs.Lists.{none_some}
use Rattle.gm_theory.proofs.Turns.{no_places}

no_length : (xs : List ℕ) → length xs ≡ 0 → xs ≡ []
no_length [] e = refl
no_length (x ∷ xs) e = absurd (omega arith)

pub created : (m : ArenaMap) (rule : Rule) (placed : Placed) → IsLeftCount rule 0 → length rule.hooks ≡ 0 → placed.nodes ≡ 0 → placed.positions ≡ 1 → placed.places ≡ 0 → AreMatched m rule [] placed
created m rule placed none hooks nodes one places = record {
  nodes = rw nodes none;
  places = places ∙ sym (no_places rule no_hooks);
  live = λ x p h b. absurd (omega (arith, nodes));
  is_match = record {
    count = sym hooks;
    walk = [];
    positions = Created no_hooks one;
    hooked = λ h p first b. none_some h (rw no_hooks at first);
    at_darts = λ t h d there named. none_some h (rw no_hooks at there);
    embedded = record {
      live = λ x p at. absurd (not_left x at.0);
      injective = λ x p y q at at' e. absurd (not_left x at.0);
      steps = λ x p i at h. absurd (not_left x at.0);
    };
  };
}
  where
    no_hooks : rule.hooks ≡ []
    no_hooks = no_length rule.hooks hooks

    not_left : (x : ℕ) → IsTrue (has_word rule Left x) → ⊥
    not_left x l = let h : x < 0 = (none x).0 l in omega arith

-- a map without darts is a generalised map
pub empty_generalised : (m : ArenaMap) (schema : Schema) → m ≡ empty_map schema → IsGeneralised (as_map m)
empty_generalised m schema e = record {
  stays = λ d i live h. absurd (none d live);
  back = λ d i live h. absurd (none d live);
  commutes = λ d i j live far h. absurd (none d live);
}
  where
    none : (d : ℕ) → IsTrue (is_some (get m.darts d)) → ⊥
    none d live = false≢true (rw (e, get-empty) at live)
