-- From the first preserved nodes by leader to the keepers of the right nodes.
use Rattle.std.proofs.Common.{◌≡◌, ℕ, ◌<◌, Bool, true, false, ◌&&◌, List, length, replicate, Option, Some, None, MatchOption, refl, arith}
use Rattle.std.proofs.lemmas.List.{get_or-replicate}
use Rattle.gm_model.specs.declared.rule.Side.TheVariants.{Left, Right}
use Rattle.gm_model.specs.Components.{IsKeeper, IsNew}
use Rattle.gm_model.specs.Orbits.{Labels}
use Rattle.gm_model.specs.Rules.{Rule, has_word, is_preserved}
use Rattle.gm_model.specs.Structure.{IsJoined}
use Rattle.gm_model.proofs.Nodes.{node_below}
use Rattle.gm_embcheck.specs.inner.Bounds.{HasBounds}
use Rattle.gm_embcheck.specs.inner.Keepers.{AreFirstPreserved, IsFirstOf, IsPreservedOf}
use Rattle.gm_embcheck.specs.inner.Leaders.{leader_in, AreLeaders}
use Rattle.gm_embcheck.proofs.Joined.{joined_same, joined_word}
use Rattle.gm_embcheck.proofs.Leaders.{same_leader, led_joined}

second_true : (a b : Bool) → (a && b) ≡ true → b ≡ true
second_true true b h = h
second_true false b h = cc

-- before the first node is looked at
pub none_yet : (rule : Rule) (leaders : List ℕ) → AreFirstPreserved rule leaders 0 (replicate 32 None)
none_yet rule leaders leader b = rw (get_or-replicate {A = Option ℕ} 32 leader None None b) (λ y early. absurd (omega arith))

module _ (rule : Rule) (bounds : HasBounds rule) (o : Labels) (leaders : List ℕ) (h : AreLeaders rule.right_links o leaders) where
  pub leader_below : (x : ℕ) → x < 32 → leader_in leaders x < 32
  leader_below x b = let early = h.least x x b (joined_same rule.right_links o x x refl) in omega arith

  module _ (x : ℕ) (on_right : has_word rule Right x ≡ true) where
    within : (y : ℕ) → has_word rule Right y ≡ true → y < 32
    within y w = let b = node_below rule Right y w in let few = bounds.nodes in omega arith

    here_there : (y : ℕ) → IsJoined rule.right_links o x y → leader_in leaders y ≡ leader_in leaders x
    here_there y p = same_leader rule.right_links o leaders h x y (within x on_right) (within y (joined_word rule bounds Right o x y p on_right)) p

    kept_right : (y : ℕ) → is_preserved rule y ≡ true → has_word rule Right y ≡ true
    kept_right y p = second_true (has_word rule Left y) (has_word rule Right y) p

    pub keeper_here : (found : Option ℕ) →
        MatchOption found ((y : ℕ) → y < length rule.nodes → IsPreservedOf rule leaders (leader_in leaders x) y → ⊥) (IsFirstOf rule leaders (leader_in leaders x)) →
        MatchOption found (IsNew rule o x) (IsKeeper rule o x)
    keeper_here None none = λ y t p. none y (node_below rule Right y (kept_right y p)) (here_there y t.1, p)
    keeper_here (Some keeper) first = record {
      together = (on_right, led_joined rule.right_links o leaders h x keeper (within x on_right) (within keeper (kept_right keeper first.has.1)) first.has.0);
      preserved = first.has.1;
      least = λ y b t p. first.before y b (here_there y t.1, p);
    }

pub keeper_node : (rule : Rule) (o : Labels) (x keeper : ℕ) → HasBounds rule → IsKeeper rule o x keeper → keeper < 32
keeper_node rule o x keeper bounds k =
    let b = node_below rule Right keeper (second_true (has_word rule Left keeper) (has_word rule Right keeper) k.preserved) in
    let few = bounds.nodes in
    omega arith
