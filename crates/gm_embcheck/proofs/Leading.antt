-- The least node of a right component, as the table of leaders has it.
use Rattle.std.proofs.Common.{◌≡◌, ◌≢◌, ℕ, ◌<◌, true, List, refl, arith}
use Rattle.gm_model.specs.declared.rule.Side.TheVariants.{Right}
use Rattle.gm_model.specs.Components.{HasSource, IsLeader}
use Rattle.gm_model.specs.Orbits.{Labels}
use Rattle.gm_model.specs.Rules.{Rule, has_word}
use Rattle.gm_embcheck.specs.inner.Bounds.{HasBounds}
use Rattle.gm_embcheck.specs.inner.Leaders.{leader_in, AreLeaders}
use Rattle.gm_embcheck.proofs.Joined.{joined_back, joined_same, joined_word}
use Rattle.gm_embcheck.proofs.Transfer.{same_source}

module _ (rule : Rule) (bounds : HasBounds rule) (e : ℕ) (o : Labels) (leaders : List ℕ) (h : AreLeaders rule.right_links o leaders) (x : ℕ) (b : x < 32) (on_right : has_word rule Right x ≡ true) where
  pub leads : leader_in leaders x ≡ x → IsLeader rule o x
  leads is = (
    on_right,
    (λ y before t. let early = h.least x y b (joined_back rule.right_links o y x t.1) in absurd (omega arith)),
  )

  -- a node that isn't the least of its component owes what the least one does
  pub led_source : leader_in leaders x ≢ x → ((y : ℕ) → y < x → has_word rule Right y ≡ true → HasSource rule e o y) → HasSource rule e o x
  led_source other earlier =
      let y = leader_in leaders x in
      let joined = h.joined x b in
      let there : has_word rule Right y ≡ true = joined_word rule bounds Right o x y joined on_right in
      let early = h.least x x b (joined_same rule.right_links o x x refl) in
      same_source rule e o y x (there, joined_back rule.right_links o x y joined) on_right (earlier y (omega (arith, other)) there)
