-- The nodes of one component owe the same.
use Rattle.std.proofs.Common.{◌≡◌, ℕ, ◌<◌, true, inl, inr, Some, sym, subst, ◌∙◌}
use Rattle.gm_model.specs.declared.rule.RuleFault.{RuleFault}
use Rattle.gm_model.specs.declared.rule.Side.TheVariants.{Right}
use Rattle.gm_model.specs.declared.schema.Embed.{Embed}
use Rattle.gm_model.specs.declared.schema.Schema.{Schema}
use Rattle.gm_model.specs.Components.{HasSource, IsTogether, IsEmbedFault, First}
use Rattle.gm_model.specs.Maps.{IsEmbedAt, type_of}
use Rattle.gm_model.specs.Orbits.{Labels}
use Rattle.gm_model.specs.Rules.{Rule, has_word}
use Rattle.gm_embcheck.specs.inner.Faults.{IsFirstComponentFault}
use Rattle.gm_embcheck.proofs.Joined.{joined_all, joined_back}

-- what the components owe over the embedding e
abbrev pub HasSourcesOf : Schema → Rule → ℕ → Type 0
HasSourcesOf schema rule e = (embed : Embed) → IsEmbedAt schema e embed → (x : ℕ) → has_word rule Right x ≡ true → HasSource rule e (type_of embed) x

module _ (rule : Rule) (e : ℕ) (o : Labels) (y x : ℕ) (together : IsTogether rule o y x) (on_right : has_word rule Right x ≡ true) where
  here_to_there : (z : ℕ) → IsTogether rule o x z → IsTogether rule o y z
  here_to_there z h = (together.0, joined_all rule.right_links o y x z together.1 h.1)

  there_to_here : (z : ℕ) → IsTogether rule o y z → IsTogether rule o x z
  there_to_here z h = (on_right, joined_all rule.right_links o x y z (joined_back rule.right_links o y x together.1) h.1)

  pub same_source : HasSource rule e o y → HasSource rule e o x
  same_source s = record {
    once = λ z w tz tw az aw. s.once z w (here_to_there z tz) (here_to_there w tw) az aw;
    source = elim s.source [
      | inl h ↦ inl (h.0, there_to_here h.0 h.1, h.2)
      | inr h ↦ inr (
        (λ z t a. h.0 z (here_to_there z t) a),
        (
          h.1.0,
          record {
            kept = record {
              together = there_to_here h.1.0 h.1.1.kept.together;
              preserved = h.1.1.kept.preserved;
              least = λ z b t p. h.1.1.kept.least z b (here_to_there z t) p;
            };
            one = λ z t p. h.1.1.one z (here_to_there z t) p;
            along = λ m z t l. h.1.1.along m z (here_to_there z t) l;
          },
        ),
      )
    ];
  }

-- ---- one embedding of the schema

module _ (schema : Schema) (rule : Rule) (e : ℕ) (declared : Embed) (here : IsEmbedAt schema e declared) where
  pub sources_of : ((x : ℕ) → has_word rule Right x ≡ true → HasSource rule e (type_of declared) x) → HasSourcesOf schema rule e
  sources_of h embed at = let same : declared ≡ embed = (let p : Some declared ≡ Some embed = sym here ∙ at in cc) in
      subst (λ (m : Embed). (x : ℕ) → has_word rule Right x ≡ true → HasSource rule e (type_of m) x) same h

  pub embed_fault : ((e' : ℕ) → e' < e → HasSourcesOf schema rule e') → (fault : RuleFault) → IsFirstComponentFault rule e (type_of declared) fault → IsEmbedFault schema rule fault
  embed_fault earlier fault h = First e declared h.x record {
    embed_at = here;
    leader = h.leader;
    here = h.here;
    earlier_embeds = λ e' embed' b at. earlier e' b embed' at;
    earlier_nodes = h.earlier;
  }
