-- A worked text, in both versions: it stands for a map of one dart with a value, whose neighbours are itself.
use Rattle.std.proofs.Common.{◌≡◌, ℕ, zero, suc, eqb, false, true, pos, negsuc, List, [], ◌∷◌, inl, inr, refl, sym, ap, subst, ◌∙◌, codes, arith}
use Rattle.std.proofs.lemmas.Bool.{cases_Bool, eqb-true}
use Rattle.std.proofs.lemmas.List.Elements.{All-from_recursion}
use Rattle.gm_model.specs.declared.schema.Embed.{Embed}
use Rattle.gm_model.specs.declared.value.Kind.TheVariants as kinds
use Rattle.gm_model.specs.declared.value.Value.TheVariants.{Vec3}
use Rattle.gm_model.specs.Maps.{IsEmbedAt, IsDart, IsSchema, IsSound}
use Rattle.gm_model.specs.Orbits.{follow}
use Rattle.gm_model.specs.Values.{IsInValueRange, IsValueOf}
use Rattle.gm_text.proofs.SchemaSound.{form_sound}
use Rattle.gm_arena.specs.inner.Lawful.{AreGoodValues}
use Rattle.gm_mapfile.specs.MapText.{map_of, MapText}
use Rattle.gm_mapfile.specs.inner.Printing.{IsPrintable}
use Rattle.gm_mapfile.specs.declared.version.MapVersion.TheVariants as versions
use Rattle.gm_mapfile.proofs.Again.{printed}
use Rattle.gm_mapfile.proofs.Worked.{positions, schema, corner, sample, in_first, in_second}

declared : IsSchema schema
declared = form_sound (record {
  dim = 2;
  embeds = record { name = record { name = codes "pos"; place = 0 }; labels = record { label = 1; place = 0 } ∷ record { label = 2; place = 0 } ∷ []; kind = kinds.Vec3 } ∷ [];
}) ((refl, λ e. absurd cc), tt) (refl, (refl, (refl, (refl, (refl, (refl, (refl, (refl, (refl, tt)))))))))

fits : IsValueOf kinds.Vec3 (Vec3 (pos 4) (negsuc 0) (pos 0))
fits = record { kind_is = refl; range = (record { sfits = omega arith }, record { sfits = omega arith }, record { sfits = omega arith }) }

good : AreGoodValues schema corner.values
good = record { kinds = refl; ranges = All-from_recursion IsInValueRange corner.values (fits.range, tt) }

-- there is no other dart
alone : (d : ℕ) → IsDart (map_of sample) d → d ≡ 0
alone d live =
    elim (cases_Bool (eqb 0 d)) [
      | inl here ↦ sym (eqb-true 0 d here)
      | inr other ↦ absurd (let none : false ≡ true = rw other at live in cc)
    ]

-- nor another embedding
one_embed : (e : ℕ) (embed : Embed) → IsEmbedAt schema e embed → (e ≡ 0) × (positions ≡ embed)
one_embed zero embed at = (refl, cc at)
one_embed (suc e) embed at = absurd cc

itself : (i : ℕ) → (map_of sample).alpha i 0 ≡ 0
itself zero = refl
itself (suc zero) = refl
itself (suc (suc zero)) = refl
itself (suc (suc (suc i))) = refl

stays : (path : List ℕ) → follow (map_of sample).alpha path 0 ≡ 0
stays [] = refl
stays (i ∷ path) = ap (follow (map_of sample).alpha path) (itself i) ∙ stays path

neighbour : (i d : ℕ) → IsDart (map_of sample) d → (map_of sample).alpha i d ≡ 0
neighbour i d live = ap ((map_of sample).alpha i) (alone d live) ∙ itself i

sound : IsSound (map_of sample)
sound = record {
  is_map = record {
    below = λ d live. omega (arith, alone d live);
    values = λ e d embed at live.
        let one = one_embed e embed at in
        subst (λ (x : Embed). IsValueOf x.kind ((map_of sample).value e d)) one.1
        (subst (λ k. IsValueOf kinds.Vec3 ((map_of sample).value k d)) (sym one.0) (subst (λ k. IsValueOf kinds.Vec3 ((map_of sample).value 0 k)) (sym (alone d live)) fits));
  };
  generalised = record {
    stays = λ d i live low. subst (IsDart (map_of sample)) (sym (neighbour i d live)) refl;
    back = λ d i live low. ap ((map_of sample).alpha i) (neighbour i d live) ∙ itself i ∙ sym (alone d live);
    commutes = λ d i j live apart low. ap ((map_of sample).alpha i) (neighbour j d live) ∙ itself i ∙ sym (ap ((map_of sample).alpha j) (neighbour i d live) ∙ itself j);
  };
  embedded = λ e embed at d other live orbit.
      let start = alone d live in
      let end : other ≡ 0 = sym orbit.2 ∙ ap (follow (map_of sample).alpha orbit.0) start ∙ stays orbit.0 in
      ap ((map_of sample).value e) (start ∙ sym end);
}

printable : IsPrintable sample
printable = record {
  schema = declared;
  parts = (((omega arith, (refl, refl)), omega arith), tt);
  dim = (omega arith, omega arith);
  few = omega arith;
  darts = (record { name_small = omega arith; alphas_small = (omega arith, (omega arith, (omega arith, tt))); long = refl; values = good }, tt);
  ascending = λ k lt. absurd (omega arith);
  next = omega arith;
  sound = sound;
}

-- in the first version the next name is one more than the last
first_is_meant : MapText (codes "gmap 1\ndim 2\nembed pos <1 2> vec3\ndarts 1\n0 0 0 0 (4 -1 0)\n") versions.One (record sample { next = 1 })
first_is_meant = subst (λ text. MapText text versions.One (record sample { next = 1 })) in_first (printed versions.One sample printable)

second_is_meant : MapText (codes "gmap 2\ndim 2\nembed pos <1 2> vec3\nnext 5\ndarts 1\n0 0 0 0 (4 -1 0)\n") versions.Two sample
second_is_meant = subst (λ text. MapText text versions.Two sample) in_second (printed versions.Two sample printable)
