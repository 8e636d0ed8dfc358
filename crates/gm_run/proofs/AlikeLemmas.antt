-- Being alike is an equivalence of maps, and a map that is alike to a sound map is sound.
use Rattle.std.proofs.Common.{◌≡◌, ℕ, zero, suc, ◌<◌, ◌≤◌, List, [], ◌∷◌, length, Some, slice_get, IsTrue, refl, sym, ap, subst, ◌∙◌, arith}
use Rattle.gm_model.specs.declared.schema.Embed.{Embed}
use Rattle.gm_model.specs.declared.schema.Schema.{Schema}
use Rattle.gm_model.specs.Acceptance.{IsAccepted}
use Rattle.gm_model.specs.Maps.{Map, IsDart, IsEmbedAt, IsGeneralised, IsMap, IsSchema, IsSound, dimension, type_of}
use Rattle.gm_model.specs.Matches.{Placement, IsInstance}
use Rattle.gm_model.specs.Rules.{Rule}
use Rattle.gm_model.specs.Values.{IsValueOf}
use Rattle.gm_theory.specs.inner.OneMatch.{IsLike}
use Rattle.gm_apply.proofs.LikeOrbits.{orbit_same, orbit_live}
use Rattle.gm_apply.proofs.LikePlaces.{AreLikeAt}
use Rattle.gm_run.specs.inner.Alike.{AreAlike}

pub alike_self : (m : Map) → AreAlike m m
alike_self m = record {
  schema = refl;
  same = record { next = refl; darts = λ d. (λ h. h, λ h. h); arcs = λ d i live h. refl };
  values = λ e d embed at live. refl;
}

-- a label of one is a label of the other
pub label_there : (a b : Map) → a.schema ≡ b.schema → (i : ℕ) → i ≤ dimension a → i ≤ dimension b
label_there a b same i h = subst (λ (s : Schema). i ≤ s.dim) same h

pub alike_back : (a b : Map) → AreAlike a b → AreAlike b a
alike_back a b alike = record {
  schema = sym alike.schema;
  same = record {
    next = sym alike.same.next;
    darts = λ d. ((alike.same.darts d).1, (alike.same.darts d).0);
    arcs = λ d i live h. sym (alike.same.arcs d i ((alike.same.darts d).1 live) (label_there b a (sym alike.schema) i h));
  };
  values = λ e d embed at live. sym (alike.values e d embed (subst (λ (s : Schema). IsEmbedAt s e embed) (sym alike.schema) at) ((alike.same.darts d).1 live));
}

pub alike_on : (a b c : Map) → AreAlike a b → AreAlike b c → AreAlike a c
alike_on a b c first second = record {
  schema = first.schema ∙ second.schema;
  same = record {
    next = first.same.next ∙ second.same.next;
    darts = λ d. (λ h. (second.same.darts d).0 ((first.same.darts d).0 h), λ h. (first.same.darts d).1 ((second.same.darts d).1 h));
    arcs = λ d i live h. first.same.arcs d i live h ∙ second.same.arcs d i ((first.same.darts d).0 live) (label_there a b first.schema i h);
  };
  values = λ e d embed at live. first.values e d embed at live ∙ second.values e d embed (subst (λ (s : Schema). IsEmbedAt s e embed) first.schema at) ((first.same.darts d).0 live);
}

pub alike_generalised : (a b : Map) → AreAlike a b → IsGeneralised a → IsGeneralised b
alike_generalised a b alike old = record {
  stays = λ d i live h. subst (IsDart b) (alike.same.arcs d i (live_back d live) (label_back i h)) ((alike.same.darts (a.alpha i d)).0 (old.stays d i (live_back d live) (label_back i h)));
  back = λ d i live h. two d i i live h h ∙ old.back d i (live_back d live) (label_back i h);
  commutes = λ d i j live far h.
      let low : i ≤ dimension b = omega (arith, far, h) in
      two d i j live low h ∙ old.commutes d i j (live_back d live) far (label_back j h) ∙ sym (two d j i live h low);
}
  where
    live_back : (d : ℕ) → IsDart b d → IsDart a d
    live_back d live = (alike.same.darts d).1 live

    label_back : (i : ℕ) → i ≤ dimension b → i ≤ dimension a
    label_back i h = label_there b a (sym alike.schema) i h

    -- two steps on
    two : (d i j : ℕ) → IsDart b d → i ≤ dimension b → j ≤ dimension b → b.alpha i (b.alpha j d) ≡ a.alpha i (a.alpha j d)
    two d i j live h k =
        ap (b.alpha i) (sym (alike.same.arcs d j (live_back d live) (label_back j k)))
        ∙ sym (alike.same.arcs (a.alpha j d) i (old.stays d j (live_back d live) (label_back j k)) (label_back i h))

pub alike_map : (a b : Map) → AreAlike a b → IsMap a → IsMap b
alike_map a b alike old = record {
  below = λ d live. subst (λ n. d < n) alike.same.next (old.below d ((alike.same.darts d).1 live));
  values = λ e d embed at live.
      let at_first = subst (λ (s : Schema). IsEmbedAt s e embed) (sym alike.schema) at in
      let live_first = (alike.same.darts d).1 live in
      subst (IsValueOf embed.kind) (alike.values e d embed at_first live_first) (old.values e d embed at_first live_first);
}

pub alike_sound : (a b : Map) → AreAlike a b → IsSchema a.schema → IsSound a → IsSound b
alike_sound a b alike of_schema old = record {
  is_map = alike_map a b alike old.is_map;
  generalised = alike_generalised a b alike old.generalised;
  embedded = λ e embed at d d' live orbit.
      let at_first = subst (λ (s : Schema). IsEmbedAt s e embed) (sym alike.schema) at in
      let back = alike_back a b alike in
      let generalised = alike_generalised a b alike old.generalised in
      let low : (i : ℕ) → IsTrue (type_of embed i) → i ≤ dimension b = λ i h. subst (λ (s : Schema). i ≤ s.dim) alike.schema (of_schema.labels e i embed at_first h) in
      let orbit_first = orbit_same (dimension b) (IsDart b) b.alpha a.alpha generalised.stays back.same.arcs (type_of embed) low d d' live orbit in
      let live_first = (alike.same.darts d).1 live in
      let live_there = (alike.same.darts d').1 (orbit_live (dimension b) (IsDart b) b.alpha a.alpha generalised.stays back.same.arcs (type_of embed) low d d' live orbit) in
      sym (alike.values e d embed at_first live_first) ∙ old.embedded e embed at_first d d' live_first orbit_first ∙ alike.values e d' embed at_first live_there;
}

-- What is used of a rule and a map: the map is sound, and the rule is accepted for it.
pub record Suits (rule : Rule) (map : Map) : Type 0 where
  pub of_schema : IsSchema map.schema
  pub sound : IsSound map
  pub accepted : IsAccepted map.schema rule

pub suits_too : (rule : Rule) (a b : Map) → AreAlike a b → Suits rule a → Suits rule b
suits_too rule a b alike suits = record {
  of_schema = subst IsSchema alike.schema suits.of_schema;
  sound = alike_sound a b alike suits.of_schema suits.sound;
  accepted = subst (λ (s : Schema). IsAccepted s rule) alike.schema suits.accepted;
}

pub some_embed : (embeds : List Embed) (e : ℕ) → e < length embeds → (embed : Embed) × (slice_get embeds e ≡ Some embed)
some_embed [] e within = absurd (omega (arith, within))
some_embed (embed ∷ embeds) zero within = (embed, refl)
some_embed (embed ∷ embeds) (suc e) within = some_embed embeds e (omega (arith, within))

-- a match lies alike in both maps
pub alike_at : (rule : Rule) (a b : Map) → AreAlike a b → Suits rule a → (place other : Placement) → IsLike rule place other → ((x p : ℕ) → IsInstance rule place x p → IsDart a (place.dart_of x p)) → AreLikeAt rule a b place other
alike_at rule a b alike suits place other like live = record {
  accepted = suits.accepted;
  first_map = suits.sound.is_map;
  first_generalised = suits.sound.generalised;
  second_map = alike_map a b alike suits.sound.is_map;
  second_generalised = alike_generalised a b alike suits.sound.generalised;
  schema = alike.schema;
  next = alike.same.next;
  darts = alike.same.darts;
  arcs = alike.same.arcs;
  values = λ e d within. let embed = some_embed a.schema.embeds e within in alike.values e d embed.0 embed.1;
  like = like;
  live = live;
}
