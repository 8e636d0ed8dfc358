-- An orbit over two labels, followed along its two ends.
use Rattle.std.proofs.Common.{◌≡◌, ℕ, ◌+◌, ◌-◌, ◌*◌, ◌<◌, ◌≤◌, ◌⊎◌, List, [], ◌∷◌, ◌++◌, Some, IsTrue, length, get_or, slice_get, refl, sym, ap, subst, ◌∙◌, inl, inr, arith}
use Rattle.std.specs.List.{Contains}
use Rattle.std.proofs.lemmas.Bool.{cases_lt}
use Rattle.std.proofs.lemmas.List.{get_or_append_left, get_or_push, length_push}
use Rattle.std.proofs.lemmas.List.Elements.{Contains-push}
use Rattle.gm_model.specs.declared.word.Letter.{Letter}
use Rattle.gm_model.specs.declared.word.Letter.TheVariants.{At}
use Rattle.gm_model.specs.Maps.{IsGeneralised}
use Rattle.gm_model.specs.Orbits.{Labels, IsInOrbit}
use Rattle.gm_model.specs.Rules.{label_of}
use Rattle.gm_arena.specs.inner.ArenaAsMap.{as_map}
use Rattle.gm_arena.specs.inner.ArenaMap.{ArenaMap, IsLiveName, alpha}
use Rattle.gm_walk.specs.inner.Seen.{HasLettersOf, HasFollowed, HasGrownBy}
use Rattle.gm_walk.specs.inner.Walks.{along}
use Rattle.gm_walk.proofs.GrowLemmas.{contains_on}
use Rattle.gm_walk.proofs.OrbitLemmas.{orbit_join}
use Rattle.gm_walk.proofs.WalkLemmas.{place_cases}

-- two letters, and no more
pub two_letters : (word : List Letter) (i j : ℕ) → length word ≡ 2 → slice_get word 0 ≡ Some (At i) → slice_get word 1 ≡ Some (At j) → word ≡ At i ∷ At j ∷ []
two_letters [] i j two first second = absurd (omega arith)
two_letters (x ∷ []) i j two first second = absurd (omega arith)
two_letters (x ∷ (y ∷ [])) i j two first second = cc
two_letters (x ∷ (y ∷ (z ∷ word))) i j two first second = absurd (omega arith)

-- the steps of both ends
pub ring_steps : (n start after old new : ℕ) → old < new → after + old ≤ start + 1 + new → after + 4 * (n + 1) * old ≤ start + 4 * (n + 1) * new
ring_steps n start after old new more cost = go (new - old - 1) (omega arith)
  where
    go : (k : ℕ) → new ≡ old + k + 1 → after + 4 * (n + 1) * old ≤ start + 4 * (n + 1) * new
    go k e = rw e (omega (arith, more, cost))

-- the neighbour is in the list, or it is the next one
abbrev pub IsMet : List ℕ → ℕ → ℕ → Type 0
IsMet darts next d = Contains darts d ⊎ (next ≡ d)

-- As HasFollowed, on the way: the next dart, to which the label `behind` led, may be missing yet; `ahead` leads on from it.
pub record IsFollowing (m : ArenaMap) (first second d : ℕ) (old new : List ℕ) (next behind ahead : ℕ) : Type 0 where
  pub longer : length old ≤ length new
  pub front : (p : ℕ) → p < length old → get_or new p 0 ≡ get_or old p 0
  pub there : IsMet new next (alpha m first d)
  pub closed : (p i : ℕ) → length old ≤ p → p < length new → (i ≡ first) ⊎ (i ≡ second) → IsMet new next (alpha m i (get_or new p 0))
  pub only : (o : Labels) → IsTrue (o first) → IsTrue (o second) → (p : ℕ) → length old ≤ p → p < length new → IsInOrbit (alpha m) o d (get_or new p 0)
  pub back : Contains new (alpha m behind next)
  pub leads : (o : Labels) → IsTrue (o first) → IsTrue (o second) → IsInOrbit (alpha m) o d next
  pub turns : ((behind ≡ first) × (ahead ≡ second)) ⊎ ((behind ≡ second) × (ahead ≡ first))

one_on : (alpha : ℕ → ℕ → ℕ) (o : Labels) (i d e : ℕ) → IsTrue (o i) → alpha i d ≡ e → IsInOrbit alpha o d e
one_on alpha o i d e inside is = (i ∷ [], (inside, tt), is)

module _ (m : ArenaMap) (gmap : IsGeneralised (as_map m)) (first second d : ℕ) (old : List ℕ) where
  pub following_first : first ≤ m.schema.dim → IsLiveName m d → Contains old d → IsFollowing m first second d old old (alpha m first d) first second
  following_first few live c = record {
    longer = omega arith;
    front = λ p h. refl;
    there = inr refl;
    closed = λ p i h k. absurd (omega arith);
    only = λ o f s p h k. absurd (omega arith);
    back = subst (Contains old) (sym (gmap.back d first live few)) c;
    leads = λ o f s. one_on (alpha m) o first d (alpha m first d) f refl;
    turns = inl (refl, refl);
  }

  module _ (now : List ℕ) (next behind ahead : ℕ) (g : IsFollowing m first second d old now next behind ahead) where
    -- the next dart was walked: nothing is missing
    pub followed : Contains now next → HasFollowed m first second d old now
    followed c = record {
      longer = g.longer;
      front = g.front;
      there = met (alpha m first d) g.there;
      closed = λ p i h k label. met (alpha m i (get_or now p 0)) (g.closed p i h k label);
      only = g.only;
    }
      where
        met : (e : ℕ) → IsMet now next e → Contains now e
        met e (inl there) = there
        met e (inr is) = subst (Contains now) is c

    -- it is taken in, and its neighbour ahead is the next
    pub following_on : ahead ≤ m.schema.dim → IsLiveName m next → IsFollowing m first second d old (now ++ next ∷ []) (alpha m ahead next) ahead behind
    following_on few live = record {
      longer = omega (arith, g.longer, length_push now next);
      front = λ p h. get_or_append_left now (next ∷ []) 0 p (omega (arith, g.longer)) ∙ g.front p h;
      there = met (alpha m first d) g.there;
      closed = λ p i h k label. elim (place_cases now next p k) [
        | inl less ↦ subst (λ x. IsMet (now ++ next ∷ []) (alpha m ahead next) (alpha m i x)) (sym (get_or_append_left now (next ∷ []) 0 p less)) (met (alpha m i (get_or now p 0)) (g.closed p i h less label))
        | inr end ↦ subst (λ x. IsMet (now ++ next ∷ []) (alpha m ahead next) (alpha m i x)) (sym (get_or_push now next 0 p (sym end))) (both i (turned i label g.turns))
      ];
      only = λ o f s p h k. elim (place_cases now next p k) [
        | inl less ↦ subst (IsInOrbit (alpha m) o d) (sym (get_or_append_left now (next ∷ []) 0 p less)) (g.only o f s p h less)
        | inr end ↦ subst (IsInOrbit (alpha m) o d) (sym (get_or_push now next 0 p (sym end))) (g.leads o f s)
      ];
      back = subst (Contains (now ++ next ∷ [])) (sym (gmap.back next ahead live few)) (Contains-push now next);
      leads = λ o f s. orbit_join (alpha m) o d next (alpha m ahead next) (g.leads o f s) (one_on (alpha m) o ahead next (alpha m ahead next) (inside o f s g.turns) refl);
      turns = swapped g.turns;
    }
      where
        Turns : ℕ → ℕ → Type 0
        Turns behind ahead = ((behind ≡ first) × (ahead ≡ second)) ⊎ ((behind ≡ second) × (ahead ≡ first))

        swapped : Turns behind ahead → Turns ahead behind
        swapped (inl t) = inr (t.1, t.0)
        swapped (inr t) = inl (t.1, t.0)

        turned : (i : ℕ) → (i ≡ first) ⊎ (i ≡ second) → Turns behind ahead → (i ≡ behind) ⊎ (i ≡ ahead)
        turned i (inl l) (inl t) = inl (l ∙ sym t.0)
        turned i (inl l) (inr t) = inr (l ∙ sym t.1)
        turned i (inr l) (inl t) = inr (l ∙ sym t.1)
        turned i (inr l) (inr t) = inl (l ∙ sym t.0)

        inside : (o : Labels) → IsTrue (o first) → IsTrue (o second) → Turns behind ahead → IsTrue (o ahead)
        inside o f s (inl t) = subst (λ i. IsTrue (o i)) (sym t.1) s
        inside o f s (inr t) = subst (λ i. IsTrue (o i)) (sym t.1) f

        kept : (e : ℕ) → Contains now e → Contains (now ++ next ∷ []) e
        kept = contains_on now (now ++ next ∷ []) (omega (arith, length_push now next)) (λ p h. get_or_append_left now (next ∷ []) 0 p h)

        met : (e : ℕ) → IsMet now next e → IsMet (now ++ next ∷ []) (alpha m ahead next) e
        met e (inl there) = inl (kept e there)
        met e (inr is) = inl (subst (Contains (now ++ next ∷ [])) is (Contains-push now next))

        both : (i : ℕ) → (i ≡ behind) ⊎ (i ≡ ahead) → IsMet (now ++ next ∷ []) (alpha m ahead next) (alpha m i next)
        both i (inl same) = inl (subst (λ i. Contains (now ++ next ∷ []) (alpha m i next)) (sym same) (kept (alpha m behind next) g.back))
        both i (inr same) = inr (ap (λ i. alpha m i next) (sym same))

-- both ends of a dart are its orbit
module _ (m : ArenaMap) (first second d : ℕ) (old two new : List ℕ) (there : HasFollowed m first second d (old ++ d ∷ []) two) (back : HasFollowed m second first d two new) where
  abbrev one : List ℕ
  one = old ++ d ∷ []

  abbrev pub word : List Letter
  word = At first ∷ At second ∷ []

  longer : length one ≡ length old + 1
  longer = length_push old d

  starts : (p : ℕ) → length old ≤ p → p < length one → get_or one p 0 ≡ d
  starts p h k = get_or_push old d 0 p (omega (arith, longer))

  kept : (e : ℕ) → Contains two e → Contains new e
  kept = contains_on two new back.longer back.front

  starts_still : (p : ℕ) → length old ≤ p → p < length one → get_or new p 0 ≡ d
  starts_still p h k = back.front p (omega (arith, there.longer)) ∙ (there.front p k ∙ starts p h k)

  near : (p i : ℕ) → length old ≤ p → p < length new → (i ≡ first) ⊎ (i ≡ second) → Contains new (alpha m i (get_or new p 0))
  near p i h k label = elim (cases_lt p (length one)) [
    | inl less ↦ subst (λ x. Contains new (alpha m i x)) (sym (starts_still p h less)) (elim label [
      | inl same ↦ subst (λ i. Contains new (alpha m i d)) (sym same) (kept (alpha m first d) there.there)
      | inr same ↦ subst (λ i. Contains new (alpha m i d)) (sym same) back.there
    ])
    | inr past ↦ elim (cases_lt p (length two)) [
      | inl less ↦ subst (λ x. Contains new (alpha m i x)) (sym (back.front p less)) (kept (alpha m i (get_or two p 0)) (there.closed p i past less label))
      | inr more ↦ back.closed p i more k (elim label [ inl same ↦ inr same | inr same ↦ inl same ])
    ]
  ]

  pub ring_grown : HasGrownBy m word d old new
  ring_grown = record {
    longer = omega (arith, longer, there.longer, back.longer);
    front = λ p h.
        back.front p (omega (arith, longer, there.longer))
        ∙ (there.front p (omega (arith, longer)) ∙ get_or_append_left old (d ∷ []) 0 p h);
    there = kept d (contains_on one two there.longer there.front d (Contains-push old d));
    closed = λ p place h k within. elim (cases_lt place 1) [
      | inl less ↦ (let zero : 0 ≡ place = omega arith in subst (λ place. Contains new (along m word (get_or new p 0) place)) zero (near p first h k (inl refl)))
      | inr more ↦ (let one : 1 ≡ place = omega arith in subst (λ place. Contains new (along m word (get_or new p 0) place)) one (near p second h k (inr refl)))
    ];
    only = λ o has p h k.
        let f = letter o has 0 first refl in
        let s = letter o has 1 second refl in
        elim (cases_lt p (length one)) [
          | inl less ↦ ([], tt, sym (starts_still p h less))
          | inr past ↦ elim (cases_lt p (length two)) [
            | inl less ↦ subst (IsInOrbit (alpha m) o d) (sym (back.front p less)) (there.only o f s p past less)
            | inr more ↦ back.only o s f p more k
          ]
        ];
  }
    where
      letter : (o : Labels) → HasLettersOf o word → (place i : ℕ) → slice_get word place ≡ Some (At i) → IsTrue (o i)
      letter o has place i e = let by = has.only place (At i) e in subst (λ i. IsTrue (o i)) (sym (ap label_of by.1)) by.2
