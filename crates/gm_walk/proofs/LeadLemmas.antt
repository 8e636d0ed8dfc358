-- The least darts of the orbits that were met: one more for each orbit, in whatever order these are met.
use Rattle.std.proofs.Common.{◌≡◌, ℕ, zero, suc, ◌+◌, ◌<◌, ◌≤◌, List, [], ◌∷◌, ◌++◌, IsTrue, length, get_or, refl, sym, ap, subst, ◌∙◌, inl, inr, arith, ◌-◌}
use Rattle.std.specs.List.{Contains}
use Rattle.std.proofs.lemmas.Bool.{cases_lt}
use Rattle.std.proofs.lemmas.List.{get_or_default, length_push}
use Rattle.std.proofs.lemmas.List.Elements.{Contains-append_left, Contains-push, Contains-push_cases}
use Rattle.std.proofs.lemmas.Option.{slice_get_within}
use Rattle.gm_model.specs.declared.word.Letter.{Letter}
use Rattle.gm_model.specs.declared.word.Letter.TheVariants.{At}
use Rattle.gm_model.specs.Maps.{IsGeneralised}
use Rattle.gm_model.specs.Orbits.{Labels, HasOrbits, IsInOrbit, IsLead, IsPathIn, follow}
use Rattle.gm_arena.specs.inner.ArenaAsMap.{as_map}
use Rattle.gm_arena.specs.inner.ArenaMap.{ArenaMap, IsLiveName, alpha}
use Rattle.gm_walk.specs.inner.Seen.{HasLettersOf, HasMet, IsClosed, IsMetLead, HasGrownBy}
use Rattle.gm_walk.proofs.CountLemmas.{count_alike}
use Rattle.gm_walk.proofs.GrowLemmas.{contains_on, distinct_push, grown_closed, grown_only, label_there}
use Rattle.gm_walk.proofs.OrbitLemmas.{live_along, orbit_back, orbit_join}

module _ (m : ArenaMap) (o : Labels) (word : List Letter) (letters : HasLettersOf o word) where
  -- a closed list has the orbit of each of its darts
  along_path : (darts : List ℕ) → IsClosed m word darts → (path : List ℕ) (x : ℕ) → Contains darts x → IsPathIn o path → Contains darts (follow (alpha m) path x)
  along_path darts closed [] x c inside = c
  along_path darts closed (i ∷ path) x c inside =
      let place = letters.has i inside.0 in
      let next : Contains darts (alpha m i x) =
      subst (λ label. Contains darts (alpha m label x)) (label_there m word place.0 i place.1) (closed x place.0 c (slice_get_within word place.0 (At i) place.1)) in
      along_path darts closed path (alpha m i x) next inside.1

  pub has_orbit : (darts : List ℕ) → IsClosed m word darts → (d e : ℕ) → Contains darts d → IsInOrbit (alpha m) o d e → Contains darts e
  has_orbit darts closed d e c in_orbit = subst (Contains darts) in_orbit.2 (along_path darts closed in_orbit.0 d c in_orbit.1)

-- the place of the least of some numbers
least_place : (f : ℕ → ℕ) (n : ℕ) → (p : ℕ) × (p ≤ n) × ((q : ℕ) → q ≤ n → f p ≤ f q)
least_place f zero = (0, omega arith, λ q h. let e : q ≡ 0 = omega arith in subst (λ k. f 0 ≤ f k) (sym e) (omega arith))
least_place f (suc n) =
    let r = least_place f n in
    elim (cases_lt (f (suc n)) (f r.0)) [
      | inl less ↦ (
        suc n,
        omega arith,
        λ q h. elim (cases_lt q (suc n)) [
          | inl before ↦ (let k = r.2 q (omega arith) in omega arith)
          | inr end ↦ (let e : q ≡ suc n = omega arith in subst (λ k. f (suc n) ≤ f k) (sym e) (omega arith))
        ],
      )
      | inr more ↦ (
        r.0,
        (let k = r.1 in omega arith),
        λ q h. elim (cases_lt q (suc n)) [
          | inl before ↦ r.2 q (omega arith)
          | inr end ↦ (let e : q ≡ suc n = omega arith in subst (λ k. f r.0 ≤ f k) (sym e) more)
        ],
      )
    ]

pub nothing_met : (m : ArenaMap) (o : Labels) (word : List Letter) → HasMet m o word [] 0
nothing_met m o word = record {
  closed = λ d l c h. absurd (let k = c.1 in omega arith);
  live = λ d c. absurd (let k = c.1 in omega arith);
  leads = ([], record { distinct = λ p q h k. absurd (omega arith); same = λ d. ((λ c. absurd (let k = c.1 in omega arith)), (λ met. absurd (let k = met.1.1 in omega arith))) }, refl);
}

-- where each live dart was met, its orbit was counted
pub all_met : (m : ArenaMap) (o : Labels) (word : List Letter) (darts : List ℕ) (count : ℕ) → HasMet m o word darts count → ((d : ℕ) → IsLiveName m d → Contains darts d) → HasOrbits (IsLiveName m) (alpha m) o count
all_met m o word darts count met all = count_alike (IsMetLead m o darts) (IsLead (IsLiveName m) (alpha m) o) (λ d both. both.0) (λ d lead. (lead, all d lead.live)) count met.leads

module _ (m : ArenaMap) (gmap : IsGeneralised (as_map m)) (o : Labels) (few : (i : ℕ) → IsTrue (o i) → i ≤ m.schema.dim) (word : List Letter) (letters : HasLettersOf o word) (old : List ℕ) (count : ℕ) (met : HasMet m o word old count) (d : ℕ) (live : IsLiveName m d) (lacks : Contains old d → ⊥) (new : List ℕ) (grown : HasGrownBy m word d old new) where
  back : (x y : ℕ) → IsLiveName m x → IsInOrbit (alpha m) o x y → IsInOrbit (alpha m) o y x
  back x y lives to = orbit_back m.schema.dim (IsLiveName m) (alpha m) o gmap few x y lives to

  still : (x : ℕ) → Contains old x → Contains new x
  still x c = contains_on old new grown.longer grown.front x c

  closed : IsClosed m word new
  closed = grown_closed m word d old new grown met.closed

  along : (x : ℕ) → IsInOrbit (alpha m) o d x → IsLiveName m x
  along x to = subst (IsLiveName m) to.2 (live_along m.schema.dim (IsLiveName m) (alpha m) o gmap few to.0 d live to.1)

  -- no dart of the orbit was met before
  apart : (x : ℕ) → IsInOrbit (alpha m) o d x → Contains old x → ⊥
  apart x to c = lacks (has_orbit m o word letters old met.closed x d c (back d x live to))

  lives : (x : ℕ) → Contains new x → IsLiveName m x
  lives x c = elim (grown_only m word d old new grown o letters x c) [ inl k ↦ met.live x k | inr k ↦ along x k ]

  -- what is new begins where the old list ends
  late : (x : ℕ) → IsInOrbit (alpha m) o d x → (p : ℕ) × (length old + p < length new) × (get_or new (length old + p) 0 ≡ x)
  late x to =
      let c = has_orbit m o word letters new closed d x grown.there to in
      let e : get_or new c.0 0 ≡ x = get_or_default new c.0 0 x c.1 ∙ c.2 in
      elim (cases_lt c.0 (length old)) [
        | inl less ↦ absurd (apart x to (c.0, less, get_or_default old c.0 x 0 less ∙ (sym (grown.front c.0 less) ∙ e)))
        | inr more ↦ (c.0 - length old, (let h = c.1 in omega arith), (let same : length old + (c.0 - length old) ≡ c.0 = omega arith in ap (λ k. get_or new k 0) same ∙ e))
      ]

  -- the orbit has a least dart, and one only
  lead : (x : ℕ) × IsInOrbit (alpha m) o d x × IsLead (IsLiveName m) (alpha m) o x
  lead =
      let own = late d ([], tt, refl) in
      let f : ℕ → ℕ = λ p. get_or new (length old + p) 0 in
      let k : ℕ = length new - length old - 1 in
      let p = least_place f k in
      let h : length old + p.0 < length new = (let a = own.1 in let b = p.1 in omega arith) in
      let to : IsInOrbit (alpha m) o d (f p.0) = grown.only o letters (length old + p.0) (omega arith) h in (
        f p.0,
        to,
        record {
          live = along (f p.0) to;
          least = λ e on lives. let q = late e (orbit_join (alpha m) o d (f p.0) e to on) in subst (λ x. f p.0 ≤ x) q.2 (p.2 q.0 (let a = q.1 in omega arith));
        },
      )

  one_lead : (x : ℕ) → IsInOrbit (alpha m) o d x → IsLead (IsLiveName m) (alpha m) o x → lead.0 ≡ x
  one_lead x to other =
      let a = lead.2.least x (orbit_join (alpha m) o lead.0 d x (back d lead.0 live lead.1) to) other.live in
      let b = other.least lead.0 (orbit_join (alpha m) o x d lead.0 (back d x live to) lead.1) lead.2.live in
      omega arith

  -- so one more was counted
  pub one_met : HasMet m o word new (count + 1)
  one_met =
      let x = lead.0 in
      let leads = met.leads.0 in
      let are = met.leads.1 in
      record {
        closed = closed;
        live = lives;
        leads = (
          leads ++ x ∷ [],
          record {
            distinct = distinct_push leads x are.distinct (λ c. apart x lead.1 ((are.same x).0 c).1);
            same = λ e. (
              (λ c. elim (Contains-push_cases leads x e c) [
                | inl k ↦ (let both = (are.same e).0 k in (both.0, still e both.1))
                | inr k ↦ subst (IsMetLead m o new) k (lead.2, has_orbit m o word letters new closed d x grown.there lead.1)
              ]),
              (λ both. elim (grown_only m word d old new grown o letters e both.1) [
                | inl k ↦ Contains-append_left leads (x ∷ []) e ((are.same e).1 (both.0, k))
                | inr k ↦ subst (Contains (leads ++ x ∷ [])) (one_lead e k both.0) (Contains-push leads x)
              ]),
            );
          },
          length_push leads x ∙ ap (λ n. n + 1) met.leads.2,
        );
      }
