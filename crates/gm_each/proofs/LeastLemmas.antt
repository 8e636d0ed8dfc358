-- The leads among the first names: a name that no orbit of an earlier one has is the least of its own.
use Rattle.std.proofs.Common.{◌≡◌, ℕ, ◌+◌, ◌<◌, ◌≤◌, List, [], ◌∷◌, ◌++◌, IsTrue, length, get_or, ap, subst, ◌∙◌, inl, inr, arith}
use Rattle.std.specs.FinMap.{keys}
use Rattle.std.specs.List.{Contains}
use Rattle.std.specs.List.Sorted.{IsStrictlyIncreasing}
use Rattle.std.proofs.lemmas.Bool.{cases_lt}
use Rattle.std.proofs.lemmas.List.{get_or_append_left, get_or_push, length_push}
use Rattle.gm_model.specs.declared.word.Letter.{Letter}
use Rattle.gm_model.specs.Maps.{IsGeneralised}
use Rattle.gm_model.specs.Orbits.{Labels, IsInOrbit, IsLead, IsListOf}
use Rattle.gm_arena.specs.inner.ArenaAsMap.{as_map}
use Rattle.gm_arena.specs.inner.ArenaMap.{ArenaMap, IsLiveName, alpha}
use Rattle.gm_walk.specs.inner.Seen.{HasGrownBy, HasLettersOf, IsClosed}
use Rattle.gm_walk.proofs.CountLemmas.{IsEarly, is_live, is_named, less_than_next, listed_all, listed_no, listed_none, listed_yes, rises}
use Rattle.gm_walk.proofs.GrowLemmas.{contains_on, grown_closed, grown_only}
use Rattle.gm_walk.proofs.LeadLemmas.{has_orbit}
use Rattle.gm_walk.proofs.OrbitLemmas.{live_along, orbit_back}

-- Of the first names the orbits were met, and the leads among these names are listed.
pub record HasListed (m : ArenaMap) (o : Labels) (word : List Letter) (names : List ℕ) (p : ℕ) (darts leads : List ℕ) : Type 0 where
  pub closed : IsClosed m word darts
  pub live : (d : ℕ) → Contains darts d → IsLiveName m d
  pub met : (q : ℕ) → q < p → Contains darts (get_or names q 0)
  pub led : (d : ℕ) → Contains darts d → (q : ℕ) × (q < p) × IsInOrbit (alpha m) o (get_or names q 0) d
  pub ascending : IsStrictlyIncreasing leads
  pub listed : IsListOf (IsEarly (IsLead (IsLiveName m) (alpha m) o) names p) leads

push_rises : (xs : List ℕ) (x : ℕ) → IsStrictlyIncreasing xs → ((q : ℕ) → q < length xs → get_or xs q 0 < x) → IsStrictlyIncreasing (xs ++ x ∷ [])
push_rises xs x up below k within = elim (cases_lt (k + 1) (length xs)) [
  | inl l ↦ (let less = up k l in omega (arith, less, get_or_append_left xs (x ∷ []) 0 k (omega arith), get_or_append_left xs (x ∷ []) 0 (k + 1) l))
  | inr l ↦
      let end : length xs ≡ k + 1 = omega (arith, within, length_push xs x) in
      let less = below k (omega arith) in
      omega (arith, less, get_or_append_left xs (x ∷ []) 0 k (omega arith), get_or_push xs x 0 (k + 1) end)
]

module _ (m : ArenaMap) (gmap : IsGeneralised (as_map m)) (o : Labels) (few : (i : ℕ) → IsTrue (o i) → i ≤ m.schema.dim) (word : List Letter) (letters : HasLettersOf o word) (names : List ℕ) (e : names ≡ keys m.darts) where
  pub none_listed : HasListed m o word names 0 [] []
  none_listed = record {
    closed = λ d l c h. absurd (let k = c.1 in omega arith);
    live = λ d c. absurd (let k = c.1 in omega arith);
    met = λ q h. absurd (omega arith);
    led = λ d c. absurd (let k = c.1 in omega arith);
    ascending = λ k h. absurd (omega arith);
    listed = listed_none (IsLead (IsLiveName m) (alpha m) o) m names e;
  }

  pub all_listed : (p : ℕ) (darts leads : List ℕ) → length names ≤ p → HasListed m o word names p darts leads → IsListOf (IsLead (IsLiveName m) (alpha m) o) leads
  all_listed p darts leads past old = listed_all (IsLead (IsLiveName m) (alpha m) o) m names e p leads past (λ d lead. lead.live) old.listed

  module _ (p : ℕ) (within : p < length names) (darts leads : List ℕ) (old : HasListed m o word names p darts leads) where
    back : (x y : ℕ) → IsLiveName m x → IsInOrbit (alpha m) o x y → IsInOrbit (alpha m) o y x
    back x y lives to = orbit_back m.schema.dim (IsLiveName m) (alpha m) o gmap few x y lives to

    -- a name that was met is in the orbit of an earlier one
    pub met_listed : Contains darts (get_or names p 0) → HasListed m o word names (p + 1) darts leads
    met_listed there =
        let by = old.led (get_or names p 0) there in
        let less = rises (λ d. ℕ) m names e by.0 p by.1 within in
        let lives = is_live (λ d. ℕ) m names e by.0 0 (omega (arith, by.1)) in
        record {
          closed = old.closed;
          live = old.live;
          met = λ q h. elim (cases_lt q p) [
            | inl l ↦ old.met q l
            | inr l ↦ (let same : p ≡ q = omega arith in subst (λ k. Contains darts (get_or names k 0)) same there)
          ];
          led = λ x c. (let r = old.led x c in (r.0, omega (arith, r.1), r.2));
          ascending = old.ascending;
          listed = listed_no (IsLead (IsLiveName m) (alpha m) o) m names e p within leads old.listed (λ lead.
              let no = lead.least (get_or names by.0 0) (back (get_or names by.0 0) (get_or names p 0) lives by.2) lives in
              omega (arith, no, less));
        }

    -- a name that wasn't is the least of its orbit
    pub new_listed : (Contains darts (get_or names p 0) → ⊥) → (new : List ℕ) → HasGrownBy m word (get_or names p 0) darts new → HasListed m o word names (p + 1) new (leads ++ get_or names p 0 ∷ [])
    new_listed lacks new grown =
        let live = is_live (λ d. ℕ) m names e p 0 within in
        record {
          closed = grown_closed m word (get_or names p 0) darts new grown old.closed;
          live = λ x c. elim (grown_only m word (get_or names p 0) darts new grown o letters x c) [
            | inl k ↦ old.live x k
            | inr to ↦ subst (IsLiveName m) to.2 (live_along m.schema.dim (IsLiveName m) (alpha m) o gmap few to.0 (get_or names p 0) live to.1)
          ];
          met = λ q h. elim (cases_lt q p) [
            | inl l ↦ contains_on darts new grown.longer grown.front (get_or names q 0) (old.met q l)
            | inr l ↦ (let same : p ≡ q = omega arith in subst (λ k. Contains new (get_or names k 0)) same grown.there)
          ];
          led = λ x c. elim (grown_only m word (get_or names p 0) darts new grown o letters x c) [
            | inl k ↦ (let r = old.led x k in (r.0, omega (arith, r.1), r.2))
            | inr to ↦ (p, omega arith, to)
          ];
          ascending = push_rises leads (get_or names p 0) old.ascending (less_than_next (IsLead (IsLiveName m) (alpha m) o) m names e p within leads old.listed);
          listed = listed_yes (IsLead (IsLiveName m) (alpha m) o) m names e p within leads old.listed (record { live = live; least = least live });
        }
      where
        least : IsLiveName m (get_or names p 0) → (x : ℕ) → IsInOrbit (alpha m) o (get_or names p 0) x → IsLiveName m x → get_or names p 0 ≤ x
        least live x to lives = elim (cases_lt x (get_or names p 0)) [
          | inr l ↦ l
          | inl l ↦
              let at = is_named (λ d. ℕ) m names e x lives in
              elim (cases_lt at.0 p) [
                | inl before ↦ absurd (lacks (has_orbit m o word letters darts old.closed x (get_or names p 0) (subst (Contains darts) at.2 (old.met at.0 before)) (back (get_or names p 0) x live to)))
                | inr after ↦ elim (cases_lt p at.0) [
                  | inl more ↦ (let up = rises (λ d. ℕ) m names e p at.0 more at.1 in omega (arith, up, at.2, l))
                  | inr end ↦ (let same : p ≡ at.0 = omega arith in let is : get_or names p 0 ≡ x = ap (λ k. get_or names k 0) same ∙ at.2 in omega (arith, is, l))
                ]
              ]
        ]
