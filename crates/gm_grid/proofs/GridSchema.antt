-- The grid's schema is one of a map: its labels are 1 and 2, and its name is no word of the formats.
use Rattle.std.proofs.Common.{◌≡◌, ◌≢◌, ℕ, zero, suc, ◌^◌, ◌/◌, ◌≤◌, false, inl, inr, refl, sym, subst, ◌∙◌, codes, IsTrue, arith}
use Rattle.std.specs.Str.{bytes_eq}
use Rattle.std.proofs.Math.Nat.{div-eq_of_lt}
use Rattle.std.proofs.Math.Pow.{pow_mono}
use Rattle.std.proofs.lemmas.Bool.{cases_lt, false≢true}
use Rattle.std.proofs.lemmas.Option.{same_Some}
use Rattle.std.proofs.lemmas.List.Elements.{All-contains, All-from_recursion}
use Rattle.gm_model.specs.declared.schema.Embed.{Embed}
use Rattle.gm_model.specs.declared.value.Kind.TheVariants as kinds
use Rattle.gm_model.specs.Labels.{has}
use Rattle.gm_model.specs.Maps.{IsEmbedAt, IsSchema}
use Rattle.gm_model.specs.Names.{reserved, IsReserved}
use Rattle.gm_grid.specs.GridMap.{positions, grid_schema}

pub only_positions : (P : ℕ → Embed → Type 0) → P 0 positions → (e : ℕ) (embed : Embed) → IsEmbedAt grid_schema e embed → P e embed
only_positions P holds zero embed at = subst (P 0) (same_Some positions embed at) holds
only_positions P holds (suc e) embed at = absurd cc

pub label_low : (i : ℕ) → IsTrue (has positions.mask i) → i ≤ 2
label_low i there = elim (cases_lt 2 i) [
  | inl above ↦
      let above_two : 3 ≤ i = omega (arith, above) in
      let larger : 2 ^ 3 ≤ 2 ^ i = pow_mono above_two in
      let none : 6 / 2 ^ i ≡ 0 = div-eq_of_lt (omega (arith, larger)) in
      absurd (false≢true (rw none at there))
  | inr within ↦ within
]

free : IsReserved (codes "pos") → ⊥
free among =
    let same : bytes_eq (codes "pos") (codes "pos") ≡ false = All-contains (λ word. bytes_eq word (codes "pos") ≡ false) reserved (codes "pos") (All-from_recursion (λ word. bytes_eq word (codes "pos") ≡ false) reserved
    (refl, (refl, (refl, (refl, (refl, (refl, (refl, (refl, (refl, (refl, (refl, (refl, (refl, (refl, (refl, (refl, (refl, (refl, (refl, tt)))))))))))))))))))) among in
    absurd cc

only_first : (e : ℕ) (embed : Embed) → IsEmbedAt grid_schema e embed → e ≡ 0
only_first e embed at = only_positions (λ e' embed'. e' ≡ 0) refl e embed at

pub is_schema : IsSchema grid_schema
is_schema = record {
  count = omega arith;
  kinds = λ e embed at. only_positions (λ e' embed'. embed'.kind ≢ kinds.Bool) (λ same. absurd cc) e embed at;
  labels = λ e i embed at there. only_positions (λ e' embed'. IsTrue (has embed'.mask i) → i ≤ 2) (label_low i) e embed at there;
  free = λ e embed at. only_positions (λ e' embed'. IsReserved embed'.name → ⊥) free e embed at;
  differ = λ e e' embed embed' at at' same. only_first e embed at ∙ sym (only_first e' embed' at');
}
