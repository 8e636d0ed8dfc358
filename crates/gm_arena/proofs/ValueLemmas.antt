-- The parts that the slots have of a list, after those of one slot were written.
use Rattle.std.proofs.Common.{◌≡◌, ℕ, ◌+◌, ◌-◌, ◌*◌, ◌<◌, ◌≤◌, List, ◌++◌, set, take, drop, length, max, refl, sym, ap, ap₂, ◌∙◌, inl, inr, arith, length-append, length-drop, [], ◌∷◌}
use Rattle.std.proofs.lemmas.Bool.{cases_lt}
use Rattle.std.proofs.lemmas.Nat.{mul-le}
use Rattle.std.proofs.Math.Seq.{take-set-lt}
use Rattle.std.proofs.lemmas.List.{drop-take, drop-set-lt, drop-set-add, take-set-le, take-take, take_at, get_or-set_same, length-set, length-take-le, length-map, take_more, take-set}
use Rattle.std.proofs.lemmas.Slice.{take-put_mid_below, drop-put_mid, between-put_mid}
use Rattle.gm_model.specs.declared.schema.Schema.{Schema}
use Rattle.gm_model.specs.declared.value.Value.{Value}
use Rattle.gm_arena.specs.inner.Lawful.{AreGoodValues}
use Rattle.gm_arena.specs.inner.Inside.{written_at, IsWritten}
use Rattle.gm_arena.specs.inner.Parts.{part_of}

-- as many values as embeddings
pub length-values : (schema : Schema) (values : List Value) → AreGoodValues schema values → length values ≡ length schema.embeds
length-values schema values h = sym (length-map values _) ∙ (ap length h.kinds ∙ length-map schema.embeds _)

-- the part of a slot below so many is there
pub stretch : (slot count width long : ℕ) → slot < count → count * width ≤ long → slot * width + width ≤ long
stretch slot count width long h fits = omega (arith, mul-le (slot + 1) width count width (omega arith) (omega arith))

-- a list that only grew
pub part_kept : {A : Type 0} (width : ℕ) (values values' : List A) (slot : ℕ) → take (length values) values' ≡ values → slot * width + width ≤ length values → part_of width values' slot ≡ part_of width values slot
part_kept width values values' slot kept long =
    let from = slot * width in
    sym (drop-take from width values')
    ∙ (ap (drop from) (sym (take-take (from + width) (length values) values' long) ∙ ap (take (from + width)) kept)
    ∙ drop-take from width values)

-- a slice of a vector's entries was written, and the vector has as many as before
pub written_slice : {A : Type 0} (at wide count : ℕ) (items lent own : List A) → lent ≡ items → count ≡ length items → at + wide ≤ length items → length own ≡ wide
    → take count ((take at lent ++ (own ++ drop (at + wide - at) (drop at lent))) ++ drop (length (take at lent ++ (own ++ drop (at + wide - at) (drop at lent)))) items) ≡ written_at at own items
written_slice at wide count items lent own same is within long =
    let rest = drop (length own) (drop at items) in
    let whole = written_at at own items in
    let back : at + wide - at ≡ length own = omega (arith, long) in
    let full : length whole ≡ count = omega (arith, is, within, long, length-append (take at items) (own ++ rest), length-append own rest, length-drop (length own) (drop at items), length-drop at items, length-take-le at items (omega (arith, within))) in
    ap₂ (λ n xs. take count ((take at xs ++ (own ++ drop n (drop at xs))) ++ drop (length (take at xs ++ (own ++ drop n (drop at xs)))) items)) back same
    ∙ take_at whole (drop (length whole) items) count full

-- the length of a slice
pub length-slice : {A : Type 0} (at wide : ℕ) (items lent : List A) → lent ≡ items → at + wide ≤ length items → length (take (at + wide - at) (drop at lent)) ≡ wide
length-slice at wide items lent same within =
    let back : at + wide - at ≡ wide = omega arith in
    ap₂ (λ n xs. length (take n (drop at xs))) back same ∙ length-take-le wide (drop at items) (omega (arith, within, length-drop at items))

-- one more entry was written, behind the first ones
pub one_more : {A : Type 0} (items : List A) (at : ℕ) (x : A) → at < length items → take (at + 1) (set items at x) ≡ take at items ++ x ∷ []
one_more items at x h =
    let here : at < length (set items at x) = rw length-set h in
    take_more (set items at x) at x here ∙ ap₂ (λ xs y. xs ++ y ∷ []) (take-set items at x) (get_or-set_same items at x x h)

module _ {A : Type 0} (width : ℕ) (items grown own more : List A) (slot : ℕ) (longer : grown ≡ items ++ more) (wide : length own ≡ width) (long : slot * width ≤ length grown) where
  kept : take (length items) grown ≡ items
  kept = ap (take (length items)) longer ∙ take_at items more (length items) refl

  -- it is no longer than it has to be
  pub length_written : length (written_at (slot * width) own grown) ≡ max (length grown) (slot * width + width)
  length_written =
      let rest = drop (length own) (drop (slot * width) grown) in
      omega (arith, length-append (take (slot * width) grown) (own ++ rest), length-append own rest, length-drop (length own) (drop (slot * width) grown), length-drop (slot * width) grown, length-take-le (slot * width) grown long, wide)

  -- what was written over a slot's part of a list that was lengthened to there
  pub written : IsWritten width slot items own (written_at (slot * width) own grown)
  written = record {
    here =
        let back : slot * width + width - slot * width ≡ width = omega arith in
        ap (λ n. take n (drop (slot * width) (written_at (slot * width) own grown))) (sym back) ∙ between-put_mid (slot * width) (length own) grown own (slot * width + width) long (omega (arith, wide));
    others = λ other apart within. elim (cases_lt other slot) [
      | inl l ↦
          let before : other * width + width ≤ slot * width = omega (arith, mul-le (other + 1) width slot width (omega arith) (omega arith)) in
          sym (drop-take (other * width) width _) ∙ (ap (drop (other * width)) (take-put_mid_below (slot * width) (length own) grown own (other * width + width) before long) ∙ drop-take (other * width) width grown)
          ∙ part_kept width items grown other kept within
      | inr l ↦
          let after : slot * width + width ≤ other * width = omega (arith, mul-le (slot + 1) width other width (omega arith) (omega arith)) in
          ap (take width) (drop-put_mid (slot * width) (length own) grown own (other * width) (omega (arith, wide)) long refl)
          ∙ part_kept width items grown other kept within
    ];
    long = omega (arith, length_written, ap length longer, length-append items more);
  }

-- the parts below so many stay, also with one more
pub reached : (count count' slot width long long' : ℕ) → count * width ≤ long → long ≤ long' → slot * width + width ≤ long' → count' ≡ max count (slot + 1) → count' * width ≤ long'
reached count count' slot width long long' before more there is = elim (cases_lt slot count) [
  | inl l ↦ let same : count' ≡ count = omega (arith, is) in rw same (omega (arith, before, more))
  | inr l ↦ let same : count' ≡ slot + 1 = omega (arith, is) in rw same (omega (arith, there))
]

-- one entry of a slot's part was set
pub IsWritten-set : {A : Type 0} (width slot at : ℕ) (items : List A) (x : A) → at < width → IsWritten width slot items (set (part_of width items slot) at x) (set items (slot * width + at) x)
IsWritten-set width slot at items x within = record {
  here = ap (take width) (drop-set-add (slot * width) items at x) ∙ take-set-lt width (drop (slot * width) items) at x within;
  others = λ other apart _. elim (cases_lt other slot) [
    | inl l ↦
        let before : other * width + width ≤ slot * width = omega (arith, mul-le (other + 1) width slot width (omega arith) (omega arith)) in
        sym (drop-take (other * width) width _) ∙ (ap (drop (other * width)) (take-set-le (other * width + width) items (slot * width + at) x (omega arith)) ∙ drop-take (other * width) width items)
    | inr l ↦
        let behind : slot * width + width ≤ other * width = omega (arith, mul-le (slot + 1) width other width (omega arith) (omega arith)) in
        ap (take width) (drop-set-lt (other * width) items (slot * width + at) x (omega arith))
  ];
  long = omega (arith, length-set items (slot * width + at) x);
}
