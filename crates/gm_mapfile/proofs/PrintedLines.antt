-- The darts whose lines stand there already: those with a name below a number.
use Rattle.std.proofs.Common.{◌≡◌, ℕ, ◌+◌, ◌*◌, ◌<◌, ◌≤◌, List, ◌++◌, length, take, get_or, Some, None, is_some, inl, inr, sym, ap, subst, ◌∙◌, arith}
use Rattle.std.specs.List.{flat_map}
use Rattle.std.specs.FinMap.{get, keys}
use Rattle.std.proofs.lemmas.Bool.{cases_lt, false≢true}
use Rattle.std.proofs.lemmas.List.{append-nil}
use Rattle.std.proofs.lemmas.Nat.{mul-le}
use Rattle.gm_arena.specs.inner.ArenaMap.{ArenaMap, Dart, IsAt}
use Rattle.gm_arena.specs.inner.InOrder.{HasNoneFrom, IsFirstFrom}
use Rattle.gm_arena.specs.inner.Lawful.{IsLawful}
use Rattle.gm_arena.proofs.Keys.{rising, named, live}
use Rattle.gm_mapfile.specs.MapText.{line_of}
use Rattle.gm_mapfile.specs.inner.Rows.{dart_of_entry, darts_of}
use Rattle.gm_mapfile.proofs.Printed.{dart_at, dart_at-is, lines_with, keys_counted, darts_counted, whole_taken}

-- the lines of the darts with a name below the number, behind what stood there before
pub record ArePrinted (m : ArenaMap) (from : ℕ) (front text : List ℕ) (start steps : ℕ) : Type 0 where
  -- how many darts they are
  pub count : ℕ
  pub within : count ≤ m.count
  pub below : (k : ℕ) → k < count → get_or (keys m.darts) k 0 < from
  pub above : (k : ℕ) → count ≤ k → k < m.count → from ≤ get_or (keys m.darts) k 0
  pub lines : text ≡ front ++ flat_map line_of (take count (darts_of m))
  pub most : steps ≤ start + (m.schema.dim + 3) * count
  pub least : start + count ≤ steps

pub none_printed : (m : ArenaMap) (front : List ℕ) (start : ℕ) → ArePrinted m 0 front front start start
none_printed m front start = record {
  count = 0;
  within = omega arith;
  below = λ k less. absurd (omega (arith, less));
  above = λ k past inside. omega arith;
  lines = sym (append-nil front);
  most = omega arith;
  least = omega arith;
}

module _ (m : ArenaMap) (lawful : IsLawful m) (from : ℕ) (front text : List ℕ) (start steps : ℕ) (before : ArePrinted m from front text start steps) where
  long : length (keys m.darts) ≡ m.count
  long = keys_counted m lawful

  -- no name at a place is that of no dart
  someone : (k : ℕ) → k < m.count → get m.darts (get_or (keys m.darts) k 0) ≡ None → ⊥
  someone k within none = false≢true (sym (ap is_some none) ∙ live m k 0 (omega (arith, within, long)))

  -- where no name is left, all are printed
  all_counted : HasNoneFrom m from → before.count ≡ m.count
  all_counted none = elim (cases_lt before.count m.count) [
    | inl less ↦ absurd (someone before.count less (none (get_or (keys m.darts) before.count 0) (before.above before.count (omega arith) less)))
    | inr all ↦ omega (arith, all, before.within)
  ]

  pub all_printed : HasNoneFrom m from → text ≡ front ++ flat_map line_of (darts_of m)
  all_printed none =
      before.lines ∙ ap (λ darts. front ++ flat_map line_of darts) (whole_taken (darts_of m) before.count (omega (arith, all_counted none, darts_counted m lawful)))

  pub all_most : HasNoneFrom m from → steps ≤ start + (m.schema.dim + 3) * m.count
  all_most none = subst (λ k. steps ≤ start + (m.schema.dim + 3) * k) (all_counted none) before.most

  pub all_steps : HasNoneFrom m from → start + m.count ≤ steps
  all_steps none = omega (arith, before.least, all_counted none)

  module _ (slot name : ℕ) (first : IsFirstFrom m from slot) (at : IsAt m slot name) where
    same_some : (x y : ℕ) → Some x ≡ Some y → x ≡ y
    same_some x y e = cc

    is : first.name ≡ name
    is = same_some first.name name (sym first.at ∙ at)

    -- its place is the next one
    placed : (before.count < m.count) × (get_or (keys m.darts) before.count 0 ≡ name)
    placed =
        let p = named m name (lawful.live slot name at) in
        let low : before.count ≤ p.0 = elim (cases_lt p.0 before.count) [
          | inl less ↦ absurd (let b = before.below p.0 less in omega (arith, b, p.2, is, first.above))
          | inr ok ↦ ok
        ] in
        let high : p.0 ≤ before.count = elim (cases_lt before.count p.0) [
          | inl less ↦
              let inside : before.count < m.count = omega (arith, less, p.1, long) in
              let up = rising m before.count p.0 less p.1 in
              absurd (someone before.count inside (first.least (get_or (keys m.darts) before.count 0) (before.above before.count (omega arith) inside) (omega (arith, up, p.2, is))))
          | inr ok ↦ ok
        ] in
        let same : p.0 ≡ before.count = omega (arith, low, high) in
        (omega (arith, p.1, long, same), subst (λ k. get_or (keys m.darts) k 0 ≡ name) same p.2)

    pub name_low : from ≤ name
    name_low = omega (arith, is, first.above)

    -- a dart more, with its line
    pub one_more : (dart : Dart) (text' : List ℕ) (steps' : ℕ) → get m.darts name ≡ Some dart → text' ≡ text ++ line_of (dart_of_entry (name, dart)) → steps' ≤ steps + (m.schema.dim + 3) → steps + 1 ≤ steps' → ArePrinted m (name + 1) front text' start steps'
    one_more dart text' steps' there line most least = record {
      count = before.count + 1;
      within = omega (arith, placed.0);
      below = λ k less. elim (cases_lt k before.count) [
        | inl l ↦ let b = before.below k l in omega (arith, b, name_low)
        | inr l ↦ let here : get_or (keys m.darts) k 0 ≡ name = let same : k ≡ before.count = omega (arith, less, l) in rw same placed.1 in omega (arith, here)
      ];
      above = λ k past inside. let up = rising m before.count k (omega (arith, past)) (omega (arith, inside, long)) in omega (arith, up, placed.1);
      lines = lines_with m before.count front text text' (omega (arith, placed.0, darts_counted m lawful)) before.lines (line ∙ ap (λ d. text ++ line_of d) (sym (dart_at-is m name dart there) ∙ sym (ap (dart_at m) placed.1)));
      most = let product : (m.schema.dim + 3) * (before.count + 1) ≡ (m.schema.dim + 3) * before.count + (m.schema.dim + 3) = omega arith in omega (arith, product, before.most, most);
      least = omega (arith, before.least, least);
    }

    -- and with it no more steps than for all
    pub more_most : (steps' : ℕ) → steps' ≤ steps + (m.schema.dim + 3) → steps' ≤ start + (m.schema.dim + 3) * m.count
    more_most steps' most =
        let product : (m.schema.dim + 3) * (before.count + 1) ≡ (m.schema.dim + 3) * before.count + (m.schema.dim + 3) = omega arith in
        omega (arith, product, before.most, most, mul-le (m.schema.dim + 3) (before.count + 1) (m.schema.dim + 3) m.count (omega arith) (omega (arith, placed.0)))
