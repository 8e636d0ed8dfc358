-- Of two faults the one that counts first.
use Rattle.std.proofs.Common.{◌≡◌, ℕ, ◌+◌, ◌*◌, ◌<◌, ◌≤◌, Bool, true, false, ltb, eqb, inl, inr, List, ◌∷◌, length, get_or, map, drop, Option, Some, None, refl, sym, ap, ◌∙◌, arith}
use Rattle.std.proofs.lemmas.Bool.{ltb-true, ltb-false, lt-ltb, le-ltb, eqb-true, eqb-false, cases_Bool}
use Rattle.gm_book.proofs.Onward.{left_on}
use Rattle.gm_forms.specs.BookText.{IsNotAfter, place_of, rank_of}
use Rattle.gm_book.specs.declared.names.NameFault.{NameFault}
use Rattle.gm_book.specs.declared.names.NameFault.TheVariants.{Twice, Unknown, WrongKind}
use Rattle.gm_book.specs.inner.FirstNameFault.{place_at, rank_at, is_before, fault_of, least_of}

-- ---- faults in order

abbrev pub order_of : NameFault → ℕ
order_of fault = 3 * place_at fault + rank_at fault

rank_low : (fault : NameFault) → rank_at fault ≤ 2
rank_low (Twice place) = omega arith
rank_low (Unknown place) = omega arith
rank_low (WrongKind place) = omega arith

pub before_order : (fault other : NameFault) → is_before fault other ≡ ltb (order_of fault) (order_of other)
before_order fault other = go (ltb (place_at fault) (place_at other)) refl (eqb (place_at fault) (place_at other)) refl (ltb (rank_at fault) (rank_at other)) refl
  where
    go : (less : Bool) → ltb (place_at fault) (place_at other) ≡ less → (same : Bool) → eqb (place_at fault) (place_at other) ≡ same → (lower : Bool) → ltb (rank_at fault) (rank_at other) ≡ lower
        → is_before fault other ≡ ltb (order_of fault) (order_of other)
    go true l same s lower r = let e : ltb (order_of fault) (order_of other) ≡ true = lt-ltb _ _ (omega (arith, rank_low fault, rank_low other, ltb-true (place_at fault) (place_at other) l)) in rw (l, e) refl
    go false l true s true r = let e : ltb (order_of fault) (order_of other) ≡ true = lt-ltb _ _ (omega (arith, rank_low fault, rank_low other, eqb-true (place_at fault) (place_at other) s, ltb-true (rank_at fault) (rank_at other) r)) in rw (l, s, r, e) refl
    go false l true s false r = let e : ltb (order_of fault) (order_of other) ≡ false = le-ltb _ _ (omega (arith, rank_low fault, rank_low other, eqb-true (place_at fault) (place_at other) s, ltb-false (rank_at fault) (rank_at other) r)) in rw (l, s, r, e) refl
    go false l false s lower r = let e : ltb (order_of fault) (order_of other) ≡ false = le-ltb _ _ (omega (arith, rank_low fault, rank_low other, eqb-false (place_at fault) (place_at other) s, ltb-false (place_at fault) (place_at other) l)) in rw (l, s, e) refl

same_place : (fault : NameFault) → place_of (fault_of fault) ≡ place_at fault
same_place (Twice place) = refl
same_place (Unknown place) = refl
same_place (WrongKind place) = refl

same_rank : (fault : NameFault) → rank_of (fault_of fault) ≡ rank_at fault
same_rank (Twice place) = refl
same_rank (Unknown place) = refl
same_rank (WrongKind place) = refl

pub in_order : (fault other : NameFault) → IsNotAfter (fault_of fault) (fault_of other) → order_of fault ≤ order_of other
in_order fault other (inl less) = omega (arith, less, same_place fault, same_place other, rank_low fault, rank_low other)
in_order fault other (inr (same, low)) = omega (arith, same, low, same_place fault, same_place other, same_rank fault, same_rank other)

pub not_after : (fault other : NameFault) → order_of fault ≤ order_of other → IsNotAfter (fault_of fault) (fault_of other)
not_after fault other low = elim (cases_Bool (ltb (place_at fault) (place_at other))) [
  | inl less ↦ inl (omega (arith, ltb-true (place_at fault) (place_at other) less, same_place fault, same_place other))
  | inr more ↦ inr (
    omega (arith, low, ltb-false (place_at fault) (place_at other) more, same_place fault, same_place other, rank_low fault, rank_low other),
    omega (arith, low, ltb-false (place_at fault) (place_at other) more, same_rank fault, same_rank other, rank_low fault, rank_low other),
  )
]

-- ---- the least of three

pub least_with_none : (fault : Option NameFault) → least_of fault None ≡ fault
least_with_none None = refl
least_with_none (Some fault) = refl

abbrev found : Option NameFault → Option NameFault
found fault = fault

pub least_regrouped : (a b c : Option NameFault) → least_of (least_of a b) c ≡ least_of a (least_of b c)
least_regrouped None b c = refl
least_regrouped (Some a) None c = refl
least_regrouped (Some a) (Some b) None = least_with_none (least_of (Some a) (Some b))
least_regrouped (Some a) (Some b) (Some c) = go (is_before b a) refl (is_before c b) refl (is_before c a) refl
  where
    go : (x : Bool) → is_before b a ≡ x → (y : Bool) → is_before c b ≡ y → (z : Bool) → is_before c a ≡ z → least_of (least_of (Some a) (Some b)) (Some c) ≡ least_of (Some a) (least_of (Some b) (Some c))
    go true p true q true r = rw (p, q, r) refl
    go true p true q false r =
        absurd (omega (arith, ltb-true _ _ (sym (before_order b a) ∙ p), ltb-true _ _ (sym (before_order c b) ∙ q), ltb-false _ _ (sym (before_order c a) ∙ r)))
    go true p false q z r = rw (p, q, p) refl
    go false p true q z r = rw (p, q) refl
    go false p false q true r = absurd (omega (arith, ltb-false _ _ (sym (before_order b a) ∙ p), ltb-false _ _ (sym (before_order c b) ∙ q), ltb-true _ _ (sym (before_order c a) ∙ r)))
    go false p false q false r = rw (p, q, r, p) refl

-- ---- the least of a list, as a loop finds it

module _ {X A : Type 0} (f : X → A) (pick : List A → Option NameFault) (xs : List X) (k : ℕ) (fault whole : Option NameFault) where
  pub least_on : (x : X) (one rest later : Option NameFault) → k < length xs → x ≡ get_or xs k x → pick (f x ∷ map f (drop (k + 1) xs)) ≡ least_of one rest → later ≡ least_of fault one
      → least_of fault (pick (map f (drop k xs))) ≡ whole → least_of later rest ≡ whole
  least_on x one rest later inside is picks said so_far =
      ap (λ (first : Option NameFault). least_of first rest) said ∙ least_regrouped fault one rest ∙ ap (least_of fault) (sym picks)
      ∙ ap (λ ys. least_of fault (pick (map f ys))) (sym (left_on xs k x inside is)) ∙ so_far
