-- Where two labels lead from a dart, one after the other and the other way about.
use Rattle.std.proofs.Common.{◌≡◌, ℕ, ◌+◌, ◌*◌, ◌<◌, ◌≤◌, Bool, true, false, not, Some, Fits, w8, refl, sym, ap, subst, ◌∙◌, inl, inr, arith}
use Rattle.std.specs.FinMap.{get}
use Rattle.std.specs.Prelude.{eqb}
use Rattle.std.proofs.lemmas.Bool.{cases_lt, eqb-true, eq-eqb, false≢true}
use Rattle.std.proofs.lemmas.Option.{same_Some}
use Rattle.gm_arena.specs.inner.ArenaMap.{ArenaMap, IsAt, name_at, alpha}
use Rattle.gm_arena.specs.inner.Lawful.{IsLawful}
use Rattle.gm_arena.proofs.MapLemmas.{name_at-is}
use Rattle.gm_laws.specs.inner.Darts.{Commute}

module _ (m : ArenaMap) (lawful : IsLawful m) (d i j across to one other : ℕ) (a : IsAt m across (alpha m j d)) (b : IsAt m one (alpha m i (name_at m across))) (e : IsAt m to (alpha m i d)) (f : IsAt m other (alpha m j (name_at m to))) where
  at_one : IsAt m one (alpha m i (alpha m j d))
  at_one = subst (λ n. IsAt m one (alpha m i n)) (name_at-is m across (alpha m j d) a) b

  at_other : IsAt m other (alpha m j (alpha m i d))
  at_other = subst (λ n. IsAt m other (alpha m j n)) (name_at-is m to (alpha m i d) e) f

  -- the test of the slots tells whether the labels commute
  pub crosses : true ≡ not (eqb one other) → Commute m d i j → ⊥
  crosses differ same = let met = lawful.one_slot other one (alpha m j (alpha m i d)) at_other (at_one ∙ ap Some same) in false≢true (sym (differ ∙ ap not (eq-eqb one other met)))

  pub meets : false ≡ not (eqb one other) → Commute m d i j
  meets alike = same_Some _ _ (sym at_one ∙ (ap (get m.slots) (eqb-true one other (denied _ alike)) ∙ at_other))
    where
      denied : (x : Bool) → false ≡ not x → x ≡ true
      denied true e = refl
      denied false e = e

-- ---- the labels that are gone over

pub above_fits : (i dim : ℕ) → i ≤ dim → dim ≤ 7 → Fits w8 (i + 2)
above_fits i dim low few = omega arith

pub end_fits : (top dim : ℕ) → top ≡ dim → dim ≤ 7 → Fits w8 (top + 1)
end_fits top dim same few = omega arith

pub label_upto : (j top dim : ℕ) → j < top + 1 → top ≡ dim → j ≤ dim
label_upto j top dim low same = omega arith

pub below_end : (j top dim end : ℕ) → j ≤ dim → top ≡ dim → top + 1 ≤ end → j < end
below_end j top dim end low same past = omega arith

pub next_upto : (j dim : ℕ) → j ≤ dim → j + 1 ≤ dim + 1
next_upto j dim low = omega arith

pub last_label : (j last : ℕ) → j < last + 1 → last ≤ j → last ≡ j
last_label j last low past = omega arith

pub none_between : (j from : ℕ) → from ≤ j → j < from → ⊥
none_between j from past low = omega arith

pub none_yet : (j : ℕ) → j < 0 → ⊥
none_yet j low = omega arith

-- ---- the steps

pub three_more : (before one two three : ℕ) → one ≡ before + 1 → two ≡ one + 1 → three ≡ two + 1 → three ≡ before + 3
three_more before one two three e f g = omega arith

pub no_less : (start before after more : ℕ) → start ≤ before → after ≡ before + more → start ≤ after
no_less start before after more was e = omega arith

pub three_each : (start from before after j : ℕ) → before + 3 * from ≤ start + 1 + 3 * j → after ≡ before + 3 → after + 3 * from ≤ start + 1 + 3 * (j + 1)
three_each start from before after j was e = omega arith

-- where the loop is left at a label, and behind the last one
pub left_at : (start i before after j dim : ℕ) → before + 3 * (i + 2) ≤ start + 1 + 3 * j → after ≡ before + 3 → j ≤ dim → after ≤ start + (3 * (dim + 1) + 1)
left_at start i before after j dim was e low = omega arith

pub left_behind : (start i after j dim : ℕ) → after + 3 * (i + 2) ≤ start + 1 + 3 * j → (i + 2 < j → j ≤ dim + 1) → after ≤ start + (3 * (dim + 1) + 1)
left_behind start i after j dim was upto = elim (cases_lt (i + 2) j) [
  | inl more ↦ (let end = upto more in omega arith)
  | inr none ↦ omega arith
]
