-- How rows of slots change, one node at a time.
use Rattle.std.proofs.Common.{◌≡◌, ◌≢◌, ℕ, zero, suc, ◌+◌, ◌*◌, ◌/◌, ◌%◌, ◌<◌, ◌≤◌, ◌⊎◌, inl, inr, List, [], ◌++◌, Some, set, take, replicate, length, refl, sym, ap, subst, ◌∙◌, arith, length-set}
use Rattle.std.proofs.Math.Nat.{mul-le-mul_left, mul-le-mul_right}
use Rattle.std.proofs.lemmas.Bool.{cases_eq}
use Rattle.std.proofs.lemmas.List.Elements.{All-replicate}
use Rattle.std.proofs.lemmas.Option.{slice_get_within, get_or_from_slice_get}
use Rattle.std.specs.List.{slice_get}
use Rattle.std.specs.Prelude.{slice_index}
use Rattle.gm_model.specs.Rules.{Rule}
use Rattle.std.proofs.lemmas.Nat.{mul-add-lt, div-mul-add, mod-mul-add}
use Rattle.gm_arena.specs.declared.slot.Slot.{Slot}
use Rattle.gm_arena.specs.inner.ArenaMap.{ArenaMap, IsAt, IsLiveSlot, name_at, alpha}
use Rattle.gm_arena.proofs.MapLemmas.{name_at-is}
use Rattle.gm_walk.specs.inner.Walks.{AreLive}
use Rattle.gm_match.specs.inner.Layout.{AreAlongWalk, AreRows, dart_at}
use Rattle.gm_match.proofs.Paths.{dart_set, dart_stays}

take_nil : (n : ℕ) → take {A = Slot} n [] ≡ []
take_nil zero = refl
take_nil (suc n) = refl

-- rows that were made of one live slot have live slots
pub resized_live : (m : ArenaMap) (slot : Slot) → IsLiveSlot m slot.at → (n k : ℕ) (old new : List Slot) → old ≡ [] → new ≡ take n old ++ replicate k slot → AreLive m new
resized_live m slot live n k old new none is = subst (AreLive m) (sym (is ∙ ap (λ xs. take n xs ++ replicate k slot) none ∙ ap (λ (xs : List Slot). xs ++ replicate k slot) (take_nil n))) (All-replicate (λ (s : Slot). IsLiveSlot m s.at) k slot live)

-- a place in a row is within the rows
pub place_within : (rows nodes p x total : ℕ) → rows * nodes ≡ total → p < rows → x < nodes → p * nodes + x < total
place_within rows nodes p x total long less within = omega (arith, mul-add-lt p nodes x rows less within, long)

pub start_low : (rows nodes p : ℕ) → rows * nodes ≤ 4294967295 * 32 → p < rows → p * nodes < 18446744073709551616
start_low rows nodes p few less = omega (arith, few, mul-le-mul_right nodes less)

pub place_low : (rows nodes p x : ℕ) → rows * nodes ≤ 4294967295 * 32 → p < rows → x < nodes → p * nodes + x < 18446744073709551616
place_low rows nodes p x few less within = omega (arith, few, mul-add-lt p nodes x rows less within)

module _ (m : ArenaMap) (nodes : ℕ) (slots : List Slot) (p y : ℕ) (slot : Slot) (within : y < nodes) where
  abbrev changed : List Slot
  changed = set slots (p * nodes + y) slot

  pub column_set : p * nodes + y < length slots → dart_at m nodes changed y p ≡ name_at m slot.at
  column_set room = dart_set m slots (p * nodes + y) slot room

  pub column_stays : (x q : ℕ) → x < nodes → ((q ≡ p) → x ≢ y) → dart_at m nodes changed x q ≡ dart_at m nodes slots x q
  column_stays x q less apart = dart_stays m slots (p * nodes + y) slot (q * nodes + x) differ
    where
      differ : q * nodes + x ≡ p * nodes + y → ⊥
      differ e =
          let row : q ≡ p = sym (div-mul-add q nodes x less) ∙ ap (λ n. n / nodes) e ∙ div-mul-add p nodes y within in
          let column : x ≡ y = sym (mod-mul-add q nodes x less) ∙ ap (λ n. n % nodes) e ∙ mod-mul-add p nodes y within in
          apart row column

-- so far, node y of the rows has what is wanted, and all others are as they were
pub record IsColumnSoFar (m : ArenaMap) (nodes y : ℕ) (wanted : ℕ → ℕ) (old : List Slot) (count : ℕ) (slots : List Slot) : Type 0 where
  pub long : length slots ≡ length old
  pub made : (p : ℕ) → p < count → dart_at m nodes slots y p ≡ wanted p
  pub stays : (x p : ℕ) → x < nodes → (x ≢ y) ⊎ (count ≤ p) → dart_at m nodes slots x p ≡ dart_at m nodes old x p

module _ (m : ArenaMap) (nodes y : ℕ) (wanted : ℕ → ℕ) (old : List Slot) where
  pub column_begun : IsColumnSoFar m nodes y wanted old 0 old
  column_begun = record { long = refl; made = λ p less. absurd (omega arith); stays = λ x p less other. refl }

  pub column_next : (count : ℕ) (slots : List Slot) (slot : Slot) → y < nodes → count * nodes + y < length slots → name_at m slot.at ≡ wanted count → IsColumnSoFar m nodes y wanted old count slots → IsColumnSoFar m nodes y wanted old (count + 1) (set slots (count * nodes + y) slot)
  column_next count slots slot within room is so_far = record {
    long = length-set _ _ _ ∙ so_far.long;
    made = λ p less. elim (cases_eq p count) [
      | inl same ↦ subst (λ q. dart_at m nodes (set slots (count * nodes + y) slot) y q ≡ wanted q) (sym same) (column_set m nodes slots count y slot within room ∙ is)
      | inr apart ↦ column_stays m nodes slots count y slot within y p within (λ e. absurd (apart e)) ∙ so_far.made p (omega (arith, less, apart))
    ];
    stays = λ x p less other. elim other [
      | inl apart ↦ column_stays m nodes slots count y slot within x p less (λ e. apart) ∙ so_far.stays x p less (inl apart)
      | inr past ↦ column_stays m nodes slots count y slot within x p less (λ e. absurd (omega (arith, e, past))) ∙ so_far.stays x p less (inr (omega (arith, past)))
    ];
  }

-- what a column is made of
pub led_on : (m : ArenaMap) (nodes : ℕ) (slots : List Slot) (from p : ℕ) (label d : ℕ) (next : Slot) → d ≡ dart_at m nodes slots from p → IsAt m next.at (alpha m label d) → name_at m next.at ≡ alpha m label (dart_at m nodes slots from p)
led_on m nodes slots from p label d next same at = name_at-is m next.at (alpha m label d) at ∙ ap (alpha m label) same

-- the steps of all links
pub links_cost : (rows index links hooks nodes start after : ℕ) → index ≤ links → hooks + links ≤ nodes → after ≡ start + index * rows → after + rows * hooks ≤ start + rows * nodes
links_cost rows index links hooks nodes start after few all cost =
    let fits : rows * (hooks + index) ≤ rows * nodes = mul-le-mul_left rows (omega (arith, few, all)) in
    omega (arith, fits, cost)

-- with one hook such rows are those of the candidate
pub column_rows : (m : ArenaMap) (rule : Rule) (hooks walk turns : List ℕ) (nodes rows : ℕ) (slots : List Slot) → length rule.hooks ≡ 1 → slice_index walk 0 ≡ slice_index hooks 0 → AreAlongWalk m rule nodes walk rows slots → AreRows m rule hooks walk turns nodes rows slots
column_rows m rule hooks walk turns nodes rows slots one starts are = record {
  along = are;
  at_darts = λ t h d some at named.
      let first = only t h at in
      are.hooked h 0 (subst (λ k. slice_get rule.hooks k ≡ Some h) first at) some ∙ starts ∙ get_or_from_slice_get hooks 0 d 0 (subst (λ k. slice_get hooks k ≡ Some d) first named);
  in_step = λ t h p k later at less turn first. absurd (omega (arith, later, only t h at));
}
  where
    only : (t h : ℕ) → slice_get rule.hooks t ≡ Some h → t ≡ 0
    only t h at = omega (arith, one, slice_get_within rule.hooks t h at)
