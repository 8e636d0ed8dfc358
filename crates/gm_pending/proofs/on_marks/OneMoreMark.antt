-- One more reached dart.
use Rattle.std.proofs.Common.{◌≡◌, ◌≢◌, ℕ, zero, suc, ◌*◌, ◌%◌, ◌^◌, ◌<◌, ◌⊎◌, bit_or, w64, true, false, List, [], ◌∷◌, ◌++◌, length, take, get_or, Option, Some, None, is_some, slice_get, MatchOption, Contains, refl, sym, ◌∙◌, ap, subst, inl, inr, arith}
use Rattle.std.specs.Prelude.{Result, Ok, Err, OnOk, OnErr}
use Rattle.std.specs.Int.{bit_at}
use Rattle.std.specs.Option.{option_map}
use Rattle.std.proofs.lemmas.Bool.{cases_eq, false≢true}
use Rattle.std.proofs.lemmas.Nat.Bits.{bit_at_set_same, bit_at_set_other}
use Rattle.std.proofs.lemmas.Option.{slice_get_within, slice_get-get_or}
use Rattle.gm_theory.proofs.Lists.{some_same, none_some, contained_at, get_contained}
use Rattle.gm_walk.specs.declared.mark.Mark.{Mark}
use Rattle.gm_walk.specs.declared.at.At.{At}
use Rattle.gm_plan.specs.inner.Indices.{AreTheSame, IsOneMore}
use Rattle.gm_pending.specs.inner.Marks.{ByKey, bit_of, reached_by, HasKey, AreMarked, AreSeen, IsIndex, IsMarkedBy, IsMarkedMore, HasDistinctKeys}
use Rattle.gm_walk.specs.inner.Keys.{key_of}

-- ---- a list with one more element

module _ {A : Type 0} where
  pub kept_at : (xs : List A) (y : A) (k : ℕ) (x : A) → slice_get xs k ≡ Some x → slice_get (xs ++ y ∷ []) k ≡ Some x
  kept_at [] y k x e = none_some x e
  kept_at (z ∷ xs) y zero x e = e
  kept_at (z ∷ xs) y (suc k) x e = kept_at xs y k x e

  pub last_at : (xs : List A) (y : A) → slice_get (xs ++ y ∷ []) (length xs) ≡ Some y
  last_at [] y = refl
  last_at (z ∷ xs) y = last_at xs y

  -- an element is one of the earlier ones, or the last
  pub kept_or_last : (xs : List A) (y : A) (k : ℕ) (x : A) → slice_get (xs ++ y ∷ []) k ≡ Some x → (slice_get xs k ≡ Some x) ⊎ ((k ≡ length xs) × (y ≡ x))
  kept_or_last [] y zero x e = inr (refl, some_same y x e)
  kept_or_last [] y (suc k) x e = none_some x e
  kept_or_last (z ∷ xs) y zero x e = inl e
  kept_or_last (z ∷ xs) y (suc k) x e = go (kept_or_last xs y k x e)
    where
      go : (slice_get xs k ≡ Some x) ⊎ ((k ≡ length xs) × (y ≡ x)) → (slice_get xs k ≡ Some x) ⊎ ((suc k ≡ suc (length xs)) × (y ≡ x))
      go (inl h) = inl h
      go (inr h) = inr (ap suc h.0, h.1)

  pub get_within : (xs : List A) (k : ℕ) → k < length xs → (x : A) × (slice_get xs k ≡ Some x)
  get_within [] k h = absurd (omega arith)
  get_within (x ∷ xs) zero h = (x, refl)
  get_within (x ∷ xs) (suc k) h = get_within xs k (omega arith)

  pub kept_among : (xs : List A) (y x : A) → Contains xs x → Contains (xs ++ y ∷ []) x
  kept_among xs y x c = get_contained (xs ++ y ∷ []) c.0 x (kept_at xs y c.0 x (contained_at xs x c))

  pub last_among : (xs : List A) (y : A) → Contains (xs ++ y ∷ []) y
  last_among xs y = get_contained (xs ++ y ∷ []) (length xs) y (last_at xs y)

  pub among_or_last : (xs : List A) (y x : A) → Contains (xs ++ y ∷ []) x → Contains xs x ⊎ (y ≡ x)
  among_or_last xs y x c = go (kept_or_last xs y c.0 x (contained_at (xs ++ y ∷ []) x c))
    where
      go : (slice_get xs c.0 ≡ Some x) ⊎ ((c.0 ≡ length xs) × (y ≡ x)) → Contains xs x ⊎ (y ≡ x)
      go (inl h) = inl (get_contained xs c.0 x h)
      go (inr h) = inr h.1

  pub taken_at : (xs : List A) (i k : ℕ) (x : A) → slice_get (take i xs) k ≡ Some x → (slice_get xs k ≡ Some x) × (k < i)
  taken_at xs zero k x e = none_some x e
  taken_at [] (suc i) k x e = none_some x e
  taken_at (y ∷ xs) (suc i) zero x e = (e, omega arith)
  taken_at (y ∷ xs) (suc i) (suc k) x e = let there = taken_at xs i k x e in (there.0, omega (arith, there.1))

-- no earlier dart has the key of the next one
pub fresh_key : (reached : List Mark) (i : ℕ) (d : Mark) → HasDistinctKeys reached → i < length reached → HasKey (take i reached) (key_of (get_or reached i d).at) → ⊥
fresh_key reached i d distinct within (entry, among, same) =
    let there = taken_at reached i among.0 entry (contained_at (take i reached) entry among) in
    distinct among.0 i entry (get_or reached i d) there.1 there.0 (slice_get-get_or reached i d within) same

-- ---- what is kept of a dart

-- an element and the others
module _ (reached : List Mark) (old new : ByKey) (kept : IsIndex reached old) (entry : Mark) (absent : HasKey reached (key_of entry.at) → ⊥) (put : IsOneMore old new (key_of entry.at) entry.instance) where
  here : new (key_of entry.at) ≡ Some entry.instance
  here = put.0

  other : (key : ℕ) → key ≢ key_of entry.at → new key ≡ old key
  other = put.1

  pub indexed_more : IsIndex (reached ++ entry ∷ []) new
  indexed_more = record {
    marked = λ later c. marked later (among_or_last reached entry later c);
    only = only;
  }
    where
      marked : (later : Mark) → Contains reached later ⊎ (entry ≡ later) → new (key_of later.at) ≡ Some later.instance
      marked later (inl c) = other (key_of later.at) (λ e. absent (later, c, e)) ∙ kept.marked later c
      marked later (inr e) = subst (λ (r : Mark). new (key_of r.at) ≡ Some r.instance) e here

      only : (key j : ℕ) → new key ≡ Some j → IsMarkedBy (reached ++ entry ∷ []) key j
      only key j e = go (cases_eq key (key_of entry.at))
        where
          go : (key ≡ key_of entry.at) ⊎ (key ≡ key_of entry.at → ⊥) → IsMarkedBy (reached ++ entry ∷ []) key j
          go (inl f) = (entry, last_among reached entry, sym f, some_same entry.instance j (sym here ∙ subst (λ q. new q ≡ Some j) f e))
          go (inr f) = let m : IsMarkedBy reached key j = kept.only key j (sym (other key f) ∙ e) in (m.0, kept_among reached entry m.0 m.1, m.2, m.3)

-- an index that stays as it was
pub indexed_still : (reached : List Mark) (old new : ByKey) → IsIndex reached old → AreTheSame old new → IsIndex reached new
indexed_still reached old new kept same = record {
  marked = λ entry c. same (key_of entry.at) ∙ kept.marked entry c;
  only = λ q i e. kept.only q i (sym (same q) ∙ e);
}

-- an index into which a dart was put, unless it was there
abbrev pub WasPut : ByKey → ByKey → Mark → Option ℕ → Type 0
WasPut old new entry had = MatchOption had (IsOneMore old new (key_of entry.at) entry.instance) (λ j. AreTheSame old new)

pub put_fresh : (reached : List Mark) (old new : ByKey) → IsIndex reached old → (entry : Mark) (had : Option ℕ) → had ≡ old (key_of entry.at) → WasPut old new entry had → (HasKey reached (key_of entry.at) → ⊥) → IsIndex (reached ++ entry ∷ []) new
put_fresh reached old new kept entry None was put absent = indexed_more reached old new kept entry absent put
put_fresh reached old new kept entry (Some j) was put absent = absurd (let m : IsMarkedBy reached (key_of entry.at) j = kept.only (key_of entry.at) j (sym was) in absent (m.0, m.1, m.2))

-- a dart was put that was there: the index is as it was
pub put_again : (reached : List Mark) (old new : ByKey) → IsIndex reached old → (entry : Mark) (had : Option ℕ) → is_some had ≡ true → had ≡ old (key_of entry.at) → WasPut old new entry had → HasKey reached (key_of entry.at) × IsIndex reached new
put_again reached old new kept entry None again was put = absurd (false≢true again)
put_again reached old new kept entry (Some j) again was put = let m : IsMarkedBy reached (key_of entry.at) j = kept.only (key_of entry.at) j (sym was) in ((m.0, m.1, m.2), indexed_still reached old new kept put)

-- a dart was put that is new
pub put_new : (reached : List Mark) (old new : ByKey) → IsIndex reached old → (entry : Mark) (had : Option ℕ) → is_some had ≡ false → had ≡ old (key_of entry.at) → WasPut old new entry had → (HasKey reached (key_of entry.at) → ⊥) × IsIndex (reached ++ entry ∷ []) new
put_new reached old new kept entry (Some j) fresh was put = absurd (false≢true (sym fresh))
put_new reached old new kept entry None fresh was put = (none, indexed_more reached old new kept entry none put)
  where
    none : HasKey reached (key_of entry.at) → ⊥
    none (other, c, same) = none_some other.instance (was ∙ ap old (sym same) ∙ kept.marked other c)

module _ (reached : List Mark) (kept : HasDistinctKeys reached) (entry : Mark) (absent : HasKey reached (key_of entry.at) → ⊥) where
  pub distinct_more : HasDistinctKeys (reached ++ entry ∷ [])
  distinct_more i j a b h e f = distinct (kept_or_last reached entry i a e) (kept_or_last reached entry j b f)
    where
      distinct : (slice_get reached i ≡ Some a) ⊎ ((i ≡ length reached) × (entry ≡ a)) → (slice_get reached j ≡ Some b) ⊎ ((j ≡ length reached) × (entry ≡ b)) → key_of a.at ≢ key_of b.at
      distinct (inl e) (inl f) = kept i j a b h e f
      distinct (inl e) (inr f) = λ same. absent (a, get_contained reached i a e, same ∙ ap (λ (r : Mark). key_of r.at) (sym f.1))
      distinct (inr e) (inl f) = absurd (omega (arith, e.0, slice_get_within reached j b f))
      distinct (inr e) (inr f) = absurd (omega (arith, e.0, f.0))

-- ---- the bits of darts

-- the bit of one more key is set
abbrev pub with_bit : ℕ → ℕ → ℕ
with_bit bits key = bit_or bits (1 * 2 ^ bit_of key % 18446744073709551616)

module _ (bits key : ℕ) where
  low : bit_of key < 64
  low = omega arith

  pub bit_kept : (b : ℕ) → bit_at bits b ≡ 1 → bit_at (with_bit bits key) b ≡ 1
  bit_kept b set = elim (cases_eq b (bit_of key)) [
    | inl same ↦ rw same (bit_at_set_same w64 bits (bit_of key) low)
    | inr apart ↦ bit_at_set_other w64 bits (bit_of key) low b apart ∙ set
  ]

  pub own_bit : bit_at (with_bit bits key) (bit_of key) ≡ 1
  own_bit = bit_at_set_same w64 bits (bit_of key) low

  pub seen_kept : (reached : List Mark) → AreSeen reached bits → AreSeen reached (with_bit bits key)
  seen_kept reached seen entry among = bit_kept (bit_of (key_of entry.at)) (seen entry among)

  pub seen_more : (reached : List Mark) (entry : Mark) → key ≡ key_of entry.at → AreSeen reached bits → AreSeen (reached ++ entry ∷ []) (with_bit bits key)
  seen_more reached entry own seen other among = go (among_or_last reached entry other among)
    where
      here : bit_at (with_bit bits key) (bit_of (key_of entry.at)) ≡ 1
      here = subst (λ k. bit_at (with_bit bits key) (bit_of k) ≡ 1) own own_bit

      go : Contains reached other ⊎ (entry ≡ other) → bit_at (with_bit bits key) (bit_of (key_of other.at)) ≡ 1
      go (inl c) = seen_kept reached seen other c
      go (inr e) = subst (λ (r : Mark). bit_at (with_bit bits key) (bit_of (key_of r.at)) ≡ 1) e here

-- what an index has under a key
pub indexed_at : (reached : List Mark) (by_key : ByKey) → IsIndex reached by_key → (key : ℕ) (found : Option ℕ) → found ≡ by_key key → MatchOption found (HasKey reached key → ⊥) (IsMarkedBy reached key)
indexed_at reached by_key index key (Some k) e = index.only key k (sym e)
indexed_at reached by_key index key None e = none
  where
    none : HasKey reached key → ⊥
    none (entry, c, same) = none_some entry.instance (e ∙ ap by_key (sym same) ∙ index.marked entry c)

-- where nothing is found under a key, no dart has it
pub unmarked : (reached : List Mark) (key : ℕ) (found : Option ℕ) → is_some found ≡ false → MatchOption found (HasKey reached key → ⊥) (IsMarkedBy reached key) → HasKey reached key → ⊥
unmarked reached key None none absent = absent
unmarked reached key (Some k) none found = absurd (false≢true (sym none))

-- one more dart, where there is no index
pub marked_few : {E B : Type 0} (view : B → ByKey) (before after : List Mark) (by_key : Option B) (bits : ℕ) (entry : Mark) (pushed : Result Unit E) → is_some by_key ≡ false → AreMarked before (option_map view by_key) bits → (HasKey before (key_of entry.at) → ⊥) → OnOk pushed (after ≡ before ++ entry ∷ []) → OnErr pushed (after ≡ before) → AreMarked after (option_map view by_key) (with_bit bits (key_of entry.at))
marked_few view before after (Some by_key) bits entry pushed none kept absent ok err = absurd (cc none)
marked_few view before after None bits entry (Ok x) none kept absent ok err = rw ok (record {
  distinct = distinct_more before kept.distinct entry absent;
  indexed = tt;
  seen = seen_more bits (key_of entry.at) before entry refl kept.seen;
})
marked_few view before after None bits entry (Err x) none kept absent ok err = rw err (record { distinct = kept.distinct; indexed = tt; seen = seen_kept bits (key_of entry.at) before kept.seen })

-- a key that was there is there still, and that of the dart is there
pub key_kept : (before after : List Mark) (at : At) (k : ℕ) (over : Option ℕ) (key : ℕ) → IsMarkedMore before after at k over → HasKey before key → HasKey after key
key_kept before after at k over key (inl (there, same)) had = rw same had
key_kept before after at k over key (inr (absent, more)) (entry, among, is) = rw more (entry, kept_among before (reached_by at k over) entry among, is)

pub key_marked : (before after : List Mark) (at : At) (k : ℕ) (over : Option ℕ) → IsMarkedMore before after at k over → HasKey after (key_of at)
key_marked before after at k over (inl (there, same)) = rw same there
key_marked before after at k over (inr (absent, more)) = rw more (reached_by at k over, last_among before (reached_by at k over), refl)
