-- What is at hand stays so, makes readings cheaper, and is what shared collectors leave.
use Rattle.std.proofs.Common.{◌≡◌, ℕ, ◌+◌, ◌*◌, ◌≤◌, ◌⊎◌, IsTrue, Bool, true, false, ◌||◌, List, [], ◌∷◌, ◌++◌, length, Option, Some, None, IsSome, refl, sym, ap, subst, ◌∙◌, inl, inr, arith}
use Rattle.std.specs.List.{Contains}
use Rattle.std.proofs.lemmas.Bool.{false≢true}
use Rattle.std.proofs.lemmas.List.{append_assoc, append-nil, length-append}
use Rattle.std.proofs.lemmas.List.Elements.{Contains-append_left}
use Rattle.gm_model.specs.declared.expr.DartTerm.{DartTerm}
use Rattle.gm_model.specs.declared.value.Value.{Value}
use Rattle.gm_model.specs.declared.value.Value.TheVariants as values
use Rattle.gm_model.specs.declared.word.Mask.{Mask}
use Rattle.gm_model.specs.Expressions.{Reading, HasValue, HasNoValue, HasUnits}
use Rattle.gm_model.specs.inner.Collectors.{collector_count}
use Rattle.gm_model.specs.Trees.{Tree, Number, Truth, Param, Field, Same, Count, Sum, Least, Greatest, Unary, Binary, If, MakeVec2, MakeVec3, MakeRgb}
use Rattle.gm_theory.proofs.Lists.{none_some, some_same}
use Rattle.gm_theory.proofs.ReadingsDecided.{not_both_truths}
use Rattle.gm_plan.specs.inner.Collecting.{collects}
use Rattle.gm_eval.specs.declared.kept.Collector.{Collector}
use Rattle.gm_eval.specs.declared.kept.Entry.{Entry}
use Rattle.gm_eval.specs.declared.kept.Form.{Form}
use Rattle.gm_eval.specs.declared.kept.Form.TheVariants as forms
use Rattle.gm_eval.specs.declared.reader.Reader.{Reader}
use Rattle.gm_eval.specs.inner.Keeping.{collector_at}
use Rattle.gm_eval.specs.inner.Places.{IsWithinUnits}
use Rattle.gm_eval.specs.inner.Readers.{AreLeft, IsOfMean, IsWithin, MeanUnits, OwnUnits, Read, UnitsBeside, reading_of}
use Rattle.gm_eval.specs.inner.Sharing.{HasOwnUnits, HasRoom, HasUnitsBeside, IsAtHand, IsOwn, Reads, StillKept, collectors_of, own_collector, where_empty}
use Rattle.gm_eval.proofs.Costs.{both_within, one_within}

-- ---- what was kept still is

pub same_kept : (kept : Option (List Entry)) → StillKept kept kept
same_kept None = refl
same_kept (Some entries) = ([], ap Some (sym (append-nil entries)))

pub later_kept : (old mid new : Option (List Entry)) → StillKept old mid → StillKept mid new → StillKept old new
later_kept None mid new first second = subst (λ kept. StillKept kept new) first second
later_kept (Some entries) mid new (more, is) second = go (subst (λ kept. StillKept kept new) is second)
  where
    go : StillKept (Some (entries ++ more)) new → StillKept (Some entries) new
    go (rest, at) = (more ++ rest, at ∙ ap Some (append_assoc entries more rest))

pub still_at_hand : (old new : Option (List Entry)) (c : Collector) → StillKept old new → IsAtHand old c → IsAtHand new c
still_at_hand None new c still (entries, is, value, among) = none_some entries is
still_at_hand (Some kept) new c (more, at) (entries, is, value, among) =
    let entry : Entry = record { collector = c; value = value } in
    (kept ++ more, at, value, Contains-append_left kept more entry (subst (λ (xs : List Entry). Contains xs entry) (sym (some_same kept entries is)) among))

-- what is at hand is among the entries
pub among_entries : (kept : Option (List Entry)) (entries : List Entry) (c : Collector) → kept ≡ Some entries → IsAtHand kept c → (value : Option Value) × Contains entries (record { collector = c; value = value })
among_entries kept entries c same (others, is, value, among) = (value, subst (λ (xs : List Entry). Contains xs (record { collector = c; value = value })) (some_same others entries (sym is ∙ same)) among)

pub room_before : (old new : Option (List Entry)) → StillKept old new → HasRoom new → HasRoom old
room_before None new still (entries, is, few) = none_some entries (sym still ∙ is)
room_before (Some kept) new (more, at) (entries, is, few) = (kept, refl, omega (arith, few, ap (λ (xs : List Entry). length xs) (some_same (kept ++ more) entries (sym at ∙ is)), length-append kept more))

-- values are kept where one is at hand, and where there is room
pub some_hand : (kept : Option (List Entry)) (c : Collector) → IsAtHand kept c → IsSome kept
some_hand kept c (entries, is, value, among) = subst (λ x. IsSome x) (sym is) refl

pub some_room : (kept : Option (List Entry)) → HasRoom kept → IsSome kept
some_room kept (entries, is, few) = subst (λ x. IsSome x) (sym is) refl

pub own_path : (mask : Mask) (term : DartTerm) (e : ℕ) (c : Collector) → IsOfMean mask term e c → term.path ≡ []
own_path mask term e c (inl own) = own.0
own_path mask term e c (inr own) = own.0

-- both collectors of a mean are at hand
pub of_mean_in : (mask : Mask) (term : DartTerm) (e : ℕ) (c : Collector) (kept : Option (List Entry)) → IsOfMean mask term e c → IsAtHand kept (record { form = forms.Sum; mask = mask; node = term.node; embed = e })
    → IsAtHand kept (record { form = forms.Count; mask = mask; node = term.node; embed = 0 }) → IsAtHand kept c
of_mean_in mask term e c kept (inl own) sum count = subst (IsAtHand kept) (sym own.1) sum
of_mean_in mask term e c kept (inr own) sum count = subst (IsAtHand kept) (sym own.1) count

-- ---- how many there are

one_at_most : (path : List ℕ) (c : Collector) → length (where_empty path c) ≤ 1
one_at_most [] c = omega arith
one_at_most (i ∷ path) c = omega arith

own_at_most : (form : Form) (mask : Mask) (term : DartTerm) (e : ℕ) → length (own_collector form mask term e) ≤ 1
own_at_most form mask term e = one_at_most term.path _

two_at_most : (xs ys : List Collector) (m n : ℕ) → length xs ≤ m → length ys ≤ n → length (xs ++ ys) ≤ m + n
two_at_most xs ys m n few others = let both = length-append xs ys in omega (arith, both, few, others)

-- those over the orbit of a node's own dart are no more than all
pub own_among_all : (tree : Tree) → length (collectors_of tree) ≤ collector_count tree
own_among_all (Number n) = omega arith
own_among_all (Truth b) = omega arith
own_among_all (Param k) = omega arith
own_among_all (Field d e) = omega arith
own_among_all (Same d d') = omega arith
own_among_all (Count o d) = own_at_most forms.Count o d 0
own_among_all (Sum o d e) = own_at_most forms.Sum o d e
own_among_all (Least o d e) = own_at_most forms.Least o d e
own_among_all (Greatest o d e) = own_at_most forms.Greatest o d e
own_among_all (Unary op a) = own_among_all a
own_among_all (Binary op a b) = two_at_most (collectors_of a) (collectors_of b) _ _ (own_among_all a) (own_among_all b)
own_among_all (If c a b) = two_at_most (collectors_of c) (collectors_of a ++ collectors_of b) _ _ (own_among_all c) (two_at_most (collectors_of a) (collectors_of b) _ _ (own_among_all a) (own_among_all b))
own_among_all (MakeVec2 a b) = two_at_most (collectors_of a) (collectors_of b) _ _ (own_among_all a) (own_among_all b)
own_among_all (MakeVec3 a b c) = two_at_most (collectors_of a) (collectors_of b ++ collectors_of c) _ _ (own_among_all a) (two_at_most (collectors_of b) (collectors_of c) _ _ (own_among_all b) (own_among_all c))
own_among_all (MakeRgb a b c) = two_at_most (collectors_of a) (collectors_of b ++ collectors_of c) _ _ (own_among_all a) (two_at_most (collectors_of b) (collectors_of c) _ _ (own_among_all b) (own_among_all c))

-- ---- units beside what is at hand

module _ (P Q : Collector → Type 0) (more : (c : Collector) → P c → Q c) (reading : Reading) where
  own_more : (form : Form) (mask : Mask) (term : DartTerm) (e u : ℕ) → HasOwnUnits P reading form mask term e u → HasOwnUnits Q reading form mask term e u
  own_more form mask term e u (inl (c, own, at_hand, none)) = inl (c, own, more c at_hand, none)
  own_more form mask term e u (inr units) = inr units

  -- with more at hand a reading has each number of units that it had
  pub units_more : (tree : Tree) (u : ℕ) → HasUnitsBeside P reading tree u → HasUnitsBeside Q reading tree u
  units_more (Number n) u h = h
  units_more (Truth b) u h = h
  units_more (Param k) u h = h
  units_more (Field d e) u h = h
  units_more (Same d d') u h = h
  units_more (Count o d) u h = own_more forms.Count o d 0 u h
  units_more (Sum o d e) u h = own_more forms.Sum o d e u h
  units_more (Least o d e) u h = own_more forms.Least o d e u h
  units_more (Greatest o d e) u h = own_more forms.Greatest o d e u h
  units_more (Unary op a) u h = units_more a u h
  units_more (Binary op a b) u (s, t, h, k, sum) = (s, t, units_more a s h, units_more b t k, sum)
  units_more (If c a b) u (s, t, h, inl (yes_there, k), sum) = (s, t, units_more c s h, inl (yes_there, units_more a t k), sum)
  units_more (If c a b) u (s, t, h, inr (inl (no_there, k)), sum) = (s, t, units_more c s h, inr (inl (no_there, units_more b t k)), sum)
  units_more (If c a b) u (s, t, h, inr (inr none), sum) = (s, t, units_more c s h, inr (inr none), sum)
  units_more (MakeVec2 a b) u (s, t, h, k, sum) = (s, t, units_more a s h, units_more b t k, sum)
  units_more (MakeVec3 a b c) u (s, t, w, h, k, l, sum) = (s, t, w, units_more a s h, units_more b t k, units_more c w l, sum)
  units_more (MakeRgb a b c) u (s, t, w, h, k, l, sum) = (s, t, w, units_more a s h, units_more b t k, units_more c w l, sum)

-- the model's units are among those beside anything
pub model_units : (P : Collector → Type 0) (reading : Reading) (tree : Tree) (u : ℕ) → HasUnits reading tree u → HasUnitsBeside P reading tree u
model_units P reading (Number n) u h = h
model_units P reading (Truth b) u h = h
model_units P reading (Param k) u h = h
model_units P reading (Field d e) u h = h
model_units P reading (Same d d') u h = h
model_units P reading (Count o d) u h = inr h
model_units P reading (Sum o d e) u h = inr h
model_units P reading (Least o d e) u h = inr h
model_units P reading (Greatest o d e) u h = inr h
model_units P reading (Unary op a) u h = model_units P reading a u h
model_units P reading (Binary op a b) u (s, t, h, k, sum) = (s, t, model_units P reading a s h, model_units P reading b t k, sum)
model_units P reading (If c a b) u (s, t, h, inl (yes_there, k), sum) = (s, t, model_units P reading c s h, inl (yes_there, model_units P reading a t k), sum)
model_units P reading (If c a b) u (s, t, h, inr (inl (no_there, k)), sum) = (s, t, model_units P reading c s h, inr (inl (no_there, model_units P reading b t k)), sum)
model_units P reading (If c a b) u (s, t, h, inr (inr none), sum) = (s, t, model_units P reading c s h, inr (inr none), sum)
model_units P reading (MakeVec2 a b) u (s, t, h, k, sum) = (s, t, model_units P reading a s h, model_units P reading b t k, sum)
model_units P reading (MakeVec3 a b c) u (s, t, w, h, k, l, sum) = (s, t, w, model_units P reading a s h, model_units P reading b t k, model_units P reading c w l, sum)
model_units P reading (MakeRgb a b c) u (s, t, w, h, k, l, sum) = (s, t, w, model_units P reading a s h, model_units P reading b t k, model_units P reading c w l, sum)

-- ---- an expression without a collector

neither : (a b : Bool) → a || b ≡ false → (a ≡ false) × (b ≡ false)
neither false b none = (refl, none)
neither true b none = absurd (false≢true (sym none))

none_of_three : (a b c : Bool) → a || (b || c) ≡ false → (a ≡ false) × (b ≡ false) × (c ≡ false)
none_of_three a b c none = let first = neither a (b || c) none in let rest = neither b c first.1 in (first.0, rest.0, rest.1)

-- its reading reads none
pub none_to_read : (reading : Reading) (tree : Tree) (x : Collector) → collects tree ≡ false → Reads reading tree x → ⊥
none_to_read reading (Number n) x none read = elim read [ ]
none_to_read reading (Truth b) x none read = elim read [ ]
none_to_read reading (Param k) x none read = elim read [ ]
none_to_read reading (Field d e) x none read = elim read [ ]
none_to_read reading (Same d d') x none read = elim read [ ]
none_to_read reading (Count o d) x none read = false≢true (sym none)
none_to_read reading (Sum o d e) x none read = false≢true (sym none)
none_to_read reading (Least o d e) x none read = false≢true (sym none)
none_to_read reading (Greatest o d e) x none read = false≢true (sym none)
none_to_read reading (Unary op a) x none read = none_to_read reading a x none read
none_to_read reading (Binary op a b) x none (inl read) = none_to_read reading a x (neither (collects a) (collects b) none).0 read
none_to_read reading (Binary op a b) x none (inr read) = none_to_read reading b x (neither (collects a) (collects b) none).1 read
none_to_read reading (If c a b) x none (inl read) = none_to_read reading c x (none_of_three (collects c) (collects a) (collects b) none).0 read
none_to_read reading (If c a b) x none (inr (inl (yes_there, read))) = none_to_read reading a x (none_of_three (collects c) (collects a) (collects b) none).1 read
none_to_read reading (If c a b) x none (inr (inr (no_there, read))) = none_to_read reading b x (none_of_three (collects c) (collects a) (collects b) none).2 read
none_to_read reading (MakeVec2 a b) x none (inl read) = none_to_read reading a x (neither (collects a) (collects b) none).0 read
none_to_read reading (MakeVec2 a b) x none (inr read) = none_to_read reading b x (neither (collects a) (collects b) none).1 read
none_to_read reading (MakeVec3 a b c) x none (inl read) = none_to_read reading a x (none_of_three (collects a) (collects b) (collects c) none).0 read
none_to_read reading (MakeVec3 a b c) x none (inr (inl read)) = none_to_read reading b x (none_of_three (collects a) (collects b) (collects c) none).1 read
none_to_read reading (MakeVec3 a b c) x none (inr (inr read)) = none_to_read reading c x (none_of_three (collects a) (collects b) (collects c) none).2 read
none_to_read reading (MakeRgb a b c) x none (inl read) = none_to_read reading a x (none_of_three (collects a) (collects b) (collects c) none).0 read
none_to_read reading (MakeRgb a b c) x none (inr (inl read)) = none_to_read reading b x (none_of_three (collects a) (collects b) (collects c) none).1 read
none_to_read reading (MakeRgb a b c) x none (inr (inr read)) = none_to_read reading c x (none_of_three (collects a) (collects b) (collects c) none).2 read

-- ---- steps within them

module _ (reader : Reader) where
  abbrev R : Reading
  R = reading_of reader

  abbrev dim : ℕ
  dim = reader.arena.now.schema.dim

  -- what a later reading takes beside more is within what it has beside less
  pub later_within : (old new : Option (List Entry)) (tree : Tree) (from to : ℕ) → StillKept old new → IsWithin reader (UnitsBeside reader new tree) from to → IsWithin reader (UnitsBeside reader old tree) from to
  later_within old new tree from to still within u units = within u (units_more (IsAtHand old) (IsAtHand new) (λ c. still_at_hand old new c still) R tree u units)

  abbrev Both : Option (List Entry) → Tree → Tree → ℕ → Type 0
  Both kept a b u = (s : ℕ) × (t : ℕ) × UnitsBeside reader kept a s × UnitsBeside reader kept b t × (u ≡ s + t)

  pub two_beside : (old mid : Option (List Entry)) (a b : Tree) (from at to : ℕ) → StillKept old mid → IsWithin reader (UnitsBeside reader old a) from at → IsWithin reader (UnitsBeside reader mid b) at to → IsWithin reader (Both old a b) from to
  two_beside old mid a b from at to still first second u (s, t, h, k, sum) =
      subst (λ n. to ≤ from + 6 * (dim + 1) * n) (sym sum) (both_within dim s t from at to (first s h) (later_within old mid b at to still second t k))

  pub first_beside : (old : Option (List Entry)) (a b : Tree) (from to : ℕ) → IsWithin reader (UnitsBeside reader old a) from to → IsWithin reader (Both old a b) from to
  first_beside old a b from to first u (s, t, h, k, sum) = subst (λ n. to ≤ from + 6 * (dim + 1) * n) (sym sum) (one_within dim s t from to (first s h))

  pub three_beside : (old mid late : Option (List Entry)) (a b c : Tree) (from at then to : ℕ) → StillKept old mid → StillKept mid late
      → IsWithin reader (UnitsBeside reader old a) from at → IsWithin reader (UnitsBeside reader mid b) at then → IsWithin reader (UnitsBeside reader late c) then to → IsWithin reader (UnitsBeside reader old (MakeVec3 a b c)) from to
  three_beside old mid late a b c from at then to still again first second third u (s, t, w, h, k, l, sum) =
      subst (λ n. to ≤ from + 6 * (dim + 1) * n) (sym sum)
      (both_within dim (s + t) w from then to (both_within dim s t from at then (first s h) (later_within old mid b at then still second t k)) (later_within old late c then to (later_kept old mid late still again) third w l))

  pub start_beside : (old : Option (List Entry)) (a b c : Tree) (from to : ℕ) → IsWithin reader (UnitsBeside reader old a) from to → IsWithin reader (UnitsBeside reader old (MakeVec3 a b c)) from to
  start_beside old a b c from to first u (s, t, w, h, k, l, sum) =
      subst (λ n. to ≤ from + 6 * (dim + 1) * n) (sym sum) (one_within dim (s + t) w from to (one_within dim s t from to (first s h)))

  pub front_beside : (old mid : Option (List Entry)) (a b c : Tree) (from at to : ℕ) → StillKept old mid → IsWithin reader (UnitsBeside reader old a) from at → IsWithin reader (UnitsBeside reader mid b) at to → IsWithin reader (UnitsBeside reader old (MakeVec3 a b c)) from to
  front_beside old mid a b c from at to still first second u (s, t, w, h, k, l, sum) =
      subst (λ n. to ≤ from + 6 * (dim + 1) * n) (sym sum) (one_within dim (s + t) w from to (both_within dim s t from at to (first s h) (later_within old mid b at to still second t k)))

  -- the units of a choice, once the condition is known to hold, or not to
  pub chosen_beside : (old mid : Option (List Entry)) (c a b : Tree) (truth : Bool) (from at to : ℕ) → StillKept old mid → truth ≡ true → HasValue R c (values.Bool truth) → IsWithin reader (UnitsBeside reader old c) from at → IsWithin reader (UnitsBeside reader mid a) at to → IsWithin reader (UnitsBeside reader old (If c a b)) from to
  chosen_beside old mid c a b truth from at to still e h first second u (s, t, us, side, sum) = subst (λ n. to ≤ from + 6 * (dim + 1) * n) (sym sum) (go side)
    where
      yes_there : HasValue R c (values.Bool true)
      yes_there = subst (λ t. HasValue R c (values.Bool t)) e h

      go : (HasValue R c (values.Bool true) × UnitsBeside reader old a t) ⊎ (HasValue R c (values.Bool false) × UnitsBeside reader old b t) ⊎ (HasNoValue R c × (t ≡ 0)) → to ≤ from + 6 * (dim + 1) * (s + t)
      go (inl (k, ut)) = both_within dim s t from at to (first s us) (later_within old mid a at to still second t ut)
      go (inr (inl (k, ut))) = absurd (not_both_truths R c yes_there k)
      go (inr (inr (none, z))) = absurd (none (values.Bool true) yes_there)

  pub other_beside : (old mid : Option (List Entry)) (c a b : Tree) (truth : Bool) (from at to : ℕ) → StillKept old mid → truth ≡ false → HasValue R c (values.Bool truth) → IsWithin reader (UnitsBeside reader old c) from at → IsWithin reader (UnitsBeside reader mid b) at to → IsWithin reader (UnitsBeside reader old (If c a b)) from to
  other_beside old mid c a b truth from at to still e h first second u (s, t, us, side, sum) = subst (λ n. to ≤ from + 6 * (dim + 1) * n) (sym sum) (go side)
    where
      no_there : HasValue R c (values.Bool false)
      no_there = subst (λ t. HasValue R c (values.Bool t)) e h

      go : (HasValue R c (values.Bool true) × UnitsBeside reader old a t) ⊎ (HasValue R c (values.Bool false) × UnitsBeside reader old b t) ⊎ (HasNoValue R c × (t ≡ 0)) → to ≤ from + 6 * (dim + 1) * (s + t)
      go (inl (k, ut)) = absurd (not_both_truths R c k no_there)
      go (inr (inl (k, ut))) = both_within dim s t from at to (first s us) (later_within old mid b at to still second t ut)
      go (inr (inr (none, z))) = absurd (none (values.Bool false) no_there)

  pub condition_beside : (old : Option (List Entry)) (c a b : Tree) (from to : ℕ) → IsWithin reader (UnitsBeside reader old c) from to → IsWithin reader (UnitsBeside reader old (If c a b)) from to
  condition_beside old c a b from to first u (s, t, us, side, sum) = subst (λ n. to ≤ from + 6 * (dim + 1) * n) (sym sum) (one_within dim s t from to (first s us))

  -- no steps are within any units
  pub still_beside : (kept : Option (List Entry)) (tree : Tree) (from : ℕ) → IsWithin reader (UnitsBeside reader kept tree) from from
  still_beside kept tree from u h = omega arith

  -- a collector that isn't at hand takes its units
  pub own_within : (kept : Option (List Entry)) (form : Form) (mask : Mask) (term : DartTerm) (e from to : ℕ) → ((c : Collector) → IsOwn form mask term e c → IsAtHand kept c → ⊥) → IsWithinUnits R (collector_at form mask term e) from to → IsWithin reader (OwnUnits reader kept form mask term e) from to
  own_within kept form mask term e from to lacks within u (inl (c, own, at_hand, none)) = absurd (lacks c own at_hand)
  own_within kept form mask term e from to lacks within u (inr units) = within u units

  pub not_found : (kept : Option (List Entry)) (form : Form) (mask : Mask) (term : DartTerm) (e from to : ℕ) → (IsAtHand kept (record { form = form; mask = mask; node = term.node; embed = e }) → IsTrue false) → IsWithinUnits R (collector_at form mask term e) from to → IsWithin reader (OwnUnits reader kept form mask term e) from to
  not_found kept form mask term e from to lacks within = own_within kept form mask term e from to (λ c own at_hand. false≢true (lacks (subst (IsAtHand kept) own.1 at_hand))) within

  -- a mean of which one part isn't at hand takes a walk
  pub mean_within : (kept : Option (List Entry)) (mask : Mask) (term : DartTerm) (e from to : ℕ) → ((c d : Collector) → IsOwn forms.Sum mask term e c → IsOwn forms.Count mask term 0 d → IsAtHand kept c → IsAtHand kept d → ⊥) → IsWithinUnits R (Sum mask term e) from to → IsWithin reader (MeanUnits reader kept mask term e) from to
  mean_within kept mask term e from to lacks within u (s, t, inl (c, own, at_hand, none), inl (d, owned, there, nothing), sum) = absurd (lacks c d own owned at_hand there)
  mean_within kept mask term e from to lacks within u (s, t, inr units, k, sum) = subst (λ n. to ≤ from + 6 * (dim + 1) * n) (sym sum) (one_within dim s t from to (within s units))
  mean_within kept mask term e from to lacks within u (s, t, inl (c, own, at_hand, none), inr units, sum) = subst (λ n. to ≤ from + 6 * (dim + 1) * n) (sym (omega (arith, sum, none))) (within t units)

  -- ---- what is left

  -- a later reading leaves what an earlier one did
  pub later_left : (IsSuch : Collector → Type 0) (mid new : Option (List Entry)) → StillKept mid new → AreLeft reader IsSuch mid → AreLeft reader IsSuch new
  later_left IsSuch mid new still left room c such shared = still_at_hand mid new c still (left (room_before mid new still room) c such shared)

  pub two_left : (P Q : Collector → Type 0) (mid new : Option (List Entry)) → StillKept mid new → AreLeft reader P mid → AreLeft reader Q new → AreLeft reader (λ c. P c ⊎ Q c) new
  two_left P Q mid new still first second room c (inl p) shared = later_left P mid new still first room c p shared
  two_left P Q mid new still first second room c (inr q) shared = second room c q shared

  pub three_left : (P Q S : Collector → Type 0) (mid late new : Option (List Entry)) → StillKept mid late → StillKept late new → AreLeft reader P mid → AreLeft reader Q late → AreLeft reader S new → AreLeft reader (λ c. P c ⊎ Q c ⊎ S c) new
  three_left P Q S mid late new still again first second third =
      two_left P (λ c. Q c ⊎ S c) mid new (later_kept mid late new still again) first (two_left Q S late new again second third)

  pub chosen_left : (c a b : Tree) (truth : Bool) (mid new : Option (List Entry)) → StillKept mid new → truth ≡ true → HasValue R c (values.Bool truth) → AreLeft reader (Read reader c) mid → AreLeft reader (Read reader a) new → AreLeft reader (Read reader (If c a b)) new
  chosen_left c a b truth mid new still e h first second room x (inl r) shared = later_left (Read reader c) mid new still first room x r shared
  chosen_left c a b truth mid new still e h first second room x (inr (inl (yes_there, r))) shared = second room x r shared
  chosen_left c a b truth mid new still e h first second room x (inr (inr (no_there, r))) shared = absurd (not_both_truths R c (subst (λ t. HasValue R c (values.Bool t)) e h) no_there)

  pub other_left : (c a b : Tree) (truth : Bool) (mid new : Option (List Entry)) → StillKept mid new → truth ≡ false → HasValue R c (values.Bool truth) → AreLeft reader (Read reader c) mid → AreLeft reader (Read reader b) new → AreLeft reader (Read reader (If c a b)) new
  other_left c a b truth mid new still e h first second room x (inl r) shared = later_left (Read reader c) mid new still first room x r shared
  other_left c a b truth mid new still e h first second room x (inr (inl (yes_there, r))) shared = absurd (not_both_truths R c yes_there (subst (λ t. HasValue R c (values.Bool t)) e h))
  other_left c a b truth mid new still e h first second room x (inr (inr (no_there, r))) shared = second room x r shared

-- ---- whether there is a value

pub not_some : {A : Type 0} (o : Option A) → o ≡ None → IsSome o → ⊥
not_some o none some = false≢true (subst (λ x. IsSome x) none some)

pub is_some : {A : Type 0} (o : Option A) (x : A) → o ≡ Some x → IsSome o
is_some o x e = rw e refl
