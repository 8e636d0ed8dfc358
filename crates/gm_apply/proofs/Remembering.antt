-- What is kept between the readings of an embedding: all that earlier readings of the same node read and its orbit shares.
use Rattle.std.proofs.Common.{◌≡◌, ◌≢◌, ℕ, zero, suc, ◌+◌, ◌-◌, ◌*◌, ◌<◌, ◌≤◌, ◌⊎◌, inl, inr, Bool, true, false, IsTrue, List, [], ◌∷◌, length, map, Option, Some, None, slice_get, get_or, refl, sym, ap, subst, ◌∙◌, arith}
use Rattle.std.specs.Prelude.{IsSome, MatchOption}
use Rattle.std.specs.List.{Contains}
use Rattle.std.proofs.lemmas.Bool.{cases_eq, cases_lt, false≢true}
use Rattle.std.proofs.lemmas.Option.{slice_get-get_or, slice_get_within}
use Rattle.gm_model.specs.declared.value.Value.{Value}
use Rattle.gm_model.specs.inner.Collectors.{collector_count}
use Rattle.gm_model.specs.Orbits.{IsPairBefore}
use Rattle.gm_model.specs.Rules.{rule_of}
use Rattle.gm_model.specs.Trees.{Tree}
use Rattle.gm_theory.proofs.Lists.{none_some, some_same}
use Rattle.gm_theory.proofs.ValuesLists.{in_contained}
use Rattle.gm_plan.specs.inner.Collecting.{CollectsNothing}
use Rattle.gm_eval.specs.declared.kept.Collector.{Collector}
use Rattle.gm_eval.specs.declared.kept.Entry.{Entry as KeptEntry}
use Rattle.gm_eval.specs.inner.Keeping.{KeptOf}
use Rattle.gm_eval.specs.inner.Sharing.{AreKeptOnce, HasRoom, HasUnitsBeside, IsAtHand, IsShared, Reads, StillKept, collectors_of}
use Rattle.gm_eval.proofs.Adding.{has_room}
use Rattle.gm_eval.proofs.Sharing.{none_to_read, own_among_all, still_at_hand, units_more}
use Rattle.gm_pending.specs.declared.deciding_instance.DecidingInstance.{DecidingInstance as Entry}
use Rattle.gm_pending.specs.inner.Results.{PendingOf, given_at, instances_of, place_of}
use Rattle.gm_apply.specs.declared.reading.Reading.{Reading}
use Rattle.gm_apply.specs.inner.Reads.{HasRead}
use Rattle.gm_apply.specs.inner.Readings.{IsExpression, WasRead, places_of, read_at}
use Rattle.gm_apply.proofs.Giving.{entry_at}
use Rattle.gm_apply.proofs.ReadValues.{some_embed}

-- ---- the places of deciding instances

-- a value that is given leaves the places
pub places_stay : (entries : List Entry) (i : ℕ) (v : Value) → map place_of (given_at entries i v) ≡ map place_of entries
places_stay [] i v = refl
places_stay (entry ∷ entries) zero v = refl
places_stay (entry ∷ entries) (suc i) v = ap (λ rest. place_of entry ∷ rest) (places_stay entries i v)

-- they stand by node
abbrev pub NodesRise : List (ℕ × ℕ) → Type 0
NodesRise places = (j i x p y q : ℕ) → j ≤ i → slice_get places j ≡ Some (x, p) → slice_get places i ≡ Some (y, q) → x ≤ y

pub nodes_rise : (reading : Reading) (hooks : List ℕ) (pending : PendingOf) (e i start steps : ℕ) → HasRead reading hooks pending (suc e) e i start steps → NodesRise (places_of pending e)
nodes_rise reading hooks pending e i start steps h j k x p y q less at there = go (cases_lt j k)
  where
    go : (j < k) ⊎ (k ≤ j) → x ≤ y
    go (inr not_less) =
        let same : j ≡ k = omega (arith, less, not_less) in
        let pair : ◌≡◌ {A = ℕ × ℕ} (x, p) (y, q) = some_same (x, p) (y, q) (sym at ∙ ap (slice_get (places_of pending e)) same ∙ there) in
        let node : x ≡ y = ap (λ (place : ℕ × ℕ). place.0) pair in
        omega (arith, node)
    go (inl before) =
        let few = h.few in
        let embed = some_embed reading.arena.now.schema.embeds e (omega (arith, few)) in
        let these = h.deciders e embed.0 (omega arith) embed.1 in
        let first = entry_at (instances_of pending e) j x p at in
        let second = entry_at (instances_of pending e) k y q there in
        by first.entry second.entry first.node_is second.node_is (these.ascending j k first.entry second.entry before first.at second.at)
      where
        by : (a b : Entry) → a.node ≡ x → b.node ≡ y → IsPairBefore a.node a.position b.node b.position → x ≤ y
        by a b f g (inl lower) = omega (arith, f, g, lower)
        by a b f g (inr (same, later)) = omega (arith, f, g, same)

-- ---- what is kept

some_stays : (old new : Option (List KeptEntry)) → StillKept old new → IsSome old → IsSome new
some_stays None new still some = absurd (cc)
some_stays (Some entries) new (more, is) some = subst (λ kept. IsSome kept) (sym is) refl

-- so many readings, and whether what is read may collect
module _ (reading : Reading) (e : ℕ) (places : List (ℕ × ℕ)) (count : ℕ) (may_collect : Bool) where
  -- values are kept between the readings
  abbrev IsOpen : Type 0
  IsOpen = (2 ≤ count) × IsTrue may_collect

  -- before the i-th reading: where values are kept, what was read before of the node that was read last is at hand
  pub record IsKeptBefore (i : ℕ) (kept : KeptOf) : Type 0 where
    pub reader : (j x p : ℕ) → suc j ≡ i → slice_get places j ≡ Some (x, p) → kept.reader ≡ Some x
    pub some : IsOpen → IsSome kept.entries
    pub once : AreKeptOnce kept.entries
    pub among : (x : ℕ) (tree : Tree) → kept.reader ≡ Some x → IsExpression reading e x tree → (c : Collector) → IsAtHand kept.entries c → Contains (collectors_of tree) c
    pub left : IsOpen → (x : ℕ) (tree : Tree) → kept.reader ≡ Some x → IsExpression reading e x tree → (c : Collector) → WasRead reading e places i x tree c → IsAtHand kept.entries c

  -- and then of the node that is read next
  pub record IsKeptFor (i x : ℕ) (kept : KeptOf) : Type 0 where
    pub reader : kept.reader ≡ Some x
    pub some : IsOpen → IsSome kept.entries
    pub once : AreKeptOnce kept.entries
    pub among : (tree : Tree) → IsExpression reading e x tree → (c : Collector) → IsAtHand kept.entries c → Contains (collectors_of tree) c
    pub left : IsOpen → (tree : Tree) → IsExpression reading e x tree → (c : Collector) → WasRead reading e places i x tree c → IsAtHand kept.entries c

  once_of : (o : Option (List KeptEntry)) → (o ≡ None) ⊎ (o ≡ Some []) → AreKeptOnce o
  once_of o (inl none) = subst (λ kept. AreKeptOnce kept) (sym none) tt
  once_of o (inr empty) = subst (λ kept. AreKeptOnce kept) (sym empty) tt

  nothing_at_hand : (o : Option (List KeptEntry)) (c : Collector) → (o ≡ None) ⊎ (o ≡ Some []) → IsAtHand o c → ⊥
  nothing_at_hand o c (inl none) (entries, is, value, among) = none_some entries (sym none ∙ is)
  nothing_at_hand o c (inr empty) (entries, is, value, among) =
      absurd (in_contained [] (record { collector = c; value = value }) (subst (λ (xs : List KeptEntry). Contains xs (record { collector = c; value = value })) (sym (some_same [] entries (sym empty ∙ is))) among))

  -- ---- before the first reading

  pub kept_first : (kept : KeptOf) → (2 ≤ count → IsTrue may_collect → kept.entries ≡ Some []) → ((2 ≤ count → IsTrue may_collect → ⊥) → kept.entries ≡ None) → kept.reader ≡ None → IsKeptBefore 0 kept
  kept_first kept several otherwise nobody = record {
    reader = λ j x p on at. absurd (omega (arith, on));
    some = λ opened. subst (λ o. IsSome o) (sym (several opened.0 opened.1)) refl;
    once = once_of kept.entries (either (cases_lt 1 count) may_collect refl);
    among = λ x tree is expression c at_hand. none_some x (sym nobody ∙ is);
    left = λ opened x tree is expression c was. none_some x (sym nobody ∙ is);
  }
    where
      either : (1 < count) ⊎ (count ≤ 1) → (b : Bool) → may_collect ≡ b → (kept.entries ≡ None) ⊎ (kept.entries ≡ Some [])
      either (inl more) true is = inr (several (omega (arith, more)) is)
      either (inl more) false is = inl (otherwise (λ many it_may. false≢true (sym is ∙ it_may)))
      either (inr few) b is = inl (otherwise (λ many it_may. omega (arith, few, many)))

  -- ---- the node that is read next

  module _ (rise : NodesRise places) (i x p : ℕ) (at : slice_get places i ≡ Some (x, p)) (old new : KeptOf) (h : IsKeptBefore i old) where
    same_reader : (r : Option ℕ) → (r ≡ Some x) ⊎ (r ≢ Some x)
    same_reader None = inr (λ is. none_some x is)
    same_reader (Some y) = go (cases_eq y x)
      where
        go : (y ≡ x) ⊎ (y ≡ x → ⊥) → (Some y ≡ Some x) ⊎ (Some y ≢ Some x)
        go (inl same) = inl (ap Some same)
        go (inr apart) = inr (λ is. apart (some_same y x is))

    -- where the node was read before, it was read last
    read_last : (j q : ℕ) → j < i → slice_get places j ≡ Some (x, q) → old.reader ≡ Some x
    read_last j q less there =
        let last : ℕ = i - 1 in
        let on : suc last ≡ i = omega (arith, less) in
        let within : i < length places = slice_get_within places i (x, p) at in
        let place : ℕ × ℕ = get_or places last (0, 0) in
        let here : slice_get places last ≡ Some (place.0, place.1) = slice_get-get_or places last (0, 0) (omega (arith, on, within)) in
        let low : x ≤ place.0 = rise j last x q place.0 place.1 (omega (arith, on, less)) there here in
        let high : place.0 ≤ x = rise last i place.0 place.1 x p (omega (arith, on)) here at in
        let same : place.0 ≡ x = omega (arith, low, high) in
        h.reader last place.0 place.1 on here ∙ ap Some same

    pub kept_turned : (old.reader ≡ Some x → new ≡ old) → (old.reader ≢ Some x → MatchOption old.entries (new.entries ≡ None) (λ _. new.entries ≡ Some [])) → new.reader ≡ Some x → IsKeptFor i x new
    kept_turned stays turned reader = go (same_reader old.reader)
      where
        go : (old.reader ≡ Some x) ⊎ (old.reader ≢ Some x) → IsKeptFor i x new
        go (inl same) = subst (IsKeptFor i x) (sym (stays same)) (record {
          reader = same;
          some = h.some;
          once = h.once;
          among = λ tree expression c at_hand. h.among x tree same expression c at_hand;
          left = λ opened tree expression c was. h.left opened x tree same expression c was;
        })
        go (inr apart) = record {
          reader = reader;
          some = λ opened. still_some old.entries (h.some opened) (turned apart);
          once = once_of new.entries empty;
          among = λ tree expression c at_hand. absurd (nothing_at_hand new.entries c empty at_hand);
          left = λ opened tree expression c (j, q, less, there, reads, shared, few). absurd (apart (read_last j q less there));
        }
          where
            still_some : (o : Option (List KeptEntry)) → IsSome o → MatchOption o (new.entries ≡ None) (λ _. new.entries ≡ Some []) → IsSome new.entries
            still_some None some is = absurd (cc)
            still_some (Some entries) some is = subst (λ kept. IsSome kept) (sym is) refl

            either : (o : Option (List KeptEntry)) → MatchOption o (new.entries ≡ None) (λ _. new.entries ≡ Some []) → (new.entries ≡ None) ⊎ (new.entries ≡ Some [])
            either None is = inl is
            either (Some entries) is = inr is

            empty : (new.entries ≡ None) ⊎ (new.entries ≡ Some [])
            empty = either old.entries (turned apart)

  -- ---- the i-th reading

  module _ (i x p : ℕ) (at : slice_get places i ≡ Some (x, p)) (old : KeptOf) (h : IsKeptFor i x old) where
    pub kept_read : (new : KeptOf) → StillKept old.entries new.entries → new.reader ≡ old.reader
        → ((tree : Tree) (c : Collector) → IsExpression reading e x tree → IsAtHand new.entries c → IsAtHand old.entries c ⊎ Contains (collectors_of tree) c)
        → (AreKeptOnce old.entries → AreKeptOnce new.entries)
        → (HasRoom new.entries → (tree : Tree) (c : Collector) → IsExpression reading e x tree → Reads (read_at reading p) tree c → IsShared reading.arena.now reading.found.now p c → IsAtHand new.entries c)
        → IsKeptBefore (suc i) new
    kept_read new still reader among once remembers = record {
      reader = λ j y q on there. reader ∙ h.reader ∙ ap Some (ap (λ (place : ℕ × ℕ). place.0) (here j y q (omega (arith, on)) there));
      some = λ opened. some_stays old.entries new.entries still (h.some opened);
      once = once h.once;
      among = λ y tree is expression c at_hand. now_among tree (subst (λ z. IsExpression reading e z tree) (node y is) expression) c at_hand;
      left = λ opened y tree is expression c was. now_left opened tree (subst (λ z. IsExpression reading e z tree) (node y is) expression) c (subst (λ z. WasRead reading e places (suc i) z tree c) (node y is) was);
    }
      where
        here : (j y q : ℕ) → j ≡ i → slice_get places j ≡ Some (y, q) → ◌≡◌ {A = ℕ × ℕ} (x, p) (y, q)
        here j y q same there = some_same (x, p) (y, q) (sym at ∙ ap (slice_get places) (sym same) ∙ there)

        node : (y : ℕ) → new.reader ≡ Some y → y ≡ x
        node y is = some_same y x (sym is ∙ reader ∙ h.reader)

        now_among : (tree : Tree) → IsExpression reading e x tree → (c : Collector) → IsAtHand new.entries c → Contains (collectors_of tree) c
        now_among tree expression c at_hand = go (among tree c expression at_hand)
          where
            go : IsAtHand old.entries c ⊎ Contains (collectors_of tree) c → Contains (collectors_of tree) c
            go (inl before) = h.among tree expression c before
            go (inr stands) = stands

        now_left : IsOpen → (tree : Tree) → IsExpression reading e x tree → (c : Collector) → WasRead reading e places (suc i) x tree c → IsAtHand new.entries c
        now_left opened tree expression c (j, q, less, there, reads, shared, few) = go (cases_eq j i)
          where
            room : HasRoom new.entries
            room = has_room new.entries (collectors_of tree) (some_stays old.entries new.entries still (h.some opened)) (once h.once) (now_among tree expression) (let own = own_among_all tree in let all : collector_count tree ≤ 36 = few in omega (arith, own, all))

            go : (j ≡ i) ⊎ (j ≡ i → ⊥) → IsAtHand new.entries c
            go (inl same) =
                let position : q ≡ p = sym (ap (λ (place : ℕ × ℕ). place.1) (here j x q same there)) in
                remembers room tree c expression (subst (λ n. Reads (read_at reading n) tree c) position reads) (subst (λ n. IsShared reading.arena.now reading.found.now n c) position shared)
            go (inr apart) = still_at_hand old.entries new.entries c still (h.left opened tree expression c (j, q, omega (arith, less, apart), there, reads, shared, few))

    -- what it takes beside what was read before
    pub cost_beside : (may_collect ≡ false → CollectsNothing (rule_of reading.plan.now.table) e) → (steps later : ℕ) → length places ≡ count
        → ((tree : Tree) (u : ℕ) → IsExpression reading e x tree → HasUnitsBeside (IsAtHand old.entries) (read_at reading p) tree u → later ≤ steps + 6 * (reading.arena.now.schema.dim + 1) * u)
        → (tree : Tree) (u : ℕ) → IsExpression reading e x tree → HasUnitsBeside (WasRead reading e places i x tree) (read_at reading p) tree u → later ≤ steps + 6 * (reading.arena.now.schema.dim + 1) * u
    cost_beside silent steps later long cheap tree u expression beside =
        let within : i < length places = slice_get_within places i (x, p) at in
        cheap tree u expression
        (units_more (WasRead reading e places i x tree) (IsAtHand old.entries) (λ c was. h.left (several within was.2, collecting tree expression c was may_collect refl) tree expression c was) (read_at reading p) tree u beside)
      where
        several : {j : ℕ} → i < length places → j < i → 2 ≤ count
        several within less = omega (arith, within, less, long)

        -- where no expression collects, none was read before
        collecting : (tree : Tree) → IsExpression reading e x tree → (c : Collector) → WasRead reading e places i x tree c → (b : Bool) → may_collect ≡ b → IsTrue may_collect
        collecting tree expression c was true is = is
        collecting tree expression c (j, q, less, there, reads, shared, few) false is = absurd (none_to_read (read_at reading q) tree c (silent is x tree expression) reads)
