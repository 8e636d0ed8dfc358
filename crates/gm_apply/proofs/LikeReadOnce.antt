-- What an application takes where what is shared is read once is the same over maps and places that are like.
use Rattle.std.proofs.Common.{ℕ, suc, ◌<◌, inl, inr, true, false, List, [], ◌∷◌, refl, sym, subst, arith}
use Rattle.std.specs.List.{AllZip, Contains}
use Rattle.gm_model.specs.declared.expr.DartTerm.{DartTerm}
use Rattle.gm_model.specs.declared.schema.Schema.{Schema}
use Rattle.gm_model.specs.declared.value.Value.{Value}
use Rattle.gm_model.specs.declared.value.Value.TheVariants as values
use Rattle.gm_model.specs.declared.word.Mask.{Mask}
use Rattle.gm_model.specs.Applications.{Decider, IsDecider, reading_at}
use Rattle.gm_model.specs.Expressions.{Reading, HasUnits, IsCollected}
use Rattle.gm_model.specs.Kinds.{IsMaskInRange, IsTermInRange, IsTreeInRange}
use Rattle.gm_model.specs.Maps.{Map}
use Rattle.gm_model.specs.Matches.{Placement}
use Rattle.gm_model.specs.Rules.{Rule}
use Rattle.gm_model.specs.Trees.{Tree, Number, Truth, Param, Field, Same, Count, Sum, Least, Greatest, Unary, Binary, If, MakeVec2, MakeVec3, MakeRgb}
use Rattle.gm_theory.specs.inner.Theorem.{Unfolded, IsDartOf}
use Rattle.gm_eval.specs.declared.kept.Collector.{Collector}
use Rattle.gm_eval.specs.declared.kept.Form.{Form}
use Rattle.gm_eval.specs.declared.kept.Form.TheVariants as forms
use Rattle.gm_eval.specs.inner.Keeping.{collector_at, own_term}
use Rattle.gm_eval.specs.inner.Sharing.{HasOwnUnits, HasUnitsBeside, IsOwn, Reads}
use Rattle.gm_apply.specs.inner.ReadOnce.{IsReadBefore, IsReadOnce, IsReadOnceSum}
use Rattle.gm_apply.proofs.LikePlaces.{readings_like}
use Rattle.gm_apply.proofs.LikeReadings.{AreLikeReadings, collected_there, value_there, no_value_there, units_there}
use Rattle.gm_apply.proofs.LikeResults.{AreLikeResults, results_back, within_there}
use Rattle.gm_apply.proofs.LikeValues.{ours, theirs, decider_there, read_there}

-- ---- a collector that is read stands over labels of the map, at a left node

module _ (schema : Schema) (rule : Rule) where
  own_in_range : (form : Form) (mask : Mask) (term : DartTerm) (e : ℕ) (c : Collector) → IsMaskInRange schema rule mask → IsTermInRange schema rule term → IsOwn form mask term e c
      → IsMaskInRange schema rule c.mask × IsTermInRange schema rule (own_term c.node)
  own_in_range form mask term e c low h (empty, is) =
      (subst (λ (x : Collector). IsMaskInRange schema rule x.mask) (sym is) low, subst (λ (x : Collector). IsTermInRange schema rule (own_term x.node)) (sym is) (record { node = h.node; path = tt }))

  pub reads_in_range : (reading : Reading) (tree : Tree) (x : Collector) → IsTreeInRange schema rule tree → Reads reading tree x → IsMaskInRange schema rule x.mask × IsTermInRange schema rule (own_term x.node)
  reads_in_range reading (Number n) x h read = elim read [ ]
  reads_in_range reading (Truth b) x h read = elim read [ ]
  reads_in_range reading (Param k) x h read = elim read [ ]
  reads_in_range reading (Field d e) x h read = elim read [ ]
  reads_in_range reading (Same d d') x h read = elim read [ ]
  reads_in_range reading (Count o d) x h read = own_in_range forms.Count o d 0 x h.0 h.1 read
  reads_in_range reading (Sum o d e) x h read = own_in_range forms.Sum o d e x h.0 h.1 read
  reads_in_range reading (Least o d e) x h read = own_in_range forms.Least o d e x h.0 h.1 read
  reads_in_range reading (Greatest o d e) x h read = own_in_range forms.Greatest o d e x h.0 h.1 read
  reads_in_range reading (Unary op a) x h read = reads_in_range reading a x h read
  reads_in_range reading (Binary op a b) x h (inl read) = reads_in_range reading a x h.0 read
  reads_in_range reading (Binary op a b) x h (inr read) = reads_in_range reading b x h.1 read
  reads_in_range reading (If c a b) x h (inl read) = reads_in_range reading c x h.0 read
  reads_in_range reading (If c a b) x h (inr (inl (yes_there, read))) = reads_in_range reading a x h.1 read
  reads_in_range reading (If c a b) x h (inr (inr (no_there, read))) = reads_in_range reading b x h.2 read
  reads_in_range reading (MakeVec2 a b) x h (inl read) = reads_in_range reading a x h.0 read
  reads_in_range reading (MakeVec2 a b) x h (inr read) = reads_in_range reading b x h.1 read
  reads_in_range reading (MakeVec3 a b c) x h (inl read) = reads_in_range reading a x h.0 read
  reads_in_range reading (MakeVec3 a b c) x h (inr (inl read)) = reads_in_range reading b x h.1 read
  reads_in_range reading (MakeVec3 a b c) x h (inr (inr read)) = reads_in_range reading c x h.2 read
  reads_in_range reading (MakeRgb a b c) x h (inl read) = reads_in_range reading a x h.0 read
  reads_in_range reading (MakeRgb a b c) x h (inr (inl read)) = reads_in_range reading b x h.1 read
  reads_in_range reading (MakeRgb a b c) x h (inr (inr read)) = reads_in_range reading c x h.2 read

-- ---- one expression

module _ (rule : Rule) (r s : Reading) (like : AreLikeReadings rule r s) where
  reads_there : (tree : Tree) (x : Collector) → IsTreeInRange r.map.schema rule tree → Reads r tree x → Reads s tree x
  reads_there (Number n) x h read = read
  reads_there (Truth b) x h read = read
  reads_there (Param k) x h read = read
  reads_there (Field d e) x h read = read
  reads_there (Same d d') x h read = read
  reads_there (Count o d) x h read = read
  reads_there (Sum o d e) x h read = read
  reads_there (Least o d e) x h read = read
  reads_there (Greatest o d e) x h read = read
  reads_there (Unary op a) x h read = reads_there a x h read
  reads_there (Binary op a b) x h (inl read) = inl (reads_there a x h.0 read)
  reads_there (Binary op a b) x h (inr read) = inr (reads_there b x h.1 read)
  reads_there (If c a b) x h (inl read) = inl (reads_there c x h.0 read)
  reads_there (If c a b) x h (inr (inl (t, read))) = inr (inl (value_there rule r s like c (values.Bool true) h.0 t, reads_there a x h.1 read))
  reads_there (If c a b) x h (inr (inr (t, read))) = inr (inr (value_there rule r s like c (values.Bool false) h.0 t, reads_there b x h.2 read))
  reads_there (MakeVec2 a b) x h (inl read) = inl (reads_there a x h.0 read)
  reads_there (MakeVec2 a b) x h (inr read) = inr (reads_there b x h.1 read)
  reads_there (MakeVec3 a b c) x h (inl read) = inl (reads_there a x h.0 read)
  reads_there (MakeVec3 a b c) x h (inr (inl read)) = inr (inl (reads_there b x h.1 read))
  reads_there (MakeVec3 a b c) x h (inr (inr read)) = inr (inr (reads_there c x h.2 read))
  reads_there (MakeRgb a b c) x h (inl read) = inl (reads_there a x h.0 read)
  reads_there (MakeRgb a b c) x h (inr (inl read)) = inr (inl (reads_there b x h.1 read))
  reads_there (MakeRgb a b c) x h (inr (inr read)) = inr (inr (reads_there c x h.2 read))

  module _ (P Q : Collector → Type 0) (more : (x : Collector) → P x → Q x) where
    own_there : (form : Form) (mask : Mask) (term : DartTerm) (e u : ℕ) → (HasUnits r (collector_at form mask term e) u → HasUnits s (collector_at form mask term e) u) → HasOwnUnits P r form mask term e u → HasOwnUnits Q s form mask term e u
    own_there form mask term e u units (inl (x, own, at_hand, none)) = inl (x, own, more x at_hand, none)
    own_there form mask term e u units (inr is) = inr (units is)

    beside_there : (tree : Tree) (u : ℕ) → IsTreeInRange r.map.schema rule tree → HasUnitsBeside P r tree u → HasUnitsBeside Q s tree u
    beside_there (Number n) u h is = is
    beside_there (Truth b) u h is = is
    beside_there (Param k) u h is = is
    beside_there (Field d e) u h is = is
    beside_there (Same d d') u h is = is
    beside_there (Count o d) u h is = own_there forms.Count o d 0 u (units_there rule r s like (Count o d) u h) is
    beside_there (Sum o d e) u h is = own_there forms.Sum o d e u (units_there rule r s like (Sum o d e) u h) is
    beside_there (Least o d e) u h is = own_there forms.Least o d e u (units_there rule r s like (Least o d e) u h) is
    beside_there (Greatest o d e) u h is = own_there forms.Greatest o d e u (units_there rule r s like (Greatest o d e) u h) is
    beside_there (Unary op a) u h is = beside_there a u h is
    beside_there (Binary op a b) u h (m, n, is, is', e) = (m, n, beside_there a m h.0 is, beside_there b n h.1 is', e)
    beside_there (If c a b) u h (m, n, is, inl (t, is'), e) = (m, n, beside_there c m h.0 is, inl (value_there rule r s like c (values.Bool true) h.0 t, beside_there a n h.1 is'), e)
    beside_there (If c a b) u h (m, n, is, inr (inl (t, is')), e) = (m, n, beside_there c m h.0 is, inr (inl (value_there rule r s like c (values.Bool false) h.0 t, beside_there b n h.2 is')), e)
    beside_there (If c a b) u h (m, n, is, inr (inr (none, z)), e) = (m, n, beside_there c m h.0 is, inr (inr (no_value_there rule r s like c h.0 none, z)), e)
    beside_there (MakeVec2 a b) u h (m, n, is, is', e) = (m, n, beside_there a m h.0 is, beside_there b n h.1 is', e)
    beside_there (MakeVec3 a b c) u h (m, n, o, is, is', is'', e) = (m, n, o, beside_there a m h.0 is, beside_there b n h.1 is', beside_there c o h.2 is'', e)
    beside_there (MakeRgb a b c) u h (m, n, o, is, is', is'', e) = (m, n, o, beside_there a m h.0 is, beside_there b n h.1 is', beside_there c o h.2 is'', e)

-- ---- the deciding instances

module _ (rule : Rule) (hooks : List ℕ) (params : List Value) (a b : Map) (place other : Placement) (result end : Unfolded) (r : AreLikeResults rule a b place other result end) where
  before_there : (decider : Decider) (tree : Tree) (x : Collector) → IsTreeInRange a.schema rule tree → decider.position < place.positions
      → IsReadBefore (ours rule hooks params a b place other result end r) place (IsDartOf result) result.alpha decider tree x → IsReadBefore (theirs rule hooks params a b place other result end r) other (IsDartOf end) end.alpha decider tree x
  before_there decider tree x range inside h = record {
    position = h.position;
    before = h.before;
    decides = decider_there rule hooks params a b place other result end r (record { embed = decider.embed; node = decider.node; position = h.position }) h.decides;
    reads = reads_there rule _ _ (readings_like rule a b place other params r.like h.position within) tree x range h.reads;
    shared = λ q less.
        let low : q < place.positions = subst (λ n. q < n) (sym r.like.like.positions) less in
        subst (IsCollected (reading_at (theirs rule hooks params a b place other result end r) other h.position) x.mask (own_term x.node)) (r.like.like.darts x.node q (ranges.1.node, low))
        (collected_there rule _ _ (readings_like rule a b place other params r.like h.position within) x.mask (own_term x.node) (place.dart_of x.node q) ranges.0 ranges.1 (h.shared q low));
    few = h.few;
  }
    where
      within : h.position < place.positions
      within = let before = h.before in omega (arith, before, inside)

      ranges : IsMaskInRange a.schema rule x.mask × IsTermInRange a.schema rule (own_term x.node)
      ranges = reads_in_range a.schema rule (reading_at (ours rule hooks params a b place other result end r) place h.position) tree x range h.reads

  once_there : (decider : Decider) (u : ℕ) → IsDecider (ours rule hooks params a b place other result end r) place (IsDartOf result) result.alpha decider
      → IsReadOnce (ours rule hooks params a b place other result end r) place (IsDartOf result) result.alpha decider u → IsReadOnce (theirs rule hooks params a b place other result end r) other (IsDartOf end) end.alpha decider u
  once_there decider u h (tree, (assigns, within), units) =
      let range = (r.like.accepted.typed.sets decider.node decider.embed tree h.embed assigns h.embed_at).in_range in (
        tree,
        (assigns, within_there rule a b place other result end r decider.position within),
        beside_there rule _ _ (readings_like rule a b place other params r.like decider.position within) (IsReadBefore (ours rule hooks params a b place other result end r) place (IsDartOf result) result.alpha decider tree)
            (IsReadBefore (theirs rule hooks params a b place other result end r) other (IsDartOf end) end.alpha decider tree) (λ x before. before_there decider tree x range within before) tree u range units,
      )

  all_once_there : (read : List Decider) (units : List ℕ) → ((decider : Decider) → Contains read decider → IsDecider (ours rule hooks params a b place other result end r) place (IsDartOf result) result.alpha decider)
      → AllZip (IsReadOnce (ours rule hooks params a b place other result end r) place (IsDartOf result) result.alpha) read units → AllZip (IsReadOnce (theirs rule hooks params a b place other result end r) other (IsDartOf end) end.alpha) read units
  all_once_there [] [] decide all = all
  all_once_there [] (u ∷ units) decide all = all
  all_once_there (decider ∷ read) [] decide all = all
  all_once_there (decider ∷ read) (u ∷ units) decide all =
      (once_there decider u (decide decider (0, omega arith, refl)) all.0, all_once_there read units (λ d c. decide d (suc c.0, (let less = c.1 in omega (arith, less)), c.2)) all.1)

  pub once_sum_there : (w : ℕ) → IsReadOnceSum (ours rule hooks params a b place other result end r) place (IsDartOf result) result.alpha w → IsReadOnceSum (theirs rule hooks params a b place other result end r) other (IsDartOf end) end.alpha w
  once_sum_there w s = record {
    read = s.read;
    ordered = s.ordered;
    same = λ decider. (
      λ c. read_there rule hooks params a b place other result end r decider ((s.same decider).0 c),
      λ h. (s.same decider).1 (read_there rule hooks params b a other place end result (results_back rule a b place other result end r) decider h),
    );
    units = s.units;
    units_are = all_once_there s.read s.units (λ decider c. ((s.same decider).0 c).0) s.units_are;
    sum_is = s.sum_is;
  }
