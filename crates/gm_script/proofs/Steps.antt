-- Each symbol that can stand next is written behind what is written so far.
use Rattle.std.proofs.Common.{◌≡◌, ℕ, ◌+◌, ◌^◌, ◌-◌, min, Bool, true, false, List, [], ◌∷◌, ◌++◌, length, Option, Some, None, refl, sym, ap, subst, ◌∙◌, codes}
use Rattle.std.proofs.lemmas.Bool.{false≢true}
use Rattle.std.proofs.lemmas.Option.{none-some}
use Rattle.std.specs.List.{AllByRecursion}
use Rattle.gm_model.specs.Names.{reserved, is_among}
use Rattle.gm_model.specs.Symbols.{Symbol, Word, Numeral, Sign}
use Rattle.gm_model.specs.Reading.{Part, word, number, sign, the_end}
use Rattle.gm_text.specs.SchemaText.{no_labels, with_label}
use Rattle.gm_script.specs.ScriptText.{ValueForm, StatForm, Plain, Truth, Pair, Triple, Role, Fixed, StatAt, RuleAt, LabelBehind, spell_value, spell_values, spell_labels, spell_stats, spelling, IsForm, IsStatForm}
use Rattle.gm_script.specs.inner.Reading.{Been, head_word, sight_of, next_spot, next_word, next_head, within_behind, can_end, is_whole, been_behind, begun_behind, role_in}
use Rattle.gm_script.specs.declared.sight.Head.{Head}
use Rattle.gm_script.specs.declared.sight.Head.TheVariants as heads
use Rattle.gm_script.specs.declared.sight.Sight.{Sight}
use Rattle.gm_script.specs.declared.sight.Sight.TheVariants as sights
use Rattle.gm_script.specs.declared.spot.Spot.{Spot}
use Rattle.gm_script.specs.declared.spot.Spot.TheVariants as spots
use Rattle.gm_script.proofs.Sights.{Seen, AsHead, AsWith, AsTrue, AsFalse, AsName, AsNumber, AsMinus, AsOpen, AsClose, AsLess, AsGreater, AsOther, seen}
use Rattle.gm_script.proofs.Spelling.{hooks_more, labels_more, mask_more, values_more}
use Rattle.gm_script.proofs.Drafts.{Draft, DraftStat, signed, begun, closed, named, with_value, add_head, add_number, add_vector, nest, NestsTo, spell_named, in_stat, so_far, IsBare, IsDraft, IsMore, Goes, IsClosed, closed_at_bare, closed_at_rule, closed_at_named, closed_at_value, nests_nested}

-- a reserved word is none of those that begin statements
head_free : (head : Head) → is_among reserved (head_word head) ≡ false
head_free heads.Apply = refl
head_free heads.Each = refl
head_free heads.Undo = refl
head_free heads.Redo = refl
head_free heads.Group = refl
head_free heads.End = refl

-- a word that can begin a statement leaves a group open, or not
opens : (within : Bool) (head : Head) (to : Spot) → next_head within head ≡ Some to → nest within head ≡ Some (within_behind head within)
opens within heads.Apply to e = refl
opens true heads.Each to e = absurd (none-some to e)
opens true heads.Undo to e = absurd (none-some to e)
opens true heads.Redo to e = absurd (none-some to e)
opens true heads.Group to e = absurd (none-some to e)
opens true heads.End to e = refl
opens false heads.Each to e = refl
opens false heads.Undo to e = refl
opens false heads.Redo to e = refl
opens false heads.Group to e = refl
opens false heads.End to e = absurd (none-some to e)

-- the spot where a statement has begun, and no more
data Begins : Spot → Head → Type 0 where
  AsApply : Begins spots.Apply heads.Apply
  AsEach : Begins spots.Each heads.Each
  AsBare : (head : Head) → IsBare head → Begins spots.Bare head

begins : (within : Bool) (head : Head) (to : Spot) → next_head within head ≡ Some to → Begins to head
begins within heads.Apply to e = let same : spots.Apply ≡ to = cc e in subst (λ s. Begins s heads.Apply) same AsApply
begins true heads.Each to e = absurd (none-some to e)
begins true heads.Undo to e = absurd (none-some to e)
begins true heads.Redo to e = absurd (none-some to e)
begins true heads.Group to e = absurd (none-some to e)
begins true heads.End to e = let same : spots.Bare ≡ to = cc e in subst (λ s. Begins s heads.End) same (AsBare heads.End tt)
begins false heads.Each to e = let same : spots.Each ≡ to = cc e in subst (λ s. Begins s heads.Each) same AsEach
begins false heads.Undo to e = let same : spots.Bare ≡ to = cc e in subst (λ s. Begins s heads.Undo) same (AsBare heads.Undo tt)
begins false heads.Redo to e = let same : spots.Bare ≡ to = cc e in subst (λ s. Begins s heads.Redo) same (AsBare heads.Redo tt)
begins false heads.Group to e = let same : spots.Bare ≡ to = cc e in subst (λ s. Begins s heads.Group) same (AsBare heads.Group tt)
begins false heads.End to e = absurd (none-some to e)

module _ (n : ℕ) where
  -- the part that a symbol is at the spot
  abbrev pub part_in : Spot → Been → Sight → ℕ → Symbol → Part Role
  part_in spot been sight place symbol = record { symbol = symbol; role = role_in n spot been sight place }

  more_values : (values : List ValueForm) (value : ValueForm) → (first : ValueForm) × (others : List ValueForm) × (values ++ value ∷ [] ≡ first ∷ others)
  more_values [] value = (value, [], refl)
  more_values (first ∷ values) value = (first, values ++ value ∷ [], refl)

  -- a value behind others
  named_ends : (k : ℕ) (head : Head) (stat : DraftStat) (rest other : List (Part Role)) → rest ≡ other → spell_named n k head stat rest ≡ spell_named n k head stat other
  named_ends k head stat rest other e = ap (spell_named n k head stat) e

  in_value : (k : ℕ) (draft : Draft) (value : ValueForm) (rest : List (Part Role)) → in_stat n k (with_value value draft) rest ≡ in_stat n k draft (spell_value value rest)
  in_value k draft value rest = by draft.stat.head
    where
      by : (head : Head) → spell_stats n 0 draft.stats (spell_named n k head (with_value value draft).stat (word Fixed (codes "with") ∷ spell_values (draft.stat.values ++ value ∷ []) rest))
          ≡ spell_stats n 0 draft.stats (spell_named n k head draft.stat (word Fixed (codes "with") ∷ spell_values draft.stat.values (spell_value value rest)))
      by heads.Apply = rw (values_more draft.stat.values value rest) refl
      by heads.Each = rw (values_more draft.stat.values value rest) refl
      by heads.Undo = rw (values_more draft.stat.values value rest) refl
      by heads.Redo = rw (values_more draft.stat.values value rest) refl
      by heads.Group = rw (values_more draft.stat.values value rest) refl
      by heads.End = rw (values_more draft.stat.values value rest) refl

  -- ---- a word that begins statements

  -- a statement begins behind the draft's whole ones
  good_at : (to : Spot) (head : Head) (been : Been) (place : ℕ) (draft : Draft) → Begins to head → AllByRecursion IsStatForm draft.stats → been.begun ≡ length draft.stats → NestsTo false draft.stats been.within
      → nest been.within head ≡ Some (within_behind head been.within) → IsDraft to (begun_behind head been) (begun head place draft)
  good_at to head been place draft AsApply form count within opening = record { form = form; stat = (refl, refl, refl); count = ap (λ (m : ℕ). m + 1) count; nested = (been.within, within, opening); labels = refl }
  good_at to head been place draft AsEach form count within opening = record { form = form; stat = (refl, refl, refl); count = ap (λ (m : ℕ). m + 1) count; nested = (been.within, within, opening); labels = refl }
  good_at to head been place draft (AsBare bare is) form count within opening = record { form = form; stat = is; count = ap (λ (m : ℕ). m + 1) count; nested = (been.within, within, opening); labels = refl }

  written_at : (to : Spot) (head : Head) (k place : ℕ) (draft : Draft) (rest : List (Part Role)) → Begins to head
      → so_far n to k (begun head place draft) rest ≡ spell_stats n 0 draft.stats (word (StatAt k place) (head_word head) ∷ rest)
  written_at to head k place draft rest AsApply = refl
  written_at to head k place draft rest AsEach = refl
  written_at to head k place draft rest (AsBare bare is) = refl

  -- where the draft has whole statements alone
  begun_more : (spot : Spot) (been : Been) (head : Head) (place : ℕ) (draft whole : Draft) → AllByRecursion IsStatForm whole.stats → been.begun ≡ length whole.stats → NestsTo false whole.stats been.within
      → ((rest : List (Part Role)) → spell_stats n 0 whole.stats rest ≡ so_far n spot been.begun draft rest) → (o : Option Spot) → next_head been.within head ≡ o
      → Goes n spot been draft (record { symbol = Word (head_word head); role = StatAt (been.begun + 1) place }) (begun head place whole) (begun_behind head been) o
  begun_more spot been head place draft whole form count within written None e = tt
  begun_more spot been head place draft whole form count within written (Some to) e =
      let at = begins been.within head to e in
      record {
        good = good_at to head been place whole at form count within (opens been.within head to e);
        written = λ rest. written_at to head (been.begun + 1) place whole rest at ∙ written (record { symbol = Word (head_word head); role = StatAt (been.begun + 1) place } ∷ rest);
      }

  begun_behind_closed : (spot : Spot) (been : Been) (head : Head) (place : ℕ) (draft : Draft) → IsClosed n spot been draft
      → Goes n spot been draft (record { symbol = Word (head_word head); role = StatAt (been.begun + 1) place }) (begun head place (closed draft)) (begun_behind head been) (next_head been.within head)
  begun_behind_closed spot been head place draft whole =
      begun_more spot been head place draft (closed draft) whole.form (sym whole.count) whole.nested whole.written (next_head been.within head) refl

  on_head : (spot : Spot) (been : Been) (head : Head) (place : ℕ) (draft : Draft) → IsDraft spot been draft
      → Goes n spot been draft (part_in spot been (sights.Begins head) place (Word (head_word head))) (add_head spot head place draft) (been_behind spot (sights.Begins head) (Word (head_word head)) been) (next_word been.within spot head)
  on_head spots.Start been head place draft good =
      begun_more spots.Start been head place draft draft good.form good.count good.nested (λ rest. refl) (next_head been.within head) refl
  on_head spots.Bare been head place draft good = begun_behind_closed spots.Bare been head place draft (closed_at_bare n been draft good)
  on_head spots.Rule been head place draft good = begun_behind_closed spots.Rule been head place draft (closed_at_rule n been draft good)
  on_head spots.Named been head place draft good = begun_behind_closed spots.Named been head place draft (closed_at_named n been draft good)
  on_head spots.Value been head place draft good = begun_behind_closed spots.Value been head place draft (closed_at_value n been draft good)
  on_head spots.Apply been head place draft good = record {
    good = record { form = good.form; stat = (good.stat.0, head_free head, good.stat.2); count = good.count; nested = good.nested; labels = good.labels };
    written = λ rest. let none : draft.stat.hooks ≡ [] = good.stat.1 in rw none refl;
  }
  on_head spots.Over been head place draft good = record {
    good = record { form = good.form; stat = (good.stat.0, head_free head, good.stat.1); count = good.count; nested = good.nested; labels = good.labels };
    written = λ rest. refl;
  }
  on_head _ been head place draft good = tt

  -- ---- names, signs and values

  on_name : (spot : Spot) (been : Been) (place : ℕ) (bytes : List ℕ) (draft : Draft) → is_among reserved bytes ≡ false → IsDraft spot been draft
      → Goes n spot been draft (part_in spot been sights.Name place (Word bytes)) (named bytes place draft) (been_behind spot sights.Name (Word bytes) been) (next_spot been.within spot sights.Name)
  on_name spots.Apply been place bytes draft free good = record {
    good = record { form = good.form; stat = (good.stat.0, free, good.stat.2); count = good.count; nested = good.nested; labels = good.labels };
    written = λ rest. let none : draft.stat.hooks ≡ [] = good.stat.1 in rw none refl;
  }
  on_name spots.Over been place bytes draft free good = record {
    good = record { form = good.form; stat = (good.stat.0, free, good.stat.1); count = good.count; nested = good.nested; labels = good.labels };
    written = λ rest. refl;
  }
  on_name _ been place bytes draft free good = tt

  on_less : (spot : Spot) (been : Been) (place : ℕ) (draft : Draft) → IsDraft spot been draft
      → Goes n spot been draft (part_in spot been sights.Less place (Sign (codes "<"))) draft (been_behind spot sights.Less (Sign (codes "<")) been) (next_spot been.within spot sights.Less)
  on_less spots.Each been place draft good = record {
    good = record { form = good.form; stat = (good.stat.0, good.stat.2); count = good.count; nested = good.nested; labels = good.labels };
    written = λ rest. let none : draft.stat.labels ≡ [] = good.stat.1 in rw none refl;
  }
  on_less _ been place draft good = tt

  on_greater : (spot : Spot) (been : Been) (place : ℕ) (draft : Draft) → IsDraft spot been draft
      → Goes n spot been draft (part_in spot been sights.Greater place (Sign (codes ">"))) draft (been_behind spot sights.Greater (Sign (codes ">")) been) (next_spot been.within spot sights.Greater)
  on_greater spots.Orbit been place draft good = record {
    good = record { form = good.form; stat = good.stat; count = good.count; nested = good.nested; labels = good.labels };
    written = λ rest. refl;
  }
  on_greater _ been place draft good = tt

  rule_as_head : (k : ℕ) (draft : Draft) (rest : List (Part Role)) (head : Head) → draft.stat.head ≡ head → spell_stats n 0 draft.stats (spell_named n k draft.stat.head draft.stat rest) ≡ spell_stats n 0 draft.stats (spell_named n k head draft.stat rest)
  rule_as_head k draft rest head e = ap (λ (h : Head). spell_stats n 0 draft.stats (spell_named n k h draft.stat rest)) e

  on_with : (spot : Spot) (been : Been) (place : ℕ) (draft : Draft) → IsDraft spot been draft
      → Goes n spot been draft (part_in spot been sights.With place (Word (codes "with"))) draft (been_behind spot sights.With (Word (codes "with")) been) (next_spot been.within spot sights.With)
  on_with spots.Rule been place draft good = record {
    good = record { form = good.form; stat = (rw good.stat.0 tt, good.stat.1); count = good.count; nested = good.nested; labels = good.labels };
    written = λ rest.
        ap (λ (vs : List ValueForm). spell_stats n 0 draft.stats (spell_named n been.begun draft.stat.head draft.stat (word Fixed (codes "with") ∷ spell_values vs rest))) good.stat.2
        ∙ rule_as_head been.begun draft (word Fixed (codes "with") ∷ rest) heads.Apply good.stat.0;
  }
  on_with spots.Named been place draft good = record {
    good = record { form = good.form; stat = (rw good.stat.0 tt, good.stat.1); count = good.count; nested = good.nested; labels = good.labels };
    written = λ rest.
        ap (λ (vs : List ValueForm). spell_stats n 0 draft.stats (spell_named n been.begun draft.stat.head draft.stat (word Fixed (codes "with") ∷ spell_values vs rest))) good.stat.2
        ∙ rule_as_head been.begun draft (word Fixed (codes "with") ∷ rest) heads.Each good.stat.0;
  }
  on_with _ been place draft good = tt

  on_truth : (b : Bool) (bytes : List ℕ) → ((rest : List (Part Role)) → spell_value (Truth b) rest ≡ word Fixed bytes ∷ rest) → (spot : Spot) (been : Been) (place : ℕ) (draft : Draft) → IsDraft spot been draft
      → Goes n spot been draft (part_in spot been (sights.Truth b) place (Word bytes)) (with_value (Truth b) draft) (been_behind spot (sights.Truth b) (Word bytes) been) (next_spot been.within spot (sights.Truth b))
  on_truth b bytes spelled spots.With been place draft good = record {
    good = record { form = good.form; stat = (good.stat.0, good.stat.1, more_values draft.stat.values (Truth b)); count = good.count; nested = good.nested; labels = good.labels };
    written = λ rest. in_value been.begun draft (Truth b) rest ∙ ap (in_stat n been.begun draft) (spelled rest);
  }
  on_truth b bytes spelled spots.Value been place draft good = record {
    good = record { form = good.form; stat = (good.stat.0, good.stat.1, more_values draft.stat.values (Truth b)); count = good.count; nested = good.nested; labels = good.labels };
    written = λ rest. in_value been.begun draft (Truth b) rest ∙ ap (in_stat n been.begun draft) (spelled rest);
  }
  on_truth b bytes spelled _ been place draft good = tt

  on_number : (m l : ℕ) (spot : Spot) (been : Been) (place : ℕ) (draft : Draft) → IsDraft spot been draft
      → Goes n spot been draft (part_in spot been (sights.Number l) place (Numeral m)) (add_number spot m draft) (been_behind spot (sights.Number l) (Numeral m) been) (next_spot been.within spot (sights.Number l))
  on_number m l spots.Start been place draft good = tt
  on_number m l spots.Bare been place draft good = tt
  on_number m l spots.Apply been place draft good = tt
  on_number m l spots.Each been place draft good = tt
  on_number m l spots.Over been place draft good = tt
  on_number m l spots.Named been place draft good = tt
  on_number m l spots.Rule been place draft good = record {
    good = record { form = good.form; stat = good.stat; count = good.count; nested = good.nested; labels = good.labels };
    written = λ rest. ap (λ (ps : List (Part Role)). spell_stats n 0 draft.stats (word (StatAt been.begun draft.stat.place) (codes "apply") ∷ word (RuleAt draft.stat.rule.place) draft.stat.rule.name ∷ ps)) (hooks_more draft.stat.hooks m rest);
  }
  on_number m l spots.Orbit been place draft good = record {
    good = record {
      form = good.form;
      stat = good.stat;
      count = good.count;
      nested = good.nested;
      labels = ap (λ mask. with_label mask m) good.labels ∙ sym (mask_more draft.stat.labels m no_labels);
    };
    written = λ rest.
        ap (λ (ps : List (Part Role)). spell_stats n 0 draft.stats (word (StatAt been.begun draft.stat.place) (codes "each") ∷ sign Fixed (codes "<") ∷ ps)) (labels_more n no_labels draft.stat.labels m rest
        ∙ ap (λ mask. spell_labels n no_labels draft.stat.labels (number (LabelBehind n mask) m ∷ rest)) (sym good.labels));
  }
  on_number m l spots.With been place draft good = record {
    good = record { form = good.form; stat = (good.stat.0, good.stat.1, more_values draft.stat.values (Plain (signed false m))); count = good.count; nested = good.nested; labels = good.labels };
    written = λ rest. in_value been.begun draft (Plain (signed false m)) rest;
  }
  on_number m l spots.Value been place draft good = record {
    good = record { form = good.form; stat = (good.stat.0, good.stat.1, more_values draft.stat.values (Plain (signed false m))); count = good.count; nested = good.nested; labels = good.labels };
    written = λ rest. in_value been.begun draft (Plain (signed false m)) rest;
  }
  on_number m l spots.Minus been place draft good = record {
    good = record { form = good.form; stat = (good.stat.0, good.stat.1, more_values draft.stat.values (Plain (signed true m))); count = good.count; nested = good.nested; labels = good.labels };
    written = λ rest. in_value been.begun draft (Plain (signed true m)) rest;
  }
  on_number m l spots.Third been place draft good = tt
  on_number m l _ been place draft good = record { good = record { form = good.form; stat = good.stat; count = good.count; nested = good.nested; labels = good.labels }; written = λ rest. refl }

  on_minus : (spot : Spot) (been : Been) (place : ℕ) (draft : Draft) → IsDraft spot been draft
      → Goes n spot been draft (part_in spot been sights.Minus place (Sign (codes "-"))) draft (been_behind spot sights.Minus (Sign (codes "-")) been) (next_spot been.within spot sights.Minus)
  on_minus spots.With been place draft good = record { good = record { form = good.form; stat = good.stat; count = good.count; nested = good.nested; labels = good.labels }; written = λ rest. refl }
  on_minus spots.Value been place draft good = record { good = record { form = good.form; stat = (good.stat.0, good.stat.1); count = good.count; nested = good.nested; labels = good.labels }; written = λ rest. refl }
  on_minus spots.Open been place draft good = record { good = record { form = good.form; stat = good.stat; count = good.count; nested = good.nested; labels = good.labels }; written = λ rest. refl }
  on_minus spots.First been place draft good = record { good = record { form = good.form; stat = good.stat; count = good.count; nested = good.nested; labels = good.labels }; written = λ rest. refl }
  on_minus spots.Second been place draft good = record { good = record { form = good.form; stat = good.stat; count = good.count; nested = good.nested; labels = good.labels }; written = λ rest. refl }
  on_minus _ been place draft good = tt

  on_open : (spot : Spot) (been : Been) (place : ℕ) (draft : Draft) → IsDraft spot been draft
      → Goes n spot been draft (part_in spot been sights.Open place (Sign (codes "("))) draft (been_behind spot sights.Open (Sign (codes "(")) been) (next_spot been.within spot sights.Open)
  on_open spots.With been place draft good = record { good = record { form = good.form; stat = good.stat; count = good.count; nested = good.nested; labels = good.labels }; written = λ rest. refl }
  on_open spots.Value been place draft good = record { good = record { form = good.form; stat = (good.stat.0, good.stat.1); count = good.count; nested = good.nested; labels = good.labels }; written = λ rest. refl }
  on_open _ been place draft good = tt

  on_close : (spot : Spot) (been : Been) (place : ℕ) (draft : Draft) → IsDraft spot been draft
      → Goes n spot been draft (part_in spot been sights.Close place (Sign (codes ")"))) (add_vector spot draft) (been_behind spot sights.Close (Sign (codes ")")) been) (next_spot been.within spot sights.Close)
  on_close spots.Second been place draft good = record {
    good = record { form = good.form; stat = (good.stat.0, good.stat.1, more_values draft.stat.values (Pair draft.x draft.y)); count = good.count; nested = good.nested; labels = good.labels };
    written = λ rest. in_value been.begun draft (Pair draft.x draft.y) rest;
  }
  on_close spots.Third been place draft good = record {
    good = record { form = good.form; stat = (good.stat.0, good.stat.1, more_values draft.stat.values (Triple draft.x draft.y draft.z)); count = good.count; nested = good.nested; labels = good.labels };
    written = λ rest. in_value been.begun draft (Triple draft.x draft.y draft.z) rest;
  }
  on_close _ been place draft good = tt

  -- ---- each symbol

  abbrev pub name_in : Symbol → List ℕ
  name_in (Word bytes) = bytes
  name_in _ = []

  abbrev pub number_in : Symbol → ℕ
  number_in (Numeral m) = m
  number_in _ = 0

  -- the draft with the symbol behind it
  abbrev pub add : Spot → Sight → Symbol → ℕ → Draft → Draft
  add spot sights.Name symbol place draft = named (name_in symbol) place draft
  add spot (sights.Begins head) symbol place draft = add_head spot head place draft
  add spot (sights.Number l) symbol place draft = add_number spot (number_in symbol) draft
  add spot (sights.Truth b) symbol place draft = with_value (Truth b) draft
  add spot sights.Close symbol place draft = add_vector spot draft
  add spot _ symbol place draft = draft

  pub none_other : (within : Bool) (spot : Spot) → next_spot within spot sights.Other ≡ None
  none_other within spots.Start = refl
  none_other within spots.Bare = refl
  none_other within _ = refl

  add_seen : (spot : Spot) (been : Been) (place : ℕ) (symbol : Symbol) (draft : Draft) → IsDraft spot been draft → (sight : Sight) → Seen symbol sight
      → Goes n spot been draft (part_in spot been sight place symbol) (add spot sight symbol place draft) (been_behind spot sight symbol been) (next_spot been.within spot sight)
  add_seen spot been place symbol draft good (sights.Begins first) (AsHead head e) = rw e (on_head spot been head place draft good)
  add_seen spot been place symbol draft good sights.With (AsWith e) = rw e (on_with spot been place draft good)
  add_seen spot been place symbol draft good (sights.Truth true) (AsTrue e) = rw e (on_truth true (codes "true") (λ rest. refl) spot been place draft good)
  add_seen spot been place symbol draft good (sights.Truth false) (AsFalse e) = rw e (on_truth false (codes "false") (λ rest. refl) spot been place draft good)
  add_seen spot been place symbol draft good sights.Name (AsName bytes e free) = rw e (on_name spot been place bytes draft free good)
  add_seen spot been place symbol draft good (sights.Number l) (AsNumber m e) = rw e (on_number m (min m (2 ^ 64 - 1)) spot been place draft good)
  add_seen spot been place symbol draft good sights.Minus (AsMinus e) = rw e (on_minus spot been place draft good)
  add_seen spot been place symbol draft good sights.Open (AsOpen e) = rw e (on_open spot been place draft good)
  add_seen spot been place symbol draft good sights.Close (AsClose e) = rw e (on_close spot been place draft good)
  add_seen spot been place symbol draft good sights.Less (AsLess e) = rw e (on_less spot been place draft good)
  add_seen spot been place symbol draft good sights.Greater (AsGreater e) = rw e (on_greater spot been place draft good)
  add_seen spot been place symbol draft good sights.Other AsOther = rw (none_other been.within spot) tt

  -- a symbol that can stand next
  pub add_next : (spot : Spot) (been : Been) (place : ℕ) (symbol : Symbol) (draft : Draft) (next : Spot) → IsDraft spot been draft → next_spot been.within spot (sight_of symbol) ≡ Some next
      → IsMore n spot been draft (part_in spot been (sight_of symbol) place symbol) next (add spot (sight_of symbol) symbol place draft) (been_behind spot (sight_of symbol) symbol been)
  add_next spot been place symbol draft next good e =
      subst (Goes n spot been draft (part_in spot been (sight_of symbol) place symbol) (add spot (sight_of symbol) symbol place draft) (been_behind spot (sight_of symbol) symbol been)) e (add_seen spot been place symbol draft good (sight_of symbol) (seen symbol))

-- ---- the end

abbrev pub whole_stats : Spot → Draft → List StatForm
whole_stats spots.Start draft = draft.stats
whole_stats _ draft = (closed draft).stats

pub record IsWhole (n : ℕ) (spot : Spot) (been : Been) (draft : Draft) : Type 0 where
  pub form : IsForm (whole_stats spot draft)
  pub written : so_far n spot been.begun draft (the_end Fixed ∷ []) ≡ spelling n (whole_stats spot draft)

ended : (n : ℕ) (spot : Spot) (been : Been) (draft : Draft) → IsClosed n spot been draft → been.within ≡ false → (whole_stats spot draft ≡ (closed draft).stats) → IsWhole n spot been draft
ended n spot been draft whole out e = record {
  form = rw e (whole.form, nests_nested false (closed draft).stats (subst (NestsTo false (closed draft).stats) out whole.nested));
  written = rw e (sym (whole.written (the_end Fixed ∷ [])));
}

out_of : (within : Bool) (spot : Spot) → can_end within spot ≡ true → (within ≡ false) × (is_whole spot ≡ true)
out_of true spot can = absurd (false≢true can)
out_of false spot can = (refl, can)

whole_at : (n : ℕ) (spot : Spot) (been : Been) (draft : Draft) → IsDraft spot been draft → been.within ≡ false → is_whole spot ≡ true → IsWhole n spot been draft
whole_at n spots.Start been draft good out e = record { form = (good.form, nests_nested false draft.stats (subst (NestsTo false draft.stats) out good.nested)); written = refl }
whole_at n spots.Bare been draft good out e = ended n spots.Bare been draft (closed_at_bare n been draft good) out refl
whole_at n spots.Rule been draft good out e = ended n spots.Rule been draft (closed_at_rule n been draft good) out refl
whole_at n spots.Named been draft good out e = ended n spots.Named been draft (closed_at_named n been draft good) out refl
whole_at n spots.Value been draft good out e = ended n spots.Value been draft (closed_at_value n been draft good) out refl
whole_at n _ been draft good out e = absurd (false≢true e)

pub whole : (n : ℕ) (spot : Spot) (been : Been) (draft : Draft) → IsDraft spot been draft → can_end been.within spot ≡ true → IsWhole n spot been draft
whole n spot been draft good can = let out = out_of been.within spot can in whole_at n spot been draft good out.0 out.1
