-- What the reader holds of a token is what is written with it.
use Rattle.std.proofs.Common.{◌≡◌, ℕ, ◌+◌, ◌-◌, ◌^◌, ◌≤◌, min, Bool, true, false, cond, List, [], ◌∷◌, ◌++◌, map, Option, Some, None, refl, sym, ap, subst, ◌∙◌, arith}
use Rattle.std.specs.Prelude.{nat_lt}
use Rattle.std.proofs.lemmas.List.{append-nil}
use Rattle.std.proofs.lemmas.Bool.Decides.{nat_tests}
use Rattle.gm_model.specs.declared.limit.LimitKind.TheVariants as limits
use Rattle.gm_model.specs.declared.token.Token.{Token}
use Rattle.gm_model.specs.declared.value.Value.{Value}
use Rattle.gm_model.specs.declared.word.Mask.{Mask}
use Rattle.gm_model.specs.Labels.{has}
use Rattle.gm_model.specs.Tokens.{bytes_of}
use Rattle.gm_model.specs.Symbols.{Symbol, Word, Numeral}
use Rattle.gm_text.specs.SchemaText.{LimitOf, Again, no_labels, with_label}
use Rattle.gm_text.specs.ValueText.{greatest, integer}
use Rattle.gm_script.specs.ScriptText.{ValueForm, Plain, Truth, Pair, Triple, StatForm}
use Rattle.gm_script.specs.inner.Reading.{HeldStat, Held, Been, been_of, been_behind, head_word, number_passes, passed_in, sight_of, next_spot, next_head, hold, hold_head, hold_number, hold_vector, new_stat, within_behind, whole_stat, ended_by, put_first, IsInText}
use Rattle.gm_script.specs.declared.sight.Head.{Head}
use Rattle.gm_script.specs.declared.sight.Sight.{Sight}
use Rattle.gm_script.specs.declared.sight.Sight.TheVariants as sights
use Rattle.gm_script.specs.declared.spot.Spot.{Spot}
use Rattle.gm_script.specs.declared.spot.Spot.TheVariants as spots
use Rattle.gm_script.proofs.HeldStats.{value_held, IsHeldStat, IsHeldForm, AreHeld}
use Rattle.gm_script.proofs.Sights.{Seen, AsHead, AsWith, AsTrue, AsFalse, AsName, AsNumber, AsMinus, AsOpen, AsClose, AsLess, AsGreater, AsOther, seen}
use Rattle.gm_script.proofs.Spelling.{mask_more}
use Rattle.gm_script.proofs.Drafts as drafts
use Rattle.gm_script.proofs.Drafts.{Draft, form_of}
use Rattle.gm_script.proofs.Steps.{add, name_in, number_in, whole_stats}

-- the statement that is being read and its vector; the whole statements are held elsewhere
pub record IsHeld (text : List ℕ) (held : Held) (draft : Draft) : Type 0 where
  pub stat : IsHeldStat text held.stat draft.stat
  pub x : held.x ≡ integer draft.x
  pub y : held.y ≡ integer draft.y
  pub z : held.z ≡ integer draft.z

held_more : (text : List ℕ) (helds : List HeldStat) (forms : List StatForm) (held : HeldStat) (form : StatForm) → AreHeld text helds forms → IsHeldForm text held form → AreHeld text (helds ++ held ∷ []) (forms ++ form ∷ [])
held_more text [] [] held form are is = (is, tt)
held_more text [] (first ∷ forms) held form are is = absurd are
held_more text (first ∷ helds) [] held form are is = absurd are
held_more text (first ∷ helds) (other ∷ forms) held form are is = (are.0, held_more text helds forms held form are.1 is)

map_more : (values : List ValueForm) (value : ValueForm) → map value_held (values ++ value ∷ []) ≡ map value_held values ++ value_held value ∷ []
map_more [] value = refl
map_more (first ∷ values) value = ap (λ (vs : List Value). value_held first ∷ vs) (map_more values value)

-- a label that passes nothing is at most the number
low_label : (n l : ℕ) (c again : Bool) → nat_lt n l ≡ c → cond c (Some (LimitOf limits.Label)) (cond again (Some Again) None) ≡ None → l ≤ n
low_label n l true again e f = absurd cc
low_label n l false again e f = grind (arith, nat_tests, e)

-- a number that passes nothing is held as it is
whole : (m : ℕ) (minus : Bool) → cond (nat_lt (greatest minus) (min m (2 ^ 64 - 1))) (Some (LimitOf limits.Integer)) None ≡ None → min m (2 ^ 64 - 1) ≡ m
whole m true free = grind (arith, nat_tests)
whole m false free = grind (arith, nat_tests)

small : (n : ℕ) (spot : Spot) (labels : Mask) (m : ℕ) → n ≤ 7 → number_passes n spot labels (min m (2 ^ 64 - 1)) ≡ None → min m (2 ^ 64 - 1) ≡ m
small n spots.Rule labels m low free = grind (arith, nat_tests)
small n spots.Orbit labels m low free =
    let least : min m (2 ^ 64 - 1) ≤ n = low_label n (min m (2 ^ 64 - 1)) (nat_lt n (min m (2 ^ 64 - 1))) (has labels (min m (2 ^ 64 - 1))) refl free in
    omega (arith, least, low)
small n spots.Minus labels m low free = whole m true free
small n spots.OpenMinus labels m low free = whole m true free
small n spots.FirstMinus labels m low free = whole m true free
small n spots.SecondMinus labels m low free = whole m true free
small n _ labels m low free = whole m false free

-- ---- what has been

module _ (n : ℕ) (low : n ≤ 7) (token : Token) (held : Held) where
  abbrev SameBeen : Spot → Sight → Symbol → Option Spot → Type 0
  SameBeen spot sight symbol None = Unit {0}
  SameBeen spot sight symbol (Some to) = been_of (hold spot sight token held) ≡ been_behind spot sight symbol (been_of held)

  always : (spot : Spot) (sight : Sight) (symbol : Symbol) (to : Option Spot) → been_of (hold spot sight token held) ≡ been_behind spot sight symbol (been_of held) → SameBeen spot sight symbol to
  always spot sight symbol None e = tt
  always spot sight symbol (Some to) e = e

  been_head : (spot : Spot) (head : Head) → SameBeen spot (sights.Begins head) (Word (head_word head)) (next_spot held.within spot (sights.Begins head))
  been_head spots.Apply head = refl
  been_head spots.Over head = refl
  been_head spots.Start head = always spots.Start (sights.Begins head) (Word (head_word head)) (next_head held.within head) refl
  been_head spots.Bare head = always spots.Bare (sights.Begins head) (Word (head_word head)) (next_head held.within head) refl
  been_head spots.Rule head = always spots.Rule (sights.Begins head) (Word (head_word head)) (next_head held.within head) refl
  been_head spots.Named head = always spots.Named (sights.Begins head) (Word (head_word head)) (next_head held.within head) refl
  been_head spots.Value head = always spots.Value (sights.Begins head) (Word (head_word head)) (next_head held.within head) refl
  been_head _ head = tt

  been_number : (spot : Spot) (m : ℕ) → number_passes n spot held.stat.labels (min m (2 ^ 64 - 1)) ≡ None
      → SameBeen spot (sights.Number (min m (2 ^ 64 - 1))) (Numeral m) (next_spot held.within spot (sights.Number (min m (2 ^ 64 - 1))))
  been_number spots.Start m free = tt
  been_number spots.Bare m free = tt
  been_number spots.Apply m free = tt
  been_number spots.Each m free = tt
  been_number spots.Over m free = tt
  been_number spots.Named m free = tt
  been_number spots.Third m free = tt
  been_number spots.Orbit m free = rw (small n spots.Orbit held.stat.labels m low free) refl
  been_number _ m free = refl

  been_seen : (spot : Spot) (symbol : Symbol) (sight : Sight) (size : ℕ) → Seen symbol sight → passed_in n spot (been_of held) sight size ≡ None → SameBeen spot sight symbol (next_spot held.within spot sight)
  been_seen spot symbol (sights.Begins first) size (AsHead head e) free = rw e (been_head spot head)
  been_seen spot symbol (sights.Number l) size (AsNumber m e) free = rw e (been_number spot m free)
  been_seen spots.Apply symbol sights.Name size (AsName bytes e f) free = refl
  been_seen spots.Over symbol sights.Name size (AsName bytes e f) free = refl
  been_seen _ symbol sights.Name size (AsName bytes e f) free = tt
  been_seen spots.Rule symbol sights.With size (AsWith e) free = refl
  been_seen spots.Named symbol sights.With size (AsWith e) free = refl
  been_seen _ symbol sights.With size (AsWith e) free = tt
  been_seen spots.With symbol (sights.Truth b) size is free = refl
  been_seen spots.Value symbol (sights.Truth b) size is free = refl
  been_seen _ symbol (sights.Truth b) size is free = tt
  been_seen spots.With symbol sights.Minus size (AsMinus e) free = refl
  been_seen spots.Value symbol sights.Minus size (AsMinus e) free = refl
  been_seen spots.Open symbol sights.Minus size (AsMinus e) free = refl
  been_seen spots.First symbol sights.Minus size (AsMinus e) free = refl
  been_seen spots.Second symbol sights.Minus size (AsMinus e) free = refl
  been_seen _ symbol sights.Minus size (AsMinus e) free = tt
  been_seen spots.With symbol sights.Open size (AsOpen e) free = refl
  been_seen spots.Value symbol sights.Open size (AsOpen e) free = refl
  been_seen _ symbol sights.Open size (AsOpen e) free = tt
  been_seen spots.Second symbol sights.Close size (AsClose e) free = refl
  been_seen spots.Third symbol sights.Close size (AsClose e) free = refl
  been_seen _ symbol sights.Close size (AsClose e) free = tt
  been_seen spots.Each symbol sights.Less size (AsLess e) free = refl
  been_seen _ symbol sights.Less size (AsLess e) free = tt
  been_seen spots.Orbit symbol sights.Greater size (AsGreater e) free = rw e refl
  been_seen _ symbol sights.Greater size (AsGreater e) free = tt
  been_seen spots.Start symbol sights.Other size AsOther free = tt
  been_seen spots.Bare symbol sights.Other size AsOther free = tt
  been_seen _ symbol sights.Other size AsOther free = tt

  pub been_next : (spot to : Spot) (symbol : Symbol) (size : ℕ) → next_spot held.within spot (sight_of symbol) ≡ Some to → passed_in n spot (been_of held) (sight_of symbol) size ≡ None
      → been_of (hold spot (sight_of symbol) token held) ≡ been_behind spot (sight_of symbol) symbol (been_of held)
  been_next spot to symbol size e free = subst (SameBeen spot (sight_of symbol) symbol) e (been_seen spot symbol (sight_of symbol) size (seen symbol) free)

-- ---- what is held

module _ (text : List ℕ) (token : Token) (inside : IsInText text token) where
  held_stat : (head : Head) → bytes_of text token ≡ head_word head → IsHeldStat text (new_stat head token) (drafts.new_stat head token.start)
  held_stat head bytes = record { place = refl; head = refl; name = bytes; name_place = refl; in_text = inside; hooks = refl; labels = refl; values = refl }

  held_name : (held : Held) (draft : Draft) (name : List ℕ) → IsHeld text held draft → bytes_of text token ≡ name → IsHeld text (record held { stat = record held.stat { name = token } }) (drafts.named name token.start draft)
  held_name held draft name is bytes = record {
    stat = record { place = is.stat.place; head = is.stat.head; name = bytes; name_place = refl; in_text = inside; hooks = is.stat.hooks; labels = is.stat.labels; values = is.stat.values };
    x = is.x;
    y = is.y;
    z = is.z;
  }

  held_value : (held : Held) (draft : Draft) (value : ValueForm) (v : Value) → IsHeld text held draft → v ≡ value_held value
      → IsHeld text (record held { stat = record held.stat { values = held.stat.values ++ v ∷ [] } }) (drafts.with_value value draft)
  held_value held draft value v is same = record {
    stat = record {
      place = is.stat.place;
      head = is.stat.head;
      name = is.stat.name;
      name_place = is.stat.name_place;
      in_text = is.stat.in_text;
      hooks = is.stat.hooks;
      labels = is.stat.labels;
      values = ap (λ (vs : List Value). vs ++ v ∷ []) is.stat.values ∙ ap (λ (w : Value). map value_held draft.stat.values ++ w ∷ []) same ∙ sym (map_more draft.stat.values value);
    };
    x = is.x;
    y = is.y;
    z = is.z;
  }

  held_begun : (head : Head) (held : Held) (draft : Draft) → IsHeld text held draft → bytes_of text token ≡ head_word head
      → IsHeld text (record held { begun = held.begun + 1; within = within_behind head held.within; stat = new_stat head token }) (drafts.begun head token.start draft)
  held_begun head held draft is bytes = record { stat = held_stat head bytes; x = is.x; y = is.y; z = is.z }

  held_head : (spot : Spot) (head : Head) (held : Held) (draft : Draft) → IsHeld text held draft → bytes_of text token ≡ head_word head → IsHeld text (hold_head spot head token held) (drafts.add_head spot head token.start draft)
  held_head spots.Apply head held draft is bytes = held_name held draft (head_word head) is bytes
  held_head spots.Over head held draft is bytes = held_name held draft (head_word head) is bytes
  held_head spots.Start head held draft is bytes = held_begun head held draft is bytes
  held_head _ head held draft is bytes = held_begun head held (drafts.closed draft) (record { stat = is.stat; x = is.x; y = is.y; z = is.z }) bytes

  held_number : (spot : Spot) (m : ℕ) (held : Held) (draft : Draft) → IsHeld text held draft → IsHeld text (hold_number spot m held) (drafts.add_number spot m draft)
  held_number spots.Rule m held draft is = record {
    stat = record {
      place = is.stat.place;
      head = is.stat.head;
      name = is.stat.name;
      name_place = is.stat.name_place;
      in_text = is.stat.in_text;
      hooks = ap (λ (ns : List ℕ). ns ++ m ∷ []) is.stat.hooks;
      labels = is.stat.labels;
      values = is.stat.values;
    };
    x = is.x;
    y = is.y;
    z = is.z;
  }
  held_number spots.Orbit m held draft is = record {
    stat = record {
      place = is.stat.place;
      head = is.stat.head;
      name = is.stat.name;
      name_place = is.stat.name_place;
      in_text = is.stat.in_text;
      hooks = is.stat.hooks;
      labels = ap (λ mask. with_label mask m) is.stat.labels ∙ sym (mask_more draft.stat.labels m no_labels);
      values = is.stat.values;
    };
    x = is.x;
    y = is.y;
    z = is.z;
  }
  held_number spots.Open m held draft is = record { stat = is.stat; x = refl; y = is.y; z = is.z }
  held_number spots.OpenMinus m held draft is = record { stat = is.stat; x = refl; y = is.y; z = is.z }
  held_number spots.First m held draft is = record { stat = is.stat; x = is.x; y = refl; z = is.z }
  held_number spots.FirstMinus m held draft is = record { stat = is.stat; x = is.x; y = refl; z = is.z }
  held_number spots.Second m held draft is = record { stat = is.stat; x = is.x; y = is.y; z = refl }
  held_number spots.SecondMinus m held draft is = record { stat = is.stat; x = is.x; y = is.y; z = refl }
  held_number spots.Minus m held draft is = held_value held draft (Plain (drafts.signed true m)) _ is refl
  held_number _ m held draft is = held_value held draft (Plain (drafts.signed false m)) _ is refl

  held_vector : (spot : Spot) (held : Held) (draft : Draft) → IsHeld text held draft → IsHeld text (hold_vector spot held) (drafts.add_vector spot draft)
  held_vector spots.Second held draft is = held_value held draft (Pair draft.x draft.y) _ is (rw (is.x, is.y) refl)
  held_vector _ held draft is = held_value held draft (Triple draft.x draft.y draft.z) _ is (rw (is.x, is.y, is.z) refl)

  held_spot : (held : Held) (draft : Draft) (spot : Spot) → IsHeld text held draft → IsHeld text (record held { spot = spot }) draft
  held_spot held draft spot is = record { stat = is.stat; x = is.x; y = is.y; z = is.z }

  module _ (n : ℕ) (low : n ≤ 7) where
    held_seen : (spot : Spot) (been : Been) (symbol : Symbol) (held : Held) (draft : Draft) → IsHeld text held draft → ((bytes : List ℕ) → symbol ≡ Word bytes → bytes_of text token ≡ bytes) → (sight : Sight) → Seen symbol sight → (size : ℕ)
        → passed_in n spot been sight size ≡ None → IsHeld text (hold spot sight token held) (add n spot sight symbol token.start draft)
    held_seen spot been symbol held draft is name (sights.Begins first) (AsHead head e) size free = held_head spot head held draft is (name (head_word head) e)
    held_seen spot been symbol held draft is name sights.With (AsWith e) size free = is
    held_seen spot been symbol held draft is name (sights.Truth true) (AsTrue e) size free = held_value held draft (Truth true) _ is refl
    held_seen spot been symbol held draft is name (sights.Truth false) (AsFalse e) size free = held_value held draft (Truth false) _ is refl
    held_seen spot been symbol held draft is name sights.Name (AsName bytes e f) size free = held_name held draft (name_in n symbol) is (name bytes e ∙ sym (ap (name_in n) e))
    held_seen spot been symbol held draft is name (sights.Number l) (AsNumber m e) size free = rw (e, small n spot been.labels m low free) (held_number spot m held draft is)
    held_seen spot been symbol held draft is name sights.Minus (AsMinus e) size free = is
    held_seen spot been symbol held draft is name sights.Open (AsOpen e) size free = is
    held_seen spot been symbol held draft is name sights.Close (AsClose e) size free = held_vector spot held draft is
    held_seen spot been symbol held draft is name sights.Less (AsLess e) size free = is
    held_seen spot been symbol held draft is name sights.Greater (AsGreater e) size free = is
    held_seen spot been symbol held draft is name sights.Other AsOther size free = is

    pub held_next : (spot to : Spot) (been : Been) (symbol : Symbol) (held : Held) (draft : Draft) (size : ℕ) → IsHeld text held draft → ((bytes : List ℕ) → symbol ≡ Word bytes → bytes_of text token ≡ bytes)
        → passed_in n spot been (sight_of symbol) size ≡ None → IsHeld text (record (hold spot (sight_of symbol) token held) { spot = to }) (add n spot (sight_of symbol) symbol token.start draft)
    held_next spot to been symbol held draft size is name free =
        held_spot (hold spot (sight_of symbol) token held) (add n spot (sight_of symbol) symbol token.start draft) to (held_seen spot been symbol held draft is name (sight_of symbol) (seen symbol) size free)

-- ---- whole statements

module _ (text : List ℕ) (stats : List HeldStat) (held : Held) (draft : Draft) (are : AreHeld text stats draft.stats) (is : IsHeld text held draft) where
  form_held : IsHeldForm text held.stat (form_of draft.stat)
  form_held = record { stat = draft.stat; is = is.stat; form_is = refl }

  pub held_whole : (spot : Spot) → AreHeld text (stats ++ put_first (whole_stat spot held.stat) []) (whole_stats spot draft)
  held_whole spots.Start = rw (append-nil stats) are
  held_whole _ = held_more text stats draft.stats held.stat (form_of draft.stat) are form_held

  -- a symbol that begins no statement
  held_same : AreHeld text (stats ++ []) draft.stats
  held_same = rw (append-nil stats) are

  ended_at : (spot : Spot) (head : Head) (place : ℕ) → AreHeld text (stats ++ put_first (ended_by spot (sights.Begins head) held.stat) []) (drafts.add_head spot head place draft).stats
  ended_at spots.Start head place = held_same
  ended_at spots.Apply head place = held_same
  ended_at spots.Over head place = held_same
  ended_at _ head place = held_more text stats draft.stats held.stat (form_of draft.stat) are form_held

  number_at : (spot : Spot) (m : ℕ) → AreHeld text (stats ++ []) (drafts.add_number spot m draft).stats
  number_at spots.Rule m = held_same
  number_at spots.Orbit m = held_same
  number_at spots.Open m = held_same
  number_at spots.OpenMinus m = held_same
  number_at spots.First m = held_same
  number_at spots.FirstMinus m = held_same
  number_at spots.Second m = held_same
  number_at spots.SecondMinus m = held_same
  number_at _ m = held_same

  vector_at : (spot : Spot) → AreHeld text (stats ++ []) (drafts.add_vector spot draft).stats
  vector_at spots.Second = held_same
  vector_at _ = held_same

  pub held_ended : (n : ℕ) (spot : Spot) (sight : Sight) (symbol : Symbol) (place : ℕ) → AreHeld text (stats ++ put_first (ended_by spot sight held.stat) []) (add n spot sight symbol place draft).stats
  held_ended n spot (sights.Begins head) symbol place = ended_at spot head place
  held_ended n spot (sights.Number m) symbol place = number_at spot (number_in n symbol)
  held_ended n spot sights.Close symbol place = vector_at spot
  held_ended n spot sights.Name symbol place = held_same
  held_ended n spot (sights.Truth b) symbol place = held_same
  held_ended n spot _ symbol place = held_same
