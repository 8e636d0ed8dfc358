-- The texts of scripts lead from the first state to the last.
use Rattle.std.proofs.Common.{◌≡◌, ℕ, ◌+◌, Bool, true, false, if◌then◌else◌, List, [], ◌∷◌, ◌++◌, map, Some, refl, sym, ap, subst, ◌∙◌, codes}
use Rattle.std.proofs.lemmas.Bool.{false≢true, cond_both}
use Rattle.std.proofs.lemmas.Slice.Eq.{bytes_eq-Decides}
use Rattle.std.specs.List.{AllByRecursion}
use Rattle.std.specs.Str.{bytes_eq}
use Rattle.gm_model.specs.Names.{reserved, is_among}
use Rattle.gm_model.specs.Symbols.{Word, End}
use Rattle.gm_model.specs.Reading.{Part, word, number, sign, the_end}
use Rattle.gm_model.specs.declared.word.Mask.{Mask}
use Rattle.gm_text.specs.SchemaText.{no_labels, with_label}
use Rattle.gm_script.specs.ScriptText.{ValueForm, Plain, Truth, Pair, Triple, LineForm, EachForm, StatForm, Applies, GoesOver, Says, Undo, Redo, Group, Close, Role, Fixed, StatAt, RuleAt, Hook, Size, passed_of, mask_of, spell_signed, spell_value, spell_values, spell_params, spell_line, spell_labels, spell_each, spell_stats, IsStatForm, AreNested, IsSentence}
use Rattle.gm_text.specs.ValueText.{Signed}
use Rattle.gm_text.specs.inner.Machine.{Leads}
use Rattle.gm_script.specs.inner.Reading.{Been, State, At, Ended, first_state, is_whole, move, role_at, role_in, never, next_spot, next_word, next_head, within_behind, been_behind, begun_behind, head_word, sight_of_word}
use Rattle.gm_script.specs.declared.sight.Head.{Head}
use Rattle.gm_script.specs.declared.sight.Head.TheVariants as heads
use Rattle.gm_script.specs.declared.sight.Sight.{Sight}
use Rattle.gm_script.specs.declared.sight.Sight.TheVariants as sights
use Rattle.gm_script.specs.declared.spot.Spot.{Spot}
use Rattle.gm_script.specs.declared.spot.Spot.TheVariants as spots

-- the parts lead from the state to the end, where labels go up to the number
abbrev pub Led : ℕ → State → List (Part Role) → Type 0
Led n state parts = Leads passed_of never (role_at n) move state parts Ended

-- ---- numbers and values

-- where a number can stand: by itself, behind a value, or in a vector
data Place : Type 0 where
  Alone : Place
  Later : Place
  AsFirst : Place
  AsSecond : Place
  AsThird : Place

abbrev before : Place → Spot
before Alone = spots.With
before Later = spots.Value
before AsFirst = spots.Open
before AsSecond = spots.First
before AsThird = spots.Second

abbrev behind : Place → Spot
behind Alone = spots.Value
behind Later = spots.Value
behind AsFirst = spots.First
behind AsSecond = spots.Second
behind AsThird = spots.Third

module _ (n : ℕ) where
  plain_led : (place : Place) (k : Been) (m : ℕ) (rest : List (Part Role)) → Led n (At (behind place) k) rest → Led n (At (before place) k) (number (Size false) m ∷ rest)
  plain_led Alone k m rest led = (0, At spots.Value k, refl, refl, led)
  plain_led Later k m rest led = (0, At spots.Value k, refl, refl, led)
  plain_led AsFirst k m rest led = (0, At spots.First k, refl, refl, led)
  plain_led AsSecond k m rest led = (0, At spots.Second k, refl, refl, led)
  plain_led AsThird k m rest led = (0, At spots.Third k, refl, refl, led)

  minus_led : (place : Place) (k : Been) (m : ℕ) (rest : List (Part Role)) → Led n (At (behind place) k) rest → Led n (At (before place) k) (sign Fixed (codes "-") ∷ number (Size true) m ∷ rest)
  minus_led Alone k m rest led = (0, At spots.Minus k, refl, refl, (0, At spots.Value k, refl, refl, led))
  minus_led Later k m rest led = (0, At spots.Minus k, refl, refl, (0, At spots.Value k, refl, refl, led))
  minus_led AsFirst k m rest led = (0, At spots.OpenMinus k, refl, refl, (0, At spots.First k, refl, refl, led))
  minus_led AsSecond k m rest led = (0, At spots.FirstMinus k, refl, refl, (0, At spots.Second k, refl, refl, led))
  minus_led AsThird k m rest led = (0, At spots.SecondMinus k, refl, refl, (0, At spots.Third k, refl, refl, led))

  signed_led : (place : Place) (k : Been) (x : Signed) (rest : List (Part Role)) → Led n (At (behind place) k) rest → Led n (At (before place) k) (spell_signed x rest)
  signed_led place k x rest led =
      by x.minus
    where
      by : (minus : Bool) → Led n (At (before place) k) (if minus then sign Fixed (codes "-") ∷ number (Size true) x.size ∷ rest else number (Size false) x.size ∷ rest)
      by true = minus_led place k x.size rest led
      by false = plain_led place k x.size rest led

  -- the numbers of a vector, and its end
  pair_led : (k : Been) (x y : Signed) (rest : List (Part Role)) → Led n (At spots.Value k) rest → Led n (At spots.Open k) (spell_signed x (spell_signed y (sign Fixed (codes ")") ∷ rest)))
  pair_led k x y rest led =
      let close = sign Fixed (codes ")") ∷ rest in
      let last : Led n (At spots.Second k) close = (0, At spots.Value k, refl, refl, led) in
      signed_led AsFirst k x (spell_signed y close)
      (signed_led AsSecond k y close last)

  triple_led : (k : Been) (x y z : Signed) (rest : List (Part Role)) → Led n (At spots.Value k) rest → Led n (At spots.Open k) (spell_signed x (spell_signed y (spell_signed z (sign Fixed (codes ")") ∷ rest))))
  triple_led k x y z rest led =
      let close = sign Fixed (codes ")") ∷ rest in
      let last : Led n (At spots.Third k) close = (0, At spots.Value k, refl, refl, led) in
      signed_led AsFirst k x (spell_signed y (spell_signed z close))
      (signed_led AsSecond k y (spell_signed z close)
      (signed_led AsThird k z close last))

  first_led : (k : Been) (value : ValueForm) (rest : List (Part Role)) → Led n (At spots.Value k) rest → Led n (At spots.With k) (spell_value value rest)
  first_led k (Plain x) rest led = signed_led Alone k x rest led
  first_led k (Truth true) rest led = (0, At spots.Value k, refl, refl, led)
  first_led k (Truth false) rest led = (0, At spots.Value k, refl, refl, led)
  first_led k (Pair x y) rest led = (0, At spots.Open k, refl, refl, pair_led k x y rest led)
  first_led k (Triple x y z) rest led = (0, At spots.Open k, refl, refl, triple_led k x y z rest led)

  later_led : (k : Been) (value : ValueForm) (rest : List (Part Role)) → Led n (At spots.Value k) rest → Led n (At spots.Value k) (spell_value value rest)
  later_led k (Plain x) rest led = signed_led Later k x rest led
  later_led k (Truth true) rest led = (0, At spots.Value k, refl, refl, led)
  later_led k (Truth false) rest led = (0, At spots.Value k, refl, refl, led)
  later_led k (Pair x y) rest led = (0, At spots.Open k, refl, refl, pair_led k x y rest led)
  later_led k (Triple x y z) rest led = (0, At spots.Open k, refl, refl, triple_led k x y z rest led)

  values_led : (k : Been) (values : List ValueForm) (rest : List (Part Role)) → Led n (At spots.Value k) rest → Led n (At spots.Value k) (spell_values values rest)
  values_led k [] rest led = led
  values_led k (value ∷ values) rest led = later_led k value (spell_values values rest) (values_led k values rest led)

  -- ---- lines

  -- a name is no word of the format's own, but for those that begin statements
  data CanName : Sight → Type 0 where
    AName : CanName sights.Name
    AHead : (head : Head) → CanName (sights.Begins head)

  name_can : (bytes : List ℕ) → is_among reserved bytes ≡ false → CanName (sight_of_word bytes)
  name_can bytes free =
      let P : Sight → Type 0 = CanName in
      let is : (other : List ℕ) → bytes_eq bytes other ≡ true → is_among reserved other ≡ false = λ other h. subst (λ (b : List ℕ). is_among reserved b ≡ false) ((bytes_eq-Decides bytes other).0 h) free in
      cond_both (bytes_eq bytes (codes "apply")) _ _ P (λ _. AHead heads.Apply) (λ _.
      cond_both (bytes_eq bytes (codes "with")) _ _ P (λ h. absurd (false≢true (sym (is (codes "with") h)))) (λ _.
      cond_both (bytes_eq bytes (codes "each")) _ _ P (λ _. AHead heads.Each) (λ _.
      cond_both (bytes_eq bytes (codes "undo")) _ _ P (λ _. AHead heads.Undo) (λ _.
      cond_both (bytes_eq bytes (codes "redo")) _ _ P (λ _. AHead heads.Redo) (λ _.
      cond_both (bytes_eq bytes (codes "group")) _ _ P (λ _. AHead heads.Group) (λ _.
      cond_both (bytes_eq bytes (codes "end")) _ _ P (λ _. AHead heads.End) (λ _.
      cond_both (bytes_eq bytes (codes "true")) _ _ P (λ h. absurd (false≢true (sym (is (codes "true") h)))) (λ _.
      cond_both (bytes_eq bytes (codes "false")) _ _ P (λ h. absurd (false≢true (sym (is (codes "false") h)))) (λ _.
      cond_both (is_among reserved bytes) _ _ P (λ h. absurd (false≢true (sym (sym h ∙ free)))) (λ _. AName))))))))))

  name_next : (been : Been) (sight : Sight) → CanName sight → (next_spot been.within spots.Apply sight ≡ Some spots.Rule) × (next_spot been.within spots.Over sight ≡ Some spots.Named)
  name_next been sight AName = (refl, refl)
  name_next been sight (AHead head) = (refl, refl)

  name_moves : (been : Been) (bytes : List ℕ) → is_among reserved bytes ≡ false → move (At spots.Apply been) (Word bytes) ≡ Some (At spots.Rule been)
  name_moves been bytes free = rw ((name_next been (sight_of_word bytes) (name_can bytes free)).0) refl

  over_moves : (been : Been) (bytes : List ℕ) → is_among reserved bytes ≡ false → move (At spots.Over been) (Word bytes) ≡ Some (At spots.Named been)
  over_moves been bytes free = rw ((name_next been (sight_of_word bytes) (name_can bytes free)).1) refl

  hooks_led : (been : Been) (hooks : List ℕ) (rest : List (Part Role)) → Led n (At spots.Rule been) rest → Led n (At spots.Rule been) (map (number Hook) hooks ++ rest)
  hooks_led been [] rest led = led
  hooks_led been (hook ∷ hooks) rest led = (0, At spots.Rule been, refl, refl, hooks_led been hooks rest led)

  -- where so much has been, and these labels were mentioned
  abbrev been_at : ℕ → Bool → Mask → Been
  been_at k within labels = record { begun = k; within = within; labels = labels }

  -- wherever a statement can end, whatever labels were mentioned in it
  abbrev EndsStat : ℕ → Bool → List (Part Role) → Type 0
  EndsStat k within rest = (spot : Spot) (labels : Mask) → is_whole spot ≡ true → Led n (At spot (been_at k within labels)) rest

  values_behind : (been : Been) (value : ValueForm) (values : List ValueForm) (rest : List (Part Role)) → EndsStat been.begun been.within rest → Led n (At spots.With been) (spell_values (value ∷ values) rest)
  values_behind been value values rest led = first_led been value (spell_values values rest) (values_led been values rest (led spots.Value been.labels refl))

  params_led : (been : Been) (values : List ValueForm) (rest : List (Part Role)) → EndsStat been.begun been.within rest → Led n (At spots.Rule been) (spell_params values rest)
  params_led been [] rest led = led spots.Rule been.labels refl
  params_led been (value ∷ values) rest led = (0, At spots.With been, refl, refl, values_behind been value values rest led)

  over_params_led : (been : Been) (values : List ValueForm) (rest : List (Part Role)) → EndsStat been.begun been.within rest → Led n (At spots.Named been) (spell_params values rest)
  over_params_led been [] rest led = led spots.Named been.labels refl
  over_params_led been (value ∷ values) rest led = (0, At spots.With been, refl, refl, values_behind been value values rest led)

  labels_led : (k : ℕ) (within : Bool) (mask : Mask) (labels : List ℕ) (rest : List (Part Role)) → Led n (At spots.Orbit (been_at k within (mask_of labels mask))) rest
      → Led n (At spots.Orbit (been_at k within mask)) (spell_labels n mask labels rest)
  labels_led k within mask [] rest led = led
  labels_led k within mask (label ∷ labels) rest led = (0, At spots.Orbit (been_at k within (with_label mask label)), refl, refl, labels_led k within (with_label mask label) labels rest led)

  -- ---- a word that begins a statement

  head_seen : (head : Head) → sight_of_word (head_word head) ≡ sights.Begins head
  head_seen heads.Apply = refl
  head_seen heads.Each = refl
  head_seen heads.Undo = refl
  head_seen heads.Redo = refl
  head_seen heads.Group = refl
  head_seen heads.End = refl

  -- where a statement can end another can begin
  record CanBegin (spot : Spot) (been : Been) (head : Head) (place : ℕ) : Type 0 where
    next : next_word been.within spot head ≡ next_head been.within head
    role : role_in n spot been (sights.Begins head) place ≡ StatAt (been.begun + 1) place
    behind : been_behind spot (sights.Begins head) (Word (head_word head)) been ≡ begun_behind head been

  can_begin : (spot : Spot) (been : Been) (head : Head) (place : ℕ) → is_whole spot ≡ true → CanBegin spot been head place
  can_begin spots.Start been head place is = record { next = refl; role = refl; behind = refl }
  can_begin spots.Bare been head place is = record { next = refl; role = refl; behind = refl }
  can_begin spots.Rule been head place is = record { next = refl; role = refl; behind = refl }
  can_begin spots.Named been head place is = record { next = refl; role = refl; behind = refl }
  can_begin spots.Value been head place is = record { next = refl; role = refl; behind = refl }
  can_begin _ been head place is = absurd (false≢true is)

  head_led : (spot : Spot) (been : Been) (head : Head) (place : ℕ) (to : Spot) (rest : List (Part Role)) → is_whole spot ≡ true → next_head been.within head ≡ Some to
      → Led n (At to (begun_behind head been)) rest → Led n (At spot been) (word (StatAt (been.begun + 1) place) (head_word head) ∷ rest)
  head_led spot been head place to rest is next led =
      let can = can_begin spot been head place is in
      let role : StatAt (been.begun + 1) place ≡ role_at n (At spot been) (Word (head_word head)) place = sym can.role ∙ ap (λ (s : Sight). role_in n spot been s place) (sym (head_seen head)) in
      let moves : move (At spot been) (Word (head_word head)) ≡ Some (At to (begun_behind head been)) = rw (head_seen head, can.next, next, can.behind) refl in
      (place, At to (begun_behind head been), role, moves, led)

  -- ---- statements

  line_led : (spot : Spot) (been : Been) (line : LineForm) (rest : List (Part Role)) → is_whole spot ≡ true → is_among reserved line.rule.name ≡ false → EndsStat (been.begun + 1) been.within rest
      → Led n (At spot been) (spell_line (been.begun + 1) line rest)
  line_led spot been line rest is free led =
      let behind = begun_behind heads.Apply been in
      head_led spot been heads.Apply line.place spots.Apply (word (RuleAt line.rule.place) line.rule.name ∷ (map (number Hook) line.hooks ++ spell_params line.values rest)) is refl
      (line.rule.place, At spots.Rule behind, refl, name_moves behind line.rule.name free, hooks_led behind line.hooks (spell_params line.values rest) (params_led behind line.values rest led))

  each_led : (spot : Spot) (been : Been) (form : EachForm) (rest : List (Part Role)) → is_whole spot ≡ true → been.within ≡ false → is_among reserved form.rule.name ≡ false → EndsStat (been.begun + 1) false rest
      → Led n (At spot been) (spell_each n (been.begun + 1) form rest)
  each_led spot been form rest is out free led =
      let k = been.begun + 1 in
      let over = been_at k been.within (mask_of form.labels no_labels) in
      let named : Led n (At spots.Over over) (word (RuleAt form.rule.place) form.rule.name ∷ spell_params form.values rest) =
      (form.rule.place, At spots.Named over, refl, over_moves over form.rule.name free, over_params_led over form.values rest (subst (λ w. EndsStat k w rest) (sym out) led)) in
      let behind = sign Fixed (codes ">") ∷ word (RuleAt form.rule.place) form.rule.name ∷ spell_params form.values rest in
      let orbit = labels_led k been.within no_labels form.labels behind (0, At spots.Over over, refl, refl, named) in
      head_led spot been heads.Each form.place spots.Each (sign Fixed (codes "<") ∷ spell_labels n no_labels form.labels behind) is (rw out refl) (0, At spots.Orbit (been_at k been.within no_labels), refl, refl, orbit)

  -- a word alone
  bare_led : (spot : Spot) (been : Been) (head : Head) (place : ℕ) (next : Bool) (rest : List (Part Role)) → is_whole spot ≡ true → next_head been.within head ≡ Some spots.Bare → within_behind head been.within ≡ next
      → EndsStat (been.begun + 1) next rest → Led n (At spot been) (word (StatAt (been.begun + 1) place) (head_word head) ∷ rest)
  bare_led spot been head place next rest is to behind led =
      head_led spot been head place spots.Bare rest is to (subst (λ w. Led n (At spots.Bare (been_at (been.begun + 1) w no_labels)) rest) (sym behind) (led spots.Bare no_labels refl))

  pub end_led : (spot : Spot) (been : Been) → is_whole spot ≡ true → been.within ≡ false → Led n (At spot been) (the_end Fixed ∷ [])
  end_led spot been is out = (0, Ended, role spot is, moves, refl)
    where
      role : (spot : Spot) → is_whole spot ≡ true → Fixed ≡ role_in n spot been sights.Other 0
      role spots.Start is = refl
      role spots.Bare is = refl
      role spots.Rule is = refl
      role spots.Named is = refl
      role spots.Value is = refl
      role _ is = absurd (false≢true is)

      moves : move (At spot been) End ≡ Some Ended
      moves = rw (out, is) refl

  stats_led : (spot : Spot) (k : ℕ) (within : Bool) (labels : Mask) (forms : List StatForm) → is_whole spot ≡ true → AllByRecursion IsStatForm forms → AreNested within forms
      → Led n (At spot (been_at k within labels)) (spell_stats n k forms (the_end Fixed ∷ []))
  stats_led spot k within labels [] is form nested = end_led spot (been_at k within labels) is nested
  stats_led spot k within labels (Applies line ∷ forms) is form nested =
      line_led spot (been_at k within labels) line (spell_stats n (k + 1) forms (the_end Fixed ∷ [])) is form.0 (λ next mask ends. stats_led next (k + 1) within mask forms ends form.1 nested)
  stats_led spot k within labels (GoesOver each ∷ forms) is form nested =
      each_led spot (been_at k within labels) each (spell_stats n (k + 1) forms (the_end Fixed ∷ [])) is nested.0 form.0 (λ next mask ends. stats_led next (k + 1) false mask forms ends form.1 (subst (λ w. AreNested w forms) nested.0 nested.1))
  stats_led spot k within labels (Says Undo place ∷ forms) is form nested =
      bare_led spot (been_at k within labels) heads.Undo place within (spell_stats n (k + 1) forms (the_end Fixed ∷ [])) is (rw nested.0 refl) refl (λ next mask ends. stats_led next (k + 1) within mask forms ends form.1 nested.1)
  stats_led spot k within labels (Says Redo place ∷ forms) is form nested =
      bare_led spot (been_at k within labels) heads.Redo place within (spell_stats n (k + 1) forms (the_end Fixed ∷ [])) is (rw nested.0 refl) refl (λ next mask ends. stats_led next (k + 1) within mask forms ends form.1 nested.1)
  stats_led spot k within labels (Says Group place ∷ forms) is form nested =
      bare_led spot (been_at k within labels) heads.Group place true (spell_stats n (k + 1) forms (the_end Fixed ∷ [])) is (rw nested.0 refl) refl (λ next mask ends. stats_led next (k + 1) true mask forms ends form.1 nested.1)
  stats_led spot k within labels (Says Close place ∷ forms) is form nested =
      bare_led spot (been_at k within labels) heads.End place false (spell_stats n (k + 1) forms (the_end Fixed ∷ [])) is (rw nested.0 refl) refl (λ next mask ends. stats_led next (k + 1) false mask forms ends form.1 nested.1)

  pub sentence_leads : (parts : List (Part Role)) → IsSentence n parts → Led n first_state parts
  sentence_leads parts sentence = rw sentence.2 (stats_led spots.Start 0 false no_labels sentence.0 refl sentence.1.0 sentence.1.1)

  -- ---- each state leads to the last

  -- a group that is open ends first
  whole_goes : (spot : Spot) (been : Been) → is_whole spot ≡ true → (rest : List (Part Role)) × Led n (At spot been) rest
  whole_goes spot been is = by been.within refl
    where
      by : (within : Bool) → been.within ≡ within → (rest : List (Part Role)) × Led n (At spot been) rest
      by false out = (the_end Fixed ∷ [], end_led spot been is out)
      by true open_ = (
        word (StatAt (been.begun + 1) 0) (codes "end") ∷ the_end Fixed ∷ [],
        bare_led spot been heads.End 0 false (the_end Fixed ∷ []) is (rw open_ refl) refl (λ next mask ends. end_led next (been_at (been.begun + 1) false mask) ends refl),
      )

  abbrev GoesFrom : Been → Spot → Type 0
  GoesFrom been spot = (rest : List (Part Role)) × Led n (At spot been) rest

  pub goes_on : (state : State) → (rest : List (Part Role)) × Led n state rest
  goes_on Ended = ([], refl)
  goes_on (At spot been) = at spot
    where
      value : GoesFrom been spots.Value
      value = whole_goes spots.Value been refl

      close : GoesFrom been spots.Third
      close = (sign Fixed (codes ")") ∷ value.0, (0, At spots.Value been, refl, refl, value.1))

      second : GoesFrom been spots.Second
      second = (sign Fixed (codes ")") ∷ value.0, (0, At spots.Value been, refl, refl, value.1))

      first : GoesFrom been spots.First
      first = (number (Size false) 0 ∷ second.0, (0, At spots.Second been, refl, refl, second.1))

      over : (mask : Mask) → (rest : List (Part Role)) × Led n (At spots.Over (been_at been.begun been.within mask)) rest
      over mask =
          let named = whole_goes spots.Named (been_at been.begun been.within mask) refl in
          (word (RuleAt 0) (codes "r") ∷ named.0, (0, At spots.Named (been_at been.begun been.within mask), refl, refl, named.1))

      orbit : GoesFrom been spots.Orbit
      orbit = let next = over been.labels in (sign Fixed (codes ">") ∷ next.0, (0, At spots.Over been, refl, refl, next.1))

      at : (spot : Spot) → GoesFrom been spot
      at spots.Start = whole_goes spots.Start been refl
      at spots.Bare = whole_goes spots.Bare been refl
      at spots.Apply = let rule = whole_goes spots.Rule been refl in (word (RuleAt 0) (codes "r") ∷ rule.0, (0, At spots.Rule been, refl, refl, rule.1))
      at spots.Rule = whole_goes spots.Rule been refl
      at spots.Each = (sign Fixed (codes "<") ∷ orbit.0, (0, At spots.Orbit been, refl, refl, orbit.1))
      at spots.Orbit = orbit
      at spots.Over = over been.labels
      at spots.Named = whole_goes spots.Named been refl
      at spots.With = (number (Size false) 0 ∷ value.0, (0, At spots.Value been, refl, refl, value.1))
      at spots.Value = value
      at spots.Minus = (number (Size true) 0 ∷ value.0, (0, At spots.Value been, refl, refl, value.1))
      at spots.Open = (number (Size false) 0 ∷ first.0, (0, At spots.First been, refl, refl, first.1))
      at spots.OpenMinus = (number (Size true) 0 ∷ first.0, (0, At spots.First been, refl, refl, first.1))
      at spots.First = first
      at spots.FirstMinus = (number (Size true) 0 ∷ second.0, (0, At spots.Second been, refl, refl, second.1))
      at spots.Second = second
      at spots.SecondMinus = (number (Size true) 0 ∷ close.0, (0, At spots.Third been, refl, refl, close.1))
      at spots.Third = close
