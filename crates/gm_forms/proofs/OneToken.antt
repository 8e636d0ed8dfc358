-- What a sign or a word comes to where one alone can stand.
use Rattle.std.proofs.Common.{length, nat_lt, Option, ◌≡◌, ◌+◌, ◌≤◌, ◌<◌, ◌-◌, ◌^◌, min, ℕ, true, false, List, [], ◌∷◌, ◌++◌, Ok, Err, codes, refl, ap, ◌∙◌, arith}
use Rattle.std.proofs.Math.Nat.{lt_of_not-le, min-le_left}
use Rattle.std.proofs.lemmas.Bool.{lt-ltb, le-ltb}
use Rattle.std.proofs.lemmas.List.{length-append}
use Rattle.std.specs.Str.{bytes_eq}
use Rattle.gm_model.specs.declared.token.Token.{Token}
use Rattle.gm_model.specs.declared.word.Letter.{Letter}
use Rattle.gm_model.specs.declared.word.Letter.TheVariants as letters
use Rattle.gm_model.specs.Symbols.{Gone, value_of}
use Rattle.gm_model.specs.Tokens.{bytes_of}
use Rattle.gm_model.specs.declared.limit.LimitKind.TheVariants as limits
use Rattle.gm_forms.specs.BookText.{RuleForm, with_name}
use Rattle.gm_forms.specs.declared.form_fault.FormFault.TheVariants as faults
use Rattle.gm_forms.specs.declared.state.Heading.{Heading}
use Rattle.gm_forms.specs.declared.state.Spot.{Spot}
use Rattle.gm_forms.specs.declared.state.State.TheVariants as code
use Rattle.gm_forms.specs.inner.Standing.{Leads, stand_in, stepped, word_mark, number_mark, sign_mark}

module _ (text : List ℕ) (token : Token) where
  pub no_bracket : (heading : Heading) (so_far : ℕ) → bytes_eq (bytes_of text token) (codes "(") ≡ false → Leads text (code.Left heading so_far) (sign_mark text token) (Err (faults.Text token.start))
  unfolding stepped
  no_bracket heading so_far other nodes rules current last = rw other refl

  pub bracket : (heading : Heading) (so_far : ℕ) → bytes_eq (bytes_of text token) (codes "(") ≡ true → Leads text (code.Left heading so_far) (sign_mark text token) (Ok (code.Param heading so_far 0))
  unfolding stepped
  bracket heading so_far is nodes rules current last = rw is refl

  pub no_colon : (heading : Heading) (so_far : ℕ) (count : ℕ) (name : Token) → bytes_eq (bytes_of text token) (codes ":") ≡ false → Leads text (code.Colon heading so_far count name) (sign_mark text token) (Err (faults.Text token.start))
  unfolding stepped
  no_colon heading so_far count name other nodes rules current last = rw other refl

  pub colon : (heading : Heading) (so_far : ℕ) (count : ℕ) (name : Token) → bytes_eq (bytes_of text token) (codes ":") ≡ true → Leads text (code.Colon heading so_far count name) (sign_mark text token) (Ok (code.Kind heading so_far count name))
  unfolding stepped
  colon heading so_far count name is nodes rules current last = rw is refl

  pub no_word_end : (spot : Spot) (name : Token) (word : List Letter) → bytes_eq (bytes_of text token) (codes ">") ≡ false → Leads text (code.Letter spot name word) (sign_mark text token) (Err (faults.Text token.start))
  unfolding stepped
  no_word_end spot name word other nodes rules current last = rw other refl

  pub word_end : (spot : Spot) (name : Token) (word : List Letter) → bytes_eq (bytes_of text token) (codes ">") ≡ true → Leads text (code.Letter spot name word) (sign_mark text token) (Ok (code.Behind spot name word))
  unfolding stepped
  word_end spot name word is nodes rules current last = rw is refl

  pub no_dash : (spot : Spot) (from : Token) (label : ℕ) → bytes_eq (bytes_of text token) (codes "-") ≡ false → Leads text (code.Dash spot from label) (sign_mark text token) (Err (faults.Text token.start))
  unfolding stepped
  no_dash spot from label other nodes rules current last = rw other refl

  pub dash : (spot : Spot) (from : Token) (label : ℕ) → bytes_eq (bytes_of text token) (codes "-") ≡ true → Leads text (code.Dash spot from label) (sign_mark text token) (Ok (code.To spot from label))
  unfolding stepped
  dash spot from label is nodes rules current last = rw is refl

  pub comma : (heading : Heading) (so_far count : ℕ) → bytes_eq (bytes_of text token) (codes ",") ≡ true → Leads text (code.Comma heading so_far count) (sign_mark text token) (Ok (code.Param heading so_far count))
  unfolding stepped
  comma heading so_far count is nodes rules current last = rw is refl

  pub close : (heading : Heading) (so_far count : ℕ) → bytes_eq (bytes_of text token) (codes ",") ≡ false → bytes_eq (bytes_of text token) (codes ")") ≡ true → Leads text (code.Comma heading so_far count) (sign_mark text token) (Ok (code.Body heading so_far))
  unfolding stepped
  close heading so_far count no_comma is nodes rules current last = rw (no_comma, is) refl

  pub no_close : (heading : Heading) (so_far count : ℕ) → bytes_eq (bytes_of text token) (codes ",") ≡ false → bytes_eq (bytes_of text token) (codes ")") ≡ false → Leads text (code.Comma heading so_far count) (sign_mark text token) (Err (faults.Text token.start))
  unfolding stepped
  no_close heading so_far count no_comma other nodes rules current last = rw (no_comma, other) refl

  pub no_equal : (spot : Spot) (embed : Token) → bytes_eq (bytes_of text token) (codes "=") ≡ false → Leads text (code.Equal spot embed) (sign_mark text token) (Err (faults.Text token.start))
  unfolding stepped
  no_equal spot embed other nodes rules current last = rw other refl

  pub equal : (spot : Spot) (embed : Token) → bytes_eq (bytes_of text token) (codes "=") ≡ true → Leads text (code.Equal spot embed) (sign_mark text token) (Ok (code.Value spot embed))
  unfolding stepped
  equal spot embed is nodes rules current last = rw is refl

  pub no_rule : (heading : Heading) → bytes_eq (bytes_of text token) (codes "rule") ≡ false → Leads text (code.Rules heading) (word_mark text token) (Err (faults.Text token.start))
  unfolding stepped
  no_rule heading other nodes rules current last = rw other refl

  pub rule : (heading : Heading) → bytes_eq (bytes_of text token) (codes "rule") ≡ true → Leads text (code.Rules heading) (word_mark text token) (Ok (code.Name heading 1))
  unfolding stepped
  rule heading is nodes rules current last = rw is refl

  pub no_left : (heading : Heading) (so_far : ℕ) → bytes_eq (bytes_of text token) (codes "left") ≡ false → Leads text (code.Left heading so_far) (word_mark text token) (Err (faults.Text token.start))
  unfolding stepped
  no_left heading so_far other nodes rules current last = rw other refl

  pub no_body : (heading : Heading) (so_far : ℕ) → bytes_eq (bytes_of text token) (codes "left") ≡ false → Leads text (code.Body heading so_far) (word_mark text token) (Err (faults.Text token.start))
  unfolding stepped
  no_body heading so_far other nodes rules current last = rw other refl

  pub no_rule_end : (heading : Heading) (so_far : ℕ) → bytes_eq (bytes_of text token) (codes "rule") ≡ false → Leads text (code.RuleEnd heading so_far) (word_mark text token) (Err (faults.Text token.start))
  unfolding stepped
  no_rule_end heading so_far other nodes rules current last = rw other refl

  pub no_sign : (spot : Spot) (name : Token) → bytes_eq (bytes_of text token) (codes "<") ≡ false → bytes_eq (bytes_of text token) (codes "-") ≡ false → Leads text (code.Sign spot name) (sign_mark text token) (Err (faults.Text token.start))
  unfolding stepped
  no_sign spot name no_node no_link nodes rules current last = rw (no_node, no_link) refl

  pub link : (spot : Spot) (name : Token) (links : ℕ) → bytes_eq (bytes_of text token) (codes "<") ≡ false → bytes_eq (bytes_of text token) (codes "-") ≡ true → (spot.links + 1 ≤ 256) × (links ≡ spot.links + 1)
      → Leads text (code.Sign spot name) (sign_mark text token) (Ok (code.Label (record spot { links = links }) name))
  unfolding stepped
  link spot name links no_node is (few, more) nodes rules current last = rw (more, no_node, is, le-ltb 256 (spot.links + 1) few, no_node) refl

  pub node : (nodes counted : List (List ℕ)) (spot : Spot) (name : Token) (word : List Letter) → bytes_eq (bytes_of text token) (codes "<") ≡ true → counted ≡ with_name nodes (bytes_of text name) → word ≡ [] → (count : ℕ) → count ≡ length counted → count ≤ 32
      → (rules : List RuleForm) (current : Option RuleForm) (last : ℕ) → stepped (stand_in text nodes rules current (code.Sign spot name) last) (sign_mark text token) ≡ Ok (stand_in text counted rules current (code.Letter spot name word) token.start)
  unfolding stepped
  node nodes counted spot name word is more empty count same few rules current last =
      rw (more, empty, is, le-ltb 32 (length (with_name nodes (bytes_of text name))) (let told = same ∙ ap length more in omega (arith, told, few)), is) refl

  pub many_links : (spot : Spot) (name : Token) → bytes_eq (bytes_of text token) (codes "<") ≡ false → bytes_eq (bytes_of text token) (codes "-") ≡ true → ¬ (spot.links + 1 ≤ 256)
      → (nodes : List (List ℕ)) (rules : List RuleForm) (current : Option RuleForm) (last : ℕ) → stepped (stand_in text nodes rules current (code.Sign spot name) last) (sign_mark text token) ≡ Err (faults.Limit limits.Links last)
  unfolding stepped
  many_links spot name no_node is many nodes rules current last = rw (no_node, is, lt-ltb 256 (spot.links + 1) (lt_of_not-le many)) refl

  -- the limit stands at the name
  pub many_nodes : (nodes : List (List ℕ)) (spot : Spot) (name : Token) → bytes_eq (bytes_of text token) (codes "<") ≡ true → nat_lt 32 (length (with_name nodes (bytes_of text name))) ≡ true
      → (rules : List RuleForm) (current : Option RuleForm) (last : ℕ) → stepped (stand_in text nodes rules current (code.Sign spot name) last) (sign_mark text token) ≡ Err (faults.Limit limits.Nodes last)
  unfolding stepped
  many_nodes nodes spot name is many rules current last = rw (is, many) refl

-- a `_` is one letter more, as long as the word is short
module _ (text : List ℕ) (spot : Spot) (name : Token) (word : List Letter) (place : ℕ) where
  pub gone_more : (longer : List Letter) → (length word + 1 ≤ 8) × (longer ≡ word ++ letters.Gone ∷ []) → Leads text (code.Letter spot name word) (record { symbol = Gone; place = place }) (Ok (code.Letter spot name longer))
  unfolding stepped
  gone_more longer (short, is) nodes rules current last = rw (is, length-append word (letters.Gone ∷ []), le-ltb 8 (length word + 1) short) refl

  pub gone_long : ¬ (length word + 1 ≤ 8) → Leads text (code.Letter spot name word) (record { symbol = Gone; place = place }) (Err (faults.Limit limits.Word place))
  unfolding stepped
  gone_long long nodes rules current last = rw (lt-ltb 8 (length word + 1) (lt_of_not-le long)) refl

-- a number that is held as far as it fits, beside the greatest label
label_high : (value told top dim : ℕ) → value ≡ min told (2 ^ 64 - 1) → top ≡ dim → top < value → nat_lt dim told ≡ true
label_high value told top dim held same high = lt-ltb dim told (let below = min-le_left told (2 ^ 64 - 1) in omega (arith, held, same, high, below))

label_told : (value told top dim : ℕ) → value ≡ min told (2 ^ 64 - 1) → top ≡ dim → dim ≤ 7 → value ≤ top → value ≡ told
label_told value told top dim held same few low = omega (arith, held, same, few, low)

module _ (text : List ℕ) (token : Token) (spot : Spot) (name : Token) (value top : ℕ) (held : value ≡ min (value_of (bytes_of text token)) (2 ^ 64 - 1)) (same : top ≡ spot.heading.dim) where
  pub high_letter : (word : List Letter) → top < value → Leads text (code.Letter spot name word) (number_mark text token) (Err (faults.Limit limits.Label token.start))
  unfolding stepped
  high_letter word high nodes rules current last = rw (label_high value (value_of (bytes_of text token)) top spot.heading.dim held same high) refl

  pub high_label : top < value → Leads text (code.Label spot name) (number_mark text token) (Err (faults.Limit limits.Label token.start))
  unfolding stepped
  high_label high nodes rules current last = rw (label_high value (value_of (bytes_of text token)) top spot.heading.dim held same high) refl

  module _ (few : spot.heading.dim ≤ 7) (low : value ≤ top) where
    is_told : value ≡ value_of (bytes_of text token)
    is_told = label_told value (value_of (bytes_of text token)) top spot.heading.dim held same few low

    is_low : nat_lt spot.heading.dim (value_of (bytes_of text token)) ≡ false
    is_low = le-ltb spot.heading.dim (value_of (bytes_of text token)) (let told = is_told in omega (arith, told, same, low))

    pub low_label : Leads text (code.Label spot name) (number_mark text token) (Ok (code.Dash spot name value))
    unfolding stepped
    low_label nodes rules current last = rw (is_told, is_low) refl

    pub letter_more : (word longer : List Letter) → (length word + 1 ≤ 8) × (longer ≡ word ++ letters.At value ∷ []) → Leads text (code.Letter spot name word) (number_mark text token) (Ok (code.Letter spot name longer))
    unfolding stepped
    letter_more word longer (short, is) nodes rules current last = rw (is, is_told, length-append word (letters.At (value_of (bytes_of text token)) ∷ []), is_low, le-ltb 8 (length word + 1) short) refl

    pub letter_long : (word : List Letter) → ¬ (length word + 1 ≤ 8) → Leads text (code.Letter spot name word) (number_mark text token) (Err (faults.Limit limits.Word token.start))
    unfolding stepped
    letter_long word long nodes rules current last = rw (is_low, lt-ltb 8 (length word + 1) (lt_of_not-le long)) refl
