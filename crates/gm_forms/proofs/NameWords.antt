-- What a word comes to where a name can stand.
use Rattle.std.proofs.Common.{◌≡◌, ℕ, ◌<◌, ◌≤◌, Bool, true, false, List, [], length, nat_lt, Some, None, Ok, Err, codes, refl, sym, ap, subst, ◌∙◌}
use Rattle.std.proofs.lemmas.Bool.{lt-ltb, le-ltb}
use Rattle.std.specs.Str.{bytes_eq}
use Rattle.gm_model.specs.declared.limit.LimitKind.TheVariants as limits
use Rattle.gm_model.specs.declared.rule.Side.TheVariants.{Left, Right}
use Rattle.gm_model.specs.declared.token.Token.{Token}
use Rattle.gm_model.specs.declared.token.TokenKind.{TokenKind}
use Rattle.gm_model.specs.declared.token.TokenKind.TheVariants.{Name}
use Rattle.gm_model.specs.Names.{reserved, is_among}
use Rattle.gm_model.specs.Tokens.{IsLexeme, bytes_of}
use Rattle.gm_text.specs.inner.SchemaAnswers.{IsToken}
use Rattle.gm_forms.specs.declared.draft.Draft.{Draft}
use Rattle.gm_forms.specs.declared.form_fault.FormFault.TheVariants as faults
use Rattle.gm_forms.specs.declared.state.Heading.{Heading}
use Rattle.gm_forms.specs.declared.state.Spot.{Spot}
use Rattle.gm_forms.specs.declared.state.State.TheVariants as code
use Rattle.gm_forms.specs.inner.Forms.{IsIn, mention_of}
use Rattle.gm_forms.specs.inner.Standing.{Leads, stepped, rules_of, current_of, Moves, word_mark}

-- ---- what the code tests, of the token's bytes

pub told : (test : List ℕ → Bool) (found b : Bool) (word bytes : List ℕ) → found ≡ test word → word ≡ bytes → found ≡ b → test bytes ≡ b
told test found b word bytes e same is = sym (ap test same) ∙ sym e ∙ is

pub is_long : (word bytes : List ℕ) → word ≡ bytes → 32 < length word → nat_lt 32 (length bytes) ≡ true
is_long word bytes same long = sym (ap (λ (w : List ℕ). nat_lt 32 (length w)) same) ∙ lt-ltb 32 (length word) long

pub is_short : (word bytes : List ℕ) → word ≡ bytes → length word ≤ 32 → nat_lt 32 (length bytes) ≡ false
is_short word bytes same few = sym (ap (λ (w : List ℕ). nat_lt 32 (length w)) same) ∙ le-ltb 32 (length word) few

-- a name that isn't too long is one of the text
pub name_in : (text : List ℕ) (token : Token) (word : List ℕ) → IsToken text token → token.kind ≡ Name → word ≡ bytes_of text token → length word ≤ 32 → IsIn text token
name_in text token word is name same few = (is.order, is.within, (subst (λ (w : List ℕ). length w ≤ 32) same few, subst (λ (kind : TokenKind). IsLexeme kind (bytes_of text token)) name is.lexeme))

-- ---- where a name stands

module _ (text : List ℕ) (token : Token) where
  module _ (taken : is_among reserved (bytes_of text token) ≡ true) where
    pub set_reserved : (spot : Spot) → Leads text (code.Set spot) (word_mark text token) (Err (faults.Text token.start))
    unfolding stepped
    set_reserved spot nodes rules current last = rw taken refl

    pub name_reserved : (heading : Heading) (so_far : ℕ) → Leads text (code.Name heading so_far) (word_mark text token) (Err (faults.Text token.start))
    unfolding stepped
    name_reserved heading so_far nodes rules current last = rw taken refl

    pub param_reserved : (heading : Heading) (so_far count : ℕ) → Leads text (code.Param heading so_far count) (word_mark text token) (Err (faults.Text token.start))
    unfolding stepped
    param_reserved heading so_far count nodes rules current last = rw taken refl

    pub to_reserved : (spot : Spot) (from : Token) (label : ℕ) → Leads text (code.To spot from label) (word_mark text token) (Err (faults.Text token.start))
    unfolding stepped
    to_reserved spot from label nodes rules current last = rw taken refl

    pub left_reserved : (spot : Spot) → spot.side ≡ Left → bytes_eq (bytes_of text token) (codes "right") ≡ false → Leads text (code.Item spot) (word_mark text token) (Err (faults.Text token.start))
    unfolding stepped
    left_reserved spot side other nodes rules current last = rw (side, taken, other) refl

    pub right_reserved : (spot : Spot) → spot.side ≡ Right → bytes_eq (bytes_of text token) (codes "rule") ≡ false → bytes_eq (bytes_of text token) (codes "pre") ≡ false → Leads text (code.Item spot) (word_mark text token) (Err (faults.Text token.start))
    unfolding stepped
    right_reserved spot side no_rule no_pre nodes rules current last = rw (side, taken, no_rule, no_pre) refl

  module _ (free : is_among reserved (bytes_of text token) ≡ false) where
    module _ (long : nat_lt 32 (length (bytes_of text token)) ≡ true) where
      pub set_long : (spot : Spot) → Leads text (code.Set spot) (word_mark text token) (Err (faults.Limit limits.Name token.start))
      unfolding stepped
      set_long spot nodes rules current last = rw (free, long) refl

      pub name_long : (heading : Heading) (so_far : ℕ) → Leads text (code.Name heading so_far) (word_mark text token) (Err (faults.Limit limits.Name token.start))
      unfolding stepped
      name_long heading so_far nodes rules current last = rw (free, long) refl

      pub param_long : (heading : Heading) (so_far count : ℕ) → Leads text (code.Param heading so_far count) (word_mark text token) (Err (faults.Limit limits.Name token.start))
      unfolding stepped
      param_long heading so_far count nodes rules current last = rw (free, long) refl

      pub to_long : (spot : Spot) (from : Token) (label : ℕ) → Leads text (code.To spot from label) (word_mark text token) (Err (faults.Limit limits.Name token.start))
      unfolding stepped
      to_long spot from label nodes rules current last = rw (free, long) refl

      pub left_long : (spot : Spot) → spot.side ≡ Left → bytes_eq (bytes_of text token) (codes "right") ≡ false → Leads text (code.Item spot) (word_mark text token) (Err (faults.Limit limits.Name token.start))
      unfolding stepped
      left_long spot side other nodes rules current last = rw (side, free, other, long) refl

      pub right_long : (spot : Spot) → spot.side ≡ Right → bytes_eq (bytes_of text token) (codes "rule") ≡ false → bytes_eq (bytes_of text token) (codes "pre") ≡ false → Leads text (code.Item spot) (word_mark text token) (Err (faults.Limit limits.Name token.start))
      unfolding stepped
      right_long spot side no_rule no_pre nodes rules current last = rw (side, free, no_rule, no_pre, long) refl

    module _ (short : nat_lt 32 (length (bytes_of text token)) ≡ false) where
      pub set_named : (spot : Spot) → Leads text (code.Set spot) (word_mark text token) (Ok (code.Equal spot token))
      unfolding stepped
      set_named spot nodes rules current last = rw (free, short) refl

      pub left_named : (spot : Spot) → spot.side ≡ Left → bytes_eq (bytes_of text token) (codes "right") ≡ false → Leads text (code.Item spot) (word_mark text token) (Ok (code.Sign spot token))
      unfolding stepped
      left_named spot side other nodes rules current last = rw (side, free, other, short, other) refl

      pub right_named : (spot : Spot) → spot.side ≡ Right → bytes_eq (bytes_of text token) (codes "rule") ≡ false → bytes_eq (bytes_of text token) (codes "pre") ≡ false → Leads text (code.Item spot) (word_mark text token) (Ok (code.Sign spot token))
      unfolding stepped
      right_named spot side no_rule no_pre nodes rules current last = rw (side, free, no_rule, no_pre, short, no_rule, no_pre) refl

      -- a rule is open behind its name
      pub name_named : (heading : Heading) (so_far : ℕ) (nodes : List (List ℕ)) (old new : Draft) → rules_of text new ≡ rules_of text old
          → current_of text new ≡ Some (record { name = mention_of text token; params = []; left = []; right = []; pre = None })
          → Moves text nodes old (code.Name heading so_far) (word_mark text token) (Ok (code.Left heading so_far)) nodes new
      unfolding stepped
      name_named heading so_far nodes old new rules current last = rw (free, short, rules, current) refl

  -- ---- where a right item can stand

  pub right_pre : (spot : Spot) → spot.side ≡ Right → bytes_eq (bytes_of text token) (codes "rule") ≡ false → bytes_eq (bytes_of text token) (codes "pre") ≡ true
      → Leads text (code.Item spot) (word_mark text token) (Ok (code.Pre spot.heading spot.rules))
  unfolding stepped
  right_pre spot side no_rule pre nodes rules current last = rw (side, no_rule, pre, no_rule, pre) refl
