-- The symbols of canonical text, line by line.
use Rattle.std.proofs.Common.{◌≡◌, ℕ, ◌+◌, ◌≤◌, Bool, true, false, List, [], ◌∷◌, ◌++◌, Option, Some, None, refl, sym, ap, ◌∙◌, append_assoc, codes, arith}
use Rattle.std.specs.Prelude.{decimal}
use Rattle.std.specs.List.{flat_map, AllByRecursion}
use Rattle.std.proofs.lemmas.Bool.Decides.{nat_tests}
use Rattle.gm_model.specs.declared.word.Letter.{Letter}
use Rattle.gm_model.specs.declared.word.Letter.TheVariants as letters
use Rattle.gm_model.specs.declared.schema.Embed.{Embed}
use Rattle.gm_model.specs.declared.schema.Schema.{Schema}
use Rattle.gm_model.specs.declared.token.TokenKind.TheVariants as kinds
use Rattle.gm_model.specs.Tokens.{is_digit, begins_two_byte_sign, IsLexeme}
use Rattle.gm_model.specs.Symbols.{Symbol, Word, Numeral, Sign, Mark}
use Rattle.gm_model.specs.Reading.{Part, symbols_in}
use Rattle.gm_model.specs.Rules.{Rule, Assignment}
use Rattle.gm_model.specs.Trees.{Tree}
use Rattle.gm_expr.specs.ExprText.{embed_name, expr_text}
use Rattle.gm_expr.proofs.Canonical.{behind}
use Rattle.gm_expr.proofs.CanonicalMeaning.{good_at}
use Rattle.gm_expr.proofs.CanonicalSymbols.{IsBehind}
use Rattle.gm_expr.specs.inner.Writable.{AreGoodNames}
use Rattle.gm_forms.specs.BookText.{ExprToken, Role, LetterAt, Count, count_after, letter, spell_letters, spell_hook, spell_value, spell_sets, spell_item, spell_items, spell_pre}
use Rattle.gm_text.proofs.Printed.{Stops, symbols_from, symbols_from-blank, symbols_from-word, symbols_from-word_blank, symbols_from-decimal, symbols_from-gone, symbols_from-sign, IsLexeme-decimal}
use Rattle.gm_book.specs.Canonical.{letter_text, letters_text, hook_text, set_text, pre_line}
use Rattle.gm_book.proofs.CanonicalForm.{Line, NodeLine, LinkLine, behind_word, text_of, value_at, sets_at, behind_set, item_at, items_at, behind_line, pre_at, IsGoodLetter, IsGoodValue, IsGoodSet, IsGoodLine}
use Rattle.gm_book.proofs.SpelledValues.{token_symbols, value_symbols}

-- ---- signs, which what stands behind doesn't lengthen

digit_alone : (b : ℕ) (bytes : List ℕ) → is_digit b ≡ true → begins_two_byte_sign 60 (b ∷ bytes) ≡ false
digit_alone b bytes h = grind (arith, nat_tests)

digits_alone : (digits more : List ℕ) → IsLexeme kinds.Number digits → begins_two_byte_sign 60 (digits ++ more) ≡ false
digits_alone [] more h = absurd h
digits_alone (b ∷ digits) more h = digit_alone b (digits ++ more) h.0

minus_alone : (bytes : List ℕ) → begins_two_byte_sign 45 bytes ≡ false
minus_alone [] = refl
minus_alone (b ∷ bytes) = refl

-- ---- words

-- labels are far below what a number can be
module _ (n : ℕ) (low : n ≤ 7) where
  letter_symbols : (x : Letter) (role : Role) (more : List ℕ) → IsGoodLetter n x → Stops is_digit more → symbols_from (letter_text x ++ more) ≡ (letter role x).symbol ∷ symbols_from more
  letter_symbols (letters.At i) role more good stops = symbols_from-decimal i more (omega (arith, low, good)) stops
  letter_symbols letters.Gone role more good stops = symbols_from-gone more

  abbrev tail_text : List Letter → List ℕ → List ℕ
  tail_text word more = flat_map (λ y. 32 ∷ letter_text y) word ++ 62 ∷ more

  tail_stops : (word : List Letter) (more : List ℕ) → Stops is_digit (tail_text word more)
  tail_stops [] more = refl
  tail_stops (y ∷ word) more = refl

  tail_symbols : (k : ℕ) (word : List Letter) (more : List ℕ) (parts : List (Part Role)) → AllByRecursion (IsGoodLetter n) word → symbols_from (62 ∷ more) ≡ symbols_in parts
      → symbols_from (tail_text word more) ≡ symbols_in (spell_letters n k word parts)
  tail_symbols k [] more parts good rest = rest
  tail_symbols k (y ∷ word) more parts good rest =
      ap symbols_from (append_assoc (32 ∷ letter_text y) (flat_map (λ z. 32 ∷ letter_text z) word) (62 ∷ more))
      ∙ symbols_from-blank 32 (letter_text y ++ tail_text word more) refl
      ∙ letter_symbols y (LetterAt n (k + 1)) (tail_text word more) good.0 (tail_stops word more)
      ∙ ap (λ (s : List Symbol). (letter (LetterAt n (k + 1)) y).symbol ∷ s) (tail_symbols (k + 1) word more parts good.1 rest)

  letters_symbols : (word : List Letter) (more : List ℕ) (parts : List (Part Role)) → AllByRecursion (IsGoodLetter n) word → symbols_from (62 ∷ more) ≡ symbols_in parts
      → symbols_from (letters_text word ++ 62 ∷ more) ≡ symbols_in (spell_letters n 0 word parts)
  letters_symbols [] more parts good rest = rest
  letters_symbols (x ∷ word) more parts good rest =
      ap symbols_from (append_assoc (letter_text x) (flat_map (λ z. 32 ∷ letter_text z) word) (62 ∷ more))
      ∙ letter_symbols x (LetterAt n (0 + 1)) (tail_text word more) good.0 (tail_stops word more)
      ∙ ap (λ (s : List Symbol). (letter (LetterAt n (0 + 1)) x).symbol ∷ s) (tail_symbols (0 + 1) word more parts good.1 rest)

  letters_alone : (word : List Letter) (more : List ℕ) → AllByRecursion (IsGoodLetter n) word → begins_two_byte_sign 60 (letters_text word ++ 62 ∷ more) ≡ false
  letters_alone [] more good = refl
  letters_alone (letters.At i ∷ word) more good =
      ap (begins_two_byte_sign 60) (append_assoc (decimal i) (flat_map (λ z. 32 ∷ letter_text z) word) (62 ∷ more)) ∙ digits_alone (decimal i) (tail_text word more) (IsLexeme-decimal i (omega (arith, low, good.0)))
  letters_alone (letters.Gone ∷ word) more good = refl

-- ---- expressions

in_value : (tokens : List ExprToken) (rest : List (Part Role)) → symbols_in (spell_value tokens rest) ≡ token_symbols tokens ++ symbols_in rest
in_value [] rest = refl
in_value (token ∷ tokens) rest = ap (λ (ss : List Symbol). token.symbol ∷ ss) (in_value tokens rest)

module _ (schema : Schema) (rule : Rule) (low : schema.dim ≤ 7) (names : AreGoodNames schema.embeds rule.params rule.nodes) where
  expr_symbols : (tree : Tree) (kind : Option _) (marks : List Mark) (more : List ℕ) (parts : List (Part Role)) → IsGoodValue schema rule tree kind → IsBehind more → symbols_from more ≡ symbols_in parts
      → symbols_from (expr_text schema rule tree ++ more) ≡ symbols_in (spell_value (value_at schema rule marks tree) parts)
  expr_symbols tree kind marks more parts good stops rest =
      value_symbols schema.embeds rule.params rule.nodes schema.dim low names tree good.can marks more (symbols_in parts) stops rest ∙ sym (in_value (value_at schema rule marks tree) parts)

  -- ---- assignments

  sets_behind : (sets : List Assignment) (more : List ℕ) → IsBehind more → IsBehind (flat_map (set_text schema rule) sets ++ more)
  sets_behind [] more stops = stops
  sets_behind (set ∷ sets) more stops = refl

  sets_symbols : (sets : List Assignment) (marks : List Mark) (more : List ℕ) (parts : List (Part Role)) → AllByRecursion (IsGoodSet schema rule) sets → IsBehind more → symbols_from more ≡ symbols_in parts
      → symbols_from (flat_map (set_text schema rule) sets ++ more) ≡ symbols_in (spell_sets (sets_at schema rule marks sets) parts)
  sets_symbols [] marks more parts good stops rest = rest
  sets_symbols (set ∷ sets) marks more parts good stops rest =
      let name : List ℕ = embed_name schema.embeds set.embed in
      let last : List ℕ = flat_map (set_text schema rule) sets ++ more in
      let value : List ℕ = expr_text schema rule set.tree ++ last in
      let inside : List Mark = behind (behind (behind marks)) in
      let regrouped : flat_map (set_text schema rule) (set ∷ sets) ++ more ≡ 32 ∷ (codes "with" ++ 32 ∷ (name ++ 32 ∷ 61 ∷ 32 ∷ value)) = simp append_assoc in
      ap symbols_from regrouped
      ∙ symbols_from-blank 32 (codes "with" ++ 32 ∷ (name ++ 32 ∷ 61 ∷ 32 ∷ value)) refl
      ∙ symbols_from-word_blank (codes "with") 32 (name ++ 32 ∷ 61 ∷ 32 ∷ value) (refl, refl) refl
      ∙ ap (λ (s : List Symbol). Word (codes "with") ∷ s)
      (symbols_from-word_blank name 32 (61 ∷ 32 ∷ value) (good_at (λ (embed : Embed). embed.name) schema.embeds set.embed names.embeds_are good.0.embed).0.1 refl
      ∙ ap (λ (s : List Symbol). Word name ∷ s)
      (symbols_from-sign 61 (32 ∷ value) refl refl
      ∙ ap (λ (s : List Symbol). Sign (codes "=") ∷ s)
      (symbols_from-blank 32 value refl
      ∙ expr_symbols set.tree _ inside last _ good.0.value (sets_behind sets more stops) (sets_symbols sets (behind_set schema rule set marks) more parts good.1 stops rest))))

  -- ---- lines

  hook_symbols : (hook : Bool) (more : List ℕ) (parts : List (Part Role)) → IsBehind more → symbols_from more ≡ symbols_in parts → symbols_from (hook_text hook ++ more) ≡ symbols_in (spell_hook hook parts)
  hook_symbols true more parts stops rest =
      symbols_from-blank 32 (codes "hook" ++ more) refl ∙ symbols_from-word (codes "hook") more (refl, refl) stops ∙ ap (λ (s : List Symbol). Word (codes "hook") ∷ s) rest
  hook_symbols false more parts stops rest = rest

  hook_alone : (hook : Bool) (sets : List Assignment) (more : List ℕ) → begins_two_byte_sign 62 (hook_text hook ++ (flat_map (set_text schema rule) sets ++ 10 ∷ more)) ≡ false
  hook_alone true sets more = refl
  hook_alone false [] more = refl
  hook_alone false (set ∷ sets) more = refl

  line_symbols : (line : Line) (count : Count) (marks : List Mark) (more : List ℕ) (parts : List (Part Role)) → IsGoodLine schema rule line → symbols_from more ≡ symbols_in parts
      → symbols_from (text_of schema rule line ++ more) ≡ symbols_in (spell_item schema.dim count (item_at schema rule marks line) parts)
  line_symbols (NodeLine name word hook sets) count marks more parts good rest =
      let last : List ℕ = flat_map (set_text schema rule) sets ++ 10 ∷ more in
      let behind_it : List ℕ = hook_text hook ++ last in
      let regrouped : text_of schema rule (NodeLine name word hook sets) ++ more ≡ name ++ 32 ∷ 60 ∷ (letters_text word ++ 62 ∷ behind_it) = simp append_assoc in
      ap symbols_from regrouped
      ∙ symbols_from-word_blank name 32 (60 ∷ (letters_text word ++ 62 ∷ behind_it)) good.0.0.1 refl
      ∙ ap (λ (s : List Symbol). Word name ∷ s)
      (symbols_from-sign 60 (letters_text word ++ 62 ∷ behind_it) refl (letters_alone schema.dim low word behind_it good.1.1)
      ∙ ap (λ (s : List Symbol). Sign (codes "<") ∷ s)
      (letters_symbols schema.dim low word behind_it _ good.1.1
      (symbols_from-sign 62 behind_it refl (hook_alone hook sets more)
      ∙ ap (λ (s : List Symbol). Sign (codes ">") ∷ s)
      (hook_symbols hook last _ (sets_behind sets (10 ∷ more) refl)
      (sets_symbols sets (behind_word word hook marks) (10 ∷ more) parts good.2 refl (symbols_from-blank 10 more refl ∙ rest))))))
  line_symbols (LinkLine from label to) count marks more parts good rest =
      let regrouped : text_of schema rule (LinkLine from label to) ++ more ≡ from ++ 32 ∷ 45 ∷ (decimal label ++ 45 ∷ 32 ∷ (to ++ 10 ∷ more)) = simp append_assoc in
      ap symbols_from regrouped
      ∙ symbols_from-word_blank from 32 (45 ∷ (decimal label ++ 45 ∷ 32 ∷ (to ++ 10 ∷ more))) good.0.0.1 refl
      ∙ ap (λ (s : List Symbol). Word from ∷ s)
      (symbols_from-sign 45 (decimal label ++ 45 ∷ 32 ∷ (to ++ 10 ∷ more)) refl (minus_alone _)
      ∙ ap (λ (s : List Symbol). Sign (codes "-") ∷ s)
      (symbols_from-decimal label (45 ∷ 32 ∷ (to ++ 10 ∷ more)) (omega (arith, low, good.1)) refl
      ∙ ap (λ (s : List Symbol). Numeral label ∷ s)
      (symbols_from-sign 45 (32 ∷ (to ++ 10 ∷ more)) refl refl
      ∙ ap (λ (s : List Symbol). Sign (codes "-") ∷ s)
      (symbols_from-blank 32 (to ++ 10 ∷ more) refl ∙ symbols_from-word_blank to 10 more good.2.0.1 refl ∙ ap (λ (s : List Symbol). Word to ∷ s) rest))))

  pub lines_symbols : (lines : List Line) (count : Count) (marks : List Mark) (more : List ℕ) (parts : List (Part Role)) → AllByRecursion (IsGoodLine schema rule) lines → symbols_from more ≡ symbols_in parts
      → symbols_from (flat_map (text_of schema rule) lines ++ more) ≡ symbols_in (spell_items schema.dim count (items_at schema rule marks lines) parts)
  lines_symbols [] count marks more parts good rest = rest
  lines_symbols (line ∷ lines) count marks more parts good rest =
      ap symbols_from (append_assoc (text_of schema rule line) (flat_map (text_of schema rule) lines) more)
      ∙ line_symbols line count marks (flat_map (text_of schema rule) lines ++ more) _ good.0 (lines_symbols lines (count_after count (item_at schema rule marks line)) (behind_line schema rule line marks) more parts good.1 rest)

  -- ---- the precondition

  pub pre_symbols : (kind : Option _) (marks : List Mark) (more : List ℕ) (parts : List (Part Role)) → ((tree : Tree) → rule.pre ≡ Some tree → IsGoodValue schema rule tree kind) → symbols_from more ≡ symbols_in parts
      → symbols_from (pre_line schema rule ++ more) ≡ symbols_in (spell_pre (pre_at schema rule marks rule.pre) parts)
  pre_symbols kind marks more parts good rest = go rule.pre refl
    where
      go : (pre : Option Tree) → rule.pre ≡ pre → symbols_from (pre_line schema rule ++ more) ≡ symbols_in (spell_pre (pre_at schema rule marks rule.pre) parts)
      go None is = rw is rest
      go (Some tree) is =
          let regrouped : (codes "pre " ++ expr_text schema rule tree ++ codes "\n") ++ more ≡ codes "pre" ++ 32 ∷ (expr_text schema rule tree ++ 10 ∷ more) = simp append_assoc in
          rw is (ap symbols_from regrouped
          ∙ symbols_from-word_blank (codes "pre") 32 (expr_text schema rule tree ++ 10 ∷ more) (refl, refl) refl
          ∙ ap (λ (s : List Symbol). Word (codes "pre") ∷ s) (expr_symbols tree kind (behind marks) (10 ∷ more) parts (good tree is) refl (symbols_from-blank 10 more refl ∙ rest)))
