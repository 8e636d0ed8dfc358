-- A number that is read digit by digit, a name, or a sign by its byte, is the token that stands there.
use Rattle.std.proofs.Common.{◌≡◌, ℕ, suc, ◌+◌, ◌-◌, ◌<◌, ◌≤◌, true, false, List, [], ◌∷◌, length, take, drop, get_or, refl, sym, ap, ◌∙◌, arith}
use Rattle.std.specs.List.{take_while, prefix_len}
use Rattle.std.proofs.lemmas.List.{drop_more}
use Rattle.std.proofs.lemmas.List.Folds.{length-prefix_len}
use Rattle.std.proofs.lemmas.List.Sums.{prefix_len-drop_yes}
use Rattle.gm_model.specs.declared.token.Token.{Token}
use Rattle.gm_model.specs.declared.token.TokenKind.TheVariants as kinds
use Rattle.gm_model.specs.Symbols.{value_of}
use Rattle.gm_model.specs.Tokens.{is_digit, is_sign, is_two_byte_sign, begins_two_byte_sign, items_at, Lexed, Lexeme, front_of}
use Rattle.gm_text.specs.inner.Lexing.{IsTokenAt, IsNumberRead, IsSignRead}
use Rattle.gm_text.specs.inner.SchemaAnswers.{IsNext}
use Rattle.gm_text.proofs.Fronts.{front_of-digit, front_of-sign}
use Rattle.gm_text.proofs.Items.{items_at-token}
use Rattle.gm_text.proofs.Longest.{IsLongest-at}
use Rattle.gm_text.proofs.Marks.{marks_at-token}

pub number_read : (text : List ℕ) (from place end value : ℕ) → items_at text from ≡ items_at text place → place < length text → is_digit (get_or text place 0) ≡ true
    → end ≡ place + 1 + length (take_while is_digit (drop (place + 1) text)) → end ≤ length text → value ≡ value_of (take_while is_digit (drop place text))
    → IsNumberRead value place (record { text = text; place = from }) (record { text = text; place = end })
number_read text from place end value same inside digit end_is within value_is =
    let behind = drop (place + 1) text in
    let size : length (take_while is_digit behind) ≡ prefix_len is_digit behind = length-prefix_len is_digit behind in
    let wide : prefix_len is_digit (drop place text) ≡ end - place = omega (arith, prefix_len-drop_yes is_digit text place 0 inside digit, end_is, size) in
    let front : suc (length (take_while is_digit behind)) ≡ end - place = omega (arith, end_is) in
    let token : Token = record { kind = kinds.Number; start = place; end = end } in
    let there : IsTokenAt text place token = record {
      start = refl;
      not_empty = omega (arith, end_is);
      within = within;
      front = front_of-digit (get_or text place 0) behind digit ∙ ap (Lexeme kinds.Number) front;
    } in
    record {
      text = refl;
      answer = same ∙ items_at-token text place token inside there;
      value_is = value_is ∙ ap (λ k. value_of (take k (drop place text))) wide;
    }

pub name_next : (text : List ℕ) (from : ℕ) (token : Token) → from ≤ token.start → items_at text from ≡ items_at text token.start → IsTokenAt text token.start token
    → IsNext (record { text = text; place = from }) token (record { text = text; place = token.end })
name_next text from token behind same there =
    let inside : token.start < length text = omega (arith, there.not_empty, there.within) in
    let items : items_at text from ≡ Lexed token ∷ items_at text token.end = same ∙ items_at-token text token.start token inside there in
    record {
      sound = record { order = there.not_empty; within = there.within; lexeme = (IsLongest-at text token.start token there).lexeme };
      items = items;
      here = refl;
      marks = marks_at-token text from token items;
      text = refl;
      onward = omega (arith, behind, there.not_empty);
      within = there.within;
    }

begins_one : (sign : ℕ) (bytes : List ℕ) → ((c : ℕ) → is_two_byte_sign sign c ≡ false) → begins_two_byte_sign sign bytes ≡ false
begins_one sign [] alone = refl
begins_one sign (c ∷ bytes) alone = alone c

pub sign_read : (text : List ℕ) (from place sign : ℕ) → items_at text from ≡ items_at text place → place < length text → get_or text place 0 ≡ sign → is_sign sign ≡ true → ((c : ℕ) → is_two_byte_sign sign c ≡ false)
    → IsSignRead sign (record { text = text; place = from }) (record { text = text; place = place + 1 })
sign_read text from place sign same inside is kind alone =
    let behind = drop (place + 1) text in
    let one : 1 ≡ place + 1 - place = omega arith in
    let token : Token = record { kind = kinds.Sign; start = place; end = place + 1 } in
    let there : IsTokenAt text place token = record {
      start = refl;
      not_empty = omega arith;
      within = omega (arith, inside);
      front = ap (λ b. front_of b behind) is ∙ (front_of-sign sign behind kind (begins_one sign behind alone) ∙ ap (Lexeme kinds.Sign) one);
    } in
    record {
      place = place;
      text = refl;
      answer = same ∙ items_at-token text place token inside there;
      sign_is = ap (λ k. take k (drop place text)) (sym one) ∙ (ap (take 1) (drop_more text place 0 inside) ∙ ap (λ b. b ∷ []) is);
    }
