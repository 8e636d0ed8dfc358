-- A small number or a sign that was read by its bytes is the token that stands next, and what a script sees in it.
use Rattle.std.proofs.Common.{◌≡◌, ℕ, ◌+◌, ◌^◌, ◌-◌, ◌<◌, ◌≤◌, List, [], ◌∷◌, ◌++◌, length, take, drop, min, refl, sym, ap, ◌∙◌, arith}
use Rattle.std.proofs.lemmas.List.{length-take, length-drop, take-append-drop, take-append-le, drop-append-le, drop-drop}
use Rattle.gm_model.specs.declared.token.Token.{Token}
use Rattle.gm_model.specs.declared.token.TokenKind.TheVariants as tokens
use Rattle.gm_model.specs.Tokens.{Lexed, items_from, bytes_of}
use Rattle.gm_text.specs.inner.Cursor.{Cursor}
use Rattle.gm_text.specs.inner.Lexing.{rest_of, IsNumberRead, IsSignRead}
use Rattle.gm_script.specs.inner.Reading.{sight_of, sight_of_word, sight_of_sign, symbol_at, IsLead, IsSeenNext}
use Rattle.gm_script.specs.declared.sight.Sight.{Sight}
use Rattle.gm_script.specs.declared.sight.Sight.TheVariants as sights
use Rattle.gm_script.proofs.Tokens.{token_stands}

abbrev pub number_at : ℕ → Cursor → Token
number_at place new = record { kind = tokens.Number; start = place; end = new.place }

module _ (value place : ℕ) (old new : Cursor) (small : value < 2 ^ 32) (is : IsNumberRead value place old new) where
  pub number_seen : sight_of (symbol_at old.text (number_at place new)) ≡ sights.Number value
  number_seen =
      let least : min value (2 ^ 64 - 1) ≡ value = omega arith in
      rw (← is.value_is, least) refl

  pub number_next : (end : ℕ) → end ≡ new.place → end ≤ length new.text → IsSeenNext old (sights.Number value) (record { kind = tokens.Number; start = place; end = end }) new
  number_next end here within =
      let stands = token_stands old.text old.place (number_at place new) (rest_of new) is.answer in
      rw here (record {
        text = is.text;
        items = is.answer;
        goes_on = omega (arith, stands.0, stands.1);
        inside = record { order = omega (arith, stands.1); within = omega (arith, within, here, ap length is.text) };
        seen = sym number_seen;
      })

abbrev sign_from : ℕ → Cursor → Token
sign_from place new = record { kind = tokens.Sign; start = place; end = new.place }

pub sign_next : (sign : ℕ) (sight : Sight) (old new : Cursor) → IsSignRead sign old new → sight ≡ sight_of_sign (sign ∷ []) → (end : ℕ) → end ≡ new.place → end ≤ length new.text
    → IsSeenNext old sight (record { kind = tokens.Sign; start = end - 1; end = end }) new
sign_next sign sight old new is sees end here within =
    let stands = token_stands old.text old.place (sign_from is.place new) (rest_of new) is.answer in
    let inside : new.place ≤ length old.text = omega (arith, within, here, ap length is.text) in
    let one : length (bytes_of old.text (sign_from is.place new)) ≡ 1 = ap length is.sign_is in
    let start : new.place - 1 ≡ is.place = omega (arith, one, inside, stands.1, length-take {A = ℕ}, length-drop {A = ℕ}) in
    let seen : sight ≡ sight_of (symbol_at old.text (sign_from is.place new)) = sees ∙ ap sight_of_sign (sym is.sign_is) in
    rw (here, start) (record {
      text = is.text;
      items = is.answer;
      goes_on = omega (arith, stands.0, stands.1);
      inside = record { order = omega (arith, stands.1); within = inside };
      seen = seen;
    })

-- ---- a word between two blanks

module _ (lead : List ℕ) (sight : Sight) (is : IsLead lead sight) (text : List ℕ) (place : ℕ) (there : take (length lead) (drop place text) ≡ lead) where
  abbrev stop : ℕ
  stop = place + length lead - 1

  abbrev rest : List ℕ
  rest = drop (length lead) (drop place text)

  whole : drop place text ≡ lead ++ rest
  whole = sym (take-append-drop (length lead) (drop place text)) ∙ ap (λ front. front ++ rest) there

  abbrev word_at : Token
  word_at = record { kind = tokens.Name; start = place + 1; end = stop }

  behind_word : drop stop text ≡ drop (length lead - 1) lead ++ rest
  behind_word =
      let stop_is : place + (length lead - 1) ≡ stop = omega (arith, is.some) in
      ap (λ n. drop n text) (sym stop_is) ∙ sym (drop-drop (length lead - 1) place text) ∙ ap (drop (length lead - 1)) whole ∙ drop-append-le (length lead - 1) lead rest (omega (arith, is.some))

  word_is : bytes_of text word_at ≡ take (length lead - 2) (drop 1 lead)
  word_is =
      let size : stop - (place + 1) ≡ length lead - 2 = omega (arith, is.some) in
      let front : drop (place + 1) text ≡ drop 1 lead ++ rest = sym (drop-drop 1 place text) ∙ ap (drop 1) whole ∙ drop-append-le 1 lead rest (omega (arith, is.some)) in
      rw (size, front) (take-append-le (length lead - 2) (drop 1 lead) rest (omega (arith, is.some, length-drop {A = ℕ})))

  pub word_next : place + length lead ≤ length text → IsSeenNext (record { text = text; place = place }) sight (record { kind = tokens.Name; start = place + 1; end = place + length lead - 1 }) (record { text = text; place = place + length lead - 1 })
  word_next within = record {
    text = refl;
    items = ap (items_from place 0) whole ∙ is.items place rest ∙ ap (λ bytes. Lexed word_at ∷ items_from stop 0 bytes) (sym behind_word);
    goes_on = omega (arith, is.some);
    inside = record { order = omega (arith, is.some); within = omega (arith, within) };
    seen = is.seen ∙ ap sight_of_word (sym word_is);
  }
