use Rattle.std.proofs.Common.{◌≡◌, ℕ, true, false, List, Option, bytes_eq, is_some, refl, sym, ap, ◌∙◌}
use Rattle.std.specs.List.{position}
use Rattle.gm_model.specs.Names.{is_among}
use Rattle.gm_model.specs.Tokens.{bytes_of}
use Rattle.gm_book.specs.inner.FirstNameFault.{embed_names}
use Rattle.gm_book.proofs.Among.{position_any}
use Rattle.gm_book.proofs.names.unknown_embed.Goals as goal

numbered : (names : List (List ℕ)) (bytes read : List ℕ) (found : Option ℕ) → found ≡ position (bytes_eq read) names → read ≡ bytes → is_among names bytes ≡ is_some found
numbered names bytes read found is same = sym (ap is_some (is ∙ ap (λ b. position (bytes_eq b) names) same) ∙ position_any (bytes_eq bytes) names)

pub returns-in-Some : goal.returns-in-Some
returns-in-Some c =
    let names = embed_names c.args.schema.now in
    let bytes = bytes_of c.args.text.now c.args.name.now in
    let here : is_among names bytes ≡ true = numbered names bytes c.bytes_in.result.now c.embed_number.result c.embed_number.ensures c.bytes_in.ensures ∙ ap is_some c.in-Some.is in rw here refl

pub returns-in-None : goal.returns-in-None
returns-in-None c =
    let names = embed_names c.args.schema.now in
    let bytes = bytes_of c.args.text.now c.args.name.now in
    let absent : is_among names bytes ≡ false = numbered names bytes c.bytes_in.result.now c.embed_number.result c.embed_number.ensures c.bytes_in.ensures ∙ ap is_some c.in-None.is in rw absent refl
