-- Where a lexer stands that went past tokens.
use Rattle.std.proofs.Common.{◌≡◌, List, [], ◌∷◌, ◌++◌, length, refl, sym, ap, subst, inl, inr, ◌∙◌, append_assoc, length-append, arith}
use Rattle.std.proofs.lemmas.List.{length-map}
use Rattle.gm_model.specs.declared.token.Token.{Token}
use Rattle.gm_model.specs.Symbols.{Mark, mark_of}
use Rattle.gm_model.specs.Tokens.{Item, Lexed}
use Rattle.gm_text.specs.inner.Cursor.{Cursor}
use Rattle.gm_text.specs.inner.Lexing.{rest_of, IsBehindToken, GoesOverTokens}
use Rattle.gm_text.specs.inner.SchemaAnswers.{marks_left, IsNext}

pub behind_next : (old new : Cursor) (token : Token) → IsNext old token new → IsBehindToken old new
behind_next old new token is = record { before = []; token = token; items = is.items; here = is.here }

-- tokens first, and then more of them or none
behind_then : (old between new : Cursor) → IsBehindToken old between → GoesOverTokens between new → IsBehindToken old new
behind_then old between new one (inl same) = subst (IsBehindToken old) (sym same) one
behind_then old between new one (inr two) =
    let first = Lexed one.token ∷ [] in
    record {
      before = one.before ++ (first ++ two.before);
      token = two.token;
      items = one.items ∙ ap (λ (items : List Item). one.before ++ (first ++ items)) two.items ∙ sym (append_assoc one.before (first ++ two.before) (Lexed two.token ∷ rest_of new));
      here = two.here;
    }

pub over_then : (old between new : Cursor) → GoesOverTokens old between → GoesOverTokens between new → GoesOverTokens old new
over_then old between new (inl same) two = subst (λ (cursor : Cursor). GoesOverTokens cursor new) same two
over_then old between new (inr one) two = inr (behind_then old between new one two)

-- where marks were gone past, the lexer hasn't stayed
pub behind_marks : (old new : Cursor) (before : List Mark) → marks_left old ≡ before ++ marks_left new → GoesOverTokens old new → (before ≡ [] → ⊥) → IsBehindToken old new
behind_marks old new before split (inr is) some = is
behind_marks old new before split (inl same) some = absurd (some (none before (marks_left old) (subst (λ (cursor : Cursor). marks_left old ≡ before ++ marks_left cursor) same split)))
  where
    none : (before rest : List Mark) → rest ≡ before ++ rest → before ≡ []
    none [] rest e = refl
    none (mark ∷ before) rest e = absurd (omega (arith, ap length e, length-append before rest))

-- ---- one place

same_item : (before others : List Item) (item other : Item) (rest more : List Item) → before ++ item ∷ rest ≡ others ++ other ∷ more → length rest ≡ length more → item ≡ other
same_item [] [] item other rest more e same = cc e
same_item [] (first ∷ others) item other rest more e same =
    let behind : rest ≡ others ++ other ∷ more = cc e in
    absurd (omega (arith, ap length behind, length-append others (other ∷ more), same))
same_item (first ∷ before) [] item other rest more e same =
    let behind : before ++ item ∷ rest ≡ more = cc e in
    absurd (omega (arith, ap length behind, length-append before (item ∷ rest), same))
same_item (first ∷ before) (second ∷ others) item other rest more e same =
    let behind : before ++ item ∷ rest ≡ others ++ other ∷ more = cc e in
    same_item before others item other rest more behind same

pub one_place : (old new other : Cursor) → IsBehindToken old new → IsBehindToken old other → marks_left new ≡ marks_left other → new.place ≡ other.place
one_place old new other one two same =
    let long : length (rest_of new) ≡ length (rest_of other) = sym (length-map (rest_of new) (mark_of new.text)) ∙ ap length same ∙ length-map (rest_of other) (mark_of other.text) in
    let item : Lexed one.token ≡ Lexed two.token = same_item one.before two.before (Lexed one.token) (Lexed two.token) (rest_of new) (rest_of other) (sym one.items ∙ two.items) long in
    let token : one.token ≡ two.token = cc item in
    one.here ∙ ap (λ (t : Token). t.end) token ∙ sym two.here
