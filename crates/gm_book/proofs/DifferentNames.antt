-- Lists of names that differ, and the numbers of names in them.
use Rattle.std.proofs.Common.{◌≡◌, ℕ, ◌+◌, ◌<◌, Bool, true, false, ◌||◌, List, [], ◌∷◌, ◌++◌, length, take, drop, Some, inl, inr, refl, sym, ap, subst, ◌∙◌, append_assoc, arith}
use Rattle.std.specs.Prelude.{slice_get}
use Rattle.std.specs.Str.{bytes_eq}
use Rattle.std.specs.List.{position_or_len}
use Rattle.std.proofs.lemmas.Bool.{or_parts, cases_Bool}
use Rattle.std.proofs.lemmas.List.{append-nil, map-append, drop_more, take-append-drop, length-take-le}
use Rattle.std.proofs.lemmas.Option.{slice_get_within, get_or_from_slice_get}
use Rattle.std.proofs.lemmas.List.Folds.{list_any-append}
use Rattle.std.proofs.lemmas.Slice.Eq.{bytes_eq-Decides}
use Rattle.gm_model.specs.Names.{Mention, is_among}
use Rattle.gm_forms.specs.BookText.{names_of, IsAgain}
use Rattle.gm_book.proofs.CanonicalForm.{AreNew}

pub same_bytes : (name : List ℕ) → bytes_eq name name ≡ true
same_bytes name = (bytes_eq-Decides name name).1 refl

pub among-append : (front behind : List (List ℕ)) (name : List ℕ) → is_among (front ++ behind) name ≡ (is_among front name || is_among behind name)
among-append front behind name = list_any-append (bytes_eq name) front behind

-- where it is none of both
pub among_neither : (front behind : List (List ℕ)) (name : List ℕ) → is_among (front ++ behind) name ≡ false → (is_among front name ≡ false) × (is_among behind name ≡ false)
among_neither front behind name none = or_parts (is_among front name) (is_among behind name) (sym (among-append front behind name) ∙ none)

pub among_front : (front behind : List (List ℕ)) (name : List ℕ) → is_among front name ≡ true → is_among (front ++ behind) name ≡ true
among_front front behind name is = among-append front behind name ∙ rw is refl

pub among_last : (front behind : List (List ℕ)) (name : List ℕ) → is_among (front ++ name ∷ behind) name ≡ true
among_last front behind name =
    among-append front (name ∷ behind) name ∙ go (is_among front name)
  where
    go : (b : Bool) → (b || (bytes_eq name name || is_among behind name)) ≡ true
    go true = refl
    go false = rw (same_bytes name) refl

-- ---- names that are new

pub new_append : (seen front behind : List (List ℕ)) → AreNew seen front → AreNew (seen ++ front) behind → AreNew seen (front ++ behind)
new_append seen [] behind first last = subst (λ names. AreNew names behind) (append-nil seen) last
new_append seen (name ∷ front) behind first last = (first.0, new_append (seen ++ name ∷ []) front behind first.1 (subst (λ names. AreNew names behind) (sym (append_assoc seen (name ∷ []) front)) last))

pub new_front : (seen front behind : List (List ℕ)) → AreNew seen (front ++ behind) → AreNew seen front
new_front seen [] behind both = tt
new_front seen (name ∷ front) behind both = (both.0, new_front (seen ++ name ∷ []) front behind both.1)

pub new_behind : (seen front behind : List (List ℕ)) → AreNew seen (front ++ behind) → AreNew (seen ++ front) behind
new_behind seen [] behind both = subst (λ names. AreNew names behind) (sym (append-nil seen)) both
new_behind seen (name ∷ front) behind both = subst (λ names. AreNew names behind) (append_assoc seen (name ∷ []) front) (new_behind (seen ++ name ∷ []) front behind both.1)

-- a name that is seen is none of the new ones
pub seen_not_new : (seen names : List (List ℕ)) (name : List ℕ) → AreNew seen names → is_among seen name ≡ true → is_among names name ≡ false
seen_not_new seen [] name new is = refl
seen_not_new seen (other ∷ names) name new is =
    let later : is_among names name ≡ false = seen_not_new (seen ++ other ∷ []) names name new.1 (among_front seen (other ∷ []) name is) in
    elim (cases_Bool (bytes_eq name other)) [
      | inl same ↦ (let e : name ≡ other = (bytes_eq-Decides name other).0 same in absurd (let no : is_among seen name ≡ false = ap (is_among seen) e ∙ new.0 in cc))
      | inr differ ↦ rw differ later
    ]

-- with the first of the new names gone
pub rest_differ : (seen names : List (List ℕ)) (name : List ℕ) → AreNew seen (name ∷ names) → is_among names name ≡ false
rest_differ seen names name new = seen_not_new (seen ++ name ∷ []) names name new.1 (among_last seen [] name)

-- where fewer are seen
pub fewer_seen : (seen fewer names : List (List ℕ)) → ((name : List ℕ) → is_among seen name ≡ false → is_among fewer name ≡ false) → AreNew seen names → AreNew fewer names
fewer_seen seen fewer [] less new = tt
fewer_seen seen fewer (name ∷ names) less new = (
  less name new.0,
  fewer_seen (seen ++ name ∷ []) (fewer ++ name ∷ []) names
      (λ other none. let parts = among_neither seen (name ∷ []) other none in among-append fewer (name ∷ []) other ∙ rw (less other parts.0, parts.1) refl)
      new.1,
)

-- ---- numbers

pub split_there : {X : Type 0} (xs : List X) (k : ℕ) (x : X) → slice_get xs k ≡ Some x → take k xs ++ x ∷ drop (k + 1) xs ≡ xs
split_there xs k x here =
    ap (λ behind. take k xs ++ behind) (sym (drop_more xs k x (slice_get_within xs k x here) ∙ ap (λ y. y ∷ drop (k + 1) xs) (get_or_from_slice_get xs k x x here))) ∙ take-append-drop k xs

pub number_behind : (front behind : List (List ℕ)) (name : List ℕ) → is_among front name ≡ false → position_or_len (bytes_eq name) (front ++ name ∷ behind) ≡ length front
number_behind [] behind name none = rw (same_bytes name) refl
number_behind (other ∷ front) behind name none =
    let parts = or_parts (bytes_eq name other) (is_among front name) none in
    let rest : position_or_len (bytes_eq name) (front ++ name ∷ behind) ≡ length front = number_behind front behind name parts.1 in
    rw parts.0 (omega (arith, rest))

-- the number of the name that stands there
pub number_there : (names : List (List ℕ)) (x : ℕ) (name : List ℕ) → AreNew [] names → slice_get names x ≡ Some name → position_or_len (bytes_eq name) names ≡ x
number_there names x name new here =
    let within : x < length names = slice_get_within names x name here in
    let split = split_there names x name here in
    let first : is_among (take x names) name ≡ false = (new_behind [] (take x names) (name ∷ drop (x + 1) names) (subst (AreNew []) (sym split) new)).0 in
    ap (position_or_len (bytes_eq name)) (sym split) ∙ number_behind (take x names) (drop (x + 1) names) name first ∙ length-take-le x names (omega (arith, within))

-- ---- no name again

pub not_both : (b : Bool) → b ≡ true → b ≡ false → ⊥
not_both b yes' no' = let e : true ≡ false = sym yes' ∙ no' in absurd cc

pub no_again : (mentions : List Mention) (place : ℕ) → AreNew [] (names_of mentions) → IsAgain mentions place → ⊥
no_again mentions place new again =
    let split : names_of mentions ≡ names_of again.front ++ again.mention.name ∷ names_of again.behind = ap names_of again.split ∙ map-append (λ (m : Mention). m.name) again.front (again.mention ∷ again.behind) in
    let head = (new_behind [] (names_of again.front) (again.mention.name ∷ names_of again.behind) (subst (AreNew []) split new)).0 in
    not_both (is_among (names_of again.front) again.mention.name) again.again head

-- where no name is mentioned again, each is new
pub new_mentions : (front behind : List Mention) → ((place : ℕ) → IsAgain (front ++ behind) place → ⊥) → AreNew (names_of front) (names_of behind)
new_mentions front [] never = tt
new_mentions front (mention ∷ behind) never =
    let first : is_among (names_of front) mention.name ≡ false = elim (cases_Bool (is_among (names_of front) mention.name)) [
      | inl again ↦ absurd (never mention.place (record { front = front; mention = mention; behind = behind; split = refl; here = refl; again = again }))
      | inr new ↦ new
    ] in
    let later = new_mentions (front ++ mention ∷ []) behind (subst (λ all. (place : ℕ) → IsAgain all place → ⊥) (sym (append_assoc front (mention ∷ []) behind)) never) in
    (first, subst (λ names. AreNew names (names_of behind)) (map-append (λ (m : Mention). m.name) front (mention ∷ [])) later)
