-- The last of a stack is its innermost frame.
use Rattle.std.proofs.Common.{◌≡◌, ℕ, ◌-◌, ◌<◌, false, IsSome, option_to_list, slice_get, arith, List, [], ◌∷◌, ◌++◌, length, map, reverse, Option, Some, None, refl, sym, ap, ◌∙◌}
use Rattle.std.proofs.lemmas.List.{reverse-append, length-append}
use Rattle.std.proofs.lemmas.Bool.Decides.{nat_tests}
use Rattle.std.specs.Option.{option_map}
use Rattle.gm_tree.specs.declared.waiting.Waiting.{Waiting}
use Rattle.gm_tree.specs.inner.Building.{Frame, frame_of, frames_of, least_in, is_bracket}
use Rattle.gm_tree.specs.inner.Taking.{TakesAbove, TakesShut}

map-append : (xs ys : List Waiting) → map frame_of (xs ++ ys) ≡ map frame_of xs ++ map frame_of ys
map-append [] ys = refl
map-append (x ∷ xs) ys = ap (λ (fs : List Frame). frame_of x ∷ fs) (map-append xs ys)

pub frames-put : (stack : List Waiting) (waiting : Waiting) → frames_of (stack ++ waiting ∷ []) ≡ frame_of waiting ∷ frames_of stack
frames-put stack waiting = ap reverse (map-append stack (waiting ∷ [])) ∙ reverse-append (map frame_of stack) (frame_of waiting ∷ [])

last_get : (stack : List Waiting) (waiting : Waiting) → slice_get (stack ++ waiting ∷ []) (length stack) ≡ Some waiting
last_get [] waiting = refl
last_get (first ∷ stack) waiting = last_get stack waiting

-- what is taken from the end is what was seen there
pub taken_last : (old new : List Waiting) (waiting : Waiting) (result : Option Waiting) → Some waiting ≡ slice_get old (length old - 1) → old ≡ new ++ option_to_list result → IsSome result → (result ≡ Some waiting) × (frames_of old ≡ frame_of waiting ∷ frames_of new)
taken_last old new waiting None seen items some = absurd cc
taken_last old new waiting (Some taken) seen items some =
    let size : length (new ++ taken ∷ []) - 1 ≡ length new = omega (arith, length-append new (taken ∷ [])) in
    let there : slice_get old (length old - 1) ≡ Some taken = ap (λ (xs : List Waiting). slice_get xs (length xs - 1)) items ∙ ap (slice_get (new ++ taken ∷ [])) size ∙ last_get new taken in
    let both : Some waiting ≡ Some taken = seen ∙ there in
    let same : waiting ≡ taken = cc both in
    (sym both, ap frames_of items ∙ frames-put new taken ∙ ap (λ (w : Waiting). frame_of w ∷ frames_of new) (sym same))

pub takes_above : (level : ℕ) (old new : List Waiting) (waiting : Waiting) (result : Option Waiting) → (result ≡ Some waiting) × (frames_of old ≡ frame_of waiting ∷ frames_of new) → level < least_in (frame_of waiting) → TakesAbove level (frames_of old) (option_map frame_of result) (frames_of new)
takes_above level old new waiting result is more = rw is.0 (is.1, grind (arith, nat_tests, more))

pub takes_shut : (old new : List Waiting) (waiting : Waiting) (result : Option Waiting) → (result ≡ Some waiting) × (frames_of old ≡ frame_of waiting ∷ frames_of new) → is_bracket (frame_of waiting) ≡ false → TakesShut (frames_of old) (option_map frame_of result) (frames_of new)
takes_shut old new waiting result is shut = rw is.0 (is.1, shut)
