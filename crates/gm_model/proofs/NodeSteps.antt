-- The steps of a node, as its links and letters are read one after another.
use Rattle.std.proofs.Common.{◌≡◌, ◌≢◌, ℕ, inl, inr, ◌+◌, ◌<◌, ◌≤◌, Bool, true, false, cond, eqb, List, [], ◌∷◌, ◌++◌, length, get_or, set, take, Option, Some, None, refl, ap, sym, ◌∙◌, arith}
use Rattle.std.specs.Option.{option_or}
use Rattle.std.specs.List.{slice_get, find, position, position_or_len}
use Rattle.std.proofs.lemmas.List.{get_or-set_same, get_or-set_other, length-append, length-take-le, take_more}
use Rattle.std.proofs.lemmas.Option.{slice_get_within, get_or_from_slice_get}
use Rattle.std.proofs.Math.Bool.{and-true, and-false, or-true}
use Rattle.std.proofs.lemmas.Bool.{cases_Bool, eqb-true, eq-eqb, ne_eqb}
use Rattle.std.proofs.lemmas.Bool.Decides.{nat_tests}
use Rattle.std.proofs.lemmas.List.Folds.{find-append, position_or_len_push}
use Rattle.std.proofs.lemmas.List.Sums.{prefix_len-le-length}
use Rattle.gm_model.specs.declared.rule.Link.{Link}
use Rattle.gm_model.specs.declared.step.Step.{Step}
use Rattle.gm_model.specs.declared.step.Step.TheVariants.{Absent, Exp, Imp}
use Rattle.gm_model.specs.declared.word.Letter.{Letter}
use Rattle.gm_model.specs.declared.word.Letter.TheVariants.{At, Gone}
use Rattle.gm_model.specs.Rules.{is_end, other_end, is_label, step_by, step_in}
use Rattle.gm_model.specs.inner.NodeSteps.{step_or, letter_step}

step_or_absent : (s : Step) → step_or s Absent ≡ s
step_or_absent Absent = refl
step_or_absent (Exp y) = refl
step_or_absent (Imp m) = refl

step_or_assoc : (r s t : Step) → step_or (step_or r s) t ≡ step_or r (step_or s t)
step_or_assoc Absent s t = refl
step_or_assoc (Exp y) s t = refl
step_or_assoc (Imp m) s t = refl

-- a letter counts where there is no link
pub step_by-split : (x : ℕ) (link : Option Link) (place : Option ℕ) → step_by x link place ≡ step_or (step_by x link None) (step_by 0 None place)
step_by-split x (Some link) place = refl
step_by-split x None (Some m) = refl
step_by-split x None None = refl

position-push : {X : Type 0} (p : X → Bool) (xs : List X) (y : X) → position p (xs ++ y ∷ []) ≡ option_or (position p xs) (cond (p y) (Some (length xs)) None)
position-push p xs y =
    let at : position_or_len p xs ≤ length xs = prefix_len-le-length _ xs in
    rw (position_or_len_push, length-append) grind (arith, nat_tests, at)

grown : (x : ℕ) (found : Option Link) (link : Link) (b : Bool) →
    step_by x (option_or found (cond b (Some link) None)) None ≡ step_or (step_by x found None) (cond b (Exp (other_end x link)) Absent)
grown x (Some l) link b = refl
grown x None link true = refl
grown x None link false = refl

-- one more link
pub link_more : (x i : ℕ) (links : List Link) (link : Link) →
    step_in (links ++ link ∷ []) [] x i ≡ step_or (step_in links [] x i) (cond (is_end x i link) (Exp (other_end x link)) Absent)
link_more x i links link = rw find-append (grown x (find (is_end x i) links) link (is_end x i link))

lettered : (place : Option ℕ) (m : ℕ) (b : Bool) →
    step_by 0 None (option_or place (cond b (Some m) None)) ≡ step_or (step_by 0 None place) (cond b (Imp m) Absent)
lettered (Some p) m b = refl
lettered None m true = refl
lettered None m false = refl

-- one more letter
pub letter_more : (i : ℕ) (word : List Letter) (letter : Letter) →
    letter_step (word ++ letter ∷ []) i ≡ step_or (letter_step word i) (cond (is_label i letter) (Imp (length word)) Absent)
letter_more i word letter = rw (position-push (is_label i) word letter) (lettered (position (is_label i) word) (length word) (is_label i letter))

filled_same : (steps : List Step) (label i : ℕ) (s : Step) → i < length steps → label ≡ i →
    get_or (set steps label (step_or (get_or steps label Absent) s)) i Absent ≡ step_or (get_or steps i Absent) (cond (eqb label i) s Absent)
filled_same steps label i s h e = let e' : i ≡ label = sym e in let b : eqb label i ≡ true = eq-eqb label i e in rw (b, e) (get_or-set_same steps i _ Absent h)

filled_other : (steps : List Step) (label i : ℕ) (s : Step) → eqb label i ≡ false →
    get_or (set steps label (step_or (get_or steps label Absent) s)) i Absent ≡ step_or (get_or steps i Absent) (cond (eqb label i) s Absent)
filled_other steps label i s b = let ne : i ≢ label = grind (arith, nat_tests) in rw (b, step_or_absent) (get_or-set_other steps label i _ Absent ne)

-- a step that was written where there was none
pub filled_at : (steps : List Step) (label i : ℕ) (s : Step) → i < length steps →
    get_or (set steps label (step_or (get_or steps label Absent) s)) i Absent ≡ step_or (get_or steps i Absent) (cond (eqb label i) s Absent)
filled_at steps label i s h = elim (cases_Bool (eqb label i)) [ inl e ↦ filled_same steps label i s h (eqb-true label i e) | inr e ↦ filled_other steps label i s e ]

-- ---- one turn of the loop over the links

taken : {X : Type 0} (xs : List X) (k : ℕ) (x : X) → slice_get xs k ≡ Some x → take (k + 1) xs ≡ take k xs ++ x ∷ []
taken xs k x h =
    let b : k < length xs = slice_get_within xs k x h in
    let e : get_or xs k x ≡ x = get_or_from_slice_get xs k x x h in
    rw (take_more xs k x b, e) refl

pub is_end-from : (x i : ℕ) (link : Link) → link.from ≡ x → is_end x i link ≡ eqb link.label i
is_end-from x i link e = rw (eq-eqb link.from x e) (and-true (eqb link.label i))

pub is_end-to : (x i : ℕ) (link : Link) → link.to ≡ x → is_end x i link ≡ eqb link.label i
is_end-to x i link e = rw (eq-eqb link.to x e, or-true) (and-true (eqb link.label i))

pub is_end-neither : (x i : ℕ) (link : Link) → link.from ≢ x → link.to ≢ x → is_end x i link ≡ false
is_end-neither x i link f t = rw (ne_eqb link.from x f, ne_eqb link.to x t) (and-false (eqb link.label i))

pub other_end-from : (x : ℕ) (link : Link) → link.from ≡ x → other_end x link ≡ link.to
other_end-from x link e = rw (eq-eqb link.from x e) refl

pub other_end-to : (x : ℕ) (link : Link) → link.from ≢ x → other_end x link ≡ link.from
other_end-to x link f = rw (ne_eqb link.from x f) refl

pub link_written : (links : List Link) (k x i y : ℕ) (link : Link) (old new : List Step) → slice_get links k ≡ Some link → i < length old →
    new ≡ set old link.label (step_or (get_or old link.label Absent) (Exp y)) → is_end x i link ≡ eqb link.label i → other_end x link ≡ y →
    get_or old i Absent ≡ step_in (take k links) [] x i → get_or new i Absent ≡ step_in (take (k + 1) links) [] x i
link_written links k x i y link old new h b e t o held =
    rw (taken links k link h, link_more x i (take k links) link, t, o, ← held, e) (filled_at old link.label i (Exp y) b)

pub link_passed : (links : List Link) (k x i : ℕ) (link : Link) (old : List Step) → slice_get links k ≡ Some link →
    is_end x i link ≡ false → get_or old i Absent ≡ step_in (take k links) [] x i → get_or old i Absent ≡ step_in (take (k + 1) links) [] x i
link_passed links k x i link old h t held =
    rw (taken links k link h, link_more x i (take k links) link, t, step_or_absent) held

-- ---- one turn of the loop over the letters

pub letter_written : (word : List Letter) (k i label : ℕ) (first : Step) (old new : List Step) → slice_get word k ≡ Some (At label) → i < length old →
    new ≡ set old label (step_or (get_or old label Absent) (Imp k)) →
    get_or old i Absent ≡ step_or first (letter_step (take k word) i) → get_or new i Absent ≡ step_or first (letter_step (take (k + 1) word) i)
letter_written word k i label first old new h b e held =
    let m : length (take k word) ≡ k = length-take-le k word (omega (arith, slice_get_within word k (At label) h)) in
    let more : letter_step (take (k + 1) word) i ≡ step_or (letter_step (take k word) i) (cond (eqb label i) (Imp k) Absent)
    = ap (λ t. letter_step t i) (taken word k (At label) h) ∙ letter_more i (take k word) (At label) ∙ ap (λ n. step_or (letter_step (take k word) i) (cond (eqb label i) (Imp n) Absent)) m in
    ap (λ steps. get_or steps i Absent) e
    ∙ filled_at old label i (Imp k) b
    ∙ ap (λ s. step_or s (cond (eqb label i) (Imp k) Absent)) held
    ∙ step_or_assoc first (letter_step (take k word) i) (cond (eqb label i) (Imp k) Absent)
    ∙ ap (step_or first) (sym more)

pub letter_passed : (word : List Letter) (k i : ℕ) (first : Step) (old : List Step) → slice_get word k ≡ Some Gone →
    get_or old i Absent ≡ step_or first (letter_step (take k word) i) → get_or old i Absent ≡ step_or first (letter_step (take (k + 1) word) i)
letter_passed word k i first old h held = rw (taken word k Gone h, letter_more i (take k word) Gone, step_or_absent) held
