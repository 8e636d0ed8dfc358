-- Where reading stops: memory was wanting, or what stands there can't follow.
use Rattle.std.specs.Prelude.{◌≡◌, ℕ, List, Result, Ok, Err, IsErrAnd, IfErr}
use Rattle.std.proofs.Common.{refl}
use Rattle.gm_model.specs.declared.token.Token.{Token}
use Rattle.gm_model.specs.declared.word.Letter.{Letter}
use Rattle.gm_forms.specs.declared.draft.Draft.{Draft}
use Rattle.gm_forms.specs.declared.form_fault.FormFault.{FormFault}
use Rattle.gm_forms.specs.declared.form_fault.FormFault.TheVariants as faults
use Rattle.gm_forms.specs.declared.state.Heading.{Heading}
use Rattle.gm_forms.specs.declared.state.Spot.{Spot}
use Rattle.gm_forms.specs.declared.state.State.{State as CodeState}
use Rattle.gm_forms.specs.declared.state.State.TheVariants as code
use Rattle.gm_forms.specs.inner.Standing.{Gives, IsOutside, Moves, stepped, word_mark, sign_mark}

-- nothing is said where memory was wanting
pub memory_wanting : {X Y : Type 0} (view : X → Y) (result : Result X FormFault) (found : Result Y FormFault) → IsErrAnd result (λ fault. fault ≡ faults.OutOfMemory) → Gives view result found
memory_wanting view (Ok x) found e = absurd e
memory_wanting view (Err fault) found e = rw e tt

pub memory_fault : {X : Type 0} (result : Result X FormFault) → IsErrAnd result (λ fault. fault ≡ faults.OutOfMemory) → IfErr result (λ fault. fault ≡ faults.OutOfMemory)
memory_fault (Ok x) e = tt
memory_fault (Err fault) e = e

-- no word can stand in any other state
module _ (text : List ℕ) (nodes : List (List ℕ)) (draft : Draft) (token : Token) where
  pub word_stops : (state : CodeState) → IsOutside state
      → ((heading : Heading) → state ≡ code.Rules heading → ⊥)
      → ((heading : Heading) (so_far : ℕ) → state ≡ code.Name heading so_far → ⊥)
      → ((heading : Heading) (so_far : ℕ) → state ≡ code.Left heading so_far → ⊥)
      → ((heading : Heading) (so_far : ℕ) (count : ℕ) → state ≡ code.Param heading so_far count → ⊥)
      → ((heading : Heading) (so_far : ℕ) (count : ℕ) (name : Token) → state ≡ code.Kind heading so_far count name → ⊥)
      → ((heading : Heading) (so_far : ℕ) → state ≡ code.Body heading so_far → ⊥)
      → ((spot : Spot) → state ≡ code.Item spot → ⊥)
      → ((spot : Spot) (name : Token) (word : List Letter) → state ≡ code.Behind spot name word → ⊥)
      → ((spot : Spot) → state ≡ code.Assigned spot → ⊥)
      → ((spot : Spot) → state ≡ code.Set spot → ⊥)
      → ((heading : Heading) (so_far : ℕ) → state ≡ code.RuleEnd heading so_far → ⊥)
      → ((spot : Spot) (from : Token) (label : ℕ) → state ≡ code.To spot from label → ⊥)
      → Moves text nodes draft state (word_mark text token) (Err (faults.Text token.start)) nodes draft
  unfolding stepped
  word_stops (code.Rules heading) _ no_rules _ _ _ _ _ _ _ _ _ _ _ last = absurd (no_rules heading refl)
  word_stops (code.Name heading so_far) _ _ no_name _ _ _ _ _ _ _ _ _ _ last = absurd (no_name heading so_far refl)
  word_stops (code.Left heading so_far) _ _ _ no_left _ _ _ _ _ _ _ _ _ last = absurd (no_left heading so_far refl)
  word_stops (code.Param heading so_far count) _ _ _ _ no_param _ _ _ _ _ _ _ _ last = absurd (no_param heading so_far count refl)
  word_stops (code.Colon heading so_far count name) _ _ _ _ _ _ _ _ _ _ _ _ _ last = refl
  word_stops (code.Kind heading so_far count name) _ _ _ _ _ no_kind _ _ _ _ _ _ _ last = absurd (no_kind heading so_far count name refl)
  word_stops (code.Comma heading so_far count) _ _ _ _ _ _ _ _ _ _ _ _ _ last = refl
  word_stops (code.Body heading so_far) _ _ _ _ _ _ no_body _ _ _ _ _ _ last = absurd (no_body heading so_far refl)
  word_stops (code.Item spot) _ _ _ _ _ _ _ no_item _ _ _ _ _ last = absurd (no_item spot refl)
  word_stops (code.Sign spot name) _ _ _ _ _ _ _ _ _ _ _ _ _ last = refl
  word_stops (code.Letter spot name word) _ _ _ _ _ _ _ _ _ _ _ _ _ last = refl
  word_stops (code.Behind spot name word) _ _ _ _ _ _ _ _ no_behind _ _ _ _ last = absurd (no_behind spot name word refl)
  word_stops (code.Assigned spot) _ _ _ _ _ _ _ _ _ no_assigned _ _ _ last = absurd (no_assigned spot refl)
  word_stops (code.Set spot) _ _ _ _ _ _ _ _ _ _ no_set _ _ last = absurd (no_set spot refl)
  word_stops (code.Equal spot embed) _ _ _ _ _ _ _ _ _ _ _ _ _ last = refl
  word_stops (code.Value spot embed) outside _ _ _ _ _ _ _ _ _ _ _ _ last = absurd outside
  word_stops (code.Pre heading so_far) outside _ _ _ _ _ _ _ _ _ _ _ _ last = absurd outside
  word_stops (code.RuleEnd heading so_far) _ _ _ _ _ _ _ _ _ _ _ no_ruleend _ last = absurd (no_ruleend heading so_far refl)
  word_stops (code.Label spot from) _ _ _ _ _ _ _ _ _ _ _ _ _ last = refl
  word_stops (code.Dash spot from label) _ _ _ _ _ _ _ _ _ _ _ _ _ last = refl
  word_stops (code.To spot from label) _ _ _ _ _ _ _ _ _ _ _ _ no_to last = absurd (no_to spot from label refl)

-- no sign can stand in any other state
module _ (text : List ℕ) (nodes : List (List ℕ)) (draft : Draft) (token : Token) where
  pub sign_stops : (state : CodeState) → IsOutside state
      → ((heading : Heading) (so_far : ℕ) → state ≡ code.Left heading so_far → ⊥)
      → ((heading : Heading) (so_far : ℕ) (count : ℕ) (name : Token) → state ≡ code.Colon heading so_far count name → ⊥)
      → ((heading : Heading) (so_far : ℕ) (count : ℕ) → state ≡ code.Comma heading so_far count → ⊥)
      → ((spot : Spot) (name : Token) → state ≡ code.Sign spot name → ⊥)
      → ((spot : Spot) (name : Token) (word : List Letter) → state ≡ code.Letter spot name word → ⊥)
      → ((spot : Spot) (embed : Token) → state ≡ code.Equal spot embed → ⊥)
      → ((spot : Spot) (from : Token) (label : ℕ) → state ≡ code.Dash spot from label → ⊥)
      → Moves text nodes draft state (sign_mark text token) (Err (faults.Text token.start)) nodes draft
  unfolding stepped
  sign_stops (code.Rules heading) _ _ _ _ _ _ _ _ last = refl
  sign_stops (code.Name heading so_far) _ _ _ _ _ _ _ _ last = refl
  sign_stops (code.Left heading so_far) _ no_left _ _ _ _ _ _ last = absurd (no_left heading so_far refl)
  sign_stops (code.Param heading so_far count) _ _ _ _ _ _ _ _ last = refl
  sign_stops (code.Colon heading so_far count name) _ _ no_colon _ _ _ _ _ last = absurd (no_colon heading so_far count name refl)
  sign_stops (code.Kind heading so_far count name) _ _ _ _ _ _ _ _ last = refl
  sign_stops (code.Comma heading so_far count) _ _ _ no_comma _ _ _ _ last = absurd (no_comma heading so_far count refl)
  sign_stops (code.Body heading so_far) _ _ _ _ _ _ _ _ last = refl
  sign_stops (code.Item spot) _ _ _ _ _ _ _ _ last = refl
  sign_stops (code.Sign spot name) _ _ _ _ no_sign _ _ _ last = absurd (no_sign spot name refl)
  sign_stops (code.Letter spot name word) _ _ _ _ _ no_letter _ _ last = absurd (no_letter spot name word refl)
  sign_stops (code.Behind spot name word) _ _ _ _ _ _ _ _ last = refl
  sign_stops (code.Assigned spot) _ _ _ _ _ _ _ _ last = refl
  sign_stops (code.Set spot) _ _ _ _ _ _ _ _ last = refl
  sign_stops (code.Equal spot embed) _ _ _ _ _ _ no_equal _ last = absurd (no_equal spot embed refl)
  sign_stops (code.Value spot embed) outside _ _ _ _ _ _ _ last = absurd outside
  sign_stops (code.Pre heading so_far) outside _ _ _ _ _ _ _ last = absurd outside
  sign_stops (code.RuleEnd heading so_far) _ _ _ _ _ _ _ _ last = refl
  sign_stops (code.Label spot from) _ _ _ _ _ _ _ _ last = refl
  sign_stops (code.Dash spot from label) _ _ _ _ _ _ _ no_dash last = absurd (no_dash spot from label refl)
  sign_stops (code.To spot from label) _ _ _ _ _ _ _ _ last = refl
