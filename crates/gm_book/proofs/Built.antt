-- What the pass over the names of the rules says of the whole, and of each rule.
use Rattle.std.proofs.Common.{ℕ, List, [], ◌∷◌, ◌++◌, length, Some, None, inl, inr, ◌≡◌, ap, subst, arith}
use Rattle.std.specs.Prelude.{IsTrue}
use Rattle.std.specs.List.{Contains}
use Rattle.std.proofs.lemmas.List.{length-append}
use Rattle.gm_model.specs.declared.schema.Embed.{Embed}
use Rattle.gm_model.specs.Names.{Mention, is_among}
use Rattle.gm_forms.proofs.Contained.{contains_cases, contains_none}
use Rattle.gm_forms.specs.BookText.{IsFaultInRules, IsNotAfter, TwiceAt, UnknownAt, WrongKindAt}
use Rattle.gm_forms.specs.BookText as text
use Rattle.gm_book.specs.declared.names.NameFault.{NameFault}
use Rattle.gm_book.specs.declared.names.NameFault.TheVariants.{Twice, Unknown, WrongKind}
use Rattle.gm_book.specs.inner.Building.{HasNoFaultInRules, IsFaultOfNames, book_fault_of}
use Rattle.gm_book.specs.inner.FirstNameFault.{fault_of, IsLeastFault}

module _ (n : ℕ) (embeds : List Embed) (rules : List text.RuleForm) where
  pub no_fault : IsLeastFault n embeds rules None → HasNoFaultInRules n embeds rules
  no_fault none (TwiceAt place) found = none (Twice place) found
  no_fault none (UnknownAt place) found = none (Unknown place) found
  no_fault none (WrongKindAt place) found = none (WrongKind place) found

  first_of_all : (fault : text.NameFault) → ((other : NameFault) → IsFaultInRules n embeds rules (fault_of other) → IsNotAfter fault (fault_of other)) → (other : text.NameFault) → IsFaultInRules n embeds rules other → IsNotAfter fault other
  first_of_all fault first (TwiceAt place) found = first (Twice place) found
  first_of_all fault first (UnknownAt place) found = first (Unknown place) found
  first_of_all fault first (WrongKindAt place) found = first (WrongKind place) found

  pub first_fault : (fault : NameFault) → IsLeastFault n embeds rules (Some fault) → IsFaultOfNames n embeds rules (book_fault_of fault)
  first_fault (Twice place) least = record { found = least.0; first = first_of_all (TwiceAt place) least.1 }
  first_fault (Unknown place) least = record { found = least.0; first = first_of_all (UnknownAt place) least.1 }
  first_fault (WrongKind place) least = record { found = least.0; first = first_of_all (WrongKindAt place) least.1 }

-- ---- one rule

-- no mention is again in a list of one
none_again_alone : (mention : Mention) (place : ℕ) → text.IsAgain (mention ∷ []) place → ⊥
none_again_alone mention place again = go again.front again.mention again.behind again.split again.again
  where
    go : (front : List Mention) (other : Mention) (behind : List Mention) → mention ∷ [] ≡ front ++ other ∷ behind → IsTrue (is_among (text.names_of front) other.name) → ⊥
    go [] other behind split again = cc
    go (first ∷ front) other behind split again = omega (arith, ap length split, length-append front (other ∷ behind))

module _ (n : ℕ) (embeds : List Embed) (rules : List text.RuleForm) (rule : text.RuleForm) (there : Contains rules rule) where
  -- a fault in the rule alone is one of all
  alone_is : (other : text.RuleForm) → Contains (rule ∷ []) other → Contains rules other
  alone_is other h = elim (contains_cases rule [] other h) [
    | inl same ↦ subst (Contains rules) same there
    | inr behind ↦ absurd (contains_none other behind)
  ]

  fault_of_all : (fault : text.NameFault) → IsFaultInRules n embeds (rule ∷ []) fault → IsFaultInRules n embeds rules fault
  fault_of_all fault (text.RuleTwice place again) = absurd (none_again_alone rule.name place again)
  fault_of_all fault (text.ParamTwice other place among again) = text.ParamTwice other place (alone_is other among) again
  fault_of_all fault (text.NodeTwice other side place among again) = text.NodeTwice other side place (alone_is other among) again
  fault_of_all fault (text.NodeUnknown other side place among found) = text.NodeUnknown other side place (alone_is other among) found
  fault_of_all fault (text.SetTwice other sets place among have again) = text.SetTwice other sets place (alone_is other among) have again
  fault_of_all fault (text.SetUnknown other set among have unknown) = text.SetUnknown other set (alone_is other among) have unknown
  fault_of_all fault (text.ValueFault other tokens form found among value is have) = text.ValueFault other tokens form found (alone_is other among) value is have
  fault_of_all fault (text.SetKind other set kind among have needed otherwise) = text.SetKind other set kind (alone_is other among) have needed otherwise
  fault_of_all fault (text.PreKind other tokens among is otherwise) = text.PreKind other tokens (alone_is other among) is otherwise

  pub sound_alone : HasNoFaultInRules n embeds rules → HasNoFaultInRules n embeds (rule ∷ [])
  sound_alone sound fault found = sound fault (fault_of_all fault found)
