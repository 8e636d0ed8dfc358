-- The texts of scripts are read by states.
use Rattle.std.proofs.Common.{◌≡◌, ℕ, ◌+◌, Bool, true, false, cond, List, [], ◌∷◌, Option, Some, None, refl, sym, ap, subst, ◌∙◌}
use Rattle.std.specs.Option.{option_map}
use Rattle.gm_model.specs.Symbols.{Symbol, Word, Numeral, Sign, Gone, Stray, End}
use Rattle.gm_model.specs.Reading.{Part, the_end}
use Rattle.gm_script.specs.ScriptText.{StatForm, Role, Fixed, StatAt, RuleAt, passed_of, spelling, IsForm, IsSentence}
use Rattle.gm_text.specs.inner.Machine.{IsGrammar}
use Rattle.gm_script.specs.inner.Reading.{Been, State, At, Ended, no_been, first_state, can_end, been_behind, move, next_spot, sight_of, role_in, role_at, never}
use Rattle.gm_script.specs.declared.sight.Head.TheVariants as heads
use Rattle.gm_script.specs.declared.sight.Sight.{Sight}
use Rattle.gm_script.specs.declared.sight.Sight.TheVariants as sights
use Rattle.gm_script.specs.declared.spot.Spot.{Spot}
use Rattle.gm_script.specs.declared.spot.Spot.TheVariants as spots
use Rattle.gm_script.proofs.Drafts.{Draft, new_stat, so_far, signed, IsDraft}
use Rattle.gm_script.proofs.Steps.{part_in, add, add_next, whole_stats, whole}
use Rattle.gm_script.proofs.Leads.{Led, sentence_leads, goes_on}

-- ---- one move

pub data Moved (spot : Spot) (been : Been) (symbol : Symbol) (next : State) : Type 0 where
  ToEnd : symbol ≡ End → can_end been.within spot ≡ true → next ≡ Ended → Moved spot been symbol next
  OnTo : (to : Spot) → next_spot been.within spot (sight_of symbol) ≡ Some to → next ≡ At to (been_behind spot (sight_of symbol) symbol been) → Moved spot been symbol next

on_to : (spot : Spot) (been : Been) (symbol : Symbol) (next : State) (to : Option Spot) → next_spot been.within spot (sight_of symbol) ≡ to
    → option_map (λ (to : Spot). At to (been_behind spot (sight_of symbol) symbol been)) to ≡ Some next → Moved spot been symbol next
on_to spot been symbol next None e is = absurd cc
on_to spot been symbol next (Some to) e is = OnTo to e cc

pub moved : (spot : Spot) (been : Been) (symbol : Symbol) (next : State) → move (At spot been) symbol ≡ Some next → Moved spot been symbol next
moved spot been End next is = at_end (can_end been.within spot) refl is
  where
    at_end : (can : Bool) → can_end been.within spot ≡ can → cond can (Some Ended) None ≡ Some next → Moved spot been End next
    at_end true e is = ToEnd refl e cc
    at_end false e is = absurd cc
moved spot been (Word bytes) next is = on_to spot been (Word bytes) next (next_spot been.within spot (sight_of (Word bytes))) refl is
moved spot been (Numeral m) next is = on_to spot been (Numeral m) next (next_spot been.within spot (sight_of (Numeral m))) refl is
moved spot been (Sign bytes) next is = on_to spot been (Sign bytes) next (next_spot been.within spot (sight_of (Sign bytes))) refl is
moved spot been Gone next is = on_to spot been Gone next (next_spot been.within spot (sight_of Gone)) refl is
moved spot been Stray next is = on_to spot been Stray next (next_spot been.within spot (sight_of Stray)) refl is

-- ---- what leads to the end is a sentence

abbrev pub no_stats : Draft
no_stats = record { stats = []; stat = record (new_stat heads.Apply 0) { rule = record { name = []; place = 0 } }; x = signed false 0; y = signed false 0; z = signed false 0 }

same_part : (part : Part Role) (symbol : Symbol) (role : Role) → part.symbol ≡ symbol → part.role ≡ role → part ≡ record { symbol = symbol; role = role }
same_part part symbol role one two = ap (λ (s : Symbol). let p : Part Role = record { symbol = s; role = part.role } in p) one ∙ ap (λ (r : Role). let p : Part Role = record { symbol = symbol; role = r } in p) two

module _ (n : ℕ) where
  -- the end is fixed
  end_role : (spot : Spot) (been : Been) (place : ℕ) (within : Bool) → can_end within spot ≡ true → role_in n spot been sights.Other place ≡ Fixed
  end_role spot been place true can = absurd cc
  end_role spots.Start been place false can = refl
  end_role spots.Bare been place false can = refl
  end_role spots.Rule been place false can = refl
  end_role spots.Named been place false can = refl
  end_role spots.Value been place false can = refl
  end_role _ been place false can = absurd cc

  -- nothing stands behind the end
  ended_led : (parts : List (Part Role)) → Led n Ended parts → parts ≡ []
  ended_led [] led = refl
  ended_led (part ∷ parts) (place, next, is, moves, led) = absurd cc

  led_sentence : (parts : List (Part Role)) (spot : Spot) (been : Been) (draft : Draft) → IsDraft spot been draft → Led n (At spot been) parts → (forms : List StatForm) × IsForm forms × (so_far n spot been.begun draft parts ≡ spelling n forms)
  led_sentence [] spot been draft good led = absurd cc
  led_sentence (part ∷ parts) spot been draft good (place, next, is, moves, led) =
      elim (moved spot been part.symbol next moves) [
        | ToEnd symbol can e ↦
            let role : part.role ≡ Fixed = is ∙ ap (λ (s : Symbol). role_in n spot been (sight_of s) place) symbol ∙ end_role spot been place been.within can in
            let part_is : part ≡ (the_end Fixed) = same_part part End Fixed symbol role in
            let none : parts ≡ [] = ended_led parts (subst (λ s. Led n s parts) e led) in
            let all = whole n spot been draft good can in
            (whole_stats spot draft, all.form, ap (λ (p : Part Role). so_far n spot been.begun draft (p ∷ parts)) part_is ∙ ap (λ (ps : List (Part Role)). so_far n spot been.begun draft (the_end Fixed ∷ ps)) none ∙ all.written)
        | OnTo to e f ↦
            let behind = been_behind spot (sight_of part.symbol) part.symbol been in
            let more = add_next n spot been place part.symbol draft to good e in
            let part_is : part ≡ part_in n spot been (sight_of part.symbol) place part.symbol = same_part part part.symbol (role_in n spot been (sight_of part.symbol) place) refl is in
            let rest = led_sentence parts to behind (add n spot (sight_of part.symbol) part.symbol place draft) more.good (subst (λ s. Led n s parts) f led) in
            (rest.0, rest.1, ap (λ (p : Part Role). so_far n spot been.begun draft (p ∷ parts)) part_is ∙ sym (more.written parts) ∙ rest.2)
      ]

  pub nothing_written : IsDraft spots.Start no_been no_stats
  nothing_written = record { form = tt; stat = tt; count = refl; nested = refl; labels = refl }

  pub leads_sentence : (parts : List (Part Role)) → Led n first_state parts → IsSentence n parts
  leads_sentence parts led = led_sentence parts spots.Start no_been no_stats nothing_written led

  -- ---- places make no difference to what is passed

  stat_limit : (k place other : ℕ) (symbol : Symbol) → passed_of (StatAt k place) symbol ≡ passed_of (StatAt k other) symbol
  stat_limit k place other (Word bytes) = refl
  stat_limit k place other _ = refl

  rule_limit : (place other : ℕ) (symbol : Symbol) → passed_of (RuleAt place) symbol ≡ passed_of (RuleAt other) symbol
  rule_limit place other (Word bytes) = refl
  rule_limit place other _ = refl

  role_limit : (spot : Spot) (been : Been) (sight : Sight) (symbol : Symbol) (place other : ℕ) → passed_of (role_in n spot been sight place) symbol ≡ passed_of (role_in n spot been sight other) symbol
  role_limit spots.Apply been sight symbol place other = rule_limit place other symbol
  role_limit spots.Over been sight symbol place other = rule_limit place other symbol
  role_limit spots.Rule been (sights.Number m) symbol place other = refl
  role_limit spots.Orbit been (sights.Number m) symbol place other = refl
  role_limit _ been (sights.Begins head) symbol place other = stat_limit (been.begun + 1) place other symbol
  role_limit _ been _ symbol place other = refl

  limit_same : (state : State) (symbol : Symbol) (place other : ℕ) → passed_of (role_at n state symbol place) symbol ≡ passed_of (role_at n state symbol other) symbol
  limit_same Ended symbol place other = refl
  limit_same (At spot been) symbol place other = role_limit spot been (sight_of symbol) symbol place other

  pub grammar : IsGrammar passed_of never (role_at n) move (IsSentence n) first_state Ended
  grammar = record {
    leads = sentence_leads n;
    sentence = leads_sentence;
    goes_on = goes_on n;
    limit = limit_same;
    before = λ state symbol place other. refl;
  }
