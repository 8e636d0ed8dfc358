-- A machine whose states another one carries within its own: a run of the one is a run of the other.
use Rattle.std.proofs.Common.{◌≡◌, ℕ, Bool, cond, List, [], ◌∷◌, Option, Some, None, Result, Ok, Err, refl, sym, ap, subst, ◌∙◌}
use Rattle.std.specs.Option.{option_map}
use Rattle.gm_model.specs.Symbols.{Symbol, Mark}
use Rattle.gm_model.specs.Reading.{Part}
use Rattle.gm_text.specs.inner.Machine.{Stop, Ends, Passes, Leads, run}
use Rattle.gm_text.proofs.Machine.{Refused, Limited, Moved, stepped}

abbrev pub carried : {State Other What : Type 0} → (State → Other) → Result State (Stop State What) → Result Other (Stop Other What)
carried carry (Ok state) = Ok (carry state)
carried carry (Err (Ends state mark)) = Err (Ends (carry state) mark)
carried carry (Err (Passes what place)) = Err (Passes what place)

module _ {Role State Other What : Type 0} (limit_of : Role → Symbol → Option What) (stands_before : Role → Bool) (role : State → Symbol → ℕ → Role) (move : State → Symbol → Option State) (outer_role : Other → Symbol → ℕ → Role) (outer_move : Other → Symbol → Option Other) (carry : State → Other)
    (same_role : (state : State) (symbol : Symbol) (place : ℕ) → outer_role (carry state) symbol place ≡ role state symbol place) (same_move : (state : State) (symbol : Symbol) → outer_move (carry state) symbol ≡ option_map carry (move state symbol)) where
  pub run_carried : (state : State) (last : ℕ) (marks : List Mark) → run limit_of stands_before outer_role outer_move (carry state) last marks ≡ carried carry (run limit_of stands_before role move state last marks)
  run_carried state last [] = refl
  run_carried state last (mark ∷ marks) =
      let at = same_role state mark.symbol mark.place in
      let goes = same_move state mark.symbol in
      elim (stepped limit_of stands_before role move state last mark) [
        | Refused moves is ↦ rw (is, goes, moves) refl
        | Limited next what moves limit is ↦ rw (is, goes, moves, at, limit) (ap (λ (r : Role). Err (Passes what (cond (stands_before r) last mark.place))) at)
        | Moved next moves limit is ↦ rw (is, goes, moves, at, limit) (run_carried next mark.place marks)
      ]

  pub leads_carried : (state last : State) (parts : List (Part Role)) → Leads limit_of stands_before role move state parts last → Leads limit_of stands_before outer_role outer_move (carry state) parts (carry last)
  leads_carried state last [] led = ap carry led
  leads_carried state last (part ∷ parts) (place, next, is, moves, led) =
      (place, carry next, is ∙ sym (same_role state part.symbol place), same_move state part.symbol ∙ ap (option_map carry) moves, leads_carried next last parts led)

  module _ (apart : (one other : State) → carry one ≡ carry other → one ≡ other) where
    pub leads_within : (state last : State) (parts : List (Part Role)) → Leads limit_of stands_before outer_role outer_move (carry state) parts (carry last) → Leads limit_of stands_before role move state parts last
    leads_within state last [] led = apart state last led
    leads_within state last (part ∷ parts) (place, next, is, moves, led) = go (move state part.symbol) refl (λ to behind. leads_within to last parts behind)
      where
        go : (to : Option State) → move state part.symbol ≡ to → ((middle : State) → Leads limit_of stands_before outer_role outer_move (carry middle) parts (carry last) → Leads limit_of stands_before role move middle parts last)
            → Leads limit_of stands_before role move state (part ∷ parts) last
        go None e onward = let none : None ≡ Some next = sym (same_move state part.symbol ∙ ap (option_map carry) e) ∙ moves in absurd cc
        go (Some to) e onward =
            let some : Some (carry to) ≡ Some next = sym (same_move state part.symbol ∙ ap (option_map carry) e) ∙ moves in
            let at : carry to ≡ next = cc some in
            (place, to, is ∙ same_role state part.symbol place, e, onward to (subst (λ (s : Other). Leads limit_of stands_before outer_role outer_move s parts (carry last)) (sym at) led))
