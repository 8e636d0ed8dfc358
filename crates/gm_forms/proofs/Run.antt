-- What reading mark by mark says of the machine's run: its last state and what is held, or why it stops.
use Rattle.std.proofs.Common.{◌≡◌, ℕ, List, [], ◌∷◌, Option, Some, None, Result, Ok, Err, refl, ap, subst}
use Rattle.gm_model.specs.declared.limit.LimitKind.{LimitKind}
use Rattle.gm_model.specs.Symbols.{Mark}
use Rattle.gm_forms.specs.BookText.{RuleForm, limit_of, stands_before}
use Rattle.gm_text.specs.inner.Machine as machine
use Rattle.gm_forms.specs.declared.form_fault.FormFault.{FormFault}
use Rattle.gm_forms.specs.declared.form_fault.FormFault.TheVariants as faults
use Rattle.gm_forms.specs.declared.state.Heading.{Heading}
use Rattle.gm_forms.specs.inner.Reading.{State, AtRules, AtEnd, role_at, move, step, run, Nothing, Held, hold, held_behind}
use Rattle.gm_forms.specs.inner.Standing.{Stand, rules_stand, fault_of, settled, stepped, read_on, ◌>>=◌, AreRulesRead, IsRulesFault, Fails}

abbrev taken : State → Mark → ℕ → Option State → Option LimitKind → Result State (machine.Stop State LimitKind)
taken state mark place next limit = machine.taken limit_of stands_before role_at move state mark place next limit

moved : (state : State) (mark : Mark) (place : ℕ) (found : Option State) (limit : Option LimitKind) (next : State) → taken state mark place found limit ≡ Ok next → found ≡ Some next
moved state mark place None limit next is = absurd cc
moved state mark place (Some found) (Some what) next is = absurd cc
moved state mark place (Some found) None next is = cc

abbrev behind : Stand → Mark → State → Stand
behind stand mark next = record { state = next; last = mark.place; held = hold stand.state mark.symbol mark.place stand.held }

after_step : (stand : Stand) (mark : Mark) (marks : List Mark) (next : State) (answer : Result State (machine.Stop State LimitKind)) → step stand.state stand.last mark ≡ Ok next → run next mark.place marks ≡ answer
    → run stand.state stand.last (mark ∷ marks) ≡ answer
after_step stand mark marks next answer is on = rw is on

pub record Through (stand : Stand) (marks : List Mark) (last : Stand) : Type 0 where
  pub ends : run stand.state stand.last marks ≡ Ok last.state
  pub held : held_behind stand.state marks stand.held ≡ last.held

pub read_through : (stand : Stand) (marks : List Mark) (last : Stand) → read_on stand marks ≡ Ok last → Through stand marks last
unfolding stepped
read_through stand [] last read =
    let same : stand ≡ last = cc in
    record { ends = ap (λ (s : Stand). Ok s.state) same; held = ap (λ (s : Stand). s.held) same }
read_through stand (mark ∷ marks) last read = go (step stand.state stand.last mark) refl (λ next on. read_through (behind stand mark next) marks last on)
  where
    go : (stop : Result State (machine.Stop State LimitKind)) → step stand.state stand.last mark ≡ stop
        → ((next : State) → read_on (behind stand mark next) marks ≡ Ok last → Through (behind stand mark next) marks last) → Through stand (mark ∷ marks) last
    go (Err stop) is onward =
        let none : Err (fault_of stop) ≡ Ok last = subst (λ (r : Result State (machine.Stop State LimitKind)). (settled stand mark r >>= λ next. read_on next marks) ≡ Ok last) is read in
        absurd cc
    go (Ok next) is onward =
        let on = subst (λ (r : Result State (machine.Stop State LimitKind)). (settled stand mark r >>= λ next. read_on next marks) ≡ Ok last) is read in
        let through = onward next on in
        record { ends = rw is through.ends; held = rw (moved stand.state mark _ _ _ next is) through.held }

pub record Stops (stand : Stand) (marks : List Mark) (fault : FormFault) : Type 0 where
  pub stop : machine.Stop State LimitKind
  pub stops : run stand.state stand.last marks ≡ Err stop
  pub says : fault_of stop ≡ fault

pub read_stops : (stand : Stand) (marks : List Mark) (fault : FormFault) → read_on stand marks ≡ Err fault → Stops stand marks fault
unfolding stepped
read_stops stand [] fault read = absurd cc
read_stops stand (mark ∷ marks) fault read = go (step stand.state stand.last mark) refl (λ next on. read_stops (behind stand mark next) marks fault on)
  where
    go : (stop : Result State (machine.Stop State LimitKind)) → step stand.state stand.last mark ≡ stop
        → ((next : State) → read_on (behind stand mark next) marks ≡ Err fault → Stops (behind stand mark next) marks fault) → Stops stand (mark ∷ marks) fault
    go (Err stop) is onward =
        let same : Err (fault_of stop) ≡ Err fault = subst (λ (r : Result State (machine.Stop State LimitKind)). (settled stand mark r >>= λ next. read_on next marks) ≡ Err fault) is read in
        record { stop = stop; stops = rw is refl; says = cc }
    go (Ok next) is onward =
        let on = subst (λ (r : Result State (machine.Stop State LimitKind)). (settled stand mark r >>= λ next. read_on next marks) ≡ Err fault) is read in
        let later = onward next on in
        record { stop = later.stop; stops = after_step stand mark marks next (Err later.stop) is later.stops; says = later.says }

-- ---- the rules

pub are_rules_read : (heading : Heading) (marks : List Mark) (last : ℕ) (rules : List RuleForm) (current : Option RuleForm)
    → read_on (rules_stand heading) marks ≡ Ok (record { state = AtEnd; last = last; held = record { rules = rules; current = current; part = Nothing } }) → AreRulesRead heading marks rules
are_rules_read heading marks last rules current read =
    let through = read_through (rules_stand heading) marks _ read in
    record { ends = through.ends; held = ap (λ (held : Held). held.rules) through.held }

says_fault : (heading : Heading) (marks : List Mark) (fault : FormFault) → read_on (rules_stand heading) marks ≡ Err fault → IsRulesFault heading marks fault
says_fault heading marks fault read = go stops.stop stops.stops stops.says
  where
    stops : Stops (rules_stand heading) marks fault
    stops = read_stops (rules_stand heading) marks fault read

    go : (stop : machine.Stop State LimitKind) → run (AtRules heading) 0 marks ≡ Err stop → fault_of stop ≡ fault → IsRulesFault heading marks fault
    go (machine.Ends state mark) ends says = subst (IsRulesFault heading marks) says (state, mark, ends, refl)
    go (machine.Passes what place) ends says = subst (IsRulesFault heading marks) says ends

pub is_rules_fault : (heading : Heading) (marks : List Mark) (fault : FormFault) → Fails fault (read_on (rules_stand heading) marks) → IsRulesFault heading marks fault
is_rules_fault heading marks (faults.Text place) read = says_fault heading marks (faults.Text place) read
is_rules_fault heading marks (faults.Limit what place) read = says_fault heading marks (faults.Limit what place) read
is_rules_fault heading marks faults.OutOfMemory read = tt
