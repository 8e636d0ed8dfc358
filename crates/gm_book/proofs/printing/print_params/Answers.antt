use Rattle.std.proofs.Common.{◌≡◌, ℕ, ◌-◌, ◌<◌, ◌≤◌, List, [], ◌∷◌, ◌++◌, length, get_or, take, drop, codes, sym, ap, subst, ◌∙◌, append_assoc, arith}
use Rattle.std.specs.List.{flat_map}
use Rattle.std.specs.Prelude.{OnOk}
use Rattle.std.proofs.lemmas.List.{append-nil, take_all}
use Rattle.gm_model.specs.declared.rule.Param.{Param}
use Rattle.gm_book.specs.Canonical.{param_text, params_text}
use Rattle.gm_book.proofs.Lines.{flat_more}
use Rattle.gm_model.proofs.Exits.{never_ok}
use Rattle.gm_book.proofs.printing.print_params.Goals as goal

-- no parameter is written
none_written : (params : List Param) (text : List ℕ) → length params < 1 → text ≡ text ++ params_text params
none_written [] text none = sym (append-nil text)
none_written (param ∷ params) text none = absurd (omega (arith, none))

-- the first of the parameters and the others
in_two : (params : List Param) (first : Param) → 1 ≤ length params → first ≡ get_or params 0 first → params ≡ first ∷ take (length params - 1) (drop 1 params)
in_two [] first some is = absurd (omega (arith, some))
in_two (param ∷ params) first some is =
    let rest : take (length (param ∷ params) - 1) params ≡ params = take_all (length (param ∷ params) - 1) params (omega arith) in
    ap (λ p. p ∷ params) (sym is) ∙ ap (λ others. first ∷ others) (sym rest)

-- what stands there when all are written
all_written : (first : Param) (others : List Param) (text opened begun written : List ℕ) (k : ℕ) → length others ≤ k
    → opened ≡ text ++ codes "(" → begun ≡ opened ++ param_text first → written ≡ begun ++ flat_map (λ (param : Param). codes ", " ++ param_text param) (take k others)
    → written ++ codes ")" ≡ text ++ params_text (first ∷ others)
all_written first others text opened begun written k past opens first_is rest =
    let all = ap (λ ps. begun ++ flat_map (λ (param : Param). codes ", " ++ param_text param) ps) (take_all k others past) in
    let begun_is = first_is ∙ (ap (λ t. t ++ param_text first) opens ∙ append_assoc text (codes "(") (param_text first)) in
    let whole = rest ∙ (all ∙ (ap (λ t. t ++ flat_map (λ (param : Param). codes ", " ++ param_text param) others) begun_is ∙ append_assoc text (codes "(" ++ param_text first) (flat_map (λ (param : Param). codes ", " ++ param_text param) others))) in
    ap (λ t. t ++ codes ")") whole ∙ append_assoc text ((codes "(" ++ param_text first) ++ flat_map (λ (param : Param). codes ", " ++ param_text param) others) (codes ")")

pub returns-in_err-put : goal.returns-in_err-put
returns-in_err-put c = never_ok _ c.from_residual.result c.from_residual.ensures.0

pub returns-in_err-print_param : goal.returns-in_err-print_param
returns-in_err-print_param c = never_ok _ c.from_residual-in_err-print_param.result c.from_residual-in_err-print_param.ensures.0

pub returns-in_err-put-2 : goal.returns-in_err-put-2
returns-in_err-put-2 c = never_ok _ c.from_residual-in_err-put-2.result c.from_residual-in_err-put-2.ensures.0

pub returns-in_err-print_param-2 : goal.returns-in_err-print_param-2
returns-in_err-print_param-2 c = never_ok _ c.from_residual-in_err-print_param-2.result c.from_residual-in_err-print_param-2.ensures.0

pub returns-in_default : goal.returns-in_default
returns-in_default c = none_written c.args.params.now c.args.text.now c.in_default.len_below

pub loop-param-init : goal.loop-param-init
loop-param-init c = sym (append-nil c.print_param.new.text)

pub loop-param-smaller : goal.loop-param-smaller
loop-param-smaller c = omega (arith, c.loop-param-test.true)

pub loop-param-preserved : goal.loop-param-preserved
loop-param-preserved c =
    let others = take (length c.args.params.now - 1) (drop 1 c.args.params.now) in
    let item = c.param-item.result in
    let text = c.loop-param.text in
    let step = c.in_ok-print_param-2.ensures ∙ (ap (λ t. t ++ param_text item) c.in_ok-put-2.ensures.ok ∙ (append_assoc text (codes ", ") (param_text item) ∙ ap (λ p. text ++ (codes ", " ++ param_text p)) c.param-item.is)) in
    flat_more (λ (param : Param). codes ", " ++ param_text param) others c.loop-param.param-index item c.print_param.new.text text c.print_param-in-loop-param.new.text c.loop-param-test.true c.loop-param.invariant step

pub returns : goal.returns
returns c =
    let params = c.args.params.now in
    let first = c.first-item.result in
    let others = take (length params - 1) (drop 1 params) in
    let whole = all_written first others c.args.text.now c.put.new.self c.print_param.new.text c.loop-param.text c.loop-param.param-index c.loop-param-test.false c.in_ok-put.ensures.ok c.in_ok-print_param.ensures c.loop-param.invariant in
    let same = ap (λ ps. c.args.text.now ++ params_text ps) (sym (in_two params first c.in-len1-up.len_at_least c.first-item.is)) in
    subst (λ t. OnOk c.put-2.result (c.put-2.new.self ≡ t)) (whole ∙ same) c.put-2.ensures.ok
