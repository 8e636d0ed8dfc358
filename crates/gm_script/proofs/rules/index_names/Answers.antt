use Rattle.std.proofs.Common.{◌≡◌, ℕ, ◌+◌, ◌++◌, cond, false, List, [], ◌∷◌, length, take, Option, Some, is_some, sym, ◌∙◌, ap, arith}
use Rattle.std.proofs.lemmas.List.{take_more, take_all, length-take}
use Rattle.std.proofs.lemmas.Map.Text.{hash_map_updates_str}
use Rattle.std.specs.HashMap as map
use Rattle.std.specs.Str.{bytes_eq}
use Rattle.gm_model.specs.declared.rule.RuleTable.{RuleTable}
use Rattle.gm_script.proofs.Indices.{at, stays, added, index_is}
use Rattle.gm_script.proofs.rules.index_names.Goals as goal
use Rattle.gm_script.proofs.rules.index_names.Goals.{then-not-contains_key+in_ok-insert, else-not-contains_key}

pub loop-index-preserved : goal.loop-index-preserved
loop-index-preserved c = λ name.
    let listed = c.args.rules.now in
    let before = take c.loop-index.index listed in
    let rule = c.index-rules-index.result in
    let found : List ℕ → Option ℕ = λ bytes. map.get_by (λ k. bytes_eq bytes k.now) c.loop-index.indices in
    let whole : before ++ rule ∷ [] ≡ take (c.loop-index.index + 1) listed =
    ap (λ (r : RuleTable). before ++ r ∷ []) c.index-rules-index.is ∙ sym (take_more listed c.loop-index.index rule c.loop-index-test.true) in
    let many : length before ≡ c.loop-index.index = omega (arith, length-take {A = RuleTable}, c.loop-index-test.true) in
    let there : c.contains_key.result ≡ is_some (found rule.name) = c.contains_key.ensures ∙ ap (λ (bytes : List ℕ). is_some (found bytes)) c.bytes-name.ensures.value in
    elim c.if-not-contains_key.branch [
      | then-not-contains_key+in_ok-insert w ↦
          let absent : is_some (found rule.name) ≡ false = sym there ∙ w.if-not-contains_key.true in
          let is : map.get_by (λ k. bytes_eq name k.now) w.insert.new.self ≡ cond (bytes_eq rule.name name) (Some (length before)) (found name) =
          hash_map_updates_str c.bytes-name.result.now c.loop-index.indices w.insert.new.self _ w.in_ok-insert.ensures.updates name
          ∙ ap (λ (bytes : List ℕ). cond (bytes_eq bytes name) (Some c.loop-index.index) (found name)) c.bytes-name.ensures.value
          ∙ ap (λ (n : ℕ). cond (bytes_eq rule.name name) (Some n) (found name)) (sym many) in
          ap (λ m. map.get_by (λ k. bytes_eq name k.now) m) w.indices-is
          ∙ added before rule found c.loop-index.invariant absent name (map.get_by (λ k. bytes_eq name k.now) w.insert.new.self) is
          ∙ ap (λ (rules : List RuleTable). at rules name) whole
      | else-not-contains_key w ↦
          ap (λ m. map.get_by (λ k. bytes_eq name k.now) m) w.indices-is
          ∙ stays before rule found c.loop-index.invariant (sym there ∙ w.if-not-contains_key.false) name
          ∙ ap (λ (rules : List RuleTable). at rules name) whole
    ]

pub returns : goal.returns
returns c = λ name.
    let all : take c.loop-index.index c.args.rules.now ≡ c.args.rules.now = take_all c.loop-index.index c.args.rules.now c.loop-index-test.false in
    c.loop-index.invariant name ∙ ap (λ (rules : List RuleTable). at rules name) all ∙ sym (index_is c.args.rules.now name)
