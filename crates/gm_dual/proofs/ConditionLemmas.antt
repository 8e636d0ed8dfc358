-- The conditions on a rule hold of its dual: structure and arcs, squares, and where values come from.
use Rattle.std.proofs.Common.{◌≡◌, ℕ, ◌+◌, ◌<◌, ◌≤◌, IsTrue, List, [], ◌∷◌, map, length, Some, slice_get, sym, ap, subst, ◌∙◌, inl, inr, arith}
use Rattle.std.specs.List.{Contains}
use Rattle.std.specs.Option.{option_map}
use Rattle.std.proofs.lemmas.List.{length-map}
use Rattle.std.proofs.lemmas.Option.{slice_get-map}
use Rattle.gm_arena.proofs.InsideLemmas.{some_from_map}
use Rattle.gm_model.specs.declared.rule.Link.{Link}
use Rattle.gm_model.specs.declared.rule.Side.{Side}
use Rattle.gm_model.specs.declared.rule.Side.TheVariants.{Left, Right}
use Rattle.gm_model.specs.declared.schema.Schema.{Schema}
use Rattle.gm_model.specs.declared.word.Letter.{Letter}
use Rattle.gm_model.specs.declared.word.Letter.TheVariants.{At, Gone}
use Rattle.gm_model.specs.Components.{HasLetterIn, HasSource, HasSources, IsAssigned, IsKeeper, IsTogether, WereTogether}
use Rattle.gm_model.specs.Maps.{IsSchema, type_of}
use Rattle.gm_model.specs.Orbits.{IsPathIn, Labels}
use Rattle.gm_model.specs.Rules.{Assignment, IsLinked, Rule, RuleNode, has_word, is_preserved, letters, link_from}
use Rattle.gm_model.specs.Structure.{HasArcs, HasIncidence, HasLabel, IsJoined, IsPlainWord, IsStructured, Leads}
use Rattle.gm_dual.specs.Duals.{dual_assignment, dual_embed, dual_label, dual_letter, dual_link, dual_node, dual_rule, dual_schema, dual_tree, dual_word}
use Rattle.gm_dual.proofs.AcceptLemmas.{any_path, leads_dual}
use Rattle.gm_dual.proofs.LabelLemmas.{dual_most, dual_twice}
use Rattle.gm_dual.proofs.RuleLemmas.{added_dual, arcs_dual, contains_from_map, contains_map, has_word_dual, letters_dual, preserved_dual, removed_dual, width_dual}
use Rattle.gm_dual.proofs.SoundLemmas.{embed_from_dual, has_embed_dual}

-- ---- structure and arcs

module _ (n : ℕ) (rule : Rule) where
  to : (side : Side) (x : ℕ) → IsTrue (has_word rule side x) → IsTrue (has_word (dual_rule n rule) side x)
  to side x h = has_word_dual n rule side x ∙ h

  from : (side : Side) (x : ℕ) → IsTrue (has_word (dual_rule n rule) side x) → IsTrue (has_word rule side x)
  from side x h = sym (has_word_dual n rule side x) ∙ h

  plain_dual : (word : List Letter) → IsPlainWord word → IsPlainWord (dual_word n word)
  plain_dual word plain = record {
    labels = λ m is. (let old = some_from_map (dual_letter n) (slice_get word m) Gone (sym (slice_get-map (dual_letter n) word m) ∙ is) in gone m old.0 old.1 old.2);
    distinct = λ m m' i is also. plain.distinct m m' (dual_label n i) (back m i is) (back m' i also);
  }
    where
      gone : (m : ℕ) (letter : Letter) → slice_get word m ≡ Some letter → Gone ≡ dual_letter n letter → ⊥
      gone m (At j) is e = cc
      gone m Gone is e = plain.labels m is

      label : (i : ℕ) (letter : Letter) → At i ≡ dual_letter n letter → letter ≡ At (dual_label n i)
      label i (At j) e = ap At (sym (dual_twice n j) ∙ ap (dual_label n) (sym (same i (dual_label n j) e)))
        where
          same : (a b : ℕ) → At a ≡ At b → a ≡ b
          same a b e = cc
      label i Gone e = absurd (cc)

      back : (m i : ℕ) → slice_get (dual_word n word) m ≡ Some (At i) → slice_get word m ≡ Some (At (dual_label n i))
      back m i is = let old = some_from_map (dual_letter n) (slice_get word m) (At i) (sym (slice_get-map (dual_letter n) word m) ∙ is) in old.1 ∙ ap Some (label i old.0 old.2)

  structured_dual : IsStructured rule → IsStructured (dual_rule n rule)
  structured_dual s = record {
    hook = ((λ x h. s.hook.0 x (from Left x h)), (λ none. s.hook.1 (λ x. sym (has_word_dual n rule Left x) ∙ none x)));
    plain = λ t low h is. subst IsPlainWord (sym (letters_dual n rule Left h)) (plain_dual (letters rule Left h) (s.plain t low h is));
    widths = λ x low side h. ap length (letters_dual n rule side x) ∙ (length-map (letters rule side x) (dual_letter n) ∙ (s.widths x (omega (arith, low, length-map rule.nodes (dual_node n))) side (from side x h) ∙ sym (width_dual n rule)));
    connected = λ x low h.
        let old = s.connected x (omega (arith, low, length-map rule.nodes (dual_node n))) (from Left x h) in
        (old.0, old.1, (map (dual_label n) old.2.0, any_path (map (dual_label n) old.2.0), leads_dual n rule.left_links old.2.0 old.0 x old.2.2));
  }

  has_label_to : (side : Side) (x i : ℕ) → HasLabel rule side x (dual_label n i) → HasLabel (dual_rule n rule) side x i
  has_label_to side x i h = subst (λ k. 0 < k) (sym (arcs_dual n rule side x i)) h

  has_label_from : (side : Side) (x i : ℕ) → HasLabel (dual_rule n rule) side x i → HasLabel rule side x (dual_label n i)
  has_label_from side x i h = subst (λ k. 0 < k) (arcs_dual n rule side x i) h

  up : (i : ℕ) → i < n + 1 → dual_label n i < n + 1
  up i h = let k = dual_most n i (omega (arith, h)) in omega (arith, k)

  arcs_of_dual : (x : ℕ) → HasArcs n rule x → HasArcs n (dual_rule n rule) x
  arcs_of_dual x a = record {
    left_once = λ i h. subst (λ k. k ≤ 1) (sym (arcs_dual n rule Left x i)) (a.left_once (dual_label n i) (up i h));
    right_once = λ i h. subst (λ k. k ≤ 1) (sym (arcs_dual n rule Right x i)) (a.right_once (dual_label n i) (up i h));
    one_sided = λ i h. (let old = a.one_sided (dual_label n i) (up i h) in ((λ r. has_label_to Left x i (old.0 (sym (removed_dual n rule x) ∙ r))), (λ r. has_label_to Right x i (old.1 (sym (added_dual n rule x) ∙ r)))));
    both = λ i h p. (let old = a.both (dual_label n i) (up i h) (sym (preserved_dual n rule x) ∙ p) in ((λ l. has_label_to Right x i (old.0 (has_label_from Left x i l))), (λ r. has_label_to Left x i (old.1 (has_label_from Right x i r)))));
  }

  pub incidence_dual : HasIncidence n rule → HasIncidence n (dual_rule n rule)
  incidence_dual h = record {
    structured = structured_dual h.structured;
    arcs = λ x low. arcs_of_dual x (h.arcs x (omega (arith, low, length-map rule.nodes (dual_node n))));
  }

-- ---- components

module _ (n : ℕ) (rule : Rule) (o o' : Labels) (same : (i : ℕ) → o' i ≡ o (dual_label n i)) where
  in_to : (path : List ℕ) → IsPathIn o path → IsPathIn o' (map (dual_label n) path)
  in_to [] h = tt
  in_to (i ∷ path) h = (same (dual_label n i) ∙ (ap o (dual_twice n i) ∙ h.0), in_to path h.1)

  in_from : (path : List ℕ) → IsPathIn o' path → IsPathIn o (map (dual_label n) path)
  in_from [] h = tt
  in_from (i ∷ path) h = (sym (same i) ∙ h.0, in_from path h.1)

  link_back : (links : List Link) (x i y : ℕ) → Contains (map (dual_link n) links) (link_from x i y) → Contains links (link_from x (dual_label n i) y)
  link_back links x i y c =
      let old = contains_from_map (dual_link n) links (link_from x i y) c in
      let link = old.0 in
      let ends : link ≡ link_from x (dual_label n i) y =
      (λ k. record { from = ap (λ (l : Link). l.from) (sym old.2) k; label = (sym (dual_twice n link.label) ∙ ap (dual_label n) (ap (λ (l : Link). l.label) (sym old.2))) k; to = ap (λ (l : Link). l.to) (sym old.2) k }) in
      subst (Contains links) ends old.1

  linked_from : (links : List Link) (x i y : ℕ) → IsLinked (map (dual_link n) links) x i y → IsLinked links x (dual_label n i) y
  linked_from links x i y (inl c) = inl (link_back links x i y c)
  linked_from links x i y (inr c) = inr (link_back links y i x c)

  leads_from : (links : List Link) (path : List ℕ) (x y : ℕ) → Leads (map (dual_link n) links) x path y → Leads links x (map (dual_label n) path) y
  leads_from links [] x y e = e
  leads_from links (i ∷ path) x y (z, one, more) = (z, linked_from links x i z one, leads_from links path z y more)

  joined_to : (links : List Link) (x y : ℕ) → IsJoined links o x y → IsJoined (map (dual_link n) links) o' x y
  joined_to links x y (path, inside, leads) = (map (dual_label n) path, in_to path inside, leads_dual n links path x y leads)

  joined_from : (links : List Link) (x y : ℕ) → IsJoined (map (dual_link n) links) o' x y → IsJoined links o x y
  joined_from links x y (path, inside, leads) = (map (dual_label n) path, in_from path inside, leads_from links path x y leads)

  together_to : (x y : ℕ) → IsTogether rule o x y → IsTogether (dual_rule n rule) o' x y
  together_to x y (h, j) = (to n rule Right x h, joined_to rule.right_links x y j)

  together_from : (x y : ℕ) → IsTogether (dual_rule n rule) o' x y → IsTogether rule o x y
  together_from x y (h, j) = (from n rule Right x h, joined_from rule.right_links x y j)

  were_to : (x y : ℕ) → WereTogether rule o x y → WereTogether (dual_rule n rule) o' x y
  were_to x y (h, j) = (to n rule Left x h, joined_to rule.left_links x y j)

  letter_to : (side : Side) (x m : ℕ) → HasLetterIn rule side o x m → HasLetterIn (dual_rule n rule) side o' x m
  letter_to side x m (i, is, inside) = (
    dual_label n i,
    ap (λ w. slice_get w m) (letters_dual n rule side x) ∙ (slice_get-map (dual_letter n) (letters rule side x) m ∙ ap (option_map (dual_letter n)) is),
    same (dual_label n i) ∙ (ap o (dual_twice n i) ∙ inside),
  )

  letter_from : (side : Side) (x m : ℕ) → HasLetterIn (dual_rule n rule) side o' x m → HasLetterIn rule side o x m
  letter_from side x m (i, is, inside) =
      let old = some_from_map (dual_letter n) (slice_get (letters rule side x) m) (At i) (sym (slice_get-map (dual_letter n) (letters rule side x) m) ∙ (ap (λ w. slice_get w m) (sym (letters_dual n rule side x)) ∙ is)) in
      go old.0 old.1 old.2
    where
      equal : (a b : ℕ) → At a ≡ At b → a ≡ b
      equal a b e = cc

      go : (letter : Letter) → slice_get (letters rule side x) m ≡ Some letter → At i ≡ dual_letter n letter → HasLetterIn rule side o x m
      go (At j) is e = (j, is, ap o (sym (dual_twice n j) ∙ ap (dual_label n) (sym (equal i (dual_label n j) e))) ∙ (sym (same i) ∙ inside))
      go Gone is e = absurd (cc)

  preserved_to : (x : ℕ) → IsTrue (is_preserved rule x) → IsTrue (is_preserved (dual_rule n rule) x)
  preserved_to x h = preserved_dual n rule x ∙ h

  preserved_from : (x : ℕ) → IsTrue (is_preserved (dual_rule n rule) x) → IsTrue (is_preserved rule x)
  preserved_from x h = sym (preserved_dual n rule x) ∙ h

  pub keeper_dual : (x keeper : ℕ) → IsKeeper rule o x keeper → IsKeeper (dual_rule n rule) o' x keeper
  keeper_dual x keeper k = record { together = together_to x keeper k.together; preserved = preserved_to keeper k.preserved; least = λ y less t p. k.least y less (together_from x y t) (preserved_from y p) }

  pub assigned_from : (e x : ℕ) → IsAssigned (dual_rule n rule) e x → IsAssigned rule e x
  assigned_from e x (tree, (node, is, c)) =
      let old = some_from_map (dual_node n) (slice_get rule.nodes x) node (sym (slice_get-map (dual_node n) rule.nodes x) ∙ is) in
      let s = contains_from_map (dual_assignment n) old.0.sets (record { embed = e; tree = tree }) (subst (λ (k : RuleNode). Contains k.sets (record { embed = e; tree = tree })) old.2 c) in
      (s.0.tree, (old.0, old.1, subst (Contains old.0.sets) (λ k. record { embed = ap (λ (a : Assignment). a.embed) (sym s.2) k; tree = s.0.tree }) s.1))

  pub assigned_to : (e x : ℕ) → IsAssigned rule e x → IsAssigned (dual_rule n rule) e x
  assigned_to e x (tree, (node, is, c)) = (dual_tree n tree, (dual_node n node, slice_get-map (dual_node n) rule.nodes x ∙ ap (option_map (dual_node n)) is, contains_map (dual_assignment n) node.sets (record { embed = e; tree = tree }) c))

  source_dual : (e x : ℕ) → HasSource rule e o x → HasSource (dual_rule n rule) e o' x
  source_dual e x s = record {
    once = λ y z ty tz ay az. s.once y z (together_from x y ty) (together_from x z tz) (assigned_from e y ay) (assigned_from e z az);
    source = elim s.source [
      | inl a ↦ inl (a.0, together_to x a.0 a.1, assigned_to e a.0 a.2)
      | inr b ↦ inr (
        (λ y t a. b.0 y (together_from x y t) (assigned_from e y a)),
        (
          b.1.0,
          record {
            kept = keeper_dual x b.1.0 b.1.1.kept;
            one = λ y t p. were_to b.1.0 y (b.1.1.one y (together_from x y t) (preserved_from y p));
            along = λ m y t l. (let old = b.1.1.along m y (together_from x y t) (letter_from Right y m l) in (old.0, were_to b.1.0 old.0 old.1, letter_to Left old.0 m old.2));
          },
        ),
      )
    ];
  }

pub sources_dual : (schema : Schema) (rule : Rule) → schema.dim ≤ 7 → IsSchema schema → HasSources schema rule → HasSources (dual_schema schema) (dual_rule schema.dim rule)
sources_dual schema rule most lawful h e dual is x has =
    let embed = embed_from_dual schema e dual is in
    rw embed.2 (source_dual schema.dim rule (type_of embed.0) (type_of (dual_embed schema.dim embed.0)) (has_embed_dual schema most lawful e embed.0 embed.1) e x (h e embed.0 embed.1 x (from schema.dim rule Right x has)))
