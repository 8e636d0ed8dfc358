-- The canonical text of a tree that can be written is read as that tree.
use Rattle.std.proofs.Common.{◌≡◌, ℕ, zero, suc, ◌+◌, ◌-◌, ◌≤◌, List, [], ◌∷◌, ◌++◌, length, map, Option, refl, sym, ap, subst, ◌∙◌, append-nil, arith}
use Rattle.std.proofs.lemmas.List.{length-append, length-map, map-append}
use Rattle.gm_model.specs.declared.rule.Param.{Param}
use Rattle.gm_model.specs.declared.rule.Node.{Node}
use Rattle.gm_model.specs.declared.rule.RuleTable.{RuleTable}
use Rattle.gm_model.specs.declared.schema.Embed.{Embed}
use Rattle.gm_model.specs.declared.schema.Schema.{Schema}
use Rattle.gm_model.specs.declared.token.TokenKind.{TokenKind}
use Rattle.gm_model.specs.declared.token.TokenKind.TheVariants as kinds
use Rattle.gm_model.specs.Reading.{Part, symbols_in, ArePlaced}
use Rattle.gm_model.specs.Rules.{RuleNode, node_of, rule_of}
use Rattle.gm_model.specs.Symbols.{Symbol, Stray, End, symbol_of_kind, Mark, mark_of, marks_at, marks_of, symbols}
use Rattle.gm_model.specs.Tokens.{StrayAt, EndAt, Front, Gap, Lexeme, Stray as StrayFront, front_of, size_of, item_before, items_from}
use Rattle.gm_model.specs.Trees.{Tree}
use Rattle.gm_text.specs.inner.Cursor.{Cursor}
use Rattle.gm_text.proofs.Items.{items_at-end}
use Rattle.gm_text.proofs.Marks.{marks_at-end}
use Rattle.gm_text.proofs.Printed.{symbols_from, symbols_from-end, symbols_of-from}
use Rattle.gm_parse.specs.inner.Answers.{IsExprRead}
use Rattle.gm_parse.specs.Forms.{Form}
use Rattle.gm_parse.specs.Meaning.{Names, left_name, names_in}
use Rattle.gm_parse.specs.Spelling.{Role, Fixed, spell, parts_of, Stands, IsPlacedAt}
use Rattle.gm_parse.proofs.Counted.{spot_behind, no_longer}
use Rattle.gm_parse.proofs.Standing.{other_spot}
use Rattle.gm_expr.specs.ExprText.{tree_text}
use Rattle.gm_expr.specs.inner.Whole.{IsReadWhole}
use Rattle.gm_expr.specs.inner.Writable.{left_name_of, names_of, AreGoodNames, IsWritable}
use Rattle.gm_expr.proofs.Canonical.{form_at, behind_tree}
use Rattle.gm_expr.proofs.CanonicalLength.{AreWithin, short_within, tree_within}
use Rattle.gm_expr.proofs.CanonicalMeaning.{tree_good, tree_means, tree_faultless}
use Rattle.gm_expr.proofs.CanonicalPlaces.{tree_placed}
use Rattle.gm_expr.proofs.CanonicalSymbols.{behind_none, tree_symbols}
use Rattle.gm_expr.proofs.SpelledBefore.{spell_before}

-- ---- where a text ends

no_end : (kind : TokenKind) (bytes : List ℕ) → symbol_of_kind kind bytes ≡ End → ⊥
no_end kinds.Name bytes is = absurd cc
no_end kinds.Number bytes is = absurd cc
no_end kinds.Gone bytes is = absurd cc
no_end kinds.Sign bytes is = absurd cc

-- of marks that one stands before
one_less : (first : Mark) (marks before : List Mark) (mark : Mark) → first ∷ marks ≡ before ++ mark ∷ [] → (first.symbol ≡ End → ⊥) → mark.symbol ≡ End → (others : List Mark) × (marks ≡ others ++ mark ∷ [])
one_less first marks [] mark split other end = let same : first ≡ mark = cc split in absurd (other (ap (λ (m : Mark). m.symbol) same ∙ end))
one_less first marks (gone ∷ before) mark split other end = let rest : marks ≡ before ++ mark ∷ [] = cc split in (before, rest)

none_last : (before : List Mark) (mark : Mark) → [] ≡ before ++ mark ∷ [] → ⊥
none_last [] mark split = absurd cc
none_last (first ∷ before) mark split = absurd cc

alone_last : (first : Mark) (before : List Mark) (mark : Mark) → first ∷ [] ≡ before ++ mark ∷ [] → first ≡ mark
alone_last first [] mark split = cc split
alone_last first (gone ∷ before) mark split = let rest : [] ≡ before ++ mark ∷ [] = cc split in absurd (none_last before mark rest)

module _ (text : List ℕ) where
  -- The mark of the end stands behind all bytes.
  end_place : (place taken : ℕ) (bytes : List ℕ) (before : List Mark) (mark : Mark) → map (mark_of text) (items_from place taken bytes) ≡ before ++ mark ∷ [] → mark.symbol ≡ End → mark.place ≡ place + length bytes
  end_place place taken [] before mark split end =
      let same : mark_of text (EndAt place) ≡ mark = alone_last (mark_of text (EndAt place)) before mark split in
      omega (arith, ap (λ (m : Mark). m.place) same)
  end_place place (suc taken) (b ∷ bytes) before mark split end = let later = end_place (suc place) taken bytes before mark split end in omega (arith, later)
  end_place place zero (b ∷ bytes) before mark split end =
      go (front_of b bytes) (λ others rest. let later = end_place (suc place) (size_of (front_of b bytes) - 1) bytes others mark rest end in omega (arith, later)) split
    where
      go : (front : Front) → ((others : List Mark) → map (mark_of text) (items_from (suc place) (size_of (front_of b bytes) - 1) bytes) ≡ others ++ mark ∷ [] → mark.place ≡ place + length (b ∷ bytes))
          → map (mark_of text) (item_before place front (items_from (suc place) (size_of (front_of b bytes) - 1) bytes)) ≡ before ++ mark ∷ [] → mark.place ≡ place + length (b ∷ bytes)
      go (Gap size) later split = later before split
      go (Lexeme kind size) later split = let (others, rest) = one_less _ _ before mark split (no_end kind _) end in later others rest
      go StrayFront later split =
          let same : mark_of text (StrayAt place) ≡ mark = alone_last (mark_of text (StrayAt place)) before mark split in
          let both : Stray ≡ End = ap (λ (m : Mark). m.symbol) same ∙ end in
          absurd cc

-- ---- marks before the last one

record AreEnded (marks : List Mark) (front : List Symbol) : Type 0 where
  before : List Mark
  last : Mark
  split : marks ≡ before ++ last ∷ []
  spelled : symbols before ≡ front
  ends : last.symbol ≡ End

are_ended : (marks : List Mark) (front : List Symbol) → symbols marks ≡ front ++ End ∷ [] → AreEnded marks front
are_ended [] [] same = absurd cc
are_ended [] (symbol ∷ front) same = absurd cc
are_ended (mark ∷ marks) [] same =
    let here : mark.symbol ≡ End = cc same in
    let none : symbols marks ≡ [] = cc same in
    record { before = []; last = mark; split = ap (λ (ms : List Mark). mark ∷ ms) (nothing marks none); spelled = refl; ends = here }
  where
    nothing : (marks : List Mark) → symbols marks ≡ [] → marks ≡ []
    nothing [] none = refl
    nothing (mark ∷ marks) none = absurd cc
are_ended (mark ∷ marks) (symbol ∷ front) same =
    let here : mark.symbol ≡ symbol = cc same in
    let later : symbols marks ≡ front ++ End ∷ [] = cc same in
    let rest = are_ended marks front later in
    record {
      before = mark ∷ rest.before;
      last = rest.last;
      split = ap (λ (ms : List Mark). mark ∷ ms) rest.split;
      spelled = ap (λ (s : Symbol). s ∷ symbols rest.before) here ∙ ap (λ (ss : List Symbol). symbol ∷ ss) rest.spelled;
      ends = rest.ends;
    }

placed_front : (before rest : List Mark) (parts : List (Part Role)) → ArePlaced IsPlacedAt (before ++ rest) parts → ArePlaced IsPlacedAt before parts
placed_front [] rest parts placed = tt
placed_front (mark ∷ before) rest [] placed = tt
placed_front (mark ∷ before) rest (part ∷ parts) placed = (placed.0, placed_front before rest parts placed.1)

none_placed : (marks : List Mark) → ArePlaced IsPlacedAt marks []
none_placed [] = tt
none_placed (mark ∷ marks) = tt

-- ---- the whole text

module _ (embeds : List Embed) (params : List Param) (nodes : List RuleNode) (good : AreGoodNames embeds params nodes) (n : ℕ) (top : n ≤ 7) (tree : Tree) (writable : IsWritable embeds params nodes n tree) where
  abbrev written : List ℕ
  written = tree_text embeds params nodes tree

  abbrev canon : Form
  canon = form_at embeds params nodes (marks_of written) tree

  text_spelled : symbols (marks_of written) ≡ symbols_in (spell n canon []) ++ End ∷ []
  text_spelled =
      let last : List (Part Role) = record { symbol = End; role = Fixed } ∷ [] in
      symbols_of-from written ∙ ap symbols_from (sym (append-nil written)) ∙ tree_symbols embeds params nodes n top good tree writable (marks_of written) [] last behind_none symbols_from-end
      ∙ ap (λ (parts : List (Part Role)). symbols_in parts) (spell_before n canon [] last) ∙ map-append (λ (part : Part Role). part.symbol) (spell n canon []) last

  stands_whole : AreWithin (parts_of n canon) → Stands n canon (marks_of written) (marks_at written (length written))
  stands_whole within =
      let ended = are_ended (marks_of written) (symbols_in (spell n canon [])) text_spelled in
      let place : ended.last.place ≡ length written = end_place written 0 0 written ended.before ended.last ended.split ended.ends ∙ omega arith in
      let last : Mark = record { symbol = End; place = length written } in
      let is : ended.last ≡ last = λ i. record { symbol = ended.ends i; place = place i } in
      let rest : marks_at written (length written) ≡ last ∷ [] = marks_at-end written (length written) (items_at-end written (length written) refl) in
      let split : marks_of written ≡ ended.before ++ marks_at written (length written) = ended.split ∙ ap (λ (m : Mark). ended.before ++ m ∷ []) is ∙ ap (λ (ms : List Mark). ended.before ++ ms) (sym rest) in
      let placed = tree_placed embeds params nodes n tree (marks_of written) [] (none_placed (behind_tree tree (marks_of written))) in
      record {
        before = ended.before;
        split = split;
        good = tree_good embeds params nodes good n tree writable (marks_of written);
        spelled = ended.spelled;
        within = within;
        placed = placed_front ended.before (ended.last ∷ []) (spell n canon []) (subst (λ (ms : List Mark). ArePlaced IsPlacedAt ms (spell n canon [])) ended.split placed);
        next = last;
        others = [];
        behind = rest;
        ends = no_longer n canon (tree_good embeds params nodes good n tree writable (marks_of written)) End (other_spot (spot_behind n canon) End refl);
      }

  module _ (names : Names) (embeds_are : names.embeds ≡ map (λ (embed : Embed). embed.name) embeds) (params_are : names.params ≡ map (λ (param : Param). param.name) params) (nodes_are : names.nodes ≡ map left_name_of nodes) where
    abbrev Again : Type 0
    Again = IsReadWhole n names written tree

    read_within : AreWithin (parts_of n canon) → Again
    read_within within = record {
      form = canon;
      stands = stands_whole within;
      known = tree_faultless embeds params nodes names embeds_are params_are nodes_are n top tree writable (marks_of written);
      means = sym (tree_means embeds params nodes names embeds_are params_are nodes_are n top tree writable (marks_of written));
    }

    -- where it has no more tokens than an expression can have
    pub short_read : length (marks_of written) ≤ 257 → Again
    short_read few =
        let parts = spell n canon [] in
        let all : length (symbols (marks_of written)) ≡ length (symbols_in parts ++ End ∷ []) = ap (λ (ss : List Symbol). length ss) text_spelled in
        let marks_many = length-map (marks_of written) (λ (mark : Mark). mark.symbol) in
        let parts_many = length-map parts (λ (part : Part Role). part.symbol) in
        let both = length-append (symbols_in parts) (End ∷ []) in
        read_within (short_within embeds params nodes good n tree writable (marks_of written) (omega (arith, all, marks_many, parts_many, both, few)))

    -- where some text gave the tree
    pub again_read : (old new : Cursor) → IsExprRead n names old new tree → Again
    again_read old new read = read_within (tree_within embeds params nodes good n names read.form tree read.stands.good read.means read.stands.within writable (marks_of written))

-- ---- the names that are known

names_of_nodes : (nodes : List Node) → map left_name nodes ≡ map left_name_of (map node_of nodes)
names_of_nodes [] = refl
names_of_nodes (node ∷ nodes) = ap (λ (names : List (Option (List ℕ))). left_name node ∷ names) (names_of_nodes nodes)

pub all_known : (schema : Schema) (table : RuleTable) → names_in schema table.params table.nodes ≡ names_of schema.embeds table.params (rule_of table).nodes
all_known schema table = let nodes = names_of_nodes table.nodes in λ i. record { embeds = map (λ (embed : Embed). embed.name) schema.embeds; params = map (λ (param : Param). param.name) table.params; nodes = nodes i }
