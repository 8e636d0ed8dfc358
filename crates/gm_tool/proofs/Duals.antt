-- The duals of a map and of a book that were read: their texts, what is put of them, and why there is none.
use Rattle.std.proofs.Common.{◌≡◌, ◌⊎◌, ℕ, ◌+◌, ◌*◌, ◌<◌, ◌≤◌, List, [], ◌∷◌, length, map, All, inl, inr, Some, None, Option, Result, Ok, Err, refl, sym, ap, subst, ◌∙◌, arith}
use Rattle.std.specs.Global.{Vec}
use Rattle.std.specs.Prelude.{IfOk, IfErr, IfSome}
use Rattle.std.specs.List.{AllByRecursion}
use Rattle.std.specs.Option.{option_map}
use Rattle.std.proofs.Math.Nat.{mul_assoc}
use Rattle.std.proofs.lemmas.List.{length-map}
use Rattle.std.proofs.lemmas.List.Elements.{All-from_recursion, recursion_from_All}
use Rattle.gm_arena.proofs.Keys.{darts_counted}
use Rattle.gm_arena.specs.inner.ArenaAsMap.{as_map}
use Rattle.gm_arena.specs.inner.ArenaMap.{ArenaMap}
use Rattle.gm_arena.specs.inner.Lawful.{IsLawful}
use Rattle.gm_book.proofs.Printable.{printable_from_text}
use Rattle.gm_book.specs.Canonical as books
use Rattle.gm_book.specs.inner.Printing.{AreEndsNodes, NamesItsNodes, AreNamed, HasNamedExprs, CanBePrinted}
use Rattle.gm_dual.specs.Duals.{dual_assignment, dual_embed, dual_link, dual_map, dual_node, dual_rule, dual_schema, dual_tree, IsDualBook}
use Rattle.gm_expr.specs.ExprText.{IsNamed}
use Rattle.gm_host.specs.Store.{Contents, Lacks}
use Rattle.gm_lines.specs.Refusing as refusing
use Rattle.gm_lines.specs.Refusing.{TheMap, TheBook, TheScript}
use Rattle.gm_mapfile.proofs.ArenaDarts.{darts_ascending}
use Rattle.gm_mapfile.proofs.SoundRows.{same_map}
use Rattle.gm_mapfile.specs.MapText.{canonical}
use Rattle.gm_mapfile.specs.inner.Rows.{listed_of}
use Rattle.gm_mapfile.specs.declared.reading.MapRead.{MapRead}
use Rattle.gm_mapfile.specs.declared.version.MapVersion.{MapVersion}
use Rattle.gm_model.specs.declared.rule.Book.{Book}
use Rattle.gm_model.specs.declared.rule.Link.{Link}
use Rattle.gm_model.specs.declared.schema.Schema.{Schema}
use Rattle.gm_model.specs.Maps.{IsDart, Map}
use Rattle.gm_model.specs.Orbits.{HasCount}
use Rattle.gm_model.specs.Rules.{Assignment, Rule, RuleNode, rule_of}
use Rattle.gm_model.specs.Trees.{Tree, Number, Truth, Param, Field, Same, Count, Sum, Least, Greatest, Unary, Binary, If, MakeVec2, MakeVec3, MakeRgb}
use Rattle.gm_theory.proofs.ValuesUnique.{one_count}
use Rattle.gm_tool.specs.Answer.{Files, answers, HasFile}
use Rattle.gm_tool.specs.DualAnswer.{DualNames, DualInputs, dual_inputs_of, IsDualMapText, IsDualText, IsDualAnswer, MapFails, BookFails, LongOutput, Done, PassesDualAt, DualLoadsInOrder, IsDualUnloaded, dual_file_of, DualStopsInTime, BehindMap, BehindBook, IsDualLoadFailure, IsDualMade, IsDualReply}
use Rattle.gm_tool.specs.Endings.{Whole}
use Rattle.gm_tool.specs.Loads.{load_of, loads_after, UnlessNoMemory, UnlessNoMemoryToMake}
use Rattle.gm_tool.specs.MadeRuns.{IsStopFor, IsSoundReply, LoadsAtMostThrice}
use Rattle.gm_tool.specs.inner.Refusals.{refusal_answer}
use Rattle.gm_tool.specs.inner.Replies.{IsPlainStatus, IsWithinLimit}
use Rattle.gm_tool.specs.RunAnswer.{IsBadMap, IsBadBookText}
use Rattle.gm_tool.specs.StepBounds.{turning}
use Rattle.gm_tool.specs.inner.Stops.{IsFrom, IsReadBook, IsReadMap, IsRoleStop, IsSoundStop, reply_of}
use Rattle.gm_tool.specs.declared.refusal.NoText.{NoText}
use Rattle.gm_tool.specs.declared.refusal.NoText.TheVariants as nothing
use Rattle.gm_tool.specs.declared.refusal.Refusal.TheVariants as refusals
use Rattle.gm_tool.specs.declared.refusal.Stop.{Stop}
use Rattle.gm_tool.specs.declared.refusal.Stop.TheVariants as stops
use Rattle.gm_tool.specs.declared.reply.Reply.{Reply}
use Rattle.gm_tool.proofs.ArenaMaps.{darts_whole}
use Rattle.gm_tool.proofs.LoadCounts.{always_made, fails_here, unless_put, unless_stopped}
use Rattle.gm_tool.proofs.Saving.{stop_text}

-- ---- the dual of a book can be printed

over : {X Y : Type 0} (P : X → Type 0) (Q : Y → Type 0) (f : X → Y) → ((x : X) → P x → Q (f x)) → (xs : List X) → AllByRecursion P xs → AllByRecursion Q (map f xs)
over P Q f each [] h = tt
over P Q f each (x ∷ xs) h = (each x h.0, over P Q f each xs h.1)

all_over : {X Y : Type 0} (P : X → Type 0) (Q : Y → Type 0) (f : X → Y) → ((x : X) → P x → Q (f x)) → (xs : List X) → All P xs → All Q (map f xs)
all_over P Q f each xs h = All-from_recursion Q (map f xs) (over P Q f each xs (recursion_from_All P xs h))

module _ (schema : Schema) (n : ℕ) (rule : Rule) where
  abbrev the_dual : Rule
  the_dual = dual_rule n rule

  as_many_nodes : length the_dual.nodes ≡ length rule.nodes
  as_many_nodes = length-map rule.nodes (dual_node n)

  as_many_embeds : length (dual_schema schema).embeds ≡ length schema.embeds
  as_many_embeds = length-map schema.embeds (dual_embed schema.dim)

  links_named : (links : List Link) → All (AreEndsNodes (length rule.nodes)) links → All (AreEndsNodes (length the_dual.nodes)) (map (dual_link n) links)
  links_named links h = all_over (AreEndsNodes (length rule.nodes)) (AreEndsNodes (length the_dual.nodes)) (dual_link n) (λ link ends. (omega (arith, ends.0, as_many_nodes), omega (arith, ends.1, as_many_nodes))) links h

  nodes_named : NamesItsNodes rule → NamesItsNodes the_dual
  nodes_named named = record {
    left = links_named rule.left_links named.left;
    right = links_named rule.right_links named.right;
    hooks = subst (λ k. All (λ hook. hook < k) rule.hooks) (sym as_many_nodes) named.hooks;
  }

  node_named : (x : ℕ) → x < length rule.nodes → x < length the_dual.nodes
  node_named x low = omega (arith, low, as_many_nodes)

  embed_named : (e : ℕ) → e < length schema.embeds → e < length (dual_schema schema).embeds
  embed_named e low = omega (arith, low, as_many_embeds)

  tree_named : (tree : Tree) → IsNamed schema rule tree → IsNamed (dual_schema schema) the_dual (dual_tree n tree)
  tree_named (Number z) h = tt
  tree_named (Truth b) h = tt
  tree_named (Param k) h = h
  tree_named (Field d e) h = (node_named d.node h.0, embed_named e h.1)
  tree_named (Same d d') h = (node_named d.node h.0, node_named d'.node h.1)
  tree_named (Count o d) h = node_named d.node h
  tree_named (Sum o d e) h = (node_named d.node h.0, embed_named e h.1)
  tree_named (Least o d e) h = (node_named d.node h.0, embed_named e h.1)
  tree_named (Greatest o d e) h = (node_named d.node h.0, embed_named e h.1)
  tree_named (Unary op a) h = tree_named a h
  tree_named (Binary op a b) h = (tree_named a h.0, tree_named b h.1)
  tree_named (If c a b) h = (tree_named c h.0, tree_named a h.1, tree_named b h.2)
  tree_named (MakeVec2 a b) h = (tree_named a h.0, tree_named b h.1)
  tree_named (MakeVec3 a b c) h = (tree_named a h.0, tree_named b h.1, tree_named c h.2)
  tree_named (MakeRgb a b c) h = (tree_named a h.0, tree_named b h.1, tree_named c h.2)

  pre_named : (pre : Option Tree) → ((tree : Tree) → pre ≡ Some tree → IsNamed schema rule tree) → (tree : Tree) → option_map (dual_tree n) pre ≡ Some tree → IsNamed (dual_schema schema) the_dual tree
  pre_named None named tree e = absurd cc
  pre_named (Some own) named tree e = let same : dual_tree n own ≡ tree = cc in subst (IsNamed (dual_schema schema) the_dual) same (tree_named own (named own refl))

  sets_named : (sets : List Assignment) → AreNamed schema rule sets → AreNamed (dual_schema schema) the_dual (map (dual_assignment n) sets)
  sets_named [] h = tt
  sets_named (set ∷ sets) h = ((embed_named set.embed h.0.0, tree_named set.tree h.0.1), sets_named sets h.1)

  exprs_named : HasNamedExprs schema rule → HasNamedExprs (dual_schema schema) the_dual
  exprs_named named = record {
    sets = over (λ (node : RuleNode). AreNamed schema rule node.sets) (λ (node : RuleNode). AreNamed (dual_schema schema) the_dual node.sets) (dual_node n) (λ node sets. sets_named node.sets sets) rule.nodes named.sets;
    pre = pre_named rule.pre named.pre;
  }

pub printable_dual : (text : List ℕ) (book dual : Book) → IsReadBook text book → IsDualBook book dual → CanBePrinted dual.schema (map rule_of dual.rules)
printable_dual text book dual read is =
    let own = printable_from_text text book.version book.schema (map rule_of book.rules) read in
    let n = book.schema.dim in
    let turned : CanBePrinted (dual_schema book.schema) (map (dual_rule n) (map rule_of book.rules)) =
    record {
      numbers = all_over NamesItsNodes NamesItsNodes (dual_rule n) (nodes_named book.schema n) (map rule_of book.rules) own.numbers;
      exprs = all_over (HasNamedExprs book.schema) (HasNamedExprs (dual_schema book.schema)) (dual_rule n) (exprs_named book.schema n) (map rule_of book.rules) own.exprs;
    } in
    subst (λ schema. CanBePrinted schema (map rule_of dual.rules)) (sym is.schema) (subst (CanBePrinted (dual_schema book.schema)) (sym is.rules) turned)

pub printed_dual_book : {E : Type 0} (book dual : Book) → IsDualBook book dual → (result : Result (Vec ℕ) E) → IfOk result (λ t. t.items ≡ books.canonical dual.version dual.schema (map rule_of dual.rules))
    → IfOk result (λ t. t.items ≡ books.canonical book.version (dual_schema book.schema) (map (dual_rule book.schema.dim) (map rule_of book.rules)))
printed_dual_book book dual is (Ok text) printed = printed ∙ (λ k. books.canonical (is.version k) (is.schema k) (is.rules k))
printed_dual_book book dual is (Err error) printed = tt

-- ---- the dual of a map

module _ (m a : ArenaMap) (lawful : IsLawful m) (lawful_dual : IsLawful a) (is : as_map a ≡ dual_map (as_map m)) where
  pub dual_map_text : (version : MapVersion) (text : List ℕ) → text ≡ canonical version (listed_of a) → IsDualMapText version (listed_of m) text
  dual_map_text version text printed =
      (listed_of a, record { is = sym (same_map a) ∙ is ∙ ap dual_map (same_map m); ascending = darts_ascending a; whole = darts_whole a lawful_dual }, printed)

  pub printed_dual : {E : Type 0} (version : MapVersion) (result : Result (Vec ℕ) E) → IfOk result (λ t. t.items ≡ canonical version (listed_of a)) → IfOk result (λ t. IsDualMapText version (listed_of m) t.items)
  printed_dual version (Ok text) printed = dual_map_text version text.items printed
  printed_dual version (Err error) printed = tt

  -- it has as many darts
  as_many : a.count ≡ m.count
  as_many = one_count (IsDart (as_map a)) a.count m.count (darts_counted a lawful_dual) (subst (λ x. HasCount (IsDart x) m.count) (sym is) (darts_counted m lawful))

  -- its making and its text together
  pub turned_within : (before middle after : ℕ) → middle ≤ before + 16 * ((m.schema.dim + 1) * (m.schema.dim + 1)) * (m.count + 1)
      → after ≤ middle + 8 * ((a.schema.dim + 1) * (a.schema.dim + 1)) * (a.count + 1) → after ≤ before + turning m.schema.dim m.count
  turned_within before middle after made printed =
      let dims : a.schema.dim ≡ m.schema.dim = ap (λ (x : Map). x.schema.dim) is in
      let there : after ≤ middle + 8 * ((m.schema.dim + 1) * (m.schema.dim + 1)) * (m.count + 1) =
      subst (λ n. after ≤ middle + 8 * ((n + 1) * (n + 1)) * (m.count + 1)) dims (subst (λ k. after ≤ middle + 8 * ((a.schema.dim + 1) * (a.schema.dim + 1)) * (k + 1)) as_many printed) in
      below ((m.schema.dim + 1) * (m.schema.dim + 1)) (m.count + 1) before middle after made there
    where
      below : (s k before middle after : ℕ) → middle ≤ before + 16 * s * k → after ≤ middle + 8 * s * k → after ≤ before + 24 * s * k
      below s k before middle after one two =
          let a : 16 * s * k ≡ 16 * (s * k) = mul_assoc 16 s k in
          let b : 8 * s * k ≡ 8 * (s * k) = mul_assoc 8 s k in
          let c : 24 * s * k ≡ 24 * (s * k) = mul_assoc 24 s k in
          omega (arith, one, two, a, b, c)

pub unmade_within : (n darts before after : ℕ) → after ≤ before + 16 * ((n + 1) * (n + 1)) * (darts + 1) → after ≤ before + turning n darts
unmade_within n darts before after h = below ((n + 1) * (n + 1)) (darts + 1) h
  where
    below : (s k : ℕ) → after ≤ before + 16 * s * k → after ≤ before + 24 * s * k
    below s k one =
        let a : 16 * s * k ≡ 16 * (s * k) = mul_assoc 16 s k in
        let c : 24 * s * k ≡ 24 * (s * k) = mul_assoc 24 s k in
        omega (arith, one, a, c)

-- ---- the exits, wherever the store tells

-- the inputs, as far as they are known
abbrev known : MapRead → DualInputs
known read = record { version = read.version; map = listed_of read.arena; book_version = 0; schema = read.arena.schema; rules = [] }

module _ (named : DualNames) (load_fails : ℕ → Type 0) where
  abbrev pub Makes : Contents → Result (Vec ℕ) Stop → Type 0
  Makes contents result = IfSome contents (λ files. IsDualMade files named load_fails result)

  module _ (files : Files) where
    map_stop : (later : Type 0) → (later → load_fails 1) → (stop : Stop) → IsRoleStop files TheMap named.map IsBadMap later stop → IsStopFor (IsDualAnswer files named) (IsDualLoadFailure files named load_fails) stop
    map_stop later up (stops.Bad line) h = MapFails h
    map_stop later up (stops.NoText nothing.OutOfMemory) h = tt
    map_stop later up (stops.NoText (nothing.Refused why)) (inl h) = inl (MapFails h)
    map_stop later up (stops.NoText (nothing.Refused why)) (inr h) = inr (TheMap, up h.0, tt, h.1)

    book_stop : (read : MapRead) (bytes : List ℕ) → HasFile files named.map bytes × IsReadMap bytes read → (later : Type 0) → (later → load_fails 2) → (stop : Stop) → IsRoleStop files TheBook named.book IsBadBookText later stop → IsStopFor (IsDualAnswer files named) (IsDualLoadFailure files named load_fails) stop
    book_stop read bytes has later up (stops.Bad line) h = BookFails (known read) (bytes, has.0, has.1.stands) h
    book_stop read bytes has later up (stops.NoText nothing.OutOfMemory) h = tt
    book_stop read bytes has later up (stops.NoText (nothing.Refused why)) (inl h) = inl (BookFails (known read) (bytes, has.0, has.1.stands) h)
    book_stop read bytes has later up (stops.NoText (nothing.Refused why)) (inr h) = inr (TheBook, up h.0, (known read, (bytes, has.0, has.1.stands)), h.1)

  pub at_map : (contents : Contents) (later : Type 0) (stop : Stop) → (later → load_fails 1) → IsFrom {A = MapRead} contents TheMap named.map IsReadMap IsBadMap later (Err stop) → Makes contents (Err stop)
  at_map None later stop up h = tt
  at_map (Some files) later stop up h = map_stop files later up stop h.0

  pub at_book : (contents : Contents) (read : MapRead) (one later : Type 0) (stop : Stop) → (later → load_fails 2) → IsFrom contents TheMap named.map IsReadMap IsBadMap one (Ok read)
      → IsFrom {A = Book} contents TheBook named.book IsReadBook IsBadBookText later (Err stop) → Makes contents (Err stop)
  at_book None read one later stop up f h = tt
  at_book (Some files) read one later stop up (bytes, held, is) h = book_stop files read bytes (held, is) later up stop h.0

  pub at_end : (contents : Contents) (read : MapRead) (book : Book) (one two : Type 0) (text : Vec ℕ) → IsFrom contents TheMap named.map IsReadMap IsBadMap one (Ok read)
      → IsFrom contents TheBook named.book IsReadBook IsBadBookText two (Ok book) → IsDualText (dual_inputs_of read.version read.arena book) text.items → Makes contents (Ok text)
  at_end None read book one two text f g is = tt
  at_end (Some files) read book one two text (bytes, held, read_is) (more, there, book_is) is =
      record { inputs = dual_inputs_of read.version read.arena book; the_map = (bytes, held, read_is.stands); the_book = (more, there, book_is); is_text = is }

pub no_memory_made : (named : DualNames) (load_fails : ℕ → Type 0) (contents : Contents) → Makes named load_fails contents (Err (stops.NoText nothing.OutOfMemory))
no_memory_made named load_fails None = tt
no_memory_made named load_fails (Some files) = tt

-- the texts of what was read, or want of memory
pub at_texts : (named : DualNames) (load_fails : ℕ → Type 0) (contents : Contents) (read : MapRead) (book : Book) (one two : Type 0) (made : Result (Vec ℕ) Stop) → IsFrom contents TheMap named.map IsReadMap IsBadMap one (Ok read)
    → IsFrom contents TheBook named.book IsReadBook IsBadBookText two (Ok book) → IfErr made (λ stop. stop ≡ stops.NoText nothing.OutOfMemory)
    → IfOk made (λ text. IsDualText (dual_inputs_of read.version read.arena book) text.items) → Makes named load_fails contents made
at_texts named load_fails contents read book one two (Ok text) f g none is = at_end named load_fails contents read book one two text f g is
at_texts named load_fails contents read book one two (Err stop) f g none is = rw none (no_memory_made named load_fails contents)

pub sound_without_memory : (failing : refusing.Role → Type 0) (made : Result (Vec ℕ) Stop) → IfErr made (λ stop. stop ≡ stops.NoText nothing.OutOfMemory) → IfErr made (λ stop. IsSoundStop stop failing)
sound_without_memory failing (Ok text) none = tt
sound_without_memory failing (Err stop) none = rw none tt

-- ---- loads, in their order

module _ (contents : Contents) (named : DualNames) where
  pub passes_map : PassesDualAt contents named TheMap
  passes_map = go contents
    where
      go : (c : Contents) → PassesDualAt c named TheMap
      go None = tt
      go (Some files) = tt

  pub passes_book : (read : MapRead) (one : Type 0) → IsFrom contents TheMap named.map IsReadMap IsBadMap one (Ok read) → PassesDualAt contents named TheBook
  passes_book read one the_map = go contents the_map
    where
      go : (c : Contents) → IsFrom c TheMap named.map IsReadMap IsBadMap one (Ok read) → PassesDualAt c named TheBook
      go None f = tt
      go (Some files) (bytes, held, is) = (known read, (bytes, held, is.stands))

  -- why the file of a role isn't loaded, where each before it is good
  pub unloaded_dual : (load_fails : ℕ → Type 0) (role : refusing.Role) (fails : Type 0) → PassesDualAt contents named role → (fails → load_fails (load_of role))
      → (other : refusing.Role) → (other ≡ role) × (fails ⊎ Lacks contents (dual_file_of named role)) → IsDualUnloaded contents named load_fails other
  unloaded_dual load_fails role fails passes up other (e, cause) =
      subst (IsDualUnloaded contents named load_fails) (sym e) (passes, elim cause [ inl failed ↦ inl (up failed) | inr lacks ↦ inr lacks ])

-- ordered loads are two at most
pub twice_at_most : (contents : Contents) (named : DualNames) (before after : ℕ) → DualLoadsInOrder contents named before after → LoadsAtMostThrice before after
twice_at_most contents named before after (TheMap, passes, is) = inr (inl is)
twice_at_most contents named before after (TheBook, passes, is) = inr (inr (inl is))
twice_at_most contents named before after (TheScript, passes, is) = absurd passes

-- ---- how many loads there were

module _ (named : DualNames) (fails : Type 0) (before after : ℕ) where
  abbrev pub Counts : Contents → Result (Vec ℕ) Stop → Type 0
  Counts contents result = IfSome contents (λ files. UnlessNoMemoryToMake result (DualStopsInTime files named fails before after))

  pub behind_map : (contents : Contents) (later : Type 0) (stop : Stop) → (later → fails) → after ≡ loads_after 1 before → IsFrom {A = MapRead} contents TheMap named.map IsReadMap IsBadMap later (Err stop) → Counts contents (Err stop)
  behind_map None later stop up once h = tt
  behind_map (Some files) later stop up once h = fails_here (Vec ℕ) files TheMap named.map IsBadMap later fails (DualStopsInTime files named fails before after) up (λ here. (1, BehindMap here, once)) stop h.0

  pub behind_book : (contents : Contents) (read : MapRead) (one : Type 0) (result : Result (Vec ℕ) Stop) → after ≡ loads_after 2 before → IsFrom contents TheMap named.map IsReadMap IsBadMap one (Ok read) → Counts contents result
  behind_book None read one result twice f = tt
  behind_book (Some files) read one result twice (bytes, held, is) = always_made result (DualStopsInTime files named fails before after) (2, BehindBook (known read) (bytes, held, is.stands), twice)

  abbrev pub CountsReply : Contents → Result Reply NoText → Type 0
  CountsReply contents reply = IfSome contents (λ files. UnlessNoMemory reply (DualStopsInTime files named fails before after))

  pub counts_put : (contents : Contents) (text : Vec ℕ) (reply : Result Reply NoText) → Counts contents (Ok text) → CountsReply contents reply
  counts_put None text reply h = tt
  counts_put (Some files) text reply h = unless_put reply (DualStopsInTime files named fails before after) h

  pub counts_stopped : (contents : Contents) (stop : Stop) → Counts contents (Err stop) → CountsReply contents (reply_of stop)
  counts_stopped None stop h = tt
  counts_stopped (Some files) stop h = unless_stopped (Vec ℕ) stop (DualStopsInTime files named fails before after) h

-- ---- what is put

module _ (named : DualNames) (load_fails : ℕ → Type 0) (save_fails : Type 0) where
  abbrev pub Replies : Contents → Contents → Result Reply NoText → Type 0
  Replies contents after reply = IfSome contents (λ files. IsDualReply files named load_fails save_fails after reply)

  pub put_dual : (contents after : Contents) → after ≡ contents → (text : Vec ℕ) (reply : Result Reply NoText) → Makes named load_fails contents (Ok text) → IsWithinLimit 0 text.items reply → Replies contents after reply
  put_dual None after same text reply good within = tt
  put_dual (Some files) after same text (Ok reply) good (status, is, fits) = Whole (answers 0 text.items) (Done text.items good fits refl) status is same
  put_dual (Some files) after same text (Err none) good (is, long) =
      subst (λ e. IsDualReply files named load_fails save_fails after (Err e)) (sym is) (Whole (refusal_answer refusals.SizeOutput) (LongOutput text.items good long refl) refl refl same)

  pub stopped_dual : (contents after : Contents) → after ≡ contents → (stop : Stop) → Makes named load_fails contents (Err stop) → Replies contents after (reply_of stop)
  stopped_dual None after same stop h = tt
  stopped_dual (Some files) after same stop h = stop_text (IsDualAnswer files named) (IsDualLoadFailure files named load_fails) save_fails files after same stop h

pub within_status : (text : List ℕ) (reply : Result Reply NoText) → IsWithinLimit 0 text reply → IfOk reply (λ r. IsPlainStatus r.status)
within_status text (Ok reply) within = inl within.0
within_status text (Err none) within = tt

pub within_is_sound : (text : List ℕ) (reply : Result Reply NoText) (P : refusing.Role → Type 0) (Q : Type 0) → IsWithinLimit 0 text reply → IsSoundReply reply P Q
within_is_sound text (Ok reply) P Q within = tt
within_is_sound text (Err none) P Q within = subst (λ e. IsSoundReply (Err e) P Q) (sym within.0) tt
