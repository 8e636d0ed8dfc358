-- The states of a schema are its grammar: which forms lead through them, and that each path is one form.
use Rattle.std.proofs.Common.{◌≡◌, ◌≢◌, ℕ, ◌+◌, Bool, true, false, cond, List, [], ◌∷◌, ◌++◌, length, map, Option, Some, None, refl, sym, ap, subst, ◌∙◌, append_assoc, codes}
use Rattle.std.proofs.lemmas.List.{append-nil}
use Rattle.std.proofs.lemmas.Slice.Eq.{bytes_eq-Decides}
use Rattle.std.specs.List.{AllByRecursion}
use Rattle.std.specs.Option.{option_map}
use Rattle.std.specs.Prelude.{IsTrue}
use Rattle.std.specs.Str.{bytes_eq}
use Rattle.gm_model.specs.declared.schema.Embed.{Embed}
use Rattle.gm_model.specs.declared.value.Kind.{Kind}
use Rattle.gm_model.specs.declared.value.Kind.TheVariants as kinds
use Rattle.gm_model.specs.declared.word.Mask.{Mask}
use Rattle.gm_model.specs.Names.{Mention, reserved, is_among}
use Rattle.gm_model.specs.Symbols.{Symbol, Word, Numeral, Sign, Gone, Stray, End}
use Rattle.gm_model.specs.Reading.{Part, word, number, sign}
use Rattle.gm_text.specs.inner.Machine.{Leads}
use Rattle.gm_text.specs.SchemaText.{LabelForm, EmbedForm, SchemaForm, Role, Fixed, Dimension, EmbedWord, NameAt, LabelAt, no_labels, with_label, with_labels, embed_of, names_in, kind_word, spell_labels, spell_embeds, spell, IsEmbed, IsForm}
use Rattle.gm_text.specs.inner.SchemaReading.{State, AtDim, AtTop, AtEmbeds, AtName, AtOrbit, AtLabel, AtKind, role_at, kind_named, expect, with_kind, move, is_whole, never}

-- ---- spellings before something else

labels_before : (n : ℕ) (mask : Mask) (labels : List LabelForm) (rest more : List (Part Role)) → spell_labels n mask labels rest ++ more ≡ spell_labels n mask labels (rest ++ more)
labels_before n mask [] rest more = refl
labels_before n mask (form ∷ labels) rest more =
    ap (λ (ps : List (Part Role)). number (LabelAt n mask form.place) form.label ∷ ps) (labels_before n (with_label mask form.label) labels rest more)

embeds_before : (n : ℕ) (declared : List Embed) (embeds : List EmbedForm) (more : List (Part Role)) → spell_embeds n declared embeds [] ++ more ≡ spell_embeds n declared embeds more
embeds_before n declared [] more = refl
embeds_before n declared (embed ∷ embeds) more =
    let behind = spell_embeds n (declared ++ embed_of embed ∷ []) embeds [] in
    let rest = sign Fixed (codes ">") ∷ word Fixed (kind_word embed.kind) ∷ behind in
    ap (λ (ps : List (Part Role)). word (EmbedWord (length declared + 1)) (codes "embed") ∷ word (NameAt (names_in declared) embed.name.place) embed.name.name ∷ sign Fixed (codes "<") ∷ ps)
    (labels_before n no_labels embed.labels rest more
    ∙ ap (λ (ps : List (Part Role)). spell_labels n no_labels embed.labels (sign Fixed (codes ">") ∷ word Fixed (kind_word embed.kind) ∷ ps)) (embeds_before n (declared ++ embed_of embed ∷ []) embeds more))

pub spell_before : (form : SchemaForm) (more : List (Part Role)) → spell form [] ++ more ≡ spell form more
spell_before form more = ap (λ (ps : List (Part Role)). word Fixed (codes "dim") ∷ number Dimension form.dim ∷ ps) (embeds_before form.dim [] form.embeds more)

-- the embeddings that are declared behind these
abbrev pub declared_by : List Embed → List EmbedForm → List Embed
declared_by declared [] = declared
declared_by declared (embed ∷ embeds) = declared_by (declared ++ embed_of embed ∷ []) embeds

declared-append : (declared : List Embed) (embeds : List EmbedForm) → declared_by declared embeds ≡ declared ++ map embed_of embeds
declared-append declared [] = sym (append-nil declared)
declared-append declared (embed ∷ embeds) = declared-append (declared ++ embed_of embed ∷ []) embeds ∙ append_assoc declared (embed_of embed ∷ []) (map embed_of embeds)

pub declared-all : (embeds : List EmbedForm) → declared_by [] embeds ≡ map embed_of embeds
declared-all embeds = declared-append [] embeds

-- ---- kinds

pub kind_again : (kind : Kind) → kind ≢ kinds.Bool → kind_named (kind_word kind) ≡ Some kind
kind_again kinds.Int other = refl
kind_again kinds.Bool other = absurd (other refl)
kind_again kinds.Vec2 other = refl
kind_again kinds.Vec3 other = refl
kind_again kinds.Rgb other = refl

pub kind_spelled : (w : List ℕ) (kind : Kind) → kind_named w ≡ Some kind → (w ≡ kind_word kind) × (kind ≢ kinds.Bool)
kind_spelled w kind named =
    go (bytes_eq w (codes "int")) (bytes_eq w (codes "vec2")) (bytes_eq w (codes "vec3")) (bytes_eq w (codes "rgb")) refl refl refl refl named
  where
    is : (other : List ℕ) → bytes_eq w other ≡ true → w ≡ other
    is other e = (bytes_eq-Decides w other).0 e

    the : (one : Kind) → w ≡ kind_word one → one ≢ kinds.Bool → Some one ≡ Some kind → (w ≡ kind_word kind) × (kind ≢ kinds.Bool)
    the one e other same = let k : one ≡ kind = cc same in (e ∙ ap kind_word k, λ b. other (k ∙ b))

    go : (i v t r : Bool) → bytes_eq w (codes "int") ≡ i → bytes_eq w (codes "vec2") ≡ v → bytes_eq w (codes "vec3") ≡ t → bytes_eq w (codes "rgb") ≡ r
        → cond i (Some kinds.Int) (cond v (Some kinds.Vec2) (cond t (Some kinds.Vec3) (cond r (Some kinds.Rgb) None))) ≡ Some kind → (w ≡ kind_word kind) × (kind ≢ kinds.Bool)
    go true v t r a b c d same = the kinds.Int (is (codes "int") a) (λ e. absurd cc) same
    go false true t r a b c d same = the kinds.Vec2 (is (codes "vec2") b) (λ e. absurd cc) same
    go false false true r a b c d same = the kinds.Vec3 (is (codes "vec3") c) (λ e. absurd cc) same
    go false false false true a b c d same = the kinds.Rgb (is (codes "rgb") d) (λ e. absurd cc) same
    go false false false false a b c d same = absurd cc

-- ---- one move

pub expected : (wanted found : List ℕ) (to next : State) → expect wanted found to ≡ Some next → (found ≡ wanted) × (next ≡ to)
expected wanted found to next moves = go (bytes_eq found wanted) refl moves
  where
    go : (b : Bool) → bytes_eq found wanted ≡ b → cond b (Some to) None ≡ Some next → (found ≡ wanted) × (next ≡ to)
    go true e is = ((bytes_eq-Decides found wanted).0 e, sym (cc is))
    go false e is = absurd cc

pub dim_moved : (symbol : Symbol) (next : State) → move AtDim symbol ≡ Some next → (symbol ≡ Word (codes "dim")) × (next ≡ AtTop)
dim_moved (Word w) next moves = let is = expected (codes "dim") w AtTop next moves in (ap Word is.0, is.1)
dim_moved (Numeral n) next moves = absurd cc
dim_moved (Sign s) next moves = absurd cc
dim_moved Gone next moves = absurd cc
dim_moved Stray next moves = absurd cc
dim_moved End next moves = absurd cc

pub top_moved : (symbol : Symbol) (next : State) → move AtTop symbol ≡ Some next → (n : ℕ) × (symbol ≡ Numeral n) × (next ≡ AtEmbeds n [])
top_moved (Word w) next moves = absurd cc
top_moved (Numeral n) next moves = (n, refl, sym (cc moves))
top_moved (Sign s) next moves = absurd cc
top_moved Gone next moves = absurd cc
top_moved Stray next moves = absurd cc
top_moved End next moves = absurd cc

pub embeds_moved : (n : ℕ) (declared : List Embed) (symbol : Symbol) (next : State) → move (AtEmbeds n declared) symbol ≡ Some next → (symbol ≡ Word (codes "embed")) × (next ≡ AtName n declared)
embeds_moved n declared (Word w) next moves = let is = expected (codes "embed") w (AtName n declared) next moves in (ap Word is.0, is.1)
embeds_moved n declared (Numeral m) next moves = absurd cc
embeds_moved n declared (Sign s) next moves = absurd cc
embeds_moved n declared Gone next moves = absurd cc
embeds_moved n declared Stray next moves = absurd cc
embeds_moved n declared End next moves = absurd cc

pub name_moved : (n : ℕ) (declared : List Embed) (symbol : Symbol) (next : State) → move (AtName n declared) symbol ≡ Some next → (w : List ℕ) × (symbol ≡ Word w) × (is_among reserved w ≡ false) × (next ≡ AtOrbit n declared w)
name_moved n declared (Word w) next moves = go (is_among reserved w) refl moves
  where
    go : (b : Bool) → is_among reserved w ≡ b → cond b None (Some (AtOrbit n declared w)) ≡ Some next → (v : List ℕ) × (Word w ≡ Word v) × (is_among reserved v ≡ false) × (next ≡ AtOrbit n declared v)
    go true e is = absurd cc
    go false e is = (w, refl, e, sym (cc is))
name_moved n declared (Numeral m) next moves = absurd cc
name_moved n declared (Sign s) next moves = absurd cc
name_moved n declared Gone next moves = absurd cc
name_moved n declared Stray next moves = absurd cc
name_moved n declared End next moves = absurd cc

pub orbit_moved : (n : ℕ) (declared : List Embed) (name : List ℕ) (symbol : Symbol) (next : State) → move (AtOrbit n declared name) symbol ≡ Some next → (symbol ≡ Sign (codes "<")) × (next ≡ AtLabel n declared name no_labels)
orbit_moved n declared name (Word w) next moves = absurd cc
orbit_moved n declared name (Numeral m) next moves = absurd cc
orbit_moved n declared name (Sign s) next moves = let is = expected (codes "<") s (AtLabel n declared name no_labels) next moves in (ap Sign is.0, is.1)
orbit_moved n declared name Gone next moves = absurd cc
orbit_moved n declared name Stray next moves = absurd cc
orbit_moved n declared name End next moves = absurd cc

pub data LabelMoved (n : ℕ) (declared : List Embed) (name : List ℕ) (mask : Mask) (symbol : Symbol) (next : State) : Type 0 where
  OnLabel : (label : ℕ) → symbol ≡ Numeral label → next ≡ AtLabel n declared name (with_label mask label) → LabelMoved n declared name mask symbol next
  OnClose : symbol ≡ Sign (codes ">") → next ≡ AtKind n declared name mask → LabelMoved n declared name mask symbol next

pub label_moved : (n : ℕ) (declared : List Embed) (name : List ℕ) (mask : Mask) (symbol : Symbol) (next : State) → move (AtLabel n declared name mask) symbol ≡ Some next → LabelMoved n declared name mask symbol next
label_moved n declared name mask (Word w) next moves = absurd cc
label_moved n declared name mask (Numeral label) next moves = OnLabel label refl (sym (cc moves))
label_moved n declared name mask (Sign s) next moves = let is = expected (codes ">") s (AtKind n declared name mask) next moves in OnClose (ap Sign is.0) is.1
label_moved n declared name mask Gone next moves = absurd cc
label_moved n declared name mask Stray next moves = absurd cc
label_moved n declared name mask End next moves = absurd cc

pub kind_moved : (n : ℕ) (declared : List Embed) (name : List ℕ) (mask : Mask) (symbol : Symbol) (next : State) → move (AtKind n declared name mask) symbol ≡ Some next
    → (kind : Kind) × (symbol ≡ Word (kind_word kind)) × (kind ≢ kinds.Bool) × (next ≡ with_kind n declared name mask kind)
kind_moved n declared name mask (Word w) next moves = go (kind_named w) refl moves
  where
    go : (named : Option Kind) → kind_named w ≡ named → option_map (with_kind n declared name mask) named ≡ Some next
        → (kind : Kind) × (Word w ≡ Word (kind_word kind)) × (kind ≢ kinds.Bool) × (next ≡ with_kind n declared name mask kind)
    go None e is = absurd cc
    go (Some kind) e is = let spelled = kind_spelled w kind e in (kind, ap Word spelled.0, spelled.1, sym (cc is))
kind_moved n declared name mask (Numeral m) next moves = absurd cc
kind_moved n declared name mask (Sign s) next moves = absurd cc
kind_moved n declared name mask Gone next moves = absurd cc
kind_moved n declared name mask Stray next moves = absurd cc
kind_moved n declared name mask End next moves = absurd cc

-- ---- forms lead through the states, whatever a symbol passes

module _ {What : Type 0} (limit_of : Role → Symbol → Option What) where
  abbrev pub Led : State → List (Part Role) → State → Type 0
  Led state parts last = Leads limit_of never role_at move state parts last

  led_labels : (n : ℕ) (declared : List Embed) (name : List ℕ) (mask : Mask) (labels : List LabelForm) (rest : List (Part Role)) (last : State)
      → Led (AtLabel n declared name (with_labels mask labels)) rest last → Led (AtLabel n declared name mask) (spell_labels n mask labels rest) last
  led_labels n declared name mask [] rest last led = led
  led_labels n declared name mask (form ∷ labels) rest last led =
      (form.place, AtLabel n declared name (with_label mask form.label), refl, refl, led_labels n declared name (with_label mask form.label) labels rest last led)

  led_embeds : (n : ℕ) (declared : List Embed) (embeds : List EmbedForm) → AllByRecursion IsEmbed embeds → Led (AtEmbeds n declared) (spell_embeds n declared embeds []) (AtEmbeds n (declared_by declared embeds))
  led_embeds n declared [] good = refl
  led_embeds n declared (embed ∷ embeds) good =
      let name = embed.name.name in
      let last = AtEmbeds n (declared_by declared (embed ∷ embeds)) in
      let orbit = with_labels no_labels embed.labels in
      let rest = spell_embeds n (declared ++ embed_of embed ∷ []) embeds [] in
      let moves : move (AtKind n declared name orbit) (Word (kind_word embed.kind)) ≡ Some (AtEmbeds n (declared ++ embed_of embed ∷ [])) = ap (option_map (with_kind n declared name orbit)) (kind_again embed.kind good.0.1) in
      let behind = led_embeds n (declared ++ embed_of embed ∷ []) embeds good.1 in
      let free : is_among reserved name ≡ false = good.0.0 in
      let named : move (AtName n declared) (Word name) ≡ Some (AtOrbit n declared name) = rw free refl in
      let close : Led (AtLabel n declared name orbit) (sign Fixed (codes ">") ∷ word Fixed (kind_word embed.kind) ∷ rest) last = (0, AtKind n declared name orbit, refl, refl, (0, AtEmbeds n (declared ++ embed_of embed ∷ []), refl, moves, behind)) in (
        0,
        AtName n declared,
        refl,
        refl,
        (
          embed.name.place,
          AtOrbit n declared name,
          refl,
          named,
          (
            0,
            AtLabel n declared name no_labels,
            refl,
            refl,
            led_labels n declared name no_labels embed.labels (sign Fixed (codes ">") ∷ word Fixed (kind_word embed.kind) ∷ rest) last close,
          ),
        ),
      )

  pub led_form : (form : SchemaForm) → IsForm form → Led AtDim (spell form []) (AtEmbeds form.dim (map embed_of form.embeds))
  led_form form good =
      let embeds = subst (λ (es : List Embed). Led (AtEmbeds form.dim []) (spell_embeds form.dim [] form.embeds []) (AtEmbeds form.dim es)) (declared-all form.embeds) (led_embeds form.dim [] form.embeds good) in
      (0, AtTop, refl, refl, (0, AtEmbeds form.dim [], refl, refl, embeds))

  -- ---- and each path is a form

  -- what parts from a state on to a last one are
  abbrev Rest : State → List (Part Role) → State → Type 0
  Rest AtDim parts last = (form : SchemaForm) × IsForm form × (parts ≡ spell form []) × (last ≡ AtEmbeds form.dim (declared_by [] form.embeds))
  Rest AtTop parts last = (form : SchemaForm) × IsForm form × (parts ≡ number Dimension form.dim ∷ spell_embeds form.dim [] form.embeds []) × (last ≡ AtEmbeds form.dim (declared_by [] form.embeds))
  Rest (AtEmbeds n declared) parts last = (embeds : List EmbedForm) × AllByRecursion IsEmbed embeds × (parts ≡ spell_embeds n declared embeds []) × (last ≡ AtEmbeds n (declared_by declared embeds))
  Rest (AtName n declared) parts last = (embed : EmbedForm) × (embeds : List EmbedForm) × AllByRecursion IsEmbed (embed ∷ embeds)
      × (word (EmbedWord (length declared + 1)) (codes "embed") ∷ parts ≡ spell_embeds n declared (embed ∷ embeds) []) × (last ≡ AtEmbeds n (declared_by declared (embed ∷ embeds)))
  Rest (AtOrbit n declared name) parts last = (labels : List LabelForm) × (kind : Kind) × (embeds : List EmbedForm) × (kind ≢ kinds.Bool) × AllByRecursion IsEmbed embeds
      × (parts ≡ sign Fixed (codes "<") ∷ spell_labels n no_labels labels (sign Fixed (codes ">") ∷ word Fixed (kind_word kind) ∷ spell_embeds n (declared ++ record { name = name; mask = with_labels no_labels labels; kind = kind } ∷ []) embeds []))
      × (last ≡ AtEmbeds n (declared_by (declared ++ record { name = name; mask = with_labels no_labels labels; kind = kind } ∷ []) embeds))
  Rest (AtLabel n declared name mask) parts last = (labels : List LabelForm) × (kind : Kind) × (embeds : List EmbedForm) × (kind ≢ kinds.Bool) × AllByRecursion IsEmbed embeds
      × (parts ≡ spell_labels n mask labels (sign Fixed (codes ">") ∷ word Fixed (kind_word kind) ∷ spell_embeds n (declared ++ record { name = name; mask = with_labels mask labels; kind = kind } ∷ []) embeds []))
      × (last ≡ AtEmbeds n (declared_by (declared ++ record { name = name; mask = with_labels mask labels; kind = kind } ∷ []) embeds))
  Rest (AtKind n declared name mask) parts last = (kind : Kind) × (embeds : List EmbedForm) × (kind ≢ kinds.Bool) × AllByRecursion IsEmbed embeds
      × (parts ≡ word Fixed (kind_word kind) ∷ spell_embeds n (declared ++ record { name = name; mask = mask; kind = kind } ∷ []) embeds [])
      × (last ≡ AtEmbeds n (declared_by (declared ++ record { name = name; mask = mask; kind = kind } ∷ []) embeds))

  the_part : (part : Part Role) (symbol : Symbol) (role : Role) → part.symbol ≡ symbol → part.role ≡ role → part ≡ record { symbol = symbol; role = role }
  the_part part symbol role one two = ap (λ (s : Symbol). let p : Part Role = record { symbol = s; role = part.role } in p) one ∙ ap (λ (r : Role). let p : Part Role = record { symbol = symbol; role = r } in p) two

  -- the part, and what the parts behind it are
  both : (part one : Part Role) (parts rest : List (Part Role)) → part ≡ one → parts ≡ rest → part ∷ parts ≡ one ∷ rest
  both part one parts rest e f = ap (λ (p : Part Role). p ∷ parts) e ∙ ap (λ (ps : List (Part Role)). one ∷ ps) f

  rest_is : (parts : List (Part Role)) (state last : State) → Led state parts last → IsTrue (is_whole last) → Rest state parts last
  rest_is [] AtDim last led whole = let no_end : IsTrue (is_whole AtDim) = subst (λ (s : State). IsTrue (is_whole s)) (sym led) whole in absurd cc
  rest_is [] AtTop last led whole = let no_end : IsTrue (is_whole AtTop) = subst (λ (s : State). IsTrue (is_whole s)) (sym led) whole in absurd cc
  rest_is [] (AtEmbeds n declared) last led whole = ([], tt, refl, sym led)
  rest_is [] (AtName n declared) last led whole = let no_end : IsTrue (is_whole (AtName n declared)) = subst (λ (s : State). IsTrue (is_whole s)) (sym led) whole in absurd cc
  rest_is [] (AtOrbit n declared name) last led whole = let no_end : IsTrue (is_whole (AtOrbit n declared name)) = subst (λ (s : State). IsTrue (is_whole s)) (sym led) whole in absurd cc
  rest_is [] (AtLabel n declared name mask) last led whole = let no_end : IsTrue (is_whole (AtLabel n declared name mask)) = subst (λ (s : State). IsTrue (is_whole s)) (sym led) whole in absurd cc
  rest_is [] (AtKind n declared name mask) last led whole = let no_end : IsTrue (is_whole (AtKind n declared name mask)) = subst (λ (s : State). IsTrue (is_whole s)) (sym led) whole in absurd cc
  rest_is (part ∷ parts) AtDim last (place, next, is, moves, led) whole =
      let at = dim_moved part.symbol next moves in
      let (form, good, spelled, end) = rest_is parts AtTop last (subst (λ (s : State). Led s parts last) at.1 led) whole in
      (form, good, both part (word Fixed (codes "dim")) parts _ (the_part part (Word (codes "dim")) Fixed at.0 is) spelled, end)
  rest_is (part ∷ parts) AtTop last (place, next, is, moves, led) whole =
      let (n, symbol, at) = top_moved part.symbol next moves in
      let (embeds, good, spelled, end) = rest_is parts (AtEmbeds n []) last (subst (λ (s : State). Led s parts last) at led) whole in
      (record { dim = n; embeds = embeds }, good, both part (number Dimension n) parts _ (the_part part (Numeral n) Dimension symbol is) spelled, end)
  rest_is (part ∷ parts) (AtEmbeds n declared) last (place, next, is, moves, led) whole =
      let at = embeds_moved n declared part.symbol next moves in
      let (embed, embeds, good, spelled, end) = rest_is parts (AtName n declared) last (subst (λ (s : State). Led s parts last) at.1 led) whole in
      let first = the_part part (Word (codes "embed")) (EmbedWord (length declared + 1)) at.0 is in
      (embed ∷ embeds, good, ap (λ (p : Part Role). p ∷ parts) first ∙ spelled, end)
  rest_is (part ∷ parts) (AtName n declared) last (place, next, is, moves, led) whole =
      let (w, symbol, free, at) = name_moved n declared part.symbol next moves in
      let (labels, kind, embeds, other, good, spelled, end) = rest_is parts (AtOrbit n declared w) last (subst (λ (s : State). Led s parts last) at led) whole in
      let name : Mention = record { name = w; place = place } in
      let embed : EmbedForm = record { name = name; labels = labels; kind = kind } in
      let first = the_part part (Word w) (NameAt (names_in declared) place) symbol is in
      (embed, embeds, ((free, other), good), ap (λ (ps : List (Part Role)). word (EmbedWord (length declared + 1)) (codes "embed") ∷ ps) (both part (word (NameAt (names_in declared) place) w) parts _ first spelled), end)
  rest_is (part ∷ parts) (AtOrbit n declared name) last (place, next, is, moves, led) whole =
      let at = orbit_moved n declared name part.symbol next moves in
      let (labels, kind, embeds, other, good, spelled, end) = rest_is parts (AtLabel n declared name no_labels) last (subst (λ (s : State). Led s parts last) at.1 led) whole in
      (labels, kind, embeds, other, good, both part (sign Fixed (codes "<")) parts _ (the_part part (Sign (codes "<")) Fixed at.0 is) spelled, end)
  rest_is (part ∷ parts) (AtLabel n declared name mask) last (place, next, is, moves, led) whole =
      elim (label_moved n declared name mask part.symbol next moves) [
        | OnLabel label symbol at ↦
            let (labels, kind, embeds, other, good, spelled, end) = rest_is parts (AtLabel n declared name (with_label mask label)) last (subst (λ (s : State). Led s parts last) at led) whole in
            let role : part.role ≡ LabelAt n mask place = rw symbol at is in
            let form : LabelForm = record { label = label; place = place } in
            (form ∷ labels, kind, embeds, other, good, both part (number (LabelAt n mask place) label) parts _ (the_part part (Numeral label) (LabelAt n mask place) symbol role) spelled, end)
        | OnClose symbol at ↦
            let (kind, embeds, other, good, spelled, end) = rest_is parts (AtKind n declared name mask) last (subst (λ (s : State). Led s parts last) at led) whole in
            let role : part.role ≡ Fixed = rw symbol at is in
            ([], kind, embeds, other, good, both part (sign Fixed (codes ">")) parts _ (the_part part (Sign (codes ">")) Fixed symbol role) spelled, end)
      ]
  rest_is (part ∷ parts) (AtKind n declared name mask) last (place, next, is, moves, led) whole =
      let (kind, symbol, other, at) = kind_moved n declared name mask part.symbol next moves in
      let (embeds, good, spelled, end) = rest_is parts (with_kind n declared name mask kind) last (subst (λ (s : State). Led s parts last) at led) whole in
      (kind, embeds, other, good, both part (word Fixed (kind_word kind)) parts _ (the_part part (Word (kind_word kind)) Fixed symbol is) spelled, end)

  -- the parts of a path through a whole schema, and what the last state knows of them
  pub record IsFormOf (parts : List (Part Role)) (last : State) : Type 0 where
    pub form : SchemaForm
    pub good : IsForm form
    pub spelled : parts ≡ spell form []
    pub end : last ≡ AtEmbeds form.dim (map embed_of form.embeds)

  pub form_is : (parts : List (Part Role)) (last : State) → Led AtDim parts last → IsTrue (is_whole last) → IsFormOf parts last
  form_is parts last led whole =
      let (form, good, spelled, end) = rest_is parts AtDim last led whole in
      record { form = form; good = good; spelled = spelled; end = end ∙ ap (AtEmbeds form.dim) (declared-all form.embeds) }

  -- ---- each state can be gone on from

  pub goes_on : (state : State) → (rest : List (Part Role)) × (last : State) × Led state rest last × IsTrue (is_whole last)
  goes_on AtDim = (word Fixed (codes "dim") ∷ number Dimension 1 ∷ [], AtEmbeds 1 [], (0, AtTop, refl, refl, (0, AtEmbeds 1 [], refl, refl, refl)), refl)
  goes_on AtTop = (number Dimension 1 ∷ [], AtEmbeds 1 [], (0, AtEmbeds 1 [], refl, refl, refl), refl)
  goes_on (AtEmbeds n declared) = ([], AtEmbeds n declared, refl, refl)
  goes_on (AtName n declared) =
      let name = codes "e" in
      let last = with_kind n declared name no_labels kinds.Int in (
        word (NameAt (names_in declared) 0) name ∷ sign Fixed (codes "<") ∷ sign Fixed (codes ">") ∷ word Fixed (codes "int") ∷ [],
        last,
        (0, AtOrbit n declared name, refl, refl, (0, AtLabel n declared name no_labels, refl, refl, (0, AtKind n declared name no_labels, refl, refl, (0, last, refl, refl, refl)))),
        refl,
      )
  goes_on (AtOrbit n declared name) =
      let last = with_kind n declared name no_labels kinds.Int in (
        sign Fixed (codes "<") ∷ sign Fixed (codes ">") ∷ word Fixed (codes "int") ∷ [],
        last,
        (0, AtLabel n declared name no_labels, refl, refl, (0, AtKind n declared name no_labels, refl, refl, (0, last, refl, refl, refl))),
        refl,
      )
  goes_on (AtLabel n declared name mask) =
      let last = with_kind n declared name mask kinds.Int in
      (sign Fixed (codes ">") ∷ word Fixed (codes "int") ∷ [], last, (0, AtKind n declared name mask, refl, refl, (0, last, refl, refl, refl)), refl)
  goes_on (AtKind n declared name mask) =
      let last = with_kind n declared name mask kinds.Int in
      (word Fixed (codes "int") ∷ [], last, (0, last, refl, refl, refl), refl)
