-- A spelling is that of one schema, with the places of its names and labels.
use Rattle.std.proofs.Common.{◌≡◌, ◌≢◌, ℕ, ◌+◌, List, [], ◌∷◌, ◌++◌, length, Some, refl, sym, ap, ◌∙◌, codes}
use Rattle.std.specs.List.{AllByRecursion}
use Rattle.gm_model.specs.declared.schema.Embed.{Embed}
use Rattle.gm_model.specs.declared.value.Kind.{Kind}
use Rattle.gm_model.specs.declared.value.Kind.TheVariants as kinds
use Rattle.gm_model.specs.declared.word.Mask.{Mask}
use Rattle.gm_model.specs.Names.{Mention}
use Rattle.gm_model.specs.Symbols.{Symbol, Word, Numeral, Sign}
use Rattle.gm_model.specs.Reading.{Part, word, number, sign}
use Rattle.gm_text.specs.SchemaText.{LabelForm, EmbedForm, SchemaForm, Role, Fixed, Dimension, EmbedWord, NameAt, LabelAt, no_labels, with_label, embed_of, names_in, kind_word, spell_labels, spell_embeds, spell, IsEmbed, IsForm}
use Rattle.gm_text.specs.inner.SchemaReading.{kind_named}
use Rattle.gm_text.proofs.SchemaGrammar.{kind_again}

front_is : (part other : Part Role) (parts others : List (Part Role)) → part ∷ parts ≡ other ∷ others → part ≡ other
front_is part other parts others e = cc e

behind_is : (part other : Part Role) (parts others : List (Part Role)) → part ∷ parts ≡ other ∷ others → parts ≡ others
behind_is part other parts others e = cc e

abbrev number_in : Symbol → ℕ
number_in (Numeral n) = n
number_in symbol = 0

abbrev word_in : Symbol → List ℕ
word_in (Word w) = w
word_in symbol = []

abbrev place_in : Role → ℕ
place_in (NameAt names place) = place
place_in (LabelAt n mask place) = place
place_in role = 0

numeral_of : (part other : Part Role) → part ≡ other → number_in part.symbol ≡ number_in other.symbol
numeral_of part other e = ap (λ (p : Part Role). number_in p.symbol) e

word_of : (part other : Part Role) → part ≡ other → word_in part.symbol ≡ word_in other.symbol
word_of part other e = ap (λ (p : Part Role). word_in p.symbol) e

place_of : (part other : Part Role) → part ≡ other → place_in part.role ≡ place_in other.role
place_of part other e = ap (λ (p : Part Role). place_in p.role) e

-- a sign is no label
no_label : (s : List ℕ) (role : Role) (label : ℕ) (parts others : List (Part Role)) → sign Fixed s ∷ parts ≡ number role label ∷ others → ⊥
no_label s role label parts others e =
    let same : Sign s ≡ Numeral label = ap (λ (p : Part Role). p.symbol) (front_is (sign Fixed s) (number role label) parts others e) in
    absurd cc

same_labels : (n : ℕ) (mask : Mask) (labels others : List LabelForm) (rest more : List (Part Role)) → spell_labels n mask labels (sign Fixed (codes ">") ∷ rest) ≡ spell_labels n mask others (sign Fixed (codes ">") ∷ more) → (labels ≡ others) × (rest ≡ more)
same_labels n mask [] [] rest more e = (refl, behind_is (sign Fixed (codes ">")) (sign Fixed (codes ">")) rest more e)
same_labels n mask [] (other ∷ others) rest more e = absurd (no_label (codes ">") (LabelAt n mask other.place) other.label rest (spell_labels n (with_label mask other.label) others (sign Fixed (codes ">") ∷ more)) e)
same_labels n mask (form ∷ labels) [] rest more e = absurd (no_label (codes ">") (LabelAt n mask form.place) form.label more (spell_labels n (with_label mask form.label) labels (sign Fixed (codes ">") ∷ rest)) (sym e))
same_labels n mask (form ∷ labels) (other ∷ others) rest more e =
    let one = number (LabelAt n mask form.place) form.label in
    let two = number (LabelAt n mask other.place) other.label in
    let behind_one = spell_labels n (with_label mask form.label) labels (sign Fixed (codes ">") ∷ rest) in
    let behind_two = spell_labels n (with_label mask other.label) others (sign Fixed (codes ">") ∷ more) in
    let first = front_is one two behind_one behind_two e in
    let label : form.label ≡ other.label = numeral_of one two first in
    let place : form.place ≡ other.place = place_of one two first in
    let tail : behind_one ≡ behind_two = behind_is one two behind_one behind_two e in
    let same : form ≡ other = ap (λ (l : ℕ). let f : LabelForm = record { label = l; place = form.place } in f) label ∙ ap (λ (p : ℕ). let f : LabelForm = record { label = other.label; place = p } in f) place in
    let behind = same_labels n (with_label mask form.label) labels others rest more (tail ∙ ap (λ (l : ℕ). spell_labels n (with_label mask l) others (sign Fixed (codes ">") ∷ more)) (sym label)) in
    (ap (λ (f : LabelForm). f ∷ labels) same ∙ ap (λ (fs : List LabelForm). other ∷ fs) behind.0, behind.1)

same_kind : (kind other : Kind) → kind ≢ kinds.Bool → other ≢ kinds.Bool → kind_word kind ≡ kind_word other → kind ≡ other
same_kind kind other one two e =
    let both : Some kind ≡ Some other = sym (kind_again kind one) ∙ ap kind_named e ∙ kind_again other two in
    cc both

same_embeds : (n : ℕ) (declared : List Embed) (embeds others : List EmbedForm) → AllByRecursion IsEmbed embeds → AllByRecursion IsEmbed others → spell_embeds n declared embeds [] ≡ spell_embeds n declared others [] → embeds ≡ others
same_embeds n declared [] [] good fine e = refl
same_embeds n declared [] (other ∷ others) good fine e = absurd cc
same_embeds n declared (embed ∷ embeds) [] good fine e = absurd cc
same_embeds n declared (embed ∷ embeds) (other ∷ others) good fine e =
    let behind_one = spell_embeds n (declared ++ embed_of embed ∷ []) embeds [] in
    let behind_two = spell_embeds n (declared ++ embed_of other ∷ []) others [] in
    let kind_one = word Fixed (kind_word embed.kind) in
    let kind_two = word Fixed (kind_word other.kind) in
    let orbit_one = spell_labels n no_labels embed.labels (sign Fixed (codes ">") ∷ kind_one ∷ behind_one) in
    let orbit_two = spell_labels n no_labels other.labels (sign Fixed (codes ">") ∷ kind_two ∷ behind_two) in
    let name_one = word (NameAt (names_in declared) embed.name.place) embed.name.name in
    let name_two = word (NameAt (names_in declared) other.name.place) other.name.name in
    let begin = word (EmbedWord (length declared + 1)) (codes "embed") in
    let opens = sign Fixed (codes "<") in
    let named = behind_is begin begin (name_one ∷ opens ∷ orbit_one) (name_two ∷ opens ∷ orbit_two) e in
    let first = front_is name_one name_two (opens ∷ orbit_one) (opens ∷ orbit_two) named in
    let name : embed.name.name ≡ other.name.name = word_of name_one name_two first in
    let place : embed.name.place ≡ other.name.place = place_of name_one name_two first in
    let orbit = behind_is opens opens orbit_one orbit_two (behind_is name_one name_two (opens ∷ orbit_one) (opens ∷ orbit_two) named) in
    let labels = same_labels n no_labels embed.labels other.labels (kind_one ∷ behind_one) (kind_two ∷ behind_two) orbit in
    let kind_is : kind_word embed.kind ≡ kind_word other.kind = word_of kind_one kind_two (front_is kind_one kind_two behind_one behind_two labels.1) in
    let tail : behind_one ≡ behind_two = behind_is kind_one kind_two behind_one behind_two labels.1 in
    let kind = same_kind embed.kind other.kind good.0.1 fine.0.1 kind_is in
    let mention : embed.name ≡ other.name = ap (λ (w : List ℕ). let m : Mention = record { name = w; place = embed.name.place } in m) name ∙ ap (λ (p : ℕ). let m : Mention = record { name = other.name.name; place = p } in m) place in
    let same : embed ≡ other =
    ap (λ (m : Mention). let f : EmbedForm = record { name = m; labels = embed.labels; kind = embed.kind } in f) mention
    ∙ ap (λ (ls : List LabelForm). let f : EmbedForm = record { name = other.name; labels = ls; kind = embed.kind } in f) labels.0
    ∙ ap (λ (k : Kind). let f : EmbedForm = record { name = other.name; labels = other.labels; kind = k } in f) kind in
    let rest = same_embeds n (declared ++ embed_of embed ∷ []) embeds others good.1 fine.1 (tail ∙ ap (λ (f : EmbedForm). spell_embeds n (declared ++ embed_of f ∷ []) others []) (sym same)) in
    ap (λ (f : EmbedForm). f ∷ embeds) same ∙ ap (λ (fs : List EmbedForm). other ∷ fs) rest

pub same_form : (form other : SchemaForm) → IsForm form → IsForm other → spell form [] ≡ spell other [] → form ≡ other
same_form form other good fine e =
    let begin = word Fixed (codes "dim") in
    let one = number Dimension form.dim in
    let two = number Dimension other.dim in
    let behind_one = spell_embeds form.dim [] form.embeds [] in
    let behind_two = spell_embeds other.dim [] other.embeds [] in
    let named = behind_is begin begin (one ∷ behind_one) (two ∷ behind_two) e in
    let dim : form.dim ≡ other.dim = numeral_of one two (front_is one two behind_one behind_two named) in
    let tail : behind_one ≡ behind_two = behind_is one two behind_one behind_two named in
    let embeds = same_embeds form.dim [] form.embeds other.embeds good fine (tail ∙ ap (λ (n : ℕ). spell_embeds n [] other.embeds []) (sym dim)) in
    ap (λ (n : ℕ). let f : SchemaForm = record { dim = n; embeds = form.embeds } in f) dim ∙ ap (λ (es : List EmbedForm). let f : SchemaForm = record { dim = other.dim; embeds = es } in f) embeds
