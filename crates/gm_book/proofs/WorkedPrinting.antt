-- Four worked books, of both versions, with an embedding and with expressions: their canonical texts, by computation, and that these texts stand for them.
use Rattle.std.proofs.Common.{◌≡◌, ℕ, ◌≤◌, List, [], ◌∷◌, length, Some, None, inl, inr, pos, codes, refl, sym, subst, arith}
use Rattle.std.proofs.lemmas.Fmt.{decimal_digit}
use Rattle.gm_model.specs.declared.rule.Side.{Side}
use Rattle.gm_model.specs.declared.rule.Side.TheVariants.{Left, Right}
use Rattle.gm_model.specs.declared.schema.Schema.{Schema}
use Rattle.gm_model.specs.declared.word.Letter.TheVariants.{At, Gone}
use Rattle.gm_model.specs.declared.expr.BinOp.TheVariants.{Add, Mul, Eq}
use Rattle.gm_model.specs.declared.expr.DartTerm.{DartTerm}
use Rattle.gm_model.specs.Rules.{Rule, RuleNode, links_on}
use Rattle.gm_model.specs.Trees.{Tree, Number, Param as Parameter, Field, Binary}
use Rattle.gm_model.specs.declared.value.Kind.TheVariants.{Bool as Truth, Vec2}
use Rattle.gm_text.specs.SchemaText.{SchemaForm, labels_in}
use Rattle.gm_forms.specs.BookText.{BookText}
use Rattle.gm_book.specs.Canonical.{canonical}
use Rattle.std.specs.List.{AllByRecursion}
use Rattle.gm_book.proofs.CanonicalForm.{AreNew, set_names, IsWritable, IsGoodLink, IsGoodValue, HasGoodSets, HasGoodExprs}
use Rattle.gm_book.proofs.CanonicalBook.{written_again}

abbrev a : RuleNode
a = record { name = codes "a"; left = Some (At 0 ∷ At 1 ∷ []); right = Some (At 0 ∷ Gone ∷ []); sets = [] }

abbrev b : RuleNode
b = record { name = codes "b_2"; left = None; right = Some (Gone ∷ At 2 ∷ []); sets = [] }

-- one preserved node and one added node
abbrev split : Rule
split = record {
  name = codes "split";
  params = [];
  nodes = a ∷ b ∷ [];
  left_links = record { from = 0; label = 2; to = 0 } ∷ [];
  right_links = record { from = 0; label = 1; to = 1 } ∷ [];
  hooks = 0 ∷ [];
  pre = None;
}

abbrev plane : Schema
plane = record { dim = 2; embeds = [] }

abbrev flat : SchemaForm
flat = record { dim = 2; embeds = [] }

split_text : List ℕ
split_text = codes "book 1\ndim 2\nrule split\nleft\na <0 1> hook\na -2- a\nright\na <0 _>\nb_2 <_ 2>\na -1- b_2\n"

split_is_printed : canonical 1 plane (split ∷ []) ≡ split_text
unfolding split_text
split_is_printed = rw (decimal_digit 0 (omega arith), decimal_digit 1 (omega arith), decimal_digit 2 (omega arith)) refl

split_links : (side : Side) → AllByRecursion (IsGoodLink 2 split side) (links_on split side)
split_links Left = (record { label = omega arith; from = refl; to = refl }, tt)
split_links Right = (record { label = omega arith; from = refl; to = refl }, tt)

few_links : (side : Side) → length (links_on split side) ≤ 256
few_links Left = omega arith
few_links Right = omega arith

split_is_writable : IsWritable 2 split
split_is_writable = record {
  name = ((omega arith, (refl, refl)), refl);
  nodes = (
    record { name = ((omega arith, (refl, refl)), refl); left = (omega arith, (omega arith, (omega arith, tt))); right = (omega arith, (omega arith, (tt, tt))) },
    (record { name = ((omega arith, (refl, refl)), refl); left = tt; right = (omega arith, (tt, (omega arith, tt))) }, tt),
  );
  differ = (refl, (refl, tt));
  few_nodes = omega arith;
  left_nodes = a ∷ [];
  added_nodes = b ∷ [];
  left_first = refl;
  left = (refl, tt);
  added = ((refl, refl), tt);
  links = split_links;
  few_links = few_links;
  hooks = refl;
  params = tt;
  params_differ = tt;
  few_params = omega arith;
}

-- a node without assignments
unset : (schema : Schema) (rule : Rule) (node : RuleNode) → node.sets ≡ [] → HasGoodSets schema rule node
unset schema rule node none = record {
  each = subst (AllByRecursion _) (sym none) tt;
  differ = subst (λ sets. AreNew [] (set_names schema sets)) (sym none) tt;
  on_right = λ absent. none;
}

split_is_plain : HasGoodExprs plane split
split_is_plain = record { sets = (unset plane split a refl, (unset plane split b refl, tt)); pre = λ tree is. absurd cc }

split_is_read : BookText split_text 1 plane (split ∷ [])
split_is_read = subst (λ text. BookText text 1 plane (split ∷ [])) split_is_printed
    (written_again 1 flat (split ∷ []) tt (refl, (refl, tt)) tt (record { known = inl refl; hooks = (λ one. omega arith, tt); some = omega arith; low = omega arith; few = omega arith; each = (split_is_writable, tt); differ = (refl, tt) }) (split_is_plain, tt))

-- ---- two hooks

abbrev side : List ℕ → RuleNode
side name = record { name = name; left = Some (At 0 ∷ []); right = Some (At 0 ∷ []); sets = [] }

-- two edges of which each has a hook, and which are joined
abbrev sew : Rule
sew = record {
  name = codes "sew";
  params = [];
  nodes = side (codes "a") ∷ side (codes "b") ∷ [];
  left_links = [];
  right_links = record { from = 0; label = 2; to = 1 } ∷ [];
  hooks = 0 ∷ 1 ∷ [];
  pre = None;
}

sew_text : List ℕ
sew_text = codes "book 2\ndim 2\nrule sew\nleft\na <0> hook\nb <0> hook\nright\na <0>\nb <0>\na -2- b\n"

sew_is_printed : canonical 2 plane (sew ∷ []) ≡ sew_text
unfolding sew_text
sew_is_printed = rw (decimal_digit 0 (omega arith), decimal_digit 2 (omega arith)) refl

sew_links : (side : Side) → AllByRecursion (IsGoodLink 2 sew side) (links_on sew side)
sew_links Left = tt
sew_links Right = (record { label = omega arith; from = refl; to = refl }, tt)

few_in_sew : (side : Side) → length (links_on sew side) ≤ 256
few_in_sew Left = omega arith
few_in_sew Right = omega arith

sew_is_writable : IsWritable 2 sew
sew_is_writable = record {
  name = ((omega arith, (refl, refl)), refl);
  nodes = (
    record { name = ((omega arith, (refl, refl)), refl); left = (omega arith, (omega arith, tt)); right = (omega arith, (omega arith, tt)) },
    (record { name = ((omega arith, (refl, refl)), refl); left = (omega arith, (omega arith, tt)); right = (omega arith, (omega arith, tt)) }, tt),
  );
  differ = (refl, (refl, tt));
  few_nodes = omega arith;
  left_nodes = side (codes "a") ∷ side (codes "b") ∷ [];
  added_nodes = [];
  left_first = refl;
  left = (refl, (refl, tt));
  added = tt;
  links = sew_links;
  few_links = few_in_sew;
  hooks = refl;
  params = tt;
  params_differ = tt;
  few_params = omega arith;
}

sew_is_plain : (schema : Schema) → HasGoodExprs schema sew
sew_is_plain schema = record { sets = (unset schema sew (side (codes "a")) refl, (unset schema sew (side (codes "b")) refl, tt)); pre = λ tree is. absurd cc }

sew_is_read : BookText sew_text 2 plane (sew ∷ [])
sew_is_read = subst (λ text. BookText text 2 plane (sew ∷ [])) sew_is_printed
    (written_again 2 flat (sew ∷ []) tt (refl, (refl, tt)) tt (record { known = inr refl; hooks = (λ one. absurd (omega (arith, one)), tt); some = omega arith; low = omega arith; few = omega arith; each = (sew_is_writable, tt); differ = (refl, tt) }) (sew_is_plain plane, tt))

-- ---- an embedding

-- each vertex of the plane has a position
abbrev points : Schema
points = record { dim = 2; embeds = record { name = codes "pos"; mask = record { bits = 6 }; kind = Vec2 } ∷ [] }

abbrev points_form : SchemaForm
points_form = record {
  dim = 2;
  embeds = record { name = record { name = codes "pos"; place = 0 }; labels = record { label = 1; place = 0 } ∷ record { label = 2; place = 0 } ∷ []; kind = Vec2 } ∷ [];
}

points_text : List ℕ
points_text = codes "book 2\ndim 2\nembed pos <1 2> vec2\nrule sew\nleft\na <0> hook\nb <0> hook\nright\na <0>\nb <0>\na -2- b\n"

points_are_printed : canonical 2 points (sew ∷ []) ≡ points_text
unfolding points_text labels_in
points_are_printed = rw (decimal_digit 0 (omega arith), decimal_digit 1 (omega arith), decimal_digit 2 (omega arith)) refl

points_are_read : BookText points_text 2 points (sew ∷ [])
points_are_read = subst (λ text. BookText text 2 points (sew ∷ [])) points_are_printed
    (written_again 2 points_form (sew ∷ []) ((refl, λ e. absurd cc), tt) (refl, (refl, (refl, (refl, (refl, (refl, (refl, (refl, (refl, tt))))))))) (((omega arith, (refl, refl)), omega arith), tt)
    (record { known = inr refl; hooks = (λ one. absurd (omega (arith, one)), tt); some = omega arith; low = omega arith; few = omega arith; each = (sew_is_writable, tt); differ = (refl, tt) }) (sew_is_plain points, tt))

-- ---- expressions

abbrev here : DartTerm
here = record { node = 0; path = [] }

abbrev there : DartTerm
there = record { node = 0; path = 0 ∷ [] }

-- where the vertex comes to
abbrev moved : Tree
moved = Binary Add (Field here 0) (Binary Mul (Parameter 0) (Number (pos 2)))

-- the edge has no length
abbrev short : Tree
short = Binary Eq (Field here 0) (Field there 0)

abbrev edge : RuleNode
edge = record { name = codes "a"; left = Some (At 0 ∷ []); right = Some (At 0 ∷ []); sets = record { embed = 0; tree = moved } ∷ [] }

abbrev lift : Rule
lift = record { name = codes "lift"; params = record { name = codes "v"; kind = Vec2 } ∷ []; nodes = edge ∷ []; left_links = []; right_links = []; hooks = 0 ∷ []; pre = Some short }

lift_text : List ℕ
lift_text = codes "book 2\ndim 2\nembed pos <1 2> vec2\nrule lift(v: vec2)\nleft\na <0> hook\nright\na <0> with pos = a.pos + v * 2\npre a.pos == a@0.pos\n"

lift_is_printed : canonical 2 points (lift ∷ []) ≡ lift_text
unfolding lift_text labels_in
lift_is_printed = rw (decimal_digit 0 (omega arith), decimal_digit 1 (omega arith), decimal_digit 2 (omega arith)) refl

no_links : (side : Side) → AllByRecursion (IsGoodLink 2 lift side) (links_on lift side)
no_links Left = tt
no_links Right = tt

few_in_lift : (side : Side) → length (links_on lift side) ≤ 256
few_in_lift Left = omega arith
few_in_lift Right = omega arith

lift_is_writable : IsWritable 2 lift
lift_is_writable = record {
  name = ((omega arith, (refl, refl)), refl);
  nodes = (record { name = ((omega arith, (refl, refl)), refl); left = (omega arith, (omega arith, tt)); right = (omega arith, (omega arith, tt)) }, tt);
  differ = (refl, tt);
  few_nodes = omega arith;
  left_nodes = edge ∷ [];
  added_nodes = [];
  left_first = refl;
  left = (refl, tt);
  added = tt;
  links = no_links;
  few_links = few_in_lift;
  hooks = refl;
  params = (((omega arith, (refl, refl)), refl), tt);
  params_differ = (refl, tt);
  few_params = omega arith;
}

moved_is_good : IsGoodValue points lift moved (Some Vec2)
moved_is_good = record {
  can = (((refl, tt), refl), (refl, (2, refl, omega arith)));
  short = λ marks. (refl, (refl, (refl, (refl, (refl, (refl, (refl, tt)))))));
  kind_is = refl;
}

short_is_good : IsGoodValue points lift short (Some Truth)
short_is_good = record {
  can = (((refl, tt), refl), ((refl, (omega arith, tt)), refl));
  short = λ marks. (refl, (refl, (refl, (refl, (refl, (refl, (refl, (refl, (refl, tt)))))))));
  kind_is = refl;
}

lift_is_good : HasGoodExprs points lift
lift_is_good = record {
  sets = (record { each = (record { embed = omega arith; value = moved_is_good }, tt); differ = (refl, tt); on_right = λ absent. absurd cc }, tt);
  pre = λ tree is. subst (λ t. IsGoodValue points lift t (Some Truth)) (cc is) short_is_good;
}

lift_is_read : BookText lift_text 2 points (lift ∷ [])
lift_is_read = subst (λ text. BookText text 2 points (lift ∷ [])) lift_is_printed
    (written_again 2 points_form (lift ∷ []) ((refl, λ e. absurd cc), tt) (refl, (refl, (refl, (refl, (refl, (refl, (refl, (refl, (refl, tt))))))))) (((omega arith, (refl, refl)), omega arith), tt)
    (record { known = inr refl; hooks = (λ one. absurd (omega (arith, one)), tt); some = omega arith; low = omega arith; few = omega arith; each = (lift_is_writable, tt); differ = (refl, tt) }) (lift_is_good, tt))
