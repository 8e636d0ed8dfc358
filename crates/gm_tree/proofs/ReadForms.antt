-- What was built over an expression that stands there is its tree, or the first fault of its names.
use Rattle.std.proofs.Common.{◌≡◌, ◌≤◌, ◌+◌, ◌⊎◌, inl, inr, ℕ, zero, suc, Bool, true, false, cond, List, [], ◌∷◌, Option, Some, None, refl, sym, ap, subst, ◌∙◌, arith}
use Rattle.std.proofs.lemmas.Bool.Decides.{nat_tests}
use Rattle.std.specs.List.{AllByRecursion, Contains}
use Rattle.std.specs.Prelude.{◌||◌, ◌&&◌, nat_eq, nat_lt}
use Rattle.gm_model.specs.declared.limit.LimitKind.{LimitKind}
use Rattle.gm_model.specs.declared.limit.LimitKind.TheVariants as limits
use Rattle.gm_model.specs.Reading.{Part, symbols_in, sign, ArePlaced}
use Rattle.gm_model.specs.Symbols.{Mark, symbols}
use Rattle.gm_model.specs.Trees.{Tree}
use Rattle.gm_text.specs.SchemaText.{LabelForm}
use Rattle.gm_text.specs.inner.Cursor.{Cursor}
use Rattle.gm_text.specs.inner.SchemaAnswers.{marks_left}
use Rattle.gm_parse.specs.declared.fault.ExprFault.{ExprFault}
use Rattle.gm_parse.specs.declared.fault.ExprFault.TheVariants as faults
use Rattle.gm_parse.specs.Forms.{TermForm, Form, NumberForm, TruthForm, ParamForm, FieldForm, SameForm, CountForm, CollectForm, CallForm, ParenForm, MinusForm, NotForm, BinaryForm, IfForm, Arguments, First, Further, IsGood}
use Rattle.gm_parse.specs.Spelling.{Role, Fixed, greatest, limit_of, limit_in, passed_by, counted_from, parts_of, spell, spell_arguments, spell_term, name, operator, Stands, IsPlacedAt}
use Rattle.gm_parse.proofs.SpelledParts.{spell_labels, spell_path}
use Rattle.gm_tree.specs.inner.Small.{IsSmall, AreSmall, IsSmallPath, IsSmallOrbit}
use Rattle.gm_parse.specs.Meaning.{Names, NameFault, UnknownAt, TwiceAt, fault_place, fault_rank, faults_in, tree_in, IsFirstFault, IsNotAfter, IsUnsigned}
use Rattle.gm_tree.specs.inner.FirstNames.{first_names}
use Rattle.gm_model.specs.declared.rule.Node.{Node}
use Rattle.gm_model.specs.declared.rule.Param.{Param}
use Rattle.gm_model.specs.declared.schema.Schema.{Schema}
use Rattle.gm_model.specs.Kinds.{IsTreeInRange}
use Rattle.gm_parse.specs.inner.Answers.{IsExprRead, IsExprFault, IsInRangeOf, HasFirstFault}
use Rattle.gm_parse.proofs.FaultOrder.{not_after_itself, not_after_then}
use Rattle.gm_tree.proofs.ReadTrees.{unsigned, in_range}
use Rattle.gm_tree.specs.inner.Building.{Frame, Part as Piece, Nothing, Value, Name, InOrbit, BeforeTerm, BehindTerm, BehindField, Work, work, is_before, earlier, noted, settled, param_of, tree_behind, fault_behind, built_all}
use Rattle.gm_tree.specs.inner.Built.{IsBuiltOver, IsLeastOrLost}
use Rattle.gm_tree.proofs.Meant.{Fits, done, done_part, is_built, settled_pending, pending, last_tree}

-- ---- what passes no limit is small

own_none : (own : Option LimitKind) (beyond : Bool) → passed_by own beyond ≡ None → own ≡ None
own_none None beyond e = refl
own_none (Some what) beyond e = absurd cc

-- no part passes a limit of its own
abbrev AreFree : List (Part Role) → Type 0
AreFree parts = AllByRecursion (λ part. limit_of part.role part.symbol ≡ None) parts

uncounted : (k : ℕ) (parts : List (Part Role)) → AllByRecursion (λ part. limit_in part.role part.symbol ≡ None) (counted_from k parts) → AreFree parts
uncounted k [] within = tt
uncounted k (part ∷ parts) within = (own_none (limit_of part.role part.symbol) (nat_lt 256 (k + 1)) within.0, uncounted (k + 1) parts within.1)

at_most : (most value : ℕ) (what : LimitKind) → cond (nat_lt most value) (Some what) None ≡ None → value ≤ most
at_most most value what free = go (nat_lt most value) refl free
  where
    go : (b : Bool) → nat_lt most value ≡ b → cond b (Some what) None ≡ None → value ≤ most
    go true e free = absurd cc
    go false e free = grind (arith, nat_tests, e)

module _ (n : ℕ) where
  small_labels : (orbit : List LabelForm) (rest : List (Part Role)) → AreFree (spell_labels n orbit rest) → IsSmallOrbit n orbit × AreFree rest
  small_labels [] rest free = (tt, free)
  small_labels (form ∷ orbit) rest free = let (small, behind) = small_labels orbit rest free.1 in ((at_most n form.label limits.Label free.0, small), behind)

  small_path : (path : List ℕ) (rest : List (Part Role)) → AreFree (spell_path n path rest) → IsSmallPath n path × AreFree rest
  small_path [] rest free = (tt, free)
  small_path (label ∷ path) rest free = let (small, behind) = small_path path rest free.1.1 in ((at_most n label limits.Label free.1.0, small), behind)

  small_term : (term : TermForm) (rest : List (Part Role)) → AreFree (spell_term n term rest) → IsSmallPath n term.path × AreFree rest
  small_term term rest free = small_path term.path rest free.1

  mutual
    small_form : (form : Form) (rest : List (Part Role)) → AreFree (spell n form rest) → IsSmall n form × AreFree rest
    small_form (NumberForm value) rest free = (at_most greatest value limits.Integer free.0, free.1)
    small_form (TruthForm b) rest free = (tt, free.1)
    small_form (ParamForm param) rest free = (tt, free.1)
    small_form (FieldForm term embed) rest free = let (small, behind) = small_term term (sign Fixed _ ∷ name embed ∷ rest) free in (small, behind.1.1)
    small_form (SameForm one two) rest free =
        let (first, behind) = small_term one _ free.1.1 in
        let (second, last) = small_term two _ behind.1 in
        ((first, second), last.1)
    small_form (CountForm orbit term) rest free =
        let (labels, behind) = small_labels orbit _ free.1.1 in
        let (small, last) = small_term term _ behind.1.1 in
        ((labels, small), last.1)
    small_form (CollectForm collector orbit term embed) rest free =
        let (labels, behind) = small_labels orbit _ free.1.1 in
        let (small, last) = small_term term _ behind.1.1 in
        ((labels, small), last.1.1.1)
    small_form (CallForm function arguments) rest free = let (small, behind) = small_arguments arguments _ free.1.1 in (small, behind.1)
    small_form (ParenForm part) rest free = let (small, behind) = small_form part _ free.1 in (small, behind.1)
    small_form (MinusForm part) rest free = small_form part rest free.1
    small_form (NotForm part) rest free = small_form part rest free.1
    small_form (BinaryForm op left right) rest free =
        let (first, behind) = small_form left (operator op ∷ spell n right rest) free in
        let (second, last) = small_form right rest behind.1 in
        ((first, second), last)
    small_form (IfForm c a b) rest free =
        let (first, behind) = small_form c _ free.1 in
        let (second, between) = small_form a _ behind.1 in
        let (third, last) = small_form b rest between.1 in
        ((first, second, third), last)

    small_arguments : (arguments : Arguments) (rest : List (Part Role)) → AreFree (spell_arguments n arguments rest) → AreSmall n arguments × AreFree rest
    small_arguments (First form) rest free = small_form form rest free
    small_arguments (Further arguments form) rest free =
        let (first, behind) = small_arguments arguments _ free in
        let (second, last) = small_form form rest behind.1 in
        ((first, second), last)

  pub within_small : (form : Form) → AllByRecursion (λ part. limit_in part.role part.symbol ≡ None) (parts_of n form) → IsSmall n form
  within_small form within = (small_form form [] (uncounted 0 (spell n form []) within)).0

  pub stands_small : (form : Form) (marks rest : List Mark) → Stands n form marks rest → IsSmall n form
  stands_small form marks rest stands = within_small form stands.within

-- ---- the marks of a form

pub fits_of : (marks : List Mark) (parts : List (Part Role)) → symbols marks ≡ symbols_in parts → ArePlaced IsPlacedAt marks parts → Fits marks parts
fits_of [] [] same placed = tt
fits_of [] (part ∷ parts) same placed = absurd cc
fits_of (mark ∷ marks) [] same placed = absurd cc
fits_of (mark ∷ marks) (part ∷ parts) same placed =
    let head : mark.symbol ≡ part.symbol = cc same in
    let tail : symbols marks ≡ symbols_in parts = cc same in
    (head, placed.0, fits_of marks parts tail placed.1)

nothing_left : (marks : List Mark) → Fits marks [] → marks ≡ []
nothing_left [] fits = refl
nothing_left (mark ∷ marks) fits = absurd fits

-- what was built over the marks that a form spells
pub built_spelling : (n : ℕ) (names : Names) → n ≤ 7 → (form : Form) (marks : List Mark) → IsGood form → IsSmall n form → Fits marks (spell n form [])
    → done (built_all names (work [] None Nothing) marks) ≡ work (pending names form []) (noted None (faults_in names form)) (Value (last_tree names form))
built_spelling n names top form marks good small fits =
    let one = is_built n names top form [] None [] marks good small (omega arith) fits in
    let end : built_all names (work [] None Nothing) marks ≡ one.end = one.runs.runs ∙ ap (built_all names one.end) (nothing_left one.runs.left one.runs.fits) in
    ap done end ∙ one.is

-- over a form that stands there
pub built_form : (n : ℕ) (names : Names) → n ≤ 7 → (form : Form) (marks rest : List Mark) (stands : Stands n form marks rest)
    → done (built_all names (work [] None Nothing) stands.before) ≡ work (pending names form []) (noted None (faults_in names form)) (Value (last_tree names form))
built_form n names top form marks rest stands =
    built_spelling n names top form stands.before stands.good (stands_small n form marks rest stands) (fits_of stands.before (spell n form []) stands.spelled stands.placed)

pub held_tree : (frames to : List Frame) (one other : Tree) → frames ≡ to → Value one ≡ Value other → (settled frames one).tree ≡ (settled to other).tree
held_tree frames to one other e f = let same : one ≡ other = cc f in ap (λ (fs : List Frame). (settled fs one).tree) e ∙ ap (λ (t : Tree). (settled to t).tree) same

done_tree : (frames : List Frame) (least : Option NameFault) (piece : Piece) (to : List Frame) (after : Option NameFault) (tree : Tree) → done_part frames least piece ≡ work to after (Value tree) → tree_behind frames piece ≡ (settled to tree).tree
done_tree frames least Nothing to after tree e = let p : Nothing ≡ Value tree = ap (λ (w : Work). w.part) e in absurd cc
done_tree frames least (Value t) to after tree e = held_tree frames to t tree (ap (λ (w : Work). w.frames) e) (ap (λ (w : Work). w.part) e)
done_tree frames least (Name named) to after tree e = held_tree frames to (param_of named) tree (ap (λ (w : Work). w.frames) e) (ap (λ (w : Work). w.part) e)
done_tree frames least (InOrbit head mask) to after tree e = let p : InOrbit head mask ≡ Value tree = ap (λ (w : Work). w.part) e in absurd cc
done_tree frames least (BeforeTerm lead) to after tree e = let p : BeforeTerm lead ≡ Value tree = ap (λ (w : Work). w.part) e in absurd cc
done_tree frames least (BehindTerm lead term) to after tree e = let p : BehindTerm lead term ≡ Value tree = ap (λ (w : Work). w.part) e in absurd cc
done_tree frames least (BehindField collector mask term embed) to after tree e = let p : BehindField collector mask term embed ≡ Value tree = ap (λ (w : Work). w.part) e in absurd cc

done_fault : (frames : List Frame) (least : Option NameFault) (piece : Piece) (to : List Frame) (after : Option NameFault) (tree : Tree) → done_part frames least piece ≡ work to after (Value tree) → fault_behind least piece ≡ after
done_fault frames least Nothing to after tree e = let p : Nothing ≡ Value tree = ap (λ (w : Work). w.part) e in absurd cc
done_fault frames least (Value t) to after tree e = ap (λ (w : Work). w.fault) e
done_fault frames least (Name named) to after tree e = ap (λ (w : Work). w.fault) e
done_fault frames least (InOrbit head mask) to after tree e = let p : InOrbit head mask ≡ Value tree = ap (λ (w : Work). w.part) e in absurd cc
done_fault frames least (BeforeTerm lead) to after tree e = let p : BeforeTerm lead ≡ Value tree = ap (λ (w : Work). w.part) e in absurd cc
done_fault frames least (BehindTerm lead term) to after tree e = let p : BehindTerm lead term ≡ Value tree = ap (λ (w : Work). w.part) e in absurd cc
done_fault frames least (BehindField collector mask term embed) to after tree e = let p : BehindField collector mask term embed ≡ Value tree = ap (λ (w : Work). w.part) e in absurd cc

-- ---- the least fault

here : (x : NameFault) (xs : List NameFault) → Contains (x ∷ xs) x
here x xs = (0, omega arith, refl)

later : (x y : NameFault) (xs : List NameFault) → Contains xs y → Contains (x ∷ xs) y
later x y xs (k, low, at) = (suc k, omega (arith, low), at)

either : (x y : NameFault) (xs : List NameFault) → Contains (x ∷ xs) y → (x ≡ y) ⊎ Contains xs y
either x y xs (zero, low, at) = inl at
either x y xs (suc k, low, at) = inr (k, omega (arith, low), at)

-- the fault is one of them, or the one before them, and none of these counts before it
record IsLeastOf (start : Option NameFault) (xs : List NameFault) (fault : NameFault) : Type 0 where
  among : (start ≡ Some fault) ⊎ Contains xs fault
  first : (other : NameFault) → start ≡ Some other → IsNotAfter fault other
  least : (other : NameFault) → Contains xs other → IsNotAfter fault other

earlier_some : (start : Option NameFault) (x : NameFault) → (least : NameFault) × (earlier start x ≡ Some least)
earlier_some None x = (x, refl)
earlier_some (Some y) x = go (is_before x y)
  where
    go : (b : Bool) → (least : NameFault) × (cond b (Some x) (Some y) ≡ Some least)
    go true = (x, refl)
    go false = (y, refl)

before_is : (x y : NameFault) (less same low : Bool) → nat_lt (fault_place x) (fault_place y) ≡ less → nat_eq (fault_place x) (fault_place y) ≡ same → nat_lt (fault_rank x) (fault_rank y) ≡ low → (less || (same && low)) ≡ true → IsNotAfter x y
before_is x y true same low e f g is = inl (grind (arith, nat_tests, e))
before_is x y false true true e f g is = inr (grind (arith, nat_tests, f), grind (arith, nat_tests, g))
before_is x y false true false e f g is = absurd cc
before_is x y false false low e f g is = absurd cc

not_before_is : (x y : NameFault) (less same low : Bool) → nat_lt (fault_place x) (fault_place y) ≡ less → nat_eq (fault_place x) (fault_place y) ≡ same → nat_lt (fault_rank x) (fault_rank y) ≡ low → (less || (same && low)) ≡ false → IsNotAfter y x
not_before_is x y true same low e f g is = absurd cc
not_before_is x y false true true e f g is = absurd cc
not_before_is x y false true false e f g is = inr (grind (arith, nat_tests, f), grind (arith, nat_tests, g))
not_before_is x y false false low e f g is = inl (grind (arith, nat_tests, e, f))

earlier_is : (start : Option NameFault) (x least : NameFault) → earlier start x ≡ Some least → ((start ≡ Some least) ⊎ (x ≡ least)) × ((other : NameFault) → start ≡ Some other → IsNotAfter least other) × IsNotAfter least x
earlier_is None x least e = let same : x ≡ least = cc e in (inr same, (λ other no_way. absurd cc), subst (λ (f : NameFault). IsNotAfter f x) same (not_after_itself x))
earlier_is (Some y) x least e = go (is_before x y) refl e
  where
    go : (b : Bool) → is_before x y ≡ b → cond b (Some x) (Some y) ≡ Some least
        → ((Some y ≡ Some least) ⊎ (x ≡ least)) × ((other : NameFault) → Some y ≡ Some other → IsNotAfter least other) × IsNotAfter least x
    go true f e =
        let same : x ≡ least = cc e in
        let less : IsNotAfter x y = before_is x y (nat_lt (fault_place x) (fault_place y)) (nat_eq (fault_place x) (fault_place y)) (nat_lt (fault_rank x) (fault_rank y)) refl refl refl f in
        (inr same, (λ other is. let at : y ≡ other = cc is in subst (λ (g : NameFault). IsNotAfter least g) at (subst (λ (g : NameFault). IsNotAfter g y) same less)), subst (λ (g : NameFault). IsNotAfter g x) same (not_after_itself x))
    go false f e =
        let same : y ≡ least = cc e in
        let less : IsNotAfter y x = not_before_is x y (nat_lt (fault_place x) (fault_place y)) (nat_eq (fault_place x) (fault_place y)) (nat_lt (fault_rank x) (fault_rank y)) refl refl refl f in
        (inl e, (λ other is. let at : y ≡ other = cc is in subst (λ (g : NameFault). IsNotAfter least g) at (subst (λ (g : NameFault). IsNotAfter g y) same (not_after_itself y))), subst (λ (g : NameFault). IsNotAfter g x) same less)

noted_is : (xs : List NameFault) (start : Option NameFault) (fault : NameFault) → noted start xs ≡ Some fault → IsLeastOf start xs fault
noted_is [] start fault e = record { among = inl e; first = λ other is. let both : Some other ≡ Some fault = sym is ∙ e in let same : other ≡ fault = cc both in subst (λ (g : NameFault). IsNotAfter fault g) (sym same) (not_after_itself fault); least = λ other (k, low, at). absurd (omega (arith, low)) }
noted_is (x ∷ xs) start fault e =
    let (mid, step) = earlier_some start x in
    let rest = noted_is xs (earlier start x) fault e in
    let (from, before, beside) = earlier_is start x mid step in
    let below : IsNotAfter fault mid = rest.first mid step in
    record {
      among = elim rest.among [
        | inl is ↦
            let both : Some mid ≡ Some fault = sym step ∙ is in
            let same : mid ≡ fault = cc both in
            elim from [ inl at ↦ inl (at ∙ ap Some same) | inr at ↦ inr (subst (λ (g : NameFault). Contains (x ∷ xs) g) (at ∙ same) (here x xs)) ]
        | inr is ↦ inr (later x fault xs is)
      ];
      first = λ other is. not_after_then fault mid other below (before other is);
      least = λ other is. elim (either x other xs is) [
        | inl at ↦ subst (λ (g : NameFault). IsNotAfter fault g) at (not_after_then fault mid x below beside)
        | inr at ↦ rest.least other at
      ];
    }

pub noted_some : (xs : List NameFault) (start : Option NameFault) (least : NameFault) → start ≡ Some least → (fault : NameFault) × (noted start xs ≡ Some fault)
noted_some [] start least e = (least, e)
noted_some (x ∷ xs) start least e = let (mid, step) = earlier_some start x in noted_some xs (earlier start x) mid step

pub noted_none : (xs : List NameFault) → noted None xs ≡ None → xs ≡ []
noted_none [] e = refl
noted_none (x ∷ xs) e = let (fault, some) = noted_some xs (Some x) x refl in let both : None ≡ Some fault = sym e ∙ some in absurd cc

pub first_fault : (names : Names) (form : Form) (fault : NameFault) → noted None (faults_in names form) ≡ Some fault → IsFirstFault names form fault
first_fault names form fault e =
    let is = noted_is (faults_in names form) None fault e in
    record { there = elim is.among [ inl no_way ↦ absurd cc | inr there ↦ there ]; least = is.least }

-- ---- the answer

module _ (n : ℕ) (names : Names) (top : n ≤ 7) (old new : Cursor) (w : Work) (over : IsBuiltOver n names old new w) where
  done_is : done w ≡ work (pending names over.form []) (noted None (faults_in names over.form)) (Value (last_tree names over.form))
  done_is = ap done over.built ∙ built_form n names top over.form (marks_left old) (marks_left new) over.stands

  pub expr_is : (tree : Tree) → tree ≡ tree_behind w.frames w.part → fault_behind w.fault w.part ≡ None → IsExprRead n names old new tree
  expr_is tree is known =
      let same = done_tree w.frames w.fault w.part (pending names over.form []) (noted None (faults_in names over.form)) (last_tree names over.form) done_is in
      let settles : (settled (pending names over.form []) (last_tree names over.form)).tree ≡ tree_in names over.form = ap (λ h. h.tree) (settled_pending names over.form []) in
      let fault = done_fault w.frames w.fault w.part (pending names over.form []) (noted None (faults_in names over.form)) (last_tree names over.form) done_is in
      record { form = over.form; stands = over.stands; known = noted_none (faults_in names over.form) (sym fault ∙ known); means = is ∙ same ∙ settles }

  pub fault_is : (fault : ExprFault) → IsLeastOrLost (fault_behind w.fault w.part) fault → IsExprFault n names (marks_left old) fault
  fault_is fault is = go fault is
    where
      found : (f : NameFault) → fault_behind w.fault w.part ≡ Some f → HasFirstFault n names (marks_left old) f
      found f e =
          let fault = done_fault w.frames w.fault w.part (pending names over.form []) (noted None (faults_in names over.form)) (last_tree names over.form) done_is in
          record { form = over.form; rest = marks_left new; stands = over.stands; first = first_fault names over.form f (sym fault ∙ e) }

      go : (fault : ExprFault) → IsLeastOrLost (fault_behind w.fault w.part) fault → IsExprFault n names (marks_left old) fault
      go (faults.Unknown place) is = found (UnknownAt place) is
      go (faults.Twice place) is = found (TwiceAt place) is
      go faults.OutOfMemory is = tt

-- what is said of each tree that is read
pub read_unsigned : (n : ℕ) (names : Names) (old new : Cursor) (tree : Tree) → IsExprRead n names old new tree → IsUnsigned tree
read_unsigned n names old new tree read = subst IsUnsigned (sym read.means) (unsigned names read.form)

pub read_in_range : (schema : Schema) (params : List Param) (nodes : List Node) (old new : Cursor) (tree : Tree) → IsExprRead schema.dim (first_names schema params nodes) old new tree → IsInRangeOf schema params nodes tree
read_in_range schema params nodes old new tree read rule same left =
    subst (IsTreeInRange schema rule) (sym read.means) (in_range schema params nodes rule same left read.form read.known (stands_small schema.dim read.form (marks_left old) (marks_left new) read.stands))
