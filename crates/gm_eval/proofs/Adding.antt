-- What a reading adds to what is kept: collectors of its expression, and none twice.
use Rattle.std.proofs.Common.{◌≡◌, ℕ, suc, ◌≤◌, ◌⊎◌, List, [], ◌∷◌, ◌++◌, length, map, Option, Some, None, IsSome, refl, sym, ap, subst, ◌∙◌, inl, inr, arith}
use Rattle.std.specs.List.{Contains}
use Rattle.std.proofs.lemmas.Bool.{false≢true}
use Rattle.std.proofs.lemmas.List.{length-map}
use Rattle.std.proofs.lemmas.List.Elements.{Contains-append_left, Contains-append_right}
use Rattle.gm_model.specs.declared.expr.DartTerm.{DartTerm}
use Rattle.gm_model.specs.declared.expr.Expr.{Expr}
use Rattle.gm_model.specs.declared.value.Value.{Value}
use Rattle.gm_model.specs.declared.word.Mask.{Mask}
use Rattle.gm_model.specs.Trees.{Tree, tree_of}
use Rattle.gm_theory.proofs.Lists.{some_same}
use Rattle.gm_theory.proofs.ValuesLists.{IsIn, contains_in, in_contained}
use Rattle.gm_eval.specs.declared.kept.Collector.{Collector}
use Rattle.gm_eval.specs.declared.kept.Entry.{Entry}
use Rattle.gm_eval.specs.declared.kept.Form.{Form}
use Rattle.gm_eval.specs.inner.Readers.{AddsOnly}
use Rattle.gm_eval.specs.inner.Sharing.{AreKeptOnce, HasEachOnce, HasRoom, IsAtHand, collectors_of, own_collector, where_empty}

-- ---- what is added by parts of an expression

pub same_adds : (cs : List Collector) (kept : Option (List Entry)) → AddsOnly cs kept kept
same_adds cs kept = record { among = λ c at_hand. inl at_hand; once = λ once. once }

pub both_adds : (cs ds : List Collector) (old mid new : Option (List Entry)) → AddsOnly cs old mid → AddsOnly ds mid new → AddsOnly (cs ++ ds) old new
both_adds cs ds old mid new first second = record { among = λ c at_hand. go c (second.among c at_hand); once = λ once. second.once (first.once once) }
  where
    at_first : (c : Collector) → IsAtHand old c ⊎ Contains cs c → IsAtHand old c ⊎ Contains (cs ++ ds) c
    at_first c (inl at_hand) = inl at_hand
    at_first c (inr among) = inr (Contains-append_left cs ds c among)

    go : (c : Collector) → IsAtHand mid c ⊎ Contains ds c → IsAtHand old c ⊎ Contains (cs ++ ds) c
    go c (inl at_hand) = at_first c (first.among c at_hand)
    go c (inr among) = inr (Contains-append_right cs ds c among)

pub left_adds : (cs ds : List Collector) (old new : Option (List Entry)) → AddsOnly cs old new → AddsOnly (cs ++ ds) old new
left_adds cs ds old new first = both_adds cs ds old new new first (same_adds ds new)

pub right_adds : (cs ds : List Collector) (old new : Option (List Entry)) → AddsOnly ds old new → AddsOnly (cs ++ ds) old new
right_adds cs ds old new second = both_adds cs ds old old new (same_adds cs old) second

pub first_adds : (a b : Tree) (old new : Option (List Entry)) → AddsOnly (collectors_of a) old new → AddsOnly (collectors_of a ++ collectors_of b) old new
first_adds a b old new h = left_adds (collectors_of a) (collectors_of b) old new h

pub two_add : (a b : Tree) (old mid new : Option (List Entry)) → AddsOnly (collectors_of a) old mid → AddsOnly (collectors_of b) mid new → AddsOnly (collectors_of a ++ collectors_of b) old new
two_add a b old mid new h k = both_adds (collectors_of a) (collectors_of b) old mid new h k

pub start_adds : (a b c : Tree) (old new : Option (List Entry)) → AddsOnly (collectors_of a) old new → AddsOnly (collectors_of a ++ (collectors_of b ++ collectors_of c)) old new
start_adds a b c old new h = left_adds (collectors_of a) (collectors_of b ++ collectors_of c) old new h

pub front_adds : (a b c : Tree) (old mid new : Option (List Entry)) → AddsOnly (collectors_of a) old mid → AddsOnly (collectors_of b) mid new → AddsOnly (collectors_of a ++ (collectors_of b ++ collectors_of c)) old new
front_adds a b c old mid new h k = both_adds (collectors_of a) (collectors_of b ++ collectors_of c) old mid new h (first_adds b c mid new k)

pub ends_add : (a b c : Tree) (old mid new : Option (List Entry)) → AddsOnly (collectors_of a) old mid → AddsOnly (collectors_of c) mid new → AddsOnly (collectors_of a ++ (collectors_of b ++ collectors_of c)) old new
ends_add a b c old mid new h k = both_adds (collectors_of a) (collectors_of b ++ collectors_of c) old mid new h (right_adds (collectors_of b) (collectors_of c) mid new k)

pub three_add : (a b c : Tree) (old mid late new : Option (List Entry)) → AddsOnly (collectors_of a) old mid → AddsOnly (collectors_of b) mid late → AddsOnly (collectors_of c) late new → AddsOnly (collectors_of a ++ (collectors_of b ++ collectors_of c)) old new
three_add a b c old mid late new h k l = both_adds (collectors_of a) (collectors_of b ++ collectors_of c) old mid new h (two_add b c mid late new k l)

pub adds_as : (expr : Expr) (tree : Tree) (old new : Option (List Entry)) → tree_of expr ≡ tree → AddsOnly (collectors_of tree) old new → AddsOnly (collectors_of (tree_of expr)) old new
adds_as expr tree old new e h = subst (λ x. AddsOnly (collectors_of x) old new) (sym e) h

-- ---- one collector

pub own_adds : (form : Form) (mask : Mask) (term : DartTerm) (e : ℕ) (old new : Option (List Entry)) → term.path ≡ [] → AddsOnly (record { form = form; mask = mask; node = term.node; embed = e } ∷ []) old new → AddsOnly (own_collector form mask term e) old new
own_adds form mask term e old new own h = subst (λ path. AddsOnly (where_empty path (record { form = form; mask = mask; node = term.node; embed = e })) old new) (sym own) h

abbrev collector_in : Entry → Collector
collector_in entry = entry.collector

in_kept : (entries : List Entry) (c : Collector) (value : Option Value) → IsIn (record { collector = c; value = value }) entries → IsIn c (map collector_in entries)
in_kept [] c value i = absurd i
in_kept (entry ∷ entries) c value (inl e) = inl (ap collector_in e)
in_kept (entry ∷ entries) c value (inr i) = inr (in_kept entries c value i)

of_kept : (entries : List Entry) (c : Collector) → IsIn c (map collector_in entries) → (value : Option Value) × IsIn (record { collector = c; value = value }) entries
of_kept [] c i = absurd i
of_kept (entry ∷ entries) c (inl e) = (entry.value, inl (ap (λ x. record { collector = x; value = entry.value }) e))
of_kept (entry ∷ entries) c (inr i) = let rest = of_kept entries c i in (rest.0, inr rest.1)

-- a collector that is kept is at hand
pub kept_at_hand : (entries : List Entry) (c : Collector) → IsIn c (map collector_in entries) → IsAtHand (Some entries) c
kept_at_hand entries c i = let there = of_kept entries c i in (entries, refl, there.0, contains_in entries (record { collector = c; value = there.0 }) there.1)

pub at_hand_kept : (entries : List Entry) (c : Collector) → IsAtHand (Some entries) c → IsIn c (map collector_in entries)
at_hand_kept entries c (others, is, value, among) =
    in_kept entries c value (in_contained entries (record { collector = c; value = value }) (subst (λ (xs : List Entry). Contains xs (record { collector = c; value = value })) (sym (some_same entries others is)) among))

in_append : (cs ds : List Collector) (c : Collector) → IsIn c (cs ++ ds) → IsIn c cs ⊎ IsIn c ds
in_append [] ds c i = inr i
in_append (d ∷ cs) ds c (inl e) = inl (inl e)
in_append (d ∷ cs) ds c (inr i) = go (in_append cs ds c i)
  where
    go : IsIn c cs ⊎ IsIn c ds → IsIn c (d ∷ cs) ⊎ IsIn c ds
    go (inl i) = inl (inr i)
    go (inr i) = inr i

map_append : (xs ys : List Entry) → map collector_in (xs ++ ys) ≡ map collector_in xs ++ map collector_in ys
map_append [] ys = refl
map_append (x ∷ xs) ys = ap (λ cs. x.collector ∷ cs) (map_append xs ys)

once_more : (cs : List Collector) (c : Collector) → HasEachOnce cs → (IsIn c cs → ⊥) → HasEachOnce (cs ++ c ∷ [])
once_more [] c once new = (λ among. absurd (in_contained [] c among), tt)
once_more (d ∷ cs) c once new = (λ among. apart (in_append cs (c ∷ []) d (in_contained (cs ++ c ∷ []) d among)), once_more cs c once.1 (λ i. new (inr i)))
  where
    apart : IsIn d cs ⊎ IsIn d (c ∷ []) → ⊥
    apart (inl i) = once.0 (contains_in cs d i)
    apart (inr (inl e)) = new (inl (sym e))
    apart (inr (inr i)) = i

-- one that was not at hand is kept
pub one_adds : (old new : Option (List Entry)) (c : Collector) (o : Option Value) → (new ≡ old) ⊎ ((entries : List Entry) × (old ≡ Some entries) × (new ≡ Some (entries ++ record { collector = c; value = o } ∷ [])))
    → (new ≡ old) ⊎ (IsAtHand old c → ⊥) → AddsOnly (c ∷ []) old new
one_adds old new c o (inl same) fresh = subst (AddsOnly (c ∷ []) old) (sym same) (same_adds (c ∷ []) old)
one_adds old new c o (inr more) (inl same) = subst (AddsOnly (c ∷ []) old) (sym same) (same_adds (c ∷ []) old)
one_adds old new c o (inr (entries, was, is)) (inr lacks) =
    subst (λ before. AddsOnly (c ∷ []) before new) (sym was) (subst (AddsOnly (c ∷ []) (Some entries)) (sym is) (record { among = among; once = once }))
  where
    entry : Entry
    entry = record { collector = c; value = o }

    as_lists : map collector_in (entries ++ entry ∷ []) ≡ map collector_in entries ++ c ∷ []
    as_lists = map_append entries (entry ∷ [])

    at : (d : Collector) → IsIn d (map collector_in entries) ⊎ IsIn d (c ∷ []) → IsAtHand (Some entries) d ⊎ Contains (c ∷ []) d
    at d (inl i) = inl (kept_at_hand entries d i)
    at d (inr i) = inr (contains_in (c ∷ []) d i)

    among : (d : Collector) → IsAtHand (Some (entries ++ entry ∷ [])) d → IsAtHand (Some entries) d ⊎ Contains (c ∷ []) d
    among d at_hand = at d (in_append (map collector_in entries) (c ∷ []) d (subst (IsIn d) as_lists (at_hand_kept (entries ++ entry ∷ []) d at_hand)))

    once : AreKeptOnce (Some entries) → AreKeptOnce (Some (entries ++ entry ∷ []))
    once each = subst HasEachOnce (sym as_lists) (once_more (map collector_in entries) c each (λ i. lacks (subst (λ kept. IsAtHand kept c) (sym was) (kept_at_hand entries c i))))

-- ---- there is room for the collectors of an expression

-- the others of a list
record IsWithout (ds : List Collector) (c : Collector) : Type 0 where
  others : List Collector
  fewer : length ds ≡ suc (length others)
  left : (d : Collector) → IsIn d ds → (c ≡ d) ⊎ IsIn d others

without_first : (d : Collector) (ds : List Collector) (c : Collector) → d ≡ c → IsWithout (d ∷ ds) c
without_first d ds c e = record { others = ds; fewer = refl; left = left }
  where
    left : (x : Collector) → IsIn x (d ∷ ds) → (c ≡ x) ⊎ IsIn x ds
    left x (inl f) = inl (sym e ∙ f)
    left x (inr i) = inr i

without_later : (d : Collector) (ds : List Collector) (c : Collector) → IsWithout ds c → IsWithout (d ∷ ds) c
without_later d ds c rest = record { others = d ∷ rest.others; fewer = ap suc rest.fewer; left = left }
  where
    later : (x : Collector) → (c ≡ x) ⊎ IsIn x rest.others → (c ≡ x) ⊎ IsIn x (d ∷ rest.others)
    later x (inl e) = inl e
    later x (inr i) = inr (inr i)

    left : (x : Collector) → IsIn x (d ∷ ds) → (c ≡ x) ⊎ IsIn x (d ∷ rest.others)
    left x (inl e) = inr (inl e)
    left x (inr j) = later x (rest.left x j)

without : (ds : List Collector) (c : Collector) → IsIn c ds → IsWithout ds c
without [] c i = absurd i
without (d ∷ ds) c (inl e) = without_first d ds c e
without (d ∷ ds) c (inr i) = without_later d ds c (without ds c i)

-- a list with each once isn't longer than one that has them all
pub no_longer : (cs ds : List Collector) → HasEachOnce cs → ((c : Collector) → IsIn c cs → IsIn c ds) → length cs ≤ length ds
no_longer [] ds once among = omega arith
no_longer (c ∷ cs) ds once among =
    let rest = without ds c (among c (inl refl)) in
    let fewer = rest.fewer in
    let short = no_longer cs rest.others once.1 (λ d i. still cs rest.others c d once.0 i (rest.left d (among d (inr i)))) in
    omega (arith, fewer, short)
  where
    still : (cs others : List Collector) (c d : Collector) → (Contains cs c → ⊥) → IsIn d cs → (c ≡ d) ⊎ IsIn d others → IsIn d others
    still cs others c d new i (inl same) = absurd (new (contains_in cs c (subst (λ x. IsIn x cs) (sym same) i)))
    still cs others c d new i (inr j) = j

-- where each is kept once, and is one of at most 36, there is room
pub has_room : (kept : Option (List Entry)) (cs : List Collector) → IsSome kept → AreKeptOnce kept → ((c : Collector) → IsAtHand kept c → Contains cs c) → length cs ≤ 36 → HasRoom kept
has_room None cs some once among few = absurd (false≢true some)
has_room (Some entries) cs some once among few =
    let short : length (map collector_in entries) ≤ length cs = no_longer (map collector_in entries) cs once (λ c i. in_contained cs c (among c (kept_at_hand entries c i))) in
    let long : length (map collector_in entries) ≡ length entries = length-map entries collector_in in
    (entries, refl, omega (arith, short, long, few))
