-- A text stands for one map at most, in one version.
use Rattle.std.proofs.Common.{◌≡◌, ℕ, List, sym, ap, subst, ◌∙◌, arith}
use Rattle.std.specs.Prelude.{IsPermutation}
use Rattle.std.proofs.lemmas.List.Sorted.{IsPermutation-sym, IsPermutation-trans}
use Rattle.gm_mapfile.specs.MapText.{Version, First, Second, DartRow, ListedMap, names, IsNext, version_of, MapText}
use Rattle.gm_mapfile.specs.declared.version.MapVersion.{MapVersion}
use Rattle.gm_mapfile.proofs.Ascending.{same_ascending}
use Rattle.gm_mapfile.proofs.OneListing.{one_listing}

pub one_next : (version : Version) (xs : List ℕ) (next other : ℕ) → IsNext version xs next → IsNext version xs other → next ≡ other
one_next First xs next other a b = omega (arith, a.least other b.above, b.least next a.above)
one_next (Second stated) xs next other a b = a ∙ sym b

pub one_map : (text : List ℕ) (version other : MapVersion) (map second : ListedMap) → MapText text version map → MapText text other second → (version ≡ other) × (map ≡ second)
one_map text version other map second a b =
    let one = one_listing text a.written b.written map.schema second.schema a.darts b.darts a.listed b.listed in
    let again : IsPermutation a.darts second.darts = subst (λ (darts : List DartRow). IsPermutation darts second.darts) (sym one.2) b.same in
    let moved = IsPermutation-trans map.darts a.darts second.darts (IsPermutation-sym a.darts map.darts a.same) again in
    let darts : map.darts ≡ second.darts = same_ascending map.darts second.darts a.ascending b.ascending moved in
    let next' : IsNext a.written (names map.darts) second.next =
    subst (λ (v : Version). IsNext v (names map.darts) second.next) (sym one.0) (subst (λ (ds : List DartRow). IsNext b.written (names ds) second.next) (sym darts) b.next_is) in
    let next : map.next ≡ second.next = one_next a.written (names map.darts) map.next second.next a.next_is next' in
    (a.version_is ∙ ap version_of one.0 ∙ sym b.version_is, λ t. let listed : ListedMap = record { schema = one.1 t; darts = darts t; next = next t } in listed)
