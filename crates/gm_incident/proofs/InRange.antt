-- What a rule in range gives: numbers of nodes below 32, and labels below 8.
use Rattle.std.proofs.Common.{◌≡◌, ℕ, ◌<◌, ◌≤◌, true, length, arith}
use Rattle.std.specs.List.{All}
use Rattle.std.proofs.lemmas.List.Elements.{All-from_recursion, All-weaker}
use Rattle.std.proofs.lemmas.Option.{slice_get_within, get_or_from_slice_get}
use Rattle.gm_model.specs.declared.rule.Link.{Link}
use Rattle.gm_model.specs.declared.rule.Side.{Side}
use Rattle.gm_model.specs.declared.rule.Side.TheVariants.{Left, Right}
use Rattle.gm_model.specs.declared.schema.Schema.{Schema}
use Rattle.gm_model.specs.declared.word.Letter.TheVariants.{At}
use Rattle.gm_model.specs.Rules.{Rule, has_word, letters, links_on}
use Rattle.gm_model.specs.Structure.{IsInRange, IsWithinLimits, IsLinkInRange}
use Rattle.gm_model.proofs.Nodes.{node_below}
use Rattle.gm_incident.specs.inner.Ranges.{HasEndsBelow32, HasLabels}

pub hooks_below : (schema : Schema) (rule : Rule) → IsInRange schema rule → IsWithinLimits rule → All (λ h. h < 32) rule.hooks
hooks_below schema rule r w =
    All-weaker (λ h. has_word rule Left h ≡ true) (λ h. h < 32) (λ h p. let b = node_below rule Left h p in let n = w.nodes in omega arith) rule.hooks (All-from_recursion _ rule.hooks r.hooks)

pub ends_below : (schema : Schema) (rule : Rule) → IsInRange schema rule → IsWithinLimits rule → (side : Side) → HasEndsBelow32 (links_on rule side)
ends_below schema rule r w side =
    All-weaker (IsLinkInRange schema.dim rule side) (λ (link : Link). (link.from < 32) × (link.to < 32))
    (λ link p. let n = w.nodes in let from = node_below rule side link.from p.from in let to = node_below rule side link.to p.to in (omega arith, omega arith))
    (links_on rule side) (All-from_recursion _ (links_on rule side) (r.links side))

few_links : (rule : Rule) → IsWithinLimits rule → (side : Side) → length (links_on rule side) ≤ 256
few_links rule w Left = w.left_links
few_links rule w Right = w.right_links

pub labels_below : (schema : Schema) (rule : Rule) → schema.dim ≤ 7 → IsInRange schema rule → IsWithinLimits rule → HasLabels rule
labels_below schema rule few r w = record {
  links = λ side. record {
    few = few_links rule w side;
    labels = All-weaker (IsLinkInRange schema.dim rule side) (λ (link : Link). link.label < 8) (λ link p. let l = p.label in omega arith) (links_on rule side) (All-from_recursion _ (links_on rule side) (r.links side));
  };
  words = λ side x. record {
    labels = λ m i e.
        let all : All (λ letter. (j : ℕ) → letter ≡ At j → j ≤ schema.dim) (letters rule side x) = All-from_recursion _ (letters rule side x) (r.words side x) in
        let b = slice_get_within (letters rule side x) m (At i) e in
        let l : i ≤ schema.dim = all m (At i) b i (get_or_from_slice_get (letters rule side x) m (At i) (At i) e) in
        omega arith;
  };
}
