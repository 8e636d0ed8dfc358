use Rattle.std.proofs.Common.{◌≡◌, Bool, true, false, ◌&&◌, IsTrue, get_or, pos, sym, ap, subst, ◌∙◌, inl, inr, lt_of_lt_of_le}
use Rattle.std.proofs.lemmas.Bool.{cases_lt, false≢true}
use Rattle.std.proofs.lemmas.Option.{slice_get_within, get_or_from_slice_get}
use Rattle.gm_model.specs.declared.schema.Embed.{Embed}
use Rattle.gm_model.specs.declared.value.Value.TheVariants.{Int}
use Rattle.gm_model.specs.Labels.{has}
use Rattle.gm_laws.proofs.CommuteLemmas.{last_label, none_yet}
use Rattle.gm_laws.proofs.holding.are_same_along.Goals as goal

both : (a b : Bool) → IsTrue (a && b) → IsTrue a × IsTrue b
both true true e = (e, e)
both true false e = absurd (false≢true e)
both false b e = absurd (false≢true e)

pub loop-embed-init : goal.loop-embed-init
loop-embed-init c = λ same e embed low. absurd (none_yet e low)

pub is_same_along-same-requires : goal.is_same_along-same-requires
is_same_along-same-requires c = record { label = c.requires.label }

pub loop-embed-preserved : goal.loop-embed-preserved
loop-embed-preserved c = λ same e embed less there of_type.
    let kept = both c.loop-embed.same c.is_same_along-same.result same in
    elim (cases_lt e c.loop-embed.embed) [
      | inl before ↦ c.loop-embed.invariant kept.0 e embed before there of_type
      | inr behind ↦ (
          let is : c.loop-embed.embed ≡ e = last_label e c.loop-embed.embed less behind in
          let item : c.index-embeds-embed.result ≡ embed = c.index-embeds-embed.is ∙ (ap (λ k. get_or c.args.embeds.now k c.index-embeds-embed.result) is ∙ get_or_from_slice_get c.args.embeds.now e embed c.index-embeds-embed.result there) in
          subst (λ k. get_or c.args.others.now k (Int (pos 0)) ≡ get_or c.args.values.now k (Int (pos 0))) is
          (c.is_same_along-same.ensures.same kept.1 (subst (λ (x : Embed). IsTrue (has x.mask c.args.label)) (sym item) of_type)))
    ]

pub returns : goal.returns
returns c = record { same = λ same e embed there. c.loop-embed.invariant same e embed (lt_of_lt_of_le (slice_get_within c.args.embeds.now e embed there) c.loop-embed-test.false) there }
