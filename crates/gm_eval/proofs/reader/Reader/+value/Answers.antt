use Rattle.std.proofs.Common.{FitsSigned, w64, pos, get_or, refl, sym, ◌∙◌, ap, ap₂, subst, rules}
use Rattle.std.proofs.Math.Nat.{le_refl, le_trans}
use Rattle.std.proofs.lemmas.Int.{to_z-of_z}
use Rattle.std.proofs.lemmas.Option.{slice_get-get_or}
use Rattle.gm_model.proofs.expr.Expr.TheLaws.{the_size}
use Rattle.gm_model.specs.declared.expr.Expr.TheViews.{sized-Unary, sized-Binary, sized-If, sized-MakeVec2, sized-MakeVec3, sized-MakeRgb}
use Rattle.gm_model.specs.declared.expr.Expr.{Expr}
use Rattle.gm_model.specs.declared.value.Kind.TheVariants as kinds
use Rattle.gm_model.specs.declared.value.Value.TheVariants.{Int, Bool as Truth}
use Rattle.gm_model.specs.Expressions.{HasValue}
use Rattle.gm_model.specs.Trees.{Count, Unary, Binary, If, MakeVec2, MakeVec3, MakeRgb, tree_of}
use Rattle.gm_eval.specs.inner.Readers.{IsReady, Read, reading_of}
use Rattle.gm_eval.proofs.Adding.{adds_as, ends_add, first_adds, front_adds, same_adds, start_adds, three_add, two_add}
use Rattle.gm_eval.proofs.Casts.{wide_is}
use Rattle.gm_eval.proofs.Measures.{binary_less, nested_less, pair_less, triple_less, unary_less, first_less, left_less, part_less, parts_less, quick_left_less, quick_right_less, right_less, second_less, still_fits, third_less}
use Rattle.gm_eval.proofs.Parts.{beside_as, both_read, binary_known, binary_ready, binary_there, choice_ready, chosen_there, colour_ready, int_as, is_there, left_as, made_of_three, no_choice, no_numbers, no_values, none_there, not_there, other_there, pair_ready, pair_there, param_within, read_as, ready_as, some_numbers, there_as, three_trees, triple_ready, unary_known, unary_ready, unary_there, value_as}
use Rattle.gm_eval.proofs.Sharing.{chosen_beside, chosen_left, condition_beside, first_beside, front_beside, is_some, later_kept, not_some, other_beside, other_left, same_kept, start_beside, still_beside, three_beside, three_left, two_beside, two_left}
use Rattle.gm_eval.proofs.reader.Reader.+value.Goals as goal

-- ---- what the calls of the cycle require

pub unary-value-requires : goal.unary-value-requires
unary-value-requires g t c = λ κs lives. (part_less (the_size c.args.part.now) _ c.decreases, (lives, (unary_ready c.args.self.now c.args.op (tree_of c.args.part.now) c.requires.ready, (c.requires.fits, c.requires.kept))))

pub parts-value-requires : goal.parts-value-requires
parts-value-requires g t c = λ κs lives. (left_less (the_size c.args.first.now) (the_size c.args.second.now) _ c.decreases, (lives, (c.requires.first, (c.requires.fits, c.requires.kept))))

pub parts-value-requires-2 : goal.parts-value-requires-2
parts-value-requires-2 g t c = λ κs lives. (right_less (the_size c.args.first.now) (the_size c.args.second.now) _ c.decreases, (lives, (c.requires.second, (still_fits c.requires.fits c.value.ensures.read.room, c.value.ensures.read.kept))))

pub binary-parts-requires : goal.binary-parts-requires
binary-parts-requires g t c =
    let ready = binary_ready c.args.self.now c.args.op (tree_of c.args.left.now) (tree_of c.args.right.now) c.requires.ready in
    λ κs lives. (parts_less _ _ c.decreases, (lives, (ready.0, (ready.1, (c.requires.fits, c.requires.kept)))))

pub nested-parts-requires : goal.nested-parts-requires
nested-parts-requires g t c =
    let ready = binary_ready c.args.self.now c.args.op (tree_of c.args.left.now) (tree_of c.args.right.now) c.requires.ready in
    λ κs lives. (parts_less _ _ c.decreases, (lives, (ready.0, (ready.1, (c.requires.fits, c.requires.kept)))))

pub pair-value-requires : goal.pair-value-requires
pair-value-requires g t c = λ κs lives. (left_less (the_size c.args.x.now) (the_size c.args.y.now) _ c.decreases, (lives, ((pair_ready c.args.self.now (tree_of c.args.x.now) (tree_of c.args.y.now) c.requires.ready).0, (c.requires.fits, c.requires.kept))))

pub pair-value-requires-2 : goal.pair-value-requires-2
pair-value-requires-2 g t c = λ κs lives. (right_less (the_size c.args.x.now) (the_size c.args.y.now) _ c.decreases, (lives, ((pair_ready c.args.self.now (tree_of c.args.x.now) (tree_of c.args.y.now) c.requires.ready).1, (still_fits c.requires.fits c.value.ensures.read.room, c.value.ensures.read.kept))))

pub choice-value-requires : goal.choice-value-requires
choice-value-requires g t c = λ κs lives. (first_less (the_size c.args.condition.now) (the_size c.args.chosen.now) (the_size c.args.other.now) _ c.decreases, (lives, ((choice_ready c.args.self.now (tree_of c.args.condition.now) (tree_of c.args.chosen.now) (tree_of c.args.other.now) c.requires.ready).0, (c.requires.fits, c.requires.kept))))

pub choice-value-requires-then-branch : goal.choice-value-requires-then-branch
choice-value-requires-then-branch g t c = λ κs lives. (second_less (the_size c.args.condition.now) (the_size c.args.chosen.now) (the_size c.args.other.now) _ c.decreases, (lives, ((choice_ready c.args.self.now (tree_of c.args.condition.now) (tree_of c.args.chosen.now) (tree_of c.args.other.now) c.requires.ready).1, (still_fits c.requires.fits c.value.ensures.read.room, c.value.ensures.read.kept))))

pub choice-value-requires-else-branch : goal.choice-value-requires-else-branch
choice-value-requires-else-branch g t c = λ κs lives. (third_less (the_size c.args.condition.now) (the_size c.args.chosen.now) (the_size c.args.other.now) _ c.decreases, (lives, ((choice_ready c.args.self.now (tree_of c.args.condition.now) (tree_of c.args.chosen.now) (tree_of c.args.other.now) c.requires.ready).2, (still_fits c.requires.fits c.value.ensures.read.room, c.value.ensures.read.kept))))

pub numbers-value-requires : goal.numbers-value-requires
numbers-value-requires g t c = λ κs lives. (first_less (the_size c.args.x.now) (the_size c.args.y.now) (the_size c.args.z.now) _ c.decreases, (lives, (c.requires.x, (c.requires.fits, c.requires.kept))))

pub numbers-value-requires-2 : goal.numbers-value-requires-2
numbers-value-requires-2 g t c = λ κs lives. (second_less (the_size c.args.x.now) (the_size c.args.y.now) (the_size c.args.z.now) _ c.decreases, (lives, (c.requires.y, (still_fits c.requires.fits c.value.ensures.read.room, c.value.ensures.read.kept))))

pub numbers-value-requires-3 : goal.numbers-value-requires-3
numbers-value-requires-3 g t c = λ κs lives. (third_less (the_size c.args.x.now) (the_size c.args.y.now) (the_size c.args.z.now) _ c.decreases, (lives, (c.requires.z, (still_fits c.requires.fits (c.value-2.ensures.read.room ∙ c.value.ensures.read.room), c.value-2.ensures.read.kept))))

-- ---- operators

pub unary-unary-requires : goal.unary-unary-requires
unary-unary-requires g t c = record { kind = unary_known c.args.self.now c.args.op (tree_of c.args.part.now) c.in_ok-part.part c.requires.ready c.in_ok-part.ensures.value }

pub unary-returns : goal.unary-returns
unary-returns g t c =
    record {
      value = unary_there c.args.self.now c.args.op (tree_of c.args.part.now) c.in_ok-part.part c.unary.result c.in_ok-part.ensures.value c.unary.ensures;
      read = record {
        cost = c.value.ensures.read.cost;
        least = c.value.ensures.read.least;
        room = c.value.ensures.read.room;
        kept = c.value.ensures.read.kept;
        stays = c.value.ensures.read.stays;
        adds = c.value.ensures.read.adds;
        left = λ some. c.in_ok-part.ensures.read.left refl;
      };
    }

pub unary-returns-in_err-part : goal.unary-returns-in_err-part
unary-returns-in_err-part g t c =
    record {
      value = none_there c.args.self.now (Unary c.args.op (tree_of c.args.part.now)) c.from_residual.result c.from_residual.ensures (λ v (x, h, u). c.in_err-part.ensures.value x h);
      read = record {
        cost = c.value.ensures.read.cost;
        least = c.value.ensures.read.least;
        room = c.value.ensures.read.room;
        kept = c.value.ensures.read.kept;
        stays = c.value.ensures.read.stays;
        adds = c.value.ensures.read.adds;
        left = λ some. absurd (not_some _ c.from_residual.ensures some);
      };
    }

pub parts-returns-in_err-first : goal.parts-returns-in_err-first
parts-returns-in_err-first g t c =
    record {
      value = no_values c.args.self.now (tree_of c.args.first.now) (tree_of c.args.second.now) c.from_residual.result c.from_residual.ensures (λ v w h k. c.in_err-first.ensures.value v h);
      read = record {
        cost = first_beside c.args.self.now _ (tree_of c.args.first.now) (tree_of c.args.second.now) _ _ c.value.ensures.read.cost;
        least = c.value.ensures.read.least;
        room = c.value.ensures.read.room;
        kept = c.value.ensures.read.kept;
        stays = c.value.ensures.read.stays;
        adds = first_adds (tree_of c.args.first.now) (tree_of c.args.second.now) _ _ c.value.ensures.read.adds;
        left = λ some. absurd (not_some _ c.from_residual.ensures some);
      };
    }

pub parts-returns-in_err-second : goal.parts-returns-in_err-second
parts-returns-in_err-second g t c =
    record {
      value = no_values c.args.self.now (tree_of c.args.first.now) (tree_of c.args.second.now) c.from_residual-in_err-second.result c.from_residual-in_err-second.ensures (λ v w h k. c.in_err-second.ensures.value w k);
      read = record {
        cost = two_beside c.args.self.now _ _ (tree_of c.args.first.now) (tree_of c.args.second.now) _ _ _ c.value.ensures.read.stays c.value.ensures.read.cost c.value-2.ensures.read.cost;
        least = le_trans c.value.ensures.read.least c.value-2.ensures.read.least;
        room = c.value-2.ensures.read.room ∙ c.value.ensures.read.room;
        kept = c.value-2.ensures.read.kept;
        stays = later_kept _ _ _ c.value.ensures.read.stays c.value-2.ensures.read.stays;
        adds = two_add (tree_of c.args.first.now) (tree_of c.args.second.now) _ _ _ c.value.ensures.read.adds c.value-2.ensures.read.adds;
        left = λ some. absurd (not_some _ c.from_residual-in_err-second.ensures some);
      };
    }

pub parts-returns : goal.parts-returns
parts-returns g t c =
    record {
      value = (c.in_ok-first.ensures.value, c.in_ok-second.ensures.value);
      read = record {
        cost = two_beside c.args.self.now _ _ (tree_of c.args.first.now) (tree_of c.args.second.now) _ _ _ c.value.ensures.read.stays c.value.ensures.read.cost c.value-2.ensures.read.cost;
        least = le_trans c.value.ensures.read.least c.value-2.ensures.read.least;
        room = c.value-2.ensures.read.room ∙ c.value.ensures.read.room;
        kept = c.value-2.ensures.read.kept;
        stays = later_kept _ _ _ c.value.ensures.read.stays c.value-2.ensures.read.stays;
        adds = two_add (tree_of c.args.first.now) (tree_of c.args.second.now) _ _ _ c.value.ensures.read.adds c.value-2.ensures.read.adds;
        left = λ some. two_left c.args.self.now (Read c.args.self.now (tree_of c.args.first.now)) (Read c.args.self.now (tree_of c.args.second.now)) _ _ c.value-2.ensures.read.stays (c.in_ok-first.ensures.read.left refl) (c.in_ok-second.ensures.read.left refl);
      };
    }

pub binary-returns-in_err-left : goal.binary-returns-in_err-left
binary-returns-in_err-left g t c = record { value = none_there c.args.self.now (Binary c.args.op (tree_of c.args.left.now) (tree_of c.args.right.now)) c.from_residual.result c.from_residual.ensures (λ v (x, y, h, k, u). c.in_err-left.ensures.value x y h k); read = both_read c.args.self.now c.args.op (tree_of c.args.left.now) (tree_of c.args.right.now) _ _ _ _ _ _ _ _ (λ some. absurd (not_some _ c.from_residual.ensures some)) c.parts.ensures.read }

pub binary-binary-requires : goal.binary-binary-requires
binary-binary-requires g t c = record { kind = binary_known c.args.self.now c.args.op (tree_of c.args.left.now) (tree_of c.args.right.now) c.in_ok-left.left c.in_ok-left.right c.requires.ready c.in_ok-left.ensures.value.0 c.in_ok-left.ensures.value.1 }

pub binary-returns : goal.binary-returns
binary-returns g t c = record { value = binary_there c.args.self.now c.args.op (tree_of c.args.left.now) (tree_of c.args.right.now) c.in_ok-left.left c.in_ok-left.right c.binary.result c.in_ok-left.ensures.value.0 c.in_ok-left.ensures.value.1 c.binary.ensures; read = both_read c.args.self.now c.args.op (tree_of c.args.left.now) (tree_of c.args.right.now) _ _ _ _ _ _ _ _ (λ some. refl) c.in_ok-left.ensures.read }

pub quick-first_part-requires : goal.quick-first_part-requires
quick-first_part-requires g t c = λ κs lives. (quick_left_less (the_size c.args.left.now) (the_size c.args.right.now) _ c.decreases, (lives, ((binary_ready c.args.self.now c.args.op (tree_of c.args.left.now) (tree_of c.args.right.now) c.requires.ready).0, (c.requires.fits, c.requires.kept))))

pub quick-value-requires : goal.quick-value-requires
quick-value-requires g t c = λ κs lives. (quick_right_less (the_size c.args.left.now) (the_size c.args.right.now) _ c.decreases, (lives, ((binary_ready c.args.self.now c.args.op (tree_of c.args.left.now) (tree_of c.args.right.now) c.requires.ready).1, (still_fits c.requires.fits c.first_part.ensures.read.room, c.first_part.ensures.read.kept))))

pub quick-returns-in_err-left : goal.quick-returns-in_err-left
quick-returns-in_err-left g t c =
    record {
      value = none_there c.args.self.now (Binary c.args.op (tree_of c.args.left.now) (tree_of c.args.right.now)) c.from_residual.result c.from_residual.ensures (λ v (x, y, h, k, u). c.in_err-left.ensures.value x h);
      read = record {
        cost = first_beside c.args.self.now _ (tree_of c.args.left.now) (tree_of c.args.right.now) _ _ c.first_part.ensures.read.cost;
        least = c.first_part.ensures.read.least;
        room = c.first_part.ensures.read.room;
        kept = c.first_part.ensures.read.kept;
        stays = c.first_part.ensures.read.stays;
        adds = first_adds (tree_of c.args.left.now) (tree_of c.args.right.now) _ _ c.first_part.ensures.read.adds;
        left = λ some. absurd (not_some _ c.from_residual.ensures some);
      };
    }

pub quick-returns-in_err-right : goal.quick-returns-in_err-right
quick-returns-in_err-right g t c =
    record {
      value = none_there c.args.self.now (Binary c.args.op (tree_of c.args.left.now) (tree_of c.args.right.now)) c.from_residual-in_err-right.result c.from_residual-in_err-right.ensures (λ v (x, y, h, k, u). c.in_err-right.ensures.value y k);
      read = record {
        cost = two_beside c.args.self.now _ _ (tree_of c.args.left.now) (tree_of c.args.right.now) _ _ _ c.first_part.ensures.read.stays c.first_part.ensures.read.cost c.value.ensures.read.cost;
        least = le_trans c.first_part.ensures.read.least c.value.ensures.read.least;
        room = c.value.ensures.read.room ∙ c.first_part.ensures.read.room;
        kept = c.value.ensures.read.kept;
        stays = later_kept _ _ _ c.first_part.ensures.read.stays c.value.ensures.read.stays;
        adds = two_add (tree_of c.args.left.now) (tree_of c.args.right.now) _ _ _ c.first_part.ensures.read.adds c.value.ensures.read.adds;
        left = λ some. absurd (not_some _ c.from_residual-in_err-right.ensures some);
      };
    }

pub quick-most_met-requires-clause-kind : goal.quick-most_met-requires-clause-kind
quick-most_met-requires-clause-kind g t c = binary_known c.args.self.now c.args.op (tree_of c.args.left.now) (tree_of c.args.right.now) c.in_ok-left.left c.in_ok-right.right c.requires.ready c.in_ok-left.ensures.value c.in_ok-right.ensures.value

pub quick-returns : goal.quick-returns
quick-returns g t c =
    record {
      value = binary_there c.args.self.now c.args.op (tree_of c.args.left.now) (tree_of c.args.right.now) c.in_ok-left.left c.in_ok-right.right c.most_met.result c.in_ok-left.ensures.value c.in_ok-right.ensures.value c.most_met.ensures;
      read = record {
        cost = two_beside c.args.self.now _ _ (tree_of c.args.left.now) (tree_of c.args.right.now) _ _ _ c.first_part.ensures.read.stays c.first_part.ensures.read.cost c.value.ensures.read.cost;
        least = le_trans c.first_part.ensures.read.least c.value.ensures.read.least;
        room = c.value.ensures.read.room ∙ c.first_part.ensures.read.room;
        kept = c.value.ensures.read.kept;
        stays = later_kept _ _ _ c.first_part.ensures.read.stays c.value.ensures.read.stays;
        adds = two_add (tree_of c.args.left.now) (tree_of c.args.right.now) _ _ _ c.first_part.ensures.read.adds c.value.ensures.read.adds;
        left = λ some. two_left c.args.self.now (Read c.args.self.now (tree_of c.args.left.now)) (Read c.args.self.now (tree_of c.args.right.now)) _ _ c.value.ensures.read.stays (c.in_ok-left.ensures.read.left refl) (c.in_ok-right.ensures.read.left refl);
      };
    }

pub nested-returns-in_err-left : goal.nested-returns-in_err-left
nested-returns-in_err-left g t c = record { value = none_there c.args.self.now (Binary c.args.op (tree_of c.args.left.now) (tree_of c.args.right.now)) c.from_residual.result c.from_residual.ensures (λ v (x, y, h, k, u). c.in_err-left.ensures.value x y h k); read = both_read c.args.self.now c.args.op (tree_of c.args.left.now) (tree_of c.args.right.now) _ _ _ _ _ _ _ _ (λ some. absurd (not_some _ c.from_residual.ensures some)) c.parts.ensures.read }

pub nested-most_met-requires-clause-kind : goal.nested-most_met-requires-clause-kind
nested-most_met-requires-clause-kind g t c = binary_known c.args.self.now c.args.op (tree_of c.args.left.now) (tree_of c.args.right.now) c.in_ok-left.left c.in_ok-left.right c.requires.ready c.in_ok-left.ensures.value.0 c.in_ok-left.ensures.value.1

pub nested-returns : goal.nested-returns
nested-returns g t c = record { value = binary_there c.args.self.now c.args.op (tree_of c.args.left.now) (tree_of c.args.right.now) c.in_ok-left.left c.in_ok-left.right c.most_met.result c.in_ok-left.ensures.value.0 c.in_ok-left.ensures.value.1 c.most_met.ensures; read = both_read c.args.self.now c.args.op (tree_of c.args.left.now) (tree_of c.args.right.now) _ _ _ _ _ _ _ _ (λ some. refl) c.in_ok-left.ensures.read }

pub binary-of_mean-requires : goal.binary-of_mean-requires
binary-of_mean-requires g t c =
    let mean = c.in-Some.ensures in
    record { ready = subst (λ a. IsReady c.args.self.now (Binary c.args.op a (Count c.in-Some.mask c.in-Some.term.now))) mean.0 (subst (λ b. IsReady c.args.self.now (Binary c.args.op (tree_of c.args.left.now) b)) mean.1 c.requires.ready); fits = c.requires.fits; kept = c.requires.kept }

pub binary-returns-in-Some : goal.binary-returns-in-Some
binary-returns-in-Some g t c =
    let mean = c.in-Some.ensures in
    let kept = c.of_mean.ensures in
    record {
      value = rw (mean.0, mean.1) kept.value;
      read = rw (mean.0, mean.1) kept.read;
    }

-- ---- a choice

pub choice-returns-then-branch : goal.choice-returns-then-branch
choice-returns-then-branch g t c =
    let truth = is_there c.args.self.now (tree_of c.args.condition.now) (Truth c.in_ok-truth.field-0) c.value.result c.value.ensures.value c.in_ok-truth.ensures in
    record {
      value = chosen_there c.args.self.now (tree_of c.args.condition.now) (tree_of c.args.chosen.now) (tree_of c.args.other.now) c.in_ok-truth.field-0 c.value-then-branch.result c.if-branch.true truth c.value-then-branch.ensures.value;
      read = record {
        cost = chosen_beside c.args.self.now _ _ (tree_of c.args.condition.now) (tree_of c.args.chosen.now) (tree_of c.args.other.now) c.in_ok-truth.field-0 _ _ _ c.value.ensures.read.stays c.if-branch.true truth c.value.ensures.read.cost c.value-then-branch.ensures.read.cost;
        least = le_trans c.value.ensures.read.least c.value-then-branch.ensures.read.least;
        room = c.value-then-branch.ensures.read.room ∙ c.value.ensures.read.room;
        kept = c.value-then-branch.ensures.read.kept;
        stays = later_kept _ _ _ c.value.ensures.read.stays c.value-then-branch.ensures.read.stays;
        adds = front_adds (tree_of c.args.condition.now) (tree_of c.args.chosen.now) (tree_of c.args.other.now) _ _ _ c.value.ensures.read.adds c.value-then-branch.ensures.read.adds;
        left = λ some. chosen_left c.args.self.now (tree_of c.args.condition.now) (tree_of c.args.chosen.now) (tree_of c.args.other.now) c.in_ok-truth.field-0 _ _ c.value-then-branch.ensures.read.stays c.if-branch.true truth (c.value.ensures.read.left (is_some _ _ c.in_ok-truth.ensures)) (c.value-then-branch.ensures.read.left some);
      };
    }

pub choice-returns-else-branch : goal.choice-returns-else-branch
choice-returns-else-branch g t c =
    let truth = is_there c.args.self.now (tree_of c.args.condition.now) (Truth c.in_ok-truth.field-0) c.value.result c.value.ensures.value c.in_ok-truth.ensures in
    record {
      value = other_there c.args.self.now (tree_of c.args.condition.now) (tree_of c.args.chosen.now) (tree_of c.args.other.now) c.in_ok-truth.field-0 c.value-else-branch.result c.if-branch.false truth c.value-else-branch.ensures.value;
      read = record {
        cost = other_beside c.args.self.now _ _ (tree_of c.args.condition.now) (tree_of c.args.chosen.now) (tree_of c.args.other.now) c.in_ok-truth.field-0 _ _ _ c.value.ensures.read.stays c.if-branch.false truth c.value.ensures.read.cost c.value-else-branch.ensures.read.cost;
        least = le_trans c.value.ensures.read.least c.value-else-branch.ensures.read.least;
        room = c.value-else-branch.ensures.read.room ∙ c.value.ensures.read.room;
        kept = c.value-else-branch.ensures.read.kept;
        stays = later_kept _ _ _ c.value.ensures.read.stays c.value-else-branch.ensures.read.stays;
        adds = ends_add (tree_of c.args.condition.now) (tree_of c.args.chosen.now) (tree_of c.args.other.now) _ _ _ c.value.ensures.read.adds c.value-else-branch.ensures.read.adds;
        left = λ some. other_left c.args.self.now (tree_of c.args.condition.now) (tree_of c.args.chosen.now) (tree_of c.args.other.now) c.in_ok-truth.field-0 _ _ c.value-else-branch.ensures.read.stays c.if-branch.false truth (c.value.ensures.read.left (is_some _ _ c.in_ok-truth.ensures)) (c.value-else-branch.ensures.read.left some);
      };
    }

pub choice-returns-in_err-truth : goal.choice-returns-in_err-truth
choice-returns-in_err-truth g t c =
    record {
      value = no_choice c.args.self.now (tree_of c.args.condition.now) (tree_of c.args.chosen.now) (tree_of c.args.other.now) c.from_residual.result c.from_residual.ensures (λ b. not_there c.args.self.now (tree_of c.args.condition.now) (Truth b) c.value.result c.value.ensures.value (c.in_err-truth.ensures b));
      read = record {
        cost = condition_beside c.args.self.now _ (tree_of c.args.condition.now) (tree_of c.args.chosen.now) (tree_of c.args.other.now) _ _ c.value.ensures.read.cost;
        least = c.value.ensures.read.least;
        room = c.value.ensures.read.room;
        kept = c.value.ensures.read.kept;
        stays = c.value.ensures.read.stays;
        adds = start_adds (tree_of c.args.condition.now) (tree_of c.args.chosen.now) (tree_of c.args.other.now) _ _ c.value.ensures.read.adds;
        left = λ some. absurd (not_some _ c.from_residual.ensures some);
      };
    }

-- ---- numbers

pub pair-returns-in_err-x : goal.pair-returns-in_err-x
pair-returns-in_err-x g t c =
    record {
      value = none_there c.args.self.now (MakeVec2 (tree_of c.args.x.now) (tree_of c.args.y.now)) c.from_residual.result c.from_residual.ensures (λ v (x, y, h, k, made). not_there c.args.self.now (tree_of c.args.x.now) (Int x) c.value.result c.value.ensures.value (c.in_err-x.ensures x) h);
      read = record {
        cost = first_beside c.args.self.now _ (tree_of c.args.x.now) (tree_of c.args.y.now) _ _ c.value.ensures.read.cost;
        least = c.value.ensures.read.least;
        room = c.value.ensures.read.room;
        kept = c.value.ensures.read.kept;
        stays = c.value.ensures.read.stays;
        adds = first_adds (tree_of c.args.x.now) (tree_of c.args.y.now) _ _ c.value.ensures.read.adds;
        left = λ some. absurd (not_some _ c.from_residual.ensures some);
      };
    }

pub pair-returns-in_err-y : goal.pair-returns-in_err-y
pair-returns-in_err-y g t c =
    record {
      value = none_there c.args.self.now (MakeVec2 (tree_of c.args.x.now) (tree_of c.args.y.now)) c.from_residual-in_err-y.result c.from_residual-in_err-y.ensures (λ v (x, y, h, k, made). not_there c.args.self.now (tree_of c.args.y.now) (Int y) c.value-2.result c.value-2.ensures.value (c.in_err-y.ensures y) k);
      read = record {
        cost = two_beside c.args.self.now _ _ (tree_of c.args.x.now) (tree_of c.args.y.now) _ _ _ c.value.ensures.read.stays c.value.ensures.read.cost c.value-2.ensures.read.cost;
        least = le_trans c.value.ensures.read.least c.value-2.ensures.read.least;
        room = c.value-2.ensures.read.room ∙ c.value.ensures.read.room;
        kept = c.value-2.ensures.read.kept;
        stays = later_kept _ _ _ c.value.ensures.read.stays c.value-2.ensures.read.stays;
        adds = two_add (tree_of c.args.x.now) (tree_of c.args.y.now) _ _ _ c.value.ensures.read.adds c.value-2.ensures.read.adds;
        left = λ some. absurd (not_some _ c.from_residual-in_err-y.ensures some);
      };
    }

pub pair-returns : goal.pair-returns
pair-returns g t c =
    let x_fits : FitsSigned w64 c.in_ok-x.x = search rules in
    let y_fits : FitsSigned w64 c.in_ok-y.y = search rules in
    record {
      value = pair_there c.args.self.now (tree_of c.args.x.now) (tree_of c.args.y.now) c.in_ok-x.x c.in_ok-y.y _ _ c.vec2.result (is_there c.args.self.now (tree_of c.args.x.now) (Int c.in_ok-x.x) c.value.result c.value.ensures.value c.in_ok-x.ensures) (is_there c.args.self.now (tree_of c.args.y.now) (Int c.in_ok-y.y) c.value-2.result c.value-2.ensures.value c.in_ok-y.ensures) (wide_is c.in_ok-x.x x_fits) (wide_is c.in_ok-y.y y_fits) c.vec2.ensures;
      read = record {
        cost = two_beside c.args.self.now _ _ (tree_of c.args.x.now) (tree_of c.args.y.now) _ _ _ c.value.ensures.read.stays c.value.ensures.read.cost c.value-2.ensures.read.cost;
        least = le_trans c.value.ensures.read.least c.value-2.ensures.read.least;
        room = c.value-2.ensures.read.room ∙ c.value.ensures.read.room;
        kept = c.value-2.ensures.read.kept;
        stays = later_kept _ _ _ c.value.ensures.read.stays c.value-2.ensures.read.stays;
        adds = two_add (tree_of c.args.x.now) (tree_of c.args.y.now) _ _ _ c.value.ensures.read.adds c.value-2.ensures.read.adds;
        left = λ some. two_left c.args.self.now (Read c.args.self.now (tree_of c.args.x.now)) (Read c.args.self.now (tree_of c.args.y.now)) _ _ c.value-2.ensures.read.stays (c.value.ensures.read.left (is_some _ _ c.in_ok-x.ensures)) (c.value-2.ensures.read.left (is_some _ _ c.in_ok-y.ensures));
      };
    }

pub numbers-returns-in_err-x : goal.numbers-returns-in_err-x
numbers-returns-in_err-x g t c =
    record {
      value = no_numbers c.args.self.now (tree_of c.args.x.now) (tree_of c.args.y.now) (tree_of c.args.z.now) c.from_residual.result c.from_residual.ensures (λ x y z h k l. not_there c.args.self.now (tree_of c.args.x.now) (Int x) c.value.result c.value.ensures.value (c.in_err-x.ensures x) h);
      read = record {
        cost = start_beside c.args.self.now _ (tree_of c.args.x.now) (tree_of c.args.y.now) (tree_of c.args.z.now) _ _ c.value.ensures.read.cost;
        least = c.value.ensures.read.least;
        room = c.value.ensures.read.room;
        kept = c.value.ensures.read.kept;
        stays = c.value.ensures.read.stays;
        adds = start_adds (tree_of c.args.x.now) (tree_of c.args.y.now) (tree_of c.args.z.now) _ _ c.value.ensures.read.adds;
        left = λ some. absurd (not_some _ c.from_residual.ensures some);
      };
    }

pub numbers-returns-in_err-y : goal.numbers-returns-in_err-y
numbers-returns-in_err-y g t c =
    record {
      value = no_numbers c.args.self.now (tree_of c.args.x.now) (tree_of c.args.y.now) (tree_of c.args.z.now) c.from_residual-in_err-y.result c.from_residual-in_err-y.ensures (λ x y z h k l. not_there c.args.self.now (tree_of c.args.y.now) (Int y) c.value-2.result c.value-2.ensures.value (c.in_err-y.ensures y) k);
      read = record {
        cost = front_beside c.args.self.now _ _ (tree_of c.args.x.now) (tree_of c.args.y.now) (tree_of c.args.z.now) _ _ _ c.value.ensures.read.stays c.value.ensures.read.cost c.value-2.ensures.read.cost;
        least = le_trans c.value.ensures.read.least c.value-2.ensures.read.least;
        room = c.value-2.ensures.read.room ∙ c.value.ensures.read.room;
        kept = c.value-2.ensures.read.kept;
        stays = later_kept _ _ _ c.value.ensures.read.stays c.value-2.ensures.read.stays;
        adds = front_adds (tree_of c.args.x.now) (tree_of c.args.y.now) (tree_of c.args.z.now) _ _ _ c.value.ensures.read.adds c.value-2.ensures.read.adds;
        left = λ some. absurd (not_some _ c.from_residual-in_err-y.ensures some);
      };
    }

pub numbers-returns-in_err-z : goal.numbers-returns-in_err-z
numbers-returns-in_err-z g t c =
    record {
      value = no_numbers c.args.self.now (tree_of c.args.x.now) (tree_of c.args.y.now) (tree_of c.args.z.now) c.from_residual-in_err-z.result c.from_residual-in_err-z.ensures (λ x y z h k l. not_there c.args.self.now (tree_of c.args.z.now) (Int z) c.value-3.result c.value-3.ensures.value (c.in_err-z.ensures z) l);
      read = record {
        cost = three_beside c.args.self.now _ _ _ (tree_of c.args.x.now) (tree_of c.args.y.now) (tree_of c.args.z.now) _ _ _ _ c.value.ensures.read.stays c.value-2.ensures.read.stays c.value.ensures.read.cost c.value-2.ensures.read.cost c.value-3.ensures.read.cost;
        least = le_trans c.value.ensures.read.least (le_trans c.value-2.ensures.read.least c.value-3.ensures.read.least);
        room = c.value-3.ensures.read.room ∙ c.value-2.ensures.read.room ∙ c.value.ensures.read.room;
        kept = c.value-3.ensures.read.kept;
        stays = later_kept _ _ _ c.value.ensures.read.stays (later_kept _ _ _ c.value-2.ensures.read.stays c.value-3.ensures.read.stays);
        adds = three_add (tree_of c.args.x.now) (tree_of c.args.y.now) (tree_of c.args.z.now) _ _ _ _ c.value.ensures.read.adds c.value-2.ensures.read.adds c.value-3.ensures.read.adds;
        left = λ some. absurd (not_some _ c.from_residual-in_err-z.ensures some);
      };
    }

pub numbers-returns : goal.numbers-returns
numbers-returns g t c =
    let x = is_there c.args.self.now (tree_of c.args.x.now) (Int c.in_ok-x.x) c.value.result c.value.ensures.value c.in_ok-x.ensures in
    let y = is_there c.args.self.now (tree_of c.args.y.now) (Int c.in_ok-y.y) c.value-2.result c.value-2.ensures.value c.in_ok-y.ensures in
    let z = is_there c.args.self.now (tree_of c.args.z.now) (Int c.in_ok-z.z) c.value-3.result c.value-3.ensures.value c.in_ok-z.ensures in
    record {
      value = (int_as c.args.self.now (tree_of c.args.x.now) c.in_ok-x.x _ (to_z-of_z w64 c.in_ok-x.x (search rules)) x, int_as c.args.self.now (tree_of c.args.y.now) c.in_ok-y.y _ (to_z-of_z w64 c.in_ok-y.y (search rules)) y, int_as c.args.self.now (tree_of c.args.z.now) c.in_ok-z.z _ (to_z-of_z w64 c.in_ok-z.z (search rules)) z);
      read = record {
        cost = three_beside c.args.self.now _ _ _ (tree_of c.args.x.now) (tree_of c.args.y.now) (tree_of c.args.z.now) _ _ _ _ c.value.ensures.read.stays c.value-2.ensures.read.stays c.value.ensures.read.cost c.value-2.ensures.read.cost c.value-3.ensures.read.cost;
        least = le_trans c.value.ensures.read.least (le_trans c.value-2.ensures.read.least c.value-3.ensures.read.least);
        room = c.value-3.ensures.read.room ∙ c.value-2.ensures.read.room ∙ c.value.ensures.read.room;
        kept = c.value-3.ensures.read.kept;
        stays = later_kept _ _ _ c.value.ensures.read.stays (later_kept _ _ _ c.value-2.ensures.read.stays c.value-3.ensures.read.stays);
        adds = three_add (tree_of c.args.x.now) (tree_of c.args.y.now) (tree_of c.args.z.now) _ _ _ _ c.value.ensures.read.adds c.value-2.ensures.read.adds c.value-3.ensures.read.adds;
        left = λ some. three_left c.args.self.now (Read c.args.self.now (tree_of c.args.x.now)) (Read c.args.self.now (tree_of c.args.y.now)) (Read c.args.self.now (tree_of c.args.z.now)) _ _ _ c.value-2.ensures.read.stays c.value-3.ensures.read.stays (c.value.ensures.read.left (is_some _ _ c.in_ok-x.ensures)) (c.value-2.ensures.read.left (is_some _ _ c.in_ok-y.ensures)) (c.value-3.ensures.read.left (is_some _ _ c.in_ok-z.ensures));
      };
    }

-- ---- the forms

pub value-bounds-self-at : goal.value-bounds-self-at
value-bounds-self-at g t c = param_within c.args.self.now c.in-Param.at (subst (λ e. IsReady c.args.self.now (tree_of e)) c.in-Param.is c.requires.ready)

pub composed-returns-in-Bool : goal.composed-returns-in-Bool
composed-returns-in-Bool g t c = record { value = value_as c.args.self.now c.args.expr.now _ _ (ap tree_of c.in-Bool.is) refl; read = record { cost = still_beside c.args.self.now _ (tree_of c.args.expr.now) _; least = le_refl _; room = refl; kept = c.requires.kept; stays = same_kept _; adds = same_adds _ _; left = λ some. left_as c.args.self.now c.args.expr.now _ _ (ap tree_of c.in-Bool.is) (λ room x read. absurd read) } }

pub value-returns-in-Param : goal.value-returns-in-Param
value-returns-in-Param g t c =
    let within = param_within c.args.self.now c.in-Param.at (subst (λ e. IsReady c.args.self.now (tree_of e)) c.in-Param.is c.requires.ready) in
    record {
      value = subst (λ e. HasValue (reading_of c.args.self.now) (tree_of e) (get_or c.args.self.now.params.now c.in-Param.at (Int (pos 0)))) (sym c.in-Param.is) (slice_get-get_or c.args.self.now.params.now c.in-Param.at (Int (pos 0)) within);
      read = record {
        cost = still_beside c.args.self.now _ (tree_of c.args.expr.now) _;
        least = le_refl _;
        room = refl;
        kept = c.requires.kept;
        stays = same_kept _;
        adds = same_adds _ _;
        left = λ some. left_as c.args.self.now c.args.expr.now _ _ (ap tree_of c.in-Param.is) (λ room x read. absurd read);
      };
    }

pub value-field-requires : goal.value-field-requires
value-field-requires g t c = record { ready = ready_as c.args.self.now c.args.expr.now _ (ap tree_of c.in-Field.is) c.requires.ready }

pub value-returns-in-Field : goal.value-returns-in-Field
value-returns-in-Field g t c =
    let kept = c.field.ensures in
    let same = ap tree_of c.in-Field.is in
    record {
      value = value_as c.args.self.now c.args.expr.now _ c.field.result same kept.value;
      read = record {
        cost = beside_as c.args.self.now c.args.expr.now _ _ _ _ same kept.cost;
        least = kept.least;
        room = refl;
        kept = c.requires.kept;
        stays = same_kept _;
        adds = same_adds _ _;
        left = λ some. left_as c.args.self.now c.args.expr.now _ _ same (λ room x read. absurd read);
      };
    }

pub composed-same-requires : goal.composed-same-requires
composed-same-requires g t c = record { ready = ready_as c.args.self.now c.args.expr.now _ (ap tree_of c.in-Same.is) c.requires.ready }

pub composed-returns-in-Same : goal.composed-returns-in-Same
composed-returns-in-Same g t c =
    let kept = c.same.ensures in
    let same = ap tree_of c.in-Same.is in
    record {
      value = value_as c.args.self.now c.args.expr.now _ (Truth c.same.result) same kept.value;
      read = record {
        cost = beside_as c.args.self.now c.args.expr.now _ _ _ _ same kept.cost;
        least = kept.least;
        room = refl;
        kept = c.requires.kept;
        stays = same_kept _;
        adds = same_adds _ _;
        left = λ some. left_as c.args.self.now c.args.expr.now _ _ same (λ room x read. absurd read);
      };
    }

pub composed-collected-requires : goal.composed-collected-requires
composed-collected-requires g t c = record { ready = ready_as c.args.self.now c.args.expr.now _ (ap tree_of c.in-Count.is) c.requires.ready; fits = c.requires.fits; kept = c.requires.kept }

pub composed-returns-in-Count : goal.composed-returns-in-Count
composed-returns-in-Count g t c =
    let kept = c.collected.ensures in
    let same = ap tree_of c.in-Count.is in
    record {
      value = there_as c.args.self.now c.args.expr.now _ c.collected.result same kept.value;
      read = record {
        cost = beside_as c.args.self.now c.args.expr.now _ _ _ _ same kept.cost;
        least = kept.least;
        room = kept.room;
        kept = kept.kept;
        stays = kept.stays;
        adds = adds_as c.args.expr.now _ _ _ same kept.adds;
        left = λ some. left_as c.args.self.now c.args.expr.now _ _ same kept.left;
      };
    }

pub composed-collected-requires-in-Sum : goal.composed-collected-requires-in-Sum
composed-collected-requires-in-Sum g t c = record { ready = ready_as c.args.self.now c.args.expr.now _ (ap tree_of c.in-Sum.is) c.requires.ready; fits = c.requires.fits; kept = c.requires.kept }

pub composed-returns-in-Sum : goal.composed-returns-in-Sum
composed-returns-in-Sum g t c =
    let kept = c.collected-in-Sum.ensures in
    let same = ap tree_of c.in-Sum.is in
    record {
      value = there_as c.args.self.now c.args.expr.now _ c.collected-in-Sum.result same kept.value;
      read = record {
        cost = beside_as c.args.self.now c.args.expr.now _ _ _ _ same kept.cost;
        least = kept.least;
        room = kept.room;
        kept = kept.kept;
        stays = kept.stays;
        adds = adds_as c.args.expr.now _ _ _ same kept.adds;
        left = λ some. left_as c.args.self.now c.args.expr.now _ _ same kept.left;
      };
    }

pub composed-collected-requires-in-Least : goal.composed-collected-requires-in-Least
composed-collected-requires-in-Least g t c = record { ready = ready_as c.args.self.now c.args.expr.now _ (ap tree_of c.in-Least.is) c.requires.ready; fits = c.requires.fits; kept = c.requires.kept }

pub composed-returns-in-Least : goal.composed-returns-in-Least
composed-returns-in-Least g t c =
    let kept = c.collected-in-Least.ensures in
    let same = ap tree_of c.in-Least.is in
    record {
      value = there_as c.args.self.now c.args.expr.now _ c.collected-in-Least.result same kept.value;
      read = record {
        cost = beside_as c.args.self.now c.args.expr.now _ _ _ _ same kept.cost;
        least = kept.least;
        room = kept.room;
        kept = kept.kept;
        stays = kept.stays;
        adds = adds_as c.args.expr.now _ _ _ same kept.adds;
        left = λ some. left_as c.args.self.now c.args.expr.now _ _ same kept.left;
      };
    }

pub composed-collected-requires-in-Greatest : goal.composed-collected-requires-in-Greatest
composed-collected-requires-in-Greatest g t c = record { ready = ready_as c.args.self.now c.args.expr.now _ (ap tree_of c.in-Greatest.is) c.requires.ready; fits = c.requires.fits; kept = c.requires.kept }

pub composed-returns-in-Greatest : goal.composed-returns-in-Greatest
composed-returns-in-Greatest g t c =
    let kept = c.collected-in-Greatest.ensures in
    let same = ap tree_of c.in-Greatest.is in
    record {
      value = there_as c.args.self.now c.args.expr.now _ c.collected-in-Greatest.result same kept.value;
      read = record {
        cost = beside_as c.args.self.now c.args.expr.now _ _ _ _ same kept.cost;
        least = kept.least;
        room = kept.room;
        kept = kept.kept;
        stays = kept.stays;
        adds = adds_as c.args.expr.now _ _ _ same kept.adds;
        left = λ some. left_as c.args.self.now c.args.expr.now _ _ same kept.left;
      };
    }

pub composed-unary-requires : goal.composed-unary-requires
composed-unary-requires g t c =
    let same = ap tree_of c.in-Unary.is ∙ ap (λ (e : Expr). Unary c.in-Unary.op (tree_of e)) (sym c.deref.ensures) in
    let ready = ready_as c.args.self.now c.args.expr.now _ same c.requires.ready in
    λ κs lives. (unary_less (the_size c.args.expr.now) (the_size c.in-Unary.part.value) (the_size c.deref.result.now) _ c.decreases (ap the_size c.in-Unary.is ∙ sized-Unary c.in-Unary.op c.in-Unary.part) (ap the_size c.deref.ensures), (lives, (ready, (c.requires.fits, c.requires.kept))))

pub composed-returns-in-Unary : goal.composed-returns-in-Unary
composed-returns-in-Unary g t c =
    let kept = c.unary.ensures in
    let same = ap tree_of c.in-Unary.is ∙ ap (λ (e : Expr). Unary c.in-Unary.op (tree_of e)) (sym c.deref.ensures) in
    record {
      value = there_as c.args.self.now c.args.expr.now _ c.unary.result same kept.value;
      read = read_as c.args.self.now c.args.expr.now _ _ _ _ _ _ _ _ _ same (λ some. some) kept.read;
    }

pub first_part-nested-requires : goal.first_part-nested-requires
first_part-nested-requires g t c =
    let same = ap tree_of c.in-Binary.is ∙ ap₂ (λ (e : Expr) (f : Expr). Binary c.in-Binary.op (tree_of e) (tree_of f)) (sym c.deref-in-Binary.ensures) (sym c.deref-in-Binary-2.ensures) in
    let ready = ready_as c.args.self.now c.args.expr.now _ same c.requires.ready in
    λ κs lives. (nested_less (the_size c.args.expr.now) (the_size c.in-Binary.left.value) (the_size c.in-Binary.right.value) (the_size c.deref-in-Binary.result.now) (the_size c.deref-in-Binary-2.result.now) _ c.decreases (ap the_size c.in-Binary.is ∙ sized-Binary c.in-Binary.op c.in-Binary.left c.in-Binary.right) (ap the_size c.deref-in-Binary.ensures) (ap the_size c.deref-in-Binary-2.ensures), (lives, (ready, (c.is_quick.ensures c.if-is_quick.true, (c.requires.fits, c.requires.kept)))))

pub first_part-returns-in-Binary : goal.first_part-returns-in-Binary
first_part-returns-in-Binary g t c =
    let kept = c.nested.ensures in
    let same = ap tree_of c.in-Binary.is ∙ ap₂ (λ (e : Expr) (f : Expr). Binary c.in-Binary.op (tree_of e) (tree_of f)) (sym c.deref-in-Binary.ensures) (sym c.deref-in-Binary-2.ensures) in
    record {
      value = there_as c.args.self.now c.args.expr.now _ c.nested.result same kept.value;
      read = read_as c.args.self.now c.args.expr.now _ _ _ _ _ _ _ _ _ same (λ some. some) kept.read;
    }

pub composed-quick-requires : goal.composed-quick-requires
composed-quick-requires g t c =
    let same = ap tree_of c.in-Binary.is ∙ ap₂ (λ (e : Expr) (f : Expr). Binary c.in-Binary.op (tree_of e) (tree_of f)) (sym c.deref-in-Binary.ensures) (sym c.deref-in-Binary-2.ensures) in
    let ready = ready_as c.args.self.now c.args.expr.now _ same c.requires.ready in
    λ κs lives. (binary_less (the_size c.args.expr.now) (the_size c.in-Binary.left.value) (the_size c.in-Binary.right.value) (the_size c.deref-in-Binary.result.now) (the_size c.deref-in-Binary-2.result.now) _ c.decreases (ap the_size c.in-Binary.is ∙ sized-Binary c.in-Binary.op c.in-Binary.left c.in-Binary.right) (ap the_size c.deref-in-Binary.ensures) (ap the_size c.deref-in-Binary-2.ensures), (lives, (ready, (c.is_quick.ensures c.if-is_quick.true, (c.requires.fits, c.requires.kept)))))

pub composed-returns-in-Binary : goal.composed-returns-in-Binary
composed-returns-in-Binary g t c =
    let kept = c.quick.ensures in
    let same = ap tree_of c.in-Binary.is ∙ ap₂ (λ (e : Expr) (f : Expr). Binary c.in-Binary.op (tree_of e) (tree_of f)) (sym c.deref-in-Binary.ensures) (sym c.deref-in-Binary-2.ensures) in
    record {
      value = there_as c.args.self.now c.args.expr.now _ c.quick.result same kept.value;
      read = read_as c.args.self.now c.args.expr.now _ _ _ _ _ _ _ _ _ same (λ some. some) kept.read;
    }

pub composed-binary-requires : goal.composed-binary-requires
composed-binary-requires g t c =
    let same = ap tree_of c.in-Binary-2.is ∙ ap₂ (λ (e : Expr) (f : Expr). Binary c.in-Binary-2.op (tree_of e) (tree_of f)) (sym c.deref-in-Binary-2-2.ensures) (sym c.deref-in-Binary-2-3.ensures) in
    let ready = ready_as c.args.self.now c.args.expr.now _ same c.requires.ready in
    λ κs lives. (binary_less (the_size c.args.expr.now) (the_size c.in-Binary-2.left.value) (the_size c.in-Binary-2.right.value) (the_size c.deref-in-Binary-2-2.result.now) (the_size c.deref-in-Binary-2-3.result.now) _ c.decreases (ap the_size c.in-Binary-2.is ∙ sized-Binary c.in-Binary-2.op c.in-Binary-2.left c.in-Binary-2.right) (ap the_size c.deref-in-Binary-2-2.ensures) (ap the_size c.deref-in-Binary-2-3.ensures), (lives, (ready, (c.requires.fits, c.requires.kept))))

pub composed-returns-in-Binary-2 : goal.composed-returns-in-Binary-2
composed-returns-in-Binary-2 g t c =
    let kept = c.binary.ensures in
    let same = ap tree_of c.in-Binary-2.is ∙ ap₂ (λ (e : Expr) (f : Expr). Binary c.in-Binary-2.op (tree_of e) (tree_of f)) (sym c.deref-in-Binary-2-2.ensures) (sym c.deref-in-Binary-2-3.ensures) in
    record {
      value = there_as c.args.self.now c.args.expr.now _ c.binary.result same kept.value;
      read = read_as c.args.self.now c.args.expr.now _ _ _ _ _ _ _ _ _ same (λ some. some) kept.read;
    }

pub composed-pair-requires : goal.composed-pair-requires
composed-pair-requires g t c =
    let same = ap tree_of c.in-MakeVec2.is ∙ ap₂ (λ (e : Expr) (f : Expr). MakeVec2 (tree_of e) (tree_of f)) (sym c.deref-in-MakeVec2.ensures) (sym c.deref-in-MakeVec2-2.ensures) in
    let ready = ready_as c.args.self.now c.args.expr.now _ same c.requires.ready in
    λ κs lives. (pair_less (the_size c.args.expr.now) (the_size c.in-MakeVec2.x.value) (the_size c.in-MakeVec2.y.value) (the_size c.deref-in-MakeVec2.result.now) (the_size c.deref-in-MakeVec2-2.result.now) _ c.decreases (ap the_size c.in-MakeVec2.is ∙ sized-MakeVec2 c.in-MakeVec2.x c.in-MakeVec2.y) (ap the_size c.deref-in-MakeVec2.ensures) (ap the_size c.deref-in-MakeVec2-2.ensures), (lives, (ready, (c.requires.fits, c.requires.kept))))

pub composed-returns-in-MakeVec2 : goal.composed-returns-in-MakeVec2
composed-returns-in-MakeVec2 g t c =
    let kept = c.pair.ensures in
    let same = ap tree_of c.in-MakeVec2.is ∙ ap₂ (λ (e : Expr) (f : Expr). MakeVec2 (tree_of e) (tree_of f)) (sym c.deref-in-MakeVec2.ensures) (sym c.deref-in-MakeVec2-2.ensures) in
    record {
      value = there_as c.args.self.now c.args.expr.now _ c.pair.result same kept.value;
      read = read_as c.args.self.now c.args.expr.now _ _ _ _ _ _ _ _ _ same (λ some. some) kept.read;
    }

pub composed-choice-requires : goal.composed-choice-requires
composed-choice-requires g t c =
    let same = ap tree_of c.in-If.is ∙ three_trees If _ _ _ _ _ _ (sym c.deref-in-If.ensures) (sym c.deref-in-If-2.ensures) (sym c.deref-in-If-3.ensures) in
    let ready = ready_as c.args.self.now c.args.expr.now _ same c.requires.ready in
    λ κs lives. (triple_less (the_size c.args.expr.now) (the_size c.in-If.condition.value) (the_size c.in-If.chosen.value) (the_size c.in-If.other.value) (the_size c.deref-in-If.result.now) (the_size c.deref-in-If-2.result.now) (the_size c.deref-in-If-3.result.now) _ c.decreases (ap the_size c.in-If.is ∙ sized-If c.in-If.condition c.in-If.chosen c.in-If.other) (ap the_size c.deref-in-If.ensures) (ap the_size c.deref-in-If-2.ensures) (ap the_size c.deref-in-If-3.ensures), (lives, (ready, (c.requires.fits, c.requires.kept))))

pub composed-returns-in-If : goal.composed-returns-in-If
composed-returns-in-If g t c =
    let kept = c.choice.ensures in
    let same = ap tree_of c.in-If.is ∙ three_trees If _ _ _ _ _ _ (sym c.deref-in-If.ensures) (sym c.deref-in-If-2.ensures) (sym c.deref-in-If-3.ensures) in
    record {
      value = there_as c.args.self.now c.args.expr.now _ c.choice.result same kept.value;
      read = read_as c.args.self.now c.args.expr.now _ _ _ _ _ _ _ _ _ same (λ some. some) kept.read;
    }

pub composed-numbers-requires : goal.composed-numbers-requires
composed-numbers-requires g t c =
    let same = ap tree_of c.in-MakeVec3.is ∙ three_trees MakeVec3 _ _ _ _ _ _ (sym c.deref-in-MakeVec3.ensures) (sym c.deref-in-MakeVec3-2.ensures) (sym c.deref-in-MakeVec3-3.ensures) in
    let ready = ready_as c.args.self.now c.args.expr.now _ same c.requires.ready in
    let parts = triple_ready c.args.self.now _ _ _ ready in
    λ κs lives. (triple_less (the_size c.args.expr.now) (the_size c.in-MakeVec3.x.value) (the_size c.in-MakeVec3.y.value) (the_size c.in-MakeVec3.z.value) (the_size c.deref-in-MakeVec3.result.now) (the_size c.deref-in-MakeVec3-2.result.now) (the_size c.deref-in-MakeVec3-3.result.now) _ c.decreases (ap the_size c.in-MakeVec3.is ∙ sized-MakeVec3 c.in-MakeVec3.x c.in-MakeVec3.y c.in-MakeVec3.z) (ap the_size c.deref-in-MakeVec3.ensures) (ap the_size c.deref-in-MakeVec3-2.ensures) (ap the_size c.deref-in-MakeVec3-3.ensures), (lives, (parts.0, (parts.1, (parts.2, (c.requires.fits, c.requires.kept))))))

pub composed-returns-in-MakeVec3 : goal.composed-returns-in-MakeVec3
composed-returns-in-MakeVec3 g t c =
    let kept = c.numbers.ensures in
    let same = ap tree_of c.in-MakeVec3.is ∙ three_trees MakeVec3 _ _ _ _ _ _ (sym c.deref-in-MakeVec3.ensures) (sym c.deref-in-MakeVec3-2.ensures) (sym c.deref-in-MakeVec3-3.ensures) in
    record {
      value = there_as c.args.self.now c.args.expr.now _ c.triple.result same (made_of_three c.args.self.now kinds.Vec3 _ _ _ c.numbers.result c.triple.result kept.value c.triple.ensures);
      read = read_as c.args.self.now c.args.expr.now _ _ _ _ _ _ _ _ _ same (λ some. some_numbers _ _ _ c.triple.ensures some) kept.read;
    }

pub composed-numbers-requires-in-MakeRgb : goal.composed-numbers-requires-in-MakeRgb
composed-numbers-requires-in-MakeRgb g t c =
    let same = ap tree_of c.in-MakeRgb.is ∙ three_trees MakeRgb _ _ _ _ _ _ (sym c.deref-in-MakeRgb.ensures) (sym c.deref-in-MakeRgb-2.ensures) (sym c.deref-in-MakeRgb-3.ensures) in
    let ready = ready_as c.args.self.now c.args.expr.now _ same c.requires.ready in
    let parts = colour_ready c.args.self.now _ _ _ ready in
    λ κs lives. (triple_less (the_size c.args.expr.now) (the_size c.in-MakeRgb.red.value) (the_size c.in-MakeRgb.green.value) (the_size c.in-MakeRgb.blue.value) (the_size c.deref-in-MakeRgb.result.now) (the_size c.deref-in-MakeRgb-2.result.now) (the_size c.deref-in-MakeRgb-3.result.now) _ c.decreases (ap the_size c.in-MakeRgb.is ∙ sized-MakeRgb c.in-MakeRgb.red c.in-MakeRgb.green c.in-MakeRgb.blue) (ap the_size c.deref-in-MakeRgb.ensures) (ap the_size c.deref-in-MakeRgb-2.ensures) (ap the_size c.deref-in-MakeRgb-3.ensures), (lives, (parts.0, (parts.1, (parts.2, (c.requires.fits, c.requires.kept))))))

pub composed-returns-in-MakeRgb : goal.composed-returns-in-MakeRgb
composed-returns-in-MakeRgb g t c =
    let kept = c.numbers-in-MakeRgb.ensures in
    let same = ap tree_of c.in-MakeRgb.is ∙ three_trees MakeRgb _ _ _ _ _ _ (sym c.deref-in-MakeRgb.ensures) (sym c.deref-in-MakeRgb-2.ensures) (sym c.deref-in-MakeRgb-3.ensures) in
    record {
      value = there_as c.args.self.now c.args.expr.now _ c.colour.result same (made_of_three c.args.self.now kinds.Rgb _ _ _ c.numbers-in-MakeRgb.result c.colour.result kept.value c.colour.ensures);
      read = read_as c.args.self.now c.args.expr.now _ _ _ _ _ _ _ _ _ same (λ some. some_numbers _ _ _ c.colour.ensures some) (record { cost = kept.read.cost; least = kept.read.least; room = kept.read.room; kept = kept.read.kept; stays = kept.read.stays; adds = kept.read.adds; left = kept.read.left });
    }

pub value-returns-in_default : goal.value-returns-in_default
value-returns-in_default g t c = c.composed.ensures

pub first_part-returns-in_default : goal.first_part-returns-in_default
first_part-returns-in_default g t c = c.value.ensures
