use Rattle.std.proofs.Common.{◌≡◌, ℕ, ◌+◌, ◌-◌, ◌<◌, ◌≤◌, List, [], ◌∷◌, ◌++◌, length, get_or, Fits, w32, w64, refl, ap, sym, ◌∙◌, append-nil, append_assoc, arith}
use Rattle.gm_model.proofs.Entries.{grows_none, grows_by, grows_twice, behind_within, behind_items}
use Rattle.gm_model.proofs.Exits.{unless_ok}
use Rattle.gm_model.proofs.script.put_behind.Given.{Over}
use Rattle.gm_model.proofs.script.put_behind.Goals as goal
use Rattle.gm_model.proofs.script.put_behind.Goals.{in-empty, in-len1+in_ok-push-in-len1, in-len2+in_ok-push-in-len2+in_ok-push-in-len2-2, in_default+in_ok-extend_from_slice-in_default}

-- ---- the items that a pattern of a length has

none : {A : Type 0} (items : List A) → length items < 1 → [] ≡ items
none [] b = refl
none (x ∷ items) b = absurd (omega arith)

one : {A : Type 0} (items : List A) (x : A) → 1 ≤ length items → length items < 2 → x ≡ get_or items 0 x → x ∷ [] ≡ items
one [] x b w e = absurd (omega arith)
one (y ∷ []) x b w e = ap (λ z. z ∷ []) e
one (y ∷ z ∷ items) x b w e = absurd (omega arith)

two : {A : Type 0} (items : List A) (x y : A) → 2 ≤ length items → length items < 3 → x ≡ get_or items 0 x → y ≡ get_or items 1 y → x ∷ y ∷ [] ≡ items
two [] x y b w e e' = absurd (omega arith)
two (x' ∷ []) x y b w e e' = absurd (omega arith)
two (x' ∷ y' ∷ []) x y b w e e' = cc
two (x' ∷ y' ∷ z ∷ items) x y b w e e' = absurd (omega arith)

-- ---- all, once they are put

all_put : (g : Over) (c : goal.Joined-items-lt1 g) → c.if-items-lt1.all.items ≡ c.args.all.now.items ++ c.args.items.now
all_put g c = elim c.if-items-lt1.branch [
  | in-empty w ↦ rw (w.all-is, ← none c.args.items.now w.in-empty.len_below) (sym (append-nil _))
  | in-len1+in_ok-push-in-len1 w ↦
      rw (w.all-is, w.in_ok-push-in-len1.ensures.items) (ap (λ more. c.args.all.now.items ++ more) (one c.args.items.now w.one-item.result w.in-len1.len_at_least w.in-len1.len_below w.one-item.is))
  | in-len2+in_ok-push-in-len2+in_ok-push-in-len2-2 w ↦
      rw (w.all-is, w.in_ok-push-in-len2-2.ensures.items, w.in_ok-push-in-len2.ensures.items, append_assoc)
      (ap (λ more. c.args.all.now.items ++ more) (two c.args.items.now w.one-item-then-items-lt3.result w.other-item.result w.in-len2.len_at_least w.in-len2.len_below w.one-item-then-items-lt3.is w.other-item.is))
  | in_default+in_ok-extend_from_slice-in_default w ↦ rw w.all-is w.in_ok-extend_from_slice-in_default.ensures.items
]

pub returns-then-start-gt-MOST_ITEMS-clause-grown :
    goal.returns-then-start-gt-MOST_ITEMS-clause-grown
returns-then-start-gt-MOST_ITEMS-clause-grown g c = grows_none _

pub returns-then-start-gt-MOST_ITEMS-clause-part :
    goal.returns-then-start-gt-MOST_ITEMS-clause-part
returns-then-start-gt-MOST_ITEMS-clause-part g c = tt

pub returns-then-start-gt-MOST_ITEMS-clause-items :
    goal.returns-then-start-gt-MOST_ITEMS-clause-items
returns-then-start-gt-MOST_ITEMS-clause-items g c = tt

pub returns-in_err-push-in-len1-clause-grown : goal.returns-in_err-push-in-len1-clause-grown
returns-in_err-push-in-len1-clause-grown g c = grows_by _ _ _ _ c.push.ensures.items

pub returns-in_err-push-in-len1-clause-part : goal.returns-in_err-push-in-len1-clause-part
returns-in_err-push-in-len1-clause-part g c = unless_ok _ c.from_residual.result c.from_residual.ensures.0

pub returns-in_err-push-in-len1-clause-items : goal.returns-in_err-push-in-len1-clause-items
returns-in_err-push-in-len1-clause-items g c = unless_ok _ c.from_residual.result c.from_residual.ensures.0

pub returns-in_err-push-in-len2-clause-grown : goal.returns-in_err-push-in-len2-clause-grown
returns-in_err-push-in-len2-clause-grown g c = grows_by _ _ _ _ c.push-in-len2.ensures.items

pub returns-in_err-push-in-len2-clause-part : goal.returns-in_err-push-in-len2-clause-part
returns-in_err-push-in-len2-clause-part g c = unless_ok _ c.from_residual-in_err-push-in-len2.result c.from_residual-in_err-push-in-len2.ensures.0

pub returns-in_err-push-in-len2-clause-items : goal.returns-in_err-push-in-len2-clause-items
returns-in_err-push-in-len2-clause-items g c = unless_ok _ c.from_residual-in_err-push-in-len2.result c.from_residual-in_err-push-in-len2.ensures.0

pub returns-in_err-push-in-len2-2-clause-grown : goal.returns-in_err-push-in-len2-2-clause-grown
returns-in_err-push-in-len2-2-clause-grown g c = grows_twice _ _ _ (grows_by _ _ _ _ c.push-in-len2.ensures.items) (grows_by _ _ _ _ c.push-in-len2-2.ensures.items)

pub returns-in_err-push-in-len2-2-clause-part : goal.returns-in_err-push-in-len2-2-clause-part
returns-in_err-push-in-len2-2-clause-part g c = unless_ok _ c.from_residual-in_err-push-in-len2-2.result c.from_residual-in_err-push-in-len2-2.ensures.0

pub returns-in_err-push-in-len2-2-clause-items : goal.returns-in_err-push-in-len2-2-clause-items
returns-in_err-push-in-len2-2-clause-items g c = unless_ok _ c.from_residual-in_err-push-in-len2-2.result c.from_residual-in_err-push-in-len2-2.ensures.0

pub returns-in_err-extend_from_slice-in_default-clause-grown :
    goal.returns-in_err-extend_from_slice-in_default-clause-grown
returns-in_err-extend_from_slice-in_default-clause-grown g c = grows_by _ _ _ _ c.extend_from_slice.ensures.items

pub returns-in_err-extend_from_slice-in_default-clause-part :
    goal.returns-in_err-extend_from_slice-in_default-clause-part
returns-in_err-extend_from_slice-in_default-clause-part g c = unless_ok _ c.from_residual-in_err-extend_from_slice-in_default.result c.from_residual-in_err-extend_from_slice-in_default.ensures.0

pub returns-in_err-extend_from_slice-in_default-clause-items :
    goal.returns-in_err-extend_from_slice-in_default-clause-items
returns-in_err-extend_from_slice-in_default-clause-items g c = unless_ok _ c.from_residual-in_err-extend_from_slice-in_default.result c.from_residual-in_err-extend_from_slice-in_default.ensures.0

few : (start count : ℕ) → start ≤ 4294967295 → count ≤ 4294967295 - start → Fits w32 start × Fits w64 (start + count) × Fits w32 (start + count)
few start count s c = (omega arith, omega arith, omega arith)

pub overflow_cast-result : goal.overflow_cast-result
overflow_cast-result g c = (few c.len-start.result (length c.args.items.now) c.if-start-gt-MOST_ITEMS.false c.if-items-start.false).0

pub overflow_add-result : goal.overflow_add-result
overflow_add-result g c = (few c.len-start.result (length c.args.items.now) c.if-start-gt-MOST_ITEMS.false c.if-items-start.false).1

pub overflow_cast-result-2 : goal.overflow_cast-result-2
overflow_cast-result-2 g c = (few c.len-start.result (length c.args.items.now) c.if-start-gt-MOST_ITEMS.false c.if-items-start.false).2

pub returns-clause-grown : goal.returns-clause-grown
returns-clause-grown g c = (c.args.items.now, all_put g c)

pub returns-clause-part : goal.returns-clause-part
returns-clause-part g c = behind_within c.args.all.now.items c.args.items.now c.if-items-lt1.all.items c.len-start.result (all_put g c) (c.len-start.ensures ∙ c.args.all.now.ok.0)

pub returns-clause-items : goal.returns-clause-items
returns-clause-items g c = behind_items c.args.all.now.items c.args.items.now c.if-items-lt1.all.items c.len-start.result (all_put g c) (c.len-start.ensures ∙ c.args.all.now.ok.0)
