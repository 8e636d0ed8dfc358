-- Texts that are written one part after another: how far they came where memory was wanting.
use Rattle.std.proofs.Common.{◌≡◌, ℕ, List, [], ◌++◌, refl, append_assoc, append-nil, sym, rules}
use Rattle.gm_text.specs.inner.SchemaPrinting.{IsCut}

-- the part behind those that are done is written too
pub written_behind : (before done part : List ℕ) {middle after : List ℕ} → middle ≡ before ++ done → after ≡ middle ++ part → after ≡ before ++ (done ++ part)
written_behind before done part so_far more = rw (more, so_far) (append_assoc before done part)

-- within the part behind those that are done
pub cut_behind : (before done : List ℕ) {middle part after : List ℕ} → middle ≡ before ++ done → IsCut middle part after → IsCut before (done ++ part) after
cut_behind before done so_far cut = record {
  front = done ++ cut.front;
  rest = cut.rest;
  text_is = rw cut.text_is (sym (append_assoc done cut.front cut.rest));
  after_is = rw (cut.after_is, so_far) (append_assoc before done cut.front);
}

-- the same of a part with what leads to it
pub written_behind_lead : (before done lead part : List ℕ) {middle after : List ℕ} → middle ≡ before ++ done → after ≡ middle ++ (lead ++ part) → after ≡ before ++ (done ++ lead ++ part)
written_behind_lead before done lead part {after = after} so_far more = rw (append_assoc done lead part) (written_behind before done (lead ++ part) so_far more)

pub cut_behind_lead : (before done lead part : List ℕ) {middle after : List ℕ} → middle ≡ before ++ done → IsCut middle (lead ++ part) after → IsCut before (done ++ lead ++ part) after
cut_behind_lead before done lead part {after = after} so_far cut = rw (append_assoc done lead part) (cut_behind before done so_far cut)

-- before a part that isn't begun
pub cut_before : {before text after : List ℕ} (rest : List ℕ) → IsCut before text after → IsCut before (text ++ rest) after
cut_before rest cut = record { front = cut.front; rest = cut.rest ++ rest; text_is = rw cut.text_is (append_assoc cut.front cut.rest rest); after_is = cut.after_is }

-- nothing is written
pub cut_at_once : {before after : List ℕ} (text : List ℕ) → after ≡ before → IsCut before text after
cut_at_once {before = before} text same = record { front = []; rest = text; text_is = refl; after_is = rw same (sym (append-nil before)) }

-- all but the rest is written so far
pub record IsSoFar (before text after rest : List ℕ) : Type 0 where
  pub front : List ℕ
  pub text_is : text ≡ front ++ rest
  pub after_is : after ≡ before ++ front

pub so_far_more : (before text middle a rest after : List ℕ) → IsSoFar before text middle (a ++ rest) → after ≡ middle ++ a → IsSoFar before text after rest
so_far_more before text middle a rest after so_far more = record {
  front = so_far.front ++ a;
  text_is = rw so_far.text_is (sym (append_assoc so_far.front a rest));
  after_is = rw (more, so_far.after_is) (append_assoc before so_far.front a);
}

pub so_far_cut : (before text middle a rest after : List ℕ) → IsSoFar before text middle (a ++ rest) → IsCut middle a after → IsCut before text after
so_far_cut before text middle a rest after so_far cut = record {
  front = so_far.front ++ cut.front;
  rest = cut.rest ++ rest;
  text_is = rw (so_far.text_is, cut.text_is) (search (rules, append_assoc));
  after_is = rw (cut.after_is, so_far.after_is) (append_assoc before so_far.front cut.front);
}
