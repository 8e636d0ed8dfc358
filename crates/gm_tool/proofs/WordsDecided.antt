-- Which command words are can be decided, and whether two schemas are one.
use Rattle.std.proofs.Common.{◌≡◌, ◌⊎◌, ℕ, zero, suc, ◌<◌, ◌≤◌, List, [], ◌∷◌, length, codes, inl, inr, refl, sym, ap, ap₂, ◌∙◌, arith}
use Rattle.std.specs.Prelude.{decimal}
use Rattle.std.proofs.lemmas.Bool.{cases_eq, cases_lt}
use Rattle.gm_model.specs.declared.schema.Embed.{Embed}
use Rattle.gm_model.specs.declared.schema.Schema.{Schema}
use Rattle.gm_model.specs.declared.value.Kind.{Kind}
use Rattle.gm_model.specs.declared.value.Kind.TheVariants as kinds
use Rattle.gm_theory.proofs.Tests.{search_below}
use Rattle.gm_theory.proofs.ValuesReach.{IsDecided}
use Rattle.gm_tool.specs.Answer.{Command, Asks, command_word}
use Rattle.gm_tool.specs.GridAnswer.{AsksGrid}
use Rattle.gm_tool.specs.Program.{IsDualCommand, IsGridCommand, IsMigrateCommand, IsRunCommand}
use Rattle.gm_tool.specs.RunAnswer.{RunNames}

-- ---- lists

module _ {A : Type 0} (decide : (a b : A) → IsDecided (a ≡ b)) where
  heads : (x y : A) (xs ys : List A) → x ∷ xs ≡ y ∷ ys → x ≡ y
  heads x y xs ys e = cc

  tails : (x y : A) (xs ys : List A) → x ∷ xs ≡ y ∷ ys → xs ≡ ys
  tails x y xs ys e = cc

  other_length : (xs ys : List A) → (length xs ≡ length ys → ⊥) → xs ≡ ys → ⊥
  other_length xs ys apart e = apart (ap length e)

  same_list : (xs ys : List A) → IsDecided (xs ≡ ys)
  same_list [] [] = inl refl
  same_list [] (y ∷ ys) = inr (other_length [] (y ∷ ys) (λ e. omega (arith, e)))
  same_list (x ∷ xs) [] = inr (other_length (x ∷ xs) [] (λ e. omega (arith, e)))
  same_list (x ∷ xs) (y ∷ ys) = go (decide x y) (same_list xs ys)
    where
      go : IsDecided (x ≡ y) → IsDecided (xs ≡ ys) → IsDecided (x ∷ xs ≡ y ∷ ys)
      go (inl e) (inl f) = inl (ap₂ (λ (z : A) (zs : List A). z ∷ zs) e f)
      go (inr apart) side = inr (λ e. apart (heads x y xs ys e))
      go (inl e) (inr apart) = inr (λ e. apart (tails x y xs ys e))

pub same_bytes : (a b : List ℕ) → IsDecided (a ≡ b)
same_bytes = same_list cases_eq

same_words : (a b : List (List ℕ)) → IsDecided (a ≡ b)
same_words = same_list same_bytes

-- ---- schemas

kind_number : Kind → ℕ
kind_number kinds.Int = 0
kind_number kinds.Bool = 1
kind_number kinds.Vec2 = 2
kind_number kinds.Vec3 = 3
kind_number kinds.Rgb = 4

kind_at : ℕ → Kind
kind_at zero = kinds.Int
kind_at (suc zero) = kinds.Bool
kind_at (suc (suc zero)) = kinds.Vec2
kind_at (suc (suc (suc zero))) = kinds.Vec3
kind_at (suc (suc (suc (suc n)))) = kinds.Rgb

kind_back : (kind : Kind) → kind_at (kind_number kind) ≡ kind
unfolding kind_at kind_number
kind_back kinds.Int = refl
kind_back kinds.Bool = refl
kind_back kinds.Vec2 = refl
kind_back kinds.Vec3 = refl
kind_back kinds.Rgb = refl

same_kind : (a b : Kind) → IsDecided (a ≡ b)
same_kind a b = go (cases_eq (kind_number a) (kind_number b))
  where
    go : IsDecided (kind_number a ≡ kind_number b) → IsDecided (a ≡ b)
    go (inl e) = inl (sym (kind_back a) ∙ ap kind_at e ∙ kind_back b)
    go (inr apart) = inr (λ e. apart (ap kind_number e))

same_embed : (a b : Embed) → IsDecided (a ≡ b)
same_embed a b = go (same_bytes a.name b.name) (cases_eq a.mask.bits b.mask.bits) (same_kind a.kind b.kind)
  where
    go : IsDecided (a.name ≡ b.name) → IsDecided (a.mask.bits ≡ b.mask.bits) → IsDecided (a.kind ≡ b.kind) → IsDecided (a ≡ b)
    go (inl e) (inl f) (inl g) = inl (λ k. record { name = e k; mask = record { bits = f k }; kind = g k })
    go (inr apart) side other = inr (λ e. apart (ap (λ (x : Embed). x.name) e))
    go (inl e) (inr apart) other = inr (λ h. apart (ap (λ (x : Embed). x.mask.bits) h))
    go (inl e) (inl f) (inr apart) = inr (λ h. apart (ap (λ (x : Embed). x.kind) h))

pub same_schema : (a b : Schema) → IsDecided (a ≡ b)
same_schema a b = go (cases_eq a.dim b.dim) (same_list same_embed a.embeds b.embeds)
  where
    go : IsDecided (a.dim ≡ b.dim) → IsDecided (a.embeds ≡ b.embeds) → IsDecided (a ≡ b)
    go (inl e) (inl f) = inl (λ k. record { dim = e k; embeds = f k })
    go (inr apart) side = inr (λ e. apart (ap (λ (x : Schema). x.dim) e))
    go (inl e) (inr apart) = inr (λ h. apart (ap (λ (x : Schema). x.embeds) h))

-- ---- commands

-- the first word is this one, or it isn't
first_is : (word w : List ℕ) (rest : List (List ℕ)) → IsDecided (w ≡ word) → (w ∷ rest ≡ word ∷ rest) ⊎ ((more : List (List ℕ)) → w ∷ rest ≡ word ∷ more → ⊥)
first_is word w rest (inl e) = inl (ap (λ x. x ∷ rest) e)
first_is word w rest (inr apart) = inr (λ more e. apart (heads same_bytes w word rest more e))

apart_by : (xs ys : List (List ℕ)) → (length xs ≡ length ys → ⊥) → xs ≡ ys → ⊥
apart_by = other_length same_bytes

pub decide_file : (words : List (List ℕ)) (command : Command) → IsDecided ((name : List ℕ) × Asks words command name)
decide_file [] command = inr (λ h. apart_by [] (command_word command ∷ h.0 ∷ []) (λ e. omega (arith, e)) h.1)
decide_file (w ∷ []) command = inr (λ h. apart_by (w ∷ []) (command_word command ∷ h.0 ∷ []) (λ e. omega (arith, e)) h.1)
decide_file (w ∷ name ∷ []) command = go (first_is (command_word command) w (name ∷ []) (same_bytes w (command_word command)))
  where
    go : (w ∷ name ∷ [] ≡ command_word command ∷ name ∷ []) ⊎ ((more : List (List ℕ)) → w ∷ name ∷ [] ≡ command_word command ∷ more → ⊥) → IsDecided ((other : List ℕ) × Asks (w ∷ name ∷ []) command other)
    go (inl e) = inl (name, e)
    go (inr never) = inr (λ h. never (h.0 ∷ []) h.1)
decide_file (w ∷ a ∷ b ∷ rest) command = inr (λ h. apart_by (w ∷ a ∷ b ∷ rest) (command_word command ∷ h.0 ∷ []) (λ e. omega (arith, e)) h.1)

-- the words are this one and two more
decide_two_more : (word : List ℕ) (words : List (List ℕ)) → IsDecided ((a : List ℕ) × (b : List ℕ) × (words ≡ word ∷ a ∷ b ∷ []))
decide_two_more word [] = inr (λ h. apart_by [] (word ∷ h.0 ∷ h.1 ∷ []) (λ e. omega (arith, e)) h.2)
decide_two_more word (w ∷ []) = inr (λ h. apart_by (w ∷ []) (word ∷ h.0 ∷ h.1 ∷ []) (λ e. omega (arith, e)) h.2)
decide_two_more word (w ∷ a ∷ []) = inr (λ h. apart_by (w ∷ a ∷ []) (word ∷ h.0 ∷ h.1 ∷ []) (λ e. omega (arith, e)) h.2)
decide_two_more word (w ∷ a ∷ b ∷ []) = go (first_is word w (a ∷ b ∷ []) (same_bytes w word))
  where
    go : (w ∷ a ∷ b ∷ [] ≡ word ∷ a ∷ b ∷ []) ⊎ ((more : List (List ℕ)) → w ∷ a ∷ b ∷ [] ≡ word ∷ more → ⊥) → IsDecided ((c : List ℕ) × (d : List ℕ) × (w ∷ a ∷ b ∷ [] ≡ word ∷ c ∷ d ∷ []))
    go (inl e) = inl (a, b, e)
    go (inr never) = inr (λ h. never (h.0 ∷ h.1 ∷ []) h.2)
decide_two_more word (w ∷ a ∷ b ∷ c ∷ rest) = inr (λ h. apart_by (w ∷ a ∷ b ∷ c ∷ rest) (word ∷ h.0 ∷ h.1 ∷ []) (λ e. omega (arith, e)) h.2)

pub decide_migrate : (words : List (List ℕ)) → IsDecided (IsMigrateCommand words)
decide_migrate words = go (decide_two_more (codes "migrate") words)
  where
    go : IsDecided ((a : List ℕ) × (b : List ℕ) × (words ≡ codes "migrate" ∷ a ∷ b ∷ [])) → IsDecided (IsMigrateCommand words)
    go (inl (a, b, e)) = inl (record { map = a; out = b }, e)
    go (inr never) = inr (λ h. never (h.0.map, h.0.out, h.1))

pub decide_dual : (words : List (List ℕ)) → IsDecided (IsDualCommand words)
decide_dual words = go (decide_two_more (codes "dual") words)
  where
    go : IsDecided ((a : List ℕ) × (b : List ℕ) × (words ≡ codes "dual" ∷ a ∷ b ∷ [])) → IsDecided (IsDualCommand words)
    go (inl (a, b, e)) = inl (record { map = a; book = b }, e)
    go (inr never) = inr (λ h. never (h.0.map, h.0.book, h.1))

abbrev run_words : RunNames → List (List ℕ)
run_words named = codes "run" ∷ named.map ∷ named.book ∷ named.script ∷ named.out ∷ []

pub decide_run : (words : List (List ℕ)) → IsDecided (IsRunCommand words)
decide_run [] = inr (λ h. apart_by [] (run_words h.0) (λ e. omega (arith, e)) h.1)
decide_run (w ∷ []) = inr (λ h. apart_by (w ∷ []) (run_words h.0) (λ e. omega (arith, e)) h.1)
decide_run (w ∷ a ∷ []) = inr (λ h. apart_by (w ∷ a ∷ []) (run_words h.0) (λ e. omega (arith, e)) h.1)
decide_run (w ∷ a ∷ b ∷ []) = inr (λ h. apart_by (w ∷ a ∷ b ∷ []) (run_words h.0) (λ e. omega (arith, e)) h.1)
decide_run (w ∷ a ∷ b ∷ c ∷ []) = inr (λ h. apart_by (w ∷ a ∷ b ∷ c ∷ []) (run_words h.0) (λ e. omega (arith, e)) h.1)
decide_run (w ∷ a ∷ b ∷ c ∷ d ∷ []) = go (first_is (codes "run") w (a ∷ b ∷ c ∷ d ∷ []) (same_bytes w (codes "run")))
  where
    go : (w ∷ a ∷ b ∷ c ∷ d ∷ [] ≡ codes "run" ∷ a ∷ b ∷ c ∷ d ∷ []) ⊎ ((more : List (List ℕ)) → w ∷ a ∷ b ∷ c ∷ d ∷ [] ≡ codes "run" ∷ more → ⊥) → IsDecided (IsRunCommand (w ∷ a ∷ b ∷ c ∷ d ∷ []))
    go (inl e) = inl (record { map = a; book = b; script = c; out = d }, e)
    go (inr never) = inr (λ h. never (h.0.map ∷ h.0.book ∷ h.0.script ∷ h.0.out ∷ []) h.1)
decide_run (w ∷ a ∷ b ∷ c ∷ d ∷ f ∷ rest) = inr (λ h. apart_by (w ∷ a ∷ b ∷ c ∷ d ∷ f ∷ rest) (run_words h.0) (λ e. omega (arith, e)) h.1)

pub decide_grid : (words : List (List ℕ)) → IsDecided (IsGridCommand words)
decide_grid words = found (search_below (AsksGrid words) decide 101)
  where
    decide : (m : ℕ) → IsDecided (AsksGrid words m)
    decide m = go (same_words words (codes "grid" ∷ decimal m ∷ [])) (cases_lt 0 m) (cases_lt 100 m)
      where
        go : IsDecided (words ≡ codes "grid" ∷ decimal m ∷ []) → (0 < m) ⊎ (m ≤ 0) → (100 < m) ⊎ (m ≤ 100) → IsDecided (AsksGrid words m)
        go (inl e) (inl some) (inr few) = inl (record { is = e; least = omega (arith, some); greatest = few })
        go (inr apart) low high = inr (λ asks. apart asks.is)
        go (inl e) (inr none) high = inr (λ asks. omega (arith, none, asks.least))
        go (inl e) (inl some) (inl many) = inr (λ asks. omega (arith, many, asks.greatest))

    found : ((m : ℕ) × (m < 101) × AsksGrid words m) ⊎ ((m : ℕ) → m < 101 → AsksGrid words m → ⊥) → IsDecided (IsGridCommand words)
    found (inl (m, within, asks)) = inl (m, asks)
    found (inr none) = inr (λ h. none h.0 (omega (arith, h.1.greatest)) h.1)
