-- A grammar that is read by states and has another one within it: which symbols are the inner one's, and what follows it.
use Rattle.std.specs.Prelude.{◌≡◌, ℕ, Bool, if◌then◌else◌, List, ◌++◌, map, Option, Some, None, is_some, IsTrue}
use Rattle.gm_model.specs.Symbols.{Symbol}
use Rattle.gm_model.specs.Reading.{Part, in_role}
use Rattle.gm_text.specs.inner.Machine.{Leads}

pub data Nested (Outer Inner : Type 0) : Type 0 where
  Outside : Outer → Nested Outer Inner
  Inside : Inner → Nested Outer Inner

-- The outer grammar comes into the inner one by a move of its own, so the inner state can know what was read before.
-- Where the inner part is whole, the outer one goes on from the state `behind`, which can know what was read of it.
pub record Nesting (Outer Inner Role InnerRole : Type 0) : Type 0 where
  pub outer_role : Outer → Symbol → ℕ → Role
  pub outer_move : Outer → Symbol → Option (Nested Outer Inner)
  pub inner_role : Inner → Symbol → ℕ → InnerRole
  pub inner_move : Inner → Symbol → Option Inner
  -- a role of the inner grammar as one of the whole
  pub wrap : InnerRole → Role
  pub is_whole : Inner → Bool
  pub behind : Inner → Outer

module _ {Outer Inner Role InnerRole : Type 0} (nesting : Nesting Outer Inner Role InnerRole) where
  -- A symbol with which the inner part goes on is the inner one's.
  abbrev pub role_at : Nested Outer Inner → Symbol → ℕ → Role
  role_at (Outside outer) symbol place = nesting.outer_role outer symbol place
  role_at (Inside inner) symbol place =
      if is_some (nesting.inner_move inner symbol) then nesting.wrap (nesting.inner_role inner symbol place)
      else nesting.outer_role (nesting.behind inner) symbol place

  abbrev pub move_inside : Inner → Symbol → Option Inner → Option (Nested Outer Inner)
  move_inside inner symbol (Some next) = Some (Inside next)
  move_inside inner symbol None = if nesting.is_whole inner then nesting.outer_move (nesting.behind inner) symbol else None

  abbrev pub move : Nested Outer Inner → Symbol → Option (Nested Outer Inner)
  move (Outside outer) symbol = nesting.outer_move outer symbol
  move (Inside inner) symbol = move_inside inner symbol (nesting.inner_move inner symbol)

  -- What can follow a whole inner part can't go on with it, so each inner part is the longest.
  abbrev pub IsApart : Type 0
  IsApart = (inner : Inner) (symbol : Symbol) (next : Nested Outer Inner) → IsTrue (nesting.is_whole inner) → nesting.outer_move (nesting.behind inner) symbol ≡ Some next → nesting.inner_move inner symbol ≡ None

  module _ {What : Type 0} (limit_of : Role → Symbol → Option What) (stands_before : Role → Bool) where
    -- within the inner grammar the parts lead from the one state to the other
    abbrev pub LeadsInside : Inner → List (Part InnerRole) → Inner → Type 0
    LeadsInside inner parts last = Leads (λ role. limit_of (nesting.wrap role)) (λ role. stands_before (nesting.wrap role)) nesting.inner_role nesting.inner_move inner parts last

    abbrev pub LeadsNested : Nested Outer Inner → List (Part Role) → Nested Outer Inner → Type 0
    LeadsNested state parts last = Leads limit_of stands_before role_at move state parts last

    -- ---- one inner part in each sentence

    -- how the sentences are told apart: what stands before the inner part and leads into it, the inner part, and what stands after
    module _ (IsFront : List (Part Role) → Inner → Type 0) (IsInner : Inner → List (Part InnerRole) → Inner → Type 0) (IsBack : Outer → List (Part Role) → Type 0) where
      pub record IsNestedSentence (parts : List (Part Role)) : Type 0 where
        pub front : List (Part Role)
        pub entry : Inner
        pub inner : List (Part InnerRole)
        pub last : Inner
        pub back : List (Part Role)
        pub is_front : IsFront front entry
        pub is_inner : IsInner entry inner last
        pub is_back : IsBack (nesting.behind last) back
        pub spelled : parts ≡ front ++ (map (in_role nesting.wrap) inner ++ back)

      -- what each piece owes, with the first state of the whole and its last
      pub record HasPieces (first : Nested Outer Inner) (last : Outer) : Type 0 where
        pub front_leads : (parts : List (Part Role)) (inner : Inner) → IsFront parts inner → LeadsNested first parts (Inside inner)
        pub front : (parts : List (Part Role)) → LeadsNested first parts (Outside last)
            → (front rest : List (Part Role)) × (inner : Inner) × IsFront front inner × (parts ≡ front ++ rest) × LeadsNested (Inside inner) rest (Outside last)
        pub inner_leads : (inner last : Inner) (parts : List (Part InnerRole)) → IsInner inner parts last → LeadsInside inner parts last × IsTrue (nesting.is_whole last)
        pub inner : (front : List (Part Role)) (inner last : Inner) (parts : List (Part InnerRole)) → IsFront front inner → LeadsInside inner parts last → IsTrue (nesting.is_whole last) → IsInner inner parts last
        pub back_leads : (outer : Outer) (parts : List (Part Role)) → IsBack outer parts → LeadsNested (Outside outer) parts (Outside last)
        pub back : (outer : Outer) (parts : List (Part Role)) → LeadsNested (Outside outer) parts (Outside last) → IsBack outer parts
        -- something stands after each inner part
        pub more : (inner : Inner) → nesting.behind inner ≡ last → ⊥
        pub inner_goes_on : (inner : Inner) → (rest : List (Part InnerRole)) × (last : Inner) × LeadsInside inner rest last × IsTrue (nesting.is_whole last)
        pub outer_goes_on : (outer : Outer) → (rest : List (Part Role)) × LeadsNested (Outside outer) rest (Outside last)
        -- where a symbol stands has no part in what it passes
        pub outer_limit : (outer : Outer) (symbol : Symbol) (place other : ℕ) → limit_of (nesting.outer_role outer symbol place) symbol ≡ limit_of (nesting.outer_role outer symbol other) symbol
        pub inner_limit : (inner : Inner) (symbol : Symbol) (place other : ℕ) → limit_of (nesting.wrap (nesting.inner_role inner symbol place)) symbol ≡ limit_of (nesting.wrap (nesting.inner_role inner symbol other)) symbol
        pub outer_before : (outer : Outer) (symbol : Symbol) (place other : ℕ) → stands_before (nesting.outer_role outer symbol place) ≡ stands_before (nesting.outer_role outer symbol other)
        pub inner_before : (inner : Inner) (symbol : Symbol) (place other : ℕ) → stands_before (nesting.wrap (nesting.inner_role inner symbol place)) ≡ stands_before (nesting.wrap (nesting.inner_role inner symbol other))
