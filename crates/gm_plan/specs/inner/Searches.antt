-- How far a search for the least paths has come, which follows one list of labels after another, by one label after another.
use Rattle.std.specs.Prelude.{◌≡◌, ℕ, ◌+◌, ◌<◌, ◌≤◌, ◌⊎◌, ◌↔◌, List, [], ◌∷◌, ◌++◌, length, map, take, Option, Some, None, slice_get, slice_index_or}
use Rattle.std.specs.List.{Contains}
use Rattle.gm_model.specs.declared.rule.Link.{Link}
use Rattle.gm_model.specs.declared.step.Step.{Step}
use Rattle.gm_model.specs.declared.step.Step.TheVariants.{Absent, Exp}
use Rattle.gm_model.specs.Matches.{IsSmallerPath}
use Rattle.gm_model.specs.Orbits.{HasNoRepeats, IsPairBefore}

-- ---- rows of steps

-- the step of node x at label i, by rows of steps
abbrev pub row_step : List (List Step) → ℕ → ℕ → Step
row_step rows x i = slice_index_or (slice_index_or rows x []) i Absent

-- link steps have labels below `labels`
abbrev pub HasLabelsBelow : ℕ → List (List Step) → Type 0
HasLabelsBelow labels rows = (x i y : ℕ) → row_step rows x i ≡ Exp y → i < labels

-- link steps lead to nodes that have a row
abbrev pub HasEndsWithin : List (List Step) → Type 0
HasEndsWithin rows = (x i y : ℕ) → row_step rows x i ≡ Exp y → y < length rows

-- link steps at these labels lead from x to y, the first of them first
abbrev pub StepsLead : (ℕ → ℕ → Step) → ℕ → List ℕ → ℕ → Type 0
StepsLead steps x [] y = x ≡ y
StepsLead steps x (i ∷ path) y = (z : ℕ) × (steps x i ≡ Exp z) × StepsLead steps z path y

-- ---- ranks

-- A node's rank says which list of labels leads to it: the lists are counted in the order in which they are found.
abbrev pub rank_at : List (Option ℕ) → ℕ → Option ℕ
rank_at ranks x = slice_index_or ranks x None

-- the hooks have the rank 0, and no other node has one
abbrev pub AreHookRanks : List ℕ → List (Option ℕ) → Type 0
AreHookRanks hooks ranks = (x t : ℕ) → (rank_at ranks x ≡ Some t) ↔ (Contains hooks x × (t ≡ 0))

abbrev pub IsAtMost : List ℕ → List ℕ → Type 0
IsAtMost path other = (path ≡ other) ⊎ IsSmallerPath path other

-- ---- the search

-- the hooks, and then the nodes to which the links lead
abbrev pub found_nodes : List ℕ → List Link → List ℕ
found_nodes hooks links = hooks ++ map (λ (link : Link). link.to) links

-- the link leads from a node of one rank to a node of another, whose list is that of the first, and then the label
pub record IsRankedLink (steps : ℕ → ℕ → Step) (rank : ℕ → Option ℕ) (way : ℕ → List ℕ) (link : Link) : Type 0 where
  pub before : ℕ
  pub behind : ℕ
  pub from_rank : rank link.from ≡ Some before
  pub to_rank : rank link.to ≡ Some behind
  pub steps_to : steps link.from link.label ≡ Exp link.to
  pub way_is : way behind ≡ way before ++ link.label ∷ []

-- `way t` is the list of rank t, for each rank below `count`. What the nodes of a rank have at a label was followed where
-- IsDone holds of the rank, the label and the node.
pub record IsSearch (steps : ℕ → ℕ → Step) (hooks : List ℕ) (rank : ℕ → Option ℕ) (way : ℕ → List ℕ) (links : List Link) (count : ℕ) (IsDone : ℕ → ℕ → ℕ → Type 0) : Type 0 where
  pub starts : way 0 ≡ []
  pub hooks_first : (h : ℕ) → Contains hooks h → rank h ≡ Some 0
  pub within : (x t : ℕ) → rank x ≡ Some t → t < count
  pub leads : (x t : ℕ) → rank x ≡ Some t → (h : ℕ) × Contains hooks h × StepsLead steps h (way t) x
  pub rising : (s t : ℕ) → s < t → t < count → IsSmallerPath (way s) (way t)
  pub closed : (x s i y : ℕ) → IsDone s i x → rank x ≡ Some s → steps x i ≡ Exp y → (t : ℕ) × (rank y ≡ Some t) × IsAtMost (way t) (way s ++ i ∷ [])
  pub linked : (link : Link) → Contains links link → IsRankedLink steps rank way link
  pub earlier : (k : ℕ) (link : Link) → slice_get links k ≡ Some link → Contains (found_nodes hooks (take k links)) link.from
  pub distinct : HasNoRepeats (found_nodes hooks links)
  pub ranked : (x : ℕ) → Contains (found_nodes hooks links) x ↔ ((t : ℕ) × (rank x ≡ Some t))

-- the pairs of a rank and a label before (q, l) were followed
pub record IsSearchedBy (steps : ℕ → ℕ → Step) (hooks : List ℕ) (rank : ℕ → Option ℕ) (links : List Link) (count q l : ℕ) : Type 0 where
  pub way : ℕ → List ℕ
  pub search : IsSearch steps hooks rank way links count (λ s i x. IsPairBefore s i q l)
  pub below : (t : ℕ) → q < count → t < count → IsSmallerPath (way t) (way q ++ l ∷ [])
  pub few : count ≤ length links + 1

-- the same, by the tables of steps and ranks
abbrev pub IsSearched : List (List Step) → List ℕ → List (Option ℕ) → List Link → ℕ → ℕ → ℕ → Type 0
IsSearched rows hooks ranks links count q l = IsSearchedBy (row_step rows) hooks (rank_at ranks) links count q l
