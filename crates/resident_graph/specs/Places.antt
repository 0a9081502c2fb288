-- What a graph in memory knows: at each place a key, its value, the places that were read for it, and those that read it.
use Rattle.std.specs.Prelude.{◌≡◌, ℕ, ◌<◌, Bool, false, List, Some, Contains}
use Rattle.std.specs.List.{AllByRecursion}
use Rattle.item_ids.specs.declared.key.Key.{Key}
use Rattle.item_ids.specs.Inputs.{rank}
use Rattle.result_bytes.specs.declared.value.Value.{Value}
use Rattle.result_bytes.specs.Values.{IsOfKind}
use Rattle.named_files.specs.Projects.{IsProject}
use Rattle.recorder.specs.Projects.{Project}
use Rattle.recorder.specs.Backed.{Meaning, ReadLists}
use Rattle.recorder.specs.Programs.{Prog, Tied}
use Rattle.graph_rules.specs.Keys.{input_of}
use Rattle.keeping.specs.Follows.{Follows}
use Rattle.keeping.specs.Readers.{told_at}

-- How many places there are, and what each has. What is queued has to be looked at again.
pub record Places : Type 0 where
  pub count : ℕ
  pub key : ℕ → Key
  pub value : ℕ → Value
  pub edges : ℕ → List ℕ
  pub readers : ℕ → List ℕ
  pub queued : ℕ → Bool

-- the edge leads to a place of lower rank
pub record IsEdge (s : Places) (i e : ℕ) : Type 0 where
  pub inside : e < s.count
  pub lower : rank (s.key e) < rank (s.key i)

-- the value follows from the edges' values of now by a run of the key's program
pub record IsSettled (prog_of : Key → Prog) (s : Places) (i : ℕ) : Type 0 where
  pub follows : Follows (prog_of (s.key i)) (told_at s.key s.value (s.edges i)) (s.value i)
  pub edges : AllByRecursion (IsEdge s i) (s.edges i)

-- each edge of the place leads to one that has it among its readers
abbrev pub IsLinked : Places → ℕ → Type 0
IsLinked s i = (e : ℕ) → Contains (s.edges i) e → (e < s.count) × Contains (s.readers e) i

-- Unless it is queued, an input has the project's value, and any other key is settled.
pub record IsNode (prog_of : Key → Prog) (p : Project) (s : Places) (i : ℕ) : Type 0 where
  pub kind : IsOfKind (s.key i) (s.value i)
  pub linked : IsLinked s i
  pub input : rank (s.key i) ≡ 0 → s.queued i ≡ false → input_of p (s.key i) ≡ Some (s.value i)
  pub settled : 0 < rank (s.key i) → s.queued i ≡ false → IsSettled prog_of s i

-- what a graph in memory keeps, at work and at rest
pub record Holds (prog_of : Key → Prog) (p : Project) (s : Places) : Type 0 where
  pub apart : (i j : ℕ) → i < s.count → j < s.count → s.key i ≡ s.key j → i ≡ j
  pub each : (i : ℕ) → i < s.count → IsNode prog_of p s i

-- If no place below a rank is queued, the values of these places are what their keys mean in the project of now.
abbrev pub MeantBelow : Type 0
MeantBelow =
    (prog_of : Key → Prog) (mean : Meaning) (reads : ReadLists) (p : Project) (s : Places)
    (bound : ℕ)
    → IsProject p → Tied prog_of mean reads → Holds prog_of p s
    → ((i : ℕ) → i < s.count → rank (s.key i) < bound → s.queued i ≡ false)
    → (i : ℕ) → i < s.count → rank (s.key i) < bound → mean p (s.key i) ≡ s.value i
