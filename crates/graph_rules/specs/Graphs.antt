-- What is reached by edges, and the entries of a finished state.
use Rattle.std.specs.Prelude.{◌≡◌, ℕ, List, Contains}
use Rattle.std.specs.declared.cmp.Ordering.TheVariants.{Less}
use Rattle.item_ids.specs.declared.key.Key.{Key}
use Rattle.item_ids.specs.declared.key.Key.TheVariants.{Files, Source, Answer}
use Rattle.item_ids.specs.Keys.{key_cmp}
use Rattle.result_bytes.specs.declared.value.Value.{Value}
use Rattle.ordered_names.specs.Order.{IsAscendingBy}
use Rattle.named_files.specs.Projects.{names_of}
use Rattle.recorder.specs.Projects.{Project}
use Rattle.sessions.specs.declared.mark.Mark.{Mark}
use Rattle.sessions.specs.Sessions.{Entry}
use Rattle.graph_rules.specs.Steps.{Done, State}

-- Answer, or an input of the project
pub data IsRoot (p : Project) : Key → Type 0 where
  answer : IsRoot p Answer
  files : IsRoot p Files
  source : (file : List ℕ) → Contains (names_of p) file → IsRoot p (Source file)

-- a root, or a key that edges of done keys lead to from one
pub data IsReached (p : Project) (s : State) : Key → Type 0 where
  root : (q : Key) → IsRoot p q → IsReached p s q
  edge : (q : Key) (v : Value) (es : List Key) (m : Mark) (e : Key) → IsReached p s q
      → s.at q ≡ Done v es m → Contains es e → IsReached p s e

abbrev pub KeyBefore : Key → Key → Type 0
KeyBefore a b = key_cmp a b ≡ Less

-- in the order of their keys, none of which is there twice
abbrev pub AreAscendingByKey : List Entry → Type 0
AreAscendingByKey entries = IsAscendingBy (λ a b. KeyBefore a.key b.key) entries

-- the entry says how its key is done in the state
abbrev pub IsEntryOf : State → Entry → Type 0
IsEntryOf s r = s.at r.key ≡ Done r.value r.reads r.mark

-- The entries are those of just the keys that are reached, in the order of keys.
pub record AreClosed (p : Project) (s : State) (entries : List Entry) : Type 0 where
  pub ascending : AreAscendingByKey entries
  pub each : (r : Entry) → Contains entries r → IsReached p s r.key × IsEntryOf s r
  pub all : (q : Key) → IsReached p s q → (r : Entry) × Contains entries r × (r.key ≡ q)
