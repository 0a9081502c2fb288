-- What follows from reads by a run of a program.
use Rattle.std.specs.Prelude.{List, map, Ok}
use Rattle.item_ids.specs.declared.key.Key.{Key}
use Rattle.item_ids.specs.KeyLists.{AreLower}
use Rattle.result_bytes.specs.declared.value.Value.{Value}
use Rattle.result_bytes.specs.Values.{IsOfKind}
use Rattle.named_files.specs.Projects.{IsProject}
use Rattle.recorder.specs.Projects.{Project}
use Rattle.recorder.specs.Backed.{Meaning, ReadLists, ReadValue, Backed, keys}
use Rattle.recorder.specs.Recording.{Recording}
use Rattle.recorder.specs.Programs.{Prog, Ret, Fits, Reached, TiedAt, Performs}

-- a run of the program reads these, and gives v
abbrev pub Follows : Prog → List ReadValue → Value → Type 0
Follows prog told v = Reached prog told (Ret v)

-- what follows is backed
abbrev pub BackedLaw : Type 0
BackedLaw =
    (mean : Meaning) (reads : ReadLists) (q : Key) (prog : Prog) → TiedAt mean reads q prog
    → (told : List ReadValue) (v : Value) → Follows prog told v → Backed mean reads q told v

-- what follows is of the key's kind, from reads of keys of lower rank
abbrev pub FittingLaw : Type 0
FittingLaw =
    (q : Key) (prog : Prog) → Fits q prog → (told : List ReadValue) (v : Value)
    → Follows prog told v → IsOfKind q v × AreLower q (keys told)

-- what performs a program and gives v has read what v follows from
abbrev pub PerformedLaw : Type 0 → Type 0
PerformedLaw D =
    (prog : Prog) (old new : Recording D) (v : Value) → Performs prog old (Ok v) new
    → Follows prog new.told v

-- in a project each tied key follows from the values of what it reads
abbrev pub MeantLaw : Type 0
MeantLaw =
    (mean : Meaning) (reads : ReadLists) (q : Key) (prog : Prog) → TiedAt mean reads q prog
    → (p : Project) → IsProject p
    → Follows prog (map (λ k. record { key = k; value = mean p k }) (reads p q)) (mean p q)
