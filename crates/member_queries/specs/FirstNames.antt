-- Each name of a list where it stands first.
use Rattle.std.specs.Prelude.{Bool, List, [], ◌∷◌, if◌then◌else◌}
use Rattle.mj_tree.specs.Trees.{Name}
use Rattle.named_files.specs.Repeats.{repeats}

-- the names whose flags say that they don't stand before themselves
abbrev pub without_repeats : List Name → List Bool → List Name
without_repeats [] flags = []
without_repeats (n ∷ ns) [] = []
without_repeats (n ∷ ns) (flag ∷ flags) =
    if flag then without_repeats ns flags else n ∷ without_repeats ns flags

-- each name where it stands first
unfoldable pub first_names : List Name → List Name
first_names names = without_repeats names (repeats names)
