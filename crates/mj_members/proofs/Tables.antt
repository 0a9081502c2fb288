-- Tables by name: what stands under a name.
use Rattle.std.proofs.Common.{◌≡◌, List, Option, sym, ap, ◌∙◌}
use Rattle.std.specs.Prelude.{T}
use Rattle.std.specs.Map.{values_of}
use Rattle.std.specs.Ordering.{nat_cmp}
use Rattle.std.specs.declared.cmp.Ordering.{Ordering}
use Rattle.std.specs.Cmp.Lexicographic.{slice_cmp}
use Rattle.std.specs.FinMap as names
use Rattle.std.specs.FinMap.Entries as entries
use Rattle.std.proofs.lemmas.Cmp.{nat_list_cmp_total}
use Rattle.std.proofs.lemmas.Map.Lookups.{exact_bytes}
use Rattle.mj_tree.specs.Trees.{Name}
use Rattle.mj_members.specs.Tables.{firsts}

abbrev pub by_bytes : Name → Name → Ordering
by_bytes = slice_cmp nat_cmp

-- what stands under a name
abbrev pub under : {A : Type 0} → Name → List (Name × A) → Option A
under n es = entries.find by_bytes n es

pub under_first : {A : Type 0} (n : Name) (es : List (Name × A)) → under n (names.entries (names.from_entries {R = by_bytes} es)) ≡ under n es
under_first n es = sym (names.get-entries (names.from_entries {R = by_bytes} es) n) ∙ names.get-from_entries nat_list_cmp_total es n

-- entries that ascend are the first of each name, if the same stands under each name
pub firsts_are : {A : Type 0} (es fs : List (Name × A)) → T (entries.is_sorted by_bytes es) → ((n : Name) → under n es ≡ under n fs) → values_of es ≡ firsts fs
firsts_are es fs up same =
    ap values_of (entries.same_entries by_bytes nat_list_cmp_total exact_bytes es (names.entries (names.from_entries {R = by_bytes} fs)) up (names.entries_sorted (names.from_entries {R = by_bytes} fs)) (λ n. same n ∙ sym (under_first n fs)))
