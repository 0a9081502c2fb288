-- The diagnostics that follow from answers: what is wrong with a class's superclass, its chain, its
-- fields and its methods.
use Rattle.std.specs.Prelude.{ℕ, Bool, List, [], ◌∷◌, ◌++◌, map, Option, Some, None, if◌then◌else◌}
use Rattle.mj_tree.specs.Trees.{Name}
use Rattle.mj_tree.specs.declared.place.Place.TheVariants as places
use Rattle.mj_answer.specs.declared.code.Code.TheVariants.{E201, E202, E203, E204, E205, E206}
use Rattle.mj_answer.specs.declared.diagnostic.Diagnostic.{Diagnostic}
use Rattle.named_files.specs.Repeats.{repeats}
use Rattle.mj_rules.specs.FaultLists.{fault, when_fault, each_numbered}
use Rattle.result_bytes.specs.declared.parts.ChainEnd.{ChainEnd}
use Rattle.result_bytes.specs.declared.parts.ChainEnd.TheVariants as ends
use Rattle.result_bytes.specs.Payloads.{HeaderValue, ChainValue}
use Rattle.body_query.specs.Bounds.{bound}

-- ---- the chain

-- no class has the superclass: the chain of the class ends with it
abbrev pub superclass_told : List Name → ChainEnd → List Diagnostic
superclass_told (c ∷ []) (ends.Undeclared u) = fault places.Class E201 ∷ []
superclass_told names end = []

abbrev pub cycle_told : ChainEnd → List Diagnostic
cycle_told (ends.Repeated u) = fault places.Class E202 ∷ []
cycle_told end = []

abbrev pub chain_told : Option ChainValue → List Diagnostic
chain_told None = []
chain_told (Some chain) = superclass_told chain.classes chain.end ++ cycle_told chain.end

-- ---- fields and methods

-- what is wrong with a field, whose name stands before it or whose type isn't declared
abbrev pub field_told : ℕ → Bool → Bool → List Diagnostic
field_told n repeated undeclared =
    when_fault repeated (places.Field (bound n)) E203
    ++ when_fault undeclared (places.Field (bound n)) E206

-- what is wrong with a method, whose name stands before it or which overrides one that it may not
abbrev pub method_told : ℕ → Bool → Bool → List Diagnostic
method_told n repeated other =
    if repeated then fault (places.Method (bound n)) E204 ∷ []
    else when_fault other (places.Method (bound n)) E205

abbrev pub header_field_faults : HeaderValue → List Bool → List Diagnostic
header_field_faults h undeclared =
    each_numbered field_told 0 undeclared (repeats (map (λ f. f.name) h.fields))

abbrev pub header_method_faults : HeaderValue → List Bool → List Diagnostic
header_method_faults h others = each_numbered method_told 0 others (repeats h.methods)

-- all that is wrong with the declarations of a class, by flags: for each field whether its type is
-- undeclared, for each method whether it overrides one that it may not
unfoldable pub faults_told
    : HeaderValue → Option ChainValue → List Bool → List Bool → List Diagnostic
faults_told h chain undeclared others =
    chain_told chain ++ (header_field_faults h undeclared ++ header_method_faults h others)
