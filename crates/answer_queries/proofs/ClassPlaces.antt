-- The diagnostics of a class's declarations are in places of a class.
use Rattle.std.proofs.Common.{ℕ, ◌+◌, Bool, true, false, List, [], ◌∷◌, ◌++◌, Option, Some, None, map}
use Rattle.mj_tree.specs.Trees.{Name}
use Rattle.mj_tree.specs.declared.place.Place.{Place}
use Rattle.mj_tree.specs.declared.place.Place.TheVariants as places
use Rattle.mj_answer.specs.declared.code.Code.{Code}
use Rattle.mj_answer.specs.declared.code.Code.TheVariants.{E203, E205, E206}
use Rattle.mj_answer.specs.declared.diagnostic.Diagnostic.{Diagnostic}
use Rattle.named_files.specs.Repeats.{repeats}
use Rattle.mj_rules.specs.FaultLists.{when_fault, each_numbered}
use Rattle.answer_bytes.specs.Storable.{IsClassPlace, AreClassFaults}
use Rattle.result_bytes.specs.declared.parts.ChainEnd.{ChainEnd}
use Rattle.result_bytes.specs.declared.parts.ChainEnd.TheVariants as ends
use Rattle.result_bytes.specs.Payloads.{HeaderValue, ChainValue}
use Rattle.body_query.specs.Bounds.{bound}
use Rattle.body_query.proofs.Bounds.{small}
use Rattle.member_queries.proofs.Places.{places_append}
use Rattle.answer_queries.specs.Told.{superclass_told, cycle_told, chain_told, field_told, method_told, header_field_faults, header_method_faults, faults_told}

when_in : (b : Bool) (place : Place) (code : Code) → IsClassPlace place → AreClassFaults (when_fault b place code)
when_in true place code h = (h, tt)
when_in false place code h = tt

each_in : (faults : ℕ → Bool → Bool → List Diagnostic) → ((n : ℕ) (a b : Bool) → AreClassFaults (faults n a b)) → (n : ℕ) (xs flags : List Bool) → AreClassFaults (each_numbered faults n xs flags)
each_in faults h n [] flags = tt
each_in faults h n (x ∷ xs) [] = tt
each_in faults h n (x ∷ xs) (b ∷ flags) = places_append (faults n b x) (each_numbered faults (n + 1) xs flags) (h n b x) (each_in faults h (n + 1) xs flags)

field_in : (n : ℕ) (repeated undeclared : Bool) → AreClassFaults (field_told n repeated undeclared)
field_in n repeated undeclared =
    places_append (when_fault repeated (places.Field (bound n)) E203) (when_fault undeclared (places.Field (bound n)) E206) (when_in repeated (places.Field (bound n)) E203 (small n)) (when_in undeclared (places.Field (bound n)) E206 (small n))

method_in : (n : ℕ) (repeated other : Bool) → AreClassFaults (method_told n repeated other)
method_in n true other = (small n, tt)
method_in n false other = when_in other (places.Method (bound n)) E205 (small n)

superclass_in : (names : List Name) (end : ChainEnd) → AreClassFaults (superclass_told names end)
superclass_in [] end = tt
superclass_in (c ∷ []) ends.Top = tt
superclass_in (c ∷ []) (ends.Undeclared u) = (tt, tt)
superclass_in (c ∷ []) (ends.Repeated u) = tt
superclass_in (c ∷ d ∷ rest) end = tt

cycle_in : (end : ChainEnd) → AreClassFaults (cycle_told end)
cycle_in ends.Top = tt
cycle_in (ends.Undeclared u) = tt
cycle_in (ends.Repeated u) = (tt, tt)

chain_in : (chain : Option ChainValue) → AreClassFaults (chain_told chain)
chain_in None = tt
chain_in (Some chain) = places_append (superclass_told chain.classes chain.end) (cycle_told chain.end) (superclass_in chain.classes chain.end) (cycle_in chain.end)

pub told_in_class : (h : HeaderValue) (chain : Option ChainValue) (undeclared others : List Bool) → AreClassFaults (faults_told h chain undeclared others)
unfolding faults_told
told_in_class h chain undeclared others =
    places_append (chain_told chain) (header_field_faults h undeclared ++ header_method_faults h others) (chain_in chain)
    (places_append (header_field_faults h undeclared) (header_method_faults h others) (each_in field_told field_in 0 undeclared (repeats (map (λ f. f.name) h.fields))) (each_in method_told method_in 0 others (repeats h.methods)))
