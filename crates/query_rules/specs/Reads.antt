-- Which keys each query reads in a project, in order, in a profile.
use Rattle.std.specs.Prelude.{List, [], ◌∷◌, ◌++◌, map, flat_map, Option, Some, None, if◌then◌else◌}
use Rattle.item_ids.specs.declared.key.Key.{Key}
use Rattle.item_ids.specs.declared.key.Key.TheVariants as keys
use Rattle.mj_tree.specs.Trees.{Name, Method}
use Rattle.mj_tree.specs.Trees as trees
use Rattle.mj_tree.specs.declared.tree.Field.{Field}
use Rattle.mj_answer.specs.AnswerValues.{MethodRowValue}
use Rattle.mj_members.specs.Declarations.{ClassDecl}
use Rattle.mj_classes.specs.Chains.{chain_of, chain_names}
use Rattle.mj_classes.specs.Members.{own_method}
use Rattle.mj_phrases.specs.Inquiries.{Sig}
use Rattle.named_files.specs.Projects.{names_of}
use Rattle.profiles.specs.declared.profile.Profile.{Profile}
use Rattle.profiles.specs.declared.profile.Profile.TheVariants.{One, Two}
use Rattle.mj_rules.specs.Sentences.{classes_in}
use Rattle.mj_rules.specs.Worlds.{world_of}
use Rattle.mj_rules.specs.ClassFaults.{main_word}
use Rattle.mj_rules.specs.FaultLists.{same_types, rest_of, nearest_sig, method_names}
use Rattle.mj_rules.specs.Answering.{first_classes}
use Rattle.mj_rules.specs.Tables.{table_of}
use Rattle.recorder.specs.Projects.{Project}
use Rattle.recorder.specs.Backed.{is_seen}
use Rattle.query_rules.specs.Items.{class_at, file_of_class, body_at}
use Rattle.query_rules.specs.BodyReads.{type_reads, accept_reads, body_reads}

-- ---- lists of keys

-- the trees of all files
abbrev pub all_trees : Project → List Key
all_trees p = map keys.Tree (names_of p)

-- the tree of the file of a class
abbrev pub tree_of_class : Project → Option ClassDecl → List Key
tree_of_class p None = []
tree_of_class p (Some k) = keys.Tree (file_of_class p k) ∷ []

-- the headers of the classes of a chain; an undeclared class has none
abbrev pub chain_headers : Project → Name → List Key
chain_headers p c = map keys.Header (chain_names (chain_of (classes_in p) c))

-- the types of a method, at its owner
abbrev pub row_signature : MethodRowValue → Key
row_signature row = keys.Sig row.owner row.name

-- the types of all methods that a class has, by name
abbrev pub signatures : Project → Name → List Key
signatures p c = map row_signature (table_of (classes_in p) c).methods

-- the headers of the classes that are types of fields
abbrev pub field_headers : List Field → List Key
field_headers fields = flat_map (λ f. type_reads f.ty) fields

-- the chain of a method's return type, if the method has the parameter types of the one that it
-- overrides, and their return types are classes and differ
abbrev pub return_chain : Option Method → Option Sig → List Key
return_chain (Some m) (Some sig) =
    if same_types m.formals sig.formals then accept_reads m.returns sig.returns else []
return_chain m sig = []

-- in profile 2 that of the first method of each name
abbrev pub return_chains : Profile → List ClassDecl → ClassDecl → List Key
return_chains One cs k = []
return_chains Two cs k =
    flat_map (λ m. return_chain (own_method m k) (nearest_sig (rest_of cs k.name) m))
    (method_names k)

-- if a class has methods and its chain a second class, the members of both, then the chains of
-- return types
abbrev pub overriding : List Method → List Name → List Key → List Key
overriding [] chain returned = []
overriding (m ∷ ms) [] returned = []
overriding (m ∷ ms) (c ∷ []) returned = []
overriding (m ∷ ms) (c ∷ s ∷ farther) returned = keys.Members c ∷ keys.Members s ∷ returned

abbrev pub bodies_by : Option trees.Statement → ClassDecl → List Name
bodies_by (Some statement) k = main_word ∷ []
bodies_by None k = method_names k

-- the names of the bodies of a class: `main` for a main class, else those of its methods
abbrev pub bodies_of : ClassDecl → List Name
bodies_of k = bodies_by k.main k

-- the parts of the answer for a class
abbrev pub answer_parts : ClassDecl → List Key
answer_parts k = keys.Members k.name ∷ keys.Diags k.name ∷ []

-- ---- what is read of a class that is declared

abbrev pub class_check_reads : Profile → Project → Name → Option ClassDecl → List Key
class_check_reads profile p c None = []
class_check_reads profile p c (Some k) =
    keys.Supers c ∷ (field_headers k.fields
    ++ overriding k.methods (chain_names (chain_of (classes_in p) c))
    (return_chains profile (classes_in p) k))

abbrev pub diagnosis_reads : Name → Option ClassDecl → List Key
diagnosis_reads c None = []
diagnosis_reads c (Some k) = keys.CheckClass c ∷ map (keys.CheckBody c) (bodies_of k)

-- ---- the kinds

-- all reads of a key in order, repeated ones too
unfoldable pub asked_keys : Profile → Project → Key → List Key
asked_keys profile p keys.Files = []
asked_keys profile p (keys.Source f) = []
asked_keys profile p (keys.Tree f) = keys.Source f ∷ []
asked_keys profile p keys.Index = keys.Files ∷ all_trees p
asked_keys profile p (keys.Header c) = keys.Index ∷ tree_of_class p (class_at p c)
asked_keys profile p (keys.Method c m) = keys.Index ∷ tree_of_class p (class_at p c)
asked_keys profile p (keys.Sig c m) = keys.Method c m ∷ []
asked_keys profile p (keys.Supers c) = keys.Index ∷ chain_headers p c
asked_keys profile p (keys.Members c) = keys.Supers c ∷ (chain_headers p c ++ signatures p c)
asked_keys profile p (keys.CheckClass c) =
    keys.Header c ∷ class_check_reads profile p c (class_at p c)
asked_keys profile p (keys.CheckBody c m) =
    keys.Method c m ∷ body_reads (world_of (classes_in p)) c (body_at p c m)
asked_keys profile p (keys.Diags c) = keys.Header c ∷ diagnosis_reads c (class_at p c)
asked_keys profile p keys.Answer =
    keys.Files ∷ (all_trees p ++ (keys.Index
    ∷ flat_map answer_parts (first_classes (classes_in p))))

-- each key where it stands first, but for those seen
abbrev pub first_keys : List Key → List Key → List Key
first_keys seen [] = []
first_keys seen (k ∷ ks) = if is_seen seen k then first_keys seen ks else k ∷ first_keys (seen ++ k ∷ []) ks

-- the reads of a key: each where it stands first
unfoldable pub reads : Profile → Project → Key → List Key
reads profile p q = first_keys [] (asked_keys profile p q)
