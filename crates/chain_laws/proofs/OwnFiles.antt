-- What Answer leads to in a project are trees and sources of its own files only.
use Rattle.std.proofs.Common.{◌≡◌, ◌+◌, List, [], ◌∷◌, map, slice_get, Option, Some, None, refl, sym, ap, ◌∙◌, subst, arith}
use Rattle.std.specs.Prelude.{Contains}
use Rattle.std.specs.List.{AllByRecursion}
use Rattle.profiles.specs.declared.profile.Profile.{Profile}
use Rattle.profiles.specs.declared.profile.Profile.TheVariants.{One, Two}
use Rattle.item_ids.specs.declared.key.Key.{Key}
use Rattle.item_ids.specs.declared.key.Key.TheVariants as keys
use Rattle.item_ids.proofs.Lists.{all_from}
use Rattle.mj_tree.specs.Trees.{Name, Method}
use Rattle.mj_tree.specs.declared.tree.Field.{Field}
use Rattle.mj_members.specs.Declarations.{ClassDecl}
use Rattle.mj_classes.specs.Chains.{chain_of, chain_names}
use Rattle.mj_classes.specs.Members.{own_method}
use Rattle.mj_classes.proofs.Tables.{all_append}
use Rattle.mj_phrases.specs.Inquiries.{Sig}
use Rattle.named_files.specs.Projects.{names_of}
use Rattle.mj_rules.specs.FaultLists.{same_types, rest_of, nearest_sig, method_names}
use Rattle.mj_rules.specs.Sentences.{classes_in}
use Rattle.mj_rules.specs.Worlds.{world_of}
use Rattle.mj_rules.specs.Answering.{first_classes}
use Rattle.mj_rules.specs.Tables.{table_of}
use Rattle.recorder.specs.Projects.{Project}
use Rattle.query_rules.specs.Items.{class_at, body_at, name_of, file_of_class}
use Rattle.query_rules.specs.BodyReads.{type_reads, accept_reads}
use Rattle.query_rules.specs.Reads.{all_trees, tree_of_class, chain_headers, signatures, row_signature, field_headers, return_chain, return_chains, overriding, bodies_of, answer_parts, class_check_reads, diagnosis_reads, asked_keys, reads}
use Rattle.query_rules.proofs.Firsts.{all_mapped, all_flat, firsts_all}
use Rattle.query_rules.proofs.BodyRanks.{type_all, accept_all, when_all, body_all}
use Rattle.text_queries.proofs.Files.{stands_in}
use Rattle.graph_rules.specs.Graphs.{IsRoot}
use Rattle.graph_rules.specs.Graphs.IsRoot.{answer, files, source}
use Rattle.graph_rules.specs.Next.{IsReadIn}
use Rattle.graph_rules.specs.Next.IsReadIn.{root, read}
use Rattle.graph_rules.proofs.NextRules.{all_at}
use Rattle.graph_rules.specs.NextSessions.{ReadsOwnFiles}
use Rattle.audit_graph.proofs.Entries.{contains_there}
use Rattle.audit_replay.proofs.AgainstRules.{name_in}

-- a tree or a source of a file of the project, or no key of a file
abbrev IsOwn : Project → Key → Type 0
IsOwn p (keys.Source f) = Contains (names_of p) f
IsOwn p (keys.Tree f) = Contains (names_of p) f
IsOwn p _ = Unit {0}

-- the file of a class is one of the project's
class_file : (p : Project) (c : Name) (k : ClassDecl) → class_at p c ≡ Some k → Contains (names_of p) (file_of_class p k)
class_file p c k e =
    let s = stands_in p c k e in
    let start : 0 + s.at ≡ s.at = omega arith in
    let file : file_of_class p k ≡ s.file.name = ap (λ n. name_of (slice_get p n)) (s.number ∙ start) ∙ ap name_of s.here in
    subst (Contains (names_of p)) (sym file) (name_in p s.file (contains_there p s.at s.file s.here))

module _ (profile : Profile) (p : Project) where
  abbrev Own : Key → Type 0
  Own k = IsOwn p k

  trees_from : (ns : List Name) → AllByRecursion (Contains (names_of p)) ns → AllByRecursion Own (map keys.Tree ns)
  trees_from [] all = tt
  trees_from (n ∷ ns) all = (all.0, trees_from ns all.1)

  trees : AllByRecursion Own (all_trees p)
  trees = trees_from (names_of p) (all_from (Contains (names_of p)) (names_of p) (λ n c. c))

  class_tree : (c : Name) (o : Option ClassDecl) → class_at p c ≡ o → AllByRecursion Own (tree_of_class p o)
  class_tree c None e = tt
  class_tree c (Some k) e = (class_file p c k e, tt)

  headers : (c : Name) → AllByRecursion Own (chain_headers p c)
  headers c = all_mapped Own keys.Header (λ d. tt) (chain_names (chain_of (classes_in p) c))

  returned : (m : Option Method) (sig : Option Sig) → AllByRecursion Own (return_chain m sig)
  returned None sig = tt
  returned (Some m) None = tt
  returned (Some m) (Some sig) =
      when_all Own (λ d. tt) (λ d. tt) (λ d. tt) (same_types m.formals sig.formals) (accept_reads m.returns sig.returns)
      (accept_all Own (λ d. tt) (λ d. tt) (λ d. tt) m.returns sig.returns)

  all_returned : (profile : Profile) (cs : List ClassDecl) (k : ClassDecl) → AllByRecursion Own (return_chains profile cs k)
  all_returned One cs k = tt
  all_returned Two cs k =
      all_flat Own (λ (m : Name). return_chain (own_method m k) (nearest_sig (rest_of cs k.name) m)) (λ m. returned (own_method m k) (nearest_sig (rest_of cs k.name) m)) (method_names k)

  overrides : (ms : List Method) (chain : List Name) (ks : List Key) → AllByRecursion Own ks → AllByRecursion Own (overriding ms chain ks)
  overrides [] chain ks all = tt
  overrides (m ∷ ms) [] ks all = tt
  overrides (m ∷ ms) (c ∷ []) ks all = tt
  overrides (m ∷ ms) (c ∷ s ∷ farther) ks all = (tt, (tt, all))

  class_check : (c : Name) (o : Option ClassDecl) → AllByRecursion Own (class_check_reads profile p c o)
  class_check c None = tt
  class_check c (Some k) = (
    tt,
    all_append Own (field_headers k.fields) _
        (all_flat Own (λ (f : Field). type_reads f.ty) (λ f. type_all Own (λ d. tt) (λ d. tt) (λ d. tt) f.ty) k.fields)
        (overrides k.methods (chain_names (chain_of (classes_in p) c)) (return_chains profile (classes_in p) k) (all_returned profile (classes_in p) k)),
  )

  diagnosis : (c : Name) (o : Option ClassDecl) → AllByRecursion Own (diagnosis_reads c o)
  diagnosis c None = tt
  diagnosis c (Some k) = (tt, all_mapped Own (keys.CheckBody c) (λ m. tt) (bodies_of k))

  asked : (q : Key) → IsOwn p q → AllByRecursion Own (asked_keys profile p q)
  unfolding asked_keys
  asked keys.Files own = tt
  asked (keys.Source f) own = tt
  asked (keys.Tree f) own = (own, tt)
  asked keys.Index own = (tt, trees)
  asked (keys.Header c) own = (tt, class_tree c (class_at p c) refl)
  asked (keys.Method c m) own = (tt, class_tree c (class_at p c) refl)
  asked (keys.Sig c m) own = (tt, tt)
  asked (keys.Supers c) own = (tt, headers c)
  asked (keys.Members c) own = (
    tt,
    all_append Own (chain_headers p c) (signatures p c) (headers c) (all_mapped Own row_signature (λ row. tt) (table_of (classes_in p) c).methods),
  )
  asked (keys.CheckClass c) own = (tt, class_check c (class_at p c))
  asked (keys.CheckBody c m) own = (tt, body_all Own (λ d. tt) (λ d. tt) (λ d. tt) (world_of (classes_in p)) c (body_at p c m))
  asked (keys.Diags c) own = (tt, diagnosis c (class_at p c))
  asked keys.Answer own = (
    tt,
    all_append Own (all_trees p) _ trees (tt, all_flat Own answer_parts (λ k. (tt, (tt, tt))) (first_classes (classes_in p))),
  )

  own_root : (q : Key) → IsRoot p q → IsOwn p q
  own_root _ answer = tt
  own_root _ files = tt
  own_root _ (source file c) = c

  own_reads : (q : Key) → IsOwn p q → AllByRecursion Own (reads profile p q)
  unfolding reads
  own_reads q own = firsts_all Own [] (asked_keys profile p q) (asked q own)

  own : (q : Key) → IsReadIn (reads profile) p q → IsOwn p q
  own q (root _ r) = own_root q r
  own _ (read q e inn has) = all_at Own (reads profile p q) (own_reads q (own q inn)) e has

pub own_files : (profile : Profile) (p : Project) → ReadsOwnFiles (reads profile) p
own_files profile p file inn = own profile p (keys.Source file) inn
