-- Each key has a value of its kind and reads keys of lower rank, none twice.
use Rattle.std.proofs.Common.{◌≡◌, ◌<◌, List, [], ◌∷◌, Option, Some, None, refl, arith}
use Rattle.item_ids.specs.declared.key.Key.{Key}
use Rattle.item_ids.specs.declared.key.Key.TheVariants as keys
use Rattle.item_ids.specs.Inputs.{rank}
use Rattle.item_ids.specs.KeyLists.{AreLower, NoneTwice}
use Rattle.mj_tree.specs.Trees.{Name, Method}
use Rattle.mj_tree.specs.declared.tree.Field.{Field}
use Rattle.mj_members.specs.Declarations.{ClassDecl}
use Rattle.mj_classes.specs.Chains.{chain_of, chain_names}
use Rattle.mj_classes.specs.Members.{own_method}
use Rattle.mj_classes.proofs.Tables.{all_append}
use Rattle.mj_phrases.specs.Inquiries.{Sig}
use Rattle.named_files.specs.Projects.{names_of}
use Rattle.profiles.specs.declared.profile.Profile.{Profile}
use Rattle.profiles.specs.declared.profile.Profile.TheVariants.{One, Two}
use Rattle.mj_rules.specs.Sentences.{classes_in}
use Rattle.mj_rules.specs.Worlds.{world_of}
use Rattle.mj_rules.specs.FaultLists.{same_types, rest_of, nearest_sig, method_names}
use Rattle.mj_rules.specs.Answering.{first_classes}
use Rattle.mj_rules.specs.Tables.{table_of}
use Rattle.result_bytes.specs.Values.{IsOfKind}
use Rattle.recorder.specs.Projects.{Project}
use Rattle.query_rules.specs.Items.{class_at, body_at}
use Rattle.query_rules.specs.BodyReads.{type_reads, accept_reads}
use Rattle.query_rules.specs.Meaning.{mean}
use Rattle.query_rules.specs.Reads.{all_trees, tree_of_class, chain_headers, signatures, row_signature, field_headers, return_chain, return_chains, overriding, bodies_of, answer_parts, class_check_reads, diagnosis_reads, asked_keys, reads}
use Rattle.query_rules.specs.Laws.{QueryLaws}
use Rattle.query_rules.proofs.Firsts.{all_mapped, all_flat, firsts_all, firsts_new}
use Rattle.query_rules.proofs.BodyRanks.{type_all, accept_all, when_all, body_all}

kind : (profile : Profile) (p : Project) (q : Key) → IsOfKind q (mean profile p q)
unfolding mean
kind profile p keys.Files = refl
kind profile p (keys.Source f) = refl
kind profile p (keys.Tree f) = refl
kind profile p keys.Index = refl
kind profile p (keys.Header c) = refl
kind profile p (keys.Method c m) = refl
kind profile p (keys.Sig c m) = refl
kind profile p (keys.Supers c) = refl
kind profile p (keys.Members c) = refl
kind profile p (keys.CheckClass c) = refl
kind profile p (keys.CheckBody c m) = refl
kind profile p (keys.Diags c) = refl
kind profile p keys.Answer = refl

-- ---- ranks

abbrev Below : Key → Key → Type 0
Below q k = rank k < rank q

tree_lower : (q : Key) → 1 < rank q → (p : Project) (o : Option ClassDecl) → AreLower q (tree_of_class p o)
tree_lower q h p None = tt
tree_lower q h p (Some k) = (h, tt)

chain_lower : (q : Key) → 5 < rank q → (m : Option Method) (sig : Option Sig) → AreLower q (return_chain m sig)
chain_lower q h None sig = tt
chain_lower q h (Some m) None = tt
chain_lower q h (Some m) (Some sig) =
    when_all (Below q) (λ d. omega (arith, h)) (λ d. omega (arith, h)) (λ d. omega (arith, h)) (same_types m.formals sig.formals) (accept_reads m.returns sig.returns)
    (accept_all (Below q) (λ d. omega (arith, h)) (λ d. omega (arith, h)) (λ d. omega (arith, h)) m.returns sig.returns)

chains_lower : (q : Key) → 5 < rank q → (profile : Profile) (cs : List ClassDecl) (k : ClassDecl) → AreLower q (return_chains profile cs k)
chains_lower q h One cs k = tt
chains_lower q h Two cs k =
    all_flat (Below q) (λ (m : Name). return_chain (own_method m k) (nearest_sig (rest_of cs k.name) m)) (λ m. chain_lower q h (own_method m k) (nearest_sig (rest_of cs k.name) m)) (method_names k)

overriding_lower : (q : Key) → 5 < rank q → (ms : List Method) (chain : List Name) (returned : List Key) → AreLower q returned → AreLower q (overriding ms chain returned)
overriding_lower q h [] chain returned low = tt
overriding_lower q h (m ∷ ms) [] returned low = tt
overriding_lower q h (m ∷ ms) (c ∷ []) returned low = tt
overriding_lower q h (m ∷ ms) (c ∷ s ∷ farther) returned low = (h, (h, low))

class_check_lower : (profile : Profile) (p : Project) (c : Name) (o : Option ClassDecl) → AreLower (keys.CheckClass c) (class_check_reads profile p c o)
class_check_lower profile p c None = tt
class_check_lower profile p c (Some k) = (
  omega arith,
  all_append (Below (keys.CheckClass c)) (field_headers k.fields) _
      (all_flat (Below (keys.CheckClass c)) (λ (f : Field). type_reads f.ty) (λ f. type_all (Below (keys.CheckClass c)) (λ d. omega arith) (λ d. omega arith) (λ d. omega arith) f.ty) k.fields)
      (overriding_lower (keys.CheckClass c) (omega arith) k.methods (chain_names (chain_of (classes_in p) c)) (return_chains profile (classes_in p) k)
      (chains_lower (keys.CheckClass c) (omega arith) profile (classes_in p) k)),
)

diagnosis_lower : (c : Name) (o : Option ClassDecl) → AreLower (keys.Diags c) (diagnosis_reads c o)
diagnosis_lower c None = tt
diagnosis_lower c (Some k) = (omega arith, all_mapped (Below (keys.Diags c)) (keys.CheckBody c) (λ m. omega arith) (bodies_of k))

headers_lower : (q : Key) → 3 < rank q → (p : Project) (c : Name) → AreLower q (chain_headers p c)
headers_lower q h p c = all_mapped (Below q) keys.Header (λ d. h) (chain_names (chain_of (classes_in p) c))

trees_lower : (q : Key) → 1 < rank q → (p : Project) → AreLower q (all_trees p)
trees_lower q h p = all_mapped (Below q) keys.Tree (λ f. h) (names_of p)

asked_lower : (profile : Profile) (p : Project) (q : Key) → AreLower q (asked_keys profile p q)
unfolding asked_keys
asked_lower profile p keys.Files = tt
asked_lower profile p (keys.Source f) = tt
asked_lower profile p (keys.Tree f) = (omega arith, tt)
asked_lower profile p keys.Index = (omega arith, trees_lower keys.Index (omega arith) p)
asked_lower profile p (keys.Header c) = (omega arith, tree_lower (keys.Header c) (omega arith) p (class_at p c))
asked_lower profile p (keys.Method c m) = (omega arith, tree_lower (keys.Method c m) (omega arith) p (class_at p c))
asked_lower profile p (keys.Sig c m) = (omega arith, tt)
asked_lower profile p (keys.Supers c) = (omega arith, headers_lower (keys.Supers c) (omega arith) p c)
asked_lower profile p (keys.Members c) = (
  omega arith,
  all_append (Below (keys.Members c)) (chain_headers p c) (signatures p c) (headers_lower (keys.Members c) (omega arith) p c)
      (all_mapped (Below (keys.Members c)) row_signature (λ row. omega arith) (table_of (classes_in p) c).methods),
)
asked_lower profile p (keys.CheckClass c) = (omega arith, class_check_lower profile p c (class_at p c))
asked_lower profile p (keys.CheckBody c m) = (omega arith, body_all (Below (keys.CheckBody c m)) (λ d. omega arith) (λ d. omega arith) (λ d. omega arith) (world_of (classes_in p)) c (body_at p c m))
asked_lower profile p (keys.Diags c) = (omega arith, diagnosis_lower c (class_at p c))
asked_lower profile p keys.Answer = (
  omega arith,
  all_append (Below keys.Answer) (all_trees p) _ (trees_lower keys.Answer (omega arith) p)
      (omega arith, all_flat (Below keys.Answer) answer_parts (λ k. (omega arith, (omega arith, tt))) (first_classes (classes_in p))),
)

no_reads : (profile : Profile) (p : Project) (q : Key) → rank q ≡ 0 → reads profile p q ≡ []
unfolding reads asked_keys
no_reads profile p keys.Files e = refl
no_reads profile p (keys.Source f) e = refl
no_reads profile p _ e = absurd (omega (arith, e))

lower : (profile : Profile) (p : Project) (q : Key) → AreLower q (reads profile p q)
unfolding reads
lower profile p q = firsts_all (Below q) [] (asked_keys profile p q) (asked_lower profile p q)

once : (profile : Profile) (p : Project) (q : Key) → NoneTwice (λ k. k) (reads profile p q)
unfolding reads
once profile p q = (firsts_new [] (asked_keys profile p q)).1

pub query_laws : QueryLaws
unfolding mean
query_laws = record {
  inputs = λ profile p. record { files = refl; source = λ file. refl; no_reads = no_reads profile p };
  keys = λ profile p. record { kind = kind profile p; lower = lower profile p; once = once profile p };
}
