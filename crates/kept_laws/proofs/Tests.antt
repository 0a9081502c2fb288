-- The tests decide what is kept.
use Rattle.std.proofs.Common.{◌≡◌, ◌↔◌, Bool, true, false, ◌&&◌, List, [], ◌∷◌, Option, Some, None, refl, sym, ap, ap₂, ◌∙◌, subst, bytes_eq}
use Rattle.std.specs.List.{AllByRecursion}
use Rattle.std.proofs.lemmas.Slice.Eq.{bytes_eq-Decides}
use Rattle.item_ids.specs.declared.key.Key.{Key}
use Rattle.item_ids.specs.declared.key.Key.TheVariants as keys
use Rattle.mj_tree.specs.Trees.{Name}
use Rattle.result_bytes.specs.declared.value.Value.{Value}
use Rattle.result_bytes.specs.declared.parts.ChainEnd.{ChainEnd}
use Rattle.result_bytes.specs.declared.parts.ChainEnd.TheVariants.{Top, Undeclared, Repeated}
use Rattle.result_bytes.specs.Payloads.{ChainValue}
use Rattle.result_bytes.specs.Parts.{index_in, tree_in, supers_in}
use Rattle.text_queries.specs.Index.{first_file}
use Rattle.member_queries.specs.Supers.{is_listed}
use Rattle.providers.specs.Programs.{prog_of, steps_of}
use Rattle.keeping.specs.Kept.{KeptBy}
use Rattle.kept_laws.specs.Parts.{Declared, declared_in, ListSame, ListSameEnd, ListSameChain}
use Rattle.kept_laws.specs.Tests.{same_flag, same_file, same_names, same_declared, list_same, list_all_same, list_same_end, list_same_chain, of_tree, of_index, is_kept}
use Rattle.kept_laws.specs.Laws.{TestsDecide, ResultsKept}
use Rattle.kept_laws.proofs.Taking.{header_kept, method_kept, index_kept}
use Rattle.kept_laws.proofs.Climbing.{supers_kept}
use Rattle.kept_laws.proofs.Answering.{answer_kept}

pair : (s t : Bool) → (s && t) ≡ true → (s ≡ true) × (t ≡ true)
pair true true e = (refl, refl)
pair true false e = absurd cc
pair false t e = absurd cc

both : (s t : Bool) → s ≡ true → t ≡ true → (s && t) ≡ true
both s t e f = ap₂ (λ (x y : Bool). x && y) e f

-- ---- what passes a test is the same

flag_is : (s t : Bool) → same_flag s t ≡ true → s ≡ t
flag_is true true e = refl
flag_is true false e = absurd cc
flag_is false true e = absurd cc
flag_is false false e = refl

file_is : (o r : Option Name) → same_file o r ≡ true → o ≡ r
file_is None None e = refl
file_is None (Some y) e = absurd cc
file_is (Some x) None e = absurd cc
file_is (Some x) (Some y) e = ap (λ (n : Name). Some n) ((bytes_eq-Decides x y).0 e)

names_are : (xs ys : List Name) → same_names xs ys ≡ true → xs ≡ ys
names_are [] [] e = refl
names_are [] (y ∷ ys) e = absurd cc
names_are (x ∷ xs) [] e = absurd cc
names_are (x ∷ xs) (y ∷ ys) e =
    let p = pair (bytes_eq x y) (same_names xs ys) e in
    ap₂ (λ (n : Name) (ns : List Name). n ∷ ns) ((bytes_eq-Decides x y).0 p.0) (names_are xs ys p.1)

declared_is : (o r : Option Declared) → same_declared o r ≡ true → o ≡ r
declared_is None None e = refl
declared_is None (Some y) e = absurd cc
declared_is (Some x) None e = absurd cc
declared_is (Some x) (Some y) e =
    let p = pair (same_flag x.has_main y.has_main) (same_names x.names y.names) e in
    ap₂ (λ (h : Bool) (ns : List Name). Some (record { has_main = h; names = ns })) (flag_is x.has_main y.has_main p.0) (names_are x.names y.names p.1)

list_is : (a b : Value) (c : Name) → list_same a b c ≡ true → ListSame a b c
list_is a b c e = flag_is (is_listed (index_in a) c) (is_listed (index_in b) c) e

all_are : (a b : Value) (cs : List Name) → list_all_same a b cs ≡ true → AllByRecursion (ListSame a b) cs
all_are a b [] e = tt
all_are a b (c ∷ cs) e = let p = pair (list_same a b c) (list_all_same a b cs) e in (list_is a b c p.0, all_are a b cs p.1)

end_is : (a b : Value) (end : ChainEnd) → list_same_end a b end ≡ true → ListSameEnd a b end
end_is a b (Undeclared u) e = list_is a b u e
end_is a b Top e = tt
end_is a b (Repeated u) e = tt

chain_is : (a b : Value) (o : Option ChainValue) → list_same_chain a b o ≡ true → ListSameChain a b o
chain_is a b None e = tt
chain_is a b (Some x) e = let p = pair (list_all_same a b x.classes) (list_same_end a b x.end) e in (all_are a b x.classes p.0, end_is a b x.end p.1)

-- ---- what is the same passes

flag_same : (t : Bool) → same_flag t t ≡ true
flag_same true = refl
flag_same false = refl

file_same : (o : Option Name) → same_file o o ≡ true
file_same None = refl
file_same (Some x) = (bytes_eq-Decides x x).1 refl

names_same : (xs : List Name) → same_names xs xs ≡ true
names_same [] = refl
names_same (x ∷ xs) = both (bytes_eq x x) (same_names xs xs) ((bytes_eq-Decides x x).1 refl) (names_same xs)

declared_same : (o : Option Declared) → same_declared o o ≡ true
declared_same None = refl
declared_same (Some x) = both (same_flag x.has_main x.has_main) (same_names x.names x.names) (flag_same x.has_main) (names_same x.names)

list_passes : (a b : Value) (c : Name) → ListSame a b c → list_same a b c ≡ true
list_passes a b c e = ap (same_flag (is_listed (index_in a) c)) (sym e) ∙ flag_same (is_listed (index_in a) c)

all_pass : (a b : Value) (cs : List Name) → AllByRecursion (ListSame a b) cs → list_all_same a b cs ≡ true
all_pass a b [] h = refl
all_pass a b (c ∷ cs) h = both (list_same a b c) (list_all_same a b cs) (list_passes a b c h.0) (all_pass a b cs h.1)

end_passes : (a b : Value) (end : ChainEnd) → ListSameEnd a b end → list_same_end a b end ≡ true
end_passes a b (Undeclared u) h = list_passes a b u h
end_passes a b Top h = refl
end_passes a b (Repeated u) h = refl

chain_passes : (a b : Value) (o : Option ChainValue) → ListSameChain a b o → list_same_chain a b o ≡ true
chain_passes a b None h = refl
chain_passes a b (Some x) h = both (list_all_same a b x.classes) (list_same_end a b x.end) (all_pass a b x.classes h.0) (end_passes a b x.end h.1)

pub tests_decide : (a b : Value) → TestsDecide a b
tests_decide a b = record {
  declarations = (
    declared_is (declared_in (tree_in a)) (declared_in (tree_in b)),
    λ e. ap (same_declared (declared_in (tree_in a))) (sym e) ∙ declared_same (declared_in (tree_in a)),
  );
  rows = λ c. (
    file_is (first_file (index_in a) c) (first_file (index_in b) c),
    λ e. ap (same_file (first_file (index_in a) c)) (sym e) ∙ file_same (first_file (index_in a) c),
  );
  classes = λ c. (list_is a b c, list_passes a b c);
  chains = λ o. (chain_is a b o, chain_passes a b o);
}

-- ---- by the keys

module _ (t : Bool) (P : Key → Type 0) where
  at_tree : (k : Key) → of_tree k t ≡ true → (t ≡ true → (f : Name) → P (keys.Tree f)) → P k
  at_tree (keys.Tree f) e h = h e f
  at_tree keys.Files e h = absurd cc
  at_tree (keys.Source f) e h = absurd cc
  at_tree keys.Index e h = absurd cc
  at_tree (keys.Header c) e h = absurd cc
  at_tree (keys.Method c m) e h = absurd cc
  at_tree (keys.Sig c m) e h = absurd cc
  at_tree (keys.Supers c) e h = absurd cc
  at_tree (keys.Members c) e h = absurd cc
  at_tree (keys.CheckClass c) e h = absurd cc
  at_tree (keys.CheckBody c m) e h = absurd cc
  at_tree (keys.Diags c) e h = absurd cc
  at_tree keys.Answer e h = absurd cc

  at_index : (k : Key) → of_index k t ≡ true → (t ≡ true → P keys.Index) → P k
  at_index keys.Index e h = h e
  at_index (keys.Tree f) e h = absurd cc
  at_index keys.Files e h = absurd cc
  at_index (keys.Source f) e h = absurd cc
  at_index (keys.Header c) e h = absurd cc
  at_index (keys.Method c m) e h = absurd cc
  at_index (keys.Sig c m) e h = absurd cc
  at_index (keys.Supers c) e h = absurd cc
  at_index (keys.Members c) e h = absurd cc
  at_index (keys.CheckClass c) e h = absurd cc
  at_index (keys.CheckBody c m) e h = absurd cc
  at_index (keys.Diags c) e h = absurd cc
  at_index keys.Answer e h = absurd cc

pub results_kept : ResultsKept
unfolding is_kept steps_of
results_kept profile keys.Index k a b v e =
    at_tree _ (λ k. KeptBy (prog_of profile keys.Index) k a b v) k e (λ t f. index_kept f a b v ((tests_decide a b).declarations.0 t))
results_kept profile keys.Answer k a b v e =
    at_tree _ (λ k. KeptBy (prog_of profile keys.Answer) k a b v) k e (λ t f. answer_kept f a b v ((tests_decide a b).declarations.0 t))
results_kept profile (keys.Header c) k a b v e =
    at_index _ (λ k. KeptBy (prog_of profile (keys.Header c)) k a b v) k e (λ t. header_kept c a b v (((tests_decide a b).rows c).0 t))
results_kept profile (keys.Method c m) k a b v e =
    at_index _ (λ k. KeptBy (prog_of profile (keys.Method c m)) k a b v) k e (λ t. method_kept c m a b v (((tests_decide a b).rows c).0 t))
results_kept profile (keys.Supers c) k a b v e =
    at_index _ (λ k. KeptBy (prog_of profile (keys.Supers c)) k a b v) k e
    (λ t. let p = pair (list_same a b c) (list_same_chain a b (supers_in v)) t in supers_kept c a b v (list_is a b c p.0) (chain_is a b (supers_in v) p.1))
results_kept profile keys.Files k a b v e = absurd cc
results_kept profile (keys.Source f) k a b v e = absurd cc
results_kept profile (keys.Tree f) k a b v e = absurd cc
results_kept profile (keys.Sig c m) k a b v e = absurd cc
results_kept profile (keys.Members c) k a b v e = absurd cc
results_kept profile (keys.CheckClass c) k a b v e = absurd cc
results_kept profile (keys.CheckBody c m) k a b v e = absurd cc
results_kept profile (keys.Diags c) k a b v e = absurd cc
