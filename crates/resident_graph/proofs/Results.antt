-- What was read for a value, and the places that have it.
use Rattle.std.proofs.Common.{◌≡◌, ℕ, ◌<◌, List, [], ◌∷◌, map, length, Some, refl, sym, ap, ◌∙◌, subst, arith}
use Rattle.std.specs.List.{AllByRecursion}
use Rattle.std.proofs.lemmas.Option.{none-some}
use Rattle.std.specs.declared.alloc.Global.{Global}
use Rattle.std.specs.declared.sync.Arc.{Arc}
use Rattle.item_ids.specs.declared.key.Key.{Key}
use Rattle.item_ids.specs.Inputs.{rank}
use Rattle.item_ids.specs.KeyLists.{AreLower}
use Rattle.result_bytes.specs.declared.value.Value.{Value}
use Rattle.result_bytes.specs.Values.{IsOfKind}
use Rattle.recorder.specs.Projects.{Project}
use Rattle.recorder.specs.Backed.{ReadValue, keys}
use Rattle.recorder.specs.Programs.{Prog}
use Rattle.graph_rules.specs.Keys.{input_of}
use Rattle.graph_rules.proofs.KeyRules.{input_kind, no_input}
use Rattle.keeping.specs.Follows.{Follows}
use Rattle.keeping.specs.Readers.{read_at, told_at}
use Rattle.resident_graph.specs.Lists.{key_in, value_in, IsAnswer}
use Rattle.resident_graph.specs.Runs.{IsValueOf, EvaluatedGives, IsGiven}
use Rattle.resident_graph.specs.declared.running.Evaluated.{Evaluated}
use Rattle.resident_graph.specs.declared.running.Evaluated.TheVariants.{Done, Lacks}

-- each place that was read is of lower rank
pub lower_places : (ks : List Key) (q : Key) (es : List ℕ) (told : List ReadValue) → map (key_in ks) es ≡ keys told → AreLower q (keys told) → AllByRecursion (λ e. rank (key_in ks e) < rank q) es
lower_places ks q es told same lower = out es (subst (AreLower q) (sym same) lower)
  where
    out : (xs : List ℕ) → AreLower q (map (key_in ks) xs) → AllByRecursion (λ e. rank (key_in ks e) < rank q) xs
    out [] h = tt
    out (x ∷ xs) h = (h.0, out xs h.1)

module _ (ks : List Key) (vs : List (Arc Value Global)) (now : ℕ → Value) (q : Key)
    (apart : (i j : ℕ) → i < length ks → j < length ks → key_in ks i ≡ key_in ks j → i ≡ j)
    (stay : (e : ℕ) → e < length ks → rank (key_in ks e) < rank q → now e ≡ value_in vs e) where
  read_found : (e : ℕ) (t : ReadValue) → key_in ks e ≡ t.key → e < length ks → rank (key_in ks e) < rank q → IsAnswer ks vs t.key t.value → read_at (key_in ks) now e ≡ t
  read_found e t here inside low a =
      let at : e ≡ a.place = apart e a.place inside a.within (here ∙ sym a.key) in
      let is : now e ≡ t.value = stay e inside low ∙ (ap (value_in vs) at ∙ a.value) in
      λ i. record { key = here i; value = is i }

  -- what was read are the values of the places
  pub told_found : (es : List ℕ) (told : List ReadValue) → map (key_in ks) es ≡ keys told → AllByRecursion (λ e. e < length ks) es → AllByRecursion (λ e. rank (key_in ks e) < rank q) es
      → AllByRecursion (λ t. IsAnswer ks vs t.key t.value) told → told_at (key_in ks) now es ≡ told
  told_found [] [] same inside low answers = refl
  told_found [] (t ∷ told) same inside low answers = absurd cc
  told_found (e ∷ es) [] same inside low answers = absurd cc
  told_found (e ∷ es) (t ∷ told) same inside low answers =
      let first : key_in ks e ≡ t.key = cc in
      let others : map (key_in ks) es ≡ keys told = cc in
      let one = read_found e t first inside.0 low.0 answers.0 in
      let rest = told_found es told others inside.1 low.1 answers.1 in
      λ i. one i ∷ rest i

-- what a run says whose reads these places answer
pub value_of_run : (prog_of : Key → Prog) (p : Project) (q : Key) (v : Value) (ks rks : List Key) (vs rvs : List (Arc Value Global)) (told : List ReadValue) (es : List ℕ)
    → 0 < rank q → IsOfKind q v → Follows (prog_of q) told v → AreLower q (keys told) → rks ≡ ks → rvs ≡ vs
    → AllByRecursion (λ t. IsAnswer rks rvs t.key t.value) told → map (key_in ks) es ≡ keys told → AllByRecursion (λ e. e < length ks) es
    → IsValueOf prog_of p ks vs q v es
value_of_run prog_of p q v ks rks vs rvs told es above kind follows lower is_ks is_vs answers same inside = record {
  kind = kind;
  inside = inside;
  input = λ low. absurd (omega (arith, above, low));
  run = λ _. record {
    told = told;
    follows = follows;
    lower = lower;
    answers = subst (λ (l : List Key). AllByRecursion (λ t. IsAnswer l vs t.key t.value) told) is_ks (subst (λ (w : List (Arc Value Global)). AllByRecursion (λ t. IsAnswer rks w t.key t.value) told) is_vs answers);
    same = same;
  };
}

-- what an input says
pub value_given : (prog_of : Key → Prog) (p : Project) (ks : List Key) (vs : List (Arc Value Global)) (q : Key) (w : Value) (e : Evaluated)
    → input_of p q ≡ Some w → IsGiven w e → EvaluatedGives prog_of p ks vs q e
value_given prog_of p ks vs q w (Done a es) is given = record {
  kind = subst (λ (v : Value). IsOfKind q v) (sym given.0) (input_kind p q w is);
  inside = subst (λ (xs : List ℕ). AllByRecursion (λ e. e < length ks) xs) (sym given.1) tt;
  input = λ low. is ∙ ap (λ (v : Value). Some v) (sym given.0);
  run = λ above. absurd (none-some w (sym (no_input p q above) ∙ is));
}
value_given prog_of p ks vs q w (Lacks k) is given = absurd given
