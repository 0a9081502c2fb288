-- Equality of keys, and which keys are inputs.
use Rattle.std.proofs.Common.{◌≡◌, ℕ, ◌<◌, List, Bool, true, false, Some, None, refl, sym, ◌∙◌, subst, arith, true≢false}
use Rattle.std.proofs.lemmas.Option.{none-some, same_Some}
use Rattle.item_ids.specs.declared.key.Key.{Key}
use Rattle.item_ids.specs.declared.key.Key.TheVariants.{Files, Source}
use Rattle.item_ids.specs.Keys.{kind_of}
use Rattle.item_ids.specs.Inputs.{rank, is_input, IsComputed, Origin, files, source, computed, origin, by_computed}
use Rattle.item_ids.proofs.Apart.{test_same, test_itself}
use Rattle.result_bytes.specs.declared.value.Value.{Value}
use Rattle.result_bytes.specs.declared.value.Value.TheVariants as values
use Rattle.result_bytes.specs.Values.{IsOfKind}
use Rattle.named_files.specs.Projects.{names_of, IsProject}
use Rattle.recorder.specs.Projects.{Project, bytes_at}
use Rattle.recorder.specs.Backed.{Meaning, ReadLists, RunnerLaws}
use Rattle.graph_rules.specs.Keys.{same_key, input_of}

pub same_is : (a b : Key) → same_key a b ≡ true → a ≡ b
unfolding same_key
same_is a b h = test_same a b h

pub is_same : (a b : Key) → a ≡ b → same_key a b ≡ true
unfolding same_key
is_same a b e = test_itself a b e

pub same_refl : (a : Key) → same_key a a ≡ true
same_refl a = is_same a a refl

both_ways : (a b : Key) (s t : Bool) → same_key a b ≡ s → same_key b a ≡ t → s ≡ t
both_ways a b true true h k = refl
both_ways a b false false h k = refl
both_ways a b true false h k = absurd (true≢false (sym (is_same b a (sym (same_is a b h))) ∙ k))
both_ways a b false true h k = absurd (true≢false (sym (is_same a b (sym (same_is b a k))) ∙ h))

pub same_sym : (a b : Key) → same_key a b ≡ same_key b a
same_sym a b = both_ways a b (same_key a b) (same_key b a) refl refl

-- ---- inputs

-- a key that is computed is none
none_computed : (p : Project) (q : Key) → IsComputed q → input_of p q ≡ None
unfolding input_of
none_computed p q is = by_computed (Some (values.Files (names_of p))) (λ file. Some (values.Source (bytes_at p file))) None q is

none_by : (p : Project) {q : Key} → Origin q → 0 < rank q → input_of p q ≡ None
none_by p files lt = absurd (omega arith)
none_by p (source file) lt = absurd (omega arith)
none_by p (computed q is) lt = none_computed p q is

pub no_input : (p : Project) (q : Key) → 0 < rank q → input_of p q ≡ None
no_input p q lt = none_by p (origin q) lt

above_by : (p : Project) {q : Key} → Origin q → input_of p q ≡ None → 0 < rank q
unfolding input_of
above_by p files e = absurd (none-some _ (sym e))
above_by p (source file) e = absurd (none-some _ (sym e))
above_by p (computed q is) e = is.above

pub above : (p : Project) (q : Key) → input_of p q ≡ None → 0 < rank q
above p q e = above_by p (origin q) e

-- what holds of Files and of the sources with their values holds of every input
of_input : (P : Key → Value → Type 0) (p : Project) → P Files (values.Files (names_of p)) → ((file : List ℕ) → P (Source file) (values.Source (bytes_at p file)))
    → {q : Key} → Origin q → (v : Value) → input_of p q ≡ Some v → P q v
unfolding input_of
of_input P p at_files at_source files v e = subst (P Files) (same_Some _ v e) at_files
of_input P p at_files at_source (source file) v e = subst (P (Source file)) (same_Some _ v e) (at_source file)
of_input P p at_files at_source (computed q is) v e = absurd (none-some v (sym (none_computed p q is) ∙ e))

pub input_rank : (p : Project) (q : Key) (v : Value) → input_of p q ≡ Some v → rank q ≡ 0
input_rank p q v e = of_input (λ k x. rank k ≡ 0) p refl (λ file. refl) (origin q) v e

pub input_kind : (p : Project) (q : Key) (v : Value) → input_of p q ≡ Some v → IsOfKind q v
input_kind p q v e = of_input (λ k x. IsOfKind k x) p refl (λ file. refl) (origin q) v e

-- an input is what the project means by it
pub input_means : (mean : Meaning) (reads : ReadLists) → RunnerLaws mean reads → (p : Project) → IsProject p → (q : Key) (v : Value) → input_of p q ≡ Some v → mean p q ≡ v
input_means mean reads laws p is q v e = of_input (λ k x. mean p k ≡ x) p (laws.inputs p is).files (laws.inputs p is).source (origin q) v e

-- ---- which marks keys have

pub marked_input : (p : Project) (q : Key) (v : Value) → input_of p q ≡ Some v → true ≡ is_input (kind_of q)
marked_input p q v e = of_input (λ k x. true ≡ is_input (kind_of k)) p refl (λ file. refl) (origin q) v e

marked_by : {q : Key} → Origin q → 0 < rank q → false ≡ is_input (kind_of q)
marked_by files lt = absurd (omega arith)
marked_by (source file) lt = absurd (omega arith)
marked_by (computed q is) lt = sym is.kind

pub marked_other : (q : Key) → 0 < rank q → false ≡ is_input (kind_of q)
marked_other q lt = marked_by (origin q) lt
