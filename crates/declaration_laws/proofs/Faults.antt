-- The diagnostics of a project that go by spots, and the reads of the answer.
use Rattle.std.proofs.Common.{◌≡◌, ◌≢◌, ℕ, zero, suc, ◌+◌, ◌<◌, Bool, true, false, List, [], ◌∷◌, ◌++◌, map, Option, Some, None, slice_get, refl, sym, ap, ◌∙◌, subst, arith, true≢false, if◌then◌else◌}
use Rattle.std.specs.Prelude.{flat_map}
use Rattle.std.proofs.lemmas.Option.{same_Some}
use Rattle.item_ids.specs.declared.key.Key.{Key}
use Rattle.item_ids.specs.declared.key.Key.TheVariants as keys
use Rattle.mj_tree.specs.Trees.{File}
use Rattle.mj_tree.specs.declared.place.Place.{Place}
use Rattle.mj_answer.specs.declared.code.Code.{Code}
use Rattle.mj_answer.specs.declared.code.Code.TheVariants.{E103, E104}
use Rattle.mj_members.specs.Declarations.{ClassDecl}
use Rattle.named_files.specs.Projects.{SourceFile}
use Rattle.mj_rules.specs.Sentences.{file_of, trees_of, classes_in}
use Rattle.mj_rules.specs.FaultLists.{has_main}
use Rattle.mj_rules.specs.Answering.{first_classes}
use Rattle.mj_rules.specs.ProjectFaults.{HasMain, FaultOfProject, NoSentence, NoMain, SecondMain, RepeatedClass}
use Rattle.mj_rules.proofs.LowerLaws.{sentence_law}
use Rattle.recorder.specs.Projects.{Project}
use Rattle.query_rules.specs.Items.{index_row}
use Rattle.query_rules.specs.Meaning.{mean}
use Rattle.query_rules.specs.Reads.{all_trees, answer_parts, asked_keys}
use Rattle.declaration_laws.specs.Spots.{first_main_from}
use Rattle.declaration_laws.specs.Laws.{IsLaterClass, LaterClassLaw, IsLaterMain, LaterMainLaw, row_parts, AnswerLaw}
use Rattle.declaration_laws.proofs.Firsts.{repeat_law}

-- ---- E104

class_from : (files : List SourceFile) (x : Place) (code : Code) → FaultOfProject files x code → code ≡ E104 → IsLaterClass files x
class_from files _ _ (NoSentence f c never) e = absurd cc
class_from files _ _ (NoMain none) e = absurd cc
class_from files _ _ (SecondMain i j f g lt a b) e = absurd cc
class_from files _ _ (RepeatedClass i j c d f lt first second same file) e = record {
  number = j;
  class = d;
  there = second;
  file = f;
  in_file = file;
  later = (repeat_law files j d second).0 (record { place = i; earlier = lt; class = c; there = first; name = same });
  at = refl;
}

class_to : (files : List SourceFile) (x : Place) → IsLaterClass files x → FaultOfProject files x E104
class_to files x r =
    let earlier = (repeat_law files r.number r.class r.there).1 r.later in
    subst (λ (y : Place). FaultOfProject files y E104) (sym r.at)
    (RepeatedClass earlier.place r.number earlier.class r.class r.file earlier.earlier earlier.there r.there earlier.name r.in_file)

pub later_class_law : LaterClassLaw
later_class_law files x = (λ h. class_from files x E104 h refl, class_to files x)

-- ---- E103

main_is : (files : List SourceFile) (i : ℕ) (f : SourceFile) → HasMain files i f → has_main (file_of f.bytes) ≡ true
main_is files i f m = ap has_main ((sentence_law f.bytes m.tree).0 m.sentence) ∙ m.main

main_at : (files : List SourceFile) (i : ℕ) (f : SourceFile) (o : Option File) → slice_get files i ≡ Some f → file_of f.bytes ≡ o → has_main o ≡ true → HasMain files i f
main_at files i f None e t h = absurd (true≢false (sym h))
main_at files i f (Some tree) e t h = record { file = e; tree = tree; sentence = (sentence_law f.bytes tree).1 t; main = h }

-- a main class at a place is the first, or another one is before it
abbrev FirstOr : ℕ → List SourceFile → ℕ → Type 0
FirstOr n fs j = (first_main_from n (trees_of fs) ≢ Some (n + j)) → (i : ℕ) × (f : SourceFile) × (i < j) × (slice_get fs i ≡ Some f) × (has_main (file_of f.bytes) ≡ true)

first_or : (n : ℕ) (fs : List SourceFile) (j : ℕ) (g : SourceFile) → slice_get fs j ≡ Some g → has_main (file_of g.bytes) ≡ true → FirstOr n fs j
first_or n [] j g e h = absurd cc
first_or n (f ∷ fs) zero g e h = λ differs.
    let is : has_main (file_of f.bytes) ≡ true = ap (λ (x : SourceFile). has_main (file_of x.bytes)) (same_Some f g e) ∙ h in
    let plain : n ≡ n + 0 = omega arith in
    absurd (differs (ap (λ (b : Bool). if b then Some n else first_main_from (suc n) (trees_of fs)) is ∙ ap (λ (m : ℕ). Some m) plain))
first_or n (f ∷ fs) (suc j) g e h = go (first_or (suc n) fs j g e h) (has_main (file_of f.bytes)) refl
  where
    go : FirstOr (suc n) fs j → (b : Bool) → has_main (file_of f.bytes) ≡ b → FirstOr n (f ∷ fs) (suc j)
    go rest true t = λ differs. (0, f, omega arith, refl, t)
    go rest false t = λ differs.
        let shift : suc n + j ≡ n + suc j = omega arith in
        let r = rest (λ same. differs (ap (λ (b : Bool). if b then Some n else first_main_from (suc n) (trees_of fs)) t ∙ same ∙ ap (λ (m : ℕ). Some m) shift)) in
        (suc r.0, r.1, (let l = r.2 in omega (arith, l)), r.3, r.4)

-- if one is before a place, the first isn't there
before_first : (n : ℕ) (fs : List SourceFile) (i j : ℕ) (f : SourceFile) → i < j → slice_get fs i ≡ Some f → has_main (file_of f.bytes) ≡ true → first_main_from n (trees_of fs) ≢ Some (n + j)
before_first n [] i j f lt e h = absurd cc
before_first n (x ∷ fs) i j f lt e h = go (λ i k l g. before_first (suc n) fs i k f l g h) (has_main (file_of x.bytes)) refl i j lt e
  where
    go : ((i k : ℕ) → i < k → slice_get fs i ≡ Some f → first_main_from (suc n) (trees_of fs) ≢ Some (suc n + k)) → (b : Bool) → has_main (file_of x.bytes) ≡ b → (i j : ℕ) → i < j → slice_get (x ∷ fs) i ≡ Some f → first_main_from n (trees_of (x ∷ fs)) ≢ Some (n + j)
    go rest true t i j lt e same =
        let m : n ≡ n + j = same_Some n (n + j) (sym (ap (λ (b : Bool). if b then Some n else first_main_from (suc n) (trees_of fs)) t) ∙ same) in
        absurd (omega (arith, m, lt))
    go rest false t zero j lt e same = true≢false (sym h ∙ ap (λ (y : SourceFile). has_main (file_of y.bytes)) (sym (same_Some x f e)) ∙ t)
    go rest false t (suc i) zero lt e same = absurd (omega (arith, lt))
    go rest false t (suc i) (suc j) lt e same =
        let shift : n + suc j ≡ suc n + j = omega arith in
        rest i j (omega (arith, lt)) e (sym (ap (λ (b : Bool). if b then Some n else first_main_from (suc n) (trees_of fs)) t) ∙ same ∙ ap (λ (m : ℕ). Some m) shift)

from_zero : (j : ℕ) → j ≡ 0 + j
from_zero j = omega arith

main_from : (files : List SourceFile) (x : Place) (code : Code) → FaultOfProject files x code → code ≡ E103 → IsLaterMain files x
main_from files _ _ (NoSentence f c never) e = absurd cc
main_from files _ _ (NoMain none) e = absurd cc
main_from files _ _ (RepeatedClass i j c d f lt first second same file) e = absurd cc
main_from files _ _ (SecondMain i j f g lt a b) e = record {
  number = j;
  file = g;
  main = b;
  later = λ same. before_first 0 files i j f lt a.file (main_is files i f a) (same ∙ ap (λ (m : ℕ). Some m) (from_zero j));
  at = refl;
}

main_to : (files : List SourceFile) (x : Place) → IsLaterMain files x → FaultOfProject files x E103
main_to files x r =
    let earlier = first_or 0 files r.number r.file r.main.file (main_is files r.number r.file r.main) (λ same. r.later (same ∙ ap (λ (m : ℕ). Some m) (sym (from_zero r.number)))) in
    subst (λ (y : Place). FaultOfProject files y E103) (sym r.at)
    (SecondMain earlier.0 r.number earlier.1 r.file earlier.2 (main_at files earlier.0 earlier.1 (file_of earlier.1.bytes) earlier.3 refl earlier.4) r.main)

pub later_main_law : LaterMainLaw
later_main_law files x = (λ h. main_from files x E103 h refl, main_to files x)

-- ---- the reads of the answer

parts_same : (p : Project) (ks : List ClassDecl) → flat_map answer_parts ks ≡ flat_map row_parts (map (index_row p) ks)
parts_same p [] = refl
parts_same p (k ∷ ks) = ap (λ (rest : List Key). keys.Members k.name ∷ keys.Diags k.name ∷ rest) (parts_same p ks)

pub answer_law : AnswerLaw
unfolding asked_keys mean
answer_law profile p = ap (λ (parts : List Key). keys.Files ∷ (all_trees p ++ (keys.Index ∷ parts))) (parts_same p (first_classes (classes_in p)))
