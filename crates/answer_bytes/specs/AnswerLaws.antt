-- Tables, diagnostics and answers: what is read is spelled there, and each spelling is read back.
use Rattle.std.proofs.Common.{◌≡◌, ℕ, zero, suc, ◌<◌, ◌^◌, eqb, List, [], ◌∷◌, ◌++◌, Option, Some, None, Result, Ok, refl, sym, ap, subst, lit<}
use Rattle.std.proofs.lemmas.Bool.{eqb-true}
use Rattle.mj_tree.specs.declared.place.Place.{Place}
use Rattle.mj_tree.specs.declared.place.Place.TheVariants as places
use Rattle.mj_answer.specs.declared.code.Code.{Code}
use Rattle.mj_answer.specs.declared.code.Code.TheVariants.{E101}
use Rattle.mj_answer.specs.Codes.{code_number, all_codes, code_of}
use Rattle.mj_answer.proofs.Orders.{code_back}
use Rattle.byte_readers.specs.declared.breach.Breach.{Breach}
use Rattle.byte_readers.specs.Spelling.{two, list}
use Rattle.byte_readers.specs.Reading.{Decoder, any, two_at, made_at}
use Rattle.byte_readers.specs.Lawful.{IsBytes, Takes, Lawful}
use Rattle.byte_readers.specs.Laws.{IsBytes-rest, bind_ok, ok_is, takes_nothing, takes_behind, found_passes, made_takes, made_again, lawful_two, lawful_four, lawful_name, lawful_pair, lawful_list, lawful_made, lawful_where, any_admits}
use Rattle.tree_spelling.specs.TypeLaws.{lawful_ty}
use Rattle.answer_bytes.specs.Canon.{field_row, method_row, table, project_place, class_place, project_fault, class_fault, class_answer, answer}
use Rattle.answer_bytes.specs.Storable.{FieldRowFits, MethodRowFits, TableFits, IsProjectPlace, IsClassPlace, PlaceNameFits, ProjectFaultFits, ClassFaultFits, ProjectFaultsFit, ClassFaultsFit, ClassAnswerFits, AnswerFits}
use Rattle.answer_bytes.specs.Reading.{field_row_of, field_row_at, method_row_of, method_row_at, table_of, table_at, class_of, project_place_at, inside_of, class_place_at, known_code, code_at, diagnostic_of, project_fault_at, class_fault_at, project_faults_at, class_faults_at, class_answer_of, class_answer_at, answer_of, answer_at}
use Rattle.answer_bytes.specs.OrderLaws.{lawful_by_name, lawful_by_place}

abbrev done : {A : Type 0} → A → Result A Breach
done x = Ok x

-- an item of one byte
pub leaf_takes : {A : Type 0} (sp : A → List ℕ) (P : A → Type 0) (b : ℕ) (bytes : List ℕ)
    (one a : A) (rest : List ℕ) → sp one ≡ b ∷ [] → P one → IsBytes (b ∷ bytes)
    → done {A = A × List ℕ} (one, bytes) ≡ done (a, rest) → Takes (b ∷ bytes) (sp a) rest × P a
leaf_takes {A} sp P b bytes one a rest spelled fit fits e =
    let whole : Takes (b ∷ bytes) (sp one) bytes =
    subst (λ (x : List ℕ). Takes (b ∷ bytes) x bytes) (sym spelled)
    (takes_behind b bytes [] bytes (takes_nothing bytes (IsBytes-rest b bytes fits))) in
    subst (λ (x : A × List ℕ). Takes (b ∷ bytes) (sp x.0) x.1 × P x.0)
    (ok_is (one, bytes) (a, rest) e) (whole, fit)

-- an item behind a tag
pub tag_takes : {A B : Type 0} {p : Decoder A} {sp : A → List ℕ} {P : A → Type 0}
    (law : Lawful p sp P) (make : A → B) (sq : B → List ℕ) (Q : B → Type 0) (b : ℕ)
    → ((a : A) → sq (make a) ≡ b ∷ sp a) → ((a : A) → P a → Q (make a))
    → (bytes : List ℕ) (x : B) (rest : List ℕ) → IsBytes (b ∷ bytes)
    → made_at make p bytes ≡ Ok (x, rest) → Takes (b ∷ bytes) (sq x) rest × Q x
tag_takes {A} {B} {p} {sp} {P} law make sq Q b spelled fit bytes x rest fits e =
    let m = made_takes law make bytes x rest (IsBytes-rest b bytes fits) e in
    let one : Takes (b ∷ bytes) (sq (make m.0)) rest =
    subst (λ (t : List ℕ). Takes (b ∷ bytes) t rest) (sym (spelled m.0))
    (takes_behind b bytes (sp m.0) rest m.2) in
    subst (λ (y : B). Takes (b ∷ bytes) (sq y) rest × Q y) m.1 (one, fit m.0 m.3)

-- ---- tables

pub lawful_field_row : Lawful field_row_at field_row FieldRowFits
lawful_field_row =
    lawful_made (lawful_pair lawful_name (lawful_pair lawful_name lawful_ty)) field_row_of
    (λ row. (row.name, (row.owner, row.ty))) (λ _. refl) (λ _. refl)

pub lawful_method_row : Lawful method_row_at method_row MethodRowFits
lawful_method_row =
    lawful_where (lawful_made (lawful_pair lawful_name
    (lawful_pair lawful_name (lawful_pair (lawful_list lawful_ty any) lawful_ty))) method_row_of
    (λ row. (row.name, (row.owner, (row.formals, row.returns)))) (λ _. refl) (λ _. refl))
    (λ row f. record {
      name = f.0;
      owner = f.1.0;
      few = f.1.1.0.few;
      formals = f.1.1.0.fit;
      returns = f.1.1.1;
    })
    (λ row f. (
      f.name,
      (
        f.owner,
        (
          record {
            few = f.few;
            fit = f.formals;
            admitted = any_admits [] row.formals;
          },
          f.returns,
        ),
      ),
    ))

pub lawful_table : Lawful table_at table TableFits
unfolding table_at
lawful_table =
    lawful_where (lawful_made (lawful_pair (lawful_by_name lawful_field_row (λ row. row.name))
    (lawful_by_name lawful_method_row (λ row. row.name))) table_of (λ t. (t.fields, t.methods))
    (λ _. refl) (λ _. refl))
    (λ t f. record { fields = f.0; methods = f.1 }) (λ t f. (f.fields, f.methods))

-- ---- diagnostics

project_place_takes : (bytes : List ℕ) (p : Place) (rest : List ℕ) → IsBytes bytes
    → project_place_at bytes ≡ Ok (p, rest)
    → Takes bytes (project_place p) rest × (IsProjectPlace p × PlaceNameFits p)
unfolding project_place_at
project_place_takes [] p rest fits e = absurd cc
project_place_takes (zero ∷ bytes) p rest fits e =
    leaf_takes project_place (λ p. IsProjectPlace p × PlaceNameFits p) 0 bytes places.Project p rest
    refl (tt, tt) fits e
project_place_takes (suc zero ∷ bytes) p rest fits e =
    tag_takes lawful_name places.File project_place (λ p. IsProjectPlace p × PlaceNameFits p) 1
    (λ _. refl) (λ a h. (tt, h)) bytes p rest fits e
project_place_takes (suc (suc zero) ∷ bytes) p rest fits e =
    tag_takes (lawful_pair lawful_name lawful_four) class_of project_place
    (λ p. IsProjectPlace p × PlaceNameFits p) 2 (λ _. refl) (λ a h. (h.1, h.0))
    bytes p rest fits e
project_place_takes (suc (suc (suc n)) ∷ bytes) p rest fits e = absurd cc

project_place_again : (p : Place) (rest : List ℕ) → IsProjectPlace p × PlaceNameFits p
    → project_place_at (project_place p ++ rest) ≡ Ok (p, rest)
unfolding project_place_at
project_place_again places.Project rest h = refl
project_place_again (places.File n) rest h = made_again lawful_name places.File n rest h.1
project_place_again (places.ClassOf n k) rest h =
    made_again (lawful_pair lawful_name lawful_four) class_of (n, k) rest (h.1, h.0)
project_place_again places.Class rest h = absurd h.0
project_place_again (places.Field k) rest h = absurd h.0
project_place_again (places.Method k) rest h = absurd h.0
project_place_again (places.Inside n k) rest h = absurd h.0

lawful_project_place : Lawful project_place_at project_place
    (λ p. IsProjectPlace p × PlaceNameFits p)
lawful_project_place = record { takes = project_place_takes; again = project_place_again }

class_place_takes : (bytes : List ℕ) (p : Place) (rest : List ℕ) → IsBytes bytes
    → class_place_at bytes ≡ Ok (p, rest)
    → Takes bytes (class_place p) rest × (IsClassPlace p × PlaceNameFits p)
unfolding class_place_at
class_place_takes [] p rest fits e = absurd cc
class_place_takes (zero ∷ bytes) p rest fits e =
    leaf_takes class_place (λ p. IsClassPlace p × PlaceNameFits p) 0 bytes places.Class p rest refl
    (tt, tt) fits e
class_place_takes (suc zero ∷ bytes) p rest fits e =
    tag_takes lawful_four places.Field class_place (λ p. IsClassPlace p × PlaceNameFits p) 1
    (λ _. refl) (λ a h. (h, tt)) bytes p rest fits e
class_place_takes (suc (suc zero) ∷ bytes) p rest fits e =
    tag_takes lawful_four places.Method class_place (λ p. IsClassPlace p × PlaceNameFits p) 2
    (λ _. refl) (λ a h. (h, tt)) bytes p rest fits e
class_place_takes (suc (suc (suc zero)) ∷ bytes) p rest fits e =
    tag_takes (lawful_pair lawful_name lawful_four) inside_of class_place
    (λ p. IsClassPlace p × PlaceNameFits p) 3 (λ _. refl) (λ a h. (h.1, h.0))
    bytes p rest fits e
class_place_takes (suc (suc (suc (suc n))) ∷ bytes) p rest fits e = absurd cc

class_place_again : (p : Place) (rest : List ℕ) → IsClassPlace p × PlaceNameFits p
    → class_place_at (class_place p ++ rest) ≡ Ok (p, rest)
unfolding class_place_at
class_place_again places.Class rest h = refl
class_place_again (places.Field k) rest h = made_again lawful_four places.Field k rest h.0
class_place_again (places.Method k) rest h = made_again lawful_four places.Method k rest h.0
class_place_again (places.Inside n k) rest h =
    made_again (lawful_pair lawful_name lawful_four) inside_of (n, k) rest (h.1, h.0)
class_place_again places.Project rest h = absurd h.0
class_place_again (places.File n) rest h = absurd h.0
class_place_again (places.ClassOf n k) rest h = absurd h.0

lawful_class_place : Lawful class_place_at class_place (λ p. IsClassPlace p × PlaceNameFits p)
lawful_class_place = record { takes = class_place_takes; again = class_place_again }

number_small : (code : Code) → code_number code < 2 ^ 16
number_small E101 = lit< tt
number_small code = lit< tt

coded_is : (bytes rest : List ℕ) (o : Option Code) (code : Code) (after : List ℕ)
    → known_code bytes o rest ≡ Ok (code, after) → (o ≡ Some code) × (rest ≡ after)
coded_is bytes rest None code after e = absurd cc
coded_is bytes rest (Some c) code after e =
    let is =
    ok_is (c, rest) (code, after) e in
    (ap (λ (x : Code × List ℕ). Some x.0) is, ap (λ (x : Code × List ℕ). x.1) is)

code_takes : (bytes : List ℕ) (code : Code) (rest : List ℕ) → IsBytes bytes
    → code_at bytes ≡ Ok (code, rest) → Takes bytes (two (code_number code)) rest × Unit {0}
unfolding code_at
code_takes bytes code rest fits e =
    let n = bind_ok (two_at bytes) (λ n. known_code bytes (code_of n.0) n.1) (code, rest) e in
    let t = lawful_two.takes bytes n.0.0 n.0.1 fits n.1 in
    let c = coded_is bytes n.0.1 (code_of n.0.0) code rest n.2 in
    let number : code_number code ≡ n.0.0 =
    eqb-true _ _ (found_passes (λ (c : Code). eqb (code_number c) n.0.0) all_codes code c.0) in (
      subst (λ (r : List ℕ). Takes bytes (two (code_number code)) r) c.1
          (subst (λ (k : ℕ). Takes bytes (two k) n.0.1) (sym number) t.0),
      tt,
    )

code_again : (code : Code) (rest : List ℕ) → Unit {0}
    → code_at (two (code_number code) ++ rest) ≡ Ok (code, rest)
unfolding code_at
code_again code rest h =
    rw (lawful_two.again (code_number code) rest (number_small code))
    (ap (λ (o : Option Code). known_code (two (code_number code) ++ rest) o rest)
    (code_back code))

lawful_code : Lawful code_at (λ code. two (code_number code)) (λ _. Unit {0})
lawful_code = record { takes = code_takes; again = code_again }

pub lawful_project_fault : Lawful project_fault_at project_fault ProjectFaultFits
lawful_project_fault =
    lawful_where (lawful_made (lawful_pair lawful_project_place lawful_code) diagnostic_of
    (λ d. (d.place, d.code)) (λ _. refl) (λ _. refl)) (λ d f. f.0) (λ d f. (f, tt))

pub lawful_class_fault : Lawful class_fault_at class_fault ClassFaultFits
lawful_class_fault =
    lawful_where (lawful_made (lawful_pair lawful_class_place lawful_code) diagnostic_of
    (λ d. (d.place, d.code)) (λ _. refl) (λ _. refl)) (λ d f. f.0) (λ d f. (f, tt))

pub lawful_project_faults : Lawful project_faults_at (list project_fault) ProjectFaultsFit
unfolding project_faults_at
lawful_project_faults = lawful_by_place lawful_project_fault

pub lawful_class_faults : Lawful class_faults_at (list class_fault) ClassFaultsFit
unfolding class_faults_at
lawful_class_faults = lawful_by_place lawful_class_fault

-- ---- answers

pub lawful_class_answer : Lawful class_answer_at class_answer ClassAnswerFits
lawful_class_answer =
    lawful_where (lawful_made (lawful_pair lawful_name
    (lawful_pair lawful_table lawful_class_faults)) class_answer_of
    (λ c. (c.name, (c.table, c.faults))) (λ _. refl) (λ _. refl))
    (λ c f. record { name = f.0; table = f.1.0; faults = f.1.1 })
    (λ c f. (f.name, (f.table, f.faults)))

pub lawful_answer : Lawful answer_at answer AnswerFits
unfolding answer_at
lawful_answer =
    lawful_where (lawful_made (lawful_pair lawful_project_faults
    (lawful_by_name lawful_class_answer (λ class. class.name))) answer_of
    (λ a. (a.faults, a.classes)) (λ _. refl) (λ _. refl))
    (λ a f. record { faults = f.0; classes = f.1 }) (λ a f. (f.faults, f.classes))
