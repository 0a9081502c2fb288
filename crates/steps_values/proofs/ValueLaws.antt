-- Values: what is read is spelled there, and each spelling is read back; no spelling has two
-- values.
use Rattle.std.proofs.Common.{◌≡◌, ℕ, Bool, true, false, cond, eqb, List, [], ◌∷◌, ◌++◌, length, Result, Ok, Err, refl, sym, ap, subst, eq-eqb, ◌∙◌}
use Rattle.std.proofs.lemmas.Bool.{eqb-true}
use Rattle.std.proofs.lemmas.List.{append-nil, nil_from_length}
use Rattle.steps_keys.specs.declared.kind.Kind.{Kind}
use Rattle.steps_keys.specs.declared.kind.Kind.TheVariants as kinds
use Rattle.steps_keys.specs.Kinds.{number_of}
use Rattle.steps_keys.specs.KindLaws.{number_apart}
use Rattle.byte_readers.specs.declared.breach.Breach.{Breach}
use Rattle.byte_readers.specs.Lawful.{IsBytes, Takes, Lawful}
use Rattle.byte_readers.specs.Reading.{Decoder, made_at}
use Rattle.byte_readers.specs.Laws.{IsBytes-rest, lawful_option, made_takes, made_again}
use Rattle.steps_values.specs.declared.refusal.Refusal.{Refusal}
use Rattle.steps_values.specs.declared.refusal.Refusal.TheVariants.{Trailing, WrongKind}
use Rattle.steps_values.specs.declared.value.Value.{Value}
use Rattle.steps_values.specs.declared.value.Value.TheVariants.{Files, Source, Plan, Compile, Link, Answer}
use Rattle.steps_values.specs.Values.{kind_of_value, content, canon, IsValue, content_at, whole, decoding}
use Rattle.steps_values.specs.ItemLaws.{lawful_file_names, lawful_text, lawful_plan}

record Content (kind : Kind) (bytes : List ℕ) (v : Value) (rest : List ℕ) : Type 0 where
  pub takes : Takes bytes (content v) rest
  pub kind_is : kind_of_value v ≡ kind
  pub fits : IsValue v

of_kind : {A : Type 0} {p : Decoder A} {sp : A → List ℕ} {P : A → Type 0} (law : Lawful p sp P) (make : A → Value) (kind : Kind) → ((a : A) → content (make a) ≡ sp a) → ((a : A) → kind_of_value (make a) ≡ kind) → ((a : A) → P a → IsValue (make a))
    → (bytes : List ℕ) (v : Value) (rest : List ℕ) → IsBytes bytes → made_at make p bytes ≡ Ok (v, rest) → Content kind bytes v rest
of_kind {A} {p} {sp} {P} law make kind spelled is fit bytes v rest fits e =
    let m = made_takes law make bytes v rest fits e in
    let one : Takes bytes (content (make m.0)) rest = subst (λ (t : List ℕ). Takes bytes t rest) (sym (spelled m.0)) m.2 in
    subst (λ (v : Value). Content kind bytes v rest) m.1 record { takes = one; kind_is = is m.0; fits = fit m.0 m.3 }

content_takes : (kind : Kind) (bytes : List ℕ) (v : Value) (rest : List ℕ) → IsBytes bytes → content_at kind bytes ≡ Ok (v, rest) → Content kind bytes v rest
unfolding content_at IsValue
content_takes kinds.Files bytes v rest fits e = of_kind lawful_file_names Files kinds.Files (λ _. refl) (λ _. refl) (λ a h. h) bytes v rest fits e
content_takes kinds.Source bytes v rest fits e = of_kind (lawful_option lawful_text) Source kinds.Source (λ _. refl) (λ _. refl) (λ a h. h) bytes v rest fits e
content_takes kinds.Plan bytes v rest fits e = of_kind (lawful_option lawful_plan) Plan kinds.Plan (λ _. refl) (λ _. refl) (λ a h. h) bytes v rest fits e
content_takes kinds.Compile bytes v rest fits e = of_kind (lawful_option lawful_text) Compile kinds.Compile (λ _. refl) (λ _. refl) (λ a h. h) bytes v rest fits e
content_takes kinds.Link bytes v rest fits e = of_kind (lawful_option lawful_text) Link kinds.Link (λ _. refl) (λ _. refl) (λ a h. h) bytes v rest fits e
content_takes kinds.Answer bytes v rest fits e = of_kind (lawful_option lawful_text) Answer kinds.Answer (λ _. refl) (λ _. refl) (λ a h. h) bytes v rest fits e

content_again : (v : Value) (rest : List ℕ) → IsValue v → content_at (kind_of_value v) (content v ++ rest) ≡ Ok (v, rest)
unfolding content_at IsValue
content_again (Files x) rest h = made_again lawful_file_names Files x rest h
content_again (Source x) rest h = made_again (lawful_option lawful_text) Source x rest h
content_again (Plan x) rest h = made_again (lawful_option lawful_plan) Plan x rest h
content_again (Compile x) rest h = made_again (lawful_option lawful_text) Compile x rest h
content_again (Link x) rest h = made_again (lawful_option lawful_text) Link x rest h
content_again (Answer x) rest h = made_again (lawful_option lawful_text) Answer x rest h

abbrev right : Value → Result Value Refusal
right v = Ok v

abbrev done : {A : Type 0} → A → Result A Breach
done x = Ok x

right_is : (v w : Value) → right v ≡ right w → v ≡ w
right_is v w e = cc

at_end : (x : Value × List ℕ) (v : Value) (t : Bool) → eqb (length x.1) 0 ≡ t → cond t (right x.0) (Err Trailing) ≡ Ok v → done x ≡ done (v, [])
at_end x v true is e =
    ap (λ (y : Value). done (y, x.1)) (right_is x.0 v e) ∙ ap (λ (r : List ℕ). done (v, r)) (nil_from_length x.1 (eqb-true _ _ is))
at_end x v false is e = absurd cc

whole_is : (len : ℕ) (r : Result (Value × List ℕ) Breach) (v : Value) → whole len r ≡ Ok v → r ≡ Ok (v, [])
whole_is len (Ok x) v e = at_end x v (eqb (length x.1) 0) refl e
whole_is len (Err breach) v e = absurd cc

kind_tested : (b n : ℕ) (r : Result Value Refusal) (v : Value) (t : Bool) → eqb b n ≡ t → cond t r (Err WrongKind) ≡ Ok v → (b ≡ n) × (r ≡ Ok v)
kind_tested b n r v true is e = (eqb-true b n is, e)
kind_tested b n r v false is e = absurd cc

behind_kind : (b n : ℕ) (r : Result Value Refusal) (v : Value) → cond (eqb b n) r (Err WrongKind) ≡ Ok v → (b ≡ n) × (r ≡ Ok v)
behind_kind b n r v e = kind_tested b n r v (eqb b n) refl e

-- what is decoded is a value of the kind, and the bytes are its spelling
pub decoded_takes : (kind : Kind) (bytes : List ℕ) (v : Value) → IsBytes bytes → decoding kind bytes ≡ Ok v → IsValue v × (kind_of_value v ≡ kind) × (bytes ≡ canon v)
unfolding decoding canon
decoded_takes kind [] v fits e = absurd cc
decoded_takes kind (b ∷ bytes) v fits e =
    let k = behind_kind b (number_of kind) _ v e in
    let c = content_takes kind bytes v [] (IsBytes-rest b bytes fits) (whole_is _ _ v k.1) in
    (c.fits, c.kind_is, ap (λ (x : ℕ). x ∷ bytes) (k.0 ∙ ap number_of (sym c.kind_is)) ∙ ap (λ (x : List ℕ). number_of (kind_of_value v) ∷ x) (c.takes.parts ∙ append-nil (content v)))

-- the spelling of a value is decoded
pub decoded_again : (v : Value) → IsValue v → decoding (kind_of_value v) (canon v) ≡ Ok v
unfolding decoding canon
decoded_again v h =
    let c : content_at (kind_of_value v) (content v) ≡ Ok (v, []) = ap (content_at (kind_of_value v)) (sym (append-nil (content v))) ∙ content_again v [] h in
    let same : eqb (number_of (kind_of_value v)) (number_of (kind_of_value v)) ≡ true = eq-eqb _ _ refl in
    rw (same, c) refl

pub decoded_at : (kind : Kind) (bytes : List ℕ) (v : Value) → IsValue v → kind_of_value v ≡ kind → bytes ≡ canon v → decoding kind bytes ≡ Ok v
decoded_at kind bytes v h k e = ap (λ (x : Kind). decoding x bytes) (sym k) ∙ ap (decoding (kind_of_value v)) e ∙ decoded_again v h

-- the first byte of a spelling is the number of the kind
first_byte : (v w : Value) → canon v ≡ canon w → number_of (kind_of_value v) ≡ number_of (kind_of_value w)
unfolding canon
first_byte v w e = cc

-- values with one spelling are one
pub one_value : (v w : Value) → IsValue v → IsValue w → canon v ≡ canon w → v ≡ w
one_value v w hv hw e =
    let k : kind_of_value w ≡ kind_of_value v = number_apart _ _ (sym (first_byte v w e)) in
    right_is v w (sym (decoded_again v hv) ∙ decoded_at (kind_of_value v) (canon v) w hw k e)
