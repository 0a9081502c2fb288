-- What follows the tag and the mark of a phrase: what is read there is spelled so.
use Rattle.std.proofs.Common.{◌≡◌, ℕ, List, ◌∷◌, ◌++◌, Ok, sym, ap, subst, ◌∙◌}
use Rattle.byte_readers.specs.Spelling.{four}
use Rattle.byte_readers.specs.Reading.{Decoder, made_at}
use Rattle.byte_readers.specs.Lawful.{IsBytes, Takes, Lawful}
use Rattle.byte_readers.specs.Laws.{Takes-then, made_takes}
use Rattle.tree_spelling.specs.Spelling.{node}

-- what follows this tag and this mark, and the phrase that was read there
pub record IsRead {T : Type 0} (spell : T → List ℕ) (Fits : T → Type 0) (tag mark : ℕ)
    (bytes : List ℕ) (t : T) (rest : List ℕ) : Type 0 where
  pub text : List ℕ
  pub takes : Takes bytes text rest
  pub spelled : spell t ≡ node tag mark text
  pub fits : Fits t

-- a phrase is made of what is read
pub read_made : {A T : Type 0} {p : Decoder A} {sp : A → List ℕ} {P : A → Type 0}
    {spell : T → List ℕ} {Fits : T → Type 0} (law : Lawful p sp P) (make : A → T) (tag mark : ℕ)
    → ((a : A) → spell (make a) ≡ node tag mark (sp a)) → ((a : A) → P a → Fits (make a))
    → (bytes : List ℕ) (t : T) (rest : List ℕ) → IsBytes bytes
    → made_at make p bytes ≡ Ok (t, rest) → IsRead spell Fits tag mark bytes t rest
read_made {A} {T} {p} {sp} {P} {spell} {Fits} law make tag mark spelled fit bytes t rest fits e =
    let m = made_takes law make bytes t rest fits e in
    subst (λ (t : T). IsRead spell Fits tag mark bytes t rest)
    m.1 record { text = sp m.0; takes = m.2; spelled = spelled m.0; fits = fit m.0 m.3 }

-- the phrase is spelled by its tag, its mark and what follows them
pub node_takes : {T : Type 0} {spell : T → List ℕ} {Fits : T → Type 0} (b tag mark : ℕ)
    (bytes behind : List ℕ) (t : T) (rest : List ℕ) → tag ≡ b → Takes bytes (four mark) behind
    → IsRead spell Fits tag mark behind t rest → Takes (b ∷ bytes) (spell t) rest × Fits t
node_takes {T} {spell} b tag mark bytes behind t rest is m body =
    let both = Takes-then bytes (four mark) behind body.text rest m body.takes in
    let all : b ∷ bytes ≡ spell t ++ rest =
    ap (λ (x : List ℕ). b ∷ x) both.parts
    ∙ ap (λ (x : ℕ). x ∷ ((four mark ++ body.text) ++ rest)) (sym is)
    ∙ ap (λ (x : List ℕ). x ++ rest) (sym body.spelled) in
    (record { parts = all; rest_fits = both.rest_fits }, body.fits)
