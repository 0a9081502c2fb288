-- Bodies: what is read is spelled there, and each spelling is read back.
use Rattle.std.proofs.Common.{◌≡◌, ℕ, zero, suc, List, [], ◌∷◌, ◌++◌, Ok, subst}
use Rattle.byte_readers.specs.Lawful.{IsBytes, Takes, Lawful}
use Rattle.byte_readers.specs.Laws.{IsBytes-rest, takes_behind, made_takes, made_again}
use Rattle.tree_spelling.specs.FileLaws.{lawful_top_stmt, lawful_method}
use Rattle.tree_spelling.specs.Spelling.{stmt, method}
use Rattle.tree_bytes.specs.Bodies.{BodyValue, OfMain, OfMethod, body, BodyFits, body_at}

body_takes : (bytes : List ℕ) (b : BodyValue) (rest : List ℕ) → IsBytes bytes
    → body_at bytes ≡ Ok (b, rest) → Takes bytes (body b) rest × BodyFits b
unfolding body_at
body_takes [] b rest fits e = absurd cc
body_takes (zero ∷ bytes) b rest fits e =
    let m = made_takes lawful_top_stmt OfMain bytes b rest (IsBytes-rest 0 bytes fits) e in
    subst (λ (b : BodyValue). Takes (0 ∷ bytes) (body b) rest × BodyFits b) m.1
    (takes_behind 0 bytes (stmt m.0) rest m.2, m.3)
body_takes (suc zero ∷ bytes) b rest fits e =
    let m = made_takes lawful_method OfMethod bytes b rest (IsBytes-rest 1 bytes fits) e in
    subst (λ (b : BodyValue). Takes (1 ∷ bytes) (body b) rest × BodyFits b) m.1
    (takes_behind 1 bytes (method m.0) rest m.2, m.3)
body_takes (suc (suc t) ∷ bytes) b rest fits e = absurd cc

body_again : (b : BodyValue) (rest : List ℕ) → BodyFits b → body_at (body b ++ rest) ≡ Ok (b, rest)
unfolding body_at
body_again (OfMain s) rest h = made_again lawful_top_stmt OfMain s rest h
body_again (OfMethod m) rest h = made_again lawful_method OfMethod m rest h

pub lawful_body : Lawful body_at body BodyFits
lawful_body = record { takes = body_takes; again = body_again }
