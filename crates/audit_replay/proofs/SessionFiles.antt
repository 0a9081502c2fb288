-- A file is that of one session over the previous one.
use Rattle.std.proofs.Common.{◌≡◌, List, [], ◌∷◌, map, Option, Some, Ok, refl, sym, ap, subst, ◌∙◌, append-nil}
use Rattle.std.specs.List.{AllByRecursion}
use Rattle.sessions.specs.Sessions.{SessionValue, IsSession, IsTakenFrom, AreTaken}
use Rattle.sessions.specs.Spelling.{file_of}
use Rattle.session_file.specs.Reading.{file_after, front_after}
use Rattle.session_file.proofs.FileLaws.{front_again, file_is_read}

pub file_again : (past : Option SessionValue) (s : SessionValue) → IsSession s → IsTakenFrom past s → file_after past (file_of s) ≡ Ok s
file_again past s h taken = file_is_read past (file_of s) s [] (ap (front_after past) (sym (append-nil (file_of s))) ∙ front_again past s [] h taken) refl

pub one_session : (past : Option SessionValue) (s t : SessionValue) → IsSession s → IsSession t → IsTakenFrom past s → IsTakenFrom past t → file_of s ≡ file_of t → s ≡ t
one_session past s t a b ta tb e = let o : Ok s ≡ Ok t = sym (file_again past s a ta) ∙ (ap (file_after past) e ∙ file_again past t b tb) in cc

pub same_sessions : (past : Option SessionValue) (a b : List SessionValue) → AllByRecursion IsSession a → AllByRecursion IsSession b → AreTaken past a → AreTaken past b → map file_of a ≡ map file_of b → a ≡ b
same_sessions past [] [] ia ib ta tb e = refl
same_sessions past [] (t ∷ ts) ia ib ta tb e = absurd (let h : [] ≡ (file_of t ∷ map file_of ts) = e in cc)
same_sessions past (s ∷ ss) [] ia ib ta tb e = absurd (let h : (file_of s ∷ map file_of ss) ≡ [] = e in cc)
same_sessions past (s ∷ ss) (t ∷ ts) ia ib ta tb e =
    let h : (file_of s ∷ map file_of ss) ≡ (file_of t ∷ map file_of ts) = e in
    let first : file_of s ≡ file_of t = cc in
    let rest : map file_of ss ≡ map file_of ts = cc in
    let same : s ≡ t = one_session past s t ia.0 ib.0 ta.0 tb.0 first in
    let behind : AreTaken (Some t) ss = subst (λ (x : SessionValue). AreTaken (Some x) ss) same ta.1 in
    ap (λ (x : SessionValue). x ∷ ss) same ∙ ap (λ (xs : List SessionValue). t ∷ xs) (same_sessions (Some t) ss ts ia.1 ib.1 behind tb.1 rest)
