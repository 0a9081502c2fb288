-- Sessions that pass, with more.
use Rattle.std.proofs.Common.{List, [], ◌∷◌, ◌++◌, sym, subst, append_assoc}
use Rattle.std.proofs.lemmas.List.{append-nil}
use Rattle.redgreen_rules.specs.Sessions.{Entry, IsNew, PassesBy, Passes}

pub grows_from : (past : List Entry) (r : Entry) (front xs : List Entry) → Passes past front xs → IsNew (front ++ xs) r.key → PassesBy past (front ++ xs) r r.mark → Passes past front (xs ++ r ∷ [])
grows_from past r front [] p n q = (
  subst (λ (f : List Entry). IsNew f r.key) (append-nil front) n,
  subst (λ (f : List Entry). PassesBy past f r r.mark) (append-nil front) q,
  tt,
)
grows_from past r front (x ∷ xs) p n q = (
  p.0,
  p.1,
  grows_from past r (front ++ x ∷ []) xs p.2
      (subst (λ (f : List Entry). IsNew f r.key) (sym (append_assoc front (x ∷ []) xs)) n)
      (subst (λ (f : List Entry). PassesBy past f r r.mark) (sym (append_assoc front (x ∷ []) xs)) q),
)

pub grows : (past xs : List Entry) (r : Entry) → Passes past [] xs → IsNew xs r.key → PassesBy past xs r r.mark → Passes past [] (xs ++ r ∷ [])
grows past xs r p n q = grows_from past r [] xs p n q
