-- Entries that pass in another order, or without some.
use Rattle.std.proofs.Common.{◌≡◌, inl, inr, List, [], ◌∷◌, ◌++◌, subst}
use Rattle.redgreen_rules.specs.Runs.{IsIn}
use Rattle.redgreen_rules.specs.Sessions.{Mark, Input, Green, Executed, Entry, AreHeld, IsTakenOver, PassesBy, Passes}
use Rattle.redgreen_table.specs.Orders.{AreFrom, IsInOrder}

-- what is asked of an entry besides the order
abbrev AloneBy : List Entry → Entry → Mark → Type 0
AloneBy past r Input = r.told ≡ []
AloneBy past r Green = IsTakenOver past r
AloneBy past r Executed = Unit {0}

alone_by : (past front : List Entry) (r : Entry) (m : Mark) → PassesBy past front r m → AloneBy past r m
alone_by past front r Input p = p
alone_by past front r Green p = p.1
alone_by past front r Executed p = tt

alone : (past front xs : List Entry) (r : Entry) → Passes past front xs → IsIn xs r → AloneBy past r r.mark
alone past front [] r p l = elim l [ ]
alone past front (x ∷ xs) r p (inl e) = subst (λ (y : Entry). AloneBy past y y.mark) e (alone_by past front x x.mark p.1)
alone past front (x ∷ xs) r p (inr l) = alone past (front ++ x ∷ []) xs r p.2 l

together : (past front : List Entry) (r : Entry) (m : Mark) → AloneBy past r m → AreHeld front r.told → PassesBy past front r m
together past front r Input a h = a
together past front r Green a h = (h, a)
together past front r Executed a h = h

from : (past xs front ys : List Entry) → Passes past [] xs → AreFrom xs ys → IsInOrder front ys → Passes past front ys
from past xs front [] p f o = tt
from past xs front (r ∷ ys) p f o = (o.0, together past front r r.mark (alone past [] xs r p f.0) o.1, from past xs (front ++ r ∷ []) ys p f.1 o.2)

pub reordered : (past xs ys : List Entry) → Passes past [] xs → AreFrom xs ys → IsInOrder [] ys → Passes past [] ys
reordered past xs ys p f o = from past xs [] ys p f o
