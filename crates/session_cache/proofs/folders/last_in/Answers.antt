use Rattle.std.proofs.Common.{◌<◌, ◌≤◌, ◌++◌, ◌∷◌, [], length, List, ℕ, subst, sym, ◌∙◌, arith}
use Rattle.std.specs.Prelude.{All}
use Rattle.std.proofs.Math.ListN.{get_or-append}
use Rattle.session_cache.specs.Names.{most}
use Rattle.session_cache.proofs.folders.last_in.Goals as goal

pub read_last-requires-clause-front : goal.read_last-requires-clause-front
read_last-requires-clause-front g c = λ lives outlive k d lt.
    let front = c.in-Some.front.now in
    let last = c.in-Some.last.now in
    let parts = c.in-Some.ensures.cases in
    let few : All (λ n. n ≤ most) (front ++ last ∷ []) = subst (All (λ n. n ≤ most)) (sym c.deref-2.ensures.value ∙ parts.0) c.in_ok-numbers.ensures.few in
    let within : k < length (front ++ last ∷ []) = subst (λ (xs : List ℕ). k < length xs) parts.0 (omega (arith, parts.1, lt)) in
    subst (λ (n : ℕ). n ≤ most) (get_or-append front (last ∷ []) d k lt) (few k d within)
