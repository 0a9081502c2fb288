-- The methods of classes by their names, while they are indexed.
use Rattle.std.proofs.Common.{◌≡◌, ◌∙◌, ℕ, ◌+◌, ◌<◌, cond, List, [], ◌∷◌, ◌++◌, length, take, get_or, find, Option, Some, None, sym, ap}
use Rattle.std.specs.Option.{option_or}
use Rattle.std.specs.Str.{bytes_eq}
use Rattle.std.proofs.lemmas.List.{take_more}
use Rattle.std.proofs.lemmas.List.Folds.{find-append}
use Rattle.mj_lexer.specs.declared.token.Token.{Token}
use Rattle.mj_tree.specs.Trees.{Name}
use Rattle.mj_tree.proofs.Positions.{or_nothing}
use Rattle.mj_expressions.specs.Tokens.{name_at, is_word}
use Rattle.mj_parser.specs.Locations.{method_name}
use Rattle.file_index.specs.Standing.{is_named}

module _ (ts : List Token) (xs : List ℕ) (i at d : ℕ) (below : i < length xs) (here : at ≡ get_or xs i d) where
  one_more : (q : Name) (name : Option Name) → name_at ts (method_name ts at) ≡ name → option_or (find (is_named ts q) (take i xs)) (cond (is_word q name) (Some at) None) ≡ find (is_named ts q) (take (i + 1) xs)
  one_more q name is =
      sym (ap (find (is_named ts q)) (take_more xs i d below ∙ ap (λ (x : ℕ). take i xs ++ x ∷ []) (sym here))
      ∙ (find-append (is_named ts q) (take i xs) (at ∷ [])
      ∙ ap (λ (o : Option Name). option_or (find (is_named ts q) (take i xs)) (cond (is_word q o) (Some at) None)) is))

  -- one with a name, which the map takes
  pub method_added : (found after : Name → Option ℕ) (n : Name) → name_at ts (method_name ts at) ≡ Some n → ((q : Name) → found q ≡ find (is_named ts q) (take i xs))
      → ((q : Name) → after q ≡ option_or (found q) (cond (bytes_eq n q) (Some at) None)) → (q : Name) → after q ≡ find (is_named ts q) (take (i + 1) xs)
  method_added found after n is so_far adds q = adds q ∙ (ap (λ o. option_or o (cond (bytes_eq n q) (Some at) None)) (so_far q) ∙ one_more q (Some n) is)

  -- one without a name
  pub method_nameless : (found : Name → Option ℕ) → name_at ts (method_name ts at) ≡ None → ((q : Name) → found q ≡ find (is_named ts q) (take i xs)) → (q : Name) → found q ≡ find (is_named ts q) (take (i + 1) xs)
  method_nameless found is so_far q = so_far q ∙ (or_nothing (find (is_named ts q) (take i xs)) ∙ one_more q None is)
