-- Phrases: names, and phrases with a list of parts.
use Rattle.std.specs.Prelude.{ℕ, List, [], ◌∷◌}

mutual
  pub data Phrase : Type 0 where
    Named : List ℕ → Phrase
    Called : Phrase → Phrases → Phrase

  pub data Phrases : Type 0 where
    NoMore : Phrases
    More : Phrase → Phrases → Phrases

abbrev pub phrases_of : List Phrase → Phrases
phrases_of [] = NoMore
phrases_of (e ∷ rest) = More e (phrases_of rest)

-- the phrase that is looked at for two names
abbrev pub phrase_for : List ℕ → List ℕ → Phrase
phrase_for f g =
    Called (Named f) (More (Named g) (More (Called (Named g) (More (Named f) NoMore)) NoMore))
